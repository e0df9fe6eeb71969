-- For which key or storage a manifest does not fit what is stored, in words.
use Rattle.std.specs.Prelude.{◌≡◌, ℕ, List, ◌++◌, codes, Option, IfSome}
use Rattle.value_text.specs.Readers.{literal_at}
use Rattle.per_words.specs.Flaws.{after_space}
use Rattle.per_reasons.specs.declared.parts.Unfit.{Unfit}
use Rattle.per_reasons.specs.declared.parts.Unfit.TheVariants as unfit

-- what an answer has after the name of the error by which a manifest does not fit: two types, or two numbers of bytes
abbrev pub carried_by : Unfit → (answer : List ℕ) → Option (List ℕ)
carried_by unfit.Type answer = literal_at (codes "error 7 DataTypeMismatch ") answer
carried_by unfit.Size answer = literal_at (codes "error 10 OutOfStorageSpace ") answer

-- the answer is that error, and this is what it says of the manifest: the second of them
abbrev pub Carries : Unfit → (answer asked : List ℕ) → Type 0
Carries u answer asked = IfSome (carried_by u answer) (λ carried. asked ≡ after_space carried)

-- the text names a key of a storage, of which the manifest says this type
pub record NamesKey (asked text : List ℕ) : Type 0 where
  pub storage : List ℕ
  pub key : List ℕ
  pub spelled : text ≡ codes "the manifest says " ++ (asked ++ (codes " of " ++ (storage ++ (codes ":" ++ key))))

-- the text names a storage, to which it allows this number of bytes
pub record NamesStorage (asked text : List ℕ) : Type 0 where
  pub storage : List ℕ
  pub spelled : text ≡ codes "the manifest allows " ++ (asked ++ (codes " bytes to " ++ storage))

-- the text names a key or a storage that a manifest does not fit
abbrev pub NamesUnfit : Unfit → (asked text : List ℕ) → Type 0
NamesUnfit unfit.Type asked text = NamesKey asked text
NamesUnfit unfit.Size asked text = NamesStorage asked text

-- the text names a key or a storage that a manifest does not fit, with the type or the number of bytes that the answer
-- says of the manifest
pub record NamesPart (answer text : List ℕ) : Type 0 where
  pub unfit : Unfit
  pub asked : List ℕ
  pub says : Carries unfit answer asked
  pub names : NamesUnfit unfit asked text
