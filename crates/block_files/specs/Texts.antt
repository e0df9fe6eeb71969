-- What the copies of a content give, in which the bytes of the first copy that counts are kept once.
use Rattle.std.specs.Prelude.{◌≡◌, ℕ, List, Option, Some, None, map}
use Rattle.std.specs.List.{AllByRecursion}
use Rattle.block_files.specs.declared.texts.Given.{Given}
use Rattle.block_files.specs.declared.texts.Given.TheVariants.{First, Nothing, Other}
use Rattle.block_files.specs.Contents.{first_content}

-- what a copy gives, where the first that counts gives these bytes
abbrev pub given_in : (first : Option (List ℕ)) → Given → Option (List ℕ)
given_in first Nothing = None
given_in first First = first
given_in first (Other bytes) = Some bytes.items

-- the first that counts gives these bytes; where they are none, no copy counts
abbrev pub AreGiven : (first : Option (List ℕ)) → List Given → Type 0
AreGiven None given = AllByRecursion (λ one. one ≡ Nothing) given
AreGiven (Some bytes) given = first_content (map (given_in (Some bytes)) given) ≡ Some bytes
