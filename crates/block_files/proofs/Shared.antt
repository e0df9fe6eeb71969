-- What copies give, with the first content kept once.
use Rattle.std.proofs.Common.{◌≡◌, ◌≢◌, ℕ, List, [], ◌∷◌, ◌++◌, Option, Some, None, map, refl, ap, ◌∙◌}
use Rattle.std.specs.List.{AllByRecursion}
use Rattle.std.proofs.lemmas.List.{map_push}
use Rattle.block_files.specs.declared.texts.Given.{Given}
use Rattle.block_files.specs.declared.texts.Given.TheVariants.{First, Nothing}
use Rattle.block_files.specs.Contents.{first_content}
use Rattle.block_files.specs.Texts.{AreGiven, given_in}
use Rattle.block_files.proofs.First.{first_push, or_else}

none_given : (first : Option (List ℕ)) (given : List Given) → AllByRecursion (λ one. one ≡ Nothing) given
    → first_content (map (given_in first) given) ≡ None
none_given first [] none = refl
none_given first (one ∷ given) none = rw none.0 (none_given first given none.1)

same_given : (f g : Option (List ℕ)) (given : List Given) → AllByRecursion (λ one. one ≡ Nothing) given
    → map (given_in f) given ≡ map (given_in g) given
same_given f g [] none = refl
same_given f g (one ∷ given) none = rw none.0 (ap (λ rest. None ∷ rest) (same_given f g given none.1))

nothing_more : (given : List Given) → AllByRecursion (λ one. one ≡ Nothing) given
    → AllByRecursion (λ one. one ≡ Nothing) (given ++ Nothing ∷ [])
nothing_more [] none = (refl, tt)
nothing_more (one ∷ given) none = (none.0, nothing_more given none.1)

-- the first that counts is the one that is kept
pub first_is : (first : Option (List ℕ)) (given : List Given) → AreGiven first given
    → first_content (map (given_in first) given) ≡ first
first_is None given are = none_given None given are
first_is (Some bytes) given are = are

more : (first : Option (List ℕ)) (given : List Given) (one : Given)
    → first_content (map (given_in first) (given ++ one ∷ []))
    ≡ or_else (first_content (map (given_in first) given)) (given_in first one)
more first given one = ap first_content (map_push (given_in first) given one)
    ∙ first_push (map (given_in first) given) (given_in first one)

-- a copy that does not count
pub pushed_nothing : (first : Option (List ℕ)) (given : List Given) → AreGiven first given
    → AreGiven first (given ++ Nothing ∷ [])
pushed_nothing None given are = nothing_more given are
pushed_nothing (Some bytes) given are = more (Some bytes) given Nothing ∙ rw are refl

-- the first that counts
pub pushed_first : (bytes : List ℕ) (given : List Given) → AreGiven None given
    → AreGiven (Some bytes) (given ++ First ∷ [])
pushed_first bytes given are = more (Some bytes) given First ∙ rw (none_given (Some bytes) given are) refl

-- any after it
pub pushed_later : (first : Option (List ℕ)) (bytes : List ℕ) (given : List Given) (one : Given) → first ≡ Some bytes
    → AreGiven first given → AreGiven first (given ++ one ∷ [])
pushed_later None bytes given one is are = absurd cc
pushed_later (Some kept) bytes given one is are = more (Some kept) given one ∙ rw are refl

-- one that gives what it gives
pub pushed_again : (first : Option (List ℕ)) (given : List Given)
    → first_content (map (given_in first) given) ≢ None → AreGiven first given → AreGiven first (given ++ First ∷ [])
pushed_again None given some are = absurd (some (first_is None given are))
pushed_again (Some bytes) given some are = pushed_later (Some bytes) bytes given First refl are

-- what is seen once the first is kept
pub seen_first : (bytes : List ℕ) (given : List Given) (old : List (Option (List ℕ))) → AreGiven None given
    → map (given_in None) given ≡ old → map (given_in (Some bytes)) (given ++ First ∷ []) ≡ old ++ Some bytes ∷ []
seen_first bytes given old are is = map_push (given_in (Some bytes)) given First
    ∙ ap (λ seen. seen ++ Some bytes ∷ []) (same_given (Some bytes) None given are ∙ is)

-- and after it
pub seen_later : (first text : Option (List ℕ)) (given : List Given) (one : Given) (old : List (Option (List ℕ)))
    → map (given_in first) given ≡ old → given_in first one ≡ text
    → map (given_in first) (given ++ one ∷ []) ≡ old ++ text ∷ []
seen_later first text given one old is same = map_push (given_in first) given one
    ∙ ap (λ seen. seen ++ given_in first one ∷ []) is ∙ ap (λ last. old ++ last ∷ []) same
