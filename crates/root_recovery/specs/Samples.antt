-- Roots that compute, of application 0: which copies are left of each, and what is taken.
use Rattle.std.specs.Prelude.{◌≡◌, ℕ, List, [], ◌∷◌, cond}
use Rattle.std.proofs.Common.{refl}
use Rattle.sha2.specs.Sha256.{sha256, digest_bytes, hash_after, compress, rounds, schedule, first_words}
use Rattle.hash_guard.specs.SealedText.{sealed, numbered, verified, generation_in, length_in}
use Rattle.disk_model.specs.Image.{Image}
use Rattle.disk_model.specs.Orders.{named_in}
use Rattle.guarded_cell.specs.Held.{held_in_first, standing, lacking}
use Rattle.root_text.specs.RootText.{root_of, root_in}
use Rattle.root_text.specs.RootText as text
use Rattle.deploy_laws.specs.Apps.{absent, app_at, says_at, shapes_named}
use Rattle.root_recovery.specs.Recoveries.{after_recovery, left_at, none_left, reads, recovery_at, takes}

-- all that the samples compute with
unfoldable computed : ℕ
unfolding sealed numbered verified generation_in length_in held_in_first standing lacking sha256 digest_bytes
    hash_after compress rounds schedule first_words root_of root_in says_at app_at shapes_named left_at recovery_at
    after_recovery
computed = 0

-- a text in these files, and another one in those
abbrev in_files : (files : List ℕ) → List ℕ → (others : List ℕ) → List ℕ → Image
unfolding computed
in_files files one others other f = cond (named_in files f) one (cond (named_in others f) other [])

-- the root with nothing installed, in this generation, and a text that is no root's
abbrev absent_in : (generation : ℕ) → List ℕ
unfolding computed
absent_in generation = sealed generation (1 ∷ 0 ∷ [])

abbrev broken_in : (generation : ℕ) → List ℕ
unfolding computed
broken_in generation = sealed generation (1 ∷ 0 ∷ 0 ∷ [])

-- ---- two copies agree, or nothing is left

two_agree : recovery_at (in_files (1 ∷ 5 ∷ []) (absent_in 1) [] []) 0 ≡ reads
unfolding computed
two_agree = refl

none_agrees : recovery_at (in_files [] [] [] []) 0 ≡ none_left
unfolding computed
none_agrees = refl

no_root : recovery_at (in_files (1 ∷ 5 ∷ 9 ∷ []) (broken_in 1) [] []) 0 ≡ none_left
unfolding computed
no_root = refl

-- the root of another application is none of it
of_another : recovery_at (in_files (4097 ∷ []) (absent_in 1) [] []) 0 ≡ none_left
unfolding computed
of_another = refl

-- ---- one copy is left

one_left : recovery_at (in_files (5 ∷ []) (absent_in 1) [] []) 0 ≡ takes 1 text.absent (2 ∷ [])
unfolding computed
one_left = refl

one_left_after : after_recovery (in_files (5 ∷ []) (absent_in 1) [] []) 0
    ≡ record { says = absent 1; lacking = []; states = [] }
unfolding computed
one_left_after = refl

-- in one copy there is an older root, and in another a newer one
newer : recovery_at (in_files (1 ∷ []) (absent_in 1) (8 ∷ []) (absent_in 2)) 0 ≡ takes 2 text.absent (3 ∷ [])
unfolding computed
newer = refl

-- both in one copy, which a stop in the midst of a write left
both_slots : recovery_at (in_files (1 ∷ []) (absent_in 1) (0 ∷ []) (absent_in 2)) 0 ≡ takes 2 text.absent (1 ∷ [])
unfolding computed
both_slots = refl

-- what is no root's is passed over, whichever generation it has and however many copies hold it
passed_over : recovery_at (in_files (1 ∷ []) (absent_in 1) (4 ∷ 8 ∷ []) (broken_in 2)) 0
    ≡ takes 1 text.absent (1 ∷ [])
unfolding computed
passed_over = refl
