-- The handles but one, which a call through that one leaves alone.
use Rattle.std.proofs.Common.{◌≡◌, ℕ, List, [], ◌∷◌, Bool, true, false, cond, refl, ap}
use Rattle.std.specs.Prelude.{Some, None}
use Rattle.std.specs.declared.cmp.Ordering.{Ordering}
use Rattle.std.specs.declared.cmp.Ordering.TheVariants.{Less, Equal, Greater}
use Rattle.std.specs.BTreeMap.{insert_entry, is_at}
use Rattle.std.specs.Cmp.{IsTotalOrder}
use Rattle.std.specs.List.Sorted.{IsStrictlySortedBy}
use Rattle.std.specs.Map.{lookup, remove_entry, keys_of}
use Rattle.std.specs.Ordering.{is_eq, match_ordering, nat_cmp}
use Rattle.std.proofs.lemmas.Cmp.{nat_cmp_total}
use Rattle.std.proofs.lemmas.Map.{lookup-none}
use Rattle.std.proofs.lemmas.Map.Entries.{none_below_head}
use Rattle.std.proofs.lemmas.Map.Keys.{sorted_tail}
use Rattle.file_handles.specs.declared.handle.Handle.{Handle}
use Rattle.file_handles.specs.Sessions.{Handles, handle_at, with_handle, without_handle}
use Rattle.file_handles.specs.lemmas.Opens.{put_removed}

-- an entry that is put in the place of another, and removed, leaves what is left without the other
put_there : {K X : Type 0} {R : K → K → Ordering} → IsTotalOrder R → (k : K) (es : List (K × X)) (w v : X)
    → lookup (is_at (R k)) es ≡ Some w → IsStrictlySortedBy R (keys_of es)
    → remove_entry (is_at (R k)) (insert_entry R es k v) ≡ remove_entry (is_at (R k)) es
put_there o k [] w v is sorted = absurd (cc)
put_there {K = K} {X = X} {R = R} o k (e ∷ es) w v is sorted =
    by (R k e.0) refl (λ later. put_there o k es w v later (sorted_tail R e.0 (keys_of es) sorted))
  where
    by : (r : Ordering) → R k e.0 ≡ r → (lookup (is_at (R k)) es ≡ Some w
        → remove_entry (is_at (R k)) (insert_entry R es k v) ≡ remove_entry (is_at (R k)) es)
        → remove_entry (is_at (R k)) (match_ordering r ((k, v) ∷ e ∷ es) ((e.0, v) ∷ es) (e ∷ insert_entry R es k v))
        ≡ cond (is_eq (R k e.0)) es (e ∷ remove_entry (is_at (R k)) es)
    by Less p hypothesis = let none : lookup (is_at (R k)) (e ∷ es) ≡ None =
        lookup-none (is_at (R k)) (e ∷ es) (none_below_head o k e es sorted p) in absurd (cc)
    by Equal p hypothesis = rw p refl
    by Greater p hypothesis = rw p (ap (λ l. e ∷ l) (hypothesis (rw p at is)))

-- a handle that is put in the place of one leaves the others
pub others_moved : (handles : Handles) (number : ℕ) (old new : Handle) → handle_at handles number ≡ Some old
    → IsStrictlySortedBy nat_cmp (keys_of handles) → without_handle (with_handle handles number new) number
    ≡ without_handle handles number
others_moved handles number old new at sorted = put_there nat_cmp_total number handles old new at sorted

-- and so does a new one under a number that no handle has
pub others_opened : (handles : Handles) (number : ℕ) (new : Handle) → handle_at handles number ≡ None
    → without_handle (with_handle handles number new) number ≡ handles
others_opened handles number new none = put_removed nat_cmp_total number new handles none

-- nothing is removed where there is no handle
pub gone_none : (handles : Handles) (number : ℕ) → handle_at handles number ≡ None
    → without_handle handles number ≡ handles
gone_none [] number none = refl
gone_none (e ∷ es) number none = by (is_at (nat_cmp number) e.0) none (gone_none es number)
  where
    by : (hit : Bool) → cond hit (Some e.1) (handle_at es number) ≡ None
        → (handle_at es number ≡ None → without_handle es number ≡ es)
        → cond hit es (e ∷ without_handle es number) ≡ e ∷ es
    by true is later = absurd (cc)
    by false is later = ap (λ l. e ∷ l) (later is)
