-- The disk is synchronised, and then the root is recovered; where the sync fails nothing is.
use Rattle.std.proofs.Common.{◌≡◌, ◌⊎◌, ℕ, Bool, true, false, sym, ap, ◌∙◌, subst, inl, inr, ⊎_elim, le_refl, true≢false}
use Rattle.std.specs.Prelude.{Result, Ok, Err, IfOk, OnErr, OnOk, is_err}
use Rattle.disk_model.specs.Case.{Case, IsSettledAt}
use Rattle.disk_model.specs.Frame.{IsSettledOn}
use Rattle.disk_model.specs.Image.{Image}
use Rattle.disk_model.specs.Laws.{cases_on}
use Rattle.disk_model.specs.Medium.{EachCase, Elapses, IsLawful, Medium, OnlyReads, Quiet, WritesNothing}
use Rattle.disk_model.specs.Place.{IsNoSlot}
use Rattle.deploy_laws.specs.Apps.{IsCleanApp, app_at}
use Rattle.deploy_laws.specs.Places.{root_place}
use Rattle.deploy_laws.specs.Stands.{ChangesNothing, StandsCase}
use Rattle.root_recovery.specs.Clauses.{AreCleanAfter, IsRecovered, RecoveryKeepsSynced, LeavesAll}
use Rattle.root_recovery.specs.Clauses.{RecoveryKeeps}
use Rattle.root_recovery.specs.Recoveries.{RootRow, after_recovery}

-- ---- a result that was tested

pub on_err : {T E P : Type 0} → (r : Result T E) → is_err r ≡ true → OnErr r P → P
on_err (Ok x) is p = absurd (true≢false (sym is))
on_err (Err e) is p = p

pub on_ok : {T E P : Type 0} → (r : Result T E) → is_err r ≡ false → OnOk r P → P
on_ok (Ok x) is p = p
on_ok (Err e) is p = absurd (true≢false is)

pub each_ok : {T E : Type 0} (P Q : T → Type 0) (r : Result T E) → ((x : T) → P x → Q x) → IfOk r P → IfOk r Q
each_ok P Q (Ok x) on p = on x p
each_ok P Q (Err e) on p = tt

pub passes_on : {T E : Type 0} (r : Result T E) (a b c : ℕ) → b ≡ a → OnOk r (c ≡ b) → OnOk r (c ≡ a)
passes_on (Ok t) a b c first is = is ∙ first
passes_on (Err e) a b c first is = tt

-- ---- the sync failed

pub unsynced_keeps : (app : ℕ) (old new : Medium) → OnlyReads old new → RecoveryKeeps app old new
unsynced_keeps app old new reads = record {
  elsewhere = λ f aside. ap (λ (i : Image). i f) reads.image;
  outside = λ c past. inl (reads.during c past);
  stands = λ clean cleans c past. inl (reads.during c past);
}

-- ---- what is so after the sync is so since before it

module _ (told : Bool) (old mid new : Medium) (law : IsLawful told mid) (time : Elapses old mid)
    (nothing : WritesNothing old mid) (quiet : Quiet mid) (later : Elapses mid new) where
  behind : (P : Case → Type 0) → EachCase P mid new → EachCase (λ c. old.now c ⊎ P c) old new
  behind P each c past = ⊎_elim
      (λ first. ⊎_elim (λ was. inl was)
      (λ now. inr (each c (later.keeps mid.moment c (le_refl _) (law.counts_now mid.moment c (le_refl _) now))))
      (nothing.during c first))
      (λ at. inr (each c at))
      (cases_on time later c past)

  pub then_ends : (app : ℕ) (row : RootRow) → IsRecovered app row mid.image new.image
      → IsRecovered app row old.image new.image
  then_ends app row ended = subst (λ (i : Image). IsRecovered app row i new.image) nothing.image ended

  pub then_leaves : ChangesNothing mid new → LeavesAll old new
  then_leaves leaves = record {
    image = leaves.image ∙ nothing.image;
    written = leaves.written ∙ nothing.written;
    during = subst (λ (i : Image). EachCase (λ c. old.now c ⊎ IsSettledAt i c) old new) nothing.image
        (behind (IsSettledAt mid.image) (leaves.idle quiet).during);
  }

  pub then_keeps : (app : ℕ) → RecoveryKeepsSynced app mid new → RecoveryKeeps app old new
  then_keeps app keeps = record {
    elsewhere = λ f aside. keeps.elsewhere f aside ∙ ap (λ (i : Image). i f) nothing.image;
    outside = subst (λ (i : Image). EachCase (λ c. old.now c ⊎ IsSettledOn (IsNoSlot (root_place app)) i c) old new)
        nothing.image (behind (IsSettledOn (IsNoSlot (root_place app)) mid.image) (keeps.outside quiet));
    stands = subst (λ (i : Image). IsCleanApp app i → AreCleanAfter i app
        → EachCase (λ c. old.now c ⊎ StandsCase app (app_at i app) (after_recovery i app) c) old new) nothing.image
        (λ clean cleans. behind (StandsCase app (app_at mid.image app) (after_recovery mid.image app))
        (keeps.stands cleans quiet clean));
  }
