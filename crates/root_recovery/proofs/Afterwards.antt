-- What a recovery leaves of an application, at its end and at every moment.
use Rattle.std.proofs.Common.{◌≡◌, ℕ, ◌<◌, ◌≤◌, List, [], Bool, length, Option, Some, refl, sym, ap, ◌∙◌}
use Rattle.std.proofs.Common.{subst, arith}
use Rattle.std.specs.Prelude.{IsTrue}
use Rattle.disk_model.specs.Case.{Case}
use Rattle.disk_model.specs.Frame.{IsSettledOn, Spares}
use Rattle.disk_model.specs.Image.{Image}
use Rattle.disk_model.specs.Laws.{goes_on}
use Rattle.disk_model.specs.Medium.{EachCase, Elapses, IsIdle, Medium, Quiet}
use Rattle.disk_model.specs.Place.{IsNoSlot}
use Rattle.disk_model.specs.lemmas.Frames.{settled_on}
use Rattle.hash_guard.specs.Laws.{generation_positive}
use Rattle.disk_model.specs.Place.{slot}
use Rattle.guarded_cell.specs.Held.{holds}
use Rattle.guarded_cell.specs.Register.{Holds, IsAlone, own}
use Rattle.guarded_cell.specs.Stops.{PutStops}
use Rattle.guarded_cell.specs.lemmas.CopyLaws.{some_passes}
use Rattle.guarded_cell.specs.lemmas.HeldLaws.{holds_is}
use Rattle.element_laws.specs.Phases.{UntouchedLaw}
use Rattle.element_state.specs.States.{State}
use Rattle.root_text.specs.RootText.{IsRoot, Root, root_of, root_text}
use Rattle.root_text.specs.RootText as text
use Rattle.deploy_laws.specs.Places.{IsFileOf, IsNoRootFile, root_place}
use Rattle.deploy_laws.specs.Apps.{AreClean, AreVersions, App, IsCleanApp, Says, app_at, app_saying, nothing, says_at}
use Rattle.deploy_laws.specs.Apps.{says_by, says_generation, shapes_named}
use Rattle.deploy_laws.specs.Laws.{AloneCleanLaw, AloneLaw, CoveredLaw, RootAloneLaw, RootSlotsLaw, StillAppLaw}
use Rattle.deploy_laws.specs.Laws.{StorageFilesLaw, VersionsLaw}
use Rattle.deploy_laws.specs.Stands.{IsLater, StandsCase, StandsThroughout, next_root, same_root}
use Rattle.root_recovery.specs.Clauses.{IsRecovered, RecoveryKeepsSynced}
use Rattle.root_recovery.specs.Left.{IsRowOf}
use Rattle.root_recovery.specs.Recoveries.{IsHeldByAll, IsRefused, RootRow, after_recovery, after_row, none_left, reads}
use Rattle.root_recovery.specs.Recoveries.{recovery_at, takes}
use Rattle.root_recovery.proofs.Chosen.{after_by}
use Rattle.root_recovery.proofs.Lefts.{ShowsLaw, is_row}
use Rattle.root_recovery.proofs.Stopped.{app_says, stands}

-- ---- the application afterwards

-- of root_text
abbrev pub AgainLaw : Type 0
AgainLaw = (r : Root) → IsRoot r → root_of (root_text r) ≡ Some r

module _ (again : AgainLaw) (alone : AloneLaw) (versions : VersionsLaw) (slots : RootSlotsLaw) (aside : RootAloneLaw)
    (clean : AloneCleanLaw) (app g : ℕ) (r : Root) (old new : Image) (lt : app < 8) (is : IsRoot r)
    (spared : Spares (IsNoSlot (root_place app)) old new)
    (held : IsAlone new (root_place app) g (root_text r)) where
  abbrev next : Says
  next = says_by g (Some r)

  held_app : app_at new app ≡ app_saying new app next
  held_app = alone app g (root_text r) new held
      ∙ ap (λ (o : Option Root). app_saying new app (says_by g o)) (again r is)

  next_versions : AreVersions next
  next_versions = subst AreVersions (sym (app_says new app) ∙ ap (λ (a : App). a.says) held_app) (versions new app)

  root_spared : Spares (IsNoRootFile app) old new
  root_spared f beside = spared f (slots app f lt beside)

  pub taken_app : app_at new app ≡ app_saying old app next
  taken_app = held_app
      ∙ ap (λ (states : List State). record { says = next; lacking = []; states = states })
      (aside app next old new lt next_versions root_spared).0

  pub taken_clean : AreClean old (shapes_named app next) → IsCleanApp app new
  taken_clean were = clean app g (root_text r) r new held (again r is)
      ((aside app next old new lt next_versions root_spared).1 were)

module _ (again : AgainLaw) (alone : AloneLaw) (versions : VersionsLaw) (slots : RootSlotsLaw) (aside : RootAloneLaw)
    (clean : AloneCleanLaw) (app g : ℕ) (r : Root) (copies : List ℕ) (old mid new : Image) (lt : app < 8)
    (is : IsRoot r) (row_is : recovery_at old app ≡ takes g r copies) (same : mid ≡ old)
    (spared : Spares (IsNoSlot (root_place app)) mid new)
    (held : IsAlone new (root_place app) g (root_text r)) where
  spared_since : Spares (IsNoSlot (root_place app)) old new
  spared_since = subst (λ (i : Image). Spares (IsNoSlot (root_place app)) i new) same spared

  pub taken_ends : IsRecovered app (takes g r copies) old new
  taken_ends = record {
    row_is = sym row_is;
    world = taken_app again alone versions slots aside clean app g r old new lt is spared_since held
        ∙ sym (after_by old app (takes g r copies) row_is);
    held = held;
    clean = λ was cleans. taken_clean again alone versions slots aside clean app g r old new lt is spared_since held
        (subst (λ (a : App). AreClean old (shapes_named app a.says)) (after_by old app (takes g r copies) row_is)
        cleans);
  }

-- ---- it may come of the application

own_generation : (g : ℕ) (r : Root) → says_generation (says_by g (Some r)) ≡ g
own_generation g text.absent = refl
own_generation g (text.installed bank active previous) = refl

module _ (shows : ShowsLaw) (image : Image) (app : ℕ) where
  later_by : (row : RootRow) → IsRowOf image app row → IsLater (app_at image app) (after_row image app row)
  later_by reads is = same_root refl refl
  later_by none_left is = same_root refl refl
  later_by (takes g root copies) is =
      let test : ℕ → Bool = λ copy. holds image (root_place app) copy (g, is.text) in
      let (copy, lt, holding) = some_passes test 3
      (subst (λ (cs : List ℕ). 1 ≤ length cs) is.copies_are is.some) in
      let positive : 1 ≤ g = generation_positive (image (slot (root_place app) copy (own g))) g is.text
      (holds_is image (root_place app) copy (g, is.text) holding) in
      let none : says_generation (app_at image app).says ≡ 0 =
      ap says_generation (app_says image app ∙ is.nothing_said) in
      let counts = own_generation g root in
      next_root (omega (arith, positive, none, counts))

  pub later : IsLater (app_at image app) (after_recovery image app)
  later = subst (λ (a : App). IsLater (app_at image app) a) (sym (after_by image app (recovery_at image app) refl))
      (later_by (recovery_at image app) (is_row shows image app))

-- ---- looking

module _ (app : ℕ) (lt : app < 8) (still : StillAppLaw) (shows : ShowsLaw) (old new : Medium)
    (same : new.image ≡ old.image) (idle : Quiet old → IsIdle old new) where
  pub look_outside : Quiet old → EachCase (IsSettledOn (IsNoSlot (root_place app)) old.image) old new
  look_outside quiet c past = settled_on (IsNoSlot (root_place app)) ((idle quiet).during c past)

  pub look_stands : StandsThroughout app (after_recovery old.image app) old new
  look_stands quiet clean c past = still app old.image (after_recovery old.image app) c lt clean
      (settled_on (IsFileOf app) ((idle quiet).during c past)) (later shows old.image app)

  pub look_keeps : RecoveryKeepsSynced app old new
  look_keeps = record {
    elsewhere = λ f aside. ap (λ (i : Image). i f) same;
    outside = look_outside;
    stands = λ cleans. look_stands;
  }

-- where nothing is taken the application is the same
pub refused_ends : (app : ℕ) (row : RootRow) (old new : Image) → IsRefused row → recovery_at old app ≡ row → new ≡ old
    → IsRecovered app row old new
refused_ends app row old new refused is same = record {
  row_is = sym is;
  world = ap (λ (i : Image). app_at i app) same ∙ sym (after_by old app row is ∙ unchanged row refused);
  held = none_held row refused;
  clean = λ was cleans. subst (λ (i : Image). IsCleanApp app i) (sym same) was;
}
  where
    unchanged : (row : RootRow) → IsRefused row → after_row old app row ≡ app_at old app
    unchanged reads refused = refl
    unchanged none_left refused = refl
    unchanged (takes g root copies) refused = absurd refused

    none_held : (row : RootRow) → IsRefused row → IsHeldByAll new app row
    none_held reads refused = tt
    none_held none_left refused = tt
    none_held (takes g root copies) refused = absurd refused

-- ---- and then bringing every copy to what is left

module _ (app : ℕ) (lt : app < 8) (told : Bool) (g : ℕ) (t : List ℕ) (old mid new : Medium)
    (same : mid.image ≡ old.image) (idle : Quiet old → IsIdle old mid) (first : Elapses old mid)
    (next : Elapses mid new) (tells : IsTrue told)
    (elsewhere : Spares (IsNoSlot (root_place app)) mid.image new.image)
    (puts : IsTrue told → Quiet mid → EachCase (PutStops (root_place app) g t mid.image) mid new)
    (covers : CoveredLaw) (untouched : UntouchedLaw) (versions : VersionsLaw)
    (files : StorageFilesLaw) (still : StillAppLaw) (shows : ShowsLaw) (bad : says_at old.image app ≡ nothing)
    (holder : (copy : ℕ) × (copy < 3) × Holds old.image (root_place app) copy g t) (r : Root)
    (said : root_of t ≡ Some r) (after : after_recovery old.image app ≡ app_saying old.image app (says_by g (Some r)))
  where
    puts_then : Quiet old → (c : Case) → new.since mid.moment c → PutStops (root_place app) g t old.image c
    puts_then quiet c past = subst (λ (i : Image). PutStops (root_place app) g t i c) same
        (puts tells (idle quiet).quiet c past)

    pub taken_keeps : RecoveryKeepsSynced app old new
    taken_keeps = record {
      elsewhere = λ f aside. elsewhere f aside ∙ ap (λ (i : Image). i f) same;
      outside = λ quiet. goes_on (IsSettledOn (IsNoSlot (root_place app)) old.image) first next
          (look_outside app lt still shows old mid same idle quiet)
          (λ c past. (puts_then quiet c past).elsewhere);
      stands = λ cleans quiet clean.
          goes_on (StandsCase app (app_at old.image app) (after_recovery old.image app)) first next
          (look_stands app lt still shows old mid same idle quiet clean)
          (λ c past. subst (λ (a : App). StandsCase app (app_at old.image app) a c) (sym after)
          (stands covers untouched versions files app lt g t r old.image c clean bad holder said
          (puts_then quiet c past)
          (subst (λ (a : App). AreClean old.image (shapes_named app a.says)) after cleans)));
    }
