-- How a command keeps each application at every moment, from what the calls below it promise.
use Rattle.std.specs.Prelude.{◌≡◌, ◌≢◌, ◌⊎◌, ◌<◌, ℕ, [], Option, Some, None, Bool}
use Rattle.std.proofs.Common.{refl, sym, subst, le_refl, inl, inr, ⊎_elim}
use Rattle.disk_model.specs.Image.{Image}
use Rattle.disk_model.specs.Case.{Case}
use Rattle.disk_model.specs.Laws.{cases_on}
use Rattle.disk_model.specs.Medium.{Medium, Quiet, IsLawful, EachCase, Elapses, OnlyReads, WritesNothing}
use Rattle.disk_model.specs.lemmas.Frames.{settled_on}
use Rattle.deploy_laws.specs.Places.{IsFileOf}
use Rattle.deploy_laws.specs.Apps.{app_at, IsCleanApp}
use Rattle.deploy_laws.specs.Pieces.{DecaysApp}
use Rattle.deploy_laws.specs.Stands.{Stands, StandsCase, IsLater}
use Rattle.deploy_rows.specs.Rows.{reopened}
use Rattle.run_model.specs.AppLaws.{AppLaws, IsDiskOf, Calls, OpensRoot}
use Rattle.run_model.specs.Moments.{AtMoment, Between, InDoubt, IsInDoubt, IsMoment, IsReady, KeepsApplication}
use Rattle.run_model.specs.Moments.{StepKeeps}
use Rattle.run_model.specs.Moments.{IsSoundDoubt}
use Rattle.run_model.specs.Worlds.{Disks, Doubt, World, disks, disk_at, without_doubt}

-- where nothing is pending a crash leaves the application as it is
pub rests : AppLaws → (app : ℕ) → app < 8 → (ds : Disks) (m : Medium) → IsCleanApp app m.image → IsDiskOf app ds m
    → Quiet m → (c : Case) → m.now c
    → Between app ds ds c
rests laws app lt ds m clean is quiet c now = subst (λ a. StandsCase app a a c) is
    (laws.untouched app m.image c lt clean (settled_on (IsFileOf app) (quiet c now)))

doubtful : (doubt : Option Doubt) (d : Doubt) → doubt ≡ Some d → IsInDoubt doubt
doubtful doubt d is = subst (λ x. IsInDoubt x) (sym is) tt

calm_none : (doubt : Option Doubt) → doubt ≡ None → IsInDoubt doubt → ⊥
calm_none doubt none some = subst (λ x. IsInDoubt x) none some

-- ---- a command that calls no disk

idle_moment : AppLaws → (app : ℕ) → app < 8 → (ds : Disks) (doubt : Option Doubt) (m : Medium) → IsCleanApp app m.image
    → IsDiskOf app ds m
    → (doubt ≡ None → Quiet m) → (c : Case) → m.now c → (IsInDoubt doubt × m.now c) ⊎ AtMoment app ds ds doubt c
idle_moment laws app lt ds None m clean is quiet c now = inr (rests laws app lt ds m clean is (quiet refl) c now)
idle_moment laws app lt ds (Some d) m clean is quiet c now = inl (tt, now)

pub idle_keeps : AppLaws → (app : ℕ) → app < 8 → (w w' : World) (told : Bool) (m : Medium) → IsLawful told m
    → IsDiskOf app (disks w) m
    → disks w' ≡ disks w → w'.doubt ≡ w.doubt → StepKeeps app w w' m m
idle_keeps laws app lt w w' told m lawful is same_disks same ready = record {
  any_moment = λ c s. subst (λ ds. IsMoment app w ds w'.doubt m c) (sym same_disks)
      (subst (λ x. IsMoment app w (disks w) x m c) (sym same)
      (idle_moment laws app lt (disks w) w.doubt m ready.clean is ready.quiet c (lawful.only_now c s)));
  clean = λ sound. ready.clean;
  calm = λ some c at. inl (same, at);
}

-- ---- the sync of a doubt

clean_on : (app : ℕ) (old new : Image) → new ≡ old → IsCleanApp app old → IsCleanApp app new
clean_on app old new same clean = subst (λ i. IsCleanApp app i) (sym same) clean

-- it fails: nothing changes
pub failed_sync_keeps : (app : ℕ) (w : World) (d : Doubt) (old new : Medium) → w.doubt ≡ Some d → OnlyReads old new
    → StepKeeps app w w old new
failed_sync_keeps app w d old new doubt reads ready = record {
  any_moment = λ c s. inl (doubtful w.doubt d doubt, reads.during c s);
  clean = λ sound. clean_on app old.image new.image reads.image ready.clean;
  calm = λ some c at. inl (refl, reads.now c at);
}

-- it succeeds, and the command goes on without a doubt: a moment is one of the doubt, or one of what follows
pub after_sync_keeps : (app : ℕ) (w w' : World) (d : Doubt) (told : Bool) (old now new : Medium) → w.doubt ≡ Some d
    → IsLawful told now → Elapses old now
    → WritesNothing old now → Quiet now → Elapses now new → StepKeeps app (without_doubt w) w' now new
    → StepKeeps app w w' old new
after_sync_keeps app w w' d told old now new doubt lawful time nothing quiet later keeps ready =
    let kept : KeepsApplication app (without_doubt w) w' now new = keeps
    (record { clean = clean_on app old.image now.image nothing.image ready.clean; quiet = λ none. quiet }) in
    let after : (c : Case) → new.since now.moment c → IsMoment app w (disks w') w'.doubt old c =
    λ c s. ⊎_elim (λ x. absurd x.0) (λ m. inr m) (kept.any_moment c s) in
    record {
      any_moment = λ c s. ⊎_elim
          (λ was. ⊎_elim (λ before. inl (doubtful w.doubt d doubt, before))
          (λ at. after c (later.keeps now.moment c (le_refl _) (lawful.counts_now now.moment c (le_refl _) at)))
          (nothing.during c was))
          (λ m. after c m)
          (cases_on time later c s);
      clean = kept.clean;
      calm = λ some c at. ⊎_elim (λ same. absurd (calm_none w'.doubt same.0 some)) (λ x. inr x) (kept.calm some c at);
    }

-- ---- the root of an application is opened before the command

-- at every moment the application stands between what it was and any later state
abbrev pub StaysOnTheWay : ℕ → (before : Disks) → (old new : Medium) → Type 0
StaysOnTheWay app before old new = (after : Disks) → IsLater (disk_at before app) (disk_at after app)
    → EachCase (Between app before after) old new

-- the opening of one application's root, for each application
pub opens_on_the_way : AppLaws → (a b : ℕ) → b < 8 → (ds : Disks) (old new : Medium) → IsDiskOf b ds old → Quiet old
    → IsCleanApp b old.image → OpensRoot a old new
    → (a ≡ b) ⊎ (a ≢ b) → StaysOnTheWay b ds old new
opens_on_the_way laws a b lt ds old new is quiet clean opens (inl e) after later c s =
    subst (λ x. StandsCase b x (disk_at after b) c) is
    (subst (λ (n : ℕ). StandsCase n (app_at old.image n) (disk_at after b) c) e
    (opens.any_moment quiet (subst (λ (n : ℕ). IsCleanApp n old.image) (sym e) clean) (disk_at after b)
    (subst (λ (n : ℕ). IsLater (app_at old.image n) (disk_at after b)) (sym e)
    (subst (λ x. IsLater x (disk_at after b)) (sym is) later)) c s))
opens_on_the_way laws a b lt ds old new is quiet clean opens (inr differs) after later c s =
    subst (λ x. StandsCase b x (disk_at after b) c) is
    (laws.still b old.image (disk_at after b) c lt clean
    (laws.others_case a b old.image c differs (opens.outside quiet c s))
    (subst (λ x. IsLater x (disk_at after b)) (sym is) later))

-- the moments of an opening and of what follows, whatever that leads to
pub root_then : AppLaws → (app : ℕ) (before opened after : Disks) (old now new : Medium)
    → IsLater (disk_at before app) (disk_at after app)
    → (disk_at opened app ≡ disk_at before app) ⊎ (disk_at opened app ≡ reopened (disk_at before app))
    → Elapses old now → Elapses now new → StaysOnTheWay app before old now
    → EachCase (Between app opened after) now new → EachCase (Between app before after) old new
root_then laws app before opened after old now new to_come disk time later opens follows c s = ⊎_elim
    (λ was. opens after to_come c was)
    (λ at. ⊎_elim
    (λ same. subst (λ a. StandsCase app a (disk_at after app) c) same (follows c at))
    (λ mended. λ is_sound damaged image decays. laws.mend app image damaged (disk_at before app) (disk_at after app)
    ((subst (λ a. StandsCase app a (disk_at after app) c) mended (follows c at)) is_sound damaged image decays))
    disk)
    (cases_on time later c s)

pub after_root_keeps : AppLaws → (app : ℕ) (w v w' : World) (old now new : Medium)
    → IsLater (disk_at (disks w) app) (disk_at (disks w') app) → w.doubt ≡ None
    → v.doubt ≡ None → (disk_at (disks v) app ≡ disk_at (disks w) app)
    ⊎ (disk_at (disks v) app ≡ reopened (disk_at (disks w) app))
    → Elapses old now → Elapses now new → StaysOnTheWay app (disks w) old now → IsReady app v now
    → StepKeeps app v w' now new → w'.doubt ≡ None
    → StepKeeps app w w' old new
after_root_keeps laws app w v w' old now new to_come none none' disk time later opens ready_now keeps calm' ready =
    let kept : KeepsApplication app v w' now new = keeps ready_now in
    record {
      any_moment = λ c s. inr (subst (λ x. AtMoment app (disks w) (disks w') x c) (sym calm')
          (root_then laws app (disks w) (disks v) (disks w') old now new to_come disk time later opens
          (λ c at. ⊎_elim (λ d. absurd (calm_none v.doubt none' d.0))
          (λ m. subst (λ x. AtMoment app (disks v) (disks w') x c) calm' m) (kept.any_moment c at)) c s));
      clean = kept.clean;
      calm = λ some c at. absurd (calm_none w'.doubt calm' some);
    }

-- ---- a call that fails at the device

no_decay : (app : ℕ) (image : Image) → DecaysApp app [] image image
no_decay app image place of_app = record { others = λ f outside. refl; pieces = λ x piece. piece }

-- the new doubt: its sides are what was there before and what the command leads to, and its case is one now, whose
-- image is what reads give
pub failed_call_keeps : AppLaws → (app : ℕ) (w w' : World) (d : Doubt) (told : Bool) (old new : Medium)
    → w'.doubt ≡ Some d → d.before ≡ disks w
    → IsLawful told new → Elapses old new → IsDiskOf app (disks w) old → new.now d.case → d.case.left ≡ new.image
    → (IsReady app w old → EachCase (Between app (disks w) d.after) old new) → StepKeeps app w w' old new
failed_call_keeps laws app w w' d told old new doubt before lawful time is now left moments ready = record {
  any_moment = λ c s. inr (subst (λ x. AtMoment app (disks w) (disks w') x c) (sym doubt)
      (subst (λ ds. Between app ds d.after c) (sym before) (moments ready c s)));
  clean = λ sound. let s : IsSoundDoubt app (Some d) = subst (λ x. IsSoundDoubt app x) doubt sound in
      laws.clean app old.image new.image (disk_at d.after app)
      (subst (λ a. Stands app new.image [] a (disk_at d.after app)) (sym is)
      (subst (λ i. Stands app i [] (disk_at (disks w) app) (disk_at d.after app)) left
      (moments ready d.case (since d.case now) s [] d.case.left (no_decay app d.case.left))));
  calm = λ some c at. inr (in_doubt c (moments ready c (since c at)));
}
  where
    since : (c : Case) → new.now c → new.since old.moment c
    since c at = lawful.counts_now old.moment c time.later at

    in_doubt : (c : Case) → Between app (disks w) d.after c → InDoubt app w'.doubt c
    in_doubt c b = subst (λ x. InDoubt app x c) (sym doubt) (subst (λ ds. Between app ds d.after c) (sym before) b)

-- ---- a call on one application, as a command of the world: all others stand as they were

-- each moment of the call, for each application
module _ (laws : AppLaws) (a : ℕ) (w : World) (after : Disks) (old new : Medium) (calls : Calls a after old new)
    (same : (b : ℕ) → a ≢ b → disk_at after b ≡ disk_at (disks w) b) where
  pub each_moment : (b : ℕ) → b < 8 → IsDiskOf b (disks w) old → Quiet old → IsCleanApp b old.image → (a ≡ b) ⊎ (a ≢ b)
      → EachCase (Between b (disks w) after) old new
  each_moment b lt is quiet clean (inl e) c s = subst (λ x. StandsCase b x (disk_at after b) c) is
      (subst (λ (n : ℕ). StandsCase n (app_at old.image n) (disk_at after n) c) e
      (calls.any_moment quiet (subst (λ (n : ℕ). IsCleanApp n old.image) (sym e) clean) c s))
  each_moment b lt is quiet clean (inr differs) c s = subst (λ y. StandsCase b (disk_at (disks w) b) y c)
      (sym (same b differs))
      (subst (λ x. StandsCase b x x c) is (laws.untouched b old.image c lt clean
      (laws.others_case a b old.image c differs (calls.outside quiet c s))))

  still_clean : (b : ℕ) → b < 8 → (IsCleanApp a old.image → IsCleanApp a new.image) → IsCleanApp b old.image
      → (a ≡ b) ⊎ (a ≢ b) → IsCleanApp b new.image
  still_clean b lt keeps clean (inl e) = subst (λ (n : ℕ). IsCleanApp n new.image) e
      (keeps (subst (λ (n : ℕ). IsCleanApp n old.image) (sym e) clean))
  still_clean b lt keeps clean (inr differs) = (laws.others a b old.image new.image lt differs calls.elsewhere).1 clean

-- a call that was answered, without a doubt before it
pub call_keeps : AppLaws → (a : ℕ) (w w' : World) (old new : Medium) → Calls a (disks w') old new
    → ((b : ℕ) → a ≢ b → disk_at (disks w') b ≡ disk_at (disks w) b) → w.doubt ≡ None → w'.doubt ≡ None
    → (IsCleanApp a old.image → IsCleanApp a new.image)
    → (b : ℕ) → b < 8 → IsDiskOf b (disks w) old → (a ≡ b) ⊎ (a ≢ b) → StepKeeps b w w' old new
call_keeps laws a w w' old new calls same none none' clean b lt is which ready = record {
  any_moment = λ c s. inr (subst (λ x. AtMoment b (disks w) (disks w') x c) (sym none')
      (each_moment laws a w (disks w') old new calls same b lt is (ready.quiet none) ready.clean which c s));
  clean = λ sound. still_clean laws a w (disks w') old new calls same b lt clean ready.clean which;
  calm = λ some c at. absurd (subst (λ d. IsInDoubt d) none' some);
}

-- a call whose device failed, without a doubt before it: the world after it is in doubt between what was and what the
-- call leads to
pub call_fails : AppLaws → (a : ℕ) (w w' : World) (d : Doubt) (told : Bool) (old new : Medium) → IsLawful told new
    → Elapses old new → Calls a d.after old new
    → ((b : ℕ) → a ≢ b → disk_at d.after b ≡ disk_at (disks w) b) → w.doubt ≡ None → w'.doubt ≡ Some d
    → d.before ≡ disks w → new.now d.case
    → d.case.left ≡ new.image → (b : ℕ) → b < 8 → IsDiskOf b (disks w) old → (a ≡ b) ⊎ (a ≢ b)
    → StepKeeps b w w' old new
call_fails laws a w w' d told old new lawful time calls same none doubt before now left b lt is which =
    failed_call_keeps laws b w w' d told old new doubt before lawful time is now left
    (λ ready. each_moment laws a w d.after old new calls same b lt is (ready.quiet none) ready.clean which)
