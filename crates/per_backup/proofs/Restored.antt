-- What a restore makes of an application, at the end and at every moment.
use Rattle.std.proofs.Common.{◌≡◌, ℕ, ◌+◌, ◌<◌, ◌≤◌, Bool, List, [], Option, Some, None, Result, Ok, Err, refl, sym}
use Rattle.std.proofs.Common.{ap, ◌∙◌, subst, inl, arith}
use Rattle.std.specs.Prelude.{IsErr, IsOk, IsTrue, OnOk, cond, nat_le, true, false}
use Rattle.per_base.specs.declared.errors.Limit.TheVariants as limit
use Rattle.per_base.specs.declared.errors.PerError.TheVariants as error
use Rattle.std.proofs.lemmas.Bool.{le-leb, leb-false, lt-leb}
use Rattle.per_base.specs.declared.errors.PerError.{PerError}
use Rattle.per_base.specs.Refusals.{refused_by}
use Rattle.disk_model.specs.Frame.{IsSettledOn, Spares}
use Rattle.disk_model.specs.Image.{Image}
use Rattle.disk_model.specs.Laws.{goes_on}
use Rattle.disk_model.specs.Medium.{EachCase, Elapses, IsLawful, Medium, OnlyReads, Quiet, WritesNothing}
use Rattle.disk_model.specs.lemmas.Frames.{settled_before, settled_less, settled_on}
use Rattle.deployment_model.specs.Data.{DeploymentData, deployment_data}
use Rattle.element_state.specs.States.{State, greatest_generation}
use Rattle.deploy_laws.specs.Apps.{App, IsCleanApp, Says, absent, app_at, says_at, says_generation}
use Rattle.deploy_laws.specs.Laws.{RootMendLaw}
use Rattle.deploy_laws.specs.Places.{IsFileOf}
use Rattle.deploy_laws.specs.Stands.{ChangesNothing, IsLater, StandsCase, StandsThroughout, next_root, same_root}
use Rattle.deploy_rows.specs.Rows.{◌>>=◌, AnswersRow, after, deployment_of, reopened}
use Rattle.per_base.specs.declared.elements.Fresh.{Fresh}
use Rattle.deploy.specs.Clauses.{IsBesideNext, IsNoRootSlot, Leaves, StandsOnTheWay}
use Rattle.deploy.specs.Filled.{filled_app}
use Rattle.run_model.specs.Lives.{LooksOnly, after_sync, looks_unsynced}
use Rattle.per_backup.specs.Backups.{made_from, restored_app, restoring, states_from, taken}
use Rattle.per_backup.specs.Clauses.{IsAppSeen}
use Rattle.per_backup.specs.Restores.{IsFreeFor, IsReadyToInstall, IsSaid, RestoreKeeps, Restored, RestoresSettled}
use Rattle.per_backup.specs.Restores.{ready_app, restored_to}
use Rattle.per_backup.specs.declared.filling.Ready.{Ready}
use Rattle.per_backup.specs.StorageLaws.{BackupLaws}
use Rattle.per_backup.proofs.Nothing.{nothing_on}
use Rattle.per_backup.proofs.Stored.{says_of}
use Rattle.per_backup.proofs.Synced.{then_looks}

-- ---- the row

module _ (manifest : List ℕ) (texts : List (List ℕ)) where
  row : (a : App) → restoring manifest texts a
      ≡ refused_by (taken a.says) (made_from manifest texts (says_generation a.says))
  unfolding restoring
  row a = refl

  pub row_taken : (a : App) (e : PerError) → taken a.says ≡ Some e → restoring manifest texts a ≡ Err e
  row_taken a e is = row a ∙ ap (λ (o : Option PerError). refused_by o
      (made_from manifest texts (says_generation a.says))) is

  pub row_free : (a : App) → taken a.says ≡ None
      → restoring manifest texts a ≡ made_from manifest texts (says_generation a.says)
  row_free a is = row a ∙ ap (λ (o : Option PerError). refused_by o
      (made_from manifest texts (says_generation a.says))) is

  -- it leads to a root of the next generation, or to the same application
  later_states : (a : App) (d : DeploymentData) (states : Result (List State) PerError)
      → IsLater a (after a (states >>= λ made. Ok (restored_app (says_generation a.says) d made)))
  later_states a d (Ok made) = next_root (omega arith)
  later_states a d (Err e) = same_root refl refl

  later_said : (a : App) (said : Result DeploymentData PerError)
      → IsLater a (after a (said >>= λ d. states_from d.storages texts >>= λ made.
      Ok (restored_app (says_generation a.says) d made)))
  later_said a (Ok d) = later_states a d (states_from d.storages texts)
  later_said a (Err e) = same_root refl refl

  later_by : (a : App) (o : Option PerError)
      → IsLater a (after a (refused_by o (made_from manifest texts (says_generation a.says))))
  later_by a None = later_said a (deployment_of manifest)
  later_by a (Some e) = same_root refl refl

  pub later_restore : (a : App) → IsLater a (after a (restoring manifest texts a))
  later_restore a = subst (λ (r : Result App PerError). IsLater a (after a r)) (sym (row a)) (later_by a (taken a.says))

  -- ---- what is answered

  answers_taken : (o : Option PerError) (made : Result App PerError) (b : App) → made ≡ Ok b
      → AnswersRow o (refused_by o made)
  answers_taken None made b is = subst (λ (r : Result App PerError). AnswersRow None r) (sym is) tt
  answers_taken (Some e) made b is = refl

-- an application whose root says this, and else as it is
abbrev pub as_said : Image → ℕ → Says → App
as_said image app says = record {
  says = says;
  lacking = (app_at image app).lacking;
  states = (app_at image app).states;
}

pub is_seen : (told : Bool) (image : Image) (app : ℕ) (says : Says) → IsSaid told image app says
    → IsAppSeen told image app (as_said image app says)
is_seen told image app says said tells = ap (as_said image app) (said tells)

module _ (manifest : List ℕ) (texts : List (List ℕ)) (told : Bool) (image : Image) (app : ℕ) (says : Says)
    (said : IsSaid told image app says) where
  -- it is refused
  pub refused_so : (e : PerError) → restoring manifest texts (as_said image app says) ≡ Err e
      → (it : App) × IsAppSeen told image app it × AnswersRow (Some e) (restoring manifest texts it)
  refused_so e is = (
    as_said image app says,
    is_seen told image app says said,
    subst (λ (r : Result App PerError). AnswersRow (Some e) r) (sym is) refl,
  )

  pub refused_there : (e : PerError) → restoring manifest texts (as_said image app says) ≡ Err e → IsTrue told
      → restoring manifest texts (app_at image app) ≡ Err e
  refused_there e is tells = subst (λ (a : App). restoring manifest texts a ≡ Err e)
      (is_seen told image app says said tells) is

  -- by what the root says
  pub taken_refuses : (e : PerError) → taken says ≡ Some e → restoring manifest texts (as_said image app says) ≡ Err e
  taken_refuses e is = row_taken manifest texts (as_said image app says) e is

  -- or by the manifest or a text
  pub made_refuses : taken says ≡ None → (e : PerError) → ((g : ℕ) → made_from manifest texts g ≡ Err e)
      → restoring manifest texts (as_said image app says) ≡ Err e
  made_refuses free e is = row_free manifest texts (as_said image app says) free ∙ is (says_generation says)

  -- or it is done, unless the root says something else
  pub ready_answers : (r : Ready) → IsReadyToInstall manifest texts r → (o : Option PerError) → o ≡ taken says
      → (it : App) × IsAppSeen told image app it × AnswersRow o (restoring manifest texts it)
  ready_answers r ready o same = (
    as_said image app says,
    is_seen told image app says said,
    subst (λ (p : Option PerError). AnswersRow p (restoring manifest texts (as_said image app says))) (sym same)
        (subst (λ (x : Result App PerError). AnswersRow (taken says) x)
        (sym (row manifest texts (as_said image app says)))
        (answers_taken manifest texts (taken says) (made_from manifest texts (says_generation says)) _
        (ready.row (says_generation says)))),
  )

-- ---- while nothing changes

module _ (laws : BackupLaws) (app : ℕ) (lt : app < 8) (manifest : List ℕ) (texts : List (List ℕ)) (old new : Medium)
    (nothing : ChangesNothing old new) where
  pub nothing_restores : RestoresSettled app manifest texts old new
  nothing_restores = record {
    stands = λ quiet clean c past. laws.still app old.image _ c lt clean
        (settled_on (IsFileOf app) ((nothing.idle quiet).during c past))
        (later_restore manifest texts (app_at old.image app));
    elsewhere = λ file out. ap (λ (im : Image). im file) nothing.image;
    outside = λ quiet c past. settled_on (IsBesideNext app 0) ((nothing.idle quiet).during c past);
    refused = λ err. nothing;
  }

  pub nothing_restored : (e : PerError) → restoring manifest texts (app_at old.image app) ≡ Err e
      → Restored app manifest texts old new
  nothing_restored e err = record {
    world = ap (λ (im : Image). app_at im app) nothing.image ∙ sym (ap (after (app_at old.image app)) err);
    clean = λ ok. absurd (not_ok (restoring manifest texts (app_at old.image app)) e err ok);
    stays_clean = λ clean. subst (λ (im : Image). IsCleanApp app im) (sym nothing.image) clean;
  }
    where
      not_ok : (r : Result App PerError) (e : PerError) → r ≡ Err e → IsOk r → ⊥
      not_ok (Ok a) e is ok = absurd cc
      not_ok (Err f) e is ok = absurd cc

-- and after that
module _ (laws : BackupLaws) (app : ℕ) (lt : app < 8) (manifest : List ℕ) (texts : List (List ℕ))
    (old mid new : Medium) (before : Elapses old mid) (nothing : ChangesNothing old mid) (later : Elapses mid new) where
  pub then_restores : RestoresSettled app manifest texts mid new → RestoresSettled app manifest texts old new
  then_restores keeps = record {
    stands = λ quiet clean. goes_on (StandsCase app (app_at old.image app) (restored_to app manifest texts old.image))
        before later
        (λ c past. laws.still app old.image _ c lt clean
        (settled_on (IsFileOf app) ((nothing.idle quiet).during c past))
        (later_restore manifest texts (app_at old.image app)))
        (subst (λ (im : Image). EachCase (StandsCase app (app_at im app) (restored_to app manifest texts im)) mid new)
        nothing.image
        (keeps.stands (nothing.idle quiet).quiet
        (subst (λ (im : Image). IsCleanApp app im) (sym nothing.image) clean)));
    elsewhere = λ file out. keeps.elsewhere file out ∙ ap (λ (im : Image). im file) nothing.image;
    outside = λ quiet. goes_on (IsSettledOn (IsBesideNext app 0) old.image) before later
        (λ c past. settled_on (IsBesideNext app 0) ((nothing.idle quiet).during c past))
        (subst (λ (im : Image). EachCase (IsSettledOn (IsBesideNext app 0) im) mid new) nothing.image
        (keeps.outside (nothing.idle quiet).quiet));
    refused = λ err. nothing_on before nothing later (keeps.refused
        (subst (λ (im : Image). IsErr (restoring manifest texts (app_at im app))) (sym nothing.image) err));
  }

-- an image that stays
module _ (told : Bool) (app : ℕ) (manifest : List ℕ) (texts : List (List ℕ)) (old mid new : Medium)
    (same : mid.image ≡ old.image) where
  pub seen_before : (o : Option PerError)
      → (it : App) × IsAppSeen told mid.image app it × AnswersRow o (restoring manifest texts it)
      → (it : App) × IsAppSeen told old.image app it × AnswersRow o (restoring manifest texts it)
  seen_before o given = (
    given.0,
    (λ tells. given.1 tells ∙ ap (λ (im : Image). app_at im app) same),
    given.2,
  )

  pub restored_before : Restored app manifest texts mid new → Restored app manifest texts old new
  restored_before is = record {
    world = is.world ∙ ap (restored_to app manifest texts) same;
    clean = subst (λ (im : Image). IsOk (restoring manifest texts (app_at im app)) → IsCleanApp app new.image) same
        is.clean;
    stays_clean = subst (λ (im : Image). IsCleanApp app im → IsCleanApp app new.image) same is.stays_clean;
  }

-- ---- what is ready is installed

module _ (manifest : List ℕ) (texts : List (List ℕ)) (told : Bool) (app : ℕ) (r : Ready)
    (ready : IsReadyToInstall manifest texts r) (old new : Medium) (free : IsFreeFor told old.image app)
    (tells : IsTrue told) where
  is_free : taken (app_at old.image app).says ≡ None
  is_free = subst (λ (s : Says). taken s ≡ None) (free.1 tells) free.2

  goes : restoring manifest texts (app_at old.image app) ≡ Ok (ready_app r app old.image)
  goes = row_free manifest texts (app_at old.image app) is_free ∙ ready.row (says_generation (app_at old.image app).says)

  leads : restored_to app manifest texts old.image ≡ ready_app r app old.image
  leads = ap (after (app_at old.image app)) goes

  pub ready_restored : app_at new.image app ≡ ready_app r app old.image → IsCleanApp app new.image
      → Restored app manifest texts old new
  ready_restored is clean = record {
    world = is ∙ sym leads;
    clean = λ ok. clean;
    stays_clean = λ was. clean;
  }

  pub ready_keeps : Leaves told (IsBesideNext app 0) old new
      → StandsThroughout app (ready_app r app old.image) old new → RestoresSettled app manifest texts old new
  ready_keeps leaves stands = record {
    stands = subst (λ (a : App). StandsThroughout app a old new) (sym leads) stands;
    elsewhere = leaves.at_the_end tells;
    outside = leaves.throughout tells;
    refused = λ err. absurd (not_err (restoring manifest texts (app_at old.image app)) goes err);
  }
    where
      not_err : {b : App} (x : Result App PerError) → x ≡ Ok b → IsErr x → ⊥
      not_err (Ok a) is err = absurd cc
      not_err (Err e) is err = absurd cc

-- ---- the root is opened, and then it is installed

pub later_filled : (a : App) (d : DeploymentData) (contents : List (List Fresh))
    → IsLater a (filled_app (says_generation a.says) d contents)
unfolding filled_app
later_filled a d contents = next_root (omega arith)

pub filled_same : (g h : ℕ) (d : DeploymentData) (cs ds : List (List Fresh)) → g ≡ h → cs ≡ ds
    → filled_app g d cs ≡ filled_app h d ds
filled_same g h d cs ds same are = ap (λ (n : ℕ). filled_app n d cs) same
    ∙ ap (λ (es : List (List Fresh)). filled_app h d es) are

pub opened_leaves : (told : Bool) (app : ℕ) (old new : Medium) → Leaves told (IsNoRootSlot app) old new
    → Leaves told (IsBesideNext app 0) old new
opened_leaves told app old new leaves = record {
  at_the_end = λ tells f is. leaves.at_the_end tells f is.0;
  throughout = λ tells quiet c past. settled_less (λ f is. is.0) (leaves.throughout tells quiet c past);
}

pub then_leaves : (told : Bool) (Files : ℕ → Type 0) (old mid new : Medium) → Elapses old mid → Elapses mid new
    → Quiet mid → Leaves told Files old mid → Leaves told Files mid new → Leaves told Files old new
then_leaves told Files old mid new first next quiet was now = record {
  at_the_end = λ tells f is. now.at_the_end tells f is ∙ was.at_the_end tells f is;
  throughout = λ tells quiets. goes_on (IsSettledOn Files old.image) first next (was.throughout tells quiets)
      (λ c past. settled_before (was.at_the_end tells) (now.throughout tells quiet c past));
}

-- the root, and then all of it
pub then_stands : RootMendLaw → (app : ℕ) (next : App) (old mid new : Medium) → Elapses old mid → Elapses mid new
    → Quiet mid → StandsOnTheWay app old mid → app_at mid.image app ≡ reopened (app_at old.image app)
    → (IsCleanApp app old.image → IsCleanApp app mid.image) → IsLater (app_at old.image app) next
    → StandsThroughout app next mid new → StandsThroughout app next old new
then_stands mend app next old mid new first then still opening same cleans later stands = λ quiet clean.
    goes_on (StandsCase app (app_at old.image app) next) first then (opening quiet clean next later)
    (λ c at. λ is_sound damaged image decays. mend app image damaged (app_at old.image app) next
    ((subst (λ (x : App). StandsCase app x next c) same (stands still (cleans clean) c at))
    is_sound damaged image decays))

-- the root that is opened says what was seen
pub said_twice : (told : Bool) (image : Image) (app : ℕ) (says : Says) → (IsTrue told → says ≡ says_at image app)
    → IsSaid told image app says
said_twice told image app says is tells = is tells ∙ sym (says_of image app)

-- so it refuses nothing
pub not_refused : (told : Bool) (image : Image) (app : ℕ) (says : Says) (e : PerError) → IsFreeFor told image app
    → IsSaid told image app says → taken says ≡ Some e → IsTrue told → ⊥
not_refused told image app says e free said is tells =
    none_some e (sym free.2 ∙ ap taken (free.1 tells ∙ sym (said tells)) ∙ is)
  where
    none_some : (e : PerError) → None ≡ Some e → ⊥
    none_some e is = absurd cc

-- ---- a sync, and then the restore

module _ (app : ℕ) (manifest : List ℕ) (texts : List (List ℕ)) where
  pub unsynced_restores : (old new : Medium) → OnlyReads old new → RestoreKeeps app manifest texts old new
  unsynced_restores old new reads = record {
    stands = λ clean c s. inl (reads.during c s);
    elsewhere = λ file out. ap (λ (im : Image). im file) reads.image;
    outside = λ c s. inl (reads.during c s);
    refused = λ err. looks_unsynced old new reads;
  }

  module _ (told : Bool) (old mid new : Medium) (lawful : IsLawful told mid) (time : Elapses old mid)
      (nothing : WritesNothing old mid) (quiet : Quiet mid) (later : Elapses mid new) where
    pub synced_restores : RestoresSettled app manifest texts mid new → RestoreKeeps app manifest texts old new
    synced_restores keeps = record {
      stands = λ clean. after_sync (StandsCase app (app_at old.image app) (restored_to app manifest texts old.image))
          lawful time nothing later
          (subst (λ (im : Image). IsCleanApp app im
          → EachCase (StandsCase app (app_at im app) (restored_to app manifest texts im)) mid new) nothing.image
          (keeps.stands quiet) clean);
      elsewhere = λ file out. keeps.elsewhere file out ∙ ap (λ (im : Image). im file) nothing.image;
      outside = after_sync (IsSettledOn (IsBesideNext app 0) old.image) lawful time nothing later
          (subst (λ (im : Image). EachCase (IsSettledOn (IsBesideNext app 0) im) mid new) nothing.image
          (keeps.outside quiet));
      refused = λ err. then_looks told old mid new lawful time nothing quiet later (keeps.refused
          (subst (λ (im : Image). IsErr (restoring manifest texts (app_at im app))) (sym nothing.image) err));
    }

-- ---- results

pub on_both : {T E P Q R : Type 0} (r : Result T E) → (P → Q → R) → OnOk r P → OnOk r Q → OnOk r R
on_both (Ok t) less is so = less is so
on_both (Err e) less is so = tt

pub taken_worn : (g : ℕ) → greatest_generation ≤ g
    → Some (error.LimitReached limit.Generations) ≡ taken (absent g)
taken_worn g le = sym (ap (λ (b : Bool). cond b (Some (error.LimitReached limit.Generations)) None)
    (le-leb greatest_generation g le))

pub taken_not : (g : ℕ) → g < greatest_generation → None ≡ taken (absent g)
taken_not g lt = sym (ap (λ (b : Bool). cond b (Some (error.LimitReached limit.Generations)) None)
    (lt-leb greatest_generation g lt))

-- a generation is left of a root over which a version can be installed
pub generation_left : (g : ℕ) → taken (absent g) ≡ None → g < greatest_generation
generation_left g free = by (nat_le greatest_generation g) refl free
  where
    by : (b : Bool) → nat_le greatest_generation g ≡ b
        → cond b (Some (error.LimitReached limit.Generations)) None ≡ None → g < greatest_generation
    by true le is = absurd cc
    by false le is = leb-false greatest_generation g le
