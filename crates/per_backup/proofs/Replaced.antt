-- An import that rebuilds its storage, by what a deployment promises of that.
use Rattle.std.proofs.Common.{◌≡◌, ◌⊎◌, ℕ, ◌<◌, ◌≤◌, Bool, true, List, Option, Some, None, Result, Ok, Err, slice_set}
use Rattle.std.proofs.Common.{refl, sym, ap, ◌∙◌, subst, inl, inr}
use Rattle.std.specs.Prelude.{IfOk, IsErr, IsOk, IsSome, IsTrue, OnOk}
use Rattle.std.specs.List.{AllByRecursion}
use Rattle.per_base.specs.declared.elements.Fresh.{Fresh}
use Rattle.per_base.specs.declared.errors.PerError.{PerError}
use Rattle.disk_model.specs.Frame.{IsSettledOn, Spares}
use Rattle.disk_model.specs.Image.{Image}
use Rattle.disk_model.specs.Medium.{EachCase, Elapses, Medium, Quiet}
use Rattle.disk_model.specs.Place.{IsOutside}
use Rattle.disk_model.specs.lemmas.Frames.{settled_less}
use Rattle.deployment_model.specs.Data.{StorageData}
use Rattle.element_state.specs.Clean.{IsClean}
use Rattle.element_state.specs.declared.shapes.Shape.{Shape}
use Rattle.element_state.specs.Kept.{KeptThroughout}
use Rattle.element_state.specs.States.{State, store_at}
use Rattle.deploy_laws.specs.Places.{Named, storage_shape}
use Rattle.deploy_laws.specs.Apps.{App, IsCleanApp, app_at, installed, says_at}
use Rattle.deploy_laws.specs.Stands.{StandsThroughout}
use Rattle.deploy_rows.specs.Recovering.{after_state, if_contents_fit}
use Rattle.deploy_rows.specs.Rows.{AnswersRow, after}
use Rattle.deploy_laws.specs.Stands.{ChangesNothing}
use Rattle.deploy.specs.Clauses.{Leaves}
use Rattle.deploy.specs.declared.errors.Stop.{Stop}
use Rattle.run_model.specs.Found.{FoundStorage, shape_in, storage_in, with_storage_state}
use Rattle.per_backup.specs.declared.finding.Located.{Located}
use Rattle.per_backup.specs.Backups.{importing, importing_into}
use Rattle.per_backup.specs.Clauses.{Imported, IsAppSeen, KeepsSettled}
use Rattle.per_backup.specs.Finding.{IsLocatedAs, config_of, found_as}
use Rattle.per_backup.specs.StorageLaws.{BackupLaws}
use Rattle.per_backup.proofs.Lists.{ok_so}
use Rattle.per_backup.proofs.Nothing.{nothing_on, then_kept, then_outside, then_spares}
use Rattle.per_backup.proofs.Rows.{after_row, answers_row, importing_found, one_found, row_done, row_refused, with_row}
use Rattle.per_backup.proofs.Stored.{app_beside, clean_there, stays_so, stored_here, storing_here}

-- what a deployment promises of a storage that it rebuilds with these contents
pub record Replaces (told : Bool) (shape : Shape) (row : State → Result State PerError) (old new : Medium)
    (result : Result (Option PerError) Stop) : Type 0 where
  pub refused : IfOk result (λ refused. (state : State) × (IsTrue told → store_at old.image shape ≡ state)
      × AnswersRow refused (row state))
  pub state : IsTrue told → OnOk result (store_at new.image shape
      ≡ after_state (store_at old.image shape) (row (store_at old.image shape)))
  pub unchanged : IfOk result (λ refused. IsSome refused → ChangesNothing old new)
  pub stays : IsTrue told → IsErr (row (store_at old.image shape)) → ChangesNothing old new
  pub clean : IsTrue told → IfOk result (λ refused. (refused ≡ None) ⊎ IsClean shape old.image
      → IsClean shape new.image)
  pub outside : Leaves told (IsOutside shape.place) old new
  pub any_moment : IsTrue told → KeptThroughout shape (after_state (store_at old.image shape)
      (row (store_at old.image shape))) old new

-- the same facts of a storage at a shape, whichever way the shape is written
at_shape : (told : Bool) (one other : Shape) (row : State → Result State PerError) (old new : Medium)
    (result : Result (Option PerError) Stop) → one ≡ other
    → Replaces told one row old new result → Replaces told other row old new result
at_shape told one other row old new result same replaces =
    subst (λ (sh : Shape). Replaces told sh row old new result) same replaces

if_done : (result : Result (Option PerError) Stop) (P : Type 0)
    → ((refused : Option PerError) → result ≡ Ok refused → P) → OnOk result P
if_done (Ok refused) P gives = gives refused refl
if_done (Err stop) P gives = tt

on_so : {X E : Type 0} (r : Result X E) (x : X) (P : Type 0) → r ≡ Ok x → OnOk r P → P
on_so r x P is given = subst (λ (y : Result _ _). OnOk y P) is given

module _ (laws : BackupLaws) (told : Bool) (app : ℕ) (lt : app < 8) (name text : List ℕ) (l : Located)
    (contents : List Fresh)
    (row_is : (state : State) → importing (config_of l) state text ≡ if_contents_fit (config_of l) state contents)
    (old mid new : Medium) (before : Elapses old mid) (nothing : ChangesNothing old mid) (later : Elapses mid new)
    (located : IsLocatedAs told old.image app name l) (result : Result (Option PerError) Stop)
    (replaces : Replaces told l.shape (λ state. if_contents_fit (config_of l) state contents) mid new result) where
  abbrev s : StorageData
  s = config_of l

  abbrev number : ℕ
  number = located.of.number

  abbrev here : Shape
  here = storage_shape app located.active.bank number s

  abbrev row : State → Result State PerError
  row state = if_contents_fit s state contents

  anew : Replaces told here row mid new result
  anew = at_shape told l.shape here row mid new result located.of.shape replaces

  -- ---- its answer

  pub replaced_answers : IfOk result (λ refused. (it : App) × IsAppSeen told old.image app it
      × AnswersRow refused (importing_into it name text))
  replaced_answers = by result replaces.refused
    where
      by : (r : Result (Option PerError) Stop) → IfOk r (λ refused. (state : State)
          × (IsTrue told → store_at mid.image l.shape ≡ state) × AnswersRow refused (row state))
          → IfOk r (λ refused. (it : App) × IsAppSeen told old.image app it
          × AnswersRow refused (importing_into it name text))
      by (Err stop) given = tt
      by (Ok refused) given =
          let found = located.named given.0 (λ tells. sym (given.1 tells)
          ∙ ap (λ (im : Image). store_at im l.shape) nothing.image) in
          let f = found_as located.active number l given.0 in (
            found.0,
            found.1,
            subst (λ (r : Result App PerError). AnswersRow refused r)
                (sym (importing_found found.0 name text f found.2
                ∙ ap (λ (r : Result State PerError). with_row found.0 f r) (row_is given.0)))
                (answers_row found.0 f refused (row given.0) given.2),
          )

  pub replaced_unchanged : IfOk result (λ refused. IsSome refused → ChangesNothing old new)
  replaced_unchanged = by result replaces.unchanged
    where
      by : (r : Result (Option PerError) Stop) → IfOk r (λ refused. IsSome refused → ChangesNothing mid new)
          → IfOk r (λ refused. IsSome refused → ChangesNothing old new)
      by (Err stop) given = tt
      by (Ok refused) given = λ some. nothing_on before nothing later (given some)

  -- ---- what is on the disk

  module _ (tells : IsTrue told) where
    abbrev a : App
    a = app_at old.image app

    abbrev was : State
    was = store_at old.image here

    abbrev f : FoundStorage
    f = found_as located.active number l was

    says_old : says_at old.image app ≡ installed (located.says tells).0 located.active (located.says tells).1
    says_old = (located.says tells).2

    says_mid : says_at mid.image app ≡ installed (located.says tells).0 located.active (located.says tells).1
    says_mid = ap (λ (im : Image). says_at im app) nothing.image ∙ says_old

    found : storage_in a name None ≡ Ok f
    found = let n = located.named was (λ t. ap (store_at old.image) (sym located.of.shape)) in
        subst (λ (it : App). storage_in it name None ≡ Ok f) (n.1 tells) n.2

    it_is : (g : FoundStorage) → storage_in a name None ≡ Ok g → g ≡ f
    it_is g is = one_found a name g f is found

    was_mid : store_at mid.image here ≡ was
    was_mid = ap (λ (im : Image). store_at im here) nothing.image

    abbrev next : State
    next = after_state was (row was)

    next_mid : after_state (store_at mid.image here) (row (store_at mid.image here)) ≡ next
    next_mid = ap (λ (st : State). after_state st (row st)) was_mid

    same : with_storage_state a f was ≡ a
    same = stays_so laws app (located.says tells).0 located.active (located.says tells).1 number s located.of.config
        old.image says_old

    row_into : importing_into a name text ≡ with_row a f (row was)
    row_into = importing_found a name text f found ∙ ap (with_row a f) (row_is was)

    world : after a (importing_into a name text) ≡ with_storage_state a f next
    world = ap (after a) row_into ∙ after_row a f (row was) same

    some : 1 ≤ here.m
    some = subst (λ (sh : Shape). 1 ≤ sh.m) located.of.shape located.of.is_shape.some

    kept_here : KeptThroughout here next old new
    kept_here = then_kept laws old mid new before nothing later here next some
        (subst (λ (st : State). KeptThroughout here st mid new) next_mid (anew.any_moment tells))

    outside_here : Quiet old → EachCase (IsSettledOn (IsOutside here.place) old.image) old new
    outside_here = then_outside laws old mid new before nothing later (IsOutside here.place)
        (anew.outside.throughout tells)

    elsewhere_here : Spares (IsOutside here.place) old.image new.image
    elsewhere_here = then_spares laws old mid new before nothing later (IsOutside here.place)
        (anew.outside.at_the_end tells)

    pub replaced_keeps : KeepsSettled app name text old new
    replaced_keeps = record {
      kept = λ g is. subst (λ (x : FoundStorage). KeptThroughout (shape_in app x)
          (after_state x.state (importing x.config x.state text)) old new) (sym (it_is g is))
          (subst (λ (r : Result State PerError). KeptThroughout here (after_state was r) old new) (sym (row_is was))
          kept_here);
      elsewhere = λ g is. subst (λ (x : FoundStorage). Spares (IsOutside (shape_in app x).place) old.image new.image)
          (sym (it_is g is)) elsewhere_here;
      outside = λ g is. subst (λ (x : FoundStorage). Quiet old → EachCase
          (IsSettledOn (IsOutside (shape_in app x).place) old.image) old new)
          (sym (it_is g is)) outside_here;
      stands = subst (λ (b : App). StandsThroughout app b old new) (sym world)
          (storing_here laws app (located.says tells).0 located.active (located.says tells).1 number s located.of.config
          lt located.of.in_bank located.of.in_slots next old new says_old outside_here kept_here);
      beside = λ quiet c past. settled_less
          (λ file aside. laws.beside app located.active.bank number file s lt located.of.in_bank located.of.in_slots
          (app_beside app located.active.bank number file located.of.in_bank located.of.in_slots aside))
          (outside_here quiet c past);
      refused = λ err. nothing_on before nothing later (anew.stays tells
          (subst (λ (st : State). IsErr (row st)) (sym was_mid)
          (row_refused a f (row was) (subst (λ (r : Result App PerError). IsErr r) row_into err))));
    }

    stored : (app_at new.image app ≡ record a { states = slice_set a.states number (store_at new.image here) })
        × (IsCleanApp app old.image → IsClean here new.image → IsCleanApp app new.image)
    stored = stored_here laws app (located.says tells).0 located.active (located.says tells).1 number s
        located.of.config lt located.of.in_bank located.of.in_slots old.image new.image elsewhere_here says_old

    -- it is clean where it was, and where it was made
    clean_here : (refused : Option PerError) → result ≡ Ok refused → (refused ≡ None) ⊎ IsClean here old.image
        → IsClean here new.image
    clean_here refused is (inl none) = ok_so result refused _ is (anew.clean tells) (inl none)
    clean_here refused is (inr clean) = ok_so result refused _ is (anew.clean tells)
        (inr (subst (λ (im : Image). IsClean here im) (sym nothing.image) clean))

    made : (refused : Option PerError) → result ≡ Ok refused → IsOk (row was) → refused ≡ None
    made refused is ok =
        let given = ok_so result refused _ is anew.refused in
        row_done refused (row was) (subst (λ (st : State). AnswersRow refused (row st)) (sym (given.1 tells) ∙ was_mid)
        given.2) ok

    pub replaced_imported : OnOk result (Imported app name text old new)
    replaced_imported = if_done result (Imported app name text old new) (λ refused is. record {
      world = stored.0 ∙ ap (λ (st : State). record a { states = slice_set a.states number st })
          (on_so result refused _ is (anew.state tells) ∙ next_mid) ∙ sym world;
      clean = λ g found_so ok. subst (λ (x : FoundStorage). IsClean (shape_in app x) new.image) (sym (it_is g found_so))
          (clean_here refused is (inl (made refused is (subst (λ (r : Result State PerError). IsOk r) (row_is was)
          (subst (λ (x : FoundStorage). IsOk (importing x.config x.state text)) (it_is g found_so) ok)))));
      stays_clean = λ clean. stored.1 clean (clean_here refused is
          (inr (clean_there laws app (located.says tells).0 located.active (located.says tells).1 number s
          located.of.config old.image says_old clean)));
    })
