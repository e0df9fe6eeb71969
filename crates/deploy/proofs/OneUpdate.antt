-- An update in one call: it begins, which writes nothing, and what began is committed.
use Rattle.std.proofs.Common.{◌≡◌, ℕ, ◌<◌, List, [], length, Bool, IsTrue, Option, None, Some, inl, inr, refl, sym, ap}
use Rattle.std.proofs.Common.{◌∙◌, subst}
use Rattle.std.specs.Prelude.{Result, Ok, Err, IfOk, IsErr, IsErrAnd, IsErrOf, IsOk, OnOk, map}
use Rattle.per_base.specs.declared.errors.PerError.{PerError}
use Rattle.disk_model.specs.Image.{Image}
use Rattle.disk_model.specs.Laws.{goes_on}
use Rattle.disk_model.specs.Medium.{EachCase, Elapses, IsIdle, Medium, Quiet}
use Rattle.disk_model.specs.lemmas.Frames.{settled_on}
use Rattle.element_state.specs.States.{State, store_at}
use Rattle.migrate_fns.specs.Rules.{Rule}
use Rattle.migrate_fns.specs.Rules as fns
use Rattle.deploy_laws.specs.Apps.{App, IsCleanApp, Says, absent, app_at, installed, nothing, shapes_named}
use Rattle.deploy_laws.specs.Laws.{StillAppLaw}
use Rattle.deploy_laws.specs.Places.{IsFileOf}
use Rattle.deploy_laws.specs.Stands.{IsLater, StandsCase, StandsThroughout}
use Rattle.deploy_rows.specs.Laws.{UpdateLaterLaw}
use Rattle.deploy_rows.specs.Rows.{BeginsUpdate, BeginsWith, InProgress, Offer, UpdateMayLead, offered, updated_app}
use Rattle.deploy.specs.declared.roots.Outcome.{Outcome}
use Rattle.deploy.specs.declared.roots.Root.{Root}
use Rattle.deploy.specs.declared.updating.Begin.{Begin}
use Rattle.deploy.specs.declared.updating.Begin.TheVariants as begin
use Rattle.deploy.specs.declared.updating.Staged.{Staged}
use Rattle.deploy.specs.Building.{IsUpdateBegun, StagedAt, begun_as, staged_progress, staged_root}
use Rattle.deploy.specs.Clauses.{IsBesideNext, Leaves}
use Rattle.deploy.specs.Laws.{RootInUseLaw}
use Rattle.deploy.specs.Remaining.{IsBesideCommit}
use Rattle.deploy.specs.Roots.{RootAt, free_bank, root_app, root_says}
use Rattle.deploy.specs.Updates.{IsUpdated, LeadsTo}
use Rattle.deploy.proofs.Leaves.{leaves_on}
use Rattle.deploy.proofs.NextVersion.{leaves_whole}
use Rattle.deploy.proofs.Offers.{offered_alike}
use Rattle.deploy.proofs.StagedMore.{few_storages}

-- ---- results

as_it_was : {T E : Type 0} {e : E} (result : Result T E) → IsErrAnd result (λ x. x ≡ e) → result ≡ Err e
as_it_was {T} {E} {e} (Ok x) is = absurd is
as_it_was {T} {E} {e} (Err d) is = ap (λ (y : E). Err y) is

on_ok : {T E P : Type 0} (result : Result T E) → P → OnOk result P
on_ok (Ok x) holds = holds
on_ok (Err e) holds = tt

on_ok_of : {T E P Q : Type 0} (result : Result T E) → (P → Q) → OnOk result P → OnOk result Q
on_ok_of (Ok x) less holds = less holds
on_ok_of (Err e) less holds = tt

pub never_ok : {T E : Type 0} (P : Type 0) (result : Result T E) → IsErr result → OnOk result P
never_ok P (Ok x) err = absurd cc
never_ok P (Err e) err = tt

pub never : {A : Type 0} (row : Result A PerError) (e : PerError) → IsOk row → row ≡ Err e → ⊥
never {A} (Ok x) e ok err = cc
never {A} (Err f) e ok err = cc

-- an error that is passed on
module _ {T E : Type 0} (result : Result T E) (e : E) (passed : IsErrAnd result (λ x. x ≡ e)) where
  passed_on : result ≡ Err e
  passed_on = as_it_was result passed

  pub none_ok : (P : T → Type 0) → IfOk result P
  none_ok P = subst (λ (r : Result T E). IfOk r P) (sym passed_on) tt

  pub not_ok : (P : Type 0) → OnOk result P
  not_ok P = subst (λ (r : Result T E). OnOk r P) (sym passed_on) tt

  -- it is the error that failed
  pub same_error : {U : Type 0} (d : E) → result ≡ Err d → IsErrOf {T = U} (Err e) d
  same_error {U} d is =
      let both = sym passed_on ∙ is in
      let same : e ≡ d = cc in
      ap (λ (x : E). Err x) same

-- ---- what begins

-- where the root is in use, the application is what the root says
pub app_in_use : RootInUseLaw → (image : Image) (app : ℕ) (told : Bool) (root : Root) (states : List State)
    → RootAt told image app root → IsTrue told
    → (app_at image app).states ≡ states → app_at image app ≡ root_app root states
app_in_use in_use image app told root states at tells theirs =
    let is : app_at image app ≡ root_app root (map (store_at image) (shapes_named app (root_says root))) =
    in_use image app root at.memory (at.disk tells) in
    is ∙ ap (λ (xs : List State). root_app root xs) (sym (ap (λ (a : App). a.states) is) ∙ theirs)

offer_of_row : (rules : List Rule) (answers : fns.Answers) (now : ℕ) (states : List State)
    (offer : Result Offer PerError) (p : InProgress)
    → BeginsWith rules answers now states offer (Ok p) → IsOk offer
offer_of_row rules answers now states (Ok o) p begins = refl
offer_of_row rules answers now states (Err e) p begins = absurd cc

-- what the next root says does not depend on the states
says_by : (p : InProgress) (lacking : List ℕ) (xs ys : List State) (s : Says)
    → (updated_app p (record { says = s; lacking = lacking; states = xs })).says
    ≡ (updated_app p (record { says = s; lacking = lacking; states = ys })).says
unfolding updated_app
says_by p lacking xs ys nothing = refl
says_by p lacking xs ys (absent g) = refl
says_by p lacking xs ys (installed g active previous) = refl

-- ---- a disk that was read alone, and then written

-- a read leaves all files alone
pub leaves_read : (told : Bool) (Files : ℕ → Type 0) (old mid : Medium) → (Quiet old → IsIdle old mid)
    → mid.image ≡ old.image → Leaves told Files old mid
leaves_read told Files old mid idle same = record {
  at_the_end = λ tells f is. ap (λ (i : Image). i f) same;
  throughout = λ tells quiet c past. settled_on Files ((idle quiet).during c past);
}

module _ (app : ℕ) (old mid new : Medium) (first : Elapses old mid) (next : Elapses mid new)
    (idle : Quiet old → IsIdle old mid) (same : mid.image ≡ old.image) where
  pub leaves_then : (told : Bool) (Files : ℕ → Type 0) → Leaves told Files mid new → Leaves told Files old new
  leaves_then told Files leaves =
      leaves_on told Files old mid new first next (λ quiet. (idle quiet).quiet)
      (leaves_read told Files old mid idle same) leaves

  pub stands_then : StillAppLaw → app < 8 → (after : App) → IsLater (app_at old.image app) after
      → StandsThroughout app after mid new
      → StandsThroughout app after old new
  stands_then still lt after later stands quiet clean = goes_on (StandsCase app (app_at old.image app) after) first next
      (λ c past. still app old.image after c lt clean (settled_on (IsFileOf app)
      ((idle quiet).during c past)) later)
      (subst (λ (i : Image). EachCase (StandsCase app (app_at i app) after) mid new) same
      (stands (idle quiet).quiet (subst (λ (i : Image). IsCleanApp app i) (sym same) clean)))

-- ---- the call

module _ (rules : List Rule) (answers : fns.Answers) (now : ℕ) (busy : Option (List ℕ)) (text : List ℕ) (app : ℕ) where
  abbrev pub Row : App → Result InProgress PerError → Type 0
  Row a row = BeginsUpdate rules answers now busy text a row

  abbrev pub May : App → App → Type 0
  May before after = UpdateMayLead rules answers now busy text before after

  -- nothing is led on: it was refused, or stopped before its commit
  pub leads_nowhere : {T E : Type 0} (result : Result T E) (old new : Medium) → new.image ≡ old.image
      → StandsThroughout app (app_at old.image app) old new → LeadsTo app (May (app_at old.image app)) result old new
  leads_nowhere {T} {E} result old new same stands = record {
    next = app_at old.image app;
    may = inl refl;
    throughout = stands;
    at_the_end = on_ok result (ap (λ (i : Image). app_at i app) same);
  }

  module _ (told : Bool) (old mid : Medium) (r : Root) (b : Begin)
      (begins : (states : List State) × (IsTrue told → (app_at old.image app).states ≡ states)
      × Row (root_app r states) (begun_as b))
      (begun : IsUpdateBegun told mid.image app r b) (same : mid.image ≡ old.image) where
    -- ---- it is refused

    module _ (t : Root) (e : PerError) (is : b ≡ begin.Refused t e) (o : Outcome)
        (answer : o ≡ record { root = t; refused = Some e }) where
      handed_back : (t ≡ r) × RootAt told mid.image app t
      handed_back = subst (λ (x : Begin). IsUpdateBegun told mid.image app r x) is begun

      pub root_refused : RootAt told mid.image app o.root
      root_refused = subst (λ (x : Outcome). RootAt told mid.image app x.root) (sym answer) handed_back.1

      pub same_refused : o.root ≡ r
      same_refused = ap (λ (x : Outcome). x.root) answer ∙ handed_back.0

      pub is_refused : o.refused ≡ None → ⊥
      is_refused none = let some : o.refused ≡ Some e = ap (λ (x : Outcome). x.refused) answer in cc

      pub updated_not : IsUpdated told Row app old.image mid.image r o
      updated_not = subst (λ (x : Outcome). IsUpdated told Row app old.image mid.image r x) (sym answer) (record {
        states = begins.0;
        row = Err e;
        theirs = begins.1;
        begins = subst (λ (x : Begin). Row (root_app r begins.0) (begun_as x)) is begins.2;
        refused = refl;
        says = ap root_says handed_back.0;
        leads = λ tells. ap (λ (i : Image). app_at i app) same;
      })

    -- ---- it is committed

    module _ (s : Staged) (is : b ≡ begin.Ready s) where
      ready : StagedAt told mid.image app s × (staged_root s ≡ r)
      ready = subst (λ (x : Begin). IsUpdateBegun told mid.image app r x) is begun

      pub of_app : s.app ≡ app
      of_app = ready.0.memory.of_app

      pub staged_at : StagedAt told mid.image s.app s
      staged_at = subst (λ (n : ℕ). StagedAt told mid.image n s) (sym of_app) ready.0

      pub over_root : staged_root s ≡ r
      over_root = ready.1

      pub begins_ready : Row (root_app r begins.0) (Ok (staged_progress s))
      begins_ready = subst (λ (x : Begin). Row (root_app r begins.0) (begun_as x)) is begins.2

      pub was_offered : IsOk (offered busy text (root_app r []))
      was_offered = subst (λ (o : Result Offer PerError). IsOk o) (offered_alike busy text r begins.0)
          (offer_of_row rules answers now begins.0 (offered busy text (root_app r begins.0)) (staged_progress s)
          begins_ready)

      -- what it leads to, over what the disk says
      abbrev pub led : App
      led = updated_app (staged_progress s) (app_at old.image app)

      may_lead : RootInUseLaw → RootAt told old.image app r → IsTrue told → May (app_at old.image app) led
      may_lead in_use at tells = inr (
        Ok (staged_progress s),
        subst (λ (a : App). Row a (Ok (staged_progress s))) (sym
            (app_in_use in_use old.image app told r begins.0 at tells (begins.1 tells))) begins_ready,
        refl,
      )

      -- what is said of the application that was given, of that of the update in progress
      pub clause_from : (P : ℕ → Type 0) → P app → P s.app
      clause_from P holds = subst P (sym of_app) holds

      module _ (new : Medium) where
        -- and the other way round
        pub clause_of : (P : ℕ → Type 0) → P s.app → P app
        clause_of P holds = subst P of_app holds

        app_led : (app_at new.image s.app ≡ updated_app (staged_progress s) (app_at mid.image s.app))
            → app_at new.image app ≡ led
        app_led is = subst (λ (i : Image). app_at new.image app ≡ updated_app (staged_progress s) (app_at i app)) same
            (clause_of (λ n. app_at new.image n ≡ updated_app (staged_progress s) (app_at mid.image n)) is)

        pub updated_so : (next : Root) → root_says next ≡ (updated_app (staged_progress s)
            (root_app (staged_root s) [])).says
            → (IsTrue told → app_at new.image s.app ≡ updated_app (staged_progress s) (app_at mid.image s.app))
            → IsUpdated told Row app old.image new.image r (record { root = next; refused = None })
        updated_so next says app_is = record {
          states = begins.0;
          row = Ok (staged_progress s);
          theirs = begins.1;
          begins = begins_ready;
          refused = tt;
          says = says ∙ ap (λ (x : Root). (updated_app (staged_progress s) (root_app x [])).says) over_root
              ∙ says_by (staged_progress s) [] [] begins.0 (root_says r);
          leads = λ tells. app_led (app_is tells);
        }

        module _ (first : Elapses old mid) (next : Elapses mid new) (idle : Quiet old → IsIdle old mid) where
          pub leaves_led : Leaves told (IsBesideCommit s.app (free_bank (staged_root s)) s.built
              (length s.contents.items))
              mid new
              → Leaves told (IsBesideNext app (free_bank r)) old new
          leaves_led leaves = leaves_then app old mid new first next idle same told (IsBesideNext app (free_bank r))
              (subst (λ (x : Root). Leaves told (IsBesideNext app (free_bank x)) mid new) over_root
              (clause_of (λ n. Leaves told (IsBesideNext n (free_bank (staged_root s))) mid new)
              (leaves_whole told s.app (free_bank (staged_root s)) s.built (length s.contents.items) mid new leaves
              (few_storages app s ready.0.memory).0)))

          module _ (in_use : RootInUseLaw) (later : UpdateLaterLaw) (still : StillAppLaw) (lt : app < 8)
              (at : RootAt told old.image app r) (tells : IsTrue told)
              (stands : StandsThroughout s.app (updated_app (staged_progress s) (app_at mid.image s.app)) mid new) where
            stands_led : StandsThroughout app led old new
            stands_led = stands_then app old mid new first next idle same still lt led
                (later (staged_progress s) (app_at old.image app))
                (subst (λ (i : Image). StandsThroughout app (updated_app (staged_progress s) (app_at i app)) mid new)
                same
                (clause_of (λ n. StandsThroughout n (updated_app (staged_progress s) (app_at mid.image n)) mid new)
                stands))

            pub leads_led : {T E : Type 0} (result : Result T E)
                → OnOk result (app_at new.image s.app ≡ updated_app (staged_progress s) (app_at mid.image s.app))
                → LeadsTo app (May (app_at old.image app)) result old new
            leads_led {T} {E} result is = record {
              next = led;
              may = may_lead in_use at tells;
              throughout = stands_led;
              at_the_end = on_ok_of result app_led is;
            }
