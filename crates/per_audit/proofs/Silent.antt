-- Where nothing is found every application is intact, and where every application is intact nothing is found.
use Rattle.std.proofs.Common.{◌≡◌, ℕ, suc, List, [], ◌∷◌, ◌++◌, map, Bool, true, false, cond, Option, Some, None, refl}
use Rattle.std.proofs.Common.{sym, ap, ◌∙◌, arith}
use Rattle.std.specs.List.{AllByRecursion, flat_map}
use Rattle.per_base.specs.declared.elements.Entry.{Entry}
use Rattle.per_base.specs.declared.elements.Scope.{Scope}
use Rattle.per_base.specs.declared.elements.Scope.TheVariants as scope
use Rattle.per_base.specs.declared.errors.Unit.{Unit}
use Rattle.per_base.specs.declared.errors.Unit.TheVariants.{Root, Whole, Part}
use Rattle.per_base.specs.declared.reports.Report.{Report}
use Rattle.per_base.specs.declared.reports.ReportKind.{ReportKind}
use Rattle.disk_model.specs.Image.{Image}
use Rattle.value_code.specs.Reading.{is_content}
use Rattle.deployment_model.specs.Data.{StorageData}
use Rattle.element_state.specs.declared.shapes.Shape.{Shape}
use Rattle.element_state.specs.declared.shapes.View.{View}
use Rattle.element_state.specs.Reports.{element_failed, element_recovered, element_reports, is_readable_by}
use Rattle.element_state.specs.Reports.{recovered_reports, report_of, report_some, reports, store_recovered}
use Rattle.element_state.specs.States.{State, Opens, Corrupt, store_at}
use Rattle.deploy_laws.specs.Apps.{Says, nothing, absent, installed, app_at, root_sole, says_at, shapes_named}
use Rattle.deploy_laws.specs.Places.{Named, shapes_from, shapes_if, shapes_in, storage_shape}
use Rattle.per_audit.specs.declared.findings.Finding.{Finding}
use Rattle.per_audit.specs.declared.findings.FindingKind.TheVariants.{Lost}
use Rattle.per_audit.specs.Audits.{damaged_by, each_storage, finding, findings_at, findings_of, is_none_left}
use Rattle.per_audit.specs.Audits.{lacking_named, of_element, of_storage, storages_if, storages_of, unless_sole}
use Rattle.element_state.specs.Chosen.{opened_of}
use Rattle.per_audit.specs.Laws.{IntactIsSoundLaw, IsIntactApp, IsIntactStorage, SilentOpeningLaw, SoundIsIntactLaw}
use Rattle.per_audit.proofs.Lists.{all_silent, flat_silent, nil_join, nil_left, nil_right, range_silent}

-- ---- one unit

lacks_none : (app : ℕ) (bank : Option ℕ) (unit : Unit) (lacking : List ℕ) → damaged_by app bank unit lacking ≡ []
    → lacking ≡ []
lacks_none app bank unit [] e = refl
lacks_none app bank unit (copy ∷ copies) e = cc

is_sole : (sole : Bool) (app : ℕ) (bank : Option ℕ) (unit : Unit) → unless_sole sole app bank unit ≡ []
    → sole ≡ true
is_sole true app bank unit e = refl
is_sole false app bank unit e = cc

none_other : (others : List View) → is_none_left others ≡ true → others ≡ []
none_other [] e = refl
none_other (v ∷ others) e = let false_true : false ≡ true = e in cc

-- ---- an element

report_none : (kind : ReportKind) (shape : Shape) (element : Option (List ℕ)) (copies : List ℕ)
    → report_some kind shape element copies ≡ [] → copies ≡ []
report_none kind shape element [] e = refl
report_none kind shape element (copy ∷ copies) e = cc

module _ (app bank : ℕ) (shape : Shape) (e : Entry) (unit : Unit) (lost : Finding) (report : Report) where
  element_silent : (readable : Bool) (scope : Scope) → cond readable
      (damaged_by app (Some bank) unit (lacking_named scope e.lacking)) (lost ∷ []) ≡ []
      → cond readable (recovered_reports scope shape e) (report ∷ []) ≡ []
  element_silent true scope.Element none =
      ap (report_some (element_recovered shape.kind) shape (Some e.name))
      (lacks_none app (Some bank) unit e.lacking none)
  element_silent true scope.Storage none = refl
  element_silent false scope none = cc

  report_silent : (readable : Bool) (scope : Scope) → cond readable (recovered_reports scope shape e) (report ∷ []) ≡ []
      → cond readable (damaged_by app (Some bank) unit (lacking_named scope e.lacking)) (lost ∷ []) ≡ []
  report_silent true scope.Element none =
      ap (damaged_by app (Some bank) unit) (report_none (element_recovered shape.kind) shape (Some e.name) e.lacking
      none)
  report_silent true scope.Storage none = refl
  report_silent false scope none = cc

-- ---- a storage

module _ (image : Image) (app bank number : ℕ) (s : StorageData) where
  abbrev shape : Shape
  shape = storage_shape app bank number s

  abbrev test : List ℕ → Bool
  test = is_content s.kind

  same_reports : (v : View) → reports (is_content shape.kind) shape v
      ≡ report_some (store_recovered s.kind) shape None v.lacking ++ flat_map (element_reports test shape) v.entries
  unfolding reports storage_shape
  same_reports v = refl

  elements_silent : (entries : List Entry) → flat_map (of_element app bank s) entries ≡ []
      → flat_map (element_reports test shape) entries ≡ []
  unfolding storage_shape
  elements_silent = flat_silent (of_element app bank s) (element_reports test shape)
      (λ e. element_silent app bank shape e (Part s.name e.name)
      (finding app (Some bank) Lost (Part s.name e.name) e.lacking)
      (report_of (element_failed shape.kind) shape (Some e.name) e.lacking) (is_readable_by test e.content) s.scope)

  reports_silent : (entries : List Entry) → flat_map (element_reports test shape) entries ≡ []
      → flat_map (of_element app bank s) entries ≡ []
  unfolding storage_shape
  reports_silent = flat_silent (element_reports test shape) (of_element app bank s)
      (λ e. report_silent app bank shape e (Part s.name e.name)
      (finding app (Some bank) Lost (Part s.name e.name) e.lacking)
      (report_of (element_failed shape.kind) shape (Some e.name) e.lacking) (is_readable_by test e.content) s.scope)

  state_sound : (state : State) → store_at image shape ≡ state → of_storage app bank s state ≡ []
      → IsIntactStorage image shape
  state_sound (Corrupt salvage others) is none = cc
  state_sound (Opens v others) is none =
      let damaged = damaged_by app (Some bank) (Whole s.name) v.lacking in
      let unsettled = unless_sole (is_none_left others) app (Some bank) (Whole s.name) in
      let elements = flat_map (of_element app bank s) v.entries in
      let front = nil_left (damaged ++ unsettled) elements none in
      let whole = lacks_none app (Some bank) (Whole s.name) v.lacking (nil_left damaged unsettled front) in
      let alone = none_other others (is_sole (is_none_left others) app (Some bank) (Whole s.name)
      (nil_right damaged unsettled front)) in
      record {
        view = v;
        opens = is ∙ ap (Opens v) alone;
        whole = whole;
        reports = same_reports v ∙ nil_join (report_some (store_recovered s.kind) shape None v.lacking)
            (flat_map (element_reports test shape) v.entries)
            (ap (report_some (store_recovered s.kind) shape None) whole)
            (elements_silent v.entries (nil_right (damaged ++ unsettled) elements none));
      }

  storage_sound : of_storage app bank s (store_at image shape) ≡ [] → IsIntactStorage image shape
  storage_sound none = state_sound (store_at image shape) refl none

  sound_storage : IsIntactStorage image shape → of_storage app bank s (store_at image shape) ≡ []
  sound_storage is =
      let v = is.view in
      let reported = sym (same_reports v) ∙ is.reports in
      ap (of_storage app bank s) is.opens
      ∙ nil_join (damaged_by app (Some bank) (Whole s.name) v.lacking ++ [])
      (flat_map (of_element app bank s) v.entries)
      (nil_join (damaged_by app (Some bank) (Whole s.name) v.lacking) []
      (ap (damaged_by app (Some bank) (Whole s.name)) is.whole) refl)
      (reports_silent v.entries (nil_right (report_some (store_recovered s.kind) shape None v.lacking)
      (flat_map (element_reports test shape) v.entries) reported))

-- ---- the storages of both versions

module _ (image : Image) (app : ℕ) where
  abbrev AreSound : List Shape → Type 0
  AreSound shapes = AllByRecursion (IsIntactStorage image) shapes

  abbrev found : List (ℕ × StorageData) → List Shape → List Finding
  found storages shapes = each_storage (of_storage app) storages (map (store_at image) shapes)

  each_sound : (bank number : ℕ) (ss : List StorageData) (rest : List (ℕ × StorageData)) (shapes : List Shape)
      → (found rest shapes ≡ [] → AreSound shapes)
      → found (map (λ s. (bank, s)) ss ++ rest) (shapes_from app bank number ss ++ shapes) ≡ []
      → AreSound (shapes_from app bank number ss ++ shapes)
  each_sound bank number [] rest shapes then none = then none
  each_sound bank number (s ∷ ss) rest shapes then none =
      let here = of_storage app bank s (store_at image (storage_shape app bank number s)) in
      let later = found (map (λ s. (bank, s)) ss ++ rest) (shapes_from app bank (suc number) ss ++ shapes) in (
        storage_sound image app bank number s (nil_left here later none),
        each_sound bank (suc number) ss rest shapes then (nil_right here later none),
      )

  sound_each : (bank number : ℕ) (ss : List StorageData) (rest : List (ℕ × StorageData)) (shapes : List Shape)
      → (AreSound shapes → found rest shapes ≡ [])
      → AreSound (shapes_from app bank number ss ++ shapes)
      → found (map (λ s. (bank, s)) ss ++ rest) (shapes_from app bank number ss ++ shapes) ≡ []
  sound_each bank number [] rest shapes then all = then all
  sound_each bank number (s ∷ ss) rest shapes then all =
      nil_join (of_storage app bank s (store_at image (storage_shape app bank number s)))
      (found (map (λ s. (bank, s)) ss ++ rest) (shapes_from app bank (suc number) ss ++ shapes))
      (sound_storage image app bank number s all.0) (sound_each bank (suc number) ss rest shapes then all.1)

  -- of one version alone
  version_sound : (bank number : ℕ) (ss : List StorageData)
      → found (map (λ s. (bank, s)) ss) (shapes_from app bank number ss) ≡ []
      → AreSound (shapes_from app bank number ss)
  version_sound bank number [] none = tt
  version_sound bank number (s ∷ ss) none =
      let here = of_storage app bank s (store_at image (storage_shape app bank number s)) in
      let later = found (map (λ s. (bank, s)) ss) (shapes_from app bank (suc number) ss) in (
        storage_sound image app bank number s (nil_left here later none),
        version_sound bank (suc number) ss (nil_right here later none),
      )

  sound_version : (bank number : ℕ) (ss : List StorageData) → AreSound (shapes_from app bank number ss)
      → found (map (λ s. (bank, s)) ss) (shapes_from app bank number ss) ≡ []
  sound_version bank number [] all = refl
  sound_version bank number (s ∷ ss) all =
      nil_join (of_storage app bank s (store_at image (storage_shape app bank number s)))
      (found (map (λ s. (bank, s)) ss) (shapes_from app bank (suc number) ss))
      (sound_storage image app bank number s all.0) (sound_version bank (suc number) ss all.1)

  previous_sound : (previous : Option Named) → found (storages_if previous) (shapes_if app previous) ≡ []
      → AreSound (shapes_if app previous)
  previous_sound None none = tt
  previous_sound (Some v) none = version_sound v.bank 0 v.deployment.storages none

  sound_previous : (previous : Option Named) → AreSound (shapes_if app previous)
      → found (storages_if previous) (shapes_if app previous) ≡ []
  sound_previous None all = refl
  sound_previous (Some v) all = sound_version v.bank 0 v.deployment.storages all

  -- ---- an application

  pub record IsSound (says : Says) (lacking : List ℕ) (sole : Bool) : Type 0 where
    pub says_some : ¬ (says ≡ nothing)
    pub whole : lacking ≡ []
    pub is_sole : sole ≡ true
    pub storages : AreSound (shapes_named app says)

  -- what is found of an application whose root says this
  abbrev found_of : Says → (lacking : List ℕ) → (sole : Bool) → List Finding
  found_of says lacking sole = findings_of app sole
      (record { says = says; lacking = lacking; states = map (store_at image) (shapes_named app says) })

  says_sound : (says : Says) (lacking : List ℕ) (sole : Bool) → found_of says lacking sole ≡ []
      → IsSound says lacking sole
  unfolding findings_of shapes_named
  says_sound nothing lacking sole none = cc
  says_sound (absent g) lacking sole none =
      let damaged = damaged_by app None Root lacking in
      let unsettled = unless_sole sole app None Root in
      let front = nil_left (damaged ++ unsettled) [] none in
      record {
        says_some = λ e. let same : absent g ≡ nothing = e in cc;
        whole = lacks_none app None Root lacking (nil_left damaged unsettled front);
        is_sole = is_sole sole app None Root (nil_right damaged unsettled front);
        storages = tt;
      }
  says_sound (installed g active previous) lacking sole none =
      let damaged = damaged_by app None Root lacking in
      let unsettled = unless_sole sole app None Root in
      let rest = found (storages_of active ++ storages_if previous) (shapes_in app active ++ shapes_if app previous) in
      let front = nil_left (damaged ++ unsettled) rest none in
      record {
        says_some = λ e. let same : installed g active previous ≡ nothing = e in cc;
        whole = lacks_none app None Root lacking (nil_left damaged unsettled front);
        is_sole = is_sole sole app None Root (nil_right damaged unsettled front);
        storages = each_sound active.bank 0 active.deployment.storages (storages_if previous) (shapes_if app previous)
            (previous_sound previous)
            (nil_right (damaged ++ unsettled) rest none);
      }

  root_silent : (lacking : List ℕ) (sole : Bool) → lacking ≡ [] → sole ≡ true
      → damaged_by app None Root lacking ++ unless_sole sole app None Root ≡ []
  root_silent lacking sole whole alone = nil_join (damaged_by app None Root lacking)
      (unless_sole sole app None Root)
      (ap (damaged_by app None Root) whole) (ap (λ (b : Bool). unless_sole b app None Root) alone)

  sound_says : (says : Says) (lacking : List ℕ) (sole : Bool) → IsSound says lacking sole
      → found_of says lacking sole ≡ []
  unfolding findings_of shapes_named
  sound_says nothing lacking sole is = absurd (is.says_some refl)
  sound_says (absent g) lacking sole is =
      nil_join (damaged_by app None Root lacking ++ unless_sole sole app None Root) []
      (root_silent lacking sole is.whole is.is_sole) refl
  sound_says (installed g active previous) lacking sole is =
      nil_join (damaged_by app None Root lacking ++ unless_sole sole app None Root)
      (found (storages_of active ++ storages_if previous) (shapes_in app active ++ shapes_if app previous))
      (root_silent lacking sole is.whole is.is_sole)
      (sound_each active.bank 0 active.deployment.storages (storages_if previous) (shapes_if app previous)
      (sound_previous previous) is.storages)

  app_sound : findings_of app (root_sole image app) (app_at image app) ≡ [] → IsIntactApp image app
  unfolding app_at
  app_sound none =
      let is = says_sound (says_at image app) (app_at image app).lacking (root_sole image app) none in
      record { says = is.says_some; whole = is.whole; sole = is.is_sole; storages = is.storages }

  sound_app : IsIntactApp image app → findings_of app (root_sole image app) (app_at image app) ≡ []
  unfolding app_at
  sound_app is = sound_says (says_at image app) (app_at image app).lacking (root_sole image app)
      (record { says_some = is.says; whole = is.whole; is_sole = is.sole; storages = is.storages })

-- ---- a disk

pub intact_disk : SoundIsIntactLaw
unfolding findings_at
intact_disk image none app lt = app_sound image app
    (range_silent (λ app. findings_of app (root_sole image app) (app_at image app)) 0 8 app none (omega arith)
    (omega (arith, lt)))

pub sound_disk : IntactIsSoundLaw
unfolding findings_at
sound_disk image every =
    all_silent (λ app. findings_of app (root_sole image app) (app_at image app)) 0 8
    (λ app low lt. sound_app image app (every app (omega (arith, lt))))

-- ---- an opening

pub silent_opening : SilentOpeningLaw
silent_opening image of given is opened =
    let seen : Some is.view ≡ Some opened.before = sym (ap opened_of is.opens) ∙ opened.seen refl in
    let same : is.view ≡ opened.before = cc in
    opened.reports ∙ sym (ap (λ (v : View). reports (is_content of.kind) of v) same) ∙ is.reports
