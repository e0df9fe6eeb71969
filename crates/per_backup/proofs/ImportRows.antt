-- The contents of an export as those of a storage that is made.
use Rattle.std.proofs.Common.{◌≡◌, ℕ, ◌≤◌, slice_get, slice_set, Bool, true, false, cond, List, [], ◌∷◌, length, map}
use Rattle.std.proofs.Common.{Option, Some, None, Result, Ok, Err, refl, sym, ap, ◌∙◌, subst, true≢false, suc, arith}
use Rattle.std.specs.Prelude.{IsTrue, nat_lt, sum_by}
use Rattle.std.specs.List.{AllByRecursion}
use Rattle.std.proofs.lemmas.Bool.{cond-true, cond-false}
use Rattle.per_base.specs.declared.elements.Entry.{Entry}
use Rattle.per_base.specs.declared.elements.Fresh.{Fresh}
use Rattle.per_base.specs.declared.elements.StoreKind.{StoreKind}
use Rattle.per_base.specs.declared.elements.StoreKind.TheVariants.{Keys, Files}
use Rattle.per_base.specs.declared.errors.PerError.{PerError}
use Rattle.per_base.specs.declared.errors.Limit.TheVariants as limit
use Rattle.per_base.specs.declared.errors.PerError.TheVariants as error
use Rattle.per_base.specs.declared.errors.PerError.TheVariants.{ExportRejected}
use Rattle.per_base.specs.Refusals.{refused_by}
use Rattle.per_base.specs.Fields.{AreBytes}
use Rattle.value_code.specs.Reading.{is_content}
use Rattle.index_text.specs.Contents.{SuitsKind, fresh_size}
use Rattle.deployment_model.specs.Conditions.{IsDeployment}
use Rattle.deployment_model.specs.Data.{DeploymentData, StorageData}
use Rattle.element_state.specs.States.{State, Corrupt, Opens, fresh_entry, fresh_element, fresh_map, fresh_state}
use Rattle.element_state.specs.States.{next_generation, salvage_of}
use Rattle.update_plan.specs.Plans.{is_kind}
use Rattle.deployment_model.specs.Lookups.{storage_named, storage_number}
use Rattle.manifest.specs.Reading.{broken_rule, deployment_in}
use Rattle.deploy_laws.specs.Places.{Named}
use Rattle.deploy_laws.specs.Apps.{App, Says, absent, installed, nothing, says_generation}
use Rattle.deploy_rows.specs.Recovering.{if_contents_fit, is_worn_out, rebuilding}
use Rattle.deploy_rows.specs.Rows.{◌>>=◌, deployment_of, said_or_broken}
use Rattle.deploy.specs.Recovered.{AreElements}
use Rattle.export_text.specs.declared.exports.Export.{Export}
use Rattle.export_text.specs.Exports.{AreExportable, IsExport, IsExportable, export_of, export_text}
use Rattle.export_text.specs.Exports as exports
use Rattle.run_model.specs.Found.{FoundStorage, found_at, found_in, found_with, storage_in, with_storage_state}
use Rattle.per_backup.specs.Backups.{export_for, exported_contents, exported_from, exporting, fresh_of, importing}
use Rattle.per_backup.specs.Backups.{dumping, exports_of, importing_into, least_mismatch, made_from, restored_app}
use Rattle.per_backup.specs.Backups.{restoring, states_from, taken, text_from}
use Rattle.per_backup.specs.Laws.{AgainLaw, ExportedLaw, ImportsLaw, RestoredLaw}
use Rattle.per_backup.proofs.ExportRows.{fresh_counts}
use Rattle.per_backup.proofs.Lists.{get_set, no_ok, ok_same, some_same}
use Rattle.per_backup.proofs.Rows.{exporting_found, importing_found, importing_missing, with_row}

-- ---- the rules of the elements of an export are those of the elements of a storage

elements_each : (kind : StoreKind) (fs : List Fresh) → AllByRecursion (IsExportable kind) fs
    → AllByRecursion (SuitsKind kind) fs
elements_each kind [] each = tt
elements_each kind (f ∷ fs) each = (record { info = each.0.info; small = each.0.len }, elements_each kind fs each.1)

pub are_elements : (kind : StoreKind) (fs : List Fresh) → AreExportable kind fs → AreElements kind fs
are_elements kind fs are = record { each = elements_each kind fs are.each; names_ascend = are.ascend; few = are.few }

-- ---- the kinds of storages

pub kind_is : (one other : StoreKind) → is_kind one other ≡ true → one ≡ other
kind_is Keys Keys is = refl
kind_is Keys Files is = absurd (true≢false (sym is))
kind_is Files Keys is = absurd (true≢false (sym is))
kind_is Files Files is = refl

-- ---- the rows of an import

row_of : (s : StorageData) (state : State) (text : List ℕ) (found : Option Export) → export_of text ≡ found
    → importing s state text ≡ (export_for s.kind found >>= λ x.
    refused_by (least_mismatch s x.contents) (if_contents_fit s state x.contents))
unfolding importing
row_of s state text found is = ap (λ (o : Option Export). export_for s.kind o >>= λ x.
    refused_by (least_mismatch s x.contents) (if_contents_fit s state x.contents)) is

pub row_rejected : (s : StorageData) (text : List ℕ) → export_of text ≡ None → (state : State)
    → importing s state text ≡ Err ExportRejected
row_rejected s text is state = row_of s state text None is

row_kind : (s : StorageData) (text : List ℕ) (x : Export) → export_of text ≡ Some x → (b : Bool)
    → is_kind s.kind x.kind ≡ b → (state : State)
    → importing s state text ≡ (cond b (Ok x) (Err ExportRejected) >>= λ y.
    refused_by (least_mismatch s y.contents) (if_contents_fit s state y.contents))
row_kind s text x is b same state = row_of s state text (Some x) is
    ∙ ap (λ (c : Bool). cond c (Ok x) (Err ExportRejected) >>= λ y.
    refused_by (least_mismatch s y.contents) (if_contents_fit s state y.contents)) same

pub row_other : (s : StorageData) (text : List ℕ) (x : Export) → export_of text ≡ Some x → is_kind s.kind x.kind ≡ false
    → (state : State) → importing s state text ≡ Err ExportRejected
row_other s text x is differ state = row_kind s text x is false differ state

pub row_taken : (s : StorageData) (text : List ℕ) (x : Export) → export_of text ≡ Some x → is_kind s.kind x.kind ≡ true
    → (state : State)
    → importing s state text ≡ refused_by (least_mismatch s x.contents) (if_contents_fit s state x.contents)
row_taken s text x is same state = row_kind s text x is true same state

pub row_typed : (s : StorageData) (text : List ℕ) (x : Export) → export_of text ≡ Some x → is_kind s.kind x.kind ≡ true
    → (e : PerError) → least_mismatch s x.contents ≡ Some e
    → (state : State) → importing s state text ≡ Err e
row_typed s text x is same e typed state = row_taken s text x is same state
    ∙ ap (λ (o : Option PerError). refused_by o (if_contents_fit s state x.contents)) typed

pub row_fits : (s : StorageData) (text : List ℕ) (x : Export) → export_of text ≡ Some x → is_kind s.kind x.kind ≡ true
    → least_mismatch s x.contents ≡ None
    → (fs : List Fresh) → fs ≡ x.contents → (state : State) → importing s state text ≡ if_contents_fit s state fs
row_fits s text x is same typed fs are state = row_taken s text x is same state
    ∙ ap (λ (o : Option PerError). refused_by o (if_contents_fit s state x.contents)) typed
    ∙ ap (λ (gs : List Fresh). if_contents_fit s state gs) (sym are)

pub elements_taken : (kind : StoreKind) (x : Export) → IsExport x → is_kind kind x.kind ≡ true → (fs : List Fresh)
    → fs ≡ x.contents → AreElements kind fs
elements_taken kind x rules same fs are = subst (λ (gs : List Fresh). AreElements kind gs) (sym are)
    (are_elements kind x.contents (subst (λ (k : StoreKind). AreExportable k x.contents)
    (sym (kind_is kind x.kind same)) rules.rules))

-- ---- what an import that is done makes

abbrev row_by : (large worn : Bool) → StorageData → State → List Fresh → Result State PerError
row_by large worn s state fs = cond large (Err (error.OutOfStorageSpace (sum_by fresh_size fs) s.maximum))
    (cond worn (Err (error.LimitReached limit.Generations))
    (Ok (fresh_state (next_generation (salvage_of state)) (fresh_map fs))))

made_so : (large worn : Bool) (s : StorageData) (state : State) (fs : List Fresh) (next : State)
    → row_by large worn s state fs ≡ Ok next
    → next ≡ fresh_state (next_generation (salvage_of state)) (fresh_map fs)
made_so true worn s state fs next is = absurd (no_ok _ next is)
made_so false true s state fs next is = absurd (no_ok _ next is)
made_so false false s state fs next is = sym (ok_same (fresh_state (next_generation (salvage_of state)) (fresh_map fs))
    next is)

fits_made : (s : StorageData) (state : State) (fs : List Fresh) (next : State) → if_contents_fit s state fs ≡ Ok next
    → next ≡ fresh_state (next_generation (salvage_of state)) (fresh_map fs)
fits_made s state fs next is = made_so (nat_lt s.maximum (sum_by fresh_size fs)) (is_worn_out (salvage_of state)) s
    state fs next is

-- an import that is done read an export of the storage's kind, and made exactly its contents
record IsMade (s : StorageData) (state : State) (text : List ℕ) (next : State) : Type 0 where
  pub spelled : Export
  pub read : export_of text ≡ Some spelled
  pub kind : spelled.kind ≡ s.kind
  pub made : next ≡ fresh_state (next_generation (salvage_of state)) (fresh_map spelled.contents)

unless_done : {A : Type 0} (refused : Option PerError) (row : Result A PerError) (x : A) → refused_by refused row ≡ Ok x
    → row ≡ Ok x
unless_done None row x is = is
unless_done (Some e) row x is = absurd (no_ok e x is)

made_by : (s : StorageData) (state : State) (text : List ℕ) (next : State) (found : Option Export)
    → export_of text ≡ found
    → (export_for s.kind found >>= λ x. refused_by (least_mismatch s x.contents) (if_contents_fit s state x.contents))
    ≡ Ok next
    → IsMade s state text next
made_by s state text next None read is = absurd (no_ok ExportRejected next is)
made_by s state text next (Some x) read is = by (is_kind s.kind x.kind) refl is
  where
    by : (b : Bool) → is_kind s.kind x.kind ≡ b → (cond b (Ok x) (Err ExportRejected) >>= λ y.
        refused_by (least_mismatch s y.contents) (if_contents_fit s state y.contents)) ≡ Ok next
        → IsMade s state text next
    by false kind is = absurd (no_ok ExportRejected next is)
    by true kind is = record {
      spelled = x;
      read = read;
      kind = sym (kind_is s.kind x.kind kind);
      made = fits_made s state x.contents next (unless_done (least_mismatch s x.contents)
          (if_contents_fit s state x.contents)
          next is);
    }

is_made : (s : StorageData) (state : State) (text : List ℕ) (next : State) → importing s state text ≡ Ok next
    → IsMade s state text next
is_made s state text next is = made_by s state text next (export_of text) refl
    (sym (row_of s state text (export_of text) refl) ∙ is)

pub imports : ImportsLaw
imports s state text x next read is = let m = is_made s state text next is in
    m.made ∙ ap (λ (y : Export). fresh_state (next_generation (salvage_of state)) (fresh_map y.contents))
    (some_same m.spelled x (sym m.read ∙ read))

-- ---- what was exported

-- of export_text
abbrev pub SpelledLaw : Type 0
SpelledLaw = (x : Export) → IsExport x → export_of (export_text x) ≡ Some x

abbrev pub TakenLaw : Type 0
TakenLaw = (text : List ℕ) (x : Export) → AreBytes text → export_of text ≡ Some x → IsExport x × (text ≡ export_text x)

kind_from : (from : StorageData) (old : State) (x : Export) → exported_from from old ≡ Ok x → x.kind ≡ from.kind
kind_from from (Corrupt salvage others) x is = absurd (no_ok _ x is)
kind_from from (Opens v others) x is = by (exported_contents from v.entries) is
  where
    by : (r : Result (List Fresh) PerError) → (r >>= λ contents. Ok (record { kind = from.kind; contents = contents }))
        ≡ Ok x → x.kind ≡ from.kind
    by (Err e) is = absurd (no_ok e x is)
    by (Ok fs) is = ap (λ (y : Export). y.kind) (sym (ok_same (record { kind = from.kind; contents = fs }) x is))

pub exported : SpelledLaw → ExportedLaw
exported spelled from into old state x is rules same =
    row_taken into (export_text x) x (spelled x rules) (ap (is_kind into.kind) (kind_from from old x is) ∙ same) state

-- ---- and again

fresh_again : (s : StorageData) (generation : ℕ) (f : Fresh) → IsTrue (is_content s.kind f.bytes)
    → fresh_of s (fresh_entry generation (fresh_element f)) ≡ Ok f
fresh_again s generation f counts = fresh_counts s (fresh_entry generation (fresh_element f)) f.bytes refl counts

contents_again : (s : StorageData) (generation : ℕ) (fs : List Fresh) → AllByRecursion (IsExportable s.kind) fs
    → exported_contents s (map (fresh_entry generation) (fresh_map fs)) ≡ Ok fs
contents_again s generation [] each = refl
contents_again s generation (f ∷ fs) each =
    ap (λ (r : Result Fresh PerError). r >>= λ g. exported_contents s
    (map (fresh_entry generation) (fresh_map fs)) >>= λ gs.
    Ok (g ∷ gs))
    (fresh_again s generation f each.0.content)
    ∙ ap (λ (r : Result (List Fresh) PerError). r >>= λ gs. Ok (f ∷ gs)) (contents_again s generation fs each.1)

text_again : (s : StorageData) (generation : ℕ) (x : Export) → IsExport x → x.kind ≡ s.kind
    → text_from s (fresh_state generation (fresh_map x.contents)) ≡ Ok (export_text x)
unfolding fresh_state
text_again s generation x rules kind =
    ap (λ (r : Result (List Fresh) PerError). (r >>= λ contents. Ok (record { kind = s.kind; contents = contents })) >>=
    λ y. Ok (export_text y))
    (contents_again s generation x.contents (subst (λ (k : StoreKind). AllByRecursion (IsExportable k) x.contents) kind
    rules.rules.each))
    ∙ ap (λ (k : StoreKind). Ok (export_text (record { kind = k; contents = x.contents }))) (sym kind)

-- what was found is found again in its next state
found_again_with : (v : Named) (number : ℕ) (config : Option StorageData) (states : List State) (state : Option State)
    → slice_get states number ≡ state → (f : FoundStorage)
    → found_with v.bank number None config state ≡ Ok f → (next : State)
    → found_with v.bank number None config (slice_get (slice_set states f.number next) number)
    ≡ Ok (record f { state = next })
found_again_with v number None states state at f is next = absurd (no_ok _ f is)
found_again_with v number (Some s) states None at f is next = absurd (no_ok _ f is)
found_again_with v number (Some s) states (Some state) at f is next =
    let same : f ≡ record { bank = v.bank; number = number; config = s; state = state } =
    ok_same f (record { bank = v.bank; number = number; config = s; state = state }) (sym is) in
    subst (λ (g : FoundStorage). found_with v.bank number None (Some s) (slice_get (slice_set states g.number next) number)
    ≡ Ok (record g { state = next })) (sym same)
    (ap (λ (o : Option State). found_with v.bank number None (Some s) o) (get_set states number next state at))

found_again_at : (v : Named) (states : List State) (number : Option ℕ) (f : FoundStorage)
    → found_at v states None number ≡ Ok f → (next : State)
    → found_at v (slice_set states f.number next) None number ≡ Ok (record f { state = next })
found_again_at v states None f is next = absurd (no_ok _ f is)
found_again_at v states (Some number) f is next = found_again_with v number (slice_get v.deployment.storages number)
    states (slice_get states number) refl f is next

found_again : (says : Says) (states : List State) (name : List ℕ) (f : FoundStorage) → found_in says states name None ≡ Ok f
    → (next : State)
    → found_in says (slice_set states f.number next) name None ≡ Ok (record f { state = next })
found_again nothing states name f is next = absurd (no_ok _ f is)
found_again (absent g) states name f is next = absurd (no_ok _ f is)
found_again (installed g active previous) states name f is next =
    found_again_at active states (storage_number active.deployment name) f is next

row_done : (a : App) (f : FoundStorage) (row : Result State PerError) (b : App) → with_row a f row ≡ Ok b
    → (next : State) × (row ≡ Ok next) × (b ≡ with_storage_state a f next)
row_done a f (Ok next) b is = (next, refl, sym (ok_same (with_storage_state a f next) b is))
row_done a f (Err e) b is = absurd (no_ok e b is)

-- of one storage
one_again : TakenLaw → (s : StorageData) (state : State) (text : List ℕ) → AreBytes text → (next : State)
    → importing s state text ≡ Ok next → text_from s next ≡ Ok text
one_again taken s state text bytes next is =
    let made = is_made s state text next is in
    let spelled = taken text made.spelled bytes made.read in
    ap (text_from s) made.made
    ∙ text_again s (next_generation (salvage_of state)) made.spelled spelled.0 made.kind
    ∙ ap (λ (t : List ℕ). Ok t) (sym spelled.1)

again_found : TakenLaw → (a b : App) (name text : List ℕ) → AreBytes text → (f : FoundStorage)
    → storage_in a name None ≡ Ok f → importing_into a name text ≡ Ok b → exporting b name ≡ Ok text
again_found taken a b name text bytes f found is =
    let done = row_done a f (importing f.config f.state text) b (sym (importing_found a name text f found) ∙ is) in
    let there : storage_in b name None ≡ Ok (record f { state = done.0 }) =
    ap (λ (x : App). storage_in x name None) done.2 ∙ found_again a.says a.states name f found done.0 in
    exporting_found b name (record f { state = done.0 }) there
    ∙ one_again taken f.config f.state text bytes done.0 done.1

again_by : TakenLaw → (a b : App) (name text : List ℕ) → AreBytes text → (found : Result FoundStorage PerError)
    → storage_in a name None ≡ found → importing_into a name text ≡ Ok b
    → exporting b name ≡ Ok text
again_by taken a b name text bytes (Ok f) found is = again_found taken a b name text bytes f found is
again_by taken a b name text bytes (Err e) found is = absurd
    (no_ok e b (sym (importing_missing a name text e found) ∙ is))

pub again : TakenLaw → AgainLaw
again taken a b name text bytes is = again_by taken a b name text bytes (storage_in a name None) refl is

-- ---- a restore, and a dump of it

-- of deployment_model and of manifest
abbrev pub ApartLaw : Type 0
ApartLaw = (d : DeploymentData) (i : ℕ) (s : StorageData) → IsDeployment d → slice_get d.storages i ≡ Some s
    → (storage_named d s.name ≡ Some s) × (storage_number d s.name ≡ Some i)

abbrev pub KeptLaw : Type 0
KeptLaw = (text : List ℕ) (d : DeploymentData) → deployment_in text ≡ Some d → IsDeployment d

-- the texts of storages in these states
abbrev texts_from : List StorageData → List State → Result (List (List ℕ)) PerError
texts_from [] states = Ok []
texts_from (s ∷ ss) [] = Err error.StorageNotFound
texts_from (s ∷ ss) (state ∷ states) = text_from s state >>= λ text. texts_from ss states >>= λ texts.
    Ok (text ∷ texts)

module _ (s : StorageData) (ss : List StorageData) (text : List ℕ) (texts : List (List ℕ)) (states : List State) where
  -- what holds of a storage's state and of the others holds of all
  first_made : {P : Type 0}
      → ((state : State) (more : List State) → importing s (Corrupt None []) text ≡ Ok state
      → states_from ss texts ≡ Ok more → state ∷ more ≡ states → P)
      → states_from (s ∷ ss) (text ∷ texts) ≡ Ok states → P
  first_made {P} each is = first (importing s (Corrupt None []) text) refl is
    where
      rest : (state : State) → importing s (Corrupt None []) text ≡ Ok state → (made : Result (List State) PerError)
          → states_from ss texts ≡ made → (made >>= λ more. Ok (state ∷ more)) ≡ Ok states → P
      rest state one (Err e) are is = absurd (no_ok e states is)
      rest state one (Ok more) are is = each state more one are (ok_same (state ∷ more) states is)

      first : (made : Result State PerError) → importing s (Corrupt None []) text ≡ made
          → (made >>= λ state. states_from ss texts >>= λ more. Ok (state ∷ more)) ≡ Ok states → P
      first (Err e) one is = absurd (no_ok e states is)
      first (Ok state) one is = rest state one (states_from ss texts) refl is

each_again : TakenLaw → (ss : List StorageData) (texts : List (List ℕ)) → AllByRecursion AreBytes texts
    → (states : List State) → states_from ss texts ≡ Ok states → texts_from ss states ≡ Ok texts
each_again taken_law [] [] bytes states is = refl
each_again taken_law [] (text ∷ texts) bytes states is = absurd (no_ok _ states is)
each_again taken_law (s ∷ ss) [] bytes states is = absurd (no_ok _ states is)
each_again taken_law (s ∷ ss) (text ∷ texts) bytes states is = first_made s ss text texts states
    (λ state more one are whole. subst (λ (xs : List State). texts_from (s ∷ ss) xs ≡ Ok (text ∷ texts)) whole
    (ap (λ (r : Result (List ℕ) PerError). r >>= λ t. texts_from ss more >>= λ ts. Ok (t ∷ ts))
    (one_again taken_law s (Corrupt None []) text bytes.0 state one)
    ∙ ap (λ (r : Result (List (List ℕ)) PerError). r >>= λ ts. Ok (text ∷ ts))
    (each_again taken_law ss texts bytes.1 more are))) is

-- each storage has a state
as_many : (ss : List StorageData) (texts : List (List ℕ)) (states : List State) → states_from ss texts ≡ Ok states
    → length states ≡ length ss
as_many [] [] states is = ap (λ (xs : List State). length xs) (sym (ok_same [] states is))
as_many [] (text ∷ texts) states is = absurd (no_ok _ states is)
as_many (s ∷ ss) [] states is = absurd (no_ok _ states is)
as_many (s ∷ ss) (text ∷ texts) states is = first_made s ss text texts states
    (λ state more one are whole. subst (λ (xs : List State). length xs ≡ length (s ∷ ss)) whole
    (ap suc (as_many ss texts more are))) is

-- by their names as by their numbers
by_names : (a : App) (ss : List StorageData) (states : List State) → length states ≡ length ss
    → ((i : ℕ) (s : StorageData) (state : State) → slice_get ss i ≡ Some s → slice_get states i ≡ Some state
    → exporting a s.name ≡ text_from s state)
    → exports_of a ss ≡ texts_from ss states
by_names a [] states same each = refl
by_names a (s ∷ ss) [] same each = absurd (omega (arith, same))
by_names a (s ∷ ss) (state ∷ states) same each =
    ap (λ (r : Result (List ℕ) PerError). r >>= λ text. exports_of a ss >>= λ texts. Ok (text ∷ texts))
    (each 0 s state refl refl)
    ∙ ap (λ (r : Result (List (List ℕ)) PerError). text_from s state >>= λ text. r >>= λ texts. Ok (text ∷ texts))
    (by_names a ss states (omega (arith, same)) (λ i t next at is. each (suc i) t next at is))

exported_there : ApartLaw → (g : ℕ) (d : DeploymentData) (states : List State) → IsDeployment d
    → (i : ℕ) (s : StorageData) (state : State) → slice_get d.storages i ≡ Some s → slice_get states i ≡ Some state
    → exporting (restored_app g d states) s.name ≡ text_from s state
exported_there apart g d states kept i s state at is = exporting_found (restored_app g d states) s.name
    (record { bank = 0; number = i; config = s; state = state })
    (ap (found_at (record { bank = 0; deployment = d }) states None) (apart d i s kept at).1
    ∙ ap (λ (c : Option StorageData). found_with 0 i None c (slice_get states i)) at
    ∙ ap (λ (x : Option State). found_with 0 i None (Some s) x) is)

said_so : (said : Option DeploymentData) (rule : Option ℕ) (d : DeploymentData) → said_or_broken said rule ≡ Ok d
    → said ≡ Some d
said_so (Some x) rule d is = ap (λ (y : DeploymentData). Some y) (ok_same x d is)
said_so None None d is = absurd (no_ok _ d is)
said_so None (Some rule) d is = absurd (no_ok _ d is)

said_kept : KeptLaw → (manifest : List ℕ) (d : DeploymentData) → deployment_of manifest ≡ Ok d → IsDeployment d
unfolding deployment_of
said_kept kept manifest d is = kept manifest d (said_so (deployment_in manifest) (broken_rule manifest) d is)

pub restored : TakenLaw → ApartLaw → KeptLaw → RestoredLaw
unfolding restoring dumping
restored taken_law apart kept a b manifest texts bytes is = by (taken a.says) is
  where
    with_states : (d : DeploymentData) → IsDeployment d → (states : Result (List State) PerError)
        → states_from d.storages texts ≡ states
        → (states >>= λ made. Ok (restored_app (says_generation a.says) d made)) ≡ Ok b → dumping b ≡ Ok texts
    with_states d keeps (Err e) are is = absurd (no_ok e b is)
    with_states d keeps (Ok made) are is = subst (λ (x : App). dumping x ≡ Ok texts)
        (ok_same (restored_app (says_generation a.says) d made) b is)
        (by_names (restored_app (says_generation a.says) d made) d.storages made (as_many d.storages texts made are)
        (exported_there apart (says_generation a.says) d made keeps)
        ∙ each_again taken_law d.storages texts bytes made are)

    with_version : (said : Result DeploymentData PerError) → deployment_of manifest ≡ said
        → (said >>= λ d. states_from d.storages texts >>= λ made. Ok (restored_app (says_generation a.says) d made))
        ≡ Ok b → dumping b ≡ Ok texts
    with_version (Err e) says is = absurd (no_ok e b is)
    with_version (Ok d) says is = with_states d (said_kept kept manifest d says) (states_from d.storages texts) refl is

    by : (o : Option PerError) → refused_by o (made_from manifest texts (says_generation a.says)) ≡ Ok b
        → dumping b ≡ Ok texts
    by None is = with_version (deployment_of manifest) refl is
    by (Some e) is = absurd (no_ok e b is)
