-- What an export gives of a storage, and what an import and a restore make of an application, or their refusals.
use Rattle.std.specs.Prelude.{ℕ, ◌+◌, nat_le, List, [], ◌∷◌, Bool, cond, Option, Some, None, option_map}
use Rattle.std.specs.Prelude.{option_and_then, Result, Ok, Err}
use Rattle.per_base.specs.declared.elements.Content.{Content}
use Rattle.per_base.specs.declared.elements.Content.TheVariants.{Good, Bad}
use Rattle.per_base.specs.declared.elements.Entry.{Entry}
use Rattle.per_base.specs.declared.elements.Fresh.{Fresh}
use Rattle.per_base.specs.declared.elements.StoreKind.{StoreKind}
use Rattle.per_base.specs.declared.errors.Limit.TheVariants as limit
use Rattle.per_base.specs.declared.errors.PerError.{PerError}
use Rattle.per_base.specs.declared.errors.PerError.TheVariants as error
use Rattle.per_base.specs.declared.errors.Unit.TheVariants as unit
use Rattle.per_base.specs.Refusals.{or_next, refused_by}
use Rattle.value_model.specs.Kinds.{Kind, same_kind}
use Rattle.value_model.specs.Trees.{type_of}
use Rattle.value_code.specs.Reading.{decoded, is_content}
use Rattle.value_text.specs.Texts.{mismatch}
use Rattle.deployment_model.specs.Data.{DeploymentData, ElementData, StorageData}
use Rattle.deployment_model.specs.Lookups.{element_named}
use Rattle.element_state.specs.States.{State, Opens, Corrupt, greatest_generation}
use Rattle.element_state.specs.Views.{judged_content}
use Rattle.update_plan.specs.Plans.{is_kind}
use Rattle.deploy_laws.specs.Apps.{App, Says, absent, installed, nothing, says_generation}
use Rattle.deploy_rows.specs.Recovering.{if_contents_fit}
use Rattle.deploy_rows.specs.Rows.{◌>>=◌, deployment_of}
use Rattle.run_model.specs.Found.{storage_in, with_storage_state}
use Rattle.export_text.specs.declared.exports.Export.{Export}
use Rattle.export_text.specs.Exports.{export_of, export_text}

-- ---- an export

-- an element with its content, or the refusal where that cannot be read
abbrev pub fresh_by : (storage : List ℕ) → Entry → Content → Result Fresh PerError
fresh_by storage e (Good bytes) = Ok (record { name = e.name; info = e.info; bytes = bytes })
fresh_by storage e (Bad salvage) = Err (error.IntegrityCorrupted (unit.Part storage e.name))

-- bytes of a key that encode no value cannot be read
abbrev pub fresh_of : StorageData → Entry → Result Fresh PerError
fresh_of s e = fresh_by s.name e (judged_content (is_content s.kind) e.content)

-- all elements, or the refusal for the first that cannot be read: names ascend, so that it is the least
abbrev pub exported_contents : StorageData → List Entry → Result (List Fresh) PerError
exported_contents s [] = Ok []
exported_contents s (e ∷ es) = fresh_of s e >>= λ f. exported_contents s es >>= λ fs. Ok (f ∷ fs)

-- the export of a storage in this state, or the refusal: one that does not open is not exported
abbrev pub exported_from : StorageData → State → Result Export PerError
exported_from s (Corrupt salvage others) = Err (error.IntegrityCorrupted (unit.Whole s.name))
exported_from s (Opens v others) = exported_contents s v.entries >>= λ contents.
    Ok (record { kind = s.kind; contents = contents })

-- the text of that export
abbrev pub text_from : StorageData → State → Result (List ℕ) PerError
text_from s state = exported_from s state >>= λ x. Ok (export_text x)

-- the text of the storage of this name in the active version, or the refusal
unfoldable pub exporting : App → (name : List ℕ) → Result (List ℕ) PerError
exporting a name = storage_in a name None >>= λ f. text_from f.config f.state

-- ---- an import

-- the export that a text spells, which is one of this kind
abbrev pub export_for : StoreKind → Option Export → Result Export PerError
export_for kind None = Err error.ExportRejected
export_for kind (Some x) = cond (is_kind kind x.kind) (Ok x) (Err error.ExportRejected)

-- the type with which an element is configured, where it is
abbrev pub configured_type : StorageData → List ℕ → Option Kind
configured_type s name = option_and_then (λ (e : ElementData). e.value_type) (element_named s name)

-- the type of the value that the bytes of an element encode
abbrev pub exported_type : Fresh → Option Kind
exported_type f = option_map type_of (decoded f.bytes)

-- the refusal where both are known and differ: the exported type, and then the configured one
abbrev pub differing : (exported configured : Option Kind) → Option PerError
differing exported None = None
differing None (Some configured) = None
differing (Some exported) (Some configured) = cond (same_kind exported configured) None
    (Some (mismatch exported configured))

-- the same of an element of an export
abbrev pub mismatch_of : StorageData → Fresh → Option PerError
mismatch_of s f = differing (exported_type f) (configured_type s f.name)

-- the refusal for the least key whose type is another than the configured one
abbrev pub least_mismatch : StorageData → List Fresh → Option PerError
least_mismatch s [] = None
least_mismatch s (f ∷ fs) = or_next (mismatch_of s f) (least_mismatch s fs)

-- the state of the storage that is made of a text: exactly the contents of the export, infos included, under the
-- next generation; or the refusal
unfoldable pub importing : StorageData → State → (text : List ℕ) → Result State PerError
importing s state text = export_for s.kind (export_of text) >>= λ x.
    refused_by (least_mismatch s x.contents) (if_contents_fit s state x.contents)

-- the application in which the storage of this name has what the text spells, or the refusal
unfoldable pub importing_into : App → (name text : List ℕ) → Result App PerError
importing_into a name text = storage_in a name None >>= λ f. importing f.config f.state text >>= λ state.
    Ok (with_storage_state a f state)

-- ---- all storages of an application

-- the texts that an export gives of storages, in their order, or the refusal for the first that has none
abbrev pub exports_of : App → List StorageData → Result (List (List ℕ)) PerError
exports_of a [] = Ok []
exports_of a (s ∷ ss) = exporting a s.name >>= λ text. exports_of a ss >>= λ texts. Ok (text ∷ texts)

-- the exports of the storages that a root names which says this, or the refusal
abbrev pub dumping_over : App → Says → Result (List (List ℕ)) PerError
dumping_over a nothing = Err (error.IntegrityCorrupted unit.Root)
dumping_over a (absent g) = Err error.NotInstalled
dumping_over a (installed g active previous) = exports_of a active.deployment.storages

-- the exports of all storages of the active version, or the refusal
unfoldable pub dumping : App → Result (List (List ℕ)) PerError
dumping a = dumping_over a a.says

-- ---- a restore

-- why nothing can be restored over a root that says this: none where nothing is installed and a generation is left
abbrev pub taken : Says → Option PerError
taken nothing = Some (error.IntegrityCorrupted unit.Root)
taken (absent g) = cond (nat_le greatest_generation g) (Some (error.LimitReached limit.Generations)) None
taken (installed g active previous) = Some error.AlreadyInstalled

-- the states of storages, each as an import of its text makes it where nothing was; each storage has one text
abbrev pub states_from : List StorageData → (texts : List (List ℕ)) → Result (List State) PerError
states_from [] [] = Ok []
states_from [] (text ∷ texts) = Err error.ExportRejected
states_from (s ∷ ss) [] = Err error.ExportRejected
states_from (s ∷ ss) (text ∷ texts) = importing s (Corrupt None []) text >>= λ state. states_from ss texts
    >>= λ states. Ok (state ∷ states)

-- the version in bank 0, with storages in these states
abbrev pub restored_app : (generation : ℕ) → DeploymentData → List State → App
restored_app g d states = record {
  says = installed (g + 1) (record { bank = 0; deployment = d }) None;
  lacking = [];
  states = states;
}

-- what a manifest and texts make over a root of this generation
abbrev pub made_from : (manifest : List ℕ) (texts : List (List ℕ)) → (generation : ℕ) → Result App PerError
made_from manifest texts g = deployment_of manifest >>= λ d. states_from d.storages texts >>= λ states.
    Ok (restored_app g d states)

-- the application that is restored: the version of the manifest, and of each storage exactly what its text says; or the
-- refusal
unfoldable pub restoring : (manifest : List ℕ) (texts : List (List ℕ)) → App → Result App PerError
restoring manifest texts a = refused_by (taken a.says) (made_from manifest texts (says_generation a.says))
