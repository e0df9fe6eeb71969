-- What an import and a restore make of exports: the statements of the laws.
use Rattle.std.specs.Prelude.{◌≡◌, ℕ, List, true, Some, Ok, IfErr, IsSome}
use Rattle.std.specs.List.{AllByRecursion}
use Rattle.per_base.specs.Errors.{error_number}
use Rattle.per_base.specs.Refusals.{refused_by}
use Rattle.per_base.specs.Fields.{AreBytes}
use Rattle.deployment_model.specs.Data.{StorageData}
use Rattle.element_state.specs.States.{State, fresh_map, fresh_state, next_generation, salvage_of}
use Rattle.update_plan.specs.Plans.{is_kind}
use Rattle.deploy_laws.specs.Apps.{App}
use Rattle.deploy_rows.specs.Recovering.{if_contents_fit}
use Rattle.export_text.specs.declared.exports.Export.{Export}
use Rattle.export_text.specs.Exports.{IsExport, export_of, export_text}
use Rattle.per_backup.specs.Backups.{dumping, exported_from, exporting, importing, importing_into, least_mismatch}
use Rattle.per_backup.specs.Backups.{restoring}

-- what is imported is what the text spells, names, contents and infos, under the storage's next generation, and nothing
-- of what was there
abbrev pub ImportsLaw : Type 0
ImportsLaw = (s : StorageData) (state : State) (text : List ℕ) (x : Export) (next : State) → export_of text ≡ Some x
    → importing s state text ≡ Ok next → next ≡ fresh_state (next_generation (salvage_of state)) (fresh_map x.contents)

-- what was exported can be imported into every storage of the same kind, unless a type differs, or it does not fit, or
-- none of its generations is left
abbrev pub ExportedLaw : Type 0
ExportedLaw = (from into : StorageData) (old state : State) (x : Export) → exported_from from old ≡ Ok x → IsExport x
    → is_kind into.kind from.kind ≡ true
    → importing into state (export_text x) ≡ refused_by (least_mismatch into x.contents)
    (if_contents_fit into state x.contents)

-- what was imported is exported again as the same text, byte for byte
abbrev pub AgainLaw : Type 0
AgainLaw = (a b : App) (name text : List ℕ) → AreBytes text → importing_into a name text ≡ Ok b
    → exporting b name ≡ Ok text

-- what was restored is dumped again as the same texts, byte for byte
abbrev pub RestoredLaw : Type 0
RestoredLaw = (a b : App) (manifest : List ℕ) (texts : List (List ℕ)) → AllByRecursion AreBytes texts
    → restoring manifest texts a ≡ Ok b → dumping b ≡ Ok texts

-- every refusal of an export has a number, and so a line that says it
abbrev pub ExportNumbersLaw : Type 0
ExportNumbersLaw = (a : App) (name : List ℕ) → IfErr (exporting a name) (λ e. IsSome (error_number e))

-- every refusal of an import has a number
abbrev pub ImportNumbersLaw : Type 0
ImportNumbersLaw = (a : App) (name text : List ℕ) → IfErr (importing_into a name text) (λ e. IsSome (error_number e))

-- every refusal of a restore has a number
abbrev pub RestoreNumbersLaw : Type 0
RestoreNumbersLaw = (a : App) (manifest : List ℕ) (texts : List (List ℕ)) → IfErr (restoring manifest texts a)
    (λ e. IsSome (error_number e))
