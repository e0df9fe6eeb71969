use Rattle.std.proofs.Common.{◌≡◌, ℕ, List, Some, ◌∙◌, ap, sym, subst}
use Rattle.std.specs.List.{AllByRecursion}
use Rattle.per_base.specs.declared.elements.Fresh.{Fresh}
use Rattle.export_text.specs.Exports.{IsExportable}
use Rattle.serde_json.specs.Data.{Data, Members, no_members, object, put}
use Rattle.serde_json.specs.View.{members_view, view}
use Rattle.serde_json.specs.declared.value.Value.{Object}
use Rattle.serde_json.proofs.Views.{view-Object}
use Rattle.dump_text.specs.Dumps.{dumped_storage_in}
use Rattle.dump_text.specs.Elements.{dumped_word}
use Rattle.dump_text.proofs.Members.{none_seen}
use Rattle.dump_text.proofs.Parts.{exported, storage_written}
use Rattle.dump_text.proofs.writing.storage_value.Goals as goal

pub elements_value-requires-clause-each : goal.elements_value-requires-clause-each
elements_value-requires-clause-each c =
    subst (λ (fs : List Fresh). AllByRecursion (IsExportable c.in_ok-export.export.kind) fs) (sym c.as_slice.ensures)
    c.in_ok-export.ensures.export.0.rules.each

pub returns-clause-read : goal.returns-clause-read
returns-clause-read c =
    let storage = c.args.storage.now in
    let kind = c.in_ok-export.export.kind in
    let contents = c.in_ok-export.export.contents in
    let old = c.new-members.result.entries in
    let d = view c.in_ok-elements.elements in
    let read = c.in_ok-elements.ensures.read in
    let shape : view (Object c.put.new.map) ≡ object (put (dumped_word kind) (object read.0) no_members) =
    view-Object c.put.new.map ∙ ap object (c.in_ok-put.ensures.ok
    ∙ ap (λ (word : List ℕ). put word d (members_view old)) c.elements_word.ensures
    ∙ ap (λ (x : Data). put (dumped_word kind) x (members_view old)) read.1
    ∙ ap (λ (ms : Members). put (dumped_word kind) (object read.0) ms) (none_seen old c.new-members.ensures.empty)) in
    ap (dumped_storage_in storage.name) shape
    ∙ storage_written storage.name storage.text read.0 contents kind c.requires
    (read.2 ∙ ap (λ (fs : List Fresh). Some fs) c.as_slice.ensures)
    (exported kind contents c.in_ok-export.ensures.export.0.rules
    ∙ ap (λ (text : List ℕ). Some text) (sym c.in_ok-export.ensures.export.1))
