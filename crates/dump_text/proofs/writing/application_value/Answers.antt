use Rattle.std.proofs.Common.{◌≡◌, ℕ, List, Some, codes, ◌∙◌, ap, sym, subst}
use Rattle.per_base.specs.Names.{NamesAscend}
use Rattle.serde_json.specs.Data.{Data, no_members, object, put, string}
use Rattle.serde_json.specs.View.{members_view, view}
use Rattle.serde_json.specs.declared.value.Value.{Object}
use Rattle.serde_json.proofs.Views.{view-Object}
use Rattle.dump_text.specs.declared.dumps.DumpedStorage.{DumpedStorage}
use Rattle.dump_text.specs.Dumps.{dumped_application_in}
use Rattle.dump_text.proofs.Members.{none_seen}
use Rattle.dump_text.proofs.Parts.{application_written}
use Rattle.dump_text.proofs.writing.application_value.Goals as goal

pub returns-clause-read : goal.returns-clause-read
returns-clause-read c = λ ordered.
    let dumped = c.args.dumped.now in
    let storages = dumped.storages.items in
    let old = c.new-members.result.entries in
    let text = view c.in_ok-try_from_str.field-0 in
    let d = view c.in_ok-storages.storages in
    let same = c.as_slice-2.ensures.value in
    let read = c.in_ok-storages.ensures.read
    (subst (λ (ss : List DumpedStorage). NamesAscend (λ s. s.name) ss) (sym same) ordered.ascend) in
    let spelled : text ≡ string dumped.manifest =
    c.in_ok-try_from_str.ensures ∙ ap (λ (t : List ℕ). string t) (c.in-Ok.ensures.cases.0 ∙ c.as_slice.ensures) in
    let first : members_view c.put.new.map.entries ≡ put (codes "manifest") (string dumped.manifest) no_members =
    c.in_ok-put.ensures.ok ∙ ap (λ (t : Data). put (codes "manifest") t (members_view old)) spelled
    ∙ ap (put (codes "manifest") (string dumped.manifest)) (none_seen old c.new-members.ensures.empty) in
    let shape : view (Object c.put-2.new.map)
    ≡ object (put (codes "storages") (object read.0) (put (codes "manifest") (string dumped.manifest) no_members)) =
    view-Object c.put-2.new.map ∙ ap object (c.in_ok-put-2.ensures.ok ∙ ap (put (codes "storages") d) first
    ∙ ap (λ (x : Data). put (codes "storages") x (put (codes "manifest") (string dumped.manifest) no_members)) read.1) in
    ap (dumped_application_in _) shape
    ∙ application_written dumped.application dumped.manifest read.0 storages c.requires
    (read.2 ∙ ap (λ (ss : List DumpedStorage). Some ss) same) ordered.said
