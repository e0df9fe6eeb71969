use Rattle.std.proofs.Common.{◌≡◌, codes, map, ◌∙◌, ap}
use Rattle.serde_json.specs.Data.{Data, no_members, object, put, string}
use Rattle.serde_json.specs.View.{members_view, view}
use Rattle.serde_json.specs.declared.value.Value.{Object}
use Rattle.serde_json.proofs.Views.{view-Object}
use Rattle.dump_text.specs.Dumps.{application_data, dump_of}
use Rattle.dump_text.proofs.Members.{none_seen}
use Rattle.dump_text.proofs.Parts.{dump_written}
use Rattle.dump_text.proofs.writing.dump_value.Goals as goal

pub returns-clause-read : goal.returns-clause-read
returns-clause-read c = λ ordered.
    let read = c.in_ok-applications.ensures.read ordered in
    let old = c.new-dump.result.entries in
    let mark = string (codes "per dump 1") in
    let first : members_view c.put.new.map.entries ≡ put (codes "format") mark no_members =
    c.in_ok-put.ensures.ok ∙ ap (λ (t : Data). put (codes "format") t (members_view old)) c.in_ok-try_from_str.ensures
    ∙ ap (put (codes "format") mark) (none_seen old c.new-dump.ensures.empty) in
    let shape : view (Object c.put-2.new.map)
    ≡ object (put (codes "applications") (object read.0) (put (codes "format") mark no_members)) =
    view-Object c.put-2.new.map ∙ ap object (c.in_ok-put-2.ensures.ok
    ∙ ap (put (codes "applications") (view c.in_ok-applications.applications)) first
    ∙ ap (λ (x : Data). put (codes "applications") x (put (codes "format") mark no_members)) read.1) in
    ap dump_of shape ∙ dump_written read.0 (map application_data c.args.applications.now) read.2
