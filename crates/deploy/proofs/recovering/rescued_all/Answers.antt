use Rattle.std.proofs.Common.{◌<◌, ◌≤◌, length, ap, sym, ◌∙◌, rules, inl, inr}
use Rattle.std.specs.Prelude.{filter_map}
use Rattle.deployment_model.specs.Data.{storage_data}
use Rattle.deploy.specs.Recovered.{rescued_entry}
use Rattle.deploy.proofs.Rescued.{filter_done, filter_next, item_at}
use Rattle.deploy.proofs.recovering.rescued_all.Goals.{in-Some+in_ok-push, in_default}
use Rattle.deploy.proofs.recovering.rescued_all.Goals as goal

pub loop-entry-preserved : goal.loop-entry-preserved
loop-entry-preserved c =
    let f = rescued_entry (storage_data c.args.config.now) c.args.now in
    let within : c.loop-entry.entry-index < length c.args.entries.now = search rules in
    let made = c.in_ok-fresh.ensures in
    filter_next f c.args.entries.now c.loop-entry.entry-index c.entry-item.result
    c.loop-entry.contents.items c.match-branch-2.contents.items (filter_map f c.args.entries.now)
    (item_at c.args.entries.now c.loop-entry.entry-index c.entry-item.result within c.entry-item.is)
    (elim c.match-branch-2.branch [
      | in-Some+in_ok-push w ↦ inl (
        w.in-Some.fresh,
        sym made ∙ w.in-Some.is,
        ap (λ v. v.items) w.contents-is ∙ w.in_ok-push.ensures.items,
      )
      | in_default w ↦ inr (sym made ∙ w.in_default.is, ap (λ v. v.items) w.contents-is)
    ])
    c.loop-entry.invariant

pub returns : goal.returns
returns c =
    let f = rescued_entry (storage_data c.args.config.now) c.args.now in
    let past : length c.args.entries.now ≤ c.loop-entry.entry-index = search rules in
    filter_done f c.args.entries.now c.loop-entry.entry-index c.loop-entry.contents.items
    (filter_map f c.args.entries.now) past c.loop-entry.invariant
