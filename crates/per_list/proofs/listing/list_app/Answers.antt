use Rattle.std.proofs.Common.{◌≡◌, ◌++◌, ap, ◌∙◌, string_bytes, subst}
use Rattle.disk_model.specs.Image.{Image}
use Rattle.deploy.specs.Views.{RootSeen, root_seen}
use Rattle.per_list.specs.Seen.{app_seen}
use Rattle.per_list.proofs.Storages.{app_is_seen}
use Rattle.per_list.proofs.listing.list_app.Goals as goal

pub returns-clause-adds : goal.returns-clause-adds
returns-clause-adds g c = λ tells.
    let old = (g.D.Disk.medium c.args.disk.now).image in
    let form = c.args.form in
    let app = c.args.app in
    let seen = root_seen c.in_ok-view.view in
    c.in_ok-list_view.ensures.adds tells
    ∙ ap (λ xs. string_bytes c.args.out.now ++ xs)
    (ap (λ (im : Image). app_seen form im app seen) c.in_ok-view.ensures.image
    ∙ ap (λ (s : RootSeen). app_seen form old app s) (c.in_ok-view.ensures.view tells) ∙ app_is_seen form old app)

pub returns-clause-quiet : goal.returns-clause-quiet
returns-clause-quiet g c = let idle = c.in_ok-list_view.ensures.idle c.in_ok-view.ensures.quiet in idle.quiet
