use Rattle.std.proofs.Common.{◌∙◌, ap, sym}
use Rattle.deploy_laws.specs.Apps.{app_at}
use Rattle.run_model.specs.Steps.{uses_device}
use Rattle.per_runtime.specs.Sorting.{asked_call, storing_call}
use Rattle.per_runtime.specs.declared.sorting.Asked.{Asked}
use Rattle.per_runtime.specs.declared.sorting.Storing.{Storing}
use Rattle.per_runtime.specs.application.Running.{application}
use Rattle.per_runtime.proofs.Sorted.{calls_if_uses, storing_local, storing_uses}
use Rattle.per_runtime.proofs.application.running.Running.calls_device.Goals as goal

pub returns-in-OfDeployment : goal.returns-in-OfDeployment
returns-in-OfDeployment g c = λ tells.
    let image = (g.D.Disk.medium c.args.disk.now).image in
    let a = app_at image c.args.self.now.app in
    calls_if_uses (application image c.args.self.now) (asked_call c.args.asked.now) c.calls_device.result
    c.if-is_marked.ensures
    (c.calls_device.ensures a ∙ ap (λ (x : Asked). uses_device a (asked_call x)) (sym c.in-OfDeployment.is))

pub returns-in-Local : goal.returns-in-Local
returns-in-Local g c = λ tells.
    let image = (g.D.Disk.medium c.args.disk.now).image in
    let a = app_at image c.args.self.now.app in
    calls_if_uses (application image c.args.self.now) (asked_call c.args.asked.now) _ c.if-is_marked.ensures
    (storing_local a c.in-Local.field-0 ∙ ap (λ (x : Storing). uses_device a (storing_call x)) (sym c.in-Local.is)
    ∙ ap (λ (x : Asked). uses_device a (asked_call x)) (sym c.in-OnStorage.is))

pub returns-in-Close : goal.returns-in-Close
returns-in-Close g c = λ tells.
    let image = (g.D.Disk.medium c.args.disk.now).image in
    let a = app_at image c.args.self.now.app in
    calls_if_uses (application image c.args.self.now) (asked_call c.args.asked.now) c.closes_files.result
    c.if-is_marked.ensures
    (c.closes_files.ensures g.D.Disk.told image c.requires tells (sym c.if-is_marked.ensures)
    ∙ ap (λ (x : Storing). uses_device a (storing_call x)) (sym c.in-Close.is)
    ∙ ap (λ (x : Asked). uses_device a (asked_call x)) (sym c.in-OnStorage.is))

pub returns-in_default : goal.returns-in_default
returns-in_default g c = λ tells.
    let image = (g.D.Disk.medium c.args.disk.now).image in
    let a = app_at image c.args.self.now.app in
    calls_if_uses (application image c.args.self.now) (asked_call c.args.asked.now) _ c.if-is_marked.ensures
    (storing_uses a c.in-OnStorage.storing c.in_default.not-Local c.in_default.not-Close
    ∙ ap (λ (x : Asked). uses_device a (asked_call x)) (sym c.in-OnStorage.is))
