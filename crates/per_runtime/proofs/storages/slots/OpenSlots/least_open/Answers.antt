use Rattle.std.proofs.Common.{sym, ap, ◌∙◌}
use Rattle.deploy.specs.declared.roots.Root.{Root}
use Rattle.deploy.specs.Roots.{root_says}
use Rattle.run_model.specs.Calls.{active_storages, first_open}
use Rattle.per_runtime.specs.storages.Slots.{sessions_in}
use Rattle.per_runtime.proofs.storage_lemmas.SlotLaws.{first_empty}
use Rattle.per_runtime.proofs.storages.slots.OpenSlots.least_open.Goals as goal

pub returns-in-Bad : goal.returns-in-Bad
returns-in-Bad c = sym (ap (λ (r : Root). first_open (sessions_in c.args.self.now) (active_storages (root_says r)))
    c.in-Bad.is ∙ first_empty (sessions_in c.args.self.now))

pub returns-in-Absent : goal.returns-in-Absent
returns-in-Absent c = sym (ap (λ (r : Root). first_open (sessions_in c.args.self.now) (active_storages (root_says r)))
    c.in-Absent.is ∙ first_empty (sessions_in c.args.self.now))
