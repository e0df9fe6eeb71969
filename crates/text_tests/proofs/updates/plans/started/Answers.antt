use Rattle.std.proofs.Common.{map, sym, subst}
use Rattle.std.specs.List.{AllByRecursion}
use Rattle.deployment_model.specs.Conditions.{IsStorage}
use Rattle.deployment_model.specs.Data.{storage_data}
use Rattle.text_tests.proofs.Storing.{of_item}
use Rattle.text_tests.proofs.updates.plans.started.Goals as goal

pub initial_of-requires : goal.initial_of-requires
initial_of-requires c =
    of_item IsStorage storage_data c.as_slice-storage-items.result.now c.loop-storage.storage-index
    c.storage-item.result
    (subst (λ ss. AllByRecursion IsStorage (map storage_data ss)) (sym c.as_slice-storage-items.ensures)
    c.requires.each) c.loop-storage-test.true c.storage-item.is
