use Rattle.std.proofs.Common.{◌∙◌, ap, sym}
use Rattle.run_model.specs.Calls.{goes_beside}
use Rattle.per_runtime.specs.Sorting.{asked_call}
use Rattle.per_runtime.specs.declared.sorting.Asked.{Asked}
use Rattle.per_runtime.proofs.Sorted.{storing_alone}
use Rattle.per_runtime.proofs.application.asking.goes_beside.Goals as goal

pub returns-in-OnStorage : goal.returns-in-OnStorage
returns-in-OnStorage c = sym (ap (λ (x : Asked). goes_beside (asked_call x)) c.in-OnStorage.is
    ∙ storing_alone c.in-OnStorage.field-0)
