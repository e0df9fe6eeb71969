-- The call that was told apart.
use Rattle.command_text.specs.declared.calls.Call.{Call}
use Rattle.command_text.specs.declared.calls.Call.TheVariants as call
use Rattle.per_runtime.specs.declared.sorting.Asked.{Asked}
use Rattle.per_runtime.specs.declared.sorting.Asked.TheVariants.{OfDeployment, OnStorage}
use Rattle.per_runtime.specs.declared.sorting.Deploying.{Deploying}
use Rattle.per_runtime.specs.declared.sorting.Deploying.TheVariants as of
use Rattle.per_runtime.specs.declared.sorting.Storing.{Storing}
use Rattle.per_runtime.specs.declared.sorting.Storing.TheVariants.{Open, Close, Recover, Reset, Sync, Flush, Local}
use Rattle.per_runtime.specs.storages.Openings.{open_call}

abbrev pub deploying_call : Deploying → Call
deploying_call of.Status = call.Status
deploying_call (of.Install text) = call.Install text.now
deploying_call (of.Update text) = call.Update text.now
deploying_call of.Finish = call.Finish
deploying_call of.Rollback = call.Rollback
deploying_call of.Wipe = call.Wipe
deploying_call (of.UpdateBegin text) = call.UpdateBegin text.now
deploying_call of.UpdateNext = call.UpdateNext
deploying_call of.UpdateCommit = call.UpdateCommit
deploying_call of.UpdateAbort = call.UpdateAbort

abbrev pub storing_call : Storing → Call
storing_call (Open name kind) = open_call kind name.now
storing_call (Close name) = call.Close name.now
storing_call (Recover name) = call.RecoverStorage name.now
storing_call (Reset name) = call.ResetStorage name.now
storing_call (Sync name) = call.Sync name.now
storing_call (Flush name handle) = call.Flush name.now handle
storing_call (Local l) = l.call.now

abbrev pub asked_call : Asked → Call
asked_call (OfDeployment d) = deploying_call d
asked_call (OnStorage s) = storing_call s
