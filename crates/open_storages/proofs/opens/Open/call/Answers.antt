use Rattle.run_model.specs.Sessions.{on_keys, on_working}
use Rattle.open_storages.specs.Opens.{keys_of}
use Rattle.open_storages.proofs.Unfailing.{answered_unfailed, files_fine, keys_fine}
use Rattle.open_storages.proofs.opens.Open.call.Goals as goal

pub returns-in-Keys-clause-unfailed : goal.returns-in-Keys-clause-unfailed
returns-in-Keys-clause-unfailed c = answered_unfailed (on_keys c.in-Keys.kvs.config (keys_of c.in-Keys.kvs)
    c.args.call.now) (keys_of c.in-Keys.kvs) (keys_of c.answer_keys.new.kvs) c.answer_keys.result
    (keys_fine c.in-Keys.kvs.config (keys_of c.in-Keys.kvs) c.args.call.now) c.answer_keys.ensures.answered

pub returns-in-Files-clause-unfailed : goal.returns-in-Files-clause-unfailed
returns-in-Files-clause-unfailed c = answered_unfailed
    (on_working c.in-Files.files.config c.args.now c.in-Files.files.session c.args.call.now) c.in-Files.files.session
    c.answer_files.new.files.session c.answer_files.result
    (files_fine c.in-Files.files.config c.args.now c.in-Files.files.session c.args.call.now)
    c.answer_files.ensures.answered
