use Rattle.std.proofs.Common.{◌≡◌, Some, option_map, refl, sym, ap, ◌∙◌}
use Rattle.per_base.specs.declared.errors.PerError.TheVariants as error
use Rattle.open_storages.specs.Opens.{session_in}
use Rattle.per_runtime.specs.storages.Finding.{config_of, found_on}
use Rattle.per_runtime.specs.storages.Slots.{resting_with}
use Rattle.per_runtime.proofs.storage_lemmas.DurableRows.{sync_not_found, sync_not_open, sync_reaches}
use Rattle.per_runtime.proofs.storage_lemmas.Ended.{early_handled}
use Rattle.per_runtime.proofs.storage_lemmas.SlotLaws.{session_slot}
use Rattle.per_runtime.proofs.storage_lemmas.Durables.{emptied_again, kind_is, of_keys, used}
use Rattle.per_runtime.proofs.storage_lemmas.Synced.{made_err, made_ok, not_open_early, sync_early, synced_row}
use Rattle.open_storages.specs.Refusals.{sync_refused}
use Rattle.command_text.specs.declared.calls.Call.TheVariants as call
use Rattle.per_runtime.proofs.storages.slots.OpenSlots.sync.Goals as goal

-- ---- refused before any call of the disk

pub returns-in-Err : goal.returns-in-Err
returns-in-Err g c = λ now.
    let told = g.D.Disk.told in let m = g.D.Disk.medium c.args.disk.now in let app = c.args.app in let root =
    c.args.root.now in let was = c.args.self.now in
    let name = c.args.name.now in let law = g.met.D.Disk.lawful c.args.disk.now in let laws =
    c.storages_stand.ensures in let texts = c.errors_have_texts.ensures in
    early_handled laws told app now root (call.Sync name) was m (c.args.disk.now ≡ c.args.disk.now) refl law c.requires
    texts was refl c.in-Err.error c.in-Err.ensures.early c.refusal.result c.refusal.ensures
    (λ tells. sync_not_found app now (resting_with m.image app was) name c.in-Err.error
    (c.in-Err.ensures.refused m.image (c.requires.root_at.disk tells)))

pub returns-in_default : goal.returns-in_default
returns-in_default g c = λ now.
    let told = g.D.Disk.told in let m = g.D.Disk.medium c.args.disk.now in let app = c.args.app in let root =
    c.args.root.now in let was = c.args.self.now in
    let name = c.args.name.now in let law = g.met.D.Disk.lawful c.args.disk.now in let laws =
    c.storages_stand.ensures in let texts = c.errors_have_texts.ensures in
    let l = c.in-Ok.located in let none = sym c.take.ensures.taken ∙ c.in_default.is in
    early_handled laws told app now root (call.Sync name) was m (c.args.disk.now ≡ c.args.disk.now) refl law c.requires
    texts c.take.new.self (emptied_again told m.image app root was c.take.new.self l c.requires c.in-Ok.ensures.located
    none c.take.ensures.rest)
    error.NotOpen not_open_early c.refusal-in_default.result c.refusal-in_default.ensures
    (λ tells. sync_not_open app now (resting_with m.image app was) name (found_on m.image l)
    (c.in-Ok.ensures.found m.image (c.requires.root_at.disk tells))
    (session_slot m.image app was l.number ∙ ap (option_map session_in) none))

-- ---- an open storage

pub sync-requires-clause-used : goal.sync-requires-clause-used
sync-requires-clause-used g c =
    let told = g.D.Disk.told in let m = g.D.Disk.medium c.args.disk.now in let app = c.args.app in let root =
    c.args.root.now in let was = c.args.self.now in
    let name = c.args.name.now in let law = g.met.D.Disk.lawful c.args.disk.now in let laws =
    c.storages_stand.ensures in let texts = c.errors_have_texts.ensures in
    used laws texts told app 0 root was m c.requires c.in-Ok.located c.in-Ok.ensures.located c.in-Some.storage
    (sym c.take.ensures.taken ∙ c.in-Some.is)

pub sync-requires-clause-keys : goal.sync-requires-clause-keys
sync-requires-clause-keys g c =
    let told = g.D.Disk.told in let m = g.D.Disk.medium c.args.disk.now in let app = c.args.app in let root =
    c.args.root.now in let was = c.args.self.now in
    let name = c.args.name.now in let law = g.met.D.Disk.lawful c.args.disk.now in let laws =
    c.storages_stand.ensures in let texts = c.errors_have_texts.ensures in
    sym (kind_is laws texts told app 0 root was m c.requires c.in-Ok.located c.in-Ok.ensures.located c.in-Some.storage
    (sym c.take.ensures.taken ∙ c.in-Some.is))
    ∙ of_keys (config_of c.in-Ok.located).kind c.in-Ok.ensures.kind

pub returns-in-Ok-sync : goal.returns-in-Ok-sync
returns-in-Ok-sync g c = λ now.
    let told = g.D.Disk.told in let m = g.D.Disk.medium c.args.disk.now in let app = c.args.app in let root =
    c.args.root.now in let was = c.args.self.now in
    let name = c.args.name.now in let law = g.met.D.Disk.lawful c.args.disk.now in let laws =
    c.storages_stand.ensures in let texts = c.errors_have_texts.ensures in
    let l = c.in-Ok.located in let storage = c.in-Some.storage in let there =
    sym c.take.ensures.taken ∙ c.in-Some.is in let new = g.D.Disk.medium c.sync.new.disk in
    made_ok laws texts told app now root was m law c.requires l c.in-Ok.ensures.located storage there (call.Sync name)
    (sync_refused storage)
    (synced_row laws texts told app now root was m law c.requires l c.in-Ok.ensures.located storage there name
    (λ tells. c.in-Ok.ensures.named m.image (c.requires.root_at.disk tells))
    (λ tells. c.in-Ok.ensures.found m.image (c.requires.root_at.disk tells)))
    (λ tells. ap (λ x. Some x) (c.in-Ok.ensures.named m.image (c.requires.root_at.disk tells)))
    (λ tells x row. sync_reaches app now (resting_with m.image app was) name x refl row) refl (λ x. refl)
    (sync_early storage)
    new (c.sync.new.disk ≡ c.args.disk.now) (λ same. ap g.D.Disk.medium same) c.sync.result
    (record {
      done = c.sync.ensures.done;
      due = c.sync.ensures.due;
      unchanged = c.sync.ensures.unchanged;
      quiet =
          c.sync.ensures.quiet;
      clean = c.sync.ensures.clean;
      at_most = c.sync.ensures.at_most;
      cause =
          c.sync.ensures.cause;
      fed = λ bad. ap (λ d. (g.D.Disk.medium d).faults) (c.sync.ensures.fed bad);
      passes = c.sync.ensures.passes;
      storing = c.sync.ensures.storing;
    })
    c.in-Ok-sync.made c.in-Ok-sync.is c.take.new.self c.put_back.new.self c.take.ensures.rest c.put_back.result
    c.put_back.ensures

pub returns-in-Err-sync : goal.returns-in-Err-sync
returns-in-Err-sync g c = λ now.
    let told = g.D.Disk.told in let m = g.D.Disk.medium c.args.disk.now in let app = c.args.app in let root =
    c.args.root.now in let was = c.args.self.now in
    let name = c.args.name.now in let law = g.met.D.Disk.lawful c.args.disk.now in let laws =
    c.storages_stand.ensures in let texts = c.errors_have_texts.ensures in
    let l = c.in-Ok.located in let storage = c.in-Some.storage in let there =
    sym c.take.ensures.taken ∙ c.in-Some.is in let new = g.D.Disk.medium c.sync.new.disk in
    made_err laws texts told app now root was m law c.requires l c.in-Ok.ensures.located storage there (call.Sync name)
    (sync_refused storage)
    (synced_row laws texts told app now root was m law c.requires l c.in-Ok.ensures.located storage there name
    (λ tells. c.in-Ok.ensures.named m.image (c.requires.root_at.disk tells))
    (λ tells. c.in-Ok.ensures.found m.image (c.requires.root_at.disk tells)))
    (λ tells. ap (λ x. Some x) (c.in-Ok.ensures.named m.image (c.requires.root_at.disk tells)))
    (λ tells x row. sync_reaches app now (resting_with m.image app was) name x refl row) refl (λ x. refl)
    (sync_early storage)
    new (c.sync.new.disk ≡ c.args.disk.now) (λ same. ap g.D.Disk.medium same) c.sync.result
    (record {
      done = c.sync.ensures.done;
      due = c.sync.ensures.due;
      unchanged = c.sync.ensures.unchanged;
      quiet =
          c.sync.ensures.quiet;
      clean = c.sync.ensures.clean;
      at_most = c.sync.ensures.at_most;
      cause =
          c.sync.ensures.cause;
      fed = λ bad. ap (λ d. (g.D.Disk.medium d).faults) (c.sync.ensures.fed bad);
      passes = c.sync.ensures.passes;
      storing = c.sync.ensures.storing;
    })
    c.take.new.self c.take.ensures.rest c.in-Err-sync.stop c.in-Err-sync.is
