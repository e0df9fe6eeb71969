use Rattle.std.proofs.Common.{◌≡◌, Some, option_map, refl, sym, ap, ◌∙◌}
use Rattle.per_base.specs.declared.errors.PerError.TheVariants as error
use Rattle.open_storages.specs.Opens.{session_in}
use Rattle.per_runtime.specs.storages.Finding.{found_on}
use Rattle.per_runtime.specs.storages.Slots.{resting_with}
use Rattle.per_runtime.proofs.storage_lemmas.DurableRows.{flush_not_found, flush_not_open, flush_reaches}
use Rattle.per_runtime.proofs.storage_lemmas.Ended.{early_handled}
use Rattle.per_runtime.proofs.storage_lemmas.SlotLaws.{session_slot}
use Rattle.per_runtime.proofs.storage_lemmas.Durables.{emptied_again, used}
use Rattle.per_runtime.proofs.storage_lemmas.Synced.{flush_early, flushed_row, made_err, made_ok, not_open_early}
use Rattle.open_storages.specs.Refusals.{flush_refused}
use Rattle.command_text.specs.declared.calls.Call.TheVariants as call
use Rattle.per_runtime.proofs.storages.slots.OpenSlots.flush.Goals as goal

-- ---- refused before any call of the disk

pub returns-in-Err : goal.returns-in-Err
returns-in-Err g c = λ now.
    let told = g.D.Disk.told in let m = g.D.Disk.medium c.args.disk.now in let app = c.args.app in let root =
    c.args.root.now in let was = c.args.self.now in
    let name = c.args.name.now in let law = g.met.D.Disk.lawful c.args.disk.now in let laws =
    c.storages_stand.ensures in let texts = c.errors_have_texts.ensures in
    early_handled laws told app now root (call.Flush name c.args.handle) was m (c.args.disk.now ≡ c.args.disk.now) refl
    law c.requires
    texts was refl c.in-Err.error c.in-Err.ensures.early c.refusal.result c.refusal.ensures
    (λ tells. flush_not_found app now (resting_with m.image app was) name c.args.handle c.in-Err.error
    (c.in-Err.ensures.refused m.image (c.requires.root_at.disk tells)))

pub returns-in_default : goal.returns-in_default
returns-in_default g c = λ now.
    let told = g.D.Disk.told in let m = g.D.Disk.medium c.args.disk.now in let app = c.args.app in let root =
    c.args.root.now in let was = c.args.self.now in
    let name = c.args.name.now in let law = g.met.D.Disk.lawful c.args.disk.now in let laws =
    c.storages_stand.ensures in let texts = c.errors_have_texts.ensures in
    let l = c.in-Ok.located in let none = sym c.take.ensures.taken ∙ c.in_default.is in
    early_handled laws told app now root (call.Flush name c.args.handle) was m (c.args.disk.now ≡ c.args.disk.now) refl
    law c.requires
    texts c.take.new.self (emptied_again told m.image app root was c.take.new.self l c.requires c.in-Ok.ensures.located
    none c.take.ensures.rest)
    error.NotOpen not_open_early c.refusal-in_default.result c.refusal-in_default.ensures
    (λ tells. flush_not_open app now (resting_with m.image app was) name (found_on m.image l) c.args.handle
    (c.in-Ok.ensures.found m.image (c.requires.root_at.disk tells))
    (session_slot m.image app was l.number ∙ ap (option_map session_in) none))

-- ---- an open storage

pub flush-requires : goal.flush-requires
flush-requires g c =
    let told = g.D.Disk.told in let m = g.D.Disk.medium c.args.disk.now in let app = c.args.app in let root =
    c.args.root.now in let was = c.args.self.now in
    let name = c.args.name.now in let law = g.met.D.Disk.lawful c.args.disk.now in let laws =
    c.storages_stand.ensures in let texts = c.errors_have_texts.ensures in
    record {
      used = used laws texts told app 0 root was m c.requires c.in-Ok.located c.in-Ok.ensures.located
          c.in-Some.storage (sym c.take.ensures.taken ∙ c.in-Some.is);
    }

pub returns-in-Ok-flush : goal.returns-in-Ok-flush
returns-in-Ok-flush g c = λ now.
    let told = g.D.Disk.told in let m = g.D.Disk.medium c.args.disk.now in let app = c.args.app in let root =
    c.args.root.now in let was = c.args.self.now in
    let name = c.args.name.now in let law = g.met.D.Disk.lawful c.args.disk.now in let laws =
    c.storages_stand.ensures in let texts = c.errors_have_texts.ensures in
    let l = c.in-Ok.located in let storage = c.in-Some.storage in let there =
    sym c.take.ensures.taken ∙ c.in-Some.is in let new = g.D.Disk.medium c.flush.new.disk in
    made_ok laws texts told app now root was m law c.requires l c.in-Ok.ensures.located storage there
    (call.Flush name c.args.handle) (flush_refused storage c.args.handle)
    (flushed_row laws texts told app now root was m law c.requires l c.in-Ok.ensures.located storage there name
    (λ tells. c.in-Ok.ensures.named m.image (c.requires.root_at.disk tells))
    (λ tells. c.in-Ok.ensures.found m.image (c.requires.root_at.disk tells)) c.args.handle)
    (λ tells. ap (λ x. Some x) (c.in-Ok.ensures.named m.image (c.requires.root_at.disk tells)))
    (λ tells x row. flush_reaches app now (resting_with m.image app was) name c.args.handle x refl row) refl
    (λ x. refl) (flush_early storage c.args.handle)
    new (c.flush.new.disk ≡ c.args.disk.now) (λ same. ap g.D.Disk.medium same) c.flush.result
    (record {
      done = c.flush.ensures.done;
      due = c.flush.ensures.due;
      unchanged = c.flush.ensures.unchanged;
      quiet =
          c.flush.ensures.quiet;
      clean = c.flush.ensures.clean;
      at_most = c.flush.ensures.at_most;
      cause =
          c.flush.ensures.cause;
      fed = λ bad. ap (λ d. (g.D.Disk.medium d).faults) (c.flush.ensures.fed bad);
      passes = c.flush.ensures.passes;
      storing = c.flush.ensures.storing;
    })
    c.in-Ok-flush.made c.in-Ok-flush.is c.take.new.self c.put_back.new.self c.take.ensures.rest c.put_back.result
    c.put_back.ensures

pub returns-in-Err-flush : goal.returns-in-Err-flush
returns-in-Err-flush g c = λ now.
    let told = g.D.Disk.told in let m = g.D.Disk.medium c.args.disk.now in let app = c.args.app in let root =
    c.args.root.now in let was = c.args.self.now in
    let name = c.args.name.now in let law = g.met.D.Disk.lawful c.args.disk.now in let laws =
    c.storages_stand.ensures in let texts = c.errors_have_texts.ensures in
    let l = c.in-Ok.located in let storage = c.in-Some.storage in let there =
    sym c.take.ensures.taken ∙ c.in-Some.is in let new = g.D.Disk.medium c.flush.new.disk in
    made_err laws texts told app now root was m law c.requires l c.in-Ok.ensures.located storage there
    (call.Flush name c.args.handle) (flush_refused storage c.args.handle)
    (flushed_row laws texts told app now root was m law c.requires l c.in-Ok.ensures.located storage there name
    (λ tells. c.in-Ok.ensures.named m.image (c.requires.root_at.disk tells))
    (λ tells. c.in-Ok.ensures.found m.image (c.requires.root_at.disk tells)) c.args.handle)
    (λ tells. ap (λ x. Some x) (c.in-Ok.ensures.named m.image (c.requires.root_at.disk tells)))
    (λ tells x row. flush_reaches app now (resting_with m.image app was) name c.args.handle x refl row) refl
    (λ x. refl) (flush_early storage c.args.handle)
    new (c.flush.new.disk ≡ c.args.disk.now) (λ same. ap g.D.Disk.medium same) c.flush.result
    (record {
      done = c.flush.ensures.done;
      due = c.flush.ensures.due;
      unchanged = c.flush.ensures.unchanged;
      quiet =
          c.flush.ensures.quiet;
      clean = c.flush.ensures.clean;
      at_most = c.flush.ensures.at_most;
      cause =
          c.flush.ensures.cause;
      fed = λ bad. ap (λ d. (g.D.Disk.medium d).faults) (c.flush.ensures.fed bad);
      passes = c.flush.ensures.passes;
      storing = c.flush.ensures.storing;
    })
    c.take.new.self c.take.ensures.rest c.in-Err-flush.stop c.in-Err-flush.is
