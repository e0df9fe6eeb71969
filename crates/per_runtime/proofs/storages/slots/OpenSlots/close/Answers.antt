use Rattle.std.proofs.Common.{◌≡◌, option_map, refl, sym, ap, ◌∙◌}
use Rattle.per_base.specs.declared.errors.PerError.TheVariants as error
use Rattle.open_storages.specs.Opens.{session_in}
use Rattle.per_runtime.specs.storages.Finding.{found_on}
use Rattle.per_runtime.specs.storages.Slots.{resting_with}
use Rattle.per_runtime.proofs.storage_lemmas.DurableRows.{close_not_found, close_not_open}
use Rattle.per_runtime.proofs.storage_lemmas.Ended.{early_handled}
use Rattle.per_runtime.proofs.storage_lemmas.SlotLaws.{session_slot}
use Rattle.per_runtime.proofs.storage_lemmas.Closed.{close_err, close_ok}
use Rattle.per_runtime.proofs.storage_lemmas.Durables.{emptied_again, used}
use Rattle.per_runtime.proofs.storage_lemmas.Synced.{not_open_early}
use Rattle.command_text.specs.declared.calls.Call.TheVariants as call
use Rattle.per_runtime.proofs.storages.slots.OpenSlots.close.Goals as goal

-- ---- refused before any call of the disk

pub returns-in-Err : goal.returns-in-Err
returns-in-Err g c = λ now.
    let told = g.D.Disk.told in let m = g.D.Disk.medium c.args.disk.now in let app = c.args.app in let root =
    c.args.root.now in let was = c.args.self.now in
    let name = c.args.name.now in let law = g.met.D.Disk.lawful c.args.disk.now in let laws =
    c.storages_stand.ensures in let texts = c.errors_have_texts.ensures in
    early_handled laws told app now root (call.Close name) was m (c.args.disk.now ≡ c.args.disk.now) refl law c.requires
    texts was refl c.in-Err.error c.in-Err.ensures.early c.refusal.result c.refusal.ensures
    (λ tells. close_not_found app now (resting_with m.image app was) name c.in-Err.error
    (c.in-Err.ensures.refused m.image (c.requires.root_at.disk tells)))

pub returns-in_default : goal.returns-in_default
returns-in_default g c = λ now.
    let told = g.D.Disk.told in let m = g.D.Disk.medium c.args.disk.now in let app = c.args.app in let root =
    c.args.root.now in let was = c.args.self.now in
    let name = c.args.name.now in let law = g.met.D.Disk.lawful c.args.disk.now in let laws =
    c.storages_stand.ensures in let texts = c.errors_have_texts.ensures in
    let l = c.in-Ok.located in let none = sym c.take.ensures.taken ∙ c.in_default.is in
    early_handled laws told app now root (call.Close name) was m (c.args.disk.now ≡ c.args.disk.now) refl law c.requires
    texts c.take.new.self (emptied_again told m.image app root was c.take.new.self l c.requires c.in-Ok.ensures.located
    none c.take.ensures.rest)
    error.NotOpen not_open_early c.refusal-in_default.result c.refusal-in_default.ensures
    (λ tells. close_not_open app now (resting_with m.image app was) name (found_on m.image l)
    (c.in-Ok.ensures.named m.image (c.requires.root_at.disk tells))
    (session_slot m.image app was l.number ∙ ap (option_map session_in) none))

-- ---- an open storage

pub close-requires : goal.close-requires
close-requires g c =
    let told = g.D.Disk.told in let m = g.D.Disk.medium c.args.disk.now in let app = c.args.app in let root =
    c.args.root.now in let was = c.args.self.now in
    let name = c.args.name.now in let law = g.met.D.Disk.lawful c.args.disk.now in let laws =
    c.storages_stand.ensures in let texts = c.errors_have_texts.ensures in
    record {
      used = used laws texts told app 0 root was m c.requires c.in-Ok.located c.in-Ok.ensures.located
          c.in-Some.storage (sym c.take.ensures.taken ∙ c.in-Some.is);
    }

pub returns-in-Ok-close : goal.returns-in-Ok-close
returns-in-Ok-close g c = λ now.
    let told = g.D.Disk.told in let m = g.D.Disk.medium c.args.disk.now in let app = c.args.app in let root =
    c.args.root.now in let was = c.args.self.now in
    let name = c.args.name.now in let law = g.met.D.Disk.lawful c.args.disk.now in let laws =
    c.storages_stand.ensures in let texts = c.errors_have_texts.ensures in
    let l = c.in-Ok.located in let storage = c.in-Some.storage in let there =
    sym c.take.ensures.taken ∙ c.in-Some.is in let new = g.D.Disk.medium c.close.new.disk in
    close_ok laws texts told app now root was m law c.requires l c.in-Ok.ensures.located name
    (λ tells. c.in-Ok.ensures.named m.image (c.requires.root_at.disk tells))
    new (c.close.new.disk ≡ c.args.disk.now) (λ same. ap g.D.Disk.medium same) c.close.result storage there
    (record {
      done = c.close.ensures.done;
      due = c.close.ensures.due;
      keys = c.close.ensures.keys;
      unchanged =
          c.close.ensures.unchanged;
      opens = c.close.ensures.opens;
      quiet = c.close.ensures.quiet;
      clean =
          c.close.ensures.clean;
      at_most = c.close.ensures.at_most;
      cause = c.close.ensures.cause;
      fed = λ bad. ap (λ d. (g.D.Disk.medium d).faults) (c.close.ensures.fed bad);
      passes = c.close.ensures.passes;
      storing =
          c.close.ensures.storing;
    })
    c.in-Ok-close.closing c.in-Ok-close.is c.take.new.self c.leave.new.self c.take.ensures.rest c.leave.result
    c.leave.ensures

pub returns-in-Err-close : goal.returns-in-Err-close
returns-in-Err-close g c = λ now.
    let told = g.D.Disk.told in let m = g.D.Disk.medium c.args.disk.now in let app = c.args.app in let root =
    c.args.root.now in let was = c.args.self.now in
    let name = c.args.name.now in let law = g.met.D.Disk.lawful c.args.disk.now in let laws =
    c.storages_stand.ensures in let texts = c.errors_have_texts.ensures in
    let l = c.in-Ok.located in let storage = c.in-Some.storage in let there =
    sym c.take.ensures.taken ∙ c.in-Some.is in let new = g.D.Disk.medium c.close.new.disk in
    close_err laws texts told app now root was m law c.requires l c.in-Ok.ensures.located name
    (λ tells. c.in-Ok.ensures.named m.image (c.requires.root_at.disk tells))
    new (c.close.new.disk ≡ c.args.disk.now) (λ same. ap g.D.Disk.medium same) c.close.result storage there
    (record {
      done = c.close.ensures.done;
      due = c.close.ensures.due;
      keys = c.close.ensures.keys;
      unchanged =
          c.close.ensures.unchanged;
      opens = c.close.ensures.opens;
      quiet = c.close.ensures.quiet;
      clean =
          c.close.ensures.clean;
      at_most = c.close.ensures.at_most;
      cause = c.close.ensures.cause;
      fed = λ bad. ap (λ d. (g.D.Disk.medium d).faults) (c.close.ensures.fed bad);
      passes = c.close.ensures.passes;
      storing =
          c.close.ensures.storing;
    })
    c.take.new.self c.take.ensures.rest c.in-Err-close.stop c.in-Err-close.is
