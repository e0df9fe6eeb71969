use Rattle.std.proofs.Common.{◌≡◌, ⊎_elim, sym, ap, ◌∙◌, le_of_eq}
use Rattle.flash_model.specs.declared.record.FlashCall.TheVariants.{Read}
use Rattle.flash_model.specs.History.{pages_of}
use Rattle.flash_model.specs.Memory.{mem_flash}
use Rattle.flash_model.proofs.Answering.{call_done}
use Rattle.flash_model.proofs.memory.MemFlashFlash.read.Goals as goal

pub returns-clause-state : goal.returns-clause-state
returns-clause-state c = (call_done c.args.self.now c.enter.new.self Read
    (le_of_eq (sym c.in_ok-enter.ensures.ok.counts.faults)) c.in_ok-enter.ensures.record).state

pub returns-clause-during : goal.returns-clause-during
returns-clause-during c x past =
    let done = call_done c.args.self.now c.enter.new.self Read (le_of_eq (sym c.in_ok-enter.ensures.ok.counts.faults))
    c.in_ok-enter.ensures.record in
    ⊎_elim (λ was. was) (λ new. ⊎_elim (λ within. absurd within) (λ is. is) new) (done.during x past)

pub returns-clause-time : goal.returns-clause-time
returns-clause-time c = (call_done c.args.self.now c.enter.new.self Read
    (le_of_eq (sym c.in_ok-enter.ensures.ok.counts.faults)) c.in_ok-enter.ensures.record).time

pub returns-clause-bytes : goal.returns-clause-bytes
returns-clause-bytes c =
    let done = call_done c.args.self.now c.enter.new.self Read (le_of_eq (sym c.in_ok-enter.ensures.ok.counts.faults))
    c.in_ok-enter.ensures.record in
    let same : pages_of c.enter.new.self.pages.items ≡ (mem_flash c.args.self.now).state.pages =
    c.enter.new.self.tied ∙ ap (λ s. s.pages) done.state in
    c.page_in.ensures ∙ ap (λ pages. pages c.args.block c.args.page) same
