use Rattle.std.proofs.Common.{sym, ap, ◌∙◌}
use Rattle.flash_model.specs.declared.record.FlashCall.TheVariants.{Program}
use Rattle.flash_model.specs.Pages.{program_page}
use Rattle.flash_model.specs.History.{pages_of}
use Rattle.flash_model.proofs.Answering.{change_tied}
use Rattle.flash_model.proofs.memory.MemFlash.program_page.Goals as goal

pub invariant_of-self-2 : goal.invariant_of-self-2
invariant_of-self-2 c =
    let was = c.args.self.now in
    let copy = c.in_ok-copy.copy in
    record {
      long = c.set_page.ensures.len ∙ was.long;
      tied = change_tied was.calls.items c.push.new.self.items (Program c.args.block c.args.page copy)
          (pages_of was.pages.items) (pages_of c.set_page.new.pages.items)
          c.in_ok-push.ensures.items
          (ap (program_page _ c.args.block c.args.page) c.in_ok-copy.ensures.items
          ∙ ap (λ pages. program_page pages c.args.block c.args.page c.args.bytes.now) (sym was.tied)
          ∙ sym c.set_page.ensures.pages);
    }
