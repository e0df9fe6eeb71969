use Rattle.std.proofs.Common.{sym, ap, ◌∙◌}
use Rattle.flash_model.specs.declared.record.FlashCall.TheVariants.{Erase}
use Rattle.flash_model.specs.Pages.{erase_block}
use Rattle.flash_model.specs.History.{pages_of}
use Rattle.flash_model.proofs.Answering.{change_tied}
use Rattle.flash_model.proofs.memory.MemFlash.erase_block.Goals as goal

pub invariant_of-self-2 : goal.invariant_of-self-2
invariant_of-self-2 c = let was = c.args.self.now in record {
  long = c.blank_block.ensures.len ∙ was.long;
  tied = change_tied was.calls.items c.push.new.self.items (Erase c.args.block) (pages_of was.pages.items)
      (pages_of c.blank_block.new.pages.items)
      c.in_ok-push.ensures.items (ap (λ pages. erase_block pages c.args.block) (sym was.tied)
      ∙ sym c.blank_block.ensures.pages);
}
