use Rattle.std.proofs.Common.{sym, ◌∙◌, ap}
use Rattle.file_handles.specs.Lending.{all_put_back}
use Rattle.file_handles.proofs.Lent.{back_last}
use Rattle.file_handles.proofs.lending.put_all_back.Goals as goal

pub loop-change-preserved : goal.loop-change-preserved
loop-change-preserved c =
    ap (λ files. all_put_back files c.pop.new.self.items) c.put_one_back.ensures
    ∙ sym (back_last c.loop-change.files.entries c.pop.new.self.items c.in-Some.change)
    ∙ ap (all_put_back c.loop-change.files.entries) (sym c.in-Some.ensures.items)
    ∙ c.loop-change.invariant
