use Rattle.std.proofs.Common.{ℕ, List, length, nat_le, sym, ap, subst, ◌∙◌}
use Rattle.std.specs.List.{AllZip}
use Rattle.per_base.specs.declared.elements.Entry.{Entry}
use Rattle.per_base.specs.declared.elements.Scope.{Scope}
use Rattle.guarded_cell.specs.Held.{copies_that}
use Rattle.index_text.specs.declared.entries.IndexEntry.{IndexEntry}
use Rattle.element_state.specs.Fit.{FitText}
use Rattle.element_state.specs.Views.{supporters}
use Rattle.element_state.specs.Chosen.{Vouches, is_whole_of}
use Rattle.element_state.specs.lemmas.Supported.{all_alike}
use Rattle.element_state.proofs.Viewing.{all_vouched}
use Rattle.element_state.proofs.choosing.is_supported.Goals as goal

pub count_whole-requires-clause-vouched : goal.count_whole-requires-clause-vouched
count_whole-requires-clause-vouched g c = λ tells.
    let image = (g.D.Disk.medium c.args.disk.now).image in
    let shape = c.args.shape.now in
    let entries = c.args.index.now.entries in
    subst (λ (l : List IndexEntry). AllZip (Vouches image shape.place) l c.args.entries.now) (sym c.as_slice.ensures)
    (subst (λ (v : List Entry). AllZip (Vouches image shape.place) entries v) (sym (c.requires.views tells))
    (all_vouched image shape.place shape.m entries))

pub returns-in_ok-whole-in-Storage-clause-qualifies : goal.returns-in_ok-whole-in-Storage-clause-qualifies
returns-in_ok-whole-in-Storage-clause-qualifies g c = λ tells.
    let image = (g.D.Disk.medium c.args.disk.now).image in
    let shape = c.args.shape.now in
    let text : FitText = (c.args.seen.now, c.args.index.now) in
    ap (λ (n : ℕ). nat_le shape.m n)
    (c.in_ok-whole-in-Storage.ensures.count tells
    ∙ ap (λ (es : List IndexEntry). length (copies_that (is_whole_of image shape.place c.args.seen.now.copies es)
    shape.place.copies)) c.as_slice.ensures
    ∙ ap length (all_alike image shape.place text (c.requires.held tells)))
    ∙ ap (λ (s : Scope). nat_le shape.m (length (supporters s image shape.place text))) (sym c.in-Storage.is)
