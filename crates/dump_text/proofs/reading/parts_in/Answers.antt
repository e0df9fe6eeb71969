use Rattle.std.proofs.Common.{ℕ, List, sym, ap, ◌∙◌}
use Rattle.dump_text.specs.Dumps.{are_said}
use Rattle.dump_text.proofs.Members.{some_same}
use Rattle.dump_text.proofs.Parts.{so_said}
use Rattle.dump_text.proofs.reading.parts_in.Goals as goal

pub returns-clause-said : goal.returns-clause-said
returns-clause-said c =
    let manifest = c.new-manifest.result in
    let storages = c.in_ok-storages.storages.items in
    so_said manifest storages (ap (λ (text : List ℕ). are_said text storages) (sym c.as_slice.ensures)
    ∙ ap (are_said c.as_slice.result.now) (sym c.as_slice-2.ensures.value)
    ∙ some_same _ _ c.in_ok-are_said.ensures ∙ c.if-not-branch.false)
