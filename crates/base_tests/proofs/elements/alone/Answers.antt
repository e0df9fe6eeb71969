use Rattle.std.proofs.Common.{◌+◌, ◌≤◌, List, length, sym, ap, subst, arith}
use Rattle.per_base.specs.declared.elements.Fresh.{Fresh}
use Rattle.index_text.specs.Contents.{AreContents, SuitsKind}
use Rattle.base_tests.proofs.Single.{one_content}
use Rattle.base_tests.proofs.elements.alone.Goals as goal

pub returns : goal.returns
returns c =
    let fresh : SuitsKind c.args.shape.now.kind c.args.fresh = c.is_of_kind.ensures c.if-not-is_of_kind.false in
    let small : length c.args.fresh.name + length c.args.fresh.bytes ≤ c.args.shape.now.allowed =
    let name = ap length c.as_str.ensures.text in omega (arith, name, c.len.ensures) in
    subst (λ (fs : List Fresh). AreContents c.args.shape.now.kind c.args.shape.now.allowed fs)
    (sym c.in_ok-vec.ensures.items) (one_content c.args.shape.now c.args.fresh fresh small)
