use Rattle.std.proofs.Common.{◌≤◌, ◌<◌, sym, ◌∙◌, arith}
use Rattle.m_of_n.specs.Vote.{holders, texts_of}
use Rattle.m_of_n.proofs.Passing.{agreed_here, agreed_later, agreed_past}
use Rattle.m_of_n.proofs.vote.Goals as goal
use Rattle.m_of_n.proofs.vote.Goals.{in-Some+else-count_holders-m, in_default}

pub returns-then-count_holders-m : goal.returns-then-count_holders-m
returns-then-count_holders-m c =
    let enough : c.args.m ≤ holders (texts_of c.args.copies.now) c.in-Some.text.now =
    omega (arith, c.count_holders.ensures) in
    sym (agreed_here c.args.m c.args.copies.now c.loop-copy.copy-index c.loop-copy-test.true c.in-Some.text c.in-Some.is
    enough)
    ∙ c.loop-copy.invariant

pub loop-copy-preserved : goal.loop-copy-preserved
loop-copy-preserved c =
    elim c.match-copy.branch [
      | in-Some+else-count_holders-m w ↦
          let few : holders (texts_of c.args.copies.now) w.in-Some.text.now < c.args.m =
          omega (arith, w.count_holders.ensures) in
          sym (agreed_later c.args.m c.args.copies.now c.loop-copy.copy-index c.loop-copy-test.true w.in-Some.text
          w.in-Some.is few)
          ∙ c.loop-copy.invariant
      | in_default w ↦
          sym (agreed_past c.args.m c.args.copies.now c.loop-copy.copy-index c.loop-copy-test.true w.in_default.is)
          ∙ c.loop-copy.invariant
    ]
