use Rattle.std.proofs.Common.{◌≡◌, ◌≢◌, ◌∙◌, ◌+◌, ◌%◌, arith}
use Rattle.hash_guard.specs.Laws.{verified-none}
use Rattle.guarded_cell.proofs.Seeing.{noted_none, noted_other, noted_same}
use Rattle.guarded_cell.proofs.Marked.{flag_of_none, flag_of_some}
use Rattle.guarded_cell.proofs.looking.note_front.Goals as goal

pub returns-then-found-from-clause-seen : goal.returns-then-found-from-clause-seen
returns-then-found-from-clause-seen c =
    let differs : c.in-Some.found.generation % 2 ≢ c.args.parity = λ e. omega (arith, e, c.from.ensures) in
    noted_other (c.args.copy + 1) c.args.parity c.in-Some.found.generation c.args.bytes.now c.in-Some.found.body.now
    c.args.seens.now.items c.in-Some.ensures.some differs

pub returns-in-None-clause-seen : goal.returns-in-None-clause-seen
returns-in-None-clause-seen c = noted_none (c.args.copy + 1) c.args.parity c.args.bytes.now c.args.seens.now.items
    (verified-none c.args.bytes.now c.in-None.ensures.none)

pub returns-in_ok-note-in-Some-clause-seen : goal.returns-in_ok-note-in-Some-clause-seen
returns-in_ok-note-in-Some-clause-seen c =
    let same : c.in-Some.found.generation % 2 ≡ c.args.parity = omega (arith, c.from.ensures) in
    c.in_ok-note-in-Some.ensures.seen
    ∙ noted_same (c.args.copy + 1) c.args.parity c.in-Some.found.generation c.args.bytes.now c.in-Some.found.body.now
    c.args.seens.now.items c.in-Some.ensures.some same

pub returns-in-None-clause-flag : goal.returns-in-None-clause-flag
returns-in-None-clause-flag c =
    flag_of_none c.args.bytes.now (verified-none c.args.bytes.now c.in-None.ensures.none)

pub returns-then-found-from-clause-flag : goal.returns-then-found-from-clause-flag
returns-then-found-from-clause-flag c =
    flag_of_some c.args.bytes.now c.in-Some.found.generation c.in-Some.found.body.now c.in-Some.ensures.some

pub returns-in_ok-note-in-Some-clause-flag : goal.returns-in_ok-note-in-Some-clause-flag
returns-in_ok-note-in-Some-clause-flag c =
    flag_of_some c.args.bytes.now c.in-Some.found.generation c.in-Some.found.body.now c.in-Some.ensures.some
