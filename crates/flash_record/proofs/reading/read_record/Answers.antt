use Rattle.std.proofs.Common.{◌≡◌, ◌-◌, ap, ◌∙◌, length, drop, take, take_all, Some, List, ℕ, arith, length-drop}
use Rattle.byteorder.specs.Numbers.{little_from-take}
use Rattle.flash_record.specs.lemmas.Bodies.{record_in-text, record_in-none, record_in-other, said}
use Rattle.flash_record.proofs.reading.read_record.Goals as goal

pub returns-in-None-clause-record : goal.returns-in-None-clause-record
returns-in-None-clause-record c = record_in-none c.args.page.now c.in-None.ensures.none

pub returns-then-found-ne-BODY-clause-record : goal.returns-then-found-ne-BODY-clause-record
returns-then-found-ne-BODY-clause-record c = record_in-other c.args.page.now c.in-Some.found.generation
    c.in-Some.found.body.now c.in-Some.ensures.some c.if-found-ne-BODY.true

pub returns-else-found-ne-BODY-clause-record : goal.returns-else-found-ne-BODY-clause-record
returns-else-found-ne-BODY-clause-record c =
    let body : List ℕ = c.in-Some.found.body.now in
    let long : length body ≡ 272 = c.if-found-ne-BODY.false in
    record_in-text c.args.page.now c.in-Some.found.generation body c.in-Some.ensures.some long
    ∙ ap Some (said c.in-Some.found.generation body c.read_u32.result c.read_u32-in-Some.result c.read_u64.result
    (take (length body - 16) (drop 16 body))
    c.read_u32.ensures
    (c.read_u32-in-Some.ensures ∙ little_from-take 0 4 (length body - 4) (drop 4 body) (omega arith))
    (c.read_u64.ensures ∙ little_from-take 0 8 (length body - 8) (drop 8 body) (omega arith))
    (take_all (length body - 16) (drop 16 body) (omega (arith, length-drop 16 body))))
