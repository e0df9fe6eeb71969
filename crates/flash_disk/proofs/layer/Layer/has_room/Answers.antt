use Rattle.std.proofs.Common.{◌≡◌, ◌+◌, ◌-◌, ◌/◌, ap, sym, ◌∙◌, cond, arith}
use Rattle.std.specs.Int.{div_ceil}
use Rattle.flash_disk.specs.Known.{limit_of, page_len}
use Rattle.flash_disk.specs.Counted.{missing}
use Rattle.flash_disk.proofs.Missing.{one_missing, fits_in}
use Rattle.flash_disk.proofs.layer.Layer.has_room.Goals as goal
use Rattle.flash_disk.proofs.layer.Layer.has_room.Goals.{then-is_none, else-is_none}

pub loop-page-preserved : goal.loop-page-preserved
loop-page-preserved g c =
    let i = c.loop-page.invariant in
    let table = c.args.self.now.state.table in
    let file = c.args.file in
    let from = c.args.at / 256 in
    let page = c.loop-page.page in
    let past = c.loop-page.auto.page in
    let step : missing table file from (page + 1 - from)
    ≡ missing table file from (page - from) + cond c.is_none.result 1 0 =
    one_missing table file from page (page - from) (page + 1 - from) (omega (arith, past)) (omega (arith, past))
    c.is_none.result c.find.result c.is_none.ensures c.find.ensures in
    let so_far = i.0 in
    let few = i.1 in
    let test = c.loop-page-test.true in
    let last = c.div_ceil-page-end.ensures in
    let end = c.requires.end in
    elim c.if-is_none.branch [
      | then-is_none w ↦
          let one : missing table file from (page - from) + cond c.is_none.result 1 0
          ≡ missing table file from (page - from) + 1 = ap (λ b. missing table file from (page - from) + cond b 1 0)
          w.if-is_none.true in
          let sum = w.saturating_add-new.ensures in
          let is = w.new-is in
          (omega (arith, step, so_far, few, test, last, end, one, sum, is), omega (arith, few, sum, is))
      | else-is_none w ↦
          let none : missing table file from (page - from) + cond c.is_none.result 1 0
          ≡ missing table file from (page - from) + 0 = ap (λ b. missing table file from (page - from) + cond b 1 0)
          w.if-is_none.false in
          let is = w.new-is in
          (omega (arith, step, so_far, none, is), omega (arith, few, is))
    ]

pub returns : goal.returns
returns g c =
    let i = c.loop-page.invariant in
    let table = c.args.self.now.state.table in
    let file = c.args.file in
    let from = c.args.at / 256 in
    let end = c.div_ceil-page-end.ensures in
    let past = c.loop-page-test.false in
    let within = c.loop-page.auto.page-end in
    let ordered = c.requires.ordered in
    let last : c.loop-page.page ≡ div_ceil c.args.end 256 = omega (arith, end, past, within, ordered) in
    let same : missing table file from (div_ceil c.args.end 256 - from) ≡ c.loop-page.new =
    sym (i.0 ∙ ap (λ p. missing table file from (p - from)) last) in
    fits_in c.loop-page.new c.room.result (missing table file from (div_ceil c.args.end 256 - from)) (limit_of table)
    (page_len table) same c.room.ensures
