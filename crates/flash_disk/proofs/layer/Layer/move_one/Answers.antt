use Rattle.std.proofs.Common.{◌≡◌, ◌∙◌, sym, ap, subst}
use Rattle.std.specs.Prelude.{Some}
use Rattle.flash_disk.specs.declared.layer.LayerState.{LayerState}
use Rattle.flash_disk.specs.Known.{known, HasCapacity, SetsEntry}
use Rattle.flash_disk.specs.Kept.{in_ranges}
use Rattle.flash_disk.proofs.Emptying.{leaves_more, passed_by, moves_on, look_moves, look_moving, copying_moves}
use Rattle.flash_disk.proofs.Emptying.{copying_goes_on, put_sets}
use Rattle.flash_disk.proofs.layer.Layer.move_one.Goals as goal

pub returns-in_err-read_page-clause-does : goal.returns-in_err-read_page-clause-does
returns-in_err-read_page-clause-does g c told =
    let m = g.F.Flash.medium c.args.self.now.flash in
    let look = g.F.Flash.medium c.read_page.new.self.flash in
    let e = c.read_page.ensures.reads.only in
    look_moves (in_ranges c.args.kept.now) m look c.args.from.block c.args.to.block (e.looks.state told)
    c.read_page.ensures.during

pub returns-in_default-clause-does : goal.returns-in_default-clause-does
returns-in_default-clause-does g c told =
    let m = g.F.Flash.medium c.args.self.now.flash in
    let look = g.F.Flash.medium c.read_page.new.self.flash in
    let e = c.read_page.ensures.reads.only in
    look_moves (in_ranges c.args.kept.now) m look c.args.from.block c.args.to.block (e.looks.state told)
    c.read_page.ensures.during

pub returns-in_default-clause-moving : goal.returns-in_default-clause-moving
returns-in_default-clause-moving g c told =
    let m = g.F.Flash.medium c.args.self.now.flash in
    let look = g.F.Flash.medium c.read_page.new.self.flash in
    let e = c.read_page.ensures.reads.only in
    let s = c.read_page.new.self.state in
    let kept = in_ranges c.args.kept.now in
    let from = c.args.from in
    let to = c.args.to in
    let moving = look_moving kept m look from.block to.block c.args.self.now.state s c.read_page.ensures.reads.state
    from.page to.page (e.looks.state told) e.blocks (c.requires.moving told) in
    let read = c.in_ok-read_page.ensures.bytes told (c.requires.moving told).within c.requires.page
    ∙ ap (λ z. z.pages from.block from.page) (sym (e.looks.state told)) in
    passed_by kept look.blocks look.state.pages s from.block from.page to moving
    (leaves_more kept look.blocks look.state.pages s.table moving.forgetting.led from.block from.page c.requires.page
    c.read_page.new.out read moving.out c.needed_in.result c.in_default.is c.needed_in.ensures.found)

pub returns-in_err-program_page-clause-does : goal.returns-in_err-program_page-clause-does
returns-in_err-program_page-clause-does g c told =
    let m = g.F.Flash.medium c.args.self.now.flash in
    let look = g.F.Flash.medium c.read_page.new.self.flash in
    let now = g.F.Flash.medium c.program_page.new.self.flash in
    let e = c.read_page.ensures.reads.only in
    let p = c.program_page.ensures in
    let s = c.read_page.new.self.state in
    let kept = in_ranges c.args.kept.now in
    let from = c.args.from in
    let to = c.args.to in
    let start = c.requires.moving told in
    let moving = look_moving kept m look from.block to.block c.args.self.now.state s c.read_page.ensures.reads.state
    from.page to.page (e.looks.state told) e.blocks start in
    let read = c.in_ok-read_page.ensures.bytes told start.within c.requires.page
    ∙ ap (λ z. z.pages from.block from.page) (sym (e.looks.state told)) in
    let n = c.in-Some.ensures in
    moves_on kept m look now (c.read_page.ensures.reads.accounts.time told) (p.accounts.time told)
    start.forgetting.agreed from.block to.block start.apart
    (look_moves kept m look from.block to.block (e.looks.state told) c.read_page.ensures.during)
    (copying_moves kept look s from.block from.page to moving c.requires.page c.read_page.new.out read c.in-Some.key
    c.in-Some.old n.kept n.known n.block n.page now c.program_page.result (p.done told) (p.failed told) (p.during told))

pub returns-clause-does : goal.returns-clause-does
returns-clause-does g c told =
    let m = g.F.Flash.medium c.args.self.now.flash in
    let look = g.F.Flash.medium c.read_page.new.self.flash in
    let now = g.F.Flash.medium c.program_page.new.self.flash in
    let e = c.read_page.ensures.reads.only in
    let p = c.program_page.ensures in
    let s = c.read_page.new.self.state in
    let kept = in_ranges c.args.kept.now in
    let from = c.args.from in
    let to = c.args.to in
    let start = c.requires.moving told in
    let moving = look_moving kept m look from.block to.block c.args.self.now.state s c.read_page.ensures.reads.state
    from.page to.page (e.looks.state told) e.blocks start in
    let read = c.in_ok-read_page.ensures.bytes told start.within c.requires.page
    ∙ ap (λ z. z.pages from.block from.page) (sym (e.looks.state told)) in
    let n = c.in-Some.ensures in
    moves_on kept m look now (c.read_page.ensures.reads.accounts.time told) (p.accounts.time told)
    start.forgetting.agreed from.block to.block start.apart
    (look_moves kept m look from.block to.block (e.looks.state told) c.read_page.ensures.during)
    (copying_moves kept look s from.block from.page to moving c.requires.page c.read_page.new.out read c.in-Some.key
    c.in-Some.old n.kept n.known n.block n.page now c.program_page.result (p.done told) (p.failed told) (p.during told))

pub returns-clause-moving : goal.returns-clause-moving
returns-clause-moving g c told =
    let m = g.F.Flash.medium c.args.self.now.flash in
    let look = g.F.Flash.medium c.read_page.new.self.flash in
    let now = g.F.Flash.medium c.program_page.new.self.flash in
    let e = c.read_page.ensures.reads.only in
    let p = c.program_page.ensures in
    let s = c.read_page.new.self.state in
    let u = c.program_page.new.self.state in
    let kept = in_ranges c.args.kept.now in
    let from = c.args.from in
    let to = c.args.to in
    let start = c.requires.moving told in
    let moving = look_moving kept m look from.block to.block c.args.self.now.state s c.read_page.ensures.reads.state
    from.page to.page (e.looks.state told) e.blocks start in
    let read = c.in_ok-read_page.ensures.bytes told start.within c.requires.page
    ∙ ap (λ z. z.pages from.block from.page) (sym (e.looks.state told)) in
    let n = c.in-Some.ensures in
    let table = c.put.new.self in
    let t : LayerState = record u { table = table } in
    let state : t ≡ record s { table = table } =
    ap (λ (q : LayerState). let z : LayerState = record q { table = table } in z) p.state in
    let sets : SetsEntry u.table table c.in-Some.key (record c.in-Some.old { place = to }) =
    put_sets u.table table c.in-Some.key c.in-Some.old (record c.in-Some.old { place = to }) c.put.result
    (subst (λ (q : LayerState). HasCapacity q.table) (sym p.state) moving.forgetting.room)
    (subst (λ (q : LayerState). known q.table c.in-Some.key ≡ Some c.in-Some.old) (sym p.state) n.known)
    c.put.ensures.full c.put.ensures.put in
    copying_goes_on kept look s from.block from.page to moving c.requires.page c.read_page.new.out read c.in-Some.key
    c.in-Some.old n.kept n.known n.block n.page now (c.in_ok-program_page.ensures.done told)
    (p.accounts.time told).blocks t table state
    (subst (λ (q : LayerState). SetsEntry q.table table c.in-Some.key (record c.in-Some.old { place = to })) p.state sets)
