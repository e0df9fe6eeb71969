use Rattle.std.proofs.Common.{refl, sym, subst, arith}
use Rattle.flash_disk.specs.declared.layer.LayerState.{LayerState}
use Rattle.flash_disk.specs.Sound.{FitsIn}
use Rattle.flash_disk.specs.Apart.{copy_of}
use Rattle.flash_disk.specs.KeepsApart.{KeepsApart}
use Rattle.flash_disk.proofs.Turning.{turned_fits}
use Rattle.flash_disk.proofs.layer.Layer.free_block.Goals as goal

pub returns-in_err-collect-clause-fits : goal.returns-in_err-collect-clause-fits
returns-in_err-collect-clause-fits g c told file page len bytes fits =
    let m = g.F.Flash.medium c.args.self.now.flash in
    let s = c.args.self.now.state in
    let t : LayerState = record s { fill = 64 } in
    c.collect.ensures.fits told file page len bytes
    (turned_fits m m refl refl s t refl file page len bytes fits)

pub returns-then-self-lt-BLOCK_PAGES-clause-fits : goal.returns-then-self-lt-BLOCK_PAGES-clause-fits
returns-then-self-lt-BLOCK_PAGES-clause-fits g c told file page len bytes fits =
    let m = g.F.Flash.medium c.args.self.now.flash in
    let s = c.args.self.now.state in
    let t : LayerState = record s { fill = 64 } in
    c.collect.ensures.fits told file page len bytes
    (turned_fits m m refl refl s t refl file page len bytes fits)

pub returns-clause-fits : goal.returns-clause-fits
returns-clause-fits g c told file page len bytes fits =
    let m = g.F.Flash.medium c.args.self.now.flash in
    let s = c.args.self.now.state in
    let t : LayerState = record s { fill = 64 } in
    subst (λ f. FitsIn (g.F.Flash.medium f) c.fault.new.self.state file page len bytes) (sym c.fault.ensures.flash)
    (subst (λ s. FitsIn (g.F.Flash.medium c.collect.new.self.flash) s file page len bytes) (sym c.fault.ensures.state)
    (c.collect.ensures.fits told file page len bytes (turned_fits m m refl refl s t refl file page len bytes fits)))

pub returns-clause-own : goal.returns-clause-own
returns-clause-own g c told no_rivals = absurd (let less = c.in_ok-collect.ensures.light told in omega (arith, less))

pub returns-clause-apart : goal.returns-clause-apart
returns-clause-apart g c told =
    subst (λ f. KeepsApart (copy_of c.args.file) (g.F.Flash.medium c.args.self.now.flash) (g.F.Flash.medium f))
    (sym c.fault.ensures.flash) (c.collect.ensures.apart told)
