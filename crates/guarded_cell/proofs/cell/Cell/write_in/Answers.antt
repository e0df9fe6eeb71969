use Rattle.guarded_cell.proofs.Flags.{all_lack, all_stale}
use Rattle.guarded_cell.proofs.cell.Cell.write_in.Goals as goal

pub replace-requires-clause-lacking : goal.replace-requires-clause-lacking
replace-requires-clause-lacking g c = λ tells.
    let held = c.requires.held tells in
    all_lack (g.D.Disk.medium c.args.disk.now).image c.args.self.place
    c.args.self.generation held.0 c.args.text.now c.args.self.place.few held.1

pub replace-requires-clause-stale : goal.replace-requires-clause-stale
replace-requires-clause-stale g c = λ tells.
    let held = c.requires.held tells in
    all_stale (g.D.Disk.medium c.args.disk.now).image c.args.self.place
    c.args.self.generation held.0 c.args.text.now c.args.self.place.few held.1
