use Rattle.std.proofs.Common.{◌≡◌, ◌∙◌, subst, sym, arith, length, drop}
use Rattle.system_model.specs.SystemMedium.{ShowsBytes}
use Rattle.folder_disk.proofs.Syncs.{written_back, shows_read}
use Rattle.folder_disk.proofs.syncing.held_in.Goals as goal

pub returns-clause-shows : goal.returns-clause-shows
returns-clause-shows g c = λ t.
    let file = (g.S.System.medium c.args.system.now).disk.image c.args.range.file in
    let new = c.read_all.new.out in
    let buf = c.as_mut_slice.result.now in
    let e = c.in_ok-count.ensures.bytes t (c.requires.whole t c.args.range.file) in
    let long : length new ≡ length buf = c.read_all.auto.out in
    let all : length buf ≡ c.in-Ok.bytes.len = omega (arith, c.as_mut_slice.ensures.len) in
    subst (λ xs. ShowsBytes file c.args.range.at xs)
    (sym (written_back c.in-Ok.bytes.len new (drop (length new) c.in-Ok.bytes.items) (sym all ∙ sym long)))
    (shows_read file c.args.range.at c.in_ok-count.count (length buf) new long
    (omega (arith, c.if-count-len.false, c.len.ensures, all)) e.0 e.1)
