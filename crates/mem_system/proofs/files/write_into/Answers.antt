use Rattle.std.proofs.Common.{◌≡◌, ◌≢◌, length, arith, ap, ◌∙◌, sym}
use Rattle.std.proofs.lemmas.Grind.{common_steps}
use Rattle.disk_model.specs.History.{grown}
use Rattle.disk_model.specs.Written.{put_none}
use Rattle.mem_system.proofs.Puts.{put_is}
use Rattle.mem_system.proofs.files.write_into.Goals as goal

pub returns-clause-ok : goal.returns-clause-ok
returns-clause-ok c = let some : length c.args.bytes.now ≢ 0 = grind (arith, common_steps) in
    put_is c.args.file.now.items c.args.bytes.now c.lengthen.new.file.items c.overwrite.new.file.items c.args.at some
    (c.in_ok-lengthen.ensures.ok ∙ ap (grown c.args.file.now.items) c.in_ok-end.ensures)
    c.overwrite.ensures.len c.overwrite.ensures.inside c.overwrite.ensures.outside

pub returns-then-is_empty-clause-ok : goal.returns-then-is_empty-clause-ok
returns-then-is_empty-clause-ok c = let none : length c.args.bytes.now ≡ 0 = grind (arith, common_steps) in
    sym (put_none c.args.file.now.items c.args.at c.args.bytes.now none)
