use Rattle.std.proofs.Common.{rules, ◌≡◌, ◌∙◌, map}
use Rattle.std.specs.BTreeMap.{keys}
use Rattle.std.specs.Map.Iter.{deref}
use Rattle.std.proofs.lemmas.Map.Iter.{iter_end}
use Rattle.mem_system.proofs.Copies.{absent_none}
use Rattle.mem_system.proofs.files.numbers_of.Goals as goal

pub returns : goal.returns
returns c =
    let all : map deref c.loop-file.yielded ≡ keys c.args.files.now = search (rules, iter_end) in
    absent_none c.args.files.now c.loop-file.numbers.items (c.loop-file.invariant ∙ all)
