use Rattle.std.proofs.Common.{◌++◌, ◌∷◌, [], sym, ◌∙◌, ap}
use Rattle.file_storage.proofs.Walked.{met, put_before, put_last}
use Rattle.file_storage.proofs.differences.pass.Goals as goal
use Rattle.file_storage.proofs.differences.pass.Goals.{in-Some+in-Greater, in_default}

pub returns-in-Equal : goal.returns-in-Equal
returns-in-Equal c = λ files. met c.args.name.now c.args.file.now files c.in-Some.entry.now c.in-Some.more.now
    c.loop-entry.rest.now c.loop-entry.list.items c.meet.new.list.items _
    c.in-Some.ensures.cases.0 (sym c.in-Equal.ensures) c.in_ok-meet-in-Equal.ensures (c.loop-entry.invariant files)

pub returns : goal.returns
returns c = λ files.
    let is = c.in_ok-push.ensures.items ∙ ap (λ change. c.loop-entry.list.items ++ change ∷ []) c.in_ok-put.ensures in
    elim c.match-split_first.branch [
      | in-Some+in-Greater w ↦ put_before c.args.name.now c.args.file.now files w.in-Some.entry.now w.in-Some.more.now
          c.loop-entry.rest.now c.loop-entry.list.items c.push-2.new.self.items _
          w.in-Some.ensures.cases.0 (sym w.in-Greater.ensures) is (c.loop-entry.invariant files)
      | in_default w ↦ put_last c.args.name.now c.args.file.now files c.loop-entry.rest.now c.loop-entry.list.items
          c.push-2.new.self.items _
          (w.in_default.ensures.cases) is (c.loop-entry.invariant files)
    ]
