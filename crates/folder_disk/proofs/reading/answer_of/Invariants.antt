use Rattle.system_model.specs.SystemMedium.{Looks}
use Rattle.folder_disk.proofs.reading.answer_of.Given as goal

abbrev pub invariant-loop : goal.invariant-loop
invariant-loop g l = Looks (g.S.System.medium l.fn.system) (g.S.System.medium l.system)
