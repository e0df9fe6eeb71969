use Rattle.std.proofs.Common.{take}
use Rattle.std.specs.List.{AllZip}
use Rattle.text_tests.specs.Stores.{Stores}
use Rattle.text_tests.proofs.updates.installed.entries.Given as goal

-- the elements that were seen are stored
abbrev pub invariant-loop-fresh : goal.invariant-loop-fresh
invariant-loop-fresh l = AllZip Stores (take l.fresh-index l.fresh-items) l.entries.items
