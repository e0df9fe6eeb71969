use Rattle.std.proofs.Common.{string_bytes}
use Rattle.per_list.specs.Listings.{root_copy}
use Rattle.per_list.proofs.Texts.{Left}
use Rattle.per_list.proofs.printing.push_root_copies.Given as goal

abbrev pub invariant-loop-copy : goal.invariant-loop-copy
invariant-loop-copy l = Left (root_copy l.form l.app) 3 l.copy (string_bytes l.fn.out) (string_bytes l.out)
