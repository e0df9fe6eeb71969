use Rattle.std.proofs.Common.{string_bytes}
use Rattle.per_list.specs.Listings.{copy_text}
use Rattle.per_list.proofs.Texts.{Left}
use Rattle.per_list.proofs.printing.push_copies.Given as goal

abbrev pub invariant-loop-copy : goal.invariant-loop-copy
invariant-loop-copy l = Left (copy_text l.form l.app l.bank l.name l.place) l.place.copies l.copy
    (string_bytes l.fn.out) (string_bytes l.out)
