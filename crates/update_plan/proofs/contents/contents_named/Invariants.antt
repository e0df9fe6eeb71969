use Rattle.std.proofs.Common.{◌≡◌, drop}
use Rattle.std.specs.Prelude.{find}
use Rattle.std.specs.Str.{bytes_eq}
use Rattle.update_plan.specs.declared.contents.Stored.{Stored}
use Rattle.update_plan.proofs.contents.contents_named.Given as goal

-- the rest decides
abbrev pub invariant-loop-stored : goal.invariant-loop-stored
invariant-loop-stored l = find (λ (x : Stored). bytes_eq x.name l.name) (drop l.stored-index l.contents)
    ≡ find (λ (x : Stored). bytes_eq x.name l.name) l.contents
