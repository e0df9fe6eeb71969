use Rattle.std.proofs.Common.{◌≡◌, drop}
use Rattle.std.specs.Prelude.{find}
use Rattle.value_model.specs.Views.{kind_of}
use Rattle.migrate_fns.specs.Rules.{serves}
use Rattle.migrate_fns.specs.Stored.{rule_of}
use Rattle.migrate_fns.proofs.migrations.Migrations.find.Given as goal

-- the rest decides
abbrev pub invariant-loop-migration : goal.invariant-loop-migration
invariant-loop-migration g l = find (λ m. serves l.element (kind_of l.from) (kind_of l.to) (rule_of m))
    (drop l.migration-index l.self.list.items) ≡ find (λ m.
    serves l.element (kind_of l.from) (kind_of l.to) (rule_of m)) l.self.list.items
