-- What contracts see of stored converters: their data, and what the stored functions may answer.
use Rattle.std.specs.Prelude.{◌≡◌, List, map, Result, Ok, Some, slice_get}
use Rattle.std.specs.declared.alloc.AllocError.{AllocError}
use Rattle.std.specs.Fn.{FnReturnsAt}
use Rattle.value_model.specs.Trees.{Tree}
use Rattle.value_model.specs.Views.{kind_of}
use Rattle.migrate_fns.specs.Rules.{Rule, Answers}
use Rattle.migrate_fns.specs.declared.migrations.Migration.{Migration}
use Rattle.migrate_fns.specs.declared.migrations.Migrations.{Migrations}

-- a stored converter as data; X, F and g, here and below, are the type of its function, its facts, and how it is called
abbrev pub rule_of : {X : Type 0} {F : X → Type 0} {g : _} → Migration X F g → Rule
rule_of m = record { element = m.element; from = kind_of m.from; to = kind_of m.to }

-- a call of the stored function on this value may give this result, by the function's own contract
abbrev pub MayGive : {X : Type 0} {F : X → Type 0} {g : _} → Migration X F g → Tree → Result Tree AllocError → Type 0
MayGive {g = g} m v r = FnReturnsAt g (m.convert.vtable, m.convert.value) v r

-- the stored converters, in order
abbrev pub listed : {X : Type 0} {F : X → Type 0} {g : _} → Migrations X F g → List (Migration X F g)
listed ms = ms.list.items

-- the data of the stored converters, in order
abbrev pub rules_of : {X : Type 0} {F : X → Type 0} {g : _} → Migrations X F g → List Rule
rules_of ms = map rule_of ms.list.items

-- what the stored functions may answer, by places counted from 0
abbrev pub answers_of : {X : Type 0} {F : X → Type 0} {g : _} → Migrations X F g → Answers
answers_of ms i v w = (m : Migration _ _ _) × (slice_get ms.list.items i ≡ Some m) × MayGive m v (Ok w)
