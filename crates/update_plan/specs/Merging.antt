-- The names that are stored or configured, in their order.
use Rattle.std.specs.Prelude.{ℕ, List, [], ◌∷◌, map, Option, Some, None}
use Rattle.std.specs.declared.cmp.Ordering.{Ordering}
use Rattle.std.specs.declared.cmp.Ordering.TheVariants.{Less, Equal, Greater}
use Rattle.per_base.specs.declared.elements.Entry.{Entry}
use Rattle.per_base.specs.Names.{name_cmp}
use Rattle.deployment_model.specs.Data.{ElementData}

-- a name, what is stored of it and what is configured
pub record Item : Type 0 where
  pub name : List ℕ
  pub stored : Option Entry
  pub configured : Option ElementData

-- a name of which something is stored and nothing configured
abbrev pub only_stored : Entry → Item
only_stored e = record { name = e.name; stored = Some e; configured = None }

-- a name of which something is configured and nothing stored
abbrev pub only_configured : ElementData → Item
only_configured c = record { name = c.name; stored = None; configured = Some c }

-- a name of which something is stored and something configured
abbrev pub both : Entry → ElementData → Item
both e c = record { name = e.name; stored = Some e; configured = Some c }

-- the entry before, with or after the first of the configured elements
abbrev pub by_order : Ordering → List Item → List Item → List Item → List Item
by_order Less first same after = first
by_order Equal first same after = same
by_order Greater first same after = after

-- a stored entry merged with the configured elements; `others` merges the entries after it with those that are left
abbrev pub with_entry : Entry → (List ElementData → List Item) → List ElementData → List Item
with_entry e others [] = only_stored e ∷ others []
with_entry e others (c ∷ cs) = by_order (name_cmp e.name c.name) (only_stored e ∷ others (c ∷ cs))
    (both e c ∷ others cs) (only_configured c ∷ with_entry e others cs)

-- two lists in the order of their names, merged
abbrev pub merged : List Entry → List ElementData → List Item
merged [] cs = map only_configured cs
merged (e ∷ es) cs = with_entry e (merged es) cs
