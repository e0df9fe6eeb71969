-- Items of the program as plain data.
use Rattle.std.specs.Prelude.{List, [], ◌∷◌, map, Option, Some, None, option_map}
use Rattle.deployment_model.specs.Data.{element_data}
use Rattle.update_plan.specs.declared.merging.Item.{Item}
use Rattle.update_plan.specs.declared.merging.FirstItem.{FirstItem}
use Rattle.update_plan.specs.declared.rows.Row.{Row}
use Rattle.update_plan.specs.declared.rows.Row.TheVariants.{Nothing, Initial, Kept}
use Rattle.update_plan.specs.Rows as rows
use Rattle.update_plan.specs.Merging as plain
use Rattle.update_plan.specs.Merging.{merged}

-- an item: a name with the stored element and the configured one, each if there is one
abbrev pub item_of : Item → plain.Item
item_of i = record {
  name = i.name.now;
  stored = option_map (λ e. e.now) i.stored;
  configured =
      option_map (λ c. element_data c.now) i.configured;
}

-- all items, by the first one and what is left of the stored and of the configured elements after it
abbrev pub items_by : Option FirstItem → List plain.Item
items_by None = []
items_by (Some first) = item_of first.item ∷ merged first.stored.now (map element_data first.configured.now)

-- what an element becomes: nothing, its initial content, or its stored entry
abbrev pub row_of : Row → rows.Row
row_of Nothing = rows.nothing
row_of (Initial bytes) = rows.initial bytes.now
row_of (Kept entry) = rows.kept entry.now
