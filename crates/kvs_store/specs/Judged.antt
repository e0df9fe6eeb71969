-- A view as a session of its keys shows it.
use Rattle.std.specs.Prelude.{cond, map, None}
use Rattle.per_base.specs.declared.elements.Content.TheVariants.{Bad}
use Rattle.per_base.specs.declared.elements.Entry.{Entry}
use Rattle.per_base.specs.Maps.{Map, element_at}
use Rattle.element_state.specs.declared.shapes.View.{View}
use Rattle.kvs_core.specs.Calls.{is_readable_key}

-- an entry as a session with the visible map `m` shows it: where that has no readable key of its name, its content is
-- unreadable, with no salvage
abbrev pub shown_entry : Map → Entry → Entry
shown_entry m e = record e { content = cond (is_readable_key (element_at m e.name)) e.content (Bad None) }

-- the view `v` with each of its entries shown so
abbrev pub shown_view : Map → View → View
shown_view m v = record v { entries = map (shown_entry m) v.entries }
