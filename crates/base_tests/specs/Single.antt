-- Changes of one element.
use Rattle.std.specs.Prelude.{◌≤◌, ◌+◌, ℕ, length, ⊤}
use Rattle.per_base.specs.declared.elements.Change.{Change}
use Rattle.per_base.specs.declared.elements.Change.TheVariants.{Put, Remove, Touch}
use Rattle.element_state.specs.declared.shapes.Shape.{Shape}
use Rattle.index_text.specs.Contents.{SuitsKind}

-- an element of the right kind that fits beside all that a storage of this size has, or one that goes
abbrev pub IsAddition : Shape → (size : ℕ) → Change → Type 0
IsAddition shape size (Put f) = SuitsKind shape.kind f × (length f.name + length f.bytes + size ≤ shape.allowed)
IsAddition shape size (Remove name) = size ≤ shape.allowed
IsAddition shape size (Touch name info) = ⊥
