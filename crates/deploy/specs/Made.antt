-- Storages that were created.
use Rattle.std.specs.Prelude.{◌≡◌, List, [], ◌∷◌, ⊤}
use Rattle.per_base.specs.declared.elements.Fresh.{Fresh}
use Rattle.disk_model.specs.Image.{Image}
use Rattle.element_state.specs.declared.shapes.Shape.{Shape}
use Rattle.element_state.specs.States.{fresh_map, fresh_state, store_at}
use Rattle.element_state.specs.Clean.{IsClean}

-- each storage opens at its contents under generation 1, no copy lacks anything, no other text is held, and its place
-- is clean
abbrev pub AreMade : Image → List Shape → List (List Fresh) → Type 0
AreMade image [] contents = ⊤
AreMade image (shape ∷ shapes) [] = ⊥
AreMade image (shape ∷ shapes) (fs ∷ contents) = (store_at image shape ≡ fresh_state 1 (fresh_map fs))
    × IsClean shape image × AreMade image shapes contents
