-- What a storage in use shows is a view.
use Rattle.std.proofs.Common.{◌≡◌, ℕ, ◌+◌, List, subst}
use Rattle.per_base.specs.declared.elements.Scope.{Scope}
use Rattle.per_base.specs.declared.elements.Scope.TheVariants as scope
use Rattle.per_base.specs.declared.elements.Entry.{Entry}
use Rattle.element_state.specs.declared.shapes.Shape.{Shape}
use Rattle.element_state.specs.Views.{lacks_one}
use Rattle.element_state.specs.States.{lacking_by}
use Rattle.element_state.specs.Read.{IsView}
use Rattle.element_state.specs.lemmas.ViewsRead.{AreNumbers, no_numbers, numbers_passing, view_read}
use Rattle.element_store.specs.declared.store.Store.{Store}
use Rattle.element_store.specs.Stores.{IsStore, entries_of, view_in}

lacking_numbers : (s : Scope) (entries : List Entry) (copies : ℕ) → AreNumbers copies (lacking_by s entries copies)
lacking_numbers scope.Element entries copies = no_numbers copies
lacking_numbers scope.Storage entries copies = numbers_passing (λ copy. lacks_one entries (copy + 1)) copies

pub store_view : (store : Store) → IsStore store → IsView store.shape (view_in store)
store_view store is = view_read store.shape store.index (view_in store) is.index.rules is.index.fits is.entries
    is.positive
    (lacking_numbers store.shape.scope (entries_of store) store.shape.place.copies)

pub store_view_as : (store : Store) (shape : Shape) → store.shape ≡ shape → IsStore store → IsView shape (view_in store)
store_view_as store shape same is = subst (λ (x : Shape). IsView x (view_in store)) same (store_view store is)
