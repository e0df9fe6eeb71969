-- Elements as they are stored.
use Rattle.std.specs.Prelude.{◌≡◌}
use Rattle.per_base.specs.declared.elements.Entry.{Entry}
use Rattle.per_base.specs.declared.elements.Fresh.{Fresh}
use Rattle.per_base.specs.declared.elements.StoreKind.{StoreKind}
use Rattle.index_text.specs.Contents.{SuitsKind}
use Rattle.update_plan.specs.Plans.{IsStoredEntry}

-- the entry has the name of the element, and may be stored in each storage that may have the element
pub record Stores (x : Fresh) (e : Entry) : Type 0 where
  pub named : e.name ≡ x.name
  pub stored : (kind : StoreKind) → SuitsKind kind x → IsStoredEntry kind e
