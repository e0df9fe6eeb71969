-- What an element that a plan makes is.
use Rattle.std.specs.Prelude.{◌≡◌, ℕ, List, Option, None, Some, ⊤}
use Rattle.per_base.specs.declared.elements.Fresh.{Fresh}
use Rattle.per_base.specs.declared.elements.StoreKind.{StoreKind}
use Rattle.index_text.specs.Contents.{SuitsKind}

-- an element with this name that suits a storage of this kind: an info exactly for a file, and not too many bytes
pub record IsInitialElement (kind : StoreKind) (name : List ℕ) (f : Fresh) : Type 0 where
  pub named : f.name ≡ name
  pub fresh : SuitsKind kind f

-- an element that is made has this name, and suits a storage of this kind
abbrev pub IfMade : StoreKind → List ℕ → Option Fresh → Type 0
IfMade kind name None = ⊤
IfMade kind name (Some f) = IsInitialElement kind name f
