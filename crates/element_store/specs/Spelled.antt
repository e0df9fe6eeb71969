-- The index of contents on their way, and what is left of the disk meanwhile.
use Rattle.std.specs.Prelude.{◌≡◌, ◌⊎◌, ℕ, List, Bool, true, Some}
use Rattle.std.specs.List.{AllZip}
use Rattle.per_base.specs.declared.elements.StoreKind.{StoreKind}
use Rattle.per_base.specs.declared.elements.Fresh.{Fresh}
use Rattle.disk_model.specs.declared.place.Place.{Place}
use Rattle.disk_model.specs.Image.{Image}
use Rattle.disk_model.specs.Case.{Case, IsSettledAt}
use Rattle.disk_model.specs.Medium.{Medium}
use Rattle.disk_model.specs.Frame.{KeepsCase}
use Rattle.disk_model.specs.Place.{IsNoArea}
use Rattle.block_files.specs.BlockSets.{contains}
use Rattle.index_text.specs.declared.entries.Index.{Index}
use Rattle.index_text.specs.declared.entries.IndexEntry.{IndexEntry}
use Rattle.index_text.specs.Rules.{IsIndex}
use Rattle.index_text.specs.Sizes.{Fits}
use Rattle.index_text.specs.Spelling.{index_text}
use Rattle.element_state.specs.declared.shapes.Shape.{Shape}
use Rattle.element_state.specs.Fit.{fit_index}
use Rattle.element_state.specs.Views.{entry_view}
use Rattle.element_state.specs.States.{fresh_entry, fresh_element}

-- the index of format 2 with these entries
abbrev pub index_with : StoreKind → List IndexEntry → Index
index_with kind entries = record { format = 2; kind = kind; entries = entries }

-- the text of an index that keeps the rules and fits the storage
pub record IsTextOf (shape : Shape) (text : List ℕ) (index : Index) : Type 0 where
  pub spelled : text ≡ index_text index
  pub rules : IsIndex index
  pub fits : Fits shape.kind shape.allowed index
  pub fit : fit_index shape text ≡ Some index

-- the entries show these contents, written by this generation, with no copy that lacks one
abbrev pub ShowsFresh : Image → Place → (m generation : ℕ) → List Fresh → List IndexEntry → Type 0
ShowsFresh image place m generation contents entries =
    AllZip (λ (f : Fresh) (e : IndexEntry). entry_view image place m e ≡ fresh_entry generation (fresh_element f))
    contents entries

-- a case while contents are written outside the blocks of a set, or one after they were made durable
abbrev pub IsContentsCase : Place → List Bool → (old new : Medium) → (done : Type 0) → Case → Type 0
IsContentsCase place set old new done c =
    ((d : Case) × old.now d × KeepsCase (IsNoArea place) (λ k. contains set k ≡ true) d c)
    ⊎ (done × IsSettledAt new.image c)
