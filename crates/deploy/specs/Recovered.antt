-- What a closed storage is rebuilt to from what was read of it.
use Rattle.std.specs.Prelude.{◌≤◌, ℕ, List, length, map, Option}
use Rattle.std.specs.List.{AllByRecursion}
use Rattle.std.specs.List.Sorted.{IsStrictlySortedBy}
use Rattle.per_base.specs.declared.elements.Entry.{Entry}
use Rattle.per_base.specs.declared.elements.Fresh.{Fresh}
use Rattle.per_base.specs.declared.elements.StoreKind.{StoreKind}
use Rattle.per_base.specs.Names.{name_cmp}
use Rattle.value_code.specs.Reading.{is_content}
use Rattle.index_text.specs.Contents.{SuitsKind}
use Rattle.deployment_model.specs.Data.{StorageData}
use Rattle.element_state.specs.Views.{judged_content}
use Rattle.deploy_rows.specs.Recovering.{rescued}

-- what is rescued of an element, by what of it is a content of the storage's kind
abbrev pub rescued_entry : StorageData → ℕ → Entry → Option Fresh
rescued_entry s now e = rescued s now e (judged_content (is_content s.kind) e.content)

-- elements of a storage of this kind, whatever their size together: at most 1024, each as its kind asks, and names that
-- ascend
pub record AreElements (kind : StoreKind) (contents : List Fresh) : Type 0 where
  pub each : AllByRecursion (SuitsKind kind) contents
  pub names_ascend : IsStrictlySortedBy name_cmp (map (λ (f : Fresh). f.name) contents)
  pub few : length contents ≤ 1024
