-- The contents of a storage that is to be made.
use Rattle.std.specs.Prelude.{◌≤◌, ◌+◌, ℕ, List, length, map, IsTrue, sum_by}
use Rattle.std.specs.List.{AllByRecursion}
use Rattle.std.specs.List.Sorted.{IsStrictlySortedBy}
use Rattle.per_base.specs.declared.elements.StoreKind.{StoreKind}
use Rattle.per_base.specs.declared.elements.Fresh.{Fresh}
use Rattle.per_base.specs.Names.{name_cmp}
use Rattle.index_text.specs.Rules.{has_info, max_len}

-- a content that a storage of this kind takes: an info exactly for files, and no more bytes than the kind allows
pub record SuitsKind (kind : StoreKind) (f : Fresh) : Type 0 where
  pub info : IsTrue (has_info kind f.info)
  pub small : length f.bytes ≤ max_len kind

-- how many bytes the name and the content of an element to be made are together
abbrev pub fresh_size : Fresh → ℕ
fresh_size f = length f.name + length f.bytes

-- contents that a storage of this kind takes together: names that ascend, at most 1024, and names and contents together
-- no more bytes than the maximum
pub record AreContents (kind : StoreKind) (maximum : ℕ) (contents : List Fresh) : Type 0 where
  pub each : AllByRecursion (SuitsKind kind) contents
  pub names_ascend : IsStrictlySortedBy name_cmp (map (λ (f : Fresh). f.name) contents)
  pub few : length contents ≤ 1024
  pub small : sum_by fresh_size contents ≤ maximum
