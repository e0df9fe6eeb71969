-- A storage with one key.
use Rattle.std.proofs.Common.{◌≡◌, ◌≤◌, ℕ, List, [], ◌∷◌, sym, subst, arith}
use Rattle.std.specs.List.Sorted.{IsStrictlySortedBy}
use Rattle.std.proofs.lemmas.List.Sums.{sum_by-cons}
use Rattle.per_base.specs.declared.elements.Entry.{Entry}
use Rattle.per_base.specs.declared.elements.StoreKind.TheVariants.{Keys}
use Rattle.per_base.specs.Names.{IsName, name_cmp}
use Rattle.deployment_model.specs.Conditions.{IsElement, IsStorage, initial_size}
use Rattle.deployment_model.specs.Data.{ElementData, StorageData}
use Rattle.key_maps.specs.KeyElements.{entry_names}
use Rattle.key_maps.specs.lemmas.Ordered.{sorted_cons, sorted_none}

pub one_name : (name : List ℕ) → IsStrictlySortedBy name_cmp (name ∷ [])
one_name name = sorted_cons name_cmp name [] tt (sorted_none name_cmp)

pub one_ordered : (entry : Entry) (entries : List Entry) → entries ≡ entry ∷ []
    → IsStrictlySortedBy name_cmp (entry_names entries)
one_ordered entry entries is = subst (λ es. IsStrictlySortedBy name_cmp (entry_names es)) (sym is) (one_name entry.name)

pub one_key : (s : StorageData) (key : ElementData) → s.elements ≡ key ∷ [] → s.kind ≡ Keys → s.minimum ≡ 0 → s.m ≡ 2
    → s.n ≡ 3
    → IsName s.name → 1 ≤ s.maximum → s.maximum ≤ 4194304 → IsElement Keys key → initial_size key ≤ s.maximum
    → IsStorage s
one_key s key one of_keys least m n named some_room maximum each fits =
    let sum = sum_by-cons initial_size key [] in
    record {
      name = named;
      minimum = rw least (omega arith);
      some_room = some_room;
      maximum = maximum;
      some_agree = rw m (omega arith);
      enough_copies = rw (m, n) (omega arith);
      copies = rw n (omega arith);
      few = rw one (omega arith);
      ascends = rw one (one_name key.name);
      each = rw (one, of_keys) (each, tt);
      fits = rw one (omega (arith, sum, fits));
    }
