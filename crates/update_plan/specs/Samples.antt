-- What an update makes of single names, computed.
use Rattle.std.specs.Prelude.{◌≡◌, ℕ, List, [], ◌∷◌, Some, None, Option, refl, codes, false}
use Rattle.per_base.specs.declared.elements.Cause.TheVariants.{Update, Installation}
use Rattle.per_base.specs.declared.elements.Content.TheVariants.{Good, Bad}
use Rattle.per_base.specs.declared.elements.Entry.{Entry}
use Rattle.per_base.specs.declared.elements.Scope.TheVariants.{Element}
use Rattle.per_base.specs.declared.elements.StoreKind.{StoreKind}
use Rattle.per_base.specs.declared.elements.StoreKind.TheVariants.{Keys, Files}
use Rattle.per_base.specs.declared.errors.PerError.TheVariants.{DataTypeMismatch, IntegrityCorrupted}
use Rattle.per_base.specs.declared.errors.Unit.TheVariants.{Part}
use Rattle.value_code.specs.Reading.{decoded, kind_at}
use Rattle.value_model.specs.Kinds.{Kind, one, two, four, bool_kind, unsigned_kind}
use Rattle.value_model.specs.Trees.{unsigned_tree}
use Rattle.deployment_model.specs.Data.{ElementData, StorageData}
use Rattle.deployment_model.specs.declared.configs.CollectionStrategy.{CollectionStrategy}
use Rattle.deployment_model.specs.declared.configs.CollectionStrategy.TheVariants as collection
use Rattle.deployment_model.specs.declared.configs.ElementStrategy.{ElementStrategy}
use Rattle.deployment_model.specs.declared.configs.ElementStrategy.TheVariants as own
use Rattle.migrate_fns.specs.Chains.{chain_of}
use Rattle.migrate_fns.specs.Rules.{Rule}
use Rattle.update_plan.specs.Fates.{Fate, goes, gets, converted, refused, fate}

-- a storage `s` of this kind and strategy, in one copy and with nothing configured
abbrev pub storage : StoreKind → CollectionStrategy → StorageData
storage kind strategy = record {
  name = codes "s";
  kind = kind;
  minimum = 0;
  maximum = 1048576;
  strategy = strategy;
  read_only = false;
  m = 1;
  n = 1;
  scope = Element;
  elements = [];
}

-- a configured key `k` of this type
abbrev pub key : Kind → Option (List ℕ) → Option ElementStrategy → ElementData
key k initial strategy = record { name = codes "k"; value_type = Some k; initial = initial; strategy = strategy }

-- a stored key `k` of these bytes
abbrev pub stored : List ℕ → Entry
stored bytes = record { name = codes "k"; info = None; changed = 1; len = 2; content = Good bytes; lacking = [] }

-- a converter from u16 to u32
abbrev pub rules : List Rule
rules = record { element = None; from = unsigned_kind two; to = unsigned_kind four } ∷ []

-- what an update at the moment 50 makes of the key `k`
abbrev pub of_key : Option ElementData → Option Entry → Fate
of_key c e = fate rules 50 (storage Keys collection.KeepExisting) (codes "k") c e

unfoldable pub computed : ℕ
unfolding decoded kind_at chain_of
computed = 0

-- u16:7 becomes what the converter makes of it
conversion : of_key (Some (key (unsigned_kind four) (Some (4 ∷ 14 ∷ 0 ∷ 0 ∷ 0 ∷ [])) None))
    (Some (stored (3 ∷ 7 ∷ 0 ∷ []))) ≡ converted (unsigned_tree two 7) (0 ∷ [])
unfolding computed
conversion = refl

deleted : of_key (Some (key (unsigned_kind one) None (Some own.Delete))) (Some (stored (2 ∷ 3 ∷ []))) ≡ goes
unfolding computed
deleted = refl

keeping : of_key (Some (key (unsigned_kind one) (Some (2 ∷ 11 ∷ [])) None)) (Some (stored (2 ∷ 5 ∷ [])))
    ≡ gets (record { name = codes "k"; info = None; bytes = 2 ∷ 5 ∷ [] })
unfolding computed
keeping = refl

added : of_key (Some (key bool_kind (Some (1 ∷ 1 ∷ [])) None)) None
    ≡ gets (record { name = codes "k"; info = None; bytes = 1 ∷ 1 ∷ [] })
unfolding computed
added = refl

overwritten : of_key (Some (key (unsigned_kind one) (Some (2 ∷ 12 ∷ [])) (Some own.Overwrite)))
    (Some (stored (2 ∷ 6 ∷ []))) ≡ gets (record { name = codes "k"; info = None; bytes = 2 ∷ 12 ∷ [] })
unfolding computed
overwritten = refl

-- no converter leads from i8 to u8
mismatched : of_key (Some (key (unsigned_kind one) None None)) (Some (stored (6 ∷ 1 ∷ [])))
    ≡ refused (DataTypeMismatch (codes "i8") (codes "u8"))
unfolding computed
mismatched = refl

-- bytes that encode no value
unreadable_key : of_key None (Some (stored (3 ∷ 7 ∷ []))) ≡ refused (IntegrityCorrupted (Part (codes "s") (codes "k")))
unfolding computed
unreadable_key = refl

-- what is not configured stays where the collection keeps, and goes where it does not, readable or not
not_configured : of_key None (Some (stored (2 ∷ 5 ∷ [])))
    ≡ gets (record { name = codes "k"; info = None; bytes = 2 ∷ 5 ∷ [] })
unfolding computed
not_configured = refl

unread : fate rules 50 (storage Keys collection.Delete) (codes "k") None
    (Some (record (stored []) { content = Bad None })) ≡ goes
unread = refl

-- ---- infos of files

abbrev pub file : Option ElementStrategy → ElementData
file strategy = record { name = codes "f"; value_type = None; initial = Some (97 ∷ []); strategy = strategy }

abbrev pub stored_file : Entry
stored_file = record {
  name = codes "f";
  info = Some (record {
    created = 1;
    modified = 2;
    accessed = 3;
    creation =
        Installation;
    modification = Installation;
  });
  changed = 1;
  len = 1;
  content = Good (98 ∷ []);
  lacking = [];
}

abbrev pub of_file : CollectionStrategy → Option ElementStrategy → Option Entry → Fate
of_file strategy own e = fate [] 50 (storage Files strategy) (codes "f") (Some (file own)) e

kept_file : of_file collection.KeepExisting None (Some stored_file)
    ≡ gets (record {
      name = codes "f";
      info = Some (record {
        created = 1;
        modified = 2;
        accessed = 3;
        creation =
            Installation;
        modification = Installation;
      });
      bytes = 98 ∷ [];
    })
kept_file = refl

overwritten_file : of_file collection.KeepExisting (Some own.Overwrite) (Some stored_file)
    ≡ gets (record {
      name = codes "f";
      info = Some (record {
        created = 1;
        modified = 50;
        accessed = 3;
        creation =
            Installation;
        modification = Update;
      });
      bytes = 97 ∷ [];
    })
overwritten_file = refl

-- one that falls to its initial content is a file that the update adds
added_file : of_file collection.Delete None (Some stored_file)
    ≡ gets (record {
      name = codes "f";
      info = Some (record {
        created = 50;
        modified = 50;
        accessed = 50;
        creation =
            Update;
        modification = Update;
      });
      bytes = 97 ∷ [];
    })
added_file = refl
