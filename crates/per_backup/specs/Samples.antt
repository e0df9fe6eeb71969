-- Rows that compute: one key as an export, into storages that take it and into those that refuse it, and back.
use Rattle.std.specs.Prelude.{◌≡◌, ℕ, List, [], ◌∷◌, ◌++◌, Option, Some, None, Result, Ok, Err, codes, false}
use Rattle.std.proofs.Common.{refl}
use Rattle.std.specs.Fmt.{digits}
use Rattle.sha2.specs.Sha256.{sha256, digest_bytes, hash_after, compress, rounds, schedule, first_words}
use Rattle.per_base.specs.declared.elements.Content.TheVariants.{Bad, Good}
use Rattle.per_base.specs.declared.elements.Fresh.{Fresh}
use Rattle.per_base.specs.declared.elements.Scope.TheVariants as scope
use Rattle.per_base.specs.declared.elements.StoreKind.{StoreKind}
use Rattle.per_base.specs.declared.elements.StoreKind.TheVariants.{Keys, Files}
use Rattle.per_base.specs.declared.errors.Limit.TheVariants as limit
use Rattle.per_base.specs.declared.errors.PerError.TheVariants as error
use Rattle.per_base.specs.declared.errors.Unit.TheVariants as unit
use Rattle.per_base.specs.Fields.{many, bytes_at, number_at}
use Rattle.value_model.specs.Kinds.{two, unsigned_kind}
use Rattle.value_code.specs.Reading.{decoded, kind_at}
use Rattle.index_text.specs.Reading.{name_at, info_at, len_at}
use Rattle.deployment_model.specs.Data.{ElementData, StorageData}
use Rattle.deployment_model.specs.declared.configs.CollectionStrategy.TheVariants.{KeepExisting}
use Rattle.element_state.specs.declared.shapes.View.{View}
use Rattle.element_state.specs.States.{State, Corrupt, Opens, fresh_map, fresh_state, greatest_generation}
use Rattle.deploy_laws.specs.Apps.{App, absent, installed, nothing}
use Rattle.export_text.specs.declared.exports.Export.{Export}
use Rattle.export_text.specs.Exports.{export_text, fresh_text, content_at, fresh_at, marked_at, header_at, body_read}
use Rattle.export_text.specs.Exports.{body_hashed, export_of}
use Rattle.per_backup.specs.Backups.{exporting, importing, importing_into}

-- all that the samples compute with
unfoldable computed : ℕ
unfolding exporting importing importing_into export_text fresh_text content_at fresh_at marked_at header_at body_read
    body_hashed export_of name_at info_at len_at many bytes_at number_at decoded kind_at fresh_state digits sha256
    digest_bytes hash_after compress rounds schedule first_words
computed = 0

-- the key `a` with the value 7 of one byte
abbrev a_is_7 : Fresh
a_is_7 = record { name = codes "a"; info = None; bytes = 2 ∷ 7 ∷ [] }

abbrev one_key : Export
one_key = record { kind = Keys; contents = a_is_7 ∷ [] }

-- its bytes up to the hash
abbrev body : List ℕ
body = 0x50 ∷ 0x45 ∷ 0x52 ∷ 0x42 ∷ 1 ∷ 1 ∷ 1 ∷ 0 ∷ 1 ∷ 0x61 ∷ 2 ∷ 0 ∷ 0 ∷ 0 ∷ 2 ∷ 7 ∷ []

abbrev text : List ℕ
text = body ++ sha256 body

-- ---- storages, the only one of its application's active version

abbrev storage : StoreKind → (maximum : ℕ) → List ElementData → StorageData
storage kind maximum elements = record {
  name = codes "fav";
  kind = kind;
  minimum = 0;
  maximum = maximum;
  strategy =
      KeepExisting;
  read_only = false;
  m = 1;
  n = 1;
  scope = scope.Element;
  elements = elements;
}

abbrev app_with : StorageData → State → App
app_with s state = record {
  says = installed 2 (record {
    bank = 0;
    deployment =
        record { version = 1; storages = s ∷ [] };
  }) None;
  lacking = [];
  states = state ∷ [];
}

-- the key `a` is configured with two bytes
abbrev wider : StorageData
wider = storage Keys 64 (record {
  name = codes "a";
  value_type = Some (unsigned_kind two);
  initial = None;
  strategy =
      None;
} ∷ [])

-- what it holds, under this generation
abbrev holding : ℕ → List Fresh → State
holding generation contents = fresh_state generation (fresh_map contents)

-- ---- what takes it

-- into an empty storage, with its number of last change, under the next generation; what was there goes
into_empty : importing (storage Keys 64 []) (holding 4 []) text ≡ Ok (holding 5 (a_is_7 ∷ []))
unfolding computed
into_empty = refl

into_other : importing (storage Keys 64 []) (holding 8
    (record { name = codes "b"; info = None; bytes = 2 ∷ 9 ∷ [] } ∷ [])) text ≡ Ok (holding 9 (a_is_7 ∷ []))
unfolding computed
into_other = refl

-- and into one of which nothing is left
into_corrupt : importing (storage Keys 64 []) (Corrupt None []) text ≡ Ok (holding 1 (a_is_7 ∷ []))
unfolding computed
into_corrupt = refl

-- ---- what refuses it

into_files : importing (storage Files 64 []) (holding 4 []) text ≡ Err error.ExportRejected
unfolding computed
into_files = refl

one_byte_less : importing (storage Keys 64 []) (holding 4 []) (body ++ 0 ∷ []) ≡ Err error.ExportRejected
unfolding computed
one_byte_less = refl

-- the types are judged before the size
into_wider : importing wider (Corrupt None []) text ≡ Err (error.DataTypeMismatch (codes "u8") (codes "u16"))
unfolding computed
into_wider = refl

too_large_too : importing (record wider { maximum = 2 }) (Corrupt None []) text
    ≡ Err (error.DataTypeMismatch (codes "u8") (codes "u16"))
unfolding computed
too_large_too = refl

-- and the size before the generations
too_large : importing (storage Keys 2 []) (holding greatest_generation []) text ≡ Err (error.OutOfStorageSpace 3 2)
unfolding computed
too_large = refl

worn : importing (storage Keys 64 []) (holding greatest_generation []) text ≡ Err (error.LimitReached limit.Generations)
unfolding computed
worn = refl

no_such_storage : importing_into (app_with (storage Keys 64 []) (holding 4 [])) (codes "cal") text
    ≡ Err error.StorageNotFound
unfolding computed
no_such_storage = refl

nothing_installed : importing_into (record { says = absent 1; lacking = []; states = [] }) (codes "fav") text
    ≡ Err error.NotInstalled
unfolding computed
nothing_installed = refl

bad_root : importing_into (record { says = nothing; lacking = []; states = [] }) (codes "fav") text
    ≡ Err (error.IntegrityCorrupted unit.Root)
unfolding computed
bad_root = refl

-- ---- exports

exported_again : exporting (app_with (storage Keys 64 []) (holding 5 (a_is_7 ∷ []))) (codes "fav") ≡ Ok text
unfolding computed
exported_again = refl

-- bytes that encode no value
unreadable : exporting (app_with (storage Keys 64 []) (holding 5
    (record { name = codes "home"; info = None; bytes = 99 ∷ [] } ∷ []))) (codes "fav")
    ≡ Err (error.IntegrityCorrupted (unit.Part (codes "fav") (codes "home")))
unfolding computed
unreadable = refl

corrupt : exporting (app_with (storage Keys 64 []) (Corrupt None [])) (codes "fav")
    ≡ Err (error.IntegrityCorrupted (unit.Whole (codes "fav")))
unfolding computed
corrupt = refl
