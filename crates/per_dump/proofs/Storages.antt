-- The storages of a version, dumped one after another.
use Rattle.std.proofs.Common.{◌≡◌, ℕ, ◌+◌, ◌<◌, ◌≤◌, List, [], ◌∷◌, ◌++◌, length, get_or, drop, map, Result, Ok, Err}
use Rattle.std.proofs.Common.{refl, sym, ap, ◌∙◌, append_assoc, append-nil}
use Rattle.std.proofs.lemmas.List.{drop_all, drop_more, map-append}
use Rattle.per_base.specs.declared.errors.PerError.{PerError}
use Rattle.disk_model.specs.Image.{Image}
use Rattle.deployment_model.specs.Data.{StorageData, storage_data}
use Rattle.deployment_model.specs.declared.configs.StorageConfig.{StorageConfig}
use Rattle.deploy_laws.specs.Apps.{App, Says, app_at, says_at}
use Rattle.deploy_rows.specs.Rows.{◌>>=◌}
use Rattle.per_backup.specs.Backups.{dumping, dumping_over, exporting, exports_of}
use Rattle.dump_text.specs.declared.dumps.DumpedStorage.{DumpedStorage}
use Rattle.dump_text.specs.Dumps.{dumped_names}

-- by what the root says
pub dumping_said : (image : Image) (app : ℕ) (says : Says) → says ≡ says_at image app
    → dumping (app_at image app) ≡ dumping_over (app_at image app) says
unfolding dumping app_at
dumping_said image app says is = ap (dumping_over (app_at image app)) (sym is)

abbrev Texts : Type 0
Texts = Result (List (List ℕ)) PerError

-- the texts that are known, and after them those of the rest
abbrev pub known_first : List (List ℕ) → Texts → Texts
known_first known rest = rest >>= λ texts. Ok (known ++ texts)

known_none : (rest : Texts) → known_first [] rest ≡ rest
known_none (Ok texts) = refl
known_none (Err e) = refl

one_more : (known : List (List ℕ)) (text : List ℕ) (rest : Texts)
    → known_first known (rest >>= λ texts. Ok (text ∷ texts)) ≡ known_first (known ++ text ∷ []) rest
one_more known text (Ok texts) = ap (λ (ts : List (List ℕ)). Ok ts) (sym (append_assoc known (text ∷ []) texts))
one_more known text (Err e) = refl

abbrev config_name : StorageConfig → List ℕ
config_name config = config.name

abbrev text_of : DumpedStorage → List ℕ
text_of s = s.text

abbrev name_of : DumpedStorage → List ℕ
name_of s = s.name

-- a configuration, and those that are left from there
next_is : (configs : List StorageConfig) (number : ℕ) (x : StorageConfig) → number < length configs
    → x ≡ get_or configs number x → drop number configs ≡ x ∷ drop (number + 1) configs
next_is configs number x lt is = drop_more configs number x lt
    ∙ ap (λ (c : StorageConfig). c ∷ drop (number + 1) configs) (sym is)

-- the storages before this one are dumped
pub record AreDumped (a : App) (configs : List StorageConfig) (number : ℕ) (storages : List DumpedStorage) : Type 0 where
  pub texts : known_first (map (λ (s : DumpedStorage). s.text) storages)
      (exports_of a (map storage_data (drop number configs))) ≡ exports_of a (map storage_data configs)
  pub names : dumped_names storages ++ map (λ (c : StorageConfig). c.name) (drop number configs)
      ≡ map (λ (c : StorageConfig). c.name) configs

pub dumped_none : (a : App) (configs : List StorageConfig) → AreDumped a configs 0 []
dumped_none a configs = record { texts = known_none (exports_of a (map storage_data configs)); names = refl }

module _ (a : App) (configs : List StorageConfig) (number : ℕ) (storages : List DumpedStorage)
    (so : AreDumped a configs number storages) where
  abbrev known : List (List ℕ)
  known = map text_of storages

  -- the next one
  module _ (x : StorageConfig) (lt : number < length configs) (is : x ≡ get_or configs number x) where
    at : exports_of a (map storage_data (drop number configs))
        ≡ exports_of a (storage_data x ∷ map storage_data (drop (number + 1) configs))
    at = ap (λ (cs : List StorageConfig). exports_of a (map storage_data cs)) (next_is configs number x lt is)

    pub dumped_refused : (e : PerError) → exporting a x.name ≡ Err e
        → exports_of a (map storage_data configs) ≡ Err e
    dumped_refused e refused = sym so.texts ∙ ap (known_first known) at
        ∙ ap (λ (r : Result (List ℕ) PerError). known_first known (r >>= λ text.
        exports_of a (map storage_data (drop (number + 1) configs)) >>= λ texts. Ok (text ∷ texts))) refused

    pub dumped_more : (s : DumpedStorage) → s.name ≡ x.name → exporting a x.name ≡ Ok s.text
        → AreDumped a configs (number + 1) (storages ++ s ∷ [])
    dumped_more s named exported =
        let rest = exports_of a (map storage_data (drop (number + 1) configs)) in
        record {
          texts = ap (λ (ts : List (List ℕ)). known_first ts rest) (map-append text_of storages (s ∷ []))
              ∙ sym (one_more known s.text rest)
              ∙ sym (ap (λ (r : Result (List ℕ) PerError). known_first known (r >>= λ text. rest >>= λ texts.
              Ok (text ∷ texts))) exported)
              ∙ sym (ap (known_first known) at) ∙ so.texts;
          names = ap (λ (ns : List (List ℕ)). ns ++ map config_name (drop (number + 1) configs))
              (map-append name_of storages (s ∷ []))
              ∙ append_assoc (map name_of storages) (s.name ∷ []) (map config_name (drop (number + 1) configs))
              ∙ ap (λ (n : List ℕ). map name_of storages ++ n ∷ map config_name (drop (number + 1) configs)) named
              ∙ ap (λ (cs : List StorageConfig). map name_of storages ++ map config_name cs)
              (sym (next_is configs number x lt is)) ∙ so.names;
        }

  -- there is none left
  module _ (past : length configs ≤ number) where
    pub dumped_all : exports_of a (map storage_data configs) ≡ Ok (map (λ (s : DumpedStorage). s.text) storages)
    dumped_all = sym so.texts
        ∙ ap (λ (cs : List StorageConfig). known_first known (exports_of a (map storage_data cs)))
        (drop_all number configs past)
        ∙ ap (λ (ts : List (List ℕ)). Ok ts) (append-nil known)

    pub dumped_named : dumped_names storages ≡ map (λ (c : StorageConfig). c.name) configs
    dumped_named = sym (append-nil (dumped_names storages))
        ∙ ap (λ (cs : List StorageConfig). dumped_names storages ++ map config_name cs)
        (sym (drop_all number configs past)) ∙ so.names

-- names as they are configured are those of the deployment
pub names_configured : (configs : List StorageConfig)
    → map (λ (c : StorageConfig). c.name) configs ≡ map (λ (s : StorageData). s.name) (map storage_data configs)
names_configured [] = refl
names_configured (c ∷ cs) = ap (λ (ns : List (List ℕ)). c.name ∷ ns) (names_configured cs)
