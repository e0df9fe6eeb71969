-- Listings that compute: disks, roots and storages in one state after another, and the whole text of each.
use Rattle.std.specs.Prelude.{◌≡◌, ℕ, ◌+◌, ◌*◌, List, [], ◌∷◌, ◌++◌, Bool, true, false, Option, Some, None, codes}
use Rattle.std.specs.List.{flat_map, range_with_len}
use Rattle.std.specs.Fmt.{decimal, digits}
use Rattle.std.proofs.Common.{refl}
use Rattle.per_base.specs.declared.elements.Content.TheVariants.{Good}
use Rattle.per_base.specs.declared.elements.Entry.{Entry}
use Rattle.per_base.specs.declared.elements.Scope.TheVariants.{Element}
use Rattle.per_base.specs.declared.elements.StoreKind.{StoreKind}
use Rattle.per_base.specs.declared.elements.StoreKind.TheVariants.{Keys, Files}
use Rattle.deployment_model.specs.Data.{StorageData}
use Rattle.deployment_model.specs.declared.configs.CollectionStrategy.TheVariants.{KeepExisting}
use Rattle.element_state.specs.declared.shapes.View.{View}
use Rattle.element_state.specs.States.{State, Opens, Corrupt}
use Rattle.guarded_cell.specs.Held.{held_in_first, standing}
use Rattle.hash_guard.specs.SealedText.{verified}
use Rattle.deploy_laws.specs.Apps.{App, Says, nothing, absent, installed, app_at, says_at, shapes_named}
use Rattle.deploy_laws.specs.Places.{Named, storage_shape}
use Rattle.per_list.specs.declared.forms.Form.TheVariants.{Lines, Json}
use Rattle.per_list.specs.Listings.{app_text, bad_head, config_words, copies_members, copy_members}
use Rattle.per_list.specs.Listings.{copy_name, copy_words, corrupt_members, corrupt_words, kind_member, listing_text}
use Rattle.per_list.specs.Listings.{opened_members, opened_words, storage_name, version_members, version_words}

-- all that the samples compute with
unfoldable computed : ℕ
unfolding listing_text app_text copy_name copy_words copy_members storage_name config_words kind_member
    copies_members opened_words opened_members corrupt_words corrupt_members bad_head version_words version_members
    app_at says_at shapes_named storage_shape held_in_first standing verified digits
computed = 0

-- ---- roots

unformatted : listing_text Lines (λ f. [])
    ≡ flat_map (λ app. codes "application " ++ decimal app ++ codes " corrupt\nroot " ++ decimal app ++ codes " 1 f"
    ++ decimal (4096 * app) ++ codes " f" ++ decimal (4096 * app + 1) ++ codes "\nroot " ++ decimal app ++ codes " 2 f"
    ++ decimal (4096 * app + 4) ++ codes " f" ++ decimal (4096 * app + 5) ++ codes "\nroot " ++ decimal app
    ++ codes " 3 f" ++ decimal (4096 * app + 8) ++ codes " f" ++ decimal (4096 * app + 9) ++ codes "\n")
    (range_with_len 0 8)
unfolding computed
unformatted = refl

abbrev without : Says → App
without says = record { says = says; lacking = []; states = [] }

-- nothing is said in lines where nothing is installed
formatted : app_text Lines 3 (without (absent 1)) ≡ []
unfolding computed
formatted = refl

formatted_json : app_text Json 3 (without (absent 1)) ≡ codes ",{\"application\":3,\"state\":\"absent\"}"
unfolding computed
formatted_json = refl

bad_root : app_text Lines 7 (without nothing)
    ≡ codes "application 7 corrupt\nroot 7 1 f28672 f28673\nroot 7 2 f28676 f28677\nroot 7 3 f28680 f28681\n"
unfolding computed
bad_root = refl

bad_root_json : app_text Json 0 (without nothing)
    ≡ codes "{\"application\":0,\"state\":\"corrupt\",\"root\":[[\"f0\",\"f1\"],[\"f4\",\"f5\"],[\"f8\",\"f9\"]]}"
unfolding computed
bad_root_json = refl

-- ---- a storage

abbrev storage : List ℕ → StoreKind → (read_only : Bool) → (m n : ℕ) → StorageData
storage name kind read_only m n = record {
  name = name;
  kind = kind;
  minimum = 0;
  maximum = 65536;
  strategy = KeepExisting;
  read_only = read_only;
  m = m;
  n = n;
  scope = Element;
  elements = [];
}

abbrev version_in : (bank version : ℕ) → List StorageData → Named
version_in bank version storages = record {
  bank = bank;
  deployment = record { version = version; storages = storages };
}

abbrev entry : List ℕ → (len : ℕ) → Entry
entry name len = record { name = name; info = None; changed = 1; len = len; content = Good []; lacking = [] }

abbrev opens : List Entry → State
opens entries = Opens (record { generation = 1; lacking = []; sole = true; entries = entries }) []

-- one key `home` of three bytes, two of three copies of which must agree
abbrev favourites : State → App
favourites state = record {
  says = installed 1 (version_in 0 1 (storage (codes "fav") Keys false 2 3 ∷ [])) None;
  lacking = [];
  states = state ∷ [];
}

one_key : app_text Lines 0 (favourites (opens (entry (codes "home") 3 ∷ [])))
    ≡ codes "application 0 version 1 bank 0 previous -\nroot 0 1 f0 f1\nroot 0 2 f4 f5\nroot 0 3 f8 f9\n"
    ++ codes "storage 0 0 fav keys writable m 2 n 3 opens elements 1 of 1024 bytes 7 of 65536\n"
    ++ codes "copy 0 0 fav 1 f1024 f1025 f1026\ncopy 0 0 fav 2 f1028 f1029 f1030\ncopy 0 0 fav 3 f1032 f1033 f1034\n"
unfolding computed
one_key = refl

one_key_json : app_text Json 0 (favourites (opens (entry (codes "home") 3 ∷ [])))
    ≡ codes "{\"application\":0,\"state\":\"installed\",\"version\":1,\"bank\":0,\"previous\":null,"
    ++ codes "\"root\":[[\"f0\",\"f1\"],[\"f4\",\"f5\"],[\"f8\",\"f9\"]],\"storages\":["
    ++ codes "{\"name\":\"fav\",\"kind\":\"keys\",\"readOnly\":false,\"m\":2,\"n\":3,\"state\":\"opens\","
    ++ codes "\"elements\":1,\"maximumElements\":1024,\"bytes\":7,\"maximumBytes\":65536,\"copies\":["
    ++ codes "[\"f1024\",\"f1025\",\"f1026\"],[\"f1028\",\"f1029\",\"f1030\"],[\"f1032\",\"f1033\",\"f1034\"]]}],"
    ++ codes "\"previousStorages\":[]}"
unfolding computed
one_key_json = refl

corrupt : app_text Lines 0 (favourites (Corrupt None []))
    ≡ codes "application 0 version 1 bank 0 previous -\nroot 0 1 f0 f1\nroot 0 2 f4 f5\nroot 0 3 f8 f9\n"
    ++ codes "storage 0 0 fav keys writable m 2 n 3 corrupt elements - of 1024 bytes - of 65536\n"
    ++ codes "copy 0 0 fav 1 f1024 f1025 f1026\ncopy 0 0 fav 2 f1028 f1029 f1030\ncopy 0 0 fav 3 f1032 f1033 f1034\n"
unfolding computed
corrupt = refl

-- ---- two storages in bank 1, and in bank 0 one of the version before, which is corrupt

abbrev both_versions : App
both_versions = record {
  says = installed 2
      (version_in 1 3 (storage (codes "fav") Keys false 1 1 ∷ storage (codes "map") Files true 1 2 ∷ []))
      (Some (version_in 0 2 (storage (codes "fav") Keys false 1 1 ∷ [])));
  lacking = [];
  states = opens [] ∷ opens (entry (codes "a") 10 ∷ entry (codes "b") 20 ∷ []) ∷ Corrupt None [] ∷ [];
}

two_versions : app_text Lines 5 both_versions
    ≡ codes "application 5 version 3 bank 1 previous 2\nroot 5 1 f20480 f20481\nroot 5 2 f20484 f20485\n"
    ++ codes "root 5 3 f20488 f20489\n"
    ++ codes "storage 5 1 fav keys writable m 1 n 1 opens elements 0 of 1024 bytes 0 of 65536\n"
    ++ codes "copy 5 1 fav 1 f22016 f22017 f22018\n"
    ++ codes "storage 5 1 map files read-only m 1 n 2 opens elements 2 of 1024 bytes 32 of 65536\n"
    ++ codes "copy 5 1 map 1 f22048 f22049 f22050\ncopy 5 1 map 2 f22052 f22053 f22054\n"
    ++ codes "storage 5 0 fav keys writable m 1 n 1 corrupt elements - of 1024 bytes - of 65536\n"
    ++ codes "copy 5 0 fav 1 f21504 f21505 f21506\n"
unfolding computed
two_versions = refl

two_versions_json : app_text Json 5 both_versions
    ≡ codes ",{\"application\":5,\"state\":\"installed\",\"version\":3,\"bank\":1,\"previous\":2,"
    ++ codes "\"root\":[[\"f20480\",\"f20481\"],[\"f20484\",\"f20485\"],[\"f20488\",\"f20489\"]],\"storages\":["
    ++ codes "{\"name\":\"fav\",\"kind\":\"keys\",\"readOnly\":false,\"m\":1,\"n\":1,\"state\":\"opens\","
    ++ codes "\"elements\":0,\"maximumElements\":1024,\"bytes\":0,\"maximumBytes\":65536,\"copies\":["
    ++ codes "[\"f22016\",\"f22017\",\"f22018\"]]},"
    ++ codes "{\"name\":\"map\",\"kind\":\"files\",\"readOnly\":true,\"m\":1,\"n\":2,\"state\":\"opens\","
    ++ codes "\"elements\":2,\"maximumElements\":1024,\"bytes\":32,\"maximumBytes\":65536,\"copies\":["
    ++ codes "[\"f22048\",\"f22049\",\"f22050\"],[\"f22052\",\"f22053\",\"f22054\"]]}],"
    ++ codes "\"previousStorages\":[{\"name\":\"fav\",\"kind\":\"keys\",\"readOnly\":false,\"m\":1,\"n\":1,"
    ++ codes "\"state\":\"corrupt\",\"elements\":null,\"maximumElements\":1024,\"bytes\":null,"
    ++ codes "\"maximumBytes\":65536,\"copies\":[[\"f21504\",\"f21505\",\"f21506\"]]}]}"
unfolding computed
two_versions_json = refl
