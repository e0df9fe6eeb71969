-- Applications that compute: disks that were never formatted, roots that lost copies, and a storage with areas that
-- were spoiled.
use Rattle.std.specs.Prelude.{◌≡◌, ℕ, List, [], ◌∷◌, map, Option, Some, None, cond, codes, true, false}
use Rattle.std.proofs.Common.{refl, ap, ◌∙◌}
use Rattle.sha2.specs.Sha256.{sha256, digest_bytes, hash_after, compress, rounds, schedule, first_words}
use Rattle.per_base.specs.declared.elements.Scope.TheVariants as scope
use Rattle.per_base.specs.declared.elements.StoreKind.TheVariants.{Keys}
use Rattle.per_base.specs.declared.elements.Content.{Content}
use Rattle.per_base.specs.declared.elements.Content.TheVariants.{Good, Bad}
use Rattle.per_base.specs.Fields.{many, bytes_at, number_at}
use Rattle.hash_guard.specs.SealedText.{sealed, numbered, verified, generation_in, length_in}
use Rattle.disk_model.specs.Image.{Image}
use Rattle.disk_model.specs.Orders.{named_in}
use Rattle.m_of_n.specs.Vote.{voted}
use Rattle.guarded_cell.specs.Held.{held_in_first, standing, lacking}
use Rattle.guarded_cell.specs.Register.{IsAlone}
use Rattle.block_files.specs.Contents.{counting}
use Rattle.deployment_model.specs.Data.{DeploymentData, StorageData}
use Rattle.deployment_model.specs.declared.configs.CollectionStrategy.TheVariants.{KeepExisting}
use Rattle.index_text.specs.declared.entries.Index.{Index}
use Rattle.index_text.specs.Spelling.{index_text, entry_text}
use Rattle.index_text.specs.Reading.{index_of, header_at, entry_at, name_at, info_at, changed_at, len_at}
use Rattle.element_state.specs.declared.shapes.View.{View}
use Rattle.element_state.specs.Fit.{fit_index, fit_texts}
use Rattle.element_state.specs.Views.{entry_view, view_of}
use Rattle.element_state.specs.States.{Opens, Corrupt, store_at}
use Rattle.root_text.specs.RootText.{Root, root_of, root_in}
use Rattle.root_text.specs.RootText as text
use Rattle.deploy_laws.specs.Places.{root_place, storage_shape}
use Rattle.deploy_laws.specs.Apps.{Says, nothing, absent, installed, App, says_by, says_at, app_at, shapes_named}
use Rattle.deploy_laws.specs.Apps.{root_sole}
use Rattle.deploy_laws.specs.Laws.{AloneLaw}

-- all that the samples compute with
unfoldable computed : ℕ
unfolding voted sealed numbered verified generation_in length_in held_in_first standing lacking counting index_text
    entry_text
    index_of header_at entry_at name_at info_at changed_at len_at many bytes_at number_at fit_index fit_texts entry_view
    view_of store_at sha256 digest_bytes hash_after compress rounds schedule first_words root_of root_in says_at app_at
    shapes_named storage_shape
computed = 0

abbrev without : Says → List ℕ → App
without says lacking = record { says = says; lacking = lacking; states = [] }

-- ---- a disk that was never formatted

unformatted : (app : ℕ) → app_at (λ f. []) app ≡ without nothing []
unfolding computed
unformatted app = refl

-- ---- the root of application 0, absent in its first generation, with this text in some slots

abbrev absent_in : (generation : ℕ) → List ℕ
unfolding computed
absent_in generation = sealed generation (1 ∷ 0 ∷ [])

abbrev beside : (files : List ℕ) → List ℕ → Image
unfolding computed
beside files other f = cond (named_in files f) other (cond (named_in (1 ∷ 5 ∷ 9 ∷ []) f) (absent_in 1) [])

formatted : app_at (beside [] []) 0 ≡ without (absent 1) []
unfolding computed
formatted = refl

one_lost : app_at (beside (5 ∷ []) []) 0 ≡ without (absent 1) (2 ∷ [])
unfolding computed
one_lost = refl

two_lost : app_at (beside (1 ∷ 9 ∷ []) []) 0 ≡ without nothing []
unfolding computed
two_lost = refl

-- the next text in one copy denotes nothing yet, and in two it stands
next_in_one : app_at (beside (0 ∷ []) (absent_in 2)) 0 ≡ without (absent 1) []
unfolding computed
next_in_one = refl

not_settled : root_sole (beside (0 ∷ []) (absent_in 2)) 0 ≡ false
unfolding computed
not_settled = refl

next_in_two : app_at (beside (0 ∷ 4 ∷ []) (absent_in 2)) 0 ≡ without (absent 2) (3 ∷ [])
unfolding computed
next_in_two = refl

-- whole texts that are no root's: one byte more, and one less
one_more : app_at (beside (1 ∷ 5 ∷ 9 ∷ []) (sealed 1 (1 ∷ 0 ∷ 0 ∷ []))) 0 ≡ without nothing []
unfolding computed
one_more = refl

one_less : app_at (beside (1 ∷ 5 ∷ 9 ∷ []) (sealed 1 (1 ∷ []))) 0 ≡ without nothing []
unfolding computed
one_less = refl

-- ---- an application with one storage, of which two of three copies must be whole

abbrev fav : StorageData
fav = record {
  name = codes "fav";
  kind = Keys;
  minimum = 0;
  maximum = 1048576;
  strategy = KeepExisting;
  read_only = false;
  m = 2;
  n = 3;
  scope = scope.Storage;
  elements = [];
}

abbrev favourites : DeploymentData
favourites = record { version = 1; storages = fav ∷ [] }

-- its storage is from file 1024 on
place_of_fav : (storage_shape 0 0 0 fav).place.first ≡ 1024
unfolding computed
place_of_fav = refl

-- whatever the manifest's text is, where the root is held alone
installed_app : AloneLaw → (image : Image) (manifest root : List ℕ)
    → root_of root ≡ Some (text.installed 0 (record { text = manifest; deployment = favourites }) None)
    → IsAlone image (root_place 0) 2 root → app_at image 0 ≡ record {
      says = installed 2 (record { bank = 0; deployment = favourites }) None;
      lacking = [];
      states = store_at image (storage_shape 0 0 0 fav) ∷ [];
    }
unfolding shapes_named
installed_app alone image manifest root is held = alone 0 2 root image held ∙ ap (λ (r : Option Root). record {
  says = says_by 2 r;
  lacking = [];
  states = map (store_at image) (shapes_named 0 (says_by 2 r));
}) is

-- the key `home`, synchronised once, in its second generation
abbrev home : Index
unfolding computed
home = record {
  format = 2;
  kind = Keys;
  entries = record {
    name = codes "home";
    info = None;
    changed = 2;
    len =
        3;
    hash = sha256 (3 ∷ 9 ∷ 0 ∷ []);
    blocks = 0 ∷ [];
  } ∷ [];
}

-- the storage on disk, with these areas spoiled
abbrev spoiled : List ℕ → Image
unfolding computed
spoiled files f = cond (named_in files f) (252 ∷ 246 ∷ 255 ∷ [])
    (cond (named_in (1024 ∷ 1028 ∷ 1032 ∷ []) f) (sealed 2 (index_text home))
    (cond (named_in (1026 ∷ 1030 ∷ 1034 ∷ []) f) (3 ∷ 9 ∷ 0 ∷ []) []))

abbrev seen : Content → (lacking : List ℕ) → View
seen content lacking = record {
  generation = 2;
  lacking = lacking;
  sole = true;
  entries = record { name = codes "home"; info = None; changed = 2; len = 3; content = content; lacking = lacking }
      ∷ [];
}

-- one spoiled area is a copy that lacks the storage; with two it is corrupt, and what is left is its salvage
one_spoiled : store_at (spoiled (1026 ∷ [])) (storage_shape 0 0 0 fav)
    ≡ Opens (seen (Good (3 ∷ 9 ∷ 0 ∷ [])) (1 ∷ [])) []
unfolding computed
one_spoiled = refl

two_spoiled : store_at (spoiled (1026 ∷ 1030 ∷ [])) (storage_shape 0 0 0 fav)
    ≡ Corrupt (Some (seen (Bad (Some (3 ∷ 9 ∷ 0 ∷ []))) (1 ∷ 2 ∷ []))) []
unfolding computed
two_spoiled = refl
