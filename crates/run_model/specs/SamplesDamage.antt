-- Courses on storages whose copies were damaged between two runs, computed.
use Rattle.std.specs.Prelude.{◌≡◌, ℕ, List, [], ◌∷◌, true, Some, None, refl, codes}
use Rattle.per_base.specs.declared.elements.Content.{Content}
use Rattle.per_base.specs.declared.elements.Content.TheVariants.{Good, Bad}
use Rattle.per_base.specs.declared.elements.Scope.TheVariants as scope
use Rattle.value_model.specs.Kinds.{one}
use Rattle.value_model.specs.Trees.{unsigned_tree}
use Rattle.deployment_model.specs.Data.{DeploymentData, StorageData}
use Rattle.element_state.specs.declared.shapes.View.{View}
use Rattle.element_state.specs.States.{State, Opens, Corrupt}
use Rattle.command_text.specs.declared.calls.Call.TheVariants as call
use Rattle.deploy_rows.specs.Rows.{installed_app}
use Rattle.run_model.specs.Samples.{computed, replies, world_after, on, fav, home, home_key, key_storage, set_home}
use Rattle.run_model.specs.Samples.{in_copies, with_installed}
use Rattle.run_model.specs.Worlds.{World, resting, app_of, with_app, formatted, after_run, after_start}

-- a deployment of one storage
abbrev pub of_one : StorageData → DeploymentData
of_one s = record { version = 1; storages = s ∷ [] }

-- what is on the disk of the storages
abbrev pub states_in : World → List State
states_in w = (app_of w 0).disk.states

-- the world of a deployment whose only storage is in this state
abbrev pub found_so : DeploymentData → State → World
found_so d state = with_app formatted 0 (resting (record (installed_app 1 0 d) { states = state ∷ [] }))

-- ---- one key of which two copies are left out

-- what was recovered and synchronised is there in the next run, and nothing is reported
salvaged_key_stays : replies (after_start (after_run (world_after (in_copies (Bad (Some (3 ∷ 9 ∷ 0 ∷ []))) (1 ∷ 2 ∷ []))
    (on (call.OpenKvs fav) ∷ on (call.RecoverKey fav home) ∷ on (call.Sync fav) ∷ []))))
    (on (call.OpenKvs fav) ∷ on (call.Get fav home) ∷ [])
    ≡ codes "ok\nvalue u16:9\n"
unfolding computed
salvaged_key_stays = refl

-- ---- two keys of which no copy is left

abbrev pub work : List ℕ
work = codes "work"

abbrev pub in_three : DeploymentData
in_three = of_one (key_storage fav 1048576 2 3 (home_key ∷ []))

-- `home` of the first generation and `work` of the second, with these contents, which these copies lack
abbrev pub two_keys : (of_home of_work : Content) → (lacking : List ℕ) → State
two_keys of_home of_work lacking = Opens (record {
  generation = 2;
  lacking = [];
  sole = true;
  entries = record { name = home; info = None; changed = 1; len = 3; content = of_home; lacking = lacking }
      ∷ record { name = work; info = None; changed = 2; len = 2; content = of_work; lacking = lacking } ∷ [];
}) []

-- what a sync leaves
two_keys_synced : states_in (world_after (with_installed formatted 0 0 in_three)
    (on (call.OpenKvs fav) ∷ on (call.Set fav work (unsigned_tree one 1)) ∷ on (call.Sync fav) ∷ []))
    ≡ two_keys (Good (3 ∷ 1 ∷ 2 ∷ [])) (Good (2 ∷ 1 ∷ [])) [] ∷ []
unfolding computed
two_keys_synced = refl

-- A key without a copy goes where it has no initial value, and else becomes that.
no_copy_left : replies (found_so in_three (two_keys (Bad None) (Bad None) (1 ∷ 2 ∷ 3 ∷ [])))
    (on (call.OpenKvs fav) ∷ on (call.RecoverKey fav work) ∷ on (call.Exists fav work)
    ∷ on (call.RecoverKey fav home) ∷ on (call.Get fav home) ∷ [])
    ≡ codes "report key-failed fav:home 1,2,3\nreport key-failed fav:work 1,2,3\nok\nok\nno\nok\nvalue u16:513\n"
unfolding computed
no_copy_left = refl

-- ---- a storage whose copies count as a whole

abbrev pub as_a_whole : DeploymentData
as_a_whole = of_one (record (key_storage fav 1048576 2 3 (home_key ∷ [])) { scope = scope.Storage })

-- `home` of the second generation with this content, where these copies lack it, and with it the storage
abbrev pub home_view : Content → (lacking : List ℕ) → View
home_view content lacking = record {
  generation = 2;
  lacking = lacking;
  sole = true;
  entries = record { name = home; info = None; changed = 2; len = 3; content = content; lacking = lacking } ∷ [];
}

whole_synced : states_in (world_after (with_installed formatted 0 0 as_a_whole)
    (on (call.OpenKvs fav) ∷ set_home 9 ∷ on (call.Sync fav) ∷ []))
    ≡ Opens (home_view (Good (3 ∷ 9 ∷ 0 ∷ [])) []) [] ∷ []
unfolding computed
whole_synced = refl

one_whole_copy_mended : replies (found_so as_a_whole (Opens (home_view (Good (3 ∷ 9 ∷ 0 ∷ [])) (1 ∷ [])) []))
    (on (call.OpenKvs fav) ∷ []) ≡ codes "report kvs-recovered fav 1\nok\n"
unfolding computed
one_whole_copy_mended = refl

-- with two copies lost the storage is corrupt, and the third is its salvage
one_whole_copy_left : replies (found_so as_a_whole (Corrupt
    (Some (home_view (Bad (Some (3 ∷ 9 ∷ 0 ∷ []))) (1 ∷ 2 ∷ []))) []))
    (on (call.OpenKvs fav) ∷ on (call.RecoverStorage fav) ∷ on (call.OpenKvs fav) ∷ on (call.Get fav home) ∷ [])
    ≡ codes "report kvs-failed fav 1,2,3\nerror 5 IntegrityCorrupted fav\nok\nok\nvalue u16:9\n"
unfolding computed
one_whole_copy_left = refl
