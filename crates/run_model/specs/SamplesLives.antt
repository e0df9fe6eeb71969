-- A life of three runs, computed: one that is killed in a sync, one that is killed before its start has synchronised
-- the disk, and one after a power loss. A copy of the key is damaged after the first, another file after the second.
use Rattle.std.specs.Prelude.{◌≡◌, ℕ, List, [], ◌∷◌, map, None, refl, codes, true}
use Rattle.per_base.specs.declared.elements.Content.TheVariants.{Good}
use Rattle.element_state.specs.States.{State, Opens}
use Rattle.command_text.specs.declared.calls.Call.TheVariants as call
use Rattle.run_model.specs.Lives.{Pair, all_aged, last_pairs, pairs_after}
use Rattle.run_model.specs.Samples.{computed, fav, home, on, replies, set_home, with_installed, world_after}
use Rattle.run_model.specs.SamplesDamage.{found_so, in_three}
use Rattle.run_model.specs.Worlds.{World, after_run, after_start, disks, formatted}

-- `home` under a generation, with this value, which these copies lack
abbrev pub home_so : (generation low high : ℕ) → (lacking : List ℕ) → State
home_so generation low high lacking = Opens (record {
  generation = generation;
  lacking = [];
  sole = true;
  entries = record {
    name = home;
    info = None;
    changed = generation;
    len = 3;
    content = Good (3 ∷ low ∷ high ∷ []);
    lacking = lacking;
  } ∷ [];
}) []

-- between which states the storage stands, and what was damaged since
abbrev pub Between : Type 0
Between = List State × List State × List ℕ

abbrev pub seen : List Pair → List Between
seen pairs = map (λ (p : Pair). (p.before.states, p.after.states, p.damaged)) pairs

abbrev pub was : List State
was = home_so 1 1 2 [] ∷ []

abbrev pub is : List State
is = home_so 2 9 0 [] ∷ []

-- ---- the first run: `home` is set, and the process is killed in the sync

abbrev pub setting : World
setting = world_after (with_installed formatted 0 0 in_three) (on (call.OpenKvs fav) ∷ set_home 9 ∷ [])

abbrev pub synced : World
synced = world_after setting (on (call.Sync fav) ∷ [])

abbrev pub after_first : List Pair
after_first = last_pairs 0 setting (disks synced)

killed_in_sync : seen after_first ≡ (was, is, []) ∷ []
unfolding computed
killed_in_sync = refl

-- the contents of its first copy are damaged while writes are pending
damaged_meanwhile : seen (all_aged (1026 ∷ []) after_first) ≡ (was, is, 1026 ∷ []) ∷ []
unfolding computed
damaged_meanwhile = refl

-- ---- the second run: reads give the new value, and it is killed before its start has synchronised the disk

abbrev pub after_second : List Pair
after_second = pairs_after 0 (after_run synced) [] (disks (after_start (after_run synced)))
    (all_aged (1026 ∷ []) after_first)

-- so what the first one left may be there still, with its damage
killed_at_once : seen after_second ≡ (is, is, []) ∷ (was, is, 1026 ∷ []) ∷ []
unfolding computed
killed_at_once = refl

-- after another damage both count of what the first one left
damaged_again : seen (all_aged (1031 ∷ []) after_second) ≡ (is, is, 1031 ∷ []) ∷ (was, is, 1026 ∷ 1031 ∷ []) ∷ []
unfolding computed
damaged_again = refl

-- ---- the third run, after a power loss: whichever it is, `home` reads so

third_reads_the_new : replies (found_so in_three (home_so 2 9 0 (1 ∷ []))) (on (call.OpenKvs fav)
    ∷ on (call.Get fav home) ∷ [])
    ≡ codes "report key-recovered fav:home 1\nok\nvalue u16:9\n"
unfolding computed
third_reads_the_new = refl

third_reads_the_old : replies (found_so in_three (home_so 1 1 2 (1 ∷ []))) (on (call.OpenKvs fav)
    ∷ on (call.Get fav home) ∷ [])
    ≡ codes "report key-recovered fav:home 1\nok\nvalue u16:513\n"
unfolding computed
third_reads_the_old = refl
