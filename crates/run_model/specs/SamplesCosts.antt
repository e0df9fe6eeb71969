-- What calls write at most, computed.
use Rattle.std.specs.Prelude.{◌≡◌, ◌≤◌, ◌<◌, ℕ, ◌+◌, ◌*◌, List, [], ◌∷◌, Some, None, refl}
use Rattle.std.proofs.Common.{ap, arith, inl, inr, subst}
use Rattle.per_base.specs.declared.elements.Content.TheVariants.{Good}
use Rattle.per_base.specs.declared.errors.PerError.TheVariants as error
use Rattle.disk_model.specs.Place.{IsNoSlot}
use Rattle.element_state.specs.States.{Corrupt}
use Rattle.element_state.specs.Written.{map_cost}
use Rattle.command_text.specs.declared.calls.Call.{Call}
use Rattle.command_text.specs.declared.calls.Call.TheVariants as call
use Rattle.deploy_laws.specs.Apps.{nothing, says_at}
use Rattle.deploy_laws.specs.Places.{root_place, storage_shape}
use Rattle.deploy_rows.specs.Costs.{format_cost, greatest_cost, install_cost, manifests_at, root_cost}
use Rattle.run_model.specs.Bounds.{StartsWithin}
use Rattle.run_model.specs.Converters.{Converters}
use Rattle.run_model.specs.Costs.{call_cost, finishing_cost, next_cost, opening_cost, update_cost}
use Rattle.run_model.specs.Samples.{at_first, at_nine, computed, fav, home, in_copies, on, the_plan, world_after}
use Rattle.run_model.specs.SamplesDamage.{found_so, in_three}
use Rattle.run_model.specs.SamplesManifests.{cut_text, favourites_text, manifests_read, second_text}
use Rattle.run_model.specs.Turns.{DiskBytes}
use Rattle.run_model.specs.Worlds.{Application, World, app_of, at_rest, to_open, application_at}
use Rattle.run_model.specs.Writes.{AllNeedNothing, CostsCall, IsBesideCall, IsRootAlone, OpensAtMost}

-- what a call of application 0 costs in this world, whose root keeps these manifests
abbrev cost : List (List ℕ) → World → Call → ℕ
cost kept w c = call_cost 0 0 kept (app_of w 0) c

-- ---- roots

the_longest_root : greatest_cost ≡ 393516
the_longest_root = refl

none_left : format_cost ≡ 402
none_left = refl

-- two manifests, of 339 and of 116 bytes
abbrev both : List (List ℕ)
both = second_text ∷ favourites_text ∷ []

a_root : root_cost both ≡ 3 * (12 + 339 + 116 + 88)
unfolding manifests_read
a_root = refl

-- a finish forgets the older one, and a rollback the newer one
a_finish : (w : World) → cost both w call.Finish ≡ 3 * (8 + 339 + 88)
unfolding manifests_read
a_finish w = refl

a_rollback : (w : World) → cost both w call.Rollback ≡ 3 * (8 + 116 + 88)
unfolding manifests_read
a_rollback w = refl

-- written twice, it is out of the bound
finished_once : (converters : Converters) (w : World) (before : ℕ)
    → ¬ (CostsCall converters (application_at 0 0 (app_of w 0)) both call.Finish before
    (before + 2 * (3 * (8 + 339 + 88))))
unfolding manifests_read
finished_once converters w before within = absurd (omega (arith, within))

-- a root that is to be opened is written before the call, and one that is open is not
opened_first : opening_cost both to_open ≡ root_cost both
opened_first = refl

opened_before : opening_cost both at_rest ≡ 0
opened_before = refl

-- ---- versions

-- one storage in one copy, whose key `home` takes one block, with an index of 4 bytes and 53 for the key, and the root
-- with this manifest of 116 bytes
abbrev one_key : ℕ
one_key = 256 + (4 + 53) + 5 * 44

abbrev first_root : ℕ
first_root = 3 * (8 + 116 + 88)

a_small_install : install_cost 0 favourites_text ≡ one_key + first_root
unfolding manifests_read
a_small_install = refl

-- with its root written twice, it is out of the bound
installed_once : (converters : Converters) (w : World) (before : ℕ)
    → ¬ (CostsCall converters (application_at 0 0 (app_of w 0)) [] (call.Install favourites_text) before
    (before + (one_key + 2 * first_root)))
installed_once converters w before within =
    let bounded : before + (one_key + 2 * first_root) ≤ before + (one_key + first_root) =
    subst (λ (most : ℕ). before + (one_key + 2 * first_root) ≤ before + most) a_small_install within in
    absurd (omega (arith, bounded))

-- a refused manifest
a_refused_install : install_cost 0 cut_text ≡ 0
unfolding manifests_read
a_refused_install = refl

-- updated in one call: the keys `conv`, `keep`, `new` and `over`, and a root that keeps a manifest of 339 bytes beside
-- that of 116
abbrev four_keys : ℕ
four_keys = 4 * 256 + (4 + 53 + 53 + 52 + 53) + 5 * 44

a_small_update : update_cost (favourites_text ∷ []) second_text the_plan ≡ four_keys + 3 * (12 + 339 + 116 + 88)
unfolding manifests_read
a_small_update = refl

-- in steps: one storage in one copy, with four keys of a block each, and none once it is made
one_storage : next_cost (Some the_plan) ≡ four_keys
one_storage = refl

none_remains : next_cost (Some (record the_plan { built = 1 })) ≡ 0
none_remains = refl

-- a commit makes what is not made yet, and then writes the root
all_storages : finishing_cost [] (Some the_plan) ≡ next_cost (Some the_plan) + root_cost ([] ∷ [])
all_storages = refl

the_root_alone : finishing_cost (favourites_text ∷ []) (Some (record the_plan { manifest = second_text; built = 1 }))
    ≡ root_cost both
unfolding manifests_read
the_root_alone = refl

no_update : finishing_cost both None ≡ 0
no_update = refl

-- ---- storages

-- one of three copies lacks the only key, which takes one block
an_opening : cost [] (in_copies (Good (3 ∷ 9 ∷ 0 ∷ [])) (1 ∷ [])) (call.OpenKvs fav) ≡ 256 + 3 * 524332
unfolding computed
an_opening = refl

-- a corrupt storage is left as it is
no_opening : cost [] (found_so in_three (Corrupt None [])) (call.OpenKvs fav) ≡ 0
unfolding computed
no_opening = refl

-- rebuilt with one key in three copies
a_recovery : cost [] (in_copies (Good (3 ∷ 9 ∷ 0 ∷ [])) (1 ∷ [])) (call.RecoverStorage fav) ≡ 3 * (256 + 1048664)
unfolding computed
a_recovery = refl

a_reset : cost [] (found_so in_three (Corrupt None [])) (call.ResetStorage fav) ≡ 3 * (256 + 1048664)
unfolding computed
a_reset = refl

-- one key differs: its block, the next index with its head, and a blank
a_sync : cost [] at_nine (call.Sync fav) ≡ 256 + 57 + 88
unfolding computed map_cost
a_sync = refl

-- nothing differs
an_empty_sync : cost [] (world_after at_first (on (call.OpenKvs fav) ∷ [])) (call.Sync fav) ≡ 0
unfolding computed
an_empty_sync = refl

-- what is pending of keys is dropped
a_close : cost [] at_nine (call.Close fav) ≡ 0
unfolding computed
a_close = refl

-- a storage that is not open, and one that is not there
a_closed_sync : cost [] at_first (call.Sync fav) ≡ 0
unfolding computed
a_closed_sync = refl

no_storage : cost [] at_first (call.OpenKvs home) ≡ 0
unfolding computed
no_storage = refl

-- an application whose root is to be opened before the call
abbrev unopened : Application
unopened = record (app_of at_first 0) { stage = to_open }

-- and a call on a storage that is not there then leaves every file but slots of the root as it was
nothing_touched : (file : ℕ) → IsNoSlot (root_place 0) file → IsBesideCall 0 unopened (call.Sync home) file
unfolding computed
nothing_touched file is = (is, inr (inr (error.StorageNotFound, refl)))

-- a call on an open storage writes nothing
a_get : cost [] at_nine (call.Get fav home) ≡ 0
a_get = refl

-- ---- refusals

-- one of application 0, whose root was opened first: that root is the most that was written
a_refusal : (old new : DiskBytes) → manifests_at old.image 0 ≡ both → OpensAtMost 0 to_open old new
    → new.written ≤ old.written + 3 * (12 + 339 + 116 + 88)
unfolding manifests_read
a_refusal old new kept opens = subst
    (λ (manifests : List (List ℕ)). new.written ≤ old.written + root_cost manifests) kept opens.costs

one_copy : 0 < 1
one_copy = omega arith

three_files : 0 < 3
three_files = omega arith

-- an install may change file 1024, the first of the first storage that it makes
an_install : ¬ (IsBesideCall 0 unopened (call.Install favourites_text) 1024)
unfolding manifests_read storage_shape
an_install beside = beside.1.0 0 0 one_copy three_files refl

-- nor is that root written where it is held alone, nor a bad one
a_root_alone : (old new : DiskBytes) → IsRootAlone old.image 0 → OpensAtMost 0 to_open old new
    → new.written ≡ old.written
a_root_alone old new alone opens = ap (λ (b : DiskBytes). b.written) (opens.already (inl alone))

a_bad_root : (old new : DiskBytes) → says_at old.image 0 ≡ nothing → OpensAtMost 0 to_open old new → new ≡ old
a_bad_root old new bad opens = opens.already (inr bad)

-- a start writes no byte where no root needs anything
a_start : (old new : DiskBytes) → AllNeedNothing old.image → StartsWithin old new → ¬ (new.written ≡ old.written + 1)
a_start old new all starts more =
    let same = ap (λ (b : DiskBytes). b.written) (starts.already all) in
    absurd (omega (arith, same, more))

no_slot : ¬ (IsNoSlot (root_place 1) 4097)
no_slot none = none 0 1 (omega arith) (omega arith) refl

-- and leaves what single copies of a bad root hold, whatever the others need: here the slot for odd generations
a_bad_slot : (old new : DiskBytes) → says_at old.image 1 ≡ nothing → StartsWithin old new
    → new.image 4097 ≡ old.image 4097
a_bad_slot old new bad starts = starts.left 1 (omega arith) (inr bad) 4097 no_slot

behind_root : (copy parity : ℕ) → copy < 3 → parity < 2 → ¬ (1024 ≡ 0 + 4 * copy + parity)
behind_root copy parity three two is = absurd (omega (arith, three, two, is))

-- and a refused one does not
a_refused_one : (old new : DiskBytes) → OpensAtMost 0 to_open old new → new.image 1024 ≡ old.image 1024
a_refused_one old new opens = opens.files 1024 (λ copy parity three two is. behind_root copy parity three two is)
