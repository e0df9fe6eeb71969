-- What a call of a deployment writes at most, by what `deploy` promises of its bytes and of its files.
use Rattle.std.proofs.Common.{◌≡◌, ◌≤◌, ◌+◌, ℕ, List, [], ◌∷◌, take, drop, Bool, IsTrue, Some, refl, sym, ap, subst}
use Rattle.std.specs.Prelude.{◌≢◌}
use Rattle.disk_model.specs.Medium.{Medium}
use Rattle.command_text.specs.declared.calls.Call.TheVariants as call
use Rattle.deploy.specs.declared.roots.Root.{Root}
use Rattle.deploy.specs.declared.roots.Root.TheVariants.{Absent, Bad, Installed}
use Rattle.deploy.specs.declared.updating.Staged.{Staged}
use Rattle.deploy.specs.Building.{offered_in, staged_progress, staged_root, staged_text}
use Rattle.deploy.specs.Clauses.{IsNoRootSlot, Leaves}
use Rattle.deploy.specs.Making.{IsBesideMade}
use Rattle.deploy.specs.Making as making
use Rattle.deploy.specs.Roots.{free_bank, root_says, root_texts}
use Rattle.deploy.specs.Written.{WritesRoot}
use Rattle.deploy_laws.specs.Places.{shapes_from, shapes_in}
use Rattle.deploy_rows.specs.Costs.{format_cost, install_cost, making_costs, manifests_at, root_cost, storages_said}
use Rattle.run_model.specs.Converters.{Converters}
use Rattle.run_model.specs.Costs.{finishing_cost, next_cost, wipe_cost}
use Rattle.run_model.specs.Turns.{bytes_now}
use Rattle.run_model.specs.Worlds.{Application, application_at}
use Rattle.run_model.specs.Worlds as worlds
use Rattle.run_model.specs.WriteLaws.{call_opened}
use Rattle.run_model.specs.Writes.{IsCallWithin, IsInNone, next_bank, unmade_shapes}

-- the bank in which the next version is made
pub same_bank : (root : Root) → next_bank (root_says root) ≡ free_bank root
same_bank Bad = refl
same_bank (Absent cell) = refl
same_bank (Installed i) = refl

-- a wipe formats a root that is bad, and writes any other
pub wipe_costs : (root : Root) (was now : ℕ) → (root ≢ Bad → now ≤ was + root_cost []) → now ≤ was + format_cost
    → now ≤ was + wipe_cost (root_says root)
wipe_costs Bad was now one most = most
wipe_costs (Absent cell) was now one most = one (λ is. absurd cc)
wipe_costs (Installed i) was now one most = one (λ is. absurd cc)

-- ---- calls

module _ (told : Bool) (converters : Converters) (app now : ℕ) (r : Application) (old new : Medium)
    (tells : IsTrue told) where
  abbrev kept : List (List ℕ)
  kept = manifests_at old.image app

  pub install_within : (text : List ℕ) → new.written ≤ old.written + install_cost now text
      → Leaves told (IsBesideMade app (shapes_from app 0 0 (storages_said text))) old new
      → IsCallWithin converters (application_at app now r) (call.Install text) (bytes_now old) (bytes_now new)
  install_within text cost leaves = call_opened converters app now r (call.Install text) (bytes_now old)
      (bytes_now new) cost (leaves.at_the_end tells)

  -- one that writes the root alone
  module _ (root : Root) (keeps : kept ≡ root_texts root) (leaves : Leaves told (IsNoRootSlot app) old new) where
    pub finish_within : WritesRoot (take 1 (root_texts root)) old new
        → IsCallWithin converters (application_at app now r) call.Finish (bytes_now old) (bytes_now new)
    finish_within cost = call_opened converters app now r call.Finish (bytes_now old) (bytes_now new)
        (subst (λ (manifests : List (List ℕ)). WritesRoot (take 1 manifests) old new) (sym keeps) cost)
        (λ file beside. leaves.at_the_end tells file beside.0)

    pub rollback_within : WritesRoot (drop 1 (root_texts root)) old new
        → IsCallWithin converters (application_at app now r) call.Rollback (bytes_now old) (bytes_now new)
    rollback_within cost = call_opened converters app now r call.Rollback (bytes_now old) (bytes_now new)
        (subst (λ (manifests : List (List ℕ)). WritesRoot (drop 1 manifests) old new) (sym keeps) cost)
        (λ file beside. leaves.at_the_end tells file beside.0)

  pub wipe_within : (root : Root) → r.disk.says ≡ root_says root → (root ≢ Bad → WritesRoot [] old new)
      → new.written ≤ old.written + format_cost → Leaves told (IsNoRootSlot app) old new
      → IsCallWithin converters (application_at app now r) call.Wipe (bytes_now old) (bytes_now new)
  wipe_within root says one all leaves = call_opened converters app now r call.Wipe (bytes_now old) (bytes_now new)
      (subst (λ s. new.written ≤ old.written + wipe_cost s) (sym says)
      (wipe_costs root old.written new.written one all))
      (λ file beside. leaves.at_the_end tells file beside.0)

  -- ---- an update in progress

  module _ (s : Staged) (updating : r.stage ≡ worlds.updating (staged_progress s))
      (says : r.disk.says ≡ root_says (staged_root s)) where
    bank_is : next_bank r.disk.says ≡ (offered_in s).bank
    bank_is = ap next_bank says

    -- what the next storage takes
    pub next_within : new.written ≤ old.written
        + making_costs (take 1 (drop (staged_progress s).built (staged_progress s).deployment.storages))
        (drop (staged_progress s).built (staged_progress s).contents)
        → Leaves told (making.IsInNone (take 1 (drop (staged_progress s).built (shapes_in app (offered_in s))))) old
        new
        → IsCallWithin converters (application_at app now r) call.UpdateNext (bytes_now old) (bytes_now new)
    next_within cost leaves = call_opened converters app now r call.UpdateNext (bytes_now old) (bytes_now new)
        (subst (λ (stage : worlds.Stage). new.written ≤ old.written + next_cost (worlds.update_in stage))
        (sym updating) cost)
        (λ file beside. leaves.at_the_end tells file (subst (λ (bank : ℕ). IsInNone
        (take 1 (drop (staged_progress s).built
        (shapes_from app bank 0 (staged_progress s).deployment.storages))) file) bank_is
        (subst (λ (stage : worlds.Stage). IsInNone
        (take 1 (unmade_shapes app (next_bank r.disk.says) (worlds.update_in stage))) file) updating beside.1)))

    -- and what all take that are not made yet, and the root
    pub commit_within : kept ≡ root_texts (staged_root s) → new.written ≤ old.written
        + (making_costs (drop (staged_progress s).built (staged_progress s).deployment.storages)
        (drop (staged_progress s).built (staged_progress s).contents)
        + root_cost (staged_text s ∷ root_texts (staged_root s)))
        → Leaves told (IsBesideMade app (drop (staged_progress s).built (shapes_in app (offered_in s)))) old new
        → IsCallWithin converters (application_at app now r) call.UpdateCommit (bytes_now old) (bytes_now new)
    commit_within keeps cost leaves = call_opened converters app now r call.UpdateCommit (bytes_now old)
        (bytes_now new)
        (subst (λ (stage : worlds.Stage). new.written ≤ old.written + finishing_cost kept (worlds.update_in stage))
        (sym updating)
        (subst (λ (manifests : List (List ℕ)). new.written ≤ old.written
        + finishing_cost manifests (Some (staged_progress s))) (sym keeps) cost))
        (λ file beside. leaves.at_the_end tells file (
          beside.0,
          subst (λ (bank : ℕ). IsInNone (drop (staged_progress s).built
              (shapes_from app bank 0 (staged_progress s).deployment.storages)) file) bank_is
              (subst (λ (stage : worlds.Stage). IsInNone
              (unmade_shapes app (next_bank r.disk.says) (worlds.update_in stage)) file) updating beside.1),
        ))
