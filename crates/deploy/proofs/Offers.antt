-- The row of an offer over a root with a version, and what begins from it.
use Rattle.std.proofs.Common.{◌≡◌, ℕ, ◌-◌, ◌≤◌, ◌<◌, List, [], Bool, Option, None, Some, refl, sym, ap, ◌∙◌, subst}
use Rattle.std.specs.Prelude.{Result, Ok, Err, cond, option_map}
use Rattle.std.proofs.lemmas.Bool.{le-leb, lt-leb}
use Rattle.per_base.specs.declared.elements.Fresh.{Fresh}
use Rattle.per_base.specs.declared.errors.Limit.TheVariants as limit
use Rattle.per_base.specs.declared.errors.PerError.{PerError}
use Rattle.per_base.specs.declared.errors.PerError.TheVariants as error
use Rattle.per_base.specs.declared.errors.Holder.TheVariants as holder
use Rattle.deployment_model.specs.Data.{DeploymentData, deployment_data}
use Rattle.element_state.specs.States.{State, greatest_generation}
use Rattle.guarded_cell.specs.Cells.{generation_of}
use Rattle.migrate_fns.specs.Rules.{Rule}
use Rattle.migrate_fns.specs.Rules as fns
use Rattle.root_text.specs.declared.versions.VersionText.{VersionText}
use Rattle.root_text.specs.Views.{version_said}
use Rattle.update_plan.specs.declared.contents.Stored.{Stored}
use Rattle.update_plan.specs.Plans.{PlansAll, stored_for}
use Rattle.deploy_laws.specs.Apps.{App, Says, named_in_bank}
use Rattle.deploy_laws.specs.Places.{Named}
use Rattle.deploy_rows.specs.Rows.{◌>>=◌, BeginsUpdate, BeginsWith, InProgress, Offer, deployment_of, newer_version}
use Rattle.deploy_rows.specs.Rows.{offer_over}
use Rattle.deploy_rows.specs.Rows.{contents_stored, offered}
use Rattle.deploy.specs.declared.roots.Installed.{Installed}
use Rattle.deploy.specs.declared.roots.Root.{Root}
use Rattle.deploy.specs.declared.roots.Root.TheVariants as root
use Rattle.deploy.specs.Beginning.{offer_of}
use Rattle.deploy.specs.Roots.{root_app}
use Rattle.deploy.proofs.InstallRow.{left, worn}

-- the states do not matter
pub offered_alike : (busy : Option (List ℕ)) (text : List ℕ) (r : Root) (states : List State)
    → offered busy text (root_app r states) ≡ offered busy text (root_app r [])
unfolding offered
offered_alike busy text r states = refl

over : (busy : Option (List ℕ)) (text : List ℕ) (i : Installed) (previous : Option VersionText) → i.previous ≡ previous
    → offered busy text (root_app (root.Installed i) [])
    ≡ offer_over busy text (generation_of i.cell) (named_in_bank i.bank (version_said i.active))
    (option_map (λ (v : VersionText). named_in_bank (1 - i.bank) (version_said v)) previous)
unfolding offered
over busy text i previous is = ap (λ (p : Option VersionText).
    offer_over busy text (generation_of i.cell) (named_in_bank i.bank (version_said i.active))
    (option_map (λ (v : VersionText). named_in_bank (1 - i.bank) (version_said v)) p)) is

module _ (busy : Option (List ℕ)) (text : List ℕ) (i : Installed) where
  -- the previous version is not finished
  pub not_finished : (v : VersionText) → i.previous ≡ Some v
      → offered busy text (root_app (root.Installed i) []) ≡ Err (error.UpdateNotFinished v.deployment.version)
  not_finished v is = over busy text i (Some v) is

  module _ (none : i.previous ≡ None) where
    -- a storage is open
    pub is_busy : (name : List ℕ) → busy ≡ Some name → offered busy text (root_app (root.Installed i) [])
        ≡ Err (error.ResourceBusy (holder.Storage name))
    is_busy name is = over busy text i None none
        ∙ ap (λ (b : Option (List ℕ)). offer_over b text (generation_of i.cell)
        (named_in_bank i.bank (version_said i.active))
        None) is

    abbrev pub active : Named
    active = named_in_bank i.bank (version_said i.active)

    module _ (free : busy ≡ None) where
      pub by_text : (r : Result DeploymentData PerError) → deployment_of text ≡ r
          → offered busy text (root_app (root.Installed i) [])
          ≡ (r >>= newer_version active (generation_of i.cell) text)
      by_text r is = over busy text i None none
          ∙ ap (λ (b : Option (List ℕ)). offer_over b text (generation_of i.cell) active None) free
          ∙ ap (λ (s : Result DeploymentData PerError). s >>= newer_version active (generation_of i.cell) text) is

      -- the manifest is rejected
      pub is_rejected : (e : PerError) → deployment_of text ≡ Err e
          → offered busy text (root_app (root.Installed i) []) ≡ Err e
      is_rejected e is = by_text (Err e) is

      -- the offer of a version whose manifest is this text
      abbrev offer_text : List ℕ → VersionText → Offer
      offer_text manifest v = record (offer_of i v) { manifest = manifest }

      -- the version is no newer one
      pub not_newer : (v : VersionText) → deployment_of text ≡ Ok (deployment_data v.deployment)
          → v.deployment.version ≤ i.active.deployment.version
          → offered busy text (root_app (root.Installed i) [])
          ≡ Err (error.VersionNotNewer i.active.deployment.version v.deployment.version)
      not_newer v is le = by_text (Ok (deployment_data v.deployment)) is
          ∙ ap (λ (b : Bool). cond b (Err (error.VersionNotNewer i.active.deployment.version v.deployment.version))
          (Ok (offer_text text v)))
          (le-leb v.deployment.version i.active.deployment.version le)

      -- or it is
      pub is_offered : (v : VersionText) → v.text ≡ text → deployment_of text ≡ Ok (deployment_data v.deployment)
          → i.active.deployment.version < v.deployment.version
          → offered busy text (root_app (root.Installed i) []) ≡ Ok (offer_of i v)
      is_offered v text_is is lt = by_text (Ok (deployment_data v.deployment)) is
          ∙ ap (λ (b : Bool). cond b (Err (error.VersionNotNewer i.active.deployment.version v.deployment.version))
          (Ok (offer_text text v)))
          (lt-leb v.deployment.version i.active.deployment.version lt)
          ∙ ap (λ (manifest : List ℕ). Ok (offer_text manifest v)) (sym text_is)

-- ---- what begins from it

by_says : (busy : Option (List ℕ)) (text : List ℕ) (k l : List ℕ) (xs ys : List State) (s t : Says) → s ≡ t
    → offered busy text (record { says = s; lacking = k; states = xs })
    ≡ offered busy text (record { says = t; lacking = l; states = ys })
unfolding offered
by_says busy text k l xs ys s t is = subst (λ (u : Says).
    offered busy text (record { says = s; lacking = k; states = xs })
    ≡ offered busy text (record { says = u; lacking = l; states = ys })) is refl

-- what is offered depends on what the root says alone
pub offered_says : (busy : Option (List ℕ)) (text : List ℕ) (a b : App) → a.says ≡ b.says
    → offered busy text a ≡ offered busy text b
offered_says busy text a b is = by_says busy text a.lacking b.lacking a.states b.states a.says b.says is

module _ (rules : List Rule) (answers : fns.Answers) (now : ℕ) (busy : Option (List ℕ)) (text : List ℕ) (r : Root)
    (states : List State)
    (begun : Result InProgress PerError) where
  pub begins_by : (row : Result Offer PerError) → offered busy text (root_app r []) ≡ row
      → BeginsWith rules answers now states row begun
      → BeginsUpdate rules answers now busy text (root_app r states) begun
  begins_by row is begins =
      subst (λ (o : Result Offer PerError). BeginsWith rules answers now states o begun)
      (sym (offered_alike busy text r states ∙ is)) begins

module _ (rules : List Rule) (answers : fns.Answers) (now : ℕ) (o : Offer) (stored : List Stored) (states : List State)
    (is : stored ≡ contents_stored o.active.deployment.storages states) where
  planned : (plan : Result (List (List Fresh)) PerError)
      → PlansAll rules answers now (stored_for o.active.deployment stored) o.deployment.storages plan
      → PlansAll rules answers now (stored_for o.active.deployment
      (contents_stored o.active.deployment.storages states))
      o.deployment.storages plan
  planned plan plans = subst (λ (xs : List Stored). PlansAll rules answers now (stored_for o.active.deployment xs)
      o.deployment.storages plan) is plans

  -- what begins with these contents
  abbrev progress_with : List (List Fresh) → InProgress
  progress_with contents = record {
    manifest = o.manifest;
    deployment = o.deployment;
    contents = contents;
    built = 0;
  }

  -- the plan is refused
  pub begins_refused : (e : PerError) → PlansAll rules answers now (stored_for o.active.deployment stored)
      o.deployment.storages (Err e)
      → BeginsWith rules answers now states (Ok o) (Err e)
  begins_refused e plans = (Err e, planned (Err e) plans, refl)

  -- no generation is left
  pub begins_worn : (contents : List (List Fresh)) → PlansAll rules answers now (stored_for o.active.deployment stored)
      o.deployment.storages (Ok contents)
      → greatest_generation ≤ o.generation → BeginsWith rules answers now states (Ok o)
      (Err (error.LimitReached limit.Generations))
  begins_worn contents plans le = (
    Ok contents,
    planned (Ok contents) plans,
    sym (worn o.generation (Ok (progress_with contents)) le),
  )

  -- or it begins
  pub begins_ready : (contents : List (List Fresh)) → PlansAll rules answers now (stored_for o.active.deployment stored)
      o.deployment.storages (Ok contents)
      → o.generation < greatest_generation → BeginsWith rules answers now states (Ok o)
      (Ok (progress_with contents))
  begins_ready contents plans lt = (
    Ok contents,
    planned (Ok contents) plans,
    sym (left o.generation (Ok (progress_with contents)) lt),
  )

-- what is no value is none
pub none_of : {A : Type 0} (o : Option A) → ((x : A) → o ≡ Some x → ⊥) → o ≡ None
none_of None no_value = refl
none_of (Some x) no_value = absurd (no_value x refl)
