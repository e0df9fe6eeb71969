-- Rows that compute: what each call makes of a bad root, of an application that is absent, and of one with a version or
-- with two.
use Rattle.std.specs.Prelude.{◌≡◌, ℕ, List, [], ◌∷◌, Some, None, Ok, Err, codes, false}
use Rattle.std.proofs.Common.{refl}
use Rattle.per_base.specs.declared.elements.Fresh.{Fresh}
use Rattle.per_base.specs.declared.errors.PerError.TheVariants as error
use Rattle.per_base.specs.declared.errors.Holder.TheVariants as holder
use Rattle.per_base.specs.declared.errors.Limit.TheVariants as limit
use Rattle.per_base.specs.declared.errors.Unit.TheVariants as unit
use Rattle.per_base.specs.declared.elements.Scope.TheVariants.{Element}
use Rattle.per_base.specs.declared.elements.StoreKind.TheVariants.{Keys}
use Rattle.deployment_model.specs.Data.{DeploymentData, StorageData}
use Rattle.deployment_model.specs.declared.configs.CollectionStrategy.TheVariants.{KeepExisting}
use Rattle.element_state.specs.States.{State, fresh_map, fresh_state, greatest_generation}
use Rattle.deploy_laws.specs.Places.{Named}
use Rattle.deploy_laws.specs.Apps.{nothing, absent, installed, App}
use Rattle.deploy_rows.specs.Rows.{empty_app, installing, finishing, rolling_back, wiping, offered, updated_app}

-- all that the samples compute with
unfoldable computed : ℕ
unfolding installing finishing rolling_back wiping offered updated_app
computed = 0

abbrev bad : App
bad = record { says = nothing; lacking = []; states = [] }

abbrev storage : StorageData
storage = record {
  name = codes "s";
  kind = Keys;
  minimum = 0;
  maximum = 64;
  strategy = KeepExisting;
  read_only =
      false;
  m = 1;
  n = 1;
  scope = Element;
  elements = [];
}

abbrev version_of : ℕ → DeploymentData
version_of version = record { version = version; storages = storage ∷ [] }

abbrev in_bank : (bank version : ℕ) → Named
in_bank bank version = record { bank = bank; deployment = version_of version }

-- a state, by the generation of what it has
abbrev state : ℕ → State
state generation = fresh_state generation (fresh_map [])

abbrev one_version : App
one_version = record { says = installed 2 (in_bank 0 1) None; lacking = 3 ∷ []; states = state 5 ∷ [] }

abbrev two_versions : App
two_versions = record {
  says = installed 3 (in_bank 1 2) (Some (in_bank 0 1));
  lacking = [];
  states =
      state 1 ∷ state 5 ∷ [];
}

-- ---- a disk that was never formatted is wiped, and nothing else

bad_is_wiped : wiping None bad ≡ Ok (empty_app 1)
unfolding computed
bad_is_wiped = refl

bad_is_not_finished : finishing bad ≡ Err (error.IntegrityCorrupted unit.Root)
unfolding computed
bad_is_not_finished = refl

bad_is_not_installed : (now : ℕ) (text : List ℕ) → installing now text bad ≡ Err (error.IntegrityCorrupted unit.Root)
unfolding computed
bad_is_not_installed now text = refl

-- ---- one version, and two

again : (now : ℕ) (text : List ℕ) → installing now text one_version ≡ Err error.AlreadyInstalled
unfolding computed
again now text = refl

none_before : rolling_back None one_version ≡ Err error.NoPreviousVersion
unfolding computed
none_before = refl

none_to_finish : finishing one_version ≡ Err error.NoPreviousVersion
unfolding computed
none_to_finish = refl

-- the new version in the other bank, beside the old one as it was
committed : (contents : List Fresh) → updated_app (record {
  manifest = [];
  deployment = version_of 2;
  contents = contents ∷ [];
  built =
      1;
}) one_version
    ≡ record {
      says = installed 3 (in_bank 1 2) (Some (in_bank 0 1));
      lacking = [];
      states =
          fresh_state 1 (fresh_map contents) ∷ state 5 ∷ [];
    }
unfolding computed
committed contents = refl

not_before_it_is_finished : (text : List ℕ) → offered None text two_versions ≡ Err (error.UpdateNotFinished 1)
unfolding computed
not_before_it_is_finished text = refl

finished : finishing two_versions ≡ Ok (record {
  says = installed 4 (in_bank 1 2) None;
  lacking = [];
  states =
      state 1 ∷ [];
})
unfolding computed
finished = refl

rolled_back : rolling_back None two_versions ≡ Ok (record {
  says = installed 4 (in_bank 0 1) None;
  lacking =
      [];
  states = state 5 ∷ [];
})
unfolding computed
rolled_back = refl

not_while_open : rolling_back (Some (codes "s")) two_versions ≡ Err (error.ResourceBusy (holder.Storage (codes "s")))
unfolding computed
not_while_open = refl

-- no generation is left
worn_out : wiping None (record { says = absent greatest_generation; lacking = []; states = [] })
    ≡ Err (error.LimitReached limit.Generations)
unfolding computed
worn_out = refl
