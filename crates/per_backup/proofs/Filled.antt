-- What the texts of storages make, one storage after another.
use Rattle.std.proofs.Common.{◌≡◌, ℕ, zero, suc, ◌+◌, ◌<◌, ◌≤◌, Bool, true, false, List, [], ◌∷◌, ◌++◌, length}
use Rattle.std.proofs.Common.{get_or, drop, cond, None, Result, Ok, Err, refl, sym, ap, ◌∙◌, subst, append_assoc}
use Rattle.std.proofs.Common.{append-nil, arith}
use Rattle.std.specs.Prelude.{map, nat_lt, sum_by}
use Rattle.std.specs.List.{AllByRecursion}
use Rattle.std.proofs.lemmas.List.{drop_all, drop_more, map-append}
use Rattle.std.proofs.lemmas.Bool.Decides.{nat_tests}
use Rattle.per_base.specs.declared.elements.Fresh.{Fresh}
use Rattle.per_base.specs.declared.errors.PerError.{PerError}
use Rattle.per_base.specs.declared.errors.PerError.TheVariants as error
use Rattle.deployment_model.specs.Conditions.{IsStorage}
use Rattle.deployment_model.specs.Data.{DeploymentData, StorageData, storage_data}
use Rattle.deployment_model.specs.declared.configs.StorageConfig.{StorageConfig}
use Rattle.element_state.specs.States.{State, Corrupt, fresh_map, fresh_state}
use Rattle.index_text.specs.Contents.{AreContents, fresh_size}
use Rattle.update_plan.specs.Plans.{AllFit}
use Rattle.deploy_laws.specs.Apps.{App}
use Rattle.deploy_rows.specs.Recovering.{if_contents_fit, rebuilding}
use Rattle.deploy_rows.specs.Rows.{◌>>=◌, deployment_of, made_states}
use Rattle.deploy.specs.Filled.{filled_app}
use Rattle.deploy.specs.Recovered.{AreElements}
use Rattle.per_backup.specs.Backups.{importing, made_from, restored_app, states_from}

-- ---- one storage

pub kept_at : (ds : List StorageConfig) (k : ℕ) (x : StorageConfig) → AllByRecursion IsStorage (map storage_data ds)
    → k < length ds → x ≡ get_or ds k x → IsStorage (storage_data x)
kept_at [] k x all lt is = absurd (omega (arith, lt))
kept_at (d ∷ ds) zero x all lt is = subst (λ (y : StorageConfig). IsStorage (storage_data y)) (sym is) all.0
kept_at (d ∷ ds) (suc k) x all lt is = kept_at ds k x all.1 (omega (arith, lt)) is

above : (a b : ℕ) → b < a → nat_lt b a ≡ true
above a b lt = grind (arith, nat_tests, lt)

within : (a b : ℕ) → a ≤ b → nat_lt b a ≡ false
within a b le = grind (arith, nat_tests, le)

-- what comes of contents that are too large, or not
abbrev unless_large : Bool → StorageData → State → List Fresh → Result State PerError
unless_large large s state contents = cond large (Err (error.OutOfStorageSpace (sum_by fresh_size contents) s.maximum))
    (rebuilding state contents)

pub too_large : (s : StorageData) (text : List ℕ) (contents : List Fresh)
    → ((state : State) → importing s state text ≡ if_contents_fit s state contents)
    → s.maximum < sum_by fresh_size contents
    → importing s (Corrupt None []) text ≡ Err (error.OutOfStorageSpace (sum_by fresh_size contents) s.maximum)
too_large s text contents row lt = row (Corrupt None [])
    ∙ ap (λ (b : Bool). unless_large b s (Corrupt None []) contents) (above (sum_by fresh_size contents) s.maximum lt)

pub it_fits : (s : StorageData) (text : List ℕ) (contents : List Fresh)
    → ((state : State) → importing s state text ≡ if_contents_fit s state contents)
    → sum_by fresh_size contents ≤ s.maximum
    → importing s (Corrupt None []) text ≡ Ok (fresh_state 1 (fresh_map contents))
it_fits s text contents row le = row (Corrupt None [])
    ∙ ap (λ (b : Bool). unless_large b s (Corrupt None []) contents) (within (sum_by fresh_size contents) s.maximum le)

pub are_contents : (s : StorageData) (contents : List Fresh) → AreElements s.kind contents
    → sum_by fresh_size contents ≤ s.maximum → AreContents s.kind s.maximum contents
are_contents s contents are le = record {
  each = are.each;
  names_ascend = are.names_ascend;
  few = are.few;
  small = le;
}

-- ---- storages, one after another

-- the states that are known, and after them those of the rest
abbrev pub known_first : List State → Result (List State) PerError → Result (List State) PerError
known_first known rest = rest >>= λ states. Ok (known ++ states)

pub known_none : (rest : Result (List State) PerError) → known_first [] rest ≡ rest
known_none (Ok states) = refl
known_none (Err e) = refl

one_more : (known : List State) (state : State) (rest : Result (List State) PerError)
    → known_first known (rest >>= λ states. Ok (state ∷ states)) ≡ known_first (known ++ state ∷ []) rest
one_more known state (Ok states) = ap (λ (xs : List State). Ok xs) (sym (append_assoc known (state ∷ []) states))
one_more known state (Err e) = refl

-- a storage with its text that makes a state
made_one : (known : List State) (s : StorageData) (ss : List StorageData) (text : List ℕ) (texts : List (List ℕ))
    (state : State) → importing s (Corrupt None []) text ≡ Ok state
    → known_first known (states_from (s ∷ ss) (text ∷ texts)) ≡ known_first (known ++ state ∷ []) (states_from ss texts)
made_one known s ss text texts state is = ap (λ (r : Result State PerError).
    known_first known (r >>= λ st. states_from ss texts >>= λ states. Ok (st ∷ states))) is
    ∙ one_more known state (states_from ss texts)

-- and one that makes none
refused_one : (known : List State) (s : StorageData) (ss : List StorageData) (text : List ℕ) (texts : List (List ℕ))
    (e : PerError) → importing s (Corrupt None []) text ≡ Err e
    → known_first known (states_from (s ∷ ss) (text ∷ texts)) ≡ Err e
refused_one known s ss text texts e is = ap (λ (r : Result State PerError).
    known_first known (r >>= λ st. states_from ss texts >>= λ states. Ok (st ∷ states))) is

-- an item of a list, and what is left from there
next_is : {A : Type 0} (xs : List A) (i : ℕ) (x : A) → i < length xs → x ≡ get_or xs i x
    → drop i xs ≡ x ∷ drop (i + 1) xs
next_is xs i x lt is = drop_more xs i x lt ∙ ap (λ y. y ∷ drop (i + 1) xs) (sym is)

some_left : {A : Type 0} (xs : List A) (i : ℕ) → i < length xs → 0 < length (drop i xs)
some_left [] i lt = absurd (omega (arith, lt))
some_left (x ∷ xs) zero lt = lt
some_left (x ∷ xs) (suc i) lt = some_left xs i (omega (arith, lt))

no_text : (known : List State) (configs : List StorageConfig) → 0 < length configs
    → known_first known (states_from (map storage_data configs) []) ≡ Err error.ExportRejected
no_text known [] some = absurd (omega (arith, some))
no_text known (c ∷ cs) some = refl

-- the storages before this one are filled
pub record IsFilling (storages : List StorageConfig) (texts : List (List ℕ)) (number : ℕ) (contents : List (List Fresh))
    : Type 0 where
  pub states : known_first (made_states contents)
      (states_from (map storage_data (drop number storages)) (drop number texts))
      ≡ states_from (map storage_data storages) texts
  pub fit : (rest : List (List Fresh)) → AllFit (map storage_data (drop number storages)) rest
      → AllFit (map storage_data storages) (contents ++ rest)

pub filling_none : (storages : List StorageConfig) (texts : List (List ℕ)) → IsFilling storages texts 0 []
filling_none storages texts = record {
  states = known_none (states_from (map storage_data storages) texts);
  fit = λ rest fits. fits;
}

module _ (storages : List StorageConfig) (texts : List (List ℕ)) (number : ℕ) (contents : List (List Fresh))
    (filling : IsFilling storages texts number contents) where
  -- the next one, with its text
  module _ (x : StorageConfig) (text : List ℕ) (lt : number < length storages) (is : x ≡ get_or storages number x)
      (few : number < length texts) (here : text ≡ get_or texts number text) where
    at : states_from (map storage_data (drop number storages)) (drop number texts)
        ≡ states_from (storage_data x ∷ map storage_data (drop (number + 1) storages))
        (text ∷ drop (number + 1) texts)
    at = ap (λ (xs : List StorageConfig). states_from (map storage_data xs) (drop number texts))
        (next_is storages number x lt is)
        ∙ ap (λ (ts : List (List ℕ)). states_from
        (storage_data x ∷ map storage_data (drop (number + 1) storages)) ts) (next_is texts number text few here)

    pub filling_refused : (e : PerError) → importing (storage_data x) (Corrupt None []) text ≡ Err e
        → states_from (map storage_data storages) texts ≡ Err e
    filling_refused e refused = sym filling.states ∙ ap (known_first (made_states contents)) at
        ∙ refused_one (made_states contents) (storage_data x) (map storage_data (drop (number + 1) storages)) text
        (drop (number + 1) texts) e refused

    pub filling_more : (fs : List Fresh)
        → importing (storage_data x) (Corrupt None []) text ≡ Ok (fresh_state 1 (fresh_map fs))
        → AreContents x.kind x.maximum fs → IsFilling storages texts (number + 1) (contents ++ fs ∷ [])
    filling_more fs made fits = record {
      states = ap (λ (known : List State). known_first known
          (states_from (map storage_data (drop (number + 1) storages)) (drop (number + 1) texts)))
          (map-append (λ (gs : List Fresh). fresh_state 1 (fresh_map gs)) contents (fs ∷ []))
          ∙ sym (made_one (made_states contents) (storage_data x) (map storage_data (drop (number + 1) storages)) text
          (drop (number + 1) texts) (fresh_state 1 (fresh_map fs)) made)
          ∙ ap (known_first (made_states contents)) (sym at) ∙ filling.states;
      fit = λ rest more. subst (λ (cs : List (List Fresh)). AllFit (map storage_data storages) cs)
          (sym (append_assoc contents (fs ∷ []) rest))
          (filling.fit (fs ∷ rest) (subst (λ (xs : List StorageConfig). AllFit (map storage_data xs) (fs ∷ rest))
          (sym (next_is storages number x lt is)) (fits, more)));
    }

  -- it has no text
  pub filling_short : number < length storages → length texts ≤ number
      → states_from (map storage_data storages) texts ≡ Err error.ExportRejected
  filling_short lt few = sym filling.states
      ∙ ap (λ (ts : List (List ℕ)). known_first (made_states contents)
      (states_from (map storage_data (drop number storages)) ts)) (drop_all number texts few)
      ∙ no_text (made_states contents) (drop number storages) (some_left storages number lt)

  -- there is none left
  module _ (past : length storages ≤ number) where
    over : (rest : List (List ℕ)) → known_first (made_states contents)
        (states_from (map storage_data (drop number storages)) rest)
        ≡ known_first (made_states contents) (states_from [] rest)
    over rest = ap (λ (xs : List StorageConfig). known_first (made_states contents)
        (states_from (map storage_data xs) rest)) (drop_all number storages past)

    pub filling_done : length texts ≤ number
        → states_from (map storage_data storages) texts ≡ Ok (made_states contents)
    filling_done few = sym filling.states ∙ over (drop number texts)
        ∙ ap (λ (ts : List (List ℕ)). known_first (made_states contents) (states_from [] ts))
        (drop_all number texts few)
        ∙ ap (λ (xs : List State). Ok xs) (append-nil (made_states contents))

    pub filling_long : number < length texts
        → states_from (map storage_data storages) texts ≡ Err error.ExportRejected
    filling_long lt = sym filling.states ∙ over (drop number texts) ∙ by (drop number texts) (some_left texts number lt)
      where
        by : (ts : List (List ℕ)) → 0 < length ts
            → known_first (made_states contents) (states_from [] ts) ≡ Err error.ExportRejected
        by [] some = absurd (omega (arith, some))
        by (t ∷ ts) some = refl

    pub filling_fits : AllFit (map storage_data storages) contents
    filling_fits = subst (λ (cs : List (List Fresh)). AllFit (map storage_data storages) cs) (append-nil contents)
        (filling.fit [] (subst (λ (xs : List StorageConfig). AllFit (map storage_data xs) [])
        (sym (drop_all number storages past)) tt))

-- ---- the version with them

filled_restored : (g : ℕ) (d : DeploymentData) (contents : List (List Fresh))
    → filled_app g d contents ≡ restored_app g d (made_states contents)
unfolding filled_app
filled_restored g d contents = refl

module _ (manifest : List ℕ) (texts : List (List ℕ)) where
  pub manifest_refused : (e : PerError) → deployment_of manifest ≡ Err e → (g : ℕ)
      → made_from manifest texts g ≡ Err e
  manifest_refused e is g = ap (λ (r : Result DeploymentData PerError). r >>= λ d. states_from d.storages texts
      >>= λ states. Ok (restored_app g d states)) is

  module _ (d : DeploymentData) (said : deployment_of manifest ≡ Ok d) where
    from_said : (g : ℕ) → made_from manifest texts g
        ≡ (states_from d.storages texts >>= λ states. Ok (restored_app g d states))
    from_said g = ap (λ (r : Result DeploymentData PerError). r >>= λ e. states_from e.storages texts
        >>= λ states. Ok (restored_app g e states)) said

    pub texts_refused : (e : PerError) → states_from d.storages texts ≡ Err e → (g : ℕ)
        → made_from manifest texts g ≡ Err e
    texts_refused e is g = from_said g
        ∙ ap (λ (r : Result (List State) PerError). r >>= λ states. Ok (restored_app g d states)) is

    pub made_ready : (contents : List (List Fresh)) → states_from d.storages texts ≡ Ok (made_states contents)
        → (g : ℕ) → made_from manifest texts g ≡ Ok (filled_app g d contents)
    made_ready contents is g = from_said g
        ∙ ap (λ (r : Result (List State) PerError). r >>= λ states. Ok (restored_app g d states)) is
        ∙ ap (λ (a : App). Ok a) (sym (filled_restored g d contents))
