-- The plans of the storages, one after another.
use Rattle.std.proofs.Common.{◌≡◌, ℕ, zero, suc, drop, Bool, true, false, List, [], ◌∷◌, ◌++◌, Option, Some, None}
use Rattle.std.proofs.Common.{Result, Ok, Err, refl, sym, ap, subst, append_assoc, append-nil}
use Rattle.std.specs.Prelude.{cond}
use Rattle.std.specs.List.{AllByRecursion}
use Rattle.std.specs.List.Sorted.{IsStrictlySortedBy}
use Rattle.std.specs.Str.{bytes_eq}
use Rattle.per_base.specs.declared.elements.Fresh.{Fresh}
use Rattle.per_base.specs.declared.elements.StoreKind.{StoreKind}
use Rattle.per_base.specs.declared.elements.StoreKind.TheVariants.{Keys, Files}
use Rattle.per_base.specs.declared.errors.PerError.{PerError}
use Rattle.deployment_model.specs.Data.{DeploymentData, StorageData}
use Rattle.deployment_model.specs.Lookups.{storage_named}
use Rattle.migrate_fns.specs.Rules.{Rule, Answers}
use Rattle.update_plan.specs.declared.contents.Stored.{Stored}
use Rattle.update_plan.specs.declared.contents.StorageContents.{StorageContents}
use Rattle.update_plan.specs.declared.contents.StorageContents.TheVariants.{Missing}
use Rattle.index_text.specs.Contents.{AreContents}
use Rattle.update_plan.specs.Plans.{AllFit, AreContentsOf, ArePresent, AreStored, IsStoredOf, PlansAll, PlansFor}
use Rattle.update_plan.specs.Plans.{UnlessOutOfMemory}
use Rattle.update_plan.specs.Plans.{contents_named, if_kind, is_kind, stored_for, with_first}
use Rattle.update_plan.proofs.Merged.{same_name}

pub none_stored : (kind : StoreKind) → AreStored kind []
unfolding IsStrictlySortedBy
none_stored kind = record { names_ascend = tt; each = tt }

-- ---- what is stored of a storage of the new version is of its kind

kind_is : (a b : StoreKind) → is_kind a b ≡ true → a ≡ b
kind_is Keys Keys e = refl
kind_is Keys Files e = absurd (cc)
kind_is Files Keys e = absurd (cc)
kind_is Files Files e = refl

found_of : (old : DeploymentData) (contents : List Stored) (name : List ℕ) → AllByRecursion (IsStoredOf old) contents
    → AreContentsOf (storage_named old name) (contents_named contents name)
found_of old [] name h = by (storage_named old name)
  where
    by : (o : Option StorageData) → AreContentsOf o Missing
    by None = tt
    by (Some s) = tt
found_of old (x ∷ xs) name h =
    let later = found_of old xs name h.1 in
    elim (bytes_eq x.name name) as (λ b. bytes_eq x.name name ≡ b
    → AreContentsOf (storage_named old name) (contents_named (x ∷ xs) name)) [
      | true ↦ λ q.
          let here : contents_named (x ∷ xs) name ≡ x.contents = rw q refl in
          subst (AreContentsOf (storage_named old name)) (sym here)
          (subst (λ n. AreContentsOf (storage_named old n) x.contents) (same_name x.name name q) h.0)
      | false ↦ λ q.
          let there : contents_named (x ∷ xs) name ≡ contents_named xs name = rw q refl in
          subst (AreContentsOf (storage_named old name)) (sym there) later
    ] refl

of_kind : (kind : StoreKind) (o : Option StorageData) (contents : StorageContents) → AreContentsOf o contents
    → ArePresent kind (if_kind kind o contents)
of_kind kind None contents h = tt
of_kind kind (Some s) contents h = by (is_kind s.kind kind) refl
  where
    by : (b : Bool) → is_kind s.kind kind ≡ b → ArePresent kind (cond b contents Missing)
    by true q = subst (λ k. ArePresent k contents) (kind_is s.kind kind q) h
    by false q = tt

pub stored_of_kind : (old : DeploymentData) (contents : List Stored) (s : StorageData)
    → AllByRecursion (IsStoredOf old) contents → ArePresent s.kind (stored_for old contents s)
stored_of_kind old contents s h = of_kind s.kind (storage_named old s.name) (contents_named contents s.name)
    (found_of old contents s.name h)

-- ---- an item of a list and what is left after it

all_drop : {A : Type 0} (P : A → Type 0) (xs : List A) (i : ℕ) → AllByRecursion P xs → AllByRecursion P (drop i xs)
all_drop P [] zero h = tt
all_drop P [] (suc i) h = tt
all_drop P (x ∷ xs) zero h = h
all_drop P (x ∷ xs) (suc i) h = all_drop P xs i h.1

pub all_here : {A : Type 0} (P : A → Type 0) (xs : List A) (i : ℕ) (x : A) (rest : List A) → AllByRecursion P xs
    → drop i xs ≡ x ∷ rest → P x
all_here P xs i x rest h is = (subst (AllByRecursion P) is (all_drop P xs i h)).0

-- ---- one storage after another

abbrev pub with_all : List (List Fresh) → Result (List (List Fresh)) PerError → Result (List (List Fresh)) PerError
with_all done (Ok rest) = Ok (done ++ rest)
with_all done (Err e) = Err e

module _ (rules : List Rule) (answers : Answers) (now : ℕ) (stored : StorageData → StorageContents) where
  pub record Planning (all left : List StorageData) (done : List (List Fresh)) : Type 0 where
    pub plans : (rest : Result (List (List Fresh)) PerError) → PlansAll rules answers now stored left rest
        → PlansAll rules answers now stored all (with_all done rest)
    pub fit : (rest : List (List Fresh)) → AllFit left rest → AllFit all (done ++ rest)

  none_before : (rest : Result (List (List Fresh)) PerError) → with_all [] rest ≡ rest
  none_before (Ok rest) = refl
  none_before (Err e) = refl

  pub begun : (all : List StorageData) → Planning all all []
  begun all = record {
    plans = λ rest p. subst (PlansAll rules answers now stored all) (sym (none_before rest)) p;
    fit =
        λ rest f. f;
  }

  regrouped : (done : List (List Fresh)) (x : List Fresh) (rest : Result (List (List Fresh)) PerError)
      → with_all done (with_first x rest) ≡ with_all (done ++ x ∷ []) rest
  regrouped done x (Ok rest) = ap (λ l. Ok l) (sym (append_assoc done (x ∷ []) rest))
  regrouped done x (Err e) = refl

  pub next : (all left : List StorageData) (s : StorageData) (rest : List StorageData) (x : List Fresh)
      (done longer : List (List Fresh)) → Planning all left done → left ≡ s ∷ rest
      → PlansFor rules answers now s (stored s) (Ok x) → AreContents s.kind s.maximum x → longer ≡ done ++ x ∷ []
      → Planning all rest longer
  next all left s rest x done longer p is made fits more =
      let inner = subst (λ l. Planning all l done) is p in
      subst (Planning all rest) (sym more) (record {
        plans = λ others h. subst (PlansAll rules answers now stored all) (regrouped done x others)
            (inner.plans (with_first x others) (Ok x, made, (others, h, refl)));
        fit = λ others f. subst (AllFit all) (sym (append_assoc done (x ∷ []) others))
            (inner.fit (x ∷ others) (fits, f));
      })

  pub stopped : (all left : List StorageData) (s : StorageData) (rest : List StorageData) (e : PerError)
      (done : List (List Fresh)) → Planning all left done → left ≡ s ∷ rest
      → UnlessOutOfMemory (Err e) (PlansFor rules answers now s (stored s))
      → UnlessOutOfMemory (Err e) (PlansAll rules answers now stored all)
  stopped all left s rest e done p is refused = λ memory.
      let inner = subst (λ l. Planning all l done) is p in
      inner.plans (Err e) (Err e, refused memory, refl)

  pub ended_plans : (all left : List StorageData) (done : List (List Fresh)) → Planning all left done → left ≡ []
      → PlansAll rules answers now stored all (Ok done)
  ended_plans all left done p is =
      let inner = subst (λ l. Planning all l done) is p in
      subst (λ l. PlansAll rules answers now stored all (Ok l)) (append-nil done) (inner.plans (Ok []) refl)

  pub ended_fit : (all left : List StorageData) (done : List (List Fresh)) → Planning all left done → left ≡ []
      → AllFit all done
  ended_fit all left done p is =
      let inner = subst (λ l. Planning all l done) is p in
      subst (AllFit all) (append-nil done) (inner.fit [] tt)
