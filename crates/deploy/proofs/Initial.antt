-- What each storage of a deployment starts with, and copies of contents.
use Rattle.std.proofs.Common.{◌≡◌, ℕ, ◌+◌, ◌<◌, ◌≤◌, List, [], ◌∷◌, ◌++◌, length, get_or, take, map, refl, sym, ap, ◌∙◌}
use Rattle.std.proofs.Common.{subst}
use Rattle.std.proofs.lemmas.List.{map_more, take_all, take_more}
use Rattle.per_base.specs.declared.elements.Cause.TheVariants.{Installation}
use Rattle.per_base.specs.declared.elements.Fresh.{Fresh}
use Rattle.deployment_model.specs.Data.{StorageData, deployment_data, storage_data}
use Rattle.deployment_model.specs.declared.configs.Deployment.{Deployment}
use Rattle.deployment_model.specs.declared.configs.StorageConfig.{StorageConfig}
use Rattle.index_text.specs.Contents.{AreContents}
use Rattle.update_plan.specs.Plans.{AllFit}
use Rattle.update_plan.specs.Rows.{initial_contents}
use Rattle.deploy_rows.specs.Rows.{initial_all}

-- ---- a list that grows by one

pub more_copies : {A : Type 0} (xs ys : List A) (i : ℕ) (x y : A) → i < length xs → x ≡ get_or xs i x → ys ≡ take i xs
    → y ≡ x → ys ++ y ∷ [] ≡ take (i + 1) xs
more_copies xs ys i x y lt is before same =
    ap (λ l. l ++ y ∷ []) before ∙ ap (λ z. take i xs ++ z ∷ []) (same ∙ is) ∙ sym (take_more xs i x lt)

pub all_copies : {A : Type 0} (xs ys : List A) (i : ℕ) → length xs ≤ i → ys ≡ take i xs → ys ≡ xs
all_copies xs ys i past before = before ∙ take_all i xs past

pub more_images : {A B : Type 0} (f : A → B) (xs : List A) (ys : List B) (i : ℕ) (x : A) (y : B) → i < length xs
    → x ≡ get_or xs i x
    → ys ≡ map f (take i xs) → y ≡ f x → ys ++ y ∷ [] ≡ map f (take (i + 1) xs)
more_images f xs ys i x y lt is before same =
    ap (λ l. l ++ y ∷ []) before ∙ ap (λ z. map f (take i xs) ++ z ∷ []) (same ∙ ap f is) ∙ sym (map_more f xs i x lt)

-- ---- contents that fit

fit_push : (ds : List StorageConfig) (cs : List (List Fresh)) (x : StorageConfig) (fs : List Fresh)
    → AllFit (map storage_data ds) cs → AreContents x.kind x.maximum fs
    → AllFit (map storage_data (ds ++ x ∷ [])) (cs ++ fs ∷ [])
fit_push [] [] x fs all here = (here, tt)
fit_push [] (c ∷ cs) x fs all here = absurd all
fit_push (d ∷ ds) [] x fs all here = absurd all
fit_push (d ∷ ds) (c ∷ cs) x fs all here = (all.0, fit_push ds cs x fs all.1 here)

pub more_fit : (ds : List StorageConfig) (cs : List (List Fresh)) (i : ℕ) (x : StorageConfig) (fs : List Fresh)
    → i < length ds → x ≡ get_or ds i x
    → AllFit (map storage_data (take i ds)) cs → AreContents x.kind x.maximum fs
    → AllFit (map storage_data (take (i + 1) ds)) (cs ++ fs ∷ [])
more_fit ds cs i x fs lt is all here =
    let same : take i ds ++ x ∷ [] ≡ take (i + 1) ds = ap (λ z. take i ds ++ z ∷ []) is ∙ sym (take_more ds i x lt) in
    subst (λ (xs : List StorageConfig). AllFit (map storage_data xs) (cs ++ fs ∷ [])) same
    (fit_push (take i ds) cs x fs all here)

pub all_fit : (ds : List StorageConfig) (cs : List (List Fresh)) (i : ℕ) → length ds ≤ i
    → AllFit (map storage_data (take i ds)) cs → AllFit (map storage_data ds) cs
all_fit ds cs i past all = subst (λ (xs : List StorageConfig). AllFit (map storage_data xs) cs) (take_all i ds past) all

-- ---- what all start with

each_initial : (now : ℕ) (ds : List StorageConfig)
    → map (λ (x : StorageConfig). initial_contents (storage_data x) Installation now) ds
    ≡ map (λ (s : StorageData). initial_contents s Installation now) (map storage_data ds)
each_initial now [] = refl
each_initial now (d ∷ ds) = ap (λ (l : List (List Fresh)). initial_contents (storage_data d) Installation now ∷ l)
    (each_initial now ds)

pub all_initial : (now : ℕ) (d : Deployment) (cs : List (List Fresh)) (i : ℕ) → length d.storages ≤ i
    → cs ≡ map (λ (x : StorageConfig). initial_contents (storage_data x) Installation now) (take i d.storages)
    → cs ≡ initial_all now (deployment_data d)
all_initial now d cs i past before =
    before ∙ ap (λ (xs : List StorageConfig). map (λ (x : StorageConfig).
    initial_contents (storage_data x) Installation now) xs) (take_all i d.storages past)
    ∙ each_initial now d.storages
