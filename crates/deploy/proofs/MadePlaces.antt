-- Storages that are made one after another: in whose places, and what they cost.
use Rattle.std.proofs.Common.{◌≡◌, ℕ, zero, suc, ◌+◌, ◌<◌, ◌≤◌, List, [], ◌∷◌, length, get_or, take, drop, Bool}
use Rattle.std.proofs.Common.{IsTrue, refl, sym, ap, ◌∙◌, subst, arith}
use Rattle.std.specs.Prelude.{Option, None, Result, Ok, map}
use Rattle.per_base.specs.declared.elements.Fresh.{Fresh}
use Rattle.per_base.specs.declared.errors.PerError.{PerError}
use Rattle.disk_model.specs.Frame.{IsSettledOn, Spares}
use Rattle.disk_model.specs.Medium.{EachCase, Elapses, IsIdle, Medium, Quiet}
use Rattle.disk_model.specs.Place.{IsOutside}
use Rattle.deployment_model.specs.Conditions.{IsStorage}
use Rattle.deployment_model.specs.Data.{DeploymentData, StorageData, deployment_data, storage_data}
use Rattle.deployment_model.specs.declared.configs.StorageConfig.{StorageConfig}
use Rattle.element_state.specs.declared.shapes.Shape.{Shape}
use Rattle.element_store.specs.Creates.{creating_cost}
use Rattle.root_text.specs.declared.versions.VersionText.{VersionText}
use Rattle.deploy_laws.specs.Places.{cut_copies, shapes_from, shapes_in, storage_shape}
use Rattle.deploy_rows.specs.Costs.{cost_by, install_cost, making_cost, making_costs, root_cost, said_storages}
use Rattle.deploy_rows.specs.Costs.{storages_said}
use Rattle.deploy_rows.specs.Rows.{deployment_of, initial_all}
use Rattle.deploy.specs.declared.roots.Root.{Root}
use Rattle.deploy.specs.declared.updating.Staged.{Staged}
use Rattle.deploy.specs.Building.{offered_in, staged_root, staged_text}
use Rattle.deploy.specs.Clauses.{IsNoRootSlot, Leaves}
use Rattle.deploy.specs.Making.{IsBesideMade, IsInNone}
use Rattle.deploy.specs.Roots.{SaysDeployment, free_bank, previous_texts, root_texts}
use Rattle.deploy.proofs.Leaves.{leaves_less, leaves_on}
use Rattle.deploy.proofs.OneUpdate.{leaves_then}
use Rattle.deploy.proofs.Told.{told_read}

-- ---- one storage

-- in its place
pub made_in_place : (told : Bool) (shape other : Shape) (old new : Medium) → shape ≡ other
    → (IsTrue told → Spares (IsOutside shape.place) old.image new.image)
    → (IsTrue told → Quiet old → EachCase (IsSettledOn (IsOutside shape.place) old.image) old new)
    → Leaves told (IsOutside other.place) old new
made_in_place told shape other old new is elsewhere outside =
    subst (λ (s : Shape). Leaves told (IsOutside s.place) old new) is
    (record { at_the_end = elsewhere; throughout = outside })

-- at its cost
pub made_at_cost : (shape : Shape) (app bank number : ℕ) (s : StorageData) (cs fs : List Fresh) (was now : ℕ)
    → shape ≡ storage_shape app bank number s → cs ≡ fs → IsStorage s
    → now ≤ was + creating_cost shape.place.copies shape.kind cs → now ≤ was + making_cost s fs
unfolding storage_shape
made_at_cost shape app bank number s cs fs was now is same of le =
    let some = of.some_agree in
    let enough = of.enough_copies in
    let few = of.copies in
    let copies : cut_copies s.n ≡ s.n = omega (arith, some, enough, few) in
    let here : now ≤ was + creating_cost (cut_copies s.n) s.kind cs =
    subst (λ (it : Shape). now ≤ was + creating_cost it.place.copies it.kind cs) is le in
    let counted : now ≤ was + creating_cost s.n s.kind cs =
    subst (λ (n : ℕ). now ≤ was + creating_cost n s.kind cs) copies here in
    subst (λ (es : List Fresh). now ≤ was + creating_cost s.n s.kind es) same counted

-- ---- one of many

-- what is in none of the places from a number on is outside each
pub outside_each : (app bank : ℕ) (x : StorageConfig) (f : ℕ) (ds : List StorageConfig) (from built k number : ℕ)
    → from + k ≡ number → built ≤ k → k < length ds → x ≡ get_or ds k x
    → IsInNone (drop built (shapes_from app bank from (map storage_data ds))) f
    → IsOutside (storage_shape app bank number (storage_data x)).place f
outside_each app bank x f [] from built k number sum le lt is none = absurd (omega (arith, lt))
outside_each app bank x f (d ∷ ds) from zero zero number sum le lt is none =
    let at : from ≡ number = omega (arith, sum) in
    subst (λ (n : ℕ). IsOutside (storage_shape app bank n (storage_data x)).place f) at
    (subst (λ (y : StorageConfig). IsOutside (storage_shape app bank from (storage_data y)).place f) (sym is) none.0)
outside_each app bank x f (d ∷ ds) from zero (suc k) number sum le lt is none =
    outside_each app bank x f ds (suc from) zero k number (omega (arith, sum)) (omega arith) (omega (arith, lt)) is
    none.1
outside_each app bank x f (d ∷ ds) from (suc built) zero number sum le lt is none = absurd (omega (arith, le))
outside_each app bank x f (d ∷ ds) from (suc built) (suc k) number sum le lt is none =
    outside_each app bank x f ds (suc from) built k number (omega (arith, sum)) (omega (arith, le)) (omega (arith, lt))
    is none

-- and so of one alone
pub outside_one : (app bank : ℕ) (x : StorageConfig) (f : ℕ) (ds : List StorageConfig) (from k number : ℕ)
    → from + k ≡ number → k < length ds → x ≡ get_or ds k x
    → IsInNone (take 1 (drop k (shapes_from app bank from (map storage_data ds)))) f
    → IsOutside (storage_shape app bank number (storage_data x)).place f
outside_one app bank x f [] from k number sum lt is none = absurd (omega (arith, lt))
outside_one app bank x f (d ∷ ds) from zero number sum lt is none =
    let at : from ≡ number = omega (arith, sum) in
    subst (λ (n : ℕ). IsOutside (storage_shape app bank n (storage_data x)).place f) at
    (subst (λ (y : StorageConfig). IsOutside (storage_shape app bank from (storage_data y)).place f) (sym is) none.0)
outside_one app bank x f (d ∷ ds) from (suc k) number sum lt is none =
    outside_one app bank x f ds (suc from) k number (omega (arith, sum)) (omega (arith, lt)) is none

-- what is in none of all places is in none of those from a number on
pub none_from : (f : ℕ) (shapes : List Shape) (built : ℕ) → IsInNone shapes f → IsInNone (drop built shapes) f
none_from f [] zero none = none
none_from f [] (suc built) none = none
none_from f (s ∷ shapes) zero none = none
none_from f (s ∷ shapes) (suc built) none = none_from f shapes built none.1

-- the cost of those from a number on is that of the first, and of the others
module _ (x : StorageConfig) (fs : List Fresh) where
  pub next_cost : (ds : List StorageConfig) (cs : List (List Fresh)) (k : ℕ) → k < length ds → k < length cs
      → x ≡ get_or ds k x → fs ≡ get_or cs k fs
      → making_costs (drop k (map storage_data ds)) (drop k cs)
      ≡ making_cost (storage_data x) fs + making_costs (drop (suc k) (map storage_data ds)) (drop (suc k) cs)
  next_cost [] cs k lt ltc is here = absurd (omega (arith, lt))
  next_cost (d ∷ ds) [] k lt ltc is here = absurd (omega (arith, ltc))
  next_cost (d ∷ ds) (c ∷ cs) zero lt ltc is here =
      ap (λ (y : StorageConfig). making_cost (storage_data y) c + making_costs (map storage_data ds) cs) (sym is)
      ∙ ap (λ (es : List Fresh). making_cost (storage_data x) es + making_costs (map storage_data ds) cs) (sym here)
  next_cost (d ∷ ds) (c ∷ cs) (suc k) lt ltc is here =
      next_cost ds cs k (omega (arith, lt)) (omega (arith, ltc)) is here

  pub one_cost : (ds : List StorageConfig) (cs : List (List Fresh)) (k : ℕ) → k < length ds → k < length cs
      → x ≡ get_or ds k x → fs ≡ get_or cs k fs
      → making_costs (take 1 (drop k (map storage_data ds))) (drop k cs) ≡ making_cost (storage_data x) fs + 0
  one_cost [] cs k lt ltc is here = absurd (omega (arith, lt))
  one_cost (d ∷ ds) [] k lt ltc is here = absurd (omega (arith, ltc))
  one_cost (d ∷ ds) (c ∷ cs) zero lt ltc is here =
      ap (λ (y : StorageConfig). making_cost (storage_data y) c + 0) (sym is)
      ∙ ap (λ (es : List Fresh). making_cost (storage_data x) es + 0) (sym here)
  one_cost (d ∷ ds) (c ∷ cs) (suc k) lt ltc is here =
      one_cost ds cs k (omega (arith, lt)) (omega (arith, ltc)) is here

no_costs : (ss : List StorageData) → making_costs ss [] ≡ 0
no_costs [] = refl
no_costs (s ∷ ss) = refl

pub costs_from : (ss : List StorageData) (cs : List (List Fresh)) (k : ℕ)
    → making_costs (drop k ss) (drop k cs) ≤ making_costs ss cs
costs_from ss cs zero = omega arith
costs_from [] cs (suc k) = omega arith
costs_from (s ∷ ss) [] (suc k) = let none = no_costs (drop k ss) in omega (arith, none)
costs_from (s ∷ ss) (c ∷ cs) (suc k) = let less = costs_from ss cs k in omega (arith, less)

-- ---- one after another

module _ (told : Bool) (app bank built number : ℕ) (ds : List StorageConfig) (cs : List (List Fresh))
    (old mid new : Medium) (x : StorageConfig) (fs : List Fresh)
    (from : built ≤ number) (ltd : number < length ds) (ltc : number < length cs) (is : x ≡ get_or ds number x)
    (here : fs ≡ get_or cs number fs) where
  abbrev rest : ℕ → Type 0
  rest = IsInNone (drop built (shapes_from app bank 0 (map storage_data ds)))

  pub more_places : Leaves told rest old mid → Elapses old mid → Elapses mid new → (Quiet old → Quiet mid)
      → Leaves told (IsOutside (storage_shape app bank number (storage_data x)).place) mid new
      → Leaves told rest old new
  more_places before first next quiets place = leaves_on told rest old mid new first next quiets before
      (leaves_less told (IsOutside (storage_shape app bank number (storage_data x)).place) rest mid new
      (λ f none. outside_each app bank x f ds 0 built number number (omega arith) from ltd is none) place)

  module _ (before : mid.written + making_costs (drop number (map storage_data ds)) (drop number cs)
      ≤ old.written + making_costs (drop built (map storage_data ds)) (drop built cs))
      (cost : new.written ≤ mid.written + making_cost (storage_data x) fs) where
    pub more_written : new.written + making_costs (drop (number + 1) (map storage_data ds)) (drop (number + 1) cs)
        ≤ old.written + making_costs (drop built (map storage_data ds)) (drop built cs)
    more_written =
        let one = next_cost x fs ds cs number ltd ltc is here in
        let on : suc number ≡ number + 1 = omega arith in
        subst (λ (n : ℕ). new.written + making_costs (drop n (map storage_data ds)) (drop n cs)
        ≤ old.written + making_costs (drop built (map storage_data ds)) (drop built cs)) on
        (omega (arith, before, cost, one))

    pub part_written : new.written ≤ old.written + making_costs (drop built (map storage_data ds)) (drop built cs)
    part_written =
        let one = next_cost x fs ds cs number ltd ltc is here in
        omega (arith, before, cost, one)

-- one storage of an update in progress
module _ (told : Bool) (app bank k : ℕ) (ds : List StorageConfig) (cs : List (List Fresh)) (old new : Medium)
    (x : StorageConfig) (fs : List Fresh) (ltd : k < length ds) (ltc : k < length cs) (is : x ≡ get_or ds k x)
    (here : fs ≡ get_or cs k fs) where
  pub one_place : Leaves told (IsOutside (storage_shape app bank k (storage_data x)).place) old new
      → Leaves told (IsInNone (take 1 (drop k (shapes_from app bank 0 (map storage_data ds))))) old new
  one_place place = leaves_less told (IsOutside (storage_shape app bank k (storage_data x)).place)
      (IsInNone (take 1 (drop k (shapes_from app bank 0 (map storage_data ds))))) old new
      (λ f none. outside_one app bank x f ds 0 k k (omega arith) ltd is none) place

  pub one_written : new.written ≤ old.written + making_cost (storage_data x) fs
      → new.written ≤ old.written + making_costs (take 1 (drop k (map storage_data ds))) (drop k cs)
  one_written cost = let one = one_cost x fs ds cs k ltd ltc is here in omega (arith, cost, one)

-- ---- and then the root

pub made_places : (told : Bool) (app : ℕ) (shapes : List Shape) (old mid : Medium)
    → Leaves told (IsInNone shapes) old mid
    → Leaves told (IsBesideMade app shapes) old mid
made_places told app shapes old mid leaves = leaves_less told (IsInNone shapes) (IsBesideMade app shapes) old mid
    (λ f none. none.1) leaves

pub rooted_places : (told : Bool) (app : ℕ) (shapes : List Shape) (old mid new : Medium) → Elapses old mid
    → Elapses mid new → (Quiet old → Quiet mid) → Leaves told (IsInNone shapes) old mid
    → Leaves told (IsNoRootSlot app) mid new → Leaves told (IsBesideMade app shapes) old new
rooted_places told app shapes old mid new first next quiets made root =
    leaves_on told (IsBesideMade app shapes) old mid new first next quiets (made_places told app shapes old mid made)
    (leaves_less told (IsNoRootSlot app) (IsBesideMade app shapes) mid new (λ f none. none.0) root)

pub some_more : (was now some more : ℕ) → now ≤ was + some → now ≤ was + (some + more)
some_more was now some more le = omega (arith, le)

pub both_written : (was mid now some more : ℕ) → mid ≤ was + some → now ≤ mid + more → now ≤ was + (some + more)
both_written was mid now some more first next = omega (arith, first, next)

-- ---- what a manifest says

module _ (manifest : List ℕ) (v : VersionText) (said : deployment_of manifest ≡ Ok (deployment_data v.deployment)) where
  pub said_places : (told : Bool) (app bank : ℕ) (old new : Medium)
      → Leaves told (IsBesideMade app (shapes_from app bank 0 (map storage_data v.deployment.storages))) old new
      → Leaves told (IsBesideMade app (shapes_from app bank 0 (storages_said manifest))) old new
  said_places told app bank old new leaves = subst (λ (r : Result DeploymentData PerError).
      Leaves told (IsBesideMade app (shapes_from app bank 0 (said_storages r))) old new) (sym said) leaves

  pub said_written : (now was is : ℕ) → v.text ≡ manifest
      → is ≤ was + (making_costs (map storage_data v.deployment.storages)
      (initial_all now (deployment_data v.deployment)) + root_cost (v.text ∷ []))
      → is ≤ was + install_cost now manifest
  said_written now was is text le = subst (λ (r : Result DeploymentData PerError). is ≤ was + cost_by now manifest r)
      (sym said)
      (subst (λ (t : List ℕ). is ≤ was + (making_costs (map storage_data v.deployment.storages)
      (initial_all now (deployment_data v.deployment)) + root_cost (t ∷ []))) text le)

-- the storages of an update that began
pub led_places : (told : Bool) (app : ℕ) (r : Root) (manifest : List ℕ) (s : Staged) (old mid new : Medium)
    → s.app ≡ app → staged_root s ≡ r → staged_text s ≡ manifest → SaysDeployment s.version
    → Elapses old mid → Elapses mid new → (Quiet old → IsIdle old mid) → mid.image ≡ old.image
    → Leaves told (IsBesideMade s.app (drop s.built (shapes_in s.app (offered_in s)))) mid new
    → Leaves told (IsBesideMade app (shapes_from app (free_bank r) 0 (storages_said manifest))) old new
led_places told app r manifest s old mid new of_app over text offers first next idle same leaves =
    let said = subst (λ (t : List ℕ). deployment_of t ≡ Ok (deployment_data s.version.deployment)) text
    (told_read s.version.text (deployment_data s.version.deployment) offers.said) in
    let shapes = shapes_from s.app (free_bank (staged_root s)) 0 (map storage_data s.version.deployment.storages) in
    let all : Leaves told (IsBesideMade s.app shapes) mid new =
    leaves_less told (IsBesideMade s.app (drop s.built shapes)) (IsBesideMade s.app shapes) mid new
    (λ f none. (none.0, none_from f shapes s.built none.1)) leaves in
    let here = subst (λ (x : Root). Leaves told (IsBesideMade app (shapes_from app (free_bank x) 0
    (map storage_data s.version.deployment.storages))) mid new) over
    (subst (λ (n : ℕ). Leaves told (IsBesideMade n (shapes_from n (free_bank (staged_root s)) 0
    (map storage_data s.version.deployment.storages))) mid new) of_app all) in
    leaves_then app old mid new first next idle same told
    (IsBesideMade app (shapes_from app (free_bank r) 0 (storages_said manifest)))
    (said_places manifest s.version said told app (free_bank r) mid new here)

pub led_written : (ss : List StorageData) (cs : List (List Fresh)) (built : ℕ) (ms ns : List (List ℕ))
    (was mid now : ℕ) → ms ≡ ns → mid ≡ was
    → now ≤ mid + (making_costs (drop built ss) (drop built cs) + root_cost ms)
    → now ≤ was + (making_costs ss cs + root_cost ns)
led_written ss cs built ms ns was mid now texts still le =
    let less = costs_from ss cs built in
    let here : now ≤ was + (making_costs ss cs + root_cost ms) = omega (arith, still, le, less) in
    subst (λ (xs : List (List ℕ)). now ≤ was + (making_costs ss cs + root_cost xs)) texts here

-- the root over which an update began has one version
pub committed_written : (s : Staged) (cs : List (List Fresh)) (was now : ℕ) → cs ≡ s.contents.items
    → s.root.previous ≡ None
    → now ≤ was + (making_costs (drop s.built (map storage_data s.version.deployment.storages)) (drop s.built cs)
    + root_cost (s.version.text ∷ s.root.active.text ∷ []))
    → now ≤ was + (making_costs (drop s.built (map storage_data s.version.deployment.storages))
    (drop s.built s.contents.items) + root_cost (staged_text s ∷ root_texts (staged_root s)))
committed_written s cs was now is alone le =
    let storages = drop s.built (map storage_data s.version.deployment.storages) in
    let here = subst (λ (xs : List (List Fresh)). now ≤ was + (making_costs storages (drop s.built xs)
    + root_cost (s.version.text ∷ s.root.active.text ∷ []))) is le in
    subst (λ (p : Option VersionText). now ≤ was + (making_costs storages (drop s.built s.contents.items)
    + root_cost (s.version.text ∷ s.root.active.text ∷ previous_texts p))) (sym alone) here
