-- Outcomes that a stop may not leave.
use Rattle.std.proofs.Common.{◌≡◌, ℕ, zero, suc, ◌+◌, ◌*◌, ◌<◌, ◌≤◌, List, [], ◌∷◌, Option, Some, None, sym, ◌∙◌, subst}
use Rattle.std.proofs.Common.{inl, ⊎_elim, arith}
use Rattle.std.specs.Prelude.{slice_get}
use Rattle.std.specs.List.{Contains}
use Rattle.disk_model.specs.Image.{Image}
use Rattle.disk_model.specs.Damage.{AtLeast}
use Rattle.element_state.specs.declared.shapes.Shape.{Shape}
use Rattle.element_state.specs.declared.shapes.View.{View}
use Rattle.element_state.specs.Kept.{Kept, HasEnough, IsSpared}
use Rattle.element_state.specs.States.{State, Opens, Corrupt, store_at}
use Rattle.deploy_laws.specs.Apps.{nothing, App, says_at, shapes_named}
use Rattle.deploy_laws.specs.Stands.{Stands, IsRootSpared, AreKept}
use Rattle.deploy_laws.specs.Refused.{OtherRoot, RootRaised, OldVersionLost, RootTooEarly, StorageStrays}

pub root_gone : (app : ℕ) (image : Image) (damaged : List ℕ) (before after : App) → ¬ (before.says ≡ nothing)
    → ¬ (after.says ≡ nothing)
    → AtLeast (IsRootSpared app damaged before.lacking) 3 2 → says_at image app ≡ nothing
    → ¬ (Stands app image damaged before after)
root_gone app image damaged before after some some_next enough none stands =
    ⊎_elim (λ was. some (sym was ∙ none)) (λ new. some_next (sym new ∙ none)) (stands.root some enough)

pub other_root : OtherRoot
other_root app image damaged before after some enough not_old not_new stands =
    ⊎_elim not_old not_new (stands.root some enough)

pub root_raised : RootRaised
root_raised app image damaged before after none not_none not_new stands = ⊎_elim not_none not_new (stands.bad none)

some_same : {A : Type 0} (x y : A) → Some x ≡ Some y → x ≡ y
some_same x y e = cc

not_some : {A : Type 0} (x : A) → None ≡ Some x → ⊥
not_some x e = absurd cc

-- the storage at a place of the list is kept
kept_at : (image : Image) (damaged : List ℕ) (shapes : List Shape) (before after : List State) (number : ℕ)
    (shape : Shape) (state next : State)
    → slice_get shapes number ≡ Some shape → slice_get before number ≡ Some state → slice_get after number ≡ Some next
    → AreKept image damaged shapes before after
    → Kept shape damaged (store_at image shape) state next
kept_at image damaged [] before after number shape state next is at there kept = absurd (not_some shape is)
kept_at image damaged (s ∷ ss) [] after number shape state next is at there kept = absurd kept
kept_at image damaged (s ∷ ss) (x ∷ xs) [] number shape state next is at there kept = absurd kept
kept_at image damaged (s ∷ ss) (x ∷ xs) (y ∷ ys) zero shape state next is at there kept =
    subst (λ (t : Shape). Kept t damaged (store_at image t) state next) (some_same s shape is)
    (subst (λ (a : State). Kept s damaged (store_at image s) a next) (some_same x state at)
    (subst (λ (b : State). Kept s damaged (store_at image s) x b) (some_same y next there) kept.0))
kept_at image damaged (s ∷ ss) (x ∷ xs) (y ∷ ys) (suc number) shape state next is at there kept =
    kept_at image damaged ss xs ys number shape state next is at there kept.1

pub old_bank_touched : (app number : ℕ) (image : Image) (damaged : List ℕ) (before after : App) (shape : Shape)
    (state : State)
    → slice_get (shapes_named app before.says) number ≡ Some shape → slice_get before.states number ≡ Some state
    → ¬ (Kept shape damaged (store_at image shape) state state) → says_at image app ≡ before.says
    → ¬ (after.says ≡ before.says)
    → ¬ (Stands app image damaged before after)
old_bank_touched app number image damaged before after shape state is at not_kept says differs stands =
    not_kept (kept_at image damaged (shapes_named app before.says) before.states before.states number shape state state
    is at at (stands.old says differs))

pub root_too_early : RootTooEarly
root_too_early app number image damaged before after shape state is at not_kept says differs stands =
    not_kept (kept_at image damaged (shapes_named app after.says) after.states after.states number shape state state is
    at at (stands.new says differs))

pub storage_strays : StorageStrays
storage_strays app number image damaged before after shape state next is at there not_kept says same stands =
    not_kept (kept_at image damaged (shapes_named app before.says) before.states after.states number shape state next is
    at there (stands.same says same))

-- ---- a storage that opened is corrupt

none_in : (n : ℕ) → Contains [] n → ⊥
none_in n found = let below = found.1 in omega (arith, below)

at_least_all : (P : ℕ → Type 0) (n m : ℕ) → ((c : ℕ) → c < n → P c) → m ≤ n → AtLeast P n m
at_least_all P n zero all le = tt
at_least_all P zero (suc m) all le = absurd (omega (arith, le))
at_least_all P (suc n) (suc m) all le = inl (
  all n (omega arith),
  at_least_all P n m (λ c lt. all c (omega (arith, lt))) (omega (arith, le)),
)

all_left : (shape : Shape) (lacking : List ℕ) → lacking ≡ [] → shape.m ≤ shape.place.copies → HasEnough shape [] lacking
all_left shape lacking none le = subst (HasEnough shape []) (sym none)
    (at_least_all (IsSpared shape [] []) shape.place.copies shape.m
    (λ c lt. ((λ k small found. none_in (shape.place.first + 4 * c + k) found), (λ found. none_in (c + 1) found)))
    le)

never_opens : (shape : Shape) (view : View) (others : List View) (left : State) (salvage : Option View)
    (rest : List View) → left ≡ Corrupt salvage rest → HasEnough shape [] view.lacking
    → Kept shape [] left (Opens view others) (Opens view others) → ⊥
never_opens shape view others left salvage rest corrupt enough kept =
    let found = kept.stays enough in
    absurd (let no : Corrupt salvage rest ≡ Opens found.0 found.1 = sym corrupt ∙ found.2 in cc)

pub old_version_lost : OldVersionLost
old_version_lost app number image before after shape view others rest salvage is at enough none corrupt says differs
    stands =
    old_bank_touched app number image [] before after shape (Opens view others) is at
    (λ kept. never_opens shape view others (store_at image shape) salvage rest corrupt
    (all_left shape view.lacking none enough) kept) says differs stands
