-- What a moment cannot be: a root from further back than the last command, or a storage that was emptied.
use Rattle.std.specs.Prelude.{◌≡◌, ◌⊎◌, ℕ, List, [], ◌∷◌, Some, None}
use Rattle.std.specs.List.{Contains}
use Rattle.std.proofs.Common.{refl, sym, ap, subst, inl, inr, ⊎_elim, arith}
use Rattle.disk_model.specs.Image.{Image}
use Rattle.disk_model.specs.Case.{Case}
use Rattle.deployment_model.specs.Data.{StorageData}
use Rattle.element_state.specs.declared.shapes.Shape.{Shape}
use Rattle.element_state.specs.declared.shapes.View.{View}
use Rattle.element_state.specs.Kept.{SameHeadings, HasEnough, StaysAs}
use Rattle.element_state.specs.States.{State, Opens, store_at}
use Rattle.deploy_laws.specs.Places.{storage_shape}
use Rattle.deploy_laws.specs.Apps.{Says, nothing, absent, installed, App, says_at, shapes_named}
use Rattle.deploy_laws.specs.Pieces.{IsSoundApp, DecaysApp}
use Rattle.deploy_laws.specs.Stands.{Stands, IsRootSpared, AreKept, HasEnoughRoot}
use Rattle.run_model.specs.Moments.{Between, InDoubt, IsMomentOf, IsDecided}
use Rattle.run_model.specs.Worlds.{Disks, Doubt, World, disks, disk_at}

undamaged : (app : ℕ) (image : Image) → DecaysApp app [] image image
undamaged app image place of_app = record { others = λ f outside. refl; pieces = λ x piece. piece }

none_in : (n : ℕ) → Contains [] n → ⊥
none_in n c = omega (arith, c.1)

spared : (app : ℕ) (lacking : List ℕ) → lacking ≡ [] → HasEnoughRoot app [] lacking
spared app lacking none = subst (λ (l : List ℕ). HasEnoughRoot app [] l) (sym none)
    (inl (one 2, inl (one 1, tt)))
  where
    one : (copy : ℕ) → IsRootSpared app [] [] copy
    one copy = (λ k less c. none_in _ c, λ c. none_in _ c)

-- what stands with nothing damaged
stands : (app : ℕ) (before after : Disks) (c : Case) → IsSoundApp app c → Between app before after c
    → Stands app c.left [] (disk_at before app) (disk_at after app)
stands app before after c sound between = between sound [] c.left (undamaged app c.left)

-- After the last command the root says what it said then, or what the command in progress leads to: nothing from
-- further back.
pub not_further_back : (app : ℕ) (w : World) (next : Disks) (c : Case) → IsSoundApp app c → w.doubt ≡ None
    → ¬ ((disk_at (disks w) app).says ≡ nothing)
    → (disk_at (disks w) app).lacking ≡ [] → IsMomentOf app w [] next c
    → (says_at c.left app ≡ (disk_at (disks w) app).says) ⊎ (says_at c.left app ≡ (disk_at next app).says)
not_further_back app w next c sound calm something whole (inl between) =
    (stands app (disks w) next c sound between).root something (spared app (disk_at (disks w) app).lacking whole)
not_further_back app w next c sound calm something whole (inr doubt) = absurd (subst (λ d. InDoubt app d c) calm doubt)

-- ---- one storage, on its way in a doubt

-- an application of one storage, in this state, in the one version that is installed in this bank
abbrev pub one_storage : (g bank version : ℕ) → StorageData → State → App
one_storage g bank version s state = record {
  says = installed g (record { bank = bank; deployment = record { version = version; storages = s ∷ [] } }) None;
  lacking = [];
  states = state ∷ [];
}

-- it opens at the view before, or at the one after: under its generation, with elements of the same headings
abbrev pub OpensAsEither : State → View → State → Type 0
OpensAsEither left before after = (w : View) × (rest : List View) × (left ≡ Opens w rest)
    × (SameHeadings w before ⊎ ((v : View) × (others : List View) × (after ≡ Opens v others) × SameHeadings w v))

headings : (shape : Shape) (left before : View) (after : State) → StaysAs shape [] left before after
    → SameHeadings left before ⊎ ((v : View) × (others : List View) × (after ≡ Opens v others) × SameHeadings left v)
headings shape left before after (inl same) = inl same.0
headings shape left before after (inr next) = inr (next.1, next.2, next.3, next.4)

is_something : (g bank version : ℕ) (s : StorageData) (state : State)
    → (one_storage g bank version s state).says ≡ nothing → ⊥
unfolding shapes_named
is_something g bank version s state e = let no : 1 ≡ 0 = ap code e in omega (arith, no)
  where
    code : Says → ℕ
    code nothing = 0
    code (absent h) = 1
    code (installed h active previous) = 1

-- A storage whose command failed at the device opens, by what reads then gave, at the view before or at the one
-- after: it is not emptied.
pub opens_as_either : (app g bank version : ℕ) (s : StorageData) (v : View) (others : List View) (after : State)
    (d : Doubt)
    → disk_at d.before app ≡ one_storage g bank version s (Opens v others)
    → disk_at d.after app ≡ one_storage g bank version s after
    → IsSoundApp app d.case → HasEnough (storage_shape app bank 0 s) [] v.lacking → IsDecided app (Some d)
    → OpensAsEither (store_at d.case.left (storage_shape app bank 0 s)) v after
unfolding shapes_named
opens_as_either app g bank version s v others after d before_is after_is sound enough decided =
    let st : Stands app d.case.left [] (one_storage g bank version s (Opens v others))
    (one_storage g bank version s after) =
    subst (λ (a : App). Stands app d.case.left [] a (one_storage g bank version s after)) before_is
    (subst (λ (a : App). Stands app d.case.left [] (disk_at d.before app) a) after_is
    (stands app d.before d.after d.case sound decided)) in
    let says : says_at d.case.left app ≡ (one_storage g bank version s after).says =
    ⊎_elim (λ e. e) (λ e. e) (st.root (is_something g bank version s (Opens v others)) (spared app [] refl)) in
    let kept : AreKept d.case.left [] (shapes_named app (one_storage g bank version s after).says) (Opens v others ∷ [])
    (after ∷ []) = st.same says refl in
    let here = kept.0.stays enough in
    (here.0, here.1, here.2, headings (storage_shape app bank 0 s) here.0 v after here.3)
