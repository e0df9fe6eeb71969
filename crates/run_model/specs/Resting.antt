-- An application in clean places stands as it is.
use Rattle.std.specs.Prelude.{◌≡◌, ℕ, List, [], ◌∷◌, ◌++◌, map, Option, Some, None, ⊤}
use Rattle.std.specs.List.{AllZip, AllByRecursion}
use Rattle.std.proofs.Common.{refl, sym, subst, ap, inl, inr, arith}
use Rattle.per_base.specs.declared.elements.Content.{Content}
use Rattle.per_base.specs.declared.elements.Content.TheVariants.{Good, Bad}
use Rattle.disk_model.specs.Image.{Image}
use Rattle.element_state.specs.declared.shapes.Shape.{Shape}
use Rattle.element_state.specs.declared.shapes.View.{View}
use Rattle.element_state.specs.Kept.{CostsNoCopy, IsFrom, IsFromOneOf, IsLeftOf, KeepsEach, KeepsGood, Kept}
use Rattle.element_state.specs.Kept.{SameHeadings, all_views, views_in}
use Rattle.element_state.specs.Clean.{IsClean}
use Rattle.element_state.specs.States.{State, Opens, Corrupt, store_at}
use Rattle.element_laws.specs.lemmas.Phases.{one_view}
use Rattle.deploy_laws.specs.Apps.{AreClean, app_at, says_at, shapes_named, IsCleanApp}
use Rattle.deploy_laws.specs.Stands.{AreKept, Stands}

zip_same : {X : Type 0} (R : X → X → Type 0) → ((x : X) → R x x) → (xs : List X) → AllZip R xs xs
zip_same R each [] = tt
zip_same R each (x ∷ xs) = (each x, zip_same R each xs)

content_left : (content : Content) → IsLeftOf content content
content_left (Good value) = refl
content_left (Bad None) = tt
content_left (Bad (Some salvage)) = inr refl

same_headings : (v : View) → SameHeadings v v
same_headings v = record { generation = refl; entries = refl }

from_itself : (v : View) → IsFrom v v
from_itself v = record {
  same = same_headings v;
  contents = zip_same _ (λ e. content_left e.content) v.entries;
}

one_more : (v : View) (views ws : List View) → AllByRecursion (λ w. IsFromOneOf w views) ws
    → AllByRecursion (λ w. IsFromOneOf w (v ∷ views)) ws
one_more v views [] all = tt
one_more v views (w ∷ ws) all = (inr all.0, one_more v views ws all.1)

each_from : (vs more : List View) → AllByRecursion (λ w. IsFromOneOf w (vs ++ more)) vs
each_from [] more = tt
each_from (v ∷ vs) more = (inl (from_itself v), one_more v (vs ++ more) vs (each_from vs more))

keeps_good : (shape : Shape) (damaged : List ℕ) (v : View) → KeepsGood shape damaged v v
keeps_good shape damaged v = zip_same _ (λ e value good enough. good) v.entries

keeps_each : (shape : Shape) (damaged : List ℕ) (v : View) → KeepsEach shape damaged v v
keeps_each shape damaged v = zip_same _ (λ e value good enough. good) v.entries

costs_none : (shape : Shape) (damaged : List ℕ) (v : View) → CostsNoCopy shape damaged v v
costs_none shape damaged v = zip_same _ (λ e value copy good inside spared. spared.1) v.entries

no_open : (salvage : Option View) (others rest : List View) (w : View) → Corrupt salvage others ≡ Opens w rest → ⊥
no_open salvage others rest w is = let no : 1 ≡ 0 = ap code is in omega (arith, no)
  where
    code : State → ℕ
    code (Opens v others) = 0
    code (Corrupt salvage others) = 1

-- no other text has the headings of the one at which it opens
abbrev HasOneView : State → Type 0
HasOneView (Opens v others) = AllByRecursion (λ w. SameHeadings w v → w ≡ v) (all_views (Opens v others))
HasOneView (Corrupt salvage others) = ⊤

copies_stay : (shape : Shape) (damaged : List ℕ) (v : View) (ws : List View)
    → AllByRecursion (λ w. SameHeadings w v → w ≡ v) ws
    → AllByRecursion (λ w. SameHeadings w v → IsFrom w v × CostsNoCopy shape damaged w v) ws
copies_stay shape damaged v [] one = tt
copies_stay shape damaged v (w ∷ ws) one = (
  λ same. subst (λ x. IsFrom x v × CostsNoCopy shape damaged x v) (sym (one.0 same))
      (from_itself v, costs_none shape damaged v),
  copies_stay shape damaged v ws one.1,
)

kept_itself : (shape : Shape) (damaged : List ℕ) (state : State) → HasOneView state
    → Kept shape damaged state state state
kept_itself shape damaged (Opens v others) one = record {
  known = each_from (all_views (Opens v others)) (views_in (Some v));
  stays = λ enough. (v, others, refl, inl (same_headings v, keeps_good shape damaged v));
  copies = copies_stay shape damaged v (all_views (Opens v others)) one;
  salvage = tt;
}
kept_itself shape damaged (Corrupt None others) one = record {
  known = each_from (all_views (Corrupt None others)) [];
  stays = λ w rest is. absurd (no_open None others rest w is);
  copies = tt;
  salvage = tt;
}
kept_itself shape damaged (Corrupt (Some v) others) one = record {
  known = each_from (all_views (Corrupt (Some v) others)) (views_in (Some v));
  stays = λ w rest is. absurd (no_open (Some v) others rest w is);
  copies = tt;
  salvage = λ one. (
    v,
    refl,
    inl record {
      same = same_headings v;
      good = keeps_each shape damaged v;
      copies = costs_none shape damaged v;
    },
  );
}

has_one_view : (shape : Shape) (image : Image) → IsClean shape image → (state : State)
    → store_at image shape ≡ state → HasOneView state
has_one_view shape image clean (Opens v others) is =
    subst (λ s. AllByRecursion (λ w. SameHeadings w v → w ≡ v) (all_views s)) is
    (one_view shape image clean v others is)
has_one_view shape image clean (Corrupt salvage others) is = tt

are_kept : (image : Image) (damaged : List ℕ) (shapes : List Shape) → AreClean image shapes
    → AreKept image damaged shapes (map (store_at image) shapes) (map (store_at image) shapes)
are_kept image damaged [] clean = tt
are_kept image damaged (shape ∷ shapes) clean = (
  kept_itself shape damaged (store_at image shape)
      (has_one_view shape image clean.0 (store_at image shape) refl),
  are_kept image damaged shapes clean.1,
)

-- in clean places it stands between what it is and what it is
pub stands_itself : (app : ℕ) (image : Image) (damaged : List ℕ) → IsCleanApp app image
    → Stands app image damaged (app_at image app) (app_at image app)
unfolding app_at
stands_itself app image damaged clean = record {
  bad = λ none. inl none;
  root = λ some spared. inl refl;
  same = λ is stays. are_kept image damaged (shapes_named app (says_at image app)) clean.storages;
  old = λ is moves. are_kept image damaged (shapes_named app (says_at image app)) clean.storages;
  new = λ is moves. are_kept image damaged (shapes_named app (says_at image app)) clean.storages;
  clean_root = clean.root;
  clean = λ is. clean.storages;
}
