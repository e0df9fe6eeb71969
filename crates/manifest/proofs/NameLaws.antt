-- Things by their names, and how many different names there are.
use Rattle.std.proofs.Common.{◌≡◌, ℕ, suc, List, [], ◌∷◌, length, map, drop, get_or, ◌+◌, ◌<◌, refl, sym, ap, ◌∙◌}
use Rattle.std.specs.Prelude.{fold}
use Rattle.std.proofs.lemmas.List.{at_drop_more}
use Rattle.std.specs.BTreeMap.{insert_entry}
use Rattle.std.specs.Ordering.{match_ordering}
use Rattle.std.specs.declared.cmp.Ordering.{Ordering}
use Rattle.std.specs.declared.cmp.Ordering.TheVariants.{Less, Equal, Greater}
use denote.Ref.{Bor}
use Rattle.serde_json.specs.View.{view}
use Rattle.manifest.specs.Parts.{name_in}
use Rattle.manifest.specs.Parts.{NamedParts, with_named}
use Rattle.per_base.specs.Names.{name_cmp}
use Rattle.manifest.specs.declared.parts.ListedThing.{ListedThing as Part}
use Rattle.manifest.specs.Views.{listed_view, listed_views, named_views}

abbrev pub text_cmp : Bor (List ℕ) → Bor (List ℕ) → Ordering
text_cmp a b = name_cmp a.now b.now

abbrev Parts : Type 0
Parts = List (Bor (List ℕ) × Part)

views_at : (o : Ordering) (a b c : Parts) → named_views (match_ordering o a b c)
    ≡ match_ordering o (named_views a) (named_views b) (named_views c)
views_at Less a b c = refl
views_at Equal a b c = refl
views_at Greater a b c = refl

pub named_views-insert_entry : (es : Parts) (k : Bor (List ℕ)) (v : Part)
    → named_views (insert_entry text_cmp es k v) ≡ insert_entry name_cmp (named_views es) k.now (listed_view v)
named_views-insert_entry [] k v = refl
named_views-insert_entry (e ∷ es) k v = views_at (text_cmp k e.0) _ _ _ ∙ rw (named_views-insert_entry es k v) refl

pub values_viewed : (es : Parts) → listed_views (map (λ e. e.1) es) ≡ map (λ e. e.1) (named_views es)
values_viewed [] = refl
values_viewed (e ∷ es) = ap (λ ls. listed_view e.1 ∷ ls) (values_viewed es)

-- one more thing is taken into the map
pub named_more : (things : List Part) (i : ℕ) (x : Part) (old new : Parts) (key : Bor (List ℕ)) (whole : NamedParts)
    → x ≡ get_or things i x → i < length things → key.now ≡ name_in (view x.value.now)
    → new ≡ insert_entry text_cmp old key x
    → fold with_named (named_views old) (listed_views (drop i things)) ≡ whole
    → fold with_named (named_views new) (listed_views (drop (i + 1) things)) ≡ whole
named_more things i x old new key whole x_is lt key_is new_is before =
    let inserted = ap named_views new_is ∙ named_views-insert_entry old key x
    ∙ ap (λ n. insert_entry name_cmp (named_views old) n (listed_view x)) key_is in
    ap (λ m. fold with_named m (listed_views (drop (i + 1) things))) inserted
    ∙ ap (λ (y : Part). fold with_named (named_views old) (listed_views (y ∷ drop (i + 1) things))) x_is
    ∙ sym (at_drop_more (λ ts. fold with_named (named_views old) (listed_views ts)) things i x lt) ∙ before

pub length-named_views : (es : Parts) → length (named_views es) ≡ length es
length-named_views [] = refl
length-named_views (e ∷ es) = ap suc (length-named_views es)

pub length-listed_views : (ps : List Part) → length (listed_views ps) ≡ length ps
length-listed_views [] = refl
length-listed_views (p ∷ ps) = ap suc (length-listed_views ps)
