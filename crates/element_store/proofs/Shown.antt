-- What a view without lacking copies says of the copies.
use Rattle.std.proofs.Common.{◌≡◌, ℕ, zero, suc, ◌+◌, ◌<◌, ◌≤◌, List, [], ◌∷◌, Bool, true, false, Option, Some, None}
use Rattle.std.proofs.Common.{refl, sym, ap, ◌∙◌, subst, arith, ⊎_elim}
use Rattle.std.specs.Prelude.{map, filter, not, is_some}
use Rattle.std.specs.List.{range_with_len}
use Rattle.std.specs.Str.{bytes_eq}
use Rattle.std.proofs.lemmas.Bool.{cases_Bool, cases_eq, cond-true, cond-false}
use Rattle.std.proofs.lemmas.Slice.Eq.{bytes_eq-Decides}
use Rattle.per_base.specs.declared.elements.Content.TheVariants.{Good}
use Rattle.disk_model.specs.declared.place.Place.{Place}
use Rattle.disk_model.specs.Image.{Image}
use Rattle.disk_model.specs.Place.{area}
use Rattle.m_of_n.specs.Vote.{voted}
use Rattle.block_files.specs.Areas.{has_all_bytes}
use Rattle.block_files.specs.Contents.{counting, lacks, lacking, first_content}
use Rattle.index_text.specs.declared.entries.IndexEntry.{IndexEntry}
use Rattle.element_state.specs.Views.{entry_view, given, content_of, counts}

pub content_good : (o s : Option (List ℕ)) (v : List ℕ) → content_of o s ≡ Good v → o ≡ Some v
content_good None s v e = cc
content_good (Some x) s v e = cc

none_pass : (p : ℕ → Bool) (a n : ℕ) → map suc (filter p (range_with_len a n)) ≡ [] → (c : ℕ) → a ≤ c → c < a + n
    → p c ≡ false
none_pass p a zero e c le lt = absurd (omega (arith, le, lt))
none_pass p a (suc n) e c le lt = ⊎_elim
    (λ passes. absurd (never (map suc (filter p (range_with_len (a + 1) n)))
    (sym (ap (map suc) (cond-true (p a) (a ∷ filter p (range_with_len (a + 1) n))
    (filter p (range_with_len (a + 1) n)) passes)) ∙ e)))
    (λ fails.
    let rest : map suc (filter p (range_with_len (a + 1) n)) ≡ [] =
    sym (ap (map suc) (cond-false (p a) (a ∷ filter p (range_with_len (a + 1) n))
    (filter p (range_with_len (a + 1) n)) fails)) ∙ e in
    ⊎_elim (λ here. ap p here ∙ fails) (λ other. none_pass p (a + 1) n rest c (omega (arith, le, other))
    (omega (arith, lt))) (cases_eq c a))
    (cases_Bool (p a))
  where
    never : (xs : List ℕ) → suc a ∷ xs ≡ [] → ⊥
    never xs e = cc

pub gives : (v : List ℕ) (given : Option (List ℕ)) (inside : Bool) → lacks (Some v) given inside ≡ false
    → (given ≡ Some v) × (inside ≡ true)
gives v None inside e = absurd (true_false e)
  where
    true_false : true ≡ false → ⊥
    true_false e = cc
gives v (Some t) true e = (ap (λ (x : List ℕ). Some x) ((bytes_eq-Decides t v).0 (flip (bytes_eq t v) e)), refl)
  where
    flip : (b : Bool) → not b ≡ false → b ≡ true
    flip true e = refl
    flip false e = cc
gives v (Some t) false e = absurd (true_false e)
  where
    true_false : true ≡ false → ⊥
    true_false e = cc

-- an element that is good and lacks no copy: each copy gives the value, and has all of it
pub view_gives : (image : Image) (place : Place) (m : ℕ) (e : IndexEntry) (v : List ℕ)
    → (entry_view image place m e).content ≡ Good v → (entry_view image place m e).lacking ≡ []
    → (c : ℕ) → c < place.copies → (counting (image (area place c)) e.blocks e.len e.hash ≡ Some v)
    × (has_all_bytes (image (area place c)) e.blocks e.len ≡ true)
unfolding entry_view
view_gives image place m e v good none c lt =
    let is : voted m (given image place e) ≡ Some v = content_good (voted m (given image place e))
    (first_content (given image place e)) v good in
    let none_v : lacking (Some v) place e.blocks e.len e.hash image ≡ [] =
    subst (λ (o : Option (List ℕ)). lacking o place e.blocks e.len e.hash image ≡ []) is none in
    gives v (counting (image (area place c)) e.blocks e.len e.hash)
    (has_all_bytes (image (area place c)) e.blocks e.len)
    (none_pass (λ c. lacks (Some v) (counting (image (area place c)) e.blocks e.len e.hash)
    (has_all_bytes (image (area place c)) e.blocks e.len)) 0 place.copies none_v c (omega arith)
    (omega (arith, lt)))

-- so it counts in each
pub view_counts : (image : Image) (place : Place) (m : ℕ) (e : IndexEntry) (v : List ℕ)
    → (entry_view image place m e).content ≡ Good v → (entry_view image place m e).lacking ≡ []
    → (c : ℕ) → c < place.copies → counts image place e c ≡ true
view_counts image place m e v good none c lt = ap is_some (view_gives image place m e v good none c lt).0
