-- Elements that are the same by test are equal, and what the difference of two says.
use Rattle.std.proofs.Common.{◌≡◌, ◌≢◌, ℕ, List, [], ◌∷◌, Bool, true, false, cond, ◌&&◌, nat_eq, Option, Some, None}
use Rattle.std.proofs.Common.{refl, sym, ap, subst, ◌∙◌}
use Rattle.std.proofs.lemmas.Bool.Decides.{Decides-eqb}
use Rattle.std.proofs.lemmas.Slice.Eq.{bytes_eq-Decides}
use Rattle.per_base.specs.declared.elements.Cause.{Cause}
use Rattle.per_base.specs.declared.elements.Cause.TheVariants.{Installation, Update, Reset, Recovery, Application}
use Rattle.per_base.specs.declared.elements.Content.{Content}
use Rattle.per_base.specs.declared.elements.Content.TheVariants.{Good, Bad}
use Rattle.per_base.specs.declared.elements.Element.{Element}
use Rattle.per_base.specs.declared.elements.FileInfo.{FileInfo}
use Rattle.index_text.specs.Spelling.{cause_code}
use Rattle.per_base.specs.Maps.{Map}
use Rattle.per_base.specs.Contents.{same_content}
use Rattle.element_state.specs.declared.shapes.Shape.{Shape}
use Rattle.element_state.specs.declared.shapes.View.{View}
use Rattle.element_state.specs.Changes.{committed, same_info, same_element, is_same}
use Rattle.element_maps.specs.Sessions.{same_map, view_once_synced}
use Rattle.element_maps.specs.lemmas.Names.{eq_itself, same_names}

pub both : (a b : Bool) → (a && b) ≡ true → (a ≡ true) × (b ≡ true)
both true b e = (refl, e)
both false b e = absurd cc

pub with_both : (a b : Bool) → a ≡ true → b ≡ true → (a && b) ≡ true
with_both true b p q = q
with_both false b p q = absurd cc

pub same_number : (a b : ℕ) → nat_eq a b ≡ true → a ≡ b
same_number a b e = (Decides-eqb a b).0 e

pub number_itself : (a : ℕ) → nat_eq a a ≡ true
number_itself a = (Decides-eqb a a).1 refl

-- ---- causes

cause_from : ℕ → Cause
cause_from n = cond (nat_eq n 1) Installation (cond (nat_eq n 2) Update
    (cond (nat_eq n 3) Reset (cond (nat_eq n 4) Recovery Application)))

cause_again : (c : Cause) → cause_from (cause_code c) ≡ c
unfolding cause_from
cause_again Installation = refl
cause_again Update = refl
cause_again Reset = refl
cause_again Recovery = refl
cause_again Application = refl

same_cause : (a b : Cause) → nat_eq (cause_code a) (cause_code b) ≡ true → a ≡ b
same_cause a b e = sym (cause_again a) ∙ ap cause_from (same_number (cause_code a) (cause_code b) e) ∙ cause_again b

-- ---- infos, contents, elements

abbrev info : ℕ → ℕ → ℕ → Cause → Cause → FileInfo
info created modified accessed creation modification =
    record {
      created = created;
      modified = modified;
      accessed = accessed;
      creation = creation;
      modification =
          modification;
    }

some_info : (a b : FileInfo) → same_info (Some a) (Some b) ≡ true → a ≡ b
some_info a b e =
    let one = both _ _ e in
    let two = both _ _ one.0 in
    let three = both _ _ two.0 in
    let four = both _ _ three.0 in
    let created : a.created ≡ b.created = same_number a.created b.created four.0 in
    let modified : a.modified ≡ b.modified = same_number a.modified b.modified four.1 in
    let accessed : a.accessed ≡ b.accessed = same_number a.accessed b.accessed three.1 in
    let creation : a.creation ≡ b.creation = same_cause a.creation b.creation two.1 in
    let modification : a.modification ≡ b.modification = same_cause a.modification b.modification one.1 in
    ap (λ x. info x a.modified a.accessed a.creation a.modification) created
    ∙ ap (λ x. info b.created x a.accessed a.creation a.modification) modified
    ∙ ap (λ x. info b.created b.modified x a.creation a.modification) accessed
    ∙ ap (λ x. info b.created b.modified b.accessed x a.modification) creation
    ∙ ap (λ x. info b.created b.modified b.accessed b.creation x) modification

pub info_is : (a b : Option FileInfo) → same_info a b ≡ true → a ≡ b
info_is None None e = refl
info_is (Some a) (Some b) e = ap (λ x. Some x) (some_info a b e)
info_is None (Some b) e = absurd cc
info_is (Some a) None e = absurd cc

pub info_itself : (a : Option FileInfo) → same_info a a ≡ true
info_itself None = refl
info_itself (Some a) =
    with_both _ _ (with_both _ _ (with_both _ _ (with_both _ _ (number_itself a.created) (number_itself a.modified))
    (number_itself a.accessed)) (number_itself (cause_code a.creation)))
    (number_itself (cause_code a.modification))

pub content_is : (a b : Content) → same_content a b ≡ true → a ≡ b
content_is (Good a) (Good b) e = ap (λ x. Good x) ((bytes_eq-Decides a b).0 e)
content_is (Bad None) (Bad None) e = refl
content_is (Bad (Some a)) (Bad (Some b)) e = ap (λ x. Bad (Some x)) ((bytes_eq-Decides a b).0 e)
content_is (Bad None) (Bad (Some b)) e = absurd cc
content_is (Bad (Some a)) (Bad None) e = absurd cc
content_is (Good a) (Bad None) e = absurd cc
content_is (Good a) (Bad (Some b)) e = absurd cc
content_is (Bad None) (Good b) e = absurd cc
content_is (Bad (Some a)) (Good b) e = absurd cc

pub content_itself : (a : Content) → same_content a a ≡ true
content_itself (Good a) = eq_itself a
content_itself (Bad None) = refl
content_itself (Bad (Some a)) = eq_itself a

abbrev pub element : Option FileInfo → ℕ → Content → Element
element info len content = record { info = info; len = len; content = content }

pub element_is : (a b : Element) → a.info ≡ b.info → a.len ≡ b.len → a.content ≡ b.content → a ≡ b
element_is a b info len content = ap (λ x. element x a.len a.content) info ∙ ap (λ x. element b.info x a.content) len
    ∙ ap (λ x. element b.info b.len x) content

pub same_is : (a b : Element) → same_element a b ≡ true → a ≡ b
same_is a b e =
    let one = both (same_info a.info b.info && nat_eq a.len b.len) (same_content a.content b.content) e in
    let two = both (same_info a.info b.info) (nat_eq a.len b.len) one.0 in
    element_is a b (info_is a.info b.info two.0) (same_number a.len b.len two.1) (content_is a.content b.content one.1)

pub same_itself : (a : Element) → same_element a a ≡ true
same_itself a = with_both _ _ (with_both _ _ (info_itself a.info) (number_itself a.len)) (content_itself a.content)

pub same_from : (a b : Element) → a ≡ b → same_element a b ≡ true
same_from a b e = subst (λ (x : Element). same_element a x ≡ true) e (same_itself a)

pub is_same_is : (o : Option Element) (b : Element) → is_same o b ≡ true → o ≡ Some b
is_same_is None b e = absurd cc
is_same_is (Some a) b e = ap (λ x. Some x) (same_is a b e)

pub is_same_from : (o : Option Element) (b : Element) → o ≡ Some b → is_same o b ≡ true
is_same_from o b e = subst (λ (x : Option Element). is_same x b ≡ true) (sym e) (same_itself b)

-- ---- maps

pub same_map_is : (a b : Map) → same_map a b ≡ true → a ≡ b
same_map_is [] [] e = refl
same_map_is [] (f ∷ fs) e = absurd (cc)
same_map_is (e ∷ es) [] is = absurd (cc)
same_map_is (e ∷ es) (f ∷ fs) is =
    let one = both _ _ is in
    let two = both _ _ one.0 in
    ap (λ n. let p : List ℕ × Element = (n, e.1) in p ∷ es) (same_names e.0 f.0 two.0)
    ∙ ap (λ x. let p : List ℕ × Element = (f.0, x) in p ∷ es) (same_is e.1 f.1 two.1)
    ∙ ap (λ l. f ∷ l) (same_map_is es fs one.1)

same_map_itself : (a : Map) → same_map a a ≡ true
same_map_itself [] = refl
same_map_itself (e ∷ es) = with_both _ _ (with_both _ _ (eq_itself e.0) (same_itself e.1)) (same_map_itself es)

pub same_map_from : (a b : Map) → a ≡ b → same_map a b ≡ true
same_map_from a b e = subst (λ (x : Map). same_map a x ≡ true) e (same_map_itself a)

-- ---- the view after a sync

pub view_stays : (shape : Shape) (v : View) (synced new : Map) → synced ≡ new → view_once_synced shape v synced new ≡ v
view_stays shape v synced new is = rw (same_map_from synced new is) refl

pub next_view : (shape : Shape) (v : View) (synced new : Map) → synced ≢ new
    → view_once_synced shape v synced new ≡ committed shape v synced new
next_view shape v synced new differ = by (same_map synced new) refl
  where
    by : (b : Bool) → same_map synced new ≡ b → cond b v (committed shape v synced new) ≡ committed shape v synced new
    by true p = absurd (differ (same_map_is synced new p))
    by false p = refl
