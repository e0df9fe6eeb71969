-- Where two keys differ, and where two maps of keys do.
use Rattle.std.proofs.Common.{◌≡◌, ℕ, List, [], ◌∷◌, Bool, true, false, cond, refl, sym, ◌∙◌, ap}
use Rattle.std.specs.Prelude.{Option, Some, None, IfSome, nat_eq, ◌&&◌}
use Rattle.std.specs.List.Sorted.{IsStrictlySortedBy}
use Rattle.std.specs.Str.{bytes_eq}
use Rattle.std.proofs.lemmas.Bool.Decides.{Decides-eqb}
use Rattle.std.proofs.lemmas.Cmp.{nat_list_cmp_total}
use Rattle.std.proofs.lemmas.Map.Lookups.{exact_bytes}
use Rattle.std.proofs.lemmas.Slice.Eq.{bytes_eq-Decides}
use Rattle.per_base.specs.Changes.{change_at, changed_name}
use Rattle.per_base.specs.declared.elements.Change.{Change}
use Rattle.per_base.specs.declared.elements.Change.TheVariants.{Remove}
use Rattle.per_base.specs.declared.elements.Content.{Content}
use Rattle.per_base.specs.declared.elements.Content.TheVariants.{Good, Bad}
use Rattle.per_base.specs.declared.elements.Element.{Element}
use Rattle.per_base.specs.Maps.{Map, element_at, names_of}
use Rattle.per_base.specs.Names.{name_cmp}
use Rattle.per_base.specs.Contents.{same_content, same_salvage}
use Rattle.key_maps.specs.Changes.{AreChanges, difference, is_same_key, put, same_key}
use Rattle.key_maps.specs.KeyElements.{IsKey}
use Rattle.key_maps.specs.lemmas.Ordered.{same_lists}

bytes_same : (bytes : List ℕ) → bytes_eq bytes bytes ≡ true
bytes_same bytes = (bytes_eq-Decides bytes bytes).1 refl

content_same : (content : Content) → same_content content content ≡ true
content_same (Good bytes) = bytes_same bytes
content_same (Bad None) = refl
content_same (Bad (Some salvage)) = bytes_same salvage

key_same : (key : Element) → same_key key key ≡ true
key_same key = rw ((Decides-eqb key.len key.len).1 refl, content_same key.content) refl

pub difference_same : (name : List ℕ) (key : Option Element) → difference name key key ≡ None
difference_same name None = refl
difference_same name (Some key) = rw (key_same key) refl

-- a change is of the name at which the two differ
pub difference_named : (name : List ℕ) (old new : Option Element) (c : Change) → difference name old new ≡ Some c
    → changed_name c ≡ name
difference_named name None None c is = absurd (cc)
difference_named name (Some old) None c is = let same : Remove name ≡ c = cc in ap changed_name (sym same)
difference_named name old (Some key) c is = by (is_same_key old key) is
  where
    by : (b : Bool) → cond b None (Some (put name key)) ≡ Some c → changed_name c ≡ name
    by true p = absurd (cc)
    by false p = let same : put name key ≡ c = cc in ap changed_name (sym same)

salvage_is : (here there : Option (List ℕ)) → same_salvage here there ≡ true → here ≡ there
salvage_is None None same = refl
salvage_is None (Some there) same = absurd (cc)
salvage_is (Some here) None same = absurd (cc)
salvage_is (Some here) (Some there) same = ap (λ (x : List ℕ). Some x) ((bytes_eq-Decides here there).0 same)

content_is : (here there : Content) → same_content here there ≡ true → here ≡ there
content_is (Good here) (Good there) same = ap (λ (x : List ℕ). Good x) ((bytes_eq-Decides here there).0 same)
content_is (Good here) (Bad there) same = absurd (cc)
content_is (Bad here) (Good there) same = absurd (cc)
content_is (Bad here) (Bad there) same = ap (λ (x : Option (List ℕ)). Bad x) (salvage_is here there same)

both : (a b : Bool) → a && b ≡ true → (a ≡ true) × (b ≡ true)
both true b same = (refl, same)
both false b same = absurd (cc)

key_is : (here there : Element) → IsKey here → IsKey there → same_key here there ≡ true → here ≡ there
key_is here there one other same =
    let parts = both (nat_eq here.len there.len) (same_content here.content there.content) same in
    let infos : here.info ≡ there.info = one.plain ∙ sym other.plain in
    let lens : here.len ≡ there.len = (Decides-eqb here.len there.len).0 parts.0 in
    let contents : here.content ≡ there.content = content_is here.content there.content parts.1 in
    (λ i. record { info = infos i; len = lens i; content = contents i })

pub difference_none : (name : List ℕ) (old new : Option Element) → IfSome old IsKey → IfSome new IsKey
    → difference name old new ≡ None → old ≡ new
difference_none name None None one other none = refl
difference_none name None (Some key) one other none = absurd (cc)
difference_none name (Some old) None one other none = absurd (cc)
difference_none name (Some old) (Some key) one other none = by (same_key old key) refl none
  where
    by : (b : Bool) → same_key old key ≡ b → cond b None (Some (put name key)) ≡ None → Some old ≡ Some key
    by true p is = ap (λ (x : Element). Some x) (key_is old key one other p)
    by false p is = absurd (cc)

-- ---- two maps

pub no_changes : (old new : Map) → IsStrictlySortedBy name_cmp (names_of old)
    → IsStrictlySortedBy name_cmp (names_of new)
    → ((name : List ℕ) → IfSome (element_at old name) IsKey) → ((name : List ℕ) → IfSome (element_at new name) IsKey)
    → AreChanges [] old new → old ≡ new
no_changes old new sorted ascending keys others none =
    same_lists nat_list_cmp_total exact_bytes old new sorted ascending
    (λ name. difference_none name (element_at old name) (element_at new name) (keys name) (others name)
    (sym (none.exact name)))

pub same_changes : (changes : List Change) (m : Map) → AreChanges changes m m → changes ≡ []
same_changes [] m are = refl
same_changes (c ∷ cs) m are =
    let name : List ℕ = changed_name c in
    let there : change_at name (c ∷ cs) ≡ Some c = rw (bytes_same name) refl in
    let none : change_at name (c ∷ cs) ≡ None = are.exact name ∙ difference_same name (element_at m name) in
    absurd (cc)
