-- What the changes cost: no more than the contents that differ.
use Rattle.std.proofs.Common.{◌≡◌, ℕ, zero, suc, ◌+◌, ◌*◌, ◌≤◌, Bool, true, false, cond, ◌&&◌, nat_eq, List, length}
use Rattle.std.proofs.Common.{Option, Some, None, refl, sym, ap, subst, ◌∙◌, arith}
use Rattle.std.specs.Prelude.{option_map, IsTrue}
use Rattle.std.proofs.Math.Nat.{mul-le-mul_left}
use Rattle.per_base.specs.declared.elements.StoreKind.{StoreKind}
use Rattle.per_base.specs.declared.elements.StoreKind.TheVariants.{Keys, Files}
use Rattle.per_base.specs.declared.elements.Content.{Content}
use Rattle.per_base.specs.declared.elements.Content.TheVariants.{Good, Bad}
use Rattle.per_base.specs.declared.elements.Element.{Element}
use Rattle.per_base.specs.declared.elements.Entry.{Entry}
use Rattle.per_base.specs.declared.elements.FileInfo.{FileInfo}
use Rattle.per_base.specs.Maps.{Map, element_at}
use Rattle.per_base.specs.declared.elements.Change.{Change}
use Rattle.per_base.specs.declared.elements.Change.TheVariants.{Remove}
use Rattle.per_base.specs.Changes.{changed_name, change_at}
use Rattle.per_base.specs.Contents.{HasLength, blocks_for, readable_bytes, same_content}
use Rattle.index_text.specs.Rules.{has_info}
use Rattle.block_files.specs.Parts.{changed_below, changed_blocks, is_changed}
use Rattle.element_state.specs.declared.shapes.Shape.{Shape}
use Rattle.element_state.specs.declared.shapes.View.{View}
use Rattle.element_state.specs.Changes.{item_at, entry_by_name, entry_name, same_element, same_info}
use Rattle.element_state.specs.Read.{IsEntryOf}
use Rattle.element_state.specs.Views.{judged_content}
use Rattle.element_state.specs.Written.{whole_cost, cost_over, cost_beside, change_cost, commit_cost}
use Rattle.element_state.specs.Written.{element_cost, map_cost}
use Rattle.element_maps.specs.Differences.{difference, replacement, touch, put, same_bytes, same_value}
use Rattle.element_maps.specs.Laws.{IsUntested}
use Rattle.element_maps.specs.Sessions.{IsHeldElement, IsSync}
use Rattle.element_maps.specs.lemmas.Names.{false_true, eq_itself}
use Rattle.element_maps.specs.lemmas.InOrder.{item_each, item_named, weight_of, sum_by_names}
use Rattle.element_maps.specs.lemmas.Same.{both, with_both, number_itself, content_is}
use Rattle.element_maps.proofs.Points.{judged_element, judged_good, same_value_is, is_other, IsOther}
use Rattle.element_maps.proofs.Synced.{pair_name, paired, item_in_map, found_in_map, held_at, held_new}

zero_le : (n : ℕ) → 0 ≤ n
zero_le n = omega arith

-- ---- fewer blocks differ than there are

changed_le : (bytes was : List ℕ) (n : ℕ) → changed_below bytes was n ≤ n
changed_le bytes was zero = omega arith
changed_le bytes was (suc n) = let before = changed_le bytes was n in by (is_changed bytes was n) before
  where
    by : (b : Bool) → changed_below bytes was n ≤ n → changed_below bytes was n + cond b 1 0 ≤ suc n
    by true before = omega arith
    by false before = omega arith

shared_le : (bytes was : List ℕ) → 256 * changed_blocks bytes was ≤ whole_cost bytes
shared_le bytes was = mul-le-mul_left 256 (changed_le bytes was (blocks_for (length bytes)))

-- a content that fails the test is written whole
judged_le : (kind : StoreKind) (test : List ℕ → Bool) (old : Content) (bytes : List ℕ)
    → cost_over kind old bytes ≤ cost_over kind (judged_content test old) bytes
judged_le Keys test old bytes = omega arith
judged_le Files test (Good value) bytes = by (test value)
  where
    by : (b : Bool) → 256 * changed_blocks bytes value ≤ cost_over Files (cond b (Good value) (Bad None)) bytes
    by true = omega arith
    by false = shared_le bytes value
judged_le Files test (Bad None) bytes = omega arith
judged_le Files test (Bad (Some salvage)) bytes = by (test salvage)
  where
    by : (b : Bool) → whole_cost bytes ≤ cost_over Files (cond b (Bad (Some salvage)) (Bad None)) bytes
    by true = omega arith
    by false = omega arith

-- where no content of a file fails the test, a content costs what it does as it is judged
judged_ge : (kind : StoreKind) (test : List ℕ → Bool) → IsUntested kind test → (old : Content) (bytes : List ℕ)
    → cost_over kind (judged_content test old) bytes ≤ cost_over kind old bytes
judged_ge Keys test untested old bytes = omega arith
judged_ge Files test untested (Good value) bytes = rw (untested value) (omega arith)
judged_ge Files test untested (Bad None) bytes = omega arith
judged_ge Files test untested (Bad (Some salvage)) bytes = rw (untested salvage) (omega arith)

-- ---- one name

abbrev content_of : Option Entry → Option Content
content_of o = elim o [ None ↦ None | Some e ↦ Some e.content ]

-- infos of one kind that are not both there are the same
same_none : (kind : StoreKind) (old new : Option FileInfo) → IsTrue (has_info kind old) → IsTrue (has_info kind new)
    → new ≡ None → same_info old new ≡ true
same_none kind None None has also none = refl
same_none Keys (Some a) None has also none = absurd cc
same_none Files (Some a) None has also none = absurd cc
same_none kind old (Some b) has also none = absurd cc

put_cost : (kind : StoreKind) (name : List ℕ) (new : Element) (es : List Entry) (e : Entry) → entry_by_name name es
    ≡ Some e
    → change_cost kind es (put name new) ≡ cost_over kind e.content (readable_bytes new.content)
put_cost kind name new es e found = ap (λ o. cost_beside kind (content_of o) (readable_bytes new.content)) found

put_alone : (kind : StoreKind) (name : List ℕ) (new : Element) (es : List Entry) → entry_by_name name es ≡ None
    → change_cost kind es (put name new) ≡ whole_cost (readable_bytes new.content)
put_alone kind name new es found = ap (λ o. cost_beside kind (content_of o) (readable_bytes new.content)) found

-- what the cost rests on of an entry that is read
record IsRead (kind : StoreKind) (e : Entry) : Type 0 where
  pub info : IsTrue (has_info kind e.info)
  pub length : HasLength e.content e.len

-- the same bytes are the same content
bytes_content : (old new : Content) (bytes : List ℕ) → new ≡ Good bytes → same_value old new ≡ true
    → same_content old new ≡ true
bytes_content old new bytes good same =
    let value : same_value old (Good bytes) ≡ true = subst (λ (c : Content). same_value old c ≡ true) good same in
    subst (λ (c : Content). same_content old c ≡ true) (sym good)
    (subst (λ (c : Content). same_content c (Good bytes) ≡ true) (sym (same_value_is old bytes value))
    (eq_itself bytes))

-- what replaces an entry costs no more than its content, and nothing where that is the same
replaced_cost : (kind : StoreKind) (test : List ℕ → Bool) (name : List ℕ) (es : List Entry) (e : Entry) (new : Element)
    → entry_by_name name es ≡ Some e → IsRead kind e → IsOther kind new
    → same_element (judged_element test e) new ≡ false
    → change_cost kind es (replacement name (judged_element test e) new)
    ≤ element_cost kind (Some (judged_element test e)) new
replaced_cost kind test name es e new found read other differs =
    by (same_bytes (judged_element test e) new) refl (same_content (judged_content test e.content) new.content) refl
  where
    put_le : change_cost kind es (put name new) ≤ cost_over kind (judged_content test e.content)
        (readable_bytes new.content)
    put_le = let cost = put_cost kind name new es e found in let le =
        judged_le kind test e.content (readable_bytes new.content) in omega arith

    -- with the same content and no new info nothing differs
    info_there : same_bytes (judged_element test e) new ≡ true → new.info ≡ None → ⊥
    info_there same none =
        let two = both (nat_eq e.len new.len) (same_value (judged_content test e.content) new.content) same in
        let info : same_info e.info new.info ≡ true = same_none kind e.info new.info read.info other.writable.info none
        in
        let content : same_content (judged_content test e.content) new.content ≡ true =
        bytes_content (judged_content test e.content) new.content other.bytes other.good two.1 in
        false_true (same_element (judged_element test e) new) differs (with_both _ _ (with_both _ _ info two.0) content)

    -- the same content has the same length
    bytes_same : same_content (judged_content test e.content) new.content ≡ true
        → same_bytes (judged_element test e) new ≡ true
    bytes_same same =
        let is : judged_content test e.content ≡ Good other.bytes =
        content_is (judged_content test e.content) new.content same ∙ other.good in
        let good : e.content ≡ Good other.bytes = judged_good test e.content other.bytes is in
        let long : length other.bytes ≡ e.len = subst (λ (c : Content). HasLength c e.len) good read.length in
        let len : e.len ≡ new.len = sym long ∙ other.writable.length in
        with_both _ _ (subst (λ (n : ℕ). nat_eq e.len n ≡ true) len (number_itself e.len))
        (subst (λ (c : Content). same_value (judged_content test e.content) c ≡ true) (sym other.good)
        (subst (λ (c : Content). same_value c (Good other.bytes) ≡ true) (sym is) (eq_itself other.bytes)))

    touched : same_bytes (judged_element test e) new ≡ true → (info : Option FileInfo) → new.info ≡ info → (n : ℕ)
        → change_cost kind es (touch name new info) ≤ n
    touched same None is n = absurd (info_there same is)
    touched same (Some info) is n = zero_le n

    by : (b : Bool) → same_bytes (judged_element test e) new ≡ b → (a : Bool)
        → same_content (judged_content test e.content) new.content ≡ a
        → change_cost kind es (cond b (touch name new new.info) (put name new))
        ≤ cond a 0 (cost_over kind (judged_content test e.content) (readable_bytes new.content))
    by true same true is = touched same new.info refl 0
    by true same false is = touched same new.info refl (cost_over kind (judged_content test e.content)
        (readable_bytes new.content))
    by false same true is = absurd (false_true (same_bytes (judged_element test e) new) same (bytes_same is))
    by false same false is = put_le

abbrev element_weight : StoreKind → Option Element → Option Element → ℕ
element_weight kind old None = 0
element_weight kind old (Some new) = element_cost kind old new

point_cost : (kind : StoreKind) (test : List ℕ → Bool) (name : List ℕ) (es : List Entry) (old : Option Entry)
    (new : Option Element)
    → entry_by_name name es ≡ old → ((e : Entry) → old ≡ Some e → IsRead kind e)
    → ((element : Element) → new ≡ Some element → IsHeldElement kind (option_map (judged_element test) old) element
    element.content)
    → (c : Change) → difference name (option_map (judged_element test) old) new ≡ Some c
    → change_cost kind es c ≤ element_weight kind (option_map (judged_element test) old) new
point_cost kind test name es None None found read held c is = absurd cc
point_cost kind test name es (Some e) None found read held c is = let same : Remove name ≡ c =
    cc in subst (λ (x : Change). change_cost kind es x ≤ 0) same (omega arith)
point_cost kind test name es None (Some new) found read held c is =
    let same : put name new ≡ c = cc in
    let cost : change_cost kind es (put name new) ≡ whole_cost (readable_bytes new.content) =
    put_alone kind name new es found in
    let le : change_cost kind es (put name new) ≤ whole_cost (readable_bytes new.content) = omega arith in
    subst (λ (x : Change). change_cost kind es x ≤ whole_cost (readable_bytes new.content)) same le
point_cost kind test name es (Some e) (Some new) found read held c is =
    by (same_element (judged_element test e) new) refl is
  where
    by : (b : Bool) → same_element (judged_element test e) new ≡ b
        → cond b None (Some (replacement name (judged_element test e) new)) ≡ Some c
        → change_cost kind es c ≤ element_cost kind (Some (judged_element test e)) new
    by true same is = absurd cc
    by false same is =
        let c_is : replacement name (judged_element test e) new ≡ c = cc in
        subst (λ (x : Change). change_cost kind es x ≤ element_cost kind (Some (judged_element test e)) new) c_is
        (replaced_cost kind test name es e new found (read e refl)
        (is_other kind (Some (judged_element test e)) new (held new refl) same) same)

-- and no less, where no content of a file fails the test
point_cost_back : (kind : StoreKind) (test : List ℕ → Bool) → IsUntested kind test
    → (name : List ℕ) (es : List Entry) (old : Option Entry) (new : Element) → entry_by_name name es ≡ old
    → IsHeldElement kind (option_map (judged_element test) old) new new.content
    → element_cost kind (option_map (judged_element test) old) new
    ≤ weight_of (change_cost kind es) (difference name (option_map (judged_element test) old) (Some new))
point_cost_back kind test untested name es None new found held =
    let cost : change_cost kind es (put name new) ≡ whole_cost (readable_bytes new.content) =
    put_alone kind name new es found in omega arith
point_cost_back kind test untested name es (Some e) new found held =
    by (same_element (judged_element test e) new) refl (same_content (judged_content test e.content) new.content) refl
  where
    put_ge : cost_over kind (judged_content test e.content) (readable_bytes new.content)
        ≤ change_cost kind es (put name new)
    put_ge = let cost = put_cost kind name new es e found in let ge =
        judged_ge kind test untested e.content (readable_bytes new.content) in omega arith

    replaced_ge : (other : IsOther kind new) → same_content (judged_content test e.content) new.content ≡ false
        → (b : Bool) → same_bytes (judged_element test e) new ≡ b
        → cost_over kind (judged_content test e.content) (readable_bytes new.content)
        ≤ change_cost kind es (cond b (touch name new new.info) (put name new))
    replaced_ge other apart true same =
        let two = both (nat_eq e.len new.len) (same_value (judged_content test e.content) new.content) same in
        absurd (false_true (same_content (judged_content test e.content) new.content) apart
        (bytes_content (judged_content test e.content) new.content other.bytes other.good two.1))
    replaced_ge other apart false same = put_ge

    by : (b : Bool) → same_element (judged_element test e) new ≡ b → (a : Bool)
        → same_content (judged_content test e.content) new.content ≡ a
        → cond a 0 (cost_over kind (judged_content test e.content) (readable_bytes new.content))
        ≤ weight_of (change_cost kind es) (cond b None (Some (replacement name (judged_element test e) new)))
    by true same true is = omega arith
    by false same true is = zero_le _
    by true same false is =
        let parts = both (same_info e.info new.info && nat_eq e.len new.len)
        (same_content (judged_content test e.content) new.content) same in
        absurd (false_true (same_content (judged_content test e.content) new.content) is parts.1)
    by false same false is = replaced_ge (is_other kind (Some (judged_element test e)) new held same) is
        (same_bytes (judged_element test e) new) refl

-- ---- all of them

module _ (shape : Shape) (test : List ℕ → Bool) (v : View) (synced new : Map) (changes : List Change)
    (sync : IsSync shape test v synced new changes) where
  weight : List ℕ × Element → ℕ
  weight e = element_cost shape.kind (element_at synced e.0) e.1

  weight_is : (name : List ℕ) (o : Option Element) → element_weight shape.kind (element_at synced name) o
      ≡ weight_of weight (option_map (paired name) o)
  unfolding weight
  weight_is name None = refl
  weight_is name (Some e) = refl

  pub cost_le : commit_cost shape.kind v.entries changes ≤ map_cost shape.kind synced new
  unfolding commit_cost map_cost weight
  cost_le = sum_by_names pair_name weight changed_name (change_cost shape.kind v.entries) changes new
      sync.made.names_ascend (λ name c is.
      let as_held : difference name (option_map (judged_element test) (entry_by_name name v.entries))
      (element_at new name)
      ≡ Some c =
      ap (λ o. difference name o (element_at new name)) (sym (held_at shape test v synced new changes sync name))
      ∙ sym (sync.made.exact name) ∙ is in
      let cost : change_cost shape.kind v.entries c ≤ element_weight shape.kind
      (option_map (judged_element test) (entry_by_name name v.entries)) (element_at new name) =
      point_cost shape.kind test name v.entries (entry_by_name name v.entries) (element_at new name) refl
      (λ e found. (let is = item_each entry_name (IsEntryOf shape) name v.entries e sync.read.each found in
      record { info = is.info; length = is.content })) (held_new shape test v synced new changes sync name) c
      as_held in
      let one : element_weight shape.kind (option_map (judged_element test) (entry_by_name name v.entries))
      (element_at new name) ≡ weight_of weight (item_at pair_name name new) =
      ap (λ o. element_weight shape.kind o (element_at new name))
      (sym (held_at shape test v synced new changes sync name)) ∙ weight_is name (element_at new name)
      ∙ ap (λ o. weight_of weight o) (sym (item_in_map name new)) in
      omega arith)

  pub cost_ge : IsUntested shape.kind test → map_cost shape.kind synced new ≤ commit_cost shape.kind v.entries changes
  unfolding commit_cost map_cost weight
  cost_ge untested = sum_by_names changed_name (change_cost shape.kind v.entries) pair_name weight new changes
      sync.next.names_ascend (λ name e is.
      let named : e.0 ≡ name = item_named pair_name name new e is in
      let here : element_at new name ≡ Some e.1 = found_in_map name new e is in
      let cost : element_cost shape.kind (option_map (judged_element test) (entry_by_name name v.entries)) e.1
      ≤ weight_of (change_cost shape.kind v.entries) (difference name
      (option_map (judged_element test) (entry_by_name name v.entries)) (Some e.1)) =
      point_cost_back shape.kind test untested name v.entries (entry_by_name name v.entries) e.1 refl
      (held_new shape test v synced new changes sync name e.1 here) in
      let change_is : difference name (option_map (judged_element test) (entry_by_name name v.entries)) (Some e.1)
      ≡ change_at name changes =
      ap (λ o. difference name o (Some e.1)) (sym (held_at shape test v synced new changes sync name))
      ∙ ap (λ o. difference name (element_at synced name) o) (sym here) ∙ sym (sync.made.exact name) in
      let two : weight_of (change_cost shape.kind v.entries)
      (difference name (option_map (judged_element test) (entry_by_name name v.entries)) (Some e.1))
      ≡ weight_of (change_cost shape.kind v.entries) (change_at name changes) =
      ap (λ o. weight_of (change_cost shape.kind v.entries) o) change_is in
      let one : element_cost shape.kind (option_map (judged_element test) (entry_by_name name v.entries)) e.1
      ≡ element_cost shape.kind (element_at synced e.0) e.1 =
      ap (λ o. element_cost shape.kind o e.1) (sym (held_at shape test v synced new changes sync name))
      ∙ ap (λ n. element_cost shape.kind (element_at synced n) e.1) (sym named) in
      omega arith)

  pub cost_is : IsUntested shape.kind test → commit_cost shape.kind v.entries changes ≡ map_cost shape.kind synced new
  cost_is untested = let le = cost_le in let ge = cost_ge untested in omega arith
