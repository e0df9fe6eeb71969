-- One name: what its change makes of its entry, where an element stands and another shall.
use Rattle.std.proofs.Common.{◌≡◌, ◌≤◌, ℕ, Bool, true, false, cond, nat_eq, List, [], length, Option, Some, None, refl}
use Rattle.std.proofs.Common.{sym, ap, subst, ◌∙◌, inl, inr}
use Rattle.std.specs.Prelude.{option_map, IsTrue}
use Rattle.std.proofs.lemmas.Bool.{cases_Bool}
use Rattle.std.proofs.lemmas.Slice.Eq.{bytes_eq-Decides}
use Rattle.per_base.specs.declared.elements.StoreKind.{StoreKind}
use Rattle.per_base.specs.declared.elements.StoreKind.TheVariants.{Keys, Files}
use Rattle.per_base.specs.declared.elements.Content.{Content}
use Rattle.per_base.specs.declared.elements.Content.TheVariants.{Good, Bad}
use Rattle.per_base.specs.declared.elements.Element.{Element}
use Rattle.per_base.specs.declared.elements.Entry.{Entry}
use Rattle.per_base.specs.declared.elements.FileInfo.{FileInfo}
use Rattle.per_base.specs.declared.elements.Change.{Change}
use Rattle.per_base.specs.declared.elements.Change.TheVariants.{Remove}
use Rattle.per_base.specs.Contents.{readable_bytes}
use Rattle.index_text.specs.Rules.{has_info, max_len}
use Rattle.element_state.specs.Changes.{same_element, is_same, kept_or_fresh, entry_by_name}
use Rattle.element_state.specs.Conditions.{IsChange, IsGoodEntry}
use Rattle.element_state.specs.States.{fresh_entry, fresh_element}
use Rattle.element_state.specs.Views.{judged_content}
use Rattle.element_maps.specs.Differences.{difference, replacement, touch, put, same_bytes, same_value}
use Rattle.element_maps.specs.Sessions.{IsHeldElement, IsWritable}
use Rattle.element_maps.specs.lemmas.Names.{false_true}
use Rattle.element_maps.specs.lemmas.Same.{both, same_number, element, same_is, same_from, is_same_from}
use Rattle.element_maps.proofs.Entries.{changed_entry, entry_after}

-- what a session holds of an entry
abbrev pub judged_element : (List ℕ → Bool) → Entry → Element
judged_element test e = element e.info e.len (judged_content test e.content)

abbrev entry : (name : List ℕ) → Option FileInfo → (generation len : ℕ) → Content → Entry
entry name info generation len content = record {
  name = name;
  info = info;
  changed = generation;
  len = len;
  content =
      content;
  lacking = [];
}

-- contents of the same bytes are both good
pub same_value_is : (old : Content) (bytes : List ℕ) → same_value old (Good bytes) ≡ true → old ≡ Good bytes
same_value_is (Good old) bytes e = ap (λ x. Good x) ((bytes_eq-Decides old bytes).0 e)
same_value_is (Bad salvage) bytes e = absurd cc

-- a value that passed the test is that of the entry
pub judged_good : (test : List ℕ → Bool) (content : Content) (bytes : List ℕ) → judged_content test content ≡ Good bytes
    → content ≡ Good bytes
judged_good test (Good value) bytes e = elim (cases_Bool (test value)) [
  | inl t ↦ rw t at e
  | inr f ↦ let bad : Bad None ≡ Good bytes = rw f at e in absurd cc
]
judged_good test (Bad None) bytes e = absurd cc
judged_good test (Bad (Some salvage)) bytes e = elim (cases_Bool (test salvage)) [
  | inl t ↦ let bad : Bad (Some salvage) ≡ Good bytes = rw t at e in absurd cc
  | inr f ↦ let bad : Bad None ≡ Good bytes = rw f at e in absurd cc
]

-- ---- an element that shall be and is not the one that stands

-- it can be read, else it would be the one that stands
pub record IsOther (kind : StoreKind) (new : Element) : Type 0 where
  pub bytes : List ℕ
  pub good : new.content ≡ Good bytes
  pub writable : IsWritable kind new bytes

pub is_other : (kind : StoreKind) (old : Option Element) (new : Element) → IsHeldElement kind old new new.content
    → is_same old new ≡ false → IsOther kind new
is_other kind old new held differs = by new.content refl held
  where
    by : (content : Content) → new.content ≡ content → IsHeldElement kind old new content → IsOther kind new
    by (Good bytes) e held = record { bytes = bytes; good = e; writable = held }
    by (Bad salvage) e held = absurd (false_true (is_same old new) differs (is_same_from old new held))

-- what is put is the element
pub put_is : (kind : StoreKind) (generation : ℕ) (name : List ℕ) (new : Element) → IsOther kind new
    → fresh_entry generation (fresh_element (record {
      name = name;
      info = new.info;
      bytes = readable_bytes new.content;
    }))
    ≡ fresh_entry generation (name, new)
put_is kind generation name new other =
    let bytes : readable_bytes new.content ≡ other.bytes = ap readable_bytes other.good in
    let len : length (readable_bytes new.content) ≡ new.len = ap length bytes ∙ other.writable.length in
    let content : Good (readable_bytes new.content) ≡ new.content = ap (λ b. Good b) bytes ∙ sym other.good in
    ap (λ x. entry name new.info generation x (Good (readable_bytes new.content))) len
    ∙ ap (λ x. entry name new.info generation new.len x) content

-- ---- the entry

-- what replaces an entry makes it a fresh one
replaced : (kind : StoreKind) (test : List ℕ → Bool) (generation : ℕ) (name : List ℕ) (e : Entry) (new : Element)
    → e.name ≡ name → IsOther kind new
    → changed_entry generation (replacement name (judged_element test e) new) (Some e)
    ≡ Some (fresh_entry generation (name, new))
replaced kind test generation name e new named other = by (same_bytes (judged_element test e) new) refl
  where
    touched : same_bytes (judged_element test e) new ≡ true → (info : Option FileInfo) → new.info ≡ info
        → changed_entry generation (touch name new info) (Some e) ≡ Some (fresh_entry generation (name, new))
    touched same None is = ap (λ x. Some x) (put_is kind generation name new other)
    touched same (Some info) is =
        let two = both (nat_eq e.len new.len) (same_value (judged_content test e.content) new.content) same in
        let len : e.len ≡ new.len = same_number e.len new.len two.0 in
        let value : same_value (judged_content test e.content) (Good other.bytes) ≡ true =
        subst (λ (c : Content). same_value (judged_content test e.content) c ≡ true) other.good two.1 in
        let content : e.content ≡ new.content = judged_good test e.content other.bytes
        (same_value_is (judged_content test e.content) other.bytes value) ∙ sym other.good in
        ap (λ x. Some (entry x (Some info) generation e.len e.content)) named
        ∙ ap (λ x. Some (entry name x generation e.len e.content)) (sym is)
        ∙ ap (λ x. Some (entry name new.info generation x e.content)) len
        ∙ ap (λ x. Some (entry name new.info generation new.len x)) content

    by : (b : Bool) → same_bytes (judged_element test e) new ≡ b
        → changed_entry generation (cond b (touch name new new.info) (put name new)) (Some e)
        ≡ Some (fresh_entry generation (name, new))
    by true same = touched same new.info refl
    by false same = ap (λ x. Some x) (put_is kind generation name new other)

-- the entry after the change of its name is the one that the two maps say
pub point : (kind : StoreKind) (test : List ℕ → Bool) (generation : ℕ) (name : List ℕ) (old : Option Entry)
    (new : Option Element)
    → ((e : Entry) → old ≡ Some e → e.name ≡ name)
    → ((element : Element) → new ≡ Some element → IsHeldElement kind (option_map (judged_element test) old) element
    element.content)
    → entry_after generation (difference name (option_map (judged_element test) old) new) old
    ≡ option_map (λ element. kept_or_fresh generation (is_same (option_map (judged_element test) old) element) old
    (name, element)) new
point kind test generation name None None named held = refl
point kind test generation name (Some e) None named held = refl
point kind test generation name None (Some new) named held =
    ap (λ x. Some x) (put_is kind generation name new (is_other kind None new (held new refl) refl))
point kind test generation name (Some e) (Some new) named held = by (same_element (judged_element test e) new) refl
  where
    by : (b : Bool) → same_element (judged_element test e) new ≡ b
        → entry_after generation (cond b None (Some (replacement name (judged_element test e) new))) (Some e)
        ≡ Some (kept_or_fresh generation b (Some e) (name, new))
    by true same = refl
    by false same = replaced kind test generation name e new (named e refl)
        (is_other kind (Some (judged_element test e)) new (held new refl) same)

-- ---- the change may be committed

put_taken : (kind : StoreKind) (name : List ℕ) (new : Element) (es : List Entry) → IsOther kind new
    → IsChange kind es (put name new)
put_taken kind name new es other =
    let bytes : readable_bytes new.content ≡ other.bytes = ap readable_bytes other.good in
    let small : length other.bytes ≤ max_len kind = subst (λ (n : ℕ). n ≤ max_len kind) (sym other.writable.length)
    other.writable.small in
    record { info = other.writable.info; small = subst (λ (b : List ℕ). length b ≤ max_len kind) (sym bytes) small }

of_files : (kind : StoreKind) (info : FileInfo) → IsTrue (has_info kind (Some info)) → kind ≡ Files
of_files Keys info has = absurd cc
of_files Files info has = refl

-- a change that makes the one element into the other may be committed beside an entry that denotes the one
pub point_taken : (kind : StoreKind) (test : List ℕ → Bool) (name : List ℕ) (es : List Entry) (old : Option Entry)
    (new : Option Element)
    → entry_by_name name es ≡ old
    → ((element : Element) → new ≡ Some element → IsHeldElement kind (option_map (judged_element test) old) element
    element.content)
    → (c : Change) → difference name (option_map (judged_element test) old) new ≡ Some c → IsChange kind es c
point_taken kind test name es None None found held c is = absurd cc
point_taken kind test name es (Some e) None found held c is = let same : Remove name ≡ c =
    cc in subst (λ (x : Change). IsChange kind es x) same tt
point_taken kind test name es None (Some new) found held c is =
    let same : put name new ≡ c = cc in subst (λ (x : Change). IsChange kind es x) same
    (put_taken kind name new es (is_other kind None new (held new refl) refl))
point_taken kind test name es (Some e) (Some new) found held c is =
    by (same_element (judged_element test e) new) refl is
  where
    touched : IsOther kind new → same_bytes (judged_element test e) new ≡ true → (info : Option FileInfo)
        → new.info ≡ info → IsChange kind es (touch name new info)
    touched other same None has = put_taken kind name new es other
    touched other same (Some info) has =
        let two = both (nat_eq e.len new.len) (same_value (judged_content test e.content) new.content) same in
        let value : same_value (judged_content test e.content) (Good other.bytes) ≡ true =
        subst (λ (x : Content). same_value (judged_content test e.content) x ≡ true) other.good two.1 in
        let content : e.content ≡ Good other.bytes = judged_good test e.content other.bytes
        (same_value_is (judged_content test e.content) other.bytes value) in (
          of_files kind info (subst (λ (x : Option FileInfo). IsTrue (has_info kind x)) has other.writable.info),
          subst IsGoodEntry (sym found) (other.bytes, content),
        )

    replacing : IsOther kind new → (b : Bool) → same_bytes (judged_element test e) new ≡ b
        → IsChange kind es (cond b (touch name new new.info) (put name new))
    replacing other true same = touched other same new.info refl
    replacing other false same = put_taken kind name new es other

    by : (b : Bool) → same_element (judged_element test e) new ≡ b
        → cond b None (Some (replacement name (judged_element test e) new)) ≡ Some c → IsChange kind es c
    by true same is = absurd cc
    by false same is =
        let c_is : replacement name (judged_element test e) new ≡ c = cc in
        subst (λ (x : Change). IsChange kind es x) c_is (replacing
        (is_other kind (Some (judged_element test e)) new (held new refl) same)
        (same_bytes (judged_element test e) new) refl)

-- ---- no change

pub no_change : (name : List ℕ) (old new : Option Element) → difference name old new ≡ None → old ≡ new
no_change name None None e = refl
no_change name (Some old) None e = absurd cc
no_change name None (Some new) e = absurd cc
no_change name (Some old) (Some new) e = by (same_element old new) refl e
  where
    by : (b : Bool) → same_element old new ≡ b → cond b None (Some (replacement name old new)) ≡ None
        → Some old ≡ Some new
    by true same is = ap (λ x. Some x) (same_is old new same)
    by false same is = absurd cc

pub unchanged : (name : List ℕ) (o : Option Element) → difference name o o ≡ None
unchanged name None = refl
unchanged name (Some e) = rw (same_from e e refl) refl
