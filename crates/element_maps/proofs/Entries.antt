-- The entries after changes: what is found under each name.
use Rattle.std.proofs.Common.{◌≡◌, ℕ, Bool, true, false, cond, List, [], ◌∷◌, Option, Some, None, refl, ap, subst, ◌∙◌}
use Rattle.std.proofs.Common.{inl, inr}
use Rattle.std.specs.Prelude.{option_map}
use Rattle.std.specs.Str.{bytes_eq}
use Rattle.std.proofs.lemmas.Bool.{cases_Bool}
use Rattle.per_base.specs.declared.elements.Entry.{Entry}
use Rattle.per_base.specs.declared.elements.FileInfo.{FileInfo}
use Rattle.per_base.specs.declared.elements.Change.{Change}
use Rattle.per_base.specs.declared.elements.Change.TheVariants.{Put, Remove, Touch}
use Rattle.per_base.specs.Changes.{changed_name, change_at}
use Rattle.per_base.specs.Names.{NamesAscend}
use Rattle.element_state.specs.Changes.{entry_by_name, entry_name, touched, after_change, after_changes}
use Rattle.element_state.specs.States.{fresh_entry, fresh_element}
use Rattle.element_maps.specs.lemmas.Names.{same_names, eq_back}
use Rattle.element_maps.specs.lemmas.InOrder.{first, rest, item_named, item_above, item_put, item_without}
use Rattle.element_maps.specs.lemmas.InOrder.{item_map, ascends_put, ascends_without, ascends_map}

-- the entry of one name after a change of this name
abbrev pub informed : (generation : ℕ) → FileInfo → Entry → Entry
informed generation info e = record e { info = Some info; changed = generation; lacking = [] }

abbrev pub changed_entry : (generation : ℕ) → Change → Option Entry → Option Entry
changed_entry generation (Put f) e = Some (fresh_entry generation (fresh_element f))
changed_entry generation (Remove name) e = None
changed_entry generation (Touch name info) e = option_map (informed generation info) e

abbrev pub entry_after : (generation : ℕ) → Option Change → Option Entry → Option Entry
entry_after generation None e = e
entry_after generation (Some c) e = changed_entry generation c e

touched_name : (generation : ℕ) (name : List ℕ) (info : FileInfo) (e : Entry)
    → (touched generation name info e).name ≡ e.name
touched_name generation name info e = by (bytes_eq e.name name)
  where
    by : (b : Bool) → entry_name (cond b (informed generation info e) e) ≡ e.name
    by true = refl
    by false = refl

-- ---- one change

after_one : (generation : ℕ) (es : List Entry) (c : Change) (name : List ℕ)
    → entry_by_name name (after_change generation es c) ≡ cond (bytes_eq (changed_name c) name)
    (changed_entry generation c (entry_by_name name es)) (entry_by_name name es)
after_one generation es (Put f) name = item_put entry_name name (fresh_entry generation (fresh_element f)) es
after_one generation es (Remove other) name = item_without entry_name name other es
after_one generation es (Touch other info) name =
    item_map entry_name entry_name (touched generation other info) (touched_name generation other info) name es
    ∙ by (entry_by_name name es) (λ e is. item_named entry_name name es e is)
  where
    at_one : (b : Bool) (e : Entry) → Some (cond b (informed generation info e) e)
        ≡ cond b (Some (informed generation info e)) (Some e)
    at_one true e = refl
    at_one false e = refl

    none : (b : Bool) → let no : Option Entry = None in no ≡ cond b no no
    none true = refl
    none false = refl

    by : (o : Option Entry) → ((e : Entry) → o ≡ Some e → e.name ≡ name)
        → option_map (touched generation other info) o ≡ cond (bytes_eq other name)
        (option_map (informed generation info) o) o
    by None named = none (bytes_eq other name)
    by (Some e) named = rw (ap (λ n. bytes_eq n other) (named e refl) ∙ eq_back name other)
        (at_one (bytes_eq other name) e)

ascends_one : (generation : ℕ) (es : List Entry) (c : Change) → NamesAscend entry_name es
    → NamesAscend entry_name (after_change generation es c)
ascends_one generation es (Put f) sorted = ascends_put entry_name (fresh_entry generation (fresh_element f)) es sorted
ascends_one generation es (Remove name) sorted = ascends_without entry_name name es sorted
ascends_one generation es (Touch name info) sorted = ascends_map entry_name entry_name (touched generation name info)
    (touched_name generation name info) es sorted

-- ---- all of them

pub ascends_after : (generation : ℕ) (es : List Entry) (cs : List Change) → NamesAscend entry_name es
    → NamesAscend entry_name (after_changes generation es cs)
ascends_after generation es [] sorted = sorted
ascends_after generation es (c ∷ cs) sorted = ascends_after generation (after_change generation es c) cs
    (ascends_one generation es c sorted)

pub after_all : (generation : ℕ) (es : List Entry) (cs : List Change) (name : List ℕ) → NamesAscend changed_name cs
    → entry_by_name name (after_changes generation es cs) ≡ entry_after generation (change_at name cs)
    (entry_by_name name es)
after_all generation es [] name sorted = refl
after_all generation es (c ∷ cs) name sorted =
    let later : entry_by_name name (after_changes generation (after_change generation es c) cs)
    ≡ entry_after generation (change_at name cs) (entry_by_name name (after_change generation es c)) =
    after_all generation (after_change generation es c) cs name (rest changed_name c cs sorted) in
    elim (cases_Bool (bytes_eq (changed_name c) name)) [
      | inl t ↦
          let none : change_at name cs ≡ None = subst (λ (n : List ℕ). change_at n cs ≡ None)
          (same_names (changed_name c) name t) (item_above changed_name (changed_name c) cs
          (first changed_name c cs sorted)) in
          let now : entry_by_name name (after_change generation es c)
          ≡ changed_entry generation c (entry_by_name name es) =
          after_one generation es c name ∙ rw t refl in
          later ∙ ap (λ o. entry_after generation o (entry_by_name name (after_change generation es c))) none ∙ now
          ∙ rw t refl
      | inr f ↦
          let now : entry_by_name name (after_change generation es c) ≡ entry_by_name name es =
          after_one generation es c name ∙ rw f refl in
          later ∙ ap (λ o. entry_after generation (change_at name cs) o) now ∙ rw f refl
    ]
