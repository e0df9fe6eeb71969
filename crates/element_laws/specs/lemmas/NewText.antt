-- A text that is new on an image: what stands there under its entries, and what follows for the storage.
use Rattle.std.proofs.Common.{◌≡◌, ℕ, ◌+◌, ◌<◌, ◌≤◌, true, List, [], ◌∷◌, length, refl, sym, ap, subst}
use Rattle.std.specs.Prelude.{map, is_some}
use Rattle.std.specs.List.{AllZip, Contains, list_all}
use Rattle.std.proofs.lemmas.Bool.{le-leb}
use Rattle.per_base.specs.declared.elements.Scope.{Scope}
use Rattle.per_base.specs.declared.elements.Scope.TheVariants as scope
use Rattle.per_base.specs.declared.elements.Entry.{Entry}
use Rattle.per_base.specs.declared.elements.Content.TheVariants.{Good}
use Rattle.disk_model.specs.Image.{Image}
use Rattle.disk_model.specs.Damage.{AtLeast, IsUndamaged}
use Rattle.guarded_cell.specs.Register.{Holds}
use Rattle.guarded_cell.specs.lemmas.HeldLaws.{is_holds}
use Rattle.guarded_cell.specs.lemmas.StopLaws.{at_least_map}
use Rattle.index_text.specs.declared.entries.Index.{Index}
use Rattle.index_text.specs.declared.entries.IndexEntry.{IndexEntry}
use Rattle.element_state.specs.declared.shapes.Shape.{Shape}
use Rattle.element_state.specs.declared.shapes.View.{View}
use Rattle.element_state.specs.Views.{holds_text, counts, holds_all, supporters, qualifies, entry_view, view_of}
use Rattle.element_state.specs.Clean.{where_of}
use Rattle.element_state.specs.Kept.{heading, IsSpared, CostsNoCopy, IsHeaded}
use Rattle.element_laws.specs.lemmas.Lists.{true_both, In-list_all, zip_left, zip_with, zip_find}
use Rattle.element_laws.specs.lemmas.Copies.{CopyGives, Backed}
use Rattle.element_laws.specs.lemmas.Fits.{fit_at}
use Rattle.element_laws.specs.lemmas.Standing.{gift_of, DenotesView, HasBackedValue, index_heading}
use Rattle.element_laws.specs.lemmas.Left.{is_whole_at, never_listed, that_many}

-- what stands under an entry: the content is backed, and a good one is given whole by each copy outside the damage
pub record EntryStands (shape : Shape) (image : Image) (damaged : List ℕ) (e : IndexEntry) (f : Entry) : Type 0 where
  pub headed : IsHeaded e f
  pub backed : Backed shape.m shape.place.copies (gift_of image shape (where_of e)) f.content
  pub gives : (v : List ℕ) (c : ℕ) → f.content ≡ Good v → c < shape.place.copies
      → IsUndamaged damaged shape.place c
      → (is_whole_at image shape c (where_of e) ≡ true) × CopyGives (gift_of image shape (where_of e)) c v
  pub good : shape.scope ≡ scope.Storage → (v : List ℕ) × (f.content ≡ Good v)

headings_by : (shape : Shape) (image : Image) (damaged : List ℕ) (es : List IndexEntry) (fs : List Entry)
    → AllZip (EntryStands shape image damaged) es fs
    → map index_heading es ≡ map heading fs
headings_by shape image damaged [] [] h = refl
headings_by shape image damaged [] (f ∷ fs) h = absurd h
headings_by shape image damaged (e ∷ es) [] h = absurd h
headings_by shape image damaged (e ∷ es) (f ∷ fs) h = let one = h.0.headed in let rest =
    headings_by shape image damaged es fs h.1 in λ j. one j ∷ rest j

module _ (shape : Shape) (image : Image) (damaged : List ℕ) (g : ℕ) (t : List ℕ) (i : Index) (there : View)
    (stand : AllZip (EntryStands shape image damaged) i.entries there.entries) (generation_is : there.generation ≡ g)
  where
    pub new_stands : DenotesView shape image g i there
    new_stands = record {
      generation_is = sym generation_is;
      headings = headings_by shape image damaged i.entries there.entries stand;
      backed = zip_with (EntryStands shape image damaged) (λ e f.
          Backed shape.m shape.place.copies (gift_of image shape (where_of e)) f.content)
          i.entries there.entries (λ e f h k s. s.backed) stand;
    }

    pub new_enough : AtLeast (λ c. IsUndamaged damaged shape.place c) shape.place.copies shape.m
        → AllZip (HasBackedValue shape image damaged) i.entries there.entries
    new_enough some = zip_with (EntryStands shape image damaged)
        (HasBackedValue shape image damaged) i.entries there.entries
        (λ e f h k s v good enough. at_least_map (λ c. IsUndamaged damaged shape.place c)
        (λ c. CopyGives (gift_of image shape (where_of e)) c v) shape.place.copies shape.m
        (λ c lt spared. (s.gives v c good lt spared).1) some) stand

    costs_entry : 1 ≤ shape.m → (e : IndexEntry) (f : Entry) → EntryStands shape image damaged e f
        → (v : List ℕ) (copy : ℕ) → f.content ≡ Good v → copy < shape.place.copies
        → IsSpared shape damaged f.lacking copy → ¬ (Contains (entry_view image shape.place shape.m e).lacking
        (copy + 1))
    unfolding entry_view
    costs_entry positive e f s v copy good lt spared =
        let r = s.gives v copy good lt spared.0 in
        never_listed shape image (where_of e) v copy positive
        (subst (λ x. Backed shape.m shape.place.copies (gift_of image shape (where_of e)) x) good s.backed) r.0 r.1

    pub new_costs : 1 ≤ shape.m → CostsNoCopy shape damaged (view_of image shape (fit_at image shape g t i)) there
    unfolding view_of
    new_costs positive =
        zip_left (λ (e f : Entry). (v : List ℕ) (copy : ℕ) → f.content ≡ Good v → copy < shape.place.copies
        → IsSpared shape damaged f.lacking copy → ¬ (Contains e.lacking (copy + 1)))
        (entry_view image shape.place shape.m) i.entries there.entries
        (zip_with (EntryStands shape image damaged)
        (λ e f. (v : List ℕ) (copy : ℕ) → f.content ≡ Good v → copy < shape.place.copies
        → IsSpared shape damaged f.lacking copy
        → ¬ (Contains (entry_view image shape.place shape.m e).lacking (copy + 1)))
        i.entries there.entries (λ e f h k s. costs_entry positive e f s) stand)

    -- where each copy outside the damage holds the text, and that many are, it qualifies
    module _ (held : (c : ℕ) → c < shape.place.copies → IsUndamaged damaged shape.place c
        → Holds image shape.place c g t)
        (some : AtLeast (λ c. IsUndamaged damaged shape.place c) shape.place.copies shape.m) where
      text_held : (c : ℕ) → c < shape.place.copies → IsUndamaged damaged shape.place c
          → holds_text image shape.place (fit_at image shape g t i) c ≡ true
      text_held c lt spared = is_holds image shape.place c (g, t) (held c lt spared)

      all_held : shape.scope ≡ scope.Storage → (c : ℕ) → c < shape.place.copies
          → IsUndamaged damaged shape.place c
          → holds_all image shape.place (fit_at image shape g t i) c ≡ true
      all_held storage c lt spared =
          true_both (holds_text image shape.place (fit_at image shape g t i) c)
          (list_all (λ e. counts image shape.place e c) i.entries) (text_held c lt spared)
          (In-list_all (λ e. counts image shape.place e c) i.entries (λ e h.
          let (f, k, s) = zip_find (EntryStands shape image damaged) i.entries there.entries e stand h in
          let v = s.good storage in
          ap is_some (s.gives v.0 c v.1 lt spared).1))

      new_supported : (s : Scope) → shape.scope ≡ s → shape.m
          ≤ length (supporters s image shape.place (fit_at image shape g t i))
      new_supported scope.Element is = that_many (holds_text image shape.place (fit_at image shape g t i))
          shape.place.copies shape.m
          (at_least_map (λ c. IsUndamaged damaged shape.place c)
          (λ c. holds_text image shape.place (fit_at image shape g t i) c ≡ true) shape.place.copies shape.m
          text_held some)
      new_supported scope.Storage is = that_many (holds_all image shape.place (fit_at image shape g t i))
          shape.place.copies shape.m
          (at_least_map (λ c. IsUndamaged damaged shape.place c)
          (λ c. holds_all image shape.place (fit_at image shape g t i) c ≡ true) shape.place.copies shape.m
          (all_held is) some)

      pub new_qualifies : qualifies image shape (fit_at image shape g t i) ≡ true
      new_qualifies = le-leb shape.m (length (supporters shape.scope image shape.place (fit_at image shape g t i)))
          (new_supported shape.scope refl)
