-- A storage that was just created is in use.
use Rattle.std.proofs.Common.{◌≡◌, ◌≤◌, ℕ, List, [], ◌∷◌, Bool, IsTrue, refl, sym, ap, ◌∙◌, subst, arith, Vec, Global}
use Rattle.std.specs.Prelude.{map, Some}
use Rattle.std.specs.List.{AllZip}
use Rattle.per_base.specs.declared.elements.Entry.{Entry}
use Rattle.per_base.specs.declared.elements.Fresh.{Fresh}
use Rattle.disk_model.specs.declared.place.Place.{Place}
use Rattle.disk_model.specs.Image.{Image}
use Rattle.disk_model.specs.Place.{area, IsNoSlot}
use Rattle.disk_model.specs.Frame.{Spares}
use Rattle.disk_model.specs.lemmas.Places.{area_no_slot}
use Rattle.guarded_cell.specs.declared.cell.Cell.{Cell}
use Rattle.guarded_cell.specs.Cells.{CellAt, IsCellOf}
use Rattle.guarded_cell.specs.Register.{IsAlone}
use Rattle.index_text.specs.declared.entries.Index.{Index}
use Rattle.index_text.specs.declared.entries.IndexEntry.{IndexEntry}
use Rattle.index_text.specs.Sizes.{area_blocks}
use Rattle.index_text.specs.Spelling.{index_text}
use Rattle.element_state.specs.declared.shapes.Shape.{Shape}
use Rattle.element_state.specs.declared.shapes.View.{View}
use Rattle.element_state.specs.States.{whole_view, fresh_entry, fresh_map, fresh_view}
use Rattle.element_state.specs.Chosen.{IsReadBy}
use Rattle.element_state.specs.Clean.{IsClean}
use Rattle.element_state.specs.Fit.{fit_index}
use Rattle.element_state.specs.Conditions.{IsShape, IsInUse}
use Rattle.element_store.specs.declared.store.Store.{Store}
use Rattle.element_store.specs.declared.hashing.KeptStates.{KeptStates}
use Rattle.element_store.proofs.Keeping.{none_kept_of}
use Rattle.element_store.specs.Plans.{IsWrittenEntry}
use Rattle.element_store.specs.Spelled.{ShowsFresh, IsTextOf}
use Rattle.element_store.specs.Stores.{AreTaken, IsUsed, view_in}
use Rattle.element_store.proofs.Fulls.{view_areas}
use Rattle.element_store.proofs.Made.{shown_still, whole_fresh, made_in_use}
use Rattle.element_store.proofs.Cleaned.{made_clean}

read_of_made : (copies generation : ℕ) (contents : List Fresh) (entries : List IndexEntry)
    → AllZip (IsWrittenEntry generation) contents entries
    → AllZip (IsReadBy copies) entries (map (fresh_entry generation) (fresh_map contents))
read_of_made copies g [] [] zip = tt
read_of_made copies g [] (e ∷ es) zip = absurd zip
read_of_made copies g (f ∷ fs) [] zip = absurd zip
read_of_made copies g (f ∷ fs) (e ∷ es) zip = (
  record {
    name = sym zip.0.name;
    info = sym zip.0.info;
    changed = sym zip.0.changed;
    len = sym zip.0.len;
    value = sym zip.0.len;
    lacking = λ i lt. absurd (omega (arith, lt));
    ascend = λ i j less lt. absurd (omega (arith, lt));
  },
  read_of_made copies g fs es zip.1,
)

module _ (told : Bool) (mid image : Image) (shape : Shape) (generation : ℕ) (contents : List Fresh) (cell : Cell)
    (index : Index) (text : List ℕ)
    (is : IsShape shape) (of : IsCellOf shape.place generation cell) (spelled : IsTextOf shape text index)
    (held : IsTrue told → CellAt image cell text)
    (same : IsTrue told → Spares (IsNoSlot shape.place) mid image)
    (shown : IsTrue told → ShowsFresh mid shape.place shape.m generation contents index.entries) where
  alone : IsTrue told → IsAlone image shape.place generation (index_text index)
  alone tells =
      subst (λ (t : List ℕ). IsAlone image shape.place generation t) spelled.spelled
      (subst (λ (g : ℕ). IsAlone image shape.place g text) of.counts
      (subst (λ (p : Place). IsAlone image p cell.generation text) of.lies (held tells)))

  fit : fit_index shape (index_text index) ≡ Some index
  fit = subst (λ (t : List ℕ). fit_index shape t ≡ Some index) spelled.spelled spelled.fit

  shows : IsTrue told → ShowsFresh image shape.place shape.m generation contents index.entries
  shows tells = shown_still mid image shape.place shape.m generation
      (λ e. view_areas mid image shape.place shape.m e (λ c lt.
      same tells (area shape.place c) (area_no_slot shape.place c)))
      contents index.entries (shown tells)

  pub created_clean : IsTrue told → IsClean shape image
  created_clean tells = made_clean shape image generation contents index (alone tells) fit (shows tells)

  module _ (alloc : Global) (entries : Vec Entry Global) (set : List Bool)
      (taken : AreTaken (area_blocks shape.allowed) index.entries set)
      (made : AllZip (IsWrittenEntry generation) contents index.entries)
      (filled : entries.items ≡ map (fresh_entry generation) (fresh_map contents)) (least : 1 ≤ generation)
      (kept : Vec KeptStates Global) (none : kept.items ≡ []) where
    pub created_view : whole_view shape cell.generation entries.items ≡ fresh_view generation (fresh_map contents)
    created_view =
        ap (λ (g : ℕ). whole_view shape g entries.items) of.counts
        ∙ ap (λ (es : List Entry). whole_view shape generation es) filled
        ∙ whole_fresh shape generation (fresh_map contents)

    abbrev store : Store
    store = record {
      alloc = alloc;
      shape = shape;
      cell = cell;
      index = index;
      entries = entries;
      used = set;
      kept = kept;
    }

    created_now : IsUsed told image store
    created_now = record {
      memory = record {
        place = of.lies;
        shape = is;
        positive = (let counts = of.counts in omega (arith, counts, least));
        index = record { spelled = refl; rules = spelled.rules; fits = spelled.fits; fit = fit };
        entries = subst (λ (es : List Entry). AllZip (IsReadBy shape.place.copies) index.entries es) (sym filled)
            (read_of_made shape.place.copies generation contents index.entries made);
        taken = taken;
        kept = none_kept_of entries.items kept none;
      };
      disk = λ tells. subst (λ (v : View). IsInUse shape image index v) (sym created_view)
          (made_in_use shape image generation contents index is (alone tells) fit (shows tells));
    }

    pub created_used : (s : Store) → s ≡ record {
      alloc = alloc;
      shape = shape;
      cell = cell;
      index = index;
      entries =
          entries;
      used = set;
      kept = kept;
    } → IsUsed told image s
    created_used s e = subst (λ (x : Store). IsUsed told image x) (sym e) created_now

    pub created_shows : (s : Store) → s ≡ record {
      alloc = alloc;
      shape = shape;
      cell = cell;
      index = index;
      entries =
          entries;
      used = set;
      kept = kept;
    } → view_in s ≡ fresh_view generation (fresh_map contents)
    created_shows s e = ap (λ (x : Store). view_in x) e ∙ created_view
