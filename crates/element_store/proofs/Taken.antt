-- The blocks that the entries of an index take, as a set.
use Rattle.std.proofs.Common.{◌≡◌, ◌≢◌, ◌⊎◌, ℕ, zero, suc, ◌+◌, ◌-◌, ◌<◌, List, [], ◌∷◌, ◌++◌, length, get_or, take}
use Rattle.std.proofs.Common.{Bool, true, false, cond, eqb, refl, sym, ap, ◌∙◌, subst, arith, inl, inr, ⊎_elim}
use Rattle.std.proofs.Common.{length-append, eq-eqb, ne_eqb}
use Rattle.std.specs.Prelude.{replicate, not, ◌==◌, ◌||◌, ◌&&◌, nat_lt, nat_le}
use Rattle.std.specs.List.{All, list_all}
use Rattle.std.proofs.lemmas.Bool.{cases_lt, cases_eq, ltb-true}
use Rattle.std.proofs.lemmas.Grind.{flat_map-append}
use Rattle.std.proofs.lemmas.List.{get_or_append_left, get_or-append_right, take_more, append-nil, length-replicate}
use Rattle.std.proofs.lemmas.List.Concat.{get_or-flat_map}
use Rattle.std.proofs.lemmas.List.Sums.{sum_by-cons, AllPass-from_list_all}
use Rattle.std.proofs.lemmas.List.Folds.{list_any_at, length-flat_map-take}
use Rattle.per_base.specs.declared.elements.StoreKind.{StoreKind}
use Rattle.disk_model.specs.Orders.{named_in}
use Rattle.block_files.specs.BlockSets.{contains, free_of, IsNotAmong, IsAdded}
use Rattle.index_text.specs.declared.entries.IndexEntry.{IndexEntry}
use Rattle.index_text.specs.declared.entries.Index.{Index}
use Rattle.index_text.specs.Rules.{blocks_of}
use Rattle.index_text.specs.Sizes.{size_of, area_blocks, Fits}
use Rattle.index_text.specs.Spelling.{store_kind_code}
use Rattle.element_state.specs.declared.shapes.Shape.{Shape}
use Rattle.element_store.specs.Spelled.{IsTextOf}
use Rattle.element_store.specs.Stores.{AreTaken}

-- a block is one of a list, or none
pub cases_apart : (xs : List ℕ) (b : ℕ) → ((i : ℕ) × (i < length xs) × (get_or xs i 0 ≡ b)) ⊎ IsNotAmong xs b
cases_apart [] b = inr (λ i lt. absurd (omega (arith, lt)))
cases_apart (x ∷ xs) b = ⊎_elim
    (λ same. inl (0, omega arith, sym same))
    (λ other. ⊎_elim
    (λ found. let (i, lt, is) = found in inl (suc i, omega (arith, lt), is))
    (λ apart. inr (none other apart))
    (cases_apart xs b))
    (cases_eq b x)
  where
    none : b ≢ x → IsNotAmong xs b → IsNotAmong (x ∷ xs) b
    none other apart zero lt = other
    none other apart (suc i) lt = apart i (omega (arith, lt))

pub named_at : (xs : List ℕ) (b i : ℕ) → i < length xs → get_or xs i 0 ≡ b → named_in xs b ≡ true
named_at xs b i lt is = list_any_at (λ n. n == b) xs i 0 lt (eq-eqb (get_or xs i 0) b is)

pub unnamed : (xs : List ℕ) (b : ℕ) → IsNotAmong xs b → named_in xs b ≡ false
unnamed [] b apart = refl
unnamed (x ∷ xs) b apart =
    let here = ne_eqb x b (λ same. apart 0 (omega arith) (sym same)) in
    ap (λ (t : Bool). t || named_in xs b) here ∙ unnamed xs b (λ i lt. apart (suc i) (omega (arith, lt)))

none_held : (n b : ℕ) → contains (replicate n false) b ≡ false
none_held zero b = refl
none_held (suc n) zero = refl
none_held (suc n) (suc b) = none_held n b

pub none_free : (n : ℕ) → free_of (replicate n false) ≡ n
none_free zero = refl
none_free (suc n) = let more = sum_by-cons (λ (b : Bool). cond {A = ℕ} (not b) 1 0) false (replicate n false) in
    let rest = none_free n in omega (arith, more, rest)

-- blocks that are added after others
pub added_both : (xs ys : List ℕ) (old now new : List Bool) → IsAdded xs old now → IsAdded ys now new
    → IsAdded (xs ++ ys) old new
added_both xs ys old now new one two =
    let long = length-append xs ys in
    record {
      added = λ i lt. ⊎_elim
          (λ inside. ap (contains new) (get_or_append_left xs ys 0 i inside) ∙ stays (get_or xs i 0)
          (one.added i inside))
          (λ out. ap (contains new) (get_or-append_right xs ys (length xs) i 0 refl out)
          ∙ two.added (i - length xs) (omega (arith, lt, long, out)))
          (cases_lt i (length xs));
      kept = λ b apart.
          two.kept b (λ i lt same. apart (length xs + i) (omega (arith, lt, long)) (same ∙ sym (right i)))
          ∙ one.kept b (λ i lt same. apart i (omega (arith, lt, long)) (same ∙ sym (get_or_append_left xs ys 0 i lt)));
      capacity = two.capacity ∙ one.capacity;
      free = (let a = one.free in let b = two.free in omega (arith, a, b, long));
    }
  where
    right : (i : ℕ) → get_or (xs ++ ys) (length xs + i) 0 ≡ get_or ys i 0
    right i =
        let e : length xs + i - length xs ≡ i = omega arith in
        get_or-append_right xs ys (length xs) (length xs + i) 0 refl (omega arith) ∙ ap (λ k. get_or ys k 0) e

    stays : (b : ℕ) → contains now b ≡ true → contains new b ≡ true
    stays b is = ⊎_elim
        (λ found. let (i, lt, at) = found in subst (λ (k : ℕ). contains new k ≡ true) at (two.added i lt))
        (λ apart. two.kept b apart ∙ is)
        (cases_apart ys b)

-- one more entry
pub entry_added : (es : List IndexEntry) (i : ℕ) (e : IndexEntry) (old now new : List Bool) → i < length es
    → e ≡ get_or es i e
    → IsAdded (blocks_of (take i es)) old now → IsAdded e.blocks now new → IsAdded (blocks_of (take (i + 1) es)) old new
entry_added es i e old now new lt is were more =
    let split : take (i + 1) es ≡ take i es ++ e ∷ [] = take_more es i e lt
    ∙ ap (λ (x : IndexEntry). take i es ++ x ∷ []) (sym is) in
    let joined : blocks_of (take i es ++ e ∷ []) ≡ blocks_of (take i es) ++ e.blocks =
    flat_map-append (λ (x : IndexEntry). x.blocks) (take i es) (e ∷ [])
    ∙ ap (λ (bs : List ℕ). blocks_of (take i es) ++ bs) (append-nil e.blocks) in
    subst (λ (bs : List ℕ). IsAdded bs old new) (sym (ap blocks_of split ∙ joined))
    (added_both (blocks_of (take i es)) e.blocks old now new were more)

-- each block of an entry is as all of them are
pub entry_below : (es : List IndexEntry) (i : ℕ) (e : IndexEntry) (n : ℕ) → All (λ b. b < n) (blocks_of es)
    → i < length es → e ≡ get_or es i e → All (λ b. b < n) e.blocks
entry_below es i e n all lt is k d less =
    let f = λ (x : IndexEntry). x.blocks in
    let inside : k < length (f (get_or es i e)) = subst (λ (x : IndexEntry). k < length x.blocks) is less in
    let at = get_or-flat_map f es i k e d lt inside ∙ ap (λ (x : IndexEntry). get_or x.blocks k d) (sym is) in
    let room = length-flat_map-take f es i e lt in
    subst (λ (b : ℕ). b < n) at (all (length (blocks_of (take i es)) + k) d (omega (arith, inside, room)))

-- the set of all of them
pub taken_by : (capacity : ℕ) (es : List IndexEntry) (set : List Bool)
    → IsAdded (blocks_of es) (replicate capacity false) set → AreTaken capacity es set
taken_by capacity es set added = record {
  capacity = added.capacity ∙ length-replicate capacity false;
  exact = λ b. ⊎_elim
      (λ found. let (i, lt, at) = found in subst (λ (k : ℕ). contains set k ≡ true) at (added.added i lt)
      ∙ sym (named_at (blocks_of es) b i lt at))
      (λ apart. added.kept b apart ∙ none_held capacity b ∙ sym (unnamed (blocks_of es) b apart))
      (cases_apart (blocks_of es) b);
  free = (let a = added.free in let all = none_free capacity in omega (arith, a, all));
}

-- the blocks of an index that fits are in the area
second : (a b : Bool) → (a && b) ≡ true → b ≡ true
second true b is = is
second false b is = absurd (not_both is)
  where
    not_both : false ≡ true → ⊥
    not_both e = cc

pub fits_below : (kind : StoreKind) (allowed : ℕ) (index : Index) → Fits kind allowed index
    → All (λ b. b < area_blocks allowed) (blocks_of index.entries)
fits_below kind allowed index fit k d lt =
    let three = list_all (λ b. nat_lt b (area_blocks allowed)) (blocks_of index.entries) in
    let all : three ≡ true = second (eqb (store_kind_code index.kind) (store_kind_code kind)
    && nat_le (size_of index.entries) allowed) three fit in
    ltb-true (get_or (blocks_of index.entries) k d) (area_blocks allowed)
    (AllPass-from_list_all (λ b. nat_lt b (area_blocks allowed)) (blocks_of index.entries) all k d lt)

-- as the set of an index that was spelled asks, and as it is
pub taken_below : (shape : Shape) (text : List ℕ) (index : Index) (es : List IndexEntry) (blocks : ℕ)
    → IsTextOf shape text index → es ≡ index.entries → blocks ≡ area_blocks shape.allowed
    → All (λ b. b < blocks) (blocks_of es)
taken_below shape text index es blocks is same many =
    subst (λ (xs : List IndexEntry). All (λ b. b < blocks) (blocks_of xs)) (sym same)
    (subst (λ (n : ℕ). All (λ b. b < n) (blocks_of index.entries)) (sym many)
    (fits_below shape.kind shape.allowed index is.fits))

pub taken_area : (shape : Shape) (index : Index) (es : List IndexEntry) (blocks : ℕ) (set : List Bool)
    → es ≡ index.entries → blocks ≡ area_blocks shape.allowed
    → AreTaken blocks es set → AreTaken (area_blocks shape.allowed) index.entries set
taken_area shape index es blocks set same many taken =
    subst (λ (xs : List IndexEntry). AreTaken (area_blocks shape.allowed) xs set) same
    (subst (λ (n : ℕ). AreTaken n es set) many taken)
