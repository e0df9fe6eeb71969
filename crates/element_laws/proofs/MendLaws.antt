-- Contents that are mended in place, after their text was adopted.
use Rattle.std.proofs.Common.{◌≡◌, ◌≢◌, ℕ, zero, suc, ◌+◌, ◌-◌, ◌*◌, ◌<◌, ◌≤◌, ◌⊎◌, Bool, true, false, cond, List, []}
use Rattle.std.proofs.Common.{◌∷◌, ◌++◌, length, get_or, Option, Some, None, refl, sym, ap, subst, ◌∙◌, inl, inr, arith}
use Rattle.std.proofs.Common.{eq-eqb, ne_eqb}
use Rattle.std.specs.Prelude.{slice_index, nat_eq}
use Rattle.std.specs.List.{Contains, IsDistinct, flat_map}
use Rattle.std.proofs.lemmas.Bool.{cases_eq, cases_Bool}
use Rattle.std.proofs.lemmas.List.Elements.{Contains-get_or}
use Rattle.std.proofs.lemmas.List.{length-take-le}
use Rattle.disk_model.specs.Image.{Image}
use Rattle.disk_model.specs.Case.{Case, IsSettledAt}
use Rattle.disk_model.specs.Frame.{Keeps, Tears}
use Rattle.disk_model.specs.Orders.{named_in}
use Rattle.disk_model.specs.Place.{slot, area, IsNoArea}
use Rattle.disk_model.specs.declared.place.Place.{Place}
use Rattle.hash_guard.specs.SealedText.{VerifiesAs}
use Rattle.guarded_cell.specs.Register.{Holds, own}
use Rattle.guarded_cell.specs.lemmas.StopLaws.{alone_only}
use Rattle.block_files.specs.Aside.{Where, AsideLaw}
use Rattle.block_files.specs.Areas.{block, joined, has_all_bytes, IsFull, area_of}
use Rattle.block_files.specs.lemmas.AsideLaws.{counting_same}
use Rattle.block_files.specs.lemmas.Joined.{length-blocks}
use Rattle.block_files.specs.Contents.{counting, AreCopies}
use Rattle.block_files.specs.BlockSets.{IsNotAmong}
use Rattle.block_files.specs.Writes.{IsNoneOf}
use Rattle.index_text.specs.declared.entries.Index.{Index}
use Rattle.index_text.specs.declared.entries.IndexEntry.{IndexEntry}
use Rattle.index_text.specs.Rules.{IsIndex, blocks_of}
use Rattle.element_state.specs.declared.shapes.Shape.{Shape}
use Rattle.element_state.specs.Views.{entry_view, given}
use Rattle.m_of_n.specs.Vote.{voted}
use Rattle.element_state.specs.Clean.{where_of, in_blocks, IsNamed, SomeCopyCounts, HasNoTwins}
use Rattle.element_laws.specs.Phases.{KeepsBlockBytes, KeepsBlocksWhole, lacked, TakesMend, HasMended, IsSparing}
use Rattle.element_laws.specs.Phases.{IsMending}
use Rattle.element_laws.specs.Phases.{MendStartLaw, MendStepLaw, MendSyncLaw, MendLaw}
use Rattle.element_laws.specs.lemmas.Lists.{Contains-In, In, all_by, all_in, append-In, flat_map-In, map-In, not_false}
use Rattle.element_laws.specs.lemmas.Lists.{not_none, some_is}
use Rattle.element_laws.specs.lemmas.Copies.{CopyGives, named_Contains, Contains_named, voted_given}
use Rattle.element_laws.specs.lemmas.Fits.{fit-spelled}
use Rattle.element_laws.specs.lemmas.Standing.{gift_of}
use Rattle.element_laws.specs.lemmas.Left.{is_whole_at, value_at, never_listed}
use Rattle.element_laws.specs.lemmas.Keeping.{HoldsOnly, IsLess}
use Rattle.element_laws.specs.lemmas.Frames.{slot_no_area, area_no_slot, its_blocks, given_piece, less_decays}
use Rattle.element_laws.specs.lemmas.Phases.{less_kept, room, named_entry}
use Rattle.element_laws.specs.lemmas.IndexLaws.{names_it}

-- ---- blocks of different entries are apart

distinct_heads : (x : ℕ) (xs ys : List ℕ) → IsDistinct nat_eq ((x ∷ xs) ++ ys) → (y : ℕ) → In y ys → x ≡ y → ⊥
unfolding IsDistinct
distinct_heads x xs ys d y h e = not_false (sym (all_in (λ (y : ℕ). nat_eq x y ≡ false) (xs ++ ys) d.0 y
    (append-In y xs ys (inr h))) ∙ eq-eqb x y e)

distinct_tail : (x : ℕ) (xs : List ℕ) → IsDistinct nat_eq (x ∷ xs) → IsDistinct nat_eq xs
unfolding IsDistinct
distinct_tail x xs d = d.1

distinct_parts : (xs ys : List ℕ) → IsDistinct nat_eq (xs ++ ys) → (x y : ℕ) → In x xs → In y ys → x ≡ y → ⊥
distinct_parts [] ys d x y h k e = h
distinct_parts (z ∷ xs) ys d x y (inl same) k e = distinct_heads z xs ys d y k (same ∙ e)
distinct_parts (z ∷ xs) ys d x y (inr h) k e = distinct_parts xs ys (distinct_tail z (xs ++ ys) d) x y h k e

distinct_rest : (xs ys : List ℕ) → IsDistinct nat_eq (xs ++ ys) → IsDistinct nat_eq ys
distinct_rest [] ys d = d
distinct_rest (x ∷ xs) ys d = distinct_rest xs ys (distinct_tail x (xs ++ ys) d)

abbrev AreApart : IndexEntry → IndexEntry → Type 0
AreApart e f = (a b : ℕ) → In a e.blocks → In b f.blocks → a ≡ b → ⊥

two_entries : (es : List IndexEntry) (e f : IndexEntry) → IsDistinct nat_eq (blocks_of es) → In e es → In f es
    → (e ≡ f) ⊎ AreApart e f
two_entries [] e f d h k = absurd h
two_entries (x ∷ es) e f d (inl p) (inl q) = inl (sym p ∙ q)
two_entries (x ∷ es) e f d (inl p) (inr k) = inr (λ a b ha hb same. distinct_parts x.blocks (blocks_of es) d a b
    (subst (λ (y : IndexEntry). In a y.blocks) (sym p) ha) (flat_map-In (λ (y : IndexEntry). y.blocks) f b es k hb)
    same)
two_entries (x ∷ es) e f d (inr h) (inl q) = inr (λ a b ha hb same. distinct_parts x.blocks (blocks_of es) d b a
    (subst (λ (y : IndexEntry). In b y.blocks) (sym q) hb) (flat_map-In (λ (y : IndexEntry). y.blocks) e a es h ha)
    (sym same))
two_entries (x ∷ es) e f d (inr h) (inr k) = two_entries es e f (distinct_rest x.blocks (blocks_of es) d) h k

In-index : (xs : List ℕ) (i : ℕ) → i < length xs → In (slice_index xs i) xs
In-index xs i lt = Contains-In (slice_index xs i) xs (Contains-get_or xs i 0 lt)

-- ---- one mend more

keeps_all : (blocks file : List ℕ) → KeepsBlockBytes blocks file file
keeps_all blocks file = record { bytes = λ i j lt small inside. refl; no_shorter = omega arith }

keeps_on : (blocks old mid new : List ℕ) → KeepsBlockBytes blocks old mid → KeepsBlockBytes blocks mid new
    → KeepsBlockBytes blocks old new
keeps_on blocks old mid new a b = record {
  bytes = λ i j lt small inside. let longer = a.no_shorter in
      b.bytes i j lt small (omega (arith, inside, longer)) ∙ a.bytes i j lt small inside;
  no_shorter = let x = a.no_shorter in let y = b.no_shorter in omega (arith, x, y);
}

whole_all : (blocks file : List ℕ) → KeepsBlocksWhole blocks file file
whole_all blocks file = record { bytes = λ i j lt small. refl; no_shorter = omega arith }

whole_on : (blocks old mid new : List ℕ) → KeepsBlocksWhole blocks old mid → KeepsBlocksWhole blocks mid new
    → KeepsBlocksWhole blocks old new
whole_on blocks old mid new a b = record {
  bytes = λ i j lt small. b.bytes i j lt small ∙ a.bytes i j lt small;
  no_shorter = let x = a.no_shorter in let y = b.no_shorter in omega (arith, x, y);
}

whole_torn : (blocks old new : List ℕ) → KeepsBlocksWhole blocks old new → KeepsBlockBytes blocks old new
whole_torn blocks old new keeps = record {
  bytes = λ i j lt small inside. keeps.bytes i j lt small;
  no_shorter =
      keeps.no_shorter;
}

-- the copy's area is none of those of the numbers
is_none : (place : Place) (copy : ℕ) (numbers : List ℕ) → AreCopies place.copies numbers
    → ¬ (Contains numbers (copy + 1))
    → IsNoneOf place numbers (area place copy)
is_none place copy numbers are absent i lt e = absent
    (subst (λ (n : ℕ). Contains numbers n) (same (slice_index numbers i) (are i lt).0 e)
    (Contains-get_or numbers i 0 lt))
  where
    same : (n : ℕ) → 1 ≤ n → area place copy ≡ area_of place n → n ≡ copy + 1
    same n some e = omega (arith, some, e)

no_area_none : (place : Place) (numbers : List ℕ) (f : ℕ) → AreCopies place.copies numbers → IsNoArea place f
    → IsNoneOf place numbers f
no_area_none place numbers f are none i lt e = let r =
    are i lt in none (slice_index numbers i - 1) (omega (arith, r.0, r.1)) e

module _ (shape : Shape) (start now : Image) (index : Index) (e : IndexEntry) (value : List ℕ)
    (is_index : IsIndex index) (there : Contains index.entries e)
    (agreed : voted shape.m (given start shape.place e) ≡ Some value)
    (are : AreCopies shape.place.copies (lacked shape start e)) where
  abbrev spared : ℕ → Type 0
  spared = IsNoneOf shape.place (lacked shape start e)

  -- an entry beside the one that is mended: either it is that one, and the area is spared, or their blocks are apart
  beside : (f : IndexEntry) → In f index.entries → (copy : ℕ) → ¬ (TakesMend shape start f copy)
      → spared (area shape.place copy) ⊎ ((i : ℕ) → i < length f.blocks
      → IsNotAmong e.blocks (slice_index f.blocks i))
  beside f h copy untaken = elim (two_entries index.entries e f is_index.blocks_apart
      (Contains-In e index.entries there) h) [
        | inl same ↦
            let gone = subst (λ (x : IndexEntry). ¬ (TakesMend shape start x copy)) (sym same) untaken in
            inl (is_none shape.place copy (lacked shape start e) are
            (λ listed. gone (record { value = value; agreed = agreed; listed = listed })))
        | inr apart ↦ inr (λ i lti k ltk same. apart (slice_index e.blocks k) (slice_index f.blocks i)
            (In-index e.blocks k ltk) (In-index f.blocks i lti) (sym same))
      ]

  step_torn : (old new : Image) → Tears spared (IsNotAmong e.blocks) old new
      → IsSparing KeepsBlockBytes shape start now index old → IsSparing KeepsBlockBytes shape start now index new
  step_torn old new tears sparing = record {
    slots = λ f none. tears.files f (no_area_none shape.place (lacked shape start e) f are
        none) ∙ sparing.slots f none;
    kept = all_by _ index.entries (λ f h copy lt untaken.
        let at = area shape.place copy in
        keeps_on f.blocks (now at) (old at) (new at) (all_in _ index.entries sparing.kept f h copy lt untaken)
        (elim (beside f h copy untaken) [
          | inl same ↦ subst (λ (file : List ℕ). KeepsBlockBytes f.blocks (old at) file) (sym (tears.files at same))
              (keeps_all f.blocks (old at))
          | inr apart ↦ record {
            bytes = λ i j lti small inside. tears.bytes at (slice_index f.blocks i) j small (apart i lti) inside;
            no_shorter = tears.no_shorter at;
          }
        ]));
  }

  step_whole : (old new : Image) → Keeps spared (IsNotAmong e.blocks) old new
      → IsSparing KeepsBlocksWhole shape start now index old → IsSparing KeepsBlocksWhole shape start now index new
  step_whole old new keeps sparing = record {
    slots = λ f none. keeps.files f (no_area_none shape.place (lacked shape start e) f are
        none) ∙ sparing.slots f none;
    kept = all_by _ index.entries (λ f h copy lt untaken.
        let at = area shape.place copy in
        whole_on f.blocks (now at) (old at) (new at) (all_in _ index.entries sparing.kept f h copy lt untaken)
        (elim (beside f h copy untaken) [
          | inl same ↦ subst (λ (file : List ℕ). KeepsBlocksWhole f.blocks (old at) file) (sym (keeps.files at same))
              (whole_all f.blocks (old at))
          | inr apart ↦ record {
            bytes = λ i j lti small. keeps.bytes at (slice_index f.blocks i) j small (apart i lti);
            no_shorter = keeps.no_shorter at;
          }
        ]));
  }

pub mend_step : MendStepLaw
mend_step shape start now index e value old new is_index there agreed are mending keeps = record {
  durable = subst (λ (image : Image). (image ≡ now) ⊎ HasMended shape start image index) (sym keeps.base)
      mending.durable;
  base = subst (λ (image : Image). IsSparing KeepsBlocksWhole shape start now index image) (sym keeps.base)
      mending.base;
  full = step_whole shape start now index e value is_index there agreed are old.full new.full keeps.full mending.full;
  left = step_torn shape start now index e value is_index there agreed are old.left new.left keeps.left mending.left;
}

torn_of : (shape : Shape) (start now : Image) (index : Index) (image : Image)
    → IsSparing KeepsBlocksWhole shape start now index image → IsSparing KeepsBlockBytes shape start now index image
torn_of shape start now index image sparing = record {
  slots = sparing.slots;
  kept = all_by _ index.entries (λ f h copy lt untaken.
      whole_torn f.blocks (now (area shape.place copy)) (image (area shape.place copy))
      (all_in _ index.entries sparing.kept f h copy lt untaken));
}

sparing_now : (shape : Shape) (start now : Image) (index : Index) → IsSparing KeepsBlocksWhole shape start now index now
sparing_now shape start now index = record {
  slots = λ f none. refl;
  kept = all_by _ index.entries (λ e h copy lt untaken. whole_all e.blocks (now (area shape.place copy)));
}

settled_at : (shape : Shape) (start now : Image) (index : Index) (image : Image) (c : Case)
    → IsSparing KeepsBlocksWhole shape start now index image
    → (image ≡ now) ⊎ HasMended shape start image index → IsSettledAt image c → IsMending shape start now index c
settled_at shape start now index image c sparing durable settled = record {
  durable = subst (λ (im : Image). (im ≡ now) ⊎ HasMended shape start im index) (sym settled.base) durable;
  base = subst (λ (im : Image). IsSparing KeepsBlocksWhole shape start now index im) (sym settled.base) sparing;
  full = subst (λ (im : Image). IsSparing KeepsBlocksWhole shape start now index im) (sym settled.full) sparing;
  left = subst (λ (im : Image). IsSparing KeepsBlockBytes shape start now index im) (sym settled.left)
      (torn_of shape start now index image sparing);
}

pub mend_start : MendStartLaw
mend_start shape start now index c settled = settled_at shape start now index now c (sparing_now shape start now index)
    (inl refl) settled

pub mend_sync : MendSyncLaw
mend_sync shape start now index old new mending mended settled =
    settled_at shape start now index old.full new mending.full (inr mended) settled

-- ---- what a copy keeps in its blocks

swapped : ℕ → List ℕ → Image → Image
swapped f file image k = cond (nat_eq k f) file (image k)

swapped_here : (f : ℕ) (file : List ℕ) (image : Image) → swapped f file image f ≡ file
unfolding swapped
swapped_here f file image = ap (λ b. cond b file (image f)) (eq-eqb f f refl)

swapped_else : (f : ℕ) (file : List ℕ) (image : Image) (k : ℕ) → k ≢ f → swapped f file image k ≡ image k
unfolding swapped
swapped_else f file image k ne = ap (λ b. cond b file (image k)) (ne_eqb k f ne)

listed : (xs : List ℕ) (b i : ℕ) → i < length xs → get_or xs i b ≡ b → slice_index xs i ≡ b
listed [] b i lt e = absurd (omega (arith, lt))
listed (x ∷ xs) b zero lt e = e
listed (x ∷ xs) b (suc i) lt e = listed xs b i (omega (arith, lt)) e

still_there : AsideLaw → (e : IndexEntry) (place : Place) (copy : ℕ) (now : Image) (file : List ℕ) → copy < place.copies
    → e.len ≤ 256 * length e.blocks
    → KeepsBlockBytes e.blocks (now (area place copy)) file → has_all_bytes (now (area place copy)) e.blocks e.len
    ≡ true
    → (counting file e.blocks e.len e.hash ≡ counting (now (area place copy)) e.blocks e.len e.hash)
    × (has_all_bytes file e.blocks e.len ≡ true)
still_there aside e place copy now file lt enough keeps is =
    let f = area place copy in
    let then = swapped f file now in
    let taken = λ (k : ℕ). named_in e.blocks k in
    let tears : Tears (IsNoArea place) (λ k. taken k ≡ true) now then = record {
      files = λ k none. swapped_else f file now k (none copy lt);
      bytes = λ k b j small took inside. elim (cases_eq k f) [
        | inl same ↦
            let c = named_Contains e.blocks b took in
            let at : slice_index e.blocks c.0 ≡ b = listed e.blocks b c.0 c.1 c.2 in
            let here = ap (λ (x : ℕ). swapped f file now x) same ∙ swapped_here f file now in
            let was = ap (λ (x : ℕ). now x) same in
            ap (λ (xs : List ℕ). slice_index xs (256 * b + j)) here
            ∙ subst (λ (n : ℕ). 256 * n + j < length (now f)
            → slice_index file (256 * n + j) ≡ slice_index (now f) (256 * n + j)) at (keeps.bytes c.0 j c.1 small)
            (subst (λ (xs : List ℕ). 256 * b + j < length xs) was inside)
            ∙ ap (λ (xs : List ℕ). slice_index xs (256 * b + j)) (sym was)
        | inr other ↦ ap (λ (xs : List ℕ). slice_index xs (256 * b + j)) (swapped_else f file now k other)
      ];
      no_shorter = λ k. elim (cases_eq k f) [
        | inl same ↦
            let here = ap (λ (x : ℕ). swapped f file now x) same ∙ swapped_here f file now in
            subst (λ (x : ℕ). length (now x) ≤ length (then k)) (sym same)
            (subst (λ (xs : List ℕ). length (now f) ≤ length xs) (sym here) keeps.no_shorter)
        | inr other ↦ let e = ap length (swapped_else f file now k other) in omega (arith, e)
      ];
    } in
    let stands = aside place taken now (record { base = now; full = now; left = now })
    (record { base = now; full = now; left = then })
    (record { base = refl; full = refl; left = refl })
    (record {
      base = refl;
      full = record { files = λ k none. refl; bytes = λ k b j small took. refl; no_shorter = λ k. omega arith };
      left = tears;
    })
    (where_of e) (λ m ltm. Contains_named e.blocks (slice_index e.blocks m) (Contains-get_or e.blocks m 0 ltm)) enough f
    in
    subst (λ (xs : List ℕ). (counting xs e.blocks e.len e.hash ≡ counting (now f) e.blocks e.len e.hash)
    × (has_all_bytes xs e.blocks e.len ≡ true)) (swapped_here f file now) (stands.whole is)

-- after whole writes, nothing counts that did not count
still_same : AsideLaw → (e : IndexEntry) (place : Place) (copy : ℕ) (now : Image) (file w : List ℕ)
    → copy < place.copies
    → e.len ≤ 256 * length e.blocks
    → KeepsBlocksWhole e.blocks (now (area place copy)) file → counting file e.blocks e.len e.hash ≡ Some w
    → counting (now (area place copy)) e.blocks e.len e.hash ≡ Some w
still_same aside e place copy now file w lt enough keeps is =
    let f = area place copy in
    let then = swapped f file now in
    let taken = λ (k : ℕ). named_in e.blocks k in
    let whole : Keeps (IsNoArea place) (λ k. taken k ≡ true) now then = record {
      files = λ k none. swapped_else f file now k (none copy lt);
      bytes = λ k b j small took. elim (cases_eq k f) [
        | inl same ↦
            let c = named_Contains e.blocks b took in
            let at : slice_index e.blocks c.0 ≡ b = listed e.blocks b c.0 c.1 c.2 in
            let here = ap (λ (x : ℕ). swapped f file now x) same ∙ swapped_here f file now in
            let was = ap (λ (x : ℕ). now x) same in
            ap (λ (xs : List ℕ). slice_index xs (256 * b + j)) here
            ∙ subst (λ (n : ℕ). slice_index file (256 * n + j) ≡ slice_index (now f) (256 * n + j)) at
            (keeps.bytes c.0 j c.1 small)
            ∙ ap (λ (xs : List ℕ). slice_index xs (256 * b + j)) (sym was)
        | inr other ↦ ap (λ (xs : List ℕ). slice_index xs (256 * b + j)) (swapped_else f file now k other)
      ];
      no_shorter = λ k. elim (cases_eq k f) [
        | inl same ↦
            let here = ap (λ (x : ℕ). swapped f file now x) same ∙ swapped_here f file now in
            subst (λ (x : ℕ). length (now x) ≤ length (then k)) (sym same)
            (subst (λ (xs : List ℕ). length (now f) ≤ length xs) (sym here) keeps.no_shorter)
        | inr other ↦ let e = ap length (swapped_else f file now k other) in omega (arith, e)
      ];
    } in
    let stands = aside place taken now (record { base = now; full = now; left = now })
    (record { base = now; full = then; left = now })
    (record { base = refl; full = refl; left = refl })
    (record {
      base = refl;
      full = whole;
      left = record { files = λ k none. refl; bytes = λ k b j small took inside. refl; no_shorter = λ k. omega arith };
    })
    (where_of e) (λ m ltm. Contains_named e.blocks (slice_index e.blocks m) (Contains-get_or e.blocks m 0 ltm)) enough f
    in
    stands.piece w (inr (subst (λ (xs : List ℕ). counting xs e.blocks e.len e.hash ≡ Some w)
    (sym (swapped_here f file now)) is))

-- whether a copy is mended
mended_or_not : (shape : Shape) (start : Image) (e : IndexEntry) (copy : ℕ)
    → TakesMend shape start e copy ⊎ ¬ (TakesMend shape start e copy)
mended_or_not shape start e copy = go (voted shape.m (given start shape.place e)) refl
  where
    go : (o : Option (List ℕ)) → voted shape.m (given start shape.place e) ≡ o
        → TakesMend shape start e copy ⊎ ¬ (TakesMend shape start e copy)
    go None none = inr (λ takes. not_none takes.value (sym takes.agreed ∙ none))
    go (Some v) agreed = elim (cases_Bool (named_in (lacked shape start e) (copy + 1))) [
      | inl listed ↦ inl (record {
        value = v;
        agreed = agreed;
        listed =
            named_Contains (lacked shape start e) (copy + 1) listed;
      })
      | inr unlisted ↦ inr (λ takes. not_false (sym unlisted
          ∙ Contains_named (lacked shape start e) (copy + 1) takes.listed))
    ]

-- a copy that gave a content whole did not lack it
not_lacked : (shape : Shape) (start : Image) (e : IndexEntry) (v : List ℕ) (copy : ℕ) → 1 ≤ shape.m
    → ((b : ℕ) (w : List ℕ) → b < shape.place.copies → CopyGives (gift_of start shape (where_of e)) b w → w ≡ v)
    → is_whole_at start shape copy (where_of e) ≡ true → CopyGives (gift_of start shape (where_of e)) copy v
    → ¬ (Contains (lacked shape start e) (copy + 1))
unfolding entry_view
not_lacked shape start e v copy positive only whole gives =
    never_listed shape start (where_of e) v copy positive only whole gives

-- ---- the value of a content is durable, also while it is mended

-- what a copy counts are its bytes
counted_is : (file blocks : List ℕ) (len : ℕ) (hash v : List ℕ) → counting file blocks len hash ≡ Some v
    → joined file blocks len ≡ v
unfolding counting
counted_is file blocks len hash v e = given_if _ (joined file blocks len) v e
  where
    given_if : (b : Bool) (x v : List ℕ) → cond b (Some x) None ≡ Some v → x ≡ v
    given_if true x v e = some_is x v e
    given_if false x v e = absurd (not_none v (sym e))

-- a copy that has all of a value which another one counts counts it
full_counts : (there file blocks : List ℕ) (len : ℕ) (hash v : List ℕ) → len ≤ 256 * length blocks
    → counting there blocks len hash ≡ Some v → IsFull file blocks v
    → counting file blocks len hash ≡ Some v
full_counts there file blocks len hash v enough gave full =
    let was = counted_is there blocks len hash v gave in
    let long : length v ≡ len = ap length (sym was) ∙ length-take-le len (flat_map (block there) blocks)
    (omega (arith, enough, length-blocks there blocks)) in
    counting_same there file blocks len hash (ap (joined file blocks) (sym long) ∙ full.bytes_are ∙ sym was) ∙ gave

module _ (shape : Shape) (start now : Image) (i : Index) (c : Case) (positive : 1 ≤ shape.m)
    (area_was : (copy : ℕ) → now (area shape.place copy) ≡ start (area shape.place copy))
    (is_index : IsIndex i) (mending : IsMending shape start now i c) (e : IndexEntry) (k : In e i.entries) (copy : ℕ)
    (lt : copy < shape.place.copies)
    (takes : TakesMend shape start e copy) where
  -- a copy that gave the value at the start
  abbrev giver : (b : ℕ) × (b < shape.place.copies) × CopyGives (gift_of start shape (where_of e)) b takes.value
  giver = voted_given shape.m shape.place.copies positive (gift_of start shape (where_of e)) takes.value takes.agreed

  counted_now : c.base ≡ now → SomeCopyCounts shape.place c (where_of e) takes.value
  counted_now same = record {
    copy = giver.0;
    inside = giver.1;
    counts = inl (subst (λ (file : List ℕ). counting file e.blocks e.len e.hash ≡ Some takes.value)
        (sym (ap (λ (image : Image). image (area shape.place giver.0)) same ∙ area_was giver.0)) giver.2);
  }

  counted_then : HasMended shape start c.base i → SomeCopyCounts shape.place c (where_of e) takes.value
  counted_then mended =
      let (n, ltn, at) = takes.listed in
      let number : slice_index (lacked shape start e) n ≡ copy + 1 =
      listed (lacked shape start e) (copy + 1) n ltn at in
      let back : copy + 1 - 1 ≡ copy = omega arith in
      let full : IsFull (c.base (area shape.place copy)) e.blocks takes.value =
      subst (λ (x : ℕ). IsFull (c.base (area shape.place x)) e.blocks takes.value) back
      (subst (λ (x : ℕ). IsFull (c.base (area_of shape.place x)) e.blocks takes.value) number
      (all_in _ i.entries mended e k takes.value takes.agreed n ltn)) in
      record {
        copy = copy;
        inside = lt;
        counts = inl (full_counts (start (area shape.place giver.0)) (c.base (area shape.place copy))
            e.blocks e.len e.hash takes.value (room i is_index e k) giver.2 full);
      }

  value_counted : SomeCopyCounts shape.place c (where_of e) takes.value
  value_counted = elim mending.durable [ inl same ↦ counted_now same | inr mended ↦ counted_then mended ]

  -- so that a mended copy gives no other
  mends_no_other : HasNoTwins shape.place c → IsNamed shape.place c.base (where_of e) → (w : List ℕ)
      → (counting (c.base (area shape.place copy)) e.blocks e.len e.hash ≡ Some w)
      ⊎ (counting (c.full (area shape.place copy)) e.blocks e.len e.hash ≡ Some w)
      → value_at start shape (where_of e) ≡ Some w
  mends_no_other twins named w from =
      takes.agreed ∙ ap (λ (bytes : List ℕ). Some bytes) (twins (where_of e) takes.value w named value_counted
      (record { copy = copy; inside = lt; counts = from }))

-- what base and full give was given at the start, or is the value
given_or_value : AsideLaw → (shape : Shape) (start now : Image) (i : Index) (c : Case) → 1 ≤ shape.m
    → ((copy : ℕ) → now (area shape.place copy) ≡ start (area shape.place copy))
    → IsIndex i → IsMending shape start now i c → HasNoTwins shape.place c → (e : IndexEntry) → In e i.entries
    → IsNamed shape.place c.base (where_of e)
    → (copy : ℕ) (w : List ℕ) → copy < shape.place.copies
    → (counting (c.base (area shape.place copy)) e.blocks e.len e.hash ≡ Some w)
    ⊎ (counting (c.full (area shape.place copy)) e.blocks e.len e.hash ≡ Some w)
    → CopyGives (gift_of start shape (where_of e)) copy w ⊎ (value_at start shape (where_of e) ≡ Some w)
given_or_value aside shape start now i c positive area_was is_index mending twins e k named copy w lt from =
    elim (mended_or_not shape start e copy) [
      | inl takes ↦ inr (mends_no_other shape start now i c positive area_was is_index mending e k copy lt takes twins
          named
          w from)
      | inr untaken ↦
          let at = area shape.place copy in
          let then : counting (now at) e.blocks e.len e.hash ≡ Some w = elim from [
            | inl base ↦ still_same aside e shape.place copy now (c.base at) w lt
                (room i is_index e k) (all_in _ i.entries mending.base.kept e k copy lt untaken) base
            | inr full ↦ still_same aside e shape.place copy now (c.full at) w lt
                (room i is_index e k) (all_in _ i.entries mending.full.kept e k copy lt untaken) full
          ] in
          inl (subst (λ (file : List ℕ). counting file e.blocks e.len e.hash ≡ Some w) (area_was copy) then)
    ]

-- ---- the law

pub mend : AsideLaw → MendLaw
mend aside shape start now g t i after c positive adopted is_index mending twins sound damaged image d =
    let place = shape.place in
    let copies = shape.place.copies in
    let opens = adopted.opens in
    let slot_same = λ (copy h : ℕ). mending.left.slots (slot place copy (own h)) (slot_no_area place copy h) in
    let area_was = λ (copy : ℕ). adopted.areas (area place copy) (area_no_slot place copy) in
    let only : HoldsOnly shape c.left g t = λ copy h u lt v.
    alone_only now place g t adopted.alone copy lt h u
    (subst (λ (bytes : List ℕ). VerifiesAs bytes h u) (slot_same copy h) v) in
    let spells = fit-spelled shape t i opens.fit in
    let base_slot = mending.base.slots (slot place opens.copy (own g)) (slot_no_area place opens.copy g) in
    let held_base : Holds c.base place opens.copy g t = subst (λ (bytes : List ℕ). VerifiesAs bytes g t) (sym base_slot)
    (adopted.alone.held opens.copy opens.inside) in
    let named_base = λ (e : IndexEntry) (k : In e i.entries).
    names_it shape c.base opens.copy g t i opens.inside held_base opens.fit (where_of e)
    (map-In where_of e i.entries k) in
    let less : IsLess shape g t damaged start c.left = record {
      held = λ copy h u lt v. inr (only copy h u lt v);
      counted = λ at is copy w lt gives.
          let (e, k, same) = named_entry shape c.left g t i spells only at is in
          let piece = sound (in_blocks (its_blocks shape copy at w))
          (given_piece shape copy at w c.left lt is gives) in
          let from : (counting (c.base (area place copy)) e.blocks e.len e.hash ≡ Some w)
          ⊎ (counting (c.full (area place copy)) e.blocks e.len e.hash ≡ Some w) =
          elim piece [
            | inl p ↦ inl (subst (λ (x : Where). counting (c.base (area place copy)) x.blocks x.len x.hash ≡ Some w)
                (sym same) p.counts)
            | inr p ↦ inr (subst (λ (x : Where). counting (c.full (area place copy)) x.blocks x.len x.hash ≡ Some w)
                (sym same) p.counts)
          ] in
          elim (given_or_value aside shape start now i c positive area_was is_index mending twins e k
          (named_base e k) copy w lt from) [
            | inl was ↦ inl (subst (λ (x : Where). CopyGives (gift_of start shape x) copy w) same was)
            | inr value ↦ inr (only, subst (λ (x : Where). value_at start shape x ≡ Some w) same value)
          ];
      text = λ copy lt spared v. subst (λ (bytes : List ℕ). VerifiesAs bytes g t) (sym (slot_same copy g))
          (adopted.alone.held copy lt);
      whole = λ j spelled e k copy v lt spared was gave.
          let one : j ≡ i = some_is j i (sym spelled ∙ spells) in
          let h = subst (λ (j : Index). In e j.entries) one k in
          let at = where_of e in
          let named = names_it shape start opens.copy g t i opens.inside opens.held opens.fit at
          (map-In where_of e i.entries h) in
          let absent = not_lacked shape start e v copy positive
          (λ b w ltb gives. adopted.clean.alike at b copy w v named ltb lt gives gave) was gave in
          let now_is = subst (λ (file : List ℕ). (has_all_bytes file at.blocks at.len ≡ true)
          × (counting file at.blocks at.len at.hash ≡ Some v)) (sym (area_was copy)) (was, gave) in
          let still = still_there aside e place copy now (c.left (area place copy)) lt (room i is_index e h)
          (all_in _ i.entries mending.left.kept e h copy lt (λ takes. absent takes.listed)) now_is.0 in
          (still.1, still.0 ∙ now_is.1);
    } in
    less_kept shape start image damaged g t i after positive adopted.clean opens
    (less_decays shape damaged c.left image d g t start less)
