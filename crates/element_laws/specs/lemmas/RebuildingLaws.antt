-- A corrupt storage that is rebuilt, and places that are clean.
use Rattle.std.proofs.Common.{◌≡◌, ℕ, ◌+◌, ◌*◌, ◌<◌, ◌≤◌, ◌⊎◌, Bool, true, List, [], length, Some, refl, sym, ap, subst}
use Rattle.std.proofs.Common.{◌∙◌, inl, inr, arith}
use Rattle.std.specs.Prelude.{map, slice_index}
use Rattle.disk_model.specs.Image.{Image}
use Rattle.disk_model.specs.Case.{Case, IsSettledAt}
use Rattle.disk_model.specs.Damage.{IsSoundFor, IsUndamaged}
use Rattle.disk_model.specs.Frame.{Keeps, KeepsCase}
use Rattle.disk_model.specs.Place.{slot, area, IsNoArea}
use Rattle.disk_model.specs.declared.place.Place.{Place}
use Rattle.hash_guard.specs.SealedText.{VerifiesAs}
use Rattle.std.proofs.lemmas.Bool.{cases_eq}
use Rattle.guarded_cell.specs.Register.{Holds, IsKeptAlone, own, other}
use Rattle.guarded_cell.specs.Stops.{KeepsText, IsOldOrNew}
use Rattle.guarded_cell.specs.lemmas.StopLaws.{alone_only}
use Rattle.block_files.specs.Aside.{Where, AsideLaw}
use Rattle.block_files.specs.Areas.{has_all_bytes}
use Rattle.block_files.specs.Contents.{counting}
use Rattle.index_text.specs.declared.entries.Index.{Index}
use Rattle.index_text.specs.declared.entries.IndexEntry.{IndexEntry}
use Rattle.index_text.specs.Reading.{index_of}
use Rattle.element_state.specs.declared.shapes.Shape.{Shape}
use Rattle.element_state.specs.Fit.{FitText, fit_index}
use Rattle.element_state.specs.Clean.{where_of, counting_at, IsNamed, IsPiece, in_blocks, SomeCopyCounts}
use Rattle.element_laws.specs.Phases.{IsSalvageAt, IsGivenUp, GivenUpLaw, IsContentWritten, TakesNamed, TakenBlocksLaw}
use Rattle.element_laws.specs.Phases.{RebuiltContentsLaw, RebuiltDoneLaw, RebuiltIndexLaw, AreAgreed, CleanLaw}
use Rattle.element_laws.specs.Phases.{AdoptedLaw, SoundLaw, SettledLaw}
use Rattle.element_laws.specs.lemmas.Lists.{In, In-Contains, nothing_listed, all_by, all_in, Contains-In, In-map}
use Rattle.element_laws.specs.lemmas.Lists.{map-In}
use Rattle.element_laws.specs.lemmas.Lists.{some_is, zip_with, zip_find}
use Rattle.element_laws.specs.lemmas.Copies.{CopyGives, backed_alike}
use Rattle.element_laws.specs.lemmas.Fits.{fit-spelled}
use Rattle.element_laws.specs.lemmas.Standing.{gift_of}
use Rattle.element_laws.specs.lemmas.Left.{is_whole_at, value_at}
use Rattle.element_laws.specs.lemmas.Keeping.{IsFewer, KeepsAll, WasHeld}
use Rattle.element_laws.specs.lemmas.Frames.{slot_no_area, area_no_slot, its_blocks, given_piece, fewer_decays}
use Rattle.element_laws.specs.lemmas.Frames.{keeps_decays}
use Rattle.element_laws.specs.lemmas.Phases.{fewer_kept, salvage_corrupt, one_salvage, salvage_held, room, sound_slots}
use Rattle.element_laws.specs.lemmas.Phases.{decays_slots, given_then, whole_then}
use Rattle.element_laws.specs.lemmas.NewText.{EntryStands}
use Rattle.element_laws.specs.lemmas.TwoTexts.{SalvageKept, two_clean, two_salvage, corrupt_two}
use Rattle.element_laws.specs.lemmas.IndexLaws.{names_it, written_stands}

-- a text that is held after all but one were taken away is that one, and was held
kept_alone : (place : Place) (g : ℕ) (t : List ℕ) (old new : Image) → IsKeptAlone place g t old new
    → (copy h : ℕ) (u : List ℕ) → copy < place.copies → Holds new place copy h u
    → (h ≡ g) × (u ≡ t) × Holds old place copy g t
kept_alone place g t old new alone copy h u lt v = elim (cases_eq (own h) (own g)) [
  | inl same ↦ alone.own_slots copy lt h u (subst (λ (p : ℕ). VerifiesAs (new (slot place copy p)) h u) same v)
  | inr differ ↦
      let e : own h ≡ other g = omega (arith, differ) in
      absurd (alone.blank copy lt h u (subst (λ (p : ℕ). VerifiesAs (new (slot place copy p)) h u) e v))
]

pub given_up : GivenUpLaw
given_up shape start now text clean salvage alone areas = (
  record {
    clean = clean;
    corrupt = salvage_corrupt shape start text salvage;
    less = λ copy lt h u v.
        let k = kept_alone shape.place text.0.generation text.0.text start now alone copy h u
        lt v in
        subst (λ (n : ℕ). Holds start shape.place copy n u) (sym k.0)
        (subst (λ (x : List ℕ). Holds start shape.place copy text.0.generation x) (sym k.1) k.2);
    salvage = λ other is. subst (λ (x : FitText). KeepsText shape.place x.0.generation x.0.text
        [] start now)
        (one_salvage shape start text other salvage is) (λ copy lt spared held. alone.held copy lt held);
    areas = areas;
  },
  λ copy h u lt v. let k = kept_alone shape.place text.0.generation text.0.text start now alone
      copy h u lt v in (k.0, k.1),
)

pub taken_named : TakenBlocksLaw
taken_named place image text index taken only spells is_index takes at is =
    let one : is.index ≡ index = some_is is.index index (sym is.spelled
    ∙ ap index_of (only is.copy is.generation is.text is.inside is.held) ∙ spells) in
    let (e, k, same) = In-map where_of at index.entries (subst (λ (j : Index). In at (map where_of j.entries)) one
    (Contains-In at (map where_of is.index.entries) is.named)) in
    subst (λ (x : Where). ((i : ℕ) → i < length x.blocks → taken (slice_index x.blocks i) ≡ true)
    × (x.len ≤ 256 * length x.blocks)) same (
      all_in (λ (e : IndexEntry). (i : ℕ) → i < length e.blocks → taken (slice_index e.blocks i) ≡ true) index.entries
          takes e k,
      room index is_index e k,
    )

-- contents are written, and what is named is spared
pub rebuilt_fewer : AsideLaw → (shape : Shape) (start now : Image) (taken : ℕ → Bool) (old c : Case)
    → IsGivenUp shape start now → TakesNamed taken shape.place now → IsSettledAt now old
    → KeepsCase (IsNoArea shape.place) (λ k. taken k ≡ true) old c
    → IsSoundFor (IsPiece shape.place) c → IsFewer shape start c.left
rebuilt_fewer aside shape start now taken old c given_up takes settled keeps sound =
    let place = shape.place in
    let copies = shape.place.copies in
    let slot_same = λ (copy h : ℕ). keeps.left.files (slot place copy (own h)) (slot_no_area place copy h)
    ∙ ap (λ (image : Image). image (slot place copy (own h))) settled.left in
    let held_now = λ (copy h : ℕ) (u : List ℕ) (v : Holds c.left place copy h u).
    subst (λ (bytes : List ℕ). VerifiesAs bytes h u) (slot_same copy h) v in
    let area_was = λ (copy : ℕ). given_up.areas (area place copy) (area_no_slot place copy) in
    record {
      held = λ copy lt h u v. given_up.less copy lt h u (held_now copy h u v);
      counted = λ at is copy w lt gives.
          let named_now : IsNamed shape.place now at = record {
            copy = is.copy;
            generation = is.generation;
            text = is.text;
            index = is.index;
            inside = is.inside;
            held = held_now is.copy is.generation is.text is.held;
            spelled = is.spelled;
            named = is.named;
          } in
          let took = takes at named_now in
          let stand = aside place taken now old c settled keeps at took.0 took.1 (area place copy) in
          let piece = sound (in_blocks (its_blocks shape copy at w)) (given_piece shape copy at w c.left lt is gives) in
          let from : (counting (c.base (area place copy)) at.blocks at.len at.hash ≡ Some w)
          ⊎ (counting (c.full (area place copy)) at.blocks at.len at.hash ≡ Some w) =
          elim piece [ inl p ↦ inl p.counts | inr p ↦ inr p.counts ] in
          subst (λ (file : List ℕ). counting file at.blocks at.len at.hash ≡ Some w) (area_was copy)
          (stand.piece w from);
    }

-- the copies that held the text of the salvage hold it, and give its contents as before
rebuilt_keeps : AsideLaw → (shape : Shape) (start now : Image) (taken : ℕ → Bool) (damaged : List ℕ) (old c : Case)
    → IsGivenUp shape start now → TakesNamed taken shape.place now → IsSettledAt now old
    → KeepsCase (IsNoArea shape.place) (λ k. taken k ≡ true) old c → (text : FitText)
    → IsSalvageAt shape start text
    → KeepsAll shape text.0.generation text.0.text damaged start c.left
rebuilt_keeps aside shape start now taken damaged old c given_up takes settled keeps text salvage =
    let place = shape.place in
    let copies = shape.place.copies in
    let slot_same = λ (copy h : ℕ). keeps.left.files (slot place copy (own h)) (slot_no_area place copy h)
    ∙ ap (λ (image : Image). image (slot place copy (own h))) settled.left in
    let area_was = λ (copy : ℕ). given_up.areas (area place copy) (area_no_slot place copy) in
    let still = λ (copy : ℕ) (lt : copy < place.copies) (held : Holds start place copy text.0.generation text.0.text).
    given_up.salvage text salvage copy lt (λ k small. nothing_listed (place.first + 4 * copy + k)) held in
    let at_text = salvage_held shape start text salvage in
    record {
      text = λ copy lt spared held. subst (λ (bytes : List ℕ). VerifiesAs bytes text.0.generation text.0.text)
          (sym (slot_same copy text.0.generation)) (still copy lt held);
      whole = λ i spells e k copy v lt spared was gave.
          let at = where_of e in
          let named : IsNamed shape.place now at = record {
            copy = at_text.0;
            generation = text.0.generation;
            text = text.0.text;
            index = i;
            inside = at_text.1;
            held = still at_text.0 at_text.1 at_text.2;
            spelled = spells;
            named = In-Contains at (map where_of i.entries) (map-In where_of e i.entries k);
          } in
          let took = takes at named in
          let stand = aside place taken now old c settled keeps at took.0 took.1 (area place copy) in
          let now_is = subst (λ (file : List ℕ). (has_all_bytes file at.blocks at.len ≡ true)
          × (counting file at.blocks at.len at.hash ≡ Some v)) (sym (area_was copy)) (was, gave) in
          let then = stand.whole now_is.0 in
          (then.1, then.0 ∙ now_is.1);
    }

pub rebuilt_contents : AsideLaw → RebuiltContentsLaw
rebuilt_contents aside shape start now taken after old c positive given_up takes settled keeps sound damaged image d =
    fewer_kept shape start image damaged after positive given_up.clean given_up.corrupt
    (fewer_decays shape damaged c.left image d start (rebuilt_fewer aside shape start now taken old c given_up takes
    settled keeps sound))
    (λ text is. keeps_decays shape damaged c.left image d text.0.generation text.0.text start
    (rebuilt_keeps aside shape start now taken damaged old c given_up takes settled keeps text is))

-- after whole writes, with nothing pending
whole_case : (shape : Shape) (now then : Image) (taken : ℕ → Bool)
    → Keeps (IsNoArea shape.place) (λ k. taken k ≡ true) now then
    → KeepsCase (IsNoArea shape.place) (λ k. taken k ≡ true)
    (record { base = now; full = now; left = now }) (record { base = now; full = then; left = then })
whole_case shape now then taken keeps = record {
  base = refl;
  full = keeps;
  left = record {
    files = keeps.files;
    bytes = λ f k j lt apart inside. keeps.bytes f k j lt apart;
    no_shorter =
        keeps.no_shorter;
  };
}

rebuilt_then : AsideLaw → (shape : Shape) (start now then : Image) (taken : ℕ → Bool) → IsGivenUp shape start now
    → TakesNamed taken shape.place now
    → Keeps (IsNoArea shape.place) (λ k. taken k ≡ true) now then → IsFewer shape start then
rebuilt_then aside shape start now then taken given_up takes keeps =
    rebuilt_fewer aside shape start now taken (record { base = now; full = now; left = now })
    (record { base = now; full = then; left = then }) given_up takes
    (record { base = refl; full = refl; left = refl }) (whole_case shape now then taken keeps) (λ x is. inr is)

keeps_then : AsideLaw → (shape : Shape) (start now then : Image) (taken : ℕ → Bool) (damaged : List ℕ)
    → IsGivenUp shape start now → TakesNamed taken shape.place now
    → Keeps (IsNoArea shape.place) (λ k. taken k ≡ true) now then → (text : FitText)
    → IsSalvageAt shape start text
    → KeepsAll shape text.0.generation text.0.text damaged start then
keeps_then aside shape start now then taken damaged given_up takes keeps =
    rebuilt_keeps aside shape start now taken damaged (record { base = now; full = now; left = now })
    (record { base = now; full = then; left = then }) given_up takes
    (record { base = refl; full = refl; left = refl }) (whole_case shape now then taken keeps)

pub rebuilt_done : AsideLaw → RebuiltDoneLaw
rebuilt_done aside shape start now then taken after c positive given_up takes keeps settled sound damaged image d =
    fewer_kept shape start image damaged after positive given_up.clean given_up.corrupt
    (fewer_decays shape damaged c.left image d start (subst (λ (im : Image). IsFewer shape start im) (sym settled.left)
    (rebuilt_then aside shape start now then taken given_up takes keeps)))
    (λ text is. keeps_decays shape damaged c.left image d text.0.generation text.0.text start
    (subst (λ (im : Image). KeepsAll shape text.0.generation text.0.text damaged start im) (sym settled.left)
    (keeps_then aside shape start now then taken damaged given_up takes keeps text is)))

-- a text is one of before, below the new generation, or the new one
old_or_rebuilt : (shape : Shape) (start then new : Image) (g : ℕ) (next : List ℕ) → IsFewer shape start then
    → ((copy h : ℕ) (u : List ℕ) → copy < shape.place.copies → Holds then shape.place copy h u → h < g)
    → ((copy h : ℕ) (u : List ℕ) → copy < shape.place.copies → Holds new shape.place copy h u
    → Holds then shape.place copy h u ⊎ ((h ≡ g) × (u ≡ next)))
    → (copy h : ℕ) (u : List ℕ) → copy < shape.place.copies → Holds new shape.place copy h u
    → (WasHeld shape start h u × (h ≡ g → ⊥)) ⊎ ((h ≡ g) × (u ≡ next))
old_or_rebuilt shape start then new g next fewer low known copy h u lt v = elim (known copy h u lt v) [
  | inl was ↦
      let less = low copy h u lt was in
      inl (record { copy = copy; inside = lt; holds = fewer.held copy lt h u was }, λ e. omega (arith, less, e))
  | inr newer ↦ inr newer
]

still_held : (shape : Shape) (then new : Image) (g : ℕ) (next : List ℕ)
    → ((copy h : ℕ) (u : List ℕ) → copy < shape.place.copies → Holds new shape.place copy h u
    → Holds then shape.place copy h u ⊎ ((h ≡ g) × (u ≡ next)))
    → (copy h : ℕ) (u : List ℕ) → copy < shape.place.copies → (h ≡ g → ⊥) → Holds new shape.place copy h u
    → Holds then shape.place copy h u
still_held shape then new g next known copy h u lt apart v =
    elim (known copy h u lt v) [ inl was ↦ was | inr newer ↦ absurd (apart newer.0) ]

as_given : (shape : Shape) (start : Image) (at : Where) (copy : ℕ) (w : List ℕ)
    → CopyGives (gift_of start shape at) copy w
    → CopyGives (gift_of start shape at) copy w ⊎ (value_at start shape at ≡ Some w)
as_given shape start at copy w gives = inl gives

pub rebuilt_index : AsideLaw → RebuiltIndexLaw
rebuilt_index aside shape start now then taken g next new_index view others c positive given_up takes below next_is
    keeps fit generation_is entries stops sound damaged image d =
    let place = shape.place in
    let copies = shape.place.copies in
    let fewer = rebuilt_then aside shape start now then taken given_up takes keeps in
    let it : IsOldOrNew place g next damaged then image =
    stops.slots (sound_slots shape c sound) damaged image (decays_slots shape c damaged image d) in
    let same = λ (copy : ℕ). stops.elsewhere.left (area place copy) (area_no_slot place copy) in
    let given = λ (at : Where) (is : IsNamed shape.place image at) (copy : ℕ) (w : List ℕ) (lt : copy < place.copies)
    (gives : CopyGives (gift_of image shape at) copy w).
    given_then shape then c.left image damaged same d at is copy w lt gives in
    let whole = λ (at : Where) (copy : ℕ) (v : List ℕ) (spared : IsUndamaged damaged place copy)
    (was : is_whole_at then shape copy at ≡ true) (gave : CopyGives (gift_of then shape at) copy v).
    whole_then shape then c.left image damaged same d at copy v spared was gave in
    let low = λ (copy h : ℕ) (u : List ℕ) (lt : copy < place.copies) (v : Holds then place copy h u).
    below copy h u lt (subst (λ (bytes : List ℕ). VerifiesAs bytes h u)
    (keeps.files (slot place copy (own h)) (slot_no_area place copy h)) v) in
    let texts = λ (copy h : ℕ) (u : List ℕ) (lt : copy < place.copies) (v : Holds image place copy h u).
    old_or_rebuilt shape start then image g next fewer (λ copy h u lt v. low copy h u lt v)
    (λ copy h u lt v. it.known copy lt h u v) copy h u lt v in
    let same_copy = λ (copy h : ℕ) (u : List ℕ) (lt : copy < place.copies) (apart : h ≡ g → ⊥)
    (v : Holds image place copy h u).
    still_held shape then image g next (λ copy h u lt v. it.known copy lt h u v) copy h u lt apart v in
    let same_gift = λ (at : Where) (is : IsNamed shape.place image at) (apart : is.generation ≡ g → ⊥)
    (was : IsNamed shape.place start at) (copy : ℕ) (w : List ℕ)
    (lt : copy < place.copies) (gives : CopyGives (gift_of image shape at) copy w).
    fewer.counted at (record {
      copy = is.copy;
      generation = is.generation;
      text = is.text;
      index = is.index;
      inside = is.inside;
      held = same_copy is.copy is.generation is.text is.inside apart is.held;
      spelled = is.spelled;
      named = is.named;
    }) copy w lt (given at is copy w lt gives) in
    let stand = λ (copy : ℕ) (lt : copy < place.copies) (v : Holds image place copy g next).
    zip_with (IsContentWritten shape then) (EntryStands shape image damaged) new_index.entries view.entries
    (λ e f h k w. written_stands shape start then image damaged given whole e f
    (names_it shape image copy g next new_index lt v fit (where_of e) (map-In where_of e new_index.entries h)) w)
    entries in
    let counted = λ (at : Where) (is : IsNamed shape.place image at) (apart : is.generation ≡ g → ⊥)
    (was : IsNamed shape.place start at) (copy : ℕ) (w : List ℕ)
    (lt : copy < place.copies) (gives : CopyGives (gift_of image shape at) copy w).
    as_given shape start at copy w (same_gift at is apart was copy w lt gives) in
    let alike_new = λ (e : IndexEntry) (h : In e new_index.entries) (is : IsNamed shape.place image (where_of e)).
    let found = zip_find (IsContentWritten shape then) new_index.entries view.entries e entries h in
    let stands = written_stands shape start then image damaged given whole e found.0 is found.2 in
    backed_alike shape.m place.copies (gift_of image shape (where_of e)) found.0.content stands.backed in
    let kept = λ (text : FitText) (is : IsSalvageAt shape start text).
    let all = keeps_then aside shape start now then taken damaged given_up takes keeps text is in
    let after = next_is text is in
    let own_is : own text.0.generation ≡ own (g + 1) = omega (arith, after) in
    let held : KeepsText place text.0.generation text.0.text damaged start image
    ⊎ ((copy : ℕ) → copy < place.copies → IsUndamaged damaged place copy → Holds image place copy g next) =
    elim it.stands [
      | inl old ↦ inl (λ copy lt spared was. old copy lt spared text.0.generation text.0.text own_is
          (all.text copy lt spared was))
      | inr newer ↦ inr newer
    ] in
    let salvage_kept : SalvageKept shape damaged start image g next text = record {
      below = omega (arith, after);
      held = held;
      whole = λ i spells e k copy v lt spared was gave.
          let there = all.whole i spells e k copy v lt spared was gave in
          whole (where_of e) copy v spared there.0 there.1;
    } in
    salvage_kept in
    record {
      kept = corrupt_two shape start image damaged positive given_up.clean g next new_index view others fit
          generation_is stand texts counted alike_new given_up.corrupt
          (λ copy h u lt apart v. fewer.held copy lt h u (same_copy copy h u lt apart v)) same_gift kept;
      salvage = two_salvage shape start image damaged positive given_up.clean g next new_index view others fit
          generation_is stand texts counted alike_new given_up.corrupt
          (λ copy h u lt apart v. fewer.held copy lt h u (same_copy copy h u lt apart v)) same_gift kept;
      clean = two_clean shape start image damaged positive given_up.clean g next new_index view others fit generation_is
          stand texts counted alike_new;
    }

-- ---- places that are clean

pub clean_alone : CleanLaw
clean_alone shape image g t i alone fit agreed =
    let place = shape.place in
    let copies = shape.place.copies in
    let only = λ (copy h : ℕ) (u : List ℕ) (lt : copy < place.copies) (v : Holds image place copy h u).
    alone_only image place g t alone copy lt h u v in
    record {
      one_each = λ a b h s u la lb va vb. (only a h s la va).1 ∙ sym (only b h u lb vb).1;
      fit = λ copy h u lt v. (i, ap (fit_index shape) (only copy h u lt v).1 ∙ fit);
      alike = λ at a b s u is la lb ga gb.
          let one : is.index ≡ i = some_is is.index i (sym is.spelled
          ∙ ap index_of (only is.copy is.generation is.text is.inside is.held).1 ∙ fit-spelled shape t i fit) in
          let (e, k, same) = In-map where_of at i.entries (subst (λ (j : Index). In at (map where_of j.entries)) one
          (Contains-In at (map where_of is.index.entries) is.named)) in
          all_in (AreAgreed shape image) i.entries agreed e k a b s u la lb
          (subst (λ (x : Where). CopyGives (gift_of image shape x) a s) (sym same) ga)
          (subst (λ (x : Where). CopyGives (gift_of image shape x) b u) (sym same) gb);
    }

pub clean_adopted : AdoptedLaw
clean_adopted shape start now g t i adopted =
    let place = shape.place in
    let copies = shape.place.copies in
    let opens = adopted.opens in
    let area_was = λ (copy : ℕ). adopted.areas (area place copy) (area_no_slot place copy) in
    clean_alone shape now g t i adopted.alone opens.fit (all_by (AreAgreed shape now) i.entries
    (λ e k a b s u la lb ga gb.
    adopted.clean.alike (where_of e) a b s u
    (names_it shape start opens.copy g t i opens.inside opens.held opens.fit (where_of e)
    (map-In where_of e i.entries k)) la lb
    (subst (λ (file : List ℕ). counting file e.blocks e.len e.hash ≡ Some s) (area_was a) ga)
    (subst (λ (file : List ℕ). counting file e.blocks e.len e.hash ≡ Some u) (area_was b) gb)))

pub settled_sound : SoundLaw
settled_sound shape image c settled clean = record {
  pieces = λ x is. inl (subst (λ (im : Image). IsPiece shape.place im x) (settled.left ∙ sym settled.base) is);
  no_twins = λ at s t is one two.
      clean.alike at one.copy two.copy s t (subst (λ (im : Image). IsNamed shape.place im at) settled.base is)
      one.inside two.inside
      (counted_at at s one) (counted_at at t two);
}
  where
    counted_at : (at : Where) (s : List ℕ) (x : SomeCopyCounts shape.place c at s)
        → counting_at image shape.place x.copy at ≡ Some s
    counted_at at s x = elim x.counts [
      | inl e ↦ subst (λ (im : Image). counting_at im shape.place x.copy at ≡ Some s) settled.base e
      | inr e ↦ subst (λ (im : Image). counting_at im shape.place x.copy at ≡ Some s) settled.full e
    ]

pub settled_kept : SettledLaw
settled_kept shape start image after c settled clean kept =
    let sound = settled_sound shape image c settled clean in
    (kept sound.no_twins sound.pieces [] image (record {
      others = λ f out. ap (λ (im : Image). im f) (sym settled.left);
      pieces = λ x is. subst (λ (im : Image). IsPiece shape.place im x) (sym settled.left) is;
    })).kept
