-- A place whose texts were given up, and contents that are then written there.
use Rattle.std.proofs.Common.{◌≡◌, ℕ, ◌+◌, ◌*◌, ◌≤◌, List, [], Bool, Some, None, refl, sym, ap, ◌∙◌, subst, inl, inr}
use Rattle.std.proofs.Common.{⊎_elim, arith}
use Rattle.std.proofs.lemmas.Bool.{cases_eq}
use Rattle.std.proofs.Math.Nat.{mul-le-mul_left, mul-add}
use Rattle.hash_guard.specs.SealedText.{VerifiesAs}
use Rattle.disk_model.specs.declared.place.Place.{Place}
use Rattle.disk_model.specs.Image.{Image}
use Rattle.disk_model.specs.Case.{Case}
use Rattle.disk_model.specs.Medium.{Medium, Quiet, IsLawful, Elapses, EachCase}
use Rattle.disk_model.specs.Frame.{Spares, IsSettledOn}
use Rattle.disk_model.specs.Place.{slot, area, IsNoArea, IsNoSlot, IsOutside}
use Rattle.disk_model.specs.lemmas.Frames.{settled_on, settled_before, settled_less, settled_keeps}
use Rattle.disk_model.specs.Laws.{goes_on, elapses_on}
use Rattle.disk_model.specs.lemmas.Places.{outside_no_slot, outside_no_area, slot_no_area, area_no_slot}
use Rattle.guarded_cell.specs.Register.{Holds, IsKeptAlone, own, other}
use Rattle.guarded_cell.specs.Stops.{SlotText, IsSlotPiece, KeepStops, FormatStops}
use Rattle.disk_model.specs.Damage.{IsSoundFor}
use Rattle.block_files.specs.Contents.{counting}
use Rattle.index_text.specs.Reading.{header_at, index_of}
use Rattle.element_state.specs.Clean.{IsNamed, BlockText, IsBlockPiece, in_slot, in_blocks, IsPiece}
use Rattle.element_store.specs.Creates.{NamesNothing, IsUntorn}
use Rattle.element_store.specs.Spelled.{IsContentsCase}
use Rattle.element_store.proofs.Around.{contents_around}

-- the empty text spells no index
no_index : index_of [] ≡ None
unfolding index_of header_at
no_index = refl

-- where just the empty text is kept, nothing is named
pub kept_names_nothing : (place : Place) (old new : Image) → IsKeptAlone place 1 [] old new
    → NamesNothing place new
kept_names_nothing place old new alone at named = ⊎_elim
    (λ same.
    let v : VerifiesAs (new (slot place named.copy (own 1))) named.generation named.text =
    subst (λ (p : ℕ). VerifiesAs (new (slot place named.copy p)) named.generation named.text) same named.held in
    let it = alone.own_slots named.copy named.inside named.generation named.text v in
    let spelled : index_of [] ≡ Some named.index = subst (λ (t : List ℕ). index_of t ≡ Some named.index) it.1
    named.spelled in
    let differ : None ≡ Some named.index = sym no_index ∙ spelled in
    cc)
    (λ differs.
    let e : own named.generation ≡ other 1 = omega (arith, differs) in
    absurd (alone.blank named.copy named.inside named.generation named.text
    (subst (λ (p : ℕ). VerifiesAs (new (slot place named.copy p)) named.generation named.text) e named.held)))
    (cases_eq (own named.generation) (own 1))

-- what is named depends on the slots alone
pub names_nothing_still : (place : Place) (old new : Image) → Spares (IsNoArea place) old new
    → NamesNothing place old → NamesNothing place new
names_nothing_still place old new same nothing at named = nothing at (record {
  copy = named.copy;
  generation = named.generation;
  text = named.text;
  index = named.index;
  inside = named.inside;
  held = subst (λ (s : List ℕ). VerifiesAs s named.generation named.text)
      (same (slot place named.copy (own named.generation))
      (slot_no_area place named.copy (own named.generation) (omega arith))) named.held;
  spelled = named.spelled;
  named = named.named;
})

-- a file gives a copy's content
abbrev Counts : BlockText → List ℕ → Type 0
Counts piece file = counting file piece.at.blocks piece.at.len piece.at.hash ≡ Some piece.bytes

-- where nothing is torn under an index, contents come by chance only where texts do
pub untorn_sound : (place : Place) (c : Case) → IsUntorn place c → IsSoundFor (IsSlotPiece place) c
    → IsSoundFor (IsPiece place) c
untorn_sound place c untorn sound (in_slot piece) is = sound piece is
untorn_sound place c untorn sound (in_blocks piece) is = ⊎_elim
    (λ stays.
    let named = is.named in
    let held : SlotText = record {
      copy = named.copy;
      parity = own named.generation;
      generation =
          named.generation;
      text = named.text;
    } in
    let at_base : c.left (area place piece.copy) ≡ c.base (area place piece.copy) =
    stays.1.left (area place piece.copy) (area_no_slot place piece.copy)
    ∙ sym (stays.1.base (area place piece.copy) (area_no_slot place piece.copy)) in
    let at_full : c.left (area place piece.copy) ≡ c.full (area place piece.copy) =
    stays.1.left (area place piece.copy) (area_no_slot place piece.copy)
    ∙ sym (stays.1.full (area place piece.copy) (area_no_slot place piece.copy)) in
    ⊎_elim
    (λ base. inl (again c.base named base.verifies (subst (Counts piece) at_base is.counts)))
    (λ full. inr (again c.full named full.verifies (subst (Counts piece) at_full is.counts)))
    (sound held (record { copy = named.inside; parity = omega arith; verifies = named.held })))
    (λ nothing. absurd (nothing.2 piece.at is.named))
    untorn
  where
    again : (image : Image) (named : IsNamed place c.left piece.at)
        → Holds image place named.copy named.generation named.text
        → Counts piece (image (area place piece.copy)) → IsBlockPiece place image piece
    again image named held counts = record {
      inside = is.inside;
      named = record {
        copy = named.copy;
        generation = named.generation;
        text = named.text;
        index = named.index;
        inside = named.inside;
        held = held;
        spelled = named.spelled;
        named = named.named;
      };
      counts = counts;
    }

-- nothing was done
pub still_untorn : (place : Place) (told : Bool) (m : Medium) → IsLawful told m → Quiet m
    → EachCase (IsUntorn place) m m
still_untorn place told m law quiet c past = inl (
  m.image,
  settled_on (IsNoSlot place) (quiet c (law.only_now c past)),
)

module _ (place : Place) (set : List Bool) (old mid : Medium) (before : Elapses old mid)
    (gives_up : EachCase (KeepStops place 1 [] old.image) old mid) where
  -- texts are being given up
  pub given_up_outside : EachCase (IsSettledOn (IsOutside place) old.image) old mid
  given_up_outside c past = settled_less (λ f out. outside_no_slot place f out)
      (gives_up c past).elsewhere

  pub given_up_untorn : EachCase (IsUntorn place) old mid
  given_up_untorn c past = inl (old.image, (gives_up c past).elsewhere)

  module _ (slots : Spares (IsNoSlot place) old.image mid.image) (quiet : Quiet mid) (new : Medium)
      (then : Elapses mid new)
      (areas : Spares (IsNoArea place) mid.image new.image) (done : Type 0)
      (puts : EachCase (IsContentsCase place set mid new done) mid new) where
    -- and then contents are written
    pub put_elsewhere : Spares (IsOutside place) old.image new.image
    put_elsewhere f out = areas f (outside_no_area place f out)
        ∙ slots f (outside_no_slot place f out)

    pub put_outside : EachCase (IsSettledOn (IsOutside place) old.image) old new
    put_outside = goes_on (IsSettledOn (IsOutside place) old.image) before then given_up_outside
        (λ c past. settled_before (λ f out. slots f (outside_no_slot place f out))
        (contents_around place set mid new done quiet areas puts c past))

    module _ (nothing : NamesNothing place mid.image) where
      pub put_untorn : EachCase (IsUntorn place) old new
      put_untorn = goes_on (IsUntorn place) before then given_up_untorn
          (λ c past. ⊎_elim
          (λ some.
          let (d, was, step) = some in
          let slots_stay = settled_keeps (quiet d was) step in
          inr (
            names_nothing_still place mid.image c.base slots_stay.base nothing,
            names_nothing_still place mid.image c.full slots_stay.full nothing,
            names_nothing_still place mid.image c.left slots_stay.left nothing,
          ))
          (λ all. inl (new.image, settled_on (IsNoSlot place) all.1))
          (puts c past))

      module _ (end : Medium) (later : Elapses new end) (text : List ℕ)
          (formats : EachCase (FormatStops place 1 text new.image) new end) where
        -- and then their index
        pub made_outside : EachCase (IsSettledOn (IsOutside place) old.image) old end
        made_outside = goes_on (IsSettledOn (IsOutside place) old.image) (elapses_on before then)
            later put_outside
            (λ c past. settled_before put_elsewhere (settled_less
            (λ f out. outside_no_slot place f out) (formats c past).elsewhere))

        pub made_untorn : EachCase (IsUntorn place) old end
        made_untorn = goes_on (IsUntorn place) (elapses_on before then) later put_untorn
            (λ c past. inl (new.image, (formats c past).elsewhere))

-- ---- the count of bytes

-- `len` is the length of the index that the contents have, whether or not it is written
module _ (copies blocks len was kept : ℕ) (first : kept ≤ was + copies * (44 + 44)) where
  pub most_kept : kept ≤ was + copies * (256 * blocks + len + 5 * 44)
  most_kept =
      let wider : copies * (44 + 44) ≤ copies * (256 * blocks + len + 5 * 44) =
      mul-le-mul_left copies (omega arith) in
      omega (arith, first, wider)

  module _ (put : ℕ) (second : put ≤ kept + copies * (256 * blocks)) where
    pub most_put : put ≤ was + copies * (256 * blocks + len + 5 * 44)
    most_put =
        let whole : copies * (44 + 44 + 256 * blocks) ≡ copies * (44 + 44) + copies * (256 * blocks) =
        mul-add copies (44 + 44) (256 * blocks) in
        let wider : copies * (44 + 44 + 256 * blocks) ≤ copies * (256 * blocks + len + 5 * 44) =
        mul-le-mul_left copies (omega arith) in
        omega (arith, first, second, whole, wider)

    module _ (text made : ℕ) (is : text ≡ len) (third : made ≤ put + copies * (44 + 44 + (44 + text))) where
      pub most_made : made ≤ was + copies * (256 * blocks + len + 5 * 44)
      most_made =
          let one : copies * (256 * blocks + (44 + 44 + (44 + text)))
          ≡ copies * (256 * blocks) + copies * (44 + 44 + (44 + text)) =
          mul-add copies (256 * blocks) (44 + 44 + (44 + text)) in
          let two : copies * ((44 + 44) + (256 * blocks + (44 + 44 + (44 + text))))
          ≡ copies * (44 + 44) + copies * (256 * blocks + (44 + 44 + (44 + text))) =
          mul-add copies (44 + 44) (256 * blocks + (44 + 44 + (44 + text))) in
          let same : copies * ((44 + 44) + (256 * blocks + (44 + 44 + (44 + text))))
          ≡ copies * (256 * blocks + len + 5 * 44) =
          ap (λ (n : ℕ). copies * n) (omega (arith, is)) in
          omega (arith, first, second, third, one, two, same)
