use Rattle.std.proofs.Common.{◌≡◌, ◌∙◌, ◌<◌, List, ◌∷◌, All, set, get_or, length, take, drop, ◌++◌, true, false, sym}
use Rattle.std.proofs.Common.{ap, subst, ⊎_elim, arith}
use Rattle.guarded_cell.specs.declared.looking.Seen.{Seen}
use Rattle.guarded_cell.specs.Held.{Text, is_seen}
use Rattle.guarded_cell.specs.Seens.{IsSealable, IsPlaceOf}
use Rattle.guarded_cell.proofs.Seeing.{with_copy_same, with_copy_new, seen_more, get_same, get_at, all_insert}
use Rattle.guarded_cell.proofs.looking.note.Goals as goal
use Rattle.guarded_cell.proofs.looking.note.Goals.{else-at-len-via-then-at-len+else-is_text}
use Rattle.guarded_cell.proofs.looking.note.Goals.{else-at-len-via-else-at-len}

pub returns-then-is_text-clause-seen : goal.returns-then-is_text-clause-seen
returns-then-is_text-clause-seen c =
    let seens = c.args.seens.now.items in
    let t : Text = (c.args.generation, c.args.text.now) in
    let at = c.place_in-at.result in
    let placed = subst (λ (xs : List Seen). IsPlaceOf t xs at) c.deref.ensures.value c.place_in-at.ensures in
    let lt : at < length seens = omega (
      arith,
      c.if-at-len.true,
      c.len.ensures,
      c.deref.ensures.len,
      ap length c.deref.ensures.value,
    ) in
    let it : is_seen t c.index.result.now ≡ true = sym c.is_text.ensures ∙ c.if-is_text.true in
    let same : c.index.result.now ≡ c.index_mut.result.now =
    get_same seens at c.index.result.now c.index_mut.result.now lt c.index.ensures c.index_mut.ensures.value in
    ap (set seens at) (c.in_ok-add_copy.ensures ∙ ap (seen_more c.args.copy) (sym same))
    ∙ sym (with_copy_same c.args.copy t seens at placed.before lt c.index.result.now c.index.ensures it)

pub returns-clause-seen : goal.returns-clause-seen
returns-clause-seen c =
    let seens = c.args.seens.now.items in
    let t : Text = (c.args.generation, c.args.text.now) in
    let at = c.place_in-at.result in
    let placed = subst (λ (xs : List Seen). IsPlaceOf t xs at) c.deref.ensures.value c.place_in-at.ensures in
    let here : at < length seens → (d : Seen) → (is_seen t (get_or seens at d) ≡ false)
    × ((get_or seens at d).generation < t.0) =
    λ lt d. elim c.else-at-len.branch [
      | else-at-len-via-then-at-len+else-is_text w ↦
          let differs : is_seen t w.index.result.now ≡ false = sym w.is_text.ensures ∙ w.if-is_text.false in
          let unlike : is_seen t (get_or seens at d) ≡ false =
          ap (is_seen t) (get_at seens at w.index.result.now d lt w.index.ensures) ∙ differs in
          (unlike, ⊎_elim (λ alike. cc) (λ less. less) (placed.here lt d))
      | else-at-len-via-else-at-len w ↦ absurd (omega (arith, lt))
    ] in
    c.in_ok-insert.ensures.items ∙ ap (λ (x : Seen). take at seens ++ x ∷ drop at seens) c.in_ok-new.ensures
    ∙ sym (with_copy_new c.args.copy t seens at placed.within placed.before here)

pub returns-clause-sealable : goal.returns-clause-sealable
returns-clause-sealable c =
    let seens = c.args.seens.now.items in
    let at = c.place_in-at.result in
    let new : IsSealable c.in_ok-new.new = subst IsSealable (sym c.in_ok-new.ensures)
    (record { positive = c.requires.positive; short = c.requires.short }) in
    subst (All IsSealable) (sym c.in_ok-insert.ensures.items)
    (all_insert IsSealable seens at c.in_ok-new.new new c.requires.sealable)
