use Rattle.std.proofs.Common.{◌≡◌, [], refl, sym, subst, ◌∙◌, inl, ⊎_elim, arith}
use Rattle.std.specs.Prelude.{Some, slice_index}
use Rattle.std.specs.Map.{lookup}
use Rattle.std.specs.Map.Iter.{deref_pair}
use Rattle.std.proofs.lemmas.Map.Iter.{rest_all, rest_more, hash_map_turn}
use Rattle.flash_disk.specs.Known.{same_page}
use Rattle.flash_disk.specs.Apart.{copy_of}
use Rattle.flash_disk.proofs.PageCount.{page_laws}
use Rattle.flash_disk.proofs.Marking.{seen_more, is_seen, seen_stays, own_stays, seen_all}
use Rattle.flash_disk.proofs.table.Table.mark_foreign.Goals as goal

pub loop-key-init : goal.loop-key-init
loop-key-init c = (
  refl,
  (λ key entry is. inl (subst (λ l. lookup (same_page key) l ≡ Some entry)
      (sym (c.into_iter-key-iterator.ensures.into_iter_gives ∙ c.iter-key-items.ensures.rest)) is)),
  (λ block only free. free),
)

pub returns-clause-unique : goal.returns-clause-unique
returns-clause-unique c = c.iter-key-items.ensures.unique

pub returns-clause-own : goal.returns-clause-own
returns-clause-own c block free key entry is at =
    let none : c.loop-key.key-iterator ≡ [] = rest_all deref_pair _ _ _ c.in-None.is c.next.ensures.steps in
    ⊎_elim
    (λ own. own)
    (λ marked. absurd (let inside = free.0 in let zero = free.1 in let one = marked (omega (arith, inside, at)) in
    let same : slice_index c.loop-key.foreign entry.place.block ≡ 0 =
    subst (λ b. slice_index c.loop-key.foreign b ≡ 0) (sym at) zero in omega (arith, one, same)))
    (seen_all (copy_of c.args.file) c.loop-key.foreign key entry c.loop-key.key-iterator none
    (c.loop-key.invariant.1 key entry is))

pub loop-key-preserved-then-key-file : goal.loop-key-preserved-then-key-file
loop-key-preserved-then-key-file c = (
  c.mark.ensures.len ∙ c.loop-key.invariant.0,
  (λ key entry is. seen_more (copy_of c.args.file) c.loop-key.foreign c.mark.new.foreign key c.in-Some.key.now entry
      c.in-Some.newest.now c.next.new.self c.loop-key.key-iterator
      (rest_more deref_pair _ _ _ (c.in-Some.key, c.in-Some.newest) c.in-Some.is c.next.ensures.steps)
      (is_seen (copy_of c.args.file) c.loop-key.foreign c.mark.new.foreign c.in-Some.newest.now.place.block
      c.mark.ensures.len c.mark.ensures.here c.mark.ensures.others c.in-Some.key.now c.in-Some.newest.now refl)
      (seen_stays (copy_of c.args.file) c.loop-key.foreign c.mark.new.foreign c.in-Some.newest.now.place.block
      c.mark.ensures.len c.mark.ensures.here c.mark.ensures.others)
      (c.loop-key.invariant.1 key entry is)),
  (λ block only free. own_stays (copy_of c.args.file) c.loop-key.foreign c.mark.new.foreign
      c.in-Some.newest.now.place.block c.mark.ensures.len c.mark.ensures.here c.mark.ensures.others c.args.self.now
      c.in-Some.key.now c.in-Some.newest.now
      (hash_map_turn deref_pair _ _ _ _ _ (c.in-Some.key, c.in-Some.newest) c.loop-key.yielded_by c.in-Some.is
      c.next.ensures.steps page_laws c.args.self.now.newest
      (c.into_iter-key-iterator.ensures.into_iter_gives ∙ c.iter-key-items.ensures.rest)
      c.iter-key-items.ensures.unique).1
      refl (omega arith) block only (c.loop-key.invariant.2 block only free)),
)

pub loop-key-preserved : goal.loop-key-preserved
loop-key-preserved c = (
  c.loop-key.invariant.0,
  (λ key entry is. seen_more (copy_of c.args.file) c.loop-key.foreign c.loop-key.foreign key c.in-Some.key.now entry
      c.in-Some.newest.now c.next.new.self c.loop-key.key-iterator
      (rest_more deref_pair _ _ _ (c.in-Some.key, c.in-Some.newest) c.in-Some.is c.next.ensures.steps)
      (inl (omega arith)) (λ w v seen. seen)
      (c.loop-key.invariant.1 key entry is)),
  c.loop-key.invariant.2,
)
