use Rattle.std.proofs.Common.{◌≡◌, [], sym, subst, ◌∙◌, inl, inr, ⊎_elim, arith}
use Rattle.std.specs.Prelude.{Some}
use Rattle.std.specs.Map.{lookup}
use Rattle.std.specs.Map.Iter.{deref_pair}
use Rattle.std.proofs.lemmas.Option.{none-some}
use Rattle.std.proofs.lemmas.Map.Iter.{rest_all, rest_more}
use Rattle.flash_disk.specs.Known.{same_page}
use Rattle.flash_disk.proofs.Lengths.{ends_more}
use Rattle.flash_disk.proofs.table.Table.stray_end.Goals as goal

pub loop-key-init : goal.loop-key-init
loop-key-init c key entry is = inl (subst (λ l. lookup (same_page key) l ≡ Some entry)
    (sym (c.into_iter-key-iterator.ensures.into_iter_gives ∙ c.iter-key-items.ensures.rest)) is)

pub loop-key-preserved-then-end-len_of : goal.loop-key-preserved-then-end-len_of
loop-key-preserved-then-end-len_of c key entry is =
    ends_more c.args.self.now.lens key c.in-Some.key.now entry c.in-Some.newest.now c.next.new.self
    c.loop-key.key-iterator c.loop-key.stray c.max-stray.result
    c.end_of_bytes-end.result (rest_more deref_pair _ _ _ (c.in-Some.key, c.in-Some.newest) c.in-Some.is
    c.next.ensures.steps) c.end_of_bytes-end.ensures
    (omega arith) (inr (omega arith)) (c.loop-key.invariant key entry is)

pub loop-key-preserved : goal.loop-key-preserved
loop-key-preserved c key entry is =
    ends_more c.args.self.now.lens key c.in-Some.key.now entry c.in-Some.newest.now c.next.new.self
    c.loop-key.key-iterator c.loop-key.stray c.loop-key.stray
    c.end_of_bytes-end.result (rest_more deref_pair _ _ _ (c.in-Some.key, c.in-Some.newest) c.in-Some.is
    c.next.ensures.steps) c.end_of_bytes-end.ensures
    (omega arith) (inl (omega (arith, c.len_of.ensures))) (c.loop-key.invariant key entry is)

pub returns : goal.returns
returns c key entry is =
    let none : c.loop-key.key-iterator ≡ [] = rest_all deref_pair _ _ _ c.in-None.is c.next.ensures.steps in
    ⊎_elim
    (λ left. absurd (none-some entry (subst (λ l. lookup (same_page key) l ≡ Some entry) none left)))
    (λ ends. ends)
    (c.loop-key.invariant key entry is)
