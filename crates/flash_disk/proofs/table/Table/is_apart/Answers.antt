use Rattle.std.proofs.Common.{◌≡◌, [], sym, subst, ◌∙◌, inl, ⊎_elim}
use Rattle.std.specs.Prelude.{Some}
use Rattle.std.specs.Map.{lookup}
use Rattle.std.specs.Map.Iter.{deref_pair}
use Rattle.std.proofs.lemmas.Option.{none-some}
use Rattle.std.proofs.lemmas.Map.Iter.{rest_all, rest_more}
use Rattle.flash_disk.specs.Known.{same_page}
use Rattle.flash_disk.proofs.Lengths.{owns_more}
use Rattle.flash_disk.proofs.table.Table.is_apart.Goals as goal

pub loop-key-init : goal.loop-key-init
loop-key-init c key entry is = inl (subst (λ l. lookup (same_page key) l ≡ Some entry)
    (sym (c.into_iter-key-iterator.ensures.into_iter_gives ∙ c.iter-key-items.ensures.rest)) is)

pub loop-key-preserved : goal.loop-key-preserved
loop-key-preserved c key entry is =
    owns_more c.args.copies.now key c.in-Some.key.now entry c.in-Some.newest.now c.next.new.self
    c.loop-key.key-iterator
    (rest_more deref_pair _ _ _ (c.in-Some.key, c.in-Some.newest) c.in-Some.is c.next.ensures.steps)
    (c.is_of.ensures c.if-not-is_of.false)
    (c.loop-key.invariant key entry is)

pub returns : goal.returns
returns c apart key entry is =
    let none : c.loop-key.key-iterator ≡ [] = rest_all deref_pair _ _ _ c.in-None.is c.next.ensures.steps in
    ⊎_elim
    (λ left. absurd (none-some entry (subst (λ l. lookup (same_page key) l ≡ Some entry) none left)))
    (λ owns. owns)
    (c.loop-key.invariant key entry is)
