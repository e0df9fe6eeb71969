use Rattle.std.proofs.Common.{◌≡◌, ◌⊎◌, ◌↔◌, ◌∙◌, ap, subst, sym, [], ◌∷◌, ◌++◌, option_to_list}
use Rattle.system_model.specs.SystemMedium.{InRange}
use Rattle.folder_disk.specs.Knows.{Covered}
use Rattle.folder_disk.proofs.Noting.{covered_joined, covered_old, covered_pushed}
use Rattle.folder_disk.proofs.notes.note.Goals as goal

pub returns-in-Some-joined-clause-noted : goal.returns-in-Some-joined-clause-noted
returns-in-Some-joined-clause-noted c = λ ok f i.
    let r = c.args.range in
    let rs = c.pop.new.self.items in
    let last = c.in-Some.last in
    let both = c.in-Some-joined.both in
    let was = c.pop.ensures.items ∙ ap (λ o. rs ++ option_to_list o) c.in-Some.is in
    subst (λ xs. Covered xs f i ↔ (Covered c.args.ranges.now.items f i ⊎ ((f ≡ r.file) × InRange r.at r.len i)))
    (sym (c.add-in-Some-joined.ensures.added ok))
    (subst (λ ys. Covered (rs ++ both ∷ []) f i ↔ (Covered ys f i ⊎ ((f ≡ r.file) × InRange r.at r.len i)))
    (sym was) (covered_joined rs last both r c.in-Some-joined.ensures f i))

pub returns-then-add-clause-noted : goal.returns-then-add-clause-noted
returns-then-add-clause-noted c = λ ok f i.
    let r = c.args.range in
    let rs = c.pop.new.self.items in
    let last = c.in-Some.last in
    let was = c.pop.ensures.items ∙ ap (λ o. rs ++ option_to_list o) c.in-Some.is in
    let mid = c.add-in-None.ensures.added c.if-add.true in
    subst (λ xs. Covered xs f i ↔ (Covered c.args.ranges.now.items f i ⊎ ((f ≡ r.file) × InRange r.at r.len i)))
    (sym (c.add-then-add.ensures.added ok))
    (subst (λ ys. Covered (ys ++ r ∷ []) f i ↔ (Covered c.args.ranges.now.items f i ⊎ ((f ≡ r.file)
    × InRange r.at r.len i)))
    (sym mid)
    (subst (λ ys. Covered ((rs ++ last ∷ []) ++ r ∷ []) f i ↔ (Covered ys f i ⊎ ((f ≡ r.file) × InRange r.at r.len i)))
    (sym was) (covered_pushed (rs ++ last ∷ []) r f i)))

pub returns-in-Some-joined-clause-failed : goal.returns-in-Some-joined-clause-failed
returns-in-Some-joined-clause-failed c = λ no f i h.
    let rs = c.pop.new.self.items in
    let was = c.pop.ensures.items ∙ ap (λ o. rs ++ option_to_list o) c.in-Some.is in
    subst (λ xs. Covered xs f i) (sym was) (covered_old rs c.in-Some.last f i
    (subst (λ xs. Covered xs f i) (c.add-in-Some-joined.ensures.failed no) h))

pub returns-else-add-clause-failed : goal.returns-else-add-clause-failed
returns-else-add-clause-failed c = λ no f i h.
    let rs = c.pop.new.self.items in
    let was = c.pop.ensures.items ∙ ap (λ o. rs ++ option_to_list o) c.in-Some.is in
    subst (λ xs. Covered xs f i) (sym was) (covered_old rs c.in-Some.last f i
    (subst (λ xs. Covered xs f i) (c.add-in-None.ensures.failed no) h))
