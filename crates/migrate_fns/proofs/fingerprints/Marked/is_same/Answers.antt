use Rattle.std.proofs.Common.{◌≡◌, ℕ, ap, sym, ◌∙◌, nat_eq}
use Rattle.std.proofs.lemmas.Bool.{eqb-true}
use Rattle.value_model.specs.Kinds.{Kind, same_kind}
use Rattle.value_model.specs.Views.{kind_of}
use Rattle.migrate_fns.specs.Fingerprints.{fingerprint}
use Rattle.migrate_fns.specs.lemmas.Facts.{is_false}
use Rattle.migrate_fns.specs.lemmas.SameKinds.{kind_is}
use Rattle.migrate_fns.proofs.fingerprints.Marked.is_same.Goals as goal

marks_differ : (m n : ℕ) (k l : Kind) → m ≡ fingerprint k → n ≡ fingerprint l → (m ≡ n → ⊥)
    → nat_eq m n ≡ same_kind k l
marks_differ m n k l p q apart =
    is_false (nat_eq m n) (λ e. apart (eqb-true m n e))
    ∙ sym (is_false (same_kind k l) (λ s. apart (p ∙ ap (λ x. fingerprint x) (kind_is k l s) ∙ sym q)))

pub returns-else-self-other : goal.returns-else-self-other
returns-else-self-other c = marks_differ c.args.self.now.fingerprint c.args.other.now.fingerprint
    (kind_of c.args.self.now.value_type.now) (kind_of c.args.other.now.value_type.now) c.args.self.now.marked
    c.args.other.now.marked c.if-self-other.false
