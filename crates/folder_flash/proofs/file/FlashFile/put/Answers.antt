use Rattle.std.proofs.Common.{◌≡◌, length, sym, ap, ◌∙◌, subst}
use Rattle.std.specs.Prelude.{IfSome}
use Rattle.folder_flash.proofs.Putting.{length_after}
use Rattle.folder_flash.proofs.file.FlashFile.put.Goals as goal

pub invariant_of-self-2 : goal.invariant_of-self-2
invariant_of-self-2 g c = (
  λ t.
      let old = (g.S.System.medium c.self.inside.disk.system).disk.image in
      subst (λ k. IfSome c.size_after-self-inside.result (λ n. n ≡ k))
      (sym (ap (λ i. length (i 0)) (c.in_ok-store.ensures.image t)
      ∙ length_after old c.args.at c.args.bytes.now c.requires.some))
      (c.size_after-self-inside.ensures (length (old 0))
      (subst (λ s. IfSome s (λ n. n ≡ length (old 0))) (sym c.take-known.ensures.value) (c.self.invariant.0 t))),
  λ settled. c.in_ok-store.ensures.durable,
)
