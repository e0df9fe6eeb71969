use Rattle.std.proofs.Common.{ap, length, sym, ◌∙◌, ℕ}
use Rattle.std.specs.Prelude.{nat_eq}
use Rattle.manifest.specs.Parts.{named}
use Rattle.manifest.specs.Views.{listed_views}
use Rattle.manifest.proofs.Different.{counted}
use Rattle.manifest.proofs.NameLaws.{length-listed_views, length-named_views}
use Rattle.manifest.proofs.names.names_differ.Goals as goal

pub returns : goal.returns
returns c =
    let entries = c.in_ok-found.found.entries in
    let count = c.len.ensures.len ∙ sym (length-named_views entries) ∙ ap length c.in_ok-found.ensures in
    ap (λ (n : ℕ). nat_eq n (length c.args.things.now)) count
    ∙ ap (nat_eq (length (named (listed_views c.args.things.now)))) (sym (length-listed_views c.args.things.now))
    ∙ counted (listed_views c.args.things.now)
