use Rattle.std.proofs.Common.{ℕ, List, ◌∙◌, sym, ap, subst}
use Rattle.std.specs.Str.{bytes_eq}
use Rattle.std.proofs.lemmas.Bool.{not-true, not-false}
use Rattle.sha2.specs.Sha256.{sha256}
use Rattle.block_files.specs.States.{AreStatesOf}
use Rattle.block_files.proofs.Counting.{counting_none, counting_some}
use Rattle.block_files.proofs.reading.read_text.Goals as goal

pub returns-then-ne-clause-text : goal.returns-then-ne-clause-text
returns-then-ne-clause-text g c = λ tells.
    let hash = c.hash_from-states.ensures.hash ∙ ap sha256 c.deref.ensures.value in
    let other = not-true (bytes_eq c.hash_from-states.result.hash c.args.hash.now) (sym c.ne.ensures ∙ c.if-ne.true) in
    counting_none ((g.D.Disk.medium c.args.disk.now).image c.args.file) c.args.blocks.now c.args.len c.args.hash.now
    c.in_ok-bytes.bytes.items
    (c.in_ok-bytes.ensures.bytes tells) (ap (λ xs. bytes_eq xs c.args.hash.now) (sym hash) ∙ other)

pub returns-clause-text : goal.returns-clause-text
returns-clause-text g c = λ tells.
    let hash = c.hash_from-states.ensures.hash ∙ ap sha256 c.deref.ensures.value in
    let same = not-false (bytes_eq c.hash_from-states.result.hash c.args.hash.now) (sym c.ne.ensures ∙ c.if-ne.false) in
    counting_some ((g.D.Disk.medium c.args.disk.now).image c.args.file) c.args.blocks.now c.args.len c.args.hash.now
    c.in_ok-bytes.bytes.items
    (c.in_ok-bytes.ensures.bytes tells) (ap (λ xs. bytes_eq xs c.args.hash.now) (sym hash) ∙ same)

pub returns-clause-states : goal.returns-clause-states
returns-clause-states g c = subst (λ (bytes : List ℕ). AreStatesOf bytes c.hash_from-states.result.states.items)
    c.deref.ensures.value c.hash_from-states.ensures.states
