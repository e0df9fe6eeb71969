use Rattle.std.proofs.Common.{ℕ, List, Some, ◌∙◌, ap, sym, true≢false}
use Rattle.dump_text.proofs.Parts.{exported, unexported}
use Rattle.dump_text.proofs.reading.text_of.Goals as goal

pub returns-then-not-branch-clause-read : goal.returns-then-not-branch-clause-read
returns-then-not-branch-clause-read c = unexported c.args.kind c.args.contents.now
    (λ can. true≢false (sym (c.in_ok-are_exportable.ensures.1 can) ∙ c.if-not-branch.true))

pub returns-clause-read : goal.returns-clause-read
returns-clause-read c = exported c.args.kind c.args.contents.now
    (c.in_ok-are_exportable.ensures.0 c.if-not-branch.false)
    ∙ ap (λ (text : List ℕ). Some text) (sym (c.new.ensures ∙ c.in_ok-write_export.ensures.text))
