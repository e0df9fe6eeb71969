-- The kind is said by the values of the modes.
use Rattle.std.proofs.Common.{ap, ◌∙◌, codes}
use Rattle.clap.proofs.WalkLemmas.{first_value-rows}
use Rattle.clap.specs.Words.{found_of}
use Rattle.per_run.specs.Words.{is_set}
use Rattle.per_run.proofs.Matched.{modes_as, reads_as}
use Rattle.per_run.proofs.words.kind_in.Goals as goal

pub returns : goal.returns
returns c = reads_as c.only_mode.result _ _
    (modes_as (c.is_set.ensures ∙ ap is_set (c.get_str.ensures
    ∙ first_value-rows (found_of c.args.matches.now) (codes "format")))
    (c.get_str-2.ensures ∙ first_value-rows (found_of c.args.matches.now) (codes "generate"))
    (c.is_set-2.ensures ∙ ap is_set (c.get_str-3.ensures
    ∙ first_value-rows (found_of c.args.matches.now) (codes "audit")))
    (c.get_str-4.ensures ∙ first_value-rows (found_of c.args.matches.now) (codes "export"))
    (c.get_str-5.ensures ∙ first_value-rows (found_of c.args.matches.now) (codes "import"))
    (c.is_set-3.ensures ∙ ap is_set (c.get_str-6.ensures
    ∙ first_value-rows (found_of c.args.matches.now) (codes "serve")))
    (c.get_str-7.ensures ∙ first_value-rows (found_of c.args.matches.now) (codes "list"))
    (c.get_str-8.ensures ∙ first_value-rows (found_of c.args.matches.now) (codes "recover-root")))
    c.only_mode.ensures
