-- The command is the one of the words.
use Rattle.std.proofs.Common.{Bool, List, ap, codes, subst, sym, true, ◌≡◌, ◌∙◌}
use Rattle.std.proofs.lemmas.Result.{IfOk-weaker}
use Rattle.clap.specs.declared.builder.arg.Arg.{Arg}
use Rattle.clap.specs.Simple.{App, app_of, app_of_fields, new_app}
use Rattle.clap.specs.Walk.{Rule, rule_of}
use Rattle.per_run.specs.Words.{option_rules}
use Rattle.per_run.proofs.Matched.{HaveRules, with_rules}
use Rattle.per_run.proofs.words.command.Goals as goal

abbrev unnamed : App → App
unnamed a = record a { top = record a.top { no_binary_name = true } }

abbrev is_global : Arg → Bool
is_global a = a.global

abbrev needed : Rule → Rule
needed r = record r { required = true }

pub returns : goal.returns
returns c =
    let begun : app_of c.no_binary_name.result ≡ unnamed (new_app (codes "per")) =
    ap app_of_fields c.no_binary_name.ensures ∙ ap unnamed c.new.ensures.app in
    let rules : HaveRules c.in_ok-options.options.items option_rules =
    subst (λ (xs : List Arg). HaveRules xs option_rules) (sym c.in_ok-options.ensures.items) (
      ap rule_of c.required.ensures ∙ ap needed c.option.ensures.rule,
      ap is_global c.required.ensures ∙ c.option.ensures.global,
      (
        c.option-2.ensures.rule,
        c.option-2.ensures.global,
        (
          c.flag.ensures.rule,
          c.flag.ensures.global,
          (
            c.option-3.ensures.rule,
            c.option-3.ensures.global,
            (
              c.flag-2.ensures.rule,
              c.flag-2.ensures.global,
              (
                c.option-4.ensures.rule,
                c.option-4.ensures.global,
                (
                  c.option-5.ensures.rule,
                  c.option-5.ensures.global,
                  (
                    c.flag-3.ensures.rule,
                    c.flag-3.ensures.global,
                    (
                      c.option-6.ensures.rule,
                      c.option-6.ensures.global,
                      (c.option-7.ensures.rule, c.option-7.ensures.global, tt),
                    ),
                  ),
                ),
              ),
            ),
          ),
        ),
      ),
    ) in
    IfOk-weaker c.args-2.result _ _ (λ r adds. with_rules _ r _ _ option_rules adds begun rules) c.args-2.ensures
