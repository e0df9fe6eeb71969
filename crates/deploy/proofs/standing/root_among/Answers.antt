use Rattle.std.proofs.Common.{ℕ, Bool, Option, length, nat_le, sym, ap, ◌∙◌, subst, arith}
use Rattle.guarded_cell.specs.declared.looking.Seen.{Seen}
use Rattle.guarded_cell.specs.Seens.{IsSealable}
use Rattle.root_text.specs.declared.errors.RootError.{RootError}
use Rattle.root_text.specs.RootText.{Root, root_of}
use Rattle.root_text.specs.Views.{FailsToRead}
use Rattle.deploy_laws.specs.Apps.{says_by, says_in}
use Rattle.deploy.proofs.Found.{found_is}
use Rattle.deploy.proofs.standing.root_among.Goals as goal

pub returns-in_default-clause-among : goal.returns-in_default-clause-among
returns-in_default-clause-among c = ap says_in (sym c.standing_among.ensures ∙ c.in_default.is)

pub returns-in-Err-NotARoot-clause-among : goal.returns-in-Err-NotARoot-clause-among
returns-in-Err-NotARoot-clause-among c =
    let none = subst (λ (e : RootError). FailsToRead e (root_of c.as_slice.result.now)) c.in-Err-NotARoot.field-0-is
    c.in-Err-NotARoot.ensures.read in
    ap says_in (sym c.standing_among.ensures ∙ c.in-Some.is)
    ∙ ap (λ (r : Option Root). says_by c.in-Some.seen.generation r) (ap root_of (sym c.as_slice.ensures) ∙ none)

pub returns-in-Ok-clause-among : goal.returns-in-Ok-clause-among
returns-in-Ok-clause-among c = record {
  stands = sym c.standing_among.ensures ∙ c.in-Some.is;
  said = ap root_of (sym c.as_slice.ensures) ∙ c.in-Ok.ensures.read;
  sole = ap (λ (n : ℕ). nat_le n 1) (omega (arith, c.len-sole.ensures, c.args.seens.ok.0));
}

pub returns-in-Ok-clause-spelled : goal.returns-in-Ok-clause-spelled
returns-in-Ok-clause-spelled c =
    let enough : Seen → Bool = λ seen. nat_le 2 (length seen.copies) in
    record {
      sealable = found_is IsSealable enough c.args.seens.items c.in-Some.seen
          (sym c.standing_among.ensures ∙ c.in-Some.is) c.requires;
      rules = c.in-Ok.ensures.rules;
      spelled = sym c.as_slice.ensures ∙ c.in-Ok.ensures.spelled;
    }
