use denote.Ref.{Bor}
use Rattle.std.proofs.Common.{◌≡◌, Option, sym, ap, ◌∙◌, subst, arith}
use Rattle.std.specs.Prelude.{Result, Err, IfOk, option_map}
use Rattle.per_base.specs.declared.errors.PerError.{PerError}
use Rattle.per_base.specs.declared.names.Name.{Name}
use Rattle.deploy_rows.specs.Rows.{deployment_of}
use Rattle.root_text.specs.declared.versions.VersionText.{VersionText}
use Rattle.deploy.specs.Versions.{TellsRow}
use Rattle.deploy.proofs.Due.{busy_takes, offer_takes}
use Rattle.deploy.proofs.Offers.{is_busy, is_offered, is_rejected, none_of, not_finished, not_newer}
use Rattle.deploy.proofs.updating.offer.Goals as goal

pub returns-in-Some-clause-offered : goal.returns-in-Some-clause-offered
returns-in-Some-clause-offered c = not_finished (option_map (λ (n : Bor Name). n.now) c.args.busy) c.args.manifest.now
    c.args.root.now c.in-Some.previous c.in-Some.is

pub returns-in-Some-busy-clause-offered : goal.returns-in-Some-busy-clause-offered
returns-in-Some-busy-clause-offered c = is_busy (option_map (λ (n : Bor Name). n.now) c.args.busy) c.args.manifest.now
    c.args.root.now
    (none_of c.args.root.now.previous c.in_default.not-Some) c.in-Some-busy.name.now
    (ap (λ (o : Option (Bor Name)). option_map (λ (n : Bor Name). n.now) o) c.in-Some-busy.is)
    ∙ ap (λ (e : PerError). Err e) (sym c.in_ok-is_open.ensures.refused)

pub returns-in-Ok-clause-offered : goal.returns-in-Ok-clause-offered
returns-in-Ok-clause-offered c = not_newer (option_map (λ (n : Bor Name). n.now) c.args.busy) c.args.manifest.now
    c.args.root.now
    (none_of c.args.root.now.previous c.in_default.not-Some)
    (ap (λ (o : Option (Bor Name)). option_map (λ (n : Bor Name). n.now) o)
    (none_of c.args.busy c.in_default-busy.not-Some))
    c.in-Ok.version (subst (λ (r : Result VersionText PerError). TellsRow (deployment_of c.args.manifest.now) r)
    c.in-Ok.is
    c.in_ok-version.ensures.told) (omega arith)

pub returns-in-Ok-2-clause-offered : goal.returns-in-Ok-2-clause-offered
returns-in-Ok-2-clause-offered c =
    is_offered (option_map (λ (n : Bor Name). n.now) c.args.busy) c.args.manifest.now c.args.root.now
    (none_of c.args.root.now.previous c.in_default.not-Some)
    (ap (λ (o : Option (Bor Name)). option_map (λ (n : Bor Name). n.now) o)
    (none_of c.args.busy c.in_default-busy.not-Some))
    c.in-Ok.version (subst (λ (r : Result VersionText PerError). IfOk r (λ v. v.text ≡ c.args.manifest.now)) c.in-Ok.is
    c.in_ok-version.ensures.text)
    (subst (λ (r : Result VersionText PerError). TellsRow (deployment_of c.args.manifest.now) r)
    c.in-Ok.is
    c.in_ok-version.ensures.told) (omega arith)

pub returns-in-Err-clause-offered : goal.returns-in-Err-clause-offered
returns-in-Err-clause-offered c = is_rejected (option_map (λ (n : Bor Name). n.now) c.args.busy) c.args.manifest.now
    c.args.root.now
    (none_of c.args.root.now.previous c.in_default.not-Some)
    (ap (λ (o : Option (Bor Name)). option_map (λ (n : Bor Name). n.now) o)
    (none_of c.args.busy c.in_default-busy.not-Some))
    c.in-Err.rejected (subst (λ (r : Result VersionText PerError). TellsRow (deployment_of c.args.manifest.now) r)
    c.in-Err.is c.in_ok-version.ensures.told)

-- ---- no memory

pub returns-in_err-is_open-clause-due : goal.returns-in_err-is_open-clause-due
returns-in_err-is_open-clause-due c = λ e refusal at_once.
    absurd (busy_takes (option_map (λ (n : Bor Name). n.now) c.args.busy) c.args.manifest.now c.args.root.now
    (none_of c.args.root.now.previous c.in_default.not-Some) c.in-Some-busy.name.now
    (ap (λ (o : Option (Bor Name)). option_map (λ (n : Bor Name). n.now) o) c.in-Some-busy.is)
    e refusal at_once)

pub returns-in_err-version-clause-due : goal.returns-in_err-version-clause-due
returns-in_err-version-clause-due c = λ e refusal at_once.
    absurd (offer_takes (option_map (λ (n : Bor Name). n.now) c.args.busy) c.args.manifest.now c.args.root.now
    (none_of c.args.root.now.previous c.in_default.not-Some)
    (ap (λ (o : Option (Bor Name)). option_map (λ (n : Bor Name). n.now) o)
    (none_of c.args.busy c.in_default-busy.not-Some))
    e refusal at_once)
