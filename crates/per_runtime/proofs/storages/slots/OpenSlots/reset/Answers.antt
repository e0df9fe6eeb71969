use Rattle.std.proofs.Common.{◌≡◌, Result, Some, refl, ap, ◌∙◌, subst, inl, inr}
use Rattle.std.specs.Prelude.{IfErr, IfOk}
use Rattle.per_base.specs.declared.errors.PerError.{PerError}
use Rattle.element_state.specs.declared.shapes.Shape.{Shape}
use Rattle.command_text.specs.declared.calls.Call.TheVariants as call
use Rattle.run_model.specs.Calls.{app_step}
use Rattle.deploy_rows.specs.Recovering.{resetting}
use Rattle.per_runtime.specs.storages.Finding.{config_of}
use Rattle.per_runtime.specs.storages.Rebuilding.{IsClosed, IsNoneClosed}
use Rattle.per_runtime.specs.storages.Slots.{resting_with}
use Rattle.per_runtime.specs.declared.storages.finding.Located.{Located}
use Rattle.per_runtime.proofs.storage_lemmas.Ended.{early_handled, starved_handled}
use Rattle.per_runtime.proofs.storage_lemmas.Needs.{as_row}
use Rattle.per_runtime.proofs.storage_lemmas.Rebuilt.{Rebuilds, rebuilt_err, rebuilt_ok, reset_is, resetting_early}
use Rattle.per_runtime.proofs.storage_lemmas.Rebuilt.{was_reset_reaches, was_reset_row}
use Rattle.per_runtime.proofs.storages.slots.OpenSlots.reset.Goals as goal

-- ---- no call of the disk

pub closed-requires : goal.closed-requires
closed-requires g c = record { below = c.requires.below; root = c.requires.root_at.memory }

pub returns-in-Ok-Err : goal.returns-in-Ok-Err
returns-in-Ok-Err g c =
    let told = g.D.Disk.told in let m = g.D.Disk.medium c.args.disk.now in let app = c.args.app in let now =
    c.args.now in let root = c.args.root.now in let was = c.args.self.now in
    let name = c.args.name.now in let law = g.met.D.Disk.lawful c.args.disk.now in let laws =
    c.storages_stand.ensures in let texts = c.errors_have_texts.ensures in
    let e = c.in-Ok-Err.error in
    let none : IsNoneClosed app root name was e = subst (λ (x : Result Located PerError).
    IfErr x (IsNoneClosed app root name was)) c.in-Ok-Err.field-0-is c.in-Ok-Err.ensures.refused in
    early_handled laws told app now root (call.ResetStorage name) was m (c.args.disk.now ≡ c.args.disk.now) refl law
    c.requires texts was refl e none.early c.refusal.result c.refusal.ensures
    (λ tells. reset_is app now (resting_with m.image app was) name
    ∙ none.row m.image (c.requires.root_at.disk tells) (λ f. resetting f.config now f.state))

pub returns-in-Err : goal.returns-in-Err
returns-in-Err g c =
    let told = g.D.Disk.told in let m = g.D.Disk.medium c.args.disk.now in let app = c.args.app in let now =
    c.args.now in let root = c.args.root.now in let was = c.args.self.now in
    let name = c.args.name.now in let law = g.met.D.Disk.lawful c.args.disk.now in let laws =
    c.storages_stand.ensures in let texts = c.errors_have_texts.ensures in
    starved_handled laws told app now root (call.ResetStorage name) was m (c.args.disk.now ≡ c.args.disk.now) refl law
    c.requires
    (λ tells. inr (as_row (app_step app (resting_with m.image app was) now (call.ResetStorage name)) _
    (reset_is app now (resting_with m.image app was) name)
    (c.in-Err.ensures.memory m.image (c.requires.root_at.disk tells) (λ f. resetting f.config now f.state)))) was

pub shape-requires : goal.shape-requires
shape-requires g c =
    let told = g.D.Disk.told in let m = g.D.Disk.medium c.args.disk.now in let app = c.args.app in let now =
    c.args.now in let root = c.args.root.now in let was = c.args.self.now in
    let name = c.args.name.now in let law = g.met.D.Disk.lawful c.args.disk.now in let laws =
    c.storages_stand.ensures in let texts = c.errors_have_texts.ensures in
    let closed : IsClosed app root name was c.in-Ok-Ok.located =
    subst (λ (x : Result Located PerError). IfOk x (IsClosed app root name was)) c.in-Ok-Ok.field-0-is
    c.in-Ok-Ok.ensures.closed in
    closed.located.within

pub returns-in_default : goal.returns-in_default
returns-in_default g c =
    let told = g.D.Disk.told in let m = g.D.Disk.medium c.args.disk.now in let app = c.args.app in let now =
    c.args.now in let root = c.args.root.now in let was = c.args.self.now in
    let name = c.args.name.now in let law = g.met.D.Disk.lawful c.args.disk.now in let laws =
    c.storages_stand.ensures in let texts = c.errors_have_texts.ensures in
    let l = c.in-Ok-Ok.located in
    let closed : IsClosed app root name was l = subst (λ (x : Result Located PerError).
    IfOk x (IsClosed app root name was)) c.in-Ok-Ok.field-0-is c.in-Ok-Ok.ensures.closed in
    starved_handled laws told app now root (call.ResetStorage name) was m (c.args.disk.now ≡ c.args.disk.now) refl law
    c.requires
    (λ tells. inl (was_reset_reaches told app now root was m l name
    (λ tells. closed.named m.image (c.requires.root_at.disk tells)) closed.free tells)) was

-- ---- it is rebuilt

pub reset_storage-requires : goal.reset_storage-requires
reset_storage-requires g c =
    let told = g.D.Disk.told in let m = g.D.Disk.medium c.args.disk.now in let app = c.args.app in let now =
    c.args.now in let root = c.args.root.now in let was = c.args.self.now in
    let name = c.args.name.now in let law = g.met.D.Disk.lawful c.args.disk.now in let laws =
    c.storages_stand.ensures in let texts = c.errors_have_texts.ensures in
    let closed : IsClosed app root name was c.in-Ok-Ok.located =
    subst (λ (x : Result Located PerError). IfOk x (IsClosed app root name was)) c.in-Ok-Ok.field-0-is
    c.in-Ok-Ok.ensures.closed in
    record {
      shape = c.in-Ok.ensures.keeps;
      config = closed.located.within.keeps;
      configured =
          c.in-Ok.ensures.configured;
    }

pub returns-in-Ok-reset_storage : goal.returns-in-Ok-reset_storage
returns-in-Ok-reset_storage g c =
    let told = g.D.Disk.told in let m = g.D.Disk.medium c.args.disk.now in let app = c.args.app in let now =
    c.args.now in let root = c.args.root.now in let was = c.args.self.now in
    let name = c.args.name.now in let law = g.met.D.Disk.lawful c.args.disk.now in let laws =
    c.storages_stand.ensures in let texts = c.errors_have_texts.ensures in
    let l = c.in-Ok-Ok.located in
    let closed : IsClosed app root name was l = subst (λ (x : Result Located PerError).
    IfOk x (IsClosed app root name was)) c.in-Ok-Ok.field-0-is c.in-Ok-Ok.ensures.closed in
    let new = g.D.Disk.medium c.reset_storage.new.disk in let made = c.reset_storage.ensures in
    let rebuilds = subst (λ (sh : Shape). Rebuilds told sh (resetting (config_of l) now) m new c.reset_storage.result)
    c.in-Ok.ensures.shape
    (record {
      refused = made.refused;
      state = made.state;
      unchanged = made.unchanged;
      clean = made.clean;
      quiet =
          made.quiet;
      cause = made.cause;
      fed = made.fed;
      passes = made.passes;
      outside = made.outside;
      any_moment = made.any_moment;
      time = made.time;
    }) in
    rebuilt_ok laws texts told app now root was m c.requires l closed.located closed.free (call.ResetStorage name)
    (resetting (config_of l) now)
    (was_reset_row told app now root was m l name (λ tells. closed.named m.image (c.requires.root_at.disk tells))
    closed.free)
    (λ tells. ap (λ x. Some x) (closed.named m.image (c.requires.root_at.disk tells)))
    (was_reset_reaches told app now root was m l name (λ tells. closed.named m.image (c.requires.root_at.disk tells))
    closed.free) refl refl (resetting_early (config_of l) now)
    new (c.reset_storage.new.disk ≡ c.args.disk.now) c.reset_storage.result rebuilds
    (λ tells. made.written)
    c.in-Ok-reset_storage.refused c.in-Ok-reset_storage.is c.done_or.result c.done_or.ensures

pub returns : goal.returns
returns g c =
    let told = g.D.Disk.told in let m = g.D.Disk.medium c.args.disk.now in let app = c.args.app in let now =
    c.args.now in let root = c.args.root.now in let was = c.args.self.now in
    let name = c.args.name.now in let law = g.met.D.Disk.lawful c.args.disk.now in let laws =
    c.storages_stand.ensures in let texts = c.errors_have_texts.ensures in
    let l = c.in-Ok-Ok.located in
    let closed : IsClosed app root name was l = subst (λ (x : Result Located PerError).
    IfOk x (IsClosed app root name was)) c.in-Ok-Ok.field-0-is c.in-Ok-Ok.ensures.closed in
    let new = g.D.Disk.medium c.reset_storage.new.disk in let made = c.reset_storage.ensures in
    let rebuilds = subst (λ (sh : Shape). Rebuilds told sh (resetting (config_of l) now) m new c.reset_storage.result)
    c.in-Ok.ensures.shape
    (record {
      refused = made.refused;
      state = made.state;
      unchanged = made.unchanged;
      clean = made.clean;
      quiet =
          made.quiet;
      cause = made.cause;
      fed = made.fed;
      passes = made.passes;
      outside = made.outside;
      any_moment = made.any_moment;
      time = made.time;
    }) in
    rebuilt_err laws texts told app now root was m c.requires l closed.located closed.free (call.ResetStorage name)
    (resetting (config_of l) now)
    (was_reset_row told app now root was m l name (λ tells. closed.named m.image (c.requires.root_at.disk tells))
    closed.free)
    (λ tells. ap (λ x. Some x) (closed.named m.image (c.requires.root_at.disk tells)))
    (was_reset_reaches told app now root was m l name (λ tells. closed.named m.image (c.requires.root_at.disk tells))
    closed.free) refl refl (resetting_early (config_of l) now)
    new (c.reset_storage.new.disk ≡ c.args.disk.now) c.reset_storage.result rebuilds
    (λ tells. made.written)
    c.in-Err-reset_storage.stop c.in-Err-reset_storage.is
