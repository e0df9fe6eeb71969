use Rattle.std.proofs.Common.{◌≡◌, Err, refl, sym, ap, subst, ◌∙◌, inl}
use Rattle.per_base.specs.declared.errors.PerError.{PerError}
use Rattle.per_base.specs.declared.errors.PerError.TheVariants as error
use Rattle.per_base.specs.declared.errors.Holder.TheVariants as holder
use Rattle.element_state.specs.Clean.{IsClean}
use Rattle.element_state.specs.declared.shapes.Shape.{Shape}
use Rattle.element_state.specs.States.{State, store_at}
use Rattle.element_maps.specs.Storages.{IsStoring}
use Rattle.element_store.specs.Stores.{IsUsed}
use Rattle.deploy.specs.declared.errors.Stop.{Stop}
use Rattle.open_storages.specs.declared.opening.Opening.{Opening}
use Rattle.open_storages.specs.declared.opening.Opening.TheVariants as found
use Rattle.open_storages.specs.Openings.{IsOpeningOf, IsWhereConfigured, OnCorrupt, OnOpened}
use Rattle.open_storages.specs.Opens.{store_in}
use Rattle.command_text.specs.declared.replies.Answer.TheVariants.{Done}
use Rattle.run_model.specs.Calls.{storage_opened}
use Rattle.per_runtime.specs.storages.Finding.{IsEarly, config_of, found_on, shape_at}
use Rattle.per_runtime.specs.storages.Openings.{open_call}
use Rattle.per_runtime.specs.storages.Slots.{resting_with}
use Rattle.per_runtime.proofs.storage_lemmas.Ended.{early_handled, starved_handled}
use Rattle.per_runtime.proofs.storage_lemmas.Needs.{row_needs}
use Rattle.per_runtime.proofs.storage_lemmas.OpenRows.{open_busy, open_not_found, open_reaches, open_row}
use Rattle.per_runtime.proofs.storage_lemmas.OpenEnds.{is_early_busy, open_corrupt, open_failed, open_opened}
use Rattle.per_runtime.proofs.storage_lemmas.OpenEnds.{opened_costs, session_there}
use Rattle.per_runtime.proofs.storages.slots.OpenSlots.open.Goals as goal

-- ---- the disk is not called

pub returns-in-Err : goal.returns-in-Err
returns-in-Err g c = λ now.
    let told = g.D.Disk.told in let m = g.D.Disk.medium c.args.disk.now in let app = c.args.app in let root =
    c.args.root.now in let was = c.args.self.now in
    let kind = c.args.kind in let name = c.args.name.now in let law = g.met.D.Disk.lawful c.args.disk.now in
    early_handled c.storages_stand.ensures told app now root (open_call kind name) was m
    (c.args.disk.now ≡ c.args.disk.now) refl law c.requires
    c.errors_have_texts.ensures was refl c.in-Err.error c.in-Err.ensures.early c.refusal.result c.refusal.ensures
    (λ tells. open_not_found app now (resting_with m.image app was) kind name c.in-Err.error
    (c.in-Err.ensures.refused m.image (c.requires.root_at.disk tells)))

pub returns-in-Ok-copy : goal.returns-in-Ok-copy
returns-in-Ok-copy g c = λ now.
    let told = g.D.Disk.told in let m = g.D.Disk.medium c.args.disk.now in let app = c.args.app in let root =
    c.args.root.now in let was = c.args.self.now in
    let kind = c.args.kind in let name = c.args.name.now in let law = g.met.D.Disk.lawful c.args.disk.now in
    let l = c.in-Ok.located in
    let due = c.is_open-in-Ok-copy.ensures ∙ ap (λ n. error.ResourceBusy (holder.Storage n)) c.in-Ok-copy.ensures in
    early_handled c.storages_stand.ensures told app now root (open_call kind name) was m
    (c.args.disk.now ≡ c.args.disk.now) refl law c.requires
    c.errors_have_texts.ensures was refl c.is_open-in-Ok-copy.result
    (subst IsEarly (sym due) (is_early_busy l.config.now.name)) c.refusal-in-Ok-copy.result
    c.refusal-in-Ok-copy.ensures
    (λ tells. open_busy app now (resting_with m.image app was) kind name (found_on m.image l)
    (c.in-Ok.ensures.found m.image (c.requires.root_at.disk tells))
    (session_there m.image app was l.number ∙ sym c.is_open.ensures ∙ c.if-is_open.true)
    ∙ ap (λ (e : PerError). Err e) (sym due))

pub returns-in-Err-copy : goal.returns-in-Err-copy
returns-in-Err-copy g c = λ now.
    let told = g.D.Disk.told in let m = g.D.Disk.medium c.args.disk.now in let app = c.args.app in let root =
    c.args.root.now in let was = c.args.self.now in
    let kind = c.args.kind in let name = c.args.name.now in let law = g.met.D.Disk.lawful c.args.disk.now in
    let l = c.in-Ok.located in
    starved_handled c.storages_stand.ensures told app now root (open_call kind name) was m
    (c.args.disk.now ≡ c.args.disk.now) refl law c.requires
    (λ tells. row_needs app now (resting_with m.image app was) (open_call kind name)
    (Err (error.ResourceBusy (holder.Storage l.config.now.name)))
    (open_busy app now (resting_with m.image app was) kind name (found_on m.image l)
    (c.in-Ok.ensures.found m.image (c.requires.root_at.disk tells))
    (session_there m.image app was l.number ∙ sym c.is_open.ensures ∙ c.if-is_open.true)) tt) was

pub returns-in_default : goal.returns-in_default
returns-in_default g c = λ now.
    let told = g.D.Disk.told in let m = g.D.Disk.medium c.args.disk.now in let app = c.args.app in let root =
    c.args.root.now in let was = c.args.self.now in
    let kind = c.args.kind in let name = c.args.name.now in let law = g.met.D.Disk.lawful c.args.disk.now in
    let f = found_on m.image c.in-Ok.located in let before = resting_with m.image app was in
    starved_handled c.storages_stand.ensures told app now root (open_call kind name) was m
    (c.args.disk.now ≡ c.args.disk.now) refl law c.requires
    (λ tells. inl (open_reaches app now before kind name (storage_opened app before f f.state) refl
    (open_row app now before kind name f (c.in-Ok.ensures.found m.image (c.requires.root_at.disk tells))
    (session_there m.image app was c.in-Ok.located.number ∙ sym c.is_open.ensures ∙ c.if-is_open.false)))) was

-- ---- the storage was opened

pub returns-in-Ok-Opened : goal.returns-in-Ok-Opened
returns-in-Ok-Opened g c = λ now.
    let told = g.D.Disk.told in let m = g.D.Disk.medium c.args.disk.now in let app = c.args.app in let root =
    c.args.root.now in let was = c.args.self.now in
    let kind = c.args.kind in let name = c.args.name.now in let law = g.met.D.Disk.lawful c.args.disk.now in
    let l = c.in-Ok.located in let new = g.D.Disk.medium c.open_storage.new.disk in let placed_so =
    c.in-Ok-shape.ensures.shape in
    let storing : (after : State) → IsStoring told (shape_at l) after m new =
    λ after. subst (λ (sh : Shape). IsStoring told sh after m new) placed_so (c.open_storage.ensures.storing after)
    in
    let closed = sym c.is_open.ensures ∙ c.if-is_open.false in
    let given = c.in-Ok-Opened.field-0-is in let o = c.in-Ok-Opened.storage in
    open_opened c.storages_stand.ensures told app now root kind name was m l c.in-Ok.ensures.located c.requires
    c.in-Ok.ensures.found c.in-Ok.ensures.named closed new (c.open_storage.new.disk ≡ c.args.disk.now) storing
    (λ tells. opened_costs m new l c.in-Ok-shape.shape placed_so c.in-Ok-shape.ensures.configured.copies
    (c.open_storage.ensures.written tells))
    o c.in-Ok-Opened.reports c.put.new.self
    (subst (λ (sh : Shape). IsWhereConfigured sh (config_of l) o) placed_so
    (subst (λ (x : Opening). OnOpened x (IsWhereConfigured c.in-Ok-shape.shape (config_of l))) given
    c.in-Ok-Opened.ensures.placed))
    (subst (λ (x : Opening). OnOpened x (λ o. IsUsed told new.image (store_in o))) given c.in-Ok-Opened.ensures.used)
    (record { kind = c.invariants.ensures.kind; shows = c.invariants.ensures.synced })
    c.in-Ok-Opened.ensures.quiet c.in-Ok-Opened.ensures.passes c.put.ensures
    (λ tells clean. subst (λ (sh : Shape). IsClean sh new.image) placed_so
    (c.in-Ok-Opened.ensures.clean tells (subst (λ (sh : Shape). IsClean sh m.image) (sym placed_so) clean)))
    (λ tells. subst (λ (sh : Shape). IsOpeningOf (store_at m.image sh) sh (config_of l)
    (found.Opened o c.in-Ok-Opened.reports)) placed_so
    (subst (λ (x : Opening). IsOpeningOf (store_at m.image c.in-Ok-shape.shape) c.in-Ok-shape.shape (config_of l) x)
    given (c.in-Ok-Opened.ensures.opened tells)))
    (record { reports = c.new.result; answer = Done }) (ap (λ rs. record { reports = rs; answer = Done }) c.new.ensures)

pub returns-in-Ok-is_corrupt : goal.returns-in-Ok-is_corrupt
returns-in-Ok-is_corrupt g c = λ now.
    let told = g.D.Disk.told in let m = g.D.Disk.medium c.args.disk.now in let app = c.args.app in let root =
    c.args.root.now in let was = c.args.self.now in
    let kind = c.args.kind in let name = c.args.name.now in let law = g.met.D.Disk.lawful c.args.disk.now in
    let l = c.in-Ok.located in let new = g.D.Disk.medium c.open_storage.new.disk in let placed_so =
    c.in-Ok-shape.ensures.shape in
    let storing : (after : State) → IsStoring told (shape_at l) after m new =
    λ after. subst (λ (sh : Shape). IsStoring told sh after m new) placed_so (c.open_storage.ensures.storing after)
    in
    let closed = sym c.is_open.ensures ∙ c.if-is_open.false in
    let given = c.in-Ok-Corrupt.field-0-is in let report = c.in-Ok-Corrupt.report in
    open_corrupt c.storages_stand.ensures told app now root kind name was m l c.in-Ok.ensures.located c.requires
    c.in-Ok.ensures.found c.in-Ok.ensures.named closed new (c.open_storage.new.disk ≡ c.args.disk.now) storing
    (λ tells. opened_costs m new l c.in-Ok-shape.shape placed_so c.in-Ok-shape.ensures.configured.copies
    (c.open_storage.ensures.written tells))
    report (subst (λ (x : Opening). OnCorrupt x ((new.image ≡ m.image) × (new.written ≡ m.written))) given
    c.in-Ok-Corrupt.ensures.untouched)
    c.in-Ok-Corrupt.ensures.quiet c.in-Ok-Corrupt.ensures.passes
    (λ tells. subst (λ (sh : Shape). IsOpeningOf (store_at m.image sh) sh (config_of l) (found.Corrupt report))
    placed_so
    (subst (λ (x : Opening). IsOpeningOf (store_at m.image c.in-Ok-shape.shape) c.in-Ok-shape.shape (config_of l) x)
    given (c.in-Ok-Corrupt.ensures.opened tells)))
    c.in-Ok-is_corrupt.reply c.in-Ok-is_corrupt.ensures

pub returns-in-Err-is_corrupt : goal.returns-in-Err-is_corrupt
returns-in-Err-is_corrupt g c = λ now.
    let told = g.D.Disk.told in let m = g.D.Disk.medium c.args.disk.now in let app = c.args.app in let root =
    c.args.root.now in let was = c.args.self.now in
    let kind = c.args.kind in let name = c.args.name.now in let law = g.met.D.Disk.lawful c.args.disk.now in
    let l = c.in-Ok.located in let new = g.D.Disk.medium c.open_storage.new.disk in let placed_so =
    c.in-Ok-shape.ensures.shape in
    let storing : (after : State) → IsStoring told (shape_at l) after m new =
    λ after. subst (λ (sh : Shape). IsStoring told sh after m new) placed_so (c.open_storage.ensures.storing after)
    in
    let closed = sym c.is_open.ensures ∙ c.if-is_open.false in
    open_failed c.storages_stand.ensures told app now root kind name was m l c.in-Ok.ensures.located c.requires
    c.in-Ok.ensures.found c.in-Ok.ensures.named closed new (c.open_storage.new.disk ≡ c.args.disk.now) storing
    (λ tells. opened_costs m new l c.in-Ok-shape.shape placed_so c.in-Ok-shape.ensures.configured.copies
    (c.open_storage.ensures.written tells))
    _ (λ e. absurd cc) (λ e. c.in-Ok-Corrupt.ensures.passes)

pub returns-in-Err-open_storage : goal.returns-in-Err-open_storage
returns-in-Err-open_storage g c = λ now.
    let told = g.D.Disk.told in let m = g.D.Disk.medium c.args.disk.now in let app = c.args.app in let root =
    c.args.root.now in let was = c.args.self.now in
    let kind = c.args.kind in let name = c.args.name.now in let law = g.met.D.Disk.lawful c.args.disk.now in
    let l = c.in-Ok.located in let new = g.D.Disk.medium c.open_storage.new.disk in let placed_so =
    c.in-Ok-shape.ensures.shape in
    let storing : (after : State) → IsStoring told (shape_at l) after m new =
    λ after. subst (λ (sh : Shape). IsStoring told sh after m new) placed_so (c.open_storage.ensures.storing after)
    in
    let closed = sym c.is_open.ensures ∙ c.if-is_open.false in
    open_failed c.storages_stand.ensures told app now root kind name was m l c.in-Ok.ensures.located c.requires
    c.in-Ok.ensures.found c.in-Ok.ensures.named closed new (c.open_storage.new.disk ≡ c.args.disk.now) storing
    (λ tells. opened_costs m new l c.in-Ok-shape.shape placed_so c.in-Ok-shape.ensures.configured.copies
    (c.open_storage.ensures.written tells))
    c.in-Err-open_storage.stop (λ e. c.open_storage.ensures.cause
    (c.in-Err-open_storage.is ∙ ap (λ (s : Stop). Err s) e))
    (λ e. c.open_storage.ensures.fed (c.in-Err-open_storage.is ∙ ap (λ (s : Stop). Err s) e))
