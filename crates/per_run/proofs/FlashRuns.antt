-- What a run over a flash says, carried from its parts to the whole.
use Rattle.std.proofs.Common.{◌≡◌, ◌⊎◌, ℕ, ◌+◌, subst, arith}
use Rattle.std.specs.Prelude.{IfSome}
use Rattle.per_base.specs.Causes.{Rose}
use Rattle.flash_model.specs.declared.flash.Flash.{Ghosts as FlashOf}
use Rattle.flash_disk.specs.FlashView.{FlashView}
use Rattle.run_model.specs.Converters.{Converters}
use Rattle.run_model.specs.Edges.{Edges}
use Rattle.run_model.specs.Lines.{IsWellFormed}
use Rattle.per_run.specs.declared.flash.FlashRun.{FlashRun}
use Rattle.per_run.specs.declared.flash.FlashRun.TheVariants.{Ran, Unopened}
use Rattle.per_run.specs.declared.words.JobKind.{JobKind}
use Rattle.per_run.specs.declared.words.JobKind.TheVariants.{Run}
use Rattle.per_run.specs.Flashes.{FlashRan, IfRan, IfUnopened, disk_of, edges_over}
use Rattle.per_run.proofs.Caused.{completes_if}
use Rattle.per_run.proofs.Completes.{OneLine}

pub ran_then : {F : Type 0} {P Q : ℕ → FlashView F → Type 0} (r : FlashRun F)
    → ((status : ℕ) (disk : FlashView F) → P status disk → Q status disk) → IfRan r P → IfRan r Q
ran_then (Ran status disk) implies p = implies status disk p
ran_then (Unopened status flash) implies p = tt

pub unopened_then : {F : Type 0} {P Q : ℕ → F → Type 0} (r : FlashRun F)
    → ((status : ℕ) (back : F) → P status back → Q status back) → IfUnopened r P → IfUnopened r Q
unopened_then (Ran status disk) implies p = tt
unopened_then (Unopened status flash) implies p = implies status flash p

-- a run over good lines, with no failure of the flash since it was handed in, handles them all
pub flash_completes : {F : Type 0} → OneLine → (of_flash : FlashOf F) (kind : JobKind) (converters : Converters)
    (status : ℕ) (before : Edges F) (after : Edges (FlashView F))
    → FlashRan of_flash kind converters status before after → kind ≡ Run
    → (Rose (of_flash.medium before.disk).faults ((of_flash.medium after.disk.flash).faults + after.disk.own) → ⊥)
    → (Rose before.source_failures after.source_failures → ⊥) → (Rose before.sink_failures after.sink_failures → ⊥)
    → IfSome before.left (λ l. IsWellFormed l → (status ≡ 0) ⊎ (status ≡ 4))
flash_completes one of_flash kind converters status before after ran is calm source sink =
    let flash_count = ran.is_opened.faults in
    let own = ran.is_opened.own in
    let same : (of_flash.medium ran.opened.flash).faults + ran.opened.own ≡ (of_flash.medium before.disk).faults =
    omega (arith, flash_count, own) in
    completes_if one (disk_of of_flash) kind converters status (edges_over before ran.opened) after ran.done is
    (λ rose. calm (subst (λ (n : ℕ). Rose n ((of_flash.medium after.disk.flash).faults + after.disk.own)) same rose))
    source sink
