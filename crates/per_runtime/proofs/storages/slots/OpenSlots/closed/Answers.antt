use Rattle.std.proofs.Common.{Err, sym, ap, ◌∙◌}
use Rattle.per_base.specs.declared.errors.Holder.TheVariants as holder
use Rattle.per_base.specs.declared.errors.PerError.TheVariants as error
use Rattle.per_runtime.specs.storages.Finding.{found_on}
use Rattle.per_runtime.specs.storages.Rebuilding.{NamesOpen}
use Rattle.per_runtime.specs.storages.Slots.{resting_with}
use Rattle.per_runtime.proofs.storage_lemmas.Needs.{as_row, on_err}
use Rattle.per_runtime.proofs.storage_lemmas.Rebuilt.{busy_closed, busy_early, none_closed, none_is}
use Rattle.per_runtime.proofs.storages.slots.OpenSlots.closed.Goals as goal

pub returns-in-Err-clause-refused : goal.returns-in-Err-clause-refused
returns-in-Err-clause-refused c = record {
  early = c.in-Err.ensures.early;
  row = λ image on state_of. none_closed (resting_with image c.args.app c.args.self.now) c.args.name.now state_of
      c.in-Err.error (c.in-Err.ensures.refused image on);
}

pub returns-then-is_open-clause-refused : goal.returns-then-is_open-clause-refused
returns-then-is_open-clause-refused c =
    let l = c.in-Ok.located in
    record {
      early = busy_early c.in_ok-storage.storage;
      row = λ image on state_of. busy_closed image c.args.app c.args.self.now c.args.name.now state_of
          (found_on image l) (c.in-Ok.ensures.named image on) (sym c.is_open.ensures ∙ c.if-is_open.true)
          ∙ ap (λ n. Err (error.ResourceBusy (holder.Storage n))) (sym c.in_ok-storage.ensures);
    }

pub returns-clause-closed : goal.returns-clause-closed
returns-clause-closed c = record {
  located = c.in-Ok.ensures.located;
  named = c.in-Ok.ensures.named;
  free = none_is _ (sym c.is_open.ensures ∙ c.if-is_open.false);
}

pub returns-in_err-storage-clause-memory : goal.returns-in_err-storage-clause-memory
returns-in_err-storage-clause-memory c =
    let l = c.in-Ok.located in
    on_err _ (NamesOpen c.args.app c.args.root.now c.args.name.now c.args.self.now) (λ image on state_of. as_row _ _
    (busy_closed image c.args.app c.args.self.now c.args.name.now state_of (found_on image l)
    (c.in-Ok.ensures.named image on) (sym c.is_open.ensures ∙ c.if-is_open.true)) tt)
