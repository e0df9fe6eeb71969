use Rattle.std.proofs.Common.{[], None, Result, sym, subst}
use Rattle.std.specs.Prelude.{IfOk}
use Rattle.deployment_model.specs.Data.{storage_data}
use Rattle.element_state.specs.Read.{IsView}
use Rattle.element_state.specs.States.{Corrupt, Opens}
use Rattle.element_state.specs.declared.errors.StoreError.{StoreError}
use Rattle.element_state.specs.declared.shapes.View.{View}
use Rattle.update_plan.specs.declared.contents.StorageContents.{StorageContents}
use Rattle.update_plan.specs.Plans.{ArePresent}
use Rattle.deploy.proofs.ReadStored.{shape_kind, view_stored}
use Rattle.deploy.proofs.updating.read_stored.Goals.{in-Ok+in-One-1, in-Ok+in-Many-1, in-Err-Corrupt}
use Rattle.deploy.proofs.updating.read_stored.Goals as goal

pub returns-clause-some : goal.returns-clause-some
returns-clause-some g c = elim c.match-inspect.branch [
  | in-Ok+in-One-1 w ↦ (Opens w.in-Ok.view [], sym w.contents-is)
  | in-Ok+in-Many-1 w ↦ (Opens w.in-Ok.view [], sym w.contents-is)
  | in-Err-Corrupt w ↦ (Corrupt None [], sym w.contents-is)
]

pub returns-clause-present : goal.returns-clause-present
returns-clause-present g c = elim c.match-inspect.branch [
  | in-Ok+in-One-1 w ↦ subst (λ (x : StorageContents). ArePresent c.args.config.now.kind x) (sym w.contents-is)
      (view_stored c.in_ok-shape.shape w.in-Ok.view c.args.config.now.kind
      (shape_kind c.args.app c.args.bank c.args.number (storage_data c.args.config.now) c.in_ok-shape.shape
      c.in_ok-shape.ensures.shape)
      (subst (λ (r : Result View StoreError). IfOk r (λ (v : View). IsView c.in_ok-shape.shape v)) w.in-Ok.is
      c.inspect.ensures.read))
  | in-Ok+in-Many-1 w ↦ subst (λ (x : StorageContents). ArePresent c.args.config.now.kind x) (sym w.contents-is)
      (view_stored c.in_ok-shape.shape w.in-Ok.view c.args.config.now.kind
      (shape_kind c.args.app c.args.bank c.args.number (storage_data c.args.config.now) c.in_ok-shape.shape
      c.in_ok-shape.ensures.shape)
      (subst (λ (r : Result View StoreError). IfOk r (λ (v : View). IsView c.in_ok-shape.shape v)) w.in-Ok.is
      c.inspect.ensures.read))
  | in-Err-Corrupt w ↦ subst (λ (x : StorageContents). ArePresent c.args.config.now.kind x) (sym w.contents-is) tt
]
