use Rattle.element_store.proofs.StoreViews.{store_view}
use Rattle.element_store.proofs.store.Store.invariants.Goals as goal

pub returns : goal.returns
returns c = store_view c.args.self.now c.requires
