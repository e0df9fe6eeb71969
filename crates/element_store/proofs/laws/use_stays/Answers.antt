use Rattle.element_store.specs.Stores.{view_in}
use Rattle.element_store.proofs.laws.use_stays.Goals as goal

pub returns-clause-frame : goal.returns-clause-frame
returns-clause-frame c = λ told store old new same used. record {
  memory = used.memory;
  disk = λ tells. (c.places_stand_apart.ensures.frame store.shape old new (same tells)).in_use store.index
      (view_in store) (used.disk tells);
}

pub returns-clause-elsewhere : goal.returns-clause-elsewhere
returns-clause-elsewhere c = λ told store one old new apart same used. record {
  memory = used.memory;
  disk = λ tells. (c.places_stand_apart.ensures.unchanged one store.shape old new apart (same tells)).in_use store.index
      (view_in store) (used.disk tells);
}
