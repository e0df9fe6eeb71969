use Rattle.per_runtime.proofs.storages.laws.storages_stand.Goals as goal

pub returns : goal.returns
returns c = record {
  in_use = c.roots_in_use.ensures.app;
  numbers = c.roots_say.ensures.numbers;
  files = c.files_lie_apart.ensures.storage;
  beside = c.files_lie_apart.ensures.beside;
  root_stays = c.in_use_stays.ensures.root;
  use_stays = c.use_stays.ensures.frame;
  stored = c.others_stand.ensures.stored;
  untouched = c.untouched_stands.ensures.untouched;
  storing = c.storing_stands.ensures;
}
