use Rattle.per_backup.proofs.laws.storages_stand.Goals as goal

pub returns : goal.returns
returns c = record {
  versions = c.roots_say.ensures.versions;
  numbers = c.roots_say.ensures.numbers;
  beside = c.files_lie_apart.ensures.beside;
  stored = c.others_stand.ensures.stored;
  untouched = c.untouched_is_kept.ensures.untouched;
  still = c.untouched_stands.ensures.still;
  storing = c.storing_stands.ensures;
  mended = c.roots_stay.ensures.mended;
}
