use Rattle.run_model.proofs.laws.applications_stand.Goals as goal

pub returns : goal.returns
returns c = record {
  untouched = c.untouched_stands.ensures.untouched;
  still = c.untouched_stands.ensures.still;
  others = c.others_stand.ensures.others;
  others_case = c.others_stand.ensures.cases;
  clean = c.roots_stay.ensures.clean;
  mend = c.roots_stay.ensures.mended;
  manifests = c.manifests_stay.ensures.frame;
}
