use Rattle.element_laws.specs.lemmas.RebuildingLaws.{clean_alone, clean_adopted, settled_sound, settled_kept}
use Rattle.element_laws.proofs.laws.places_are_clean.Goals as goal

pub returns-clause-alone : goal.returns-clause-alone
returns-clause-alone c = clean_alone

pub returns-clause-adopted : goal.returns-clause-adopted
returns-clause-adopted c = clean_adopted

pub returns-clause-sound : goal.returns-clause-sound
returns-clause-sound c = settled_sound

pub returns-clause-settled : goal.returns-clause-settled
returns-clause-settled c = settled_kept
