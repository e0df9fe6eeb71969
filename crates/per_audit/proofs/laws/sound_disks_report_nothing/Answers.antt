use Rattle.per_audit.proofs.Silent.{intact_disk, silent_opening, sound_disk}
use Rattle.per_audit.proofs.laws.sound_disks_report_nothing.Goals as goal

pub returns-clause-intact : goal.returns-clause-intact
returns-clause-intact c = intact_disk

pub returns-clause-sound : goal.returns-clause-sound
returns-clause-sound c = sound_disk

pub returns-clause-silent : goal.returns-clause-silent
returns-clause-silent c = silent_opening
