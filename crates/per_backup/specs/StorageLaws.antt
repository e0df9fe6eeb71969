-- The laws of the crates below on which an import stands, in one.
use Rattle.element_laws.specs.Phases.{UntouchedLaw}
use Rattle.deploy_laws.specs.Laws.{BesideLaw, NumberLaw, RootMendLaw, StillAppLaw, StoredLaw, StoringLaw, VersionsLaw}

-- each law as its own crate states it
pub record BackupLaws : Type 0 where
  -- what a root names, where the storages of a version are stored, and what stays where the files of one change
  pub versions : VersionsLaw
  pub numbers : NumberLaw
  pub beside : BesideLaw
  pub stored : StoredLaw
  -- what a stop leaves, while nothing is touched, and while one storage is written
  pub untouched : UntouchedLaw
  pub still : StillAppLaw
  pub storing : StoringLaw
  -- copies of a root that lack it matter to nothing but whether two are left
  pub mended : RootMendLaw
