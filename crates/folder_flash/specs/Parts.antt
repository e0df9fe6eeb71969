-- A failure of the file of a flash.
use Rattle.std.specs.Prelude.{◌≡◌}
use Rattle.system_model.specs.declared.failures.Failure.{Failure}
use Rattle.system_model.specs.declared.failures.Part.{Part}
use Rattle.system_model.specs.declared.failures.Part.TheVariants.{Folder, File, Flash}

-- the file of the folder is that of the flash
abbrev pub part_of_flash : Part → Part
part_of_flash Folder = Folder
part_of_flash (File number) = Flash
part_of_flash Flash = Flash

-- a failure of the flash's file, said of the flash: the same call, for the same reason
pub record IsOfFlash (failure made : Failure) : Type 0 where
  pub asked : made.asked ≡ failure.asked
  pub part : made.part ≡ part_of_flash failure.part
  pub error : made.error ≡ failure.error
