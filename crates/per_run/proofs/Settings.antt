-- What a run sets out with, put together from its parts.
use Rattle.std.specs.Prelude.{ℕ, List, Option, Bool}
use Rattle.disk_model.specs.Medium.{Medium}
use Rattle.disk_model.specs.declared.disk.Disk.{Ghosts as DiskOf}
use Rattle.run_model.specs.Converters.{Converters}
use Rattle.per_run.specs.Steps.{Outset}

abbrev pub setting : (told : Bool) → Converters → (start : Medium) → (before : Option (List ℕ)) → Outset
setting told converters start before = record {
  told = told;
  converters = converters;
  start = start;
  before = before;
}

abbrev pub disk_as : {D : Type 0} → (told : Bool) → (medium : D → Medium) → DiskOf D
disk_as told medium = record { told = told; medium = medium }
