-- A loop over things of a text that ends with an error.
use Rattle.std.proofs.Common.{◌≡◌, ℕ, ◌-◌, ◌<◌, List, Option}
use Rattle.export_text.specs.declared.errors.ExportError.{ExportError}
use Rattle.export_text.specs.declared.errors.ExportError.TheVariants as errors
use Rattle.per_base.specs.Fields.{many}
use Rattle.per_base.specs.FieldLoops.{with_front, breaks_off}
use Rattle.export_text.specs.Views.{FailsToRead}

pub ends : {A : Type 0} (read : List ℕ → Option (A × List ℕ)) (e : ExportError) (front : List A) (count i : ℕ)
    (bytes : List ℕ) (total : Option (List A × List ℕ)) → i < count
    → FailsToRead e (read bytes) → with_front front (many read (count - i) bytes) ≡ total → FailsToRead e total
ends read errors.OutOfMemory front count i bytes total lt h so_far = tt
ends read errors.NotAnExport front count i bytes total lt h so_far =
    breaks_off read front count i bytes total lt h so_far
