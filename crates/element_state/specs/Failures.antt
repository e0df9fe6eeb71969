-- What a failure below is to a call on a storage.
use Rattle.guarded_cell.specs.declared.errors.CellError.{CellError}
use Rattle.guarded_cell.specs.declared.errors.CellError.TheVariants as cell
use Rattle.block_files.specs.declared.errors.BlobError.{BlobError}
use Rattle.block_files.specs.declared.errors.BlobError.TheVariants as blob
use Rattle.element_state.specs.declared.errors.StoreError.{StoreError}
use Rattle.element_state.specs.declared.errors.StoreError.TheVariants.{Device, Corrupt, OutOfMemory}

-- a failure of the register that holds the index
abbrev pub of_cell : CellError → StoreError
of_cell cell.Device = Device
of_cell cell.Corrupt = Corrupt
of_cell cell.OutOfMemory = OutOfMemory

-- a failure while a content is read or mended
abbrev pub of_blob : BlobError → StoreError
of_blob blob.Device = Device
of_blob blob.OutOfMemory = OutOfMemory
