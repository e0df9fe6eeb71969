-- Contents that are to be written into blocks that were chosen for them.
use Rattle.std.specs.Prelude.{◌≢◌, ◌⊎◌, ℕ, ◌*◌, ◌<◌, ◌≤◌, List, length, slice_index, slice_index_or, sum_by}
use Rattle.std.specs.List.{All}
use Rattle.disk_model.specs.Image.{Image}
use Rattle.disk_model.specs.Case.{Case, IsSettledAt}
use Rattle.disk_model.specs.Medium.{Medium}
use Rattle.disk_model.specs.Frame.{KeepsCase}
use Rattle.disk_model.specs.Place.{area, IsNoArea}
use Rattle.disk_model.specs.declared.place.Place.{Place}
use Rattle.block_files.specs.Parts.{changed_blocks}
use Rattle.block_files.specs.BlockSets.{AreDistinct}
use Rattle.block_files.specs.Areas.{AllFull, HoldsShared}
use Rattle.block_files.specs.Writes.{IsApartFromChanged}
use Rattle.element_store.specs.declared.jobs.Job.{Job}

-- the blocks take the bytes, each block once
pub record IsRoomy (job : Job) : Type 0 where
  pub room : length job.bytes.now ≤ 256 * length job.blocks
  pub distinct : AreDistinct job.blocks

-- the block is none that a job writes
abbrev pub IsSparedByJob : Job → ℕ → Type 0
IsSparedByJob job block = IsApartFromChanged job.blocks job.bytes.now job.was.now block

-- no job writes a block of another
abbrev pub AreApart : List Job → Type 0
AreApart jobs = (i j : ℕ) (d : Job) → i ≢ j → i < length jobs → j < length jobs
    → (m : ℕ) → m < length (slice_index_or jobs i d).blocks
    → IsSparedByJob (slice_index_or jobs j d) (slice_index (slice_index_or jobs i d).blocks m)

-- the block is none that any of them writes
abbrev pub IsLeftByAll : List Job → ℕ → Type 0
IsLeftByAll jobs block = All (λ job. IsSparedByJob job block) jobs

-- every copy has the parts that a job does not write
abbrev pub HasShared : Image → Place → Job → Type 0
HasShared image place job = (c : ℕ) → c < place.copies
    → HoldsShared (image (area place c)) job.blocks job.bytes.now job.was.now

-- every copy has the bytes of a job
abbrev pub IsJobWritten : Image → Place → Job → Type 0
IsJobWritten image place job = AllFull place job.blocks job.bytes.now image

-- what a job writes in each copy, in bytes
abbrev pub job_cost : Job → ℕ
job_cost job = 256 * changed_blocks job.bytes.now job.was.now

-- what some jobs write in each copy together, in bytes
abbrev pub jobs_cost : List Job → ℕ
jobs_cost jobs = sum_by job_cost jobs

-- a case while the jobs are being written, or one after they were made durable
abbrev pub IsJobsCase : Place → List Job → (old new : Medium) → (done : Type 0) → Case → Type 0
IsJobsCase place jobs old new done c =
    ((d : Case) × old.now d × KeepsCase (IsNoArea place) (IsLeftByAll jobs) d c)
    ⊎ (done × IsSettledAt new.image c)
