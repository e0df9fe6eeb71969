-- What a run over raw flash promises: how the flash was opened as a disk, the job on that disk, and what a stop leaves
-- of the flash.
use Rattle.std.specs.Prelude.{◌≡◌, ◌⊎◌, ◌<◌, ◌≤◌, ℕ, Option, None, Some, Bool, IsTrue, ⊤}
use Rattle.per_base.specs.Causes.{Rose}
use Rattle.disk_model.specs.Medium.{Quiet, Elapses}
use Rattle.disk_model.specs.declared.disk.Disk.{Ghosts as DiskOf}
use Rattle.flash_model.specs.FlashMedium.{FlashMedium}
use Rattle.flash_model.specs.declared.flash.Flash.{Ghosts as FlashOf}
use Rattle.flash_model.specs.Pages.{IsPlain}
use Rattle.flash_model.specs.State.{FlashCase, settle_pages}
use Rattle.flash_disk.specs.Apart.{StandApart}
use Rattle.flash_disk.specs.FlashDiskMedium.{IsJustOpened, disk_case, disk_seen}
use Rattle.flash_disk.specs.FlashFiles.{flash_files}
use Rattle.flash_disk.specs.FlashView.{FlashView}
use Rattle.flash_disk.specs.KeepsApart.{ApartSince}
use Rattle.flash_disk.specs.Learnt.{IsTop}
use Rattle.flash_disk.specs.Looks.{LeavesFlashAlone, OpensFlash}
use Rattle.flash_disk.specs.Newest.{IsUnusable, IsUsable, places}
use Rattle.flash_disk.specs.Standing.{IsAgreed}
use Rattle.flash_disk.specs.Throughout.{AgreedSince, UsableSince}
use Rattle.flash_laws.specs.Outvotes.{OutlastsSince}
use Rattle.loss_laws.specs.Since.{ReadOnSince}
use Rattle.run_model.specs.Converters.{Converters}
use Rattle.run_model.specs.Edges.{Edges, failures_at, modelled}
use Rattle.per_run.specs.declared.flash.FlashRun.{FlashRun}
use Rattle.per_run.specs.declared.flash.FlashRun.TheVariants.{Ran, Unopened}
use Rattle.per_run.specs.declared.words.Job.{Job}
use Rattle.per_run.specs.declared.words.JobKind.{JobKind}
use Rattle.per_run.specs.Jobs.{IsCaused, JobDone}

-- ---- the opening

-- a flash with this number of blocks is too small or too large to be a disk
abbrev pub IsWrongSize : (blocks : ℕ) → Type 0
IsWrongSize blocks = (blocks < 4) ⊎ (4096 < blocks)

-- A flash that can be a disk was opened as one: no page changed, what it held is settled, and the disk has its files.
pub record IsOpenedFlash {F : Type 0} (told : Bool) (medium : F → FlashMedium) (flash : F)
    (opened : FlashView F) : Type 0
  where
    pub many : 4 ≤ (medium flash).blocks
    pub few : (medium flash).blocks ≤ 4096
    pub usable : IsTrue told → IsUsable (medium flash).state.pages (medium flash).blocks
    pub blocks : (medium opened.flash).blocks ≡ (medium flash).blocks
    pub state : IsTrue told → (medium opened.flash).state ≡ settle_pages (medium flash).state
    pub files : IsTrue told → (disk_seen told medium opened).image
        ≡ flash_files (medium flash).state.pages (medium flash).blocks
    pub top : IsTrue told → IsTop (medium flash).state.pages (places (medium flash).blocks) opened.sequence
    pub own : opened.own ≡ 0
    pub written : opened.written ≡ 0
    pub faults : (medium opened.flash).faults ≡ (medium flash).faults
    pub quiet : Quiet (disk_seen told medium opened)
    pub begins : IsJustOpened told (medium flash) (disk_seen told medium opened)
    -- a stop meanwhile leaves what the flash held
    pub meanwhile : OpensFlash told (medium flash) (medium opened.flash)

-- Why a flash was not opened, and the status that says so; back is what is handed back.
pub data IsNotOpened (told : Bool) (status : ℕ) (flash back : FlashMedium) : Type 0 where
  wrong_size : IsWrongSize flash.blocks → status ≡ 11 → IsNotOpened told status flash back
  unusable : ¬ (IsWrongSize flash.blocks) → (IsTrue told → IsUnusable flash.state.pages flash.blocks)
      → back.faults ≡ flash.faults → status ≡ 10 → IsNotOpened told status flash back
  failed : ¬ (IsWrongSize flash.blocks) → Rose flash.faults back.faults → status ≡ 3
      → IsNotOpened told status flash back
  memory : ¬ (IsWrongSize flash.blocks) → status ≡ 4 → IsNotOpened told status flash back

-- no page of what is handed back changed, also at no moment, and no count fell
pub record IsHandedBack (told : Bool) (flash back : FlashMedium) : Type 0 where
  pub looks : LeavesFlashAlone told flash back
  pub blocks : back.blocks ≡ flash.blocks
  pub faults : flash.faults ≤ back.faults

-- ---- what a stop leaves

-- the files that a crash of the flash leaves are those of the flash that was handed in, or those that a case of the
-- disk since its opening leaves
abbrev pub LeavesFiles : {F : Type 0} → (told : Bool) → (medium : F → FlashMedium) → (flash : F)
    → (opened disk : FlashView F) → FlashCase → Type 0
LeavesFiles told medium flash opened disk c =
    (flash_files c.left (medium disk.flash).blocks ≡ flash_files (medium flash).state.pages (medium flash).blocks)
    ⊎ (disk_seen told medium disk).since (disk_seen told medium opened).moment (disk_case (medium disk.flash).blocks c)

-- After a stop at any moment since the flash was handed in it can be opened again, and has the files that the job's
-- promise speaks of, as far as no page passes its hash by chance: it is refused neither for its size nor for what its
-- pages hold. If it had no rivals it goes on taking writes. If it has 16 blocks or more and the copies stood apart they
-- do so, also at the end, unless at some moment there was no room for one that was written. So where both are, the
-- copies outvote each loss of pages of one block, and what was whole is read as before.
pub record OpensAgain {F : Type 0} (told : Bool) (medium : F → FlashMedium) (flash : F)
    (opened disk : FlashView F) : Type 0 where
  pub usable : UsableSince (medium disk.flash) (medium flash).moment
  pub right_size : IsWrongSize (medium disk.flash).blocks → ⊥
  pub not_unusable : (c : FlashCase) → (medium disk.flash).since (medium flash).moment c
      → IsPlain c.before c.whole c.left → IsUnusable c.left (medium disk.flash).blocks → ⊥
  pub agreed : IsAgreed (medium flash).state.pages (places (medium flash).blocks)
      → AgreedSince (medium disk.flash) (medium flash).moment
  pub apart : 16 ≤ (medium flash).blocks → StandApart (medium flash).state.pages (medium flash).blocks
      → ApartSince (medium disk.flash) (medium flash).moment
  pub outlasts : IsAgreed (medium flash).state.pages (places (medium flash).blocks) → 16 ≤ (medium flash).blocks
      → StandApart (medium flash).state.pages (medium flash).blocks
      → OutlastsSince (medium disk.flash) (medium flash).moment
  pub reads_on : IsAgreed (medium flash).state.pages (places (medium flash).blocks) → 16 ≤ (medium flash).blocks
      → StandApart (medium flash).state.pages (medium flash).blocks
      → ReadOnSince (medium disk.flash) (medium flash).moment
  pub files : (c : FlashCase) → (medium disk.flash).since (medium flash).moment c → IsPlain c.before c.whole c.left
      → LeavesFiles told medium flash opened disk c

-- ---- the run

-- a flash as a disk, by what its trait says of it
abbrev pub disk_of : {F : Type 0} → FlashOf F → DiskOf (FlashView F)
disk_of of_flash = record { told = of_flash.told; medium = disk_seen of_flash.told of_flash.medium }

-- the edges of a run over this disk
abbrev pub edges_over : {F : Type 0} → Edges F → FlashView F → Edges (FlashView F)
edges_over at disk = record {
  left = at.left;
  taken = at.taken;
  source_failures = at.source_failures;
  sink_failures = at.sink_failures;
  disk = disk;
}

-- the job was done on the disk that the flash was opened as
pub record FlashRan {F : Type 0} (of_flash : FlashOf F) (kind : JobKind) (converters : Converters) (status : ℕ)
    (before : Edges F) (after : Edges (FlashView F)) : Type 0 where
  pub opened : FlashView F
  pub is_opened : IsOpenedFlash of_flash.told of_flash.medium before.disk opened
  pub done : JobDone (disk_of of_flash) kind converters status (edges_over before opened) after
  pub caused : IsCaused kind status (failures_at (modelled (disk_of of_flash) (edges_over before opened)))
      (failures_at (modelled (disk_of of_flash) after))
  pub time : Elapses (disk_seen of_flash.told of_flash.medium opened)
      (disk_seen of_flash.told of_flash.medium after.disk)
  pub stops : IsTrue of_flash.told → OpensAgain of_flash.told of_flash.medium before.disk opened after.disk

-- The arguments were invalid; or there was no memory for them; or they say a job, and the flash was not opened.
pub data HasNotRun (told : Bool) (job : Option Job) (status : ℕ) (flash back : FlashMedium) : Type 0 where
  refused : job ≡ None → status ≡ 1 → HasNotRun told job status flash back
  short : status ≡ 4 → HasNotRun told job status flash back
  unopened : (said : Job) → job ≡ Some said → IsNotOpened told status flash back → HasNotRun told job status flash back

-- P holds of the status and of the disk, where the flash was opened and the job begun
abbrev pub IfRan : {F : Type 0} → FlashRun F → (ℕ → FlashView F → Type 0) → Type 0
IfRan (Ran status disk) P = P status disk
IfRan (Unopened status flash) P = ⊤

-- P holds of the status and of the flash that is handed back, where no job was begun
abbrev pub IfUnopened : {F : Type 0} → FlashRun F → (ℕ → F → Type 0) → Type 0
IfUnopened (Ran status disk) P = ⊤
IfUnopened (Unopened status flash) P = P status flash
