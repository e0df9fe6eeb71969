-- A disk in memory: what it is as a disk, which calls fail, and how it answers.
use Rattle.std.specs.Prelude.{◌≡◌, ◌↔◌, ℕ, Bool, List, [], true, false}
use Rattle.disk_model.specs.declared.memory.MemDisk.{MemDisk}
use Rattle.per_base.specs.Causes.{Rose}
use Rattle.disk_model.specs.declared.history.Call.{Call}
use Rattle.disk_model.specs.Image.{Image}
use Rattle.disk_model.specs.Case.{Case}
use Rattle.disk_model.specs.Medium.{Medium, Quiet, Elapses, OnlyReads}
use Rattle.disk_model.specs.History.{image_of, start_image, recorded, base_after, pending_after, torn_after}
use Rattle.disk_model.specs.Orders as of_orders

-- what is said of a disk in memory as a disk
abbrev pub mem_medium : MemDisk → Medium
mem_medium disk = recorded (image_of disk.files) (start_image disk.files disk.start) disk.calls.items
    (of_orders.fault_count disk.orders) disk.written

-- how many calls failed because memory ran out
abbrev pub starved_count : MemDisk → ℕ
starved_count disk = of_orders.starved_count disk.orders

-- what reads gave after the last sync
abbrev pub synced_image : MemDisk → Image
synced_image disk = base_after disk.calls.items (start_image disk.files disk.start) (start_image disk.files disk.start)

-- what a crash leaves that keeps, of the writes since the last sync, those of which the pattern has a 1 (`stands`), and
-- makes every file as long as all of them make it
abbrev pub torn_image : MemDisk → ℕ → Image
torn_image disk pattern = torn_after pattern 0 (pending_after disk.calls.items []) (synced_image disk)

-- whether the plan names call k, the next one being 0
abbrev pub is_planned : MemDisk → ℕ → Bool
is_planned disk k = of_orders.names disk.orders k

-- whether call k comes after the stop
abbrev pub is_stopped : MemDisk → ℕ → Bool
is_stopped disk k = of_orders.stops disk.orders k

-- no call of the disk is planned to fail, and no stop is
abbrev pub HasNoOrders : MemDisk → Type 0
HasNoOrders disk = of_orders.HasNoOrders disk.orders

-- a disk that was just made: quiet, nothing counted, no plan and no stop
pub record IsFresh (disk : MemDisk) : Type 0 where
  pub quiet : Quiet (mem_medium disk)
  pub faults : (mem_medium disk).faults ≡ 0
  pub written : (mem_medium disk).written ≡ 0
  pub starved : starved_count disk ≡ 0
  pub orders : HasNoOrders disk

-- no byte, no case and no count of bytes changed
pub record IsUnchanged (old new : Medium) : Type 0 where
  pub image : new.image ≡ old.image
  pub now : (c : Case) → new.now c ↔ old.now c
  pub moment : new.moment ≡ old.moment
  pub since : (t : ℕ) (c : Case) → new.since t c ↔ old.since t c
  pub gave : (t : ℕ) (c : Case) → new.gave t c ↔ old.gave t c
  pub written : new.written ≡ old.written

-- the counts of faults and of failed allocations stay
abbrev pub KeepsCounts : MemDisk → MemDisk → Type 0
KeepsCounts old new = of_orders.KeepsCounts old.orders new.orders

-- How a call answers, by the disk before and after it and whether it failed: it fails where the plan names it and where
-- it comes after the stop, and else because memory ran out alone, which is counted beside the fault.
abbrev pub AnswersAsPlanned : MemDisk → MemDisk → Bool → Type 0
AnswersAsPlanned old new failed = of_orders.AnswersAsPlanned old.orders new.orders failed

-- a disk with no plan and no stop has none after the call either, and its faults rise only together with the count of
-- failed allocations
abbrev pub FailsByMemoryAlone : MemDisk → MemDisk → Type 0
FailsByMemoryAlone old new = of_orders.FailsByMemoryAlone old.orders new.orders

-- a call that fails changes nothing but the counts and the orders
pub record Fails (old new : MemDisk) : Type 0 where
  pub unchanged : IsUnchanged (mem_medium old) (mem_medium new)
  pub reads : OnlyReads (mem_medium old) (mem_medium new)
  pub time : Elapses (mem_medium old) (mem_medium new)
  pub cause : Rose (mem_medium old).faults (mem_medium new).faults
  pub answers : AnswersAsPlanned old new true
  pub by_memory : FailsByMemoryAlone old new

-- ---- what parts of a call do

-- the files, the start of the record, the record and the count of bytes, in the words above
pub record Shows (disk : MemDisk) (image start : Image) (calls : List Call) (written : ℕ) : Type 0 where
  pub image_is : image_of disk.files ≡ image
  pub start_is : start_image disk.files disk.start ≡ start
  pub calls_are : disk.calls.items ≡ calls
  pub written_is : disk.written ≡ written

-- nothing but the counts and the orders changed
abbrev pub SameRecord : MemDisk → MemDisk → Type 0
SameRecord old new = Shows new (image_of old.files) (start_image old.files old.start) old.calls.items old.written

-- a call is counted among the orders, and fails where they say so
abbrev pub Begins : MemDisk → MemDisk → Bool → Type 0
Begins old new failed = of_orders.Begins old.orders new.orders failed

-- the rest of a call succeeds
pub record Succeeds (old new : MemDisk) : Type 0 where
  pub counts : KeepsCounts old new
  pub orders : new.orders ≡ old.orders

-- the rest of a call fails because memory ran out
abbrev pub RunsOut : MemDisk → MemDisk → Type 0
RunsOut old new = of_orders.RunsOut old.orders new.orders

-- a call that succeeds: it was not to fail, and the counts stay
pub record Passes (old new : MemDisk) : Type 0 where
  pub counts : KeepsCounts old new
  pub answers : AnswersAsPlanned old new false
  pub by_memory : FailsByMemoryAlone old new
