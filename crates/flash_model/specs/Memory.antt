-- A flash in memory: what it is as a flash, which calls fail, and how it answers.
use Rattle.std.specs.Prelude.{◌≡◌, ◌↔◌, ℕ, Bool, true, false, List}
use Rattle.per_base.specs.Causes.{Rose}
use Rattle.disk_model.specs.Orders as of_orders
use Rattle.flash_model.specs.declared.memory.MemFlash.{MemFlash}
use Rattle.flash_model.specs.declared.record.FlashCall.{FlashCall}
use Rattle.flash_model.specs.State.{FlashCase, IsStill}
use Rattle.flash_model.specs.FlashMedium.{FlashMedium, FlashElapses, EachFlashCase}
use Rattle.flash_model.specs.History.{blank_state, recorded}

-- what is said of it as a flash
abbrev pub mem_flash : MemFlash → FlashMedium
mem_flash flash = recorded flash.blocks flash.calls.items (of_orders.fault_count flash.orders)

-- how many calls failed because memory ran out
abbrev pub starved_count : MemFlash → ℕ
starved_count flash = of_orders.starved_count flash.orders

-- whether the plan names call k, the next one being 0
abbrev pub is_planned : MemFlash → ℕ → Bool
is_planned flash k = of_orders.names flash.orders k

-- whether call k comes after the stop
abbrev pub is_stopped : MemFlash → ℕ → Bool
is_stopped flash k = of_orders.stops flash.orders k

-- no call of the flash is planned to fail, and no stop is
abbrev pub HasNoOrders : MemFlash → Type 0
HasNoOrders flash = of_orders.HasNoOrders flash.orders

-- a flash that was just made: every page is blank, nothing is announced or counted, and there is no plan and no stop
pub record IsFresh (flash : MemFlash) : Type 0 where
  pub state : (mem_flash flash).state ≡ blank_state
  pub faults : (mem_flash flash).faults ≡ 0
  pub starved : starved_count flash ≡ 0
  pub orders : HasNoOrders flash

-- no page, nothing announced, no case of a crash and no clock changed
pub record IsUnchanged (old new : FlashMedium) : Type 0 where
  pub blocks : new.blocks ≡ old.blocks
  pub state : new.state ≡ old.state
  pub moment : new.moment ≡ old.moment
  pub since : (t : ℕ) (c : FlashCase) → new.since t c ↔ old.since t c

-- the counts of faults and of failed allocations stay
abbrev pub KeepsCounts : MemFlash → MemFlash → Type 0
KeepsCounts old new = of_orders.KeepsCounts old.orders new.orders

-- How a call answers: it fails where the plan names it and where it comes after the stop, and else because memory ran
-- out alone, which is counted beside the fault.
abbrev pub AnswersAsPlanned : MemFlash → MemFlash → Bool → Type 0
AnswersAsPlanned old new failed = of_orders.AnswersAsPlanned old.orders new.orders failed

-- a call that fails changes nothing but the counts and the orders
pub record Fails (old new : MemFlash) : Type 0 where
  pub unchanged : IsUnchanged (mem_flash old) (mem_flash new)
  pub still : EachFlashCase (IsStill (mem_flash old).state) (mem_flash old) (mem_flash new)
  pub time : FlashElapses (mem_flash old) (mem_flash new)
  pub cause : Rose (mem_flash old).faults (mem_flash new).faults
  pub answers : AnswersAsPlanned old new true

-- ---- what parts of a call do

-- the record and the number of blocks, in the words above
pub record Shows (flash : MemFlash) (blocks : ℕ) (calls : List FlashCall) : Type 0 where
  pub blocks_are : flash.blocks ≡ blocks
  pub calls_are : flash.calls.items ≡ calls

-- nothing but the counts and the orders changed
abbrev pub SameRecord : MemFlash → MemFlash → Type 0
SameRecord old new = Shows new old.blocks old.calls.items

-- a call is counted among the orders, and fails where they say so
abbrev pub Begins : MemFlash → MemFlash → Bool → Type 0
Begins old new failed = of_orders.Begins old.orders new.orders failed

-- the rest of a call succeeds
pub record Succeeds (old new : MemFlash) : Type 0 where
  pub counts : KeepsCounts old new
  pub orders : new.orders ≡ old.orders

-- the rest of a call fails because memory ran out
abbrev pub RunsOut : MemFlash → MemFlash → Type 0
RunsOut old new = of_orders.RunsOut old.orders new.orders

-- a call that succeeds: it was not to fail, and the counts stay
pub record Passes (old new : MemFlash) : Type 0 where
  pub counts : KeepsCounts old new
  pub answers : AnswersAsPlanned old new false
