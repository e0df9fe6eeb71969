-- Which calls to come are to fail, the next one being number 0, how many failed, and what a call makes of it.
use Rattle.std.specs.Prelude.{◌≡◌, ◌⊎◌, ℕ, suc, ◌+◌, ◌==◌, ◌≤◌, ◌||◌, Bool, false, List, Option, Some, None, nat_le}
use Rattle.std.specs.Prelude.{IsTrue, IsFalse}
use Rattle.std.specs.List.{list_any}
use Rattle.per_base.specs.Causes.{raised}
use Rattle.disk_model.specs.declared.orders.Orders.{Orders}

-- whether a list of numbers has the number k
abbrev pub named_in : List ℕ → ℕ → Bool
named_in numbers k = list_any (λ n. n == k) numbers

-- whether call k comes after the stop, which lets this many calls pass; there may be no stop
abbrev pub past_stop : Option ℕ → ℕ → Bool
past_stop None k = false
past_stop (Some passing) k = nat_le passing k

-- the plan names call k
abbrev pub names : Orders → ℕ → Bool
names orders k = named_in orders.failing.items (orders.next + k)

-- call k comes after the stop
abbrev pub stops : Orders → ℕ → Bool
stops orders k = past_stop orders.passing k

-- whether the next call is to fail
abbrev pub is_due : Orders → Bool
is_due orders = names orders 0 || stops orders 0

-- how many calls failed
abbrev pub fault_count : Orders → ℕ
fault_count orders = orders.faults

-- how many calls failed because memory ran out
abbrev pub starved_count : Orders → ℕ
starved_count orders = orders.starved

-- no call is planned to fail, and no stop is
pub record HasNoOrders (orders : Orders) : Type 0 where
  pub planned : (k : ℕ) → names orders k ≡ false
  pub stopped : (k : ℕ) → stops orders k ≡ false

-- the counts of faults and of failed allocations stay
pub record KeepsCounts (old new : Orders) : Type 0 where
  pub faults : fault_count new ≡ fault_count old
  pub starved : starved_count new ≡ starved_count old

-- How a call answers, by the orders before and after it and whether it failed: it fails where the plan names it and
-- where it comes after the stop, and else because memory ran out alone, which is counted beside the fault.
pub record AnswersAsPlanned (old new : Orders) (failed : Bool) : Type 0 where
  -- a call that is to fail fails, and not because memory ran out
  pub due : IsTrue (is_due old) → IsTrue failed × (starved_count new ≡ starved_count old)
  -- any other fails only because memory ran out
  pub starves : IsFalse (is_due old) → IsTrue failed → starved_count new ≡ raised (starved_count old)
  -- a failure counts as one fault, and a success as none
  pub fails : IsTrue failed → fault_count new ≡ raised (fault_count old)
  pub passes : IsFalse failed → KeepsCounts old new
  -- the next call is now number 0
  pub planned : (k : ℕ) → names new k ≡ names old (suc k)
  pub stopped : (k : ℕ) → stops new k ≡ stops old (suc k)

-- where there is no plan and no stop there is none after the call either, and the faults rise only together with the
-- count of failed allocations
abbrev pub FailsByMemoryAlone : Orders → Orders → Type 0
FailsByMemoryAlone old new = HasNoOrders old → HasNoOrders new
    × (KeepsCounts old new ⊎ ((fault_count new ≡ raised (fault_count old))
    × (starved_count new ≡ raised (starved_count old))))

-- ---- what parts of a call do

-- a call begins, and fails where the orders say so
pub record Begins (old new : Orders) (failed : Bool) : Type 0 where
  pub due : failed ≡ is_due old
  pub later : fault_count old ≤ fault_count new
  pub starved : starved_count new ≡ starved_count old
  pub fails : IsTrue failed → fault_count new ≡ raised (fault_count old)
  pub passes : IsFalse failed → fault_count new ≡ fault_count old
  pub planned : (k : ℕ) → names new k ≡ names old (suc k)
  pub stopped : (k : ℕ) → stops new k ≡ stops old (suc k)

-- the rest of a call fails because memory ran out
pub record RunsOut (old new : Orders) : Type 0 where
  pub later : fault_count old ≤ fault_count new
  pub faults : fault_count new ≡ raised (fault_count old)
  pub starved : starved_count new ≡ raised (starved_count old)
  pub planned : (k : ℕ) → names new k ≡ names old k
  pub stopped : (k : ℕ) → stops new k ≡ stops old k
