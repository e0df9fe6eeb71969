-- Answers of calls: refusals in their order, and an answer that may be OutOfMemory. What is *due* is the answer that
-- the rules ask of a call, where memory does not run out.
use Rattle.std.specs.Prelude.{◌≡◌, ◌≢◌, ℕ, List, Bool, cond, Option, None, Some, Result, Ok, Err}
use Rattle.per_base.specs.declared.errors.Holder.{Holder}
use Rattle.per_base.specs.declared.errors.Holder.TheVariants as holder
use Rattle.per_base.specs.declared.errors.PerError.{PerError}
use Rattle.per_base.specs.declared.errors.PerError.TheVariants.{DataTypeMismatch, InitValueNotAvailable}
use Rattle.per_base.specs.declared.errors.PerError.TheVariants.{IntegrityCorrupted, OutOfMemory, ResourceBusy}
use Rattle.per_base.specs.declared.errors.Unit as damaged
use Rattle.per_base.specs.declared.errors.Unit.TheVariants as unit

-- refused with this error where the test holds, and otherwise `rest`, the answer of what comes after the test
abbrev pub refuse : {A : Type 0} → Bool → PerError → Result A PerError → Result A PerError
refuse test error rest = cond test (Err error) rest

-- refused with the error where there is one, and otherwise `rest`
abbrev pub refused_by : {A : Type 0} → Option PerError → Result A PerError → Result A PerError
refused_by None rest = rest
refused_by (Some error) rest = Err error

-- of two tests that may refuse, the error of the first that does
abbrev pub or_next : Option PerError → Option PerError → Option PerError
or_next None next = next
or_next (Some error) next = Some error

-- the answer of a call on the initial bytes of an element, and a refusal where the deployment has none for it
abbrev pub with_initial : {A : Type 0} → Option (List ℕ) → (List ℕ → Result A PerError) → Result A PerError
with_initial None call = Err InitValueNotAvailable
with_initial (Some bytes) call = call bytes

-- the error that came is the refusal that is due, or OutOfMemory, which may come at any time
abbrev pub IsRefusal : {A : Type 0} → Result A PerError → PerError → Type 0
IsRefusal due error = error ≢ OutOfMemory → due ≡ Err error

-- no refusal is due
abbrev pub IsDue : {A : Type 0} → Result A PerError → Type 0
IsDue (Ok answer) = Unit {0}
IsDue (Err error) = ⊥

-- what is damaged is a storage or an element, so that the error carries a name, which has to be copied
abbrev pub IsNamedUnit : damaged.Unit → Type 0
IsNamedUnit unit.Root = ⊥
IsNamedUnit (unit.Whole storage) = Unit {0}
IsNamedUnit (unit.Part storage element) = Unit {0}

-- what holds the call up is a storage, so that the error carries a name
abbrev pub IsNamedHolder : Holder → Type 0
IsNamedHolder (holder.Storage name) = Unit {0}
IsNamedHolder (holder.Handle number) = ⊥
IsNamedHolder (holder.Update version) = ⊥

-- the error carries names or texts, which have to be copied
abbrev pub CarriesText : PerError → Type 0
CarriesText (IntegrityCorrupted unit) = IsNamedUnit unit
CarriesText (DataTypeMismatch stored asked) = Unit {0}
CarriesText (ResourceBusy holder) = IsNamedHolder holder
CarriesText other = ⊥

-- no refusal is due, or one that carries names or texts: memory may run out for it
abbrev pub NeedsMemory : {A : Type 0} → Result A PerError → Type 0
NeedsMemory (Ok answer) = Unit {0}
NeedsMemory (Err error) = CarriesText error

-- a refusal that carries names or texts is due
abbrev pub IsTextRefusal : {A : Type 0} → Result A PerError → Type 0
IsTextRefusal (Ok answer) = ⊥
IsTextRefusal (Err error) = CarriesText error
