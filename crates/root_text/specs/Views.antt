-- What is read of a root, as plain data, and what a reader answers.
use denote.Ref.{Bor}
use Rattle.std.specs.Prelude.{◌≡◌, ℕ, List, Option, Some, None, option_map, Result, Ok, Err, ⊤}
use Rattle.deployment_model.specs.Data.{deployment_data}
use Rattle.root_text.specs.RootText.{Root, absent, installed, Version, Parts}
use Rattle.root_text.specs.declared.errors.RootError.{RootError}
use Rattle.root_text.specs.declared.errors.RootError.TheVariants as errors
use Rattle.root_text.specs.declared.reading.Fields.{Fields}
use Rattle.root_text.specs.declared.versions.VersionText.{VersionText}
use Rattle.root_text.specs.declared.versions.RootSays.{RootSays}
use Rattle.root_text.specs.declared.versions.RootSays.TheVariants.{Absent, Installed}

-- what a version of the code says
abbrev pub version_said : VersionText → Version
version_said v = record { text = v.text; deployment = deployment_data v.deployment }

-- what a root of the code says
abbrev pub root_said : RootSays → Root
root_said Absent = absent
root_said (Installed bank active previous) = installed bank (version_said active) (option_map version_said previous)

-- the bytes of a borrowed slice
abbrev pub borrowed_bytes : Bor (List ℕ) → List ℕ
borrowed_bytes bytes = bytes.now

-- the parts that were found in a text, by the fields of the code
abbrev pub parts_seen : Fields → Parts
parts_seen fields = record {
  bank = fields.bank;
  active = fields.active.now;
  previous =
      option_map borrowed_bytes fields.previous;
}

-- what an error says of `read`, the answer that the specification gives: `NotARoot` that it is none; memory that ran
-- out says nothing
abbrev pub FailsToRead : {Y : Type 0} → RootError → Option Y → Type 0
FailsToRead errors.NotARoot read = read ≡ None
FailsToRead errors.OutOfMemory read = ⊤

-- a reader of the code agrees with the specification: its result, seen as plain data by `view`, is the `Some` that
-- `read` is; its error `NotARoot` means that `read` is `None`, and `OutOfMemory` says nothing
abbrev pub Gives : {X Y : Type 0} → (X → Y) → Result X RootError → Option Y → Type 0
Gives view (Ok x) read = read ≡ Some (view x)
Gives view (Err e) read = FailsToRead e read
