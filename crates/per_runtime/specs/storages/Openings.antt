-- The opening of a storage that is closed, and what a refusal of a call in memory gives.
use Rattle.std.specs.Prelude.{◌≡◌, ◌≢◌, ℕ, List, [], ◌∷◌, Result, Ok, Err}
use Rattle.per_base.specs.declared.elements.StoreKind.{StoreKind}
use Rattle.per_base.specs.declared.elements.StoreKind.TheVariants.{Keys, Files}
use Rattle.per_base.specs.declared.errors.PerError.{PerError}
use Rattle.per_base.specs.declared.errors.PerError.TheVariants as error
use Rattle.per_base.specs.declared.errors.Unit.TheVariants as unit
use Rattle.per_base.specs.declared.reports.Report.{Report}
use Rattle.command_text.specs.declared.calls.Call.{Call}
use Rattle.command_text.specs.declared.calls.Call.TheVariants as call
use Rattle.command_text.specs.declared.replies.Answer.{Answer}
use Rattle.command_text.specs.declared.replies.Answer.TheVariants as answer
use Rattle.command_text.specs.declared.replies.Reply.{Reply}
use Rattle.deploy.specs.declared.errors.Stop.{Stop}
use Rattle.deploy.specs.declared.errors.Stop.TheVariants.{Device, OutOfMemory}

-- the call that opens a storage of this kind
abbrev pub open_call : StoreKind → List ℕ → Call
open_call Keys name = call.OpenKvs name
open_call Files name = call.OpenFiles name

-- it is corrupt, which is reported
abbrev pub corrupt_reply : List ℕ → Report → Reply
corrupt_reply name report = record {
  reports = report ∷ [];
  answer =
      answer.Error (error.IntegrityCorrupted (unit.Whole name));
}

-- a refusal is answered, and running out of memory ends the run
abbrev pub TellsRefusal : PerError → Result Reply Stop → Type 0
TellsRefusal e (Ok reply) = (e ≢ error.OutOfMemory) × (reply ≡ record { reports = []; answer = answer.Error e })
TellsRefusal e (Err Device) = ⊥
TellsRefusal e (Err OutOfMemory) = e ≡ error.OutOfMemory

-- the reply has this answer and no reports, or the refusal is told
abbrev pub TellsAnswer : Result Answer PerError → Result Reply Stop → Type 0
TellsAnswer (Ok a) result = result ≡ Ok (record { reports = []; answer = a })
TellsAnswer (Err e) result = TellsRefusal e result
