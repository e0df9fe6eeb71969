-- Lines and replies, computed.
use Rattle.std.specs.Prelude.{◌≡◌, [], ◌∷◌, Some, codes, negsuc}
use Rattle.std.specs.Fmt.{digits}
use Rattle.std.proofs.Common.{refl}
use Rattle.per_base.specs.declared.errors.PerError.TheVariants as error
use Rattle.per_base.specs.declared.errors.Unit.TheVariants as unit
use Rattle.per_base.specs.declared.opening.OpenKind.TheVariants as kind
use Rattle.per_base.specs.declared.opening.Origin.TheVariants as origin
use Rattle.per_base.specs.declared.reports.ReportKind.TheVariants as report
use Rattle.value_model.specs.Kinds.{two}
use Rattle.value_model.specs.Trees.{unsigned_tree}
use Rattle.command_text.specs.declared.calls.Call.TheVariants as call
use Rattle.command_text.specs.declared.calls.Event.TheVariants as event
use Rattle.command_text.specs.declared.replies.Answer.TheVariants as answer
use Rattle.command_text.specs.declared.replies.AppStatus.TheVariants as status
use Rattle.command_text.specs.Generated.{generated}
use Rattle.command_text.specs.Grammar.{line_of}
use Rattle.command_text.specs.Reading.{mode_of}
use Rattle.command_text.specs.Replies.{answer_text, reply_text}

now_line : line_of (event.Now 1060) ≡ codes "now 1060"
unfolding digits
now_line = refl

set_line : line_of (event.App 0 (call.Set (codes "fav") (codes "home") (unsigned_tree two 9)))
    ≡ codes "0 set fav home u16:9"
unfolding digits
set_line = refl

open_line : line_of (event.App 1 (call.OpenFile (codes "logs") (codes "drive.log") kind.ReadWrite (mode_of 9)))
    ≡ codes "1 open-file logs drive.log rw begin+append"
open_line = refl

-- the space before no byte stands
write_line : line_of (event.App 1 (call.Write (codes "logs") 1 [])) ≡ codes "1 write logs 1 "
unfolding digits
write_line = refl

move_line : line_of (event.App 1 (call.Move (codes "logs") 1 origin.End (negsuc 1))) ≡ codes "1 move logs 1 end -2"
unfolding digits
move_line = refl

failed_reply : reply_text (record {
  reports = record {
    kind = report.KeyFailed;
    storage = codes "fav";
    element =
        Some (codes "home");
    copies = 1 ∷ 2 ∷ [];
  } ∷ [];
  answer =
      answer.Error (error.IntegrityCorrupted (unit.Part (codes "fav") (codes "home")));
})
    ≡ codes "report key-failed fav:home 1,2\nerror 5 IntegrityCorrupted fav:home\n"
unfolding digits
failed_reply = refl

status_answer : answer_text (answer.Status (status.Active 2 (Some 1))) ≡ codes "status version 2 previous 1"
unfolding digits
status_answer = refl

two_generated : generated 2
    ≡ codes "0 install {\"version\":1,\"keyValueStorages\":[{\"name\":\"g\",\"redundancy\":{\"m\":2,\"n\":3}}]}"
    ∷ codes "0 open-kvs g"
    ∷ codes "0 set g k12 u64:59559187" ∷ codes "0 set g k33 u64:1495354192" ∷ codes "0 sync g" ∷ codes "0 size g"
    ∷ codes "0 close g" ∷ []
unfolding digits
two_generated = refl
