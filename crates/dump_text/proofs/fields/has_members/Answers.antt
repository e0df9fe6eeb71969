use Rattle.std.proofs.Common.{arith}
use Rattle.serde_json.specs.View.{view}
use Rattle.dump_text.proofs.Containers.{count_is}
use Rattle.dump_text.proofs.fields.has_members.Goals as goal

pub returns-in-Some : goal.returns-in-Some
returns-in-Some c = count_is (view c.args.value.now) c.in-Some.object.now.entries c.args.count c.len.result
    c.in-Some.ensures (omega (arith, c.len.ensures.len))
