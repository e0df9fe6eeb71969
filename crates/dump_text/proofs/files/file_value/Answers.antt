use Rattle.std.proofs.Common.{arith}
use Rattle.std.proofs.lemmas.Result.{IfOk-weaker}
use Rattle.value_text.specs.lemmas.WholeLaws.{bytes_in_again}
use Rattle.serde_json.specs.View.{view}
use Rattle.dump_text.proofs.Read.{file_nests, file_read}
use Rattle.dump_text.proofs.files.file_value.Goals as goal

pub returns-clause-read : goal.returns-clause-read
returns-clause-read c = IfOk-weaker c.file_members.result _ _
    (λ file is. file_read c.args.info.now c.args.content.now (view file) is
    (bytes_in_again c.args.content.now (λ i. omega (arith, c.type_inv.content i))))
    c.file_members.ensures

pub returns-clause-nests : goal.returns-clause-nests
returns-clause-nests c = IfOk-weaker c.file_members.result _ _
    (λ file is. file_nests c.args.info.now c.args.content.now (view file) is) c.file_members.ensures
