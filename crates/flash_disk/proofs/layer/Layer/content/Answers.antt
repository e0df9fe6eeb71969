use Rattle.std.proofs.Common.{◌≡◌, ◌<◌, ◌-◌, ◌*◌, cond, sym, ap, ◌∙◌, arith}
use Rattle.std.specs.Prelude.{Some, nat_lt}
use Rattle.flash_record.specs.PageRecord.{record_in}
use Rattle.flash_disk.specs.Newest.{places}
use Rattle.flash_disk.specs.declared.layer.LayerState.{LayerState}
use Rattle.flash_disk.specs.Known.{known, len_known}
use Rattle.flash_disk.specs.FlashFiles.{record_byte}
use Rattle.flash_disk.proofs.Reading.{no_content, is_there, content}
use Rattle.flash_disk.proofs.Steps.{nothing_none}
use Rattle.flash_disk.proofs.layer.Layer.content.Goals as goal

pub returns-in_default-clause-bytes : goal.returns-in_default-clause-bytes
returns-in_default-clause-bytes g c told knows =
    no_content (g.F.Flash.medium c.args.self.now.flash).state.pages
    (places (g.F.Flash.medium c.args.self.now.flash).blocks) c.args.self.now.state.table knows c.args.key
    c.zeros.result (sym c.find.ensures ∙ c.in_default.is) (λ j small. c.zeros.ensures j)

pub returns-clause-bytes : goal.returns-clause-bytes
returns-clause-bytes g c told knows =
    let pages = (g.F.Flash.medium c.args.self.now.flash).state.pages in
    let blocks = (g.F.Flash.medium c.args.self.now.flash).blocks in
    let table = c.args.self.now.state.table in
    let key = c.args.key in
    let e = c.in-Some.newest in
    let is : known table key ≡ Some e = sym c.find.ensures ∙ c.in-Some.is in
    let there = is_there pages (places blocks) table knows key e is in
    let block : e.place.block < blocks = (let small = there.0 in let within = there.1 in omega (arith, small, within))
    in
    let len : c.len_of-len.result ≡ len_known table key.file =
    c.len_of-len.ensures ∙ ap (λ (s : LayerState). len_known s.table key.file) c.in_ok-read_page.ensures.reads.state in
    content pages (places blocks) table knows key e is c.read_page.new.out c.cut.result
    (c.in_ok-read_page.ensures.bytes told block there.0)
    (λ j small. c.cut.ensures j small ∙ ap (λ w. cond (nat_lt j w) (record_byte (record_in c.read_page.new.out) j) 0)
    (let w : c.saturating_sub.result ≡ len_known table key.file - 256 * key.page = omega (arith, len) in w))

pub returns-in_default-clause-reads : goal.returns-in_default-clause-reads
returns-in_default-clause-reads g c = nothing_none _ c.args.self.now (g.met.F.Flash.lawful c.args.self.now.flash)
