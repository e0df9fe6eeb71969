use Rattle.std.proofs.Common.{rules, ◌≡◌, ap, ◌∙◌, length, replicate, Some, List, ℕ, ◌++◌}
use Rattle.std.proofs.lemmas.List.{drop_at}
use Rattle.flash_record.specs.PageRecord.{body_record}
use Rattle.flash_record.specs.lemmas.Bodies.{length-record_body, body_reads_back, record_in-text}
use Rattle.flash_record.proofs.writing.record_page.Goals as goal

pub returns-clause-record : goal.returns-clause-record
returns-clause-record c =
    let body : List ℕ = c.write_body.new.body in
    let long : length c.args.bytes.now ≡ 256 = search rules in
    record_in-text (c.seal_into.new.text ++ c.split_at_mut-text.result.1.now) c.args.sequence body
    (c.seal_into.ensures.verifies c.split_at_mut-text.result.1.now)
    (ap length c.write_body.ensures ∙ length-record_body c.args.file c.args.page c.args.len c.args.bytes.now long)
    ∙ ap (λ (b : List ℕ). Some (body_record c.args.sequence b)) c.write_body.ensures
    ∙ ap Some (body_reads_back c.args.sequence c.args.file c.args.page c.args.len c.args.bytes.now c.ranges.file.fits
    c.ranges.page.fits c.ranges.len.fits)

pub returns-clause-behind : goal.returns-clause-behind
returns-clause-behind c =
    let text : List ℕ = c.seal_into.new.text in
    let behind : List ℕ = c.split_at_mut-text.result.1.now in
    let long : length text ≡ 316 = search rules in
    let blank : behind ≡ replicate 196 255 = search rules in
    drop_at text behind 316 long ∙ blank
