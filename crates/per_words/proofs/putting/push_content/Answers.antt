use Rattle.std.proofs.lemmas.List.{length-map}
use Rattle.per_words.proofs.Adding.{adds_then}
use Rattle.per_words.proofs.Pieces.{by_handle}
use Rattle.per_words.proofs.putting.push_content.Goals as goal

pub returns-in-Ok : goal.returns-in-Ok
returns-in-Ok c = by_handle c.push_and_close.result c.args.text.now.items c.push_and_close.new.text.items c.args.digit
    c.args.storage.now c.args.file.now _ (rw length-map c.in_default.len_at_least)
    (adds_then c.in-Ok.field-0 c.push_open_file.result c.push_and_close.result c.args.text.now.items
    c.push_open_file.new.text.items c.push_and_close.new.text.items _ _ c.in-Ok.is c.push_open_file.ensures
    c.push_and_close.ensures)
