use Rattle.per_words.proofs.Adding.{adds_not, adds_then}
use Rattle.per_words.proofs.putting.push_and_close.Goals as goal

pub returns-in-Ok : goal.returns-in-Ok
returns-in-Ok c = adds_then c.in-Ok.field-0 c.push_pieces.result c.push_call.result c.args.text.now.items
    c.push_pieces.new.text.items c.push_call.new.text.items _ _ c.in-Ok.is c.push_pieces.ensures c.push_call.ensures

pub returns-in-Err : goal.returns-in-Err
returns-in-Err c = adds_not c.in-Err.error c.push_pieces.result c.args.text.now.items c.push_pieces.new.text.items
    c.push_pieces.new.text.items _ _ c.in-Err.is c.push_pieces.ensures
