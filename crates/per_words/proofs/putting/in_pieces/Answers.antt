use Rattle.std.proofs.lemmas.List.{length-map}
use Rattle.per_words.proofs.Pieces.{all_fed, not_after, not_before}
use Rattle.per_words.proofs.putting.in_pieces.Goals as goal

pub returns-in-Err-clause-refused : goal.returns-in-Err-clause-refused
returns-in-Err-clause-refused c = not_before c.in-Err.error c.push_opened.result _ c.push_opened.new.text.items
    c.args.digit c.args.storage.now c.args.file.now _ (rw length-map c.requires.more) c.in-Err.is c.push_opened.ensures

pub returns-in-Err-push_closed-clause-refused : goal.returns-in-Err-push_closed-clause-refused
returns-in-Err-push_closed-clause-refused c = not_after c.in-Err-push_closed.error c.push_closed.result _
    c.push_closed.new.text.items c.args.digit c.args.storage.now c.args.file.now _ (rw length-map c.requires.more)
    c.in-Err-push_closed.is c.push_closed.ensures

pub returns-clause-lines : goal.returns-clause-lines
returns-clause-lines c = all_fed c.in-Ok.field-0 c.in-Ok-push_closed.field-0 c.push_opened.result c.push_closed.result
    _ _ c.in_ok-in_pieces.field-0 c.push_opened.new.text.items c.push_closed.new.text.items c.args.digit
    c.args.storage.now c.args.file.now _ (rw length-map c.requires.more) c.in-Ok.is c.new-first.ensures.items
    c.push_opened.ensures c.requires.lines c.in-Ok-push_closed.is c.new-last.ensures.items c.push_closed.ensures
    c.in_ok-in_pieces.ensures
