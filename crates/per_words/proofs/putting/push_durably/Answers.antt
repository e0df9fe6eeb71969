use Rattle.per_words.proofs.Adding.{adds_not, adds_then}
use Rattle.per_words.proofs.putting.push_durably.Goals as goal

pub returns-in-Ok : goal.returns-in-Ok
returns-in-Ok c = adds_then c.in-Ok.field-0 c.push_content.result c.push_durable.result c.args.text.now.items
    c.push_content.new.text.items c.push_durable.new.text.items _ _ c.in-Ok.is c.push_content.ensures
    c.push_durable.ensures

pub returns-in-Err : goal.returns-in-Err
returns-in-Err c = adds_not c.in-Err.error c.push_content.result c.args.text.now.items c.push_content.new.text.items
    c.push_content.new.text.items _ _ c.in-Err.is c.push_content.ensures
