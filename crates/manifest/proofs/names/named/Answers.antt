use Rattle.manifest.proofs.NameLaws.{named_more}
use Rattle.manifest.proofs.names.named.Goals as goal

pub loop-thing-preserved : goal.loop-thing-preserved
loop-thing-preserved c = named_more c.args.things.now c.loop-thing.thing-index c.thing-item.result
    c.loop-thing.found.entries c.insert.new.self.entries c.name_of.result _ c.thing-item.is c.loop-thing-test.true
    c.name_of.ensures c.in_ok-insert.ensures.entries c.loop-thing.invariant
