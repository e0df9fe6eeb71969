use Rattle.flash_disk.proofs.Entering.{holds_sound}
use Rattle.flash_disk.proofs.Losing.{led_apart, none_there}
use Rattle.flash_disk.proofs.layer.Layer.is_apart.Goals as goal

pub returns : goal.returns
returns g c told described apart =
    let m = g.F.Flash.medium c.args.self.now.flash in
    let s = c.args.self.now.state in
    let sound = holds_sound m s described (none_there s.unsure c.is_some.ensures c.if-is_some.false) in
    led_apart m.state.pages m.blocks s.table sound.knows.led (c.are_apart.ensures apart)
