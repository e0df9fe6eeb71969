use Rattle.kvs_laws.proofs.Keys.{set_is_got}
use Rattle.kvs_laws.proofs.laws.set_is_got.Goals as goal

pub returns : goal.returns
returns c config m new name value valid is =
    set_is_got config m name value new (c.decoded_is_exact.ensures.again value valid) is
