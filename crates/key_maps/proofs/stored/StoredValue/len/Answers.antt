use Rattle.std.proofs.Common.{◌≤◌, arith, rules}
use Rattle.key_maps.specs.lemmas.Fronts.{encoding_short}
use Rattle.key_maps.proofs.stored.StoredValue.len.Goals as goal

pub overflow_cast-result : goal.overflow_cast-result
overflow_cast-result c =
    let short : c.len.result ≤ 65536 =
    omega (arith, c.len.ensures, encoding_short c.self.inside.bytes c.self.invariant.0) in
    search rules

pub returns-clause-short : goal.returns-clause-short
returns-clause-short c = omega (arith, c.len.ensures, encoding_short c.self.inside.bytes c.self.invariant.0)
