use Rattle.std.proofs.Common.{rules, ℕ, ◌+◌, ◌-◌, List, take, drop}
use Rattle.hash_guard.specs.SealedText.{VerifiesAs}
use Rattle.hash_guard.specs.Inverse.{verified-sealed}
use Rattle.hash_guard.proofs.verifying.verify.Goals as goal

pub returns-clause-front : goal.returns-clause-front
returns-clause-front c =
    let slot : List ℕ = c.args.slot.now in
    let body : List ℕ = take (44 + c.length_of-body_length.result - 44) (drop 44 slot) in
    let verified : VerifiesAs slot c.generation_of-generation.result body = search rules in
    verified-sealed slot c.generation_of-generation.result body (λ i. (c.type_inv.slot i).fits) verified
