use Rattle.std.proofs.Common.{◌≡◌, ℕ, ◌∙◌, List, ◌++◌, length, drop, ap, append_assoc, arith}
use Rattle.std.proofs.lemmas.List.{append-nil, drop_all}
use Rattle.byteorder.specs.Endian.{little_bytes}
use Rattle.hash_guard.specs.SealedText.{numbered}
use Rattle.hash_guard.proofs.sealing.write_numbered.Goals as goal

-- a place that is filled holds what was written there
filled : (new bytes old : List ℕ) (n : ℕ) → length old ≡ n → new ≡ bytes ++ drop n old → new ≡ bytes
filled new bytes old n len e =
    e ∙ ap (λ (ys : List ℕ). bytes ++ ys) (drop_all n old (omega arith)) ∙ append-nil bytes

joined : (x y z a b c : List ℕ) → x ≡ a → y ≡ b → z ≡ c → x ++ (y ++ z) ≡ a ++ b ++ c
joined x y z a b c p q r = let e = append_assoc a b c in cc

pub returns : goal.returns
unfolding numbered
returns c =
    let generation = filled c.write_u64.new.buf (little_bytes 8 c.args.generation) _ 8
    c.split_at_mut-generation_bytes.ensures.front_len c.write_u64.ensures in
    let number = filled c.write_u32.new.buf (little_bytes 4 (length c.args.body.now)) _ 4
    c.split_at_mut-length_bytes.ensures.front_len c.write_u32.ensures in
    joined _ _ _ (little_bytes 8 c.args.generation) (little_bytes 4 (length c.args.body.now)) c.args.body.now
    generation number c.copy_from_slice.ensures.after
