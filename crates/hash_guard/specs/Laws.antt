-- Laws of sealed texts: how long they are, what verifies and what never does, and that a slot's start decides alone.
use Rattle.std.proofs.Common.{◌≡◌, ℕ, ◌+◌, ◌-◌, ◌^◌, ◌<◌, ◌≤◌, List, ◌++◌, length, take, drop, replicate, Bool, true}
use Rattle.std.proofs.Common.{false, ◌&&◌, Option, Some, None, refl, sym, ap, ◌∙◌, append_assoc, subst, arith}
use Rattle.std.proofs.Common.{length-append, length-drop}
use Rattle.std.proofs.lemmas.List.{take_at, drop_at, take-take, drop-drop, drop-take, length-take, length-take-le}
use Rattle.std.proofs.lemmas.Bool.{cond-true, le-leb, leb-true}
use Rattle.std.proofs.lemmas.Option.{cond_some}
use Rattle.std.proofs.lemmas.Slice.Eq.{bytes_eq-Decides}
use Rattle.byteorder.specs.Endian.{little_bytes, little_from}
use Rattle.byteorder.specs.Numbers.{little_number-reads_back, length-bytes_low_first, little_from-take}
use Rattle.sha2.specs.Sha256.{sha256}
use Rattle.sha2.proofs.Facts256.{length-sha256}
use Rattle.hash_guard.specs.SealedText.{header, max_body, numbered, sealed, generation_in, length_in, body_in, IsSealed}
use Rattle.hash_guard.specs.SealedText.{VerifiesAs, is_sealed, verified}

-- ---- the length of a text

length-three : (a b c : List ℕ) (n : ℕ) → length a ≡ 8 → length b ≡ 4 → length c ≡ n → length (a ++ b ++ c) ≡ 12 + n
length-three a b c n la lb lc = simp length-append (omega arith)

pub length-numbered : (generation : ℕ) (body : List ℕ) → length (numbered generation body) ≡ 12 + length body
unfolding numbered
length-numbered generation body =
    length-three (little_bytes 8 generation) (little_bytes 4 (length body)) body (length body)
    (length-bytes_low_first 0 8 generation) (length-bytes_low_first 0 4 (length body)) refl

-- a sealed text has 44 bytes more than its body
pub length-sealed : (generation : ℕ) (body : List ℕ) → length (sealed generation body) ≡ header + length body
unfolding sealed
length-sealed generation body =
    length-append (sha256 (numbered generation body)) (numbered generation body)
    ∙ (let hash = length-sha256 (numbered generation body) in let rest = length-numbered generation body in omega arith)

-- ---- what is sealed verifies

-- the parts of a text, as a slot that begins with it is read
record AreParts (hash generation number body rest slot : List ℕ) : Type 0 where
  pub from_hash : take 32 slot ≡ hash
  pub from_generation : drop 32 slot ≡ generation ++ (number ++ (body ++ rest))
  pub from_length : drop 40 slot ≡ number ++ (body ++ rest)
  pub from_body : drop 44 slot ≡ body ++ rest
  pub hashed : take (12 + length body) (drop 32 slot) ≡ generation ++ number ++ body
  pub long : length slot ≡ 44 + length body + length rest

parts : (h a b body rest : List ℕ) → length h ≡ 32 → length a ≡ 8 → length b ≡ 4
    → AreParts h a b body rest (h ++ (a ++ b ++ body) ++ rest)
parts h a b body rest lh la lb =
    let slot : List ℕ = h ++ (a ++ b ++ body) ++ rest in
    let regrouped : slot ≡ h ++ (a ++ (b ++ (body ++ rest))) = simp append_assoc in
    let tail : drop 32 slot ≡ a ++ (b ++ (body ++ rest)) = ap (drop 32) regrouped
    ∙ drop_at h (a ++ (b ++ (body ++ rest))) 32 lh in
    let number : drop 40 slot ≡ b ++ (body ++ rest) = sym (drop-drop 8 32 slot) ∙ ap (drop 8) tail
    ∙ drop_at a (b ++ (body ++ rest)) 8 la in
    let its_body : drop 44 slot ≡ body ++ rest = sym (drop-drop 4 40 slot) ∙ ap (drop 4) number
    ∙ drop_at b (body ++ rest) 4 lb in
    let joined : a ++ (b ++ (body ++ rest)) ≡ (a ++ b ++ body) ++ rest = simp append_assoc in
    record {
      from_generation = tail;
      from_length = number;
      from_body = its_body;
      from_hash = ap (take 32) regrouped ∙ take_at h (a ++ (b ++ (body ++ rest))) 32 lh;
      hashed = ap (take (12 + length body)) (tail ∙ joined)
          ∙ take_at (a ++ b ++ body) rest (12 + length body) (length-three a b body (length body) la lb refl);
      long = ap length regrouped ∙ simp length-append (omega arith);
    }

-- what is sealed verifies as what was sealed, whatever follows it
pub sealed_verifies : (generation : ℕ) (body rest : List ℕ) → 1 ≤ generation → generation < 2 ^ 64
    → length body ≤ max_body → VerifiesAs (sealed generation body ++ rest) generation body
unfolding sealed numbered generation_in length_in
sealed_verifies generation body rest positive fits short =
    let p = parts (sha256 (numbered generation body)) (little_bytes 8 generation) (little_bytes 4 (length body)) body
    rest
    (length-sha256 (numbered generation body)) (length-bytes_low_first 0 8 generation)
    (length-bytes_low_first 0 4 (length body)) in
    let slot : List ℕ = sealed generation body ++ rest in
    let its_generation : generation ≡ generation_in slot =
    sym (ap (little_from 0 8) p.from_generation
    ∙ little_number-reads_back 8 generation (little_bytes 4 (length body) ++ (body ++ rest)) (omega arith)) in
    let its_length : length_in slot ≡ length body =
    ap (little_from 0 4) p.from_length ∙ little_number-reads_back 4 (length body) (body ++ rest) (omega arith) in
    record {
      front = record {
        head = omega (arith, p.long);
        generation = omega (arith, its_generation);
        short = omega (arith, its_length);
        whole = omega (arith, p.long, its_length);
        hash = p.from_hash ∙ ap sha256 (sym (ap (λ (n : ℕ). take (12 + n) (drop 32 slot)) its_length ∙ p.hashed));
      };
      generation_is = its_generation;
      body_is = sym (ap (λ (n : ℕ). take n (drop 44 slot)) its_length ∙ ap (take (length body)) p.from_body
          ∙ take_at body rest (length body) refl);
    }

-- ---- what a slot verifies as

-- a slot verifies as one generation and body at most
pub verifies_once : (slot : List ℕ) (g h : ℕ) (body other : List ℕ) → VerifiesAs slot g body
    → VerifiesAs slot h other → (g ≡ h) × (body ≡ other)
verifies_once slot g h body other v w = (v.generation_is ∙ sym w.generation_is, v.body_is ∙ sym w.body_is)

-- the body is as long as the slot says
pub length-body : (slot : List ℕ) (g : ℕ) (body : List ℕ) → VerifiesAs slot g body → length body ≡ length_in slot
length-body slot g body v =
    let room : length_in slot ≤ length (drop 44 slot) = omega (arith, length-drop 44 slot, v.front.whole) in
    ap length v.body_is ∙ length-take-le (length_in slot) (drop 44 slot) room

-- what verifies has a generation of at least 1 and a body of at most the greatest length, and is within the slot
pub generation_positive : (slot : List ℕ) (g : ℕ) (body : List ℕ) → VerifiesAs slot g body → 1 ≤ g
generation_positive slot g body v = omega (arith, v.front.generation, v.generation_is)

pub body_short : (slot : List ℕ) (g : ℕ) (body : List ℕ) → VerifiesAs slot g body → length body ≤ max_body
body_short slot g body v = omega (arith, v.front.short, length-body slot g body v)

pub text_within : (slot : List ℕ) (g : ℕ) (body : List ℕ) → VerifiesAs slot g body
    → header + length body ≤ length slot
text_within slot g body v = omega (arith, v.front.whole, length-body slot g body v)

-- ---- what never verifies

-- neither zeros at the start, nor a slot shorter than a header, nor one that states too long a body
pub blank_never : (rest : List ℕ) (g : ℕ) (body : List ℕ) → VerifiesAs (replicate 44 0 ++ rest) g body → ⊥
unfolding generation_in
blank_never rest g body v =
    let zero : generation_in (replicate 44 0 ++ rest) ≡ 0 = refl in omega (arith, v.front.generation, zero)

pub short_never : (slot : List ℕ) (g : ℕ) (body : List ℕ) → length slot < header → VerifiesAs slot g body → ⊥
short_never slot g body short v = omega (arith, v.front.head)

pub long_never : (slot : List ℕ) (g : ℕ) (body : List ℕ) → max_body < length_in slot → VerifiesAs slot g body → ⊥
long_never slot g body long v = omega (arith, v.front.short)

-- ---- the start alone decides

drop-take_within : (k n : ℕ) (xs : List ℕ) → k ≤ n → drop k (take n xs) ≡ take (n - k) (drop k xs)
drop-take_within k n xs le =
    let whole : n ≡ k + (n - k) = omega arith in
    ap (λ (j : ℕ). drop k (take j xs)) whole ∙ drop-take k (n - k) xs

generation_in-take : (n : ℕ) (slot : List ℕ) → header ≤ n → generation_in (take n slot) ≡ generation_in slot
unfolding generation_in
generation_in-take n slot le =
    ap (little_from 0 8) (drop-take_within 32 n slot (omega arith))
    ∙ little_from-take 0 8 (n - 32) (drop 32 slot) (omega arith)

length_in-take : (n : ℕ) (slot : List ℕ) → header ≤ n → length_in (take n slot) ≡ length_in slot
unfolding length_in
length_in-take n slot le =
    ap (little_from 0 4) (drop-take_within 40 n slot (omega arith))
    ∙ little_from-take 0 4 (n - 40) (drop 40 slot) (omega arith)

-- what is from place k on, as far as n, is the same in the first n bytes
part-take : (k m n : ℕ) (slot : List ℕ) → k + m ≤ n → take m (drop k (take n slot)) ≡ take m (drop k slot)
part-take k m n slot le =
    ap (take m) (drop-take_within k n slot (omega arith)) ∙ take-take m (n - k) (drop k slot) (omega arith)

-- a slot verifies as its first n bytes do, where the text is within them
pub verifies-take : (n : ℕ) (slot : List ℕ) (g : ℕ) (body : List ℕ) → header + length body ≤ n
    → VerifiesAs slot g body → VerifiesAs (take n slot) g body
verifies-take n slot g body le v =
    let number = length_in-take n slot (omega arith) in
    let generation = generation_in-take n slot (omega arith) in
    let its_length = length-body slot g body v in
    let long = length-take n slot in
    record {
      front = record {
        head = omega (arith, long, v.front.head);
        generation = omega (arith, generation, v.front.generation);
        short = omega (arith, number, v.front.short);
        whole = omega (arith, long, number, its_length, v.front.whole);
        hash = take-take 32 n slot (omega arith) ∙ v.front.hash
            ∙ ap sha256 (sym (ap (λ (m : ℕ). take (12 + m) (drop 32 (take n slot))) number
            ∙ part-take 32 (12 + length_in slot) n slot (omega (arith, its_length))));
      };
      generation_is = v.generation_is ∙ sym generation;
      body_is = v.body_is ∙ sym (ap (λ (m : ℕ). take m (drop 44 (take n slot))) number
          ∙ part-take 44 (length_in slot) n slot (omega (arith, its_length)));
    }

-- what the first bytes of a slot verify as the slot verifies as
pub take-verifies : (n : ℕ) (slot : List ℕ) (g : ℕ) (body : List ℕ) → VerifiesAs (take n slot) g body
    → VerifiesAs slot g body
take-verifies n slot g body v =
    let long = length-take n slot in
    let number = length_in-take n slot (omega (arith, long, v.front.head)) in
    let generation = generation_in-take n slot (omega (arith, long, v.front.head)) in
    let whole : 44 + length_in slot ≤ n = omega (arith, long, number, v.front.whole) in
    record {
      front = record {
        head = omega (arith, long, v.front.head);
        generation = omega (arith, generation, v.front.generation);
        short = omega (arith, number, v.front.short);
        whole = omega (arith, long, number, v.front.whole);
        hash = sym (take-take 32 n slot (omega arith)) ∙ v.front.hash
            ∙ ap sha256 (ap (λ (m : ℕ). take (12 + m) (drop 32 (take n slot))) number
            ∙ part-take 32 (12 + length_in slot) n slot (omega arith));
      };
      generation_is = v.generation_is ∙ generation;
      body_is = v.body_is ∙ ap (λ (m : ℕ). take m (drop 44 (take n slot))) number
          ∙ part-take 44 (length_in slot) n slot (omega arith);
    }

-- slots that agree as far as the text goes verify alike
pub verifies_alike : (n : ℕ) (slot other : List ℕ) (g : ℕ) (body : List ℕ) → header + length body ≤ n
    → take n slot ≡ take n other → VerifiesAs slot g body → VerifiesAs other g body
verifies_alike n slot other g body le same v =
    let P : List ℕ → Type 0 = λ front. VerifiesAs front g body in
    take-verifies n other g body (subst P same (verifies-take n slot g body le v))

-- a reader of the first 512 KiB of a slot reads all that decides
pub verifies-front : (slot : List ℕ) (g : ℕ) (body : List ℕ) → VerifiesAs slot g body
    → VerifiesAs (take (header + max_body) slot) g body
verifies-front slot g body v =
    verifies-take (header + max_body) slot g body (omega (arith, body_short slot g body v)) v

-- ---- the same as a function

both : (a b : Bool) → a ≡ true → b ≡ true → (a && b) ≡ true
both true b p q = q
both false b p q = cc

each : (a b : Bool) → (a && b) ≡ true → (a ≡ true) × (b ≡ true)
each true b p = (refl, p)
each false b p = cc

-- the test is true exactly where the slot's start is a text under its own hash
is_sealed-true : (slot : List ℕ) → IsSealed slot → is_sealed slot ≡ true
is_sealed-true slot s =
    both _ _ (both _ _ (both _ _ (both _ _ (le-leb _ _ s.head) (le-leb _ _ s.generation)) (le-leb _ _ s.short))
    (le-leb _ _ s.whole))
    ((bytes_eq-Decides (take 32 slot) (sha256 (take (12 + length_in slot) (drop 32 slot)))).1 s.hash)

sealed-is_sealed : (slot : List ℕ) → is_sealed slot ≡ true → IsSealed slot
sealed-is_sealed slot e =
    let hash = each _ _ e in
    let whole = each _ _ hash.0 in
    let short = each _ _ whole.0 in
    let generation = each _ _ short.0 in
    record {
      head = leb-true _ _ generation.0;
      generation = leb-true _ _ generation.1;
      short = leb-true _ _ short.1;
      whole = leb-true _ _ whole.1;
      hash = (bytes_eq-Decides (take 32 slot) (sha256 (take (12 + length_in slot) (drop 32 slot)))).0 hash.1;
    }

-- as what a slot verifies, `verified` gives, and the other way round
pub verifies-verified : (slot : List ℕ) (g : ℕ) (body : List ℕ) → VerifiesAs slot g body
    → verified slot ≡ Some (g, body)
unfolding verified
verifies-verified slot g body v =
    cond-true (is_sealed slot) (Some (generation_in slot, body_in slot)) None (is_sealed-true slot v.front)
    ∙ ap (λ (h : ℕ). Some (h, body_in slot)) (sym v.generation_is)
    ∙ ap (λ (bs : List ℕ). Some (g, bs)) (sym v.body_is)

pub verified-verifies : (slot : List ℕ) (g : ℕ) (body : List ℕ) → verified slot ≡ Some (g, body)
    → VerifiesAs slot g body
unfolding verified
verified-verifies slot g body e =
    let found = cond_some (is_sealed slot) (generation_in slot, body_in slot) (g, body) e in
    record {
      front = sealed-is_sealed slot found.0;
      generation_is = ap (λ (t : ℕ × List ℕ). t.0) (sym found.1);
      body_is = ap (λ (t : ℕ × List ℕ). t.1) (sym found.1);
    }

-- what verifies as nothing is none
pub verified-none : (slot : List ℕ) → ((g : ℕ) (body : List ℕ) → VerifiesAs slot g body → ⊥) → verified slot ≡ None
verified-none slot never = go (verified slot) refl
  where
    go : (answer : Option (ℕ × List ℕ)) → verified slot ≡ answer → verified slot ≡ None
    go None e = e
    go (Some t) e = absurd (never t.0 t.1 (verified-verifies slot t.0 t.1 e))
