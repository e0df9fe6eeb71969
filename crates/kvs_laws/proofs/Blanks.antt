-- A text under its hash is a head of 44 bytes and a body, and a blank takes the head away, whatever it was.
use Rattle.std.proofs.Common.{◌≡◌, ◌≢◌, ℕ, ◌+◌, ◌-◌, List, ◌++◌, length, take, drop, replicate, sym, ap, ◌∙◌, refl}
use Rattle.std.proofs.Common.{zero-add, append_assoc, eqb, ne_eqb, arith}
use Rattle.std.proofs.lemmas.List.{length-append, drop_at}
use Rattle.std.proofs.lemmas.Bool.{cond-false}
use Rattle.byteorder.specs.Endian.{little_bytes}
use Rattle.hash_guard.specs.SealedText.{numbered, sealed}
use Rattle.hash_guard.specs.Laws.{length-sealed}
use Rattle.disk_model.specs.Image.{put_bytes}

-- the text is a head of 44 bytes, and this body
pub record IsHeaded (text body : List ℕ) : Type 0 where
  pub head : List ℕ
  pub is : text ≡ head ++ body
  pub long : length head ≡ 44

parted : (a b c body text : List ℕ) → text ≡ a ++ (b ++ c ++ body) → length text ≡ 44 + length body
    → IsHeaded text body
parted a b c body text is long =
    let whole : text ≡ (a ++ (b ++ c)) ++ body = is ∙ sym (append_assoc a (b ++ c) body) in
    record {
      head = a ++ (b ++ c);
      is = whole;
      long = omega (arith, ap length whole, length-append (a ++ (b ++ c)) body, long);
    }

pub is_headed : (generation : ℕ) (body : List ℕ) → IsHeaded (sealed generation body) body
unfolding sealed numbered
is_headed generation body = parted _ (little_bytes 8 generation) (little_bytes 4 (length body)) body
    (sealed generation body) refl (length-sealed generation body)

-- ---- a blank

abbrev zeros : List ℕ
zeros = replicate 44 0

put_front : (old bytes : List ℕ) → length bytes ≢ 0 → put_bytes old 0 bytes ≡ bytes ++ drop (length bytes) old
unfolding put_bytes
put_front old bytes some =
    cond-false (eqb (length bytes) 0) old (take 0 (old ++ replicate (0 - length old) 0) ++ bytes
    ++ drop (0 + length bytes) old) (ne_eqb (length bytes) 0 some)
    ∙ ap (λ (n : ℕ). bytes ++ drop n old) (zero-add (length bytes))

blanked : (w head body : List ℕ) → length head ≡ 44
    → put_bytes (put_bytes w 0 (head ++ body)) 0 (replicate 44 0) ≡ zeros ++ (body ++ drop (44 + length body) w)
blanked w head body long =
    let all : length (head ++ body) ≡ 44 + length body = length-append head body
    ∙ ap (λ (n : ℕ). n + length body) long in
    put_front (put_bytes w 0 (head ++ body)) zeros (omega arith)
    ∙ ap (λ (xs : List ℕ). zeros ++ drop 44 xs) (put_front w (head ++ body) (omega (arith, all))
    ∙ append_assoc head body (drop (length (head ++ body)) w))
    ∙ ap (λ (xs : List ℕ). zeros ++ xs) (drop_at head (body ++ drop (length (head ++ body)) w) 44 long)
    ∙ ap (λ (n : ℕ). zeros ++ (body ++ drop n w)) all

pub blanked_alike : (w head other body : List ℕ) → length head ≡ 44 → length other ≡ 44
    → put_bytes (put_bytes w 0 (head ++ body)) 0 (replicate 44 0)
    ≡ put_bytes (put_bytes w 0 (other ++ body)) 0 (replicate 44 0)
blanked_alike w head other body one two = blanked w head body one ∙ sym (blanked w other body two)
