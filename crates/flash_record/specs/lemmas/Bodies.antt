-- The body of a record reads back as what was written into it.
use Rattle.std.proofs.Common.{◌≡◌, ◌⊎◌, ℕ, ◌^◌, ◌<◌, List, ◌++◌, length, drop, Some, None, refl, sym, ap, ◌∙◌, inl, inr}
use Rattle.std.proofs.Common.{⊎_elim, append_assoc, arith, length-append, cond, eq-eqb, ne_eqb, ◌≢◌}
use Rattle.std.specs.Prelude.{Option}
use Rattle.std.proofs.lemmas.List.{drop_at, drop-drop}
use Rattle.byteorder.specs.Endian.{little_bytes, little_number}
use Rattle.byteorder.specs.Numbers.{little_number-reads_back, length-bytes_low_first}
use Rattle.hash_guard.specs.SealedText.{VerifiesAs, verified}
use Rattle.hash_guard.specs.Laws.{verifies-verified, verified-verifies, verified-none}
use Rattle.flash_record.specs.PageRecord.{record_numbers, record_body, body_record, record_by, record_in}

pub length-record_numbers : (file page len : ℕ) → length (record_numbers file page len) ≡ 16
length-record_numbers file page len = omega (
  arith,
  length-append (little_bytes 4 file) (little_bytes 4 page ++ little_bytes 8 len),
  length-append (little_bytes 4 page) (little_bytes 8 len),
  length-bytes_low_first 0 4 file,
  length-bytes_low_first 0 4 page,
  length-bytes_low_first 0 8 len,
)

pub length-record_body : (file page len : ℕ) (bytes : List ℕ) → length bytes ≡ 256
    → length (record_body file page len bytes) ≡ 272
length-record_body file page len bytes long = omega (
  arith,
  length-append (record_numbers file page len) bytes,
  length-record_numbers file page len,
)

pub body_reads_back : (sequence file page len : ℕ) (bytes : List ℕ) → file < 2 ^ 32 → page < 2 ^ 32 → len < 2 ^ 64
    → body_record sequence (record_body file page len bytes)
    ≡ (record { sequence = sequence; file = file; page = page; len = len; bytes = bytes })
body_reads_back sequence file page len bytes small_file small_page small_len =
    let a : List ℕ = little_bytes 4 file in
    let b : List ℕ = little_bytes 4 page in
    let c : List ℕ = little_bytes 8 len in
    let la = length-bytes_low_first 0 4 file in
    let lb = length-bytes_low_first 0 4 page in
    let body : List ℕ = record_body file page len bytes in
    let grouped : body ≡ a ++ (b ++ (c ++ bytes)) = append_assoc a (b ++ c) bytes
    ∙ ap (λ (xs : List ℕ). a ++ xs) (append_assoc b c bytes) in
    let four : drop 4 body ≡ b ++ (c ++ bytes) = ap (drop 4) grouped ∙ drop_at a (b ++ (c ++ bytes)) 4 la in
    let eight : drop 8 body ≡ c ++ bytes = sym (drop-drop 4 4 body) ∙ ap (drop 4) four ∙ drop_at b (c ++ bytes) 4 lb in
    let its_file : little_number 4 body ≡ file = ap (little_number 4) grouped
    ∙ little_number-reads_back 4 file (b ++ (c ++ bytes)) (omega arith) in
    let its_page : little_number 4 (drop 4 body) ≡ page =
    ap (little_number 4) four ∙ little_number-reads_back 4 page (c ++ bytes) (omega arith) in
    let its_len : little_number 8 (drop 8 body) ≡ len = ap (little_number 8) eight
    ∙ little_number-reads_back 8 len bytes (omega arith) in
    let its_bytes : drop 16 body ≡ bytes = drop_at (record_numbers file page len) bytes 16
    (length-record_numbers file page len) in
    ap (λ n. record {
      sequence = sequence;
      file = n;
      page = little_number 4 (drop 4 body);
      len =
          little_number 8 (drop 8 body);
      bytes = drop 16 body;
    }) its_file
    ∙ ap (λ n. record {
      sequence = sequence;
      file = file;
      page = n;
      len = little_number 8 (drop 8 body);
      bytes =
          drop 16 body;
    }) its_page
    ∙ ap (λ n. record { sequence = sequence; file = file; page = page; len = n; bytes = drop 16 body }) its_len
    ∙ ap (λ (bs : List ℕ). record { sequence = sequence; file = file; page = page; len = len; bytes = bs }) its_bytes

-- a page whose start verifies with a body of 272 bytes is the record that the body says
pub record_in-text : (page : List ℕ) (sequence : ℕ) (body : List ℕ) → VerifiesAs page sequence body → length body ≡ 272
    → record_in page ≡ Some (body_record sequence body)
unfolding record_in
record_in-text page sequence body v long = ap record_by (verifies-verified page sequence body v)
    ∙ ap (λ b. cond b (Some (body_record sequence body)) None) (eq-eqb (length body) 272 long)

-- a page that does not verify is no record
pub record_in-none : (page : List ℕ) → ((g : ℕ) (body : List ℕ) → VerifiesAs page g body → ⊥) → record_in page ≡ None
unfolding record_in
record_in-none page never = ap record_by (verified-none page never)

-- a page whose text is a prefix of another is the same record
same_text : (page other : List ℕ) (text : ℕ × List ℕ) → verified page ≡ Some text → VerifiesAs other text.0 text.1
    → record_in page ≡ record_in other
unfolding record_in
same_text page other text is v = ap record_by (is ∙ sym (verifies-verified other text.0 text.1 v))

no_text : (page : List ℕ) → verified page ≡ None → record_in page ≡ None
unfolding record_in
no_text page none = ap record_by none

-- a page that verifies as nothing but what one of two others verifies as is no record, or the record of one of these
pub record_in-plain : (page one other : List ℕ)
    → ((g : ℕ) (body : List ℕ) → VerifiesAs page g body → VerifiesAs one g body ⊎ VerifiesAs other g body)
    → (record_in page ≡ None) ⊎ ((record_in page ≡ record_in one) ⊎ (record_in page ≡ record_in other))
record_in-plain page one other plain = by_text (verified page) refl
  where
    by_text : (text : Option (ℕ × List ℕ)) → verified page ≡ text
        → (record_in page ≡ None) ⊎ ((record_in page ≡ record_in one) ⊎ (record_in page ≡ record_in other))
    by_text None none = inl (no_text page none)
    by_text (Some text) is = inr (⊎_elim
        (λ was. inl (same_text page one text is was))
        (λ done. inr (same_text page other text is done))
        (plain text.0 text.1 (verified-verifies page text.0 text.1 is)))

-- a page whose start verifies with a body of another length is no record
pub record_in-other : (page : List ℕ) (sequence : ℕ) (body : List ℕ) → VerifiesAs page sequence body → length body ≢ 272
    → record_in page ≡ None
unfolding record_in
record_in-other page sequence body v other = ap record_by (verifies-verified page sequence body v)
    ∙ ap (λ b. cond b (Some (body_record sequence body)) None) (ne_eqb (length body) 272 other)

-- what a body says, part by part
pub said : (sequence : ℕ) (body : List ℕ) (file page len : ℕ) (bytes : List ℕ) → file ≡ little_number 4 body
    → page ≡ little_number 4 (drop 4 body)
    → len ≡ little_number 8 (drop 8 body) → bytes ≡ drop 16 body
    → body_record sequence body ≡ (record { sequence = sequence; file = file; page = page; len = len; bytes = bytes })
said sequence body file page len bytes its_file its_page its_len its_bytes =
    ap (λ n. record {
      sequence = sequence;
      file = n;
      page = little_number 4 (drop 4 body);
      len =
          little_number 8 (drop 8 body);
      bytes = drop 16 body;
    }) (sym its_file)
    ∙ ap (λ n. record {
      sequence = sequence;
      file = file;
      page = n;
      len = little_number 8 (drop 8 body);
      bytes =
          drop 16 body;
    }) (sym its_page)
    ∙ ap (λ n. record { sequence = sequence; file = file; page = page; len = n; bytes = drop 16 body }) (sym its_len)
    ∙ ap (λ (bs : List ℕ). record { sequence = sequence; file = file; page = page; len = len; bytes = bs })
    (sym its_bytes)
