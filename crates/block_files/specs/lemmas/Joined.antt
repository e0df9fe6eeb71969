-- What is read from the blocks of a content, byte by byte, and when they are within a file.
use Rattle.std.proofs.Common.{◌≡◌, ℕ, suc, zero, ◌+◌, ◌-◌, ◌*◌, ◌/◌, ◌%◌, ◌<◌, ◌≤◌, min, List, [], ◌∷◌, ◌++◌, length}
use Rattle.std.proofs.Common.{get_or, drop, replicate, true, ◌&&◌, nat_eq, nat_le, refl, sym, ap, ◌∙◌, arith, ⊎_elim}
use Rattle.std.specs.Prelude.{flat_map}
use Rattle.std.proofs.lemmas.List.{length-append, length-take-le, length-replicate, get_or_append_left}
use Rattle.std.proofs.lemmas.List.{get_or-append_right, get_or-take, get_or-drop, ext_get_or}
use Rattle.std.proofs.lemmas.Bool.{cases_eq, le-leb, leb-true, eq-eqb, eqb-true, or_cases, or_left, or_right, and_parts}
use Rattle.std.proofs.lemmas.Bool.{and_from}
use Rattle.block_files.specs.Areas.{block, joined, is_within, IsFull, HoldsBytes}
use Rattle.disk_model.specs.Written.{read_padded}

-- ---- blocks, joined

pub length-block : (file : List ℕ) (k : ℕ) → length (block file k) ≡ 256
length-block file k =
    length-take-le 256 (drop (256 * k) file ++ replicate 256 0)
    (omega (arith, length-append (drop (256 * k) file) (replicate 256 0), length-replicate {A = ℕ} 256 0))

pub read_block : (file : List ℕ) (k j : ℕ) → j < 256 → get_or (block file k) j 0 ≡ get_or file (256 * k + j) 0
read_block file k j lt =
    get_or-take 256 (drop (256 * k) file ++ replicate 256 0) j 0 lt
    ∙ read_padded (drop (256 * k) file) 256 j
    ∙ get_or-drop (256 * k) file j 0

pub length-blocks : (file blocks : List ℕ) → length (flat_map (block file) blocks) ≡ 256 * length blocks
length-blocks file [] = refl
length-blocks file (k ∷ blocks) =
    omega (
      arith,
      length-append (block file k) (flat_map (block file) blocks),
      length-block file k,
      length-blocks file blocks,
    )

pub read_blocks : (file blocks : List ℕ) (q r : ℕ) → q < length blocks → r < 256
    → get_or (flat_map (block file) blocks) (256 * q + r) 0 ≡ get_or file (256 * get_or blocks q 0 + r) 0
read_blocks file [] q r lt small = absurd (omega arith)
read_blocks file (k ∷ blocks) zero r lt small =
    let e : 256 * 0 + r ≡ r = omega arith in
    let f = get_or_append_left (block file k) (flat_map (block file) blocks) 0 r (omega (arith, length-block file k)) in
    ap (λ n. get_or (flat_map (block file) (k ∷ blocks)) n 0) e ∙ f ∙ read_block file k r small
read_blocks file (k ∷ blocks) (suc q) r lt small =
    let f = get_or-append_right (block file k) (flat_map (block file) blocks) 256 (256 * suc q + r) 0
    (length-block file k) (omega arith) in
    let e : 256 * suc q + r - 256 ≡ 256 * q + r = omega arith in
    f ∙ ap (λ n. get_or (flat_map (block file) blocks) n 0) e ∙ read_blocks file blocks q r (omega arith) small

-- a byte of the joined content
pub read_joined : (file blocks : List ℕ) (len q r : ℕ) → q < length blocks → r < 256 → 256 * q + r < len
    → get_or (joined file blocks len) (256 * q + r) 0 ≡ get_or file (256 * get_or blocks q 0 + r) 0
read_joined file blocks len q r lt small inside = get_or-take len (flat_map (block file) blocks) (256 * q + r) 0 inside
    ∙ read_blocks file blocks q r lt small

-- ---- within a file

-- each byte of a content is below the size
abbrev pub StaysBelow : (size : ℕ) (blocks : List ℕ) (len : ℕ) → Type 0
StaysBelow size blocks len = (m j : ℕ) → m < length blocks → j < 256 → 256 * m + j < len
    → 256 * get_or blocks m 0 + j < size

pub within_from : (size : ℕ) (blocks : List ℕ) (len : ℕ) → StaysBelow size blocks len → is_within size blocks len ≡ true
within_from size [] len reaches = refl
within_from size (k ∷ blocks) len reaches = ⊎_elim
    (λ none. or_left (nat_eq len 0) (nat_le (256 * k + min 256 len) size && is_within size blocks (len - 256))
    (eq-eqb len 0 none))
    (λ some. or_right (nat_eq len 0) (nat_le (256 * k + min 256 len) size && is_within size blocks (len - 256))
    (and_from (nat_le (256 * k + min 256 len) size) (is_within size blocks (len - 256))
    (le-leb (256 * k + min 256 len) size (let last = reaches 0 (min 256 len - 1) (omega arith) (omega arith)
    (omega arith) in omega (arith, last)))
    (within_from size blocks (len - 256) (λ m j lt small inside. reaches (suc m) j (omega arith) small (omega arith)))))
    (cases_eq len 0)

pub reaches_from : (size : ℕ) (blocks : List ℕ) (len : ℕ) → is_within size blocks len ≡ true
    → StaysBelow size blocks len
reaches_from size [] len is m j lt small inside = absurd (omega arith)
reaches_from size (k ∷ blocks) len is zero j lt small inside = ⊎_elim
    (λ none. absurd (let e = eqb-true len 0 none in omega arith))
    (λ some. (
    let parts = and_parts (nat_le (256 * k + min 256 len) size) (is_within size blocks (len - 256)) some in
    let e = leb-true (256 * k + min 256 len) size parts.0 in omega arith))
    (or_cases (nat_eq len 0) (nat_le (256 * k + min 256 len) size && is_within size blocks (len - 256)) is)
reaches_from size (k ∷ blocks) len is (suc m) j lt small inside = ⊎_elim
    (λ none. absurd (let e = eqb-true len 0 none in omega arith))
    (λ some. (
    let parts = and_parts (nat_le (256 * k + min 256 len) size) (is_within size blocks (len - 256)) some in
    reaches_from size blocks (len - 256) parts.1 m j (omega arith) small (omega arith)))
    (or_cases (nat_eq len 0) (nat_le (256 * k + min 256 len) size && is_within size blocks (len - 256)) is)

-- ---- a content that is in its blocks byte by byte

module _ (file blocks bytes : List ℕ) (room : length bytes ≤ 256 * length blocks) (holds : HoldsBytes file blocks bytes)
  where
    joined_is : joined file blocks (length bytes) ≡ bytes
    joined_is =
        let long : length (joined file blocks (length bytes)) ≡ length bytes =
        length-take-le (length bytes) (flat_map (block file) blocks) (omega (arith, length-blocks file blocks)) in
        ext_get_or 0 (joined file blocks (length bytes)) bytes long (λ i lt. at i (omega arith))
      where
        at : (i : ℕ) → i < length bytes → get_or (joined file blocks (length bytes)) i 0 ≡ get_or bytes i 0
        at i lt =
            let split : 256 * (i / 256) + i % 256 ≡ i = omega arith in
            let e = read_joined file blocks (length bytes) (i / 256) (i % 256) (omega arith) (omega arith) (omega arith)
            in
            let f = (holds (i / 256) (omega arith) (i % 256) (omega arith) (omega arith)).1 in
            ap (λ n. get_or (joined file blocks (length bytes)) n 0) (sym split) ∙ e ∙ f
            ∙ ap (λ n. get_or bytes n 0) split

    pub full_from : IsFull file blocks bytes
    full_from = record {
      bytes_are = joined_is;
      inside = within_from (length file) blocks (length bytes) (λ m j lt small inside. (holds m lt j small inside).0);
    }

-- and byte by byte from the whole
pub holds_from : (file blocks bytes : List ℕ) → IsFull file blocks bytes → HoldsBytes file blocks bytes
holds_from file blocks bytes full i lt j small inside = (
  reaches_from (length file) blocks (length bytes) full.inside i j lt small inside,
  sym (read_joined file blocks (length bytes) i j lt small inside)
      ∙ ap (λ xs. get_or xs (256 * i + j) 0) full.bytes_are,
)
