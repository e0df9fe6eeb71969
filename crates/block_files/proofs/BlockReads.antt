-- What a walk over the blocks of a content keeps: whether they are within a file, and calls that only read.
use Rattle.std.proofs.Common.{◌≡◌, ◌≢◌, ℕ, ◌+◌, ◌-◌, ◌*◌, ◌<◌, ◌≤◌, min, List, [], ◌∷◌, length}
use Rattle.std.proofs.Common.{get_or, drop, Bool, true, false, ◌&&◌, ◌||◌, nat_eq, nat_le, refl}
use Rattle.std.proofs.Common.{sym, ap, ◌∙◌}
use Rattle.std.proofs.lemmas.List.{drop_more, drop_all}
use Rattle.std.proofs.lemmas.Bool.{lt-leb, le-leb, eq-eqb, ne_eqb, or_left}
use Rattle.disk_model.specs.Medium.{Medium, IsLawful, Elapses, OnlyReads}
use Rattle.disk_model.specs.Laws.{reads_none, reads_on, elapses_none, elapses_on}
use Rattle.block_files.specs.Areas.{is_within}

-- ---- within a file, block by block

pub within_nothing : (size : ℕ) (blocks : List ℕ) (left : ℕ) → left ≡ 0 → is_within size blocks left ≡ true
within_nothing size [] left none = refl
within_nothing size (k ∷ blocks) left none = or_left (nat_eq left 0)
    (nat_le (256 * k + min 256 left) size && is_within size blocks (left - 256)) (eq-eqb left 0 none)

within_at : (size k : ℕ) (blocks : List ℕ) (left : ℕ) (fits : Bool) → left ≢ 0
    → nat_le (256 * k + min 256 left) size ≡ fits → is_within size (k ∷ blocks) left
    ≡ (fits && is_within size blocks (left - 256))
within_at size k blocks left fits some is =
    ap (λ b. b || (nat_le (256 * k + min 256 left) size && is_within size blocks (left - 256))) (ne_eqb left 0 some)
    ∙ ap (λ b. b && is_within size blocks (left - 256)) is

module _ (size : ℕ) (blocks : List ℕ) (i left k : ℕ) (lt : i < length blocks) (at : k ≡ get_or blocks i 0)
    (some : left ≢ 0) where
  begins : is_within size (drop i blocks) left ≡ is_within size (k ∷ drop (i + 1) blocks) left
  begins = ap (λ xs. is_within size xs left) (drop_more blocks i 0 lt ∙ ap (λ x. x ∷ drop (i + 1) blocks) (sym at))

  pub within_past : size < 256 * k + min 256 left → is_within size (drop i blocks) left ≡ false
  within_past more = begins ∙ within_at size k (drop (i + 1) blocks) left false some
      (lt-leb (256 * k + min 256 left) size more)

  pub within_more : 256 * k + min 256 left ≤ size → is_within size (drop i blocks) left
      ≡ is_within size (drop (i + 1) blocks) (left - 256)
  within_more fits = begins ∙ within_at size k (drop (i + 1) blocks) left true some
      (le-leb (256 * k + min 256 left) size fits)

pub within_all : (size : ℕ) (blocks : List ℕ) (i left : ℕ) → length blocks ≤ i
    → is_within size (drop i blocks) left ≡ true
within_all size blocks i left past = ap (λ xs. is_within size xs left) (drop_all i blocks past)

-- ---- stretches of calls that only read

pub record IsRead (old now : Medium) : Type 0 where
  pub reads : OnlyReads old now
  pub time : Elapses old now
  pub passes : now.faults ≡ old.faults

pub read_none : (told : Bool) (m : Medium) → IsLawful told m → IsRead m m
read_none told m law = record { reads = reads_none law; time = elapses_none law; passes = refl }

pub read_on : (a b c : Medium) → IsRead a b → OnlyReads b c → Elapses b c → c.faults ≡ b.faults → IsRead a c
read_on a b c first reads time passes = record {
  reads = reads_on first.time first.reads time reads;
  time = elapses_on first.time time;
  passes = passes ∙ first.passes;
}
