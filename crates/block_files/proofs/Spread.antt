-- A content that is written into one copy after another.
use Rattle.std.proofs.Common.{◌≡◌, ◌≢◌, ℕ, ◌+◌, ◌*◌, ◌<◌, ◌≤◌, List, length, get_or, Bool, IsTrue, sym, ap, ◌∙◌, subst}
use Rattle.std.proofs.Common.{arith, ⊎_elim}
use Rattle.std.proofs.Math.Nat.{mul-le-mul_right}
use Rattle.std.proofs.lemmas.Bool.{cases_eq, cases_lt}
use Rattle.disk_model.specs.Medium.{Medium, IsLawful}
use Rattle.disk_model.specs.declared.place.Place.{Place}
use Rattle.block_files.specs.Parts.{changed_blocks}
use Rattle.block_files.specs.Areas.{area_of, HoldsBytes, HoldsShared, NamedFull}
use Rattle.block_files.specs.Writes.{Wrote, Tore, IsNoneOf, IsApartFromChanged}
use Rattle.block_files.specs.lemmas.Stretches.{wrote_none, wrote_on, wrote_tore, wrote_less, tore_less}
use Rattle.block_files.specs.lemmas.Joined.{full_from}

pub record IsSpread (told : Bool) (place : Place) (copies blocks bytes was : List ℕ) (i : ℕ) (old now : Medium) : Type 0
  where
    pub wrote : Wrote told (IsNoneOf place copies) (IsApartFromChanged blocks bytes was)
        (i * (256 * changed_blocks bytes was))
        old now
    pub holds : IsTrue told → (x : ℕ) → x < length copies → x < i
        → HoldsBytes (now.image (area_of place (get_or copies x 0))) blocks bytes
    pub shared : IsTrue told → (x : ℕ) → x < length copies
        → HoldsShared (now.image (area_of place (get_or copies x 0))) blocks bytes was

module _ (told : Bool) (place : Place) (copies blocks bytes was : List ℕ) where
  abbrev area_at : ℕ → ℕ
  area_at x = area_of place (get_or copies x 0)

  pub spread_none : (m : Medium) → IsLawful told m
      → (IsTrue told → (x : ℕ) → x < length copies → HoldsShared (m.image (area_of place (get_or copies x 0))) blocks
      bytes was)
      → IsSpread told place copies blocks bytes was 0 m m
  spread_none m law shared = record {
    wrote = (let e : 0 ≡ 0 * (256 * changed_blocks bytes was) = omega arith in
        let P : ℕ → Type 0 = λ n. Wrote told (IsNoneOf place copies) (IsApartFromChanged blocks bytes was) n m m in
        subst P e (wrote_none told (IsNoneOf place copies) (IsApartFromChanged blocks bytes was) m law));
    holds = λ tells x lt less. absurd (omega arith);
    shared = shared;
  }

  -- one copy more, in the file of copy i
  pub spread_more : (i file : ℕ) (old mid new : Medium) → i < length copies → file ≡ area_of place (get_or copies i 0)
      → Wrote told (λ f. f ≢ file) (IsApartFromChanged blocks bytes was) (256 * changed_blocks bytes was) mid new
      → (IsTrue told → HoldsBytes (new.image file) blocks bytes)
      → IsSpread told place copies blocks bytes was i old mid
      → IsSpread told place copies blocks bytes was (i + 1) old new
  spread_more i file old mid new lt file_is one now spread = record {
    wrote = (
        let n = 256 * changed_blocks bytes was in
        let next = wrote_less told (λ f. f ≢ file) (IsApartFromChanged blocks bytes was) (IsNoneOf place copies)
        (IsApartFromChanged blocks bytes was)
        (λ f none. λ e. none i lt (e ∙ file_is)) (λ k apart. apart) n n (omega arith) mid new one in
        let both = wrote_on told (IsNoneOf place copies) (IsApartFromChanged blocks bytes was) (i * n) n old mid new
        spread.wrote next in
        let e : i * (256 * changed_blocks bytes was) + 256 * changed_blocks bytes was
        ≡ (i + 1) * (256 * changed_blocks bytes was) =
        omega arith in
        let P : ℕ → Type 0 = λ x. Wrote told (IsNoneOf place copies) (IsApartFromChanged blocks bytes was) x old new in
        subst P e both);
    holds = λ tells x below less. ⊎_elim
        (λ same. (let P : ℕ → Type 0 = λ f. HoldsBytes (new.image f) blocks bytes in subst P (sym same) (now tells)))
        (λ other. (
        let e = (one.keeps tells).files (area_at x) other in
        let P : List ℕ → Type 0 = λ xs. HoldsBytes xs blocks bytes in
        let before : x < i = ⊎_elim
        (λ lower. lower)
        (λ high. absurd (let here : x ≡ i = omega arith in other (ap area_at here ∙ sym file_is)))
        (cases_lt x i) in
        subst P (sym e) (spread.holds tells x below before)))
        (cases_eq (area_at x) file);
    shared = λ tells x below. ⊎_elim
        (λ same. (let P : ℕ → Type 0 = λ f. HoldsShared (new.image f) blocks bytes was in
        subst P (sym same) (λ m at unchanged. now tells m at)))
        (λ other. (
        let e = (one.keeps tells).files (area_at x) other in
        let P : List ℕ → Type 0 = λ xs. HoldsShared xs blocks bytes was in
        subst P (sym e) (spread.shared tells x below)))
        (cases_eq (area_at x) file);
  }

  pub spread_failed : (i file : ℕ) (old mid new : Medium) → i < length copies → file ≡ area_of place (get_or copies i 0)
      → Tore told (λ f. f ≢ file) (IsApartFromChanged blocks bytes was) (256 * changed_blocks bytes was) mid new
      → IsSpread told place copies blocks bytes was i old mid
      → Tore told (IsNoneOf place copies) (IsApartFromChanged blocks bytes was)
      (length copies * (256 * changed_blocks bytes was)) old new
  spread_failed i file old mid new lt file_is one spread =
      let n = 256 * changed_blocks bytes was in
      let next = tore_less told (λ f. f ≢ file) (IsApartFromChanged blocks bytes was) (IsNoneOf place copies)
      (IsApartFromChanged blocks bytes was)
      (λ f none. λ e. none i lt (e ∙ file_is)) (λ k apart. apart) n n (omega arith) mid new one in
      let both = wrote_tore told (IsNoneOf place copies) (IsApartFromChanged blocks bytes was) (i * n) n old mid new
      spread.wrote next in
      let e : i * (256 * changed_blocks bytes was) + 256 * changed_blocks bytes was
      ≡ (i + 1) * (256 * changed_blocks bytes was) =
      omega arith in
      let few : i + 1 ≤ length copies = omega arith in
      let le = mul-le-mul_right (256 * changed_blocks bytes was) few in
      tore_less told (IsNoneOf place copies) (IsApartFromChanged blocks bytes was) (IsNoneOf place copies)
      (IsApartFromChanged blocks bytes was) (λ f none. none) (λ k apart. apart)
      (i * n + n) (length copies * n) (omega (arith, e, le)) old new both

  pub spread_all : (i : ℕ) (old now : Medium) → i ≡ length copies
      → IsSpread told place copies blocks bytes was i old now
      → Wrote told (IsNoneOf place copies) (IsApartFromChanged blocks bytes was)
      (length copies * (256 * changed_blocks bytes was)) old now
  spread_all i old now all spread =
      let P : ℕ → Type 0 = λ n. Wrote told (IsNoneOf place copies) (IsApartFromChanged blocks bytes was)
      (n * (256 * changed_blocks bytes was)) old now in
      subst P all spread.wrote

  pub spread_full : (i : ℕ) (old now : Medium) → i ≡ length copies → length bytes ≤ 256 * length blocks
      → IsSpread told place copies blocks bytes was i old now
      → IsTrue told → NamedFull place copies blocks bytes now.image
  spread_full i old now all room spread tells x lt = full_from (now.image (area_at x)) blocks bytes room
      (spread.holds tells x lt (omega arith))
