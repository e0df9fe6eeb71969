-- A content that is written run by run into one file.
use Rattle.std.proofs.Common.{◌≡◌, ◌≢◌, ◌⊎◌, ℕ, ◌+◌, ◌-◌, ◌*◌, ◌<◌, ◌≤◌, min, List, length, get_or, take, drop, Bool}
use Rattle.std.proofs.Common.{false, IsTrue, sym, ap, ◌∙◌, subst, arith, ⊎_elim, inl, inr}
use Rattle.std.proofs.lemmas.List.{length-take, length-drop, get_or-take, get_or-drop}
use Rattle.std.proofs.lemmas.Bool.{cases_eq, cases_lt}
use Rattle.per_base.specs.Causes.{Rose}
use Rattle.per_base.specs.Contents.{blocks_for}
use Rattle.disk_model.specs.Image.{put_image, put_bytes, TornImage}
use Rattle.disk_model.specs.Case.{WriteCase, WriteOrNot, Follows}
use Rattle.disk_model.specs.Medium.{Medium, IsLawful, Elapses}
use Rattle.disk_model.specs.Written.{put_image_here}
use Rattle.block_files.specs.BlockSets.{AreDistinct}
use Rattle.changed_runs.specs.Changed.{run_of}
use Rattle.block_files.specs.Parts.{is_changed, changed_blocks, changed_below}
use Rattle.block_files.specs.Areas.{HoldsPart, HoldsBytes, HoldsShared}
use Rattle.block_files.specs.Writes.{Wrote, Tore, IsApartFromChanged, IsRun}
use Rattle.block_files.specs.lemmas.PartLemmas.{changed_same}
use Rattle.block_files.specs.lemmas.PartRuns.{run_other, run_apart, run_counted, run_few, sent_fits, put_run}
use Rattle.block_files.specs.lemmas.Stretches.{wrote_none, wrote_on, wrote_tore, wrote_less, tore_less, wrote_one}
use Rattle.block_files.specs.lemmas.Stretches.{tore_one}

-- the bytes of a part
pub length-part : (bytes : List ℕ) (i : ℕ) → length (run_of bytes i) ≡ min 256 (length bytes - 256 * i)
length-part bytes i = length-take 256 (drop (256 * i) bytes) ∙ ap (min 256) (length-drop (256 * i) bytes)

pub read_part : (bytes : List ℕ) (i j : ℕ) → j < 256 → get_or (run_of bytes i) j 0 ≡ get_or bytes (256 * i + j) 0
read_part bytes i j lt = get_or-take 256 (drop (256 * i) bytes) j 0 lt ∙ get_or-drop (256 * i) bytes j 0

-- the parts below i, and those that do not differ, are in their blocks
abbrev pub HoldsTo : (file blocks bytes was : List ℕ) (i : ℕ) → Type 0
HoldsTo file blocks bytes was i = (m : ℕ) → m < length blocks → (m < i) ⊎ (is_changed bytes was m ≡ false)
    → HoldsPart file blocks bytes m

pub record IsPartly (told : Bool) (file : ℕ) (blocks bytes was : List ℕ) (i : ℕ) (old now : Medium) : Type 0 where
  pub wrote : Wrote told (λ f. f ≢ file) (IsApartFromChanged blocks bytes was) (256 * changed_below bytes was i) old now
  pub holds : IsTrue told → HoldsTo (now.image file) blocks bytes was i

module _ (told : Bool) (file : ℕ) (blocks bytes was : List ℕ) where
  pub partly_none : (m : Medium) → IsLawful told m → (IsTrue told → HoldsShared (m.image file) blocks bytes was)
      → IsPartly told file blocks bytes was 0 m m
  partly_none m law shared = record {
    wrote = wrote_none told (λ f. f ≢ file) (IsApartFromChanged blocks bytes was) m law;
    holds = λ tells k lt which. ⊎_elim (λ less. absurd (omega arith)) (λ same. shared tells k lt same) which;
  }

  pub partly_skip : (i : ℕ) (old now : Medium) → is_changed bytes was i ≡ false
      → IsPartly told file blocks bytes was i old now → IsPartly told file blocks bytes was (i + 1) old now
  partly_skip i old now same partly = record {
    wrote = (let P : ℕ → Type 0 = λ n. Wrote told (λ f. f ≢ file) (IsApartFromChanged blocks bytes was) (256 * n) old
        now in
        subst P (sym (changed_same bytes was i same)) partly.wrote);
    holds = λ tells m lt which. partly.holds tells m lt (⊎_elim
        (λ less. ⊎_elim
        (λ here. (let P : ℕ → Type 0 = λ n. is_changed bytes was n ≡ false in inr (subst P (sym here) same)))
        (λ other. inl (omega arith))
        (cases_eq m i))
        (λ was_same. inr was_same)
        which);
  }

  pub partly_all : (i : ℕ) (old now : Medium) → i ≡ blocks_for (length bytes)
      → IsPartly told file blocks bytes was i old now
      → Wrote told (λ f. f ≢ file) (IsApartFromChanged blocks bytes was) (256 * changed_blocks bytes was) old now
  partly_all i old now all partly =
      let P : ℕ → Type 0 = λ n. Wrote told (λ f. f ≢ file) (IsApartFromChanged blocks bytes was)
      (256 * changed_below bytes was n) old now in
      subst P all partly.wrote

  pub partly_holds : (i : ℕ) (old now : Medium) → i ≡ blocks_for (length bytes)
      → IsPartly told file blocks bytes was i old now
      → IsTrue told → HoldsBytes (now.image file) blocks bytes
  partly_holds i old now all partly tells m lt = ⊎_elim
      (λ less. partly.holds tells m lt (inl less))
      (λ past. λ j small inside. absurd (omega arith))
      (cases_lt m i)

-- ---- a run is written

module _ (told : Bool) (file : ℕ) (blocks bytes was : List ℕ) (first end stop b : ℕ)
    (room : length bytes ≤ 256 * length blocks) (run : IsRun blocks bytes was first end)
    (stops : stop ≡ min (256 * end) (length bytes)) (block_is : b ≡ get_or blocks first 0) (old mid new : Medium)
    (partly : IsPartly told file blocks bytes was first old mid) where
  abbrev sent : List ℕ
  sent = take (stop - 256 * first) (drop (256 * first) bytes)

  abbrev others : ℕ → Type 0
  others f = f ≢ file

  abbrev apart : ℕ → Type 0
  apart k = (k < b) ⊎ (b + (end - first) ≤ k)

  fits : length sent ≤ 256 * (end - first)
  fits = sent_fits blocks bytes was first end room run stop stops

  apart_run : (k : ℕ) → IsApartFromChanged blocks bytes was k → apart k
  apart_run k is = subst (λ (x : ℕ). (k < x) ⊎ (x + (end - first) ≤ k)) (sym block_is)
      (run_apart blocks bytes was first end room run k is)

  pub partly_write : AreDistinct blocks
      → (IsTrue told → new.image ≡ put_image mid.image file (256 * b) sent)
      → Follows (WriteCase file (256 * b) sent) mid.now new.now
      → Follows (WriteOrNot file (256 * b) sent) mid.now (new.since mid.moment)
      → new.written ≤ mid.written + length sent → Elapses mid new → new.faults ≡ mid.faults
      → IsPartly told file blocks bytes was end old new
  partly_write distinct image now during written time passes = record {
    wrote = (
        let next = wrote_less told others apart others (IsApartFromChanged blocks bytes was) (λ f ne. ne) apart_run
        (256 * (end - first)) (256 * (end - first)) (omega arith) mid new one in
        let both = wrote_on told others (IsApartFromChanged blocks bytes was) (256 * changed_below bytes was first)
        (256 * (end - first)) old mid new partly.wrote next in
        let e : 256 * changed_below bytes was first + 256 * (end - first) ≡ 256 * changed_below bytes was end =
        omega (arith, run_counted blocks bytes was first end room run) in
        let P : ℕ → Type 0 = λ n. Wrote told others (IsApartFromChanged blocks bytes was) n old new in
        subst P e both);
    holds = λ tells m below which. ⊎_elim
        (λ before. kept tells m below (inl before) (inl before))
        (λ from. ⊎_elim (λ within. put tells m from within) (λ past. kept tells m below (inr past) (⊎_elim
        (λ less. absurd (omega arith)) (λ same. inr same) which)) (cases_lt m end))
        (cases_lt m first);
  }
    where
      one : Wrote told others apart (256 * (end - first)) mid new
      one = wrote_one told file b (end - first) sent fits mid new image now during written time passes

      put : IsTrue told → (m : ℕ) → first ≤ m → m < end → HoldsPart (new.image file) blocks bytes m
      put tells m from within =
          let e = ap (λ im. im file) (image tells) ∙ put_image_here mid.image file (256 * b) sent
          ∙ ap (λ k. put_bytes (mid.image file) (256 * k) sent) block_is in
          let P : List ℕ → Type 0 = λ xs. HoldsPart xs blocks bytes m in
          subst P (sym e) (put_run blocks bytes was first end room run stop stops (mid.image file) m from within)

      kept : IsTrue told → (m : ℕ) → m < length blocks → (m < first) ⊎ (end ≤ m)
          → (m < first) ⊎ (is_changed bytes was m ≡ false) → HoldsPart (new.image file) blocks bytes m
      kept tells m below outside which j small inside =
          let keeps = one.keeps tells in
          let held = partly.holds tells m below which j small inside in
          let aside : apart (get_or blocks m 0) = subst
          (λ (x : ℕ). (get_or blocks m 0 < x) ⊎ (x + (end - first) ≤ get_or blocks m 0)) (sym block_is)
          (run_other blocks bytes was first end room run m distinct below outside) in
          (omega (arith, held.0, keeps.no_shorter file), keeps.bytes file (get_or blocks m 0) j small aside ∙ held.1)

  pub partly_tear : (IsTrue told → TornImage file (256 * b) (length sent) mid.image new.image)
      → Follows (WriteOrNot file (256 * b) sent) mid.now (new.since mid.moment)
      → new.written ≤ mid.written + length sent → Elapses mid new → Rose mid.faults new.faults
      → Tore told (λ f. f ≢ file) (IsApartFromChanged blocks bytes was) (256 * changed_blocks bytes was) old new
  partly_tear torn during written time cause =
      let one = tore_one told file b (end - first) sent fits mid new torn during written time cause in
      let next = tore_less told others apart others (IsApartFromChanged blocks bytes was) (λ f ne. ne) apart_run
      (256 * (end - first)) (256 * (end - first)) (omega arith) mid new one in
      let both = wrote_tore told others (IsApartFromChanged blocks bytes was) (256 * changed_below bytes was first)
      (256 * (end - first)) old mid new partly.wrote next in
      tore_less told others (IsApartFromChanged blocks bytes was) others (IsApartFromChanged blocks bytes was)
      (λ f ne. ne) (λ k is. is) (256 * changed_below bytes was first + 256 * (end - first))
      (256 * changed_blocks bytes was)
      (omega (arith, run_few blocks bytes was first end room run)) old new both
