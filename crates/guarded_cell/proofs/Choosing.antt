-- How flags are chosen, slot by slot, and texts seen.
use Rattle.std.proofs.Common.{◌≡◌, ℕ, ◌+◌, ◌<◌, ◌≤◌, List, length, take, get_or, set, Bool, true, false, IsTrue, sym}
use Rattle.std.proofs.Common.{ap, ◌∙◌, subst, ⊎_elim, arith, get_or-set_other, get_or-set_same, eq-eqb, min, drop}
use Rattle.std.proofs.Common.{nat_eq, ◌-◌, ◌&&◌}
use Rattle.std.specs.Str.{bytes_eq}
use Rattle.std.proofs.lemmas.Slice.Eq.{bytes_eq-Decides}
use Rattle.std.proofs.lemmas.Bool.{cases_lt}
use Rattle.hash_guard.specs.SealedText.{VerifiesAs}
use Rattle.std.proofs.lemmas.List.{take-take, take_all, length-set}
use Rattle.hash_guard.specs.Laws.{verifies-take, verifies_alike, body_short, verifies_once}
use Rattle.disk_model.specs.Laws.{reads_on, elapses_on}
use Rattle.disk_model.specs.Image.{Image}
use Rattle.disk_model.specs.Medium.{Medium, OnlyReads, Elapses}
use Rattle.disk_model.specs.Place.{slot}
use Rattle.disk_model.specs.declared.place.Place.{Place}
use Rattle.guarded_cell.specs.Register.{IsBlank}
use Rattle.guarded_cell.specs.Slots.{front, IsFoundInSlot, Tells, matches_pick, HasNoOther}
use Rattle.guarded_cell.specs.declared.slots.Found.{Found}
use Rattle.guarded_cell.specs.declared.slots.Found.TheVariants.{Nothing, Wanted, Another}
use Rattle.guarded_cell.specs.declared.slots.Pick.{Pick}
use Rattle.guarded_cell.specs.declared.slots.Pick.TheVariants.{Lacking, Verifying, Others}

-- the flag says what is found
pub told_by : (pick : Pick) (found : Found) (bytes : List ℕ) (generation : ℕ) (text : List ℕ)
    → IsFoundInSlot found bytes generation text
    → Tells pick (matches_pick pick found) bytes generation text
told_by Lacking Nothing bytes generation text blank = λ v. blank generation text v
told_by Lacking Wanted bytes generation text v = v
told_by Lacking Another bytes generation text found = found.0
told_by Verifying Nothing bytes generation text blank = blank
told_by Verifying Wanted bytes generation text v = λ blank. blank generation text v
told_by Verifying Another bytes generation text found = found.1
told_by Others Nothing bytes generation text blank = λ g t v. absurd (blank g t v)
told_by Others Wanted bytes generation text v = λ g t w. verifies_once bytes g generation t text w v
told_by Others Another bytes generation text found = λ only. found.1 (λ g t v. found.0 (both only g t v))
  where
    both : HasNoOther bytes generation text → (g : ℕ) (t : List ℕ) → VerifiesAs bytes g t
        → VerifiesAs bytes generation text
    both only g t v = let (e, f) = only g t v in subst (λ (x : ℕ). VerifiesAs bytes x text) e
        (subst (λ (y : List ℕ). VerifiesAs bytes g y) f v)

-- a slot verifies as its start does
pub front_is : (bytes : List ℕ) (g : ℕ) (t : List ℕ) → VerifiesAs (take front bytes) g t → VerifiesAs bytes g t
front_is bytes g t v =
    let short = body_short (take front bytes) g t v in
    let within : 44 + length t ≤ front = omega (arith, short) in
    verifies_alike (44 + length t) (take front bytes) bytes g t (omega arith)
    (take-take (44 + length t) front bytes within) v

pub is_front : (bytes : List ℕ) (g : ℕ) (t : List ℕ) → VerifiesAs bytes g t → VerifiesAs (take front bytes) g t
is_front bytes g t v =
    let short = body_short bytes g t v in
    verifies-take front bytes g t (omega (arith, short)) v

-- the start of a slot says what the slot holds
pub front_tells : (found : Found) (bytes : List ℕ) (generation : ℕ) (text : List ℕ)
    → IsFoundInSlot found (take front bytes) generation text → IsFoundInSlot found bytes generation text
front_tells Nothing bytes generation text blank = λ g t v. blank g t (is_front bytes g t v)
front_tells Wanted bytes generation text v = front_is bytes generation text v
front_tells Another bytes generation text found =
    ((λ v. found.0 (is_front bytes generation text v)), (λ blank. found.1 (λ g t v. blank g t (front_is bytes g t v))))

-- what was read is the start
pub read_is : (n len : ℕ) (out file : List ℕ) → len ≡ front → n ≡ min len (length file - 0)
    → take n out ≡ take n (drop 0 file)
    → take n out ≡ take front file
read_is n len out file long count same = same ∙ ⊎_elim
    (λ small.
    let all : length file ≤ n = omega (arith, count, long, small) in
    take_all n file all ∙ sym (take_all front file (omega (arith, small))))
    (λ large.
    let e : n ≡ front = omega (arith, count, long, large) in
    ap (λ (k : ℕ). take k file) e)
    (cases_lt (length file) front)

-- a text that is not the wanted one
pub another : (bytes : List ℕ) (g h : ℕ) (text body : List ℕ) → VerifiesAs bytes h body
    → (nat_eq h g && bytes_eq body text) ≡ false
    → ¬ (VerifiesAs bytes g text) × ¬ (IsBlank bytes)
another bytes g h text body v differs = (
  (λ w.
      let same = verifies_once bytes h g body text v w in
      let one : nat_eq h g ≡ true = eq-eqb h g same.0 in
      let two : bytes_eq body text ≡ true = (bytes_eq-Decides body text).1 same.1 in
      cc),
  (λ blank. blank h body v),
)

-- what is so at the start of each turn of the loop that chooses
pub record IsChoosing (pick : Pick) (chosen : List Bool) (told : Bool) (start now : Medium)
    (place : Place) (parity k generation : ℕ) (text : List ℕ) : Type 0 where
  pub long : length chosen ≡ 8
  pub picks : IsTrue told → (copy : ℕ) → copy < k → Tells pick (get_or chosen copy false)
      (start.image (slot place copy parity)) generation text
  pub reads : OnlyReads start now
  pub time : Elapses start now
  pub passes : now.faults ≡ start.faults

chooses : (pick : Pick) (chosen : List Bool) (image start : Image) (place : Place) (parity k generation : ℕ)
    (text : List ℕ) (found : Found)
    → length chosen ≡ 8 → k < 8 → image ≡ start
    → ((copy : ℕ) → copy < k → Tells pick (get_or chosen copy false) (start (slot place copy parity)) generation text)
    → IsFoundInSlot found (image (slot place k parity)) generation text
    → (copy : ℕ) → copy < k + 1 → Tells pick (get_or (set chosen k (matches_pick pick found)) copy false)
    (start (slot place copy parity)) generation text
chooses pick chosen image start place parity k generation text found long lt same before here copy below = ⊎_elim
    (λ earlier. subst (λ (b : Bool). Tells pick b (start (slot place copy parity)) generation text)
    (sym (get_or-set_other chosen k copy (matches_pick pick found) false (λ e. omega (arith, e, earlier))))
    (before copy earlier))
    (λ last.
    let e : copy ≡ k = omega (arith, last, below) in
    subst (λ (x : ℕ). Tells pick (get_or (set chosen k (matches_pick pick found)) x false) (start (slot place x parity))
    generation text) (sym e)
    (subst (λ (b : Bool). Tells pick b (start (slot place k parity)) generation text)
    (sym (get_or-set_same chosen k (matches_pick pick found) false (omega (arith, long, lt))))
    (told_by pick found (start (slot place k parity)) generation text
    (subst (λ (im : Image). IsFoundInSlot found (im (slot place k parity)) generation text) same here))))
    (cases_lt copy k)

-- one turn of the loop
pub chooses_on : {told : Bool} {start mid new : Medium} (pick : Pick) (chosen : List Bool)
    (place : Place) (parity k generation : ℕ) (text : List ℕ) (found : Found) (b : Bool) (file : ℕ)
    → k < 8 → b ≡ matches_pick pick found → file ≡ slot place k parity
    → IsChoosing pick chosen told start mid place parity k generation text
    → (IsTrue told → IsFoundInSlot found (mid.image file) generation text) → OnlyReads mid new → Elapses mid new
    → new.faults ≡ mid.faults
    → IsChoosing pick (set chosen k b) told start new place parity (k + 1) generation text
chooses_on {told} {start} {mid} {new} pick chosen place parity k generation text found b file lt flag is w here reads
    time passed = record {
      long = length-set chosen k b ∙ w.long;
      picks = λ tells. subst (λ (x : Bool). (copy : ℕ) → copy < k + 1
          → Tells pick (get_or (set chosen k x) copy false) (start.image (slot place copy parity)) generation text)
          (sym flag)
          (chooses pick chosen mid.image start.image place parity k generation text found w.long lt w.reads.image
          (w.picks tells)
          (subst (λ (f : ℕ). IsFoundInSlot found (mid.image f) generation text) is (here tells)));
      reads = reads_on w.time w.reads time reads;
      time = elapses_on w.time time;
      passes = passed ∙ w.passes;
    }
