-- A text at one start, run by run: midway the slot holds no text.
use Rattle.std.proofs.Common.{◌≡◌, ℕ, zero, suc, ◌+◌, ◌-◌, ◌*◌, ◌<◌, min, List, ◌++◌, length, take, drop, replicate}
use Rattle.std.proofs.Common.{get_or, Bool, true, refl, sym, ap, ◌∙◌, subst, inl, inr, ⊎_elim, arith}
use Rattle.std.proofs.lemmas.List.{get_or-take, get_or_past, get_or-replicate, take_min}
use Rattle.std.specs.Str.{bytes_eq}
use Rattle.std.proofs.lemmas.List.Prefix.{front_from_reads}
use Rattle.std.proofs.lemmas.Bool.{cases_lt}
use Rattle.std.proofs.lemmas.Slice.Eq.{bytes_eq-Decides}
use Rattle.hash_guard.specs.SealedText.{VerifiesAs}
use Rattle.hash_guard.specs.Laws.{blank_never}
use Rattle.disk_model.specs.Image.{Image, put_bytes}
use Rattle.disk_model.specs.Written.{put_outside, put_image_here, put_image_elsewhere}
use Rattle.disk_model.specs.Case.{Case, WriteOrNot, Follows}
use Rattle.disk_model.specs.Medium.{Medium, Elapses, OnlyReads}
use Rattle.disk_model.specs.Laws.{cases_on}
use Rattle.changed_runs.specs.Parts.{HasNoFailedWrite, WritePart}
use Rattle.guarded_cell.specs.Register.{IsBlank}
use Rattle.guarded_cell.specs.Differing.{front_is_blank, FrontCase}

-- what reads as zeros where the header would be holds no text
pub zeros_hold_none : (slot : List ℕ) → ((i : ℕ) → i < 44 → get_or slot i 0 ≡ 0) → IsBlank slot
zeros_hold_none slot reads g t v =
    let long : length (replicate {A = ℕ} 44 0) ≡ 44 = refl in
    let is : slot ≡ replicate 44 0 ++ drop (length (replicate {A = ℕ} 44 0)) slot =
    front_from_reads 0 slot (replicate 44 0) (omega (arith, v.front.head, long))
    (λ i lt. reads i (omega (arith, lt, long)) ∙ sym (get_or-replicate 44 i 0 0 (omega (arith, lt, long)))) in
    blank_never (drop (length (replicate {A = ℕ} 44 0)) slot) g t (subst (λ (s : List ℕ). VerifiesAs s g t) is v)

pub blank_reads : (slot : List ℕ) → front_is_blank slot ≡ true → (i : ℕ) → i < 44 → get_or slot i 0 ≡ 0
blank_reads slot blank i small =
    let same : take 44 slot ≡ take (length slot) (replicate 44 0) =
    (bytes_eq-Decides (take 44 slot) (take (length slot) (replicate 44 0))).0 blank in
    ⊎_elim
    (λ inside. sym (get_or-take 44 slot i 0 small) ∙ ap (λ (xs : List ℕ). get_or xs i 0) same
    ∙ get_or-take (length slot) (replicate 44 0) i 0 inside ∙ get_or-replicate 44 i 0 0 small)
    (λ past. get_or_past slot i 0 past)
    (cases_lt i (length slot))

-- what a look at the start says
pub look_tells : (slot out : List ℕ) (count : ℕ) (blank : Bool)
    → blank ≡ bytes_eq (take count out) (take count (replicate 44 0)) → count ≡ min 44 (length slot - 0)
    → take count out ≡ take count slot → blank ≡ front_is_blank slot
look_tells slot out count blank is short same =
    let e : count ≡ min 44 (length slot) = omega arith in
    let f : count ≡ min (length slot) (length (replicate {A = ℕ} 44 0)) = omega arith in
    is ∙ ap (λ (xs : List ℕ). bytes_eq xs (take count (replicate 44 0)))
    (same ∙ ap (λ (n : ℕ). take n slot) e ∙ take_min 44 slot)
    ∙ ap (λ (xs : List ℕ). bytes_eq (take 44 slot) xs)
    (ap (λ (n : ℕ). take n (replicate {A = ℕ} 44 0)) f ∙ take_min (length slot) (replicate {A = ℕ} 44 0))

-- so it is after a write after the first run
pub behind_blank : (slot b : List ℕ) (j : ℕ) → front_is_blank slot ≡ true
    → IsBlank (put_bytes slot (0 + 256 * suc j) b)
behind_blank slot b j blank = zeros_hold_none (put_bytes slot (0 + 256 * suc j) b)
    (λ i small. put_outside slot (0 + 256 * suc j) b i (inl (omega arith)) ∙ blank_reads slot blank i small)

-- a write of the whole, or none, at a start
pub front_whole : (file : ℕ) (bytes : List ℕ) (old new : Case) → WriteOrNot file 0 bytes old new
    → FrontCase file bytes old new
front_whole file bytes old new (inl write) = record {
  base = write.base;
  front = inr (inl (old.full file, ap (λ (i : Image). i file) write.full ∙ put_image_here old.full file 0 bytes));
  full = λ f other. ap (λ (i : Image). i f) write.full ∙ put_image_elsewhere old.full file 0 bytes f other;
  left = λ f other. write.left.others f other;
}
front_whole file bytes old new (inr same) = record {
  base = ap (λ (c : Case). c.base) same;
  front = inl (ap (λ (c : Case). c.full file) same);
  full = λ f other. ap (λ (c : Case). c.full f) same;
  left = λ f other. ap (λ (c : Case). c.left f) same;
}

-- a write of the runs that differ, at a start that is blank
pub front_part : (file : ℕ) (bytes : List ℕ) (old new : Case) → front_is_blank (old.full file) ≡ true
    → WritePart file 0 bytes old new → FrontCase file bytes old new
front_part file bytes old new blank (zero, made) = record {
  base = made.base;
  front = inr (inl (old.full file, ap (λ (i : Image). i file) made.full ∙ put_image_here old.full file 0 bytes));
  full = λ f other. ap (λ (i : Image). i f) made.full ∙ put_image_elsewhere old.full file 0 bytes f other;
  left = λ f other. made.left.others f other;
}
front_part file bytes old new blank (suc j, made) = record {
  base = made.base;
  front = inr (inr (subst IsBlank
      (sym (ap (λ (i : Image). i file) made.full
      ∙ put_image_here old.full file (0 + 256 * suc j) (drop (256 * suc j) bytes)))
      (behind_blank (old.full file) (drop (256 * suc j) bytes) j blank)));
  full = λ f other. ap (λ (i : Image). i f) made.full
      ∙ put_image_elsewhere old.full file (0 + 256 * suc j) (drop (256 * suc j) bytes) f other;
  left = λ f other. made.left.others f other;
}

-- ---- after a look at the start

module _ (file : ℕ) (bytes : List ℕ) {old mid new : Medium} (reads : OnlyReads old mid) (time : Elapses old mid)
    (next : Elapses mid new) (whole : HasNoFailedWrite file old) where
  look_whole : HasNoFailedWrite file mid
  look_whole c now = whole c (reads.now c now) ∙ ap (λ (i : Image). i file) (sym reads.image)

  then_step : (P : Case → Case → Type 0) → ((d c : Case) → old.now d → P d c → FrontCase file bytes d c)
      → Follows P mid.now (new.since mid.moment) → Follows (FrontCase file bytes) old.now (new.since old.moment)
  then_step P leads steps c past = ⊎_elim
      (λ before. (c, reads.during c before, front_whole file bytes c c (inr refl)))
      (λ later. let (d, now, step) = steps c later in (d, reads.now d now, leads d c (reads.now d now) step))
      (cases_on time next c past)

  pub then_whole : Follows (WriteOrNot file 0 bytes) mid.now (new.since mid.moment)
      → Follows (FrontCase file bytes) old.now (new.since old.moment)
  then_whole = then_step (WriteOrNot file 0 bytes) (λ d c was step. front_whole file bytes d c step)

  pub then_part : front_is_blank (old.image file) ≡ true
      → (HasNoFailedWrite file mid → Follows (WritePart file 0 bytes) mid.now (new.since mid.moment))
      → Follows (FrontCase file bytes) old.now (new.since old.moment)
  then_part blank steps = then_step (WritePart file 0 bytes)
      (λ d c was step. front_part file bytes d c
      (ap front_is_blank (whole d was) ∙ blank) step) (steps look_whole)
