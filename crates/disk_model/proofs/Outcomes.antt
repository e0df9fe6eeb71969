-- What a crash of a disk in memory leaves is one of its cases.
use Rattle.std.proofs.Common.{◌≡◌, ℕ, suc, ◌+◌, ◌-◌, max, Bool, true, false, cond, List, [], ◌∷◌, ◌++◌, length, take}
use Rattle.std.proofs.Common.{drop, replicate, refl, sym, ap, ◌∙◌, subst, le_of_eq, take_all, length-drop, arith}
use Rattle.std.proofs.Common.{eq-eqb, ne_eqb, if◌then◌else◌}
use Rattle.std.specs.Prelude.{◌==◌}
use Rattle.std.proofs.lemmas.List.{length-append, length-replicate}
use Rattle.disk_model.specs.declared.history.Call.{Call}
use Rattle.disk_model.specs.declared.history.Call.TheVariants.{Write, Sync, Read}
use Rattle.disk_model.specs.Image.{Image, end_of, put_bytes, put_image, Torn, TornImage}
use Rattle.disk_model.specs.Case.{Case, IsSettledAt}
use Rattle.disk_model.specs.Written.{read_padded, put_tears, length-put_bytes}
use Rattle.disk_model.specs.History.{image_after, base_after, pending_after, cases_after, torn_after, stands, grown}
use Rattle.disk_model.specs.History.{grow_image}
use Rattle.disk_model.specs.Medium.{IsOutcome}
use Rattle.disk_model.specs.declared.memory.MemDisk.{MemDisk}
use Rattle.disk_model.specs.History.{image_of, start_image}
use Rattle.disk_model.specs.HistoryLaws.{record_is_lawful}
use Rattle.disk_model.specs.Memory.{mem_medium, synced_image, torn_image}
use Rattle.disk_model.proofs.Answering.{same_torn}

-- ---- none of the writes since the last sync

-- a case in which no write since the last sync stands
pub record NoneCase (cases : Case → Type 0) (base image : Image) : Type 0 where
  pub case : Case
  pub possible : cases case
  pub base_is : case.base ≡ base
  pub full_is : case.full ≡ image
  pub left_is : case.left ≡ base

pub none_stand : (calls : List Call) (cases : Case → Type 0) (base image : Image) → NoneCase cases base image
    → NoneCase (cases_after calls cases) (base_after calls base image) (image_after calls image)
none_stand [] cases base image start = start
none_stand (Write file at bytes ∷ calls) cases base image start =
    let full : Image = put_image start.case.full file at bytes.items in
    none_stand calls _ base (put_image image file at bytes.items) (record {
      case = record { base = start.case.base; full = full; left = start.case.left };
      possible = (
        start.case,
        start.possible,
        record {
          base = refl;
          full = refl;
          left =
              same_torn start.case.left start.case.left file at (length bytes.items) refl;
        },
      );
      base_is = start.base_is;
      full_is = ap (λ i. put_image i file at bytes.items) start.full_is;
      left_is = start.left_is;
    })
none_stand (Sync ∷ calls) cases base image start =
    let full : Image = start.case.full in
    none_stand calls _ image image (record {
      case = record { base = full; full = full; left = full };
      possible = (start.case, start.possible, record { base = refl; full = refl; left = refl });
      base_is = start.full_is;
      full_is = start.full_is;
      left_is = start.full_is;
    })
none_stand (Read ∷ calls) cases base image start = none_stand calls cases base image start

-- ---- those that a pattern lets stand

-- how many of the calls are writes
abbrev pub writes_in : List Call → ℕ
writes_in [] = 0
writes_in (Write file at bytes ∷ calls) = suc (writes_in calls)
writes_in (Sync ∷ calls) = writes_in calls
writes_in (Read ∷ calls) = writes_in calls

pub torn_after-append : (pattern i : ℕ) (xs ys : List Call) (image : Image)
    → torn_after pattern i (xs ++ ys) image ≡ torn_after pattern (i + writes_in xs) ys (torn_after pattern i xs image)
torn_after-append pattern i [] ys image = let e : i ≡ i + 0 = omega arith in ap (λ k. torn_after pattern k ys image) e
torn_after-append pattern i (Write file at bytes ∷ xs) ys image =
    let next : Image = if stands pattern i then put_image image file at bytes.items else grow_image image file
    (end_of at (length bytes.items)) in
    let e : suc i + writes_in xs ≡ i + suc (writes_in xs) = omega arith in
    torn_after-append pattern (suc i) xs ys next ∙ ap (λ k.
    torn_after pattern k ys (torn_after pattern (suc i) xs next)) e
torn_after-append pattern i (Sync ∷ xs) ys image = torn_after-append pattern i xs ys image
torn_after-append pattern i (Read ∷ xs) ys image = torn_after-append pattern i xs ys image

-- a file that was only lengthened is one way to tear a write
pub grow_tears : (image : Image) (file at n : ℕ) → TornImage file at n image (grow_image image file (end_of at n))
grow_tears image file at n =
    let end = end_of at n in
    let old = image file in
    let len : length (grown old end) ≡ max (length old) end =
    omega (arith, length-append old (replicate (end - length old) 0), length-replicate {A = ℕ} (end - length old) 0)
    in
    let torn : Torn at n old (grown old end) = record {
      kept = λ i inside outside. read_padded old (end - length old) i;
      no_shorter = omega (arith, len);
      no_longer = omega (arith, len);
    } in
    record {
      others = λ f other. subst (λ b. cond b (grown (image f) end) (image f) ≡ image f) (sym (ne_eqb f file other))
          refl;
      torn = subst (λ b. Torn at n old (cond b (grown old end) old)) (sym (eq-eqb file file refl)) torn;
    }

-- a write that stands, or one that only lengthens its file, is one way to tear it
pub either_tears : (b : Bool) (image : Image) (file at : ℕ) (bytes : List ℕ) → TornImage file at (length bytes) image
    (if b then put_image image file at bytes else grow_image image file (end_of at (length bytes)))
either_tears true image file at bytes = put_tears image file at bytes
either_tears false image file at bytes = grow_tears image file at (length bytes)

long_put : (image : Image) (file at : ℕ) (bytes : List ℕ) (f : ℕ)
    → length (put_image image file at bytes f) ≡ (if f == file then max (length (image f)) (end_of at (length bytes))
    else length (image f))
long_put image file at bytes f =
    elim (f == file) as (λ b. length (cond b (put_bytes (image f) at bytes) (image f))
    ≡ cond b (max (length (image f)) (end_of at (length bytes))) (length (image f)))
    [ true ↦ length-put_bytes (image f) at bytes | false ↦ refl ]

long_grow : (image : Image) (file end f : ℕ)
    → length (grow_image image file end f) ≡ (if f == file then max (length (image f)) end else length (image f))
long_grow image file end f =
    let len : length (grown (image f) end) ≡ max (length (image f)) end =
    omega (
      arith,
      length-append (image f) (replicate (end - length (image f)) 0),
      length-replicate {A = ℕ} (end - length (image f)) 0,
    ) in
    elim (f == file) as (λ b. length (cond b (grown (image f) end) (image f))
    ≡ cond b (max (length (image f)) end) (length (image f)))
    [ true ↦ len | false ↦ refl ]

-- both make the file as long
pub either_long : (b : Bool) (image full : Image) (file at : ℕ) (bytes : List ℕ)
    → ((f : ℕ) → length (image f) ≡ length (full f)) → (f : ℕ)
    → length ((if b then put_image image file at bytes else grow_image image file (end_of at (length bytes))) f)
    ≡ length (put_image full file at bytes f)
either_long true image full file at bytes long f =
    long_put image file at bytes f ∙ ap (λ n. if f == file then max n (end_of at (length bytes)) else n) (long f)
    ∙ sym (long_put full file at bytes f)
either_long false image full file at bytes long f =
    long_grow image file (end_of at (length bytes)) f ∙ ap
    (λ n. if f == file then max n (end_of at (length bytes)) else n) (long f) ∙ sym (long_put full file at bytes f)

-- a case in which those of the pending writes stand that the pattern says
pub record TornCase (pattern : ℕ) (cases : Case → Type 0) (base image : Image) (pending : List Call) : Type 0 where
  pub case : Case
  pub possible : cases case
  pub full_is : case.full ≡ image
  pub left_is : case.left ≡ torn_after pattern 0 pending base
  pub long : (f : ℕ) → length (case.left f) ≡ length (image f)

pub some_stand : (pattern : ℕ) (calls : List Call) (cases : Case → Type 0) (base image : Image) (pending : List Call)
    → TornCase pattern cases base image pending
    → TornCase pattern (cases_after calls cases) (base_after calls base image) (image_after calls image)
    (pending_after calls pending)
some_stand pattern [] cases base image pending start = start
some_stand pattern (Write file at bytes ∷ calls) cases base image pending start =
    let b : Bool = stands pattern (0 + writes_in pending) in
    let torn : Image → Image = λ i. if b then put_image i file at bytes.items else grow_image i file
    (end_of at (length bytes.items)) in
    let full : Image = put_image start.case.full file at bytes.items in
    some_stand pattern calls _ base (put_image image file at bytes.items) (pending ++ Write file at bytes ∷ [])
    (record {
      case = record { base = start.case.base; full = full; left = torn start.case.left };
      possible = (
        start.case,
        start.possible,
        record {
          base = refl;
          full = refl;
          left =
              either_tears b start.case.left file at bytes.items;
        },
      );
      full_is = ap (λ i. put_image i file at bytes.items) start.full_is;
      left_is = ap torn start.left_is ∙ sym (torn_after-append pattern 0 pending (Write file at bytes ∷ []) base);
      long = either_long b start.case.left image file at bytes.items start.long;
    })
some_stand pattern (Sync ∷ calls) cases base image pending start =
    let full : Image = start.case.full in
    some_stand pattern calls _ image image [] (record {
      case = record { base = full; full = full; left = full };
      possible = (start.case, start.possible, record { base = refl; full = refl; left = refl });
      full_is = start.full_is;
      left_is = start.full_is;
      long = λ f. ap (λ i. length (i f)) start.full_is;
    })
some_stand pattern (Read ∷ calls) cases base image pending start =
    some_stand pattern calls cases base image (pending ++ Read ∷ []) (record {
      case = start.case;
      possible = start.possible;
      full_is = start.full_is;
      left_is = start.left_is ∙ sym (torn_after-append pattern 0 pending (Read ∷ []) base);
      long = start.long;
    })

-- ---- crashes of a disk in memory

-- what reads give is an outcome
pub kept : (disk : MemDisk) (image : Image) → image ≡ (mem_medium disk).image → IsOutcome (mem_medium disk) image
kept disk image is =
    let law = record_is_lawful (image_of disk.files) (start_image disk.files disk.start) disk.calls.items
    disk.orders.faults disk.written disk.tied in
    subst (IsOutcome (mem_medium disk)) (sym is) (law.reads_one refl)

-- what reads gave after the last sync is an outcome
pub lost : (disk : MemDisk) (image : Image) → image ≡ synced_image disk → IsOutcome (mem_medium disk) image
lost disk image is =
    let start = start_image disk.files disk.start in
    let settled : Case = record { base = start; full = start; left = start } in
    let none = none_stand disk.calls.items (IsSettledAt start) start start (record {
      case = settled;
      possible = record { base = refl; full = refl; left = refl };
      base_is = refl;
      full_is = refl;
      left_is = refl;
    }) in
    (none.case, none.possible, none.left_is ∙ sym is)

-- the case of a pattern
pub torn : (disk : MemDisk) (pattern : ℕ) → TornCase pattern (mem_medium disk).now (synced_image disk)
    (image_after disk.calls.items (start_image disk.files disk.start)) (pending_after disk.calls.items [])
torn disk pattern =
    let start = start_image disk.files disk.start in
    let settled : Case = record { base = start; full = start; left = start } in
    some_stand pattern disk.calls.items (IsSettledAt start) start start [] (record {
      case = settled;
      possible = record { base = refl; full = refl; left = refl };
      full_is = refl;
      left_is = refl;
      long = λ f. refl;
    })

pub torn_outcome : (disk : MemDisk) (pattern : ℕ) (image : Image) → image ≡ torn_image disk pattern
    → IsOutcome (mem_medium disk) image
torn_outcome disk pattern image is = let case = torn disk pattern in (case.case, case.possible, case.left_is ∙ sym is)

-- every file is as long as all the writes make it
pub torn_long : (disk : MemDisk) (pattern : ℕ) (image : Image) → image ≡ torn_image disk pattern → (f : ℕ)
    → length (image f) ≡ length ((mem_medium disk).image f)
torn_long disk pattern image is f = let case = torn disk pattern in
    ap (λ i. length (i f)) (is ∙ sym case.left_is) ∙ case.long f ∙ sym (ap (λ i. length (i f)) disk.tied)

-- the calls up to the last sync, made again, give what reads gave after it
pub stable_image : (calls xs ys : List Call) (n : ℕ) (start begun image : Image) → xs ≡ calls → ys ≡ calls
    → begun ≡ start
    → ((i : Image) → base_after ys i i ≡ image_after (take n ys) i) → image ≡ image_after (take n xs) begun
    → image ≡ base_after calls start start
stable_image calls xs ys n start begun image is_xs is_ys is_begun base is =
    is ∙ ap (image_after (take n xs)) is_begun ∙ ap (λ cs. image_after (take n cs) start) (is_xs ∙ sym is_ys)
    ∙ sym (base start) ∙ ap (λ cs. base_after cs start start) is_ys

-- and the others after them, as far as the pattern lets them stand
pub torn_is : (pattern : ℕ) (calls ys zs : List Call) (n : ℕ) (stable base image : Image) → ys ≡ calls → zs ≡ calls
    → stable ≡ base
    → pending_after ys [] ≡ drop n ys → image ≡ torn_after pattern 0 (take (length zs - n) (drop n zs)) stable
    → image ≡ torn_after pattern 0 (pending_after calls []) base
torn_is pattern calls ys zs n stable base image is_ys is_zs is_stable pending is =
    is ∙ ap (λ cs. torn_after pattern 0 cs stable) (take_all (length zs - n) (drop n zs) (le_of_eq (length-drop n zs)))
    ∙ ap (torn_after pattern 0 (drop n zs)) is_stable ∙ ap (λ cs. torn_after pattern 0 (drop n cs) base)
    (is_zs ∙ sym is_ys)
    ∙ ap (λ cs. torn_after pattern 0 cs base) (sym pending ∙ ap (λ cs. pending_after cs []) is_ys)
