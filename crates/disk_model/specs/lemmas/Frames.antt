-- Frames of writes: none, one, and one after another.
use Rattle.std.specs.Prelude.{slice_index}
use Rattle.std.proofs.Common.{◌≡◌, ◌≢◌, ◌⊎◌, ℕ, ◌+◌, ◌*◌, ◌<◌, ◌≤◌, List, length, refl, sym, ap, ◌∙◌, subst, inl, inr}
use Rattle.std.proofs.Common.{⊎_elim, le_refl, le_trans, le_of_eq, arith}
use Rattle.std.proofs.lemmas.Bool.{cases_lt, cases_eq}
use Rattle.disk_model.specs.Image.{Image, put_image, TornImage}
use Rattle.disk_model.specs.Case.{Case, IsSettledAt, WriteCase, WriteOrNot}
use Rattle.disk_model.specs.Frame.{Spares, IsSettledOn, Keeps, Tears, KeepsCase}
use Rattle.disk_model.specs.Written.{put_outside, put_image_here, put_tears}

-- ---- none, one after another, and fewer files or blocks

pub keeps_none : {spared apart : ℕ → Type 0} (image : Image) → Keeps spared apart image image
keeps_none image = record { files = λ f spared. refl; bytes = λ f k j inside apart. refl; no_shorter = λ f. le_refl _ }

pub keeps_on : {spared apart : ℕ → Type 0} {a b c : Image} → Keeps spared apart a b → Keeps spared apart b c
    → Keeps spared apart a c
keeps_on first next = record {
  files = λ f is. next.files f is ∙ first.files f is;
  bytes = λ f k j inside is. next.bytes f k j inside is ∙ first.bytes f k j inside is;
  no_shorter = λ f. le_trans (first.no_shorter f) (next.no_shorter f);
}

pub keeps_less : {spared apart spared' apart' : ℕ → Type 0} {old new : Image} → ((f : ℕ) → spared' f → spared f)
    → ((k : ℕ) → apart' k → apart k)
    → Keeps spared apart old new → Keeps spared' apart' old new
keeps_less files blocks keeps = record {
  files = λ f is. keeps.files f (files f is);
  bytes = λ f k j inside is. keeps.bytes f k j inside (blocks k is);
  no_shorter = keeps.no_shorter;
}

pub keeps_tears : {spared apart : ℕ → Type 0} {old new : Image} → Keeps spared apart old new
    → Tears spared apart old new
keeps_tears keeps = record {
  files = keeps.files;
  bytes =
      λ f k j inside is within. keeps.bytes f k j inside is;
  no_shorter = keeps.no_shorter;
}

pub tears_none : {spared apart : ℕ → Type 0} (image : Image) → Tears spared apart image image
tears_none image = keeps_tears (keeps_none image)

pub tears_on : {spared apart : ℕ → Type 0} {a b c : Image} → Tears spared apart a b → Tears spared apart b c
    → Tears spared apart a c
tears_on first next = record {
  files = λ f is. next.files f is ∙ first.files f is;
  bytes = λ f k j inside is within. next.bytes f k j inside is (le_trans within (first.no_shorter f))
      ∙ first.bytes f k j inside is within;
  no_shorter = λ f. le_trans (first.no_shorter f) (next.no_shorter f);
}

pub tears_less : {spared apart spared' apart' : ℕ → Type 0} {old new : Image} → ((f : ℕ) → spared' f → spared f)
    → ((k : ℕ) → apart' k → apart k)
    → Tears spared apart old new → Tears spared' apart' old new
tears_less files blocks tears = record {
  files = λ f is. tears.files f (files f is);
  bytes = λ f k j inside is. tears.bytes f k j inside (blocks k is);
  no_shorter = tears.no_shorter;
}

pub case_none : {spared apart : ℕ → Type 0} (c : Case) → KeepsCase spared apart c c
case_none c = record { base = refl; full = keeps_none c.full; left = tears_none c.left }

pub case_on : {spared apart : ℕ → Type 0} {a b c : Case} → KeepsCase spared apart a b → KeepsCase spared apart b c
    → KeepsCase spared apart a c
case_on first next = record {
  base = next.base ∙ first.base;
  full = keeps_on first.full next.full;
  left =
      tears_on first.left next.left;
}

pub case_less : {spared apart spared' apart' : ℕ → Type 0} {old new : Case} → ((f : ℕ) → spared' f → spared f)
    → ((k : ℕ) → apart' k → apart k)
    → KeepsCase spared apart old new → KeepsCase spared' apart' old new
case_less files blocks keeps = record {
  base = keeps.base;
  full = keeps_less files blocks keeps.full;
  left =
      tears_less files blocks keeps.left;
}

-- ---- one write

-- the write is in no spared file and in no block apart
pub record IsWriteApart (spared apart : ℕ → Type 0) (file at n : ℕ) : Type 0 where
  pub files : (f : ℕ) → spared f → f ≢ file
  pub bytes : (k j : ℕ) → j < 256 → apart k → (256 * k + j < at) ⊎ (at + n ≤ 256 * k + j)

-- a write of whole files apart: no block is claimed
pub apart_file : (spared : ℕ → Type 0) (file at n : ℕ) → ((f : ℕ) → spared f → f ≢ file)
    → IsWriteApart spared (λ k. ⊥) file at n
apart_file spared file at n files = record { files = files; bytes = λ k j inside none. absurd none }

-- a write within one block
pub apart_block : (spared apart : ℕ → Type 0) (file block n : ℕ) → n ≤ 256 → ((f : ℕ) → spared f → f ≢ file)
    → ((k : ℕ) → apart k → k ≢ block)
    → IsWriteApart spared apart file (256 * block) n
apart_block spared apart file block n short files blocks = record {
  files = files;
  bytes = λ k j inside is.
      let other : k ≢ block = blocks k is in
      ⊎_elim (λ below. inl (omega arith)) (λ above. inr (omega arith)) (cases_lt k block);
}

-- what a whole write apart leaves alone, and one that was cut short
pub keeps_put : {spared apart : ℕ → Type 0} (image : Image) (file at : ℕ) (bytes : List ℕ)
    → IsWriteApart spared apart file at (length bytes)
    → Keeps spared apart image (put_image image file at bytes)
keeps_put image file at bytes is = let torn = put_tears image file at bytes in record {
  files = λ f spared. torn.others f (is.files f spared);
  bytes = λ f k j inside apart. ⊎_elim
      (λ same. subst (λ g. slice_index (put_image image file at bytes g) (256 * k + j)
      ≡ slice_index (image g) (256 * k + j)) (sym same)
      (ap (λ xs. slice_index xs (256 * k + j)) (put_image_here image file at bytes)
      ∙ put_outside (image file) at bytes (256 * k + j) (is.bytes k j inside apart)))
      (λ other. ap (λ xs. slice_index xs (256 * k + j)) (torn.others f other))
      (cases_eq f file);
  no_shorter = λ f. ⊎_elim
      (λ same. subst (λ g. length (image g) ≤ length (put_image image file at bytes g)) (sym same) torn.torn.no_shorter)
      (λ other. le_of_eq (ap length (sym (torn.others f other))))
      (cases_eq f file);
}

pub tears_torn : {spared apart : ℕ → Type 0} (old new : Image) (file at n : ℕ) → IsWriteApart spared apart file at n
    → TornImage file at n old new → Tears spared apart old new
tears_torn old new file at n is torn = record {
  files = λ f spared. torn.others f (is.files f spared);
  bytes = λ f k j inside apart within. ⊎_elim
      (λ same. subst (λ g. 256 * k + j < length (old g) → slice_index (new g) (256 * k + j)
      ≡ slice_index (old g) (256 * k + j)) (sym same)
      (λ short. torn.torn.kept (256 * k + j) short (is.bytes k j inside apart)) within)
      (λ other. ap (λ xs. slice_index xs (256 * k + j)) (torn.others f other))
      (cases_eq f file);
  no_shorter = λ f. ⊎_elim
      (λ same. subst (λ g. length (old g) ≤ length (new g)) (sym same) torn.torn.no_shorter)
      (λ other. le_of_eq (ap length (sym (torn.others f other))))
      (cases_eq f file);
}

-- the same from case to case, of a write, and of one that failed
pub case_write : {spared apart : ℕ → Type 0} {old new : Case} (file at : ℕ) (bytes : List ℕ)
    → IsWriteApart spared apart file at (length bytes)
    → WriteCase file at bytes old new → KeepsCase spared apart old new
case_write {spared} {apart} {old} {new} file at bytes is step = record {
  base = step.base;
  full = subst (Keeps spared apart old.full) (sym step.full) (keeps_put old.full file at bytes is);
  left = tears_torn old.left new.left file at (length bytes) is step.left;
}

pub case_or_not : {spared apart : ℕ → Type 0} (old new : Case) (file at : ℕ) (bytes : List ℕ)
    → IsWriteApart spared apart file at (length bytes)
    → WriteOrNot file at bytes old new → KeepsCase spared apart old new
case_or_not {spared} {apart} old new file at bytes is step =
    ⊎_elim (case_write file at bytes is) (λ same. subst (KeepsCase spared apart old) (sym same) (case_none old)) step

-- ---- files in which nothing is pending

-- a disk with nothing pending has nothing pending in any of its files
pub settled_on : (files : ℕ → Type 0) {image : Image} {c : Case} → IsSettledAt image c → IsSettledOn files image c
settled_on files settled = record {
  base = λ f is. ap (λ i. i f) settled.base;
  full = λ f is. ap (λ i. i f) settled.full;
  left = λ f is. ap (λ i. i f) settled.left;
}

-- what was settled at a later image is so at an earlier one, in files that did not change between
pub settled_before : {files : ℕ → Type 0} {old new : Image} {c : Case} → Spares files old new → IsSettledOn files new c
    → IsSettledOn files old c
settled_before same settled = record {
  base = λ f is. settled.base f is ∙ same f is;
  full = λ f is. settled.full f is ∙ same f is;
  left = λ f is. settled.left f is ∙ same f is;
}

-- and so it is in fewer files
pub settled_less : {files fewer : ℕ → Type 0} {image : Image} {c : Case} → ((f : ℕ) → fewer f → files f)
    → IsSettledOn files image c → IsSettledOn fewer image c
settled_less less settled = record {
  base = λ f is. settled.base f (less f is);
  full = λ f is. settled.full f (less f is);
  left = λ f is. settled.left f (less f is);
}

-- writes to other files leave them settled
pub settled_keeps : {spared apart : ℕ → Type 0} {image : Image} {old new : Case} → IsSettledAt image old
    → KeepsCase spared apart old new → IsSettledOn spared image new
settled_keeps settled keeps = record {
  base = λ f is. ap (λ i. i f) (keeps.base ∙ settled.base);
  full = λ f is. keeps.full.files f is ∙ ap (λ i. i f) settled.full;
  left = λ f is. keeps.left.files f is ∙ ap (λ i. i f) settled.left;
}
