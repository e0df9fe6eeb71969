-- What calls change that do nothing, or that only read before others go on.
use Rattle.std.proofs.Common.{◌≡◌, ◌∙◌, ℕ, ◌+◌, ◌*◌, ◌≤◌, List, length, Bool, IsTrue, Some, refl, sym, ap, subst, arith}
use Rattle.hash_guard.specs.SealedText.{header, sealed}
use Rattle.disk_model.specs.Image.{Image}
use Rattle.disk_model.specs.Medium.{Medium, Quiet, IsIdle, IsLawful, Elapses, OnlyReads, EachCase}
use Rattle.disk_model.specs.declared.place.Place.{Place}
use Rattle.disk_model.specs.Laws.{elapses_none, elapses_on, reads_none, reads_quiet}
use Rattle.guarded_cell.specs.declared.looking.Seen.{Seen}
use Rattle.guarded_cell.specs.Held.{standing}
use Rattle.guarded_cell.specs.Register.{IsAlone, own}
use Rattle.guarded_cell.specs.Differing.{texts_cost}
use Rattle.guarded_cell.specs.Seens.{IsSealable}
use Rattle.guarded_cell.specs.Stops.{PutStops, KeepStops, FormatStops}
use Rattle.guarded_cell.specs.Changes.{Brings, Clears, FormatsRegister, OpensRegister}
use Rattle.guarded_cell.proofs.Putting.{none_alone, reads_alone, reads_then, still_stops}
use Rattle.guarded_cell.proofs.Blanked.{keep_still}
use Rattle.guarded_cell.proofs.Anew.{format_still}
use Rattle.guarded_cell.proofs.Sparing.{right_since, clear_since, right_for}
use Rattle.guarded_cell.proofs.Opened.{open_still, open_later, opened_most}

-- ---- every copy is brought to a text

module _ {told : Bool} {place : Place} {generation : ℕ} {text : List ℕ} where
  pub brings_reads : {old new : Medium} → Elapses old new → OnlyReads old new
      → Brings told place generation text old new
  brings_reads {old} {new} time reads = record {
    puts = record {
      elsewhere = λ tells f is_not. ap (λ (im : Image). im f) reads.image;
      any_moment = λ tells quiet. reads_alone (PutStops place generation text old.image) old new
          quiet reads (still_stops place generation text old.image);
      written = omega (arith, reads.written);
      differing = λ tells. omega (arith, reads.written);
      time = time;
    };
    right = λ tells f is_right. ap (λ (im : Image). im f) reads.image;
    already = λ tells alone. reads.written;
  }

  pub brings_none : {m : Medium} → IsLawful told m → Brings told place generation text m m
  brings_none law = brings_reads (elapses_none law) (reads_none law)

  pub brings_later : {old mid new : Medium} → Elapses old mid → OnlyReads old mid
      → Brings told place generation text mid new → Brings told place generation text old new
  brings_later {old} {mid} {new} time reads brings = record {
    puts = record {
      elsewhere = λ tells f is_not. brings.puts.elsewhere tells f is_not ∙ ap (λ (im : Image). im f) reads.image;
      any_moment = λ tells quiet. reads_then (PutStops place generation text old.image) old mid new
          quiet time reads brings.puts.time (still_stops place generation text old.image)
          (subst (λ (im : Image). EachCase (PutStops place generation text im) mid new) reads.image
          (brings.puts.any_moment tells (reads_quiet quiet reads)));
      written = subst (λ (n : ℕ). new.written ≤ n + place.copies * (header + length text + header)) reads.written
          brings.puts.written;
      differing = λ tells. subst (λ (n : ℕ). new.written ≤ n
          + texts_cost place (own generation) (sealed generation text) old.image place.copies + place.copies * header)
          reads.written
          (subst (λ (im : Image). new.written ≤ mid.written
          + texts_cost place (own generation) (sealed generation text) im place.copies + place.copies * header)
          reads.image (brings.puts.differing tells));
      time = elapses_on time brings.puts.time;
    };
    right = λ tells. right_since place generation text old.image mid.image new.image reads.image
        (brings.right tells);
    already = λ tells alone. brings.already tells
        (subst (λ (im : Image). IsAlone im place generation text) (sym reads.image) alone)
        ∙ reads.written;
  }

-- ---- every other text is taken away

module _ {told : Bool} {place : Place} {generation : ℕ} {text : List ℕ} where
  pub clears_reads : {old new : Medium} → Elapses old new → OnlyReads old new
      → Clears told place generation text old new
  clears_reads {old} {new} time reads = record {
    elsewhere = λ tells f is_not. ap (λ (im : Image). im f) reads.image;
    right = λ tells f is_clear. ap (λ (im : Image). im f) reads.image;
    any_moment = λ tells quiet. reads_alone (KeepStops place generation text old.image) old new quiet
        reads (keep_still place generation text old.image);
    written = omega (arith, reads.written);
    time = time;
  }

  pub clears_none : {m : Medium} → IsLawful told m → Clears told place generation text m m
  clears_none law = clears_reads (elapses_none law) (reads_none law)

  pub clears_later : {old mid new : Medium} → Elapses old mid → OnlyReads old mid
      → Clears told place generation text mid new → Clears told place generation text old new
  clears_later {old} {mid} {new} time reads clears = record {
    elsewhere = λ tells f is_not. clears.elsewhere tells f is_not ∙ ap (λ (im : Image). im f) reads.image;
    right = λ tells. clear_since place generation text old.image mid.image new.image reads.image
        (clears.right tells);
    any_moment = λ tells quiet. reads_then (KeepStops place generation text old.image) old mid new
        quiet time reads clears.time (keep_still place generation text old.image)
        (subst (λ (im : Image). EachCase (KeepStops place generation text im) mid new) reads.image
        (clears.any_moment tells (reads_quiet quiet reads)));
    written = subst (λ (n : ℕ). new.written ≤ n + place.copies * (header + header)) reads.written clears.written;
    time = elapses_on time clears.time;
  }

-- ---- a register is formatted

pub formats_none : {told : Bool} {place : Place} {text : List ℕ} {m : Medium} → IsLawful told m
    → FormatsRegister told place text m m
formats_none {told} {place} {text} {m} law = record {
  elsewhere = λ tells f is_not. refl;
  any_moment = λ tells quiet. none_alone (FormatStops place 1 text m.image) told m law quiet
      (format_still place place.few text m.image);
  written = omega arith;
  time = elapses_none law;
}

-- ---- a register is opened

module _ {told : Bool} {place : Place} {m : ℕ} where
  -- nothing stands, or it is not known yet
  pub opens_idle : {old new : Medium} → Elapses old new → new.image ≡ old.image → new.written ≡ old.written
      → (Quiet old → IsIdle old new) → OpensRegister told place m old new
  opens_idle {old} {new} time image written idle = record {
    elsewhere = λ tells f is_not. ap (λ (im : Image). im f) image;
    right = λ tells f is_right. ap (λ (im : Image). im f) image;
    any_moment = λ tells quiet c past. open_still place m old.image c ((idle quiet).during c past);
    at_most = omega (arith, written);
    time = time;
  }

  -- every copy is brought to what stands
  pub opens_later : {old mid new : Medium} {seen : Seen} → Elapses old mid → mid.image ≡ old.image
      → mid.written ≡ old.written → (Quiet old → IsIdle old mid) → IsSealable seen
      → (IsTrue told → standing old.image place m ≡ Some seen)
      → Brings told place seen.generation seen.text mid new → OpensRegister told place m old new
  opens_later {old} {mid} {new} {seen} time image written idle sealable stands brings = record {
    elsewhere = λ tells f is_not. brings.puts.elsewhere tells f is_not ∙ ap (λ (im : Image). im f) image;
    right = λ tells. right_for (standing old.image place m) seen place old.image
        new.image (stands tells) (right_since place seen.generation seen.text old.image mid.image
        new.image image (brings.right tells));
    any_moment = λ tells quiet. open_later place m old mid new seen time brings.puts.time
        (idle quiet) (stands tells) (brings.puts.any_moment tells (idle quiet).quiet);
    at_most = opened_most place.copies (length seen.text) old.written mid.written new.written written sealable.short
        brings.puts.written;
    time = elapses_on time brings.puts.time;
  }
