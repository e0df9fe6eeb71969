-- An input that is read whole: one more piece, its end, and where it was cut.
use Rattle.std.proofs.Common.{ℕ, List, [], ◌++◌, length, take, ◌≡◌, ◌≤◌, ◌<◌, ◌+◌, refl, sym, ap, ◌∙◌, subst, arith}
use Rattle.std.proofs.Common.{Option, true, append-nil, length-append}
use Rattle.std.proofs.KnownBytes.{Consumes-kept, Consumes-trans}
use Rattle.std.proofs.lemmas.List.{length-take-le}
use Rattle.std.specs.Io.KnownBytes.{Consumes, IsAtEnd, Keeps}
use Rattle.per_run.specs.declared.endings.Ending.{Ending}
use Rattle.per_run.specs.declared.endings.Ending.TheVariants.{OutOfMemory, Source, TooLong}
use Rattle.per_run.specs.Jobs.{IsInputTaken}
use Rattle.per_run.specs.Steps.{Breaks, IsCut}
use Rattle.per_run.proofs.Inputs.{not_seen}

pub more_taken : (a b c : Option (List ℕ)) (whole piece next : List ℕ) → Consumes a b whole → Consumes b c piece
    → next ≡ whole ++ piece → Consumes a c next
more_taken a b c whole piece next so_far takes is =
    subst (Consumes a c) (sym is) (Consumes-trans a b c whole piece so_far takes)

-- it has the length of both
pub more_within : (whole next buffer : List ℕ) (count : ℕ) → next ≡ whole ++ take count buffer → count ≤ length buffer
    → length next ≡ length whole + count
more_within whole next buffer count is fits = ap length is ∙ length-append whole (take count buffer)
    ∙ ap (λ (n : ℕ). length whole + n) (length-take-le count buffer fits)

pub taken_whole : (a b c : Option (List ℕ)) (whole buffer : List ℕ) (count : ℕ) → Consumes a b whole
    → length whole < 67108864 → count ≡ 0 → Consumes b c (take count buffer) → IsAtEnd c → IsInputTaken a c whole true
taken_whole a b c whole buffer count so_far within none takes at_end =
    let nothing : Consumes b c [] = subst (λ (n : ℕ). Consumes b c (take n buffer)) none takes in
    record {
      takes = subst (Consumes a c) (append-nil whole) (Consumes-trans a b c whole [] so_far nothing);
      bound = omega (arith, within);
      end_seen = λ ended. (at_end, within);
    }

cut_short : (a b : Option (List ℕ)) (ending : Ending) (given : List ℕ) → Consumes a b given
    → length given ≤ 67108864 → IsCut ending (length given) → Breaks a b ending
cut_short a b why given takes within cut = record {
  given = given;
  taken = record { takes = takes; bound = within; end_seen = not_seen };
  cut = cut;
}

pub cut_by_source : (a b c : Option (List ℕ)) (whole : List ℕ) → Consumes a b whole → length whole < 67108864
    → Keeps b c → Breaks a c Source
cut_by_source a b c whole so_far within keeps =
    cut_short a c Source whole (Consumes-kept a b c whole so_far keeps) (omega (arith, within)) within

pub cut_at_limit : (a b : Option (List ℕ)) (whole : List ℕ) → Consumes a b whole → length whole ≤ 67108864
    → 67108864 ≤ length whole → Breaks a b TooLong
cut_at_limit a b whole so_far within least =
    cut_short a b TooLong whole so_far within (omega (arith, within, least))

-- there was no memory for a piece that was taken
pub cut_by_memory : (a b c : Option (List ℕ)) (whole buffer : List ℕ) (count : ℕ) → Consumes a b whole
    → Consumes b c (take count buffer) → count ≤ length buffer → length whole + count ≤ 67108864
    → Breaks a c OutOfMemory
cut_by_memory a b c whole buffer count so_far takes fits within =
    let both : length (whole ++ take count buffer) ≡ length whole + count =
    more_within whole (whole ++ take count buffer) buffer count refl fits in
    cut_short a c OutOfMemory (whole ++ take count buffer)
    (more_taken a b c whole (take count buffer) (whole ++ take count buffer) so_far takes refl)
    (omega (arith, both, within)) tt
