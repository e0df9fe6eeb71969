-- The input as a whole: what was taken of it, and what came of it.
use Rattle.std.proofs.Common.{ℕ, List, [], ◌++◌, length, take, ◌≡◌, ◌≤◌, ◌<◌, ◌+◌, ◌^◌, ◌⊎◌, inl, inr, refl, ◌∙◌, ap}
use Rattle.std.proofs.Common.{subst, arith, Option, Bool, true, false, append-nil, length-append}
use Rattle.std.proofs.KnownBytes.{Consumes-trans, Consumes-kept, Consumes-nil, Appends-nil}
use Rattle.std.proofs.lemmas.List.{length-take-le}
use Rattle.std.specs.Io.KnownBytes.{Consumes, IsAtEnd, Keeps}
use Rattle.disk_model.specs.Medium.{Medium}
use Rattle.run_model.specs.AppLaws.{AppLaws}
use Rattle.run_model.specs.Converters.{Converters}
use Rattle.run_model.specs.Endings.{IsInput}
use Rattle.run_model.specs.Lines.{lines_of}
use Rattle.run_model.specs.Runtimes.{Memory}
use Rattle.per_run.specs.declared.endings.Ending.{Ending}
use Rattle.per_run.specs.declared.endings.Ending.TheVariants.{AllRead, EndLine, BadLine, OutOfMemory, Source, Sink}
use Rattle.per_run.specs.declared.endings.Ending.TheVariants.{TooLong}
use Rattle.per_run.specs.Steps.{Course, Handled, IsBroken, RanOverInput, Reached, ending_of, reading}
use Rattle.per_run.proofs.Courses.{course_source, course_long, course_memory}
use Rattle.per_run.proofs.Splits.{lines_whole}
use Rattle.per_run.proofs.Settings.{setting}

source_apart : Source ≡ AllRead → ⊥
source_apart is = cc

long_apart : TooLong ≡ AllRead → ⊥
long_apart is = cc

input_true : (ending : Ending) (count : ℕ) → (ending ≡ AllRead) ⊎ IsBroken ending
    → IsInput (ending_of ending) true count
input_true AllRead count inner = refl
input_true EndLine count inner = tt
input_true BadLine count inner = tt
input_true OutOfMemory count inner = tt
input_true Source count (inl is) = absurd (source_apart is)
input_true Source count (inr broken) = absurd broken
input_true Sink count inner = tt
input_true TooLong count (inl is) = absurd (long_apart is)
input_true TooLong count (inr broken) = absurd broken

input_false : (ending : Ending) (count : ℕ) → IsBroken ending → IsInput (ending_of ending) false count
input_false AllRead count broken = absurd broken
input_false EndLine count broken = tt
input_false BadLine count broken = tt
input_false OutOfMemory count broken = tt
input_false Source count broken = absurd broken
input_false Sink count broken = tt
input_false TooLong count broken = absurd broken

unseen : false ≡ true → ⊥
unseen is = cc

pub not_seen : {P : Type 0} → false ≡ true → P
not_seen is = absurd (unseen is)

-- that many bytes were taken and handled
pub record Taken (told : Bool) (converters : Converters) (start : Medium)
    (left_before left_now before now : Option (List ℕ)) (memory : Memory) (medium : Medium)
    (kept : List ℕ) (number taken : ℕ) : Type 0 where
  pub given : List ℕ
  pub takes : Consumes left_before left_now given
  pub count_is : length given ≡ taken
  pub reached : Reached (setting told converters start before) given now (reading memory kept number) medium

module _ (told : Bool) (converters : Converters) (start : Medium) (left_before : Option (List ℕ))
    (before : Option (List ℕ)) where
  pub taken_none : (now : Option (List ℕ)) (memory : Memory) (medium : Medium) (kept : List ℕ) (number : ℕ)
      → Reached (setting told converters start before) [] now (reading memory kept number) medium
      → Taken told converters start left_before left_before before now memory medium kept number 0
  taken_none now memory medium kept number reached = record {
    given = [];
    takes = Consumes-nil left_before;
    count_is =
        refl;
    reached = reached;
  }

  pub taken_more : (left_now left_later now later : Option (List ℕ)) (memory after : Memory) (old new : Medium)
      (kept kept_later : List ℕ) (number number_later taken count : ℕ) (buffer : List ℕ)
      → Taken told converters start left_before left_now before now memory old kept number taken → taken ≤ 67108864
      → count ≤ length buffer → taken + count ≤ 67108864
      → Consumes left_now left_later (take count buffer)
      → ((given : List ℕ) → length (given ++ take count buffer) < 2 ^ 63
      → Reached (setting told converters start before) given now (reading memory kept number) old
      → Reached (setting told converters start before) (given ++ take count buffer) later
      (reading after kept_later number_later) new)
      → Taken told converters start left_before left_later before later after new kept_later number_later
      (taken + count)
  taken_more left_now left_later now later memory after old new kept kept_later number number_later taken count buffer
      so_far within fits limit takes goes_on =
      let piece : length (take count buffer) ≡ count = length-take-le count buffer fits in
      let whole : length (so_far.given ++ take count buffer) ≡ taken + count =
      length-append so_far.given (take count buffer) ∙ ap (λ (n : ℕ). n + length (take count buffer)) so_far.count_is
      ∙ ap (λ (n : ℕ). taken + n) piece in
      record {
        given = so_far.given ++ take count buffer;
        takes = Consumes-trans left_before left_now left_later _ _ so_far.takes takes;
        count_is = whole;
        reached = goes_on so_far.given (omega (arith, whole, limit)) so_far.reached;
      }

  -- the end of the input was seen
  pub ran_read : (ending : Ending) (left_now left_later now later : Option (List ℕ)) (memory : Memory)
      (old new : Medium) (kept : List ℕ) (number taken count : ℕ) (buffer : List ℕ)
      → Taken told converters start left_before left_now before now memory old kept number taken → taken < 67108864
      → count ≡ 0 → Consumes left_now left_later (take count buffer)
      → IsAtEnd left_later → (ending ≡ AllRead) ⊎ IsBroken ending
      → ((given : List ℕ) → length given < 2 ^ 63 → Reached (setting told converters start before) given now
      (reading memory kept number) old
      → Course (setting told converters start before) (ending_of ending) (lines_of true given) later new)
      → RanOverInput (setting told converters start before) ending left_before left_later later new
  ran_read ending left_now left_later now later memory old new kept number taken count buffer so_far within none takes
      at_end inner ends =
      let nothing : Consumes left_now left_later [] = subst (λ (n : ℕ). Consumes left_now left_later (take n buffer))
      none takes in
      record {
        given = so_far.given;
        taken = subst (Consumes left_before left_later) (append-nil so_far.given)
            (Consumes-trans left_before left_now left_later _ _ so_far.takes nothing);
        bound = omega (arith, so_far.count_is, within);
        ended = true;
        end_seen = λ _. (at_end, omega (arith, so_far.count_is, within));
        input = input_true ending _ inner;
        course = ends so_far.given (omega (arith, so_far.count_is, within)) so_far.reached;
      }

  -- a piece of the input ended the run
  pub ran_fed : (ending : Ending) (left_now left_later now later : Option (List ℕ)) (memory : Memory) (old new : Medium)
      (kept : List ℕ) (number taken count : ℕ) (buffer : List ℕ)
      → Taken told converters start left_before left_now before now memory old kept number taken → taken ≤ 67108864
      → count ≤ length buffer → taken + count ≤ 67108864
      → Consumes left_now left_later (take count buffer) → IsBroken ending
      → ((given : List ℕ) → length (given ++ take count buffer) < 2 ^ 63
      → Reached (setting told converters start before) given now (reading memory kept number) old
      → Course (setting told converters start before) (ending_of ending) (lines_of false (given ++ take count buffer))
      later new)
      → RanOverInput (setting told converters start before) ending left_before left_later later new
  ran_fed ending left_now left_later now later memory old new kept number taken count buffer so_far within fits limit
      takes broken ends =
      let piece : length (take count buffer) ≡ count = length-take-le count buffer fits in
      let whole : length (so_far.given ++ take count buffer) ≡ taken + count =
      length-append so_far.given (take count buffer) ∙ ap (λ (n : ℕ). n + length (take count buffer)) so_far.count_is
      ∙ ap (λ (n : ℕ). taken + n) piece in
      record {
        given = so_far.given ++ take count buffer;
        taken = Consumes-trans left_before left_now left_later _ _ so_far.takes takes;
        bound = omega (arith, whole, limit);
        ended = false;
        end_seen = not_seen;
        input = input_false ending _ broken;
        course = ends so_far.given (omega (arith, whole, limit)) so_far.reached;
      }

  -- all whole lines of what was taken are handled
  whole_lines : (given : List ℕ) (now : Option (List ℕ)) (memory : Memory) (medium : Medium) (kept : List ℕ)
      (number : ℕ)
      → (reached : Reached (setting told converters start before) given now (reading memory kept number) medium)
      → lines_of false given ≡ reached.lines
  whole_lines given now memory medium kept number reached =
      ap (lines_of false) reached.split ∙ lines_whole reached.lines reached.rest reached.clean reached.clean_rest

  -- the source failed
  pub ran_source : AppLaws → (left_now left_later now : Option (List ℕ)) (memory : Memory) (medium : Medium)
      (kept : List ℕ) (number taken : ℕ)
      → Taken told converters start left_before left_now before now memory medium kept number taken
      → taken < 67108864 → Keeps left_now left_later
      → RanOverInput (setting told converters start before) Source left_before left_later now medium
  ran_source laws left_now left_later now memory medium kept number taken so_far within keeps = record {
    given = so_far.given;
    taken = Consumes-kept left_before left_now left_later so_far.given so_far.takes keeps;
    bound = omega (arith, so_far.count_is, within);
    ended = false;
    end_seen = not_seen;
    input = (refl, omega (arith, so_far.count_is, within));
    course = course_source told converters start before laws so_far.reached.lines _ now memory medium
        so_far.reached.handled
        (whole_lines so_far.given now memory medium kept number so_far.reached);
  }

  -- the limit was reached
  pub ran_long : AppLaws → (left_now now : Option (List ℕ)) (memory : Memory) (medium : Medium) (kept : List ℕ)
      (number taken : ℕ)
      → Taken told converters start left_before left_now before now memory medium kept number taken
      → taken ≤ 67108864 → 67108864 ≤ taken
      → RanOverInput (setting told converters start before) TooLong left_before left_now now medium
  ran_long laws left_now now memory medium kept number taken so_far within least = record {
    given = so_far.given;
    taken = so_far.takes;
    bound = omega (arith, so_far.count_is, within);
    ended = false;
    end_seen = not_seen;
    input = (refl, omega (arith, so_far.count_is, within, least));
    course = course_long told converters start before laws so_far.reached.lines _ now memory medium
        so_far.reached.handled
        (whole_lines so_far.given now memory medium kept number so_far.reached);
  }

  -- memory ran out before anything was taken
  pub ran_memory : AppLaws → (now : Option (List ℕ)) (memory : Memory) (medium : Medium)
      → Handled (setting told converters start before) [] now memory medium
      → RanOverInput (setting told converters start before) OutOfMemory left_before left_before now medium
  ran_memory laws now memory medium handled = record {
    given = [];
    taken = Consumes-nil left_before;
    bound = omega arith;
    ended = false;
    end_seen = not_seen;
    input = tt;
    course = course_memory told converters start before laws [] [] now now memory medium handled (Appends-nil now);
  }
