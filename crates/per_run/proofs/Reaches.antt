-- How far the input is handled: line by line, and to its end.
use Rattle.std.proofs.Common.{ℕ, List, [], ◌∷◌, ◌++◌, length, take, ◌≡◌, ◌≤◌, ◌<◌, ◌+◌, ◌-◌, ◌^◌, min}
use Rattle.std.proofs.Common.{refl, sym, ◌∙◌, ap, subst, arith, Option, Bool, true, false}
use Rattle.std.proofs.Common.{append_assoc, append-nil, length-append}
use Rattle.std.specs.List.{flat_map}
use Rattle.std.proofs.KnownBytes.{Appends-nil}
use Rattle.disk_model.specs.Medium.{Medium}
use Rattle.run_model.specs.AppLaws.{AppLaws}
use Rattle.run_model.specs.Converters.{Converters}
use Rattle.run_model.specs.Endings as endings
use Rattle.run_model.specs.Lines.{lines_of, last_line, split_lines}
use Rattle.run_model.specs.Runtimes.{Memory}
use Rattle.per_run.specs.declared.endings.Ending.{Ending}
use Rattle.per_run.specs.declared.endings.Ending.TheVariants.{OutOfMemory}
use Rattle.per_run.specs.Steps.{Course, Handled, HasNoFeed, Reached, ending_of, reading, with_feed}
use Rattle.per_run.proofs.Courses.{course_along, course_memory, course_read}
use Rattle.per_run.proofs.Fronts.{no_rest}
use Rattle.per_run.proofs.Splits.{all_clean_more, clean_append, lines_false, lines_next, lines_short, lines_true}
use Rattle.per_run.proofs.Splits.{with_line}
use Rattle.per_run.proofs.Settings.{setting}

module _ (told : Bool) (converters : Converters) (start : Medium) (before : Option (List ℕ)) where
  -- one line more is handled
  abbrev HandlesOne : (now later : Option (List ℕ)) (memory after : Memory) (old new : Medium) → (kept : List ℕ)
      → Type 0
  HandlesOne now later memory after old new kept = (lines : List (List ℕ)) (text : List ℕ) → kept ≡ take 262145 text
      → Handled (setting told converters start before) lines now memory old
      → Handled (setting told converters start before) (lines ++ text ∷ []) later after new

  -- the handling ends at the next line
  abbrev EndsAt : endings.Ending → (now later : Option (List ℕ)) (memory : Memory) (old new : Medium) → (kept : List ℕ)
      → (number : ℕ) → Type 0
  EndsAt ending now later memory old new kept number = (lines more : List (List ℕ)) (text : List ℕ)
      → kept ≡ take 262145 text → number ≡ length lines → length lines < 2 ^ 63
      → Handled (setting told converters start before) lines now memory old
      → Course (setting told converters start before) ending (lines ++ text ∷ more) later new

  few_lines : (given : List ℕ) (now : Option (List ℕ)) (memory : Memory) (medium : Medium) (kept : List ℕ) (number : ℕ)
      → (reached : Reached (setting told converters start before) given now (reading memory kept number) medium)
      → length reached.lines ≤ length given
  few_lines given now memory medium kept number reached =
      subst (λ (bytes : List ℕ). length reached.lines ≤ length bytes) (sym reached.split)
      (lines_short reached.lines reached.rest)

  -- ---- more bytes

  -- a line feed, after a line that is handled
  reached_feed : (given : List ℕ) (now later : Option (List ℕ)) (memory after : Memory) (old new : Medium)
      (kept kept_later : List ℕ) (number number_later : ℕ)
      → length given < 2 ^ 63
      → Reached (setting told converters start before) given now (reading memory kept number) old
      → HandlesOne now later memory after old new kept
      → number_later ≡ min (number + 1) (2 ^ 64 - 1) → kept_later ≡ []
      → Reached (setting told converters start before) (given ++ 10 ∷ []) later (reading after kept_later number_later)
      new
  reached_feed given now later memory after old new kept kept_later number number_later small reached goes_on counts
      clears = record {
        lines = reached.lines ++ reached.rest ∷ [];
        rest = [];
        split = ap (λ (bytes : List ℕ). bytes ++ 10 ∷ []) reached.split
            ∙ append_assoc (flat_map with_feed reached.lines) reached.rest (10 ∷ [])
            ∙ sym (with_line reached.lines reached.rest) ∙ sym
            (append-nil (flat_map with_feed (reached.lines ++ reached.rest ∷ [])));
        clean = all_clean_more reached.lines reached.rest reached.clean reached.clean_rest;
        clean_rest = refl;
        kept_is = clears;
        number_is =
            let few : length reached.lines ≤ length given = few_lines given now memory old kept number reached in
            omega (arith, counts, reached.number_is, length-append reached.lines (reached.rest ∷ []));
        handled = goes_on reached.lines reached.rest reached.kept_is reached.handled;
      }

  -- bytes among which is no line feed
  pub reached_bytes : (given bytes : List ℕ) (now : Option (List ℕ)) (memory : Memory) (medium : Medium)
      (kept kept_later : List ℕ) (number : ℕ)
      → Reached (setting told converters start before) given now (reading memory kept number) medium → HasNoFeed bytes
      → ((rest : List ℕ) → kept ≡ take 262145 rest → kept_later ≡ take 262145 (rest ++ bytes))
      → Reached (setting told converters start before) (given ++ bytes) now (reading memory kept_later number) medium
  reached_bytes given bytes now memory medium kept kept_later number reached clean keeps = record {
    lines = reached.lines;
    rest = reached.rest ++ bytes;
    split = ap (λ (front : List ℕ). front ++ bytes) reached.split
        ∙ append_assoc (flat_map with_feed reached.lines) reached.rest bytes;
    clean = reached.clean;
    clean_rest = clean_append reached.rest bytes reached.clean_rest clean;
    kept_is = keeps reached.rest reached.kept_is;
    number_is = reached.number_is;
    handled = reached.handled;
  }

  -- a line with its line feed
  pub reached_line : (given line : List ℕ) (now later : Option (List ℕ)) (memory after : Memory) (old new : Medium)
      (kept kept_line kept_later : List ℕ) (number number_later : ℕ)
      → length (given ++ line) < 2 ^ 63 → Reached (setting told converters start before) given now
      (reading memory kept number) old
      → HasNoFeed line → ((rest : List ℕ) → kept ≡ take 262145 rest → kept_line ≡ take 262145 (rest ++ line))
      → HandlesOne now later memory after old new kept_line
      → number_later ≡ min (number + 1) (2 ^ 64 - 1) → kept_later ≡ []
      → Reached (setting told converters start before) (given ++ (line ++ 10 ∷ [])) later
      (reading after kept_later number_later) new
  reached_line given line now later memory after old new kept kept_line kept_later number number_later small reached
      clean keeps goes_on counts clears =
      subst (λ (bytes : List ℕ). Reached (setting told converters start before) bytes later
      (reading after kept_later number_later) new)
      (append_assoc given line (10 ∷ []))
      (reached_feed (given ++ line) now later memory after old new kept_line kept_later number number_later small
      (reached_bytes given line now memory old kept kept_line number reached clean keeps) goes_on counts clears)

  -- ---- endings within the input

  -- at a line feed
  ends_feed : (ending : endings.Ending) (given others : List ℕ) (now later : Option (List ℕ)) (memory : Memory)
      (old new : Medium) (kept : List ℕ) (number : ℕ)
      → length given < 2 ^ 63
      → Reached (setting told converters start before) given now (reading memory kept number) old
      → EndsAt ending now later memory old new kept number
      → Course (setting told converters start before) ending (lines_of false (given ++ 10 ∷ others)) later new
  ends_feed ending given others now later memory old new kept number small reached ends =
      let few : length reached.lines ≤ length given = few_lines given now memory old kept number reached in
      let is : lines_of false (given ++ 10 ∷ others) ≡ reached.lines ++ reached.rest ∷ (split_lines others).0 =
      ap (λ (bytes : List ℕ). lines_of false (bytes ++ 10 ∷ others)) reached.split
      ∙ ap (lines_of false) (append_assoc (flat_map with_feed reached.lines) reached.rest (10 ∷ others))
      ∙ lines_next reached.lines reached.rest others reached.clean reached.clean_rest in
      course_along told converters start before ending _ _ later new is
      (ends reached.lines (split_lines others).0 reached.rest reached.kept_is reached.number_is
      (omega (arith, few, small)) reached.handled)

  -- at the line feed of a line
  pub ends_line : (ending : endings.Ending) (given line others : List ℕ) (now later : Option (List ℕ)) (memory : Memory)
      (old new : Medium) (kept kept_line : List ℕ) (number : ℕ)
      → length (given ++ line) < 2 ^ 63 → Reached (setting told converters start before) given now
      (reading memory kept number) old
      → HasNoFeed line → ((rest : List ℕ) → kept ≡ take 262145 rest → kept_line ≡ take 262145 (rest ++ line))
      → EndsAt ending now later memory old new kept_line number
      → Course (setting told converters start before) ending (lines_of false (given ++ (line ++ 10 ∷ others))) later new
  ends_line ending given line others now later memory old new kept kept_line number small reached clean keeps ends =
      subst (λ (bytes : List ℕ). Course (setting told converters start before) ending (lines_of false bytes) later new)
      (append_assoc given line (10 ∷ others))
      (ends_feed ending (given ++ line) others now later memory old new kept_line number small
      (reached_bytes given line now memory old kept kept_line number reached clean keeps) ends)

  -- at bytes for which there is no memory
  pub ends_short : AppLaws → (ending : Ending) (given more : List ℕ) (now : Option (List ℕ)) (memory : Memory)
      (medium : Medium) (kept : List ℕ) (number : ℕ) → ending ≡ OutOfMemory
      → Reached (setting told converters start before) given now (reading memory kept number) medium
      → Course (setting told converters start before) (ending_of ending) (lines_of false (given ++ more)) now medium
  ends_short laws way given more now memory medium kept number short reached =
      let is : lines_of false (given ++ more) ≡ reached.lines ++ (split_lines (reached.rest ++ more)).0 =
      ap (λ (bytes : List ℕ). lines_of false (bytes ++ more)) reached.split
      ∙ ap (lines_of false) (append_assoc (flat_map with_feed reached.lines) reached.rest more)
      ∙ lines_false reached.lines (reached.rest ++ more) reached.clean in
      subst (λ (e : Ending). Course (setting told converters start before) (ending_of e)
      (lines_of false (given ++ more)) now medium) (sym short)
      (course_along told converters start before endings.memory _ _ now medium is
      (course_memory told converters start before laws reached.lines _ now now memory medium reached.handled
      (Appends-nil now)))

  -- ---- the end of the input

  last_of : (rest : List ℕ) → (rest ≡ [] → ⊥) → last_line rest ≡ rest ∷ []
  last_of [] some = absurd (some refl)
  last_of (b ∷ rest) some = refl

  -- no line is left
  pub ends_read : AppLaws → (given : List ℕ) (now : Option (List ℕ)) (memory : Memory) (medium : Medium) (kept : List ℕ)
      (number : ℕ)
      → Reached (setting told converters start before) given now (reading memory kept number) medium → kept ≡ []
      → Course (setting told converters start before) endings.all_read (lines_of true given) now medium
  ends_read laws given now memory medium kept number reached empty =
      let none : reached.rest ≡ [] = no_rest reached.rest (sym reached.kept_is ∙ empty) in
      let is : lines_of true given ≡ reached.lines = ap (lines_of true) reached.split
      ∙ lines_true reached.lines reached.rest reached.clean reached.clean_rest
      ∙ ap (λ (rest : List ℕ). reached.lines ++ last_line rest) none ∙ append-nil reached.lines in
      course_read told converters start before laws reached.lines _ now memory medium reached.handled is

  last_lines : (given : List ℕ) (now : Option (List ℕ)) (memory : Memory) (medium : Medium) (kept : List ℕ) (number : ℕ)
      → (reached : Reached (setting told converters start before) given now (reading memory kept number) medium)
      → (kept ≡ [] → ⊥)
      → lines_of true given ≡ reached.lines ++ reached.rest ∷ []
  last_lines given now memory medium kept number reached some =
      ap (lines_of true) reached.split ∙ lines_true reached.lines reached.rest reached.clean reached.clean_rest
      ∙ ap (λ (l : List (List ℕ)). reached.lines ++ l) (last_of reached.rest
      (λ empty. some (reached.kept_is ∙ ap (take 262145) empty)))

  -- the last line was handled
  pub ends_last : AppLaws → (given : List ℕ) (now later : Option (List ℕ)) (memory after : Memory) (old new : Medium)
      (kept : List ℕ) (number : ℕ)
      → Reached (setting told converters start before) given now (reading memory kept number) old → (kept ≡ [] → ⊥)
      → HandlesOne now later memory after old new kept
      → Course (setting told converters start before) endings.all_read (lines_of true given) later new
  ends_last laws given now later memory after old new kept number reached some goes_on =
      course_read told converters start before laws _ _ later after new
      (goes_on reached.lines reached.rest reached.kept_is reached.handled)
      (last_lines given now memory old kept number reached some)

  -- the last line ended the run
  pub ends_at_last : (ending : endings.Ending) (given : List ℕ) (now later : Option (List ℕ)) (memory : Memory)
      (old new : Medium) (kept : List ℕ) (number : ℕ)
      → length given < 2 ^ 63
      → Reached (setting told converters start before) given now (reading memory kept number) old
      → (kept ≡ [] → ⊥) → EndsAt ending now later memory old new kept number
      → Course (setting told converters start before) ending (lines_of true given) later new
  ends_at_last ending given now later memory old new kept number small reached some ends =
      let few : length reached.lines ≤ length given = few_lines given now memory old kept number reached in
      course_along told converters start before ending _ _ later new
      (last_lines given now memory old kept number reached some)
      (ends reached.lines [] reached.rest reached.kept_is reached.number_is (omega (arith, few, small)) reached.handled)

-- ---- a piece of the input

module _ (told : Bool) (converters : Converters) (start : Medium) (before : Option (List ℕ)) where
  -- the same bytes
  pub reached_along : (given same : List ℕ) (now : Option (List ℕ)) (memory : Memory) (medium : Medium) (kept : List ℕ)
      (number : ℕ) → same ≡ given
      → Reached (setting told converters start before) given now (reading memory kept number) medium
      → Reached (setting told converters start before) same now (reading memory kept number) medium
  reached_along given same now memory medium kept number is reached =
      subst (λ (bytes : List ℕ). Reached (setting told converters start before) bytes now (reading memory kept number)
      medium) (sym is)
      reached
