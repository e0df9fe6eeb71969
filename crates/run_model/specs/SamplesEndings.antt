-- Runs that end before their lines do: what they have written, and that they are what the definitions allow.
use Rattle.std.specs.Prelude.{◌≡◌, ℕ, zero, suc, List, [], ◌∷◌, ◌++◌, take, replicate, Some, false, refl, codes}
use Rattle.std.proofs.Common.{ap, ◌∙◌, inl, arith}
use Rattle.command_text.specs.declared.calls.Call.TheVariants as call
use Rattle.command_text.specs.declared.lines.Line.TheVariants as line
use Rattle.command_text.specs.Grammar.{IsLine}
use Rattle.run_model.specs.Endings.{ending_status, EndsBy, InReply, device, start_memory, source, too_long}
use Rattle.run_model.specs.Lines.{split_lines, lines_of, Give}
use Rattle.run_model.specs.Samples.{computed, no_plan, stepped, at_first, on, fav}
use Rattle.run_model.specs.Turns.{Turn}

-- ---- the start fails

-- at the device: no line is handled, and nothing is written
device_writes_nothing : (lines all : List (List ℕ)) (turns : List Turn) (now : List ℕ)
    → EndsBy device lines all turns (Some []) (Some now) → (ending_status device ≡ 3) × (lines ≡ []) × (now ≡ [])
device_writes_nothing lines all turns now ends = (refl, ends.no_line, ends.wrote)

device_in_the_start : EndsBy device [] [] [] (Some []) (Some [])
device_in_the_start = record { no_line = refl; no_turn = refl; wrote = refl }

-- where memory ran out, by the status of a run that came to its lines
memory_in_the_start : (lines all : List (List ℕ)) (turns : List Turn) (now : List ℕ)
    → EndsBy start_memory lines all turns (Some []) (Some now)
    → (ending_status start_memory ≡ 4) × (turns ≡ []) × (now ≡ [])
memory_in_the_start lines all turns now ends = (refl, ends.no_turn, ends.wrote)

-- ---- the source and the sink fail

-- the first call of the source
source_at_first : EndsBy source [] (lines_of false []) [] (Some []) (Some [])
source_at_first = record { next = refl; wrote = refl }

-- the first call of the sink, with the reply to the first of two lines
abbrev pub opened_first : Turn
opened_first = record {
  event = on (call.OpenKvs fav);
  reply =
      (stepped no_plan at_first (on (call.OpenKvs fav))).0;
  faults = 0;
  bytes = record { image = λ f. []; written = 0 };
  world =
      (stepped no_plan at_first (on (call.OpenKvs fav))).1;
}

abbrev pub open_line : List ℕ
open_line = codes "0 open-kvs fav"

abbrev pub get_line : List ℕ
get_line = codes "0 get fav home"

-- that many bytes of its text were taken, and not all
abbrev pub InFirstReply : ℕ → Type 0
InFirstReply count = InReply count (open_line ∷ []) (open_line ∷ get_line ∷ []) (opened_first ∷ []) (Some [])
    (Some (take count (codes "ok\n")))

sink_at_first : InFirstReply 0
unfolding computed
sink_at_first = record {
  others = get_line ∷ [];
  next = refl;
  earlier = [];
  last = opened_first;
  turns_are =
      refl;
  short = omega arith;
  wrote = refl;
}

sink_in_between : InFirstReply 2
unfolding computed
sink_in_between = record {
  others = get_line ∷ [];
  next = refl;
  earlier = [];
  last = opened_first;
  turns_are =
      refl;
  short = omega arith;
  wrote = refl;
}

-- ---- an input of line feeds alone

feeds_split : (count : ℕ) → split_lines (replicate count 10) ≡ (replicate count [], [])
feeds_split zero = refl
feeds_split (suc count) = ap (λ (split : List (List ℕ) × List ℕ). ([] ∷ split.0, split.1)) (feeds_split count)

feeds_are_lines : (count : ℕ) → lines_of false (replicate count 10) ≡ replicate count []
feeds_are_lines count = ap (λ (split : List (List ℕ) × List ℕ). split.0 ++ []) (feeds_split count)
    ∙ append_nil (replicate count [])
  where
    append_nil : (lines : List (List ℕ)) → lines ++ [] ≡ lines
    append_nil [] = refl
    append_nil (l ∷ ls) = ap (λ (xs : List (List ℕ)). l ∷ xs) (append_nil ls)

empty_line : IsLine [] line.Nothing
empty_line = record { short = omega arith; spelled = inl refl }

-- they give no command
feeds_give_nothing : (count : ℕ) → Give (replicate count []) []
feeds_give_nothing zero = refl
feeds_give_nothing (suc count) = inl (empty_line, feeds_give_nothing count)

-- however many there are, all are handled and nothing is written
feeds_too_many : (count : ℕ) → (ending_status too_long ≡ 7)
    × EndsBy too_long (replicate count []) (lines_of false (replicate count 10)) [] (Some []) (Some [])
feeds_too_many count = (refl, record { next = feeds_are_lines count; wrote = refl })
