-- What was handled stays handled, and how a run ends after it.
use Rattle.std.proofs.Common.{ℕ, List, [], ◌∷◌, ◌++◌, length, take, ◌≡◌, ◌<◌, ◌+◌, ◌⊎◌, inl, inr, refl, sym, ap}
use Rattle.std.proofs.Common.{subst, le_refl, Option, Bool, IsTrue, Err, append-nil, append_assoc, codes}
use Rattle.std.proofs.KnownBytes.{Appends-nil, Appends-trans}
use Rattle.std.specs.Io.KnownBytes.{Appends}
use Rattle.disk_model.specs.Medium.{Medium, IsLawful, Elapses}
use Rattle.command_text.specs.declared.lines.Line.TheVariants as line
use Rattle.command_text.specs.declared.replies.Reply.{Reply}
use Rattle.command_text.specs.Grammar.{IsLine}
use Rattle.command_text.specs.Replies.{reply_text}
use Rattle.run_model.specs.AppLaws.{AppLaws}
use Rattle.run_model.specs.Converters.{Converters}
use Rattle.run_model.specs.Endings as endings
use Rattle.run_model.specs.Endings.{HasStarted, InReply, bad_line_text}
use Rattle.run_model.specs.Lines.{IsBad}
use Rattle.run_model.specs.RunLaws.{ends_disk, stops_disk}
use Rattle.run_model.specs.Runs.{DiskSide}
use Rattle.run_model.specs.Runtimes.{Memory, runtime_at}
use Rattle.run_model.specs.Turns.{Turn, turn, events_of, AreBlamed, CountsFailures}
use Rattle.run_model.specs.Worlds.{World}
use Rattle.per_run.specs.declared.endings.Ending.{Ending}
use Rattle.per_run.specs.declared.endings.Ending.TheVariants.{AllRead, EndLine, BadLine, OutOfMemory, Source, Sink}
use Rattle.per_run.specs.declared.endings.Ending.TheVariants.{TooLong}
use Rattle.per_run.specs.Jobs.{WroteProperPrefix}
use Rattle.per_run.specs.Steps.{Goes, IsGoing, Handled, Course, IsLineAnswered, IsStopped, PutsOutput, IsBadLineAnswer}
use Rattle.per_run.specs.Steps.{ending_of}
use Rattle.per_run.proofs.Gives.{front_says, give_nothing, give_turn, has_end, text_on}
use Rattle.per_run.proofs.Goes.{goes_on}
use Rattle.per_run.proofs.Settings.{setting}

-- what the prefix of a line gave is what the line gave
pub answered_front : {told : Bool} {converters : Converters} {text : List ℕ} {memory after : Memory}
    {reply : Reply} {old new : Medium} (whole : List ℕ)
    → text ≡ take 262145 whole → IsLineAnswered told converters text (runtime_at memory old)
    (runtime_at after new) reply
    → IsLineAnswered told converters whole (runtime_at memory old) (runtime_at after new) reply
answered_front whole front a = record {
  event = a.event;
  spelled = front_says _ whole (line.Event a.event) front a.spelled;
  has_text = a.has_text;
  blamed = a.blamed;
  stepped = a.stepped;
}

pub stopped_front : {told : Bool} {converters : Converters} {text : List ℕ} {memory : Memory}
    {old new : Medium} (whole : List ℕ)
    → text ≡ take 262145 whole → IsStopped told converters text memory old new
    → IsStopped told converters whole memory old new
stopped_front whole front s = record {
  event = s.event;
  spelled =
      front_says _ whole (line.Event s.event) front s.spelled;
  stopped = s.stopped;
  fed = s.fed;
}

-- nothing failed after the last command
pub counts_whole : {Whole : Type 0} {before : ℕ} {ts : List Turn} {after : ℕ} → AreBlamed before ts after
    → CountsFailures Whole before ts after
counts_whole {after = after} blamed = record {
  last = after;
  blamed = blamed;
  later = le_refl after;
  passes = λ whole. refl;
}

module _ (told : Bool) (converters : Converters) (start : Medium) (before : Option (List ℕ)) where
  -- ---- one more line is handled

  pub handled_nothing : {D : Type 0} (medium : D → Medium) (lines : List (List ℕ)) (now : Option (List ℕ))
      (memory later : Memory) (old new : D) (text : List ℕ)
      → Handled (setting told converters start before) lines now memory (medium old) → IsLine text line.Nothing
      → later ≡ memory → new ≡ old
      → Handled (setting told converters start before) (lines ++ text ∷ []) now later (medium new)
  handled_nothing {D} medium lines now memory later old new text handled is same_memory same_disk =
      subst (λ (d : D). Handled (setting told converters start before) (lines ++ text ∷ []) now later (medium d))
      (sym same_disk)
      (subst (λ (m : Memory). Handled (setting told converters start before) (lines ++ text ∷ []) now m (medium old))
      (sym same_memory) (record {
        turns = handled.turns;
        gives = give_nothing lines (events_of handled.turns) text handled.gives is;
        wrote = handled.wrote;
        goes = handled.goes;
      }))

  pub handled_reply : (lines : List (List ℕ)) (now later : Option (List ℕ)) (memory after : Memory) (old new : Medium)
      (text : List ℕ) (reply : Reply) → IsLawful told new → Elapses old new
      → Handled (setting told converters start before) lines now memory old
      → IsLineAnswered told converters text (runtime_at memory old) (runtime_at after new) reply
      → Appends now later (reply_text reply)
      → Handled (setting told converters start before) (lines ++ text ∷ []) later after new
  handled_reply lines now later memory after old new text reply lawful time handled a wrote =
      let more : (w : World) × Goes told converters start (handled.turns ++ turn a.event reply new w ∷ [])
      after new =
      goes_on converters start told handled.turns a.event reply memory after old new lawful time handled.goes
      a.blamed a.stepped in
      let t : Turn = turn a.event reply new more.0 in
      record {
        turns = handled.turns ++ t ∷ [];
        gives = give_turn lines handled.turns text t handled.gives a.spelled;
        wrote = subst (Appends before later) (sym (text_on handled.turns t))
            (Appends-trans before now later _ _ handled.wrote wrote);
        goes = more.1;
      }

  -- ---- what is promised of the disk where every command has ended

  pub rests : AppLaws → (ending : endings.Ending) → HasStarted ending
      → (lines all : List (List ℕ)) (turns : List Turn) (later : Option (List ℕ)) (memory : Memory) (now : Medium)
      → Goes told converters start turns memory now → IsTrue told
      → DiskSide converters ending
      (record { lines = lines; all = all; turns = turns; before = before; now = later }) start now
  rests laws ending begun lines all turns later memory now goes tells =
      let g : IsGoing converters start turns memory now = goes.disk tells in
      ends_disk laws converters ending lines all turns before later memory g.0 start now begun g.2

  -- ---- how a run ends at a line

  pub course_end : {D : Type 0} (medium : D → Medium) → AppLaws
      → (lines others : List (List ℕ)) (now : Option (List ℕ)) (memory : Memory) (old new : D) (text : List ℕ)
      → Handled (setting told converters start before) lines now memory (medium old) → text ≡ codes "end" → new ≡ old
      → Course (setting told converters start before) endings.end_line (lines ++ text ∷ others) now (medium new)
  course_end {D} medium laws lines others now memory old new text handled is same =
      subst (λ (d : D). Course (setting told converters start before) endings.end_line (lines ++ text ∷ others) now
      (medium d))
      (sym same) (record {
        lines = lines;
        turns = handled.turns;
        gives = handled.gives;
        ends = record { others = others; next = ap (λ (t : List ℕ). lines ++ t ∷ others) is; wrote = handled.wrote };
        failures = counts_whole handled.goes.blamed;
        disk = rests laws endings.end_line tt lines (lines ++ text ∷ others) handled.turns now memory (medium old)
            handled.goes;
      })

  course_bad : AppLaws → (lines others : List (List ℕ)) (now later : Option (List ℕ)) (memory : Memory)
      (medium : Medium) (text : List ℕ) (number : ℕ)
      → Handled (setting told converters start before) lines now memory medium → IsBad text → number
      ≡ length lines + 1
      → Appends now later (bad_line_text number)
      → Course (setting told converters start before) endings.bad_line (lines ++ text ∷ others) later medium
  course_bad laws lines others now later memory medium text number handled bad is wrote = record {
    lines = lines;
    turns = handled.turns;
    gives = handled.gives;
    ends = record {
      text = text;
      others = others;
      next = refl;
      bad = bad;
      wrote = Appends-trans before now later _ _ handled.wrote
          (subst (λ (n : ℕ). Appends now later (bad_line_text n)) is wrote);
    };
    failures = counts_whole handled.goes.blamed;
    disk = rests laws endings.bad_line tt lines (lines ++ text ∷ others) handled.turns later memory medium
        handled.goes;
  }

  course_in_bad : AppLaws → (lines others : List (List ℕ)) (now later : Option (List ℕ)) (memory : Memory)
      (medium : Medium) (text : List ℕ) (number : ℕ)
      → Handled (setting told converters start before) lines now memory medium → IsBad text → number
      ≡ length lines + 1
      → WroteProperPrefix now later (bad_line_text number)
      → Course (setting told converters start before) endings.sink (lines ++ text ∷ others) later medium
  course_in_bad laws lines others now later memory medium text number handled bad is cut =
      let here : WroteProperPrefix now later (bad_line_text (length lines + 1)) =
      subst (λ (n : ℕ). WroteProperPrefix now later (bad_line_text n)) is cut in
      record {
        lines = lines;
        turns = handled.turns;
        gives = handled.gives;
        ends = (
          here.0,
          inr (record {
            text = text;
            others = others;
            next = refl;
            bad = bad;
            short = here.1;
            wrote =
                Appends-trans before now later _ _ handled.wrote here.2;
          }),
        );
        failures = counts_whole handled.goes.blamed;
        disk = rests laws endings.sink tt lines (lines ++ text ∷ others) handled.turns later memory medium
            handled.goes;
      }

  -- memory ran out between commands
  pub course_memory : AppLaws → (lines others : List (List ℕ)) (now later : Option (List ℕ)) (memory : Memory)
      (medium : Medium)
      → Handled (setting told converters start before) lines now memory medium → Appends now later []
      → Course (setting told converters start before) endings.memory (lines ++ others) later medium
  course_memory laws lines others now later memory medium handled same = record {
    lines = lines;
    turns = handled.turns;
    gives = handled.gives;
    ends = inl (record {
      others = others;
      next = refl;
      wrote =
          subst (Appends before later) (append-nil _) (Appends-trans before now later _ _ handled.wrote same);
    });
    failures = counts_whole handled.goes.blamed;
    disk = rests laws endings.memory tt lines (lines ++ others) handled.turns later memory medium handled.goes;
  }

  -- a line outside the grammar is answered, as far as the sink takes the answer
  pub course_refused : {D : Type 0} (medium : D → Medium) → AppLaws
      → (ending : Ending) (lines others : List (List ℕ)) (now later : Option (List ℕ)) (memory : Memory) (old new : D)
      (text : List ℕ) (number : ℕ) → Handled (setting told converters start before) lines now memory (medium old)
      → IsBad text
      → number ≡ length lines + 1
      → IsBadLineAnswer (bad_line_text number) now later ending → new ≡ old
      → Course (setting told converters start before) (ending_of ending) (lines ++ text ∷ others) later (medium new)
  course_refused {D} medium laws ending lines others now later memory old new text number handled bad is refuses same
      =
      subst (λ (d : D). Course (setting told converters start before) (ending_of ending) (lines ++ text ∷ others)
      later
      (medium d)) (sym same) (go ending refuses)
    where
      go : (e : Ending) → IsBadLineAnswer (bad_line_text number) now later e
          → Course (setting told converters start before) (ending_of e) (lines ++ text ∷ others) later (medium old)
      go AllRead r = absurd r
      go EndLine r = absurd r
      go BadLine r = course_bad laws lines others now later memory (medium old) text number handled bad is r
      go OutOfMemory r = course_memory laws lines (text ∷ others) now later memory (medium old) handled r
      go Source r = absurd r
      go Sink r = course_in_bad laws lines others now later memory (medium old) text number handled bad is r
      go TooLong r = absurd r

  -- memory ran out in a command
  pub course_stopped : AppLaws → (lines others : List (List ℕ)) (now : Option (List ℕ)) (memory : Memory)
      (old new : Medium) (text : List ℕ) → IsLawful told new → Elapses old new
      → Handled (setting told converters start before) lines now memory old
      → IsStopped told converters text memory old new
      → Course (setting told converters start before) endings.memory (lines ++ text ∷ others) now new
  course_stopped laws lines others now memory old new text lawful time handled s = record {
    lines = lines;
    turns = handled.turns;
    gives = handled.gives;
    ends = inl (record { others = text ∷ others; next = refl; wrote = handled.wrote });
    failures = record {
      last = old.faults;
      blamed = handled.goes.blamed;
      later = time.faults;
      passes = λ apart. s.fed;
    };
    disk = λ tells.
        let g : IsGoing converters start handled.turns memory old = handled.goes.disk tells in
        stops_disk laws converters endings.memory lines (lines ++ text ∷ others) others text handled.turns before now
        s.event memory g.0 told start old new lawful time tt (λ over. over)
        handled.wrote refl s.spelled g.2 (s.stopped tells g.0 g.1);
  }

  -- memory ran out at a line: in reading it, or in its command
  pub course_short : {D : Type 0} (medium : D → Medium) → AppLaws
      → (lines others : List (List ℕ)) (now : Option (List ℕ)) (memory : Memory) (old new : D) (text : List ℕ)
      → IsLawful told (medium new) → Elapses (medium old) (medium new)
      → Handled (setting told converters start before) lines now memory (medium old)
      → (new ≡ old) ⊎ IsStopped told converters text memory (medium old) (medium new)
      → Course (setting told converters start before) endings.memory (lines ++ text ∷ others) now (medium new)
  course_short {D} medium laws lines others now memory old new text lawful time handled (inl same) =
      subst (λ (d : D). Course (setting told converters start before) endings.memory (lines ++ text ∷ others) now
      (medium d))
      (sym same)
      (course_memory laws lines (text ∷ others) now now memory (medium old) handled (Appends-nil now))
  course_short {D} medium laws lines others now memory old new text lawful time handled (inr stopped) =
      course_stopped laws lines others now memory (medium old) (medium new) text lawful time handled stopped

  -- ---- how a run ends in a reply

  -- that many bytes of the reply were written
  in_reply : (count : ℕ) (lines others : List (List ℕ)) (now later : Option (List ℕ)) (memory : Memory)
      (medium : Medium) (text : List ℕ) (t : Turn)
      → (handled : Handled (setting told converters start before) lines now memory medium)
      → count < length (reply_text t.reply) → Appends now later (take count (reply_text t.reply))
      → InReply count (lines ++ text ∷ []) (lines ++ text ∷ others) (handled.turns ++ t ∷ []) before later
  in_reply count lines others now later memory medium text t handled short wrote = record {
    others = others;
    next = sym (append_assoc lines (text ∷ []) others);
    earlier = handled.turns;
    last = t;
    turns_are = refl;
    short = short;
    wrote = Appends-trans before now later _ _ handled.wrote wrote;
  }

  pub course_in_reply : AppLaws → (ending : Ending) (lines others : List (List ℕ)) (now later : Option (List ℕ))
      (memory after : Memory) (old new : Medium) (text : List ℕ) (reply : Reply)
      → IsLawful told new → Elapses old new → Handled (setting told converters start before) lines now memory old
      → IsLineAnswered told converters text (runtime_at memory old) (runtime_at after new) reply
      → PutsOutput {T = Unit {0}} (reply_text reply) now later (Err ending)
      → Course (setting told converters start before) (ending_of ending) (lines ++ text ∷ others) later new
  course_in_reply laws ending lines others now later memory after old new text reply lawful time handled a puts =
      go ending puts
    where
      more : (w : World) × Goes told converters start (handled.turns ++ turn a.event reply new w ∷ [])
          after new
      more = goes_on converters start told handled.turns a.event reply memory after old new lawful time handled.goes
          a.blamed a.stepped

      t : Turn
      t = turn a.event reply new more.0

      go : (e : Ending) → PutsOutput {T = Unit {0}} (reply_text reply) now later (Err e)
          → Course (setting told converters start before) (ending_of e) (lines ++ text ∷ others) later new
      go AllRead p = absurd p
      go EndLine p = absurd p
      go BadLine p = absurd p
      go OutOfMemory p = record {
        lines = lines ++ text ∷ [];
        turns = handled.turns ++ t ∷ [];
        gives = give_turn lines handled.turns text t handled.gives a.spelled;
        ends = inr (in_reply 0 lines others now later memory old text t handled (has_end reply) p);
        failures = counts_whole more.1.blamed;
        disk = rests laws endings.memory tt (lines ++ text ∷ []) (lines ++ text ∷ others) (handled.turns ++ t ∷ [])
            later after new more.1;
      }
      go Source p = absurd p
      go Sink p = record {
        lines = lines ++ text ∷ [];
        turns = handled.turns ++ t ∷ [];
        gives = give_turn lines handled.turns text t handled.gives a.spelled;
        ends = (p.0, inl (in_reply p.0 lines others now later memory old text t handled p.1 p.2));
        failures = counts_whole more.1.blamed;
        disk = rests laws endings.sink tt (lines ++ text ∷ []) (lines ++ text ∷ others) (handled.turns ++ t ∷ [])
            later
            after new more.1;
      }
      go TooLong p = absurd p

  -- ---- how a run ends after all lines

  pub course_read : AppLaws → (lines all : List (List ℕ)) (now : Option (List ℕ)) (memory : Memory) (medium : Medium)
      → Handled (setting told converters start before) lines now memory medium → all ≡ lines
      → Course (setting told converters start before) endings.all_read all now medium
  course_read laws lines all now memory medium handled is = record {
    lines = lines;
    turns = handled.turns;
    gives = handled.gives;
    ends = record { next = is; wrote = handled.wrote };
    failures = counts_whole handled.goes.blamed;
    disk = rests laws endings.all_read tt lines all handled.turns now memory medium handled.goes;
  }

  pub course_source : AppLaws
      → (lines all : List (List ℕ)) (now : Option (List ℕ)) (memory : Memory) (medium : Medium)
      → Handled (setting told converters start before) lines now memory medium → all ≡ lines
      → Course (setting told converters start before) endings.source all now medium
  course_source laws lines all now memory medium handled is = record {
    lines = lines;
    turns = handled.turns;
    gives = handled.gives;
    ends = record { next = is; wrote = handled.wrote };
    failures = counts_whole handled.goes.blamed;
    disk = rests laws endings.source tt lines all handled.turns now memory medium handled.goes;
  }

  pub course_long : AppLaws → (lines all : List (List ℕ)) (now : Option (List ℕ)) (memory : Memory) (medium : Medium)
      → Handled (setting told converters start before) lines now memory medium → all ≡ lines
      → Course (setting told converters start before) endings.too_long all now medium
  course_long laws lines all now memory medium handled is = record {
    lines = lines;
    turns = handled.turns;
    gives = handled.gives;
    ends = record { next = is; wrote = handled.wrote };
    failures = counts_whole handled.goes.blamed;
    disk = rests laws endings.too_long tt lines all handled.turns now memory medium handled.goes;
  }

  -- the same lines under another name
  pub course_along : (ending : endings.Ending) (all same : List (List ℕ)) (now : Option (List ℕ)) (medium : Medium)
      → same ≡ all
      → Course (setting told converters start before) ending all now medium
      → Course (setting told converters start before) ending same now medium
  course_along ending all same now medium is course = subst
      (λ (l : List (List ℕ)). Course (setting told converters start before) ending l now medium) (sym is) course
