-- Lines that a run which stays handled: one more, and how it ends after them.
use Rattle.std.proofs.Common.{ℕ, List, [], ◌∷◌, ◌++◌, length, take, ◌≡◌, ◌<◌, ◌+◌, inl, inr, refl, sym, ◌∙◌, ap, subst}
use Rattle.std.proofs.Common.{arith, Option, None, Bool, IsTrue, Err, codes, append_assoc, append-nil, length-append}
use Rattle.std.proofs.Common.{◌⊎◌}
use Rattle.std.proofs.KnownBytes.{Appends-nil, Appends-trans}
use Rattle.std.proofs.lemmas.List.{map-append}
use Rattle.std.proofs.lemmas.List.Concat.{flat_map-append}
use Rattle.std.specs.Fmt.{decimal}
use Rattle.std.specs.Io.KnownBytes.{Appends}
use Rattle.std.specs.List.{AllByRecursion}
use Rattle.disk_model.specs.Medium.{Medium, IsLawful, Elapses}
use Rattle.command_text.specs.declared.lines.Line.TheVariants as line
use Rattle.command_text.specs.declared.replies.Reply.{Reply}
use Rattle.command_text.specs.Grammar.{IsLine}
use Rattle.command_text.specs.Replies.{reply_text}
use Rattle.run_model.specs.AppLaws.{AppLaws}
use Rattle.run_model.specs.Converters.{Converters}
use Rattle.run_model.specs.Endings as endings
use Rattle.run_model.specs.Endings.{HasStarted, bad_line_text}
use Rattle.run_model.specs.Lines.{IsBad}
use Rattle.run_model.specs.Moments.{last_of}
use Rattle.run_model.specs.RunLaws.{ends_settled, stops_disk}
use Rattle.run_model.specs.Runs.{IsSettled}
use Rattle.run_model.specs.Runtimes.{Memory, runtime_at}
use Rattle.run_model.specs.Turns.{Turn, turn, worlds_of}
use Rattle.run_model.specs.Worlds.{World, after_start, world_at}
use Rattle.per_run.specs.declared.endings.Ending.{Ending}
use Rattle.per_run.specs.declared.endings.Ending.TheVariants.{AllRead, EndLine, BadLine, OutOfMemory, Source, Sink}
use Rattle.per_run.specs.declared.endings.Ending.TheVariants.{TooLong}
use Rattle.per_run.specs.Serves.{Heard, IsCutAfter, IsHeard, ServesBy, answered, heard_line, lines_in, next_line_number}
use Rattle.per_run.specs.Serves.{passed, refused, heard_text, heard_texts, texts_after, turn_in, turns_in}
use Rattle.per_run.specs.Serving.{Hearing, HearsOne, Service}
use Rattle.per_run.specs.Steps.{Goes, IsGoing, IsLineAnswered, IsStopped, PutsOutput, ending_of}
use Rattle.per_run.proofs.Courses as courses
use Rattle.per_run.proofs.Courses.{counts_whole}
use Rattle.per_run.proofs.Gives.{has_end}
use Rattle.per_run.proofs.Goes.{goes_on}
use Rattle.per_run.proofs.Settings.{setting}

-- ---- one more line

pub lines_on : (heard : List Heard) (h : Heard) → lines_in (heard ++ h ∷ []) ≡ lines_in heard ++ heard_line h ∷ []
lines_on heard h = map-append heard_line heard (h ∷ [])

turns_on : (heard : List Heard) (h : Heard) → turns_in (heard ++ h ∷ []) ≡ turns_in heard ++ turn_in h
turns_on heard h = flat_map-append turn_in heard (h ∷ []) ∙ ap (λ (ts : List Turn). turns_in heard ++ ts)
    (append-nil (turn_in h))

turns_same : (heard : List Heard) (h : Heard) → turn_in h ≡ [] → turns_in (heard ++ h ∷ []) ≡ turns_in heard
turns_same heard h none = turns_on heard h ∙ ap (λ (ts : List Turn). turns_in heard ++ ts) none
    ∙ append-nil (turns_in heard)

texts_from : (count : ℕ) (heard : List Heard) (h : Heard) (number : ℕ) → number
    ≡ next_line_number (count + length heard)
    → texts_after count (heard ++ h ∷ []) ≡ texts_after count heard ++ heard_text number h
texts_from count [] h number is =
    let same : next_line_number count ≡ number = omega (arith, is) in
    append-nil (heard_text (next_line_number count) h) ∙ ap (λ (n : ℕ). heard_text n h) same
texts_from count (x ∷ heard) h number is =
    ap (λ (l : List ℕ). heard_text (next_line_number count) x ++ l)
    (texts_from (count + 1) heard h number (omega (arith, is)))
    ∙ sym (append_assoc (heard_text (next_line_number count) x) (texts_after (count + 1) heard) (heard_text number h))

pub texts_on : (heard : List Heard) (h : Heard) (number : ℕ) → number ≡ next_line_number (length heard)
    → heard_texts (heard ++ h ∷ []) ≡ heard_texts heard ++ heard_text number h
texts_on heard h number is = texts_from 0 heard h number (omega (arith, is))

are_on : (heard : List Heard) (h : Heard) → AllByRecursion IsHeard heard → IsHeard h
    → AllByRecursion IsHeard (heard ++ h ∷ [])
are_on [] h are is = (is, tt)
are_on (x ∷ heard) h are is = (are.0, are_on heard h are.1 is)

some_text : (number : ℕ) → 0 < length (bad_line_text number)
some_text number = omega (arith, length-append (codes "bad-line ") (decimal number ++ codes "\n"))

module _ (told : Bool) (converters : Converters) (start : Medium) (before : Option (List ℕ)) where
  goes_as : (turns same : List Turn) (memory : Memory) (medium : Medium) → same ≡ turns
      → Goes told converters start turns memory medium
      → Goes told converters start same memory medium
  goes_as turns same memory medium is goes =
      subst (λ (ts : List Turn). Goes told converters start ts memory medium) (sym is) goes

  -- whatever was said of it, its text was written
  hears : (heard : List Heard) (h : Heard) (number : ℕ) (now later : Option (List ℕ)) (memory after : Memory)
      (old new : Medium) → number ≡ next_line_number (length heard)
      → Hearing (setting told converters start before) heard now memory old → IsHeard h
      → Appends now later (heard_text number h)
      → Goes told converters start (turns_in heard ++ turn_in h) after new
      → Hearing (setting told converters start before) (heard ++ h ∷ []) later after new
  hears heard h number now later memory after old new counts hearing is wrote goes = record {
    are = are_on heard h hearing.are is;
    wrote = subst (Appends before later) (sym (texts_on heard h number counts))
        (Appends-trans before now later _ _ hearing.wrote wrote);
    goes = goes_as _ _ after new (turns_on heard h) goes;
  }

  pub hears_nothing : {D : Type 0} (medium : D → Medium) (heard : List Heard) (number : ℕ) (now : Option (List ℕ))
      (memory later : Memory) (old new : D) (text : List ℕ) → number ≡ next_line_number (length heard)
      → Hearing (setting told converters start before) heard now memory (medium old) → IsLine text line.Nothing
      → later ≡ memory → new ≡ old
      → HearsOne (setting told converters start before) heard text now later (medium new)
  hears_nothing {D} medium heard number now memory later old new text counts hearing is same_memory same_disk =
      subst (λ (d : D). HearsOne (setting told converters start before) heard text now later (medium d))
      (sym same_disk)
      (subst (λ (m : Memory). HearsOne (setting told converters start before) heard text now m (medium old))
      (sym same_memory) (
        passed text,
        refl,
        hears heard (passed text) number now now memory memory (medium old) (medium old) counts hearing is
            (Appends-nil now)
            (goes_as _ _ memory (medium old) (append-nil (turns_in heard)) hearing.goes),
      ))

  pub hears_refused : {D : Type 0} (medium : D → Medium) (heard : List Heard) (number : ℕ)
      (now later : Option (List ℕ))
      (memory after : Memory) (old new : D) (text : List ℕ) → number ≡ next_line_number (length heard)
      → Hearing (setting told converters start before) heard now memory (medium old) → IsBad text
      → Appends now later (bad_line_text number) → after ≡ memory → new ≡ old
      → HearsOne (setting told converters start before) heard text later after (medium new)
  hears_refused {D} medium heard number now later memory after old new text counts hearing bad wrote same_memory
      same_disk =
      subst (λ (d : D). HearsOne (setting told converters start before) heard text later after (medium d))
      (sym same_disk)
      (subst (λ (m : Memory). HearsOne (setting told converters start before) heard text later m (medium old))
      (sym same_memory) (
        refused text,
        refl,
        hears heard (refused text) number now later memory memory (medium old) (medium old) counts hearing bad wrote
            (goes_as _ _ memory (medium old) (append-nil (turns_in heard)) hearing.goes),
      ))

  -- the command of the line was answered
  turned : (heard : List Heard) (now : Option (List ℕ)) (memory after : Memory) (old new : Medium) (text : List ℕ)
      (reply : Reply) → IsLawful told new → Elapses old new
      → Hearing (setting told converters start before) heard now memory old
      → (a : IsLineAnswered told converters text (runtime_at memory old) (runtime_at after new) reply)
      → (w : World) × Goes told converters start (turns_in heard ++ turn a.event reply new w ∷ []) after new
  turned heard now memory after old new text reply lawful time hearing a =
      goes_on converters start told (turns_in heard) a.event reply memory after old new lawful time hearing.goes
      a.blamed a.stepped

  pub hears_reply : (heard : List Heard) (number : ℕ) (now later : Option (List ℕ)) (memory after : Memory)
      (old new : Medium) (text : List ℕ) (reply : Reply) → number ≡ next_line_number (length heard)
      → IsLawful told new → Elapses old new
      → Hearing (setting told converters start before) heard now memory old
      → IsLineAnswered told converters text (runtime_at memory old) (runtime_at after new) reply
      → Appends now later (reply_text reply)
      → HearsOne (setting told converters start before) heard text later after new
  hears_reply heard number now later memory after old new text reply counts lawful time hearing a wrote =
      let more = turned heard now memory after old new text reply lawful time hearing a in
      let h : Heard = answered text (turn a.event reply new more.0) in (
        h,
        refl,
        hears heard h number now later memory after old new counts hearing a.spelled wrote more.1,
      )

  -- ---- how it ends

  rests : (turns : List Turn) (memory : Memory) (now : Medium) → Goes told converters start turns memory now
      → IsTrue told → IsSettled (last_of (after_start (world_at start.image)) (worlds_of turns)) now
  rests turns memory now goes tells =
      let g : IsGoing converters start turns memory now = goes.disk tells in
      ends_settled converters start turns memory g.0 now g.2

  -- where no command is in progress
  pub service : AppLaws → (ending : endings.Ending) → HasStarted ending → (heard : List Heard) (all : List (List ℕ))
      (now : Option (List ℕ)) (memory : Memory) (medium : Medium) → AllByRecursion IsHeard heard
      → Goes told converters start (turns_in heard) memory medium
      → ServesBy (IsTrue told
      → IsSettled (last_of (after_start (world_at start.image)) (worlds_of (turns_in heard))) medium) ending heard all
      before now
      → Service (setting told converters start before) ending all now medium
  service laws ending begun heard all now memory medium are goes ends = record {
    heard = heard;
    are = are;
    ends = ends;
    failures = counts_whole goes.blamed;
    disk = courses.rests told converters start None laws ending begun (lines_in heard) all (turns_in heard) None
        memory medium goes;
  }

  -- the same lines under another name
  pub service_along : (ending : endings.Ending) (all same : List (List ℕ)) (now : Option (List ℕ)) (medium : Medium)
      → same ≡ all → Service (setting told converters start before) ending all now medium
      → Service (setting told converters start before) ending same now medium
  service_along ending all same now medium is course =
      subst (λ (l : List (List ℕ)). Service (setting told converters start before) ending l now medium) (sym is)
      course

  -- at the line `end`
  pub service_end : {D : Type 0} (medium : D → Medium) → AppLaws → (heard : List Heard) (others : List (List ℕ))
      (now : Option (List ℕ)) (memory : Memory) (old new : D) (text : List ℕ)
      → Hearing (setting told converters start before) heard now memory (medium old) → text ≡ codes "end" → new ≡ old
      → Service (setting told converters start before) endings.end_line (lines_in heard ++ text ∷ others) now
      (medium new)
  service_end {D} medium laws heard others now memory old new text hearing is same =
      subst (λ (d : D). Service (setting told converters start before) endings.end_line
      (lines_in heard ++ text ∷ others) now (medium d)) (sym same)
      (service laws endings.end_line tt heard (lines_in heard ++ text ∷ others) now memory (medium old) hearing.are
      hearing.goes (record {
        others = others;
        next = ap (λ (t : List ℕ). lines_in heard ++ t ∷ others) is;
        wrote = hearing.wrote;
      }))

  -- memory ran out between commands
  pub service_memory : AppLaws → (heard : List Heard) (others : List (List ℕ)) (now : Option (List ℕ))
      (memory : Memory) (medium : Medium) → Hearing (setting told converters start before) heard now memory medium
      → Service (setting told converters start before) endings.memory (lines_in heard ++ others) now medium
  service_memory laws heard others now memory medium hearing =
      service laws endings.memory tt heard (lines_in heard ++ others) now memory medium hearing.are hearing.goes
      (inl (record { others = others; next = refl; wrote = hearing.wrote }))

  -- in a command
  service_stopped : AppLaws → (heard : List Heard) (others : List (List ℕ)) (now : Option (List ℕ)) (memory : Memory)
      (old new : Medium) (text : List ℕ) → IsLawful told new → Elapses old new
      → Hearing (setting told converters start before) heard now memory old
      → IsStopped told converters text memory old new
      → Service (setting told converters start before) endings.memory (lines_in heard ++ text ∷ others) now new
  service_stopped laws heard others now memory old new text lawful time hearing s = record {
    heard = heard;
    are = hearing.are;
    ends = inl (record { others = text ∷ others; next = refl; wrote = hearing.wrote });
    failures = record {
      last = old.faults;
      blamed = hearing.goes.blamed;
      later = time.faults;
      passes = λ apart. s.fed;
    };
    disk = λ tells.
        let g : IsGoing converters start (turns_in heard) memory old = hearing.goes.disk tells in
        stops_disk laws converters endings.memory (lines_in heard) (lines_in heard ++ text ∷ others) others text
        (turns_in heard) None None s.event memory g.0 told start old new lawful time tt (λ over. over)
        tt refl s.spelled g.2 (s.stopped tells g.0 g.1);
  }

  -- at a line: in reading it, or in its command
  pub service_short : {D : Type 0} (medium : D → Medium) → AppLaws
      → (heard : List Heard) (others : List (List ℕ)) (now : Option (List ℕ)) (memory : Memory) (old new : D)
      (text : List ℕ) → IsLawful told (medium new) → Elapses (medium old) (medium new)
      → Hearing (setting told converters start before) heard now memory (medium old)
      → (new ≡ old) ⊎ IsStopped told converters text memory (medium old) (medium new)
      → Service (setting told converters start before) endings.memory (lines_in heard ++ text ∷ others) now
      (medium new)
  service_short {D} medium laws heard others now memory old new text lawful time hearing (inl same) =
      subst (λ (d : D). Service (setting told converters start before) endings.memory
      (lines_in heard ++ text ∷ others)
      now (medium d)) (sym same)
      (service_memory laws heard (text ∷ others) now memory (medium old) hearing)
  service_short {D} medium laws heard others now memory old new text lawful time hearing (inr stopped) =
      service_stopped laws heard others now memory (medium old) (medium new) text lawful time hearing stopped

  -- in the text of a line, of which the sink took a prefix, or for which there was no memory
  service_cut : AppLaws → (ending : Ending) (heard : List Heard) (h : Heard) (number : ℕ) (others : List (List ℕ))
      (now later : Option (List ℕ)) (memory after : Memory) (old new : Medium) → number
      ≡ next_line_number (length heard)
      → 0 < length (heard_text number h)
      → Hearing (setting told converters start before) heard now memory old → IsHeard h
      → PutsOutput {T = Unit {0}} (heard_text number h) now later (Err ending)
      → Goes told converters start (turns_in heard ++ turn_in h) after new
      → Service (setting told converters start before) (ending_of ending) (lines_in heard ++ heard_line h ∷ others)
      later new
  service_cut laws ending heard h number others now later memory after old new counts some hearing is puts goes =
      go ending puts
    where
      next : lines_in heard ++ heard_line h ∷ others ≡ lines_in (heard ++ h ∷ []) ++ others
      next = sym (append_assoc (lines_in heard) (heard_line h ∷ []) others)
          ∙ ap (λ (ls : List (List ℕ)). ls ++ others) (sym (lines_on heard h))

      there : Goes told converters start (turns_in (heard ++ h ∷ [])) after new
      there = goes_as _ _ after new (turns_on heard h) goes

      cut : (count : ℕ) → count < length (heard_text number h) → Appends now later (take count (heard_text number h))
          → IsCutAfter count (heard ++ h ∷ []) (lines_in heard ++ heard_line h ∷ others) before later
      cut count short wrote = record {
        others = others;
        next = next;
        earlier = heard;
        last = h;
        heard_are = refl;
        short = subst (λ (n : ℕ). count < length (heard_text n h)) counts short;
        wrote = Appends-trans before now later _ _ hearing.wrote
            (subst (λ (n : ℕ). Appends now later (take count (heard_text n h))) counts wrote);
      }

      go : (e : Ending) → PutsOutput {T = Unit {0}} (heard_text number h) now later (Err e)
          → Service (setting told converters start before) (ending_of e) (lines_in heard ++ heard_line h ∷ others)
          later new
      go AllRead p = absurd p
      go EndLine p = absurd p
      go BadLine p = absurd p
      go OutOfMemory p = service laws endings.memory tt (heard ++ h ∷ []) (lines_in heard
          ++ heard_line h ∷ others) later
          after new (are_on heard h hearing.are is) there
          (inr (rests (turns_in (heard ++ h ∷ [])) after new there, cut 0 some p))
      go Source p = absurd p
      go Sink p = service laws endings.sink tt (heard ++ h ∷ []) (lines_in heard
          ++ heard_line h ∷ others) later after new
          (are_on heard h hearing.are is) there (p.0, cut p.0 p.1 p.2)
      go TooLong p = absurd p

  pub service_in_reply : AppLaws → (ending : Ending) (heard : List Heard) (number : ℕ) (others : List (List ℕ))
      (now later : Option (List ℕ)) (memory after : Memory) (old new : Medium) (text : List ℕ) (reply : Reply)
      → number ≡ next_line_number (length heard) → IsLawful told new → Elapses old new
      → Hearing (setting told converters start before) heard now memory old
      → IsLineAnswered told converters text (runtime_at memory old) (runtime_at after new) reply
      → PutsOutput {T = Unit {0}} (reply_text reply) now later (Err ending)
      → Service (setting told converters start before) (ending_of ending) (lines_in heard ++ text ∷ others) later new
  service_in_reply laws ending heard number others now later memory after old new text reply counts lawful time
      hearing
      a puts =
      let more = turned heard now memory after old new text reply lawful time hearing a in
      service_cut laws ending heard (answered text (turn a.event reply new more.0)) number others now later
      memory after old new counts (has_end reply) hearing a.spelled puts more.1

  pub service_in_refusal : {D : Type 0} (medium : D → Medium) → AppLaws → (ending : Ending) (heard : List Heard)
      (number : ℕ) (others : List (List ℕ)) (now later : Option (List ℕ)) (memory : Memory) (old new : D)
      (text : List ℕ) → number ≡ next_line_number (length heard)
      → Hearing (setting told converters start before) heard now memory (medium old) → IsBad text
      → PutsOutput {T = Unit {0}} (bad_line_text number) now later (Err ending) → new ≡ old
      → Service (setting told converters start before) (ending_of ending) (lines_in heard ++ text ∷ others) later
      (medium new)
  service_in_refusal {D} medium laws ending heard number others now later memory old new text counts hearing bad puts
      same =
      subst (λ (d : D). Service (setting told converters start before) (ending_of ending)
      (lines_in heard ++ text ∷ others) later (medium d)) (sym same)
      (service_cut laws ending heard (refused text) number others now later memory memory (medium old) (medium old)
      counts (some_text number) hearing bad puts
      (goes_as _ _ memory (medium old) (append-nil (turns_in heard)) hearing.goes))
