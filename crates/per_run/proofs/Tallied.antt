-- One reply more is counted; and the lines of a number, one after the other.
use Rattle.std.proofs.Common.{ℕ, zero, suc, List, [], ◌∷◌, ◌++◌, length, map, ◌≡◌, ◌≤◌, ◌<◌, ◌+◌, ◌-◌, ◌^◌, ◌&&◌, not}
use Rattle.std.proofs.Common.{min, cond, refl, sym, ◌∙◌, ap, ap₂, subst, arith, Option, Some, None, Bool, true, false}
use Rattle.std.proofs.Common.{count_by, inl, ◌⊎◌, append-nil, append_assoc, drop, length-append, get_or, take, add-one}
use Rattle.std.proofs.Common.{Bor}
use Rattle.std.specs.Option.{option_or}
use Rattle.std.proofs.lemmas.List.Sums.{sum_by_push, count_by-le-length}
use Rattle.std.proofs.Math.Seq.{take-suc}
use Rattle.std.proofs.lemmas.List.{length-take, map-append, take-append-drop, take_all}
use Rattle.disk_model.specs.Medium.{Medium, IsLawful, Elapses}
use Rattle.command_text.specs.declared.replies.Answer.{Answer}
use Rattle.command_text.specs.declared.replies.Answer.TheVariants as answer
use Rattle.command_text.specs.declared.replies.Reply.{Reply}
use Rattle.command_text.specs.Generated.{first_lines, generated, generated_line, generated_lines, last_lines}
use Rattle.command_text.specs.Generated.{next_number}
use Rattle.run_model.specs.AppLaws.{AppLaws}
use Rattle.run_model.specs.Converters.{Converters}
use Rattle.run_model.specs.Runtimes.{Memory, runtime_at}
use Rattle.run_model.specs.Turns.{Turn, turn, replies_of}
use Rattle.run_model.specs.Worlds.{World}
use Rattle.per_run.specs.declared.answering.LineOutcome.{LineOutcome}
use Rattle.per_run.specs.declared.answering.LineOutcome.TheVariants as outcome
use Rattle.per_run.specs.declared.tally.Tally.{Tally}
use Rattle.per_run.specs.Jobs.{BeginWith, done_in, error_in, number_in, is_done, is_error, is_other, size_given}
use Rattle.per_run.specs.Jobs.{summary, summary_text}
use Rattle.per_run.specs.Steps.{Counted, Goes, Handled, IsLineAnswered, IsLineOutcome, IsStopped, RunsShort, Tallies}
use Rattle.per_run.proofs.Courses.{course_memory, course_short}
use Rattle.per_run.proofs.Gives.{give_turn, replies_on}
use Rattle.per_run.proofs.Goes.{goes_on}
use Rattle.per_run.proofs.Settings.{disk_as, setting}

-- ---- one reply more

count_yes : (p : Reply → Bool) (rs : List Reply) (r : Reply) (n : ℕ) → length rs < 2 ^ 32 → n ≡ count_by p rs
    → p r ≡ true → min (n + 1) (2 ^ 64 - 1) ≡ count_by p (rs ++ r ∷ [])
count_yes p rs r n few is one =
    let more : count_by p (rs ++ r ∷ []) ≡ count_by p rs + 1 =
    sum_by_push (λ x. cond (p x) 1 0) rs r ∙ ap (λ (b : Bool). count_by p rs + cond b 1 0) one in
    let least : count_by p rs ≤ length rs = count_by-le-length p rs in
    omega (arith, more, least, is, few)

count_no : (p : Reply → Bool) (rs : List Reply) (r : Reply) (n : ℕ) → n ≡ count_by p rs → p r ≡ false
    → n ≡ count_by p (rs ++ r ∷ [])
count_no p rs r n is none =
    let more : count_by p (rs ++ r ∷ []) ≡ count_by p rs + 0 =
    sum_by_push (λ x. cond (p x) 1 0) rs r ∙ ap (λ (b : Bool). count_by p rs + cond b 1 0) none in
    omega (arith, more, is)

or_none : (size : Option ℕ) → option_or size None ≡ size
or_none None = refl
or_none (Some n) = refl

or_on : (a b c : Option ℕ) → option_or a (option_or b c) ≡ option_or (option_or a b) c
or_on None b c = refl
or_on (Some n) b c = refl

size_on : (rs : List Reply) (r : Reply) → size_given (rs ++ r ∷ []) ≡ option_or (size_given rs) (number_in r.answer)
size_on [] r = or_none (number_in r.answer)
size_on (x ∷ rs) r = ap (option_or (number_in x.answer)) (size_on rs r)
    ∙ or_on (number_in x.answer) (size_given rs) (number_in r.answer)

sized : (rs : List Reply) (r : Reply) (old new : Option ℕ) → old ≡ size_given rs
    → new ≡ option_or old (number_in r.answer) → new ≡ size_given (rs ++ r ∷ [])
sized rs r old new is more = more ∙ ap (λ (o : Option ℕ). option_or o (number_in r.answer)) is ∙ sym (size_on rs r)

both_no : (a b : Bool) → a ≡ true → not a && not b ≡ false
both_no true b is = refl
both_no false b is = let bad : false ≡ true = is in cc

second_no : (a b : Bool) → a ≡ false → b ≡ true → not a && not b ≡ false
second_no true b none is = let bad : true ≡ false = none in cc
second_no false true none is = refl
second_no false false none is = let bad : false ≡ true = is in cc

neither : (a b : Bool) → a ≡ false → b ≡ false → not a && not b ≡ true
neither true b no_a no_b = let bad : true ≡ false = no_a in cc
neither false true no_a no_b = let bad : true ≡ false = no_b in cc
neither false false no_a no_b = refl

pub tallied_done : (rs : List Reply) (r : Reply) (t : Tally) (n : ℕ) (size : Option ℕ) → length rs < 2 ^ 32
    → Tallies rs t → done_in r.answer ≡ true → error_in r.answer ≡ false
    → n ≡ min (t.done + 1) (2 ^ 64 - 1) → size ≡ option_or t.size (number_in r.answer)
    → Tallies (rs ++ r ∷ []) (record t { done = n; size = size })
tallied_done rs r t n size few was is none more sizes = record {
  done = more ∙ count_yes is_done rs r t.done few was.done is;
  other = count_no is_other rs r t.other was.other (both_no (done_in r.answer) (error_in r.answer) is);
  errors = count_no is_error rs r t.errors was.errors none;
  size = sized rs r t.size size was.size sizes;
}

pub tallied_error : (rs : List Reply) (r : Reply) (t : Tally) (n : ℕ) (size : Option ℕ) → length rs < 2 ^ 32
    → Tallies rs t → done_in r.answer ≡ false → error_in r.answer ≡ true
    → n ≡ min (t.errors + 1) (2 ^ 64 - 1) → size ≡ option_or t.size (number_in r.answer)
    → Tallies (rs ++ r ∷ []) (record t { errors = n; size = size })
tallied_error rs r t n size few was none is more sizes = record {
  done = count_no is_done rs r t.done was.done none;
  other = count_no is_other rs r t.other was.other (second_no (done_in r.answer) (error_in r.answer) none is);
  errors = more ∙ count_yes is_error rs r t.errors few was.errors is;
  size = sized rs r t.size size was.size sizes;
}

pub tallied_other : (rs : List Reply) (r : Reply) (t : Tally) (n : ℕ) (size : Option ℕ) → length rs < 2 ^ 32
    → Tallies rs t → done_in r.answer ≡ false → error_in r.answer ≡ false
    → n ≡ min (t.other + 1) (2 ^ 64 - 1) → size ≡ option_or t.size (number_in r.answer)
    → Tallies (rs ++ r ∷ []) (record t { other = n; size = size })
tallied_other rs r t n size few was not_done not_error more sizes = record {
  done = count_no is_done rs r t.done was.done not_done;
  other = more ∙ count_yes is_other rs r t.other few was.other
      (neither (done_in r.answer) (error_in r.answer) not_done not_error);
  errors = count_no is_error rs r t.errors was.errors not_error;
  size = sized rs r t.size size was.size sizes;
}

-- an answer of the one sort is not of the other
done_or_error : (a : Answer) → done_in a ≡ true → error_in a ≡ false
done_or_error answer.Done is = refl
done_or_error (answer.Val v) is = refl
done_or_error (answer.Octets bytes) is = refl
done_or_error (answer.Byte b) is = refl
done_or_error (answer.Number n) is = refl
done_or_error (answer.Truth b) is = refl
done_or_error (answer.Names names) is = refl
done_or_error (answer.Handle h) is = refl
done_or_error (answer.Info i) is = refl
done_or_error (answer.Status s) is = refl
done_or_error (answer.Error e) is = let bad : false ≡ true = is in cc

pub done_only : (r : Reply) → done_in r.answer ≡ true → error_in r.answer ≡ false
done_only r is = done_or_error r.answer is

-- the text of the counts is that of the replies
pub summary_is : (lines : ℕ) (rs : List Reply) (t : Tally) → Tallies rs t
    → summary_text lines t.done t.other t.errors t.size ≡ summary lines rs
summary_is lines rs t is = ap₂ (λ (d o : ℕ). summary_text lines d o t.errors t.size) is.done is.other
    ∙ ap₂ (λ (e : ℕ) (size : Option ℕ). summary_text lines (count_by is_done rs) (count_by is_other rs) e size)
    is.errors is.size

-- ---- one line more

length_replies : (ts : List Turn) → length (replies_of ts) ≡ length ts
length_replies [] = refl
length_replies (t ∷ ts) = ap suc (length_replies ts)

module _ (told : Bool) (converters : Converters) (start : Medium) where
  pub counted_more : (lines : List (List ℕ)) (text : List ℕ) (reply : Reply) (memory after : Memory)
      (tally tally' : Tally) (old new : Medium) → IsLawful told new → Elapses old new
      → length lines < 2 ^ 32 → Counted (setting told converters start None) lines memory tally old
      → IsLineAnswered told converters text (runtime_at memory old) (runtime_at after new) reply
      → ((replies : List Reply) → length replies < 2 ^ 32 → Tallies replies tally
      → Tallies (replies ++ reply ∷ []) tally')
      → Counted (setting told converters start None) (lines ++ text ∷ []) after tally' new
  counted_more lines text reply memory after tally tally' old new lawful time few counted a tallies =
      let more : (w : World) × Goes told converters start (counted.turns ++ turn a.event reply new w ∷ [])
      after new =
      goes_on converters start told counted.turns a.event reply memory after old new lawful time counted.goes
      a.blamed a.stepped in
      let t : Turn = turn a.event reply new more.0 in
      record {
        turns = counted.turns ++ t ∷ [];
        gives = give_turn lines counted.turns text t counted.gives a.spelled;
        each = length-append counted.turns (t ∷ []) ∙ ap (λ (n : ℕ). n + 1) counted.each
            ∙ sym (length-append lines (text ∷ []));
        goes = more.1;
        tallies = subst (λ (rs : List Reply). Tallies rs tally') (sym (replies_on counted.turns t))
            (tallies (replies_of counted.turns) (subst (λ (n : ℕ). n < 2 ^ 32)
            (sym (length_replies counted.turns ∙ counted.each)) few) counted.tallies);
      }

  pub counted_along : (lines same : List (List ℕ)) (memory : Memory) (tally : Tally) (medium : Medium) → same ≡ lines
      → Counted (setting told converters start None) lines memory tally medium
      → Counted (setting told converters start None) same memory tally medium
  counted_along lines same memory tally medium is counted =
      subst (λ (l : List (List ℕ)). Counted (setting told converters start None) l memory tally medium) (sym is)
      counted

-- ---- lines that begin with others

pub begin_less : (lines more all : List (List ℕ)) → BeginWith (lines ++ more) all → BeginWith lines all
begin_less lines more all begin = (more ++ begin.0, begin.1 ∙ append_assoc lines more begin.0)

pub begin_as : (lines same all : List (List ℕ)) → lines ≡ same → BeginWith lines all → BeginWith same all
begin_as lines same all is begin = subst (λ (l : List (List ℕ)). BeginWith l all) is begin

pub begin_here : (all : List (List ℕ)) → BeginWith all all
begin_here all = ([], sym (append-nil all))

-- ---- the lines of a number

-- the number after that many others
abbrev pub number_after : ℕ → ℕ → ℕ
number_after x zero = x
number_after x (suc n) = number_after (next_number x) n

pub next_after : (x n : ℕ) → number_after x (suc n) ≡ next_number (number_after x n)
next_after x zero = refl
next_after x (suc n) = next_after (next_number x) n

-- the lines with one more
abbrev with_line : ℕ → ℕ → ℕ → ℕ → List (List ℕ)
with_line n i x k = generated_lines n i x ++ generated_line (next_number (number_after x n)) k ∷ []

place_none : (i : ℕ) → i ≡ i + 0
place_none i = omega arith

place_more : (i n : ℕ) → (i + 1) + n ≡ i + suc n
place_more i n = omega arith

pub lines_more : (n i x : ℕ) → generated_lines (suc n) i x ≡ with_line n i x (i + n)
lines_more zero i x = ap (λ (k : ℕ). generated_line (next_number x) k ∷ []) (place_none i)
lines_more (suc n) i x = ap (λ (ls : List (List ℕ)). generated_line (next_number x) i ∷ ls)
    (lines_more n (i + 1) (next_number x))
    ∙ ap (λ (k : ℕ). generated_line (next_number x) i ∷ with_line n (i + 1) (next_number x) k) (place_more i n)

length_lines : (n i x : ℕ) → length (generated_lines n i x) ≡ n
length_lines zero i x = refl
length_lines (suc n) i x = ap suc (length_lines n (i + 1) (next_number x))

pub length_all : (n : ℕ) → length (generated n) ≡ n + 5
length_all n = length-append (first_lines ++ generated_lines n 1 n) last_lines
    ∙ ap (λ (k : ℕ). k + 3) (length-append first_lines (generated_lines n 1 n)
    ∙ ap (λ (k : ℕ). 2 + k) (length_lines n 1 n)) ∙ omega arith

pub generated_on : (before : List (List ℕ)) (n i x : ℕ) (text : List ℕ) → x ≡ number_after n i
    → text ≡ generated_line (next_number x) (i + 1)
    → before ++ generated_lines (i + 1) 1 n ≡ (before ++ generated_lines i 1 n) ++ text ∷ []
generated_on before n i x text behind is =
    ap (λ (k : ℕ). before ++ generated_lines k 1 n) (add-one i)
    ∙ ap (λ (ls : List (List ℕ)). before ++ ls) (lines_more i 1 n)
    ∙ ap (λ (t : List ℕ). before ++ (generated_lines i 1 n ++ t ∷ []))
    (sym (is ∙ ap₂ (λ (y k : ℕ). generated_line (next_number y) k) behind (turned i)))
    ∙ sym (append_assoc before (generated_lines i 1 n) (text ∷ []))
  where
    turned : (k : ℕ) → k + 1 ≡ 1 + k
    turned k = omega arith

pub number_on : (n i x next : ℕ) → x ≡ number_after n i → next ≡ next_number x → next ≡ number_after n (i + 1)
number_on n i x next behind is = is ∙ ap next_number behind ∙ sym (next_after n i)
    ∙ ap (number_after n) (sym (add-one i))

pub few_generated : (before : List (List ℕ)) (n i : ℕ) → length before + n < 2 ^ 32 → i < n
    → length (before ++ generated_lines i 1 n) < 2 ^ 32
few_generated before n i few lt = omega (
  arith,
  few,
  lt,
  length-append before (generated_lines i 1 n),
  length_lines i 1 n,
)

none_more : (b : ℕ) → 0 + b ≡ b
none_more b = omega arith

one_more : (a b : ℕ) → suc a + b ≡ suc (a + b)
one_more a b = omega arith

-- the first of them are lines before the others
lines_split : (a b i x : ℕ) → generated_lines (a + b) i x
    ≡ generated_lines a i x ++ generated_lines b (i + a) (number_after x a)
lines_split zero b i x = ap (λ (n : ℕ). generated_lines n i x) (none_more b)
    ∙ ap (λ (k : ℕ). generated_lines b k x) (place_none i)
lines_split (suc a) b i x = ap (λ (n : ℕ). generated_lines n i x) (one_more a b)
    ∙ ap (λ (ls : List (List ℕ)). generated_line (next_number x) i ∷ ls)
    (lines_split a b (i + 1) (next_number x)
    ∙ ap (λ (k : ℕ). generated_lines a (i + 1) (next_number x)
    ++ generated_lines b k (number_after (next_number x) a)) (place_more i a))

-- all lines begin with those up to the next one
pub begin_generated : (before all : List (List ℕ)) (n i : ℕ) → i < n → BeginWith (before ++ generated_lines n 1 n) all
    → BeginWith (before ++ generated_lines (i + 1) 1 n) all
begin_generated before all n i lt begin =
    let parts : n ≡ (i + 1) + (n - (i + 1)) = omega (arith, lt) in
    begin_less (before ++ generated_lines (i + 1) 1 n)
    (generated_lines (n - (i + 1)) (1 + (i + 1)) (number_after n (i + 1))) all
    (begin_as _ _ all (ap (λ (k : ℕ). before ++ generated_lines k 1 n) parts
    ∙ ap (λ (ls : List (List ℕ)). before ++ ls) (lines_split (i + 1) (n - (i + 1)) 1 n)
    ∙ sym (append_assoc before (generated_lines (i + 1) 1 n)
    (generated_lines (n - (i + 1)) (1 + (i + 1)) (number_after n (i + 1))))) begin)

-- ---- lines that are borrowed

abbrev pub texts_of : List (Bor (List ℕ)) → List (List ℕ)
texts_of lines = map (λ (l : Bor (List ℕ)). l.now) lines

pub each_on : (before : List (List ℕ)) (lines : List (Bor (List ℕ))) (i : ℕ) (d : Bor (List ℕ)) (text : List ℕ)
    → i < length lines → text ≡ (get_or lines i d).now
    → before ++ texts_of (take (i + 1) lines) ≡ (before ++ texts_of (take i lines)) ++ text ∷ []
each_on before lines i d text lt is =
    ap (λ (ls : List (Bor (List ℕ))). before ++ texts_of ls)
    (ap (λ (k : ℕ). take k lines) (add-one i) ∙ take-suc lines i d lt)
    ∙ ap (λ (ls : List (List ℕ)). before ++ ls) (map-append (λ (l : Bor (List ℕ)). l.now) (take i lines)
    (get_or lines i d ∷ []))
    ∙ ap (λ (t : List ℕ). before ++ (texts_of (take i lines) ++ t ∷ [])) (sym is)
    ∙ sym (append_assoc before (texts_of (take i lines)) (text ∷ []))

pub few_each : (before : List (List ℕ)) (lines : List (Bor (List ℕ))) (i : ℕ)
    → length (before ++ texts_of lines) < 2 ^ 32 → length (before ++ texts_of (take i lines)) < 2 ^ 32
few_each before lines i few = omega (
  arith,
  few,
  length-append before (texts_of lines),
  length-append before (texts_of (take i lines)),
  length_texts lines,
  length_texts (take i lines),
  length-take i lines,
)
  where
    length_texts : (ls : List (Bor (List ℕ))) → length (texts_of ls) ≡ length ls
    length_texts [] = refl
    length_texts (l ∷ ls) = ap suc (length_texts ls)

pub each_whole : (before : List (List ℕ)) (lines : List (Bor (List ℕ))) (i : ℕ) → length lines ≤ i
    → before ++ texts_of lines ≡ before ++ texts_of (take i lines)
each_whole before lines i all = ap (λ (ls : List (Bor (List ℕ))). before ++ texts_of ls) (sym (take_all i lines all))

-- all of them begin with those up to the next one
pub begin_each : (before all : List (List ℕ)) (lines : List (Bor (List ℕ))) (i : ℕ)
    → BeginWith (before ++ texts_of lines) all → BeginWith (before ++ texts_of (take i lines)) all
begin_each before all lines i begin = begin_less (before ++ texts_of (take i lines)) (texts_of (drop i lines)) all
    (begin_as _ _ all (ap (λ (ls : List (Bor (List ℕ))). before ++ texts_of ls) (sym (take-append-drop i lines))
    ∙ ap (λ (ls : List (List ℕ)). before ++ ls)
    (map-append (λ (l : Bor (List ℕ)). l.now) (take i lines) (drop i lines))
    ∙ sym (append_assoc before (texts_of (take i lines)) (texts_of (drop i lines)))) begin)

-- ---- memory ran out

-- a line of which no command was answered did nothing, or memory ran out in its command
pub unanswered : {D : Type 0} (told : Bool) (medium : D → Medium) (converters : Converters)
    (text : List ℕ) (memory after : Memory) (old new : D) (r : LineOutcome)
    → ((reply : Reply) → r ≡ outcome.Answered reply → ⊥)
    → IsLineOutcome (disk_as told medium) converters text (runtime_at memory old) (runtime_at after new) r
    → (new ≡ old) ⊎ IsStopped told converters text memory (medium old) (medium new)
unanswered told medium converters text memory after old new outcome.Nothing none it = inl it.2
unanswered told medium converters text memory after old new outcome.End none it = inl it.1
unanswered told medium converters text memory after old new outcome.Bad none it = inl it.2
unanswered told medium converters text memory after old new (outcome.Answered reply) none it =
    absurd (none reply refl)
unanswered told medium converters text memory after old new outcome.OutOfMemory none it = it

module _ (told : Bool) (converters : Converters) (start : Medium) where
  counted_handled : (lines : List (List ℕ)) (memory : Memory) (tally : Tally) (medium : Medium)
      → Counted (setting told converters start None) lines memory tally medium
      → Handled (setting told converters start None) lines None memory medium
  counted_handled lines memory tally medium counted = record {
    turns = counted.turns;
    gives = counted.gives;
    wrote = tt;
    goes = counted.goes;
  }

  -- between commands
  pub short_between : AppLaws → (lines all : List (List ℕ)) (memory : Memory) (tally : Tally) (medium : Medium)
      → Counted (setting told converters start None) lines memory tally medium → BeginWith lines all
      → RunsShort (setting told converters start None) all medium
  short_between laws lines all memory tally medium counted begin =
      subst (λ (l : List (List ℕ)). RunsShort (setting told converters start None) l medium) (sym begin.1)
      (course_memory told converters start None laws lines begin.0 None None memory medium
      (counted_handled lines memory tally medium counted) tt)

  -- at a line: in reading it, or in its command
  pub short_at : {D : Type 0} (medium : D → Medium) → AppLaws → (lines all : List (List ℕ)) (text : List ℕ)
      (memory : Memory) (tally : Tally) (old new : D) → IsLawful told (medium new) → Elapses (medium old) (medium new)
      → Counted (setting told converters start None) lines memory tally (medium old)
      → (new ≡ old) ⊎ IsStopped told converters text memory (medium old) (medium new)
      → BeginWith (lines ++ text ∷ []) all → RunsShort (setting told converters start None) all (medium new)
  short_at {D} medium laws lines all text memory tally old new lawful time counted ends begin =
      subst (λ (l : List (List ℕ)). RunsShort (setting told converters start None) l (medium new))
      (sym (begin.1 ∙ append_assoc lines (text ∷ []) begin.0))
      (course_short told converters start None medium laws lines begin.0 None memory old new text lawful time
      (counted_handled lines memory tally (medium old) counted) ends)
