-- A run over lines that are all in the grammar handles them all, where nothing fails.
use Rattle.std.proofs.Common.{ℕ, List, [], ◌∷◌, ◌++◌, length, ◌≡◌, ◌≤◌, ◌<◌, ◌⊎◌, ◌==◌, inl, inr, refl, sym, ◌∙◌, ap}
use Rattle.std.proofs.Common.{subst, arith, Option, Some, None, Bool, true, false, IsTrue, codes, append_assoc}
use Rattle.std.proofs.Common.{append-nil, length-append, if◌then◌else◌}
use Rattle.std.specs.List.{AllByRecursion}
use Rattle.std.specs.Prelude.{IfSome}
use Rattle.std.specs.Io.KnownBytes.{Consumes, IsAtEnd}
use Rattle.per_base.specs.Causes.{Rose}
use Rattle.disk_model.specs.Medium.{Medium}
use Rattle.command_text.specs.declared.calls.Event.{Event}
use Rattle.command_text.specs.declared.lines.Line.{Line}
use Rattle.command_text.specs.declared.lines.Line.TheVariants as line
use Rattle.command_text.specs.Grammar.{IsLine}
use Rattle.run_model.specs.Converters.{Converters}
use Rattle.run_model.specs.Edges.{Edges}
use Rattle.run_model.specs.Endings.{Ending, FailureCounts, HasCauseOf, EndsBy, IsInput, ending_status}
use Rattle.run_model.specs.Endings as endings
use Rattle.run_model.specs.Lines.{Give, IsBad, IsWellFormed, all_read, end_last, end_line, last_line, lines_of}
use Rattle.run_model.specs.Lines.{onto_first, split_lines}
use Rattle.run_model.specs.Runs.{Run}
use Rattle.run_model.specs.Turns.{Turn, events_of}

Lines : Type 0
Lines = List (List ℕ)

-- a text says one thing
abbrev pub OneLine : Type 0
OneLine = (text : List ℕ) (l other : Line) → IsLine text l → IsLine text other → l ≡ other

-- ---- lines that are nothing or a command's

abbrev IsFine : List ℕ → Type 0
IsFine text = IsLine text line.Nothing ⊎ ((e : Event) × IsLine text (line.Event e))

fine_each : (lines : List (List ℕ)) (events : List Event) → Give lines events → AllByRecursion IsFine lines
fine_each [] events gives = tt
fine_each (l ∷ ls) events (inl nothing) = (inl nothing.0, fine_each ls events nothing.1)
fine_each (l ∷ ls) events (inr next) = (inr (next.0, next.2), fine_each ls next.1 next.4)

the_end : IsLine (codes "end") line.End
the_end = record { short = omega arith; spelled = refl }

-- the end is none of them
not_end : OneLine → (text : List ℕ) → codes "end" ≡ text → IsFine text → ⊥
not_end one text is (inl nothing) =
    let bad : line.Nothing ≡ line.End = one text line.Nothing line.End nothing
    (subst (λ (t : List ℕ). IsLine t line.End) is the_end) in cc
not_end one text is (inr command) =
    let bad : line.Event command.0 ≡ line.End = one text (line.Event command.0) line.End command.1
    (subst (λ (t : List ℕ). IsLine t line.End) is the_end) in cc

bad_fine : (text : List ℕ) → IsBad text → IsFine text → ⊥
bad_fine text bad (inl nothing) = bad line.Nothing nothing
bad_fine text bad (inr command) = bad (line.Event command.0) command.1

bad_end : (text : List ℕ) → IsBad text → codes "end" ≡ text → ⊥
bad_end text bad is = bad line.End (subst (λ (t : List ℕ). IsLine t line.End) is the_end)

head_is : (a b : List ℕ) (xs ys : List (List ℕ)) → a ∷ xs ≡ b ∷ ys → a ≡ b
head_is a b xs ys is = cc

tail_is : (a b : List ℕ) (xs ys : List (List ℕ)) → a ∷ xs ≡ b ∷ ys → xs ≡ ys
tail_is a b xs ys is = cc

none_some : (b : List ℕ) (bs : List (List ℕ)) → ◌≡◌ {A = List (List ℕ)} [] (b ∷ bs) → ⊥
none_some b bs is = cc

no_end : OneLine → (lines others : List (List ℕ)) → AllByRecursion IsFine (lines ++ codes "end" ∷ others) → ⊥
no_end one [] others fine = not_end one (codes "end") refl fine.0
no_end one (l ∷ ls) others fine = no_end one ls others fine.1

-- ---- the lines of a part of the input

abbrev stepped : Bool → ℕ → List (List ℕ) × List ℕ → List (List ℕ) × List ℕ
stepped b x p = if b then ([] ∷ p.0, p.1) else onto_first x p

onto_more : (x : ℕ) (p q : List (List ℕ) × List ℕ) → ((more : List (List ℕ)) × (q.0 ≡ p.0 ++ more))
    → (more : List (List ℕ)) × ((onto_first x q).0 ≡ (onto_first x p).0 ++ more)
onto_more x ([], r) q is = ((onto_first x q).0, refl)
onto_more x ((l ∷ ls), r) ([], s) is = absurd (none_some l (ls ++ is.0) is.1)
onto_more x ((l ∷ ls), r) ((k ∷ ks), s) is =
    let same : k ≡ l = head_is k l ks (ls ++ is.0) is.1 in
    let others : ks ≡ ls ++ is.0 = tail_is k l ks (ls ++ is.0) is.1 in
    (is.0, ap (λ (t : List ℕ). (x ∷ t) ∷ ks) same ∙ ap (λ (ts : List (List ℕ)). (x ∷ l) ∷ ts) others)

step_more : (b : Bool) (x : ℕ) (p q : List (List ℕ) × List ℕ) → ((more : List (List ℕ)) × (q.0 ≡ p.0 ++ more))
    → (more : List (List ℕ)) × ((stepped b x q).0 ≡ (stepped b x p).0 ++ more)
step_more true x p q is = (is.0, ap (λ (ls : List (List ℕ)). [] ∷ ls) is.1)
step_more false x p q is = onto_more x p q is

split_more : (a b : List ℕ) → (more : List (List ℕ)) × ((split_lines (a ++ b)).0 ≡ (split_lines a).0 ++ more)
split_more [] b = ((split_lines b).0, refl)
split_more (x ∷ a) b = step_more (x == 10) x (split_lines a) (split_lines (a ++ b)) (split_more a b)

front_lines : (ended : Bool) (given rest : List ℕ) → (ended ≡ true → rest ≡ [])
    → (more : List (List ℕ)) × (lines_of true (given ++ rest) ≡ lines_of ended given ++ more)
front_lines true given rest over = (
  [],
  ap (lines_of true)
      (ap (λ (r : List ℕ). given ++ r) (over refl) ∙ append-nil given) ∙ sym (append-nil (lines_of true given)),
)
front_lines false given rest over =
    let m : (more : List (List ℕ)) × ((split_lines (given ++ rest)).0 ≡ (split_lines given).0 ++ more) =
    split_more given rest in (
      m.0 ++ last_line (split_lines (given ++ rest)).1,
      ap (λ (ls : List (List ℕ)). ls ++ last_line (split_lines (given ++ rest)).1) m.1
          ∙ append_assoc (split_lines given).0 m.0 (last_line (split_lines (given ++ rest)).1)
          ∙ ap (λ (ls : List (List ℕ)). ls ++ (m.0 ++ last_line (split_lines (given ++ rest)).1))
          (sym (append-nil (split_lines given).0)),
    )

first_is : (x y : ℕ) (xs ys : List ℕ) → x ∷ xs ≡ y ∷ ys → x ≡ y
first_is x y xs ys is = cc

others_are : (x y : ℕ) (xs ys : List ℕ) → x ∷ xs ≡ y ∷ ys → xs ≡ ys
others_are x y xs ys is = cc

-- of two prefixes the longer one begins with the shorter
longer : (front rest given others : List ℕ) → front ++ rest ≡ given ++ others → length front ≤ length given
    → (middle : List ℕ) × (given ≡ front ++ middle)
longer [] rest given others is le = (given, refl)
longer (x ∷ front) rest [] others is le = absurd (omega arith)
longer (x ∷ front) rest (y ∷ given) others is le =
    let same : x ≡ y = first_is x y (front ++ rest) (given ++ others) is in
    let less : length front ≤ length given = omega (arith, le) in
    let m : (middle : List ℕ) × (given ≡ front ++ middle) =
    longer front rest given others (others_are x y (front ++ rest) (given ++ others) is) less in
    (m.0, ap (λ (l : List ℕ). y ∷ l) m.1 ∙ ap (λ (z : ℕ). z ∷ (front ++ m.0)) (sym same))

-- ---- an input that is all in the grammar

-- its lines are fine, up to the end of the input or to the line that ends it
record IsGood (left : List ℕ) : Type 0 where
  lines : List (List ℕ)
  fine : AllByRecursion IsFine lines
  rest : List (List ℕ)
  all : lines_of true left ≡ lines ++ rest
  ends : (rest ≡ []) ⊎ ((others : List (List ℕ)) × (rest ≡ codes "end" ∷ others))

never : {P : Type 0} → false ≡ true → P
never is = let bad : ⊥ = cc in absurd bad

good_of : (left : List ℕ) → IsWellFormed left → IsGood left
good_of left (all_read events bound gives) =
    record {
      lines = lines_of true left;
      fine = fine_each (lines_of true left) events gives;
      rest = [];
      all =
          sym (append-nil (lines_of true left));
      ends = inl refl;
    }
good_of left (end_last lines events bound is gives) =
    record {
      lines = lines;
      fine = fine_each lines events gives;
      rest = codes "end" ∷ [];
      all = is;
      ends =
          inr ([], refl);
    }
good_of left (end_line front rest lines others events is few is_lines gives) =
    let m : (more : List (List ℕ)) × (lines_of true (front ++ rest) ≡ lines_of false front ++ more) =
    front_lines false front rest never in
    record {
      lines = lines;
      fine = fine_each lines events gives;
      rest = codes "end" ∷ (others ++ m.0);
      all = ap (lines_of true) is ∙ m.1 ∙ ap (λ (ls : List (List ℕ)). ls ++ m.0) is_lines
          ∙ append_assoc lines (codes "end" ∷ others) m.0;
      ends = inr (others ++ m.0, refl);
    }

no_bad : OneLine → (good lines rest others : List (List ℕ)) (text : List ℕ) → good ++ rest ≡ lines ++ text ∷ others
    → AllByRecursion IsFine good → AllByRecursion IsFine lines → IsBad text
    → (rest ≡ []) ⊎ ((more : List (List ℕ)) × (rest ≡ codes "end" ∷ more)) → ⊥
no_bad one [] [] rest others text is good fine bad (inl none) = none_some text others (sym none ∙ is)
no_bad one [] [] rest others text is good fine bad (inr over) = bad_end text bad (head_is _ _ _ _ (sym over.1 ∙ is))
no_bad one [] (l ∷ ls) rest others text is good fine bad (inl none) = none_some l (ls ++ text ∷ others) (sym none ∙ is)
no_bad one [] (l ∷ ls) rest others text is good fine bad (inr over) =
    not_end one l (head_is _ _ _ _ (sym over.1 ∙ is)) fine.0
no_bad one (g ∷ gs) [] rest others text is good fine bad ends =
    bad_fine text bad (subst IsFine (head_is _ _ _ _ is) good.0)
no_bad one (g ∷ gs) (l ∷ ls) rest others text is good fine bad ends =
    no_bad one gs ls rest others text (tail_is _ _ _ _ is) good.1 fine.1 bad ends

-- ---- what is left of the endings

-- the bytes that were taken are a prefix of what there was
abbrev IsFrontOf : (ended : Bool) → (given left : List ℕ) → Type 0
IsFrontOf ended given left = (rest : List ℕ) × (left ≡ given ++ rest) × (ended ≡ true → rest ≡ [])

front_of : (ended : Bool) (given left : List ℕ) (now : Option (List ℕ)) → Consumes (Some left) now given
    → (IsTrue ended → IsAtEnd now × (length given < 67108864)) → IsFrontOf ended given left
front_of ended given left None takes seen = absurd takes
front_of ended given left (Some rest) takes seen = (rest, takes, λ over. (seen over).0)

bad_never : OneLine → (left : List ℕ) → IsWellFormed left → (ended : Bool) (given : List ℕ) → IsFrontOf ended given left
    → (lines others : List (List ℕ)) (text : List ℕ) (events : List Event)
    → Give lines events → lines_of ended given ≡ lines ++ text ∷ others → IsBad text → ⊥
bad_never one left formed ended given front lines others text events gives next bad =
    let good : IsGood left = good_of left formed in
    let m : (more : List (List ℕ)) × (lines_of true (given ++ front.0) ≡ lines_of ended given ++ more) =
    front_lines ended given front.0 front.2 in
    let whole : good.lines ++ good.rest ≡ lines ++ text ∷ (others ++ m.0) =
    sym good.all ∙ ap (lines_of true) front.1 ∙ m.1 ∙ ap (λ (ls : List (List ℕ)). ls ++ m.0) next
    ∙ append_assoc lines (text ∷ others) m.0 in
    no_bad one good.lines lines good.rest (others ++ m.0) text whole good.fine (fine_each lines events gives) bad
    good.ends

long_never : OneLine → (left : List ℕ) → IsWellFormed left → (given rest : List ℕ) → left ≡ given ++ rest
    → length given ≡ 67108864 → (lines : List (List ℕ)) (events : List Event)
    → Give lines events → lines_of false given ≡ lines → ⊥
long_never one left (all_read events bound gives') given rest is long lines es gives next =
    omega (arith, bound, ap length is, length-append given rest, long)
long_never one left (end_last lines' events bound is_lines gives') given rest is long lines es gives next =
    omega (arith, bound, ap length is, length-append given rest, long)
long_never one left (end_line front others lines' more events is_left few is_lines gives') given rest is long lines es
    gives next =
    let le : length front ≤ length given = omega (arith, few, long) in
    let m : (middle : List ℕ) × (given ≡ front ++ middle) = longer front others given rest (sym is_left ∙ is) le in
    let s : (after : List (List ℕ)) × ((split_lines (front ++ m.0)).0 ≡ (split_lines front).0 ++ after) =
    split_more front m.0 in
    let begun : (split_lines front).0 ≡ lines' ++ codes "end" ∷ more =
    sym (append-nil (split_lines front).0) ∙ is_lines in
    let whole : lines ≡ lines' ++ codes "end" ∷ (more ++ s.0) =
    sym next ∙ append-nil (split_lines given).0 ∙ ap (λ (l : List ℕ). (split_lines l).0) m.1 ∙ s.1
    ∙ ap (λ (ls : List (List ℕ)). ls ++ s.0) begun ∙ append_assoc lines' (codes "end" ∷ more) s.0 in
    no_end one lines' (more ++ s.0) (subst (AllByRecursion IsFine) whole (fine_each lines es gives))

by_ending : OneLine → (left : List ℕ) → IsWellFormed left
    → (ending : Ending) (status : ℕ) (ended : Bool) (given : List ℕ) (lines : List (List ℕ)) (turns : List Turn)
    (before now : Option (List ℕ))
    (b n : FailureCounts) → status ≡ ending_status ending → IsFrontOf ended given left → Give lines (events_of turns)
    → EndsBy ending lines (lines_of ended given) turns before now
    → IsInput ending ended (length given) → HasCauseOf ending b n → (Rose b.disk n.disk → ⊥)
    → (Rose b.source n.source → ⊥) → (Rose b.sink n.sink → ⊥) → (status ≡ 0) ⊎ (status ≡ 4)
by_ending one left formed endings.all_read status ended given lines turns before now b n is front gives ends input cause
    disk source sink = inl is
by_ending one left formed endings.end_line status ended given lines turns before now b n is front gives ends input cause
    disk source sink = inl is
by_ending one left formed endings.bad_line status ended given lines turns before now b n is front gives ends input cause
    disk source sink =
    absurd (bad_never one left formed ended given front lines ends.others ends.text (events_of turns) gives ends.next
    ends.bad)
by_ending one left formed endings.device status ended given lines turns before now b n is front gives ends input cause
    disk source sink = absurd (disk cause)
by_ending one left formed endings.start_memory status ended given lines turns before now b n is front gives ends input
    cause disk source sink = inr is
by_ending one left formed endings.memory status ended given lines turns before now b n is front gives ends input cause
    disk source sink = inr is
by_ending one left formed endings.source status ended given lines turns before now b n is front gives ends input cause
    disk source sink = absurd (source cause)
by_ending one left formed endings.sink status ended given lines turns before now b n is front gives ends input cause
    disk source sink = absurd (sink cause)
by_ending one left formed endings.too_long status ended given lines turns before now b n is front gives ends input cause
    disk source sink =
    absurd (long_never one left formed given front.0 front.1 input.1 lines (events_of turns) gives
    (subst (λ (e : Bool). lines_of e given ≡ lines) input.0 ends.next))

pub completes : OneLine → (told : Bool) (converters : Converters) (status : ℕ) (before after : Edges Medium)
    → Run told converters status before after → (Rose before.disk.faults after.disk.faults → ⊥)
    → (Rose before.source_failures after.source_failures → ⊥) → (Rose before.sink_failures after.sink_failures → ⊥)
    → IfSome before.left (λ l. IsWellFormed l → (status ≡ 0) ⊎ (status ≡ 4))
completes one told converters status before after r disk source sink = go before.left r.taken
  where
    go : (left : Option (List ℕ)) → Consumes left after.left r.given
        → IfSome left (λ l. IsWellFormed l → (status ≡ 0) ⊎ (status ≡ 4))
    go None takes = tt
    go (Some left) takes = λ formed.
        by_ending one left formed r.ending status r.ended r.given r.lines r.turns before.taken after.taken _ _
        r.status_is (front_of r.ended r.given left after.left takes r.end_seen) r.gives r.ends r.input r.cause disk
        source sink
