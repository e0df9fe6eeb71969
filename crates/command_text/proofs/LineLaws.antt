-- Events and lines: what is read is spelled so and right, and what is right and spelled so is read.
use Rattle.std.proofs.Common.{◌≡◌, ℕ, ◌≤◌, ◌<◌, ◌+◌, ◌-◌, ◌^◌, ◌&&◌, true, false, cond, nat_eq, nat_le, List, [], ◌∷◌}
use Rattle.std.proofs.Common.{◌++◌, length, Option, Some, None, Result, Ok, Err, inl, inr, refl, sym, ap, subst, ◌∙◌}
use Rattle.std.proofs.Common.{arith}
use Rattle.std.specs.Prelude.{codes, IfOk}
use Rattle.std.specs.Str.{bytes_eq}
use Rattle.std.proofs.lemmas.Bool.{and_parts, eqb-true, ne_eqb, leb-true, le-leb}
use Rattle.std.proofs.lemmas.Slice.Eq.{bytes_eq-Decides}
use Rattle.per_base.specs.Fields.{◌>>=◌}
use Rattle.value_text.specs.Whole.{unsigned_in}
use Rattle.value_text.specs.lemmas.Steps.{bind_some, if_some, else_some, chosen, some_is}
use Rattle.value_text.specs.lemmas.WholeLaws.{unsigned_in_takes, unsigned_in_again}
use Rattle.command_text.specs.declared.calls.Event.{Event}
use Rattle.command_text.specs.declared.calls.Event.TheVariants as event
use Rattle.command_text.specs.declared.errors.LineError.{LineError}
use Rattle.command_text.specs.declared.errors.LineError.TheVariants as error
use Rattle.command_text.specs.declared.lines.Line.{Line}
use Rattle.command_text.specs.declared.lines.Line.TheVariants as line
use Rattle.command_text.specs.Grammar.{has_feed, form, form_text, line_of, IsEvent, Spells, IsLine}
use Rattle.command_text.specs.Reading.{ReadsLine, split, call_in, application_in, event_in, line_in}
use Rattle.command_text.proofs.Splits.{split_takes, split_again, has_space}
use Rattle.command_text.proofs.CallLaws.{call_takes, call_again}

-- ---- the application

application_takes : (text : List ℕ) (a : ℕ) → application_in text ≡ Some a → (text ≡ (48 + a) ∷ []) × (a < 8)
application_takes [] a e = absurd cc
application_takes (d ∷ []) a e =
    let p = if_some (nat_le 48 d && nat_le d 55) (Some (d - 48)) a e in
    let bounds = and_parts (nat_le 48 d) (nat_le d 55) p.0 in
    let low : 48 ≤ d = leb-true _ _ bounds.0 in
    let high : d ≤ 55 = leb-true _ _ bounds.1 in
    let back : d ≡ 48 + (d - 48) = omega arith in
    subst (λ (x : ℕ). (d ∷ [] ≡ (48 + x) ∷ []) × (x < 8)) (some_is (d - 48) a p.1)
    (ap (λ (x : ℕ). x ∷ []) back, omega arith)
application_takes (d ∷ e' ∷ text) a e = absurd cc

application_again : (a : ℕ) → a < 8 → application_in ((48 + a) ∷ []) ≡ Some a
application_again a lt =
    let low : nat_le 48 (48 + a) ≡ true = le-leb _ _ (omega arith) in
    let high : nat_le (48 + a) 55 ≡ true = le-leb _ _ (omega arith) in
    let back : 48 + a - 48 ≡ a = omega arith in
    rw (low, high, back) refl

digit_spaceless : (a : ℕ) → has_space ((48 + a) ∷ []) ≡ false
digit_spaceless a = let apart : nat_eq (48 + a) 32 ≡ false = ne_eqb (48 + a) 32 (λ e. omega arith) in rw apart refl

-- ---- events

abbrev IsSpelled : List ℕ → Event → Type 0
IsSpelled text e = (text ≡ line_of e) × IsEvent e

event_takes : (text : List ℕ) (e : Event) → event_in text ≡ Some e → IsSpelled text e
unfolding event_in
event_takes text e read =
    let words = bind_some (split text) (λ words. cond (bytes_eq words.0 (codes "now"))
    (unsigned_in (2 ^ 64) words.1 >>= λ t. Some (event.Now t))
    (application_in words.0 >>= λ a. call_in words.1 >>= λ c. Some (event.App a c))) e read in
    let parts = split_takes text words.0 words.1 in
    elim (chosen (bytes_eq words.0.0 (codes "now")) (unsigned_in (2 ^ 64) words.0.1 >>= λ t. Some (event.Now t))
    (application_in words.0.0 >>= λ a. call_in words.0.1 >>= λ c. Some (event.App a c)) (Some e) words.2) [
      | inl p ↦
          let t = bind_some (unsigned_in (2 ^ 64) words.0.1) (λ t. Some (event.Now t)) e p.1 in
          let number = unsigned_in_takes (2 ^ 64) words.0.1 t.0 t.1 in
          let word : words.0.0 ≡ codes "now" = (bytes_eq-Decides words.0.0 (codes "now")).0 p.0 in
          subst (λ (x : Event). IsSpelled text x) (some_is (event.Now t.0) e t.2) (
            parts ∙ ap (λ (w : List ℕ). w ++ 32 ∷ words.0.1) word ∙ ap (λ (r : List ℕ). codes "now" ++ 32 ∷ r) number.0,
            number.1,
          )
      | inr p ↦
          let a = bind_some (application_in words.0.0) (λ a. call_in words.0.1 >>= λ c. Some (event.App a c)) e p.1 in
          let c = bind_some (call_in words.0.1) (λ c. Some (event.App a.0 c)) e a.2 in
          let application = application_takes words.0.0 a.0 a.1 in
          let said = call_takes words.0.1 c.0 c.1 in
          subst (λ (x : Event). IsSpelled text x) (some_is (event.App a.0 c.0) e c.2) (
            parts ∙ ap (λ (w : List ℕ). w ++ 32 ∷ words.0.1) application.0
                ∙ ap (λ (r : List ℕ). ((48 + a.0) ∷ []) ++ 32 ∷ r) (sym said.0),
            (application.1, said.1),
          )
    ]

event_again : (e : Event) → IsEvent e → event_in (line_of e) ≡ Some e
unfolding event_in
event_again (event.Now t) lt = rw (unsigned_in_again (2 ^ 64) t (omega arith) lt) refl
event_again (event.App a c) right =
    let apart : nat_eq (48 + a) 110 ≡ false = ne_eqb (48 + a) 110 (λ e. omega (arith, right.0)) in
    rw (
      split_again ((48 + a) ∷ []) (form_text (form c)) (digit_spaceless a),
      apart,
      application_again a right.0,
      call_again c right.1,
    ) refl

pub one_event_is : (e f : Event) → IsEvent e → IsEvent f → line_of e ≡ line_of f → e ≡ f
one_event_is e f p q same = some_is e f (sym (event_again e p) ∙ ap event_in same ∙ event_again f q)

-- ---- lines

line_takes : (text : List ℕ) (l : Line) → line_in text ≡ Some l → Spells text l
unfolding line_in
line_takes [] l e = subst (λ (x : Line). Spells [] x) (some_is line.Nothing l e) (inl refl)
line_takes (b ∷ rest) l e =
    elim (chosen (nat_eq b 35) (cond (has_feed rest) None (Some line.Nothing))
    (cond (bytes_eq (b ∷ rest) (codes "end")) (Some line.End) (event_in (b ∷ rest) >>= λ e. Some (line.Event e)))
    (Some l) e) [
      | inl p ↦
          let q = else_some (has_feed rest) (Some line.Nothing) l p.1 in
          subst (λ (x : Line). Spells (b ∷ rest) x) (some_is line.Nothing l q.1)
          (inr (rest, ap (λ (x : ℕ). x ∷ rest) (eqb-true b 35 p.0), q.0))
      | inr p ↦
          elim (chosen (bytes_eq (b ∷ rest) (codes "end")) (Some line.End)
          (event_in (b ∷ rest) >>= λ e. Some (line.Event e)) (Some l) p.1) [
            | inl q ↦ subst (λ (x : Line). Spells (b ∷ rest) x) (some_is line.End l q.1)
                ((bytes_eq-Decides (b ∷ rest) (codes "end")).0 q.0)
            | inr q ↦
                let r = bind_some (event_in (b ∷ rest)) (λ e. Some (line.Event e)) l q.1 in
                subst (λ (x : Line). Spells (b ∷ rest) x) (some_is (line.Event r.0) l r.2)
                (event_takes (b ∷ rest) r.0 r.1)
          ]
    ]

event_line_again : (e : Event) → IsEvent e → line_in (line_of e) ≡ Some (line.Event e)
unfolding line_in
event_line_again (event.Now t) right = ap (λ (o : Option Event). o >>= λ e. Some (line.Event e))
    (event_again (event.Now t) right)
event_line_again (event.App a c) right =
    let comment : nat_eq (48 + a) 35 ≡ false = ne_eqb (48 + a) 35 (λ e. omega arith) in
    let apart : nat_eq (48 + a) 101 ≡ false = ne_eqb (48 + a) 101 (λ e. omega (arith, right.0)) in
    rw (comment, apart) (ap (λ (o : Option Event). o >>= λ e. Some (line.Event e)) (event_again (event.App a c) right))

line_again : (text : List ℕ) (l : Line) → Spells text l → line_in text ≡ Some l
unfolding line_in
line_again text line.Nothing (inl empty) = ap line_in empty
line_again text line.Nothing (inr comment) = ap line_in comment.1 ∙ rw comment.2 refl
line_again text line.End is = ap line_in is
line_again text (line.Event e) is = ap line_in is.0 ∙ event_line_again e is.1

pub one_line_is : (text : List ℕ) (l m : Line) → IsLine text l → IsLine text m → l ≡ m
one_line_is text l m p q = some_is l m (sym (line_again text l p.spelled) ∙ line_again text m q.spelled)

-- ---- what `parse_line` promises

pub found : (text : List ℕ) → length text ≤ 262144 → (r : Result Line LineError) → ReadsLine (λ l. l) r (line_in text)
    → IfOk r (IsLine text)
found text short (Ok l) read = record { short = short; spelled = line_takes text l read }
found text short (Err e) read = tt

pub only : (text : List ℕ) (r : Result Line LineError) → ReadsLine (λ l. l) r (line_in text) → r ≡ Err error.NotALine
    → (said : Line) → IsLine text said → ⊥
only text r read e said is =
    let none : line_in text ≡ None = subst (λ (x : Result Line LineError). ReadsLine (λ l. l) x (line_in text)) e
    read in
    let some : line_in text ≡ Some said = line_again text said is.spelled in
    absurd cc
