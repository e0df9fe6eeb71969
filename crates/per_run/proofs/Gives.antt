-- Lines and their commands: one more line, one more command, and a line of which only a prefix is kept.
use Rattle.std.proofs.Common.{ℕ, List, [], ◌∷◌, ◌++◌, length, take, ◌≡◌, ◌<◌, inl, inr, refl, sym, ◌∙◌, ap, subst}
use Rattle.std.proofs.Common.{arith, append_assoc, append-nil, length-append, ◌+◌, codes}
use Rattle.std.specs.List.{flat_map}
use Rattle.std.proofs.lemmas.List.{take_all, length-take}
use Rattle.command_text.specs.declared.calls.Event.{Event}
use Rattle.command_text.specs.declared.lines.Line.{Line}
use Rattle.command_text.specs.declared.lines.Line.TheVariants as line
use Rattle.command_text.specs.declared.replies.Reply.{Reply}
use Rattle.command_text.specs.Grammar.{IsLine}
use Rattle.command_text.specs.Replies.{reply_text, report_line, answer_text}
use Rattle.run_model.specs.Lines.{Give, IsBad}
use Rattle.run_model.specs.Turns.{Turn, events_of, replies_of, replies_text}

-- ---- one more line

pub give_nothing : (lines : List (List ℕ)) (events : List Event) (text : List ℕ) → Give lines events
    → IsLine text line.Nothing → Give (lines ++ text ∷ []) events
give_nothing [] events text gives is = inl (is, gives)
give_nothing (l ∷ ls) events text (inl nothing) is = inl (nothing.0, give_nothing ls events text nothing.1 is)
give_nothing (l ∷ ls) events text (inr next) is = inr (
  next.0,
  next.1,
  next.2,
  next.3,
  give_nothing ls next.1 text next.4 is,
)

pub give_event : (lines : List (List ℕ)) (events : List Event) (text : List ℕ) (e : Event) → Give lines events
    → IsLine text (line.Event e)
    → Give (lines ++ text ∷ []) (events ++ e ∷ [])
give_event [] events text e gives is = inr (e, [], is, ap (λ (es : List Event). es ++ e ∷ []) gives, refl)
give_event (l ∷ ls) events text e (inl nothing) is = inl (nothing.0, give_event ls events text e nothing.1 is)
give_event (l ∷ ls) events text e (inr next) is =
    inr (
      next.0,
      next.1 ++ e ∷ [],
      next.2,
      ap (λ (es : List Event). es ++ e ∷ []) next.3,
      give_event ls next.1 text e next.4 is,
    )

-- ---- one more turn

pub events_on : (turns : List Turn) (t : Turn) → events_of (turns ++ t ∷ []) ≡ events_of turns ++ t.event ∷ []
events_on [] t = refl
events_on (u ∷ us) t = ap (λ (es : List Event). u.event ∷ es) (events_on us t)

pub replies_on : (turns : List Turn) (t : Turn) → replies_of (turns ++ t ∷ []) ≡ replies_of turns ++ t.reply ∷ []
replies_on [] t = refl
replies_on (u ∷ us) t = ap (λ (rs : List Reply). u.reply ∷ rs) (replies_on us t)

pub text_on : (turns : List Turn) (t : Turn) → replies_text (turns ++ t ∷ []) ≡ replies_text turns ++ reply_text t.reply
text_on [] t = append-nil (reply_text t.reply)
text_on (u ∷ us) t = ap (λ (l : List ℕ). reply_text u.reply ++ l) (text_on us t)
    ∙ sym (append_assoc (reply_text u.reply) (replies_text us) (reply_text t.reply))

pub give_turn : (lines : List (List ℕ)) (turns : List Turn) (text : List ℕ) (t : Turn) → Give lines (events_of turns)
    → IsLine text (line.Event t.event)
    → Give (lines ++ text ∷ []) (events_of (turns ++ t ∷ []))
give_turn lines turns text t gives is =
    subst (λ (es : List Event). Give (lines ++ text ∷ []) es) (sym (events_on turns t))
    (give_event lines (events_of turns) text t.event gives is)

-- ---- a line of which only a prefix is kept

pub short_whole : (n : ℕ) (whole : List ℕ) → length (take n whole) < n → take n whole ≡ whole
short_whole n whole short = take_all n whole (omega (arith, length-take n whole))

pub line_whole : (whole : List ℕ) (l : Line) → IsLine (take 262145 whole) l → IsLine whole l
line_whole whole l is =
    let same : take 262145 whole ≡ whole = short_whole 262145 whole (omega (arith, is.short)) in
    let P : List ℕ → Type 0 = λ text. IsLine text l in subst P same is

pub bad_whole : (whole : List ℕ) → IsBad (take 262145 whole) → IsBad whole
bad_whole whole bad = λ l is.
    let same : take 262145 whole ≡ whole = take_all 262145 whole (omega (arith, is.short)) in
    let P : List ℕ → Type 0 = λ text. IsLine text l in bad l (subst P (sym same) is)

-- what the prefix of a line says is what the line says
pub front_says : (text whole : List ℕ) (l : Line) → text ≡ take 262145 whole → IsLine text l → IsLine whole l
front_says text whole l front is = line_whole whole l (subst (λ (t : List ℕ). IsLine t l) front is)

pub front_bad : (text whole : List ℕ) → text ≡ take 262145 whole → IsBad text → IsBad whole
front_bad text whole front bad = bad_whole whole (subst IsBad front bad)

-- the text of a reply ends with a line feed
pub has_end : (reply : Reply) → 0 < length (reply_text reply)
has_end reply =
    let split : length (reply_text reply) ≡ length (flat_map report_line reply.reports ++ answer_text reply.answer)
    + 1 =
    length-append (flat_map report_line reply.reports ++ answer_text reply.answer) (codes "\n") in
    omega (arith, split)
