-- Lines that are added one after another.
use Rattle.std.proofs.Common.{◌≡◌, ℕ, List, [], ◌∷◌, ◌++◌, Result, Ok, Err, refl, subst, ◌∙◌, append_assoc}
use Rattle.std.proofs.lemmas.Grind.{flat_map-append}
use Rattle.std.specs.List.{AllByRecursion}
use Rattle.command_text.specs.declared.errors.LineError.{LineError}
use Rattle.command_text.specs.declared.errors.LineError.TheVariants as error
use Rattle.per_words.specs.Words.{Adds, IsOneLine, fed_lines}

pub both_all : (xs ys : List (List ℕ)) → AllByRecursion IsOneLine xs → AllByRecursion IsOneLine ys
    → AllByRecursion IsOneLine (xs ++ ys)
both_all [] ys p q = q
both_all (x ∷ xs) ys p q = (p.0, both_all xs ys p.1 q)

pub parts_all : (xs ys : List (List ℕ)) → AllByRecursion IsOneLine (xs ++ ys)
    → AllByRecursion IsOneLine xs × AllByRecursion IsOneLine ys
parts_all [] ys p = (tt, p)
parts_all (x ∷ xs) ys p = let r = parts_all xs ys p.1 in ((p.0, r.0), r.1)

pub fed_both : (a b c : List ℕ) (xs ys : List (List ℕ)) → b ≡ a ++ fed_lines xs → c ≡ b ++ fed_lines ys
    → c ≡ a ++ fed_lines (xs ++ ys)
fed_both a b c xs ys p q = rw flat_map-append (q ∙ rw p (append_assoc a (fed_lines xs) (fed_lines ys)))

added : {S T : Type 0} (s : S) (r : Result T LineError) (a b c : List ℕ) (xs ys : List (List ℕ))
    → Adds {T = S} (Ok s) a b xs → Adds r b c ys → Adds r a c (xs ++ ys)
added s (Ok t) a b c xs ys p q = record {
  text = fed_both a b c xs ys p.text q.text;
  events = both_all xs ys p.events q.events;
  refused = λ same all. absurd cc;
}
added s (Err e) a b c xs ys p q = record {
  text = tt;
  events = tt;
  refused = λ same all. q.refused same (parts_all xs ys all).1;
}

-- after the first lines come others
pub adds_then : {S T : Type 0} (s : S) (first : Result S LineError) (r : Result T LineError) (a b c : List ℕ)
    (xs ys : List (List ℕ)) → first ≡ Ok s → Adds first a b xs → Adds r b c ys → Adds r a c (xs ++ ys)
adds_then {S} {T} s first r a b c xs ys is p q =
    added s r a b c xs ys (subst (λ (t : Result S LineError). Adds t a b xs) is p) q

not_added : {S T : Type 0} (e : LineError) (a b c : List ℕ) (xs ys : List (List ℕ)) → Adds {T = S} (Err e) a b xs
    → Adds {T = T} (Err e) a c (xs ++ ys)
not_added error.NotALine a b c xs ys p = record {
  text = tt;
  events = tt;
  refused = λ same all. p.refused refl (parts_all xs ys all).0;
}
not_added error.OutOfMemory a b c xs ys p = record { text = tt; events = tt; refused = λ same all. absurd cc }

-- the first lines were not added
pub adds_not : {S T : Type 0} (e : LineError) (first : Result S LineError) (a b c : List ℕ) (xs ys : List (List ℕ))
    → first ≡ Err e → Adds first a b xs → Adds {T = T} (Err e) a c (xs ++ ys)
adds_not {S} {T} e first a b c xs ys is p =
    not_added {S = S} {T = T} e a b c xs ys (subst (λ (t : Result S LineError). Adds t a b xs) is p)
