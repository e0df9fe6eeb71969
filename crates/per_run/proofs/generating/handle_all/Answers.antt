-- The first lines, those between, and the last ones.
use Rattle.std.proofs.Common.{ℕ, List, [], ◌++◌, length, ◌≡◌, ◌≤◌, ◌<◌, ◌+◌, ◌^◌, refl, sym, ◌∙◌, ap, arith}
use Rattle.std.proofs.lemmas.Result.{on_ok_weaker}
use Rattle.command_text.specs.Generated.{first_lines, generated, generated_lines, last_lines}
use Rattle.per_run.proofs.Tallied.{begin_as, begin_here, begin_less, counted_along, length_all, texts_of}
use Rattle.per_run.proofs.generating.handle_all.Goals as goal

two : length first_lines ≡ 2
two = refl

few_first : (ls : List (List ℕ)) → ls ≡ first_lines → length ls < 2 ^ 32
few_first ls is = omega (arith, ap length is, two)

few_all : (n : ℕ) (ls : List (List ℕ)) → n ≤ 100000 → ls ≡ last_lines
    → length ((first_lines ++ generated_lines n 1 n) ++ ls) < 2 ^ 32
few_all n ls few is = omega (
  arith,
  few,
  length_all n,
  ap (λ (l : List (List ℕ)). length ((first_lines ++ generated_lines n 1 n) ++ l)) is,
)

few_between : (n : ℕ) → n ≤ 100000 → length first_lines + n < 2 ^ 32
few_between n few = omega (arith, few, two)

pub returns-clause-counted : goal.returns-clause-counted
returns-clause-counted g c =
    let firsts : texts_of c.as_slice.result.now ≡ first_lines =
    ap texts_of c.as_slice.ensures ∙ c.first_lines.ensures in
    let lasts : texts_of c.as_slice-2.result.now ≡ last_lines =
    ap texts_of c.as_slice-2.ensures ∙ c.last_lines.ensures in
    on_ok_weaker c.handle_each-2.result (λ more start none.
    counted_along _ _ _ _ _ _ _ _ (ap (λ (ls : List (List ℕ)).
    (first_lines ++ generated_lines c.args.number 1 c.args.number) ++ ls) (sym lasts))
    (more start (first_lines ++ generated_lines c.args.number 1 c.args.number)
    (few_all c.args.number _ c.requires.number lasts)
    (c.in_ok-handle_generated.ensures.counted start first_lines (few_between c.args.number c.requires.number)
    (counted_along _ _ _ _ _ _ _ _ (sym firsts) (c.in_ok-handle_each.ensures.counted start [] (few_first _ firsts)
    none))))) c.handle_each-2.ensures.counted

-- memory ran out in the first lines, in those between, or in the last ones
pub returns-in_err-handle_each-clause-short : goal.returns-in_err-handle_each-clause-short
returns-in_err-handle_each-clause-short g c = λ err laws start none.
    let firsts : texts_of c.as_slice.result.now ≡ first_lines =
    ap texts_of c.as_slice.ensures ∙ c.first_lines.ensures in
    c.in_err-handle_each.ensures.short refl laws start [] (generated c.args.number) (few_first _ firsts) none
    (begin_as _ _ _ (sym firsts) (begin_less first_lines (generated_lines c.args.number 1 c.args.number) _
    (begin_less (first_lines ++ generated_lines c.args.number 1 c.args.number) last_lines _ (begin_here _))))

pub returns-in_err-handle_generated-clause-short : goal.returns-in_err-handle_generated-clause-short
returns-in_err-handle_generated-clause-short g c = λ err laws start none.
    let firsts : texts_of c.as_slice.result.now ≡ first_lines =
    ap texts_of c.as_slice.ensures ∙ c.first_lines.ensures in
    c.in_err-handle_generated.ensures.short refl laws start first_lines (generated c.args.number)
    (few_between c.args.number c.requires.number)
    (counted_along _ _ _ _ _ _ _ _ (sym firsts) (c.in_ok-handle_each.ensures.counted start [] (few_first _ firsts)
    none)) (begin_less (first_lines ++ generated_lines c.args.number 1 c.args.number) last_lines _ (begin_here _))

pub returns-clause-short : goal.returns-clause-short
returns-clause-short g c = λ err laws start none.
    let firsts : texts_of c.as_slice.result.now ≡ first_lines =
    ap texts_of c.as_slice.ensures ∙ c.first_lines.ensures in
    let lasts : texts_of c.as_slice-2.result.now ≡ last_lines =
    ap texts_of c.as_slice-2.ensures ∙ c.last_lines.ensures in
    c.handle_each-2.ensures.short err laws start
    (first_lines ++ generated_lines c.args.number 1 c.args.number) (generated c.args.number)
    (few_all c.args.number _ c.requires.number lasts)
    (c.in_ok-handle_generated.ensures.counted start first_lines (few_between c.args.number c.requires.number)
    (counted_along _ _ _ _ _ _ _ _ (sym firsts) (c.in_ok-handle_each.ensures.counted start [] (few_first _ firsts)
    none)))
    (begin_as _ _ _ (ap (λ (ls : List (List ℕ)). (first_lines ++ generated_lines c.args.number 1 c.args.number) ++ ls)
    (sym lasts)) (begin_here _))
