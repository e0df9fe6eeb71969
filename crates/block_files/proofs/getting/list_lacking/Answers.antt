use Rattle.std.proofs.Common.{◌≡◌, ◌+◌, ◌<◌, ◌∙◌, [], ◌∷◌, ◌++◌, false, sym, ap, length, get_or, arith}
use Rattle.std.specs.Option.{option_copied}
use Rattle.std.proofs.lemmas.List.{get_or_default}
use Rattle.block_files.specs.Contents.{lacks}
use Rattle.block_files.proofs.Counting.{lacks_at, lacking_to, lacking_yes, lacking_no}
use Rattle.block_files.proofs.getting.list_lacking.Goals as goal
use Rattle.block_files.proofs.getting.list_lacking.Goals.{then-is_lacking+in_ok-push, else-is_lacking}

pub loop-copy-preserved : goal.loop-copy-preserved
loop-copy-preserved c =
    let value = option_copied c.args.value in
    let looked = c.args.looked.now in
    let given = looked.texts in
    let i = c.loop-copy.copy in
    let in_inside : i < length looked.inside.items = omega (arith, c.requires.0, c.len-copy-end.ensures) in
    let inside = get_or_default looked.inside.items i false c.index.result.now in_inside
    ∙ sym c.index.ensures in
    let test : lacks_at value given looked.inside.items i ≡ c.is_lacking.result =
    ap (λ t. lacks value t (get_or looked.inside.items i false)) (sym c.get.ensures)
    ∙ ap (lacks value (option_copied c.get.result)) inside
    ∙ sym c.is_lacking.ensures in
    elim c.if-is_lacking.branch [
      | then-is_lacking+in_ok-push w ↦ (
          ap (λ v. v.items) w.numbers-is
          ∙ w.in_ok-push.ensures.items
          ∙ ap (λ xs. xs ++ (i + 1) ∷ []) c.loop-copy.invariant
          ∙ lacking_yes value given looked.inside.items i (test ∙ w.if-is_lacking.true))
      | else-is_lacking w ↦ (
          ap (λ v. v.items) w.numbers-is
          ∙ c.loop-copy.invariant
          ∙ lacking_no value given looked.inside.items i (test ∙ w.if-is_lacking.false))
    ]

pub returns : goal.returns
returns c =
    let looked = c.args.looked.now in
    let given = looked.texts in
    let all : c.loop-copy.copy ≡ length given =
    omega (arith, c.len-copy-end.ensures) in
    c.new.ensures ∙ c.loop-copy.invariant ∙ ap (lacking_to (option_copied c.args.value) given looked.inside.items) all
