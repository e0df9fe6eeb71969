-- What is written of a job's output, and what holds where a job did not come to it.
use Rattle.std.proofs.Common.{ℕ, List, ◌≡◌, ◌⊎◌, ◌∙◌, inl, inr, refl, sym, subst, arith, Option}
use Rattle.std.proofs.KnownBytes.{Keeps-refl}
use Rattle.std.specs.Io.KnownBytes.{Appends}
use Rattle.per_run.specs.Jobs.{CameToOutput, IsOutputWritten, WritesOutput, WroteProperPrefix}

-- ---- statuses

pub not_written : (status : ℕ) → (status ≡ 0 → ⊥) → (status ≡ 8 → ⊥) → (status ≡ 9 → ⊥) → IsOutputWritten status → ⊥
not_written status no_0 no_8 no_9 (inl none) = no_0 none
not_written status no_0 no_8 no_9 (inr (inl eight)) = no_8 eight
not_written status no_0 no_8 no_9 (inr (inr nine)) = no_9 nine

not_among_done : (status other : ℕ) → status ≡ other → (other ≡ 0 → ⊥) → (other ≡ 8 → ⊥) → (other ≡ 9 → ⊥)
    → (other ≡ 6 → ⊥) → CameToOutput status → ⊥
not_among_done status other is no_0 no_8 no_9 no_6 (inl written) =
    not_written status (λ e. no_0 (sym is ∙ e)) (λ e. no_8 (sym is ∙ e)) (λ e. no_9 (sym is ∙ e)) written
not_among_done status other is no_0 no_8 no_9 no_6 (inr six) = no_6 (sym is ∙ six)

pub not_done : (status : ℕ) → (status ≡ 3) ⊎ (status ≡ 4) → CameToOutput status → ⊥
not_done status (inl three) done = not_among_done status 3 three (λ e. omega (arith, e)) (λ e. omega (arith, e))
    (λ e. omega (arith, e)) (λ e. omega (arith, e)) done
not_done status (inr four) done = not_among_done status 4 four (λ e. omega (arith, e)) (λ e. omega (arith, e))
    (λ e. omega (arith, e)) (λ e. omega (arith, e)) done

-- neither did a job whose input was not read whole
pub not_read : (status : ℕ) → (status ≡ 4) ⊎ ((status ≡ 5) ⊎ (status ≡ 7)) → CameToOutput status → ⊥
not_read status (inl four) done = not_done status (inr four) done
not_read status (inr (inl five)) done = not_among_done status 5 five (λ e. omega (arith, e)) (λ e. omega (arith, e))
    (λ e. omega (arith, e)) (λ e. omega (arith, e)) done
not_read status (inr (inr seven)) done = not_among_done status 7 seven (λ e. omega (arith, e)) (λ e. omega (arith, e))
    (λ e. omega (arith, e)) (λ e. omega (arith, e)) done

pub not_cut : (status : ℕ) → IsOutputWritten status → status ≡ 6 → ⊥
not_cut status written six = not_written status (λ e. omega (arith, six, e)) (λ e. omega (arith, six, e))
    (λ e. omega (arith, six, e)) written

-- ---- the output

pub writes_none : (status : ℕ) (now : Option (List ℕ)) (text : List ℕ) → (status ≡ 3) ⊎ (status ≡ 4)
    → WritesOutput status now now text
writes_none status now text is = record {
  whole = λ written. absurd (not_done status is (inl written));
  front = λ six. absurd (not_done status is (inr six));
  none = λ undone. Keeps-refl now;
}

pub writes_whole : (status : ℕ) (before now : Option (List ℕ)) (text : List ℕ) → IsOutputWritten status
    → Appends before now text → WritesOutput status before now text
writes_whole status before now text written took = record {
  whole = λ again. took;
  front = λ six. absurd (not_cut status written six);
  none = λ undone. absurd (undone (inl written));
}

pub writes_front : (before now : Option (List ℕ)) (text : List ℕ) → WroteProperPrefix before now text
    → WritesOutput 6 before now text
writes_front before now text front = record {
  whole = λ written. absurd (not_cut 6 written refl);
  front = λ six. front;
  none = λ undone. absurd (undone (inr refl));
}

pub writes_as : (status : ℕ) (before now : Option (List ℕ)) (text same : List ℕ) → text ≡ same
    → WritesOutput status before now text → WritesOutput status before now same
writes_as status before now text same is writes = subst (WritesOutput status before now) is writes
