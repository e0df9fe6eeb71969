-- A blank page is no record: no text is as long as it says.
use Rattle.std.specs.Prelude.{◌≡◌, ℕ, ◌+◌, ◌&&◌, List, length, Bool, true, false, cond, Some, None, nat_le}
use Rattle.std.proofs.Common.{refl, ap, true≢false}
use Rattle.flash_model.specs.Pages.{blank_page}
use Rattle.hash_guard.specs.SealedText.{header, max_body, generation_in, length_in, body_in, verified}
use Rattle.flash_record.specs.PageRecord.{record_by, record_in}

third_false : (a b c d e : Bool) → c ≡ false → (a && b && c && d && e) ≡ false
third_false true true true d e is = absurd (true≢false is)
third_false true true false d e is = refl
third_false true false c d e is = refl
third_false false b c d e is = refl

too_long : (slot : List ℕ) → nat_le (length_in slot) max_body ≡ false → verified slot ≡ None
unfolding verified
too_long slot long = ap (λ b. cond b (Some (generation_in slot, body_in slot)) None)
    (third_false (nat_le header (length slot)) (nat_le 1 (generation_in slot)) (nat_le (length_in slot) max_body)
    (nat_le (header + length_in slot) (length slot)) _ long)

blank_is_long : nat_le (length_in blank_page) max_body ≡ false
unfolding length_in blank_page
blank_is_long = refl

-- a blank page is no record
pub blank_is_none : record_in blank_page ≡ None
unfolding record_in
blank_is_none = ap record_by (too_long blank_page blank_is_long)
