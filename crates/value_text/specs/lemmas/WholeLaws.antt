-- Numbers and bytes that are a whole text: what is read is spelled so, and what is spelled so is read.
use Rattle.std.proofs.Common.{◌≡◌, ◌≢◌, ℕ, ◌≤◌, ◌<◌, ◌^◌, ℤ, true, cond, nat_eq, List, [], ◌++◌, length, slice_index}
use Rattle.std.proofs.Common.{Option, Some, None, Result, Ok, Err, refl, sym, ap, subst, ◌∙◌}
use Rattle.std.specs.Prelude.{IfOk}
use Rattle.std.specs.Fmt.{decimal, signed_decimal}
use lib.Signed.{mag}
use Rattle.std.proofs.lemmas.Bool.{eqb-true}
use Rattle.std.proofs.lemmas.List.{append-nil, nil_from_length}
use Rattle.value_model.specs.declared.errors.DecodeError.{DecodeError}
use Rattle.value_model.specs.declared.errors.DecodeError.TheVariants as errors
use Rattle.value_model.specs.Decoding.{Gives}
use Rattle.value_text.specs.Texts.{hex_text}
use Rattle.value_text.specs.Readers.{unsigned_at, signed_at, hex_bytes_at}
use Rattle.value_text.specs.Whole.{unsigned_in, signed_in, bytes_in}
use Rattle.value_text.specs.lemmas.Steps.{bind_some, if_some, some_is}
use Rattle.value_text.specs.lemmas.NumberLaws.{unsigned_takes, unsigned_again, signed_takes, signed_again}
use Rattle.value_text.specs.lemmas.StringLaws.{bytes_takes, bytes_again}

-- the whole text is what was read, where nothing is left
whole : (text front rest : List ℕ) → text ≡ front ++ rest → nat_eq (length rest) 0 ≡ true → text ≡ front
whole text front rest e none = e ∙ ap (λ (r : List ℕ). front ++ r) (nil_from_length rest (eqb-true _ _ none))
    ∙ append-nil front

pub unsigned_in_takes : (limit : ℕ) (text : List ℕ) (n : ℕ) → unsigned_in limit text ≡ Some n
    → (text ≡ decimal n) × (n < limit)
unfolding unsigned_in
unsigned_in_takes limit text n e =
    let a = bind_some (unsigned_at limit text) (λ x. cond (nat_eq (length x.1) 0) (Some x.0) None) n e in
    let b = if_some (nat_eq (length a.0.1) 0) (Some a.0.0) n a.2 in
    let read = unsigned_takes limit text a.0 a.1 in
    subst (λ (m : ℕ). (text ≡ decimal m) × (m < limit)) (some_is a.0.0 n b.1)
    (whole text (decimal a.0.0) a.0.1 read.0 b.0, read.1)

pub unsigned_in_again : (limit n : ℕ) → limit ≤ 2 ^ 64 → n < limit → unsigned_in limit (decimal n) ≡ Some n
unfolding unsigned_in
unsigned_in_again limit n small lt =
    let read : unsigned_at limit (decimal n) ≡ Some (n, []) =
    ap (unsigned_at limit) (sym (append-nil (decimal n))) ∙ unsigned_again limit n [] small lt refl in
    rw read refl

pub signed_in_takes : (limit : ℕ) (text : List ℕ) (z : ℤ) → signed_in limit text ≡ Some z
    → (text ≡ signed_decimal z) × (mag z < limit)
unfolding signed_in
signed_in_takes limit text z e =
    let a = bind_some (signed_at limit text) (λ x. cond (nat_eq (length x.1) 0) (Some x.0) None) z e in
    let b = if_some (nat_eq (length a.0.1) 0) (Some a.0.0) z a.2 in
    let read = signed_takes limit text a.0 a.1 in
    subst (λ (y : ℤ). (text ≡ signed_decimal y) × (mag y < limit)) (some_is a.0.0 z b.1)
    (whole text (signed_decimal a.0.0) a.0.1 read.0 b.0, read.1)

pub signed_in_again : (limit : ℕ) (z : ℤ) → limit ≤ 2 ^ 63 → mag z < limit → signed_in limit (signed_decimal z) ≡ Some z
unfolding signed_in
signed_in_again limit z small lt =
    let read : signed_at limit (signed_decimal z) ≡ Some (z, []) =
    ap (signed_at limit) (sym (append-nil (signed_decimal z))) ∙ signed_again limit z [] small lt refl in
    rw read refl

pub bytes_in_takes : (text b : List ℕ) → bytes_in text ≡ Some b
    → (text ≡ hex_text b) × ((i : ℕ) → slice_index b i < 256)
unfolding bytes_in
bytes_in_takes text b e =
    let a = bind_some (hex_bytes_at (length text) text) (λ x. cond (nat_eq (length x.1) 0) (Some x.0) None) b e in
    let d = if_some (nat_eq (length a.0.1) 0) (Some a.0.0) b a.2 in
    let read = bytes_takes (length text) text a.0 a.1 in
    subst (λ (c : List ℕ). (text ≡ hex_text c) × ((i : ℕ) → slice_index c i < 256)) (some_is a.0.0 b d.1)
    (whole text (hex_text a.0.0) a.0.1 read.0 d.0, read.1)

pub bytes_in_again : (b : List ℕ) → ((i : ℕ) → slice_index b i < 256) → bytes_in (hex_text b) ≡ Some b
unfolding bytes_in
bytes_in_again b fits =
    let read : hex_bytes_at (length (hex_text b)) (hex_text b) ≡ Some (b, []) =
    ap (λ (t : List ℕ). hex_bytes_at (length t) t) (sym (append-nil (hex_text b))) ∙ bytes_again b [] fits refl in
    rw read refl

-- ---- what the functions promise

-- what was read fits, and what fits was read
pub found : {X : Type 0} (P : X → Type 0) (read : Option X) → ((x : X) → read ≡ Some x → P x)
    → (r : Result X DecodeError) → Gives (λ x. x) r read → IfOk r P
found P read law (Ok x) given = law x given
found P read law (Err e) given = tt

pub only : {X : Type 0} (read : Option X) (r : Result X DecodeError) → Gives (λ x. x) r read → r ≡ Err errors.NotAValue
    → (x : X) → read ≢ Some x
only read r given e x some =
    let none : read ≡ None = subst (λ (y : Result _ DecodeError). Gives (λ z. z) y read) e given in
    absurd cc
