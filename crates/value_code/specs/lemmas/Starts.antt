-- What stands at the start of bytes: what is read is what was written, and what was written is read again.
use Rattle.std.proofs.Common.{◌≡◌, ◌⊎◌, ℕ, suc, ◌^◌, ◌<◌, ◌≤◌, Bool, true, false, cond, ltb, List, [], ◌∷◌, ◌++◌}
use Rattle.std.proofs.Common.{length, take, drop, Option, Some, None, refl, sym, ap, subst, ◌∙◌, append_assoc}
use Rattle.std.proofs.Common.{arith, inl, inr}
use Rattle.std.specs.Int.{w8, w32, byte_len, from_le_bytes, to_le_bytes}
use Rattle.std.specs.Str.{IsUtf8, is_utf8}
use Rattle.std.proofs.lemmas.Bool.{ltb-false, le-ltb}
use Rattle.std.proofs.lemmas.List.{take_at, drop_at, take-append-drop, length-append, length-take}
use Rattle.std.proofs.lemmas.Nat.{le_bytes_2, le_bytes_4, le_bytes_8, from_le_bytes-to_le_bytes_2}
use Rattle.std.proofs.lemmas.Nat.{from_le_bytes-to_le_bytes_4, from_le_bytes-to_le_bytes_8}
use Rattle.std.proofs.lemmas.Str.{IsUtf8-from_is_utf8, is_utf8-from_IsUtf8}
use Rattle.per_base.specs.Fields.{◌>>=◌, byte_at, AreBytes}
use Rattle.per_base.specs.FieldLaws.{AreBytes-drop, AreBytes-take}
use Rattle.value_model.specs.Kinds.{Size, one, two, four, eight, width}
use Rattle.value_model.specs.Validity.{unsigned_limit}
use Rattle.value_code.specs.Reading.{number_at, counted_at, text_of}
use Rattle.value_code.specs.lemmas.Lengths.{number_length}

-- ---- bytes

pub AreBytes-rest : (b : ℕ) (bytes : List ℕ) → AreBytes (b ∷ bytes) → AreBytes bytes
AreBytes-rest b bytes h i = h (suc i)

-- ---- steps that found something

pub bind_some : {A B : Type 0} (r : Option A) (f : A → Option B) (y : B) → (r >>= f) ≡ Some y
    → (x : A) × (r ≡ Some x) × (f x ≡ Some y)
bind_some (Some x) f y e = (x, refl, e)
bind_some None f y e = absurd cc

abbrev some : {A : Type 0} → A → Option A
some x = Some x

pub some_is : {A : Type 0} (x y : A) → some x ≡ some y → x ≡ y
some_is x y e = cc

-- a test that let pass, and one that had to hold
pub not_stopped : {A : Type 0} (b : Bool) (r : Option A) (y : A) → cond b None r ≡ Some y → (b ≡ false) × (r ≡ Some y)
not_stopped true r y e = absurd cc
not_stopped false r y e = (refl, e)

pub let_pass : {A : Type 0} (b : Bool) (r : Option A) (y : A) → cond b r None ≡ Some y → (b ≡ true) × (r ≡ Some y)
let_pass true r y e = (refl, e)
let_pass false r y e = absurd cc

pub either_way : {A : Type 0} (b : Bool) (p q : Option A) (y : A) → cond b p q ≡ Some y
    → ((b ≡ true) × (p ≡ Some y)) ⊎ ((b ≡ false) × (q ≡ Some y))
either_way true p q y e = inl (refl, e)
either_way false p q y e = inr (refl, e)

-- ---- what a reader took from the start

pub record Takes (bytes text rest : List ℕ) : Type 0 where
  pub parts : bytes ≡ text ++ rest
  pub rest_bytes : AreBytes rest

pub Takes-then : (a x b y c : List ℕ) → Takes a x b → Takes b y c → Takes a (x ++ y) c
Takes-then a x b y c p q = record {
  parts = p.parts ∙ ap (λ (t : List ℕ). x ++ t) q.parts ∙ sym (append_assoc x y c);
  rest_bytes = q.rest_bytes;
}

pub byte_takes : (bytes : List ℕ) (x : ℕ × List ℕ) → AreBytes bytes → byte_at bytes ≡ Some x
    → Takes bytes (x.0 ∷ []) x.1
byte_takes [] x small e = absurd cc
byte_takes (b ∷ rest) x small e = subst (λ (y : ℕ × List ℕ). Takes (b ∷ rest) (y.0 ∷ []) y.1) (some_is (b, rest) x e)
    (record { parts = refl; rest_bytes = AreBytes-rest b rest small })

-- ---- numbers

one_back : (bytes : List ℕ) → length bytes ≡ 1 → AreBytes bytes → to_le_bytes w8 (from_le_bytes w8 bytes) ≡ bytes
one_back [] len small = absurd (omega arith)
one_back (b ∷ []) len small = let h = small 0 in ap (λ (n : ℕ). n ∷ []) (omega arith)
one_back (b ∷ c ∷ rest) len small = absurd (omega arith)

pub number_back : (s : Size) (bytes : List ℕ) → length bytes ≡ byte_len (width s) → AreBytes bytes
    → to_le_bytes (width s) (from_le_bytes (width s) bytes) ≡ bytes
number_back one bytes len small = one_back bytes len small
number_back two bytes len small = le_bytes_2 bytes _ len small refl
number_back four bytes len small = le_bytes_4 bytes _ len small refl
number_back eight bytes len small = le_bytes_8 bytes _ len small refl

pub number_same : (s : Size) (n : ℕ) → n < unsigned_limit s → from_le_bytes (width s) (to_le_bytes (width s) n) ≡ n
number_same one n lt = omega arith
number_same two n lt = from_le_bytes-to_le_bytes_2 n lt
number_same four n lt = from_le_bytes-to_le_bytes_4 n lt
number_same eight n lt = from_le_bytes-to_le_bytes_8 n lt

pub number_below : (s : Size) (bytes : List ℕ) → AreBytes bytes → from_le_bytes (width s) bytes < unsigned_limit s
number_below one bytes small = omega (arith, small 0)
number_below two bytes small = omega (arith, small 0, small 1)
number_below four bytes small = omega (arith, small 0, small 1, small 2, small 3)
number_below eight bytes small = omega (arith, small 0, small 1, small 2, small 3, small 4, small 5, small 6, small 7)

pub number_takes : (s : Size) (bytes : List ℕ) (x : ℕ × List ℕ) → AreBytes bytes → number_at (width s) bytes ≡ Some x
    → Takes bytes (to_le_bytes (width s) x.0) x.1 × (x.0 < unsigned_limit s)
number_takes s bytes x small e =
    let w = byte_len (width s) in
    let front = take w bytes in
    let g = not_stopped (ltb (length bytes) w) (Some (from_le_bytes (width s) front, drop w bytes)) x e in
    let long : w ≤ length bytes = ltb-false _ _ g.0 in
    let back = number_back s front (omega (arith, length-take w bytes)) (AreBytes-take w bytes small) in
    subst (λ (y : ℕ × List ℕ). Takes bytes (to_le_bytes (width s) y.0) y.1 × (y.0 < unsigned_limit s))
    (some_is (from_le_bytes (width s) front, drop w bytes) x g.1) (
      record { parts = rw back (sym (take-append-drop w bytes)); rest_bytes = AreBytes-drop w bytes small },
      number_below s front (AreBytes-take w bytes small),
    )

pub number_again : (s : Size) (n : ℕ) (rest : List ℕ) → n < unsigned_limit s
    → number_at (width s) (to_le_bytes (width s) n ++ rest) ≡ Some (n, rest)
number_again s n rest lt =
    let len = number_length s n in
    let long : ltb (length (to_le_bytes (width s) n ++ rest)) (byte_len (width s)) ≡ false =
    le-ltb _ _ (omega (arith, length-append (to_le_bytes (width s) n) rest)) in
    rw (
      long,
      take_at (to_le_bytes (width s) n) rest (byte_len (width s)) len,
      drop_at (to_le_bytes (width s) n) rest (byte_len (width s)) len,
      number_same s n lt,
    ) refl

-- ---- a length and that many bytes

pub counted_takes : (bytes : List ℕ) (x : List ℕ × List ℕ) → AreBytes bytes → counted_at bytes ≡ Some x
    → Takes bytes (to_le_bytes w32 (length x.0) ++ x.0) x.1 × AreBytes x.0
unfolding counted_at
counted_takes bytes x small e =
    let b = bind_some (number_at w32 bytes) (λ n. cond (ltb (length n.1) n.0) None (Some (take n.0 n.1, drop n.0 n.1)))
    x e in
    let n = b.0 in
    let t = number_takes four bytes n small b.1 in
    let g = not_stopped (ltb (length n.1) n.0) (Some (take n.0 n.1, drop n.0 n.1)) x b.2 in
    let long : n.0 ≤ length n.1 = ltb-false _ _ g.0 in
    let len : length (take n.0 n.1) ≡ n.0 = omega (arith, length-take n.0 n.1) in
    let second : Takes n.1 (take n.0 n.1) (drop n.0 n.1) =
    record { parts = sym (take-append-drop n.0 n.1); rest_bytes = AreBytes-drop n.0 n.1 t.0.rest_bytes } in
    let both = Takes-then bytes (to_le_bytes w32 n.0) n.1 (take n.0 n.1) (drop n.0 n.1) t.0 second in
    let whole : Takes bytes (to_le_bytes w32 (length (take n.0 n.1)) ++ take n.0 n.1) (drop n.0 n.1) =
    subst (λ (k : ℕ). Takes bytes (to_le_bytes w32 k ++ take n.0 n.1) (drop n.0 n.1)) (sym len) both in
    subst (λ (p : List ℕ × List ℕ). Takes bytes (to_le_bytes w32 (length p.0) ++ p.0) p.1 × AreBytes p.0)
    (some_is (take n.0 n.1, drop n.0 n.1) x g.1) (whole, AreBytes-take n.0 n.1 t.0.rest_bytes)

pub counted_again : (text rest : List ℕ) → length text < 2 ^ 32
    → counted_at ((to_le_bytes w32 (length text) ++ text) ++ rest) ≡ Some (text, rest)
unfolding counted_at
counted_again text rest lt =
    let regrouped = append_assoc (to_le_bytes w32 (length text)) text rest in
    let long : ltb (length (text ++ rest)) (length text) ≡ false =
    le-ltb _ _ (omega (arith, length-append text rest)) in
    ap counted_at regrouped ∙ rw (
      number_again four (length text) (text ++ rest) lt,
      long,
      take_at text rest (length text) refl,
      drop_at text rest (length text) refl,
    ) refl

-- ---- texts

pub text_of-IsUtf8 : (bytes : List ℕ) → IsUtf8 bytes → text_of bytes ≡ Some bytes
text_of-IsUtf8 bytes valid = rw (is_utf8-from_IsUtf8 bytes valid) refl

not_true : (b : Bool) → (b ≡ true → ⊥) → b ≡ false
not_true true n = absurd (n refl)
not_true false n = refl

pub text_of-not : (bytes : List ℕ) → (IsUtf8 bytes → ⊥) → text_of bytes ≡ None
text_of-not bytes invalid = rw (not_true (is_utf8 bytes) (λ e. invalid (IsUtf8-from_is_utf8 bytes e))) refl

pub text_takes : (bytes text : List ℕ) → text_of bytes ≡ Some text → (bytes ≡ text) × IsUtf8 text
text_takes bytes text e =
    let g = let_pass (is_utf8 bytes) (Some bytes) text e in
    subst (λ (t : List ℕ). (bytes ≡ t) × IsUtf8 t) (some_is bytes text g.1) (refl, IsUtf8-from_is_utf8 bytes g.0)
