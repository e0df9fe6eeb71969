-- What a reader takes from the start is what was written there, and what was written is read again.
use Rattle.std.proofs.Common.{◌≡◌, ℕ, zero, suc, ◌+◌, ◌^◌, ◌<◌, ◌≤◌, Bool, true, false, cond, eqb, ltb, ◌⊎◌, List, []}
use Rattle.std.proofs.Common.{◌∷◌, ◌++◌, length, take, drop, Option, Some, None, refl, sym, ap, subst, ◌∙◌}
use Rattle.std.proofs.Common.{append_assoc, arith, inl, inr}
use Rattle.std.specs.Int.{Width, w16, w32, w64, byte_len, from_le_bytes, to_le_bytes}
use Rattle.std.specs.List.{flat_map, AllByRecursion}
use Rattle.std.proofs.lemmas.Bool.{cases_lt, eqb-true, ltb-false, le-ltb}
use Rattle.std.proofs.lemmas.List.{take_at, drop_at, take-append-drop, length-append, length-take, get_or-drop}
use Rattle.std.proofs.lemmas.List.{get_or-take, get_or_past}
use Rattle.std.proofs.lemmas.List.Concat.{flat_map-cons}
use Rattle.std.proofs.lemmas.Nat.{le_bytes_2, le_bytes_4, le_bytes_8, from_le_bytes-to_le_bytes_2}
use Rattle.std.proofs.lemmas.Nat.{from_le_bytes-to_le_bytes_4, from_le_bytes-to_le_bytes_8}
use Rattle.per_base.specs.Fields.{◌>>=◌, byte_at, bytes_at, number_at, only_if, many, AreBytes}

-- what is left of bytes, or taken of them, are bytes
pub AreBytes-drop : (n : ℕ) (bytes : List ℕ) → AreBytes bytes → AreBytes (drop n bytes)
AreBytes-drop n bytes fits i = rw get_or-drop (fits (n + i))

pub AreBytes-take : (n : ℕ) (bytes : List ℕ) → AreBytes bytes → AreBytes (take n bytes)
AreBytes-take n bytes fits i =
    elim (cases_lt i n) [
      | inl lt ↦ rw (get_or-take n bytes i 0 lt) (fits i)
      | inr le ↦ rw (get_or_past (take n bytes) i 0 (omega (arith, length-take n bytes))) (omega arith)
    ]

-- the bytes are this text and the rest after it, and each number of the rest is a byte
pub record Takes (bytes text rest : List ℕ) : Type 0 where
  pub parts : bytes ≡ text ++ rest
  pub rest_fits : AreBytes rest

pub Takes-then : {a x b y c : List ℕ} → Takes a x b → Takes b y c → Takes a (x ++ y) c
Takes-then {x = x} {y = y} {c = c} p q = record {
  parts =
      p.parts ∙ ap (λ (t : List ℕ). x ++ t) q.parts ∙ sym (append_assoc x y c);
  rest_fits = q.rest_fits;
}

-- `read` takes exactly the texts of what fits: what it gives fits, and the bytes began with its text; and the text of a
-- thing that fits is read as that thing, whatever follows
pub record IsReader {A : Type 0} (read : List ℕ → Option (A × List ℕ)) (text : A → List ℕ) (Fits : A → Type 0) : Type 0
  where
    pub takes : (bytes : List ℕ) (x : A) (rest : List ℕ) → AreBytes bytes → read bytes ≡ Some (x, rest)
        → Takes bytes (text x) rest × Fits x
    pub again : (x : A) (rest : List ℕ) → Fits x → read (text x ++ rest) ≡ Some (x, rest)

abbrev found : {A : Type 0} → A → Option A
found x = Some x

pub some_is : {A : Type 0} (x y : A) → found x ≡ found y → x ≡ y
some_is x y e = cc

-- what holds of what is made holds of what is found
pub moved : {A : Type 0} (P : A → Type 0) (x y : A) → found x ≡ found y → P x → P y
moved P x y e = subst P (some_is x y e)

-- the value of a step that read something
pub bind_some : {A B : Type 0} (r : Option A) (f : A → Option B) (y : B) → (r >>= f) ≡ Some y
    → (x : A) × (r ≡ Some x) × (f x ≡ Some y)
bind_some None f y e = absurd cc
bind_some (Some x) f y e = (x, refl, e)

-- a test that passed
pub only_some : {A : Type 0} (b : Bool) (x y : A) → only_if b x ≡ Some y → (b ≡ true) × (x ≡ y)
only_some true x y e = (refl, cc)
only_some false x y e = absurd cc

pub only_true : {A : Type 0} (b : Bool) (x : A) → b ≡ true → only_if b x ≡ Some x
only_true b x e = rw e refl

-- a test whose other side refuses
pub unless_none : {A : Type 0} (b : Bool) (x y : A) → cond b None (Some x) ≡ Some y → (b ≡ false) × (x ≡ y)
unless_none true x y e = absurd cc
unless_none false x y e = (refl, cc)

-- ---- bytes

byte_takes : (bytes : List ℕ) (b : ℕ) (rest : List ℕ) → AreBytes bytes → byte_at bytes ≡ Some (b, rest)
    → Takes bytes (b ∷ []) rest × (b < 256)
byte_takes [] b rest fits e = absurd cc
byte_takes (c ∷ bytes) b rest fits e =
    let same = some_is (c, bytes) (b, rest) e in
    subst (λ (x : ℕ × List ℕ). Takes (c ∷ bytes) (x.0 ∷ []) x.1 × (x.0 < 256)) same
    (record { parts = refl; rest_fits = λ i. fits (suc i) }, fits 0)

-- one byte, a number below 256
pub byte_reader : IsReader byte_at (λ b. b ∷ []) (λ b. b < 256)
byte_reader = record { takes = byte_takes; again = λ b rest fits. refl }

bytes_take : (n : ℕ) (bytes x rest : List ℕ) → AreBytes bytes → bytes_at n bytes ≡ Some (x, rest)
    → Takes bytes x rest × (length x ≡ n)
unfolding bytes_at
bytes_take n bytes x rest fits e =
    let g = unless_none (ltb (length bytes) n) (take n bytes, drop n bytes) (x, rest) e in
    let long : n ≤ length bytes = ltb-false _ _ g.0 in
    subst (λ (p : List ℕ × List ℕ). Takes bytes p.0 p.1 × (length p.0 ≡ n)) {x = (take n bytes, drop n bytes)} g.1 (
      record { parts = sym (take-append-drop n bytes); rest_fits = AreBytes-drop n bytes fits },
      omega (arith, length-take n bytes),
    )

bytes_again : (n : ℕ) (x rest : List ℕ) → length x ≡ n → bytes_at n (x ++ rest) ≡ Some (x, rest)
unfolding bytes_at
bytes_again n x rest len =
    let long : ltb (length (x ++ rest)) n ≡ false = le-ltb _ _ (omega (arith, length-append x rest)) in
    rw (long, take_at x rest n len, drop_at x rest n len) refl

-- n bytes
pub bytes_reader : (n : ℕ) → IsReader (bytes_at n) (λ x. x) (λ x. length x ≡ n)
bytes_reader n = record { takes = bytes_take n; again = bytes_again n }

-- ---- numbers

-- a width, and the limit below which numbers fit in it: they have as many bytes as the width, and are read back
pub record IsWide (w : Width) (limit : ℕ) : Type 0 where
  pub len : (n : ℕ) → length (to_le_bytes w n) ≡ byte_len w
  pub back : (bytes : List ℕ) → length bytes ≡ byte_len w → AreBytes bytes
      → to_le_bytes w (from_le_bytes w bytes) ≡ bytes
  pub again : (n : ℕ) → n < limit → from_le_bytes w (to_le_bytes w n) ≡ n
  pub below : (bytes : List ℕ) → AreBytes bytes → from_le_bytes w bytes < limit

pub wide_16 : IsWide w16 (2 ^ 16)
wide_16 = record {
  len = λ n. refl;
  back = λ bytes len fits. le_bytes_2 bytes _ len fits refl;
  again = λ n lt. from_le_bytes-to_le_bytes_2 n lt;
  below = λ bytes fits. omega (arith, fits 0, fits 1);
}

pub wide_32 : IsWide w32 (2 ^ 32)
wide_32 = record {
  len = λ n. refl;
  back = λ bytes len fits. le_bytes_4 bytes _ len fits refl;
  again = λ n lt. from_le_bytes-to_le_bytes_4 n lt;
  below = λ bytes fits. omega (arith, fits 0, fits 1, fits 2, fits 3);
}

pub wide_64 : IsWide w64 (2 ^ 64)
wide_64 = record {
  len = λ n. refl;
  back = λ bytes len fits. le_bytes_8 bytes _ len fits refl;
  again = λ n lt. from_le_bytes-to_le_bytes_8 n lt;
  below = λ bytes fits. omega (arith, fits 0, fits 1, fits 2, fits 3, fits 4, fits 5, fits 6, fits 7);
}

pub number_takes : (w : Width) (limit : ℕ) → IsWide w limit → (bytes : List ℕ) (n : ℕ) (rest : List ℕ) → AreBytes bytes
    → number_at w bytes ≡ Some (n, rest) → Takes bytes (to_le_bytes w n) rest × (n < limit)
unfolding number_at
number_takes w limit wide bytes n rest fits e =
    let g = unless_none (ltb (length bytes) (byte_len w))
    (from_le_bytes w (take (byte_len w) bytes), drop (byte_len w) bytes) (n, rest) e in
    let long : byte_len w ≤ length bytes = ltb-false _ _ g.0 in
    let front_fits = AreBytes-take (byte_len w) bytes fits in
    let front : to_le_bytes w (from_le_bytes w (take (byte_len w) bytes)) ≡ take (byte_len w) bytes =
    wide.back (take (byte_len w) bytes) (omega (arith, length-take (byte_len w) bytes)) front_fits in
    subst (λ (p : ℕ × List ℕ). Takes bytes (to_le_bytes w p.0) p.1 × (p.0 < limit))
    {x = (from_le_bytes w (take (byte_len w) bytes), drop (byte_len w) bytes)} g.1 (
      record {
        parts = rw front (sym (take-append-drop (byte_len w) bytes));
        rest_fits =
            AreBytes-drop (byte_len w) bytes fits;
      },
      wide.below (take (byte_len w) bytes) front_fits,
    )

pub number_again : (w : Width) (limit : ℕ) → IsWide w limit → (n : ℕ) (rest : List ℕ) → n < limit
    → number_at w (to_le_bytes w n ++ rest) ≡ Some (n, rest)
unfolding number_at
number_again w limit wide n rest lt =
    let len = wide.len n in
    let long : ltb (length (to_le_bytes w n ++ rest)) (byte_len w) ≡ false =
    le-ltb _ _ (omega (arith, length-append (to_le_bytes w n) rest)) in
    rw (
      long,
      take_at (to_le_bytes w n) rest (byte_len w) len,
      drop_at (to_le_bytes w n) rest (byte_len w) len,
      wide.again n lt,
    ) refl

-- a number below the limit, in as many bytes as its width, the lowest first
pub number_reader : (w : Width) (limit : ℕ) → IsWide w limit → IsReader (number_at w) (to_le_bytes w) (λ n. n < limit)
number_reader w limit wide = record { takes = number_takes w limit wide; again = number_again w limit wide }

-- ---- codes

chosen : {A : Type 0} (b : Bool) (x y z : A) → cond b x y ≡ z → ((b ≡ true) × (x ≡ z)) ⊎ ((b ≡ false) × (y ≡ z))
chosen true x y z e = inl (refl, e)
chosen false x y z e = inr (refl, e)

-- a code that is read is that of what was read: here, or by the codes after it
pub code_step : {A : Type 0} (code_of : A → ℕ) (code k : ℕ) (here x : A) (others : Option A) → code_of here ≡ k
    → cond (eqb code k) (Some here) others ≡ Some x → (others ≡ Some x → code ≡ code_of x) → code ≡ code_of x
code_step code_of code k here x others is_k e after =
    elim (chosen (eqb code k) (Some here) others (Some x) e) [
      | inl p ↦ eqb-true _ _ p.0 ∙ sym is_k ∙ ap code_of (some_is here x p.1)
      | inr p ↦ after p.1
    ]

-- ---- many things, one after another

module _ {A : Type 0} (read : List ℕ → Option (A × List ℕ)) (text : A → List ℕ) (Fits : A → Type 0)
    (each : IsReader read text Fits) where
  many_take : (n : ℕ) (bytes : List ℕ) (xs : List A) (rest : List ℕ) → AreBytes bytes
      → many read n bytes ≡ Some (xs, rest) → Takes bytes (flat_map text xs) rest
      × ((length xs ≡ n) × AllByRecursion Fits xs)
  unfolding many
  many_take zero bytes xs rest fits e =
      moved (λ (y : List A × List ℕ). Takes bytes (flat_map text y.0) y.1
      × ((length y.0 ≡ 0) × AllByRecursion Fits y.0)) ([], bytes) (xs, rest) e
      (record { parts = refl; rest_fits = fits }, (refl, tt))
  many_take (suc n) bytes xs rest fits e =
      let first = bind_some (read bytes) _ (xs, rest) e in
      let others = bind_some (many read n first.0.1) _ (xs, rest) first.2 in
      let took_first = each.takes bytes first.0.0 first.0.1 fits first.1 in
      let took_others = many_take n first.0.1 others.0.0 others.0.1 took_first.0.rest_fits others.1 in
      let made : List A × List ℕ = (first.0.0 ∷ others.0.0, others.0.1) in
      moved (λ (y : List A × List ℕ). Takes bytes (flat_map text y.0) y.1
      × ((length y.0 ≡ suc n) × AllByRecursion Fits y.0)) made (xs, rest) others.2 (
        rw flat_map-cons (Takes-then took_first.0 took_others.0),
        (ap suc took_others.1.0, (took_first.1, took_others.1.1)),
      )

  many_again : (n : ℕ) (xs : List A) (rest : List ℕ) → length xs ≡ n → AllByRecursion Fits xs
      → many read n (flat_map text xs ++ rest) ≡ Some (xs, rest)
  unfolding many
  many_again zero [] rest len fits = refl
  many_again (suc n) [] rest len fits = absurd (omega arith)
  many_again zero (x ∷ xs) rest len fits = absurd (omega arith)
  many_again (suc n) (x ∷ xs) rest len fits =
      let regrouped : flat_map text (x ∷ xs) ++ rest ≡ text x ++ (flat_map text xs ++ rest) =
      ap (λ (t : List ℕ). t ++ rest) (flat_map-cons text x xs) ∙ append_assoc (text x) (flat_map text xs) rest in
      ap (many read (suc n)) regrouped ∙ rw (
        each.again x (flat_map text xs ++ rest) fits.0,
        many_again n xs rest (omega arith) fits.1,
      ) refl

  pub many_reader : (n : ℕ) → IsReader (many read n) (flat_map text) (λ xs. (length xs ≡ n) × AllByRecursion Fits xs)
  many_reader n = record { takes = many_take n; again = λ xs rest fits. many_again n xs rest fits.0 fits.1 }
