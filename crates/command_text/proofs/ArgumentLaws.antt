-- Arguments: what is read is spelled so and right, and what is right and spelled so is read.
use Rattle.std.proofs.Common.{◌≡◌, ℕ, zero, suc, ◌≤◌, ◌<◌, ◌^◌, ◌&&◌, ℤ, Bool, true, false, cond, nat_eq, List, [], ◌∷◌}
use Rattle.std.proofs.Common.{◌++◌, length, slice_index, Option, Some, None, inl, inr, refl, sym, ap, subst, ◌∙◌, arith}
use Rattle.std.specs.List.{AllByRecursion}
use Rattle.std.specs.Fmt.{decimal, signed_decimal}
use Rattle.std.specs.Str.{bytes_eq}
use lib.Signed.{mag}
use Rattle.std.proofs.lemmas.Bool.{and_parts, cases_lt, eqb-true, ne_eqb}
use Rattle.std.proofs.lemmas.Slice.Eq.{bytes_eq-Decides}
use Rattle.per_base.specs.declared.opening.OpenKind.{OpenKind}
use Rattle.per_base.specs.declared.opening.OpenKind.TheVariants as kind
use Rattle.per_base.specs.declared.opening.Origin.{Origin}
use Rattle.per_base.specs.declared.opening.Origin.TheVariants as origin
use Rattle.per_base.specs.declared.opening.OpenMode.{OpenMode}
use Rattle.per_base.specs.Modes.{bits_of}
use Rattle.per_base.specs.Names.{IsName, is_name}
use Rattle.per_base.specs.Fields.{◌>>=◌}
use Rattle.per_base.specs.Maps.{first_row}
use Rattle.value_text.specs.Texts.{hex_text, hex_byte_text}
use Rattle.value_text.specs.Whole.{unsigned_in, signed_in, bytes_in}
use Rattle.value_text.specs.lemmas.Steps.{bind_some, if_some, else_some, chosen, branch_some, some_is}
use Rattle.value_text.specs.lemmas.WholeLaws.{unsigned_in_takes, unsigned_in_again, signed_in_takes, signed_in_again}
use Rattle.value_text.specs.lemmas.WholeLaws.{bytes_in_takes, bytes_in_again}
use Rattle.command_text.specs.Grammar.{has_feed, kind_text, origin_text, mode_text}
use Rattle.command_text.specs.Reading.{split, name_in, octet_in, the_one, manifest_in, kind_words}
use Rattle.command_text.specs.Reading.{kind_word_in, origin_words, origin_in, mode_of, appending_modes, other_modes}
use Rattle.command_text.specs.Reading.{mode_in, mode_end_in, element_in, handle_in, element_front, handle_front}
use Rattle.command_text.specs.Reading.{opening_in, distance_in}
use Rattle.command_text.proofs.Splits.{split_takes, split_again}
use Rattle.command_text.proofs.Spaceless.{name_spaceless, decimal_spaceless, kind_spaceless, origin_spaceless}

-- ---- names, bytes and manifests

pub name_takes : (text s : List ℕ) → name_in text ≡ Some s → (text ≡ s) × IsName s
name_takes text s e =
    let a = if_some (is_name text) (Some text) s e in
    subst (λ (t : List ℕ). (text ≡ t) × IsName t) (some_is text s a.1) (refl, a.0)

pub name_again : (s : List ℕ) → IsName s → name_in s ≡ Some s
name_again s is = let e : is_name s ≡ true = is in rw e refl

only_one : (bytes : List ℕ) (b : ℕ) → the_one bytes ≡ Some b → bytes ≡ b ∷ []
only_one [] b e = absurd cc
only_one (x ∷ []) b e = cc
only_one (x ∷ y ∷ bytes) b e = absurd cc

pub octet_takes : (text : List ℕ) (b : ℕ) → octet_in text ≡ Some b → (text ≡ hex_byte_text b) × (b < 256)
octet_takes text b e =
    let a = bind_some (bytes_in text) the_one b e in
    let read = bytes_in_takes text a.0 a.1 in
    let one : a.0 ≡ b ∷ [] = only_one a.0 b a.2 in
    (read.0 ∙ ap hex_text one, subst (λ (bytes : List ℕ). slice_index bytes 0 < 256) one (read.1 0))

one_fits : (b : ℕ) → b < 256 → (i : ℕ) → slice_index (b ∷ []) i < 256
one_fits b lt zero = lt
one_fits b lt (suc i) = omega arith

pub octet_again : (b : ℕ) → b < 256 → octet_in (hex_byte_text b) ≡ Some b
octet_again b lt =
    let read : bytes_in (hex_byte_text b) ≡ Some (b ∷ []) = bytes_in_again (b ∷ []) (one_fits b lt) in
    rw read refl

pub manifest_takes : (text j : List ℕ) → manifest_in text ≡ Some j → (text ≡ j) × (1 ≤ length j) × (has_feed j ≡ false)
manifest_takes text j e =
    let a = else_some (nat_eq (length text) 0) (cond (has_feed text) None (Some text)) j e in
    let b = else_some (has_feed text) (Some text) j a.1 in
    subst (λ (t : List ℕ). (text ≡ t) × (1 ≤ length t) × (has_feed t ≡ false)) (some_is text j b.1)
    (refl, some_bytes text a.0, b.0)
  where
    some_bytes : (text : List ℕ) → nat_eq (length text) 0 ≡ false → 1 ≤ length text
    some_bytes [] e = absurd cc
    some_bytes (b ∷ text) e = omega arith

pub manifest_again : (j : List ℕ) → 1 ≤ length j → has_feed j ≡ false → manifest_in j ≡ Some j
manifest_again j some one_line = let e : nat_eq (length j) 0 ≡ false =
    ne_eqb (length j) 0 (λ e. omega arith) in rw (e, one_line) refl

-- ---- words

-- the row whose word the text is, where each row's word is the text of what it denotes
pub first_row_takes : {A : Type 0} (P : List ℕ → A → Type 0) (rows : List (List ℕ × A))
    → AllByRecursion (λ row. P row.0 row.1) rows → (text : List ℕ) (x : A) → first_row rows text ≡ Some x → P text x
first_row_takes P [] all text x e = absurd cc
first_row_takes {A} P (row ∷ rows) all text x e =
    elim (chosen (bytes_eq text row.0) (Some row.1) (first_row rows text) (Some x) e) [
      | inl p ↦ subst (λ (y : A). P text y) (some_is row.1 x p.1)
          (subst (λ (t : List ℕ). P t row.1) (sym ((bytes_eq-Decides text row.0).0 p.0)) all.0)
      | inr p ↦ first_row_takes P rows all.1 text x p.1
    ]

pub kind_word_takes : (text : List ℕ) (k : OpenKind) → kind_word_in text ≡ Some k → text ≡ kind_text k
unfolding kind_word_in
kind_word_takes text k e = first_row_takes (λ t k. t ≡ kind_text k) kind_words (refl, (refl, (refl, tt))) text k e

pub kind_word_again : (k : OpenKind) → kind_word_in (kind_text k) ≡ Some k
unfolding kind_word_in
kind_word_again kind.Read = refl
kind_word_again kind.Write = refl
kind_word_again kind.ReadWrite = refl

pub origin_takes : (text : List ℕ) (o : Origin) → origin_in text ≡ Some o → text ≡ origin_text o
unfolding origin_in
origin_takes text o e = first_row_takes (λ t o. t ≡ origin_text o) origin_words (refl, (refl, (refl, tt))) text o e

pub origin_again : (o : Origin) → origin_in (origin_text o) ≡ Some o
unfolding origin_in
origin_again origin.Beginning = refl
origin_again origin.Current = refl
origin_again origin.End = refl

abbrev IsMode : List ℕ → OpenMode → Type 0
IsMode text mode = (text ≡ mode_text mode) × (bits_of mode < 16)

mode_end_takes : (text : List ℕ) (m : OpenMode) → mode_end_in text ≡ Some m → IsMode text m
unfolding mode_end_in
mode_end_takes text m e = first_row_takes IsMode appending_modes (
  (refl, omega arith),
  (
    (refl, omega arith),
    (
      (refl, omega arith),
      (
        (refl, omega arith),
        (
          (refl, omega arith),
          (
            (refl, omega arith),
            ((refl, omega arith), ((refl, omega arith), tt)),
          ),
        ),
      ),
    ),
  ),
) text m e

pub mode_takes : (text : List ℕ) (m : OpenMode) → mode_in text ≡ Some m → IsMode text m
unfolding mode_in
mode_takes text m e =
    elim (branch_some (first_row other_modes text) (λ mode. Some mode) (mode_end_in text) m e) [
      | inl p ↦ first_row_takes IsMode other_modes (
        (refl, omega arith),
        (
          (refl, omega arith),
          (
            (refl, omega arith),
            (
              (refl, omega arith),
              ((refl, omega arith), ((refl, omega arith), ((refl, omega arith), ((refl, omega arith), tt)))),
            ),
          ),
        ),
      )
          text m (p.1 ∙ p.2)
      | inr p ↦ mode_end_takes text m p.1
    ]

-- a test of each number below another
all_below : ℕ → (ℕ → Bool) → Bool
all_below zero p = true
all_below (suc n) p = p n && all_below n p

is_below : (n k : ℕ) (p : ℕ → Bool) → all_below n p ≡ true → k < n → p k ≡ true
unfolding all_below
is_below zero k p all lt = absurd (omega arith)
is_below (suc n) k p all lt =
    let parts = and_parts (p n) (all_below n p) all in
    elim (cases_lt k n) [
      | inl below ↦ is_below n k p parts.1 below
      | inr above ↦ let same : n ≡ k = omega arith in subst (λ (m : ℕ). p m ≡ true) same parts.0
    ]

has_bits : Option OpenMode → ℕ → Bool
has_bits (Some m) n = nat_eq (bits_of m) n
has_bits None n = false

the_mode : (read : Option OpenMode) (n : ℕ) → has_bits read n ≡ true → read ≡ Some (mode_of n)
unfolding has_bits
the_mode (Some m) n e = ap (λ (k : ℕ). Some (mode_of k)) (eqb-true _ _ e)
the_mode None n e = absurd cc

pub mode_again : (m : OpenMode) → bits_of m < 16 → mode_in (mode_text m) ≡ Some m
unfolding mode_in mode_end_in has_bits all_below
mode_again m lt = the_mode (mode_in (mode_text m)) (bits_of m)
    (is_below 16 (bits_of m) (λ n. has_bits (mode_in (mode_text (mode_of n))) n) refl lt)

-- ---- several arguments

pub element_takes : (text : List ℕ) (x : List ℕ × List ℕ) → element_in text ≡ Some x
    → (text ≡ x.0 ++ 32 ∷ x.1) × IsName x.0 × IsName x.1
unfolding element_in
element_takes text x e =
    let words = bind_some (split text) (λ words. name_in words.0 >>= λ s. name_in words.1 >>= λ k. Some (s, k)) x e in
    let s = bind_some (name_in words.0.0) (λ s. name_in words.0.1 >>= λ k. Some (s, k)) x words.2 in
    let k = bind_some (name_in words.0.1) (λ k. Some (s.0, k)) x s.2 in
    let first = name_takes words.0.0 s.0 s.1 in
    let second = name_takes words.0.1 k.0 k.1 in
    subst (λ (y : List ℕ × List ℕ). (text ≡ y.0 ++ 32 ∷ y.1) × IsName y.0 × IsName y.1) (some_is (s.0, k.0) x k.2) (
      split_takes text words.0 words.1 ∙ ap (λ (t : List ℕ). t ++ 32 ∷ words.0.1) first.0
          ∙ ap (λ (t : List ℕ). s.0 ++ 32 ∷ t) second.0,
      first.1,
      second.1,
    )

pub element_again : (s k : List ℕ) → IsName s → IsName k → element_in (s ++ 32 ∷ k) ≡ Some (s, k)
unfolding element_in
element_again s k is_s is_k = rw (split_again s k (name_spaceless s is_s), name_again s is_s, name_again k is_k) refl

pub handle_takes : (text : List ℕ) (x : List ℕ × ℕ) → handle_in text ≡ Some x
    → (text ≡ x.0 ++ 32 ∷ decimal x.1) × IsName x.0 × (x.1 < 2 ^ 32)
unfolding handle_in
handle_takes text x e =
    let words = bind_some (split text) (λ words. name_in words.0 >>= λ s. unsigned_in (2 ^ 32) words.1 >>= λ h.
    Some (s, h)) x e in
    let s = bind_some (name_in words.0.0) (λ s. unsigned_in (2 ^ 32) words.0.1 >>= λ h. Some (s, h)) x words.2 in
    let h = bind_some (unsigned_in (2 ^ 32) words.0.1) (λ h. Some (s.0, h)) x s.2 in
    let first = name_takes words.0.0 s.0 s.1 in
    let second = unsigned_in_takes (2 ^ 32) words.0.1 h.0 h.1 in
    subst (λ (y : List ℕ × ℕ). (text ≡ y.0 ++ 32 ∷ decimal y.1) × IsName y.0 × (y.1 < 2 ^ 32))
    (some_is (s.0, h.0) x h.2) (
      split_takes text words.0 words.1 ∙ ap (λ (t : List ℕ). t ++ 32 ∷ words.0.1) first.0
          ∙ ap (λ (t : List ℕ). s.0 ++ 32 ∷ t) second.0,
      first.1,
      second.1,
    )

pub handle_again : (s : List ℕ) (h : ℕ) → IsName s → h < 2 ^ 32 → handle_in (s ++ 32 ∷ decimal h) ≡ Some (s, h)
unfolding handle_in
handle_again s h is_s lt = rw (
  split_again s (decimal h) (name_spaceless s is_s),
  name_again s is_s,
  unsigned_in_again (2 ^ 32) h (omega arith) lt,
) refl

pub element_front_takes : (text : List ℕ) (x : List ℕ × List ℕ × List ℕ) → element_front text ≡ Some x
    → (text ≡ x.0 ++ 32 ∷ (x.1 ++ 32 ∷ x.2)) × IsName x.0 × IsName x.1
unfolding element_front
element_front_takes text x e =
    let words = bind_some (split text) (λ words. name_in words.0 >>= λ s. split words.1 >>= λ more.
    name_in more.0 >>= λ k. Some (s, k, more.1)) x e in
    let s = bind_some (name_in words.0.0) (λ s. split words.0.1 >>= λ more. name_in more.0 >>= λ k. Some (s, k, more.1))
    x words.2 in
    let more = bind_some (split words.0.1) (λ more. name_in more.0 >>= λ k. Some (s.0, k, more.1)) x s.2 in
    let k = bind_some (name_in more.0.0) (λ k. Some (s.0, k, more.0.1)) x more.2 in
    let first = name_takes words.0.0 s.0 s.1 in
    let second = name_takes more.0.0 k.0 k.1 in
    let others : words.0.1 ≡ k.0 ++ 32 ∷ more.0.1 = split_takes words.0.1 more.0 more.1
    ∙ ap (λ (t : List ℕ). t ++ 32 ∷ more.0.1) second.0 in
    subst (λ (y : List ℕ × List ℕ × List ℕ). (text ≡ y.0 ++ 32 ∷ (y.1 ++ 32 ∷ y.2)) × IsName y.0 × IsName y.1)
    (some_is (s.0, k.0, more.0.1) x k.2) (
      split_takes text words.0 words.1 ∙ ap (λ (t : List ℕ). t ++ 32 ∷ words.0.1) first.0
          ∙ ap (λ (t : List ℕ). s.0 ++ 32 ∷ t) others,
      first.1,
      second.1,
    )

pub element_front_again : (s k rest : List ℕ) → IsName s → IsName k
    → element_front (s ++ 32 ∷ (k ++ 32 ∷ rest)) ≡ Some (s, k, rest)
unfolding element_front
element_front_again s k rest is_s is_k = rw (
  split_again s (k ++ 32 ∷ rest) (name_spaceless s is_s),
  name_again s is_s,
  split_again k rest (name_spaceless k is_k),
  name_again k is_k,
) refl

pub handle_front_takes : (text : List ℕ) (x : List ℕ × ℕ × List ℕ) → handle_front text ≡ Some x
    → (text ≡ x.0 ++ 32 ∷ (decimal x.1 ++ 32 ∷ x.2)) × IsName x.0 × (x.1 < 2 ^ 32)
unfolding handle_front
handle_front_takes text x e =
    let words = bind_some (split text) (λ words. name_in words.0 >>= λ s. split words.1 >>= λ more.
    unsigned_in (2 ^ 32) more.0 >>= λ h. Some (s, h, more.1)) x e in
    let s = bind_some (name_in words.0.0) (λ s. split words.0.1 >>= λ more. unsigned_in (2 ^ 32) more.0 >>= λ h.
    Some (s, h, more.1)) x words.2 in
    let more = bind_some (split words.0.1) (λ more. unsigned_in (2 ^ 32) more.0 >>= λ h. Some (s.0, h, more.1)) x s.2 in
    let h = bind_some (unsigned_in (2 ^ 32) more.0.0) (λ h. Some (s.0, h, more.0.1)) x more.2 in
    let first = name_takes words.0.0 s.0 s.1 in
    let second = unsigned_in_takes (2 ^ 32) more.0.0 h.0 h.1 in
    let others : words.0.1 ≡ decimal h.0 ++ 32 ∷ more.0.1 =
    split_takes words.0.1 more.0 more.1 ∙ ap (λ (t : List ℕ). t ++ 32 ∷ more.0.1) second.0 in
    subst (λ (y : List ℕ × ℕ × List ℕ). (text ≡ y.0 ++ 32 ∷ (decimal y.1 ++ 32 ∷ y.2)) × IsName y.0 × (y.1 < 2 ^ 32))
    (some_is (s.0, h.0, more.0.1) x h.2) (
      split_takes text words.0 words.1 ∙ ap (λ (t : List ℕ). t ++ 32 ∷ words.0.1) first.0
          ∙ ap (λ (t : List ℕ). s.0 ++ 32 ∷ t) others,
      first.1,
      second.1,
    )

pub handle_front_again : (s : List ℕ) (h : ℕ) (rest : List ℕ) → IsName s → h < 2 ^ 32
    → handle_front (s ++ 32 ∷ (decimal h ++ 32 ∷ rest)) ≡ Some (s, h, rest)
unfolding handle_front
handle_front_again s h rest is_s lt =
    rw (
      split_again s (decimal h ++ 32 ∷ rest) (name_spaceless s is_s),
      name_again s is_s,
      split_again (decimal h) rest (decimal_spaceless h (omega arith)),
      unsigned_in_again (2 ^ 32) h (omega arith) lt,
    ) refl

pub opening_takes : (text : List ℕ) (x : OpenKind × OpenMode) → opening_in text ≡ Some x
    → (text ≡ kind_text x.0 ++ 32 ∷ mode_text x.1) × (bits_of x.1 < 16)
unfolding opening_in
opening_takes text x e =
    let words = bind_some (split text) (λ words. kind_word_in words.0 >>= λ k. mode_in words.1 >>= λ m. Some (k, m)) x e
    in
    let k = bind_some (kind_word_in words.0.0) (λ k. mode_in words.0.1 >>= λ m. Some (k, m)) x words.2 in
    let m = bind_some (mode_in words.0.1) (λ m. Some (k.0, m)) x k.2 in
    let first = kind_word_takes words.0.0 k.0 k.1 in
    let second = mode_takes words.0.1 m.0 m.1 in
    subst (λ (y : OpenKind × OpenMode). (text ≡ kind_text y.0 ++ 32 ∷ mode_text y.1) × (bits_of y.1 < 16))
    (some_is (k.0, m.0) x m.2) (
      split_takes text words.0 words.1 ∙ ap (λ (t : List ℕ). t ++ 32 ∷ words.0.1) first
          ∙ ap (λ (t : List ℕ). kind_text k.0 ++ 32 ∷ t) second.0,
      second.1,
    )

pub opening_again : (k : OpenKind) (m : OpenMode) → bits_of m < 16
    → opening_in (kind_text k ++ 32 ∷ mode_text m) ≡ Some (k, m)
unfolding opening_in
opening_again k m lt = rw (
  split_again (kind_text k) (mode_text m) (kind_spaceless k),
  kind_word_again k,
  mode_again m lt,
) refl

pub distance_takes : (text : List ℕ) (x : Origin × ℤ) → distance_in text ≡ Some x
    → (text ≡ origin_text x.0 ++ 32 ∷ signed_decimal x.1) × (mag x.1 < 2 ^ 63)
unfolding distance_in
distance_takes text x e =
    let words = bind_some (split text) (λ words. origin_in words.0 >>= λ o. signed_in (2 ^ 63) words.1 >>= λ z.
    Some (o, z)) x e in
    let o = bind_some (origin_in words.0.0) (λ o. signed_in (2 ^ 63) words.0.1 >>= λ z. Some (o, z)) x words.2 in
    let z = bind_some (signed_in (2 ^ 63) words.0.1) (λ z. Some (o.0, z)) x o.2 in
    let first = origin_takes words.0.0 o.0 o.1 in
    let second = signed_in_takes (2 ^ 63) words.0.1 z.0 z.1 in
    subst (λ (y : Origin × ℤ). (text ≡ origin_text y.0 ++ 32 ∷ signed_decimal y.1) × (mag y.1 < 2 ^ 63))
    (some_is (o.0, z.0) x z.2) (
      split_takes text words.0 words.1 ∙ ap (λ (t : List ℕ). t ++ 32 ∷ words.0.1) first
          ∙ ap (λ (t : List ℕ). origin_text o.0 ++ 32 ∷ t) second.0,
      second.1,
    )

pub distance_again : (o : Origin) (z : ℤ) → mag z < 2 ^ 63
    → distance_in (origin_text o ++ 32 ∷ signed_decimal z) ≡ Some (o, z)
unfolding distance_in
distance_again o z lt = rw (
  split_again (origin_text o) (signed_decimal z) (origin_spaceless o),
  origin_again o,
  signed_in_again (2 ^ 63) z (omega arith) lt,
) refl
