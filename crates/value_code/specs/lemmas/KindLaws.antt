-- Codes of types: what is read is spelled so, and what is spelled so is read again.
use Rattle.std.proofs.Common.{◌≡◌, ℕ, zero, suc, ◌≤◌, max, cond, List, [], ◌∷◌, ◌++◌, Option, Some, None, refl, sym, ap}
use Rattle.std.proofs.Common.{subst, ◌∙◌, append_assoc, arith, inl, inr}
use Rattle.std.specs.Prelude.{IsTrue, nat_eq}
use Rattle.std.proofs.lemmas.Bool.{eqb-true, and_from, and_parts}
use Rattle.per_base.specs.Fields.{◌>>=◌, byte_at, AreBytes}
use Rattle.value_model.specs.Kinds.{one, two, four, eight, is_group, Kind, bool_kind, unsigned_kind, signed_kind}
use Rattle.value_model.specs.Kinds.{text_kind, bytes_kind, list_kind, fields_kind, Kinds, no_kinds, kind_then}
use Rattle.value_model.specs.Kinds.{count_kinds, kind_depth, kinds_depth, kind_fits, kinds_fit, type_code, type_codes}
use Rattle.value_code.specs.Reading.{scalars, find_code, scalar_of, scalar_kind, kinds_by, list_kind_by}
use Rattle.value_code.specs.Reading.{group_kind_by, kind_at}
use Rattle.value_code.specs.lemmas.Starts.{bind_some, some_is, let_pass, either_way, Takes, Takes-then, byte_takes}

-- a kind of at most depth d that was read from bytes, with the bytes after it
pub record KindRead (d : ℕ) (bytes : List ℕ) (k : Kind) (rest : List ℕ) : Type 0 where
  pub takes : Takes bytes (type_code k) rest
  pub fits : IsTrue (kind_fits k)
  pub shallow : kind_depth k ≤ d

pub record KindsRead (d n : ℕ) (bytes : List ℕ) (ks : Kinds) (rest : List ℕ) : Type 0 where
  pub takes : Takes bytes (type_codes ks) rest
  pub fit : IsTrue (kinds_fit ks)
  pub shallow : kinds_depth ks ≤ d
  pub count : count_kinds ks ≡ n

abbrev Reads : ℕ → (List ℕ → Option (Kind × List ℕ)) → Type 0
Reads d f = (bytes : List ℕ) (x : Kind × List ℕ) → AreBytes bytes → f bytes ≡ Some x → KindRead d bytes x.0 x.1

kinds_take : (d : ℕ) (f : List ℕ → Option (Kind × List ℕ)) → Reads d f → (n : ℕ) (bytes : List ℕ) (x : Kinds × List ℕ)
    → AreBytes bytes → kinds_by f n bytes ≡ Some x → KindsRead d n bytes x.0 x.1
unfolding kinds_by
kinds_take d f law zero bytes x small e =
    subst (λ (y : Kinds × List ℕ). KindsRead d 0 bytes y.0 y.1) (some_is (no_kinds, bytes) x e)
    (record {
      takes = record { parts = refl; rest_bytes = small };
      fit = refl;
      shallow = omega arith;
      count =
          refl;
    })
kinds_take d f law (suc n) bytes x small e =
    let a = bind_some (f bytes) (λ first. kinds_by f n first.1 >>= λ others.
    Some (kind_then first.0 others.0, others.1)) x e in
    let b = bind_some (kinds_by f n a.0.1) (λ others. Some (kind_then a.0.0 others.0, others.1)) x a.2 in
    let first = law bytes a.0 small a.1 in
    let others = kinds_take d f law n a.0.1 b.0 first.takes.rest_bytes b.1 in
    let depth : max (kind_depth a.0.0) (kinds_depth b.0.0) ≤ d = omega (arith, first.shallow, others.shallow) in
    subst (λ (y : Kinds × List ℕ). KindsRead d (suc n) bytes y.0 y.1) (some_is (kind_then a.0.0 b.0.0, b.0.1) x b.2)
    (record {
      takes = Takes-then bytes (type_code a.0.0) a.0.1 (type_codes b.0.0) b.0.1 first.takes others.takes;
      fit = and_from (kind_fits a.0.0) (kinds_fit b.0.0) first.fits others.fit;
      shallow = depth;
      count = ap suc others.count;
    })

-- ---- after each first byte

record ScalarRow (code : ℕ) (k : Kind) : Type 0 where
  spelled : type_code k ≡ code ∷ []
  fits : IsTrue (kind_fits k)
  flat : kind_depth k ≡ 1

abbrev AllRows : List (ℕ × Kind) → Type 0
AllRows [] = Unit {0}
AllRows (row ∷ rows) = ScalarRow row.0 row.1 × AllRows rows

found_row : (rows : List (ℕ × Kind)) → AllRows rows → (code : ℕ) (k : Kind) → find_code rows code ≡ Some k
    → ScalarRow code k
found_row [] all code k e = absurd cc
found_row (row ∷ rows) all code k e =
    elim (either_way (nat_eq code row.0) (Some row.1) (find_code rows code) k e) [
      | inl g ↦ subst (λ (c : ℕ). ScalarRow c k) (sym (eqb-true code row.0 g.0))
          (subst (λ (j : Kind). ScalarRow row.0 j) (some_is row.1 k g.1) all.0)
      | inr g ↦ found_row rows all.1 code k g.1
    ]

scalar_rows : AllRows scalars
scalar_rows =
    let row = λ (code : ℕ) (k : Kind) (s : type_code k ≡ code ∷ []) (f : IsTrue (kind_fits k)) (d : kind_depth k ≡ 1).
    (let r : ScalarRow code k = record { spelled = s; fits = f; flat = d } in r) in (
      row 1 bool_kind refl refl refl,
      (
        row 2 (unsigned_kind one) refl refl refl,
        (
          row 3 (unsigned_kind two) refl refl refl,
          (
            row 4 (unsigned_kind four) refl refl refl,
            (
              row 5 (unsigned_kind eight) refl refl refl,
              (
                row 6 (signed_kind one) refl refl refl,
                (
                  row 7 (signed_kind two) refl refl refl,
                  (
                    row 8 (signed_kind four) refl refl refl,
                    (
                      row 9 (signed_kind eight) refl refl refl,
                      (row 10 text_kind refl refl refl, (row 11 bytes_kind refl refl refl, tt)),
                    ),
                  ),
                ),
              ),
            ),
          ),
        ),
      ),
    )

scalar_takes : (d code : ℕ) (bytes rest : List ℕ) (x : Kind × List ℕ) → Takes bytes (code ∷ []) rest
    → scalar_kind code rest ≡ Some x → KindRead (suc d) bytes x.0 x.1
scalar_takes d code bytes rest x first e =
    let b = bind_some (scalar_of code) (λ scalar. Some (scalar, rest)) x e in
    let row = found_row scalars scalar_rows code b.0 b.1 in
    subst (λ (y : Kind × List ℕ). KindRead (suc d) bytes y.0 y.1) (some_is (b.0, rest) x b.2) (record {
      takes = subst (λ (c : List ℕ). Takes bytes c rest) (sym row.spelled) first;
      fits = row.fits;
      shallow = omega (arith, row.flat);
    })

list_takes : (d : ℕ) (f : List ℕ → Option (Kind × List ℕ)) → Reads d f → (bytes rest : List ℕ) (x : Kind × List ℕ)
    → Takes bytes (12 ∷ []) rest → list_kind_by f rest ≡ Some x → KindRead (suc d) bytes x.0 x.1
unfolding list_kind_by
list_takes d f law bytes rest x first e =
    let b = bind_some (f rest) (λ item. Some (list_kind item.0, item.1)) x e in
    let item = law rest b.0 first.rest_bytes b.1 in
    subst (λ (y : Kind × List ℕ). KindRead (suc d) bytes y.0 y.1) (some_is (list_kind b.0.0, b.0.1) x b.2) (record {
      takes = Takes-then bytes (12 ∷ []) rest (type_code b.0.0) b.0.1 first item.takes;
      fits = item.fits;
      shallow = omega (arith, item.shallow);
    })

group_takes : (d : ℕ) (f : List ℕ → Option (Kind × List ℕ)) → Reads d f → (bytes rest : List ℕ) (x : Kind × List ℕ)
    → Takes bytes (13 ∷ []) rest → group_kind_by f rest ≡ Some x → KindRead (suc d) bytes x.0 x.1
unfolding group_kind_by
group_takes d f law bytes rest x first e =
    let a = bind_some (byte_at rest) (λ count. cond (is_group count.0)
    (kinds_by f count.0 count.1 >>= λ members. Some (fields_kind members.0, members.1)) None) x e in
    let g = let_pass (is_group a.0.0) (kinds_by f a.0.0 a.0.1 >>= λ members. Some (fields_kind members.0, members.1)) x
    a.2 in
    let b = bind_some (kinds_by f a.0.0 a.0.1) (λ members. Some (fields_kind members.0, members.1)) x g.1 in
    let second = byte_takes rest a.0 first.rest_bytes a.1 in
    let members = kinds_take d f law a.0.0 a.0.1 b.0 second.rest_bytes b.1 in
    let both = Takes-then bytes (13 ∷ []) rest (a.0.0 ∷ type_codes b.0.0) b.0.1 first
    (Takes-then rest (a.0.0 ∷ []) a.0.1 (type_codes b.0.0) b.0.1 second members.takes) in
    subst (λ (y : Kind × List ℕ). KindRead (suc d) bytes y.0 y.1) (some_is (fields_kind b.0.0, b.0.1) x b.2) (record {
      takes = subst (λ (n : ℕ). Takes bytes (13 ∷ n ∷ type_codes b.0.0) b.0.1) (sym members.count) both;
      fits = and_from (is_group (count_kinds b.0.0)) (kinds_fit b.0.0) (ap is_group members.count ∙ g.0) members.fit;
      shallow = omega (arith, members.shallow);
    })

pub kind_takes : (d : ℕ) (bytes : List ℕ) (x : Kind × List ℕ) → AreBytes bytes → kind_at d bytes ≡ Some x
    → KindRead d bytes x.0 x.1
unfolding kind_at
kind_takes zero bytes x small e = absurd cc
kind_takes (suc d) bytes x small e =
    let a = bind_some (byte_at bytes) (λ code. cond (nat_eq code.0 12) (list_kind_by (kind_at d) code.1)
    (cond (nat_eq code.0 13) (group_kind_by (kind_at d) code.1) (scalar_kind code.0 code.1))) x e in
    let first = byte_takes bytes a.0 small a.1 in
    elim (either_way (nat_eq a.0.0 12) (list_kind_by (kind_at d) a.0.1)
    (cond (nat_eq a.0.0 13) (group_kind_by (kind_at d) a.0.1) (scalar_kind a.0.0 a.0.1)) x a.2) [
      | inl g ↦ list_takes d (kind_at d) (kind_takes d) bytes a.0.1 x
          (subst (λ (c : ℕ). Takes bytes (c ∷ []) a.0.1) (eqb-true a.0.0 12 g.0) first) g.1
      | inr g ↦ elim (either_way (nat_eq a.0.0 13) (group_kind_by (kind_at d) a.0.1) (scalar_kind a.0.0 a.0.1) x g.1) [
        | inl h ↦ group_takes d (kind_at d) (kind_takes d) bytes a.0.1 x
            (subst (λ (c : ℕ). Takes bytes (c ∷ []) a.0.1) (eqb-true a.0.0 13 h.0) first) h.1
        | inr h ↦ scalar_takes d a.0.0 bytes a.0.1 x first h.1
      ]
    ]

-- ---- what is spelled is read again

abbrev ReadsAgain : ℕ → (List ℕ → Option (Kind × List ℕ)) → Type 0
ReadsAgain d f = (k : Kind) → IsTrue (kind_fits k) → kind_depth k ≤ d → (rest : List ℕ)
    → f (type_code k ++ rest) ≡ Some (k, rest)

kinds_again : (d : ℕ) (f : List ℕ → Option (Kind × List ℕ)) → ReadsAgain d f → (ks : Kinds) → IsTrue (kinds_fit ks)
    → kinds_depth ks ≤ d → (rest : List ℕ) → kinds_by f (count_kinds ks) (type_codes ks ++ rest) ≡ Some (ks, rest)
unfolding kinds_by
kinds_again d f law no_kinds fit shallow rest = refl
kinds_again d f law (kind_then k ks) fit shallow rest =
    let both = and_parts (kind_fits k) (kinds_fit ks) fit in
    let first = law k both.0 (omega arith) (type_codes ks ++ rest) in
    let others = kinds_again d f law ks both.1 (omega arith) rest in
    ap (kinds_by f (suc (count_kinds ks))) (append_assoc (type_code k) (type_codes ks) rest) ∙ rw (first, others) refl

pub kind_again : (d : ℕ) (k : Kind) → IsTrue (kind_fits k) → kind_depth k ≤ d → (rest : List ℕ)
    → kind_at d (type_code k ++ rest) ≡ Some (k, rest)
unfolding kind_at list_kind_by group_kind_by
kind_again zero bool_kind fits shallow rest = absurd (omega arith)
kind_again zero (unsigned_kind s) fits shallow rest = absurd (omega arith)
kind_again zero (signed_kind s) fits shallow rest = absurd (omega arith)
kind_again zero text_kind fits shallow rest = absurd (omega arith)
kind_again zero bytes_kind fits shallow rest = absurd (omega arith)
kind_again zero (list_kind k) fits shallow rest = absurd (omega arith)
kind_again zero (fields_kind ks) fits shallow rest = absurd (omega arith)
kind_again (suc d) bool_kind fits shallow rest = refl
kind_again (suc d) (unsigned_kind one) fits shallow rest = refl
kind_again (suc d) (unsigned_kind two) fits shallow rest = refl
kind_again (suc d) (unsigned_kind four) fits shallow rest = refl
kind_again (suc d) (unsigned_kind eight) fits shallow rest = refl
kind_again (suc d) (signed_kind one) fits shallow rest = refl
kind_again (suc d) (signed_kind two) fits shallow rest = refl
kind_again (suc d) (signed_kind four) fits shallow rest = refl
kind_again (suc d) (signed_kind eight) fits shallow rest = refl
kind_again (suc d) text_kind fits shallow rest = refl
kind_again (suc d) bytes_kind fits shallow rest = refl
kind_again (suc d) (list_kind k) fits shallow rest = rw (kind_again d k fits (omega arith) rest) refl
kind_again (suc d) (fields_kind ks) fits shallow rest =
    let both = and_parts (is_group (count_kinds ks)) (kinds_fit ks) fits in
    let members = kinds_again d (kind_at d) (kind_again d) ks both.1 (omega arith) rest in
    rw (both.0, members) refl
