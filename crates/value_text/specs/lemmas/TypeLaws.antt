-- The laws of type texts: what is read is spelled so, and what is spelled so is read.
use Rattle.std.proofs.Common.{◌≡◌, ℕ, zero, suc, ◌≤◌, true, nat_le, ◌&&◌, List, [], ◌∷◌, ◌++◌, length, Some, inl, inr}
use Rattle.std.proofs.Common.{refl, sym, ap, subst, ◌∙◌, append_assoc, arith}
use Rattle.std.specs.Prelude.{codes}
use Rattle.std.specs.List.{AllByRecursion}
use Rattle.std.proofs.lemmas.Bool.{and_parts, and_from, leb-true, le-leb}
use Rattle.per_base.specs.Fields.{◌>>=◌}
use Rattle.value_model.specs.Kinds.{one, two, four, eight, Kind, bool_kind, unsigned_kind, signed_kind, text_kind}
use Rattle.value_model.specs.Kinds.{bytes_kind, list_kind, fields_kind, Kinds, no_kinds, kind_then, count_kinds}
use Rattle.value_model.specs.Kinds.{kind_depth, kinds_depth, kind_fits, kinds_fit}
use Rattle.value_model.specs.Views.{kinds_of}
use Rattle.value_text.specs.Texts.{type_text, types_text, further_types_text}
use Rattle.value_text.specs.Readers.{branch, literal_at, separated}
use Rattle.value_text.specs.Parsing.{words, first_word, scalar_at, list_kind_at, fields_kind_at, kind_here, kind_at}
use Rattle.value_text.specs.lemmas.Steps.{bind_some, branch_some, some_is}
use Rattle.value_text.specs.lemmas.Words.{literal_takes}
use Rattle.value_text.specs.lemmas.Lists.{further, listed, Again, separated_takes, separated_again}

-- ---- members as a list

abbrev pub kinds_list : Kinds → List Kind
kinds_list no_kinds = []
kinds_list (kind_then k ks) = k ∷ kinds_list ks

pub kinds_of-kinds_list : (ks : Kinds) → kinds_of (kinds_list ks) ≡ ks
kinds_of-kinds_list no_kinds = refl
kinds_of-kinds_list (kind_then k ks) = ap (kind_then k) (kinds_of-kinds_list ks)

further_types_text-kinds_of : (xs : List Kind) → further_types_text (kinds_of xs) ≡ further type_text xs
further_types_text-kinds_of [] = refl
further_types_text-kinds_of (x ∷ xs) = ap (λ (t : List ℕ). 44 ∷ (type_text x ++ t)) (further_types_text-kinds_of xs)

types_text-kinds_of : (xs : List Kind) → types_text (kinds_of xs) ≡ listed type_text xs
types_text-kinds_of [] = refl
types_text-kinds_of (x ∷ xs) = ap (λ (t : List ℕ). type_text x ++ t) (further_types_text-kinds_of xs)

types_text-is : (ks : Kinds) → types_text ks ≡ listed type_text (kinds_list ks)
types_text-is ks = ap types_text (sym (kinds_of-kinds_list ks)) ∙ types_text-kinds_of (kinds_list ks)

count_kinds-kinds_of : (xs : List Kind) → count_kinds (kinds_of xs) ≡ length xs
count_kinds-kinds_of [] = refl
count_kinds-kinds_of (x ∷ xs) = ap suc (count_kinds-kinds_of xs)

length-kinds_list : (ks : Kinds) → length (kinds_list ks) ≡ count_kinds ks
length-kinds_list no_kinds = refl
length-kinds_list (kind_then k ks) = ap suc (length-kinds_list ks)

-- a type whose groups have 1 to 32 members, and that nests at most so deep
pub record FitsDepth (depth : ℕ) (k : Kind) : Type 0 where
  pub groups : kind_fits k ≡ true
  pub shallow : kind_depth k ≤ depth

kinds_fit-kinds_of : (depth : ℕ) (xs : List Kind) → AllByRecursion (FitsDepth depth) xs
    → (kinds_fit (kinds_of xs) ≡ true) × (kinds_depth (kinds_of xs) ≤ depth)
kinds_fit-kinds_of depth [] each = (refl, omega arith)
kinds_fit-kinds_of depth (x ∷ xs) each =
    let others = kinds_fit-kinds_of depth xs each.1 in
    (and_from (kind_fits x) (kinds_fit (kinds_of xs)) each.0.groups others.0, omega (arith, each.0.shallow, others.1))

-- ---- what is read is spelled so

abbrev IsRow : List ℕ × Kind → Type 0
IsRow w = (w.0 ≡ type_text w.1) × ((kind_fits w.1 ≡ true) × (kind_depth w.1 ≡ 1))

rows : AllByRecursion IsRow words
rows = (
  (refl, (refl, refl)),
  (
    (refl, (refl, refl)),
    (
      (refl, (refl, refl)),
      (
        (refl, (refl, refl)),
        (
          (refl, (refl, refl)),
          (
            (refl, (refl, refl)),
            (
              (refl, (refl, refl)),
              (
                (refl, (refl, refl)),
                (
                  (refl, (refl, refl)),
                  ((refl, (refl, refl)), ((refl, (refl, refl)), tt)),
                ),
              ),
            ),
          ),
        ),
      ),
    ),
  ),
)

abbrev Scalar : List ℕ → Kind × List ℕ → Type 0
Scalar bytes x = (bytes ≡ type_text x.0 ++ x.1) × ((kind_fits x.0 ≡ true) × (kind_depth x.0 ≡ 1))

first_word_takes : (ws : List (List ℕ × Kind)) (bytes : List ℕ) (x : Kind × List ℕ) → AllByRecursion IsRow ws
    → first_word ws bytes ≡ Some x → Scalar bytes x
first_word_takes [] bytes x each e = absurd cc
first_word_takes (w ∷ ws) bytes x each e =
    elim (branch_some (literal_at w.0 bytes) (λ rest. Some (w.1, rest)) (first_word ws bytes) x e) [
      | inl p ↦ subst (λ (y : Kind × List ℕ). Scalar bytes y) (some_is (w.1, p.0) x p.2)
          (literal_takes w.0 bytes p.0 p.1 ∙ ap (λ (t : List ℕ). t ++ p.0) each.0.0, each.0.1)
      | inr p ↦ first_word_takes ws bytes x each.1 p.1
    ]

pub scalar_takes : (bytes : List ℕ) (x : Kind × List ℕ) → scalar_at bytes ≡ Some x → Scalar bytes x
unfolding scalar_at
scalar_takes bytes x e = first_word_takes words bytes x rows e

abbrev Typed : ℕ → List ℕ → Kind × List ℕ → Type 0
Typed depth bytes x = (bytes ≡ type_text x.0 ++ x.1) × FitsDepth depth x.0

list_kind_takes : (depth : ℕ) → ((bytes : List ℕ) (x : Kind × List ℕ) → kind_at depth bytes ≡ Some x
    → Typed depth bytes x) → (bytes rest : List ℕ) (x : Kind × List ℕ) → bytes ≡ codes "list<" ++ rest
    → list_kind_at (kind_at depth) rest ≡ Some x → Typed (suc depth) bytes x
unfolding list_kind_at
list_kind_takes depth law bytes rest x front e =
    let a = bind_some (kind_at depth rest) (λ item. literal_at (codes ">") item.1 >>= λ end.
    Some (list_kind item.0, end)) x e in
    let b = bind_some (literal_at (codes ">") a.0.1) (λ end. Some (list_kind a.0.0, end)) x a.2 in
    let item = law rest a.0 a.1 in
    let close : a.0.1 ≡ codes ">" ++ b.0 = literal_takes (codes ">") a.0.1 b.0 b.1 in
    let spelled : rest ≡ (type_text a.0.0 ++ codes ">") ++ b.0 =
    item.0 ∙ ap (λ (t : List ℕ). type_text a.0.0 ++ t) close ∙ sym (append_assoc (type_text a.0.0) (codes ">") b.0)
    in
    subst (λ (y : Kind × List ℕ). Typed (suc depth) bytes y) (some_is (list_kind a.0.0, b.0) x b.2) (
      front ∙ ap (λ (t : List ℕ). codes "list<" ++ t) spelled,
      record { groups = item.1.groups; shallow = omega (arith, item.1.shallow) },
    )

fields_kind_takes : (depth : ℕ) → ((bytes : List ℕ) (x : Kind × List ℕ) → kind_at depth bytes ≡ Some x
    → Typed depth bytes x) → (bytes rest : List ℕ) (x : Kind × List ℕ) → bytes ≡ codes "{" ++ rest
    → fields_kind_at (kind_at depth) rest ≡ Some x → Typed (suc depth) bytes x
unfolding fields_kind_at
fields_kind_takes depth law bytes rest x front e =
    let a = bind_some (separated (kind_at depth) 125 32 rest)
    (λ members. Some (fields_kind (kinds_of members.0), members.1)) x e in
    let members = separated_takes type_text (kind_at depth) 125 (FitsDepth depth) law 32 rest a.0 a.1 in
    let inner = kinds_fit-kinds_of depth a.0.0 members.each in
    let count = count_kinds-kinds_of a.0.0 in
    let some : nat_le 1 (count_kinds (kinds_of a.0.0)) ≡ true = le-leb _ _ (omega (arith, members.some, count)) in
    let few : nat_le (count_kinds (kinds_of a.0.0)) 32 ≡ true = le-leb _ _ (omega (arith, members.few, count)) in
    let spelled : rest ≡ (types_text (kinds_of a.0.0) ++ codes "}") ++ a.0.1 =
    members.spelled ∙ ap (λ (t : List ℕ). t ++ 125 ∷ a.0.1) (sym (types_text-kinds_of a.0.0))
    ∙ sym (append_assoc (types_text (kinds_of a.0.0)) (codes "}") a.0.1) in
    subst (λ (y : Kind × List ℕ). Typed (suc depth) bytes y) (some_is (fields_kind (kinds_of a.0.0), a.0.1) x a.2) (
      front ∙ ap (λ (t : List ℕ). codes "{" ++ t) spelled,
      record { groups = and_from _ _ (and_from _ _ some few) inner.0; shallow = omega (arith, inner.1) },
    )

pub kind_takes : (depth : ℕ) (bytes : List ℕ) (x : Kind × List ℕ) → kind_at depth bytes ≡ Some x → Typed depth bytes x
unfolding kind_at kind_here
kind_takes zero bytes x e = absurd cc
kind_takes (suc depth) bytes x e =
    elim (branch_some (literal_at (codes "list<") bytes) (list_kind_at (kind_at depth))
    (branch (literal_at (codes "{") bytes) (fields_kind_at (kind_at depth)) (scalar_at bytes)) x e) [
      | inl p ↦ list_kind_takes depth (kind_takes depth) bytes p.0 x (literal_takes (codes "list<") bytes p.0 p.1) p.2
      | inr p ↦
          elim (branch_some (literal_at (codes "{") bytes) (fields_kind_at (kind_at depth)) (scalar_at bytes) x p.1) [
            | inl q ↦ fields_kind_takes depth (kind_takes depth) bytes q.0 x (literal_takes (codes "{") bytes q.0 q.1)
                q.2
            | inr q ↦ let scalar = scalar_takes bytes x q.1 in
                (scalar.0, record { groups = scalar.1.0; shallow = omega (arith, scalar.1.1) })
          ]
    ]

-- ---- what is spelled so is read

pub kind_depth-positive : (k : Kind) → 1 ≤ kind_depth k
kind_depth-positive bool_kind = omega arith
kind_depth-positive (unsigned_kind s) = omega arith
kind_depth-positive (signed_kind s) = omega arith
kind_depth-positive text_kind = omega arith
kind_depth-positive bytes_kind = omega arith
kind_depth-positive (list_kind k) = omega arith
kind_depth-positive (fields_kind ks) = omega arith

each_again : (depth : ℕ) → ((k : Kind) (rest : List ℕ) → kind_fits k ≡ true → kind_depth k ≤ depth
    → kind_at depth (type_text k ++ rest) ≡ Some (k, rest)) → (ks : Kinds) → kinds_fit ks ≡ true
    → kinds_depth ks ≤ depth → AllByRecursion (Again type_text (kind_at depth)) (kinds_list ks)
each_again depth law no_kinds fits shallow = tt
each_again depth law (kind_then k ks) fits shallow =
    let parts = and_parts (kind_fits k) (kinds_fit ks) fits in
    (λ rest ends. law k rest parts.0 (omega arith), each_again depth law ks parts.1 (omega arith))

list_kind_again : (depth : ℕ) (k : Kind) (rest : List ℕ)
    → kind_at depth (type_text k ++ 62 ∷ rest) ≡ Some (k, 62 ∷ rest)
    → list_kind_at (kind_at depth) ((type_text k ++ codes ">") ++ rest) ≡ Some (list_kind k, rest)
unfolding list_kind_at
list_kind_again depth k rest e = ap (list_kind_at (kind_at depth)) (append_assoc (type_text k) (codes ">") rest)
    ∙ rw e refl

fields_kind_again : (depth : ℕ) (ks : Kinds) (rest : List ℕ) → 1 ≤ count_kinds ks → count_kinds ks ≤ 32
    → AllByRecursion (Again type_text (kind_at depth)) (kinds_list ks)
    → fields_kind_at (kind_at depth) ((types_text ks ++ codes "}") ++ rest) ≡ Some (fields_kind ks, rest)
unfolding fields_kind_at
fields_kind_again depth ks rest some few each =
    let text : (types_text ks ++ codes "}") ++ rest ≡ listed type_text (kinds_list ks) ++ 125 ∷ rest =
    append_assoc (types_text ks) (codes "}") rest ∙ ap (λ (t : List ℕ). t ++ 125 ∷ rest) (types_text-is ks) in
    let count = length-kinds_list ks in
    let read : separated (kind_at depth) 125 32 (listed type_text (kinds_list ks) ++ 125 ∷ rest)
    ≡ Some (kinds_list ks, rest) = separated_again type_text (kind_at depth) 125 refl refl rest 32 (kinds_list ks)
    (omega (arith, count, some)) (omega (arith, count, few)) each in
    ap (fields_kind_at (kind_at depth)) text ∙ rw read (ap (λ (x : Kinds). Some (fields_kind x, rest))
    (kinds_of-kinds_list ks))

pub kind_again : (depth : ℕ) (k : Kind) (rest : List ℕ) → kind_fits k ≡ true → kind_depth k ≤ depth
    → kind_at depth (type_text k ++ rest) ≡ Some (k, rest)
unfolding kind_at kind_here scalar_at
kind_again zero k rest fits shallow = absurd (omega (arith, kind_depth-positive k))
kind_again (suc depth) bool_kind rest fits shallow = refl
kind_again (suc depth) (unsigned_kind one) rest fits shallow = refl
kind_again (suc depth) (unsigned_kind two) rest fits shallow = refl
kind_again (suc depth) (unsigned_kind four) rest fits shallow = refl
kind_again (suc depth) (unsigned_kind eight) rest fits shallow = refl
kind_again (suc depth) (signed_kind one) rest fits shallow = refl
kind_again (suc depth) (signed_kind two) rest fits shallow = refl
kind_again (suc depth) (signed_kind four) rest fits shallow = refl
kind_again (suc depth) (signed_kind eight) rest fits shallow = refl
kind_again (suc depth) text_kind rest fits shallow = refl
kind_again (suc depth) bytes_kind rest fits shallow = refl
kind_again (suc depth) (list_kind k) rest fits shallow =
    list_kind_again depth k rest (kind_again depth k (62 ∷ rest) fits (omega arith))
kind_again (suc depth) (fields_kind ks) rest fits shallow =
    let parts = and_parts (nat_le 1 (count_kinds ks) && nat_le (count_kinds ks) 32) (kinds_fit ks) fits in
    let counts = and_parts (nat_le 1 (count_kinds ks)) (nat_le (count_kinds ks) 32) parts.0 in
    fields_kind_again depth ks rest (leb-true _ _ counts.0) (leb-true _ _ counts.1)
    (each_again depth (kind_again depth) ks parts.1 (omega arith))
