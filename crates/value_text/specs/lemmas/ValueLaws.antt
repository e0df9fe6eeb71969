-- The laws of value texts: what is read is spelled so, and what is spelled so is read.
use Rattle.std.proofs.Common.{◌≡◌, ℕ, zero, suc, ◌≤◌, ◌<◌, ◌^◌, ℤ, true, false, List, [], ◌∷◌, ◌++◌, length, Some, None}
use Rattle.std.proofs.Common.{inl, inr, refl, sym, ap, subst, ◌∙◌, append_assoc, arith}
use Rattle.std.specs.Prelude.{codes}
use Rattle.std.specs.List.{AllByRecursion}
use Rattle.std.specs.Fmt.{decimal, signed_decimal}
use Rattle.std.specs.Int.RustNames.{FitsSigned}
use lib.Signed.{mag}
use Rattle.std.proofs.lemmas.List.{length-append}
use Rattle.value_model.specs.Kinds.{Size, one, two, four, eight, width, Kind, bool_kind, unsigned_kind, signed_kind}
use Rattle.value_model.specs.Kinds.{text_kind, bytes_kind, list_kind, fields_kind, kind_depth, kinds_depth, kind_fits}
use Rattle.value_model.specs.Trees.{Tree, bool_tree, unsigned_tree, signed_tree, text_tree, bytes_tree, list_tree}
use Rattle.value_model.specs.Trees.{fields_tree, Trees, no_trees, tree_then, count_trees, type_of, types_of}
use Rattle.value_model.specs.Validity.{AllOf, IsTyped, AllTyped, unsigned_limit, InRange, AllInRange}
use Rattle.value_model.specs.Views.{trees_of}
use Rattle.value_text.specs.Texts.{type_text, escaped, hex_text, value_text, values_text, further_values_text}
use Rattle.value_text.specs.Readers.{branch, literal_at, unsigned_at, signed_at, hex_bytes_at, separated}
use Rattle.value_text.specs.Parsing.{scalar_at, kind_at, signed_limit, bool_at, text_at, value_content_at}
use Rattle.value_text.specs.Parsing.{scalar_tree_at}
use Rattle.value_text.specs.Parsing.{items_at, list_tree_at, fields_tree_at, tree_here, tree_at}
use Rattle.value_text.specs.lemmas.Steps.{bind_some, branch_some, some_is}
use Rattle.value_text.specs.lemmas.Words.{literal_takes}
use Rattle.value_text.specs.lemmas.Lists.{further, listed, Ends, Again, separated_takes, separated_again}
use Rattle.value_text.specs.lemmas.TypeLaws.{scalar_takes, kind_takes, kind_again, kind_depth-positive}
use Rattle.value_text.specs.lemmas.NumberLaws.{unsigned_takes, unsigned_again, signed_takes, signed_again}
use Rattle.value_text.specs.lemmas.StringLaws.{text_takes, text_again, bytes_takes, bytes_again}
use Rattle.per_base.specs.Fields.{◌>>=◌}

-- ---- items as a list

abbrev pub trees_list : Trees → List Tree
trees_list no_trees = []
trees_list (tree_then t ts) = t ∷ trees_list ts

trees_of-trees_list : (ts : Trees) → trees_of (trees_list ts) ≡ ts
trees_of-trees_list no_trees = refl
trees_of-trees_list (tree_then t ts) = ap (tree_then t) (trees_of-trees_list ts)

further_values_text-trees_of : (xs : List Tree) → further_values_text (trees_of xs) ≡ further value_text xs
further_values_text-trees_of [] = refl
further_values_text-trees_of (x ∷ xs) = ap (λ (t : List ℕ). 44 ∷ (value_text x ++ t)) (further_values_text-trees_of xs)

values_text-trees_of : (xs : List Tree) → values_text (trees_of xs) ≡ listed value_text xs
values_text-trees_of [] = refl
values_text-trees_of (x ∷ xs) = ap (λ (t : List ℕ). value_text x ++ t) (further_values_text-trees_of xs)

values_text-is : (ts : Trees) → values_text ts ≡ listed value_text (trees_list ts)
values_text-is ts = ap values_text (sym (trees_of-trees_list ts)) ∙ values_text-trees_of (trees_list ts)

length-trees_list : (ts : Trees) → length (trees_list ts) ≡ count_trees ts
length-trees_list no_trees = refl
length-trees_list (tree_then t ts) = ap suc (length-trees_list ts)

-- ---- what is read is spelled so

-- a type's word, a colon and what was read after it spell the tree
abbrev SpelledAfter : Kind → List ℕ → Tree × List ℕ → Type 0
SpelledAfter k bytes x = (type_text k ++ 58 ∷ bytes ≡ value_text x.0 ++ x.1) × InRange x.0

-- what was read spells the tree, whose numbers, texts and bytes are in range
abbrev Spelled : List ℕ → Tree × List ℕ → Type 0
Spelled bytes x = (bytes ≡ value_text x.0 ++ x.1) × InRange x.0

labelled : (word content rest : List ℕ) → ((word ++ codes ":") ++ content) ++ rest ≡ word ++ 58 ∷ (content ++ rest)
labelled word content rest = append_assoc (word ++ codes ":") content rest
    ∙ append_assoc word (codes ":") (content ++ rest)

fits_mag : (s : Size) (z : ℤ) → mag z < signed_limit s → FitsSigned (width s) z
fits_mag one z lt = record { sfits = lt }
fits_mag two z lt = record { sfits = lt }
fits_mag four z lt = record { sfits = lt }
fits_mag eight z lt = record { sfits = lt }

bool_takes : (bytes : List ℕ) (x : Tree × List ℕ) → bool_at bytes ≡ Some x → SpelledAfter bool_kind bytes x
bool_takes bytes x e =
    elim (branch_some (literal_at (codes "true") bytes) (λ rest. Some (bool_tree true, rest))
    (literal_at (codes "false") bytes >>= λ rest. Some (bool_tree false, rest)) x e) [
      | inl p ↦ subst (λ (y : Tree × List ℕ). SpelledAfter bool_kind bytes y) (some_is (bool_tree true, p.0) x p.2)
          (ap (λ (t : List ℕ). codes "bool:" ++ t) (literal_takes (codes "true") bytes p.0 p.1), tt)
      | inr p ↦
          let a = bind_some (literal_at (codes "false") bytes) (λ rest. Some (bool_tree false, rest)) x p.1 in
          subst (λ (y : Tree × List ℕ). SpelledAfter bool_kind bytes y) (some_is (bool_tree false, a.0) x a.2)
          (ap (λ (t : List ℕ). codes "bool:" ++ t) (literal_takes (codes "false") bytes a.0 a.1), tt)
    ]

content_takes : (k : Kind) (bytes : List ℕ) (x : Tree × List ℕ) → value_content_at k bytes ≡ Some x
    → SpelledAfter k bytes x
unfolding value_content_at
content_takes bool_kind bytes x e = bool_takes bytes x e
content_takes (unsigned_kind s) bytes x e =
    let a = bind_some (unsigned_at (unsigned_limit s) bytes) (λ n. Some (unsigned_tree s n.0, n.1)) x e in
    let number = unsigned_takes (unsigned_limit s) bytes a.0 a.1 in
    subst (λ (y : Tree × List ℕ). SpelledAfter (unsigned_kind s) bytes y)
    (some_is (unsigned_tree s a.0.0, a.0.1) x a.2) (
      ap (λ (t : List ℕ). type_text (unsigned_kind s) ++ 58 ∷ t) number.0
          ∙ sym (labelled (type_text (unsigned_kind s)) (decimal a.0.0) a.0.1),
      number.1,
    )
content_takes (signed_kind s) bytes x e =
    let a = bind_some (signed_at (signed_limit s) bytes) (λ z. Some (signed_tree s z.0, z.1)) x e in
    let number = signed_takes (signed_limit s) bytes a.0 a.1 in
    subst (λ (y : Tree × List ℕ). SpelledAfter (signed_kind s) bytes y) (some_is (signed_tree s a.0.0, a.0.1) x a.2) (
      ap (λ (t : List ℕ). type_text (signed_kind s) ++ 58 ∷ t) number.0
          ∙ sym (labelled (type_text (signed_kind s)) (signed_decimal a.0.0) a.0.1),
      fits_mag s a.0.0 number.1,
    )
content_takes text_kind bytes x e =
    let a = bind_some (text_at bytes) (λ t. Some (text_tree t.0, t.1)) x e in
    let text = text_takes bytes a.0 a.1 in
    subst (λ (y : Tree × List ℕ). SpelledAfter text_kind bytes y) (some_is (text_tree a.0.0, a.0.1) x a.2) (
      ap (λ (t : List ℕ). codes "text:" ++ t) text.0 ∙ ap (λ (t : List ℕ). codes "text:\"" ++ t)
          (sym (append_assoc (escaped a.0.0) (codes "\"") a.0.1)),
      text.1,
    )
content_takes bytes_kind bytes x e =
    let a = bind_some (hex_bytes_at (length bytes) bytes) (λ b. Some (bytes_tree b.0, b.1)) x e in
    let hex = bytes_takes (length bytes) bytes a.0 a.1 in
    subst (λ (y : Tree × List ℕ). SpelledAfter bytes_kind bytes y) (some_is (bytes_tree a.0.0, a.0.1) x a.2)
    (ap (λ (t : List ℕ). codes "bytes:" ++ t) hex.0, hex.1)
content_takes (list_kind k) bytes x e = absurd cc
content_takes (fields_kind ks) bytes x e = absurd cc

scalar_tree_takes : (bytes : List ℕ) (x : Tree × List ℕ) → scalar_tree_at bytes ≡ Some x → Spelled bytes x
unfolding scalar_tree_at
scalar_tree_takes bytes x e =
    let a = bind_some (scalar_at bytes) (λ k. literal_at (codes ":") k.1 >>= λ rest. value_content_at k.0 rest) x e in
    let b = bind_some (literal_at (codes ":") a.0.1) (λ rest. value_content_at a.0.0 rest) x a.2 in
    let word = scalar_takes bytes a.0 a.1 in
    let content = content_takes a.0.0 b.0 x b.2 in (
      word.0 ∙ ap (λ (t : List ℕ). type_text a.0.0 ++ t) (literal_takes (codes ":") a.0.1 b.0 b.1) ∙ content.0,
      content.1,
    )

abbrev IsTakes : ℕ → Type 0
IsTakes depth = (bytes : List ℕ) (x : Tree × List ℕ) → tree_at depth bytes ≡ Some x → Spelled bytes x

all_in_range : (xs : List Tree) → AllByRecursion InRange xs → AllInRange (trees_of xs)
all_in_range [] each = tt
all_in_range (x ∷ xs) each = (each.0, all_in_range xs each.1)

abbrev SpelledItems : List ℕ → List Tree × List ℕ → Type 0
SpelledItems bytes x = (bytes ≡ values_text (trees_of x.0) ++ 93 ∷ x.1) × AllInRange (trees_of x.0)

items_takes : (depth : ℕ) → IsTakes depth → (bytes : List ℕ) (x : List Tree × List ℕ)
    → items_at (tree_at depth) bytes ≡ Some x → SpelledItems bytes x
unfolding items_at
items_takes depth law bytes x e =
    elim (branch_some (literal_at (codes "]") bytes) (λ rest. Some ([], rest))
    (separated (tree_at depth) 93 (length bytes) bytes) x e) [
      | inl p ↦ subst (λ (y : List Tree × List ℕ). SpelledItems bytes y) (some_is ([], p.0) x p.2)
          (literal_takes (codes "]") bytes p.0 p.1, tt)
      | inr p ↦
          let items = separated_takes value_text (tree_at depth) 93 InRange law (length bytes) bytes x p.1 in (
            items.spelled ∙ ap (λ (t : List ℕ). t ++ 93 ∷ x.1) (sym (values_text-trees_of x.0)),
            all_in_range x.0 items.each,
          )
    ]

regroup : (a b c d e : List ℕ) → (((a ++ b) ++ c) ++ d) ++ e ≡ a ++ (b ++ (c ++ (d ++ e)))
regroup a b c d e = simp append_assoc

list_tree_takes : (depth : ℕ) → IsTakes depth → (bytes rest : List ℕ) (x : Tree × List ℕ)
    → bytes ≡ codes "list<" ++ rest → list_tree_at depth (tree_at depth) rest ≡ Some x → Spelled bytes x
unfolding list_tree_at
list_tree_takes depth law bytes rest x front e =
    let a = bind_some (kind_at depth rest) (λ item. literal_at (codes ">[") item.1 >>= λ behind.
    items_at (tree_at depth) behind >>= λ items. Some (list_tree item.0 (trees_of items.0), items.1)) x e in
    let b = bind_some (literal_at (codes ">[") a.0.1) (λ behind. items_at (tree_at depth) behind >>= λ items.
    Some (list_tree a.0.0 (trees_of items.0), items.1)) x a.2 in
    let d = bind_some (items_at (tree_at depth) b.0) (λ items. Some (list_tree a.0.0 (trees_of items.0), items.1)) x b.2
    in
    let item = kind_takes depth rest a.0 a.1 in
    let bracket : a.0.1 ≡ codes ">[" ++ b.0 = literal_takes (codes ">[") a.0.1 b.0 b.1 in
    let items = items_takes depth law b.0 d.0 d.1 in
    let spelled : rest ≡ type_text a.0.0 ++ (codes ">[" ++ (values_text (trees_of d.0.0) ++ (codes "]" ++ d.0.1))) =
    item.0 ∙ ap (λ (t : List ℕ). type_text a.0.0 ++ t) (bracket ∙ ap (λ (t : List ℕ). codes ">[" ++ t) items.0) in
    subst (λ (y : Tree × List ℕ). Spelled bytes y) (some_is (list_tree a.0.0 (trees_of d.0.0), d.0.1) x d.2) (
      front ∙ ap (λ (t : List ℕ). codes "list<" ++ t) (spelled
          ∙ sym (regroup (type_text a.0.0) (codes ">[") (values_text (trees_of d.0.0)) (codes "]") d.0.1)),
      items.1,
    )

fields_tree_takes : (depth : ℕ) → IsTakes depth → (bytes rest : List ℕ) (x : Tree × List ℕ) → bytes ≡ codes "{" ++ rest
    → fields_tree_at (tree_at depth) rest ≡ Some x → Spelled bytes x
unfolding fields_tree_at
fields_tree_takes depth law bytes rest x front e =
    let a = bind_some (separated (tree_at depth) 125 32 rest)
    (λ members. Some (fields_tree (trees_of members.0), members.1)) x e in
    let members = separated_takes value_text (tree_at depth) 125 InRange law 32 rest a.0 a.1 in
    let spelled : rest ≡ (values_text (trees_of a.0.0) ++ codes "}") ++ a.0.1 =
    members.spelled ∙ ap (λ (t : List ℕ). t ++ 125 ∷ a.0.1) (sym (values_text-trees_of a.0.0))
    ∙ sym (append_assoc (values_text (trees_of a.0.0)) (codes "}") a.0.1) in
    subst (λ (y : Tree × List ℕ). Spelled bytes y) (some_is (fields_tree (trees_of a.0.0), a.0.1) x a.2)
    (front ∙ ap (λ (t : List ℕ). codes "{" ++ t) spelled, all_in_range a.0.0 members.each)

pub tree_takes : (depth : ℕ) → IsTakes depth
unfolding tree_at tree_here
tree_takes zero bytes x e = absurd cc
tree_takes (suc depth) bytes x e =
    elim (branch_some (literal_at (codes "list<") bytes) (list_tree_at depth (tree_at depth))
    (branch (literal_at (codes "{") bytes) (fields_tree_at (tree_at depth)) (scalar_tree_at bytes)) x e) [
      | inl p ↦ list_tree_takes depth (tree_takes depth) bytes p.0 x (literal_takes (codes "list<") bytes p.0 p.1) p.2
      | inr p ↦
          elim (branch_some (literal_at (codes "{") bytes) (fields_tree_at (tree_at depth)) (scalar_tree_at bytes) x
          p.1) [
            | inl q ↦ fields_tree_takes depth (tree_takes depth) bytes q.0 x (literal_takes (codes "{") bytes q.0 q.1)
                q.2
            | inr q ↦ scalar_tree_takes bytes x q.1
          ]
    ]

-- ---- what is spelled so is read

abbrev IsAgain : ℕ → Type 0
IsAgain depth = (t : Tree) → kind_depth (type_of t) ≤ depth → IsTyped t → InRange t → Again value_text (tree_at depth) t

pub unsigned_limit_fits : (s : Size) → unsigned_limit s ≤ 2 ^ 64
unsigned_limit_fits one = omega arith
unsigned_limit_fits two = omega arith
unsigned_limit_fits four = omega arith
unsigned_limit_fits eight = omega arith

pub signed_limit_fits : (s : Size) → signed_limit s ≤ 2 ^ 63
signed_limit_fits one = omega arith
signed_limit_fits two = omega arith
signed_limit_fits four = omega arith
signed_limit_fits eight = omega arith

pub mag_fits : (s : Size) (z : ℤ) → FitsSigned (width s) z → mag z < signed_limit s
mag_fits one z fits = fits.sfits
mag_fits two z fits = fits.sfits
mag_fits four z fits = fits.sfits
mag_fits eight z fits = fits.sfits

unsigned_content : (s : Size) (n : ℕ) (rest : List ℕ) → n < unsigned_limit s → Ends rest
    → value_content_at (unsigned_kind s) (decimal n ++ rest) ≡ Some (unsigned_tree s n, rest)
unfolding value_content_at
unsigned_content s n rest lt ends = rw (unsigned_again (unsigned_limit s) n rest (unsigned_limit_fits s) lt ends) refl

signed_content : (s : Size) (z : ℤ) (rest : List ℕ) → FitsSigned (width s) z → Ends rest
    → value_content_at (signed_kind s) (signed_decimal z ++ rest) ≡ Some (signed_tree s z, rest)
unfolding value_content_at
signed_content s z rest fits ends = rw (signed_again (signed_limit s) z rest (signed_limit_fits s) (mag_fits s z fits)
    ends) refl

text_content : (t rest : List ℕ) → InRange (text_tree t)
    → value_content_at text_kind (34 ∷ ((escaped t ++ codes "\"") ++ rest)) ≡ Some (text_tree t, rest)
unfolding value_content_at
text_content t rest fits = rw (text_again t rest fits) refl

bytes_content : (b rest : List ℕ) → InRange (bytes_tree b) → Ends rest
    → value_content_at bytes_kind (hex_text b ++ rest) ≡ Some (bytes_tree b, rest)
unfolding value_content_at
bytes_content b rest fits ends = rw (bytes_again b rest fits ends) refl

no_bracket : (t : Tree) (rest : List ℕ) → literal_at (codes "]") (value_text t ++ rest) ≡ None
no_bracket (bool_tree b) rest = refl
no_bracket (unsigned_tree s n) rest = refl
no_bracket (signed_tree s z) rest = refl
no_bracket (text_tree t) rest = refl
no_bracket (bytes_tree b) rest = refl
no_bracket (list_tree k ts) rest = refl
no_bracket (fields_tree ts) rest = refl

length-further : (xs : List Tree) → length xs ≤ length (further value_text xs)
length-further [] = omega arith
length-further (x ∷ xs) = let others = length-further xs in
    omega (arith, length-append (value_text x) (further value_text xs))

length-listed : (xs : List Tree) (rest : List ℕ) → length xs ≤ length (listed value_text xs ++ 93 ∷ rest)
length-listed [] rest = omega arith
length-listed (x ∷ xs) rest = omega (
  arith,
  length-append (value_text x ++ further value_text xs) (93 ∷ rest),
  length-append (value_text x) (further value_text xs),
  length-further xs,
)

items_again : (depth : ℕ) (ts : Trees) (rest : List ℕ)
    → AllByRecursion (Again value_text (tree_at depth)) (trees_list ts)
    → items_at (tree_at depth) (values_text ts ++ 93 ∷ rest) ≡ Some (trees_list ts, rest)
unfolding items_at
items_again depth no_trees rest each = refl
items_again depth (tree_then t ts) rest each =
    let text : values_text (tree_then t ts) ++ 93 ∷ rest ≡ listed value_text (t ∷ trees_list ts) ++ 93 ∷ rest =
    ap (λ (b : List ℕ). b ++ 93 ∷ rest) (values_text-is (tree_then t ts)) in
    let no_end : literal_at (codes "]") (listed value_text (t ∷ trees_list ts) ++ 93 ∷ rest) ≡ None =
    ap (literal_at (codes "]")) (append_assoc (value_text t) (further value_text (trees_list ts)) (93 ∷ rest))
    ∙ no_bracket t (further value_text (trees_list ts) ++ 93 ∷ rest) in
    let read : separated (tree_at depth) 93 (length (listed value_text (t ∷ trees_list ts) ++ 93 ∷ rest))
    (listed value_text (t ∷ trees_list ts) ++ 93 ∷ rest) ≡ Some (t ∷ trees_list ts, rest) =
    separated_again value_text (tree_at depth) 93 refl refl rest
    (length (listed value_text (t ∷ trees_list ts) ++ 93 ∷ rest)) (t ∷ trees_list ts) (omega arith)
    (length-listed (t ∷ trees_list ts) rest) each in
    ap (items_at (tree_at depth)) text ∙ rw (no_end, read) refl

list_tree_again : (depth : ℕ) (k : Kind) (ts : Trees) (rest : List ℕ) → kind_fits k ≡ true → kind_depth k ≤ depth
    → AllByRecursion (Again value_text (tree_at depth)) (trees_list ts)
    → list_tree_at depth (tree_at depth) ((((type_text k ++ codes ">[") ++ values_text ts) ++ codes "]") ++ rest)
    ≡ Some (list_tree k ts, rest)
unfolding list_tree_at
list_tree_again depth k ts rest fits shallow each =
    let item : kind_at depth (type_text k ++ (62 ∷ 91 ∷ (values_text ts ++ 93 ∷ rest)))
    ≡ Some (k, 62 ∷ 91 ∷ (values_text ts ++ 93 ∷ rest)) =
    kind_again depth k (62 ∷ 91 ∷ (values_text ts ++ 93 ∷ rest)) fits shallow in
    ap (list_tree_at depth (tree_at depth)) (regroup (type_text k) (codes ">[") (values_text ts) (codes "]") rest)
    ∙ rw (item, items_again depth ts rest each) (ap (λ (x : Trees). Some (list_tree k x, rest))
    (trees_of-trees_list ts))

fields_tree_again : (depth : ℕ) (ts : Trees) (rest : List ℕ) → 1 ≤ count_trees ts → count_trees ts ≤ 32
    → AllByRecursion (Again value_text (tree_at depth)) (trees_list ts)
    → fields_tree_at (tree_at depth) ((values_text ts ++ codes "}") ++ rest) ≡ Some (fields_tree ts, rest)
unfolding fields_tree_at
fields_tree_again depth ts rest some few each =
    let text : (values_text ts ++ codes "}") ++ rest ≡ listed value_text (trees_list ts) ++ 125 ∷ rest =
    append_assoc (values_text ts) (codes "}") rest ∙ ap (λ (t : List ℕ). t ++ 125 ∷ rest) (values_text-is ts) in
    let count = length-trees_list ts in
    let read : separated (tree_at depth) 125 32 (listed value_text (trees_list ts) ++ 125 ∷ rest)
    ≡ Some (trees_list ts, rest) = separated_again value_text (tree_at depth) 125 refl refl rest 32 (trees_list ts)
    (omega (arith, count, some)) (omega (arith, count, few)) each in
    ap (fields_tree_at (tree_at depth)) text ∙ rw read (ap (λ (x : Trees). Some (fields_tree x, rest))
    (trees_of-trees_list ts))

items_are_read : (depth : ℕ) → IsAgain depth → (k : Kind) (ts : Trees) → kind_depth k ≤ depth → AllOf k ts → AllTyped ts
    → AllInRange ts → AllByRecursion (Again value_text (tree_at depth)) (trees_list ts)
items_are_read depth law k no_trees shallow same typed fits = tt
items_are_read depth law k (tree_then t ts) shallow same typed fits = (
  law t (subst (λ (j : Kind). kind_depth j ≤ depth) (sym same.0) shallow) typed.0 fits.0,
  items_are_read depth law k ts shallow same.1 typed.1 fits.1,
)

members_are_read : (depth : ℕ) → IsAgain depth → (ts : Trees) → kinds_depth (types_of ts) ≤ depth → AllTyped ts
    → AllInRange ts → AllByRecursion (Again value_text (tree_at depth)) (trees_list ts)
members_are_read depth law no_trees shallow typed fits = tt
members_are_read depth law (tree_then t ts) shallow typed fits =
    (law t (omega arith) typed.0 fits.0, members_are_read depth law ts (omega arith) typed.1 fits.1)

pub tree_again : (depth : ℕ) → IsAgain depth
unfolding tree_at tree_here scalar_tree_at scalar_at
tree_again zero t shallow typed fits rest ends = absurd (omega (arith, kind_depth-positive (type_of t)))
tree_again (suc depth) (bool_tree true) shallow typed fits rest ends = unfold value_content_at in refl
tree_again (suc depth) (bool_tree false) shallow typed fits rest ends = unfold value_content_at in refl
tree_again (suc depth) (unsigned_tree one n) shallow typed fits rest ends = unsigned_content one n rest fits ends
tree_again (suc depth) (unsigned_tree two n) shallow typed fits rest ends = unsigned_content two n rest fits ends
tree_again (suc depth) (unsigned_tree four n) shallow typed fits rest ends = unsigned_content four n rest fits ends
tree_again (suc depth) (unsigned_tree eight n) shallow typed fits rest ends = unsigned_content eight n rest fits ends
tree_again (suc depth) (signed_tree one z) shallow typed fits rest ends = signed_content one z rest fits ends
tree_again (suc depth) (signed_tree two z) shallow typed fits rest ends = signed_content two z rest fits ends
tree_again (suc depth) (signed_tree four z) shallow typed fits rest ends = signed_content four z rest fits ends
tree_again (suc depth) (signed_tree eight z) shallow typed fits rest ends = signed_content eight z rest fits ends
tree_again (suc depth) (text_tree t) shallow typed fits rest ends = text_content t rest fits
tree_again (suc depth) (bytes_tree b) shallow typed fits rest ends = bytes_content b rest fits ends
tree_again (suc depth) (list_tree k ts) shallow typed fits rest ends =
    list_tree_again depth k ts rest typed.0 (omega arith)
    (items_are_read depth (tree_again depth) k ts (omega arith) typed.1.0 typed.1.1 fits)
tree_again (suc depth) (fields_tree ts) shallow typed fits rest ends =
    fields_tree_again depth ts rest typed.0 typed.1.0 (members_are_read depth (tree_again depth) ts (omega arith)
    typed.1.1 fits)
