-- Payloads: what is read is spelled so, has the type that it was read by and is in range; and what is spelled so is
-- read again.
use Rattle.std.proofs.Common.{◌≡◌, ℕ, zero, suc, ◌≤◌, ◌<◌, ◌^◌, Bool, true, false, cond, List, [], ◌∷◌, ◌++◌, length}
use Rattle.std.proofs.Common.{Option, Some, None, refl, sym, ap, subst, ◌∙◌, append_assoc, arith, inl, inr}
use Rattle.std.proofs.Common.{length-append}
use Rattle.std.specs.Prelude.{IsTrue, ℤ, nat_eq, nat_le}
use Rattle.std.specs.Int.{w8, w16, w32, w64, to_le_bytes, cast_signed, cast_unsigned}
use Rattle.std.specs.Int.RustNames.{FitsSigned}
use Rattle.std.proofs.lemmas.Bool.{eqb-true, and_parts, leb-true}
use Rattle.std.proofs.lemmas.Int.{of_z-to_z, to_z-of_z}
use Rattle.std.proofs.Math.Facts.{Fits-of_z}
use borrow.Author.Gap.{read_sfits}
use Rattle.value_model.specs.Kinds.{Size, one, two, four, eight, width, is_group, Kind, bool_kind, unsigned_kind}
use Rattle.value_model.specs.Kinds.{signed_kind, text_kind, bytes_kind, list_kind, fields_kind, Kinds, no_kinds}
use Rattle.value_model.specs.Kinds.{kind_then, count_kinds, kind_fits, kinds_fit}
use Rattle.value_model.specs.Trees.{Tree, bool_tree, unsigned_tree, signed_tree, text_tree, bytes_tree, list_tree}
use Rattle.value_model.specs.Trees.{fields_tree, Trees, no_trees, tree_then, count_trees, type_of, types_of}
use Rattle.value_model.specs.Encoding.{payload, payloads}
use Rattle.value_model.specs.Validity.{AllOf, AllTyped, IsTyped, AllInRange, InRange, unsigned_limit}
use Rattle.value_model.specs.lemmas.Members.{count_types}
use Rattle.value_code.specs.Reading.{number_at, counted_at, text_of, truth_of, trees_by, tree_at}
use Rattle.value_code.specs.Reading.{trees_at}
use Rattle.value_code.specs.lemmas.Starts.{bind_some, some_is, let_pass, either_way, Takes, Takes-then}
use Rattle.value_code.specs.lemmas.Starts.{byte_takes}
use Rattle.value_code.specs.lemmas.Starts.{number_takes, number_again, counted_takes, counted_again, text_takes}
use Rattle.value_code.specs.lemmas.Starts.{text_of-IsUtf8}
use Rattle.value_code.specs.lemmas.Lengths.{list_few}
use Rattle.per_base.specs.Fields.{◌>>=◌, byte_at, AreBytes}

-- ---- signed numbers

signed_back : (s : Size) (n : ℕ) → n < unsigned_limit s → cast_unsigned (width s) (cast_signed (width s) n) ≡ n
signed_back one n lt = of_z-to_z w8 n lt
signed_back two n lt = of_z-to_z w16 n lt
signed_back four n lt = of_z-to_z w32 n lt
signed_back eight n lt = of_z-to_z w64 n lt

signed_below : (s : Size) (z : ℤ) → FitsSigned (width s) z → cast_unsigned (width s) z < unsigned_limit s
signed_below one z fits = omega (arith, Fits-of_z {w = w8} fits)
signed_below two z fits = omega (arith, Fits-of_z {w = w16} fits)
signed_below four z fits = omega (arith, Fits-of_z {w = w32} fits)
signed_below eight z fits = omega (arith, Fits-of_z {w = w64} fits)

-- ---- what is read

-- a tree of kind k that was read from bytes, with the bytes after it
pub record TreeRead (k : Kind) (bytes : List ℕ) (t : Tree) (rest : List ℕ) : Type 0 where
  pub takes : Takes bytes (payload t) rest
  pub of_type : type_of t ≡ k
  pub typed : IsTyped t
  pub in_range : InRange t

record TreesRead (ks : Kinds) (bytes : List ℕ) (ts : Trees) (rest : List ℕ) : Type 0 where
  takes : Takes bytes (payloads ts) rest
  of_types : types_of ts ≡ ks
  typed : AllTyped ts
  in_range : AllInRange ts

record ItemsRead (k : Kind) (n : ℕ) (bytes : List ℕ) (ts : Trees) (rest : List ℕ) : Type 0 where
  takes : Takes bytes (payloads ts) rest
  of_type : AllOf k ts
  typed : AllTyped ts
  in_range : AllInRange ts
  count : count_trees ts ≡ n

abbrev Reads : Kind → Type 0
Reads k = (bytes : List ℕ) (x : Tree × List ℕ) → AreBytes bytes → tree_at k bytes ≡ Some x → TreeRead k bytes x.0 x.1

items_take : (k : Kind) → Reads k → (n : ℕ) (bytes : List ℕ) (x : Trees × List ℕ) → AreBytes bytes
    → trees_by (tree_at k) n bytes ≡ Some x → ItemsRead k n bytes x.0 x.1
unfolding trees_by
items_take k law zero bytes x small e =
    subst (λ (y : Trees × List ℕ). ItemsRead k 0 bytes y.0 y.1) (some_is (no_trees, bytes) x e)
    (record {
      takes = record { parts = refl; rest_bytes = small };
      of_type = tt;
      typed = tt;
      in_range = tt;
      count =
          refl;
    })
items_take k law (suc n) bytes x small e =
    let a = bind_some (tree_at k bytes) (λ first. trees_by (tree_at k) n first.1 >>= λ others.
    Some (tree_then first.0 others.0, others.1)) x e in
    let b = bind_some (trees_by (tree_at k) n a.0.1) (λ others. Some (tree_then a.0.0 others.0, others.1)) x a.2 in
    let first = law bytes a.0 small a.1 in
    let others = items_take k law n a.0.1 b.0 first.takes.rest_bytes b.1 in
    subst (λ (y : Trees × List ℕ). ItemsRead k (suc n) bytes y.0 y.1) (some_is (tree_then a.0.0 b.0.0, b.0.1) x b.2)
    (record {
      takes = Takes-then bytes (payload a.0.0) a.0.1 (payloads b.0.0) b.0.1 first.takes others.takes;
      of_type = (first.of_type, others.of_type);
      typed = (first.typed, others.typed);
      in_range = (first.in_range, others.in_range);
      count = ap suc others.count;
    })

truth_takes : (b : ℕ) (truth : Bool) → truth_of b ≡ Some truth → cond truth 1 0 ≡ b
truth_takes b truth e =
    elim (either_way (nat_eq b 0) (Some false) (cond (nat_eq b 1) (Some true) None) truth e) [
      | inl g ↦ subst (λ (v : Bool). cond v 1 0 ≡ b) (some_is false truth g.1) (sym (eqb-true b 0 g.0))
      | inr g ↦ let h = let_pass (nat_eq b 1) (Some true) truth g.1 in
          subst (λ (v : Bool). cond v 1 0 ≡ b) (some_is true truth h.1) (sym (eqb-true b 1 h.0))
    ]

bool_takes : (bytes : List ℕ) (x : Tree × List ℕ) → AreBytes bytes → tree_at bool_kind bytes ≡ Some x
    → TreeRead bool_kind bytes x.0 x.1
bool_takes bytes x small e =
    let a = bind_some (byte_at bytes) (λ b. truth_of b.0 >>= λ truth. Some (bool_tree truth, b.1)) x e in
    let b = bind_some (truth_of a.0.0) (λ truth. Some (bool_tree truth, a.0.1)) x a.2 in
    let first = byte_takes bytes a.0 small a.1 in
    subst (λ (y : Tree × List ℕ). TreeRead bool_kind bytes y.0 y.1) (some_is (bool_tree b.0, a.0.1) x b.2) (record {
      takes = subst (λ (n : ℕ). Takes bytes (n ∷ []) a.0.1) (sym (truth_takes a.0.0 b.0 b.1)) first;
      of_type = refl;
      typed = tt;
      in_range = tt;
    })

unsigned_takes : (s : Size) (bytes : List ℕ) (x : Tree × List ℕ) → AreBytes bytes
    → tree_at (unsigned_kind s) bytes ≡ Some x → TreeRead (unsigned_kind s) bytes x.0 x.1
unsigned_takes s bytes x small e =
    let a = bind_some (number_at (width s) bytes) (λ n. Some (unsigned_tree s n.0, n.1)) x e in
    let n = number_takes s bytes a.0 small a.1 in
    subst (λ (y : Tree × List ℕ). TreeRead (unsigned_kind s) bytes y.0 y.1)
    (some_is (unsigned_tree s a.0.0, a.0.1) x a.2) (record {
      takes = n.0;
      of_type = refl;
      typed = tt;
      in_range =
          n.1;
    })

signed_takes : (s : Size) (bytes : List ℕ) (x : Tree × List ℕ) → AreBytes bytes → tree_at (signed_kind s) bytes ≡ Some x
    → TreeRead (signed_kind s) bytes x.0 x.1
signed_takes s bytes x small e =
    let a = bind_some (number_at (width s) bytes) (λ n. Some (signed_tree s (cast_signed (width s) n.0), n.1)) x e in
    let n = number_takes s bytes a.0 small a.1 in
    subst (λ (y : Tree × List ℕ). TreeRead (signed_kind s) bytes y.0 y.1)
    (some_is (signed_tree s (cast_signed (width s) a.0.0), a.0.1) x a.2) (record {
      takes = subst (λ (m : ℕ). Takes bytes (to_le_bytes (width s) m) a.0.1) (sym (signed_back s a.0.0 n.1)) n.0;
      of_type = refl;
      typed = tt;
      in_range = read_sfits (width s) a.0.0;
    })

text_tree_takes : (bytes : List ℕ) (x : Tree × List ℕ) → AreBytes bytes → tree_at text_kind bytes ≡ Some x
    → TreeRead text_kind bytes x.0 x.1
text_tree_takes bytes x small e =
    let a = bind_some (counted_at bytes) (λ t. text_of t.0 >>= λ text. Some (text_tree text, t.1)) x e in
    let b = bind_some (text_of a.0.0) (λ text. Some (text_tree text, a.0.1)) x a.2 in
    let t = counted_takes bytes a.0 small a.1 in
    let same = text_takes a.0.0 b.0 b.1 in
    subst (λ (y : Tree × List ℕ). TreeRead text_kind bytes y.0 y.1) (some_is (text_tree b.0, a.0.1) x b.2) (record {
      takes = subst (λ (u : List ℕ). Takes bytes (to_le_bytes w32 (length u) ++ u) a.0.1) same.0 t.0;
      of_type = refl;
      typed = tt;
      in_range = same.1;
    })

bytes_takes : (bytes : List ℕ) (x : Tree × List ℕ) → AreBytes bytes → tree_at bytes_kind bytes ≡ Some x
    → TreeRead bytes_kind bytes x.0 x.1
bytes_takes bytes x small e =
    let a = bind_some (counted_at bytes) (λ b. Some (bytes_tree b.0, b.1)) x e in
    let t = counted_takes bytes a.0 small a.1 in
    subst (λ (y : Tree × List ℕ). TreeRead bytes_kind bytes y.0 y.1) (some_is (bytes_tree a.0.0, a.0.1) x a.2)
    (record { takes = t.0; of_type = refl; typed = tt; in_range = t.1 })

list_takes : (k : Kind) → IsTrue (kind_fits k) → Reads k → (bytes : List ℕ) (x : Tree × List ℕ) → AreBytes bytes
    → tree_at (list_kind k) bytes ≡ Some x → TreeRead (list_kind k) bytes x.0 x.1
list_takes k fits law bytes x small e =
    let a = bind_some (number_at w32 bytes) (λ n. trees_by (tree_at k) n.0 n.1 >>= λ items.
    Some (list_tree k items.0, items.1)) x e in
    let b = bind_some (trees_by (tree_at k) a.0.0 a.0.1) (λ items. Some (list_tree k items.0, items.1)) x a.2 in
    let count = number_takes four bytes a.0 small a.1 in
    let items = items_take k law a.0.0 a.0.1 b.0 count.0.rest_bytes b.1 in
    let both = Takes-then bytes (to_le_bytes w32 a.0.0) a.0.1 (payloads b.0.0) b.0.1 count.0 items.takes in
    subst (λ (y : Tree × List ℕ). TreeRead (list_kind k) bytes y.0 y.1) (some_is (list_tree k b.0.0, b.0.1) x b.2)
    (record {
      takes = subst (λ (n : ℕ). Takes bytes (to_le_bytes w32 n ++ payloads b.0.0) b.0.1) (sym items.count) both;
      of_type = refl;
      typed = (fits, (items.of_type, items.typed));
      in_range = items.in_range;
    })

fields_read : (ks : Kinds) → IsTrue (is_group (count_kinds ks)) → (bytes : List ℕ) (ts : Trees) (rest : List ℕ)
    → TreesRead ks bytes ts rest → TreeRead (fields_kind ks) bytes (fields_tree ts) rest
fields_read ks group bytes ts rest members =
    let parts = and_parts (nat_le 1 (count_kinds ks)) (nat_le (count_kinds ks) 32) group in
    let count : count_trees ts ≡ count_kinds ks = sym (count_types ts) ∙ ap count_kinds members.of_types in
    record {
      takes = members.takes;
      of_type = ap fields_kind members.of_types;
      typed = (
        rw count (leb-true 1 (count_kinds ks) parts.0),
        (rw count (leb-true (count_kinds ks) 32 parts.1), members.typed),
      );
      in_range = members.in_range;
    }

mutual
  pub tree_takes : (k : Kind) → IsTrue (kind_fits k) → (bytes : List ℕ) (x : Tree × List ℕ) → AreBytes bytes
      → tree_at k bytes ≡ Some x → TreeRead k bytes x.0 x.1
  tree_takes bool_kind fits bytes x small e = bool_takes bytes x small e
  tree_takes (unsigned_kind s) fits bytes x small e = unsigned_takes s bytes x small e
  tree_takes (signed_kind s) fits bytes x small e = signed_takes s bytes x small e
  tree_takes text_kind fits bytes x small e = text_tree_takes bytes x small e
  tree_takes bytes_kind fits bytes x small e = bytes_takes bytes x small e
  tree_takes (list_kind k) fits bytes x small e = list_takes k fits (tree_takes k fits) bytes x small e
  tree_takes (fields_kind ks) fits bytes x small e =
      let a = bind_some (trees_at ks bytes) (λ members. Some (fields_tree members.0, members.1)) x e in
      let both = and_parts (is_group (count_kinds ks)) (kinds_fit ks) fits in
      let members = trees_take ks both.1 bytes a.0 small a.1 in
      subst (λ (y : Tree × List ℕ). TreeRead (fields_kind ks) bytes y.0 y.1) (some_is (fields_tree a.0.0, a.0.1) x a.2)
      (fields_read ks both.0 bytes a.0.0 a.0.1 members)

  trees_take : (ks : Kinds) → IsTrue (kinds_fit ks) → (bytes : List ℕ) (x : Trees × List ℕ) → AreBytes bytes
      → trees_at ks bytes ≡ Some x → TreesRead ks bytes x.0 x.1
  trees_take no_kinds fit bytes x small e =
      subst (λ (y : Trees × List ℕ). TreesRead no_kinds bytes y.0 y.1) (some_is (no_trees, bytes) x e)
      (record { takes = record { parts = refl; rest_bytes = small }; of_types = refl; typed = tt; in_range = tt })
  trees_take (kind_then k ks) fit bytes x small e =
      let both = and_parts (kind_fits k) (kinds_fit ks) fit in
      let a = bind_some (tree_at k bytes) (λ first. trees_at ks first.1 >>= λ others.
      Some (tree_then first.0 others.0, others.1)) x e in
      let b = bind_some (trees_at ks a.0.1) (λ others. Some (tree_then a.0.0 others.0, others.1)) x a.2 in
      let first = tree_takes k both.0 bytes a.0 small a.1 in
      let others = trees_take ks both.1 a.0.1 b.0 first.takes.rest_bytes b.1 in
      subst (λ (y : Trees × List ℕ). TreesRead (kind_then k ks) bytes y.0 y.1)
      (some_is (tree_then a.0.0 b.0.0, b.0.1) x b.2) (record {
        takes = Takes-then bytes (payload a.0.0) a.0.1 (payloads b.0.0) b.0.1 first.takes others.takes;
        of_types = ap (λ (j : Kind). kind_then j (types_of b.0.0)) first.of_type
            ∙ ap (λ (js : Kinds). kind_then k js) others.of_types;
        typed = (first.typed, others.typed);
        in_range = (first.in_range, others.in_range);
      })

-- ---- what is spelled is read again

signed_again : (s : Size) (z : ℤ) (rest : List ℕ) → FitsSigned (width s) z
    → tree_at (signed_kind s) (payload (signed_tree s z) ++ rest) ≡ Some (signed_tree s z, rest)
signed_again s z rest fits = rw (
  number_again s (cast_unsigned (width s) z) rest (signed_below s z fits),
  to_z-of_z (width s) z fits,
) refl

-- what follows a length or a count is shorter than the limit
tail_short : (n : ℕ) (xs : List ℕ) → length (to_le_bytes w32 n ++ xs) ≤ 65536 → length xs ≤ 65536
tail_short n xs short = omega (arith, length-append (to_le_bytes w32 n) xs)

below_limit : (n : ℕ) → n ≤ 65536 → n < 2 ^ 32
below_limit n le = omega arith

first_short : (xs ys : List ℕ) → length (xs ++ ys) ≤ 65536 → length xs ≤ 65536
first_short xs ys short = omega (arith, length-append xs ys)

others_short : (xs ys : List ℕ) → length (xs ++ ys) ≤ 65536 → length ys ≤ 65536
others_short xs ys short = omega (arith, length-append xs ys)

one_more : (f : List ℕ → Option (Tree × List ℕ)) (n : ℕ) (bytes : List ℕ) (t : Tree) (ts : Trees) (after rest : List ℕ)
    → f bytes ≡ Some (t, after) → trees_by f n after ≡ Some (ts, rest)
    → trees_by f (suc n) bytes ≡ Some (tree_then t ts, rest)
unfolding trees_by
one_more f n bytes t ts after rest first others = rw (first, others) refl

none_more : (f : List ℕ → Option (Tree × List ℕ)) (bytes : List ℕ) → trees_by f 0 bytes ≡ Some (no_trees, bytes)
unfolding trees_by
none_more f bytes = refl

bool_again : (b : Bool) (rest : List ℕ) → tree_at bool_kind (payload (bool_tree b) ++ rest) ≡ Some (bool_tree b, rest)
bool_again true rest = refl
bool_again false rest = refl

mutual
  pub tree_again : (t : Tree) → IsTyped t → InRange t → length (payload t) ≤ 65536 → (rest : List ℕ)
      → tree_at (type_of t) (payload t ++ rest) ≡ Some (t, rest)
  tree_again (bool_tree b) typed ranged short rest = bool_again b rest
  tree_again (unsigned_tree s n) typed ranged short rest = rw (number_again s n rest ranged) refl
  tree_again (signed_tree s z) typed ranged short rest = signed_again s z rest ranged
  tree_again (text_tree t) typed ranged short rest = rw
      (counted_again t rest (below_limit (length t) (tail_short (length t) t short)), text_of-IsUtf8 t ranged) refl
  tree_again (bytes_tree b) typed ranged short rest = rw
      (counted_again b rest (below_limit (length b) (tail_short (length b) b short))) refl
  tree_again (list_tree k ts) typed ranged short rest =
      let count = number_again four (count_trees ts) (payloads ts ++ rest) (list_few k ts typed short) in
      let items = items_again k ts typed.1.0 typed.1.1 ranged (tail_short (count_trees ts) (payloads ts) short) rest in
      ap (tree_at (list_kind k)) (append_assoc (to_le_bytes w32 (count_trees ts)) (payloads ts) rest)
      ∙ rw (count, items) refl
  tree_again (fields_tree ts) typed ranged short rest = rw (members_again ts typed.1.1 ranged short rest) refl

  items_again : (k : Kind) (ts : Trees) → AllOf k ts → AllTyped ts → AllInRange ts → length (payloads ts) ≤ 65536
      → (rest : List ℕ) → trees_by (tree_at k) (count_trees ts) (payloads ts ++ rest) ≡ Some (ts, rest)
  items_again k no_trees all typed ranged short rest = none_more (tree_at k) rest
  items_again k (tree_then t ts) all typed ranged short rest =
      let step = tree_again t typed.0 ranged.0 (first_short (payload t) (payloads ts) short) (payloads ts ++ rest) in
      let first = subst (λ (j : Kind). tree_at j (payload t ++ (payloads ts ++ rest)) ≡ Some (t, payloads ts ++ rest))
      all.0 step in
      let others = items_again k ts all.1 typed.1 ranged.1 (others_short (payload t) (payloads ts) short) rest in
      ap (trees_by (tree_at k) (suc (count_trees ts))) (append_assoc (payload t) (payloads ts) rest)
      ∙ one_more (tree_at k) (count_trees ts) _ t ts (payloads ts ++ rest) rest first others

  members_again : (ts : Trees) → AllTyped ts → AllInRange ts → length (payloads ts) ≤ 65536 → (rest : List ℕ)
      → trees_at (types_of ts) (payloads ts ++ rest) ≡ Some (ts, rest)
  members_again no_trees typed ranged short rest = refl
  members_again (tree_then t ts) typed ranged short rest =
      let first = tree_again t typed.0 ranged.0 (first_short (payload t) (payloads ts) short) (payloads ts ++ rest) in
      let others = members_again ts typed.1 ranged.1 (others_short (payload t) (payloads ts) short) rest in
      ap (trees_at (kind_then (type_of t) (types_of ts))) (append_assoc (payload t) (payloads ts) rest)
      ∙ rw (first, others) refl
