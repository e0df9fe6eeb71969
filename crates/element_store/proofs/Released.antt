-- Sets of blocks, as blocks are put into them and taken out of them.
use Rattle.std.proofs.Common.{◌≡◌, ◌⊎◌, ℕ, suc, ◌+◌, ◌<◌, ◌≤◌, List, [], ◌∷◌, ◌++◌, length, get_or, take, set, Bool}
use Rattle.std.proofs.Common.{true, false, cond, refl, sym, ap, ◌∙◌, subst, arith, ⊎_elim, eq-eqb, ne_eqb}
use Rattle.std.specs.Prelude.{not, ◌||◌, ◌&&◌, ◌==◌}
use Rattle.std.proofs.lemmas.Bool.{cases_lt, cases_eq}
use Rattle.std.proofs.lemmas.Grind.{flat_map-append}
use Rattle.std.proofs.lemmas.List.{length-set, get_or-set_same, get_or-set_other, get_or_past, take_more, append-nil}
use Rattle.std.proofs.lemmas.List.Folds.{list_any-append}
use Rattle.std.proofs.lemmas.List.Sums.{sum_by-cons, sum_by-set}
use Rattle.disk_model.specs.Orders.{named_in}
use Rattle.block_files.specs.BlockSets.{contains, free_of, IsAdded}
use Rattle.index_text.specs.declared.entries.IndexEntry.{IndexEntry}
use Rattle.index_text.specs.Rules.{blocks_of}
use Rattle.element_store.specs.Stores.{AreTaken}
use Rattle.element_store.specs.Taking.{Loses, AreOfEither}
use Rattle.element_store.proofs.Taken.{cases_apart, named_at, unnamed}

-- ---- truth values

and_false : (h : Bool) → (h && false) ≡ false
and_false true = refl
and_false false = refl

and_true : (h : Bool) → (h && true) ≡ h
and_true true = refl
and_true false = refl

or_false : (h : Bool) → (h || false) ≡ h
or_false true = refl
or_false false = refl

or_true : (h : Bool) → (h || true) ≡ true
or_true true = refl
or_true false = refl

lose_both : (h p q : Bool) → ((h && not p) && not q) ≡ (h && not (p || q))
lose_both true true q = refl
lose_both true false q = refl
lose_both false p q = refl

or_both : (h p q : Bool) → ((h || p) || q) ≡ (h || (p || q))
or_both true p q = refl
or_both false p q = refl

both_true : (a b : Bool) → (a && b) ≡ true → (a ≡ true) × (b ≡ true)
both_true true b is = (refl, is)
both_true false b is = absurd cc

one_true : (a b : Bool) → a ≡ false → (a || b) ≡ true → b ≡ true
one_true a b isnt is = subst (λ (t : Bool). (t || b) ≡ true) isnt is

not_true : (a : Bool) → not a ≡ true → a ≡ false
not_true true is = absurd cc
not_true false is = refl

-- ---- a block

lose_one : (s : List Bool) (k b : ℕ) → k < length s → contains (set s k false) b ≡ (contains s b && not (k == b))
lose_one s k b lt = ⊎_elim
    (λ same.
    let gone : contains (set s k false) b ≡ false = subst (λ (n : ℕ). contains (set s k false) n ≡ false) (sym same)
    (get_or-set_same s k false false lt) in
    gone ∙ sym (ap (λ (t : Bool). contains s b && not t) (eq-eqb k b (sym same)) ∙ and_false (contains s b)))
    (λ other. get_or-set_other s k b false false other ∙ sym
    (ap (λ (t : Bool). contains s b && not t) (ne_eqb k b (λ e. other (sym e))) ∙ and_true (contains s b)))
    (cases_eq b k)

named_push : (xs : List ℕ) (k b : ℕ) → named_in (xs ++ k ∷ []) b ≡ (named_in xs b || (k == b))
named_push xs k b = list_any-append (λ n. n == b) xs (k ∷ [])
    ∙ ap (λ (t : Bool). named_in xs b || t) (or_false (k == b))

pub lost_none : (s : List Bool) → Loses [] s s
lost_none s b = sym (and_true (contains s b))

-- the step of a loop over the blocks
pub lost_more : (blocks : List ℕ) (i : ℕ) (old now new : List Bool) (k : ℕ) → i < length blocks → k ≡ get_or blocks i 0
    → k < length now → new ≡ set now k false
    → Loses (take i blocks) old now → Loses (take (i + 1) blocks) old new
lost_more blocks i old now new k lt at inside is lost b =
    let front = take i blocks in
    let split : take (i + 1) blocks ≡ take i blocks ++ k ∷ [] =
    take_more blocks i 0 lt ∙ ap (λ (x : ℕ). take i blocks ++ x ∷ []) (sym at) in
    ap (λ (s : List Bool). contains s b) is ∙ lose_one now k b inside ∙ ap (λ (t : Bool). t && not (k == b)) (lost b)
    ∙ lose_both (contains old b) (named_in (take i blocks) b) (k == b)
    ∙ ap (λ (t : Bool). contains old b && not t) (sym (named_push (take i blocks) k b)
    ∙ ap (λ (xs : List ℕ). named_in xs b) (sym split))

-- ---- the blocks of an entry

pub named_more : (es : List IndexEntry) (i : ℕ) (e : IndexEntry) (b : ℕ) → i < length es → e ≡ get_or es i e
    → named_in (blocks_of (take (i + 1) es)) b ≡ (named_in (blocks_of (take i es)) b || named_in e.blocks b)
named_more es i e b lt is =
    let split : take (i + 1) es ≡ take i es ++ e ∷ [] = take_more es i e lt
    ∙ ap (λ (x : IndexEntry). take i es ++ x ∷ []) (sym is) in
    let joined : blocks_of (take i es ++ e ∷ []) ≡ blocks_of (take i es) ++ e.blocks =
    flat_map-append (λ (x : IndexEntry). x.blocks) (take i es) (e ∷ [])
    ∙ ap (λ (bs : List ℕ). blocks_of (take i es) ++ bs) (append-nil e.blocks) in
    ap (λ (bs : List ℕ). named_in bs b) (ap blocks_of split ∙ joined)
    ∙ list_any-append (λ n. n == b) (blocks_of (take i es)) e.blocks

pub added_is : (blocks : List ℕ) (old new : List Bool) → IsAdded blocks old new → (b : ℕ)
    → contains new b ≡ (contains old b || named_in blocks b)
added_is blocks old new added b = ⊎_elim
    (λ found. let (i, lt, at) = found in
    subst (λ (k : ℕ). contains new k ≡ true) at (added.added i lt)
    ∙ sym (ap (λ (t : Bool). contains old b || t) (named_at blocks b i lt at) ∙ or_true (contains old b)))
    (λ apart. added.kept b apart ∙ sym (ap (λ (t : Bool). contains old b || t) (unnamed blocks b apart)
    ∙ or_false (contains old b)))
    (cases_apart blocks b)

-- the steps of the loops over entries
pub entry_lost : (es : List IndexEntry) (i : ℕ) (e : IndexEntry) (old now new : List Bool) → i < length es
    → e ≡ get_or es i e
    → Loses e.blocks now new → Loses (blocks_of (take i es)) old now → Loses (blocks_of (take (i + 1) es)) old new
entry_lost es i e old now new lt is more lost b =
    more b ∙ ap (λ (t : Bool). t && not (named_in e.blocks b)) (lost b)
    ∙ lose_both (contains old b) (named_in (blocks_of (take i es)) b) (named_in e.blocks b)
    ∙ ap (λ (t : Bool). contains old b && not t) (sym (named_more es i e b lt is))

pub entry_gained : (es : List IndexEntry) (i : ℕ) (e : IndexEntry) (h : ℕ → Bool) (now new : List Bool) → i < length es
    → e ≡ get_or es i e
    → IsAdded e.blocks now new → ((b : ℕ) → contains now b ≡ (h b || named_in (blocks_of (take i es)) b)) → (b : ℕ)
    → contains new b ≡ (h b || named_in (blocks_of (take (i + 1) es)) b)
entry_gained es i e h now new lt is added gained b =
    added_is e.blocks now new added b ∙ ap (λ (t : Bool). t || named_in e.blocks b) (gained b)
    ∙ or_both (h b) (named_in (blocks_of (take i es)) b) (named_in e.blocks b)
    ∙ ap (λ (t : Bool). h b || t) (sym (named_more es i e b lt is))

pub gained_none : (h : Bool) → h ≡ (h || false)
gained_none h = sym (or_false h)

-- ---- how many are free

abbrev count_free : Bool → ℕ
count_free flag = cond (not flag) 1 0

below : (s : List Bool) (b : ℕ) → contains s b ≡ true → b < length s
below s b is = ⊎_elim (λ lt. lt) (λ past. absurd (let e : false ≡ true = sym (get_or_past s b false past) ∙ is in cc))
    (cases_lt b (length s))

all_free : (s : List Bool) → ((b : ℕ) → contains s b ≡ true → ⊥) → length s ≤ free_of s
all_free [] none = omega arith
all_free (true ∷ s) none = absurd (none 0 refl)
all_free (false ∷ s) none = let rest = all_free s (λ b is. none (suc b) is) in let more =
    sum_by-cons count_free false s in omega (arith, rest, more)

-- a set that has none but these blocks leaves all others free
pub enough_free : (blocks : List ℕ) (s : List Bool) → ((b : ℕ) → contains s b ≡ true → named_in blocks b ≡ true)
    → length s ≤ free_of s + length blocks
enough_free [] s only = let all = all_free s (λ b is. let e : false ≡ true = only b is in cc) in omega (arith, all)
enough_free (k ∷ blocks) s only = ⊎_elim
    (λ lt.
    let rest = enough_free blocks (set s k false) (λ b is.
    let both = both_true (contains s b) (not (k == b)) (sym (lose_one s k b lt) ∙ is) in
    one_true (k == b) (named_in blocks b) (not_true (k == b) both.1) (only b both.0)) in
    let long = length-set s k false in
    let count = sum_by-set count_free s k false false lt in
    omega (arith, rest, long, count))
    (λ far.
    let rest = enough_free blocks s (λ b is. one_true (k == b) (named_in blocks b)
    (ne_eqb k b (λ e. let lt = below s b is in omega (arith, far, lt, e))) (only b is)) in
    omega (arith, rest))
    (cases_lt k (length s))

-- ---- the set of the later of two indexes

pub released : (earlier later : List IndexEntry) (old new : List Bool) → AreOfEither earlier later old
    → length new ≡ length old
    → ((b : ℕ) → contains new b ≡ ((contains old b && not (named_in (blocks_of earlier) b)) || named_in
    (blocks_of later) b))
    → AreTaken (length old) later new
released earlier later old new either long is = record {
  capacity = long;
  exact = exact;
  free = (let f = enough_free (blocks_of later) new (λ b has. sym (exact b) ∙ has) in omega (arith, f, long));
}
  where
    by : (h p q : Bool) → (h ≡ true → (p ≡ true) ⊎ (q ≡ true)) → ((h && not p) || q) ≡ q
    by false p q one = refl
    by true true q one = refl
    by true false true one = refl
    by true false false one = absurd (⊎_elim (λ a. cc) (λ b. cc) (one refl))

    exact : (b : ℕ) → contains new b ≡ named_in (blocks_of later) b
    exact b = is b ∙ by (contains old b) (named_in (blocks_of earlier) b) (named_in (blocks_of later) b) (either b)
