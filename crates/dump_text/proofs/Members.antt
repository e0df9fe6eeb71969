-- What is put into an object at ascending names is read from it in their order.
use Rattle.std.proofs.Common.{◌≡◌, ℕ, zero, suc, ◌+◌, ◌<◌, ◌≤◌, List, [], ◌∷◌, ◌++◌, length, get_or, map, take}
use Rattle.std.proofs.Common.{Option, Some, None, refl, sym, ap, ◌∙◌, subst, arith, Less, Equal, Greater, Ordering}
use Rattle.std.specs.List.{AllByRecursion}
use Rattle.std.specs.List.Sorted.{IsStrictlySortedBy}
use Rattle.std.specs.Ordering.{match_ordering, ordering_reverse}
use Rattle.std.proofs.lemmas.Cmp.{nat_list_cmp_total}
use Rattle.std.proofs.lemmas.List.{map-append, map-id, take_more}
use Rattle.per_base.specs.Fields.{◌>>=◌}
use Rattle.per_base.specs.Names.{name_cmp}
use Rattle.serde_json.specs.Data.{Data, Members, depth, member, members_depth, no_members, put}
use Rattle.serde_json.specs.View.{members_view}
use Rattle.serde_json.proofs.Views.{Entry}
use Rattle.dump_text.specs.Elements.{read_members}

pub some_same : {X : Type 0} (x y : X) → Some x ≡ Some y → x ≡ y
some_same x y is = cc

module _ {A : Type 0} (key : A → List ℕ) (read : List ℕ → Data → Option A)
    (named : (name : List ℕ) (d : Data) (x : A) → read name d ≡ Some x → key x ≡ name) where
  step : (l : List ℕ) (e : Data) (ms : Members) (name : List ℕ) (d : Data) (x f : A) (fs : List A) → read l e ≡ Some f
      → read_members read (put name d ms) ≡ Some (fs ++ x ∷ []) → name_cmp name l ≡ Greater
      → read_members read (put name d (member l e ms)) ≡ Some (f ∷ fs ++ x ∷ [])
  unfolding read_members
  step l e ms name d x f fs first later above =
      ap (λ (o : Ordering). read_members read (match_ordering o (member name d (member l e ms)) (member l d ms)
      (member l e (put name d ms)))) above
      ∙ ap (λ (o : Option A). o >>= λ g. read_members read (put name d ms) >>= λ gs. Some (g ∷ gs)) first
      ∙ ap (λ (o : Option (List A)). o >>= λ gs. Some (f ∷ gs)) later

  more : (l : List ℕ) (e : Data) (ms : Members) (name : List ℕ) (d : Data) (x : A) (known : List A) (o : Option A)
      (rest : Option (List A)) → read l e ≡ o → read_members read ms ≡ rest
      → (o >>= λ g. rest >>= λ gs. Some (g ∷ gs)) ≡ Some known
      → AllByRecursion (λ k. name_cmp k name ≡ Less) (map key known)
      → ((fs : List A) → read_members read ms ≡ Some fs → AllByRecursion (λ k. name_cmp k name ≡ Less) (map key fs)
      → read_members read (put name d ms) ≡ Some (fs ++ x ∷ []))
      → read_members read (put name d (member l e ms)) ≡ Some (known ++ x ∷ [])
  more l e ms name d x known None rest first others is above later = absurd cc
  more l e ms name d x known (Some f) None first others is above later = absurd cc
  more l e ms name d x known (Some f) (Some fs) first others is above later =
      let same : f ∷ fs ≡ known = some_same (f ∷ fs) known is in
      let below = subst (λ (ks : List A). AllByRecursion (λ k. name_cmp k name ≡ Less) (map key ks)) (sym same) above in
      let less : name_cmp l name ≡ Less =
      ap (λ (k : List ℕ). name_cmp k name) (sym (named l e f first)) ∙ below.0 in
      let greater : name_cmp name l ≡ Greater = nat_list_cmp_total.antisymm name l ∙ ap ordering_reverse less in
      step l e ms name d x f fs first (later fs others below.1) greater ∙ ap (λ (ks : List A). Some (ks ++ x ∷ [])) same

  -- what is put at a name above the others is read after them
  put_read : (ms : Members) (known : List A) (name : List ℕ) (d : Data) (x : A) → read_members read ms ≡ Some known
      → read name d ≡ Some x → AllByRecursion (λ k. name_cmp k name ≡ Less) (map key known)
      → read_members read (put name d ms) ≡ Some (known ++ x ∷ [])
  unfolding read_members
  put_read no_members known name d x is here above =
      ap (λ (o : Option A). o >>= λ g. Some (g ∷ [])) here
      ∙ ap (λ (ks : List A). Some (ks ++ x ∷ [])) (some_same [] known is)
  put_read (member l e ms) known name d x is here above =
      more l e ms name d x known (read l e) (read_members read ms) refl refl is above
      (λ fs others below. put_read ms fs name d x others here below)

  above_at : {B : Type 0} (f : B → A) (n : List ℕ) (ys : List B) (i : ℕ) (x : B)
      → AllByRecursion (λ m. name_cmp n m ≡ Less) (map (λ b. key (f b)) ys) → i < length ys → x ≡ get_or ys i x
      → name_cmp n (key (f x)) ≡ Less
  above_at f n [] i x all lt is = absurd (omega (arith, lt))
  above_at {B} f n (y ∷ ys) zero x all lt is = subst (λ (z : B). name_cmp n (key (f z)) ≡ Less) (sym is) all.0
  above_at f n (y ∷ ys) (suc i) x all lt is = above_at f n ys i x all.1 (omega (arith, lt)) is

  below_at : {B : Type 0} (f : B → A) (xs : List B) (i : ℕ) (x : B) → i < length xs → x ≡ get_or xs i x
      → IsStrictlySortedBy name_cmp (map (λ b. key (f b)) xs)
      → AllByRecursion (λ k. name_cmp k (key (f x)) ≡ Less) (map key (map f (take i xs)))
  unfolding IsStrictlySortedBy
  below_at f [] i x lt is sorted = absurd (omega (arith, lt))
  below_at f (y ∷ ys) zero x lt is sorted = tt
  below_at f (y ∷ ys) (suc i) x lt is sorted = (
    above_at f (key (f y)) ys i x sorted.0 (omega (arith, lt)) is,
    below_at f ys i x (omega (arith, lt)) is sorted.1,
  )

  -- of those that are put in their order, each read as f says, one more is read
  pub put_more : {B : Type 0} (f : B → A) (xs : List B) (i : ℕ) (x : B) (ms new : Members) (name : List ℕ) (d : Data)
      → new ≡ put name d ms → name ≡ key (f x) → i < length xs → x ≡ get_or xs i x
      → IsStrictlySortedBy name_cmp (map (λ b. key (f b)) xs) → read_members read ms ≡ Some (map f (take i xs))
      → read (key (f x)) d ≡ Some (f x) → read_members read new ≡ Some (map f (take (i + 1) xs))
  put_more {B} f xs i x ms new name d made same lt is sorted so_far here =
      ap (read_members read) (made ∙ ap (λ (n : List ℕ). put n d ms) same)
      ∙ put_read ms (map f (take i xs)) (key (f x)) d (f x) so_far here (below_at f xs i x lt is sorted)
      ∙ ap (λ (ks : List A). Some ks) (sym (ap (map f)
      (take_more xs i x lt ∙ ap (λ (z : B). take i xs ++ z ∷ []) (sym is)) ∙ map-append f (take i xs) (x ∷ [])))

  -- the same of those that are read as they are
  pub put_taken : (xs : List A) (i : ℕ) (x : A) (ms new : Members) (name : List ℕ) (d : Data)
      → new ≡ put name d ms → name ≡ key x → i < length xs → x ≡ get_or xs i x
      → IsStrictlySortedBy name_cmp (map key xs) → read_members read ms ≡ Some (take i xs) → read (key x) d ≡ Some x
      → read_members read new ≡ Some (take (i + 1) xs)
  put_taken xs i x ms new name d made same lt is sorted so_far here =
      put_more (λ (a : A). a) xs i x ms new name d made same lt is sorted
      (so_far ∙ ap (λ (ks : List A). Some ks) (sym (map-id (take i xs)))) here
      ∙ ap (λ (ks : List A). Some ks) (map-id (take (i + 1) xs))

-- ---- an object with none

pub none_read : {A : Type 0} (read : List ℕ → Data → Option A) (es : List Entry) → es ≡ []
    → read_members read (members_view es) ≡ Some []
unfolding read_members
none_read read es is = ap (λ (fs : List Entry). read_members read (members_view fs)) is

pub none_deep : (es : List Entry) (n : ℕ) → es ≡ [] → members_depth (members_view es) ≤ n
none_deep es n is =
    subst (λ (fs : List Entry). members_depth (members_view fs) ≤ n) (sym is) (omega arith)

pub none_seen : (es : List Entry) → es ≡ [] → members_view es ≡ no_members
none_seen es is = ap members_view is

-- ---- how deep it nests

match_depth : (o : Ordering) (a b c : Members) (n : ℕ) → members_depth a ≤ n → members_depth b ≤ n
    → members_depth c ≤ n → members_depth (match_ordering o a b c) ≤ n
match_depth Less a b c n p q r = p
match_depth Equal a b c n p q r = q
match_depth Greater a b c n p q r = r

put_depth : (k : List ℕ) (d : Data) (ms : Members) (n : ℕ) → depth d ≤ n → members_depth ms ≤ n
    → members_depth (put k d ms) ≤ n
put_depth k d no_members n p q = omega arith
put_depth k d (member l e ms) n p q =
    match_depth _ (member k d (member l e ms)) (member l d ms) (member l e (put k d ms)) n (omega arith) (omega arith)
    (omega (arith, put_depth k d ms n p (omega arith)))

pub put_nests : (new ms : Members) (k : List ℕ) (d : Data) (n : ℕ) → new ≡ put k d ms → depth d ≤ n
    → members_depth ms ≤ n → members_depth new ≤ n
put_nests new ms k d n made p q = subst (λ (m : Members). members_depth m ≤ n) (sym made) (put_depth k d ms n p q)
