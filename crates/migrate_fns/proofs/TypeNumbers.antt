-- The numbers of types are an injective image of the types, and links between numbers are those between types.
use Rattle.std.proofs.Common.{◌≡◌, ℕ, true, false, List, [], ◌∷◌, ◌++◌, length, Option, Some, None, refl, sym, ap}
use Rattle.std.proofs.Common.{subst, ◌∙◌, ◌<◌, inl, inr, arith, map, get_or}
use Rattle.std.specs.Prelude.{◌&&◌, nat_eq, slice_get}
use Rattle.std.proofs.lemmas.List.{length-map, map-append}
use Rattle.std.proofs.lemmas.Option.{slice_get_within}
use Rattle.std.proofs.lemmas.Bool.{eq-eqb, eqb-true}
use Rattle.value_model.specs.Kinds.{Kind, same_kind}
use Rattle.value_model.specs.Views.{kind_of}
use Rattle.migrate_fns.specs.Links.{AllDiffer, AreLinks, KeepsNumbers, has_number, is_link}
use Rattle.migrate_fns.specs.Rules.{Rule, is_for}
use Rattle.migrate_fns.specs.declared.numbering.Link.{Link}
use Rattle.migrate_fns.specs.declared.fingerprints.Marked.{Marked}
use Rattle.migrate_fns.specs.lemmas.Facts.{not_false, is_false, both_true, true_both, not_none, some_is, at_end}
use Rattle.migrate_fns.specs.lemmas.Facts.{last_at, mapped_at, still_at}
use Rattle.migrate_fns.specs.lemmas.SameKinds.{kind_is, same_kind-refl, same_from_is}

pub differ_push : (kinds : List Kind) (k : Kind) → AllDiffer kinds → ((i : ℕ) → slice_get kinds i ≡ Some k → ⊥)
    → AllDiffer (kinds ++ k ∷ [])
differ_push kinds k differ new i j x at there = elim (at_end kinds k x i at) [
  | inl a ↦ elim (at_end kinds k x j there) [
    | inl b ↦ differ i j x a b
    | inr b ↦ absurd (new i (a ∙ ap (λ l. Some l) (sym b.1)))
  ]
  | inr a ↦ elim (at_end kinds k x j there) [
    | inl b ↦ absurd (new j (b ∙ ap (λ l. Some l) (sym a.1)))
    | inr b ↦ a.0 ∙ sym b.0
  ]
]

-- marked types seen as kinds, with one more type after them
abbrev pub seen : Marked → Kind
seen t = kind_of t.value_type.now

pub seen_at : (ts : List Marked) (kinds : List Kind) (i : ℕ) (t : Marked) → map seen ts ≡ kinds
    → i < length ts → t ≡ get_or ts i t → slice_get kinds i ≡ Some (kind_of t.value_type.now)
seen_at ts kinds i t view within read = subst (λ ks. slice_get ks i ≡ Some (kind_of t.value_type.now)) view
    (mapped_at seen ts i t within read)

module _ (ts more : List Marked) (kinds : List Kind) (t : Marked) (view : map seen ts ≡ kinds)
    (pushed : more ≡ ts ++ t ∷ []) where
  seen_push : map seen more ≡ kinds ++ kind_of t.value_type.now ∷ []
  seen_push = ap (λ xs. map seen xs) pushed ∙ map-append seen ts (t ∷ [])
      ∙ ap (λ ks. ks ++ kind_of t.value_type.now ∷ []) view

  pub seen_differ : AllDiffer kinds
      → ((i : ℕ) → i < length ts → slice_get kinds i ≡ Some (kind_of t.value_type.now) → ⊥) → AllDiffer (map seen more)
  seen_differ differ new = subst (λ ks. AllDiffer ks) (sym seen_push)
      (differ_push kinds (kind_of t.value_type.now) differ
      (λ i at. new i (omega (
        slice_get_within kinds i (kind_of t.value_type.now) at,
        ap (λ ks. length ks) view,
        length-map ts seen,
        arith,
      )) at))

  pub seen_kept : KeepsNumbers kinds (map seen more)
  seen_kept i k at = subst (λ ks. slice_get ks i ≡ Some k) (sym seen_push)
      (still_at kinds (kind_of t.value_type.now ∷ []) i k at)

  pub seen_last : (n : ℕ) → n ≡ length ts → slice_get (map seen more) n ≡ Some (kind_of t.value_type.now)
  seen_last n last =
      let count : length kinds ≡ n = omega (ap (λ ks. length ks) view, length-map ts seen, last, arith) in
      subst (λ ks. slice_get ks n ≡ Some (kind_of t.value_type.now)) (sym seen_push)
      (subst (λ m. slice_get (kinds ++ kind_of t.value_type.now ∷ []) m ≡ Some (kind_of t.value_type.now)) count
      (last_at kinds (kind_of t.value_type.now)))

pub numbered : (kinds : List Kind) (k : Kind) (i : ℕ) → has_number kinds k i ≡ true → slice_get kinds i ≡ Some k
numbered kinds k i h = elim (slice_get kinds i) as
    (λ o. elim o [ None ↦ false | Some l ↦ same_kind l k ] ≡ true → o ≡ Some k) [
      | None ↦ λ no. absurd (not_false no)
      | Some l ↦ λ same. ap (λ x. Some x) (kind_is l k same)
    ] h

pub numbers : (kinds : List Kind) (k : Kind) (i : ℕ) → slice_get kinds i ≡ Some k → has_number kinds k i ≡ true
numbers kinds k i at = ap (λ (o : Option Kind). elim o [ None ↦ false | Some l ↦ same_kind l k ]) at ∙ same_kind-refl k

pub same_number : (kinds : List Kind) (i j : ℕ) (k l : Kind) → AllDiffer kinds → slice_get kinds i ≡ Some k
    → slice_get kinds j ≡ Some l → nat_eq i j ≡ same_kind k l
same_number kinds i j k l differ at there = elim (nat_eq i j) as (λ b. nat_eq i j ≡ b → b ≡ same_kind k l) [
  | true ↦ λ yes.
      let same : i ≡ j = eqb-true i j yes in
      sym (same_from_is k l (some_is k l (sym at ∙ ap (slice_get kinds) same ∙ there)))
  | false ↦ λ no. sym (is_false (same_kind k l) (λ same.
      not_false (sym no ∙ eq-eqb i j (differ i j k at (there ∙ ap (λ x. Some x) (sym (kind_is k l same)))))))
] refl

pub still_number : (kinds more : List Kind) (k : Kind) (i : ℕ) → KeepsNumbers kinds more → has_number kinds k i ≡ true
    → has_number more k i ≡ true
still_number kinds more k i keeps h = numbers more k i (keeps i k (numbered kinds k i h))

-- ---- links

pub record Linked (element : List ℕ) (kinds : List Kind) (i : ℕ) (r : Rule) (l : Link) : Type 0 where
  pub named : is_for r.element element ≡ true
  pub place : l.place ≡ i
  pub from : slice_get kinds l.from ≡ Some r.from
  pub to : slice_get kinds l.to ≡ Some r.to

module _ (element : List ℕ) where
  pub linked_is : (kinds : List Kind) (i : ℕ) (r : Rule) (l : Link) → is_link element kinds i r (Some l) ≡ true
      → Linked element kinds i r l
  linked_is kinds i r l h =
      let a = both_true (is_for r.element element) (nat_eq l.place i && (has_number kinds r.from l.from
      && has_number kinds r.to l.to)) h in
      let b = both_true (nat_eq l.place i) (has_number kinds r.from l.from && has_number kinds r.to l.to) a.1 in
      let c = both_true (has_number kinds r.from l.from) (has_number kinds r.to l.to) b.1 in
      record {
        named = a.0;
        place = eqb-true l.place i b.0;
        from = numbered kinds r.from l.from c.0;
        to = numbered kinds r.to l.to c.1;
      }

  pub is_linked_by : (kinds : List Kind) (i : ℕ) (r : Rule) (l : Link) → Linked element kinds i r l
      → is_link element kinds i r (Some l) ≡ true
  is_linked_by kinds i r l p = true_both (is_for r.element element) (nat_eq l.place i
      && (has_number kinds r.from l.from && has_number kinds r.to l.to)) p.named
      (true_both (nat_eq l.place i) (has_number kinds r.from l.from && has_number kinds r.to l.to)
      (eq-eqb l.place i p.place)
      (true_both (has_number kinds r.from l.from) (has_number kinds r.to l.to) (numbers kinds r.from l.from p.from)
      (numbers kinds r.to l.to p.to)))

  still_link : (kinds more : List Kind) (i : ℕ) (r : Rule) (o : Option Link) → KeepsNumbers kinds more
      → is_link element kinds i r o ≡ true → is_link element more i r o ≡ true
  still_link kinds more i r None keeps h = h
  still_link kinds more i r (Some l) keeps h =
      let p = linked_is kinds i r l h in
      is_linked_by more i r l (record {
        named = p.named;
        place = p.place;
        from = keeps l.from r.from p.from;
        to = keeps l.to r.to p.to;
      })

  pub links_push : (rules : List Rule) (kinds more : List Kind) (ls : List (Option Link)) (n : ℕ) (r : Rule)
      (o : Option Link) → AreLinks rules element kinds ls → KeepsNumbers kinds more → length ls ≡ n
      → slice_get rules n ≡ Some r → is_link element more n r o ≡ true
      → AreLinks rules element more (ls ++ o ∷ [])
  links_push rules kinds more ls n r o known keeps count at is i q p there found =
      elim (at_end ls o p i found) [
        | inl before ↦ still_link kinds more i q p keeps (known i q p there before)
        | inr end ↦
            let here : i ≡ n = end.0 ∙ count in
            let rule : r ≡ q = some_is r q (sym at ∙ ap (slice_get rules) (sym here) ∙ there) in
            subst (λ x. is_link element more i q x ≡ true) end.1
            (subst (λ x. is_link element more i x o ≡ true) rule
            (subst (λ x. is_link element more x r o ≡ true) (sym here) is))
      ]

  pub no_links : (rules : List Rule) (kinds : List Kind) (ls : List (Option Link)) → ls ≡ []
      → AreLinks rules element kinds ls
  no_links rules kinds ls none i r o there found =
      absurd (not_none o (sym (ap (λ xs. slice_get xs i) (sym none) ∙ found)))

  pub still_links : (rules : List Rule) (kinds more : List Kind) (ls : List (Option Link))
      → AreLinks rules element kinds ls → KeepsNumbers kinds more → AreLinks rules element more ls
  still_links rules kinds more ls known keeps i r o at found = still_link kinds more i r o keeps (known i r o at found)
