-- The levels of the search, and the way back through them.
use Rattle.std.proofs.Common.{◌≡◌, ℕ, suc, ◌+◌, ◌-◌, ◌<◌, ◌≤◌, true, false, cond, List, [], ◌∷◌, ◌++◌}
use Rattle.std.proofs.Common.{length, Option, Some, None, refl, sym, ap, subst, ◌∙◌, arith, inl, inr, append_assoc}
use Rattle.std.proofs.Common.{length-append, drop, get_or, map, Result, Ok, Err, IfOk, set, replicate, Vec, Global}
use Rattle.std.specs.Prelude.{◌⊎◌, ◌&&◌, not, nat_eq, is_some, slice_get, option_map, option_and_then, IfSome}
use Rattle.std.proofs.lemmas.List.{drop_all, get_or-replicate, length-replicate, get_or-set_same, get_or-set_other}
use Rattle.std.proofs.lemmas.List.{length-set, append-nil, map-append}
use Rattle.std.proofs.lemmas.Option.{slice_get-get_or, slice_get-map, slice_get_past, slice_get_read, slice_get_within}
use Rattle.value_model.specs.Kinds.{Kind, same_kind}
use Rattle.value_model.specs.Trees.{Tree, type_of}
use Rattle.migrate_fns.specs.Chains.{usable, linked, IsShortestChain, or_later, with_link, first_link, if_same, links}
use Rattle.migrate_fns.specs.Chains.{shortest, chain_of, first_place, takes}
use Rattle.migrate_fns.specs.Links.{AllDiffer, AreLevels, AreLinks, IsLevel, LinkLeads, entered, is_link, levels_view}
use Rattle.migrate_fns.specs.Links.{link_place}
use Rattle.migrate_fns.specs.Rules.{Rule, Answers, ConvertsTo, is_for, first_type, last_type, reached, if_takes}
use Rattle.migrate_fns.specs.declared.numbering.Link.{Link}
use Rattle.migrate_fns.proofs.Found.{Least, first_least, linked_cons, fitting_parts, chain_is_found}
use Rattle.migrate_fns.specs.lemmas.SameKinds.{kind_is, same_from_is}
use Rattle.migrate_fns.proofs.TypeNumbers.{linked_is, same_number}
use Rattle.migrate_fns.specs.lemmas.Facts.{not_false, not_true, is_false, both_true, true_both, not_none, some_is}
use Rattle.migrate_fns.specs.lemmas.Facts.{none_is}
use Rattle.migrate_fns.specs.lemmas.Facts.{at_end, same_or_apart, there_is}

abbrev pub or_first : Option ℕ → Option ℕ → Option ℕ
or_first None other = other
or_first (Some i) other = Some i

pub or_first-none : (o : Option ℕ) → or_first o None ≡ o
or_first-none None = refl
or_first-none (Some i) = refl

pub is_some_map : {A B : Type 0} (f : A → B) (o : Option A) → is_some (option_map f o) ≡ is_some o
is_some_map f None = refl
is_some_map f (Some x) = refl

pub of_ok : {T E : Type 0} (r : Result T E) (G : Result T E → Type 0) (P : T → Type 0) → G r
    → ((w : T) → G (Ok w) → P w) → IfOk r P
of_ok (Ok w) G P g k = k w g
of_ok (Err e) G P g k = tt

pub push_length : {A : Type 0} (xs : List A) (x : A) (n : ℕ) → length xs ≡ n → length (xs ++ x ∷ []) ≡ suc n
push_length xs x n e = length-append xs (x ∷ []) ∙ omega (arith, e)

pub view_at : (levels : List (Vec (Option Link) Global)) (n : ℕ) (level : Vec (Option Link) Global)
    → slice_get levels n ≡ Some level → slice_get (levels_view levels) n ≡ Some level.items
view_at levels n level at = slice_get-map (λ (v : Vec (Option Link) Global). v.items) levels n
    ∙ ap (λ (o : Option (Vec (Option Link) Global)). option_map (λ v. v.items) o) at

views : (levels : List (Vec (Option Link) Global)) → length (levels_view levels) ≡ length levels
views [] = refl
views (v ∷ levels) = ap suc (views levels)

module _ (rules : List Rule) where
  pub takes_at : (from : Kind) (i : ℕ) (r : Rule) → slice_get rules i ≡ Some r
      → takes rules from i ≡ same_kind r.from from
  takes_at from i r at = ap (λ (o : Option Rule). elim o [ None ↦ false | Some q ↦ same_kind q.from from ]) at

  module _ (element : List ℕ) (to : Kind) where
    abbrev pub rest_from : ℕ → Kind → ℕ → List Rule → Option ℕ
    rest_from n from i rs = first_place (first_link element from (links rules element to n) i rs)

    -- ---- a level

    opened : (from : Kind) (n i : ℕ) (r : Rule) (rs : List Rule) → usable element from r ≡ true
        → is_some (links rules element to n r.to) ≡ true → rest_from n from i (r ∷ rs) ≡ Some i
    opened from n i r rs fits leads =
        ap (λ b. first_place (or_later (with_link b i (links rules element to n) r.to)
        (λ u. first_link element from (links rules element to n) (suc i) rs))) fits
        ∙ elim (links rules element to n r.to) as (λ o. is_some o ≡ true
        → first_place (or_later (option_map (λ is. i ∷ is) o)
        (λ u. first_link element from (links rules element to n) (suc i) rs)) ≡ Some i) [
          | None ↦ λ f. absurd (not_false f)
          | Some is ↦ λ h. refl
        ] leads

    unusable : (from : Kind) (n i : ℕ) (r : Rule) (rs : List Rule) → usable element from r ≡ false
        → rest_from n from i (r ∷ rs) ≡ rest_from n from (suc i) rs
    unusable from n i r rs off = ap (λ b. first_place (or_later (with_link b i (links rules element to n) r.to)
        (λ u. first_link element from (links rules element to n) (suc i) rs))) off

    closed : (from : Kind) (n i : ℕ) (r : Rule) (rs : List Rule) → links rules element to n r.to ≡ None
        → rest_from n from i (r ∷ rs) ≡ rest_from n from (suc i) rs
    closed from n i r rs none = elim (usable element from r) as
        (λ b. first_place (or_later (with_link b i (links rules element to n) r.to)
        (λ u. first_link element from (links rules element to n) (suc i) rs)) ≡ rest_from n from (suc i) rs) [
          | false ↦ refl
          | true ↦ ap (λ (o : Option (List ℕ)). first_place (or_later (option_map (λ is. i ∷ is) o)
              (λ u. first_link element from (links rules element to n) (suc i) rs))) none
        ]

    -- a converter from a type with another number
    other_type : (kinds : List Kind) (a b : ℕ) (from : Kind) (r : Rule) → AllDiffer kinds
        → slice_get kinds a ≡ Some from → slice_get kinds b ≡ Some r.from → (a ≡ b → ⊥) → usable element from r ≡ false
    other_type kinds a b from r differ at there apart = is_false (usable element from r) (λ u.
        let same : r.from ≡ from = kind_is r.from from
        (both_true (is_for r.element element) (same_kind r.from from) u).1 in
        apart (differ a b from at (there ∙ ap (λ k. Some k) same)))

    -- what holds of a level before the converter at i is read
    pub record Begun (kinds : List Kind) (n i : ℕ) (level : List (Option Link)) : Type 0 where
      pub count : length level ≡ length kinds
      pub cells : (a : ℕ) (from : Kind) → slice_get kinds a ≡ Some from
          → or_first (link_place (get_or level a None)) (rest_from n from i (drop i rules)) ≡ rest_from n from 0 rules
      pub lead : (a : ℕ) (from : Kind) → slice_get kinds a ≡ Some from
          → IfSome (get_or level a None) (LinkLeads rules kinds)

    pub level_begun : (kinds : List Kind) (n : ℕ) (level : List (Option Link))
        → level ≡ replicate (length kinds) None → Begun kinds n 0 level
    level_begun kinds n level e =
        let empty : (a : ℕ) (from : Kind) → slice_get kinds a ≡ Some from → get_or level a None ≡ None =
        λ (a : ℕ) (from : Kind) (at : slice_get kinds a ≡ Some from).
        ap (λ ls. get_or ls a None) e
        ∙ get_or-replicate (length kinds) a None None (slice_get_within kinds a from at) in
        record {
          count = ap (λ ls. length ls) e ∙ length-replicate (length kinds) None;
          cells = λ a from at. ap (λ (c : Option Link). or_first (link_place c) (rest_from n from 0 rules))
              (empty a from at);
          lead = λ a from at. subst (λ c. IfSome c (LinkLeads rules kinds)) (sym (empty a from at)) tt;
        }

    pub level_made : (kinds : List Kind) (n i : ℕ) (level : List (Option Link)) → length rules ≤ i
        → Begun kinds n i level → IsLevel rules element to kinds n level
    level_made kinds n i level past b = (
      b.count,
      (λ a from at. (
        sym (or_first-none (link_place (get_or level a None)))
            ∙ ap (λ rs. or_first (link_place (get_or level a None)) (rest_from n from i rs))
            (sym (drop_all i rules past))
            ∙ b.cells a from at,
        b.lead a from at,
      )),
    )

    module _ (kinds : List Kind) (n i : ℕ) (r : Rule)
        (here : (slice_get rules i ≡ Some r) × (drop i rules ≡ r ∷ drop (suc i) rules)) where
      -- the cells after the converter at i is read
      advance : (level longer : List (Option Link)) → length longer ≡ length level
          → ((a : ℕ) (from : Kind) → slice_get kinds a ≡ Some from
          → or_first (link_place (get_or longer a None)) (rest_from n from (suc i) (drop (suc i) rules))
          ≡ or_first (link_place (get_or level a None)) (rest_from n from i (r ∷ drop (suc i) rules)))
          → ((a : ℕ) (from : Kind) → slice_get kinds a ≡ Some from
          → IfSome (get_or longer a None) (LinkLeads rules kinds))
          → Begun kinds n i level → Begun kinds n (i + 1) longer
      advance level longer same cells lead b =
          let next : suc i ≡ i + 1 = omega arith in
          subst (λ j. Begun kinds n j longer) next (record {
            count = same ∙ b.count;
            cells = λ a from at. cells a from at
                ∙ ap (λ rs. or_first (link_place (get_or level a None)) (rest_from n from i rs)) (sym here.1)
                ∙ b.cells a from at;
            lead = lead;
          })

      skip : (level : List (Option Link)) → ((a : ℕ) (from : Kind) → slice_get kinds a ≡ Some from
          → (is_some (get_or level a None) ≡ true)
          ⊎ (rest_from n from i (r ∷ drop (suc i) rules) ≡ rest_from n from (suc i) (drop (suc i) rules)))
          → Begun kinds n i level → Begun kinds n (i + 1) level
      skip level why b = advance level level refl (λ a from at. elim (why a from at) [
        | inl some ↦ elim (get_or level a None) as (λ c. is_some c ≡ true
            → or_first (link_place c) (rest_from n from (suc i) (drop (suc i) rules))
            ≡ or_first (link_place c) (rest_from n from i (r ∷ drop (suc i) rules))) [
              | None ↦ λ h. absurd (not_false h)
              | Some l ↦ λ h. refl
            ] some
        | inr same ↦ ap (λ o. or_first (link_place (get_or level a None)) o) (sym same)
      ]) b.lead b

      other_element : (level : List (Option Link)) → is_link element kinds i r None ≡ true
          → Begun kinds n i level → Begun kinds n (i + 1) level
      other_element level is = skip level (λ a from at. inr (unusable from n i r (drop (suc i) rules)
          (ap (λ b. b && same_kind r.from from) (not_true (is_for r.element element) is))))

      module _ (l : Link) (is : is_link element kinds i r (Some l) ≡ true) where
        taken : (level : List (Option Link)) → AllDiffer kinds → is_some (get_or level l.from None) ≡ true
            → Begun kinds n i level → Begun kinds n (i + 1) level
        taken level differ some = skip level (λ a from at. elim (same_or_apart a l.from) [
          | inl same ↦ inl (subst (λ x. is_some (get_or level x None) ≡ true) (sym same) some)
          | inr apart ↦ inr (unusable from n i r (drop (suc i) rules)
              (other_type kinds a l.from from r differ at (linked_is element kinds i r l is).from apart))
        ])

        closes : (level : List (Option Link)) → is_some (links rules element to n r.to) ≡ false
            → Begun kinds n i level → Begun kinds n (i + 1) level
        closes level shut = skip level (λ a from at. inr (closed from n i r (drop (suc i) rules)
            (none_is (links rules element to n r.to) shut)))

        leads_on : LinkLeads rules kinds l
        leads_on =
            let p = linked_is element kinds i r l is in
            (r, ap (slice_get rules) p.place ∙ here.0, p.to)

        opens : (level : List (Option Link)) → AllDiffer kinds → get_or level l.from None ≡ None
            → is_some (links rules element to n r.to) ≡ true → Begun kinds n i level
            → Begun kinds n (i + 1) (set level l.from (Some l))
        opens level differ none leads b =
            let p = linked_is element kinds i r l is in
            let within : l.from < length level = omega (slice_get_within kinds l.from r.from p.from, b.count, arith) in
            advance level (set level l.from (Some l)) (length-set level l.from (Some l))
            (λ a from at. elim (same_or_apart a l.from) [
              | inl same ↦
                  let kind : from ≡ r.from = some_is from r.from (sym at ∙ ap (slice_get kinds) same ∙ p.from) in
                  let usable : usable element from r ≡ true = true_both (is_for r.element element)
                  (same_kind r.from from) p.named (same_from_is r.from from (sym kind)) in
                  ap (λ (c : Option Link). or_first (link_place c) (rest_from n from (suc i) (drop (suc i) rules)))
                  (ap (λ x. get_or (set level l.from (Some l)) x None) same
                  ∙ get_or-set_same level l.from (Some l) None within)
                  ∙ ap (λ x. Some x) p.place ∙ sym (opened from n i r (drop (suc i) rules) usable leads)
                  ∙ ap (λ (c : Option Link). or_first (link_place c) (rest_from n from i (r ∷ drop (suc i) rules)))
                  (sym (ap (λ x. get_or level x None) same ∙ none))
              | inr apart ↦
                  ap (λ (c : Option Link). or_first (link_place c) (rest_from n from (suc i) (drop (suc i) rules)))
                  (get_or-set_other level l.from a (Some l) None apart)
                  ∙ ap (λ o. or_first (link_place (get_or level a None)) o)
                  (sym (unusable from n i r (drop (suc i) rules)
                  (other_type kinds a l.from from r differ at p.from apart)))
            ])
            (λ a from at. elim (same_or_apart a l.from) [
              | inl same ↦ subst (λ c. IfSome c (LinkLeads rules kinds))
                  (sym (ap (λ x. get_or (set level l.from (Some l)) x None) same
                  ∙ get_or-set_same level l.from (Some l) None within)) leads_on
              | inr apart ↦ subst (λ c. IfSome c (LinkLeads rules kinds))
                  (sym (get_or-set_other level l.from a (Some l) None apart)) (b.lead a from at)
            ]) b

        enters : (level : List (Option Link)) → AllDiffer kinds → Begun kinds n i level
            → Begun kinds n (i + 1) (entered (is_some (links rules element to n r.to)) l level)
        enters level differ b = elim (get_or level l.from None) as (λ c. get_or level l.from None ≡ c
            → Begun kinds n (i + 1) (cond (not (is_some c) && is_some (links rules element to n r.to))
            (set level l.from (Some l)) level)) [
              | Some x ↦ λ e. taken level differ (ap (λ (c : Option Link). is_some c) e) b
              | None ↦ λ e. elim (is_some (links rules element to n r.to)) as
                  (λ d. is_some (links rules element to n r.to) ≡ d
                  → Begun kinds n (i + 1) (cond d (set level l.from (Some l)) level)) [
                    | true ↦ λ h. opens level differ e h b
                    | false ↦ λ h. closes level h b
                  ] refl
            ] refl

    -- the converter at i, as a link or none
    module _ (kinds : List Kind) (i : ℕ) (ls : List (Option Link)) (are : AreLinks rules element kinds ls)
        (count : length ls ≡ length rules) (within : i < length ls) where
      link_at : (o : Option Link) → get_or ls i None ≡ o → (r : Rule)
          × ((slice_get rules i ≡ Some r) × (drop i rules ≡ r ∷ drop (suc i) rules))
          × (is_link element kinds i r o ≡ true)
      link_at o e =
          let here = there_is rules i (omega (arith, count, within)) in (
            here.0,
            (here.1, here.2),
            are i here.0 o here.1 (slice_get-get_or ls i None within ∙ ap (λ x. Some x) e),
          )

      pub link_within : (l : Link) → get_or ls i None ≡ Some l → (l.from < length kinds) × (l.to < length kinds)
      link_within l e =
          let a = link_at (Some l) e in
          let p = linked_is element kinds i a.0 l a.2 in
          (slice_get_within kinds l.from a.0.from p.from, slice_get_within kinds l.to a.0.to p.to)

      pub level_next : (n : ℕ) (level longer : List (Option Link)) → AllDiffer kinds
          → ((l : Link) × (get_or ls i None ≡ Some l) × ((to' : Kind) → slice_get kinds l.to ≡ Some to'
          → longer ≡ entered (is_some (links rules element to n to')) l level))
          ⊎ ((get_or ls i None ≡ None) × (longer ≡ level))
          → Begun kinds n i level → Begun kinds n (i + 1) longer
      level_next n level longer differ step b = elim step [
        | inl w ↦
            let a = link_at (Some w.0) w.1 in
            let p = linked_is element kinds i a.0 w.0 a.2 in
            subst (λ ls. Begun kinds n (i + 1) ls) (sym (w.2 a.0.to p.to))
            (enters kinds n i a.0 a.1 w.0 a.2 level differ b)
        | inr w ↦
            let a = link_at None w.0 in
            subst (λ ls. Begun kinds n (i + 1) ls) (sym w.1) (other_element kinds n i a.0 a.1 level a.2 b)
      ]

    pub no_levels : (kinds : List Kind) (levels : List (List (Option Link))) → levels ≡ []
        → AreLevels rules element to kinds levels
    no_levels kinds levels none n level found = absurd (not_none level
        (sym (ap (λ ls. slice_get ls n) (sym none) ∙ found) ∙ slice_get_past [] n (omega arith)))

    levels_push : (kinds : List Kind) (levels : List (List (Option Link))) (level : List (Option Link))
        → AreLevels rules element to kinds levels → IsLevel rules element to kinds (length levels) level
        → AreLevels rules element to kinds (levels ++ level ∷ [])
    levels_push kinds levels level known new n found at = elim (at_end levels level found n at) [
      | inl before ↦ known n found before
      | inr end ↦ subst (λ l. IsLevel rules element to kinds n l) end.1
          (subst (λ m. IsLevel rules element to kinds m level) (sym end.0) new)
    ]

    pub view_push : (kinds : List Kind) (levels : List (Vec (Option Link) Global)) (level : Vec (Option Link) Global)
        → AreLevels rules element to kinds (levels_view levels)
        → IsLevel rules element to kinds (length levels) level.items
        → AreLevels rules element to kinds (levels_view (levels ++ level ∷ []))
    view_push kinds levels level known new =
        subst (λ ls. AreLevels rules element to kinds ls)
        (sym (map-append (λ (v : Vec (Option Link) Global). v.items) levels (level ∷ [])))
        (levels_push kinds (levels_view levels) level.items known
        (subst (λ n. IsLevel rules element to kinds n level.items)
        (sym (views levels)) new))

    -- ---- the way back

    abbrev pub behind : List ℕ → Option (List ℕ) → Option (List ℕ)
    behind places o = option_map (λ is. places ++ is) o

    pub no_link : (n : ℕ) (from : Kind) → first_place (links rules element to (suc n) from) ≡ None
        → links rules element to (suc n) from ≡ None
    no_link n from none = elim (links rules element to (suc n) from) as
        (λ o. links rules element to (suc n) from ≡ o → first_place o ≡ None → o ≡ None) [
          | None ↦ λ e h. refl
          | Some is ↦ λ e h.
              let least = subst (λ o. Least rules element to from (links rules element to n) 0 o) e
              (first_least rules element to from (links rules element to n) rules 0
              (λ k. ap (slice_get rules) (omega arith))) in
              absurd (not_none least.0 (ap (λ (is : List ℕ). first_place (Some is)) (sym least.3) ∙ h))
        ] refl none

    pub is_linked : (n : ℕ) (from : Kind) (j : ℕ) (r : Rule)
        → first_place (links rules element to (suc n) from) ≡ Some j → slice_get rules j ≡ Some r
        → links rules element to (suc n) from ≡ option_map (λ is. j ∷ is) (links rules element to n r.to)
    is_linked n from j r first at = elim (links rules element to (suc n) from) as
        (λ o. links rules element to (suc n) from ≡ o → first_place o ≡ Some j
        → o ≡ option_map (λ is. j ∷ is) (links rules element to n r.to)) [
          | None ↦ λ e h. absurd (not_none j (sym h))
          | Some is ↦ λ e h.
              let least = subst (λ o. Least rules element to from (links rules element to n) 0 o) e
              (first_least rules element to from (links rules element to n) rules 0
              (λ k. ap (slice_get rules) (omega arith))) in
              let place : least.0 ≡ j = some_is least.0 j (ap (λ (is : List ℕ). first_place (Some is)) (sym least.3)
              ∙ h) in
              let rule : least.1 ≡ r = some_is least.1 r (sym least.5 ∙ ap (slice_get rules) place ∙ at) in
              let next : links rules element to n r.to ≡ Some least.2 =
              ap (λ (q : Rule). links rules element to n q.to) (sym rule) ∙ least.7 in
              let list : is ≡ j ∷ least.2 = least.3 ∙ ap (λ p. p ∷ least.2) place in
              ap (λ (x : List ℕ). Some x) list ∙ sym (ap (λ (o : Option (List ℕ)). option_map (λ is. j ∷ is) o) next)
        ] refl first

    pub some_place : (n : ℕ) (from : Kind) → is_some (first_place (links rules element to (suc n) from))
        ≡ is_some (links rules element to (suc n) from)
    some_place n from = elim (first_place (links rules element to (suc n) from)) as
        (λ o. first_place (links rules element to (suc n) from) ≡ o
        → is_some o ≡ is_some (links rules element to (suc n) from)) [
          | None ↦ λ e. sym (ap (λ (o : Option (List ℕ)). is_some o) (no_link n from e))
          | Some j ↦ λ e. elim (links rules element to (suc n) from)
              as (λ o. first_place o ≡ Some j → true ≡ is_some o) [
                | None ↦ λ h. absurd (not_none j (sym h))
                | Some is ↦ λ h. refl
              ] e
        ] refl

    pub leads_by : (kinds : List Kind) (levels : List (List (Option Link))) (level : List (Option Link)) (n a : ℕ)
        (from : Kind) → AreLevels rules element to kinds levels → slice_get levels n ≡ Some level
        → slice_get kinds a ≡ Some from
        → is_some (get_or level a None) ≡ is_some (links rules element to (suc n) from)
    leads_by kinds levels level n a from known found at =
        sym (is_some_map (λ (l : Link). l.place) (get_or level a None))
        ∙ ap (λ (o : Option ℕ). is_some o) ((known n level found).1 a from at).0 ∙ some_place n from

    pub leads_at_end : (kinds : List Kind) (a end : ℕ) (from : Kind) → AllDiffer kinds → slice_get kinds a ≡ Some from
        → slice_get kinds end ≡ Some to → nat_eq a end ≡ is_some (links rules element to 0 from)
    leads_at_end kinds a end from differ at there = same_number kinds a end from to differ at there
        ∙ elim (same_kind from to) as (λ b. b ≡ is_some (if_same b)) [ true ↦ refl | false ↦ refl ]

    -- one more place on the way back
    pub behind_more : (places : List ℕ) (j : ℕ) (o : Option (List ℕ))
        → behind places (option_map (λ is. j ∷ is) o) ≡ behind (places ++ j ∷ []) o
    behind_more places j None = refl
    behind_more places j (Some is) = ap (λ (x : List ℕ). Some x) (sym (append_assoc places (j ∷ []) is))

    pub behind_none : (places : List ℕ) (n : ℕ) (from : Kind) → places ≡ []
        → links rules element to n from ≡ behind places (links rules element to n from)
    behind_none places n from none =
        elim (links rules element to n from) as (λ o. o ≡ behind [] o) [ None ↦ refl | Some is ↦ refl ]
        ∙ ap (λ ps. behind ps (links rules element to n from)) (sym none)

    -- what is left of the way from the start, when these places are after
    pub record Left (kinds : List Kind) (places : List ℕ) (n a : ℕ) (all : Option (List ℕ)) : Type 0 where
      pub at : Kind
      pub number : slice_get kinds a ≡ Some at
      pub way : all ≡ behind places (links rules element to n at)

    -- one step back
    pub back : (kinds : List Kind) (levels : List (List (Option Link))) (level : List (Option Link)) (n a : ℕ)
        (l : Link) (places : List ℕ) (all : Option (List ℕ)) → AreLevels rules element to kinds levels
        → slice_get levels n ≡ Some level → get_or level a None ≡ Some l → Left kinds places (suc n) a all
        → Left kinds (places ++ l.place ∷ []) n l.to all
    back kinds levels level n a l places all known found cell left =
        let step = (known n level found).1 a left.at left.number in
        let on : LinkLeads rules kinds l = subst (λ c. IfSome c (LinkLeads rules kinds)) cell step.1 in
        record {
          at = on.0.to;
          number = on.2;
          way = left.way
              ∙ ap (behind places) (is_linked n left.at l.place on.0
              (sym step.0 ∙ ap (λ (c : Option Link). link_place c) cell) on.1)
              ∙ behind_more places l.place (links rules element to n on.0.to);
        }

    pub cell_within : (kinds : List Kind) (levels : List (List (Option Link))) (level : List (Option Link)) (n m a : ℕ)
        (places : List ℕ) (all : Option (List ℕ)) → AreLevels rules element to kinds levels
        → slice_get levels n ≡ Some level → Left kinds places m a all → a < length level
    cell_within kinds levels level n m a places all known found left =
        omega (slice_get_within kinds a left.at left.number, (known n level found).0, arith)

    pub no_way : (kinds : List Kind) (levels : List (List (Option Link))) (level : List (Option Link)) (n a : ℕ)
        (places : List ℕ) (all : Option (List ℕ)) → AreLevels rules element to kinds levels
        → slice_get levels n ≡ Some level → get_or level a None ≡ None → Left kinds places (suc n) a all → all ≡ None
    no_way kinds levels level n a places all known found cell left =
        let step = (known n level found).1 a left.at left.number in
        left.way ∙ ap (behind places)
        (no_link n left.at (sym step.0 ∙ ap (λ (c : Option Link). link_place c) cell))

    -- at the end of the way
    pub arrived : (kinds : List Kind) (places : List ℕ) (a end : ℕ) (all : Option (List ℕ)) → AllDiffer kinds
        → slice_get kinds end ≡ Some to → Left kinds places 0 a all → all ≡ cond (nat_eq a end) (Some places) None
    arrived kinds places a end all differ there left =
        left.way ∙ ap (λ b. behind places (if_same b))
        (sym (same_number kinds a end left.at to differ left.number there))
        ∙ elim (nat_eq a end) as (λ b. behind places (if_same b) ≡ cond b (Some places) None) [
          | true ↦ ap (λ (x : List ℕ). Some x) (append-nil places)
          | false ↦ refl
        ]

    -- ---- the lengths one after the other

    module _ (from : Kind) where
      abbrev pub IsLeft : ℕ → Type 0
      IsLeft n = (fuel : ℕ) → fuel + n ≡ 8 → shortest rules element from to fuel (suc n)
          ≡ chain_of rules element from to

      pub left_first : IsLeft 0
      unfolding chain_of
      left_first fuel sum = let e : fuel ≡ 8 = omega (arith, sum) in ap (λ f. shortest rules element from to f 1) e

      pub left_next : (n : ℕ) → n < 8 → IsLeft n → links rules element to (suc n) from ≡ None → IsLeft (suc n)
      left_next n lt known none fuel sum =
          let e : suc fuel + n ≡ 8 = omega (arith, sum) in
          ap (λ o. or_later o (λ u. shortest rules element from to fuel (suc (suc n)))) (sym none) ∙ known (suc fuel) e

      pub left_found : (n : ℕ) → n < 8 → IsLeft n → (is : List ℕ) → links rules element to (suc n) from ≡ Some is
          → chain_of rules element from to ≡ Some is
      left_found n lt known is found =
          let e : suc (7 - n) + n ≡ 8 = omega (arith, lt) in
          sym (known (suc (7 - n)) e) ∙ ap (λ o. or_later o (λ u. shortest rules element from to (7 - n) (suc (suc n))))
          found

      pub left_none : IsLeft 8 → chain_of rules element from to ≡ None
      left_none known = sym (known 0 refl)

      -- ---- what is found

      pub linked_reached : (is : List ℕ) (k : Kind) → linked rules element to is k ≡ true → reached rules is k ≡ Some to
      linked_reached [] k h = ap (λ (x : Kind). Some x) (kind_is k to h)
      linked_reached (i ∷ is) k h =
          let c = linked_cons rules element to i is k h in
          let u = both_true (is_for c.0.element element) (same_kind c.0.from k) c.2 in
          ap (λ (o : Option Rule). option_and_then (λ (r : Rule). if_takes (same_kind r.from k) (reached rules is r.to))
          o) c.1
          ∙ ap (λ b. if_takes b (reached rules is c.0.to)) u.1 ∙ linked_reached is c.0.to c.3

      pub linked_first : (is : List ℕ) → 1 ≤ length is → linked rules element to is from ≡ true
          → first_type rules is ≡ Some from
      linked_first [] some h = absurd (omega (arith, some))
      linked_first (i ∷ is) some h =
          let c = linked_cons rules element to i is from h in
          let u = both_true (is_for c.0.element element) (same_kind c.0.from from) c.2 in
          ap (λ (o : Option Rule). option_map (λ (r : Rule). r.from) o) c.1
          ∙ ap (λ (x : Kind). Some x) (kind_is c.0.from from u.1)

      pub record Ends (is : List ℕ) : Type 0 where
        pub few : length is ≤ 8
        pub first : first_type rules is ≡ Some from
        pub last : last_type rules is ≡ Some to

      pub chain_ends : (is : List ℕ) → chain_of rules element from to ≡ Some is → Ends is
      chain_ends is e =
          let found = subst (λ o. IsShortestChain rules element from to o) e (chain_is_found rules element from to) in
          let parts = fitting_parts rules element to from is found.0 in
          let first : first_type rules is ≡ Some from = linked_first is parts.0 parts.2 in
          record {
            few = parts.1;
            first = first;
            last = ap (λ (o : Option Kind). option_and_then (reached rules is) o) first
                ∙ linked_reached is from parts.2;
          }

  -- ---- one after the other

  pub record Takes (i : ℕ) (is : List ℕ) (k : Kind) (r : Rule) : Type 0 where
    pub there : slice_get rules i ≡ Some r
    pub takes : takes rules k i ≡ true
    pub rest : reached rules (i ∷ is) k ≡ reached rules is r.to

  takes_next : (i : ℕ) (is : List ℕ) (k : Kind) → is_some (reached rules (i ∷ is) k) ≡ true
      → (r : Rule) × Takes i is k r
  takes_next i is k h = elim (slice_get rules i) as (λ o. slice_get rules i ≡ o
      → is_some (option_and_then (λ (r : Rule). if_takes (same_kind r.from k) (reached rules is r.to)) o) ≡ true
      → (r : Rule) × Takes i is k r) [
        | None ↦ λ e f. absurd (not_false f)
        | Some r ↦ λ e there. elim (same_kind r.from k) as (λ b. same_kind r.from k ≡ b
            → is_some (if_takes b (reached rules is r.to)) ≡ true → (r : Rule) × Takes i is k r) [
              | false ↦ λ d f. absurd (not_false f)
              | true ↦ λ d there. (
                r,
                record {
                  there = e;
                  takes = takes_at k i r e ∙ d;
                  rest = ap (λ (o : Option Rule). option_and_then (λ (r : Rule).
                      if_takes (same_kind r.from k) (reached rules is r.to)) o) e
                      ∙ ap (λ b. if_takes b (reached rules is r.to)) d;
                },
              )
            ] refl there
      ] refl h

  module _ (answers : Answers) (v : Tree) where
    pub takes_first : (places : List ℕ) → 1 ≤ length places → is_some (reached rules places (type_of v)) ≡ true
        → takes rules (type_of v) (get_or places 0 0) ≡ true
    takes_first [] some h = absurd (omega (arith, some))
    takes_first (i ∷ is) some h = (takes_next i is (type_of v) h).1.takes

    pub record Next (places : List ℕ) (u : Tree) : Type 0 where
      pub reached_is : reached rules places (type_of v) ≡ reached rules (drop 1 places) (type_of u)
      pub converts : (w : Tree) → ConvertsTo answers (drop 1 places) u w → ConvertsTo answers places v w

    pub next_of : (places : List ℕ) (u : Tree) → 1 ≤ length places → is_some (reached rules places (type_of v)) ≡ true
        → answers (get_or places 0 0) v u
        → IfSome (slice_get rules (get_or places 0 0)) (λ r. type_of u ≡ r.to) → Next places u
    next_of [] u some h answered typed = absurd (omega (arith, some))
    next_of (i ∷ is) u some h answered typed =
        let n = takes_next i is (type_of v) h in
        let t : type_of u ≡ n.0.to = subst (λ o. IfSome o (λ (r : Rule). type_of u ≡ r.to)) n.1.there typed in
        record {
          reached_is = n.1.rest ∙ ap (reached rules is) (sym t);
          converts = λ w c. (u, answered, c);
        }

-- the converter at a place that takes a type
pub record Read {A : Type 0} (f : A → Rule) (xs : List A) (k : Kind) (i : ℕ) (x : A) : Type 0 where
  pub there : slice_get xs i ≡ Some x
  pub rule : slice_get (map f xs) i ≡ Some (f x)
  pub type : (f x).from ≡ k

pub read_at : {A : Type 0} (f : A → Rule) (xs : List A) (k : Kind) (i : ℕ) (x : A) → takes (map f xs) k i ≡ true
    → x ≡ get_or xs i x → Read f xs k i x
read_at f xs k i x h e =
    elim (slice_get xs i) as (λ o. slice_get xs i ≡ o → Read f xs k i x) [
      | None ↦ λ none.
          let gone : slice_get (map f xs) i ≡ None = slice_get-map f xs i ∙ ap (option_map f) none in
          absurd (not_false (sym (ap (λ (o : Option Rule). elim o [ None ↦ false | Some q ↦ same_kind q.from k ]) gone)
          ∙ h))
      | Some y ↦ λ is.
          let there : slice_get xs i ≡ Some x = slice_get_read xs (length xs) i x refl (slice_get_within xs i y is) e in
          let rule : slice_get (map f xs) i ≡ Some (f x) = slice_get-map f xs i ∙ ap (option_map f) there in
          record {
            there = there;
            rule = rule;
            type = kind_is (f x).from k
                (sym (takes_at (map f xs) k i (f x) rule) ∙ h);
          }
    ] refl
