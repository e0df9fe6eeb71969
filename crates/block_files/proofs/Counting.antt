-- What a copy gives by its hash, and the lists of what copies give.
use Rattle.std.proofs.Common.{◌≡◌, ℕ, suc, zero, ◌+◌, ◌<◌, ◌≤◌, List, [], ◌∷◌, ◌++◌, length, get_or, Bool, true, false}
use Rattle.std.proofs.Common.{cond, Option, Some, None, refl, sym, ap, ◌∙◌, arith, ⊎_elim, Vec, Global}
use Rattle.std.specs.Prelude.{slice_index_or, map, filter, IfSome}
use Rattle.std.specs.List.{range_with_len}
use Rattle.std.specs.Option.{option_map}
use Rattle.std.specs.Str.{bytes_eq}
use Rattle.std.proofs.lemmas.List.{map_push, get_or-map, append-nil, length-map}
use Rattle.std.proofs.lemmas.List.FromFn.{map-range_with_len_more, get_or-map-range_with_len, length-map-range_with_len}
use Rattle.std.proofs.lemmas.List.Elements.{filter-append}
use Rattle.std.proofs.lemmas.Bool.{cond-true, cond-false, cases_Bool}
use Rattle.sha2.specs.Sha256.{sha256}
use Rattle.disk_model.specs.Image.{Image}
use Rattle.disk_model.specs.Place.{area}
use Rattle.disk_model.specs.declared.place.Place.{Place}
use Rattle.std.proofs.lemmas.Slice.Eq.{bytes_eq-Decides}
use Rattle.m_of_n.specs.Vote.{holders, voted}
use Rattle.m_of_n.specs.Laws.{holders-cons, voted-held}
use Rattle.block_files.specs.BlockSets.{Ascend}
use Rattle.block_files.specs.Areas.{has_all_bytes, joined}
use Rattle.block_files.specs.Contents.{counting, contents, first_content, lacks, lacking, lacking_in, AreCopies}
use Rattle.block_files.specs.Contents.{HaveSize}

-- ---- one copy

module _ (file blocks : List ℕ) (len : ℕ) (hash bytes : List ℕ) (is : bytes ≡ joined file blocks len) where
  pub counting_none : bytes_eq (sha256 bytes) hash ≡ false → None ≡ counting file blocks len hash
  unfolding counting
  counting_none other =
      let e = ap (λ xs. bytes_eq (sha256 xs) hash) (sym is) ∙ other in
      sym (cond-false (bytes_eq (sha256 (joined file blocks len)) hash) (Some (joined file blocks len)) None e)

  pub counting_some : bytes_eq (sha256 bytes) hash ≡ true → Some bytes ≡ counting file blocks len hash
  unfolding counting
  counting_some same =
      let e = ap (λ xs. bytes_eq (sha256 xs) hash) (sym is) ∙ same in
      ap (λ xs. Some xs) is ∙ sym (cond-true (bytes_eq (sha256 (joined file blocks len)) hash)
      (Some (joined file blocks len)) None e)

-- ---- a list of numbers, one more

pub range_more : (n : ℕ) → range_with_len 0 (n + 1) ≡ range_with_len 0 n ++ n ∷ []
range_more n =
    let same = λ (xs : List ℕ). map_same xs in
    let e : 0 + n ≡ n = omega arith in
    sym (map_same (range_with_len 0 (n + 1))) ∙ map-range_with_len_more (λ (x : ℕ). x) 0 n n e
    ∙ ap (λ xs. xs ++ n ∷ []) (map_same (range_with_len 0 n))
  where
    map_same : (xs : List ℕ) → map (λ (x : ℕ). x) xs ≡ xs
    map_same [] = refl
    map_same (x ∷ xs) = ap (λ rest. x ∷ rest) (map_same xs)

-- ---- what several copies give

-- what each of the first n copies gives
abbrev pub contents_of : Place → (n : ℕ) (blocks : List ℕ) (len : ℕ) (hash : List ℕ) → Image → List (Option (List ℕ))
contents_of place n blocks len hash image = map (λ c. counting (image (area place c)) blocks len hash)
    (range_with_len 0 n)

pub texts_more : (place : Place) (i : ℕ) (blocks : List ℕ) (len : ℕ) (hash : List ℕ) (image : Image)
    (given : List (Option (List ℕ))) (text : Option (List ℕ))
    → given ≡ contents_of place i blocks len hash image
    → text ≡ counting (image (area place i)) blocks len hash
    → given ++ text ∷ [] ≡ contents_of place (i + 1) blocks len hash image
texts_more place i blocks len hash image given text were is =
    let give = λ (c : ℕ). counting (image (area place c)) blocks len hash in
    ap (λ xs. xs ++ text ∷ []) were
    ∙ ap (λ x. contents_of place i blocks len hash image ++ x ∷ []) is
    ∙ sym (map-range_with_len_more give 0 i i (omega arith))

pub inside_more : (place : Place) (i : ℕ) (blocks : List ℕ) (len : ℕ) (image : Image) (inside : List Bool) (here : Bool)
    → inside ≡ map (λ c. has_all_bytes (image (area place c)) blocks len) (range_with_len 0 i)
    → here ≡ has_all_bytes (image (area place i)) blocks len
    → inside ++ here ∷ [] ≡ map (λ c. has_all_bytes (image (area place c)) blocks len) (range_with_len 0 (i + 1))
inside_more place i blocks len image inside here were is =
    let test = λ (c : ℕ). has_all_bytes (image (area place c)) blocks len in
    ap (λ xs. xs ++ here ∷ []) were
    ∙ ap (λ x. map test (range_with_len 0 i) ++ x ∷ []) is
    ∙ sym (map-range_with_len_more test 0 i i (omega arith))

-- ---- the copies that lack a value

-- whether copy c lacks it, by the lists
abbrev pub lacks_at : (value : Option (List ℕ)) (given : List (Option (List ℕ))) (inside : List Bool) → ℕ → Bool
lacks_at value given inside c = lacks value (slice_index_or given c None) (slice_index_or inside c false)

-- those of the first n copies
abbrev pub lacking_to : (value : Option (List ℕ)) (given : List (Option (List ℕ))) (inside : List Bool) → ℕ → List ℕ
lacking_to value given inside n = map suc (filter (lacks_at value given inside) (range_with_len 0 n))

module _ (value : Option (List ℕ)) (given : List (Option (List ℕ))) (inside : List Bool) (i : ℕ) where
  abbrev test : ℕ → Bool
  test = lacks_at value given inside

  one_more : lacking_to value given inside (i + 1) ≡ map suc
      (filter test (range_with_len 0 i) ++ cond (test i) (i ∷ []) [])
  one_more = ap (λ xs. map suc (filter test xs)) (range_more i)
      ∙ ap (map suc) (filter-append test (range_with_len 0 i) (i ∷ []))

  pub lacking_yes : lacks_at value given inside i ≡ true
      → lacking_to value given inside i ++ (i + 1) ∷ [] ≡ lacking_to value given inside (i + 1)
  lacking_yes is =
      let e : i + 1 ≡ suc i = omega arith in
      let f = cond-true (test i) (i ∷ []) [] is in
      ap (λ n. lacking_to value given inside i ++ n ∷ []) e
      ∙ sym (map_push suc (filter test (range_with_len 0 i)) i)
      ∙ ap (λ xs. map suc (filter test (range_with_len 0 i) ++ xs)) (sym f)
      ∙ sym one_more

  pub lacking_no : lacks_at value given inside i ≡ false
      → lacking_to value given inside i ≡ lacking_to value given inside (i + 1)
  lacking_no is =
      let f = cond-false (test i) (i ∷ []) [] is in
      ap (map suc) (sym (append-nil (filter test (range_with_len 0 i))))
      ∙ ap (λ xs. map suc (filter test (range_with_len 0 i) ++ xs)) (sym f)
      ∙ sym one_more

-- by the copies in place of the lists
filter_same : (p q : ℕ → Bool) (a n : ℕ) → ((c : ℕ) → a ≤ c → c < a + n → p c ≡ q c)
    → filter p (range_with_len a n) ≡ filter q (range_with_len a n)
filter_same p q a zero same = refl
filter_same p q a (suc n) same =
    ap (λ b. cond b (a ∷ filter p (range_with_len (a + 1) n)) (filter p (range_with_len (a + 1) n)))
    (same a (omega arith) (omega arith))
    ∙ ap (λ xs. cond (q a) (a ∷ xs) xs) (filter_same p q (a + 1) n (λ c le lt. same c (omega arith) (omega arith)))

pub lacking_is : (value : Option (List ℕ)) (place : Place) (blocks : List ℕ) (len : ℕ) (hash : List ℕ)
    (image : Image) (given : List (Option (List ℕ))) (inside : List Bool)
    → given ≡ contents place blocks len hash image
    → inside ≡ map (λ c. has_all_bytes (image (area place c)) blocks len) (range_with_len 0 place.copies)
    → lacking_in value given inside ≡ lacking value place blocks len hash image
lacking_is value place blocks len hash image given inside given_is inside_is =
    let give = λ (c : ℕ). counting (image (area place c)) blocks len hash in
    let full = λ (c : ℕ). has_all_bytes (image (area place c)) blocks len in
    let long : length given ≡ place.copies = ap length given_is ∙ length-map-range_with_len give 0 place.copies in
    ap (λ n. lacking_to value given inside n) long
    ∙ ap (map suc) (filter_same (lacks_at value given inside) (λ c. lacks value (give c) (full c)) 0 place.copies
    (λ c le lt.
    let a = ap (λ xs. get_or xs c None) given_is ∙ get_or-map-range_with_len give 0 place.copies c c None (omega arith)
    (omega arith) in
    let b = ap (λ xs. get_or xs c false) inside_is ∙ get_or-map-range_with_len full 0 place.copies c c false
    (omega arith)
    (omega arith) in
    ap (λ x. lacks value x (get_or inside c false)) a ∙ ap (lacks value (give c)) b))

-- ---- the numbers ascend, and name copies

-- a filter of numbers from a on keeps them in their range and in order
record IsKept (a n : ℕ) (kept : List ℕ) : Type 0 where
  low : (i : ℕ) → i < length kept → a ≤ get_or kept i 0
  high : (i : ℕ) → i < length kept → get_or kept i 0 < a + n
  ascend : Ascend kept

kept_more : (a n : ℕ) (kept : List ℕ) (keeps : Bool) → IsKept (a + 1) n kept
    → IsKept a (suc n) (cond keeps (a ∷ kept) kept)
kept_more a n kept true is = record {
  low = low;
  high = high;
  ascend = ascend;
}
  where
    low : (i : ℕ) → i < length (a ∷ kept) → a ≤ get_or (a ∷ kept) i 0
    low zero lt = omega arith
    low (suc i) lt = omega (arith, is.low i (omega arith))

    high : (i : ℕ) → i < length (a ∷ kept) → get_or (a ∷ kept) i 0 < a + suc n
    high zero lt = omega arith
    high (suc i) lt = omega (arith, is.high i (omega arith))

    ascend : Ascend (a ∷ kept)
    ascend i zero less lt = absurd (omega arith)
    ascend zero (suc j) less lt = omega (arith, is.low j (omega arith))
    ascend (suc i) (suc j) less lt = is.ascend i j (omega arith) (omega arith)
kept_more a n kept false is = record {
  low = λ i lt. omega (arith, is.low i lt);
  high = λ i lt. omega (arith, is.high i lt);
  ascend = is.ascend;
}

filter_kept : (p : ℕ → Bool) (a n : ℕ) → IsKept a n (filter p (range_with_len a n))
filter_kept p a zero = record {
  low = λ i lt. absurd (omega arith);
  high = λ i lt. absurd (omega arith);
  ascend =
      λ i j less lt. absurd (omega arith);
}
filter_kept p a (suc n) = kept_more a n (filter p (range_with_len (a + 1) n)) (p a) (filter_kept p (a + 1) n)

module _ (value : Option (List ℕ)) (given : List (Option (List ℕ))) (inside : List Bool) (copies : ℕ)
    (long : length given ≡ copies) where
  abbrev kept : List ℕ
  kept = filter (lacks_at value given inside) (range_with_len 0 (length given))

  number_at : (i : ℕ) → i < length (map suc kept) → (i < length kept)
      × (get_or (map suc kept) i 0 ≡ suc (get_or kept i 0))
  number_at i lt = let inner : i < length kept = omega (arith, length-map kept suc) in
      (inner, get_or-map suc kept i 0 0 inner)

  pub lacking_copies : AreCopies copies (lacking_in value given inside)
  lacking_copies i lt =
      let at = number_at i lt in
      let high = (filter_kept (lacks_at value given inside) 0 (length given)).high i at.0 in
      (omega (arith, at.1), omega (arith, at.1, high))

  pub lacking_ascend : Ascend (lacking_in value given inside)
  lacking_ascend i j less lt =
      let at = number_at i (omega arith) in
      let then = number_at j lt in
      omega (arith, at.1, then.1, (filter_kept (lacks_at value given inside) 0 (length given)).ascend i j less then.0)

-- ---- sizes

pub sizes_none : (size : ℕ) → HaveSize size []
sizes_none size i text is = cc

-- what holds of the bytes that a copy gives
pub some_items : (text : Option (Vec ℕ Global)) (P : List ℕ → Type 0) → IfSome text (λ t. P t.items)
    → IfSome (option_map (λ t. t.items) text) P
some_items None P is = tt
some_items (Some t) P is = is

pub sizes_more : (size : ℕ) (given : List (Option (List ℕ))) (text : Option (List ℕ))
    → HaveSize size given → IfSome text (λ t. length t ≡ size) → HaveSize size (given ++ text ∷ [])
sizes_more size [] text were is zero other same = one text is same
  where
    one : (t : Option (List ℕ)) → IfSome t (λ x. length x ≡ size) → t ≡ Some other → length other ≡ size
    one None is same = cc
    one (Some x) is same = let e : x ≡ other = cc in sym (ap length e) ∙ is
sizes_more size [] text were is (suc i) other same = cc
sizes_more size (first ∷ given) text were is zero other same = were 0 other same
sizes_more size (first ∷ given) text were is (suc i) other same =
    sizes_more size given text (λ k. were (suc k)) is i other same

held_size : (size : ℕ) (given : List (Option (List ℕ))) (text : List ℕ) → HaveSize size given → 1 ≤ holders given text
    → length text ≡ size
held_size size [] text sizes held = absurd (omega arith)
held_size size (None ∷ given) text sizes held =
    held_size size given text (λ i. sizes (suc i)) (omega (arith, holders-cons None given text))
held_size size (Some other ∷ given) text sizes held = ⊎_elim
    (λ same. sym (ap length ((bytes_eq-Decides other text).0 same)) ∙ sizes 0 other refl)
    (λ differ. held_size size given text (λ i. sizes (suc i))
    (let e = ap (λ b. cond {A = ℕ} b 1 0) differ in omega (arith, holders-cons (Some other) given text, e)))
    (cases_Bool (bytes_eq other text))

pub voted_size : (size m : ℕ) (given : List (Option (List ℕ))) (value : Option (List ℕ)) → 1 ≤ m → value ≡ voted m given
    → HaveSize size given → IfSome value (λ text. length text ≡ size)
voted_size size m given None positive is sizes = tt
voted_size size m given (Some text) positive is sizes =
    held_size size given text sizes (omega (arith, voted-held m given text (sym is)))

pub first_size : (size : ℕ) (given : List (Option (List ℕ))) (salvage : Option (List ℕ)) → salvage ≡ first_content given
    → HaveSize size given → IfSome salvage (λ text. length text ≡ size)
first_size size given None is sizes = tt
first_size size [] (Some text) is sizes = cc
first_size size (None ∷ given) (Some text) is sizes = first_size size given (Some text) is (λ i. sizes (suc i))
first_size size (Some other ∷ given) (Some text) is sizes = sizes 0 text (sym is)
