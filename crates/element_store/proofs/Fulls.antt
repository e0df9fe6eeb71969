-- Elements whose content every copy has, and elements whose areas read alike.
use Rattle.std.proofs.Common.{◌≡◌, ℕ, zero, suc, ◌+◌, ◌<◌, ◌≤◌, List, [], ◌∷◌, length, Bool, true, false, cond, Option}
use Rattle.std.proofs.Common.{Some, None, refl, sym, ap, ◌∙◌, arith}
use Rattle.std.specs.Prelude.{map, filter, not, ◌&&◌, nat_le}
use Rattle.std.specs.List.{range_with_len, filter_map, find}
use Rattle.std.specs.Str.{bytes_eq}
use Rattle.std.proofs.lemmas.Bool.{cond-true, le-leb}
use Rattle.std.proofs.lemmas.Slice.Eq.{bytes_eq-Decides}
use Rattle.sha2.specs.Sha256.{sha256}
use Rattle.per_base.specs.declared.elements.Content.TheVariants.{Good}
use Rattle.disk_model.specs.declared.place.Place.{Place}
use Rattle.disk_model.specs.Image.{Image}
use Rattle.disk_model.specs.Place.{area}
use Rattle.m_of_n.specs.Vote.{voted, holders, is_text}
use Rattle.m_of_n.specs.Laws.{holders-cons}
use Rattle.block_files.specs.Areas.{joined, has_all_bytes, IsFull, AllFull}
use Rattle.block_files.specs.Contents.{counting, first_content, lacks, lacking}
use Rattle.index_text.specs.declared.entries.IndexEntry.{IndexEntry}
use Rattle.element_state.specs.Views.{entry_view, given, content_of}

-- ---- lists over the copies

map_range : {X : Type 0} (f g : ℕ → X) (a n : ℕ) → ((c : ℕ) → a ≤ c → c < a + n → f c ≡ g c)
    → map f (range_with_len a n) ≡ map g (range_with_len a n)
map_range f g a zero same = refl
map_range f g a (suc n) same =
    ap (λ x. x ∷ map f (range_with_len (a + 1) n)) (same a (omega arith) (omega arith))
    ∙ ap (λ xs. g a ∷ xs) (map_range f g (a + 1) n (λ c le lt. same c (omega arith) (omega arith)))

filter_range : (p q : ℕ → Bool) (a n : ℕ) → ((c : ℕ) → a ≤ c → c < a + n → p c ≡ q c)
    → filter p (range_with_len a n) ≡ filter q (range_with_len a n)
filter_range p q a zero same = refl
filter_range p q a (suc n) same =
    ap (λ b. cond b (a ∷ filter p (range_with_len (a + 1) n)) (filter p (range_with_len (a + 1) n)))
    (same a (omega arith) (omega arith))
    ∙ ap (λ xs. cond (q a) (a ∷ xs) xs) (filter_range p q (a + 1) n (λ c le lt. same c (omega arith) (omega arith)))

filter_none : (a n : ℕ) → filter (λ c. false) (range_with_len a n) ≡ []
filter_none a zero = refl
filter_none a (suc n) = filter_none (a + 1) n

-- ---- areas that read alike

module _ (old new : Image) (place : Place) (m : ℕ) (e : IndexEntry)
    (counts : (c : ℕ) → c < place.copies → counting (new (area place c)) e.blocks e.len e.hash
    ≡ counting (old (area place c)) e.blocks e.len e.hash) where
  pub given_same : given new place e ≡ given old place e
  given_same = map_range (λ c. counting (new (area place c)) e.blocks e.len e.hash)
      (λ c. counting (old (area place c)) e.blocks e.len e.hash) 0 place.copies
      (λ c le lt. counts c (omega (arith, lt)))

  pub view_same : ((v : Option (List ℕ)) (c : ℕ) → c < place.copies → v ≡ voted m (given old place e)
      → lacks v (counting (old (area place c)) e.blocks e.len e.hash)
      (has_all_bytes (new (area place c)) e.blocks e.len)
      ≡ lacks v (counting (old (area place c)) e.blocks e.len e.hash)
      (has_all_bytes (old (area place c)) e.blocks e.len))
      → entry_view new place m e ≡ entry_view old place m e
  unfolding entry_view
  view_same alike =
      let v = voted m (given old place e) in
      let lists : lacking v place e.blocks e.len e.hash new
      ≡ lacking v place e.blocks e.len e.hash old =
      ap (map suc) (filter_range
      (λ c. lacks v (counting (new (area place c)) e.blocks e.len e.hash)
      (has_all_bytes (new (area place c)) e.blocks e.len))
      (λ c. lacks v (counting (old (area place c)) e.blocks e.len e.hash)
      (has_all_bytes (old (area place c)) e.blocks e.len)) 0 place.copies
      (λ c le lt.
      let here : c < place.copies = omega (arith, lt) in
      ap (λ t. lacks v t (has_all_bytes (new (area place c)) e.blocks e.len)) (counts c here) ∙ alike v c here refl)) in
      ap (λ (gs : List (Option (List ℕ))). record {
        name = e.name;
        info = e.info;
        changed = e.changed;
        len = e.len;
        content = content_of (voted m gs) (first_content gs);
        lacking = lacking (voted m gs) place e.blocks e.len e.hash new;
      }) given_same
      ∙ ap (λ (ls : List ℕ). record {
        name = e.name;
        info = e.info;
        changed = e.changed;
        len = e.len;
        content =
            content_of (voted m (given old place e)) (first_content (given old place e));
        lacking = ls;
      }) lists

-- the same areas
pub view_areas : (old new : Image) (place : Place) (m : ℕ) (e : IndexEntry)
    → ((c : ℕ) → c < place.copies → new (area place c) ≡ old (area place c))
    → entry_view new place m e ≡ entry_view old place m e
view_areas old new place m e same = view_same old new place m e
    (λ c lt. ap (λ f. counting f e.blocks e.len e.hash) (same c lt))
    (λ v c lt is. ap (λ f. lacks v (counting (old (area place c)) e.blocks e.len e.hash)
    (has_all_bytes f e.blocks e.len)) (same c lt))

-- ---- every copy has the content

pub counting_full : (file blocks bytes hash : List ℕ) (len : ℕ) → IsFull file blocks bytes → hash ≡ sha256 bytes
    → len ≡ length bytes → counting file blocks len hash ≡ Some bytes
unfolding counting
counting_full file blocks bytes hash len full is long =
    let j : joined file blocks len ≡ bytes = ap (joined file blocks) long ∙ full.bytes_are in
    let same : bytes_eq (sha256 (joined file blocks len)) hash ≡ true =
    (bytes_eq-Decides (sha256 (joined file blocks len)) hash).1 (ap sha256 j ∙ sym is) in
    cond-true (bytes_eq (sha256 (joined file blocks len)) hash) (Some (joined file blocks len)) None same
    ∙ ap (λ (b : List ℕ). Some b) j

-- that many copies of one text
holders_all : (bytes : List ℕ) (a n : ℕ) → holders (map (λ c. Some bytes) (range_with_len a n)) bytes ≡ n
holders_all bytes a zero = refl
holders_all bytes a (suc n) =
    let same : bytes_eq bytes bytes ≡ true = (bytes_eq-Decides bytes bytes).1 refl in
    let one : cond {A = ℕ} (is_text bytes (Some bytes)) 1 0 ≡ 1 = cond-true (bytes_eq bytes bytes) 1 0 same in
    let counted = holders-cons (Some bytes) (map (λ c. Some bytes) (range_with_len (a + 1) n)) bytes in
    let rest = holders_all bytes (a + 1) n in
    omega (arith, counted, one, rest)

voted_all : (m n : ℕ) (bytes : List ℕ) → 1 ≤ m → m ≤ n
    → voted m (map (λ c. Some bytes) (range_with_len 0 n)) ≡ Some bytes
unfolding voted
voted_all m zero bytes some enough = absurd (omega (arith, some, enough))
voted_all m (suc n) bytes some enough =
    let all = holders_all bytes 0 (suc n) in
    let passes : nat_le m (holders (map (λ c. Some bytes) (range_with_len 0 (suc n))) bytes) ≡ true =
    le-leb m (holders (map (λ c. Some bytes) (range_with_len 0 (suc n))) bytes) (omega (arith, all, enough)) in
    cond-true (nat_le m (holders (map (λ c. Some bytes) (range_with_len 0 (suc n))) bytes)) (Some bytes)
    (find (λ text. nat_le m (holders (map (λ c. Some bytes) (range_with_len 0 (suc n))) text))
    (filter_map (λ copy. copy) (map (λ c. Some bytes) (range_with_len 1 n)))) passes

pub view_full : (image : Image) (place : Place) (m : ℕ) (e : IndexEntry) (bytes : List ℕ) → 1 ≤ m → m ≤ place.copies
    → AllFull place e.blocks bytes image → e.hash ≡ sha256 bytes → e.len ≡ length bytes
    → entry_view image place m e ≡ record {
      name = e.name;
      info = e.info;
      changed = e.changed;
      len = e.len;
      content =
          Good bytes;
      lacking = [];
    }
unfolding entry_view
view_full image place m e bytes some enough full hash long =
    let give = λ (c : ℕ). counting (image (area place c)) e.blocks e.len e.hash in
    let each : (c : ℕ) → c < place.copies → give c ≡ Some bytes =
    λ c lt. counting_full (image (area place c)) e.blocks bytes e.hash e.len (full c lt) hash long in
    let givens : given image place e ≡ map (λ c. Some bytes) (range_with_len 0 place.copies) =
    map_range give (λ c. Some bytes) 0 place.copies (λ c le lt. each c (omega (arith, lt))) in
    let v : voted m (given image place e) ≡ Some bytes =
    ap (voted m) givens ∙ voted_all m place.copies bytes some enough in
    let inside : (c : ℕ) → c < place.copies → has_all_bytes (image (area place c)) e.blocks e.len ≡ true =
    λ c lt. ap (has_all_bytes (image (area place c)) e.blocks) long ∙ (full c lt).inside in
    let same : bytes_eq bytes bytes ≡ true = (bytes_eq-Decides bytes bytes).1 refl in
    let none : lacking (Some bytes) place e.blocks e.len e.hash image ≡ [] =
    ap (map suc) (filter_range (λ c. lacks (Some bytes) (give c) (has_all_bytes (image (area place c)) e.blocks e.len))
    (λ c. false) 0 place.copies
    (λ c le lt.
    let here : c < place.copies = omega (arith, lt) in
    ap (λ t. lacks (Some bytes) t (has_all_bytes (image (area place c)) e.blocks e.len)) (each c here)
    ∙ ap (λ b. not (b && bytes_eq bytes bytes)) (inside c here) ∙ ap (λ b. not (true && b)) same)
    ∙ filter_none 0 place.copies) in
    ap (λ (o : Option (List ℕ)). record {
      name = e.name;
      info = e.info;
      changed = e.changed;
      len = e.len;
      content =
          content_of o (first_content (given image place e));
      lacking =
          lacking o place e.blocks e.len e.hash image;
    }) v
    ∙ ap (λ (ls : List ℕ). record {
      name = e.name;
      info = e.info;
      changed = e.changed;
      len = e.len;
      content =
          Good bytes;
      lacking = ls;
    }) none
