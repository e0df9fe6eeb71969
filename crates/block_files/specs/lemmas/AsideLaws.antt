-- Contents in blocks that writes leave alone stand as they were.
use Rattle.std.proofs.Common.{◌≡◌, ℕ, suc, ◌+◌, ◌*◌, ◌/◌, ◌%◌, ◌<◌, ◌≤◌, List, [], ◌∷◌, ◌++◌, length, get_or, take}
use Rattle.std.proofs.Common.{true, Some, None, cond, refl, sym, ap, ◌∙◌, subst, arith, ⊎_elim}
use Rattle.std.specs.Prelude.{flat_map}
use Rattle.std.specs.Str.{bytes_eq}
use Rattle.std.proofs.lemmas.List.{ext_get_or, length-take-le}
use Rattle.sha2.specs.Sha256.{sha256}
use Rattle.block_files.specs.Areas.{block, has_all_bytes, joined}
use Rattle.block_files.specs.Contents.{counting}
use Rattle.block_files.specs.Aside.{AsideLaw}
use Rattle.block_files.specs.lemmas.Joined.{length-block, read_block, length-blocks, read_joined, within_from}
use Rattle.block_files.specs.lemmas.Joined.{reaches_from}

-- areas that give the same bytes count alike
pub counting_same : (old new blocks : List ℕ) (len : ℕ) (hash : List ℕ) → joined new blocks len ≡ joined old blocks len
    → counting new blocks len hash ≡ counting old blocks len hash
unfolding counting
counting_same old new blocks len hash same = ap (λ xs. cond (bytes_eq (sha256 xs) hash) (Some xs) None) same

-- an area that got longer has what it had
pub within_grown : (old new blocks : List ℕ) (len : ℕ) → length old ≤ length new → has_all_bytes old blocks len ≡ true
    → has_all_bytes new blocks len ≡ true
within_grown old new blocks len longer is =
    within_from (length new) blocks len (λ m j lt small inside. let below =
    reaches_from (length old) blocks len is m j lt small inside in omega arith)

-- after whole writes elsewhere
pub joined_kept : (old new blocks : List ℕ) (len : ℕ) → ((m j : ℕ) → m < length blocks → j < 256
    → get_or new (256 * get_or blocks m 0 + j) 0 ≡ get_or old (256 * get_or blocks m 0 + j) 0)
    → joined new blocks len ≡ joined old blocks len
joined_kept old new blocks len same = ap (take len) (go blocks same)
  where
    go : (ks : List ℕ) → ((m j : ℕ) → m < length ks → j < 256
        → get_or new (256 * get_or ks m 0 + j) 0 ≡ get_or old (256 * get_or ks m 0 + j) 0)
        → flat_map (block new) ks ≡ flat_map (block old) ks
    go [] same = refl
    go (k ∷ ks) same =
        let here : block new k ≡ block old k = ext_get_or 0 (block new k) (block old k)
        (length-block new k ∙ sym (length-block old k))
        (λ j lt. let small : j < 256 = omega (arith, length-block new k) in
        read_block new k j small ∙ same 0 j (omega arith) small ∙ sym (read_block old k j small)) in
        ap (λ xs. xs ++ flat_map (block new) ks) here
        ∙ ap (λ xs. block old k ++ xs) (go ks (λ m j lt small. same (suc m) j (omega arith) small))

-- after writes elsewhere that a crash cut short, where the area had all of the bytes
pub joined_torn : (old new blocks : List ℕ) (len : ℕ) → len ≤ 256 * length blocks → has_all_bytes old blocks len ≡ true
    → ((m j : ℕ) → m < length blocks → j < 256 → 256 * get_or blocks m 0 + j < length old
    → get_or new (256 * get_or blocks m 0 + j) 0 ≡ get_or old (256 * get_or blocks m 0 + j) 0)
    → joined new blocks len ≡ joined old blocks len
joined_torn old new blocks len room is same =
    let long = λ (file : List ℕ). length-take-le len (flat_map (block file) blocks)
    (omega (arith, length-blocks file blocks)) in
    ext_get_or 0 (joined new blocks len) (joined old blocks len) (long new ∙ sym (long old))
    (λ i lt. at i (omega (arith, long new)))
  where
    at : (i : ℕ) → i < len → get_or (joined new blocks len) i 0 ≡ get_or (joined old blocks len) i 0
    at i lt =
        let split : 256 * (i / 256) + i % 256 ≡ i = omega arith in
        let q : i / 256 < length blocks = omega arith in
        let r : i % 256 < 256 = omega arith in
        let inside : 256 * (i / 256) + i % 256 < len = omega arith in
        let P : ℕ → Type 0 = λ n. get_or (joined new blocks len) n 0 ≡ get_or (joined old blocks len) n 0 in
        subst P split (
        read_joined new blocks len (i / 256) (i % 256) q r inside
        ∙ same (i / 256) (i % 256) q r (reaches_from (length old) blocks len is (i / 256) (i % 256) q r inside)
        ∙ sym (read_joined old blocks len (i / 256) (i % 256) q r inside))

pub aside : AsideLaw
aside place taken start old new settled keeps at apart room f = record {
  whole = λ is. (
      let left = λ (m j : ℕ) (lt : m < length at.blocks) (small : j < 256).
      keeps.left.bytes f (get_or at.blocks m 0) j small (apart m lt) in
      let was : old.left f ≡ start f = ap (λ im. im f) settled.left in
      let P : List ℕ → Type 0 = λ xs. (counting (new.left f) at.blocks at.len at.hash
      ≡ counting xs at.blocks at.len at.hash) × (has_all_bytes (new.left f) at.blocks at.len ≡ true) in
      let Q : List ℕ → Type 0 = λ xs. has_all_bytes xs at.blocks at.len ≡ true in
      let is_old : has_all_bytes (old.left f) at.blocks at.len ≡ true = subst Q (sym was) is in
      subst P was (
        counting_same (old.left f) (new.left f) at.blocks at.len at.hash
            (joined_torn (old.left f) (new.left f) at.blocks at.len room is_old left),
        within_grown (old.left f) (new.left f) at.blocks at.len (keeps.left.no_shorter f) is_old,
      ));
  piece = λ bytes from. ⊎_elim
      (λ based. (
      let same : new.base f ≡ start f = ap (λ im. im f) (keeps.base ∙ settled.base) in
      ap (λ xs. counting xs at.blocks at.len at.hash) (sym same) ∙ based))
      (λ full. (
      let was : old.full f ≡ start f = ap (λ im. im f) settled.full in
      let same = joined_kept (old.full f) (new.full f) at.blocks at.len
      (λ m j lt small. keeps.full.bytes f (get_or at.blocks m 0) j small (apart m lt)) in
      ap (λ xs. counting xs at.blocks at.len at.hash) (sym was)
      ∙ sym (counting_same (old.full f) (new.full f) at.blocks at.len at.hash same)
      ∙ full))
      from;
}
