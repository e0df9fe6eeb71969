-- Reading one level deeper.
use Rattle.std.proofs.Common.{◌≡◌, ℕ, zero, suc, ◌-◌, List, None, refl, arith}
use Rattle.value_text.specs.Parsing.{kind_here, kind_at, tree_here, tree_at}

pub kind_at-none : (depth : ℕ) (bytes : List ℕ) → depth ≡ 0 → kind_at depth bytes ≡ None
unfolding kind_at
kind_at-none zero bytes e = refl
kind_at-none (suc depth) bytes e = absurd (omega arith)

pub kind_at-more : (depth : ℕ) (bytes : List ℕ) → (depth ≡ 0 → ⊥)
    → kind_at depth bytes ≡ kind_here (kind_at (depth - 1)) bytes
unfolding kind_at
kind_at-more zero bytes e = absurd (e refl)
kind_at-more (suc depth) bytes e = let k : suc depth - 1 ≡ depth = omega arith in rw k refl

pub tree_at-none : (depth : ℕ) (bytes : List ℕ) → depth ≡ 0 → tree_at depth bytes ≡ None
unfolding tree_at
tree_at-none zero bytes e = refl
tree_at-none (suc depth) bytes e = absurd (omega arith)

pub tree_at-more : (depth : ℕ) (bytes : List ℕ) → (depth ≡ 0 → ⊥)
    → tree_at depth bytes ≡ tree_here (depth - 1) (tree_at (depth - 1)) bytes
unfolding tree_at
tree_at-more zero bytes e = absurd (e refl)
tree_at-more (suc depth) bytes e = let k : suc depth - 1 ≡ depth = omega arith in rw k refl
