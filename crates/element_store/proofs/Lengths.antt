-- How long the text of an index is whose contents were just written.
use Rattle.std.proofs.Common.{◌≡◌, ℕ, ◌+◌, List, [], ◌∷◌, length, refl, sym, ap, ◌∙◌, arith}
use Rattle.std.specs.Prelude.{sum_by}
use Rattle.std.specs.List.{AllZip}
use Rattle.std.proofs.lemmas.List.Sums.{sum_by-cons}
use Rattle.per_base.specs.declared.elements.StoreKind.{StoreKind}
use Rattle.per_base.specs.declared.elements.Fresh.{Fresh}
use Rattle.index_text.specs.declared.entries.Index.{Index}
use Rattle.index_text.specs.declared.entries.IndexEntry.{IndexEntry}
use Rattle.index_text.specs.Sizes.{entry_length}
use Rattle.index_text.specs.Spelling.{index_text}
use Rattle.index_text.specs.lemmas.Lengths.{length-index_text}
use Rattle.element_state.specs.declared.shapes.Shape.{Shape}
use Rattle.element_store.specs.Committing.{listed_length}
use Rattle.element_store.specs.Creates.{fresh_length}
use Rattle.element_store.specs.Plans.{IsWrittenEntry}
use Rattle.element_store.specs.Spelled.{IsTextOf}
use Rattle.element_store.proofs.Standing.{kind_is}

written_length : (kind : StoreKind) (generation : ℕ) (f : Fresh) (e : IndexEntry) → IsWrittenEntry generation f e
    → entry_length 2 kind e ≡ listed_length kind f.name (length f.bytes)
written_length kind generation f e written =
    let name = ap (λ (bytes : List ℕ). length bytes) written.name in
    let blocks = written.count in
    omega (arith, name, blocks)

all_written : (kind : StoreKind) (generation : ℕ) (fs : List Fresh) (es : List IndexEntry)
    → AllZip (IsWrittenEntry generation) fs es
    → sum_by (entry_length 2 kind) es ≡ sum_by (λ (f : Fresh). listed_length kind f.name (length f.bytes)) fs
all_written kind generation [] [] pairs = refl
all_written kind generation [] (e ∷ es) pairs = absurd pairs
all_written kind generation (f ∷ fs) [] pairs = absurd pairs
all_written kind generation (f ∷ fs) (e ∷ es) pairs =
    sum_by-cons (entry_length 2 kind) e es
    ∙ ap (λ (n : ℕ). n + sum_by (entry_length 2 kind) es) (written_length kind generation f e pairs.0)
    ∙ ap (λ (n : ℕ). listed_length kind f.name (length f.bytes) + n) (all_written kind generation fs es pairs.1)
    ∙ sym (sum_by-cons (λ (x : Fresh). listed_length kind x.name (length x.bytes)) f fs)

-- the contents, as they were written, and the text
pub made_length : (shape : Shape) (generation : ℕ) (contents written : List Fresh) (text : List ℕ) (index : Index)
    → written ≡ contents → IsTextOf shape text index → index.format ≡ 2
    → AllZip (IsWrittenEntry generation) written index.entries
    → length (index_text index) ≡ fresh_length shape.kind contents
made_length shape generation contents written text index are fit two made =
    length-index_text index fit.rules
    ∙ ap (λ (n : ℕ). 4 + sum_by (entry_length n index.kind) index.entries) two
    ∙ ap (λ (k : StoreKind). 4 + sum_by (entry_length 2 k) index.entries)
    (kind_is shape.kind shape.allowed index fit.fits)
    ∙ ap (λ (n : ℕ). 4 + n) (all_written shape.kind generation written index.entries made)
    ∙ ap (λ (fs : List Fresh). fresh_length shape.kind fs) are
