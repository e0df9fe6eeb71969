-- A place on which one index stands alone, and every copy has all of its contents, is clean.
use Rattle.std.proofs.Common.{◌≡◌, ℕ, zero, suc, ◌<◌, List, [], ◌∷◌, length, get_or, Some, None, sym, ap, ◌∙◌, subst}
use Rattle.std.proofs.Common.{arith, ⊎_elim}
use Rattle.std.specs.Prelude.{map}
use Rattle.std.specs.List.{Contains}
use Rattle.std.proofs.lemmas.Bool.{cases_Bool, cond-true, cond-false}
use Rattle.per_base.specs.declared.elements.Entry.{Entry}
use Rattle.per_base.specs.declared.elements.Fresh.{Fresh}
use Rattle.disk_model.specs.declared.place.Place.{Place}
use Rattle.disk_model.specs.Image.{Image}
use Rattle.guarded_cell.specs.Register.{IsAlone}
use Rattle.guarded_cell.specs.lemmas.StopLaws.{alone_only}
use Rattle.block_files.specs.Aside.{Where}
use Rattle.index_text.specs.declared.entries.Index.{Index}
use Rattle.index_text.specs.declared.entries.IndexEntry.{IndexEntry}
use Rattle.index_text.specs.Reading.{index_of}
use Rattle.index_text.specs.Sizes.{fits}
use Rattle.index_text.specs.Spelling.{index_text}
use Rattle.element_state.specs.declared.shapes.Shape.{Shape}
use Rattle.element_state.specs.Fit.{fit_index, if_fits}
use Rattle.element_state.specs.Clean.{where_of, counting_at, IsClean}
use Rattle.element_store.specs.Spelled.{ShowsFresh}
use Rattle.element_store.proofs.Shown.{view_gives}

some_same : {X : Type 0} (a b : X) → Some a ≡ Some b → a ≡ b
some_same a b e = cc

-- the text spells no other index
only_index : (shape : Shape) (text : List ℕ) (index other : Index) → fit_index shape text ≡ Some index
    → index_of text ≡ Some other → other ≡ index
unfolding fit_index
only_index shape text index other fit is =
    let e : if_fits shape (Some other) ≡ Some index = sym (ap (if_fits shape) is) ∙ fit in
    ⊎_elim
    (λ fine. some_same other index (sym (cond-true (fits shape.kind shape.allowed other) (Some other) None fine) ∙ e))
    (λ none. absurd (never (sym (cond-false (fits shape.kind shape.allowed other) (Some other) None none) ∙ e)))
    (cases_Bool (fits shape.kind shape.allowed other))
  where
    never : None ≡ Some index → ⊥
    never e = cc

-- a content that an entry names is the same in each copy
alike_in : (image : Image) (place : Place) (m generation : ℕ) (contents : List Fresh) (entries : List IndexEntry)
    → ShowsFresh image place m generation contents entries
    → (at : Where) → (k : ℕ) → k < length (map where_of entries) → get_or (map where_of entries) k at ≡ at
    → (a b : ℕ) (s t : List ℕ) → a < place.copies → b < place.copies
    → counting_at image place a at ≡ Some s → counting_at image place b at ≡ Some t → s ≡ t
alike_in image place m g [] [] zip at k lt is a b s t a_in b_in one two = absurd (omega (arith, lt))
alike_in image place m g [] (e ∷ es) zip at k lt is a b s t a_in b_in one two = absurd zip
alike_in image place m g (f ∷ fs) [] zip at k lt is a b s t a_in b_in one two = absurd zip
alike_in image place m g (f ∷ fs) (e ∷ es) zip at zero lt is a b s t a_in b_in one two =
    let give = λ (c : ℕ) (less : c < place.copies). (view_gives image place m e f.bytes
    (ap (λ (x : Entry). x.content) zip.0) (ap (λ (x : Entry). x.lacking) zip.0) c less).0 in
    let s_is : Some f.bytes ≡ Some s = sym (give a a_in) ∙ ap (counting_at image place a) is ∙ one in
    let t_is : Some f.bytes ≡ Some t = sym (give b b_in) ∙ ap (counting_at image place b) is ∙ two in
    some_same s t (sym s_is ∙ t_is)
alike_in image place m g (f ∷ fs) (e ∷ es) zip at (suc k) lt is a b s t a_in b_in one two =
    alike_in image place m g fs es zip.1 at k (omega (arith, lt)) is a b s t a_in b_in one two

pub made_clean : (shape : Shape) (image : Image) (generation : ℕ) (contents : List Fresh) (index : Index)
    → IsAlone image shape.place generation (index_text index)
    → fit_index shape (index_text index) ≡ Some index
    → ShowsFresh image shape.place shape.m generation contents index.entries → IsClean shape image
made_clean shape image g contents index alone fit shown = record {
  one_each = λ a b h s t lt less here there.
      (alone_only image shape.place g (index_text index) alone a lt h s here).1
      ∙ sym (alone_only image shape.place g (index_text index) alone b less h t there).1;
  fit = λ copy h t lt here.
      let e = (alone_only image shape.place g (index_text index) alone copy lt h t here).1 in
      (index, ap (fit_index shape) e ∙ fit);
  alike = λ at a b s t named lt less one two.
      let e : named.text ≡ index_text index = (alone_only image shape.place g
      (index_text index) alone named.copy named.inside named.generation named.text named.held).1 in
      let same : named.index ≡ index = only_index shape (index_text index) index named.index fit
      (sym (ap index_of e) ∙ named.spelled) in
      let (k, lt_k, is) = subst (λ (i : Index). Contains (map where_of i.entries) at) same named.named in
      alike_in image shape.place shape.m g contents index.entries shown at k lt_k is a b s t lt less one two;
}
