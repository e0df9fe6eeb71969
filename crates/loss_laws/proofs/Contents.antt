-- An element that was whole, where the areas of one copy were lost.
use Rattle.std.proofs.Common.{◌≡◌, ◌≢◌, ℕ, ◌+◌, ◌<◌, ◌≤◌, List, [], Bool, true, false, not, Option, Some}
use Rattle.std.proofs.Common.{None, sym, ap, ◌∙◌, subst, ⊎_elim, arith}
use Rattle.std.proofs.lemmas.Bool.{cases_eq}
use Rattle.std.proofs.lemmas.Slice.Eq.{bytes_eq-Decides}
use Rattle.std.specs.List.{Contains}
use Rattle.per_base.specs.declared.elements.Content.TheVariants.{Good}
use Rattle.disk_model.specs.Damage.{AtLeast}
use Rattle.disk_model.specs.Image.{Image}
use Rattle.disk_model.specs.Place.{area}
use Rattle.m_of_n.specs.Vote.{is_text, holders}
use Rattle.m_of_n.specs.Laws.{voted-only}
use Rattle.guarded_cell.specs.lemmas.CopyLaws.{enough_pass, passing_enough, is_passing}
use Rattle.guarded_cell.specs.lemmas.StopLaws.{at_least_map}
use Rattle.block_files.specs.Areas.{has_all_bytes}
use Rattle.block_files.specs.Aside.{Where}
use Rattle.block_files.specs.Contents.{counting, first_content, lacks}
use Rattle.index_text.specs.declared.entries.IndexEntry.{IndexEntry}
use Rattle.element_state.specs.declared.shapes.Shape.{Shape}
use Rattle.element_state.specs.Views.{content_of, element_of, entry_view, judged_content, judged_entry}
use Rattle.element_state.specs.States.{mended_by, mended_entry}
use Rattle.element_state.specs.Clean.{where_of}
use Rattle.element_laws.specs.Phases.{AllWhole}
use Rattle.element_laws.specs.lemmas.Copies.{Gift, CopyGives, gifts, holders_many, many_holders, is_text-is, its_text}
use Rattle.element_laws.specs.lemmas.Copies.{filtered_that}
use Rattle.element_laws.specs.lemmas.Left.{is_whole_at, value_at}
use Rattle.element_laws.specs.lemmas.Lists.{some_is}
use Rattle.element_laws.specs.lemmas.Refusals.{whole}
use Rattle.element_laws.specs.lemmas.Standing.{gift_of}
use Rattle.loss_laws.specs.ReadsOn.{OnlyLost}
use Rattle.loss_laws.proofs.Lists.{most_pass, another}

has_it : (v : List ℕ) (given : Option (List ℕ)) (inside : Bool) → given ≡ Some v → inside ≡ true
    → lacks (Some v) given inside ≡ false
has_it v None inside e is = cc
has_it v (Some x) true e is = ap not ((bytes_eq-Decides x v).1 (some_is x v e))
has_it v (Some x) false e is = cc

not_both : (b : Bool) → b ≡ true → b ≡ false → ⊥
not_both b one two = cc

-- as many copies as must agree give no other text
abbrev pub GivesOnly : Image → Shape → Where → List ℕ → Type 0
GivesOnly image shape at text = (other : List ℕ)
    → AtLeast (λ c. CopyGives (gift_of image shape at) c other) shape.place.copies shape.m → other ≡ text

module _ (old new : Image) (shape : Shape) (lost : ℕ) (few : shape.m < shape.place.copies)
    (same : (c : ℕ) → c < shape.place.copies → c ≢ lost → new (area shape.place c) ≡ old (area shape.place c))
    (e : IndexEntry) (v : List ℕ) (good : (entry_view old shape.place shape.m e).content ≡ Good v)
    (none : (entry_view old shape.place shape.m e).lacking ≡ []) where
  abbrev n : ℕ
  n = shape.place.copies

  abbrev gift : Gift
  gift = gift_of new shape (where_of e)

  pub had : AllWhole shape old e v
  had = whole shape old e v good none

  -- the other copies have it
  pub has : (c : ℕ) → c < n → c ≢ lost
      → (gift c ≡ Some v) × (is_whole_at new shape c (where_of e) ≡ true)
  has c lt apart = (
    ap (λ file. counting file e.blocks e.len e.hash) (same c lt apart) ∙ (had c lt).0,
    ap (λ file. has_all_bytes file e.blocks e.len) (same c lt apart) ∙ (had c lt).1,
  )

  enough : shape.m ≤ holders (gifts gift n) v
  enough =
      let most = most_pass (λ c. is_text v (gift c)) n lost (λ c lt apart. its_text v (gift c) (has c lt apart).0) in
      many_holders gift n shape.m v (at_least_map (λ c. is_text v (gift c) ≡ true) (λ c. CopyGives gift c v) n shape.m
      (λ c lt is. is_text-is v (gift c) is)
      (enough_pass (λ c. is_text v (gift c)) n shape.m (omega (arith, most, few))))

  -- where at least two must agree, no other text has enough
  pub two_only : 2 ≤ shape.m → GivesOnly new shape (where_of e) v
  two_only two other many =
      let le = passing_enough (λ c. is_text other (gift c)) n shape.m
      (at_least_map (λ c. CopyGives gift c other) (λ c. is_text other (gift c) ≡ true) n shape.m
      (λ c lt gives. its_text other (gift c) gives) many) in
      let (c, lt, apart, is) = another (λ c. is_text other (gift c)) n lost (omega (arith, le, two)) in
      some_is other v (sym (is_text-is other (gift c) is) ∙ (has c lt apart).0)

  module _ (positive : 1 ≤ shape.m) (only : GivesOnly new shape (where_of e) v) where
    still_voted : value_at new shape (where_of e) ≡ Some v
    still_voted = voted-only shape.m (gifts gift n) v positive enough
        (λ other many. only other (holders_many gift n shape.m other many))

    pub still_good : (entry_view new shape.place shape.m e).content ≡ Good v
    unfolding entry_view
    still_good = ap (λ o. content_of o (first_content (gifts gift n))) still_voted

    pub element_still : element_of (entry_view new shape.place shape.m e)
        ≡ element_of (entry_view old shape.place shape.m e)
    unfolding entry_view
    element_still = λ j. (e.name, record { info = e.info; len = e.len; content = (still_good ∙ sym good) j })

    pub judged_still : (test : List ℕ → Bool)
        → element_of (judged_entry test (entry_view new shape.place shape.m e))
        ≡ element_of (judged_entry test (entry_view old shape.place shape.m e))
    unfolding entry_view
    judged_still test = λ j. (
      e.name,
      record {
        info = e.info;
        len = e.len;
        content = judged_content test ((still_good ∙ sym good) j);
      },
    )

    pub mended_still : mended_entry (entry_view new shape.place shape.m e) ≡ entry_view old shape.place shape.m e
    unfolding entry_view
    mended_still = ap (λ x. mended_by x (entry_view new shape.place shape.m e)) still_good ∙ (λ j. record {
      name = e.name;
      info = e.info;
      changed = e.changed;
      len = e.len;
      content = (still_good ∙ sym good) j;
      lacking = sym none j;
    })

    abbrev lacks_now : Option (List ℕ) → ℕ → Bool
    lacks_now value c = lacks value (gift c) (is_whole_at new shape c (where_of e))

    pub lost_alone : OnlyLost lost (entry_view new shape.place shape.m e).lacking
    unfolding entry_view
    lost_alone c listed =
        let (lt, is) = is_passing (lacks_now (value_at new shape (where_of e))) n c
        (subst (λ (xs : List ℕ). Contains xs (c + 1)) (filtered_that (lacks_now (value_at new shape (where_of e))) n)
        listed) in
        ⊎_elim (λ last. last)
        (λ apart. absurd (not_both (lacks_now (Some v) c) (subst (λ o. lacks_now o c ≡ true) still_voted is)
        (has_it v (gift c) (is_whole_at new shape c (where_of e)) (has c lt apart).0 (has c lt apart).1)))
        (cases_eq c lost)
