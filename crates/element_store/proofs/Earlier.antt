-- The content beside which another one is written.
use Rattle.std.proofs.Common.{◌≡◌, ℕ, zero, suc, ◌*◌, ◌<◌, ◌≤◌, List, [], length, get_or, Option, Some, None, Ok, Err}
use Rattle.std.proofs.Common.{sym, ap, subst, ◌∙◌, inl, inr, arith}
use Rattle.std.specs.List.{AllZip}
use Rattle.std.proofs.lemmas.Bool.{cases_Bool}
use Rattle.per_base.specs.declared.elements.StoreKind.{StoreKind}
use Rattle.per_base.specs.declared.elements.StoreKind.TheVariants.{Keys, Files}
use Rattle.per_base.specs.declared.elements.Content.{Content}
use Rattle.per_base.specs.declared.elements.Content.TheVariants.{Good, Bad}
use Rattle.per_base.specs.declared.elements.Entry.{Entry}
use Rattle.per_base.specs.Contents.{blocks_for}
use Rattle.per_base.specs.Names.{NamesAscend}
use Rattle.block_files.specs.Parts.{is_changed, changed_blocks, changed_below}
use Rattle.index_text.specs.declared.entries.IndexEntry.{IndexEntry}
use Rattle.element_state.specs.Changes.{entry_name}
use Rattle.element_state.specs.Written.{cost_beside, content_named}
use Rattle.element_store.specs.Named.{IsSearchResult}
use Rattle.element_store.specs.Changing.{named_by, IsSeenAs, IsEarlierContent}
use Rattle.element_store.proofs.InOrder.{found_here, found_none, parted_apart}
use Rattle.element_store.proofs.Places.{zip_at, zip_length}
use Rattle.element_store.proofs.Changed.{seen_names}

pub changed_at_most : (new old : List ℕ) (n : ℕ) → changed_below new old n ≤ n
changed_at_most new old zero = omega arith
changed_at_most new old (suc n) =
    let before = changed_at_most new old n in
    elim (cases_Bool (is_changed new old n)) [
      | inl t ↦ rw t (omega (arith, before))
      | inr f ↦
          rw f (omega (arith, before))
    ]

-- written whole, a content costs at most its blocks
pub cost_none : (kind : StoreKind) (new : List ℕ) → 256 * changed_blocks new [] ≤ cost_beside kind None new
cost_none kind new = let most = changed_at_most new [] (blocks_for (length new)) in omega (arith, most)

cost_key : (content : Option Content) (new : List ℕ) → 256 * changed_blocks new [] ≤ cost_beside Keys content new
cost_key None new = cost_none Keys new
cost_key (Some c) new = let most = changed_at_most new [] (blocks_for (length new)) in omega (arith, most)

cost_bad : (salvage : Option (List ℕ)) (new : List ℕ) → 256 * changed_blocks new []
    ≤ cost_beside Files (Some (Bad salvage)) new
cost_bad salvage new = let most = changed_at_most new [] (blocks_for (length new)) in omega (arith, most)

abbrev content_in : Option Entry → Option Content
content_in e = elim e [ None ↦ None | Some f ↦ Some f.content ]

module _ (standing : List IndexEntry) (views : List Entry) (name bytes blocks : List ℕ) where
  pub earlier_key : (kind : StoreKind) → kind ≡ Keys → bytes ≡ [] → blocks ≡ []
      → IsEarlierContent kind standing views name bytes blocks
  earlier_key kind is none nowhere = record {
    is = inl (none, nowhere);
    cost = λ new. subst (λ (k : StoreKind). 256 * changed_blocks new bytes
        ≤ cost_beside k (content_named name views) new)
        (sym is)
        (subst (λ (bs : List ℕ). 256 * changed_blocks new bs ≤ cost_beside Keys (content_named name views) new)
        (sym none)
        (cost_key (content_named name views) new));
  }

  pub earlier_none : (kind : StoreKind) (i : ℕ) → IsSearchResult entry_name name views (Err i) → bytes ≡ [] → blocks
      ≡ []
      → IsEarlierContent kind standing views name bytes blocks
  earlier_none kind i place none nowhere = record {
    is = inl (none, nowhere);
    cost = λ new.
        let e : content_named name views ≡ None = ap content_in
        (found_none entry_name name views (parted_apart entry_name name views i place.1)) in
        subst (λ (c : Option Content). 256 * changed_blocks new bytes ≤ cost_beside kind c new) (sym e)
        (subst (λ (bs : List ℕ). 256 * changed_blocks new bs ≤ cost_beside kind None new) (sym none)
        (cost_none kind new));
  }

  module _ (kind : StoreKind) (files : kind ≡ Files) (ascend : NamesAscend entry_name views) (i : ℕ)
      (place : IsSearchResult entry_name name views (Ok i))
      (seen : Entry) (seen_is : seen ≡ get_or views i seen) where
    at_name : (content : Content) → seen.content ≡ content → content_named name views ≡ Some content
    at_name content is = ap content_in (found_here entry_name name views i seen ascend place.0 place.1 seen_is)
        ∙ ap (λ (c : Content). Some c) is

    pub earlier_bad : (salvage : Option (List ℕ)) → seen.content ≡ Bad salvage → bytes ≡ [] → blocks ≡ []
        → IsEarlierContent kind standing views name bytes blocks
    earlier_bad salvage is none nowhere = record {
      is = inl (none, nowhere);
      cost = λ new. subst (λ (k : StoreKind). 256 * changed_blocks new bytes
          ≤ cost_beside k (content_named name views) new)
          (sym files)
          (subst (λ (c : Option Content). 256 * changed_blocks new bytes ≤ cost_beside Files c new)
          (sym (at_name (Bad salvage) is))
          (subst (λ (bs : List ℕ). 256 * changed_blocks new bs ≤ cost_beside Files (Some (Bad salvage)) new) (sym none)
          (cost_bad salvage new)));
    }

    pub earlier_good : (was : IndexEntry) → was ≡ get_or standing i was → AllZip IsSeenAs standing views
        → seen.content ≡ Good bytes → blocks ≡ was.blocks
        → IsEarlierContent kind standing views name bytes blocks
    earlier_good was was_is read is there = record {
      is = inr (
        was,
        seen,
        record { at = i; inside = inside; within = place.0; one = sym was_is; two = sym seen_is },
        named,
        is,
        there,
      );
      cost = λ new. subst (λ (k : StoreKind). 256 * changed_blocks new bytes
          ≤ cost_beside k (content_named name views) new)
          (sym files)
          (subst (λ (c : Option Content). 256 * changed_blocks new bytes ≤ cost_beside Files c new)
          (sym (at_name (Good bytes) is)) (omega arith));
    }
      where
        inside : i < length standing
        inside = let l = zip_length IsSeenAs standing views read in let lt = place.0 in omega (arith, l, lt)

        named : was.name ≡ name
        named = ap named_by was_is ∙ seen_names _ _ (zip_at IsSeenAs standing views i was seen read inside)
            ∙ ap entry_name (sym seen_is) ∙ ap entry_name seen_is ∙ place.1 seen
