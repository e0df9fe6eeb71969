-- The view after a sync: its good elements lack nothing, and a key has the value that it has in the new map.
use Rattle.std.proofs.Common.{◌≡◌, ◌∙◌, ℕ, ◌+◌, List, [], ◌∷◌, map, Bool, true, false, is_eq, refl, sym, ap}
use Rattle.std.specs.Prelude.{Option, Some, None, option_map}
use Rattle.std.specs.List.{AllByRecursion}
use Rattle.std.specs.Cmp.{both_ways}
use Rattle.std.specs.Str.{bytes_eq}
use Rattle.std.proofs.lemmas.Map.Text.{is_eq-slice_cmp}
use Rattle.std.proofs.lemmas.Slice.Eq.{bytes_eq-Decides}
use Rattle.per_base.specs.declared.elements.Content.{Content}
use Rattle.per_base.specs.declared.elements.Content.TheVariants.{Good, Bad}
use Rattle.per_base.specs.declared.elements.Element.{Element}
use Rattle.per_base.specs.declared.elements.Entry.{Entry}
use Rattle.per_base.specs.Maps.{Map, element_at}
use Rattle.per_base.specs.Names.{name_cmp}
use Rattle.value_model.specs.Trees.{Tree}
use Rattle.element_state.specs.declared.shapes.Shape.{Shape}
use Rattle.element_state.specs.declared.shapes.View.{View}
use Rattle.element_state.specs.Changes.{committed, committed_entry, entry_by_name, is_same, kept_or_fresh}
use Rattle.element_state.specs.Conditions.{IsMended}
use Rattle.element_state.specs.States.{fresh_entry}
use Rattle.element_state.specs.Views.{element_of, judged_content, judged_entry}
use Rattle.element_maps.specs.Laws.{DecidesLaw, SameLaw}
use Rattle.element_maps.specs.Sessions.{same_map, view_once_synced}
use Rattle.key_maps.specs.KeyElements.{is_encoding}
use Rattle.kvs_store.specs.Storages.{keys_in}
use Rattle.kvs_laws.specs.Values.{AskedKey, HasValue}
use Rattle.kvs_laws.proofs.Stops.{IsWhole, keys_of, readable}

abbrev AreMended : List Entry → Type 0
AreMended entries = AllByRecursion (λ (e : Entry). IsMended e.content e.lacking) entries

-- ---- nothing is lacking

found_mended : (name : List ℕ) (entries : List Entry) (e : Entry) → AreMended entries → entry_by_name name entries
    ≡ Some e
    → IsMended e.content e.lacking
found_mended name [] e mended is = absurd (cc)
found_mended name (f ∷ entries) e mended is =
    by (bytes_eq f.name name) refl (found_mended name entries e mended.1)
  where
    by : (here : Bool) → bytes_eq f.name name ≡ here
        → (entry_by_name name entries ≡ Some e → IsMended e.content e.lacking) → IsMended e.content e.lacking
    by true here later = let h = rw here at is in let same : f ≡ e = cc in rw (← same) mended.0
    by false here later = later (rw here at is)

whole_fresh : (content : Content) → IsMended content []
whole_fresh (Good value) = refl
whole_fresh (Bad salvage) = tt

kept_mended : (generation : ℕ) (entries : List Entry) (same : Bool) (element : List ℕ × Element) → AreMended entries
    → (found : Option Entry) → entry_by_name element.0 entries ≡ found
    → IsMended (kept_or_fresh generation same found element).content
    (kept_or_fresh generation same found element).lacking
kept_mended generation entries true element mended (Some e) is = found_mended element.0 entries e mended is
kept_mended generation entries true element mended None is = whole_fresh element.1.content
kept_mended generation entries false element mended found is = whole_fresh element.1.content

committed_mended : (generation : ℕ) (entries : List Entry) (synced new : Map) → AreMended entries
    → AreMended (map (committed_entry generation entries synced) new)
committed_mended generation entries synced [] mended = tt
committed_mended generation entries synced (e ∷ new) mended = (
  kept_mended generation entries (is_same (element_at synced e.0) e.1) e mended (entry_by_name e.0 entries) refl,
  committed_mended generation entries synced new mended,
)

-- ---- the entry of a name

tests_alike : (a b : List ℕ) → is_eq (name_cmp a b) ≡ bytes_eq b a
tests_alike a b = is_eq-slice_cmp a b ∙ both_ways (bytes_eq a b) (bytes_eq b a)
    (λ h. (bytes_eq-Decides b a).1 (sym ((bytes_eq-Decides a b).0 h)))
    (λ h. (bytes_eq-Decides a b).1 (sym ((bytes_eq-Decides b a).0 h)))

abbrev key_in : Entry → Element
key_in e = (element_of (judged_entry is_encoding e)).1

key_found : (name : List ℕ) (entries : List Entry)
    → element_at (keys_of entries) name ≡ option_map key_in (entry_by_name name entries)
key_found name [] = refl
key_found name (f ∷ entries) = by (bytes_eq f.name name) refl (key_found name entries)
  where
    by : (here : Bool) → bytes_eq f.name name ≡ here
        → element_at (keys_of entries) name ≡ option_map key_in (entry_by_name name entries)
        → element_at (keys_of (f ∷ entries)) name ≡ option_map key_in (entry_by_name name (f ∷ entries))
    by true here later = rw (tests_alike name f.name, here) refl
    by false here later = rw (tests_alike name f.name, here) later

found_named : (name : List ℕ) (entries : List Entry) (e : Entry) → entry_by_name name entries ≡ Some e → e.name ≡ name
found_named name [] e is = absurd (cc)
found_named name (f ∷ entries) e is = by (bytes_eq f.name name) refl (found_named name entries e)
  where
    by : (here : Bool) → bytes_eq f.name name ≡ here → (entry_by_name name entries ≡ Some e → e.name ≡ name)
        → e.name ≡ name
    by true here later =
        let h = rw here at is in
        let same : f ≡ e = cc in
        ap (λ (x : Entry). x.name) (sym same) ∙ (bytes_eq-Decides f.name name).0 here
    by false here later = later (rw here at is)

-- ---- the entries after a commit

judged_stays : (content : Content) (bytes : List ℕ) → content ≡ Good bytes → is_encoding bytes ≡ true
    → judged_content is_encoding content ≡ content
judged_stays content bytes is encodes = rw (is, encodes) refl

module _ (generation : ℕ) (entries : List Entry) (synced : Map) where
  abbrev Next : List ℕ × Element → Entry
  Next e = committed_entry generation entries synced e

  next_named : (e : List ℕ × Element) → (Next e).name ≡ e.0
  next_named e = by (is_same (element_at synced e.0) e.1) (entry_by_name e.0 entries) refl
    where
      by : (same : Bool) (found : Option Entry) → entry_by_name e.0 entries ≡ found
          → (kept_or_fresh generation same found e).name ≡ e.0
      by true (Some f) is = found_named e.0 entries f is
      by true None is = refl
      by false found is = refl

  next_key : SameLaw → synced ≡ keys_of entries → (e : List ℕ × Element) (bytes : List ℕ) → e.1.content ≡ Good bytes
      → is_encoding bytes ≡ true → key_in (Next e) ≡ e.1
  next_key law held e bytes good encodes =
      by (is_same (element_at synced e.0) e.1) (entry_by_name e.0 entries) refl refl
    where
      fresh : key_in (fresh_entry generation e) ≡ e.1
      fresh = rw (judged_stays e.1.content bytes good encodes) refl

      by : (same : Bool) (found : Option Entry) → is_same (element_at synced e.0) e.1 ≡ same
          → entry_by_name e.0 entries ≡ found → key_in (kept_or_fresh generation same found e) ≡ e.1
      by true (Some f) same is =
          let there : element_at synced e.0 ≡ Some (key_in f) = rw (held, key_found e.0 entries, is) refl in
          let alike = rw there at same in
          (law (key_in f) e.1).0 alike
      by true None same is = fresh
      by false found same is = fresh

  next_at : SameLaw → synced ≡ keys_of entries → (new : Map) (name : List ℕ) (key : Element) (bytes : List ℕ)
      → element_at new name ≡ Some key → key.content ≡ Good bytes → is_encoding bytes ≡ true
      → element_at (keys_of (map Next new)) name ≡ Some key
  next_at law held [] name key bytes is good encodes = is
  next_at law held (e ∷ new) name key bytes is good encodes =
      by (is_eq (name_cmp name e.0)) refl (λ later. next_at law held new name key bytes later good encodes)
    where
      by : (here : Bool) → is_eq (name_cmp name e.0) ≡ here
          → (element_at new name ≡ Some key → element_at (keys_of (map Next new)) name ≡ Some key)
          → element_at (keys_of (map Next (e ∷ new))) name ≡ Some key
      by true here later =
          let this = rw here at is in
          let of_key : e.1 ≡ key = cc in
          let content : e.1.content ≡ Good bytes = rw of_key good in
          rw (next_named e, here) (ap Some (next_key law held e bytes content encodes ∙ of_key))
      by false here later =
          let behind = rw here at is in
          rw (next_named e, here) (later behind)

-- ---- the view after a sync

committed_has : SameLaw → (asked : AskedKey) (shape : Shape) (v : View) (synced new : Map) (after : Tree)
    → synced ≡ keys_in v → HasValue asked new after → HasValue asked (keys_in (committed shape v synced new)) after
unfolding committed
committed_has law asked shape v synced new after held has =
    let there = readable asked.config new asked.name asked.kind after has in
    let here : element_at (keys_in (committed shape v synced new)) asked.name ≡ element_at new asked.name =
    next_at (v.generation + 1) v.entries synced law held new asked.name there.key there.bytes there.there there.good
    there.encodes ∙ sym there.there in
    rw here has

whole_committed : (shape : Shape) (v : View) (synced new : Map) → AreMended v.entries
    → AreMended (committed shape v synced new).entries
unfolding committed
whole_committed shape v synced new mended = committed_mended (v.generation + 1) v.entries synced new mended

pub synced_whole : DecidesLaw → SameLaw → (asked : AskedKey) (shape : Shape) (v : View) (synced new : Map) (after : Tree)
    → synced ≡ keys_in v → AreMended v.entries → HasValue asked new after
    → IsWhole asked (view_once_synced shape v synced new) after
synced_whole decides law asked shape v synced new after held mended has = by (same_map synced new) refl
  where
    by : (same : Bool) → same_map synced new ≡ same → IsWhole asked (view_once_synced shape v synced new) after
    by true same =
        let equal = (decides synced new).0 same in
        let there : new ≡ keys_in v = sym equal ∙ held in
        let stays : view_once_synced shape v synced new ≡ v = rw same refl in
        rw stays (record { mended = mended; has = rw there at has })
    by false same =
        let next : view_once_synced shape v synced new ≡ committed shape v synced new = rw same refl in
        rw next (record {
          mended = whole_committed shape v synced new mended;
          has = committed_has law asked shape v synced new after held has;
        })
