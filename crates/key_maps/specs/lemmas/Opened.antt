-- The states of what is on the disk.
use Rattle.std.proofs.Common.{◌≡◌, ℕ, suc, ◌+◌, ◌<◌, ◌≤◌, List, [], ◌∷◌, ◌++◌, length, take, drop, get_or, Bool, true}
use Rattle.std.proofs.Common.{false, cond, refl, sym, ◌∙◌, ap, subst, arith}
use Rattle.std.specs.Prelude.{Some, None, sum_by}
use Rattle.std.specs.List.{All}
use Rattle.std.specs.List.Sorted.{IsStrictlySortedBy}
use Rattle.std.specs.Map.{keys_of}
use Rattle.std.proofs.lemmas.Cmp.{nat_list_cmp_total}
use Rattle.std.proofs.lemmas.List.{map-append, map_push, take-append-drop, take_more}
use Rattle.std.proofs.lemmas.List.Sums.{sum_by-cons}
use Rattle.per_base.specs.declared.elements.Content.{Content}
use Rattle.per_base.specs.declared.elements.Content.TheVariants.{Good, Bad}
use Rattle.per_base.specs.declared.elements.Element.{Element}
use Rattle.per_base.specs.declared.elements.Entry.{Entry}
use Rattle.per_base.specs.Maps.{Map, size_of}
use Rattle.per_base.specs.Names.{name_cmp}
use Rattle.per_base.specs.Contents.{HasLength}
use Rattle.key_maps.specs.declared.extents.Extent.{Extent}
use Rattle.key_maps.specs.KeyStates.{AreKeyStates, AreMeasured, KeyStates, IsKeyState, Measures, opened_states}
use Rattle.key_maps.specs.KeyStates.{opened_state}
use Rattle.key_maps.specs.KeyStates.{synced_map, visible_map, with_state}
use Rattle.key_maps.specs.KeyElements.{Encodes, IsKey, IsKeyEntry, entry_element, entry_names, key_judged}
use Rattle.key_maps.specs.KeyElements.{judged_key_content, judged_map}
use Rattle.value_code.specs.Reading.{is_encoding}
use Rattle.key_maps.specs.lemmas.Ordered.{AllValues, insert_last, sorted_front}

pub opened_synced : (entries : List Entry) → synced_map (opened_states entries) ≡ judged_map entries
opened_synced [] = refl
opened_synced (e ∷ es) = ap (λ (l : Map). (e.name, key_judged (entry_element e)) ∷ l) (opened_synced es)

pub opened_visible : (entries : List Entry) → visible_map (opened_states entries) ≡ judged_map entries
opened_visible [] = refl
opened_visible (e ∷ es) = ap (λ (l : Map). (e.name, key_judged (entry_element e)) ∷ l) (opened_visible es)

opened_keys : (entries : List Entry) → keys_of (opened_states entries) ≡ entry_names entries
opened_keys [] = refl
opened_keys (e ∷ es) = ap (λ (l : List (List ℕ)). e.name ∷ l) (opened_keys es)

judged_encodes : (content : Content) (len : ℕ) → HasLength content len → Encodes (judged_key_content content) len
judged_encodes (Good bytes) len is = by (is_encoding bytes) refl
  where
    by : (b : Bool) → is_encoding bytes ≡ b → Encodes (cond b (Good bytes) (Bad None)) len
    by true p = (rw p refl, is)
    by false p = tt
judged_encodes (Bad None) len is = tt
judged_encodes (Bad (Some salvage)) len is = by (is_encoding salvage) refl
  where
    by : (b : Bool) → is_encoding salvage ≡ b → Encodes (Bad (cond b (Some salvage) None)) len
    by true p = (rw p refl, is)
    by false p = tt

judged_key : (entry : Entry) → IsKeyEntry entry → IsKey (key_judged (entry_element entry))
judged_key entry is = record {
  plain = is.plain;
  measured = judged_encodes entry.content entry.len is.measured;
  small = is.small;
}

opened_sound : (entries : List Entry) → All IsKeyEntry entries → AllValues IsKeyState (opened_states entries)
opened_sound [] all = tt
opened_sound (e ∷ es) all = (
  (judged_key e (all 0 e (omega arith)), tt),
  opened_sound es (λ k d lt. all (suc k) d (omega arith)),
)

pub opened_are : (entries : List Entry) → All IsKeyEntry entries → IsStrictlySortedBy name_cmp (entry_names entries)
    → AreKeyStates (opened_states entries)
opened_are entries all sorted = record {
  ordered = subst (λ (l : List (List ℕ)). IsStrictlySortedBy name_cmp l) (sym (opened_keys entries)) sorted;
  sound = opened_sound entries all;
}

-- ---- one more entry

taken_sorted : (entries : List Entry) (n : ℕ) → IsStrictlySortedBy name_cmp (entry_names entries)
    → IsStrictlySortedBy name_cmp (keys_of (opened_states (take n entries)))
taken_sorted entries n sorted =
    let both : entry_names (take n entries) ++ entry_names (drop n entries) ≡ entry_names entries =
    sym (map-append (λ (e : Entry). e.name) (take n entries) (drop n entries)) ∙ ap entry_names (whole entries n) in
    let front : IsStrictlySortedBy name_cmp (entry_names (take n entries)) =
    sorted_front name_cmp (entry_names (take n entries)) (entry_names (drop n entries))
    (subst (λ (l : List (List ℕ)). IsStrictlySortedBy name_cmp l) (sym both) sorted) in
    subst (λ (l : List (List ℕ)). IsStrictlySortedBy name_cmp l) (sym (opened_keys (take n entries))) front
  where
    whole : (xs : List Entry) (k : ℕ) → take k xs ++ drop k xs ≡ xs
    whole xs k = take-append-drop k xs

pub opened_more : (entries : List Entry) (i : ℕ) (e : Entry) → i < length entries → e ≡ get_or entries i e
    → IsStrictlySortedBy name_cmp (entry_names entries)
    → with_state (opened_states (take i entries)) e.name (opened_state e).1 ≡ opened_states (take (i + 1) entries)
opened_more entries i e lt is sorted =
    let more : take (i + 1) entries ≡ take i entries ++ e ∷ [] =
    take_more entries i e lt ∙ ap (λ (x : Entry). take i entries ++ x ∷ []) (sym is) in
    let last : opened_states (take (i + 1) entries) ≡ opened_states (take i entries) ++ opened_state e ∷ [] =
    ap opened_states more ∙ map_push opened_state (take i entries) e in
    insert_last nat_list_cmp_total e.name (opened_state e).1 (opened_states (take i entries))
    (subst (λ (l : KeyStates). IsStrictlySortedBy name_cmp (keys_of l)) last (taken_sorted entries (i + 1) sorted))
    ∙ sym last

-- ---- sizes

pub judged_length : (entries : List Entry) → length (judged_map entries) ≡ length entries
judged_length [] = refl
judged_length (e ∷ es) = omega (arith, judged_length es)

pub judged_size : (entries : List Entry) → sum_by (λ (e : Entry). length e.name + e.len) entries
    ≡ size_of (judged_map entries)
judged_size [] = refl
judged_size (e ∷ es) =
    omega (
      arith,
      sum_by-cons (λ (x : Entry). length x.name + x.len) e es,
      sum_by-cons (λ (x : List ℕ × Element). length x.0 + x.1.len) (e.name, key_judged (entry_element e))
          (judged_map es),
      judged_size es,
    )

pub opened_measured : (entries : List Entry) (states : KeyStates) (extent : Extent) → All IsKeyEntry entries
    → IsStrictlySortedBy name_cmp (entry_names entries) → states ≡ opened_states entries
    → extent.count ≡ length entries → extent.size ≡ sum_by (λ (e : Entry). length e.name + e.len) entries
    → length entries ≤ 1024 → size_of (judged_map entries) ≤ 4194304 → AreMeasured states extent extent
opened_measured entries states extent all sorted is count size few small =
    subst (λ (l : KeyStates). AreMeasured l extent extent) (sym is) (record {
      kept = opened_are entries all sorted;
      synced = subst (λ (m : Map). Measures extent m) (sym (opened_synced entries)) measured;
      visible = subst (λ (m : Map). Measures extent m) (sym (opened_visible entries)) measured;
    })
  where
    measured : Measures extent (judged_map entries)
    measured = record {
      counted = omega (arith, count, judged_length entries);
      sized = omega (arith, size, judged_size entries);
      few = omega (arith, count, few);
      small = omega (arith, size, judged_size entries, small);
    }
