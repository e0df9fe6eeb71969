-- What a session of keys hands down makes the one map into the other in the words of all storages: there a key has an
-- info, which is none.
use Rattle.std.proofs.Common.{◌≡◌, ℕ, List, Bool, true, false, cond, refl, sym, ◌∙◌, ap}
use Rattle.std.specs.Prelude.{Option, Some, None, IfSome}
use Rattle.per_base.specs.declared.elements.Change.{Change}
use Rattle.per_base.specs.declared.elements.Element.{Element}
use Rattle.per_base.specs.declared.elements.FileInfo.{FileInfo}
use Rattle.per_base.specs.Maps.{Map, element_at}
use Rattle.element_state.specs.Changes as changes
use Rattle.element_maps.specs.Differences as made
use Rattle.element_maps.specs.Differences.{MakeInto, same_bytes}
use Rattle.key_maps.specs.Changes as keys
use Rattle.key_maps.specs.Changes.{AreChanges}
use Rattle.key_maps.specs.KeyElements.{IsKey}
use Rattle.key_maps.specs.TwoMaps.{AreTwoMaps, IsKeyMap}

-- ---- one key

same_infos : (a b : Option FileInfo) → a ≡ None → b ≡ None → changes.same_info a b ≡ true
same_infos a b p q = rw (p, q) refl

same_keys : (a b : Element) → IsKey a → IsKey b → changes.same_element a b ≡ keys.same_key a b
same_keys a b one other = rw (same_infos a.info b.info one.plain other.plain) refl

put_key : (name : List ℕ) (key : Element) → IsKey key → made.put name key ≡ keys.put name key
put_key name key is = rw is.plain refl

touch_key : (name : List ℕ) (key : Element) (info : Option FileInfo) → info ≡ None
    → made.touch name key info ≡ made.put name key
touch_key name key info none = rw none refl

replaced : (name : List ℕ) (old key : Element) → IsKey key → made.replacement name old key ≡ made.put name key
replaced name old key is = by (same_bytes old key)
  where
    by : (b : Bool) → cond b (made.touch name key key.info) (made.put name key) ≡ made.put name key
    by true = touch_key name key key.info is.plain
    by false = refl

same_difference : (name : List ℕ) (old new : Option Element) → IfSome old IsKey → IfSome new IsKey
    → keys.difference name old new ≡ made.difference name old new
same_difference name None None one other = refl
same_difference name (Some old) None one other = refl
same_difference name None (Some key) one other = ap (λ (c : Change). Some c) (sym (put_key name key other))
same_difference name (Some old) (Some key) one other =
    rw (same_keys old key one other, replaced name old key other, put_key name key other) refl

-- ---- whole maps

key_at : (m : Map) → IsKeyMap m → (name : List ℕ) → IfSome (element_at m name) IsKey
key_at m is name = by (element_at m name) refl
  where
    by : (e : Option Element) → element_at m name ≡ e → IfSome e IsKey
    by None p = tt
    by (Some key) p = is.keys name key p

pub changes_make : (changes : List Change) (old new : Map) → AreTwoMaps (record { synced = old; visible = new })
    → AreChanges changes old new → MakeInto changes old new
changes_make changes old new maps are = record {
  names_ascend = are.ordered;
  exact = λ name. are.exact name ∙ same_difference name (element_at old name) (element_at new name)
      (key_at old maps.synced name) (key_at new maps.visible name);
}
