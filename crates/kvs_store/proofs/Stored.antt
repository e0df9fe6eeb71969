-- What a storage of keys shows is what a session asks of its entries.
use Rattle.std.proofs.Common.{◌≡◌, ℕ, ◌≤◌, refl, subst, arith}
use Rattle.std.specs.Prelude.{Option, Some, None, IsTrue}
use Rattle.std.specs.List.{All}
use Rattle.per_base.specs.declared.elements.Entry.{Entry}
use Rattle.per_base.specs.declared.elements.FileInfo.{FileInfo}
use Rattle.per_base.specs.declared.elements.StoreKind.{StoreKind}
use Rattle.per_base.specs.declared.elements.StoreKind.TheVariants.{Keys}
use Rattle.per_base.specs.Maps.{size_of}
use Rattle.index_text.specs.Rules.{has_info, max_len}
use Rattle.element_state.specs.declared.shapes.Shape.{Shape}
use Rattle.element_state.specs.declared.shapes.View.{View}
use Rattle.element_state.specs.Read.{IsEntryOf, IsView}
use Rattle.element_state.specs.lemmas.Entrywise.{all_at, all_less}
use Rattle.key_maps.specs.KeyElements.{IsKeyEntry, judged_map}
use Rattle.key_maps.specs.lemmas.Opened.{judged_size}

none_in : (info : Option FileInfo) → IsTrue (has_info Keys info) → info ≡ None
none_in None has = refl
none_in (Some info) has = absurd (cc)

pub plain_of : (kind : StoreKind) (info : Option FileInfo) → kind ≡ Keys → IsTrue (has_info kind info) → info ≡ None
plain_of kind info is has = none_in info (subst (λ (k : StoreKind). IsTrue (has_info k info)) is has)

key_entry : (shape : Shape) → shape.kind ≡ Keys → (e : Entry) → IsEntryOf shape e → IsKeyEntry e
key_entry shape keys e is = record {
  plain = plain_of shape.kind e.info keys is.info;
  measured = is.content;
  small = subst (λ (k : StoreKind). e.len ≤ max_len k) keys is.len;
}

module _ (shape : Shape) (v : View) (keys : shape.kind ≡ Keys) (is : IsView shape v) where
  pub key_entries : All IsKeyEntry v.entries
  key_entries k d lt = all_at IsKeyEntry v.entries k d (all_less (IsEntryOf shape) IsKeyEntry (key_entry shape keys)
      v.entries is.each) lt

  pub keys_fit : (maximum : ℕ) → shape.allowed ≡ maximum → size_of (judged_map v.entries) ≤ maximum
  keys_fit maximum allows = omega (arith, judged_size v.entries, is.small, allows)
