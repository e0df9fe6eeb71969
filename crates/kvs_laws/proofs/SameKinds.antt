-- A kind is the same as itself.
use Rattle.std.proofs.Common.{◌≡◌, true, refl}
use Rattle.value_model.specs.Kinds.{Kind, Kinds, Size, bool_kind, bytes_kind, eight, fields_kind, four, kind_then}
use Rattle.value_model.specs.Kinds.{list_kind, no_kinds, one, same_kind, same_kinds, signed_kind, text_kind, two}
use Rattle.value_model.specs.Kinds.{unsigned_kind, same_size}

same_size_self : (s : Size) → same_size s s ≡ true
same_size_self one = refl
same_size_self two = refl
same_size_self four = refl
same_size_self eight = refl

mutual
  pub same_kind_self : (k : Kind) → same_kind k k ≡ true
  same_kind_self bool_kind = refl
  same_kind_self (unsigned_kind s) = same_size_self s
  same_kind_self (signed_kind s) = same_size_self s
  same_kind_self text_kind = refl
  same_kind_self bytes_kind = refl
  same_kind_self (list_kind k) = same_kind_self k
  same_kind_self (fields_kind ks) = same_kinds_self ks

  same_kinds_self : (ks : Kinds) → same_kinds ks ks ≡ true
  same_kinds_self no_kinds = refl
  same_kinds_self (kind_then k ks) = rw (same_kind_self k, same_kinds_self ks) refl
