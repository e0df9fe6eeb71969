-- A number for each type; types that differ may share one.
use Rattle.std.specs.Prelude.{ℕ, ◌+◌, ◌*◌, ◌%◌}
use Rattle.value_model.specs.Kinds.{Kind, bool_kind, unsigned_kind, signed_kind, text_kind, bytes_kind, list_kind}
use Rattle.value_model.specs.Kinds.{fields_kind, Kinds, no_kinds, kind_then, unsigned_code, signed_code}

-- one number of two, below 4,294,967,291, the greatest prime below 2 ^ 32
unfoldable pub mixed : ℕ → ℕ → ℕ
mixed one other = (one * 31 + other) % 4294967291

-- the number of a type: 1 to 11 of one with no members; 12 and 13 begin those of lists and of groups of fields
abbrev mutual
  pub fingerprint : Kind → ℕ
  fingerprint bool_kind = 1
  fingerprint (unsigned_kind s) = unsigned_code s
  fingerprint (signed_kind s) = signed_code s
  fingerprint text_kind = 10
  fingerprint bytes_kind = 11
  fingerprint (list_kind k) = mixed 12 (fingerprint k)
  fingerprint (fields_kind ks) = fingerprints 13 ks

  pub fingerprints : ℕ → Kinds → ℕ
  fingerprints all no_kinds = all
  fingerprints all (kind_then k ks) = fingerprints (mixed all (fingerprint k)) ks
