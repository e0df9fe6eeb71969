-- A kind is the type of a value, as plain data: how deep it nests, whether its groups have members, and its code in
-- bytes.
use Rattle.std.specs.Prelude.{ℕ, suc, max, List, [], ◌∷◌, ◌++◌, Bool, true, false, ◌&&◌, nat_le}
use Rattle.std.specs.Int.{w8, w16, w32, w64}
use mir.Syntax.{Width}

-- the number of bytes of an integer: u8 and i8 have one, u64 and i64 eight
pub data Size : Type 0 where
  one : Size
  two : Size
  four : Size
  eight : Size

mutual
  -- the type of a value: a truth value, an integer without or with a sign, a text, bytes, a list with the type of its
  -- items, or a group of fields, which have no names, with the types of its members in their order
  pub data Kind : Type 0 where
    bool_kind : Kind
    unsigned_kind : Size → Kind
    signed_kind : Size → Kind
    text_kind : Kind
    bytes_kind : Kind
    list_kind : Kind → Kind
    fields_kind : Kinds → Kind

  -- the types of the members of a group, the first in front
  pub data Kinds : Type 0 where
    no_kinds : Kinds
    kind_then : Kind → Kinds → Kinds

-- the same size as the definitions of the language name it, by its bits
abbrev pub width : Size → Width
width one = w8
width two = w16
width four = w32
width eight = w64

-- how many members
abbrev pub count_kinds : Kinds → ℕ
count_kinds no_kinds = 0
count_kinds (kind_then k ks) = suc (count_kinds ks)

-- how deep a type nests: a scalar, which is neither a list nor a group, has depth 1; a list has one more than its item
-- type, and a group of fields one more than its deepest member
abbrev mutual
  pub kind_depth : Kind → ℕ
  kind_depth bool_kind = 1
  kind_depth (unsigned_kind s) = 1
  kind_depth (signed_kind s) = 1
  kind_depth text_kind = 1
  kind_depth bytes_kind = 1
  kind_depth (list_kind k) = suc (kind_depth k)
  kind_depth (fields_kind ks) = suc (kinds_depth ks)

  -- the depth of the deepest member, 0 where there is none
  pub kinds_depth : Kinds → ℕ
  kinds_depth no_kinds = 0
  kinds_depth (kind_then k ks) = max (kind_depth k) (kinds_depth ks)

-- a group of fields has 1 to 32 members
abbrev pub is_group : ℕ → Bool
is_group count = nat_le 1 count && nat_le count 32

-- every group of fields, at whatever depth of the type, has 1 to 32 members
abbrev mutual
  pub kind_fits : Kind → Bool
  kind_fits bool_kind = true
  kind_fits (unsigned_kind s) = true
  kind_fits (signed_kind s) = true
  kind_fits text_kind = true
  kind_fits bytes_kind = true
  kind_fits (list_kind k) = kind_fits k
  kind_fits (fields_kind ks) = is_group (count_kinds ks) && kinds_fit ks

  -- every group of fields in each of these types has 1 to 32 members
  pub kinds_fit : Kinds → Bool
  kinds_fit no_kinds = true
  kinds_fit (kind_then k ks) = kind_fits k && kinds_fit ks

-- the code byte of an integer type without a sign: u8 is 2, u64 is 5
abbrev pub unsigned_code : Size → ℕ
unsigned_code one = 2
unsigned_code two = 3
unsigned_code four = 4
unsigned_code eight = 5

-- the code byte of an integer type with a sign: i8 is 6, i64 is 9
abbrev pub signed_code : Size → ℕ
signed_code one = 6
signed_code two = 7
signed_code four = 8
signed_code eight = 9

-- the bytes that denote a type: a scalar type is one byte from 1 to 11; a list is 12 and its item type's code; a
-- group of fields is 13, a byte that says how many members it has, and their codes in order
abbrev mutual
  pub type_code : Kind → List ℕ
  type_code bool_kind = 1 ∷ []
  type_code (unsigned_kind s) = unsigned_code s ∷ []
  type_code (signed_kind s) = signed_code s ∷ []
  type_code text_kind = 10 ∷ []
  type_code bytes_kind = 11 ∷ []
  type_code (list_kind k) = 12 ∷ type_code k
  type_code (fields_kind ks) = 13 ∷ count_kinds ks ∷ type_codes ks

  -- the codes of these types, one after another
  pub type_codes : Kinds → List ℕ
  type_codes no_kinds = []
  type_codes (kind_then k ks) = type_code k ++ type_codes ks

-- ---- whether two types are the same, as a test

-- the two sizes are the same
abbrev pub same_size : Size → Size → Bool
same_size one one = true
same_size two two = true
same_size four four = true
same_size eight eight = true
same_size _ _ = false

abbrev mutual
  -- the two types are the same
  pub same_kind : Kind → Kind → Bool
  same_kind bool_kind bool_kind = true
  same_kind (unsigned_kind s) (unsigned_kind r) = same_size s r
  same_kind (signed_kind s) (signed_kind r) = same_size s r
  same_kind text_kind text_kind = true
  same_kind bytes_kind bytes_kind = true
  same_kind (list_kind j) (list_kind k) = same_kind j k
  same_kind (fields_kind js) (fields_kind ks) = same_kinds js ks
  same_kind _ _ = false

  -- the two lists of types are the same, type by type
  pub same_kinds : Kinds → Kinds → Bool
  same_kinds no_kinds no_kinds = true
  same_kinds (kind_then j js) (kind_then k ks) = same_kind j k && same_kinds js ks
  same_kinds _ _ = false
