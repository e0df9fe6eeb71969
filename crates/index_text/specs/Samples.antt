-- The texts of one file in both formats, and texts that spell no index.
use Rattle.std.specs.Prelude.{◌≡◌, ℕ, List, [], ◌∷◌, ◌++◌, Some, None, refl}
use Rattle.per_base.specs.declared.elements.StoreKind.TheVariants.{Files}
use Rattle.per_base.specs.declared.elements.Cause.TheVariants as cause
use Rattle.index_text.specs.declared.entries.Index.{Index}
use Rattle.index_text.specs.Spelling.{index_text, entry_text}
use Rattle.per_base.specs.Fields.{many, bytes_at, number_at}
use Rattle.index_text.specs.Reading.{index_of, header_at, entry_at, name_at, info_at, file_info_at, cause_at}
use Rattle.index_text.specs.Reading.{changed_at, len_at}

-- the SHA-256 of `abc`
abbrev hash : List ℕ
hash = 0xba ∷ 0x78 ∷ 0x16 ∷ 0xbf ∷ 0x8f ∷ 0x01 ∷ 0xcf ∷ 0xea ∷ 0x41 ∷ 0x41 ∷ 0x40 ∷ 0xde ∷ 0x5d ∷ 0xae ∷ 0x22 ∷ 0x23
    ∷ 0xb0 ∷ 0x03 ∷ 0x61 ∷ 0xa3 ∷ 0x96 ∷ 0x17 ∷ 0x7a ∷ 0x9c ∷ 0xb4 ∷ 0x10 ∷ 0xff ∷ 0x61 ∷ 0xf2 ∷ 0x00 ∷ 0x15 ∷ 0xad ∷ []

-- the file `a` with the content `abc`
abbrev one_file : ℕ → ℕ → List ℕ → Index
one_file format changed blocks = record {
  format = format;
  kind = Files;
  entries = record {
    name = 97 ∷ [];
    info = Some (record {
      created = 0;
      modified = 0;
      accessed = 0;
      creation = cause.Installation;
      modification =
          cause.Installation;
    });
    changed = changed;
    len = 3;
    hash = hash;
    blocks = blocks;
  } ∷ [];
}

abbrev zeros : List ℕ
zeros = 0 ∷ 0 ∷ 0 ∷ 0 ∷ 0 ∷ 0 ∷ 0 ∷ 0 ∷ []

-- in block 5, in format 1
abbrev bytes_1 : List ℕ
bytes_1 = 1 ∷ 2 ∷ 1 ∷ 0 ∷ 1 ∷ 97 ∷ zeros ++ zeros ++ zeros ++ 1 ∷ 1 ∷ 3 ∷ 0 ∷ 0 ∷ 0 ∷ hash ++ 5 ∷ 0 ∷ 0 ∷ 0 ∷ []

-- in format 2, last changed in generation 1
abbrev bytes_2 : List ℕ
bytes_2 = 2 ∷ 2 ∷ 1 ∷ 0 ∷ 1 ∷ 97 ∷ zeros ++ zeros ++ zeros ++ 1 ∷ 1 ∷ 1 ∷ 0 ∷ 0 ∷ 0 ∷ 0 ∷ 0 ∷ 0 ∷ 0 ∷ 3 ∷ 0 ∷ 0 ∷ 0
    ∷ hash ++ 5 ∷ 0 ∷ 0 ∷ 0 ∷ []

spells_1 : index_text (one_file 1 0 (5 ∷ [])) ≡ bytes_1
unfolding index_text entry_text
spells_1 = refl

reads_1 : index_of bytes_1 ≡ Some (one_file 1 0 (5 ∷ []))
unfolding index_of header_at entry_at name_at info_at file_info_at cause_at changed_at len_at many bytes_at number_at
reads_1 = refl

spells_2 : index_text (one_file 2 1 (5 ∷ [])) ≡ bytes_2
unfolding index_text entry_text
spells_2 = refl

reads_2 : index_of bytes_2 ≡ Some (one_file 2 1 (5 ∷ []))
unfolding index_of header_at entry_at name_at info_at file_info_at cause_at changed_at len_at many bytes_at number_at
reads_2 = refl

format_3 : index_of (3 ∷ 2 ∷ 0 ∷ 0 ∷ []) ≡ None
unfolding index_of header_at entry_at name_at info_at file_info_at cause_at changed_at len_at many bytes_at number_at
format_3 = refl

kind_3 : index_of (2 ∷ 3 ∷ 0 ∷ 0 ∷ []) ≡ None
unfolding index_of header_at entry_at name_at info_at file_info_at cause_at changed_at len_at many bytes_at number_at
kind_3 = refl

one_byte_more : index_of (bytes_2 ++ 0 ∷ []) ≡ None
unfolding index_of header_at entry_at name_at info_at file_info_at cause_at changed_at len_at many bytes_at number_at
one_byte_more = refl

no_entries : index_of (2 ∷ 1 ∷ 1 ∷ 0 ∷ []) ≡ None
unfolding index_of header_at entry_at name_at info_at file_info_at cause_at changed_at len_at many bytes_at number_at
no_entries = refl
