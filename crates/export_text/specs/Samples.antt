-- The text of a storage with the key `a`, whose value is 7, and texts that spell no export.
use Rattle.std.specs.Prelude.{◌≡◌, ℕ, List, [], ◌∷◌, ◌++◌, Some, None, length, take, refl}
use Rattle.sha2.specs.Sha256.{sha256, digest_bytes, hash_after, compress, rounds, schedule, first_words}
use Rattle.per_base.specs.declared.elements.StoreKind.TheVariants.{Keys}
use Rattle.per_base.specs.Fields.{many, bytes_at, number_at}
use Rattle.index_text.specs.Reading.{name_at, info_at, len_at}
use Rattle.value_code.specs.Reading.{kind_at, decoded}
use Rattle.export_text.specs.Exports.{Export, export_text, fresh_text, content_at, fresh_at, marked_at, header_at}
use Rattle.export_text.specs.Exports.{body_read, body_hashed, export_of}

abbrev one_key : Export
one_key = record { kind = Keys; contents = record { name = 97 ∷ []; info = None; bytes = 2 ∷ 7 ∷ [] } ∷ [] }

-- `PERB`, 1, keys, one element, its name, two bytes, and these
abbrev body : List ℕ
body = 0x50 ∷ 0x45 ∷ 0x52 ∷ 0x42 ∷ 1 ∷ 1 ∷ 1 ∷ 0 ∷ 1 ∷ 0x61 ∷ 2 ∷ 0 ∷ 0 ∷ 0 ∷ 2 ∷ 7 ∷ []

abbrev hash : List ℕ
hash = 0x40 ∷ 0xbf ∷ 0x27 ∷ 0x08 ∷ 0x82 ∷ 0xa6 ∷ 0xe6 ∷ 0x6f ∷ 0x24 ∷ 0xbc ∷ 0xeb ∷ 0x7a ∷ 0xe0 ∷ 0xa2 ∷ 0xc9 ∷ 0xc1
    ∷ 0x73 ∷ 0x75 ∷ 0x9b ∷ 0xee ∷ 0x20 ∷ 0xc7 ∷ 0xc8 ∷ 0x6b ∷ 0x7b ∷ 0xc2 ∷ 0x33 ∷ 0xe1 ∷ 0x80 ∷ 0x25 ∷ 0x43 ∷ 0x22 ∷ []

has_48_bytes : length (body ++ hash) ≡ 48
has_48_bytes = refl

spelled : export_text one_key ≡ body ++ hash
unfolding export_text fresh_text sha256 digest_bytes hash_after compress rounds schedule first_words
spelled = refl

read : export_of (body ++ hash) ≡ Some one_key
unfolding export_of body_hashed body_read header_at marked_at fresh_at content_at name_at info_at len_at many bytes_at
    number_at decoded kind_at sha256 digest_bytes hash_after compress rounds schedule first_words
read = refl

one_byte_less : export_of (take 47 (body ++ hash)) ≡ None
unfolding export_of body_hashed body_read header_at marked_at fresh_at content_at name_at info_at len_at many bytes_at
    number_at decoded kind_at sha256 digest_bytes hash_after compress rounds schedule first_words
one_byte_less = refl

one_byte_more : export_of (body ++ hash ++ 0 ∷ []) ≡ None
unfolding export_of body_hashed body_read header_at marked_at fresh_at content_at name_at info_at len_at many bytes_at
    number_at decoded kind_at sha256 digest_bytes hash_after compress rounds schedule first_words
one_byte_more = refl

-- the hash alone is no export
hash_alone : export_of hash ≡ None
unfolding export_of body_hashed body_read header_at marked_at fresh_at content_at name_at info_at len_at many bytes_at
    number_at decoded kind_at sha256 digest_bytes hash_after compress rounds schedule first_words
hash_alone = refl
