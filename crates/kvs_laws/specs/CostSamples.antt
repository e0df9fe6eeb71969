-- What is written of the index of 40 keys, of 2,128 bytes with its head and so of nine runs, where one key after the
-- other changes in its value alone.
use Rattle.std.specs.Prelude.{◌≡◌, ℕ, ◌+◌, ◌*◌, ◌-◌, ◌/◌, ◌%◌, ◌==◌, List, [], ◌∷◌, ◌++◌, length, map, replicate}
use Rattle.std.specs.Prelude.{refl, Some, None, if◌then◌else◌}
use Rattle.std.specs.List.{range_with_len}
use Rattle.sha2.specs.Sha256.{sha256, digest_bytes, hash_after, compress, rounds, schedule, first_words}
use Rattle.per_base.specs.declared.elements.StoreKind.TheVariants.{Keys}
use Rattle.per_base.specs.Fields.{many, bytes_at, number_at}
use Rattle.disk_model.specs.Image.{put_bytes}
use Rattle.hash_guard.specs.SealedText.{numbered, sealed}
use Rattle.guarded_cell.specs.Differing.{front_cost}
use Rattle.index_text.specs.declared.entries.Index.{Index}
use Rattle.index_text.specs.declared.entries.IndexEntry.{IndexEntry}
use Rattle.index_text.specs.Reading.{index_of, header_at, entry_at, name_at, info_at, file_info_at, cause_at}
use Rattle.index_text.specs.Reading.{changed_at, len_at}
use Rattle.index_text.specs.Spelling.{index_text, entry_text}

-- the key of a number: a name of three letters, a value of one block, and a hash of 32 equal bytes
abbrev key : (n generation : ℕ) → IndexEntry
key n generation = record {
  name = 107 ∷ (48 + n / 10) ∷ (48 + n % 10) ∷ [];
  info = None;
  changed = generation;
  len = 3;
  hash = replicate 32 generation;
  blocks = (n + 40 * (generation - 1)) ∷ [];
}

-- the keys 0 to 39: p was changed in generation 2, q in generation 3, and each other in generation 1
abbrev keys : (p q : ℕ) → Index
keys p q = record {
  format = 2;
  kind = Keys;
  entries = map (λ n. key n (if n == q then 3 else if n == p then 2 else 1)) (range_with_len 0 40);
}

-- it keeps the rules of an index
reads : index_of (index_text (keys 8 28)) ≡ Some (keys 8 28)
unfolding index_of header_at entry_at name_at info_at file_info_at cause_at changed_at len_at many bytes_at number_at
    index_text entry_text
reads = refl

-- ---- with 44 equal bytes for a head

-- the index of these keys under such a head
abbrev text : (generation p q : ℕ) → List ℕ
text generation p q = replicate 44 generation ++ index_text (keys p q)

-- What is written of the third text over the first one, after that was blanked: key p changed in between, and q now;
-- there is no key 40.
abbrev third_cost : (p q : ℕ) → ℕ
third_cost p q = front_cost (put_bytes (put_bytes [] 0 (text 1 40 40)) 0 (replicate 44 0)) (text 3 p q)

whole_length : length (text 3 8 28) ≡ 2128
unfolding index_text entry_text
whole_length = refl

-- key 20 lies within one run, and key 8 in two
within_one : third_cost 40 20 ≡ 512
unfolding index_text entry_text put_bytes
within_one = refl

within_two : third_cost 40 8 ≡ 768
unfolding index_text entry_text put_bytes
within_two = refl

-- key 3 lies within the first run, and key 39 within the last, of 80 bytes
in_first : third_cost 40 3 ≡ 256
unfolding index_text entry_text put_bytes
in_first = refl

in_last : third_cost 40 39 ≡ 336
unfolding index_text entry_text put_bytes
in_last = refl

-- two keys in one run, two in two runs each, and one of these twice
two_runs : third_cost 19 20 ≡ 512
unfolding index_text entry_text put_bytes
two_runs = refl

five_runs : third_cost 8 28 ≡ 1280
unfolding index_text entry_text put_bytes
five_runs = refl

three_runs : third_cost 8 8 ≡ 768
unfolding index_text entry_text put_bytes
three_runs = refl

-- ---- under their hashes

five_sealed : front_cost (put_bytes (put_bytes [] 0 (sealed 1 (index_text (keys 40 40)))) 0 (replicate 44 0))
    (sealed 3 (index_text (keys 8 28))) ≡ 1280
unfolding index_text entry_text put_bytes sealed numbered sha256 digest_bytes hash_after compress rounds schedule
    first_words
five_sealed = refl
