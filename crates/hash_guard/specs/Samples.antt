-- The empty text of generation 1, computed: it has 44 bytes and verifies, with a byte after it too, and 44 zeros do
-- not.
use Rattle.std.specs.Prelude.{◌≡◌, [], ◌∷◌, ◌++◌, Some, None, length, replicate}
use Rattle.std.proofs.Common.{refl}
use Rattle.sha2.specs.Sha256.{sha256, digest_bytes, hash_after, compress, rounds, schedule, first_words}
use Rattle.hash_guard.specs.SealedText.{numbered, sealed, generation_in, length_in, verified}

first_length : length (sealed 1 []) ≡ 44
unfolding sealed numbered sha256 digest_bytes
first_length = refl

first_verified : verified (sealed 1 []) ≡ Some (1, [])
unfolding verified sealed numbered generation_in length_in sha256 digest_bytes hash_after compress rounds schedule
    first_words
first_verified = refl

followed_verified : verified (sealed 1 [] ++ 7 ∷ []) ≡ Some (1, [])
unfolding verified sealed numbered generation_in length_in sha256 digest_bytes hash_after compress rounds schedule
    first_words
followed_verified = refl

blank_verified : verified (replicate 44 0) ≡ None
unfolding verified generation_in length_in
blank_verified = refl
