-- A flash of four blocks that computes: two records of one page of a file of one copy, of which the newer is lost.
use Rattle.std.specs.Prelude.{◌≡◌, ℕ, List, [], ◌∷◌, ◌&&◌, cond, nat_eq, replicate}
use Rattle.std.proofs.Common.{refl}
use Rattle.sha2.specs.Sha256.{sha256, digest_bytes, hash_after, compress, rounds, schedule, first_words}
use Rattle.hash_guard.specs.SealedText.{sealed, numbered, verified, generation_in, length_in}
use Rattle.flash_model.specs.Pages.{Pages, blank_page}
use Rattle.flash_record.specs.PageRecord.{record_body, record_in}
use Rattle.flash_disk.specs.FlashFiles.{file_len, flash_files}

-- all that the samples compute with
unfoldable computed : ℕ
unfolding sealed numbered verified generation_in length_in record_in blank_page file_len flash_files sha256 digest_bytes
    hash_after compress rounds schedule first_words
computed = 0

-- the page that keeps one byte as page 0 of file 0
abbrev page_of : (sequence byte : ℕ) → List ℕ
unfolding computed
page_of sequence byte = sealed sequence (record_body 0 0 1 (byte ∷ replicate 255 0))

-- the byte was 1, and is 2
abbrev two_records : Pages
unfolding computed
two_records b p = cond (nat_eq b 0 && nat_eq p 0) (page_of 1 1)
    (cond (nat_eq b 0 && nat_eq p 1) (page_of 2 2) blank_page)

-- the newer record was lost
abbrev newer_lost : Pages
newer_lost b p = cond (nat_eq b 0 && nat_eq p 1) [] (two_records b p)

reads_two : flash_files two_records 4 0 ≡ 2 ∷ []
unfolding computed
reads_two = refl

reads_one : flash_files newer_lost 4 0 ≡ 1 ∷ []
unfolding computed
reads_one = refl
