-- What a page of flash says as a record: a sealed text whose generation is the sequence number, with a body of 272
-- bytes.
use Rattle.std.specs.Prelude.{ℕ, ◌==◌, List, ◌++◌, length, drop, Option, Some, None, if◌then◌else◌}
use Rattle.byteorder.specs.Endian.{little_bytes, little_number}
use Rattle.hash_guard.specs.SealedText.{verified}

-- a page of a file: the sequence number of the record, the file, the place of the page in the file, the file's length,
-- and the bytes
pub record PageRecord : Type 0 where
  pub sequence : ℕ
  pub file : ℕ
  pub page : ℕ
  pub len : ℕ
  pub bytes : List ℕ

-- the first 16 bytes of a body: the file, the page and the length, in 4, 4 and 8 bytes, the lowest first
abbrev pub record_numbers : ℕ → ℕ → ℕ → List ℕ
record_numbers file page len = little_bytes 4 file ++ (little_bytes 4 page ++ little_bytes 8 len)

-- the body of a record: its numbers, then the bytes of the file's page
abbrev pub record_body : ℕ → ℕ → ℕ → List ℕ → List ℕ
record_body file page len bytes = record_numbers file page len ++ bytes

-- what a body says, under a sequence number
abbrev pub body_record : ℕ → List ℕ → PageRecord
body_record sequence body = record {
  sequence = sequence;
  file = little_number 4 body;
  page = little_number 4 (drop 4 body);
  len = little_number 8 (drop 8 body);
  bytes = drop 16 body;
}

-- the record that a sealed text is, given as its generation and body: none where the body has not 272 bytes
abbrev pub record_by : Option (ℕ × List ℕ) → Option PageRecord
record_by None = None
record_by (Some text) = if length text.1 == 272 then Some (body_record text.0 text.1) else None

-- the record that a page of flash is: `None` where its start is no sealed text, or one of another length
unfoldable pub record_in : List ℕ → Option PageRecord
record_in page = record_by (verified page)
