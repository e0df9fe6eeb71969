-- The text of a root: whether an application is installed, in which bank, and the manifests of its versions.
use Rattle.std.specs.Prelude.{◌≡◌, ◌≤◌, ℕ, List, [], ◌∷◌, ◌++◌, length, ◌==◌, nat_le, if◌then◌else◌, Option, Some, None}
use Rattle.std.specs.Prelude.{option_map, ⊤}
use Rattle.std.specs.Int.{w32, to_le_bytes}
use Rattle.per_base.specs.Fields.{◌>>=◌, byte_at, bytes_at, number_at, only_if}
use Rattle.deployment_model.specs.Data.{DeploymentData}
use Rattle.manifest.specs.Reading.{deployment_in}

-- a version: the text of its manifest, and the deployment that the text says
pub record Version : Type 0 where
  pub text : List ℕ
  pub deployment : DeploymentData

-- what is installed of an application: nothing; or the active version, the bank (0 or 1) in which its storages are, and
-- the previous version, if any, which is in the other bank. A bank is one of two places for the storages of a version
pub data Root : Type 0 where
  absent : Root
  installed : (bank : ℕ) (active : Version) (previous : Option Version) → Root

-- ---- the text of a root

-- what its text has where something is installed: the bank, and the texts of the manifests
pub record Parts : Type 0 where
  pub bank : ℕ
  pub active : List ℕ
  pub previous : Option (List ℕ)

-- the text of a version's manifest
abbrev pub version_text : Version → List ℕ
version_text v = v.text

-- the parts of a root with this bank, this active version and this previous one
abbrev pub parts_of : ℕ → Version → Option Version → Parts
parts_of bank active previous = record {
  bank = bank;
  active = active.text;
  previous = option_map version_text previous;
}

-- a text with its length in front, four bytes with the lowest first
abbrev pub long_text : List ℕ → List ℕ
long_text text = to_le_bytes w32 (length text) ++ text

-- 1 where there is a previous version
abbrev pub flag_of : Option (List ℕ) → ℕ
flag_of None = 0
flag_of (Some text) = 1

-- the text of the previous version with its length in front, or nothing
abbrev pub previous_text : Option (List ℕ) → List ℕ
previous_text None = []
previous_text (Some text) = long_text text

-- the bank, whether there is a previous version, the active text and the previous one
abbrev pub parts_text : Parts → List ℕ
parts_text p = p.bank ∷ flag_of p.previous ∷ long_text p.active ++ previous_text p.previous

-- the one text of a root: a byte 1, which is the version of this format, then 0 for absent, or 1 for installed and its
-- parts
unfoldable pub root_text : Root → List ℕ
root_text absent = 1 ∷ 0 ∷ []
root_text (installed bank active previous) = 1 ∷ 1 ∷ parts_text (parts_of bank active previous)

-- ---- what has a text

-- the text is a manifest, and says this deployment
abbrev pub IsVersion : Version → Type 0
IsVersion v = deployment_in v.text ≡ Some v.deployment

-- where there is a previous version, its text is a manifest and says its deployment
abbrev pub IfVersion : Option Version → Type 0
IfVersion None = ⊤
IfVersion (Some v) = IsVersion v

-- the bank is 0 or 1, and the text of each version is a manifest that says its deployment
pub record IsInstalled (bank : ℕ) (active : Version) (previous : Option Version) : Type 0 where
  pub in_bank : bank ≤ 1
  pub of_active : IsVersion active
  pub of_previous : IfVersion previous

-- what is installed is in bank 0 or 1, and the texts of its versions are manifests
abbrev pub IsRoot : Root → Type 0
IsRoot absent = ⊤
IsRoot (installed bank active previous) = IsInstalled bank active previous

-- ---- the parts of a text, each read from the start of what is left, and what is left after it; `None` where it does
-- not stand there

-- a length as a number of four bytes, and that many bytes
unfoldable pub text_at : List ℕ → Option (List ℕ × List ℕ)
text_at bytes = do
  len ← number_at w32 bytes
  bytes_at len.0 len.1

-- a length as a number of four bytes and that many bytes, as the text of a previous version that is there
unfoldable pub some_text_at : List ℕ → Option (Option (List ℕ) × List ℕ)
some_text_at bytes = do
  text ← text_at bytes
  Some (Some text.0, text.1)

-- there is a previous text where the flag is 1, and none where it is 0
unfoldable pub previous_at : (flag : ℕ) → List ℕ → Option (Option (List ℕ) × List ℕ)
previous_at flag bytes = if flag == 0 then Some (None, bytes) else (if flag == 1 then some_text_at bytes else None)

-- the bank, which is 0 or 1, the flag of a previous version, the active text and the previous one
unfoldable pub parts_at : List ℕ → Option (Parts × List ℕ)
parts_at bytes = do
  bank ← byte_at bytes
  flag ← byte_at bank.1
  active ← text_at flag.1
  previous ← previous_at flag.0 active.1
  only_if (nat_le bank.0 1) (record { bank = bank.0; active = active.0; previous = previous.0 }, previous.1)

-- the parts that all of the bytes are: nothing may follow them
unfoldable pub parts_in : List ℕ → Option Parts
parts_in bytes = do
  parts ← parts_at bytes
  only_if (length parts.1 == 0) parts.0

-- the parts after the byte `kind`, which says that something is installed (1)
unfoldable pub parts_by : (kind : ℕ) → List ℕ → Option Parts
parts_by kind bytes = if kind == 1 then parts_in bytes else None

-- the parts of a text that begins with the format and says that something is installed
unfoldable pub parts_of_text : List ℕ → Option Parts
parts_of_text text = do
  format ← byte_at text
  kind ← byte_at format.1
  if format.0 == 1 then parts_by kind.0 kind.1 else None

-- ---- the root that a text says

-- the version with this text, where it is the text of a manifest
unfoldable pub version_of_text : List ℕ → Option Version
version_of_text text = do
  deployment ← deployment_in text
  Some (record { text = text; deployment = deployment })

-- the previous version with this text, or none where there is no text
unfoldable pub previous_in : Option (List ℕ) → Option (Option Version)
previous_in None = Some None
previous_in (Some text) = do
  version ← version_of_text text
  Some (Some version)

-- the root with these parts, where each text is a manifest
unfoldable pub installed_in : Parts → Option Root
installed_in parts = do
  active ← version_of_text parts.active
  previous ← previous_in parts.previous
  Some (installed parts.bank active previous)

-- the root with something installed that all of the bytes say
unfoldable pub some_root_in : List ℕ → Option Root
some_root_in bytes = do
  parts ← parts_in bytes
  installed_in parts

-- the root after the byte `kind`: 0 is absent, after which nothing may stand, and 1 installed
unfoldable pub root_in : (kind : ℕ) → List ℕ → Option Root
root_in kind bytes = if kind == 0 then only_if (length bytes == 0) absent else
    (if kind == 1 then some_root_in bytes else None)

-- the root that the text says, where it says one
unfoldable pub root_of : List ℕ → Option Root
root_of text = do
  format ← byte_at text
  kind ← byte_at format.1
  if format.0 == 1 then root_in kind.0 kind.1 else None
