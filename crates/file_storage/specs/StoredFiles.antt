-- An entry of a storage of files.
use Rattle.per_base.specs.declared.elements.Entry.{Entry}
use Rattle.file_core.specs.Files.{IsFile}

-- the entry is of a file: it has an info, and the length of its content, at most 1,048,576
abbrev pub IsStoredFile : Entry → Type 0
IsStoredFile e = IsFile (record { info = e.info; len = e.len; content = e.content })
