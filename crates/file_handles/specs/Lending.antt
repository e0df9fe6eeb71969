-- Lending: the bytes of working files are moved into the changes that put these files, and back. `files` are the
-- working files by name.
use Rattle.std.specs.Prelude.{ℕ, List, [], ◌∷◌, Option, None, Some, IsSome, unwrap_or, ⊤}
use Rattle.per_base.specs.declared.elements.Change.{Change}
use Rattle.per_base.specs.declared.elements.Change.TheVariants.{Put, Remove, Touch}
use Rattle.per_base.specs.declared.elements.Element.{Element}
use Rattle.per_base.specs.Maps.{Map, element_at, with_element}
use Rattle.file_core.specs.Files.{good_bytes, with_bytes, without_bytes}
use Rattle.file_handles.specs.Tables.{Table}

-- the bytes of a file, where it is there and can be read
abbrev pub bytes_there : Option Element → Option (List ℕ)
bytes_there None = None
bytes_there (Some file) = good_bytes file.content

-- the change with the bytes that the file which it puts has among these
abbrev pub filled : Map → Change → Change
filled files (Put f) = Put (record f { bytes = unwrap_or (bytes_there (element_at files f.name)) f.bytes })
filled files (Remove name) = Remove name
filled files (Touch name info) = Touch name info

-- where the change puts a file, that file is there and can be read
abbrev pub PutsReadable : Map → Change → Type 0
PutsReadable files (Put f) = IsSome (bytes_there (element_at files f.name))
PutsReadable files (Remove name) = ⊤
PutsReadable files (Touch name info) = ⊤

-- the files with what is made of the one of this name, which is given last, if there is one
abbrev pub remade : Map → List ℕ → (Element → Element) → Option Element → Map
remade files name make None = files
remade files name make (Some file) = with_element files name (make file)

-- the files once the bytes of the one that this change puts are taken out of it
abbrev pub lent : Map → Change → Map
lent files (Put f) = remade files f.name without_bytes (element_at files f.name)
lent files (Remove name) = files
lent files (Touch name info) = files

-- the files once the bytes of those that these changes put are taken out, one after the other
abbrev pub all_lent : Map → List Change → Map
all_lent files [] = files
all_lent files (change ∷ changes) = all_lent (lent files change) changes

-- the changes, each with the bytes that its file has once those of the changes before it are taken out
abbrev pub all_filled : Map → List Change → List Change
all_filled files [] = []
all_filled files (change ∷ changes) = filled files change ∷ all_filled (lent files change) changes

-- the files once the bytes that this change puts are in the file of its name
abbrev pub put_back : Map → Change → Map
put_back files (Put f) = remade files f.name (with_bytes f.bytes) (element_at files f.name)
put_back files (Remove name) = files
put_back files (Touch name info) = files

-- the files once the bytes that each of these changes puts are in the file of its name
abbrev pub all_put_back : Map → List Change → Map
all_put_back files [] = files
all_put_back files (change ∷ changes) = put_back (all_put_back files changes) change

-- the table once the bytes that these changes put are in its files
abbrev pub taken_back : Table → List Change → Table
taken_back t changes = record t { session = record t.session { files = all_put_back t.session.files changes } }
