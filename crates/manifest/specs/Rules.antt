-- The rules that a manifest keeps, each a test that passes where the rule is kept, and the first violated one.
use Rattle.std.specs.Prelude.{ℕ, List, [], ◌∷◌, length, map, codes, sum_by, Bool, true, false, ◌&&◌, ◌||◌, not, nat_le}
use Rattle.std.specs.Prelude.{Option, None, Some, option_and_then, is_none, is_some, if◌then◌else◌}
use Rattle.std.specs.List.{list_all, list_any}
use Rattle.std.specs.Str.{bytes_eq}
use Rattle.serde_json.specs.Data.{Data}
use Rattle.serde_json.specs.Find.{get, as_bool, as_str}
use Rattle.per_base.specs.declared.elements.StoreKind.{StoreKind}
use Rattle.per_base.specs.declared.elements.StoreKind.TheVariants.{Keys, Files}
use Rattle.per_base.specs.Names.{is_name}
use Rattle.deployment_model.specs.Conditions.{overwrites, start_size}
use Rattle.manifest.specs.Values.{has_only, is_in_range, is_list_of_objects, is_object, may_be, whole_in}
use Rattle.manifest.specs.Parts.{ListedThing, storages, elements, elements_word, all_elements, name_in, minimum_in}
use Rattle.manifest.specs.Parts.{maximum_in, collection_said, scope_said, strategy_said, redundancy_in, agreeing_in}
use Rattle.manifest.specs.Parts.{copies_in, version_in, strategy_in, type_in, initial_in}

-- ---- of the manifest as a whole

-- rule 3: the manifest is an object
unfoldable pub is_an_object : Data → Bool
is_an_object d = is_object d

-- rule 4: its version is a whole number from 1 to 4,294,967,295, the greatest of 32 bits
unfoldable pub has_version : Data → Bool
has_version d = is_in_range 1 4294967295 (version_in d)

-- rule 5: each of the two lists of storages, where it is there, is an array of objects
unfoldable pub lists_storages : Data → Bool
lists_storages d = may_be is_list_of_objects (get (codes "keyValueStorages") d)
    && may_be is_list_of_objects (get (codes "fileStorages") d)

-- rule 6: the manifest has no members but its version and the two lists of storages
unfoldable pub has_known_members : Data → Bool
has_known_members d = has_only (codes "version" ∷ codes "keyValueStorages" ∷ codes "fileStorages" ∷ []) d

-- rule 7: it lists at most 16 storages, of keys and of files together
unfoldable pub has_few_storages : Data → Bool
has_few_storages d = nat_le (length (storages d)) 16

-- ---- of the storages

-- the members that a storage of this kind may have
abbrev pub storage_words : StoreKind → List (List ℕ)
storage_words kind = codes "name" ∷ codes "minimumSustainedSize" ∷ codes "maximumAllowedSize" ∷ codes "updateStrategy"
    ∷ codes "readOnly" ∷ codes "redundancy" ∷ elements_word kind ∷ []

-- the storage has no members but those that one of its kind may have
unfoldable pub has_storage_members : ListedThing → Bool
has_storage_members s = has_only (storage_words s.0) s.1

-- rule 8: no storage has another member than one of its kind may have
unfoldable pub storages_have_known_members : List ListedThing → Bool
storages_have_known_members ss = list_all has_storage_members ss

-- the storage or element has a name: 1 to 255 letters, digits and _ - . /
unfoldable pub is_named : ListedThing → Bool
is_named l = is_name (name_in l.1)

-- each has a name; of the storages this is rule 9
unfoldable pub are_named : List ListedThing → Bool
are_named ls = list_all is_named ls

-- no name stands in the list twice
abbrev pub all_differ : List (List ℕ) → Bool
all_differ [] = true
all_differ (name ∷ names) = not (list_any (bytes_eq name) names) && all_differ names

-- no two have the same name; of the storages this is rule 10
unfoldable pub names_differ : List ListedThing → Bool
names_differ ls = all_differ (map (λ (l : ListedThing). name_in l.1) ls)

-- the value is a whole number of bytes from the least (the first argument) to 4 MiB
abbrev pub has_size : ℕ → Data → Bool
has_size least d = is_in_range least 4194304 (whole_in (Some d))

-- the minimum, where it is said, is from 0 bytes, and the maximum from 1 byte, to 4 MiB
unfoldable pub has_sizes : ListedThing → Bool
has_sizes s = may_be (has_size 0) (get (codes "minimumSustainedSize") s.1)
    && may_be (has_size 1) (get (codes "maximumAllowedSize") s.1)

-- rule 11: the sizes of each storage are in their ranges
unfoldable pub sizes_are_in_range : List ListedThing → Bool
sizes_are_in_range ss = list_all has_sizes ss

-- the storage's minimum is at most its maximum, with the defaults of what is not said
unfoldable pub has_minimum_below : ListedThing → Bool
has_minimum_below s = nat_le (minimum_in s.1) (maximum_in s.1)

-- rule 12: the minimum of each storage is at most its maximum
unfoldable pub minimums_are_below : List ListedThing → Bool
minimums_are_below ss = list_all has_minimum_below ss

-- rule 13: the maximums of all storages are together at most 16 MiB
unfoldable pub maximums_fit_together : List ListedThing → Bool
maximums_fit_together ss = nat_le (sum_by (λ (s : ListedThing). maximum_in s.1) ss) 16777216

-- the value is a string, `keepExisting` or `delete`: the words of the update strategies of storages
abbrev pub says_collection : Data → Bool
says_collection d = is_some (option_and_then collection_said (as_str d))

-- the update strategy of the storage, where it is said, is `keepExisting` or `delete`
unfoldable pub has_collection_strategy : ListedThing → Bool
has_collection_strategy s = may_be says_collection (get (codes "updateStrategy") s.1)

-- rule 14: the update strategy of each storage, where it is said, is `keepExisting` or `delete`
unfoldable pub collections_have_strategies : List ListedThing → Bool
collections_have_strategies ss = list_all has_collection_strategy ss

-- the value is true or false
abbrev pub is_bool : Data → Bool
is_bool d = is_some (as_bool d)

-- whether the storage is read-only is said by true or false, where it is said
unfoldable pub says_read_only : ListedThing → Bool
says_read_only s = may_be is_bool (get (codes "readOnly") s.1)

-- rule 15: whether each storage is read-only is said by true or false, where it is said
unfoldable pub read_only_is_said : List ListedThing → Bool
read_only_is_said ss = list_all says_read_only ss

-- the value is a string, `element` or `storage`: the words of the scopes
abbrev pub says_scope : Data → Bool
says_scope d = is_some (option_and_then scope_said (as_str d))

-- the value is an object with no members but `m`, `n` and `scope`, and its scope, where it is said, is one of the two
-- words
abbrev pub is_redundancy : Data → Bool
is_redundancy r = is_object r && has_only (codes "m" ∷ codes "n" ∷ codes "scope" ∷ []) r
    && may_be says_scope (get (codes "scope") r)

-- the redundancy of the storage, where it is said, is an object with no members but `m`, `n` and `scope`, and its scope
-- one of the two words
unfoldable pub has_redundancy : ListedThing → Bool
has_redundancy s = may_be is_redundancy (redundancy_in s.1)

-- rule 16: the redundancy of each storage, where it is said, is an object with no members but `m`, `n` and `scope`, and
-- its scope one of the two words
unfoldable pub redundancies_are_objects : List ListedThing → Bool
redundancies_are_objects ss = list_all has_redundancy ss

-- both numbers are there: of at most 7 copies (n), at least one and no more than there are have to agree (m)
abbrev pub are_counts : Option ℕ → Option ℕ → Bool
are_counts (Some m) (Some n) = nat_le 1 m && nat_le m n && nat_le n 7
are_counts m n = false

-- the redundancy says how many copies there are and how many have to agree, both in their ranges
abbrev pub says_counts : Data → Bool
says_counts r = are_counts (agreeing_in r) (copies_in r)

-- the redundancy of the storage, where it is said, says both numbers, in their ranges
unfoldable pub has_counts : ListedThing → Bool
has_counts s = may_be says_counts (redundancy_in s.1)

-- rule 17: the redundancy of each storage, where it is said, says both numbers, in their ranges
unfoldable pub redundancies_have_counts : List ListedThing → Bool
redundancies_have_counts ss = list_all has_counts ss

-- ---- of the elements

-- the storage's list of elements, where it is there, is an array of at most 1,024 objects
unfoldable pub has_few_elements : ListedThing → Bool
has_few_elements s = may_be is_list_of_objects (get (elements_word s.0) s.1) && nat_le (length (elements s)) 1024

-- rule 18: the list of elements of each storage, where it is there, is an array of at most 1,024 objects
unfoldable pub elements_are_few : List ListedThing → Bool
elements_are_few ss = list_all has_few_elements ss

-- the members that an element of a storage of this kind may have
abbrev pub element_words : StoreKind → List (List ℕ)
element_words Keys = codes "name" ∷ codes "type" ∷ codes "initial" ∷ codes "updateStrategy" ∷ []
element_words Files = codes "name" ∷ codes "initial" ∷ codes "updateStrategy" ∷ []

-- the element has no members but those that one in a storage of its kind may have
unfoldable pub has_element_members : ListedThing → Bool
has_element_members e = has_only (element_words e.0) e.1

-- rule 19: no element has another member than one of its kind may have
unfoldable pub elements_have_known_members : List ListedThing → Bool
elements_have_known_members es = list_all has_element_members es

-- no two elements of a storage have the same name
unfoldable pub has_different_elements : ListedThing → Bool
has_different_elements s = names_differ (elements s)

-- in each storage no two elements have the same name
unfoldable pub elements_differ : List ListedThing → Bool
elements_differ ss = list_all has_different_elements ss

-- rule 20: every element has a name, and no two of one storage have the same
abbrev pub elements_are_named : List ListedThing → Bool
elements_are_named ss = are_named (all_elements ss) && elements_differ ss

-- a key has a type text; a file needs none
unfoldable pub has_type : ListedThing → Bool
has_type (Keys, d) = is_some (type_in d)
has_type (Files, d) = true

-- rule 21: every key has a type
unfoldable pub keys_have_types : List ListedThing → Bool
keys_have_types es = list_all has_type es

-- the initial content of the element, where it is said, can be read: a value of the type of the key, or the bytes of a
-- file
unfoldable pub may_start : ListedThing → Bool
may_start e = is_none (get (codes "initial") e.1) || is_some (initial_in e)

-- rule 22: the initial content of each element, where it is said, can be read
unfoldable pub initials_are_read : List ListedThing → Bool
initials_are_read es = list_all may_start es

-- the value is a string, `keepExisting`, `overwrite` or `delete`: the words of the update strategies of elements
abbrev pub says_strategy : Data → Bool
says_strategy d = is_some (option_and_then strategy_said (as_str d))

-- the update strategy of the element, where it is said, is one of its three words, and an element that an update
-- overwrites says an initial content
unfoldable pub has_strategy : ListedThing → Bool
has_strategy e = may_be says_strategy (get (codes "updateStrategy") e.1)
    && (not (overwrites (strategy_in e.1)) || is_some (get (codes "initial") e.1))

-- rule 23: the update strategy of each element, where it is said, is one of its three words, and an element that an
-- update overwrites says an initial content
unfoldable pub elements_have_strategies : List ListedThing → Bool
elements_have_strategies es = list_all has_strategy es

-- the bytes that the element takes at the start: name and content, or nothing without an initial content
unfoldable pub initial_size : ListedThing → ℕ
initial_size e = start_size (name_in e.1) (initial_in e)

-- the storage's elements fit its maximum at the start; every one with an initial content counts, whatever an update
-- does with it
unfoldable pub has_room : ListedThing → Bool
has_room s = nat_le (sum_by initial_size (elements s)) (maximum_in s.1)

-- rule 24: the elements of each storage that have an initial content fit its maximum together, names and contents
unfoldable pub initials_fit : List ListedThing → Bool
initials_fit ss = list_all has_room ss

-- ---- in order

-- the number of the first of these rules, each a number and a test, that a thing fails; none where it passes all
abbrev pub first_broken : {A : Type 0} → List (ℕ × (A → Bool)) → A → Option ℕ
first_broken [] a = None
first_broken (rule ∷ rules) a = if rule.1 a then first_broken rules a else Some rule.0

-- rules 3 to 7, of the manifest as a whole; rules 1 and 2 are of the text, and stand where it is read
abbrev pub whole_rules : List (ℕ × (Data → Bool))
whole_rules = (3, is_an_object)
    ∷ (4, has_version)
    ∷ (5, lists_storages)
    ∷ (6, has_known_members)
    ∷ (7, has_few_storages)
    ∷ []

-- rules 8 to 18, of all storages together
abbrev pub storage_rules : List (ℕ × (List ListedThing → Bool))
storage_rules = (8, storages_have_known_members)
    ∷ (9, are_named)
    ∷ (10, names_differ)
    ∷ (11, sizes_are_in_range)
    ∷ (12, minimums_are_below)
    ∷ (13, maximums_fit_together)
    ∷ (14, collections_have_strategies)
    ∷ (15, read_only_is_said)
    ∷ (16, redundancies_are_objects)
    ∷ (17, redundancies_have_counts)
    ∷ (18, elements_are_few)
    ∷ []

-- rules 19 to 24, of the elements of all storages together
abbrev pub element_rules : List (ℕ × (List ListedThing → Bool))
element_rules = (19, λ ss. elements_have_known_members (all_elements ss))
    ∷ (20, elements_are_named)
    ∷ (21, λ ss. keys_have_types (all_elements ss))
    ∷ (22, λ ss. initials_are_read (all_elements ss))
    ∷ (23, λ ss. elements_have_strategies (all_elements ss))
    ∷ (24, initials_fit)
    ∷ []

-- the first violated rule, or else the later one
abbrev pub or_else : Option ℕ → Option ℕ → Option ℕ
or_else None later = later
or_else (Some rule) later = Some rule

-- the number of the first of the rules 3 to 24 that a JSON value violates
unfoldable pub first_violated : Data → Option ℕ
first_violated d = or_else (first_broken whole_rules d) (or_else (first_broken storage_rules (storages d))
    (first_broken element_rules (storages d)))
