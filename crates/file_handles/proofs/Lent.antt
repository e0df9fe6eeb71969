-- The bytes of files moved into changes, and back.
use Rattle.std.proofs.Common.{◌≡◌, ◌+◌, ◌==◌, ◌<◌, ℕ, List, [], ◌∷◌, ◌++◌, length, take, drop}
use Rattle.std.proofs.Common.{Bool, true, false, cond, refl, sym, ◌∙◌, ap, subst, arith, append_assoc}
use Rattle.std.proofs.lemmas.Bool.{eq-eqb, eqb-true}
use Rattle.std.proofs.lemmas.Cmp.{eq_by_cmp_equiv, nat_list_cmp_total}
use Rattle.std.proofs.lemmas.Map.{keys-set_value}
use Rattle.std.proofs.lemmas.Map.Entries.{length-keys_of}
use Rattle.std.proofs.lemmas.Map.Lookups.{exact_bytes}
use Rattle.std.proofs.lemmas.Map.Steps.{set_value_same}
use Rattle.std.specs.Prelude.{Option, Some, None, IsSome, map, unwrap_or}
use Rattle.std.specs.BTreeMap.{is_at}
use Rattle.std.specs.Cmp.{Equal-is}
use Rattle.std.specs.List.{AllByRecursion}
use Rattle.std.specs.List.Sorted.{IsStrictlySortedBy}
use Rattle.std.specs.Map.{keys_of, set_value}
use Rattle.std.specs.Ordering.{is_eq}
use Rattle.std.specs.declared.cmp.Ordering.TheVariants.{Less}
use Rattle.per_base.specs.declared.elements.Change.{Change}
use Rattle.per_base.specs.declared.elements.Change.TheVariants.{Put, Remove, Touch}
use Rattle.per_base.specs.declared.elements.Content.{Content}
use Rattle.per_base.specs.declared.elements.Content.TheVariants.{Good, Bad}
use Rattle.per_base.specs.declared.elements.Element.{Element}
use Rattle.per_base.specs.declared.elements.Fresh.{Fresh}
use Rattle.per_base.specs.Changes.{changed_name}
use Rattle.per_base.specs.Contents.{HasLength, is_readable}
use Rattle.per_base.specs.Maps.{Map, element_at, size_of, with_element}
use Rattle.per_base.specs.Names.{NamesAscend, name_cmp}
use Rattle.file_core.specs.Files.{IsFile, good_bytes, with_bytes, without_bytes}
use Rattle.file_handles.specs.declared.storage.Storage.{Storage}
use Rattle.file_handles.specs.Lending.{PutsReadable, all_filled, all_lent, all_put_back, bytes_there, filled, lent}
use Rattle.file_handles.specs.Lending.{put_back, remade}
use Rattle.file_handles.specs.Sessions.{Handles, IsHeldAt, SameBeside}
use Rattle.file_handles.specs.Tables.{AreFiles, Held, IsTable}
use Rattle.file_handles.specs.lemmas.Entries.{file_set, size_set}
use Rattle.file_handles.specs.lemmas.Lookups.{file_put}
use Rattle.file_handles.specs.lemmas.Named.{beside_put}
use Rattle.file_handles.specs.lemmas.Whole.{file_there, whole_put}

-- ---- what is made of one file

-- what a call does that finds a file, or none, is what `remade` says
pub remade_is : (files later : Map) (name : List ℕ) (make : Element → Element)
    → ((file : Element) → element_at files name ≡ Some file → later ≡ with_element files name (make file))
    → (element_at files name ≡ None → later ≡ files) → later ≡ remade files name make (element_at files name)
remade_is files later name make some none = by (element_at files name) refl
  where
    by : (found : Option Element) → element_at files name ≡ found → later ≡ remade files name make found
    by None p = none p
    by (Some file) p = some file p

-- names, sizes and all else that makes a map one of files stay
pub record IsStill (files later : Map) : Type 0 where
  pub keys : keys_of later ≡ keys_of files
  pub size : size_of later ≡ size_of files
  pub whole : AreFiles later

abbrev Sorted : Map → Type 0
Sorted files = IsStrictlySortedBy name_cmp (keys_of files)

sorted_still : (files later : Map) → Sorted files → IsStill files later → Sorted later
sorted_still files later sorted still = subst (λ ks. IsStrictlySortedBy name_cmp ks) (sym still.keys) sorted

still_on : (files mid later : Map) → IsStill files mid → IsStill mid later → IsStill files later
still_on files mid later a b = record { keys = b.keys ∙ a.keys; size = b.size ∙ a.size; whole = b.whole }

module _ (make : Element → Element) (same_len : (file : Element) → (make file).len ≡ file.len)
    (stays_file : (file : Element) → IsFile file → IsFile (make file))
  where
    remade_still : (files : Map) (name : List ℕ) → Sorted files → AreFiles files
        → IsStill files (remade files name make (element_at files name))
    remade_still files name sorted whole = by (element_at files name) refl
      where
        by : (found : Option Element) → element_at files name ≡ found → IsStill files (remade files name make found)
        by None p = record { keys = refl; size = refl; whole = whole }
        by (Some file) p =
            let set = file_set files name file (make file) p sorted in
            let sizes = size_set files name file (make file) p sorted in
            let len = same_len file in
            record {
              keys = ap keys_of (sym set) ∙ keys-set_value (is_at (name_cmp name)) files (make file);
              size = omega (arith, sizes, len);
              whole = whole_put files name (make file) whole (stays_file file (file_there files name file whole p));
            }

-- what has another name stays
remade_beside : (files : Map) (name : List ℕ) (make : Element → Element)
    → SameBeside files (remade files name make (element_at files name)) name
remade_beside files name make = by (element_at files name)
  where
    by : (found : Option Element) → SameBeside files (remade files name make found) name
    by None other differ = refl
    by (Some file) other differ = beside_put files name (make file) other differ

without_len : (file : Element) → (without_bytes file).len ≡ file.len
without_len file = by (is_readable file.content)
  where
    by : (b : Bool) → (cond b (record file { content = Bad None }) file).len ≡ file.len
    by true = refl
    by false = refl

without_file : (file : Element) → IsFile file → IsFile (without_bytes file)
without_file file is = by (is_readable file.content)
  where
    by : (b : Bool) → IsFile (cond b (record file { content = Bad None }) file)
    by true = record { informed = is.informed; measured = tt; small = is.small }
    by false = is

with_len : (bytes : List ℕ) (file : Element) → (with_bytes bytes file).len ≡ file.len
with_len bytes file = by (length bytes == file.len)
  where
    by : (b : Bool) → (cond b (record file { content = Good bytes }) file).len ≡ file.len
    by true = refl
    by false = refl

with_file : (bytes : List ℕ) (file : Element) → IsFile file → IsFile (with_bytes bytes file)
with_file bytes file is = by (length bytes == file.len) refl
  where
    by : (b : Bool) → (length bytes == file.len) ≡ b → IsFile (cond b (record file { content = Good bytes }) file)
    by true p = record { informed = is.informed; measured = eqb-true (length bytes) file.len p; small = is.small }
    by false p = is

lent_still : (files : Map) (change : Change) → Sorted files → AreFiles files → IsStill files (lent files change)
lent_still files (Put f) sorted whole = remade_still without_bytes without_len without_file files f.name sorted whole
lent_still files (Remove name) sorted whole = record { keys = refl; size = refl; whole = whole }
lent_still files (Touch name info) sorted whole = record { keys = refl; size = refl; whole = whole }

back_still : (files : Map) (change : Change) → Sorted files → AreFiles files → IsStill files (put_back files change)
back_still files (Put f) sorted whole =
    remade_still (with_bytes f.bytes) (with_len f.bytes) (with_file f.bytes) files f.name sorted whole
back_still files (Remove name) sorted whole = record { keys = refl; size = refl; whole = whole }
back_still files (Touch name info) sorted whole = record { keys = refl; size = refl; whole = whole }

pub all_lent_still : (files : Map) (changes : List Change) → Sorted files → AreFiles files
    → IsStill files (all_lent files changes)
all_lent_still files [] sorted whole = record { keys = refl; size = refl; whole = whole }
all_lent_still files (c ∷ cs) sorted whole =
    let one = lent_still files c sorted whole in
    still_on files (lent files c) (all_lent (lent files c) cs) one
    (all_lent_still (lent files c) cs (sorted_still files (lent files c) sorted one) one.whole)

pub all_back_still : (files : Map) (changes : List Change) → Sorted files → AreFiles files
    → IsStill files (all_put_back files changes)
all_back_still files [] sorted whole = record { keys = refl; size = refl; whole = whole }
all_back_still files (c ∷ cs) sorted whole =
    let all = all_back_still files cs sorted whole in
    still_on files (all_put_back files cs) (put_back (all_put_back files cs) c) all
    (back_still (all_put_back files cs) c (sorted_still files (all_put_back files cs) sorted all) all.whole)

-- ---- what handles stand on

held_with : (bytes : List ℕ) (file : Element) (position : ℕ) → IsHeldAt (Some file) position
    → IsHeldAt (Some (with_bytes bytes file)) position
held_with bytes file position held = by (length bytes == file.len)
  where
    by : (b : Bool) → IsHeldAt (Some (cond b (record file { content = Good bytes }) file)) position
    by true = (refl, held.1)
    by false = held

held_back : (files : Map) (change : Change) (name : List ℕ) (position : ℕ) → IsHeldAt (element_at files name) position
    → IsHeldAt (element_at (put_back files change) name) position
held_back files (Remove other) name position held = held
held_back files (Touch other info) name position held = held
held_back files (Put f) name position held = by (element_at files f.name) refl
  where
    by : (found : Option Element) → element_at files f.name ≡ found
        → IsHeldAt (element_at (remade files f.name (with_bytes f.bytes) found) name) position
    by None p = held
    by (Some file) p = subst (λ at. IsHeldAt at position)
        (sym (file_put files name f.name (with_bytes f.bytes file))) (at_name (is_at (name_cmp name) f.name) refl)
      where
        at_name : (b : Bool) → is_at (name_cmp name) f.name ≡ b
            → IsHeldAt (cond b (Some (with_bytes f.bytes file)) (element_at files name)) position
        at_name true t =
            let same : name ≡ f.name = exact_bytes name f.name ((Equal-is (name_cmp name f.name)).0 t) in
            held_with f.bytes file position (subst (λ at. IsHeldAt at position) (ap (element_at files) same ∙ p) held)
        at_name false t = held

held_all_back : (files : Map) (changes : List Change) (name : List ℕ) (position : ℕ)
    → IsHeldAt (element_at files name) position → IsHeldAt (element_at (all_put_back files changes) name) position
held_all_back files [] name position held = held
held_all_back files (c ∷ cs) name position held =
    held_back (all_put_back files cs) c name position (held_all_back files cs name position held)

-- ---- the table

still_table : (storage : Storage) (files later : Map) (handles : Handles) (size : ℕ)
    → IsTable storage files handles × (size ≡ size_of files) → IsStill files later → Held later handles
    → IsTable storage later handles × (size ≡ size_of later)
still_table storage files later handles size t still held =
    let few = t.0.few_files in
    let room = t.0.room in
    let sizes = still.size in (
      record {
        allowed = t.0.allowed;
        names = sorted_still files later t.0.names still;
        numbers = t.0.numbers;
        numbered = t.0.numbered;
        whole = still.whole;
        few_files = omega (arith, length-keys_of later, length-keys_of files, ap length still.keys, few);
        few_handles = t.0.few_handles;
        room = omega (arith, sizes, room);
        held = held;
        alone = t.0.alone;
      },
      t.1 ∙ sym still.size,
    )

none_held : (files : Map) (handles : Handles) → handles ≡ [] → Held files handles
none_held files [] none number handle at = absurd (cc)
none_held files (h ∷ hs) none number handle at = absurd (cc)

pub lent_table : (storage : Storage) (files later : Map) (handles : Handles) (size : ℕ) (changes : List Change)
    → IsTable storage files handles × (size ≡ size_of files) → handles ≡ [] → later ≡ all_lent files changes
    → IsTable storage later handles × (size ≡ size_of later)
lent_table storage files later handles size changes t free is = still_table storage files later handles size t
    (subst (IsStill files) (sym is) (all_lent_still files changes t.0.names t.0.whole)) (none_held later handles free)

pub back_table : (storage : Storage) (files later : Map) (handles : Handles) (size : ℕ) (changes : List Change)
    → IsTable storage files handles × (size ≡ size_of files) → later ≡ all_put_back files changes
    → IsTable storage later handles × (size ≡ size_of later)
back_table storage files later handles size changes t is = still_table storage files later handles size t
    (subst (IsStill files) (sym is) (all_back_still files changes t.0.names t.0.whole))
    (subst (λ m. Held m handles) (sym is)
    (λ number handle at. held_all_back files changes handle.name handle.cursor.position (t.0.held number handle at)))

-- ---- there and back

set_twice : {K X : Type 0} (test : K → Bool) (es : List (K × X)) (v w : X)
    → set_value test (set_value test es v) w ≡ set_value test es w
set_twice test [] v w = refl
set_twice {K = K} {X = X} test (e ∷ es) v w = by (test e.0) refl (set_twice test es v w)
  where
    by : (b : Bool) → test e.0 ≡ b → set_value test (set_value test es v) w ≡ set_value test es w
        → set_value test (cond b ((e.0, v) ∷ es) (e ∷ set_value test es v)) w
        ≡ cond b ((e.0, w) ∷ es) (e ∷ set_value test es w)
    by true p later = rw p refl
    by false p later = rw p (ap (λ l. e ∷ l) later)

found_put : (files : Map) (name : List ℕ) (file : Element) → element_at (with_element files name file) name ≡ Some file
found_put files name file =
    let itself : is_at (name_cmp name) name ≡ true = (eq_by_cmp_equiv nat_list_cmp_total).refl name in
    file_put files name name file ∙ rw itself refl

-- a file that is put where another stood, and that one then again
restored : (files : Map) (name : List ℕ) (old other : Element) → Sorted files → element_at files name ≡ Some old
    → with_element (with_element files name other) name old ≡ files
restored files name old other sorted is =
    let first : set_value (is_at (name_cmp name)) files other ≡ with_element files name other =
    file_set files name old other is sorted in
    let keys : keys_of (with_element files name other) ≡ keys_of files =
    ap keys_of (sym first) ∙ keys-set_value (is_at (name_cmp name)) files other in
    let second : set_value (is_at (name_cmp name)) (with_element files name other) old
    ≡ with_element (with_element files name other) name old =
    file_set (with_element files name other) name other old (found_put files name other)
    (subst (λ ks. IsStrictlySortedBy name_cmp ks) (sym keys) sorted) in
    sym second ∙ ap (λ m. set_value (is_at (name_cmp name)) m old) (sym first)
    ∙ set_twice (is_at (name_cmp name)) files other old ∙ set_value_same (is_at (name_cmp name)) files old is

-- a readable file, whose bytes are taken out and put back
whole_again : (file : Element) (bytes : List ℕ) → IsFile file → file.content ≡ Good bytes
    → (with_bytes bytes (without_bytes file) ≡ file) × (good_bytes file.content ≡ Some bytes)
whole_again file bytes is good =
    let len : length bytes ≡ file.len = subst (λ c. HasLength c file.len) good is.measured in
    let same : (length bytes == file.len) ≡ true = eq-eqb (length bytes) file.len len in
    (rw (good, same) refl, rw good refl)

-- the bytes of the file that a change puts, lent and put back
round_put : (files : Map) (f : Fresh) → Sorted files → AreFiles files → PutsReadable files (Put f)
    → put_back (lent files (Put f)) (filled files (Put f)) ≡ files
round_put files f sorted whole readable = by (element_at files f.name) refl readable
  where
    by : (found : Option Element) → element_at files f.name ≡ found → IsSome (bytes_there found)
        → remade (remade files f.name without_bytes found) f.name
        (with_bytes (unwrap_or (bytes_there found) f.bytes))
        (element_at (remade files f.name without_bytes found) f.name) ≡ files
    by None p there = absurd (cc)
    by (Some file) p there = good file.content refl there
      where
        good : (content : Content) → file.content ≡ content → IsSome (good_bytes content)
            → remade (with_element files f.name (without_bytes file)) f.name
            (with_bytes (unwrap_or (good_bytes content) f.bytes))
            (element_at (with_element files f.name (without_bytes file)) f.name) ≡ files
        good (Bad salvage) q there = absurd (cc)
        good (Good bytes) q there =
            let again : with_bytes bytes (without_bytes file) ≡ file =
            (whole_again file bytes (file_there files f.name file whole p) q).0 in
            ap (remade (with_element files f.name (without_bytes file)) f.name (with_bytes bytes))
            (found_put files f.name (without_bytes file))
            ∙ ap (with_element (with_element files f.name (without_bytes file)) f.name) again
            ∙ restored files f.name file (without_bytes file) sorted p

round_one : (files : Map) (change : Change) → Sorted files → AreFiles files → PutsReadable files change
    → put_back (lent files change) (filled files change) ≡ files
round_one files (Put f) sorted whole readable = round_put files f sorted whole readable
round_one files (Remove name) sorted whole readable = refl
round_one files (Touch name info) sorted whole readable = refl

-- ---- changes of other names

lent_beside : (files : Map) (change : Change) → SameBeside files (lent files change) (changed_name change)
lent_beside files (Put f) = remade_beside files f.name without_bytes
lent_beside files (Remove name) = λ other differ. refl
lent_beside files (Touch name info) = λ other differ. refl

filled_same : (files later : Map) (change : Change)
    → element_at later (changed_name change) ≡ element_at files (changed_name change)
    → filled later change ≡ filled files change
filled_same files later (Put f) same =
    ap (λ found. Put (record f { bytes = unwrap_or (bytes_there found) f.bytes })) same
filled_same files later (Remove name) same = refl
filled_same files later (Touch name info) same = refl

readable_same : (files later : Map) (change : Change)
    → element_at later (changed_name change) ≡ element_at files (changed_name change)
    → PutsReadable files change → PutsReadable later change
readable_same files later (Put f) same readable = subst (λ found. IsSome (bytes_there found)) (sym same) readable
readable_same files later (Remove name) same readable = tt
readable_same files later (Touch name info) same readable = tt

abbrev Above : List ℕ → List Change → Type 0
Above name changes = AllByRecursion (λ other. name_cmp name other ≡ Less) (map changed_name changes)

module _ (files later : Map) (name : List ℕ) (beside : SameBeside files later name) where
  same_above : (change : Change) → name_cmp name (changed_name change) ≡ Less
      → element_at later (changed_name change) ≡ element_at files (changed_name change)
  same_above change less = beside (changed_name change) (ap is_eq less)

  all_same : (changes : List Change) → Above name changes → map (filled later) changes ≡ map (filled files) changes
  all_same [] above = refl
  all_same (c ∷ cs) above = ap (λ one. one ∷ map (filled later) cs) (filled_same files later c (same_above c above.0))
      ∙ ap (λ l. filled files c ∷ l) (all_same cs above.1)

  all_readable : (changes : List Change) → Above name changes → AllByRecursion (PutsReadable files) changes
      → AllByRecursion (PutsReadable later) changes
  all_readable [] above readable = tt
  all_readable (c ∷ cs) above readable =
      (readable_same files later c (same_above c above.0) readable.0, all_readable cs above.1 readable.1)

above_rest : (c : Change) (cs : List Change) → NamesAscend changed_name (c ∷ cs)
    → Above (changed_name c) cs × NamesAscend changed_name cs
unfolding IsStrictlySortedBy
above_rest c cs ascend = (ascend.0, ascend.1)

-- each change gets the bytes of its file, and with the changes the files are as they were
pub all_round : (files : Map) (changes : List Change) → Sorted files → AreFiles files
    → NamesAscend changed_name changes → AllByRecursion (PutsReadable files) changes
    → (all_filled files changes ≡ map (filled files) changes)
    × (all_put_back (all_lent files changes) (all_filled files changes) ≡ files)
all_round files [] sorted whole ascend readable = (refl, refl)
all_round files (c ∷ cs) sorted whole ascend readable =
    let later = lent files c in
    let still = lent_still files c sorted whole in
    let order = above_rest c cs ascend in
    let beside = lent_beside files c in
    let on = all_round later cs (sorted_still files later sorted still) still.whole order.1
    (all_readable files later (changed_name c) beside cs order.0 readable.1) in (
      ap (λ l. filled files c ∷ l) (on.0 ∙ all_same files later (changed_name c) beside cs order.0),
      ap (λ m. put_back m (filled files c)) on.1 ∙ round_one files c sorted whole readable.0,
    )

-- ---- the loops

-- what is left to lend, and the changes so far with those that are left
pub record IsLending (first files : Map) (start now : List Change) (at : ℕ) : Type 0 where
  pub lends : all_lent files (drop at now) ≡ all_lent first start
  pub fills : take at now ++ all_filled files (drop at now) ≡ all_filled first start

-- one more change
pub lends_more : (first files later : Map) (start now next : List Change) (at : ℕ) (change new : Change)
    → IsLending first files start now at → at < length now → drop at now ≡ change ∷ drop (at + 1) now
    → new ≡ filled files change → later ≡ lent files change → take (at + 1) next ≡ take at now ++ new ∷ []
    → drop (at + 1) next ≡ drop (at + 1) now → IsLending first later start next (at + 1)
lends_more first files later start now next at change new is less here filled_as lent_as before after = record {
  lends = ap (all_lent later) after ∙ ap (λ m. all_lent m (drop (at + 1) now)) lent_as
      ∙ sym (ap (all_lent files) here) ∙ is.lends;
  fills = ap (λ l. l ++ all_filled later (drop (at + 1) next)) before
      ∙ append_assoc (take at now) (new ∷ []) (all_filled later (drop (at + 1) next))
      ∙ ap (λ l. take at now ++ new ∷ all_filled later l) after
      ∙ ap (λ m. take at now ++ new ∷ all_filled m (drop (at + 1) now)) lent_as
      ∙ ap (λ c. take at now ++ c ∷ all_filled (lent files change) (drop (at + 1) now)) filled_as
      ∙ sym (ap (λ l. take at now ++ all_filled files l) here) ∙ is.fills;
}

-- the last of the changes is the first to be put back
pub back_last : (files : Map) (changes : List Change) (last : Change)
    → all_put_back files (changes ++ last ∷ []) ≡ all_put_back (put_back files last) changes
back_last files [] last = refl
back_last files (c ∷ cs) last = ap (λ m. put_back m c) (back_last files cs last)
