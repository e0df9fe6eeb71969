-- What an opening that nothing refuses may rely on, and what it makes of a table.
use Rattle.std.proofs.Common.{◌≡◌, ℕ, ◌+◌, ◌≤◌, List, [], ◌∷◌, length, Bool, true, false, cond, refl, sym, ◌∙◌, ap}
use Rattle.std.proofs.Common.{subst, arith}
use Rattle.std.proofs.Common.{◌<◌, ◌-◌}
use Rattle.std.specs.Prelude.{Option, Some, None, IsTrue, option_map, is_some, find, not, ◌&&◌, ◌||◌, nat_le, nat_lt}
use Rattle.std.specs.Prelude.{Result, Ok, Err}
use Rattle.std.specs.declared.cmp.Ordering.{Ordering}
use Rattle.std.specs.declared.cmp.Ordering.TheVariants.{Less, Equal, Greater}
use Rattle.std.specs.List.Sorted.{IsStrictlySortedBy}
use Rattle.std.proofs.lemmas.Bool.Decides.{nat_tests}
use Rattle.std.proofs.lemmas.Cmp.{eq_by_cmp_equiv, nat_list_cmp_total}
use Rattle.std.proofs.lemmas.Map.Entries.{length-keys_of}
use Rattle.file_core.specs.declared.cursor.Cursor.{Cursor}
use Rattle.file_core.specs.Files.{changed_to, file_of, opened_at}
use Rattle.file_core.specs.Infos.{made}
use Rattle.per_base.specs.declared.elements.Cause.TheVariants.{Application}
use Rattle.per_base.specs.declared.opening.OpenMode.{OpenMode}
use Rattle.per_base.specs.Modes.{at_beginning, at_end, truncates, appends}
use Rattle.file_handles.specs.declared.storage.Storage.{Storage}
use Rattle.file_handles.specs.lemmas.Entries.{size_set, size_insert, len_fits}
use Rattle.file_handles.specs.lemmas.Sound.{Unheld, opened, unheld_missing}
use Rattle.std.specs.BTreeMap.{insert_entry, is_at}
use Rattle.std.specs.Cmp.{Equal-is, IsTotalOrder}
use Rattle.std.specs.Map.{keys_of, lookup, remove_entry}
use Rattle.std.specs.Ordering.{is_eq, match_ordering, nat_cmp}
use Rattle.std.specs.Str.{bytes_eq}
use Rattle.std.proofs.lemmas.Map.Lookups.{exact_bytes}
use Rattle.std.proofs.lemmas.Slice.Eq.{bytes_eq-Decides}
use Rattle.per_base.specs.declared.elements.Element.{Element}
use Rattle.per_base.specs.declared.errors.Limit.TheVariants.{Elements}
use Rattle.per_base.specs.declared.errors.PerError.{PerError}
use Rattle.per_base.specs.declared.errors.PerError.TheVariants.{LimitReached, OutOfStorageSpace}
use Rattle.per_base.specs.declared.opening.OpenKind.{OpenKind}
use Rattle.per_base.specs.Maps.{Map, element_at, has, with_element, without, size_of}
use Rattle.per_base.specs.Names.{name_cmp}
use Rattle.per_base.specs.Contents.{is_readable}
use Rattle.per_base.specs.Refusals.{or_next}
use Rattle.file_core.specs.Places.{writes, is_bad_mode, opening_place}
use Rattle.file_handles.specs.declared.handle.Handle.{Handle}
use Rattle.file_handles.specs.Opening.{when, busy, can_open, file_opened, is_unreadable, no_room_to_create}
use Rattle.file_handles.specs.Opening.{open_file, too_many, with_opened}
use Rattle.file_handles.specs.Sessions.{Session, Handles, IsHeldAt, blocks, blocking, free_number, handle_at}
use Rattle.file_handles.specs.Sessions.{with_handle}
use Rattle.file_handles.specs.Tables.{AreFiles, Held, IsTable, Numbered}
use Rattle.file_handles.specs.lemmas.Numbers.{free_from_few, one_or_more}
use Rattle.file_handles.specs.lemmas.Lookups.{file_put}
use Rattle.file_handles.specs.lemmas.Whole.{file_there, made_is_file, opened_is_file, whole_put}

pub first_none : (a b : Option PerError) → or_next a b ≡ None → (a ≡ None) × (b ≡ None)
first_none None b e = (refl, e)
first_none (Some x) b e = absurd (cc)

pub when_none : (test : Bool) (error : PerError) → when test error ≡ None → test ≡ false
when_none false error e = refl
when_none true error e = absurd (cc)

-- where none is found, each handle fails the test
pub none_found : (test : ℕ × Handle → Bool) (handles : Handles) → option_map (λ e. e.0) (find test handles) ≡ None
    → (number : ℕ) (handle : Handle) → handle_at handles number ≡ Some handle → (key : ℕ) × (test (key, handle) ≡ false)
none_found test [] none number handle at = absurd (cc)
none_found test (e ∷ es) none number handle at = by (test e) refl (is_at (nat_cmp number) e.0) refl
    (λ rest. none_found test es rest number handle)
  where
    by : (b : Bool) → test e ≡ b → (here : Bool) → is_at (nat_cmp number) e.0 ≡ here
        → (option_map (λ x. x.0) (find test es) ≡ None → handle_at es number ≡ Some handle
        → (key : ℕ) × (test (key, handle) ≡ false))
        → (key : ℕ) × (test (key, handle) ≡ false)
    by true p here q later = absurd (cc (rw p at none))
    by false p true q later = let same : e.1 ≡ handle = cc (rw q at at) in
        (e.0, subst (λ h. test (e.0, h) ≡ false) same p)
    by false p false q later = later (rw p at none) (rw q at at)

both_false : (a b c : Bool) → a ≡ true → (a && (b || c)) ≡ false → (c ≡ false) × (b ≡ false)
both_false true false false p e = (refl, refl)
both_false true true c p e = absurd (cc)
both_false true false true p e = absurd (cc)
both_false false b c p e = absurd (cc)

-- where no handle conflicts, those on the file only read, and so will the new one
pub not_blocked : (kind : OpenKind) (name : List ℕ) (handles : Handles) → blocking kind name handles ≡ None
    → (number : ℕ) (handle : Handle) → handle_at handles number ≡ Some handle → handle.name ≡ name
    → (writes handle.cursor.kind ≡ false) × (writes kind ≡ false)
not_blocked kind name handles none number handle at one =
    let found : (key : ℕ) × (blocks kind name handle ≡ false) =
    none_found (λ e. blocks kind name e.1) handles none number handle at in
    both_false (bytes_eq handle.name name) (writes kind) (writes handle.cursor.kind)
    ((bytes_eq-Decides handle.name name).1 one) found.1

-- handles stay held where the file at one name is another that holds its handles
pub held_put : (files : Map) (handles : Handles) (name : List ℕ) (new : Element) → Held files handles
    → ((number : ℕ) (handle : Handle) → handle_at handles number ≡ Some handle → handle.name ≡ name
    → IsHeldAt (Some new) handle.cursor.position) → Held (with_element files name new) handles
held_put files handles name new held on n h at = by (is_at (name_cmp h.name) name) refl
  where
    by : (b : Bool) → is_at (name_cmp h.name) name ≡ b → IsHeldAt (element_at (with_element files name new) h.name)
        h.cursor.position
    by true p =
        let here : element_at (with_element files name new) h.name ≡ Some new = rw file_put (rw p refl) in
        subst (λ file. IsHeldAt file h.cursor.position) (sym here)
        (on n h at (exact_bytes h.name name ((Equal-is (name_cmp h.name name)).0 p)))
    by false p =
        let there : element_at (with_element files name new) h.name ≡ element_at files h.name =
        rw file_put (rw p refl) in
        subst (λ file. IsHeldAt file h.cursor.position) (sym there) (held n h at)

pub put_there : (files : Map) (name : List ℕ) (new : Element) → element_at (with_element files name new) name ≡ Some new
put_there files name new =
    let itself : is_at (name_cmp name) name ≡ true = (eq_by_cmp_equiv nat_list_cmp_total).refl name in
    rw file_put (rw itself refl)

-- an entry that is put where there was none, and removed again, leaves the map as it was
pub put_removed : {K X : Type 0} {R : K → K → Ordering} → IsTotalOrder R → (k : K) (v : X) (es : List (K × X))
    → lookup (is_at (R k)) es ≡ None → remove_entry (is_at (R k)) (insert_entry R es k v) ≡ es
put_removed {R = R} o k v [] none = let itself : is_eq (R k k) ≡ true = (eq_by_cmp_equiv o).refl k in rw itself refl
put_removed {K = K} {X = X} {R = R} o k v (e ∷ es) none = by (R k e.0) refl (λ rest. put_removed o k v es rest)
  where
    by : (r : Ordering) → R k e.0 ≡ r → (lookup (is_at (R k)) es ≡ None
        → remove_entry (is_at (R k)) (insert_entry R es k v) ≡ es)
        → remove_entry (is_at (R k)) (match_ordering r ((k, v) ∷ e ∷ es) ((e.0, v) ∷ es) (e ∷ insert_entry R es k v))
        ≡ e ∷ es
    by Less p later = let itself : is_eq (R k k) ≡ true = (eq_by_cmp_equiv o).refl k in rw itself refl
    by Equal p later = absurd (cc (rw p at none))
    by Greater p later = rw p (ap (λ l. e ∷ l) (later (rw p at none)))

pub file_put_removed : (files : Map) (name : List ℕ) (new : Element) → element_at files name ≡ None
    → without (with_element files name new) name ≡ files
file_put_removed files name new none = put_removed nat_list_cmp_total name new files none

-- a new place is in the file
pub placed_inside : (kind : OpenKind) (mode : OpenMode) (size : ℕ) → (opening_place kind mode size).position ≤ size
placed_inside kind mode size = by (at_end mode)
  where
    by : (b : Bool) → cond b size 0 ≤ size
    by true = omega arith
    by false = omega arith

-- what an opening leaves of a readable file
opened_good : (b t : Bool) (now : ℕ) (old : Element) → is_readable old.content ≡ true
    → is_readable (cond b old (cond t (changed_to [] now Application (opened_at now old)) (opened_at now old))).content
    ≡ true
opened_good true t now old g = g
opened_good false true now old g = refl
opened_good false false now old g = g

opened_len : (b t : Bool) (now : ℕ) (old : Element) → (cond b old
    (cond t (changed_to [] now Application (opened_at now old)) (opened_at now old))).len ≤ old.len
opened_len true t now old = omega arith
opened_len false true now old = omega arith
opened_len false false now old = omega arith

opened_held : (b t : Bool) (now : ℕ) (old : Element) (position : ℕ) → t ≡ false → IsHeldAt (Some old) position
    → IsHeldAt (Some (cond b old (cond t (changed_to [] now Application (opened_at now old)) (opened_at now old))))
    position
opened_held true t now old position e h = h
opened_held false true now old position e h = absurd (cc)
opened_held false false now old position e h = h

-- a reader may not empty the file
no_reader_truncates : (a b w t p : Bool) → ((a && b) || (not w && (t || p))) ≡ false → w ≡ false → t ≡ false
no_reader_truncates a b true t p e f = absurd (cc)
no_reader_truncates a b false false p e f = refl
no_reader_truncates true true false true p e f = absurd (cc)
no_reader_truncates true false false true p e f = absurd (cc)
no_reader_truncates false b false true p e f = absurd (cc)

-- the number of a new handle is one of the table's
new_number : (handles : Handles) (number : ℕ) → IsStrictlySortedBy nat_cmp (keys_of handles) → Numbered handles
    → number ≡ free_number handles → length handles < 64 → (1 ≤ number) × (number ≤ 64)
new_number handles number sorted numbered is few =
    let least : 1 ≤ free_number handles = one_or_more handles sorted numbered in
    let most : free_number handles ≤ 1 + length handles = free_from_few 1 handles in
    (omega (arith, is, least), omega (arith, is, most, few))

-- what is known where nothing refuses an opening
pub record Allowed (storage : Storage) (files : Map) (handles : Handles) (name : List ℕ) (kind : OpenKind)
    (mode : OpenMode) : Type 0 where
  pub flags : is_bad_mode kind mode ≡ false
  pub good : is_unreadable (element_at files name) ≡ false
  pub alone : blocking kind name handles ≡ None
  pub few : length handles < 64
  pub new : too_many files name ≡ None

busy_none : (found : Option ℕ) → busy found ≡ None → found ≡ None
busy_none None e = refl
busy_none (Some n) e = absurd (cc)

pub allowed : (storage : Storage) (files : Map) (handles : Handles) (name : List ℕ) (kind : OpenKind) (mode : OpenMode)
    → can_open storage (record { files = files; handles = handles }) name kind mode ≡ None
    → Allowed storage files handles name kind mode
allowed storage files handles name kind mode e =
    let a = first_none _ _ e in
    let b = first_none _ _ a.1 in
    let d = first_none _ _ b.1 in
    let f = first_none _ _ d.1 in
    let g = first_none _ _ f.1 in
    let h = first_none _ _ g.1 in
    let many : nat_le 64 (length handles) ≡ false = when_none _ _ h.0 in
    record {
      flags = when_none _ _ a.0;
      good = when_none _ _ f.0;
      alone = busy_none _ g.0;
      few = grind (arith, nat_tests, many);
      new = h.1;
    }

good_there : (files : Map) (name : List ℕ) (old : Element) → element_at files name ≡ Some old
    → is_unreadable (element_at files name) ≡ false → is_readable old.content ≡ true
good_there files name old is e = by (is_readable old.content) (rw is at e)
  where
    by : (b : Bool) → not b ≡ false → b ≡ true
    by true p = refl
    by false p = absurd (cc)

pub record OpenedHandle (storage : Storage) (files : Map) (handles : Handles) (new_files : Map) (later : Handles)
    (name : List ℕ) (kind : OpenKind) (mode : OpenMode) (now number : ℕ) : Type 0 where
  pub sound : IsTable storage new_files later
  pub answer : open_file storage (record { files = files; handles = handles }) name kind mode now
      ≡ Ok (number, record { files = new_files; handles = later })

answered : (files : Map) (handles : Handles) (new_files : Map) (later : Handles) (name : List ℕ) (kind : OpenKind)
    (mode : OpenMode) (number : ℕ) (cursor : Cursor) (new : Element) → new_files ≡ with_element files name new
    → later ≡ with_handle handles number (record { name = name; cursor = cursor }) → number ≡ free_number handles
    → cursor ≡ opening_place kind mode new.len → (let answer : Result (ℕ × Session) PerError =
    Ok (with_opened (record { files = files; handles = handles }) name kind mode new) in
    answer ≡ Ok (number, record { files = new_files; handles = later }))
answered files handles new_files later name kind mode number cursor new is_files is_handles numbering placing =
    rw (is_files, is_handles, placing, numbering) refl

pub opened_present : (storage : Storage) (files : Map) (handles : Handles) (new_files : Map) (later : Handles)
    (name : List ℕ) (kind : OpenKind) (mode : OpenMode) (now number : ℕ) (cursor : Cursor) (old : Element)
    → IsTable storage files handles → can_open storage (record { files = files; handles = handles }) name kind mode
    ≡ None → element_at files name ≡ Some old → cursor ≡ opening_place kind mode
    (file_opened storage.read_only mode now (Some old)).len → number ≡ free_number handles
    → new_files ≡ with_element files name (file_opened storage.read_only mode now (Some old))
    → keys_of new_files ≡ keys_of files → later ≡ with_handle handles number (record { name = name; cursor = cursor })
    → IsStrictlySortedBy nat_cmp (keys_of later) → length later ≤ length handles + 1
    → OpenedHandle storage files handles new_files later name kind mode now number
opened_present storage files handles new_files later name kind mode now number cursor old t free there placing numbering
    is_files names is_handles numbers few =
    let a : Allowed storage files handles name kind mode = allowed storage files handles name kind mode free in
    let new : Element = file_opened storage.read_only mode now (Some old) in
    let few_before : length handles < 64 = a.few in
    let few_files : length files ≤ 1024 = t.few_files in
    let room : size_of files ≤ storage.maximum = t.room in
    let smaller : new.len ≤ old.len = opened_len storage.read_only (truncates mode) now old in
    let sizes : size_of (with_element files name new) + old.len ≡ size_of files + new.len =
    size_set files name old new there t.names in
    let same_size : size_of new_files ≡ size_of (with_element files name new) = ap size_of is_files in
    let inside : cursor.position ≤ new.len = subst (λ (c : Cursor). c.position ≤ new.len) (sym placing)
    (placed_inside kind mode new.len) in
    let here : IsHeldAt (Some new) cursor.position = (
      opened_good storage.read_only (truncates mode) now old
          (good_there files name old there a.good),
      inside,
    ) in
    record {
      sound = opened storage files new_files handles later number (record { name = name; cursor = cursor }) t
          (subst (λ m. Held m handles) (sym is_files) (held_put files handles name new t.held (λ n h at one.
          opened_held storage.read_only (truncates mode) now old h.cursor.position
          (no_reader_truncates (at_beginning mode) (at_end mode) (writes kind) (truncates mode) (appends mode) a.flags
          (not_blocked kind name handles a.alone n h at one).1)
          (subst (λ file. IsHeldAt file h.cursor.position) (ap (element_at files) one ∙ there) (t.held n h at)))))
          (subst (λ ks. IsStrictlySortedBy name_cmp ks) (sym names) t.names)
          (omega (arith, length-keys_of new_files, length-keys_of files, ap length names, few_files))
          (omega (arith, same_size, sizes, smaller, room))
          (subst (λ m. IsHeldAt (element_at m name) cursor.position) (sym is_files)
          (subst (λ file. IsHeldAt file cursor.position) (sym (put_there files name new)) here))
          (λ n h at one. let r = not_blocked kind name handles a.alone n h at one in
          (r.0, subst (λ (c : Cursor). writes c.kind ≡ false) (sym placing) r.1))
          (new_number handles number t.numbers t.numbered numbering few_before)
          (subst AreFiles (sym is_files) (whole_put files name new t.whole
          (opened_is_file storage.read_only (truncates mode) now old
          (file_there files name old t.whole there))))
          is_handles numbers (omega (arith, few, few_before));
      answer = rw free (rw there (answered files handles new_files later name kind mode number cursor new is_files
          is_handles numbering placing));
    }

missing_room : (storage : Storage) (files : Map) (name : List ℕ) → element_at files name ≡ None
    → no_room_to_create storage files name ≡ None → size_of files + length name ≤ storage.maximum
missing_room storage files name missing none =
    let full : nat_lt storage.maximum (size_of files + length name) ≡ false =
    when_none (nat_lt storage.maximum (size_of files + length name))
    (OutOfStorageSpace (size_of files + length name) storage.maximum) (rw missing at none) in
    grind (arith, nat_tests, full)

pub missing_few : (files : Map) (name : List ℕ) → element_at files name ≡ None → too_many files name ≡ None
    → length files < 1024
missing_few files name missing none =
    let full : nat_le 1024 (length files) ≡ false = when_none (nat_le 1024 (length files)) (LimitReached Elements)
    (rw missing at none) in
    grind (arith, nat_tests, full)

pub opened_missing : (storage : Storage) (files : Map) (handles : Handles) (new_files : Map) (later : Handles)
    (name : List ℕ) (kind : OpenKind) (mode : OpenMode) (now number : ℕ) (cursor : Cursor)
    → IsTable storage files handles → can_open storage (record { files = files; handles = handles }) name kind mode
    ≡ None → element_at files name ≡ None → no_room_to_create storage files name ≡ None → cursor
    ≡ opening_place kind mode 0
    → number ≡ free_number handles → new_files ≡ with_element files name (file_of (Some (made now Application)) [])
    → IsStrictlySortedBy name_cmp (keys_of new_files) → length new_files ≤ length files + 1
    → later ≡ with_handle handles number (record { name = name; cursor = cursor })
    → IsStrictlySortedBy nat_cmp (keys_of later) → length later ≤ length handles + 1
    → OpenedHandle storage files handles new_files later name kind mode now number
opened_missing storage files handles new_files later name kind mode now number cursor t free missing space placing
    numbering is_files names few_new is_handles numbers few =
    let a : Allowed storage files handles name kind mode = allowed storage files handles name kind mode free in
    let new : Element = file_of (Some (made now Application)) [] in
    let few_before : length handles < 64 = a.few in
    let few_files : length files < 1024 = missing_few files name missing a.new in
    let room : size_of files + length name ≤ storage.maximum = missing_room storage files name missing space in
    let sizes : size_of (with_element files name new) ≡ size_of files + (length name + 0) =
    size_insert files name new missing in
    let same_size : size_of new_files ≡ size_of (with_element files name new) = ap size_of is_files in
    let inside : cursor.position ≤ 0 = subst (λ (c : Cursor). c.position ≤ 0) (sym placing) (placed_inside kind mode 0)
    in
    let here : IsHeldAt (Some new) cursor.position = (refl, inside) in
    let unheld : Unheld handles name = unheld_missing files handles name t.held missing in
    record {
      sound = opened storage files new_files handles later number (record { name = name; cursor = cursor }) t
          (subst (λ m. Held m handles) (sym is_files) (held_put files handles name new t.held
          (λ n h at one. absurd (unheld n h at one))))
          names
          (omega (arith, few_new, few_files))
          (omega (arith, same_size, sizes, room))
          (subst (λ m. IsHeldAt (element_at m name) cursor.position) (sym is_files)
          (subst (λ file. IsHeldAt file cursor.position) (sym (put_there files name new)) here))
          (λ n h at one. absurd (unheld n h at one))
          (new_number handles number t.numbers t.numbered numbering few_before)
          (subst AreFiles (sym is_files) (whole_put files name new t.whole
          (made_is_file (made now Application) [] (omega arith))))
          is_handles numbers (omega (arith, few, few_before));
      answer = rw free (rw space (rw missing (answered files handles new_files later name kind mode number cursor new
          is_files is_handles numbering placing)));
    }

-- the refusals of an opening, as its answer
pub refused_first : (storage : Storage) (s : Session) (name : List ℕ) (kind : OpenKind) (mode : OpenMode) (now : ℕ)
    (error : PerError) → can_open storage s name kind mode ≡ Some error
    → open_file storage s name kind mode now ≡ Err error
refused_first storage s name kind mode now error due = rw due refl

pub refused_space : (storage : Storage) (s : Session) (name : List ℕ) (kind : OpenKind) (mode : OpenMode) (now : ℕ)
    (error : PerError) → can_open storage s name kind mode ≡ None → no_room_to_create storage s.files name ≡ Some error
    → open_file storage s name kind mode now ≡ Err error
refused_space storage s name kind mode now error free due = rw (free, due) refl

-- the whole of an opening of a file that is there
pub present_sound : (storage : Storage) (files : Map) (handles : Handles) (new_files : Map) (later : Handles)
    (name : List ℕ) (kind : OpenKind) (mode : OpenMode) (now number : ℕ) (cursor : Cursor) (size before after : ℕ)
    → IsTable storage files handles → can_open storage (record { files = files; handles = handles }) name kind mode
    ≡ None → IsTrue (has files name) → size ≡ size_of files
    → ((old : Element) → element_at files name ≡ Some old → before ≡ old.len)
    → ((n : ℕ) (old : Element) → before ≡ old.len → after ≡ (file_opened storage.read_only mode n (Some old)).len)
    → after ≤ before → cursor ≡ opening_place kind mode after → number ≡ free_number handles
    → ((old : Element) → element_at files name ≡ Some old
    → new_files ≡ with_element files name (file_opened storage.read_only mode now (Some old)))
    → keys_of new_files ≡ keys_of files → later ≡ with_handle handles number (record { name = name; cursor = cursor })
    → IsStrictlySortedBy nat_cmp (keys_of later) → length later ≤ length handles + 1
    → IsTable storage new_files later × (size - (before - after) ≡ size_of new_files)
present_sound storage files handles new_files later name kind mode now number cursor size before after t free there
    measured is_before is_after smaller placing numbering is_files names is_handles numbers few =
    by (element_at files name) refl there
  where
    by : (found : Option Element) → element_at files name ≡ found → IsTrue (is_some found)
        → IsTable storage new_files later × (size - (before - after) ≡ size_of new_files)
    by None e h = absurd (cc)
    by (Some old) e h =
        let new : Element = file_opened storage.read_only mode now (Some old) in
        let length_before : before ≡ old.len = is_before old e in
        let length_after : after ≡ new.len = is_after now old length_before in
        let sizes : size_of (with_element files name new) + old.len ≡ size_of files + new.len =
        size_set files name old new e t.names in
        let same_size : size_of new_files ≡ size_of (with_element files name new) = ap size_of (is_files old e) in (
          (opened_present storage files handles new_files later name kind mode now number cursor old t free e
              (placing ∙ ap (opening_place kind mode) length_after) numbering (is_files old e) names is_handles numbers
              few).sound,
          omega (arith, measured, length_before, length_after, sizes, same_size, smaller, len_fits files name old e),
        )

-- the whole of an opening that creates its file
pub missing_sound : (storage : Storage) (files : Map) (handles : Handles) (new_files : Map) (later : Handles)
    (name : List ℕ) (kind : OpenKind) (mode : OpenMode) (now number : ℕ) (cursor : Cursor) (empty : Element)
    (size extra : ℕ) → IsTable storage files handles → can_open storage (record { files = files; handles = handles })
    name kind mode ≡ None → element_at files name ≡ None → no_room_to_create storage files name ≡ None
    → size ≡ size_of files → extra ≡ length name → empty ≡ file_of (Some (made now Application)) []
    → cursor ≡ opening_place kind mode 0 → number ≡ free_number handles → new_files ≡ with_element files name empty
    → IsStrictlySortedBy name_cmp (keys_of new_files) → length new_files ≤ length files + 1
    → later ≡ with_handle handles number (record { name = name; cursor = cursor })
    → IsStrictlySortedBy nat_cmp (keys_of later) → length later ≤ length handles + 1
    → IsTable storage new_files later × (size + extra ≡ size_of new_files)
missing_sound storage files handles new_files later name kind mode now number cursor empty size extra t free missing
    space measured longer is_empty placing numbering is_files names few_new is_handles numbers few =
    let new : Element = file_of (Some (made now Application)) [] in
    let files_are : new_files ≡ with_element files name new = is_files ∙ ap (with_element files name) is_empty in
    let sizes : size_of (with_element files name new) ≡ size_of files + (length name + 0) =
    size_insert files name new missing in
    let same_size : size_of new_files ≡ size_of (with_element files name new) = ap size_of files_are in (
      (opened_missing storage files handles new_files later name kind mode now number cursor t free missing space
          placing numbering files_are names few_new is_handles numbers few).sound,
      omega (arith, measured, longer, sizes, same_size),
    )
