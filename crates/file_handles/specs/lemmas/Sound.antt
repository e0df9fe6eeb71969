-- What keeps a table sound: a move, a change through a handle, a close, an opening, and a change of a file that no
-- handle has.
use Rattle.std.proofs.Common.{◌≡◌, ℕ, ◌≤◌, List, length, Bool, true, false, cond, refl, sym, ◌∙◌, ap, subst, arith}
use Rattle.std.specs.Prelude.{Option, Some, None, IsSome, IsTrue}
use Rattle.std.specs.BTreeMap.{is_at}
use Rattle.std.specs.Cmp.{Equal-is}
use Rattle.std.specs.Map.{keys_of}
use Rattle.std.specs.List.Sorted.{IsStrictlySortedBy}
use Rattle.std.specs.Ordering.{nat_cmp}
use Rattle.std.proofs.lemmas.Cmp.{eq_by_cmp_equiv, nat_cmp_total}
use Rattle.std.proofs.lemmas.Map.Lookups.{exact_bytes, exact_unsigned}
use Rattle.std.proofs.lemmas.Map.Entries.{length-keys_of}
use Rattle.per_base.specs.declared.elements.Element.{Element}
use Rattle.per_base.specs.Maps.{Map, element_at, size_of}
use Rattle.per_base.specs.Names.{name_cmp}
use Rattle.file_core.specs.declared.cursor.Cursor.{Cursor}
use Rattle.file_core.specs.Places.{writes}
use Rattle.file_handles.specs.declared.handle.Handle.{Handle}
use Rattle.file_handles.specs.declared.storage.Storage.{Storage}
use Rattle.file_handles.specs.Sessions.{Handles, IsFileAt, IsHeldAt, SameBeside, Session, handle_at, open_at, with_file}
use Rattle.file_handles.specs.Sessions.{with_handle, without_handle}
use Rattle.file_handles.specs.Tables.{Alone, AreFiles, Held, IsTable, Numbered}
use Rattle.file_handles.specs.lemmas.Lookups.{handle_put, handle_gone}
use Rattle.file_handles.specs.lemmas.Whole.{whole_beside}

-- a handle of these stands among those, under the same number, on the same file and of the same kind
pub record Stood (handles : Handles) (number : ℕ) (handle : Handle) : Type 0 where
  pub before : Handle
  pub there : handle_at handles number ≡ Some before
  pub name : handle.name ≡ before.name
  pub kind : handle.cursor.kind ≡ before.cursor.kind

pub alone_kept : (handles later : Handles) → Alone handles
    → ((number : ℕ) (handle : Handle) → handle_at later number ≡ Some handle → Stood handles number handle)
    → Alone later
alone_kept handles later alone stood number other writer rival is_writer is_rival w same =
    let a = stood number writer is_writer in
    let b = stood other rival is_rival in
    alone number other a.before b.before a.there b.there (subst (λ k. IsTrue (writes k)) a.kind w)
    (sym b.name ∙ same ∙ a.name)

-- where one handle is put, each is it or stood before
pub put_cases : (handles : Handles) (number : ℕ) (new : Handle) (P : ℕ → Handle → Type 0) → P number new
    → ((n : ℕ) (h : Handle) → handle_at handles n ≡ Some h → (n ≡ number → ⊥) → P n h) → (n : ℕ) (h : Handle)
    → handle_at (with_handle handles number new) n ≡ Some h → P n h
put_cases handles number new P here there n h is = by (is_at (nat_cmp n) number) refl
    (sym (handle_put handles n number new) ∙ is)
  where
    by : (b : Bool) → is_at (nat_cmp n) number ≡ b → cond b (Some new) (handle_at handles n) ≡ Some h → P n h
    by true p e =
        let same_number : number ≡ n = sym (exact_unsigned n number ((Equal-is (nat_cmp n number)).0 p)) in
        let same : new ≡ h = cc in
        subst (λ x. P n x) same (subst (λ m. P m new) same_number here)
    by false p e = there n h e (λ same.
        let itself : is_at (nat_cmp n) n ≡ true = (eq_by_cmp_equiv nat_cmp_total).refl n in
        let other : is_at (nat_cmp n) n ≡ false = subst (λ m. is_at (nat_cmp n) m ≡ false) (sym same) p in cc)

-- names that are not the same do not tie
pub apart : (name other : List ℕ) → (other ≡ name → ⊥) → is_at (name_cmp name) other ≡ false
apart name other differ = by (is_at (name_cmp name) other) refl
  where
    by : (b : Bool) → is_at (name_cmp name) other ≡ b → b ≡ false
    by true p = absurd (differ (sym (exact_bytes name other ((Equal-is (name_cmp name other)).0 p))))
    by false p = refl

pub moved : (storage : Storage) (files : Map) (handles later : Handles) (number : ℕ) (old : Handle) (cursor : Cursor)
    → IsTable storage files handles → handle_at handles number ≡ Some old → cursor.kind ≡ old.cursor.kind
    → IsHeldAt (element_at files old.name) cursor.position
    → later ≡ with_handle handles number (record old { cursor = cursor }) → keys_of later ≡ keys_of handles
    → IsTable storage files later
moved storage files handles later number old cursor t was kind inside is keys = record {
  allowed = t.allowed;
  names = t.names;
  numbers = subst (λ ks. IsStrictlySortedBy nat_cmp ks) (sym keys) t.numbers;
  few_files = t.few_files;
  few_handles = omega (arith, length-keys_of later, length-keys_of handles, ap length keys, t.few_handles);
  numbered = subst (λ hs. Numbered hs) (sym is) (put_cases handles number (record old { cursor = cursor })
      (λ n h. (1 ≤ n) × (n ≤ 64)) (t.numbered number old was) (λ n h at ne. t.numbered n h at));
  whole = t.whole;
  room = t.room;
  held = subst (λ hs. Held files hs) (sym is)
      (put_cases handles number (record old { cursor = cursor })
      (λ n h. IsHeldAt (element_at files h.name) h.cursor.position) inside (λ n h at ne. t.held n h at));
  alone = subst (λ hs. Alone hs) (sym is) (alone_kept handles
      (with_handle handles number (record old { cursor = cursor })) t.alone
      (put_cases handles number (record old { cursor = cursor }) (Stood handles)
      (record { before = old; there = was; name = refl; kind = kind })
      (λ n h at ne. record { before = h; there = at; name = refl; kind = refl })));
}

pub changed : (storage : Storage) (files new_files : Map) (handles later : Handles) (number : ℕ) (old : Handle)
    (cursor : Cursor) → IsTable storage files handles → handle_at handles number ≡ Some old
    → IsTrue (writes old.cursor.kind) → cursor.kind ≡ old.cursor.kind → keys_of new_files ≡ keys_of files
    → SameBeside files new_files old.name → size_of new_files ≤ storage.maximum
    → IsFileAt (element_at new_files old.name) → IsHeldAt (element_at new_files old.name) cursor.position
    → later ≡ with_handle handles number (record old { cursor = cursor }) → keys_of later ≡ keys_of handles
    → IsTable storage new_files later
changed storage files new_files handles later number old cursor t was writer kind names same room file inside is keys =
    record {
      allowed = t.allowed;
      names = subst (λ ks. IsStrictlySortedBy name_cmp ks) (sym names) t.names;
      numbers = subst (λ ks. IsStrictlySortedBy nat_cmp ks) (sym keys) t.numbers;
      few_files = omega (arith, length-keys_of new_files, length-keys_of files, ap length names, t.few_files);
      few_handles = omega (arith, length-keys_of later, length-keys_of handles, ap length keys, t.few_handles);
      numbered = subst (λ hs. Numbered hs) (sym is) (put_cases handles number (record old { cursor = cursor })
          (λ n h. (1 ≤ n) × (n ≤ 64)) (t.numbered number old was) (λ n h at ne. t.numbered n h at));
      whole = whole_beside files new_files old.name t.whole same file;
      room = room;
      held = subst (λ hs. Held new_files hs) (sym is)
          (put_cases handles number (record old { cursor = cursor })
          (λ n h. IsHeldAt (element_at new_files h.name) h.cursor.position) inside
          (λ n h at ne. subst (λ file. IsHeldAt file h.cursor.position)
          (sym (same h.name (apart old.name h.name (λ one. ne (t.alone number n old h was at writer one)))))
          (t.held n h at)));
      alone = subst (λ hs. Alone hs) (sym is) (alone_kept handles
          (with_handle handles number (record old { cursor = cursor })) t.alone
          (put_cases handles number (record old { cursor = cursor }) (Stood handles)
          (record { before = old; there = was; name = refl; kind = kind })
          (λ n h at ne. record { before = h; there = at; name = refl; kind = refl })));
    }

pub closed : (storage : Storage) (files : Map) (handles later : Handles) (number : ℕ) → IsTable storage files handles
    → later ≡ without_handle handles number → IsStrictlySortedBy nat_cmp (keys_of later) → length later ≤ 64
    → IsTable storage files later
closed storage files handles later number t is numbers few = record {
  allowed = t.allowed;
  names = t.names;
  numbers = numbers;
  few_files = t.few_files;
  few_handles = few;
  numbered = λ n h at. t.numbered n h (before n h at);
  whole = t.whole;
  room = t.room;
  held = λ n h at. t.held n h (before n h at);
  alone = alone_kept handles later t.alone (λ n h at. record {
    before = h;
    there = before n h at;
    name = refl;
    kind =
        refl;
  });
}
  where
    left : (b : Bool) (found : Option Handle) (h : Handle) → cond b None found ≡ Some h → found ≡ Some h
    left true found h e = absurd (cc)
    left false found h e = e

    before : (n : ℕ) (h : Handle) → handle_at later n ≡ Some h → handle_at handles n ≡ Some h
    before n h at = left (is_at (nat_cmp number) n) (handle_at handles n) h
        (sym (handle_gone handles n number t.numbers) ∙ subst (λ hs. handle_at hs n ≡ Some h) is at)

pub opened : (storage : Storage) (files new_files : Map) (handles later : Handles) (number : ℕ) (new : Handle)
    → IsTable storage files handles → Held new_files handles → IsStrictlySortedBy name_cmp (keys_of new_files)
    → length new_files ≤ 1024 → size_of new_files ≤ storage.maximum
    → IsHeldAt (element_at new_files new.name) new.cursor.position
    → ((n : ℕ) (h : Handle) → handle_at handles n ≡ Some h → h.name ≡ new.name
    → (writes h.cursor.kind ≡ false) × (writes new.cursor.kind ≡ false)) → (1 ≤ number) × (number ≤ 64)
    → AreFiles new_files → later ≡ with_handle handles number new → IsStrictlySortedBy nat_cmp (keys_of later)
    → length later ≤ 64 → IsTable storage new_files later
opened storage files new_files handles later number new t held names few_files room inside readers within whole is
    numbers few = record {
      allowed = t.allowed;
      names = names;
      numbers = numbers;
      few_files = few_files;
      few_handles = few;
      numbered = subst (λ hs. Numbered hs) (sym is) (put_cases handles number new (λ n h. (1 ≤ n) × (n ≤ 64)) within
          (λ n h at ne. t.numbered n h at));
      whole = whole;
      room = room;
      held = subst (λ hs. Held new_files hs) (sym is) (put_cases handles number new
          (λ n h. IsHeldAt (element_at new_files h.name) h.cursor.position) inside (λ n h at ne. held n h at));
      alone = subst (λ hs. Alone hs) (sym is) (λ n o writer rival is_writer is_rival.
          put_cases handles number new (λ m w. IsTrue (writes w.cursor.kind) → rival.name ≡ w.name → o ≡ m)
          (put_cases handles number new (λ m r. IsTrue (writes new.cursor.kind) → r.name ≡ new.name → m ≡ number)
          (λ w same. refl)
          (λ m r at ne w same. absurd (never new (readers m r at same).1 w))
          o rival is_rival)
          (λ m h at ne. put_cases handles number new (λ p r. IsTrue (writes h.cursor.kind) → r.name ≡ h.name → p ≡ m)
          (λ w same. absurd (never h (readers m h at (sym same)).0 w))
          (λ p r there others w same. t.alone m p h r at there w same)
          o rival is_rival)
          n writer is_writer);
    }
  where
    never : (h : Handle) → writes h.cursor.kind ≡ false → IsTrue (writes h.cursor.kind) → ⊥
    never h reads w = absurd (cc)

-- no handle is on this name
abbrev pub Unheld : Handles → List ℕ → Type 0
Unheld handles name = (number : ℕ) (handle : Handle) → handle_at handles number ≡ Some handle → handle.name ≡ name → ⊥

pub held_beside : (files later : Map) (handles : Handles) (name : List ℕ) → Held files handles
    → SameBeside files later name → Unheld handles name → Held later handles
held_beside files later handles name held same unheld n h at =
    subst (λ file. IsHeldAt file h.cursor.position) (sym (same h.name (apart name h.name (unheld n h at))))
    (held n h at)

pub unheld_missing : (files : Map) (handles : Handles) (name : List ℕ) → Held files handles
    → element_at files name ≡ None → Unheld handles name
unheld_missing files handles name held missing n h at one =
    subst (λ file. IsHeldAt file h.cursor.position) missing
    (subst (λ x. IsHeldAt (element_at files x) h.cursor.position) one (held n h at))

-- where there is a handle to move
pub moved_there : (storage : Storage) (files : Map) (handles later : Handles) (number : ℕ) (cursor : Cursor)
    → IsTable storage files handles → IsSome (handle_at handles number)
    → ((old : Handle) → handle_at handles number ≡ Some old
    → (cursor.kind ≡ old.cursor.kind) × IsHeldAt (element_at files old.name) cursor.position)
    → ((old : Handle) → handle_at handles number ≡ Some old
    → later ≡ with_handle handles number (record old { cursor = cursor })) → keys_of later ≡ keys_of handles
    → IsTable storage files later
moved_there storage files handles later number cursor t there stands is keys = by (handle_at handles number) refl there
  where
    by : (found : Option Handle) → handle_at handles number ≡ found → IsSome found → IsTable storage files later
    by None e s = absurd (cc)
    by (Some old) e s = moved storage files handles later number old cursor t e (stands old e).0 (stands old e).1
        (is old e) keys

pub held_inside : (files : Map) (handles : Handles) (number : ℕ) (handle : Handle) (file : Element) → Held files handles
    → handle_at handles number ≡ Some handle → element_at files handle.name ≡ Some file
    → handle.cursor.position ≤ file.len
held_inside files handles number handle file held at is =
    (subst (λ found. IsHeldAt found handle.cursor.position) is (held number handle at)).1

-- a handle has its file, which is readable, so a number that is not open has no handle
pub closed_without_handle : (s : Session) (number : ℕ) → Held s.files s.handles → open_at s number ≡ None
    → handle_at s.handles number ≡ None
closed_without_handle s number held none = by (handle_at s.handles number) refl
  where
    by : (handle : Option Handle) → handle_at s.handles number ≡ handle → handle_at s.handles number ≡ None
    by None e = e
    by (Some handle) e = with_its (element_at s.files handle.name) refl (held number handle e)
      where
        with_its : (file : Option Element) → element_at s.files handle.name ≡ file
            → IsHeldAt file handle.cursor.position → handle_at s.handles number ≡ None
        with_its None f h = absurd h
        with_its (Some file) f h =
            let is : with_file s.files (handle_at s.handles number) ≡ Some (handle, file) =
            rw (e, f, h.0) refl in absurd (cc)
