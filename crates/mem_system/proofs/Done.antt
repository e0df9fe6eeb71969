-- What each call of a folder in memory does to it as a system.
use Rattle.std.proofs.Common.{◌≡◌, ◌≢◌, ◌⊎◌, ◌↔◌, ℕ, ◌≤◌, List, [], ◌∷◌, ◌++◌, length, take, get_or, refl, sym, ap}
use Rattle.std.proofs.Common.{◌∙◌, subst, inl, inr, ⊎_elim, arith, Bool, true, false, if◌then◌else◌}
use Rattle.std.specs.Prelude.{Vec}
use Rattle.std.specs.declared.alloc.Global.{Global}
use Rattle.std.proofs.lemmas.List.{ext_get_or, length-take-le, get_or-take}
use Rattle.disk_model.specs.Image.{Image, put_image}
use Rattle.disk_model.specs.Case.{Case, Follows, IsSettledAt}
use Rattle.disk_model.specs.Medium.{Quiet, Elapses, OnlyReads, WritesNothing}
use Rattle.disk_model.specs.Laws.{elapses_none, reads_none}
use Rattle.disk_model.specs.History.{image_of}
use Rattle.system_model.specs.SystemMedium.{SystemMedium, IsSafe, IsWhole, HasNothingFree, InRange, TearCase}
use Rattle.system_model.specs.SystemMedium.{AnnounceCase, ShowsBytes, IsAbsent, Looks}
use Rattle.mem_system.specs.declared.record.Call.{Call}
use Rattle.mem_system.specs.declared.record.Call.TheVariants.{Announce, Write, Make, Sync, FailSync, SyncFolder, Settle}
use Rattle.mem_system.specs.declared.memory.MemSystem.{MemSystem}
use Rattle.mem_system.specs.History.{FolderState, IsLeft, bytes_written, after_call, state_after, folder_after}
use Rattle.mem_system.specs.History.{after_calls, all_durable, IsNoWrite, DropsNothing, DropNothing}
use Rattle.mem_system.specs.HistoryLaws.{is_bounded, folder_is_lawful}
use Rattle.mem_system.specs.Memory.{mem_medium, HasRecord, SameRecord, AddsCall}
use Rattle.mem_system.proofs.Moments.{time_goes_on, after, at_end, during, only_reads, looks}
use Rattle.mem_system.proofs.Told.{write_tears, torn_more, torn_none, same_image, again_fewer, sync_fewer}
use Rattle.mem_system.proofs.Told.{fail_fewer, make_fewer, names_fewer, announce_follows, settle_quiets}

-- ---- a record

-- what is so of a folder with this record is so of one that has it
pub on_record : (P : SystemMedium → Type 0) (a b : MemSystem) (calls : List Call) → HasRecord a b calls
    → P (folder_after (image_of a.start) calls) → P (mem_medium b)
on_record P a b calls has is =
    subst (λ cs. P (folder_after (image_of b.start) cs)) (sym has.calls_are)
    (subst (λ files. P (folder_after (image_of files) calls)) (sym has.start_is) is)

pub same_looks : (a b : MemSystem) → SameRecord a b → Looks (mem_medium a) (mem_medium b)
same_looks a b same =
    let law = folder_is_lawful (image_of a.start) a.history.items in
    on_record (λ m. Looks (mem_medium a) m) a b a.history.items same (record {
      reads = reads_none law;
      time = elapses_none law;
      named = λ f was. was;
      free = λ f i. (λ h. h, λ h. h);
      lost = λ f i h. h;
    })

pub same_image_of : (a b : MemSystem) → SameRecord a b → (mem_medium b).disk.image ≡ (mem_medium a).disk.image
same_image_of a b same = on_record (λ m. m.disk.image ≡ (mem_medium a).disk.image) a b a.history.items same refl

pub same_on : (a b c : MemSystem) → SameRecord a b → SameRecord b c → SameRecord a c
same_on a b c first next = record {
  start_is = next.start_is ∙ first.start_is;
  calls_are = next.calls_are ∙ first.calls_are;
}

pub noted_on : (a b c : MemSystem) (call : Call) → SameRecord a b → AddsCall call b c → AddsCall call a c
noted_on a b c call same noted = record {
  start_is = noted.start_is ∙ same.start_is;
  calls_are = noted.calls_are ∙ ap (λ cs. cs ++ call ∷ []) same.calls_are;
}

-- a file that is not in the folder
pub is_absent : (m : MemSystem) (f : ℕ) → image_of m.files f ≡ [] → IsAbsent (mem_medium m) f
is_absent m f none =
    let empty : (mem_medium m).disk.image f ≡ [] = ap (λ (i : Image). i f) (sym m.tied) ∙ none in
    let long : length ((mem_medium m).disk.image f) ≡ 0 = ap length empty in
    record {
      empty = empty;
      safe = λ c now. ⊎_elim
          (λ unnamed. unnamed.1 ∙ sym empty)
          (λ leaves.
          let high = leaves.no_longer in
          ext_get_or 0 (c.left f) ((mem_medium m).disk.image f) (omega (arith, high, long))
          (λ i lt. absurd (omega (arith, lt, high, long))))
          (now.left f);
      still = λ i free. let h = (is_bounded (image_of m.start) m.history.items).free f i free in omega (arith, h, long);
    }

-- ---- a write

-- the first n of the bytes are written
pub record Wrote (file at n : ℕ) (all : List ℕ) (old new : SystemMedium) : Type 0 where
  pub image : new.disk.image ≡ put_image old.disk.image file at (take n all)
  pub now : Follows (TearCase file at n) old.disk.now new.disk.now
  pub during : Follows (TearCase file at (length all)) old.disk.now (new.disk.since old.disk.moment)
  pub time : Elapses old.disk new.disk
  pub named : (f : ℕ) → old.named f → new.named f
  pub frees : (f i : ℕ) → new.free f i ↔ (old.free f i ⊎ ((f ≡ file) × InRange at n i))
  pub lost : (f i : ℕ) → new.lost f i → old.lost f i
  pub found : (i : ℕ) → InRange at n i → ¬ (new.lost file i)
  pub again : ((i : ℕ) → InRange at (length all) i → old.free file i) → ShowsBytes (old.disk.image file) at all
      → OnlyReads old.disk new.disk

module _ (start : Image) (calls : List Call) (file at n : ℕ) (all : List ℕ) (copy : Vec ℕ Global)
    (copied : copy.items ≡ take n all) (fits : n ≤ length all) where
  abbrev old : FolderState
  old = state_after start calls

  abbrev call : Call
  call = Write file at copy

  len : length copy.items ≡ n
  len = ap length copied ∙ length-take-le n all fits

  tears : Follows (TearCase file at (length copy.items)) (IsLeft old) (IsLeft (bytes_written old file at copy.items))
  tears = write_tears old file at copy.items (is_bounded start calls)

  shows : ShowsBytes (old.image file) at all → ShowsBytes (old.image file) at copy.items
  shows is = record {
    within = λ j lt. is.within j (omega (arith, lt, len, fits));
    equal = λ j lt. is.equal j (omega (arith, lt, len, fits)) ∙ sym (get_or-take n all j 0 (omega (arith, lt, len)))
        ∙ ap (λ xs. get_or xs j 0) (sym copied);
  }

  wrote_after : Wrote file at n all (folder_after start calls) (folder_after start (calls ++ call ∷ []))
  wrote_after = record {
    image = after start calls call (λ t. t.image ≡ put_image old.image file at (take n all))
        (ap (put_image old.image file at) copied);
    now = subst (λ k. Follows (TearCase file at k) (IsLeft old) (IsLeft (state_after start (calls ++ call ∷ [])))) len
        (λ c now. tears c (at_end start calls call (λ t. IsLeft t c) now));
    during = λ c past. ⊎_elim
        (λ was. (c, was, torn_none file at (length all) c))
        (λ new.
        let (d, was, tear) = tears c new in
        (d, was, torn_more file at (length copy.items) (length all) d c (omega (arith, len, fits)) tear))
        (during start calls call c past);
    time = time_goes_on start calls call;
    named = after start calls call (λ t. (f : ℕ) → old.named f → t.named f) (λ f was. was);
    frees = after start calls call (λ t. (f i : ℕ) → t.free f i ↔ (old.free f i ⊎ ((f ≡ file) × InRange at n i)))
        (subst (λ k. (f i : ℕ) → (bytes_written old file at copy.items).free f i
        ↔ (old.free f i ⊎ ((f ≡ file) × InRange at k i))) len (λ f i. (λ h. h, λ h. h)));
    lost = after start calls call (λ t. (f i : ℕ) → t.lost f i → old.lost f i) (λ f i lost. lost.0);
    found = after start calls call (λ t. (i : ℕ) → InRange at n i → ¬ (t.lost file i))
        (λ i range lost. lost.1 (refl, subst (λ k. InRange at k i) (sym len) range));
    again = λ free is. only_reads start calls call
        (again_fewer old file at copy.items
        (λ i range. free i (range.0, omega (arith, range.1, len, fits))) (shows is))
        (λ i f. same_image old file at copy.items (shows is) f i);
  }

pub wrote : (a b : MemSystem) (file at n : ℕ) (all : List ℕ) (copy : Vec ℕ Global) → copy.items ≡ take n all
    → n ≤ length all → AddsCall (Write file at copy) a b → Wrote file at n all (mem_medium a) (mem_medium b)
wrote a b file at n all copy copied fits noted =
    on_record (λ m. Wrote file at n all (mem_medium a) m) a b (a.history.items ++ Write file at copy ∷ []) noted
    (wrote_after (image_of a.start) a.history.items file at n all copy copied fits)

-- ---- a sync of a file

pub record SyncedFile (file : ℕ) (old new : SystemMedium) : Type 0 where
  pub still : IsWhole old file → HasNothingFree new file
  pub kept : (f i : ℕ) → new.lost f i → old.lost f i
  pub others : (f i : ℕ) → f ≢ file → (new.lost f i → old.lost f i) × (new.free f i ↔ old.free f i)
  pub no_more : (f i : ℕ) → new.free f i → old.free f i
  pub named : (f : ℕ) → old.named f → new.named f
  pub reads : OnlyReads old.disk new.disk
  pub time : Elapses old.disk new.disk

synced_after : (start : Image) (calls : List Call) (file : ℕ)
    → SyncedFile file (folder_after start calls) (folder_after start (calls ++ Sync file ∷ []))
synced_after start calls file =
    let old = state_after start calls in
    let call = Sync file in
    record {
      still = λ whole. after start calls call (λ t. (i : ℕ) → ¬ (t.free file i)) (λ i free. free.1 (refl, whole));
      kept = after start calls call (λ t. (f i : ℕ) → t.lost f i → old.lost f i) (λ f i h. h);
      others = after start calls call
          (λ t. (f i : ℕ) → f ≢ file → (t.lost f i → old.lost f i) × (t.free f i ↔ old.free f i))
          (λ f i other. (λ h. h, (λ h. h.0, λ h. (h, λ this. other this.0))));
      no_more = after start calls call (λ t. (f i : ℕ) → t.free f i → old.free f i) (λ f i h. h.0);
      named = after start calls call (λ t. (f : ℕ) → old.named f → t.named f) (λ f was. was);
      reads = only_reads start calls call (sync_fewer old file) refl;
      time = time_goes_on start calls call;
    }

pub synced_file : (a b : MemSystem) (file : ℕ) → AddsCall (Sync file) a b
    → SyncedFile file (mem_medium a) (mem_medium b)
synced_file a b file noted =
    on_record (λ m. SyncedFile file (mem_medium a) m) a b (a.history.items ++ Sync file ∷ []) noted
    (synced_after (image_of a.start) a.history.items file)

-- ---- a sync of a file that fails

pub record FailedSync (file : ℕ) (old new : SystemMedium) : Type 0 where
  pub failed : (i : ℕ) → (new.free file i ↔ old.free file i)
      × (new.lost file i → old.free file i ⊎ old.lost file i)
  pub others : (f i : ℕ) → f ≢ file → (new.lost f i → old.lost f i) × (new.free f i ↔ old.free f i)
  pub no_more : (f i : ℕ) → new.free f i → old.free f i
  pub named : (f : ℕ) → old.named f → new.named f
  pub reads : OnlyReads old.disk new.disk
  pub time : Elapses old.disk new.disk

failed_after : (start : Image) (calls : List Call) (file : ℕ)
    → FailedSync file (folder_after start calls) (folder_after start (calls ++ FailSync file ∷ []))
failed_after start calls file =
    let old = state_after start calls in
    let call = FailSync file in
    record {
      failed = after start calls call
          (λ t. (i : ℕ) → (t.free file i ↔ old.free file i) × (t.lost file i → old.free file i ⊎ old.lost file i))
          (λ i. ((λ h. h, λ h. h), λ lost. ⊎_elim (λ was. inr was) (λ new. inl new.1) lost));
      others = after start calls call
          (λ t. (f i : ℕ) → f ≢ file → (t.lost f i → old.lost f i) × (t.free f i ↔ old.free f i))
          (λ f i other. (λ lost. ⊎_elim (λ was. was) (λ new. absurd (other new.0)) lost, (λ h. h, λ h. h)));
      no_more = after start calls call (λ t. (f i : ℕ) → t.free f i → old.free f i) (λ f i h. h);
      named = after start calls call (λ t. (f : ℕ) → old.named f → t.named f) (λ f was. was);
      reads = only_reads start calls call (fail_fewer old file) refl;
      time = time_goes_on start calls call;
    }

pub failed_sync : (a b : MemSystem) (file : ℕ) → AddsCall (FailSync file) a b
    → FailedSync file (mem_medium a) (mem_medium b)
failed_sync a b file noted =
    on_record (λ m. FailedSync file (mem_medium a) m) a b (a.history.items ++ FailSync file ∷ []) noted
    (failed_after (image_of a.start) a.history.items file)

-- ---- names

pub record Made (old new : SystemMedium) : Type 0 where
  pub reads : OnlyReads old.disk new.disk
  pub time : Elapses old.disk new.disk
  pub free : (f i : ℕ) → new.free f i ↔ old.free f i
  pub lost : (f i : ℕ) → new.lost f i → old.lost f i

made_after : (start : Image) (calls : List Call) (file : ℕ) → (state_after start calls).image file ≡ []
    → Made (folder_after start calls) (folder_after start (calls ++ Make file ∷ []))
made_after start calls file absent =
    let old = state_after start calls in
    let call = Make file in
    record {
      reads = only_reads start calls call (make_fewer old file (is_bounded start calls) absent) refl;
      time = time_goes_on start calls call;
      free = after start calls call (λ t. (f i : ℕ) → t.free f i ↔ old.free f i) (λ f i. (λ h. h, λ h. h));
      lost = after start calls call (λ t. (f i : ℕ) → t.lost f i → old.lost f i) (λ f i h. h);
    }

pub made : (a b : MemSystem) (file : ℕ) → (mem_medium a).disk.image file ≡ [] → AddsCall (Make file) a b
    → Made (mem_medium a) (mem_medium b)
made a b file absent noted =
    on_record (λ m. Made (mem_medium a) m) a b (a.history.items ++ Make file ∷ []) noted
    (made_after (image_of a.start) a.history.items file absent)

pub record SyncedNames (old new : SystemMedium) : Type 0 where
  pub names : (f : ℕ) → new.named f
  pub looks : Looks old new

names_after : (start : Image) (calls : List Call)
    → SyncedNames (folder_after start calls) (folder_after start (calls ++ SyncFolder ∷ []))
names_after start calls =
    let old = state_after start calls in
    record {
      names = after start calls SyncFolder (λ t. (f : ℕ) → t.named f) (λ f. tt);
      looks = looks start calls SyncFolder (names_fewer old) refl (λ f was. tt) (λ f i. (λ h. h, λ h. h))
          (λ f i h. h);
    }

pub synced_names : (a b : MemSystem) → AddsCall SyncFolder a b → SyncedNames (mem_medium a) (mem_medium b)
synced_names a b noted =
    on_record (λ m. SyncedNames (mem_medium a) m) a b (a.history.items ++ SyncFolder ∷ []) noted
    (names_after (image_of a.start) a.history.items)

-- ---- notes

pub record Announced (file at : ℕ) (bytes : List ℕ) (old new : SystemMedium) : Type 0 where
  pub image : new.disk.image ≡ old.disk.image
  pub now : Follows (AnnounceCase file at bytes) old.disk.now new.disk.now
  pub during : (c : Case) → new.disk.since old.disk.moment c → old.disk.now c ⊎ new.disk.now c
  pub time : Elapses old.disk new.disk
  pub named : (f : ℕ) → old.named f → new.named f
  pub free : (f i : ℕ) → new.free f i ↔ old.free f i
  pub lost : (f i : ℕ) → new.lost f i → old.lost f i

announced_after : (start : Image) (calls : List Call) (file at : ℕ) (copy : Vec ℕ Global)
    → Announced file at copy.items (folder_after start calls) (folder_after start (calls ++ Announce file at copy ∷ []))
announced_after start calls file at copy =
    let old = state_after start calls in
    let call = Announce file at copy in
    record {
      image = after start calls call (λ t. t.image ≡ old.image) refl;
      now = λ c now. announce_follows old file at copy.items c (at_end start calls call (λ t. IsLeft t c) now);
      during = λ c past. ⊎_elim (λ was. inl was) (λ new. inr (after start calls call (λ t. IsLeft t c) new))
          (during start calls call c past);
      time = time_goes_on start calls call;
      named = after start calls call (λ t. (f : ℕ) → old.named f → t.named f) (λ f was. was);
      free = after start calls call (λ t. (f i : ℕ) → t.free f i ↔ old.free f i) (λ f i. (λ h. h, λ h. h));
      lost = after start calls call (λ t. (f i : ℕ) → t.lost f i → old.lost f i) (λ f i h. h);
    }

pub announced : (a b : MemSystem) (file at : ℕ) (bytes : List ℕ) (copy : Vec ℕ Global) → copy.items ≡ bytes
    → AddsCall (Announce file at copy) a b → Announced file at bytes (mem_medium a) (mem_medium b)
announced a b file at bytes copy copied noted =
    subst (λ bs. Announced file at bs (mem_medium a) (mem_medium b)) copied
    (on_record (λ m. Announced file at copy.items (mem_medium a) m) a b
    (a.history.items ++ Announce file at copy ∷ []) noted
    (announced_after (image_of a.start) a.history.items file at copy))

pub record SettledAll (old new : SystemMedium) : Type 0 where
  pub quiet : Quiet new.disk
  pub writes_nothing : WritesNothing old.disk new.disk
  pub time : Elapses old.disk new.disk
  pub named : (f : ℕ) → old.named f → new.named f
  pub free : (f i : ℕ) → new.free f i ↔ old.free f i
  pub lost : (f i : ℕ) → new.lost f i → old.lost f i

settled_after : (start : Image) (calls : List Call) → ((f : ℕ) → IsSafe (folder_after start calls).disk f)
    → SettledAll (folder_after start calls) (folder_after start (calls ++ Settle ∷ []))
settled_after start calls safe =
    let old = state_after start calls in
    record {
      quiet = after start calls Settle (λ t. (c : Case) → IsLeft t c → IsSettledAt t.image c)
          (settle_quiets old safe);
      writes_nothing = record {
        image = after start calls Settle (λ t. t.image ≡ old.image) refl;
        during = λ c past. ⊎_elim (λ was. inl was) (λ new. inr (after start calls Settle (λ t. IsLeft t c) new))
            (during start calls Settle c past);
        written = refl;
      };
      time = time_goes_on start calls Settle;
      named = after start calls Settle (λ t. (f : ℕ) → old.named f → t.named f) (λ f was. was);
      free = after start calls Settle (λ t. (f i : ℕ) → t.free f i ↔ old.free f i) (λ f i. (λ h. h, λ h. h));
      lost = after start calls Settle (λ t. (f i : ℕ) → t.lost f i → old.lost f i) (λ f i h. h);
    }

pub settled_all : (a b : MemSystem) → ((f : ℕ) → IsSafe (mem_medium a).disk f) → AddsCall Settle a b
    → SettledAll (mem_medium a) (mem_medium b)
settled_all a b safe noted =
    on_record (λ m. SettledAll (mem_medium a) m) a b (a.history.items ++ Settle ∷ []) noted
    (settled_after (image_of a.start) a.history.items safe)

-- ---- what a record says of the files

image_stays : (call : Call) → IsNoWrite call → (s : FolderState) → (after_call call s).image ≡ s.image
image_stays (Announce file at bytes) free s = refl
image_stays (Write file at bytes) free s = absurd free
image_stays (Make file) free s = refl
image_stays (Sync file) free s = refl
image_stays (FailSync file) free s = refl
image_stays SyncFolder free s = refl
image_stays Settle free s = refl

-- a call that writes nothing leaves what reads give, whether it is noted or not
pub note_tied : (start : Image) (calls calls' : List Call) (call : Call) (ok : Bool) (image : Image) → IsNoWrite call
    → calls' ≡ (if ok then calls ++ call ∷ [] else calls) → image ≡ (state_after start calls).image
    → image ≡ (state_after start calls').image
note_tied start calls calls' one true image free is tied =
    subst (λ cs. image ≡ (state_after start cs).image) (sym is)
    (after start calls one (λ t. image ≡ t.image) (tied ∙ sym (image_stays one free (state_after start calls))))
note_tied start calls calls' one false image free is tied =
    subst (λ cs. image ≡ (state_after start cs).image) (sym is) tied

-- a write leaves it written
pub write_tied : (start : Image) (calls calls' : List Call) (image image' : Image) (file at : ℕ) (copy : Vec ℕ Global)
    (bytes : List ℕ) → copy.items ≡ bytes → calls' ≡ calls ++ Write file at copy ∷ []
    → image ≡ (state_after start calls).image → image' ≡ put_image image file at bytes
    → image' ≡ (state_after start calls').image
write_tied start calls calls' image image' file at copy bytes copied is tied put =
    subst (λ cs. image' ≡ (state_after start cs).image) (sym is)
    (after start calls (Write file at copy) (λ t. image' ≡ t.image)
    (put ∙ ap (put_image image file at) (sym copied) ∙ ap (λ i. put_image i file at copy.items) tied))

-- ---- nothing is dropped where no sync of a file failed

none_more : (call : Call) → DropsNothing call → (s : FolderState) → ((f i : ℕ) → ¬ (s.lost f i))
    → (f i : ℕ) → ¬ ((after_call call s).lost f i)
none_more (Announce file at bytes) drops s none f i lost = none f i lost
none_more (Write file at bytes) drops s none f i lost = none f i lost.0
none_more (Make file) drops s none f i lost = none f i lost
none_more (Sync file) drops s none f i lost = none f i lost
none_more (FailSync file) drops s none f i lost = drops
none_more SyncFolder drops s none f i lost = none f i lost
none_more Settle drops s none f i lost = none f i lost

none_dropped : (calls : List Call) → DropNothing calls → (s : FolderState) → ((f i : ℕ) → ¬ (s.lost f i))
    → (f i : ℕ) → ¬ ((after_calls calls s).lost f i)
none_dropped [] drops s none f i lost = none f i lost
none_dropped (call ∷ calls) drops s none f i lost =
    none_dropped calls drops.1 (after_call call s) (none_more call drops.0 s none) f i lost

pub all_whole : (m : MemSystem) → DropNothing m.history.items → (f : ℕ) → IsWhole (mem_medium m) f
all_whole m drops f i lost =
    none_dropped m.history.items drops (all_durable (image_of m.start)) (λ g j gone. absurd gone) f i lost
