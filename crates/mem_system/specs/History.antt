-- What a folder in memory is at each moment, by its record of calls. Files go by their numbers, and bytes in them are
-- counted from 0.
use Rattle.std.specs.Prelude.{◌≡◌, ◌⊎◌, ℕ, suc, ◌≤◌, List, [], ◌∷◌, length, take, slice_index}
use Rattle.disk_model.specs.Image.{Image, put_image}
use Rattle.disk_model.specs.Case.{Case}
use Rattle.system_model.specs.SystemMedium.{SystemMedium, InRange}
use Rattle.mem_system.specs.declared.record.Call.{Call}
use Rattle.mem_system.specs.declared.record.Call.TheVariants.{Announce, Write, Make, Sync, FailSync, SyncFolder, Settle}

-- all that is known of a folder at one moment
pub record FolderState : Type 1 where
  -- the files when they were last settled, all durable, and those with all that was announced since
  pub base : Image
  pub full : Image
  -- what reads give
  pub image : Image
  -- by file and byte: which bytes were written since the last sync that covered them, and which a failed sync dropped
  pub free : ℕ → ℕ → Type 0
  pub lost : ℕ → ℕ → Type 0
  -- which names a power loss leaves
  pub named : ℕ → Type 0
  -- by file and number: a power loss leaves no fewer bytes of the file than this number
  pub sure : ℕ → ℕ → Type 0

-- what a power loss may leave (`left`) of a file whose name it leaves, and which reads give as `image`: no fewer bytes
-- than are sure, no more than there are, and of those that are sure each that is not free as reads give it
pub record LeavesFile (image : List ℕ) (free sure : ℕ → Type 0) (left : List ℕ) : Type 0 where
  pub no_shorter : (n : ℕ) → sure n → n ≤ length left
  pub no_longer : length left ≤ length image
  pub kept : (i : ℕ) → sure (suc i) → ¬ (free i) → slice_index left i ≡ slice_index image i

-- what it may leave of any file: nothing, where its name is not durable, or what it may leave under its name
abbrev pub MayLeave : FolderState → ℕ → List ℕ → Type 0
MayLeave s f left = (¬ (s.named f) × (left ≡ [])) ⊎ LeavesFile (s.image f) (s.free f) (s.sure f) left

-- the case c is one of a power loss in this state
pub record IsLeft (s : FolderState) (c : Case) : Type 0 where
  pub base : c.base ≡ s.base
  pub full : c.full ≡ s.full
  pub left : (f : ℕ) → MayLeave s f (c.left f)

-- nothing of the file was dropped
abbrev pub NoneLost : FolderState → ℕ → Type 0
NoneLost s f = (i : ℕ) → ¬ (s.lost f i)

-- a folder of these files that are all durable, bytes and names
abbrev pub all_durable : Image → FolderState
all_durable image = record {
  base = image;
  full = image;
  image = image;
  free = λ f i. ⊥;
  lost = λ f i. ⊥;
  named = λ f. Unit {0};
  sure = λ f n. n ≤ length (image f);
}

-- after these bytes were written into the file from the byte `at` on: they are free, and not lost
abbrev pub bytes_written : FolderState → (file at : ℕ) → List ℕ → FolderState
bytes_written s file at bytes = record s {
  image = put_image s.image file at bytes;
  free = λ f i. s.free f i ⊎ ((f ≡ file) × InRange at (length bytes) i);
  lost = λ f i. s.lost f i × ¬ ((f ≡ file) × InRange at (length bytes) i);
}

-- after a sync of the file that did not fail: where nothing of it was dropped, nothing is free and all of it is sure
abbrev pub file_synced : FolderState → ℕ → FolderState
file_synced s file = record s {
  free = λ f i. s.free f i × ¬ ((f ≡ file) × NoneLost s file);
  sure = λ f n. s.sure f n ⊎ ((f ≡ file) × NoneLost s file × (n ≤ length (s.image f)));
}

-- the state after one call of the record
abbrev pub after_call : Call → FolderState → FolderState
after_call (Announce file at bytes) s = record s { full = put_image s.full file at bytes.items }
after_call (Write file at bytes) s = bytes_written s file at bytes.items
after_call (Make file) s = record s { named = λ f. s.named f × ¬ (f ≡ file) }
after_call (Sync file) s = file_synced s file
after_call (FailSync file) s = record s { lost = λ f i. s.lost f i ⊎ ((f ≡ file) × s.free f i) }
after_call SyncFolder s = record s { named = λ f. Unit {0} }
after_call Settle s = record s { base = s.image; full = s.image }

-- the state after these calls, one after the other
abbrev pub after_calls : List Call → FolderState → FolderState
after_calls [] s = s
after_calls (call ∷ calls) s = after_calls calls (after_call call s)

-- the state after these calls of a folder that began with these files, all durable
abbrev pub state_after : Image → List Call → FolderState
state_after start calls = after_calls calls (all_durable start)

-- the case c is one that a power loss after k of the calls might have left, for some k that is at least t
pub record CaseSince (start : Image) (calls : List Call) (t : ℕ) (c : Case) : Type 0 where
  pub k : ℕ
  pub from : t ≤ k
  pub to : k ≤ length calls
  pub case : IsLeft (state_after start (take k calls)) c

-- the same where the case leaves what reads gave after those k calls
pub record GaveSince (start : Image) (calls : List Call) (t : ℕ) (c : Case) : Type 0 where
  pub k : ℕ
  pub from : t ≤ k
  pub to : k ≤ length calls
  pub case : IsLeft (state_after start (take k calls)) c
  pub image : c.left ≡ (state_after start (take k calls)).image

-- all that is said of a folder that began with these files and has this record of calls: the clock counts the calls,
-- and faults and bytes written are not counted here
abbrev pub folder_after : Image → List Call → SystemMedium
folder_after start calls = record {
  disk = record {
    image = (state_after start calls).image;
    now = IsLeft (state_after start calls);
    moment = length calls;
    since = CaseSince start calls;
    gave = GaveSince start calls;
    opens = λ t. Unit {0};
    agrees = λ t. Unit {0};
    apart = λ t. Unit {0};
    faults = 0;
    written = 0;
  };
  named = (state_after start calls).named;
  free = (state_after start calls).free;
  lost = (state_after start calls).lost;
}

-- calls that change no byte
abbrev pub IsNoWrite : Call → Type 0
IsNoWrite (Announce file at bytes) = Unit {0}
IsNoWrite (Write file at bytes) = ⊥
IsNoWrite (Make file) = Unit {0}
IsNoWrite (Sync file) = Unit {0}
IsNoWrite (FailSync file) = Unit {0}
IsNoWrite SyncFolder = Unit {0}
IsNoWrite Settle = Unit {0}

-- calls that drop nothing: all but a sync that failed
abbrev pub DropsNothing : Call → Type 0
DropsNothing (Announce file at bytes) = Unit {0}
DropsNothing (Write file at bytes) = Unit {0}
DropsNothing (Make file) = Unit {0}
DropsNothing (Sync file) = Unit {0}
DropsNothing (FailSync file) = ⊥
DropsNothing SyncFolder = Unit {0}
DropsNothing Settle = Unit {0}

-- none of these calls drops anything
abbrev pub DropNothing : List Call → Type 0
DropNothing [] = Unit {0}
DropNothing (call ∷ calls) = DropsNothing call × DropNothing calls
