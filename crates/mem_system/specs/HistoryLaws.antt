-- That a folder in memory meets the laws of a system.
use Rattle.std.specs.Prelude.{◌≡◌, ◌≢◌, ℕ, suc, ◌<◌, ◌≤◌, List, [], ◌∷◌, length, take, true}
use Rattle.std.proofs.Common.{refl, sym, ap, ◌∙◌, subst, inl, inr, ⊎_elim, le_refl, le_trans, take_all, arith}
use Rattle.std.proofs.lemmas.Bool.{cases_eq}
use Rattle.std.proofs.lemmas.List.{ext_get_or}
use Rattle.disk_model.specs.Image.{Image, put_image}
use Rattle.disk_model.specs.Case.{Case}
use Rattle.disk_model.specs.Medium.{IsLawful}
use Rattle.disk_model.specs.Written.{length-put_bytes, length-put_some, put_image_here, put_image_elsewhere, put_none}
use Rattle.system_model.specs.SystemMedium.{InRange, SavesFiles}
use Rattle.mem_system.specs.declared.record.Call.{Call}
use Rattle.mem_system.specs.declared.record.Call.TheVariants.{Announce, Write, Make, Sync, FailSync, SyncFolder, Settle}
use Rattle.mem_system.specs.History.{FolderState, IsLeft, NoneLost, all_durable, bytes_written, after_call, after_calls}
use Rattle.mem_system.specs.History.{state_after, folder_after}

-- no file has fewer bytes than are sure, and what is free of it are bytes that it has
pub record IsSoundFolder (s : FolderState) : Type 0 where
  pub sure : (f n : ℕ) → s.sure f n → n ≤ length (s.image f)
  pub free : (f i : ℕ) → s.free f i → i < length (s.image f)

no_shorter : (image : Image) (file at : ℕ) (bytes : List ℕ) (f : ℕ)
    → length (image f) ≤ length (put_image image file at bytes f)
no_shorter image file at bytes f = ⊎_elim
    (λ same. subst (λ k. length (image k) ≤ length (put_image image file at bytes k)) (sym same)
    (let h = length-put_bytes (image file) at bytes in
    let e = ap length (put_image_here image file at bytes) in omega (arith, h, e)))
    (λ other. let e = ap length (put_image_elsewhere image file at bytes f other) in omega (arith, e))
    (cases_eq f file)

reaches : (image : Image) (file at : ℕ) (bytes : List ℕ) (i : ℕ) → InRange at (length bytes) i
    → i < length (put_image image file at bytes file)
reaches image file at bytes i range =
    let some : length bytes ≢ 0 = λ none. omega (arith, range.0, range.1, none) in
    let h = length-put_some (image file) at bytes some in
    let e = ap length (put_image_here image file at bytes) in omega (arith, h, e, range.1)

sound_written : (s : FolderState) (file at : ℕ) (bytes : List ℕ) → IsSoundFolder s
    → IsSoundFolder (bytes_written s file at bytes)
sound_written s file at bytes sound = record {
  sure = λ f n is. le_trans (sound.sure f n is) (no_shorter s.image file at bytes f);
  free = λ f i free. ⊎_elim
      (λ was. le_trans (sound.free f i was) (no_shorter s.image file at bytes f))
      (λ new. subst (λ k. i < length (put_image s.image file at bytes k)) (sym new.0)
      (reaches s.image file at bytes i new.1))
      free;
}

sound_after : (call : Call) (s : FolderState) → IsSoundFolder s → IsSoundFolder (after_call call s)
sound_after (Announce file at bytes) s sound = record { sure = sound.sure; free = sound.free }
sound_after (Write file at bytes) s sound = sound_written s file at bytes.items sound
sound_after (Make file) s sound = record { sure = sound.sure; free = sound.free }
sound_after (Sync file) s sound = record {
  sure = λ f n is. ⊎_elim (λ was. sound.sure f n was) (λ new. new.2) is;
  free = λ f i free. sound.free f i free.0;
}
sound_after (FailSync file) s sound = record { sure = sound.sure; free = sound.free }
sound_after SyncFolder s sound = record { sure = sound.sure; free = sound.free }
sound_after Settle s sound = record { sure = sound.sure; free = sound.free }

sound_after_calls : (calls : List Call) (s : FolderState) → IsSoundFolder s → IsSoundFolder (after_calls calls s)
sound_after_calls [] s sound = sound
sound_after_calls (call ∷ calls) s sound = sound_after_calls calls (after_call call s) (sound_after call s sound)

-- every folder with a record is sound in this sense
pub is_bounded : (start : Image) (calls : List Call) → IsSoundFolder (state_after start calls)
is_bounded start calls = sound_after_calls calls (all_durable start)
    (record { sure = λ f n is. is; free = λ f i free. absurd free })

-- of a file of which nothing is lost or free every byte is sure
abbrev pub IsSureOfFiles : FolderState → Type 0
IsSureOfFiles s = (f : ℕ) → NoneLost s f → ((i : ℕ) → ¬ (s.free f i)) → (n : ℕ) → n ≤ length (s.image f) → s.sure f n

-- a write of which nothing is free wrote nothing
kept_still : (image : Image) (file at : ℕ) (bytes : List ℕ) (f : ℕ)
    → ((i : ℕ) → ¬ ((f ≡ file) × InRange at (length bytes) i)) → put_image image file at bytes f ≡ image f
kept_still image file at bytes f still = ⊎_elim
    (λ same. ⊎_elim
    (λ none. subst (λ k. put_image image file at bytes k ≡ image k) (sym same)
    (put_image_here image file at bytes ∙ put_none (image file) at bytes none))
    (λ some. absurd (still at (same, (le_refl _, omega arith))))
    (cases_eq (length bytes) 0))
    (λ other. put_image_elsewhere image file at bytes f other)
    (cases_eq f file)

sure_after : (call : Call) (s : FolderState) → IsSureOfFiles s → IsSureOfFiles (after_call call s)
sure_after (Announce file at bytes) s sure f whole still n le = sure f whole still n le
sure_after (Write file at bytes) s sure f whole still n le = sure f
    (λ i lost. whole i (lost, λ new. still i (inr new)))
    (λ i free. still i (inl free))
    n
    (subst (λ ys. n ≤ length ys) (kept_still s.image file at bytes.items f (λ i new. still i (inr new))) le)
sure_after (Make file) s sure f whole still n le = sure f whole still n le
sure_after (Sync file) s sure f whole still n le = ⊎_elim
    (λ same. inr (same, subst (λ k. NoneLost s k) same whole, le))
    (λ other. inl (sure f whole (λ i free. still i (free, λ this. other this.0)) n le))
    (cases_eq f file)
sure_after (FailSync file) s sure f whole still n le = sure f (λ i lost. whole i (inl lost)) still n le
sure_after SyncFolder s sure f whole still n le = sure f whole still n le
sure_after Settle s sure f whole still n le = sure f whole still n le

sure_after_calls : (calls : List Call) (s : FolderState) → IsSureOfFiles s → IsSureOfFiles (after_calls calls s)
sure_after_calls [] s sure = sure
sure_after_calls (call ∷ calls) s sure = sure_after_calls calls (after_call call s) (sure_after call s sure)

-- where a file is sure and its name is durable, a power loss leaves it
leaves_sure : (s : FolderState) (f : ℕ) → s.named f → ((n : ℕ) → n ≤ length (s.image f) → s.sure f n)
    → ((i : ℕ) → ¬ (s.free f i)) → (c : Case) → IsLeft s c → c.left f ≡ s.image f
leaves_sure s f named sure still c now = ⊎_elim
    (λ none. absurd (none.0 named))
    (λ leaves.
    let low = leaves.no_shorter (length (s.image f)) (sure (length (s.image f)) (le_refl _)) in
    let high = leaves.no_longer in
    ext_get_or 0 (c.left f) (s.image f) (omega (arith, low, high))
    (λ i lt. leaves.kept i (sure (suc i) (omega (arith, lt, high))) (still i)))
    (now.left f)

-- a folder with a record saves files
pub folder_saves : (start : Image) (calls : List Call) → SavesFiles (folder_after start calls)
folder_saves start calls f whole still named =
    let s = state_after start calls in
    let sure = sure_after_calls calls (all_durable start) (λ _ _ _ n le. le) in
    leaves_sure s f named (sure f whole still) still

-- in a sound folder what reads give is what some power loss leaves
pub gives_one : (s : FolderState) → IsSoundFolder s → (c : Case) × IsLeft s c × (c.left ≡ s.image)
gives_one s sound = (
  record { base = s.base; full = s.full; left = s.image },
  record {
    base = refl;
    full = refl;
    left = λ f. inr (record {
      no_shorter = λ n is. sound.sure f n is;
      no_longer = le_refl _;
      kept = λ i is out. refl;
    });
  },
  refl,
)

-- a folder with a record obeys the laws of a disk
pub folder_is_lawful : (start : Image) (calls : List Call) → IsLawful true (folder_after start calls).disk
folder_is_lawful start calls =
    let all : take (length calls) calls ≡ calls = take_all (length calls) calls (le_refl _) in
    record {
      counts_now = λ t c le now. record {
        k = length calls;
        from = le;
        to = le_refl _;
        case = subst (λ xs. IsLeft (state_after start xs) c) (sym all) now;
      };
      only_now = λ c past. subst (λ xs. IsLeft (state_after start xs) c) (take_all past.k calls past.from) past.case;
      reads_one = λ told. gives_one (state_after start calls) (is_bounded start calls);
      gives = λ told c now left. record {
        k = length calls;
        from = le_refl _;
        to = le_refl _;
        case = subst (λ xs. IsLeft (state_after start xs) c) (sym all) now;
        image = left ∙ ap (λ xs. (state_after start xs).image) (sym all);
      };
      gave_counts = λ t c le gave. record {
        k = gave.k;
        from = le_trans le gave.from;
        to = gave.to;
        case = gave.case;
        image = gave.image;
      };
      gives_only = λ c gave. (
        subst (λ xs. IsLeft (state_after start xs) c) (take_all gave.k calls gave.from) gave.case,
        gave.image ∙ ap (λ xs. (state_after start xs).image) (take_all gave.k calls gave.from),
      );
      gave_left = λ t c gave. record { k = gave.k; from = gave.from; to = gave.to; case = gave.case };
    }
