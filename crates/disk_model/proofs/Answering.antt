-- How the parts of a call of a disk in memory make a call.
use Rattle.std.proofs.Common.{◌≡◌, ℕ, ◌+◌, ◌≤◌, Bool, true, false, List, [], ◌∷◌, ◌++◌, refl, sym, ap, ◌∙◌}
use Rattle.std.proofs.Common.{subst, le_refl, le_trans, le_of_eq, arith, if◌then◌else◌}
use Rattle.disk_model.specs.declared.history.Call.{Call}
use Rattle.disk_model.specs.declared.history.Call.TheVariants.{Write, Sync, Read}
use Rattle.disk_model.specs.declared.memory.MemDisk.{MemDisk}
use Rattle.disk_model.specs.Image.{Image, put_image, TornImage}
use Rattle.disk_model.specs.Case.{WriteCase, WriteOrNot, Follows, Reaches}
use Rattle.disk_model.specs.Medium.{Medium, Quiet, Elapses, OnlyReads, WritesNothing}
use Rattle.disk_model.specs.History.{image_of, start_image, image_after, recorded, IsNoWrite}
use Rattle.per_base.specs.Causes.{raised}
use Rattle.disk_model.specs.Memory.{mem_medium, IsUnchanged}
use Rattle.disk_model.specs.Memory.{KeepsCounts, AnswersAsPlanned, FailsByMemoryAlone, Fails, Shows, SameRecord, Begins}
use Rattle.disk_model.specs.Memory.{RunsOut}
use Rattle.std.specs.Prelude.{Vec, Result, Ok, Err, OnErr, length}
use Rattle.std.specs.declared.alloc.Global.{Global}
use Rattle.disk_model.specs.lemmas.Answering.{fails_as_planned, planned_by_orders, fails_by_memory, memory_alone}
use Rattle.disk_model.specs.HistoryLaws.{record_is_lawful}
use Rattle.disk_model.proofs.Records.{image_after-append}
use Rattle.disk_model.proofs.Pushed.{counted, pushed, read_more, sync_quiet, sync_writes_nothing, write_follows}
use Rattle.disk_model.proofs.Pushed.{write_reaches, write_during}

-- what a disk shows is all that it is as a disk
pub shown : (disk : MemDisk) (image start : Image) (calls : List Call) (written : ℕ)
    → Shows disk image start calls written
    → (P : Medium → Type 0) → P (recorded image start calls disk.orders.faults written) → P (mem_medium disk)
shown disk image start calls written shows P p =
    let p1 = subst (λ i. P (recorded i start calls disk.orders.faults written)) (sym shows.image_is) p in
    let p2 = subst (λ s. P (recorded (image_of disk.files) s calls disk.orders.faults written)) (sym shows.start_is) p1 in
    let p3 = subst (λ cs. P (recorded (image_of disk.files) (start_image disk.files disk.start) cs disk.orders.faults
    written)) (sym shows.calls_are) p2 in
    subst (λ w. P (recorded (image_of disk.files) (start_image disk.files disk.start) disk.calls.items
    disk.orders.faults w)) (sym shows.written_is) p3

-- a call that writes nothing leaves what reads give
pub note_tied : (calls calls' : List Call) (call : Call) (ok : Bool) (image start : Image) → IsNoWrite call
    → calls' ≡ (if ok then calls ++ call ∷ [] else calls) → image ≡ image_after calls start
    → image ≡ image_after calls' start
note_tied calls calls' Sync true image start free is tied =
    tied ∙ sym (ap (λ cs. image_after cs start) is ∙ image_after-append calls (Sync ∷ []) start)
note_tied calls calls' Read true image start free is tied =
    tied ∙ sym (ap (λ cs. image_after cs start) is ∙ image_after-append calls (Read ∷ []) start)
note_tied calls calls' (Write file at bytes) ok image start free is tied = absurd free
note_tied calls calls' call false image start free is tied = tied ∙ sym (ap (λ cs. image_after cs start) is)

-- a write leaves what reads give
pub write_tied : (calls calls' : List Call) (image image' start start' : Image) (file at : ℕ) (copy : Vec ℕ Global)
    (bytes : List ℕ)
    → copy.items ≡ bytes → calls' ≡ calls ++ Write file at copy ∷ [] → start' ≡ start → image ≡ image_after calls start
    → image' ≡ put_image image file at bytes → image' ≡ image_after calls' start'
write_tied calls calls' image image' start start' file at copy bytes copied is same tied put =
    put ∙ ap (put_image image file at) (sym copied) ∙ ap (λ i. put_image i file at copy.items) tied
    ∙ sym (ap (λ cs. image_after cs start') is ∙ image_after-append calls (Write file at copy ∷ []) start'
    ∙ ap (λ s. put_image (image_after calls s) file at copy.items) same)

-- a disk that differs from another in its counts and orders alone, after a fault
pub failed : (old new : MemDisk) → SameRecord old new → (mem_medium old).faults ≤ (mem_medium new).faults
    → (mem_medium new).faults ≡ raised (mem_medium old).faults → AnswersAsPlanned old new true
    → FailsByMemoryAlone old new
    → Fails old new
failed old new same later rose answers by_memory =
    let image = image_of old.files in
    let start = start_image old.files old.start in
    let calls = old.calls.items in
    let law = record_is_lawful image start calls old.orders.faults old.written old.tied in
    record {
      unchanged = shown new image start calls old.written same (λ m. IsUnchanged (mem_medium old) m)
          (record {
            image = refl;
            now = λ c. (λ x. x, λ x. x);
            moment = refl;
            since = λ t c. (λ x. x, λ x. x);
            gave =
                λ t i. (λ x. x, λ x. x);
            written = refl;
          });
      reads = shown new image start calls old.written same (λ m. OnlyReads (mem_medium old) m)
          (record { image = refl; now = λ c now. now; during = λ c past. law.only_now c past; written = refl });
      time = shown new image start calls old.written same (λ m. Elapses (mem_medium old) m)
          (counted image start calls old.orders.faults new.orders.faults old.written later);
      cause = le_of_eq (sym rose);
      answers = answers;
      by_memory = by_memory;
    }

-- the plan or the stop makes a call fail
pub begin_failed : (old new : MemDisk) → Begins old new true → SameRecord old new → Fails old new
begin_failed old new begins same = failed old new same begins.later (begins.fails refl)
    (fails_as_planned old.orders new.orders begins) (planned_by_orders old.orders new.orders begins)

-- OutOfMemory makes a call fail
pub want_failed : (old mid new : MemDisk) → Begins old mid false → SameRecord old mid → RunsOut mid new
    → SameRecord mid new → Fails old new
want_failed old mid new begins first wants next =
    failed old new
    (record {
      image_is = next.image_is ∙ first.image_is;
      start_is = next.start_is ∙ first.start_is;
      calls_are = next.calls_are ∙ first.calls_are;
      written_is = next.written_is ∙ first.written_is;
    })
    (le_trans begins.later wants.later) (wants.faults ∙ ap raised (begins.passes refl))
    (fails_by_memory old.orders mid.orders new.orders begins wants)
    (memory_alone old.orders mid.orders new.orders begins wants)

pub on_err : {T E : Type 0} (r : Result T E) (P : Type 0) → P → OnErr r P
on_err (Ok x) P p = tt
on_err (Err e) P p = p

-- a read that succeeds
pub read_done : (old new : MemDisk) → KeepsCounts old new
    → Shows new (image_of old.files) (start_image old.files old.start) (old.calls.items ++ Read ∷ []) old.written
    → OnlyReads (mem_medium old) (mem_medium new) × Elapses (mem_medium old) (mem_medium new)
read_done old new counts shows =
    let image = image_of old.files in
    let start = start_image old.files old.start in
    let calls = old.calls.items in (
      shown new image start (calls ++ Read ∷ []) old.written shows (λ m. OnlyReads (mem_medium old) m)
          (read_more image start calls old.orders.faults new.orders.faults old.written),
      shown new image start (calls ++ Read ∷ []) old.written shows (λ m. Elapses (mem_medium old) m)
          (pushed image start calls Read image old.orders.faults new.orders.faults old.written old.written
          (le_of_eq (sym counts.faults)) (le_refl _)),
    )

-- a sync that succeeds
pub record SyncDone (old new : MemDisk) : Type 0 where
  pub quiet : Quiet (mem_medium new)
  pub writes_nothing : WritesNothing (mem_medium old) (mem_medium new)
  pub time : Elapses (mem_medium old) (mem_medium new)

pub sync_done : (old new : MemDisk) → KeepsCounts old new
    → Shows new (image_of old.files) (start_image old.files old.start) (old.calls.items ++ Sync ∷ []) old.written
    → SyncDone old new
sync_done old new counts shows =
    let image = image_of old.files in
    let start = start_image old.files old.start in
    let calls = old.calls.items in
    record {
      quiet = shown new image start (calls ++ Sync ∷ []) old.written shows (λ m. Quiet m)
          (sync_quiet image start calls old.tied new.orders.faults old.written);
      writes_nothing = shown new image start (calls ++ Sync ∷ []) old.written shows
          (λ m. WritesNothing (mem_medium old) m)
          (sync_writes_nothing image start calls old.orders.faults new.orders.faults old.written);
      time = shown new image start (calls ++ Sync ∷ []) old.written shows (λ m. Elapses (mem_medium old) m)
          (pushed image start calls Sync image old.orders.faults new.orders.faults old.written old.written
          (le_of_eq (sym counts.faults)) (le_refl _));
    }

-- a write that succeeds
pub record WriteDone (file at : ℕ) (bytes : List ℕ) (old new : MemDisk) : Type 0 where
  pub image : (mem_medium new).image ≡ put_image (mem_medium old).image file at bytes
  pub now : Follows (WriteCase file at bytes) (mem_medium old).now (mem_medium new).now
  pub during : Follows (WriteOrNot file at bytes) (mem_medium old).now ((mem_medium new).since (mem_medium old).moment)
  pub written : (mem_medium new).written ≡ (mem_medium old).written + length bytes
  pub time : Elapses (mem_medium old) (mem_medium new)
  pub tears : Reaches (WriteCase file at bytes) (mem_medium old).now (mem_medium new).now

pub write_done : (old mid new : MemDisk) (file at : ℕ) (bytes : List ℕ) (copy : Vec ℕ Global) → SameRecord old mid
    → copy.items ≡ bytes
    → Shows new (put_image (image_of mid.files) file at bytes) (start_image mid.files mid.start)
    (mid.calls.items ++ Write file at copy ∷ []) (mid.written + length bytes)
    → (mem_medium old).faults ≤ (mem_medium new).faults → WriteDone file at bytes old new
write_done old mid new file at bytes copy first copied next more =
    let image = image_of old.files in
    let start = start_image old.files old.start in
    let calls = old.calls.items in
    let image' : Image = put_image image file at bytes in
    let count : ℕ = old.written + length bytes in
    let shows : Shows new image' start (calls ++ Write file at copy ∷ []) count = record {
      image_is = next.image_is ∙ ap (λ i. put_image i file at bytes) first.image_is;
      start_is = next.start_is ∙ first.start_is;
      calls_are = next.calls_are ∙ ap (λ cs. cs ++ Write file at copy ∷ []) first.calls_are;
      written_is = next.written_is ∙ ap (λ w. w + length bytes) first.written_is;
    } in
    let at_new : (P : Medium → Type 0)
    → P (recorded image' start (calls ++ Write file at copy ∷ []) new.orders.faults count) → P (mem_medium new) =
    shown new image' start (calls ++ Write file at copy ∷ []) count shows in
    record {
      image = shows.image_is;
      now = at_new (λ m. Follows (WriteCase file at bytes) (mem_medium old).now m.now)
          (write_follows image start calls file at copy bytes copied);
      during = at_new (λ m. Follows (WriteOrNot file at bytes) (mem_medium old).now (m.since (mem_medium old).moment))
          (write_during image start calls file at copy bytes copied);
      written = shows.written_is;
      time = at_new (λ m. Elapses (mem_medium old) m)
          (pushed image start calls (Write file at copy) image' old.orders.faults new.orders.faults old.written count more
          (omega arith));
      tears = at_new (λ m. Reaches (WriteCase file at bytes) (mem_medium old).now m.now)
          (write_reaches image start calls file at copy bytes copied);
    }

-- a write that fails and changes nothing is one way to tear it
pub same_torn : (old new : Image) (file at n : ℕ) → new ≡ old → TornImage file at n old new
same_torn old new file at n same = subst (λ i. TornImage file at n old i) (sym same) (record {
  others = λ f other. refl;
  torn = record { kept = λ i inside outside. refl; no_shorter = le_refl _; no_longer = omega arith };
})
