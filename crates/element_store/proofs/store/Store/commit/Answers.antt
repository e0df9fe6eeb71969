use Rattle.std.proofs.Common.{◌≡◌, ◌+◌, ◌*◌, ◌≤◌, ℕ, List, length, sym, ap, subst, ◌∙◌, arith}
use Rattle.disk_model.specs.declared.place.Place.{Place}
use Rattle.disk_model.specs.Frame.{Spares}
use Rattle.disk_model.specs.Place.{IsNoSlot}
use Rattle.guarded_cell.specs.Register.{IsAlone}
use Rattle.index_text.specs.Spelling.{index_text}
use Rattle.index_text.specs.lemmas.Lengths.{text_is_short}
use Rattle.element_store.specs.Committing.{IsReadyToPut, index_length}
use Rattle.std.proofs.Common.{[], refl, Err}
use Rattle.index_text.specs.declared.entries.Index.{Index}
use Rattle.element_state.specs.Written.{IsWithin, commit_cost}
use Rattle.element_store.specs.declared.store.Store.{Store}
use Rattle.element_state.specs.declared.shapes.View.{View}
use Rattle.element_store.specs.Changing.{KeepsOthers}
use Rattle.element_store.specs.Stores.{view_in}
use Rattle.element_store.proofs.Taken.{taken_below, taken_area}
use Rattle.element_state.specs.Conditions.{AreCommittable}
use Rattle.element_state.specs.Kept.{KeptThroughout}
use Rattle.element_state.specs.States.{Opens}
use Rattle.element_state.specs.Changes.{committed_by, after_changes, entry_name}
use Rattle.element_store.proofs.Around.{both_around}
use Rattle.element_store.proofs.CommitKept.{commit_keeps, commit_around, commit_in_use, commit_clean, commit_written}
use Rattle.element_store.proofs.CommitKept.{commit_read, commit_length, commit_differs}
use Rattle.guarded_cell.specs.Differing.{texts_cost}
use Rattle.guarded_cell.specs.Register.{own}
use Rattle.hash_guard.specs.SealedText.{sealed}
use Rattle.element_store.specs.Stores.{store_generation}
use Rattle.std.specs.List.{All, AllZip}
use Rattle.element_store.specs.Hashing.{IsHashedAs, AreOfElement}
use Rattle.element_store.proofs.Finished.{alone_still, small_changes, store_ascends, finished_view, finished_used}
use Rattle.element_store.proofs.Finished.{of_either, contents_within}
use Rattle.element_store.proofs.InOrder.{ascends_as}
use Rattle.disk_model.specs.Laws.{elapses_on}
use Rattle.per_base.specs.declared.elements.Entry.{Entry}
use Rattle.per_base.specs.declared.elements.Change.{Change}
use Rattle.per_base.specs.declared.faults.Fault.TheVariants.{OutOfMemory}
use Rattle.per_base.specs.Faults.{HandsBack, IsDeviceFault}
use Rattle.element_store.proofs.store.Store.commit.Goals as goal

pub write_in-requires-clause-short : goal.write_in-requires-clause-short
write_in-requires-clause-short g c =
    let ready = subst (λ (cs : List Change). IsReadyToPut g.D.Disk.told c.args.self cs (g.D.Disk.medium c.args.disk.now)
    (g.D.Disk.medium c.write_contents.new.disk) c.in-Ok.ready.index c.in-Ok.ready.text c.in-Ok.ready.used)
    c.deref.ensures.value c.in-Ok.ensures.ready in
    let prep = ready.prepared in
    let short = text_is_short c.args.self.shape.kind c.args.self.shape.allowed c.in-Ok.ready.index prep.plan.text.rules
    prep.plan.text.fits c.requires.used.memory.shape.small in
    let a = ap length c.as_slice.ensures in
    let b = ap length prep.spelled in
    omega (arith, short, a, b)

pub write_in-requires-clause-room : goal.write_in-requires-clause-room
write_in-requires-clause-room g c =
    let a = ap length c.deref_mut.ensures.value in
    let b = c.in-Ok.ensures.room in
    let l = ap length c.as_slice.ensures in
    omega (arith, a, b, l)

pub write_in-requires-clause-generation : goal.write_in-requires-clause-generation
write_in-requires-clause-generation g c = let less = c.requires.changes.not_worn in omega (arith, less)

pub kept_after-kept-requires : goal.kept_after-kept-requires
kept_after-kept-requires g c = subst (λ (cs : List Change). AllZip IsHashedAs cs c.in-Ok.ready.hashed.items)
    (c.deref.ensures.value ∙ sym c.deref-2.ensures.value) c.in-Ok.ensures.hashed

pub write_in-requires-clause-held : goal.write_in-requires-clause-held
write_in-requires-clause-held g c = λ tells. (
    let ready = subst (λ (cs : List Change). IsReadyToPut g.D.Disk.told c.args.self cs (g.D.Disk.medium c.args.disk.now)
    (g.D.Disk.medium c.write_contents.new.disk) c.in-Ok.ready.index c.in-Ok.ready.text c.in-Ok.ready.used)
    c.deref.ensures.value c.in-Ok.ensures.ready in
    let prep = ready.prepared in (
      index_text c.args.self.index,
      subst (λ (p : Place). IsAlone (g.D.Disk.medium c.write_contents.new.disk).image p
          c.args.self.cell.generation (index_text c.args.self.index)) (sym c.requires.used.memory.place)
          (alone_still c.args.self.shape.place c.args.self.cell.generation
          (index_text c.args.self.index) (g.D.Disk.medium c.args.disk.now).image
          (g.D.Disk.medium c.write_contents.new.disk).image
          (ready.elsewhere tells) (c.requires.used.disk tells).alone),
    ))

pub returns-in_default-clause-elsewhere : goal.returns-in_default-clause-elsewhere
returns-in_default-clause-elsewhere g c = λ tells. (
    let ready = subst (λ (cs : List Change). IsReadyToPut g.D.Disk.told c.args.self cs (g.D.Disk.medium c.args.disk.now)
    (g.D.Disk.medium c.write_contents.new.disk) c.in-Ok.ready.index c.in-Ok.ready.text c.in-Ok.ready.used)
    c.deref.ensures.value c.in-Ok.ensures.ready in
    let prep = ready.prepared in
    both_around c.args.self.shape.place _
    (g.D.Disk.medium c.write_contents.new.disk).image _ (ready.elsewhere tells)
    (subst (λ (p : Place). Spares (IsNoSlot p) (g.D.Disk.medium c.write_contents.new.disk).image
    (g.D.Disk.medium c.write_in.new.disk).image) c.requires.used.memory.place
    (c.in_default.ensures.puts.elsewhere tells)))

pub returns-in_default-clause-outside : goal.returns-in_default-clause-outside
returns-in_default-clause-outside g c = λ tells quiet. (
    let ready = subst (λ (cs : List Change). IsReadyToPut g.D.Disk.told c.args.self cs (g.D.Disk.medium c.args.disk.now)
    (g.D.Disk.medium c.write_contents.new.disk) c.in-Ok.ready.index c.in-Ok.ready.text c.in-Ok.ready.used)
    c.deref.ensures.value c.in-Ok.ensures.ready in
    let prep = ready.prepared in
    commit_around g.D.Disk.told c.args.self c.args.changes.items c.in-Ok.ready.used c.in-Ok.ready.index ready.jobs
    (g.D.Disk.medium c.args.disk.now) c.requires.used prep.plan tells (g.D.Disk.medium c.write_contents.new.disk)
    (g.D.Disk.medium c.write_in.new.disk) c.as_slice.result.now (c.as_slice.ensures ∙ prep.spelled)
    (ready.keeps tells) (ready.done tells) ready.time c.in_default.ensures.puts.time (Unit {0}) ready.each
    (c.in_default.ensures.puts.any_moment tells ready.quiet) quiet (ready.elsewhere tells))

pub returns-in_default-clause-any_moment : goal.returns-in_default-clause-any_moment
returns-in_default-clause-any_moment g c = λ tells. (
    let ready = subst (λ (cs : List Change). IsReadyToPut g.D.Disk.told c.args.self cs (g.D.Disk.medium c.args.disk.now)
    (g.D.Disk.medium c.write_contents.new.disk) c.in-Ok.ready.index c.in-Ok.ready.text c.in-Ok.ready.used)
    c.deref.ensures.value c.in-Ok.ensures.ready in
    let prep = ready.prepared in
    commit_keeps g.D.Disk.told c.args.self c.args.changes.items c.in-Ok.ready.used c.in-Ok.ready.index ready.jobs
    (g.D.Disk.medium c.args.disk.now) c.requires.used prep.plan tells (g.D.Disk.medium c.write_contents.new.disk)
    (g.D.Disk.medium c.write_in.new.disk) c.as_slice.result.now (c.as_slice.ensures ∙ prep.spelled)
    (ready.keeps tells) (ready.done tells) ready.time c.in_default.ensures.puts.time (Unit {0}) ready.each
    (c.in_default.ensures.puts.any_moment tells ready.quiet)
    c.use_is_adopted.ensures.adopted c.contents_keep.ensures.during c.contents_keep.ensures.done
    c.use_is_adopted.ensures.carried c.index_keeps.ensures)

pub returns-clause-elsewhere : goal.returns-clause-elsewhere
returns-clause-elsewhere g c = λ tells. (
    let ready = subst (λ (cs : List Change). IsReadyToPut g.D.Disk.told c.args.self cs (g.D.Disk.medium c.args.disk.now)
    (g.D.Disk.medium c.write_contents.new.disk) c.in-Ok.ready.index c.in-Ok.ready.text c.in-Ok.ready.used)
    c.deref.ensures.value c.in-Ok.ensures.ready in
    let prep = ready.prepared in
    both_around c.args.self.shape.place _
    (g.D.Disk.medium c.write_contents.new.disk).image _ (ready.elsewhere tells)
    (subst (λ (p : Place). Spares (IsNoSlot p) (g.D.Disk.medium c.write_contents.new.disk).image
    (g.D.Disk.medium c.write_in.new.disk).image) c.requires.used.memory.place
    (c.in-Ok-write_in.ensures.puts.elsewhere tells)))

pub returns-clause-outside : goal.returns-clause-outside
returns-clause-outside g c = λ tells quiet. (
    let ready = subst (λ (cs : List Change). IsReadyToPut g.D.Disk.told c.args.self cs (g.D.Disk.medium c.args.disk.now)
    (g.D.Disk.medium c.write_contents.new.disk) c.in-Ok.ready.index c.in-Ok.ready.text c.in-Ok.ready.used)
    c.deref.ensures.value c.in-Ok.ensures.ready in
    let prep = ready.prepared in
    commit_around g.D.Disk.told c.args.self c.args.changes.items c.in-Ok.ready.used c.in-Ok.ready.index ready.jobs
    (g.D.Disk.medium c.args.disk.now) c.requires.used prep.plan tells (g.D.Disk.medium c.write_contents.new.disk)
    (g.D.Disk.medium c.write_in.new.disk) c.as_slice.result.now (c.as_slice.ensures ∙ prep.spelled)
    (ready.keeps tells) (ready.done tells) ready.time c.in-Ok-write_in.ensures.puts.time (Unit {0}) ready.each
    (c.in-Ok-write_in.ensures.puts.any_moment tells ready.quiet) quiet (ready.elsewhere tells))

pub returns-clause-any_moment : goal.returns-clause-any_moment
returns-clause-any_moment g c = λ tells. (
    let ready = subst (λ (cs : List Change). IsReadyToPut g.D.Disk.told c.args.self cs (g.D.Disk.medium c.args.disk.now)
    (g.D.Disk.medium c.write_contents.new.disk) c.in-Ok.ready.index c.in-Ok.ready.text c.in-Ok.ready.used)
    c.deref.ensures.value c.in-Ok.ensures.ready in
    let prep = ready.prepared in
    commit_keeps g.D.Disk.told c.args.self c.args.changes.items c.in-Ok.ready.used c.in-Ok.ready.index ready.jobs
    (g.D.Disk.medium c.args.disk.now) c.requires.used prep.plan tells (g.D.Disk.medium c.write_contents.new.disk)
    (g.D.Disk.medium c.write_in.new.disk) c.as_slice.result.now (c.as_slice.ensures ∙ prep.spelled)
    (ready.keeps tells) (ready.done tells) ready.time c.in-Ok-write_in.ensures.puts.time (Unit {0}) ready.each
    (c.in-Ok-write_in.ensures.puts.any_moment tells ready.quiet)
    c.use_is_adopted.ensures.adopted c.contents_keep.ensures.during c.contents_keep.ensures.done
    c.use_is_adopted.ensures.carried c.index_keeps.ensures)

pub write_contents-requires-clause-used : goal.write_contents-requires-clause-used
write_contents-requires-clause-used g c = c.requires.used

pub write_contents-requires-clause-changes : goal.write_contents-requires-clause-changes
write_contents-requires-clause-changes g c = subst (λ (cs : List Change).
    AreCommittable c.args.self.shape (view_in c.args.self) cs) (sym c.deref.ensures.value) c.requires.changes

pub returns-in-Err-OutOfMemory-clause-memory : goal.returns-in-Err-OutOfMemory-clause-memory
returns-in-Err-OutOfMemory-clause-memory g c =
    let back : HandsBack c.args.beside (OutOfMemory c.in-Err-OutOfMemory.beside)
    (c.write_contents.new.disk ≡ c.args.disk.now) =
    rw c.in-Err-OutOfMemory.field-0-is at c.in-Err-OutOfMemory.ensures.memory in
    (ap (λ beside. (c.args.self, c.args.changes, beside)) back.0, back.1)

pub returns-in-Err-OutOfMemory-clause-cause : goal.returns-in-Err-OutOfMemory-clause-cause
returns-in-Err-OutOfMemory-clause-cause g c = λ bad. absurd bad

pub returns-in-Err-OutOfMemory-clause-elsewhere : goal.returns-in-Err-OutOfMemory-clause-elsewhere
returns-in-Err-OutOfMemory-clause-elsewhere g c = c.in-Err-OutOfMemory.ensures.elsewhere

pub returns-in-Err-OutOfMemory-clause-outside : goal.returns-in-Err-OutOfMemory-clause-outside
returns-in-Err-OutOfMemory-clause-outside g c = c.in-Err-OutOfMemory.ensures.outside

pub returns-in-Err-OutOfMemory-clause-any_moment : goal.returns-in-Err-OutOfMemory-clause-any_moment
returns-in-Err-OutOfMemory-clause-any_moment g c = λ tells.
    subst (λ (cs : List Change). KeptThroughout c.args.self.shape
    (Opens (committed_by c.args.self.shape (view_in c.args.self) cs) []) (g.D.Disk.medium c.args.disk.now)
    (g.D.Disk.medium c.write_contents.new.disk)) c.deref.ensures.value (c.in-Err-OutOfMemory.ensures.any_moment tells)

pub returns-in-Err-OutOfMemory-clause-time : goal.returns-in-Err-OutOfMemory-clause-time
returns-in-Err-OutOfMemory-clause-time g c = c.in-Err-OutOfMemory.ensures.time

pub returns-in_default-clause-cause : goal.returns-in_default-clause-cause
returns-in_default-clause-cause g c = λ u. (
    let ready = subst (λ (cs : List Change). IsReadyToPut g.D.Disk.told c.args.self cs (g.D.Disk.medium c.args.disk.now)
    (g.D.Disk.medium c.write_contents.new.disk) c.in-Ok.ready.index c.in-Ok.ready.text c.in-Ok.ready.used)
    c.deref.ensures.value c.in-Ok.ensures.ready in
    let prep = ready.prepared in
    let f = ready.time.faults in
    let r = c.in_default.ensures.faults.cause in
    omega (arith, f, r))

pub returns-in_default-clause-time : goal.returns-in_default-clause-time
returns-in_default-clause-time g c = elapses_on c.in-Ok.ensures.ready.time c.in_default.ensures.puts.time

pub moved-requires-clause-empty : goal.moved-requires-clause-empty
moved-requires-clause-empty g c = c.in-Ok.ensures.empty

pub moved-requires-clause-room : goal.moved-requires-clause-room
moved-requires-clause-room g c = (let cap = c.in-Ok.ensures.capacity in let ok =
    c.args.self.entries.ok in omega (arith, cap, ok))

pub changed-entries-requires-clause-ascend : goal.changed-entries-requires-clause-ascend
changed-entries-requires-clause-ascend g c = ascends_as entry_name _ _ c.moved.ensures.items
    (store_ascends c.args.self c.requires.used.memory)

pub changed-entries-requires-clause-small : goal.changed-entries-requires-clause-small
changed-entries-requires-clause-small g c = small_changes c.args.self.shape.kind c.args.self.entries.items
    c.args.changes.items c.requires.changes.each

pub changed-entries-requires-clause-room : goal.changed-entries-requires-clause-room
changed-entries-requires-clause-room g c = (let cap = c.in-Ok.ensures.capacity in let d =
    ap length c.deref.ensures.value in let ok = c.moved.result.ok in let l =
    ap length c.moved.ensures.items in let more = c.moved.ensures.capacity in omega (arith, cap, d, ok, l, more))

pub same-used : goal.same-used
same-used g c = refl

pub same-standing : goal.same-standing
same-standing g c = refl

pub returns-clause-used : goal.returns-clause-used
returns-clause-used g c = (
    let ready = subst (λ (cs : List Change). IsReadyToPut g.D.Disk.told c.args.self cs (g.D.Disk.medium c.args.disk.now)
    (g.D.Disk.medium c.write_contents.new.disk) c.in-Ok.ready.index c.in-Ok.ready.text c.in-Ok.ready.used)
    c.deref.ensures.value c.in-Ok.ensures.ready in
    let prep = ready.prepared in
    finished_used g.D.Disk.told c.args.self c.new-store.result c.args.changes.items _ c.in-Ok-write_in.cell
    c.in-Ok.ready.index c.changed-entries.result c.release_replaced.new.taken c.kept_after-kept.result
    c.new-store.ensures c.requires.used.memory
    c.in-Ok-write_in.ensures.next (c.changed-entries.ensures
    ∙ ap (λ (n : ℕ). after_changes n c.moved.result.items c.args.changes.items) c.generation.ensures
    ∙ ap (λ (es : List Entry). after_changes c.in-Ok-write_in.cell.generation es c.args.changes.items)
    c.moved.ensures.items) (g.D.Disk.medium c.write_in.new.disk).image prep.plan.text
    (commit_read g.D.Disk.told c.args.self c.args.changes.items c.in-Ok.ready.used c.in-Ok.ready.index ready.jobs
    (g.D.Disk.medium c.args.disk.now) c.requires.used prep.plan)
    (taken_area c.args.self.shape c.in-Ok.ready.index c.as_slice-2.result.now (length c.in-Ok.ready.used)
    c.release_replaced.new.taken c.as_slice-2.ensures prep.capacity c.release_replaced.ensures)
    (subst (λ (cs : List Change). All (AreOfElement (after_changes (store_generation c.args.self + 1)
    c.args.self.entries.items cs)) c.kept_after-kept.result.items) c.deref-2.ensures.value
    (c.kept_after-kept.ensures (store_generation c.args.self + 1) c.args.self.entries.items
    c.requires.used.memory.kept))
    (λ tells. commit_in_use g.D.Disk.told c.args.self c.args.changes.items c.in-Ok.ready.used c.in-Ok.ready.index
    ready.jobs (g.D.Disk.medium c.args.disk.now) c.requires.used prep.plan tells
    (g.D.Disk.medium c.write_contents.new.disk) (g.D.Disk.medium c.write_in.new.disk) c.as_slice.result.now
    (c.as_slice.ensures ∙ prep.spelled) (ready.keeps tells) (ready.done tells) c.in-Ok-write_in.cell
    c.in-Ok-write_in.ensures.next (c.in-Ok-write_in.ensures.held tells)
    (c.in-Ok-write_in.ensures.puts.elsewhere tells)))

pub returns-clause-shape : goal.returns-clause-shape
returns-clause-shape g c = ap (λ (st : Store). st.shape) c.new-store.ensures

pub returns-clause-view : goal.returns-clause-view
returns-clause-view g c = finished_view g.D.Disk.told c.args.self c.new-store.result c.args.changes.items _
    c.in-Ok-write_in.cell c.in-Ok.ready.index c.changed-entries.result c.release_replaced.new.taken
    c.kept_after-kept.result c.new-store.ensures
    c.requires.used.memory c.in-Ok-write_in.ensures.next
    (c.changed-entries.ensures ∙ ap (λ (n : ℕ). after_changes n c.moved.result.items c.args.changes.items)
    c.generation.ensures ∙ ap (λ (es : List Entry). after_changes c.in-Ok-write_in.cell.generation es
    c.args.changes.items) c.moved.ensures.items)

pub returns-clause-passes : goal.returns-clause-passes
returns-clause-passes g c = c.in-Ok-write_in.ensures.faults.passes ∙ c.in-Ok.ensures.passes

pub returns-clause-quiet : goal.returns-clause-quiet
returns-clause-quiet g c = c.in-Ok-write_in.ensures.quiet

pub returns-clause-clean : goal.returns-clause-clean
returns-clause-clean g c = λ tells clean. (
    let ready = subst (λ (cs : List Change). IsReadyToPut g.D.Disk.told c.args.self cs (g.D.Disk.medium c.args.disk.now)
    (g.D.Disk.medium c.write_contents.new.disk) c.in-Ok.ready.index c.in-Ok.ready.text c.in-Ok.ready.used)
    c.deref.ensures.value c.in-Ok.ensures.ready in
    let prep = ready.prepared in
    commit_clean g.D.Disk.told c.args.self c.args.changes.items c.in-Ok.ready.used c.in-Ok.ready.index ready.jobs
    (g.D.Disk.medium c.args.disk.now) c.requires.used prep.plan tells (g.D.Disk.medium c.write_contents.new.disk)
    (g.D.Disk.medium c.write_in.new.disk) c.as_slice.result.now (c.as_slice.ensures ∙ prep.spelled)
    (ready.keeps tells) (ready.done tells) c.in-Ok-write_in.cell c.in-Ok-write_in.ensures.next
    (c.in-Ok-write_in.ensures.held tells) (c.in-Ok-write_in.ensures.puts.elsewhere tells) clean)

pub returns-clause-written : goal.returns-clause-written
returns-clause-written g c = (
    let ready = subst (λ (cs : List Change). IsReadyToPut g.D.Disk.told c.args.self cs (g.D.Disk.medium c.args.disk.now)
    (g.D.Disk.medium c.write_contents.new.disk) c.in-Ok.ready.index c.in-Ok.ready.text c.in-Ok.ready.used)
    c.deref.ensures.value c.in-Ok.ensures.ready in
    let prep = ready.prepared in
    subst (λ (i : Index). IsWithin c.args.self.shape.place.copies
    (commit_cost c.args.self.shape.kind c.args.self.entries.items c.args.changes.items) (length (index_text i))
    (g.D.Disk.medium c.args.disk.now).written (g.D.Disk.medium c.write_in.new.disk).written)
    (sym (ap (λ (st : Store). st.index) c.new-store.ensures))
    (commit_written g.D.Disk.told c.args.self c.args.changes.items c.in-Ok.ready.used c.in-Ok.ready.index ready.jobs
    (g.D.Disk.medium c.args.disk.now) c.requires.used prep.plan (g.D.Disk.medium c.write_contents.new.disk)
    ready.cost (g.D.Disk.medium c.write_in.new.disk) c.as_slice.result.now (c.as_slice.ensures ∙ prep.spelled)
    c.in-Ok-write_in.ensures.puts.written))

pub returns-clause-differing : goal.returns-clause-differing
returns-clause-differing g c = λ tells. (
    let ready = subst (λ (cs : List Change). IsReadyToPut g.D.Disk.told c.args.self cs (g.D.Disk.medium c.args.disk.now)
    (g.D.Disk.medium c.write_contents.new.disk) c.in-Ok.ready.index c.in-Ok.ready.text c.in-Ok.ready.used)
    c.deref.ensures.value c.in-Ok.ensures.ready in
    let prep = ready.prepared in
    subst (λ (i : Index). (g.D.Disk.medium c.write_in.new.disk).written
    ≤ (g.D.Disk.medium c.args.disk.now).written + c.args.self.shape.place.copies
    * (commit_cost c.args.self.shape.kind c.args.self.entries.items c.args.changes.items + 44)
    + texts_cost c.args.self.shape.place (own (store_generation c.args.self + 1))
    (sealed (store_generation c.args.self + 1) (index_text i)) (g.D.Disk.medium c.args.disk.now).image
    c.args.self.shape.place.copies)
    (sym (ap (λ (st : Store). st.index) c.new-store.ensures))
    (commit_differs g.D.Disk.told c.args.self c.args.changes.items c.in-Ok.ready.used c.in-Ok.ready.index ready.jobs
    (g.D.Disk.medium c.args.disk.now) c.requires.used prep.plan (g.D.Disk.medium c.write_contents.new.disk)
    ready.cost (ready.elsewhere tells) (g.D.Disk.medium c.write_in.new.disk) c.as_slice.result.now
    (c.as_slice.ensures ∙ prep.spelled) (c.in-Ok-write_in.ensures.puts.differing tells)))

pub returns-clause-time : goal.returns-clause-time
returns-clause-time g c = elapses_on c.in-Ok.ensures.ready.time c.in-Ok-write_in.ensures.puts.time

pub returns-in-Err-Device-clause-cause : goal.returns-in-Err-Device-clause-cause
returns-in-Err-Device-clause-cause g c = λ u.
    c.in-Err-Device.ensures.cause (subst IsDeviceFault (sym c.in-Err-Device.field-0-is) tt)

pub returns-in-Err-Device-clause-elsewhere : goal.returns-in-Err-Device-clause-elsewhere
returns-in-Err-Device-clause-elsewhere g c = c.in-Err-Device.ensures.elsewhere

pub returns-in-Err-Device-clause-outside : goal.returns-in-Err-Device-clause-outside
returns-in-Err-Device-clause-outside g c = c.in-Err-Device.ensures.outside

pub returns-in-Err-Device-clause-any_moment : goal.returns-in-Err-Device-clause-any_moment
returns-in-Err-Device-clause-any_moment g c = λ tells.
    subst (λ (cs : List Change). KeptThroughout c.args.self.shape
    (Opens (committed_by c.args.self.shape (view_in c.args.self) cs) []) (g.D.Disk.medium c.args.disk.now)
    (g.D.Disk.medium c.write_contents.new.disk)) c.deref.ensures.value (c.in-Err-Device.ensures.any_moment tells)

pub returns-in-Err-Device-clause-time : goal.returns-in-Err-Device-clause-time
returns-in-Err-Device-clause-time g c = c.in-Err-Device.ensures.time

pub release_replaced-requires-clause-earlier : goal.release_replaced-requires-clause-earlier
release_replaced-requires-clause-earlier g c = (
    let ready = subst (λ (cs : List Change). IsReadyToPut g.D.Disk.told c.args.self cs (g.D.Disk.medium c.args.disk.now)
    (g.D.Disk.medium c.write_contents.new.disk) c.in-Ok.ready.index c.in-Ok.ready.text c.in-Ok.ready.used)
    c.deref.ensures.value c.in-Ok.ensures.ready in
    let prep = ready.prepared in
    taken_below c.args.self.shape (index_text c.args.self.index) c.args.self.index c.entries.result.now
    (length c.in-Ok.ready.used) c.requires.used.memory.index c.entries.ensures prep.capacity)

pub release_replaced-requires-clause-later : goal.release_replaced-requires-clause-later
release_replaced-requires-clause-later g c = (
    let ready = subst (λ (cs : List Change). IsReadyToPut g.D.Disk.told c.args.self cs (g.D.Disk.medium c.args.disk.now)
    (g.D.Disk.medium c.write_contents.new.disk) c.in-Ok.ready.index c.in-Ok.ready.text c.in-Ok.ready.used)
    c.deref.ensures.value c.in-Ok.ensures.ready in
    let prep = ready.prepared in
    taken_below c.args.self.shape (index_text c.in-Ok.ready.index) c.in-Ok.ready.index c.as_slice-2.result.now
    (length c.in-Ok.ready.used) prep.plan.text c.as_slice-2.ensures prep.capacity)

pub release_replaced-requires-clause-either : goal.release_replaced-requires-clause-either
release_replaced-requires-clause-either g c = (
    let ready = subst (λ (cs : List Change). IsReadyToPut g.D.Disk.told c.args.self cs (g.D.Disk.medium c.args.disk.now)
    (g.D.Disk.medium c.write_contents.new.disk) c.in-Ok.ready.index c.in-Ok.ready.text c.in-Ok.ready.used)
    c.deref.ensures.value c.in-Ok.ensures.ready in
    let prep = ready.prepared in
    of_either c.args.self c.requires.used.memory c.in-Ok.ready.index c.in-Ok.ready.used c.entries.result.now
    c.as_slice-2.result.now c.entries.ensures c.as_slice-2.ensures prep.traced.grown)

pub returns-clause-carried : goal.returns-clause-carried
returns-clause-carried g c = (
    let ready = subst (λ (cs : List Change). IsReadyToPut g.D.Disk.told c.args.self cs (g.D.Disk.medium c.args.disk.now)
    (g.D.Disk.medium c.write_contents.new.disk) c.in-Ok.ready.index c.in-Ok.ready.text c.in-Ok.ready.used)
    c.deref.ensures.value c.in-Ok.ensures.ready in
    let prep = ready.prepared in
    subst (λ (i : Index). KeepsOthers c.args.changes.items c.args.self.index.entries i.entries)
    (sym (ap (λ (st : Store). st.index) c.new-store.ensures)) prep.traced.others)

pub returns-clause-format : goal.returns-clause-format
returns-clause-format g c = (
    let ready = subst (λ (cs : List Change). IsReadyToPut g.D.Disk.told c.args.self cs (g.D.Disk.medium c.args.disk.now)
    (g.D.Disk.medium c.write_contents.new.disk) c.in-Ok.ready.index c.in-Ok.ready.text c.in-Ok.ready.used)
    c.deref.ensures.value c.in-Ok.ensures.ready in
    let prep = ready.prepared in
    ap (λ (st : Store). st.index.format) c.new-store.ensures ∙ prep.format)

pub returns-clause-text : goal.returns-clause-text
returns-clause-text g c = (
    let ready = subst (λ (cs : List Change). IsReadyToPut g.D.Disk.told c.args.self cs (g.D.Disk.medium c.args.disk.now)
    (g.D.Disk.medium c.write_contents.new.disk) c.in-Ok.ready.index c.in-Ok.ready.text c.in-Ok.ready.used)
    c.deref.ensures.value c.in-Ok.ensures.ready in
    let prep = ready.prepared in
    let view : view_in c.new-store.result ≡ committed_by c.args.self.shape (view_in c.args.self) c.args.changes.items =
    finished_view g.D.Disk.told c.args.self c.new-store.result c.args.changes.items _ c.in-Ok-write_in.cell
    c.in-Ok.ready.index c.changed-entries.result c.release_replaced.new.taken c.kept_after-kept.result
    c.new-store.ensures c.requires.used.memory
    c.in-Ok-write_in.ensures.next (c.changed-entries.ensures
    ∙ ap (λ (n : ℕ). after_changes n c.moved.result.items c.args.changes.items) c.generation.ensures
    ∙ ap (λ (es : List Entry). after_changes c.in-Ok-write_in.cell.generation es c.args.changes.items)
    c.moved.ensures.items) in
    ap (λ (st : Store). length (index_text st.index)) c.new-store.ensures
    ∙ commit_length g.D.Disk.told c.args.self c.args.changes.items c.in-Ok.ready.used c.in-Ok.ready.index ready.jobs
    (g.D.Disk.medium c.args.disk.now) c.requires.used prep.plan prep.format
    ∙ sym (ap (λ (w : View). index_length c.args.self.shape.kind w.entries) view))

pub returns-clause-at_most : goal.returns-clause-at_most
returns-clause-at_most g c = (
    let ready = subst (λ (cs : List Change). IsReadyToPut g.D.Disk.told c.args.self cs (g.D.Disk.medium c.args.disk.now)
    (g.D.Disk.medium c.write_contents.new.disk) c.in-Ok.ready.index c.in-Ok.ready.text c.in-Ok.ready.used)
    c.deref.ensures.value c.in-Ok.ensures.ready in
    let prep = ready.prepared in
    subst (λ (n : ℕ). IsWithin c.args.self.shape.place.copies
    (commit_cost c.args.self.shape.kind c.args.self.entries.items c.args.changes.items) n
    (g.D.Disk.medium c.args.disk.now).written (g.D.Disk.medium c.write_in.new.disk).written)
    (commit_length g.D.Disk.told c.args.self c.args.changes.items c.in-Ok.ready.used c.in-Ok.ready.index ready.jobs
    (g.D.Disk.medium c.args.disk.now) c.requires.used prep.plan prep.format)
    (commit_written g.D.Disk.told c.args.self c.args.changes.items c.in-Ok.ready.used c.in-Ok.ready.index ready.jobs
    (g.D.Disk.medium c.args.disk.now) c.requires.used prep.plan (g.D.Disk.medium c.write_contents.new.disk)
    ready.cost (g.D.Disk.medium c.write_in.new.disk) c.as_slice.result.now (c.as_slice.ensures ∙ prep.spelled)
    c.in-Ok-write_in.ensures.puts.written))

pub returns-in_default-clause-at_most : goal.returns-in_default-clause-at_most
returns-in_default-clause-at_most g c = (
    let ready = subst (λ (cs : List Change). IsReadyToPut g.D.Disk.told c.args.self cs (g.D.Disk.medium c.args.disk.now)
    (g.D.Disk.medium c.write_contents.new.disk) c.in-Ok.ready.index c.in-Ok.ready.text c.in-Ok.ready.used)
    c.deref.ensures.value c.in-Ok.ensures.ready in
    let prep = ready.prepared in
    subst (λ (n : ℕ). IsWithin c.args.self.shape.place.copies
    (commit_cost c.args.self.shape.kind c.args.self.entries.items c.args.changes.items) n
    (g.D.Disk.medium c.args.disk.now).written (g.D.Disk.medium c.write_in.new.disk).written)
    (commit_length g.D.Disk.told c.args.self c.args.changes.items c.in-Ok.ready.used c.in-Ok.ready.index ready.jobs
    (g.D.Disk.medium c.args.disk.now) c.requires.used prep.plan prep.format)
    (commit_written g.D.Disk.told c.args.self c.args.changes.items c.in-Ok.ready.used c.in-Ok.ready.index ready.jobs
    (g.D.Disk.medium c.args.disk.now) c.requires.used prep.plan (g.D.Disk.medium c.write_contents.new.disk)
    ready.cost (g.D.Disk.medium c.write_in.new.disk) c.as_slice.result.now (c.as_slice.ensures ∙ prep.spelled)
    c.in_default.ensures.puts.written))

pub returns-in-Err-OutOfMemory-clause-at_most : goal.returns-in-Err-OutOfMemory-clause-at_most
returns-in-Err-OutOfMemory-clause-at_most g c = contents_within c.args.self c.args.changes.items c.deref.result.now _ _
    c.deref.ensures.value c.in-Err-OutOfMemory.ensures.cost

pub returns-in-Err-Device-clause-at_most : goal.returns-in-Err-Device-clause-at_most
returns-in-Err-Device-clause-at_most g c = contents_within c.args.self c.args.changes.items c.deref.result.now _ _
    c.deref.ensures.value c.in-Err-Device.ensures.cost
