use Rattle.std.proofs.Common.{◌≡◌, Some, refl, ap, ◌∙◌, arith}
use Rattle.std.specs.Prelude.{option_map, slice_set}
use Rattle.std.specs.Vec.{with_item}
use Rattle.open_storages.specs.Opens.{session_in}
use Rattle.per_base.specs.declared.errors.PerError.TheVariants.{NotOpen}
use Rattle.per_runtime.specs.storages.Finding.{found_on}
use Rattle.per_runtime.specs.storages.Slots.{resting_with}
use Rattle.per_runtime.proofs.storage_lemmas.LocalEnds.{emptied_same, is_early_closed, local_handled, refused_before}
use Rattle.per_runtime.proofs.storage_lemmas.LocalRows.{local_not_found, local_not_open}
use Rattle.per_runtime.proofs.storage_lemmas.SlotLaws.{session_slot, slot_read}
use Rattle.per_runtime.proofs.storages.slots.OpenSlots.local.Goals as goal

pub returns-in-Err : goal.returns-in-Err
returns-in-Err g c =
    let told = g.D.Disk.told in let m = g.D.Disk.medium c.args.disk.now in let app = c.args.app in let root =
    c.args.root.now in let was = c.args.self.now in
    refused_before c.storages_stand.ensures c.errors_have_texts.ensures told app c.args.now root c.args.local.now.call.now
    was was
    m (c.args.disk.now ≡ c.args.disk.now) refl (g.met.D.Disk.lawful c.args.disk.now) c.requires
    refl c.in-Err.error c.in-Err.ensures.early c.refusal.result c.refusal.ensures
    (λ tells. local_not_found app c.args.now (resting_with m.image app was) c.args.local.now.call.now
    c.args.local.now.name.now
    c.args.local.now.kind c.args.local.now.on
    c.in-Err.error (c.in-Err.ensures.refused m.image (c.requires.root_at.disk tells)))

pub returns-in_default : goal.returns-in_default
returns-in_default g c =
    let told = g.D.Disk.told in let m = g.D.Disk.medium c.args.disk.now in let app = c.args.app in let root =
    c.args.root.now in let was = c.args.self.now in
    let l = c.in-Ok.located in
    let room = c.requires.open_on.room in let within = c.in-Ok.ensures.located.within.in_slots in
    let none = slot_read was l.number c.index_mut.result.now (omega (arith, room, within)) c.index_mut.ensures.value
    ∙ c.in_default.is in
    refused_before c.storages_stand.ensures c.errors_have_texts.ensures told app c.args.now root c.args.local.now.call.now
    was
    (record { «open» = with_item was.open l.number c.index_mut.result.now }) m (c.args.disk.now ≡ c.args.disk.now) refl
    (g.met.D.Disk.lawful c.args.disk.now) c.requires
    (emptied_same was (record { «open» = with_item was.open l.number c.index_mut.result.now }) l.number
    (omega (arith, room, within)) none (ap (λ x. slice_set was.open.items l.number x) c.in_default.is))
    NotOpen is_early_closed c.refusal-in_default.result c.refusal-in_default.ensures
    (λ tells. local_not_open app c.args.now (resting_with m.image app was) c.args.local.now.call.now
    c.args.local.now.name.now
    c.args.local.now.kind c.args.local.now.on
    (found_on m.image l) (c.in-Ok.ensures.found m.image (c.requires.root_at.disk tells))
    (session_slot m.image app was l.number ∙ ap (option_map session_in) none))

pub returns : goal.returns
returns g c =
    let told = g.D.Disk.told in let m = g.D.Disk.medium c.args.disk.now in let app = c.args.app in let root =
    c.args.root.now in let was = c.args.self.now in
    let l = c.in-Ok.located in
    let room = c.requires.open_on.room in let within = c.in-Ok.ensures.located.within.in_slots in
    let asked = c.call-answer.ensures in
    local_handled c.storages_stand.ensures c.errors_have_texts.ensures told app c.args.now root c.args.local.now.call.now
    c.args.local.now.name.now c.args.local.now.kind was (record {
      «open» = with_item was.open l.number (Some
          c.call-answer.new.self);
    })
    m (c.args.disk.now ≡ c.args.disk.now) refl (g.met.D.Disk.lawful c.args.disk.now) c.requires
    c.args.local.now.on
    l c.in-Ok.ensures.located c.in-Ok.ensures.found c.in-Some.storage c.call-answer.new.self
    (slot_read was l.number c.index_mut.result.now (omega (arith, room, within)) c.index_mut.ensures.value
    ∙ c.in-Some.is)
    refl asked.config asked.store
    (record { kind = c.invariants.ensures.kind; shows = c.invariants.ensures.synced })
    c.call-answer.result c.concluded.result c.concluded.ensures asked.ok asked.text asked.refused asked.unfailed
    asked.memory asked.unchanged
