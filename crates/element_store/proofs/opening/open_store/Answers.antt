use Rattle.std.proofs.Common.{ℕ, List, length, ◌+◌, ◌*◌, ◌≤◌, refl, sym, ap, subst, ◌∙◌, arith}
use Rattle.std.specs.Prelude.{sum_by}
use Rattle.per_base.specs.declared.elements.Entry.{Entry}
use Rattle.disk_model.specs.Image.{Image}
use Rattle.disk_model.specs.Laws.{elapses_on}
use Rattle.guarded_cell.specs.Seens.{IsSeenOn}
use Rattle.guarded_cell.specs.Slots.{IsSlotsOf}
use Rattle.element_state.specs.Chosen.{opened_of}
use Rattle.element_state.specs.States.{store_at}
use Rattle.element_store.specs.declared.store.Store.{Store}
use Rattle.element_store.specs.Committing.{index_in}
use Rattle.element_store.specs.Mends.{lacking_cost}
use Rattle.element_store.proofs.Costs.{adopted_cost, opened_cost}
use Rattle.element_store.proofs.Opened.{opening_used, opening_view, opening_clean, opening_shown, opening_alone}
use Rattle.element_store.proofs.Opened.{opening_opens, opening_spared, opening_whole, opening_by, idle_adopted}
use Rattle.element_store.proofs.Opened.{idle_views, idle_on}
use Rattle.element_store.proofs.StoreViews.{store_view_as}
use Rattle.element_store.proofs.Moments.{first_kept, second_kept, third_kept, slots_outside, both_outside}
use Rattle.element_store.proofs.Moments.{second_outside, third_outside}
use Rattle.element_store.proofs.opening.open_store.Goals as goal

pub returns-in_err-seen-clause-any_moment : goal.returns-in_err-seen-clause-any_moment
returns-in_err-seen-clause-any_moment g c = λ tells after quiet clean x past twins.
    first_kept c.args.shape (g.D.Disk.medium c.args.disk.now) (g.D.Disk.medium c.prepare.new.disk) c.requires clean
    (c.in_err-seen.ensures.idle quiet) c.untouched_is_kept.ensures.untouched after x past

pub adopt_seen-requires-clause-sealable : goal.adopt_seen-requires-clause-sealable
adopt_seen-requires-clause-sealable g c = c.in_ok-seen.ensures.ready.text.sealable

pub adopt_seen-requires-clause-seen : goal.adopt_seen-requires-clause-seen
adopt_seen-requires-clause-seen g c = λ tells.
    subst (λ (i : Image). IsSeenOn i c.args.shape.place c.in_ok-seen.field-0.seen)
    (sym c.in_ok-seen.ensures.image) (c.in_ok-seen.ensures.found tells).copies

pub adopt_seen-requires-clause-slots : goal.adopt_seen-requires-clause-slots
adopt_seen-requires-clause-slots g c = λ tells.
    subst (λ (i : Image). IsSlotsOf i c.args.shape.place c.in_ok-seen.field-0.slots)
    (sym c.in_ok-seen.ensures.image) (c.in_ok-seen.ensures.found tells).slots

pub returns-in_err-cell-clause-elsewhere : goal.returns-in_err-cell-clause-elsewhere
returns-in_err-cell-clause-elsewhere g c = λ tells. slots_outside c.args.shape.place
    (g.D.Disk.medium c.args.disk.now) (g.D.Disk.medium c.prepare.new.disk) (g.D.Disk.medium c.adopt_seen.new.disk)
    c.in_ok-seen.ensures.image (c.in_err-cell.ensures.brings.puts.elsewhere tells)

pub returns-in_err-cell-clause-time : goal.returns-in_err-cell-clause-time
returns-in_err-cell-clause-time g c = elapses_on c.in_ok-seen.ensures.time c.in_err-cell.ensures.brings.puts.time

pub returns-in_err-cell-clause-outside : goal.returns-in_err-cell-clause-outside
returns-in_err-cell-clause-outside g c = λ tells quiet.
    second_outside c.args.shape.place c.in_ok-seen.field-0.seen.generation
    c.in_ok-seen.field-0.seen.text (g.D.Disk.medium c.args.disk.now) (g.D.Disk.medium c.prepare.new.disk)
    (g.D.Disk.medium c.adopt_seen.new.disk) (c.in_ok-seen.ensures.idle quiet) c.in_ok-seen.ensures.time
    c.in_err-cell.ensures.brings.puts.time (c.in_err-cell.ensures.brings.puts.any_moment tells
    c.in_ok-seen.ensures.quiet)

pub returns-in_err-cell-clause-any_moment : goal.returns-in_err-cell-clause-any_moment
returns-in_err-cell-clause-any_moment g c = λ tells after quiet clean x past twins.
    second_kept c.args.shape (g.D.Disk.medium c.args.disk.now) (g.D.Disk.medium c.prepare.new.disk) c.requires clean
    (c.in_ok-seen.ensures.idle quiet) c.untouched_is_kept.ensures.untouched after
    (g.D.Disk.medium c.adopt_seen.new.disk) c.adopting_keeps.ensures.adopt c.in_ok-seen.field-0.seen.generation
    c.in_ok-seen.field-0.seen.text c.in_ok-seen.field-0.index (opening_opens (g.D.Disk.medium c.args.disk.now).image
    c.args.shape c.in_ok-seen.field-0 c.in_ok-seen.field-0.seen.text (c.in_ok-seen.ensures.found tells) refl
    c.use_is_adopted.ensures.opened) c.in_ok-seen.ensures.time c.in_err-cell.ensures.brings.puts.time
    (c.in_err-cell.ensures.brings.puts.any_moment tells c.in_ok-seen.ensures.quiet) x past

pub returns-in_err-mend_durably-clause-elsewhere : goal.returns-in_err-mend_durably-clause-elsewhere
returns-in_err-mend_durably-clause-elsewhere g c = λ tells.
    both_outside c.args.shape.place (g.D.Disk.medium c.args.disk.now)
    (g.D.Disk.medium c.prepare.new.disk) (g.D.Disk.medium c.adopt_seen.new.disk) c.in_ok-seen.ensures.image
    (c.in_ok-cell.ensures.brings.puts.elsewhere tells) (g.D.Disk.medium c.mend_durably.new.disk).image
    (c.in_err-mend_durably.ensures.elsewhere tells)

pub returns-in_err-mend_durably-clause-outside : goal.returns-in_err-mend_durably-clause-outside
returns-in_err-mend_durably-clause-outside g c = λ tells quiet.
    third_outside c.args.shape.place c.in_ok-seen.field-0.seen.generation
    c.in_ok-seen.field-0.seen.text (g.D.Disk.medium c.args.disk.now) (g.D.Disk.medium c.prepare.new.disk)
    (g.D.Disk.medium c.adopt_seen.new.disk) (c.in_ok-seen.ensures.idle quiet) c.in_ok-seen.ensures.time
    c.in_ok-cell.ensures.brings.puts.time (c.in_ok-cell.ensures.brings.puts.any_moment tells c.in_ok-seen.ensures.quiet)
    c.args.shape refl (g.D.Disk.medium c.mend_durably.new.disk) c.in_ok-seen.field-0.index c.as_slice.result.now
    (opening_shown (g.D.Disk.medium c.args.disk.now).image c.args.shape c.in_ok-seen.field-0 c.as_slice.result.now
    (c.in_ok-seen.ensures.found tells) c.as_slice.ensures) (c.in_ok-cell.ensures.brings.puts.elsewhere tells)
    c.in_err-mend_durably.ensures.time (c.in_err-mend_durably.ensures.during tells)

pub returns-in_err-mend_durably-clause-any_moment : goal.returns-in_err-mend_durably-clause-any_moment
returns-in_err-mend_durably-clause-any_moment g c = λ tells after quiet clean x past.
    third_kept c.args.shape (g.D.Disk.medium c.args.disk.now) (g.D.Disk.medium c.prepare.new.disk) c.requires clean
    (c.in_ok-seen.ensures.idle quiet) c.untouched_is_kept.ensures.untouched after
    (g.D.Disk.medium c.adopt_seen.new.disk) c.adopting_keeps.ensures.adopt c.in_ok-seen.field-0.seen.generation
    c.in_ok-seen.field-0.seen.text c.in_ok-seen.field-0.index (opening_opens (g.D.Disk.medium c.args.disk.now).image
    c.args.shape c.in_ok-seen.field-0 c.in_ok-seen.field-0.seen.text (c.in_ok-seen.ensures.found tells) refl
    c.use_is_adopted.ensures.opened) c.in_ok-seen.ensures.time c.in_ok-cell.ensures.brings.puts.time
    (c.in_ok-cell.ensures.brings.puts.any_moment tells c.in_ok-seen.ensures.quiet)
    (g.D.Disk.medium c.mend_durably.new.disk) c.mending_keeps.ensures.mend c.as_slice.result.now
    c.in_ok-seen.ensures.ready.text.index.rules (opening_shown (g.D.Disk.medium c.args.disk.now).image c.args.shape
    c.in_ok-seen.field-0 c.as_slice.result.now (c.in_ok-seen.ensures.found tells) c.as_slice.ensures)
    (opening_alone (g.D.Disk.medium c.adopt_seen.new.disk).image c.args.shape c.in_ok-seen.field-0.seen.generation
    c.in_ok-cell.cell c.in_ok-seen.field-0.seen.text c.in_ok-cell.ensures.cell (c.in_ok-cell.ensures.held tells))
    (c.in_ok-cell.ensures.brings.puts.elsewhere tells)
    c.in_err-mend_durably.ensures.time (c.in_err-mend_durably.ensures.during tells) x past

pub returns-clause-elsewhere : goal.returns-clause-elsewhere
returns-clause-elsewhere g c = λ tells. both_outside c.args.shape.place
    (g.D.Disk.medium c.args.disk.now) (g.D.Disk.medium c.prepare.new.disk) (g.D.Disk.medium c.adopt_seen.new.disk)
    c.in_ok-seen.ensures.image (c.in_ok-cell.ensures.brings.puts.elsewhere tells)
    (g.D.Disk.medium c.mend_durably.new.disk).image
    (c.in_ok-mend_durably.ensures.elsewhere tells)

pub returns-clause-outside : goal.returns-clause-outside
returns-clause-outside g c = λ tells quiet. third_outside c.args.shape.place
    c.in_ok-seen.field-0.seen.generation c.in_ok-seen.field-0.seen.text (g.D.Disk.medium c.args.disk.now)
    (g.D.Disk.medium c.prepare.new.disk) (g.D.Disk.medium c.adopt_seen.new.disk) (c.in_ok-seen.ensures.idle quiet)
    c.in_ok-seen.ensures.time c.in_ok-cell.ensures.brings.puts.time (c.in_ok-cell.ensures.brings.puts.any_moment tells
    c.in_ok-seen.ensures.quiet)
    c.args.shape refl (g.D.Disk.medium c.mend_durably.new.disk) c.in_ok-seen.field-0.index c.as_slice.result.now
    (opening_shown (g.D.Disk.medium c.args.disk.now).image c.args.shape c.in_ok-seen.field-0 c.as_slice.result.now
    (c.in_ok-seen.ensures.found tells) c.as_slice.ensures) (c.in_ok-cell.ensures.brings.puts.elsewhere tells)
    c.in_ok-mend_durably.ensures.time (c.in_ok-mend_durably.ensures.during tells)

pub returns-clause-any_moment : goal.returns-clause-any_moment
returns-clause-any_moment g c = λ tells after quiet clean x past.
    third_kept c.args.shape (g.D.Disk.medium c.args.disk.now) (g.D.Disk.medium c.prepare.new.disk) c.requires clean
    (c.in_ok-seen.ensures.idle quiet) c.untouched_is_kept.ensures.untouched after
    (g.D.Disk.medium c.adopt_seen.new.disk) c.adopting_keeps.ensures.adopt c.in_ok-seen.field-0.seen.generation
    c.in_ok-seen.field-0.seen.text c.in_ok-seen.field-0.index (opening_opens (g.D.Disk.medium c.args.disk.now).image
    c.args.shape c.in_ok-seen.field-0 c.in_ok-seen.field-0.seen.text (c.in_ok-seen.ensures.found tells) refl
    c.use_is_adopted.ensures.opened) c.in_ok-seen.ensures.time c.in_ok-cell.ensures.brings.puts.time
    (c.in_ok-cell.ensures.brings.puts.any_moment tells c.in_ok-seen.ensures.quiet)
    (g.D.Disk.medium c.mend_durably.new.disk) c.mending_keeps.ensures.mend c.as_slice.result.now
    c.in_ok-seen.ensures.ready.text.index.rules (opening_shown (g.D.Disk.medium c.args.disk.now).image c.args.shape
    c.in_ok-seen.field-0 c.as_slice.result.now (c.in_ok-seen.ensures.found tells) c.as_slice.ensures)
    (opening_alone (g.D.Disk.medium c.adopt_seen.new.disk).image c.args.shape c.in_ok-seen.field-0.seen.generation
    c.in_ok-cell.cell c.in_ok-seen.field-0.seen.text c.in_ok-cell.ensures.cell (c.in_ok-cell.ensures.held tells))
    (c.in_ok-cell.ensures.brings.puts.elsewhere tells)
    c.in_ok-mend_durably.ensures.time (c.in_ok-mend_durably.ensures.during tells) x past

pub returns-clause-view : goal.returns-clause-view
returns-clause-view g c = opening_view g.D.Disk.told (g.D.Disk.medium c.args.disk.now).image
    (g.D.Disk.medium c.adopt_seen.new.disk).image (g.D.Disk.medium c.mend_durably.new.disk).image c.args.shape
    c.in_ok-seen.field-0 c.in_ok-cell.cell c.in_ok-seen.field-0.seen.text
    c.requires c.in_ok-seen.ensures.ready refl c.in_ok-cell.ensures.cell c.in_ok-cell.ensures.held
    c.in_ok-seen.ensures.found
    (λ tells f none. c.in_ok-cell.ensures.brings.puts.elsewhere tells f none ∙ ap (λ (i : Image). i f)
    c.in_ok-seen.ensures.image)
    (opening_spared g.D.Disk.told c.args.shape c.in_ok-seen.field-0 c.as_slice.result.now
    (g.D.Disk.medium c.adopt_seen.new.disk).image (g.D.Disk.medium c.mend_durably.new.disk).image c.as_slice.ensures
    c.in_ok-mend_durably.ensures.spared)
    (opening_whole g.D.Disk.told c.args.shape c.in_ok-seen.field-0 c.as_slice.result.now
    (g.D.Disk.medium c.mend_durably.new.disk).image c.as_slice.ensures c.in_ok-mend_durably.ensures.whole)
    c.args.alloc c.in_ok-seen.field-0.kept c.new.result c.new.ensures

pub returns-clause-used : goal.returns-clause-used
returns-clause-used g c = opening_used g.D.Disk.told (g.D.Disk.medium c.args.disk.now).image
    (g.D.Disk.medium c.adopt_seen.new.disk).image (g.D.Disk.medium c.mend_durably.new.disk).image c.args.shape
    c.in_ok-seen.field-0 c.in_ok-cell.cell c.in_ok-seen.field-0.seen.text
    c.requires c.in_ok-seen.ensures.ready refl c.in_ok-cell.ensures.cell c.in_ok-cell.ensures.held
    c.in_ok-seen.ensures.found
    (λ tells f none. c.in_ok-cell.ensures.brings.puts.elsewhere tells f none ∙ ap (λ (i : Image). i f)
    c.in_ok-seen.ensures.image)
    (opening_spared g.D.Disk.told c.args.shape c.in_ok-seen.field-0 c.as_slice.result.now
    (g.D.Disk.medium c.adopt_seen.new.disk).image (g.D.Disk.medium c.mend_durably.new.disk).image c.as_slice.ensures
    c.in_ok-mend_durably.ensures.spared)
    (opening_whole g.D.Disk.told c.args.shape c.in_ok-seen.field-0 c.as_slice.result.now
    (g.D.Disk.medium c.mend_durably.new.disk).image c.as_slice.ensures c.in_ok-mend_durably.ensures.whole)
    c.args.alloc c.new.result c.new.ensures

pub returns-clause-read : goal.returns-clause-read
returns-clause-read g c = c.in_ok-seen.ensures.ready.view

pub returns-clause-shown : goal.returns-clause-shown
returns-clause-shown g c = store_view_as c.new.result c.args.shape (ap (λ (s : Store). s.shape) c.new.ensures)
    (returns-clause-used g c).memory

pub returns-clause-adopted : goal.returns-clause-adopted
returns-clause-adopted g c = λ tells. opening_by (g.D.Disk.medium c.args.disk.now).image c.args.shape
    c.in_ok-seen.field-0 (index_in c.new.result) (ap index_in c.new.ensures) (c.in_ok-seen.ensures.found tells)

pub returns-clause-clean : goal.returns-clause-clean
returns-clause-clean g c = λ tells clean. opening_clean g.D.Disk.told (g.D.Disk.medium c.args.disk.now).image
    (g.D.Disk.medium c.adopt_seen.new.disk).image (g.D.Disk.medium c.mend_durably.new.disk).image c.args.shape
    c.in_ok-seen.field-0 c.in_ok-cell.cell c.in_ok-seen.field-0.seen.text
    c.requires c.in_ok-seen.ensures.ready refl c.in_ok-cell.ensures.cell c.in_ok-cell.ensures.held
    c.in_ok-seen.ensures.found
    (λ tells f none. c.in_ok-cell.ensures.brings.puts.elsewhere tells f none ∙ ap (λ (i : Image). i f)
    c.in_ok-seen.ensures.image)
    (opening_spared g.D.Disk.told c.args.shape c.in_ok-seen.field-0 c.as_slice.result.now
    (g.D.Disk.medium c.adopt_seen.new.disk).image (g.D.Disk.medium c.mend_durably.new.disk).image c.as_slice.ensures
    c.in_ok-mend_durably.ensures.spared)
    (opening_whole g.D.Disk.told c.args.shape c.in_ok-seen.field-0 c.as_slice.result.now
    (g.D.Disk.medium c.mend_durably.new.disk).image c.as_slice.ensures c.in_ok-mend_durably.ensures.whole)
    c.places_are_clean.ensures.alone c.use_is_adopted.ensures.opened tells clean

pub returns-in_err-seen-clause-idle : goal.returns-in_err-seen-clause-idle
returns-in_err-seen-clause-idle g c = λ tells lacks. record {
  image = c.in_err-seen.ensures.image;
  written =
      c.in_err-seen.ensures.written;
}

pub returns-in_err-cell-clause-idle : goal.returns-in_err-cell-clause-idle
returns-in_err-cell-clause-idle g c = λ tells lacks. idle_adopted c.args.shape (g.D.Disk.medium c.args.disk.now)
    (g.D.Disk.medium c.prepare.new.disk) (g.D.Disk.medium c.adopt_seen.new.disk) c.in_ok-seen.field-0
    c.in_ok-seen.field-0.seen.text
    c.in_ok-seen.field-0.before.entries lacks.index lacks.view c.requires
    lacks.in_use c.in_ok-seen.ensures.ready (c.in_ok-seen.ensures.found tells) refl refl
    c.in_ok-seen.ensures.image c.in_ok-seen.ensures.written
    (c.in_err-cell.ensures.brings.right tells) (c.in_err-cell.ensures.brings.already tells)

pub returns-in_err-mend_durably-clause-idle : goal.returns-in_err-mend_durably-clause-idle
returns-in_err-mend_durably-clause-idle g c = λ tells lacks.
    idle_on (g.D.Disk.medium c.args.disk.now) (g.D.Disk.medium c.adopt_seen.new.disk)
    (g.D.Disk.medium c.mend_durably.new.disk)
    (idle_adopted c.args.shape (g.D.Disk.medium c.args.disk.now) (g.D.Disk.medium c.prepare.new.disk)
    (g.D.Disk.medium c.adopt_seen.new.disk) c.in_ok-seen.field-0 c.in_ok-seen.field-0.seen.text c.as_slice.result.now
    lacks.index lacks.view c.requires
    lacks.in_use c.in_ok-seen.ensures.ready (c.in_ok-seen.ensures.found tells) refl c.as_slice.ensures
    c.in_ok-seen.ensures.image c.in_ok-seen.ensures.written
    (c.in_ok-cell.ensures.brings.right tells) (c.in_ok-cell.ensures.brings.already tells))
    (c.in_err-mend_durably.ensures.idle tells (idle_views c.args.shape (g.D.Disk.medium c.args.disk.now)
    (g.D.Disk.medium c.prepare.new.disk) (g.D.Disk.medium c.adopt_seen.new.disk) c.in_ok-seen.field-0
    c.in_ok-seen.field-0.seen.text c.as_slice.result.now lacks.index lacks.view c.requires
    lacks.in_use c.in_ok-seen.ensures.ready (c.in_ok-seen.ensures.found tells) refl c.as_slice.ensures))

pub returns-clause-idle : goal.returns-clause-idle
returns-clause-idle g c = λ tells lacks. idle_on (g.D.Disk.medium c.args.disk.now)
    (g.D.Disk.medium c.adopt_seen.new.disk)
    (g.D.Disk.medium c.mend_durably.new.disk)
    (idle_adopted c.args.shape (g.D.Disk.medium c.args.disk.now) (g.D.Disk.medium c.prepare.new.disk)
    (g.D.Disk.medium c.adopt_seen.new.disk) c.in_ok-seen.field-0 c.in_ok-seen.field-0.seen.text c.as_slice.result.now
    lacks.index lacks.view c.requires
    lacks.in_use c.in_ok-seen.ensures.ready (c.in_ok-seen.ensures.found tells) refl c.as_slice.ensures
    c.in_ok-seen.ensures.image c.in_ok-seen.ensures.written
    (c.in_ok-cell.ensures.brings.right tells) (c.in_ok-cell.ensures.brings.already tells))
    (c.in_ok-mend_durably.ensures.idle tells (idle_views c.args.shape (g.D.Disk.medium c.args.disk.now)
    (g.D.Disk.medium c.prepare.new.disk) (g.D.Disk.medium c.adopt_seen.new.disk) c.in_ok-seen.field-0
    c.in_ok-seen.field-0.seen.text c.as_slice.result.now lacks.index lacks.view c.requires
    lacks.in_use c.in_ok-seen.ensures.ready (c.in_ok-seen.ensures.found tells) refl c.as_slice.ensures))

pub returns-in_err-mend_durably-clause-time : goal.returns-in_err-mend_durably-clause-time
returns-in_err-mend_durably-clause-time g c = elapses_on
    (elapses_on c.in_ok-seen.ensures.time c.in_ok-cell.ensures.brings.puts.time) c.in_err-mend_durably.ensures.time

pub returns-clause-time : goal.returns-clause-time
returns-clause-time g c = elapses_on (elapses_on c.in_ok-seen.ensures.time c.in_ok-cell.ensures.brings.puts.time)
    c.in_ok-mend_durably.ensures.time

pub returns-in_err-cell-clause-written : goal.returns-in_err-cell-clause-written
returns-in_err-cell-clause-written g c = λ tells.
    adopted_cost c.args.shape.place.copies (length c.in_ok-seen.field-0.seen.text)
    (g.D.Disk.medium c.args.disk.now).written (g.D.Disk.medium c.adopt_seen.new.disk).written
    c.in_ok-seen.ensures.ready.text.sealable.short
    (subst (λ (n : ℕ). (g.D.Disk.medium c.adopt_seen.new.disk).written
    ≤ n + c.args.shape.place.copies * (44 + length c.in_ok-seen.field-0.seen.text + 44)) c.in_ok-seen.ensures.written
    c.in_err-cell.ensures.brings.puts.written)
    c.in_ok-seen.field-0.before (opened_of (store_at (g.D.Disk.medium c.args.disk.now).image c.args.shape))
    (c.in_ok-seen.ensures.found tells).opens

pub returns-in_err-mend_durably-clause-written : goal.returns-in_err-mend_durably-clause-written
returns-in_err-mend_durably-clause-written g c = λ tells.
    opened_cost c.args.shape.place.copies (length c.in_ok-seen.field-0.seen.text)
    (g.D.Disk.medium c.args.disk.now).written (g.D.Disk.medium c.adopt_seen.new.disk).written
    c.in_ok-seen.ensures.ready.text.sealable.short
    (subst (λ (n : ℕ). (g.D.Disk.medium c.adopt_seen.new.disk).written
    ≤ n + c.args.shape.place.copies * (44 + length c.in_ok-seen.field-0.seen.text + 44)) c.in_ok-seen.ensures.written
    c.in_ok-cell.ensures.brings.puts.written)
    c.in_ok-seen.field-0.before (opened_of (store_at (g.D.Disk.medium c.args.disk.now).image c.args.shape))
    (g.D.Disk.medium c.mend_durably.new.disk).written (c.in_ok-seen.ensures.found tells).opens
    (subst (λ (fs : List Entry). (g.D.Disk.medium c.mend_durably.new.disk).written
    ≤ (g.D.Disk.medium c.adopt_seen.new.disk).written + sum_by lacking_cost fs) c.as_slice.ensures
    c.in_err-mend_durably.ensures.written)

pub returns-clause-written : goal.returns-clause-written
returns-clause-written g c = λ tells.
    opened_cost c.args.shape.place.copies (length c.in_ok-seen.field-0.seen.text)
    (g.D.Disk.medium c.args.disk.now).written (g.D.Disk.medium c.adopt_seen.new.disk).written
    c.in_ok-seen.ensures.ready.text.sealable.short
    (subst (λ (n : ℕ). (g.D.Disk.medium c.adopt_seen.new.disk).written
    ≤ n + c.args.shape.place.copies * (44 + length c.in_ok-seen.field-0.seen.text + 44)) c.in_ok-seen.ensures.written
    c.in_ok-cell.ensures.brings.puts.written)
    c.in_ok-seen.field-0.before (opened_of (store_at (g.D.Disk.medium c.args.disk.now).image c.args.shape))
    (g.D.Disk.medium c.mend_durably.new.disk).written (c.in_ok-seen.ensures.found tells).opens
    (subst (λ (fs : List Entry). (g.D.Disk.medium c.mend_durably.new.disk).written
    ≤ (g.D.Disk.medium c.adopt_seen.new.disk).written + sum_by lacking_cost fs) c.as_slice.ensures
    c.in_ok-mend_durably.ensures.written)
