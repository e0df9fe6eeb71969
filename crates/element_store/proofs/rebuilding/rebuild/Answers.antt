use Rattle.std.proofs.Common.{◌≡◌, ℕ, ◌+◌, ◌*◌, ◌≤◌, List, length, false, true, sym, ap, subst, arith}
use Rattle.per_base.specs.declared.elements.Fresh.{Fresh}
use Rattle.disk_model.specs.lemmas.Frames.{settled_less}
use Rattle.disk_model.specs.lemmas.Places.{outside_no_slot}
use Rattle.index_text.specs.lemmas.Lengths.{text_is_short}
use Rattle.element_state.specs.States.{store_at, salvage_of, next_generation, fresh_map, fresh_state}
use Rattle.element_laws.specs.lemmas.Lists.{not_false}
use Rattle.element_store.specs.Plans.{blocks_of_all}
use Rattle.element_store.specs.Spelled.{ShowsFresh, IsTextOf}
use Rattle.element_store.proofs.Costs.{settled_cost, put_cost, rebuilt_cost}
use Rattle.element_store.proofs.Created.{created_clean}
use Rattle.element_store.proofs.Ruled.{blocks_enough}
use Rattle.element_store.proofs.RebuiltKept.{contents_rebuilt, index_rebuilt, contents_elsewhere, index_elsewhere}
use Rattle.element_store.proofs.RebuiltKept.{contents_outside, index_outside, rebuilding_in_use, rebuilding_opens}
use Rattle.element_store.proofs.rebuilding.rebuild.Goals as goal

pub returns-in_err-used-clause-any_moment : goal.returns-in_err-used-clause-any_moment
returns-in_err-used-clause-any_moment g c = λ tells. c.in_err-used.ensures.kept tells
    (fresh_state (next_generation (salvage_of (store_at (g.D.Disk.medium c.args.disk.now).image c.args.shape.now)))
    (fresh_map c.args.contents.items))

pub returns-in_err-used-clause-elsewhere : goal.returns-in_err-used-clause-elsewhere
returns-in_err-used-clause-elsewhere g c = λ tells f out.
    c.in_err-used.ensures.elsewhere tells f (outside_no_slot c.args.shape.now.place
    f out)

pub returns-in_err-used-clause-outside : goal.returns-in_err-used-clause-outside
returns-in_err-used-clause-outside g c = λ tells quiet x past.
    settled_less (λ f out. outside_no_slot c.args.shape.now.place f out)
    (c.in_err-used.ensures.any_moment tells quiet x past)

pub put_contents-requires-clause-free : goal.put_contents-requires-clause-free
put_contents-requires-clause-free g c =
    let enough = blocks_enough c.args.shape.now c.args.contents.items c.requires.contents in
    let e : blocks_of_all c.deref.result.now ≡ blocks_of_all c.args.contents.items =
    ap (λ (fs : List Fresh). blocks_of_all fs) c.deref.ensures.value in
    let free = c.in_ok-used.ensures.free in
    omega (arith, enough, e, free)

pub returns-in_err-spelled-clause-any_moment : goal.returns-in_err-spelled-clause-any_moment
returns-in_err-spelled-clause-any_moment g c = λ tells.
    contents_rebuilt c.args.shape.now c.in_ok-used.field-0.used c.in_ok-used.field-0.generation c.args.contents.items
    (g.D.Disk.medium c.args.disk.now) (g.D.Disk.medium c.prepare.new.disk) c.in_ok-used.ensures.time
    (c.in_ok-used.ensures.kept tells) (c.in_ok-used.ensures.ready tells) c.in_ok-used.ensures.quiet
    (g.D.Disk.medium c.put_contents.new.disk) c.in_err-spelled.ensures.time
    (fresh_state (next_generation (salvage_of (store_at (g.D.Disk.medium c.args.disk.now).image c.args.shape.now)))
    (fresh_map c.args.contents.items)) (false ≡ true) (λ no. absurd (not_false no))
    c.in_err-spelled.ensures.during

pub returns-in_err-spelled-clause-elsewhere : goal.returns-in_err-spelled-clause-elsewhere
returns-in_err-spelled-clause-elsewhere g c = λ tells.
    contents_elsewhere c.args.shape.now.place c.in_ok-used.field-0.used
    (g.D.Disk.medium c.args.disk.now) (g.D.Disk.medium c.prepare.new.disk) (g.D.Disk.medium c.put_contents.new.disk)
    c.in_ok-used.ensures.time c.in_err-spelled.ensures.time (c.in_ok-used.ensures.elsewhere tells)
    (c.in_err-spelled.ensures.elsewhere tells)

pub returns-in_err-spelled-clause-outside : goal.returns-in_err-spelled-clause-outside
returns-in_err-spelled-clause-outside g c = λ tells quiet.
    contents_outside c.args.shape.now.place c.in_ok-used.field-0.used
    (g.D.Disk.medium c.args.disk.now) (g.D.Disk.medium c.prepare.new.disk) (g.D.Disk.medium c.put_contents.new.disk)
    c.in_ok-used.ensures.time c.in_err-spelled.ensures.time (c.in_ok-used.ensures.elsewhere tells)
    (c.in_err-spelled.ensures.elsewhere tells)
    (c.in_ok-used.ensures.any_moment tells quiet) c.in_ok-used.ensures.quiet (false ≡ true)
    c.in_err-spelled.ensures.during

pub adopt-requires-clause-short : goal.adopt-requires-clause-short
adopt-requires-clause-short g c =
    let fit = c.in_ok-spelled.ensures.fit in
    let short = text_is_short c.args.shape.now.kind c.args.shape.now.allowed c.in_ok-spelled.spelled.index fit.rules
    fit.fits c.requires.shape.small in
    let a = ap length c.as_slice.ensures in
    let b = ap length fit.spelled in
    omega (arith, short, a, b)

pub returns-in_err-adopt-clause-any_moment : goal.returns-in_err-adopt-clause-any_moment
returns-in_err-adopt-clause-any_moment g c = λ tells. index_rebuilt c.args.shape.now c.in_ok-used.field-0.used
    c.in_ok-used.field-0.generation c.args.contents.items (g.D.Disk.medium c.args.disk.now)
    (g.D.Disk.medium c.prepare.new.disk) c.in_ok-used.ensures.time (c.in_ok-used.ensures.kept tells)
    (c.in_ok-used.ensures.ready tells) c.in_ok-used.ensures.quiet (g.D.Disk.medium c.put_contents.new.disk)
    c.in_ok-spelled.ensures.time
    (g.D.Disk.medium c.adopt.new.disk) c.as_slice.result.now c.in_ok-spelled.spelled.index _
    c.in_err-adopt.ensures.brings.puts.time
    (c.in_ok-used.ensures.generation tells)
    (subst (λ (t : List ℕ). IsTextOf c.args.shape.now t c.in_ok-spelled.spelled.index) (sym c.as_slice.ensures)
    c.in_ok-spelled.ensures.fit)
    (c.in_ok-spelled.ensures.keeps tells)
    (subst (λ (fs : List Fresh). ShowsFresh (g.D.Disk.medium c.put_contents.new.disk).image c.args.shape.now.place
    c.args.shape.now.m c.in_ok-used.field-0.generation fs c.in_ok-spelled.spelled.index.entries)
    c.deref.ensures.value (c.in_ok-spelled.ensures.shown tells))
    c.in_ok-spelled.ensures.during (c.in_err-adopt.ensures.brings.puts.any_moment tells c.in_ok-spelled.ensures.quiet)

pub returns-in_err-adopt-clause-elsewhere : goal.returns-in_err-adopt-clause-elsewhere
returns-in_err-adopt-clause-elsewhere g c = λ tells. index_elsewhere c.args.shape.now.place c.in_ok-used.field-0.used
    (g.D.Disk.medium c.args.disk.now)
    (g.D.Disk.medium c.prepare.new.disk) (g.D.Disk.medium c.put_contents.new.disk) c.in_ok-used.ensures.time
    c.in_ok-spelled.ensures.time (c.in_ok-used.ensures.elsewhere tells) (c.in_ok-spelled.ensures.elsewhere tells)
    (g.D.Disk.medium c.adopt.new.disk) (c.in_err-adopt.ensures.brings.puts.elsewhere tells)

pub returns-in_err-adopt-clause-outside : goal.returns-in_err-adopt-clause-outside
returns-in_err-adopt-clause-outside g c = λ tells quiet.
    index_outside c.args.shape.now.place c.in_ok-used.field-0.used
    (g.D.Disk.medium c.args.disk.now) (g.D.Disk.medium c.prepare.new.disk) (g.D.Disk.medium c.put_contents.new.disk)
    c.in_ok-used.ensures.time c.in_ok-spelled.ensures.time (c.in_ok-used.ensures.elsewhere tells)
    (c.in_ok-spelled.ensures.elsewhere tells)
    (c.in_ok-used.ensures.any_moment tells quiet) c.in_ok-used.ensures.quiet _ c.in_ok-spelled.ensures.during
    (g.D.Disk.medium c.adopt.new.disk) c.in_ok-used.field-0.generation c.as_slice.result.now
    c.in_err-adopt.ensures.brings.puts.time (c.in_err-adopt.ensures.brings.puts.any_moment tells
    c.in_ok-spelled.ensures.quiet)

pub returns-clause-any_moment : goal.returns-clause-any_moment
returns-clause-any_moment g c = λ tells. index_rebuilt c.args.shape.now c.in_ok-used.field-0.used
    c.in_ok-used.field-0.generation c.args.contents.items (g.D.Disk.medium c.args.disk.now)
    (g.D.Disk.medium c.prepare.new.disk) c.in_ok-used.ensures.time (c.in_ok-used.ensures.kept tells)
    (c.in_ok-used.ensures.ready tells) c.in_ok-used.ensures.quiet (g.D.Disk.medium c.put_contents.new.disk)
    c.in_ok-spelled.ensures.time
    (g.D.Disk.medium c.adopt.new.disk) c.as_slice.result.now c.in_ok-spelled.spelled.index _
    c.in_ok-adopt.ensures.brings.puts.time
    (c.in_ok-used.ensures.generation tells)
    (subst (λ (t : List ℕ). IsTextOf c.args.shape.now t c.in_ok-spelled.spelled.index) (sym c.as_slice.ensures)
    c.in_ok-spelled.ensures.fit)
    (c.in_ok-spelled.ensures.keeps tells)
    (subst (λ (fs : List Fresh). ShowsFresh (g.D.Disk.medium c.put_contents.new.disk).image c.args.shape.now.place
    c.args.shape.now.m c.in_ok-used.field-0.generation fs c.in_ok-spelled.spelled.index.entries)
    c.deref.ensures.value (c.in_ok-spelled.ensures.shown tells))
    c.in_ok-spelled.ensures.during (c.in_ok-adopt.ensures.brings.puts.any_moment tells c.in_ok-spelled.ensures.quiet)

pub returns-clause-elsewhere : goal.returns-clause-elsewhere
returns-clause-elsewhere g c = λ tells. index_elsewhere c.args.shape.now.place
    c.in_ok-used.field-0.used (g.D.Disk.medium c.args.disk.now) (g.D.Disk.medium c.prepare.new.disk)
    (g.D.Disk.medium c.put_contents.new.disk) c.in_ok-used.ensures.time c.in_ok-spelled.ensures.time
    (c.in_ok-used.ensures.elsewhere tells) (c.in_ok-spelled.ensures.elsewhere tells) (g.D.Disk.medium c.adopt.new.disk)
    (c.in_ok-adopt.ensures.brings.puts.elsewhere tells)

pub returns-clause-outside : goal.returns-clause-outside
returns-clause-outside g c = λ tells quiet. index_outside c.args.shape.now.place
    c.in_ok-used.field-0.used (g.D.Disk.medium c.args.disk.now) (g.D.Disk.medium c.prepare.new.disk)
    (g.D.Disk.medium c.put_contents.new.disk) c.in_ok-used.ensures.time c.in_ok-spelled.ensures.time
    (c.in_ok-used.ensures.elsewhere tells) (c.in_ok-spelled.ensures.elsewhere tells)
    (c.in_ok-used.ensures.any_moment tells quiet) c.in_ok-used.ensures.quiet _ c.in_ok-spelled.ensures.during
    (g.D.Disk.medium c.adopt.new.disk) c.in_ok-used.field-0.generation c.as_slice.result.now
    c.in_ok-adopt.ensures.brings.puts.time (c.in_ok-adopt.ensures.brings.puts.any_moment tells
    c.in_ok-spelled.ensures.quiet)

pub returns-clause-opens : goal.returns-clause-opens
returns-clause-opens g c = λ tells. rebuilding_opens (g.D.Disk.medium c.put_contents.new.disk).image
    (g.D.Disk.medium c.adopt.new.disk).image c.args.shape.now c.in_ok-used.field-0.generation c.args.contents.items
    c.in_ok-adopt.field-0 c.in_ok-spelled.spelled.index c.as_slice.result.now
    c.requires.shape c.in_ok-adopt.ensures.cell
    (subst (λ (t : List ℕ). IsTextOf c.args.shape.now t c.in_ok-spelled.spelled.index) (sym c.as_slice.ensures)
    c.in_ok-spelled.ensures.fit)
    (c.in_ok-adopt.ensures.held tells) (c.in_ok-adopt.ensures.brings.puts.elsewhere tells)
    (subst (λ (fs : List Fresh). ShowsFresh (g.D.Disk.medium c.put_contents.new.disk).image c.args.shape.now.place
    c.args.shape.now.m c.in_ok-used.field-0.generation fs c.in_ok-spelled.spelled.index.entries)
    c.deref.ensures.value (c.in_ok-spelled.ensures.shown tells))
    (next_generation (salvage_of (store_at (g.D.Disk.medium c.args.disk.now).image c.args.shape.now)))
    (c.in_ok-used.ensures.generation tells)

pub returns-clause-in_use : goal.returns-clause-in_use
returns-clause-in_use g c = λ tells. rebuilding_in_use (g.D.Disk.medium c.put_contents.new.disk).image
    (g.D.Disk.medium c.adopt.new.disk).image c.args.shape.now c.in_ok-used.field-0.generation c.args.contents.items
    c.in_ok-adopt.field-0 c.in_ok-spelled.spelled.index c.as_slice.result.now
    c.requires.shape c.in_ok-adopt.ensures.cell
    (subst (λ (t : List ℕ). IsTextOf c.args.shape.now t c.in_ok-spelled.spelled.index) (sym c.as_slice.ensures)
    c.in_ok-spelled.ensures.fit) c.in_ok-spelled.ensures.format
    (c.in_ok-adopt.ensures.held tells) (c.in_ok-adopt.ensures.brings.puts.elsewhere tells)
    (subst (λ (fs : List Fresh). ShowsFresh (g.D.Disk.medium c.put_contents.new.disk).image c.args.shape.now.place
    c.args.shape.now.m c.in_ok-used.field-0.generation fs c.in_ok-spelled.spelled.index.entries)
    c.deref.ensures.value (c.in_ok-spelled.ensures.shown tells))
    (next_generation (salvage_of (store_at (g.D.Disk.medium c.args.disk.now).image c.args.shape.now)))
    (c.in_ok-used.ensures.generation tells)

pub returns-clause-clean : goal.returns-clause-clean
returns-clause-clean g c = λ tells. created_clean g.D.Disk.told (g.D.Disk.medium c.put_contents.new.disk).image
    (g.D.Disk.medium c.adopt.new.disk).image c.args.shape.now c.in_ok-used.field-0.generation c.deref.result.now
    c.in_ok-adopt.field-0
    c.in_ok-spelled.spelled.index c.as_slice.result.now c.requires.shape c.in_ok-adopt.ensures.cell
    (subst (λ (t : List ℕ). IsTextOf c.args.shape.now t c.in_ok-spelled.spelled.index) (sym c.as_slice.ensures)
    c.in_ok-spelled.ensures.fit)
    c.in_ok-adopt.ensures.held c.in_ok-adopt.ensures.brings.puts.elsewhere c.in_ok-spelled.ensures.shown tells

pub returns-in_err-used-clause-written : goal.returns-in_err-used-clause-written
returns-in_err-used-clause-written g c =
    settled_cost c.args.shape.now.place.copies (g.D.Disk.medium c.args.disk.now).written
    (blocks_of_all c.args.contents.items) (g.D.Disk.medium c.prepare.new.disk).written
    c.in_err-used.ensures.written

pub returns-in_err-spelled-clause-written : goal.returns-in_err-spelled-clause-written
returns-in_err-spelled-clause-written g c =
    put_cost c.args.shape.now.place.copies (g.D.Disk.medium c.args.disk.now).written
    (blocks_of_all c.args.contents.items) (g.D.Disk.medium c.prepare.new.disk).written
    c.in_ok-used.ensures.written
    (g.D.Disk.medium c.put_contents.new.disk).written
    (subst (λ (fs : List Fresh). (g.D.Disk.medium c.put_contents.new.disk).written
    ≤ (g.D.Disk.medium c.prepare.new.disk).written + c.args.shape.now.place.copies * (256 * blocks_of_all fs))
    c.deref.ensures.value c.in_err-spelled.ensures.written)

pub returns-in_err-adopt-clause-written : goal.returns-in_err-adopt-clause-written
returns-in_err-adopt-clause-written g c =
    let fit = c.in_ok-spelled.ensures.fit in
    let short = text_is_short c.args.shape.now.kind c.args.shape.now.allowed c.in_ok-spelled.spelled.index fit.rules
    fit.fits c.requires.shape.small in
    let a = ap length c.as_slice.ensures in
    let b = ap length fit.spelled in
    rebuilt_cost c.args.shape.now.place.copies (g.D.Disk.medium c.args.disk.now).written
    (blocks_of_all c.args.contents.items) (g.D.Disk.medium c.prepare.new.disk).written
    c.in_ok-used.ensures.written
    (g.D.Disk.medium c.put_contents.new.disk).written
    (subst (λ (fs : List Fresh). (g.D.Disk.medium c.put_contents.new.disk).written
    ≤ (g.D.Disk.medium c.prepare.new.disk).written + c.args.shape.now.place.copies * (256 * blocks_of_all fs))
    c.deref.ensures.value c.in_ok-spelled.ensures.written)
    (length c.as_slice.result.now) (g.D.Disk.medium c.adopt.new.disk).written (omega (arith, short, a, b))
    c.in_err-adopt.ensures.brings.puts.written

pub returns-clause-written : goal.returns-clause-written
returns-clause-written g c =
    let fit = c.in_ok-spelled.ensures.fit in
    let short = text_is_short c.args.shape.now.kind c.args.shape.now.allowed c.in_ok-spelled.spelled.index fit.rules
    fit.fits c.requires.shape.small in
    let a = ap length c.as_slice.ensures in
    let b = ap length fit.spelled in
    rebuilt_cost c.args.shape.now.place.copies (g.D.Disk.medium c.args.disk.now).written
    (blocks_of_all c.args.contents.items) (g.D.Disk.medium c.prepare.new.disk).written
    c.in_ok-used.ensures.written
    (g.D.Disk.medium c.put_contents.new.disk).written
    (subst (λ (fs : List Fresh). (g.D.Disk.medium c.put_contents.new.disk).written
    ≤ (g.D.Disk.medium c.prepare.new.disk).written + c.args.shape.now.place.copies * (256 * blocks_of_all fs))
    c.deref.ensures.value c.in_ok-spelled.ensures.written)
    (length c.as_slice.result.now) (g.D.Disk.medium c.adopt.new.disk).written (omega (arith, short, a, b))
    c.in_ok-adopt.ensures.brings.puts.written
