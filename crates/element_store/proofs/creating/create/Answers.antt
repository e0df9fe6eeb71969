use Rattle.element_store.specs.declared.store.Store.{Store}
use Rattle.std.proofs.Common.{◌≡◌, ◌∙◌, ◌+◌, ◌*◌, ◌≤◌, ℕ, List, [], length, IsTrue, refl, sym, ap, subst, arith}
use Rattle.per_base.specs.declared.elements.Fresh.{Fresh}
use Rattle.std.specs.List.{AllZip}
use Rattle.disk_model.specs.Laws.{elapses_on}
use Rattle.disk_model.specs.lemmas.Places.{outside_no_slot}
use Rattle.index_text.specs.lemmas.Lengths.{text_is_short}
use Rattle.index_text.specs.Spelling.{index_text}
use Rattle.element_store.specs.Creates.{fresh_length}
use Rattle.element_store.specs.Plans.{IsWrittenEntry, blocks_of_all}
use Rattle.element_store.specs.Spelled.{IsTextOf, ShowsFresh}
use Rattle.element_store.proofs.Ruled.{blocks_enough}
use Rattle.element_store.proofs.RebuiltKept.{rebuilding_opens, contents_elsewhere, index_elsewhere}
use Rattle.element_store.proofs.GivenUp.{kept_names_nothing, untorn_sound, still_untorn, given_up_outside}
use Rattle.element_store.proofs.GivenUp.{given_up_untorn, put_outside, put_untorn, made_outside}
use Rattle.element_store.proofs.GivenUp.{made_untorn, most_kept, most_put, most_made}
use Rattle.element_store.proofs.Lengths.{made_length}
use Rattle.element_store.proofs.Taken.{taken_below, taken_area}
use Rattle.element_store.proofs.Created.{created_clean, created_used, created_shows}
use Rattle.element_store.proofs.creating.create.Goals as goal

pub put_contents-requires-clause-free : goal.put_contents-requires-clause-free
put_contents-requires-clause-free g c =
    let enough = blocks_enough c.args.shape c.args.contents.items c.requires.contents in
    let e : blocks_of_all c.deref.result.now ≡ blocks_of_all c.args.contents.items =
    ap (λ (fs : List Fresh). blocks_of_all fs) c.deref.ensures.value in
    let free = c.in_ok-used.ensures.free in
    let many = c.blocks_in_area.ensures in
    omega (arith, enough, e, free, many)

pub blocks_taken_by-requires : goal.blocks_taken_by-requires
blocks_taken_by-requires g c =
    taken_below c.args.shape c.in_ok-spelled.spelled.text c.in_ok-spelled.spelled.index c.as_slice.result.now
    c.blocks_in_area-2.result c.in_ok-spelled.ensures.fit c.as_slice.ensures c.blocks_in_area-2.ensures

pub format_cell-requires : goal.format_cell-requires
format_cell-requires g c =
    let fit = c.in_ok-spelled.ensures.fit in
    let short = text_is_short c.args.shape.kind c.args.shape.allowed c.in_ok-spelled.spelled.index fit.rules fit.fits
    c.requires.shape.small in
    let a = ap length c.as_slice-2.ensures in
    let b = ap length fit.spelled in
    omega (arith, short, a, b)

pub returns-clause-clean : goal.returns-clause-clean
returns-clause-clean g c = λ tells. created_clean g.D.Disk.told (g.D.Disk.medium c.put_contents.new.disk).image
    (g.D.Disk.medium c.format_cell.new.disk).image
    c.args.shape 1 c.deref.result.now c.in_ok-cell.cell c.in_ok-spelled.spelled.index c.as_slice-2.result.now
    c.requires.shape c.in_ok-cell.ensures.cell
    (subst (λ (t : List ℕ). IsTextOf c.args.shape t c.in_ok-spelled.spelled.index) (sym c.as_slice-2.ensures)
    c.in_ok-spelled.ensures.fit)
    c.in_ok-cell.ensures.held c.in_ok-cell.ensures.formats.elsewhere c.in_ok-spelled.ensures.shown tells

pub returns-clause-used : goal.returns-clause-used
returns-clause-used g c =
    let P : List Fresh → Type 0 = λ fs. AllZip (IsWrittenEntry 1) fs c.in_ok-spelled.spelled.index.entries in
    let Q : List Fresh → Type 0 = λ fs. IsTrue g.D.Disk.told
    → ShowsFresh (g.D.Disk.medium c.put_contents.new.disk).image c.args.shape.place c.args.shape.m 1 fs
    c.in_ok-spelled.spelled.index.entries in
    created_used g.D.Disk.told (g.D.Disk.medium c.put_contents.new.disk).image
    (g.D.Disk.medium c.format_cell.new.disk).image
    c.args.shape 1 c.args.contents.items c.in_ok-cell.cell c.in_ok-spelled.spelled.index c.as_slice-2.result.now
    c.requires.shape c.in_ok-cell.ensures.cell
    (subst (λ (t : List ℕ). IsTextOf c.args.shape t c.in_ok-spelled.spelled.index) (sym c.as_slice-2.ensures)
    c.in_ok-spelled.ensures.fit)
    c.in_ok-cell.ensures.held c.in_ok-cell.ensures.formats.elsewhere
    (subst Q c.deref.ensures.value c.in_ok-spelled.ensures.shown)
    c.args.alloc c.in_ok-entries.entries c.in_ok-taken.taken
    (taken_area c.args.shape c.in_ok-spelled.spelled.index c.as_slice.result.now c.blocks_in_area-2.result
    c.in_ok-taken.taken c.as_slice.ensures c.blocks_in_area-2.ensures c.in_ok-taken.ensures)
    (subst P c.deref.ensures.value c.in_ok-spelled.ensures.made) c.in_ok-entries.ensures (omega arith)
    c.new-2.result c.new-2.ensures.items c.new-3.result c.new-3.ensures

pub returns-clause-format : goal.returns-clause-format
returns-clause-format g c = ap (λ (s : Store). s.index.format) c.new-3.ensures ∙ c.in_ok-spelled.ensures.format

pub returns-clause-view : goal.returns-clause-view
returns-clause-view g c =
    let P : List Fresh → Type 0 = λ fs. AllZip (IsWrittenEntry 1) fs c.in_ok-spelled.spelled.index.entries in
    let Q : List Fresh → Type 0 = λ fs. IsTrue g.D.Disk.told
    → ShowsFresh (g.D.Disk.medium c.put_contents.new.disk).image c.args.shape.place c.args.shape.m 1 fs
    c.in_ok-spelled.spelled.index.entries in
    created_shows g.D.Disk.told (g.D.Disk.medium c.put_contents.new.disk).image
    (g.D.Disk.medium c.format_cell.new.disk).image
    c.args.shape 1 c.args.contents.items c.in_ok-cell.cell c.in_ok-spelled.spelled.index c.as_slice-2.result.now
    c.requires.shape c.in_ok-cell.ensures.cell
    (subst (λ (t : List ℕ). IsTextOf c.args.shape t c.in_ok-spelled.spelled.index) (sym c.as_slice-2.ensures)
    c.in_ok-spelled.ensures.fit)
    c.in_ok-cell.ensures.held c.in_ok-cell.ensures.formats.elsewhere
    (subst Q c.deref.ensures.value c.in_ok-spelled.ensures.shown)
    c.args.alloc c.in_ok-entries.entries c.in_ok-taken.taken
    (taken_area c.args.shape c.in_ok-spelled.spelled.index c.as_slice.result.now c.blocks_in_area-2.result
    c.in_ok-taken.taken c.as_slice.ensures c.blocks_in_area-2.ensures c.in_ok-taken.ensures)
    (subst P c.deref.ensures.value c.in_ok-spelled.ensures.made) c.in_ok-entries.ensures (omega arith)
    c.new-2.result c.new-2.ensures.items c.new-3.result c.new-3.ensures

pub returns-in_err-keep_only-clause-elsewhere : goal.returns-in_err-keep_only-clause-elsewhere
returns-in_err-keep_only-clause-elsewhere g c = λ tells f out.
    c.in_err-keep_only.ensures.clears.elsewhere tells f
    (outside_no_slot c.args.shape.place f out)

pub returns-in_err-keep_only-clause-outside : goal.returns-in_err-keep_only-clause-outside
returns-in_err-keep_only-clause-outside g c = λ tells quiet.
    given_up_outside c.args.shape.place [] (g.D.Disk.medium c.args.disk.now) (g.D.Disk.medium c.keep_only.new.disk)
    c.in_err-keep_only.ensures.clears.time (c.in_err-keep_only.ensures.clears.any_moment tells quiet)

pub returns-in_err-keep_only-clause-untorn : goal.returns-in_err-keep_only-clause-untorn
returns-in_err-keep_only-clause-untorn g c = λ tells quiet.
    given_up_untorn c.args.shape.place [] (g.D.Disk.medium c.args.disk.now) (g.D.Disk.medium c.keep_only.new.disk)
    c.in_err-keep_only.ensures.clears.time (c.in_err-keep_only.ensures.clears.any_moment tells quiet)

pub returns-in_err-spelled-clause-elsewhere : goal.returns-in_err-spelled-clause-elsewhere
returns-in_err-spelled-clause-elsewhere g c = λ tells.
    contents_elsewhere c.args.shape.place [] (g.D.Disk.medium c.args.disk.now)
    (g.D.Disk.medium c.keep_only.new.disk) (g.D.Disk.medium c.put_contents.new.disk)
    c.in_ok-keep_only.ensures.clears.time
    c.in_err-spelled.ensures.time
    (c.in_ok-keep_only.ensures.clears.elsewhere tells) (c.in_err-spelled.ensures.elsewhere tells)

pub returns-in_err-spelled-clause-outside : goal.returns-in_err-spelled-clause-outside
returns-in_err-spelled-clause-outside g c = λ tells quiet.
    put_outside c.args.shape.place _ (g.D.Disk.medium c.args.disk.now) (g.D.Disk.medium c.keep_only.new.disk)
    c.in_ok-keep_only.ensures.clears.time (c.in_ok-keep_only.ensures.clears.any_moment tells quiet)
    (c.in_ok-keep_only.ensures.clears.elsewhere tells) c.in_ok-keep_only.ensures.quiet
    (g.D.Disk.medium c.put_contents.new.disk) c.in_err-spelled.ensures.time
    (c.in_err-spelled.ensures.elsewhere tells) _ c.in_err-spelled.ensures.during

pub returns-in_err-spelled-clause-untorn : goal.returns-in_err-spelled-clause-untorn
returns-in_err-spelled-clause-untorn g c = λ tells quiet.
    put_untorn c.args.shape.place _ (g.D.Disk.medium c.args.disk.now) (g.D.Disk.medium c.keep_only.new.disk)
    c.in_ok-keep_only.ensures.clears.time (c.in_ok-keep_only.ensures.clears.any_moment tells quiet)
    (c.in_ok-keep_only.ensures.clears.elsewhere tells) c.in_ok-keep_only.ensures.quiet
    (g.D.Disk.medium c.put_contents.new.disk) c.in_err-spelled.ensures.time
    (c.in_err-spelled.ensures.elsewhere tells) _ c.in_err-spelled.ensures.during
    (kept_names_nothing c.args.shape.place _ _ (c.in_ok-keep_only.ensures.alone tells))

pub returns-in_err-taken-clause-elsewhere : goal.returns-in_err-taken-clause-elsewhere
returns-in_err-taken-clause-elsewhere g c = λ tells. contents_elsewhere c.args.shape.place []
    (g.D.Disk.medium c.args.disk.now) (g.D.Disk.medium c.keep_only.new.disk)
    (g.D.Disk.medium c.put_contents.new.disk) c.in_ok-keep_only.ensures.clears.time c.in_ok-spelled.ensures.time
    (c.in_ok-keep_only.ensures.clears.elsewhere tells) (c.in_ok-spelled.ensures.elsewhere tells)

pub returns-in_err-taken-clause-outside : goal.returns-in_err-taken-clause-outside
returns-in_err-taken-clause-outside g c = λ tells quiet.
    put_outside c.args.shape.place _ (g.D.Disk.medium c.args.disk.now) (g.D.Disk.medium c.keep_only.new.disk)
    c.in_ok-keep_only.ensures.clears.time (c.in_ok-keep_only.ensures.clears.any_moment tells quiet)
    (c.in_ok-keep_only.ensures.clears.elsewhere tells) c.in_ok-keep_only.ensures.quiet
    (g.D.Disk.medium c.put_contents.new.disk) c.in_ok-spelled.ensures.time (c.in_ok-spelled.ensures.elsewhere tells)
    _ c.in_ok-spelled.ensures.during

pub returns-in_err-taken-clause-untorn : goal.returns-in_err-taken-clause-untorn
returns-in_err-taken-clause-untorn g c = λ tells quiet.
    put_untorn c.args.shape.place _ (g.D.Disk.medium c.args.disk.now) (g.D.Disk.medium c.keep_only.new.disk)
    c.in_ok-keep_only.ensures.clears.time (c.in_ok-keep_only.ensures.clears.any_moment tells quiet)
    (c.in_ok-keep_only.ensures.clears.elsewhere tells) c.in_ok-keep_only.ensures.quiet
    (g.D.Disk.medium c.put_contents.new.disk) c.in_ok-spelled.ensures.time (c.in_ok-spelled.ensures.elsewhere tells)
    _ c.in_ok-spelled.ensures.during
    (kept_names_nothing c.args.shape.place _ _ (c.in_ok-keep_only.ensures.alone tells))

pub returns-in_err-entries-clause-elsewhere : goal.returns-in_err-entries-clause-elsewhere
returns-in_err-entries-clause-elsewhere g c = λ tells.
    contents_elsewhere c.args.shape.place [] (g.D.Disk.medium c.args.disk.now)
    (g.D.Disk.medium c.keep_only.new.disk) (g.D.Disk.medium c.put_contents.new.disk)
    c.in_ok-keep_only.ensures.clears.time
    c.in_ok-spelled.ensures.time
    (c.in_ok-keep_only.ensures.clears.elsewhere tells) (c.in_ok-spelled.ensures.elsewhere tells)

pub returns-in_err-entries-clause-outside : goal.returns-in_err-entries-clause-outside
returns-in_err-entries-clause-outside g c = λ tells quiet.
    put_outside c.args.shape.place _ (g.D.Disk.medium c.args.disk.now) (g.D.Disk.medium c.keep_only.new.disk)
    c.in_ok-keep_only.ensures.clears.time (c.in_ok-keep_only.ensures.clears.any_moment tells quiet)
    (c.in_ok-keep_only.ensures.clears.elsewhere tells) c.in_ok-keep_only.ensures.quiet
    (g.D.Disk.medium c.put_contents.new.disk) c.in_ok-spelled.ensures.time (c.in_ok-spelled.ensures.elsewhere tells)
    _ c.in_ok-spelled.ensures.during

pub returns-in_err-entries-clause-untorn : goal.returns-in_err-entries-clause-untorn
returns-in_err-entries-clause-untorn g c = λ tells quiet.
    put_untorn c.args.shape.place _ (g.D.Disk.medium c.args.disk.now) (g.D.Disk.medium c.keep_only.new.disk)
    c.in_ok-keep_only.ensures.clears.time (c.in_ok-keep_only.ensures.clears.any_moment tells quiet)
    (c.in_ok-keep_only.ensures.clears.elsewhere tells) c.in_ok-keep_only.ensures.quiet
    (g.D.Disk.medium c.put_contents.new.disk) c.in_ok-spelled.ensures.time (c.in_ok-spelled.ensures.elsewhere tells)
    _ c.in_ok-spelled.ensures.during
    (kept_names_nothing c.args.shape.place _ _ (c.in_ok-keep_only.ensures.alone tells))

pub returns-in_err-cell-clause-elsewhere : goal.returns-in_err-cell-clause-elsewhere
returns-in_err-cell-clause-elsewhere g c = λ tells. index_elsewhere c.args.shape.place
    [] (g.D.Disk.medium c.args.disk.now) (g.D.Disk.medium c.keep_only.new.disk)
    (g.D.Disk.medium c.put_contents.new.disk) c.in_ok-keep_only.ensures.clears.time c.in_ok-spelled.ensures.time
    (c.in_ok-keep_only.ensures.clears.elsewhere tells) (c.in_ok-spelled.ensures.elsewhere tells)
    (g.D.Disk.medium c.format_cell.new.disk) (c.in_err-cell.ensures.formats.elsewhere tells)

pub returns-in_err-cell-clause-outside : goal.returns-in_err-cell-clause-outside
returns-in_err-cell-clause-outside g c = λ tells quiet.
    made_outside c.args.shape.place _ (g.D.Disk.medium c.args.disk.now) (g.D.Disk.medium c.keep_only.new.disk)
    c.in_ok-keep_only.ensures.clears.time (c.in_ok-keep_only.ensures.clears.any_moment tells quiet)
    (c.in_ok-keep_only.ensures.clears.elsewhere tells) c.in_ok-keep_only.ensures.quiet
    (g.D.Disk.medium c.put_contents.new.disk) c.in_ok-spelled.ensures.time (c.in_ok-spelled.ensures.elsewhere tells)
    _ c.in_ok-spelled.ensures.during
    (kept_names_nothing c.args.shape.place _ _ (c.in_ok-keep_only.ensures.alone tells))
    (g.D.Disk.medium c.format_cell.new.disk) c.in_err-cell.ensures.formats.time c.as_slice-2.result.now
    (c.in_err-cell.ensures.formats.any_moment tells c.in_ok-spelled.ensures.quiet)

pub returns-in_err-cell-clause-untorn : goal.returns-in_err-cell-clause-untorn
returns-in_err-cell-clause-untorn g c = λ tells quiet.
    made_untorn c.args.shape.place _ (g.D.Disk.medium c.args.disk.now) (g.D.Disk.medium c.keep_only.new.disk)
    c.in_ok-keep_only.ensures.clears.time (c.in_ok-keep_only.ensures.clears.any_moment tells quiet)
    (c.in_ok-keep_only.ensures.clears.elsewhere tells) c.in_ok-keep_only.ensures.quiet
    (g.D.Disk.medium c.put_contents.new.disk) c.in_ok-spelled.ensures.time (c.in_ok-spelled.ensures.elsewhere tells)
    _ c.in_ok-spelled.ensures.during
    (kept_names_nothing c.args.shape.place _ _ (c.in_ok-keep_only.ensures.alone tells))
    (g.D.Disk.medium c.format_cell.new.disk) c.in_err-cell.ensures.formats.time c.as_slice-2.result.now
    (c.in_err-cell.ensures.formats.any_moment tells c.in_ok-spelled.ensures.quiet)

pub returns-clause-elsewhere : goal.returns-clause-elsewhere
returns-clause-elsewhere g c = λ tells. index_elsewhere c.args.shape.place []
    (g.D.Disk.medium c.args.disk.now) (g.D.Disk.medium c.keep_only.new.disk) (g.D.Disk.medium c.put_contents.new.disk)
    c.in_ok-keep_only.ensures.clears.time c.in_ok-spelled.ensures.time
    (c.in_ok-keep_only.ensures.clears.elsewhere tells) (c.in_ok-spelled.ensures.elsewhere tells)
    (g.D.Disk.medium c.format_cell.new.disk) (c.in_ok-cell.ensures.formats.elsewhere tells)

pub returns-clause-outside : goal.returns-clause-outside
returns-clause-outside g c = λ tells quiet. made_outside c.args.shape.place _ (g.D.Disk.medium c.args.disk.now)
    (g.D.Disk.medium c.keep_only.new.disk) c.in_ok-keep_only.ensures.clears.time
    (c.in_ok-keep_only.ensures.clears.any_moment tells quiet)
    (c.in_ok-keep_only.ensures.clears.elsewhere tells) c.in_ok-keep_only.ensures.quiet
    (g.D.Disk.medium c.put_contents.new.disk) c.in_ok-spelled.ensures.time (c.in_ok-spelled.ensures.elsewhere tells)
    _ c.in_ok-spelled.ensures.during
    (kept_names_nothing c.args.shape.place _ _ (c.in_ok-keep_only.ensures.alone tells))
    (g.D.Disk.medium c.format_cell.new.disk) c.in_ok-cell.ensures.formats.time c.as_slice-2.result.now
    (c.in_ok-cell.ensures.formats.any_moment tells c.in_ok-spelled.ensures.quiet)

pub returns-clause-untorn : goal.returns-clause-untorn
returns-clause-untorn g c = λ tells quiet. made_untorn c.args.shape.place _ (g.D.Disk.medium c.args.disk.now)
    (g.D.Disk.medium c.keep_only.new.disk) c.in_ok-keep_only.ensures.clears.time
    (c.in_ok-keep_only.ensures.clears.any_moment tells quiet)
    (c.in_ok-keep_only.ensures.clears.elsewhere tells) c.in_ok-keep_only.ensures.quiet
    (g.D.Disk.medium c.put_contents.new.disk) c.in_ok-spelled.ensures.time (c.in_ok-spelled.ensures.elsewhere tells)
    _ c.in_ok-spelled.ensures.during
    (kept_names_nothing c.args.shape.place _ _ (c.in_ok-keep_only.ensures.alone tells))
    (g.D.Disk.medium c.format_cell.new.disk) c.in_ok-cell.ensures.formats.time c.as_slice-2.result.now
    (c.in_ok-cell.ensures.formats.any_moment tells c.in_ok-spelled.ensures.quiet)

pub returns-in_err-used-clause-untorn : goal.returns-in_err-used-clause-untorn
returns-in_err-used-clause-untorn g c = λ tells quiet.
    still_untorn c.args.shape.place g.D.Disk.told (g.D.Disk.medium c.args.disk.now)
    (g.met.D.Disk.lawful c.args.disk.now) quiet

pub returns-in_err-used-clause-sound : goal.returns-in_err-used-clause-sound
returns-in_err-used-clause-sound g c = λ tells quiet x past.
    untorn_sound c.args.shape.place x (returns-in_err-used-clause-untorn g c tells quiet x past)

pub returns-in_err-keep_only-clause-sound : goal.returns-in_err-keep_only-clause-sound
returns-in_err-keep_only-clause-sound g c = λ tells quiet x past.
    untorn_sound c.args.shape.place x (returns-in_err-keep_only-clause-untorn g c tells quiet x past)

pub returns-in_err-spelled-clause-sound : goal.returns-in_err-spelled-clause-sound
returns-in_err-spelled-clause-sound g c = λ tells quiet x past.
    untorn_sound c.args.shape.place x (returns-in_err-spelled-clause-untorn g c tells quiet x past)

pub returns-in_err-taken-clause-sound : goal.returns-in_err-taken-clause-sound
returns-in_err-taken-clause-sound g c = λ tells quiet x past.
    untorn_sound c.args.shape.place x (returns-in_err-taken-clause-untorn g c tells quiet x past)

pub returns-in_err-entries-clause-sound : goal.returns-in_err-entries-clause-sound
returns-in_err-entries-clause-sound g c = λ tells quiet x past.
    untorn_sound c.args.shape.place x (returns-in_err-entries-clause-untorn g c tells quiet x past)

pub returns-in_err-cell-clause-sound : goal.returns-in_err-cell-clause-sound
returns-in_err-cell-clause-sound g c = λ tells quiet x past.
    untorn_sound c.args.shape.place x (returns-in_err-cell-clause-untorn g c tells quiet x past)

pub returns-clause-sound : goal.returns-clause-sound
returns-clause-sound g c = λ tells quiet x past. untorn_sound c.args.shape.place x
    (returns-clause-untorn g c tells quiet x past)

pub returns-clause-opens : goal.returns-clause-opens
returns-clause-opens g c = λ tells. rebuilding_opens (g.D.Disk.medium c.put_contents.new.disk).image
    (g.D.Disk.medium c.format_cell.new.disk).image c.args.shape 1 c.args.contents.items c.in_ok-cell.cell
    c.in_ok-spelled.spelled.index c.as_slice-2.result.now
    c.requires.shape c.in_ok-cell.ensures.cell
    (subst (λ (t : List ℕ). IsTextOf c.args.shape t c.in_ok-spelled.spelled.index) (sym c.as_slice-2.ensures)
    c.in_ok-spelled.ensures.fit)
    (c.in_ok-cell.ensures.held tells) (c.in_ok-cell.ensures.formats.elsewhere tells)
    (subst (λ (fs : List Fresh). ShowsFresh (g.D.Disk.medium c.put_contents.new.disk).image c.args.shape.place
    c.args.shape.m 1 fs c.in_ok-spelled.spelled.index.entries) c.deref.ensures.value
    (c.in_ok-spelled.ensures.shown tells))
    1 refl

pub returns-in_err-keep_only-clause-at_most : goal.returns-in_err-keep_only-clause-at_most
returns-in_err-keep_only-clause-at_most g c =
    most_kept c.args.shape.place.copies (blocks_of_all c.args.contents.items)
    (fresh_length c.args.shape.kind c.args.contents.items) (g.D.Disk.medium c.args.disk.now).written
    (g.D.Disk.medium c.keep_only.new.disk).written c.in_err-keep_only.ensures.clears.written

pub returns-in_err-spelled-clause-at_most : goal.returns-in_err-spelled-clause-at_most
returns-in_err-spelled-clause-at_most g c =
    most_put c.args.shape.place.copies (blocks_of_all c.args.contents.items)
    (fresh_length c.args.shape.kind c.args.contents.items) (g.D.Disk.medium c.args.disk.now).written
    (g.D.Disk.medium c.keep_only.new.disk).written c.in_ok-keep_only.ensures.clears.written
    (g.D.Disk.medium c.put_contents.new.disk).written
    (subst (λ (fs : List Fresh). (g.D.Disk.medium c.put_contents.new.disk).written
    ≤ (g.D.Disk.medium c.keep_only.new.disk).written + c.args.shape.place.copies * (256 * blocks_of_all fs))
    c.deref.ensures.value c.in_err-spelled.ensures.written)

pub returns-in_err-taken-clause-at_most : goal.returns-in_err-taken-clause-at_most
returns-in_err-taken-clause-at_most g c =
    most_put c.args.shape.place.copies (blocks_of_all c.args.contents.items)
    (fresh_length c.args.shape.kind c.args.contents.items) (g.D.Disk.medium c.args.disk.now).written
    (g.D.Disk.medium c.keep_only.new.disk).written c.in_ok-keep_only.ensures.clears.written
    (g.D.Disk.medium c.put_contents.new.disk).written
    (subst (λ (fs : List Fresh). (g.D.Disk.medium c.put_contents.new.disk).written
    ≤ (g.D.Disk.medium c.keep_only.new.disk).written + c.args.shape.place.copies * (256 * blocks_of_all fs))
    c.deref.ensures.value c.in_ok-spelled.ensures.written)

pub returns-in_err-entries-clause-at_most : goal.returns-in_err-entries-clause-at_most
returns-in_err-entries-clause-at_most g c =
    most_put c.args.shape.place.copies (blocks_of_all c.args.contents.items)
    (fresh_length c.args.shape.kind c.args.contents.items) (g.D.Disk.medium c.args.disk.now).written
    (g.D.Disk.medium c.keep_only.new.disk).written c.in_ok-keep_only.ensures.clears.written
    (g.D.Disk.medium c.put_contents.new.disk).written
    (subst (λ (fs : List Fresh). (g.D.Disk.medium c.put_contents.new.disk).written
    ≤ (g.D.Disk.medium c.keep_only.new.disk).written + c.args.shape.place.copies * (256 * blocks_of_all fs))
    c.deref.ensures.value c.in_ok-spelled.ensures.written)

pub returns-in_err-cell-clause-at_most : goal.returns-in_err-cell-clause-at_most
returns-in_err-cell-clause-at_most g c =
    let fit = c.in_ok-spelled.ensures.fit in
    let text : c.as_slice-2.result.now ≡ index_text c.in_ok-spelled.spelled.index =
    c.as_slice-2.ensures ∙ fit.spelled in
    let long = made_length c.args.shape 1 c.args.contents.items c.deref.result.now c.in_ok-spelled.spelled.text
    c.in_ok-spelled.spelled.index c.deref.ensures.value fit c.in_ok-spelled.ensures.format
    c.in_ok-spelled.ensures.made in
    most_made c.args.shape.place.copies (blocks_of_all c.args.contents.items)
    (fresh_length c.args.shape.kind c.args.contents.items) (g.D.Disk.medium c.args.disk.now).written
    (g.D.Disk.medium c.keep_only.new.disk).written c.in_ok-keep_only.ensures.clears.written
    (g.D.Disk.medium c.put_contents.new.disk).written
    (subst (λ (fs : List Fresh). (g.D.Disk.medium c.put_contents.new.disk).written
    ≤ (g.D.Disk.medium c.keep_only.new.disk).written + c.args.shape.place.copies * (256 * blocks_of_all fs))
    c.deref.ensures.value c.in_ok-spelled.ensures.written)
    (length c.as_slice-2.result.now) (g.D.Disk.medium c.format_cell.new.disk).written
    (ap (λ (bytes : List ℕ). length bytes) text ∙ long) c.in_err-cell.ensures.formats.written

pub returns-clause-at_most : goal.returns-clause-at_most
returns-clause-at_most g c =
    let fit = c.in_ok-spelled.ensures.fit in
    let text : c.as_slice-2.result.now ≡ index_text c.in_ok-spelled.spelled.index =
    c.as_slice-2.ensures ∙ fit.spelled in
    let long = made_length c.args.shape 1 c.args.contents.items c.deref.result.now c.in_ok-spelled.spelled.text
    c.in_ok-spelled.spelled.index c.deref.ensures.value fit c.in_ok-spelled.ensures.format
    c.in_ok-spelled.ensures.made in
    most_made c.args.shape.place.copies (blocks_of_all c.args.contents.items)
    (fresh_length c.args.shape.kind c.args.contents.items) (g.D.Disk.medium c.args.disk.now).written
    (g.D.Disk.medium c.keep_only.new.disk).written c.in_ok-keep_only.ensures.clears.written
    (g.D.Disk.medium c.put_contents.new.disk).written
    (subst (λ (fs : List Fresh). (g.D.Disk.medium c.put_contents.new.disk).written
    ≤ (g.D.Disk.medium c.keep_only.new.disk).written + c.args.shape.place.copies * (256 * blocks_of_all fs))
    c.deref.ensures.value c.in_ok-spelled.ensures.written)
    (length c.as_slice-2.result.now) (g.D.Disk.medium c.format_cell.new.disk).written
    (ap (λ (bytes : List ℕ). length bytes) text ∙ long) c.in_ok-cell.ensures.formats.written

pub returns-clause-text : goal.returns-clause-text
returns-clause-text g c = subst (λ (s : Store). length (index_text s.index)
    ≡ fresh_length c.args.shape.kind c.args.contents.items) (sym c.new-3.ensures)
    (made_length c.args.shape 1 c.args.contents.items c.deref.result.now c.in_ok-spelled.spelled.text
    c.in_ok-spelled.spelled.index c.deref.ensures.value c.in_ok-spelled.ensures.fit
    c.in_ok-spelled.ensures.format c.in_ok-spelled.ensures.made)

pub returns-in_err-cell-clause-time : goal.returns-in_err-cell-clause-time
returns-in_err-cell-clause-time g c =
    elapses_on (elapses_on c.in_ok-keep_only.ensures.clears.time c.in_ok-spelled.ensures.time)
    c.in_err-cell.ensures.formats.time

pub returns-clause-time : goal.returns-clause-time
returns-clause-time g c = elapses_on (elapses_on c.in_ok-keep_only.ensures.clears.time c.in_ok-spelled.ensures.time)
    c.in_ok-cell.ensures.formats.time
