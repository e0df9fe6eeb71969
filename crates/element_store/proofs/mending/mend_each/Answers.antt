use Rattle.std.proofs.Common.{◌≡◌, ℕ, ◌+◌, ◌*◌, ◌≤◌, List, length, get_or, sym, ap, ◌∙◌, subst, arith}
use Rattle.block_files.specs.Areas.{NamedFull}
use Rattle.block_files.specs.BlockSets.{IsNotAmong, AreDistinct}
use Rattle.block_files.specs.Contents.{AreCopies}
use Rattle.block_files.specs.Writes.{Wrote, Tore, IsNoneOf}
use Rattle.index_text.specs.declared.entries.IndexEntry.{IndexEntry}
use Rattle.element_state.specs.Chosen.{IsReadBy}
use Rattle.element_store.proofs.InPlace.{zip_long, mended_none, mended_skip, mended_all, mended_more, read_at, room_at}
use Rattle.element_store.proofs.InPlace.{distinct_at, still_during, torn_areas, torn_idle, few_none, cost_at}
use Rattle.element_store.proofs.InPlace.{mended_written, torn_written}
use Rattle.element_store.proofs.mending.mend_each.Goals as goal

pub loop-i-init : goal.loop-i-init
loop-i-init g c = mended_none g.D.Disk.told c.args.shape.now c.args.index.now c.args.views.now c.requires.rules
    c.requires.read c.mending_keeps.ensures.start
    (g.D.Disk.medium c.args.disk.now) (g.met.D.Disk.lawful c.args.disk.now) c.requires.quiet

pub bounds-views-i : goal.bounds-views-i
bounds-views-i g c =
    let long = zip_long (IsReadBy c.args.shape.now.place.copies) c.args.index.now.entries c.args.views.now
    c.requires.read in
    let same = ap (λ (es : List IndexEntry). length es) c.as_slice-entries.ensures in
    omega (arith, long, same)

pub loop-i-preserved-in_default : goal.loop-i-preserved-in_default
loop-i-preserved-in_default g c =
    let same = ap (λ (es : List IndexEntry). length es) c.as_slice-entries.ensures in
    mended_skip g.D.Disk.told c.args.shape.now c.args.index.now c.args.views.now c.requires.rules c.requires.read
    c.loop-i.i c.index-views-i.result
    (g.D.Disk.medium c.args.disk.now) (g.D.Disk.medium c.loop-i.disk) (omega (arith, same)) c.index-views-i.is
    c.in_default.not-Good c.loop-i.invariant

pub mend-requires-clause-copies : goal.mend-requires-clause-copies
mend-requires-clause-copies g c =
    let same = ap (λ (es : List IndexEntry). length es) c.as_slice-entries.ensures in
    let blocks_is = c.as_slice.ensures ∙ ap (λ (x : IndexEntry). x.blocks) (sym c.index-entries-i.is) in
    let is_e = subst (λ (es : List IndexEntry). c.index-entries-i.result
    ≡ get_or es c.loop-i.i c.index-entries-i.result) c.as_slice-entries.ensures c.index-entries-i.is in
    let reads = read_at g.D.Disk.told c.args.shape.now c.args.index.now c.args.views.now c.requires.rules
    c.requires.read c.loop-i.i c.index-entries-i.result c.index-views-i.result (omega (arith, same)) is_e
    c.index-views-i.is in
    subst (λ (cs : List ℕ). AreCopies c.args.shape.now.place.copies cs) (sym c.as_slice-in-loop-i-2.ensures)
    reads.lacking

pub mend-requires-clause-room : goal.mend-requires-clause-room
mend-requires-clause-room g c =
    let same = ap (λ (es : List IndexEntry). length es) c.as_slice-entries.ensures in
    let blocks_is = c.as_slice.ensures ∙ ap (λ (x : IndexEntry). x.blocks) (sym c.index-entries-i.is) in
    let is_e = subst (λ (es : List IndexEntry). c.index-entries-i.result
    ≡ get_or es c.loop-i.i c.index-entries-i.result) c.as_slice-entries.ensures c.index-entries-i.is in
    let room = room_at g.D.Disk.told c.args.shape.now c.args.index.now c.args.views.now c.requires.rules c.requires.read
    c.loop-i.i c.index-entries-i.result c.index-views-i.result c.in-Good.value (omega (arith, same)) is_e
    c.index-views-i.is c.in-Good.is in
    let a = ap (λ (xs : List ℕ). length xs) blocks_is in
    let b = ap (λ (xs : List ℕ). length xs) c.as_slice-in-loop-i.ensures in
    omega (arith, room, a, b)

pub mend-requires-clause-distinct : goal.mend-requires-clause-distinct
mend-requires-clause-distinct g c =
    let same = ap (λ (es : List IndexEntry). length es) c.as_slice-entries.ensures in
    let blocks_is = c.as_slice.ensures ∙ ap (λ (x : IndexEntry). x.blocks) (sym c.index-entries-i.is) in
    let is_e = subst (λ (es : List IndexEntry). c.index-entries-i.result
    ≡ get_or es c.loop-i.i c.index-entries-i.result) c.as_slice-entries.ensures c.index-entries-i.is in
    subst (λ (bs : List ℕ). AreDistinct bs) (sym blocks_is)
    (distinct_at g.D.Disk.told c.args.shape.now c.args.index.now c.args.views.now c.requires.rules c.requires.read
    c.loop-i.i c.index-entries-i.result (omega (arith, same)) is_e)

pub returns-in_err-mend-clause-elsewhere : goal.returns-in_err-mend-clause-elsewhere
returns-in_err-mend-clause-elsewhere g c =
    let same = ap (λ (es : List IndexEntry). length es) c.as_slice-entries.ensures in
    let blocks_is = c.as_slice.ensures ∙ ap (λ (x : IndexEntry). x.blocks) (sym c.index-entries-i.is) in
    let is_e = subst (λ (es : List IndexEntry). c.index-entries-i.result
    ≡ get_or es c.loop-i.i c.index-entries-i.result) c.as_slice-entries.ensures c.index-entries-i.is in
    let P : List ℕ → Type 0 = λ bs. Tore g.D.Disk.told (IsNoneOf c.args.shape.now.place
    c.as_slice-in-loop-i-2.result.now) (IsNotAmong bs)
    (length c.as_slice-in-loop-i-2.result.now * (256 * length bs)) (g.D.Disk.medium c.loop-i.disk)
    (g.D.Disk.medium c.mend.new.disk) in
    let Q : List ℕ → Type 0 = λ cs. Tore g.D.Disk.told (IsNoneOf c.args.shape.now.place cs)
    (IsNotAmong c.index-entries-i.result.blocks)
    (length cs * (256 * length c.index-entries-i.result.blocks)) (g.D.Disk.medium c.loop-i.disk)
    (g.D.Disk.medium c.mend.new.disk) in
    let tore = subst Q c.as_slice-in-loop-i-2.ensures (subst P blocks_is c.in_err-mend.ensures.failed) in
    torn_areas g.D.Disk.told c.args.shape.now c.args.index.now c.args.views.now c.requires.rules c.requires.read
    c.mending_keeps.ensures.step c.loop-i.i c.index-entries-i.result c.index-views-i.result c.in-Good.value
    (g.D.Disk.medium c.args.disk.now) (g.D.Disk.medium c.loop-i.disk) (omega (arith, same)) is_e c.index-views-i.is
    c.in-Good.is
    (length c.index-views-i.result.lacking * (256 * length c.index-entries-i.result.blocks))
    (g.D.Disk.medium c.mend.new.disk) c.loop-i.invariant tore

pub returns-in_err-mend-clause-written : goal.returns-in_err-mend-clause-written
returns-in_err-mend-clause-written g c =
    let same = ap (λ (es : List IndexEntry). length es) c.as_slice-entries.ensures in
    let blocks_is = c.as_slice.ensures ∙ ap (λ (x : IndexEntry). x.blocks) (sym c.index-entries-i.is) in
    let is_e = subst (λ (es : List IndexEntry). c.index-entries-i.result
    ≡ get_or es c.loop-i.i c.index-entries-i.result) c.as_slice-entries.ensures c.index-entries-i.is in
    let P : List ℕ → Type 0 = λ bs. (g.D.Disk.medium c.mend.new.disk).written ≤ (g.D.Disk.medium c.loop-i.disk).written
    + length c.as_slice-in-loop-i-2.result.now * (256 * length bs) in
    let Q : List ℕ → Type 0 = λ cs. (g.D.Disk.medium c.mend.new.disk).written ≤ (g.D.Disk.medium c.loop-i.disk).written
    + length cs * (256 * length c.index-entries-i.result.blocks) in
    let tore = subst Q c.as_slice-in-loop-i-2.ensures (subst P blocks_is c.in_err-mend.ensures.failed.written) in
    torn_written g.D.Disk.told c.args.shape.now c.args.index.now c.args.views.now c.requires.rules c.requires.read
    c.mending_keeps.ensures.step c.loop-i.i c.index-entries-i.result c.index-views-i.result c.in-Good.value
    (g.D.Disk.medium c.args.disk.now) (g.D.Disk.medium c.loop-i.disk) (omega (arith, same)) is_e c.index-views-i.is
    c.in-Good.is
    (length c.index-views-i.result.lacking * (256 * length c.index-entries-i.result.blocks))
    (g.D.Disk.medium c.mend.new.disk)
    (cost_at g.D.Disk.told c.args.shape.now c.args.index.now c.args.views.now c.requires.rules c.requires.read
    c.loop-i.i c.index-entries-i.result c.index-views-i.result c.in-Good.value (omega (arith, same)) is_e
    c.index-views-i.is c.in-Good.is)
    c.loop-i.invariant tore

pub returns-in_err-mend-clause-idle : goal.returns-in_err-mend-clause-idle
returns-in_err-mend-clause-idle g c =
    let same = ap (λ (es : List IndexEntry). length es) c.as_slice-entries.ensures in
    let blocks_is = c.as_slice.ensures ∙ ap (λ (x : IndexEntry). x.blocks) (sym c.index-entries-i.is) in
    let is_e = subst (λ (es : List IndexEntry). c.index-entries-i.result
    ≡ get_or es c.loop-i.i c.index-entries-i.result) c.as_slice-entries.ensures c.index-entries-i.is in
    let P : List ℕ → Type 0 = λ bs. Tore g.D.Disk.told (IsNoneOf c.args.shape.now.place
    c.as_slice-in-loop-i-2.result.now) (IsNotAmong bs)
    (length c.as_slice-in-loop-i-2.result.now * (256 * length bs)) (g.D.Disk.medium c.loop-i.disk)
    (g.D.Disk.medium c.mend.new.disk) in
    let Q : List ℕ → Type 0 = λ cs. Tore g.D.Disk.told (IsNoneOf c.args.shape.now.place cs)
    (IsNotAmong c.index-entries-i.result.blocks)
    (length cs * (256 * length c.index-entries-i.result.blocks)) (g.D.Disk.medium c.loop-i.disk)
    (g.D.Disk.medium c.mend.new.disk) in
    let tore = subst Q c.as_slice-in-loop-i-2.ensures (subst P blocks_is c.in_err-mend.ensures.failed) in
    torn_idle g.D.Disk.told c.args.shape.now c.args.index.now c.args.views.now c.requires.rules c.requires.read
    c.mending_keeps.ensures.step c.loop-i.i c.index-entries-i.result c.index-views-i.result c.in-Good.value
    (g.D.Disk.medium c.args.disk.now) (g.D.Disk.medium c.loop-i.disk) (omega (arith, same)) is_e c.index-views-i.is
    c.in-Good.is
    (length c.index-views-i.result.lacking * (256 * length c.index-entries-i.result.blocks))
    (g.D.Disk.medium c.mend.new.disk) c.loop-i.invariant tore
    (λ none. few_none (length c.index-views-i.result.lacking) (256 * length c.index-entries-i.result.blocks)
    (ap (λ (xs : List ℕ). length xs) none))

pub returns-in_err-mend-clause-during : goal.returns-in_err-mend-clause-during
returns-in_err-mend-clause-during g c =
    let same = ap (λ (es : List IndexEntry). length es) c.as_slice-entries.ensures in
    let blocks_is = c.as_slice.ensures ∙ ap (λ (x : IndexEntry). x.blocks) (sym c.index-entries-i.is) in
    let is_e = subst (λ (es : List IndexEntry). c.index-entries-i.result
    ≡ get_or es c.loop-i.i c.index-entries-i.result) c.as_slice-entries.ensures c.index-entries-i.is in
    let P : List ℕ → Type 0 = λ bs. Tore g.D.Disk.told (IsNoneOf c.args.shape.now.place
    c.as_slice-in-loop-i-2.result.now) (IsNotAmong bs)
    (length c.as_slice-in-loop-i-2.result.now * (256 * length bs)) (g.D.Disk.medium c.loop-i.disk)
    (g.D.Disk.medium c.mend.new.disk) in
    let Q : List ℕ → Type 0 = λ cs. Tore g.D.Disk.told (IsNoneOf c.args.shape.now.place cs)
    (IsNotAmong c.index-entries-i.result.blocks)
    (length cs * (256 * length c.index-entries-i.result.blocks)) (g.D.Disk.medium c.loop-i.disk)
    (g.D.Disk.medium c.mend.new.disk) in
    let tore = subst Q c.as_slice-in-loop-i-2.ensures (subst P blocks_is c.in_err-mend.ensures.failed) in
    still_during g.D.Disk.told c.args.shape.now c.args.index.now c.args.views.now c.requires.rules c.requires.read
    c.mending_keeps.ensures.step c.loop-i.i c.index-entries-i.result c.index-views-i.result c.in-Good.value
    (g.D.Disk.medium c.args.disk.now) (g.D.Disk.medium c.loop-i.disk) (omega (arith, same)) is_e c.index-views-i.is
    c.in-Good.is
    (length c.index-views-i.result.lacking * (256 * length c.index-entries-i.result.blocks))
    (g.D.Disk.medium c.mend.new.disk) c.loop-i.invariant tore.time tore.during

pub loop-i-preserved : goal.loop-i-preserved
loop-i-preserved g c =
    let same = ap (λ (es : List IndexEntry). length es) c.as_slice-entries.ensures in
    let blocks_is = c.as_slice.ensures ∙ ap (λ (x : IndexEntry). x.blocks) (sym c.index-entries-i.is) in
    let is_e = subst (λ (es : List IndexEntry). c.index-entries-i.result
    ≡ get_or es c.loop-i.i c.index-entries-i.result) c.as_slice-entries.ensures c.index-entries-i.is in
    let P : List ℕ → Type 0 = λ bs. Wrote g.D.Disk.told (IsNoneOf c.args.shape.now.place
    c.as_slice-in-loop-i-2.result.now) (IsNotAmong bs)
    (length c.as_slice-in-loop-i-2.result.now * (256 * length bs)) (g.D.Disk.medium c.loop-i.disk)
    (g.D.Disk.medium c.mend.new.disk) in
    let Q : List ℕ → Type 0 = λ cs. Wrote g.D.Disk.told (IsNoneOf c.args.shape.now.place cs)
    (IsNotAmong c.index-entries-i.result.blocks)
    (length cs * (256 * length c.index-entries-i.result.blocks)) (g.D.Disk.medium c.loop-i.disk)
    (g.D.Disk.medium c.mend.new.disk) in
    let wrote = subst Q c.as_slice-in-loop-i-2.ensures (subst P blocks_is c.in_ok-mend.ensures.done) in
    let A : List ℕ → Type 0 = λ bs. NamedFull c.args.shape.now.place c.as_slice-in-loop-i-2.result.now bs
    c.as_slice-in-loop-i.result.now (g.D.Disk.medium c.mend.new.disk).image in
    let B : List ℕ → Type 0 = λ cs. NamedFull c.args.shape.now.place cs c.index-entries-i.result.blocks
    c.as_slice-in-loop-i.result.now (g.D.Disk.medium c.mend.new.disk).image in
    let C : List ℕ → Type 0 = λ v. NamedFull c.args.shape.now.place c.index-views-i.result.lacking
    c.index-entries-i.result.blocks v (g.D.Disk.medium c.mend.new.disk).image in
    mended_more g.D.Disk.told c.args.shape.now c.args.index.now c.args.views.now c.requires.rules c.requires.read
    c.mending_keeps.ensures.step c.loop-i.i c.index-entries-i.result c.index-views-i.result c.in-Good.value
    (g.D.Disk.medium c.args.disk.now) (g.D.Disk.medium c.loop-i.disk) (omega (arith, same)) is_e c.index-views-i.is
    c.in-Good.is
    (length c.index-views-i.result.lacking * (256 * length c.index-entries-i.result.blocks))
    (g.D.Disk.medium c.mend.new.disk)
    (cost_at g.D.Disk.told c.args.shape.now c.args.index.now c.args.views.now c.requires.rules c.requires.read
    c.loop-i.i c.index-entries-i.result c.index-views-i.result c.in-Good.value (omega (arith, same)) is_e
    c.index-views-i.is c.in-Good.is)
    (λ none. few_none (length c.index-views-i.result.lacking) (256 * length c.index-entries-i.result.blocks)
    (ap (λ (xs : List ℕ). length xs) none)) wrote
    (λ tells. subst C c.as_slice-in-loop-i.ensures (subst B c.as_slice-in-loop-i-2.ensures
    (subst A blocks_is (c.in_ok-mend.ensures.whole tells)))) c.loop-i.invariant

pub returns-clause-whole : goal.returns-clause-whole
returns-clause-whole g c =
    let same = ap (λ (es : List IndexEntry). length es) c.as_slice-entries.ensures in
    mended_all g.D.Disk.told c.args.shape.now c.args.index.now c.args.views.now c.requires.rules c.requires.read
    c.loop-i.i
    (g.D.Disk.medium c.args.disk.now) (g.D.Disk.medium c.loop-i.disk) (omega (arith, same)) c.loop-i.invariant

pub returns-clause-written : goal.returns-clause-written
returns-clause-written g c =
    let same = ap (λ (es : List IndexEntry). length es) c.as_slice-entries.ensures in
    mended_written g.D.Disk.told c.args.shape.now c.args.index.now c.args.views.now c.requires.rules c.requires.read
    c.loop-i.i
    (g.D.Disk.medium c.args.disk.now) (g.D.Disk.medium c.loop-i.disk) (omega (arith, same)) c.loop-i.invariant
