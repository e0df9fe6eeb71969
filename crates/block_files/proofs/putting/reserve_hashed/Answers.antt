use Rattle.std.proofs.Common.{◌≤◌, ◌∙◌, ℕ, List, sym, ap, subst, length, arith}
use Rattle.block_files.specs.BlockSets.{free_of, IsAdded, SharesBlocks, AreDistinct}
use Rattle.block_files.proofs.FreeBlocks.{chosen_free, length-chosen}
use Rattle.block_files.specs.lemmas.Sharing.{shares, distinct, added_merged}
use Rattle.block_files.proofs.putting.reserve_hashed.Goals as goal

pub merge-requires-clause-enough : goal.merge-requires-clause-enough
merge-requires-clause-enough c =
    let enough : c.count_changed.result ≤ free_of c.args.used.now =
    omega (arith, c.count_changed.ensures, c.requires.free) in
    length-chosen c.args.used.now c.count_changed.result c.deref.result.now
    (c.deref.ensures.value ∙ c.in_ok-fresh.ensures) enough ∙ c.count_changed.ensures

pub add-requires : goal.add-requires
add-requires c =
    let enough : c.count_changed.result ≤ free_of c.args.used.now =
    omega (arith, c.count_changed.ensures, c.requires.free) in
    (chosen_free c.args.used.now c.count_changed.result c.deref-2.result.now
    (c.deref-2.ensures.value ∙ c.in_ok-fresh.ensures) enough).below

pub returns-clause-count : goal.returns-clause-count
returns-clause-count c = ap length c.new.ensures ∙ c.in_ok-blocks.ensures.count

pub returns-clause-shared : goal.returns-clause-shared
returns-clause-shared c =
    let enough : c.count_changed.result ≤ free_of c.args.used.now =
    omega (arith, c.count_changed.ensures, c.requires.free) in
    let is = c.deref.ensures.value ∙ c.in_ok-fresh.ensures in
    let P : List ℕ → Type 0 = λ xs. SharesBlocks c.args.bytes.now c.args.old_bytes.now c.args.old_blocks.now
    c.args.used.now xs in
    subst P (sym c.new.ensures)
    (shares c.args.bytes.now c.args.old_bytes.now c.args.old_blocks.now c.deref.result.now c.in_ok-blocks.blocks.items
    c.args.used.now c.in_ok-blocks.ensures
    (chosen_free c.args.used.now c.count_changed.result c.deref.result.now is enough)
    (length-chosen c.args.used.now c.count_changed.result c.deref.result.now is enough ∙ c.count_changed.ensures))

pub returns-clause-distinct : goal.returns-clause-distinct
returns-clause-distinct c =
    let enough : c.count_changed.result ≤ free_of c.args.used.now =
    omega (arith, c.count_changed.ensures, c.requires.free) in
    let is = c.deref.ensures.value ∙ c.in_ok-fresh.ensures in
    let P : List ℕ → Type 0 = λ xs. AreDistinct xs in
    subst P (sym c.new.ensures)
    (distinct c.args.bytes.now c.args.old_bytes.now c.args.old_blocks.now c.deref.result.now c.in_ok-blocks.blocks.items
    c.args.used.now c.in_ok-blocks.ensures
    (chosen_free c.args.used.now c.count_changed.result c.deref.result.now is enough)
    (length-chosen c.args.used.now c.count_changed.result c.deref.result.now is enough ∙ c.count_changed.ensures)
    c.requires.distinct c.requires.taken c.requires.room)

pub returns-clause-used : goal.returns-clause-used
returns-clause-used c =
    let enough : c.count_changed.result ≤ free_of c.args.used.now =
    omega (arith, c.count_changed.ensures, c.requires.free) in
    let is = c.deref.ensures.value ∙ c.in_ok-fresh.ensures in
    let P : List ℕ → Type 0 = λ xs. IsAdded xs c.args.used.now c.add.new.used in
    subst P (sym c.new.ensures)
    (added_merged c.args.bytes.now c.args.old_bytes.now c.args.old_blocks.now c.deref.result.now
    c.in_ok-blocks.blocks.items c.args.used.now c.in_ok-blocks.ensures
    (chosen_free c.args.used.now c.count_changed.result c.deref.result.now is enough)
    (length-chosen c.args.used.now c.count_changed.result c.deref.result.now is enough ∙ c.count_changed.ensures)
    c.requires.distinct c.requires.taken c.requires.room c.add.new.used
    (subst P (c.deref-2.ensures.value ∙ sym c.deref.ensures.value) c.add.ensures))

pub returns-clause-free : goal.returns-clause-free
returns-clause-free c =
    let enough : c.count_changed.result ≤ free_of c.args.used.now =
    omega (arith, c.count_changed.ensures, c.requires.free) in
    let many = length-chosen c.args.used.now c.count_changed.result c.deref-2.result.now
    (c.deref-2.ensures.value ∙ c.in_ok-fresh.ensures) enough in
    omega (arith, c.add.ensures.free, many, c.count_changed.ensures)
