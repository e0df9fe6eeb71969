use Rattle.std.proofs.Common.{◌≡◌, ◌∙◌, refl, sym}
use Rattle.odometer.proofs.Totals.{ShowsElse, failed_open, none_ok, number_is_value, on_err, on_ok, passed_on}
use Rattle.odometer.proofs.Totals.{shows_else, total_kept, total_left, total_saved, total_stands, total_throughout}
use Rattle.odometer.proofs.odometers.save.Goals as goal

-- ---- it is not set

pub returns-in_err-set-clause-total : goal.returns-in_err-set-clause-total
returns-in_err-set-clause-total g c = none_ok c.from_residual.result c.in_err-set.field-0.0 c.from_residual.ensures.1 _

pub returns-in_err-set-clause-stays : goal.returns-in_err-set-clause-stays
returns-in_err-set-clause-stays g c = on_err c.from_residual.result _ (λ before has.
    rw c.in_err-set.ensures.unchanged has)

pub returns-in_err-set-clause-any_moment : goal.returns-in_err-set-clause-any_moment
returns-in_err-set-clause-any_moment g c = λ tells before has.
    let same : g.D.Disk.medium c.set.new.self.disk ≡ g.D.Disk.medium c.args.storage.now.disk =
    rw c.in_err-set.ensures.unchanged refl in
    total_stands c.args.storage.now.kvs before c.args.total (g.D.Disk.medium c.args.storage.now.disk)
    (g.D.Disk.medium c.set.new.self.disk) same has (c.invariants.ensures.keeps tells)

pub returns-in_err-set-clause-cause : goal.returns-in_err-set-clause-cause
returns-in_err-set-clause-cause g c = λ is.
    let passed = passed_on c.from_residual.result c.in_err-set.field-0.0 c.from_residual.ensures.1 in
    rw (c.set.ensures.closed.0 (c.in_err-set.was ∙ (sym passed ∙ is))) tt

-- ---- it is set

pub returns-clause-total : goal.returns-clause-total
returns-clause-total g c =
    let value = number_is_value _ c.args.total c.scalars_have_trees.ensures.u32.1 c.ranges.total.fits in
    on_ok c.sync.result _ _ (total_saved g.D.Disk.told c.set.new.self.kvs c.sync.new.self.kvs
    (g.D.Disk.medium c.set.new.self.disk) (g.D.Disk.medium c.sync.new.self.disk) c.args.key.now _ _ c.args.total
    c.scalars_have_trees.ensures.u32.0 c.scalars_have_trees.ensures.u32.1 c.requires
    (c.in_ok-set.ensures.got value)) c.sync.ensures.synced

pub returns-clause-stays : goal.returns-clause-stays
returns-clause-stays g c =
    let shows : ShowsElse c.args.storage.now.kvs c.set.new.self.kvs = shows_else c.args.storage.now.kvs
    c.set.new.self.kvs c.args.key.now _ c.args.total c.scalars_have_trees.ensures.u32.1 c.in_ok-set.ensures.ok
    c.in_ok-set.ensures.beside in
    total_left c.args.storage.now.kvs c.set.new.self c.sync.new.self c.sync.result
    (λ total has. total_kept c.args.storage.now.kvs c.set.new.self.kvs total shows has) c.sync.ensures.unchanged

pub returns-clause-any_moment : goal.returns-clause-any_moment
returns-clause-any_moment g c = λ tells before has.
    let value = number_is_value _ c.args.total c.scalars_have_trees.ensures.u32.1 c.ranges.total.fits in
    let shows : ShowsElse c.args.storage.now.kvs c.set.new.self.kvs = shows_else c.args.storage.now.kvs
    c.set.new.self.kvs c.args.key.now _ c.args.total c.scalars_have_trees.ensures.u32.1 c.in_ok-set.ensures.ok
    c.in_ok-set.ensures.beside in
    let same : g.D.Disk.medium c.set.new.self.disk ≡ g.D.Disk.medium c.args.storage.now.disk =
    rw c.in_ok-set.ensures.disk refl in
    total_throughout c.args.storage.now.kvs c.set.new.self.kvs (g.D.Disk.medium c.args.storage.now.disk)
    (g.D.Disk.medium c.set.new.self.disk) (g.D.Disk.medium c.sync.new.self.disk) c.args.key.now _ _ before c.args.total
    c.scalars_have_trees.ensures.u32.0 c.scalars_have_trees.ensures.u32.1 c.requires shows
    (c.in_ok-set.ensures.got value) has same (c.sync.ensures.any_moment tells)

pub returns-clause-cause : goal.returns-clause-cause
returns-clause-cause g c = λ is.
    let shows : ShowsElse c.args.storage.now.kvs c.set.new.self.kvs = shows_else c.args.storage.now.kvs
    c.set.new.self.kvs c.args.key.now _ c.args.total c.scalars_have_trees.ensures.u32.1 c.in_ok-set.ensures.ok
    c.in_ok-set.ensures.beside in
    let same : g.D.Disk.medium c.set.new.self.disk ≡ g.D.Disk.medium c.args.storage.now.disk =
    rw c.in_ok-set.ensures.disk refl in
    failed_open c.args.storage.now.kvs c.set.new.self.kvs (g.D.Disk.medium c.args.storage.now.disk)
    (g.D.Disk.medium c.set.new.self.disk) (g.D.Disk.medium c.sync.new.self.disk) shows same (c.sync.ensures.cause is)
