use Rattle.std.proofs.Common.{◌≤◌, ℕ, List, length, ap, refl, sym, ◌∙◌, subst}
use Rattle.disk_model.specs.declared.place.Place.{Place}
use Rattle.guarded_cell.specs.Seens.{IsSeenOn}
use Rattle.guarded_cell.specs.Slots.{IsSlotsOf}
use Rattle.root_text.specs.Views.{root_said}
use Rattle.deploy.proofs.Already.{already_at}
use Rattle.deploy.proofs.RootLens.{most_cost, placed_cost, root_len_is, text_cost}
use Rattle.deploy.proofs.Settled.{cell_at, puts_at, root_alone, root_in_use, root_says_so, spares_at}
use Rattle.deploy.proofs.opening.bring_to.Goals as goal

pub adopt_seen-requires-clause-seen : goal.adopt_seen-requires-clause-seen
adopt_seen-requires-clause-seen g c = λ tells.
    subst (λ (p : Place). IsSeenOn (g.D.Disk.medium c.args.disk.now).image p c.args.standing.seen)
    (sym c.root_place.ensures) (c.requires.seen tells)

pub adopt_seen-requires-clause-slots : goal.adopt_seen-requires-clause-slots
adopt_seen-requires-clause-slots g c = λ tells.
    subst (λ (p : Place). IsSlotsOf (g.D.Disk.medium c.args.disk.now).image p c.args.standing.slots)
    (sym c.root_place.ensures) (c.requires.slots tells)

pub returns-in_err-cell-clause-elsewhere : goal.returns-in_err-cell-clause-elsewhere
returns-in_err-cell-clause-elsewhere g c = λ tells. spares_at c.root_place.result c.args.app c.root_place.ensures
    (g.D.Disk.medium c.args.disk.now).image (g.D.Disk.medium c.adopt_seen.new.disk).image
    (c.in_err-cell.ensures.brings.puts.elsewhere tells)

pub returns-in_err-cell-clause-any_moment : goal.returns-in_err-cell-clause-any_moment
returns-in_err-cell-clause-any_moment g c = λ tells quiet.
    puts_at c.root_place.result c.args.app c.root_place.ensures c.args.standing.seen.generation
    c.args.standing.seen.text c.args.standing.seen.text (g.D.Disk.medium c.args.disk.now)
    (g.D.Disk.medium c.adopt_seen.new.disk)
    refl
    (c.in_err-cell.ensures.brings.puts.any_moment tells quiet)

pub returns-in_err-cell-clause-already : goal.returns-in_err-cell-clause-already
returns-in_err-cell-clause-already g c = λ tells. already_at c.root_place.result c.args.app
    c.args.standing.seen.generation c.args.standing.seen.text c.args.standing.seen.text
    (g.D.Disk.medium c.args.disk.now) (g.D.Disk.medium c.adopt_seen.new.disk) c.root_place.ensures refl
    (c.in_err-cell.ensures.brings.right tells) (c.in_err-cell.ensures.brings.already tells)

pub returns-clause-already : goal.returns-clause-already
returns-clause-already g c = λ tells. already_at c.root_place.result c.args.app c.args.standing.seen.generation
    c.args.standing.seen.text c.args.standing.seen.text
    (g.D.Disk.medium c.args.disk.now) (g.D.Disk.medium c.adopt_seen.new.disk) c.root_place.ensures refl
    (c.in_ok-cell.ensures.brings.right tells) (c.in_ok-cell.ensures.brings.already tells)

pub returns-clause-elsewhere : goal.returns-clause-elsewhere
returns-clause-elsewhere g c = λ tells. spares_at c.root_place.result c.args.app c.root_place.ensures
    (g.D.Disk.medium c.args.disk.now).image (g.D.Disk.medium c.adopt_seen.new.disk).image
    (c.in_ok-cell.ensures.brings.puts.elsewhere tells)

pub returns-clause-any_moment : goal.returns-clause-any_moment
returns-clause-any_moment g c = λ tells quiet. puts_at c.root_place.result c.args.app c.root_place.ensures
    c.args.standing.seen.generation
    c.args.standing.seen.text c.args.standing.seen.text (g.D.Disk.medium c.args.disk.now)
    (g.D.Disk.medium c.adopt_seen.new.disk)
    refl
    (c.in_ok-cell.ensures.brings.puts.any_moment tells quiet)

pub returns-clause-root : goal.returns-clause-root
returns-clause-root g c =
    let image = (g.D.Disk.medium c.adopt_seen.new.disk).image in
    let s = c.args.standing in
    let is = cell_at c.root_place.result c.args.app c.root_place.ensures s.seen.generation c.in_ok-cell.cell
    c.in_ok-cell.ensures.cell in
    root_in_use g.D.Disk.told image c.args.app s.seen.generation c.in_ok-cell.cell c.args.standing.seen.text
    (root_said s.says) c.of.result is
    c.requires.spelled.spelled c.requires.spelled.sealable.positive c.in_ok-cell.ensures.held
    (λ cell. c.of.ensures.memory c.args.app cell c.requires.spelled.rules) (c.of.ensures.disk image c.args.app)

pub returns-clause-says : goal.returns-clause-says
returns-clause-says g c =
    let s = c.args.standing in
    let is = cell_at c.root_place.result c.args.app c.root_place.ensures s.seen.generation c.in_ok-cell.cell
    c.in_ok-cell.ensures.cell in
    root_says_so g.D.Disk.told (g.D.Disk.medium c.adopt_seen.new.disk).image c.args.app s.seen.generation
    c.in_ok-cell.cell
    c.args.standing.seen.text (root_said s.says) c.of.result is
    c.requires.spelled.spelled c.of.ensures.says

pub returns-clause-alone : goal.returns-clause-alone
returns-clause-alone g c = λ tells.
    let s = c.args.standing in
    let is = cell_at c.root_place.result c.args.app c.root_place.ensures s.seen.generation c.in_ok-cell.cell
    c.in_ok-cell.ensures.cell in
    root_alone (g.D.Disk.medium c.adopt_seen.new.disk).image c.args.app s.seen.generation c.in_ok-cell.cell
    c.args.standing.seen.text (root_said s.says) is
    c.requires.spelled.spelled (c.in_ok-cell.ensures.held tells)

pub returns-in_err-cell-clause-at_most : goal.returns-in_err-cell-clause-at_most
returns-in_err-cell-clause-at_most g c =
    most_cost _ _ (length c.args.standing.seen.text)
    (placed_cost _ c.args.app _ _ _ c.root_place.ensures c.in_err-cell.ensures.brings.puts.written)
    (subst (λ (t : List ℕ). length t ≤ 131084) (sym c.requires.spelled.spelled)
    (c.one_root.ensures.short (root_said c.args.standing.says) c.requires.spelled.rules))

pub returns-clause-at_most : goal.returns-clause-at_most
returns-clause-at_most g c =
    most_cost _ _ (length c.args.standing.seen.text)
    (placed_cost _ c.args.app _ _ _ c.root_place.ensures c.in_ok-cell.ensures.brings.puts.written)
    (subst (λ (t : List ℕ). length t ≤ 131084) (sym c.requires.spelled.spelled)
    (c.one_root.ensures.short (root_said c.args.standing.says) c.requires.spelled.rules))

pub returns-clause-written : goal.returns-clause-written
returns-clause-written g c = text_cost _ _ 3 (length c.args.standing.seen.text) _
    (placed_cost _ c.args.app _ _ _ c.root_place.ensures c.in_ok-cell.ensures.brings.puts.written)
    (ap length c.requires.spelled.spelled ∙ c.of.ensures.long)

pub returns-in_err-cell-clause-once : goal.returns-in_err-cell-clause-once
returns-in_err-cell-clause-once g c = text_cost _ _ 3 (length c.args.standing.seen.text) _
    (placed_cost _ c.args.app _ _ _ c.root_place.ensures c.in_err-cell.ensures.brings.puts.written)
    (ap length c.requires.spelled.spelled ∙ root_len_is (root_said c.args.standing.says))

pub returns-clause-once : goal.returns-clause-once
returns-clause-once g c = text_cost _ _ 3 (length c.args.standing.seen.text) _
    (placed_cost _ c.args.app _ _ _ c.root_place.ensures c.in_ok-cell.ensures.brings.puts.written)
    (ap length c.requires.spelled.spelled ∙ root_len_is (root_said c.args.standing.says))
