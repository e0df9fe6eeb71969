use Rattle.std.proofs.Common.{◌<◌, refl, ◌∙◌, ⊎_elim, inl, inr, arith}
use Rattle.disk_model.specs.Laws.{elapses_none, elapses_on}
use Rattle.deploy.proofs.Formatted.{empty_clean, empty_is, empty_settled, formatted, none_left, one_left, one_more}
use Rattle.deploy.proofs.RootLens.{all_cost, none_written, one_more_cost, some_cost}
use Rattle.deploy.proofs.formatting.format_all.Goals as goal

pub loop-app-init : goal.loop-app-init
loop-app-init g c = record {
  empty = λ tells app lt. absurd (omega (arith, lt));
  quiet = λ some. ⊎_elim (λ le. absurd (omega (arith, le))) (λ quiet. quiet) some;
  passes = refl;
  written = none_written _ _;
  outside = none_left g.D.Disk.told (g.D.Disk.medium c.args.disk.now) (g.met.D.Disk.lawful c.args.disk.now);
  time = elapses_none (g.met.D.Disk.lawful c.args.disk.now);
}

pub loop-app-preserved : goal.loop-app-preserved
loop-app-preserved g c =
    let it = c.loop-app.invariant in
    let app = c.loop-app.app in
    let lt : app < 8 = omega arith in
    let old = g.D.Disk.medium c.args.disk.now in
    let mid = g.D.Disk.medium c.loop-app.disk in
    let new = g.D.Disk.medium c.format_root.new.disk in
    record {
      empty = λ tells. one_more c.files_lie_apart.ensures.root c.files_lie_apart.ensures.slots c.roots_say.ensures.held
          app lt mid.image new.image
          (c.format_root.ensures.elsewhere tells) app refl (it.empty tells)
          (formatted new.image app c.in_ok-_cell._cell c.in_ok-_cell.ensures.cell (c.in_ok-_cell.ensures.held tells));
      quiet = λ some. c.in_ok-_cell.ensures.quiet;
      passes = c.in_ok-_cell.ensures.passes ∙ it.passes;
      written = one_more_cost old.written mid.written new.written app it.written c.format_root.ensures.written;
      outside = one_left g.D.Disk.told app lt old mid new it.time c.format_root.ensures.time it.outside
          (λ quiet. it.quiet (inr quiet))
          c.format_root.ensures.elsewhere c.format_root.ensures.any_moment;
      time = elapses_on it.time c.format_root.ensures.time;
    }

pub returns-in_err-_cell-clause-outside : goal.returns-in_err-_cell-clause-outside
returns-in_err-_cell-clause-outside g c =
    let it = c.loop-app.invariant in
    let app = c.loop-app.app in
    let lt : app < 8 = omega arith in
    one_left g.D.Disk.told app lt (g.D.Disk.medium c.args.disk.now) (g.D.Disk.medium c.loop-app.disk)
    (g.D.Disk.medium c.format_root.new.disk)
    it.time c.format_root.ensures.time it.outside (λ quiet. it.quiet (inr quiet))
    c.format_root.ensures.elsewhere c.format_root.ensures.any_moment

pub returns-clause-apps : goal.returns-clause-apps
returns-clause-apps g c = λ tells app lt.
    empty_is (g.D.Disk.medium c.loop-app.disk).image app (c.loop-app.invariant.empty tells app (omega (arith, lt)))
    c.one_root.ensures.again c.roots_say.ensures.alone

pub returns-clause-settled : goal.returns-clause-settled
returns-clause-settled g c = λ tells app lt.
    empty_settled (g.D.Disk.medium c.loop-app.disk).image app (c.loop-app.invariant.empty tells app (omega (arith, lt)))
    c.held_is_lawful.ensures.alone

pub returns-clause-clean : goal.returns-clause-clean
returns-clause-clean g c = λ tells app lt.
    empty_clean (g.D.Disk.medium c.loop-app.disk).image app (c.loop-app.invariant.empty tells app (omega (arith, lt)))
    c.one_root.ensures.again c.roots_say.ensures.clean

pub returns-clause-alone : goal.returns-clause-alone
returns-clause-alone g c = λ tells app lt. c.loop-app.invariant.empty tells app (omega (arith, lt))

pub returns-clause-quiet : goal.returns-clause-quiet
returns-clause-quiet g c = c.loop-app.invariant.quiet (inl (omega arith))

pub returns-in_err-_cell-clause-written : goal.returns-in_err-_cell-clause-written
returns-in_err-_cell-clause-written g c = let lt : c.loop-app.app < 8 = omega arith in
    some_cost _ _ _ c.loop-app.app lt c.loop-app.invariant.written c.format_root.ensures.written

pub returns-clause-written : goal.returns-clause-written
returns-clause-written g c = all_cost _ _ c.loop-app.app (omega arith) c.loop-app.invariant.written
