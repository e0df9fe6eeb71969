use Rattle.std.proofs.Common.{◌∙◌}
use Rattle.deploy.specs.Clauses.{IsNoRootSlot}
use Rattle.per_runtime.proofs.application_lemmas.Frames.{aside_at_the_end, aside_throughout, calls_to, no_root}
use Rattle.per_runtime.proofs.application_lemmas.Frames.{nothing_written}
use Rattle.per_runtime.proofs.application.running.Running.open_root.Goals as goal

pub returns-in_err-root-clause-on_the_way : goal.returns-in_err-root-clause-on_the_way
returns-in_err-root-clause-on_the_way g c = λ tells next later.
    calls_to g.D.Disk.told c.args.self.now.app next (IsNoRootSlot c.args.self.now.app) (g.D.Disk.medium c.args.disk.now)
    (g.D.Disk.medium c.open_root.new.disk)
    tells (λ f is. no_root c.args.self.now.app f c.requires.memory.below is) c.open_root.ensures.outside
    (λ quiet clean. c.open_root.ensures.any_moment tells quiet clean next later)

pub returns-in_err-root-clause-already : goal.returns-in_err-root-clause-already
returns-in_err-root-clause-already g c = λ tells.
    nothing_written (g.D.Disk.medium c.args.disk.now) (g.D.Disk.medium c.open_root.new.disk) c.args.self.now.app
    (c.open_root.ensures.already tells) (c.open_root.ensures.bad tells)

pub returns-clause-already : goal.returns-clause-already
returns-clause-already g c = λ tells.
    nothing_written (g.D.Disk.medium c.args.disk.now) (g.D.Disk.medium c.open_root.new.disk) c.args.self.now.app
    (c.open_root.ensures.already tells) (c.open_root.ensures.bad tells)

pub returns-clause-on_the_way : goal.returns-clause-on_the_way
returns-clause-on_the_way g c = λ tells next later. calls_to g.D.Disk.told c.args.self.now.app next
    (IsNoRootSlot c.args.self.now.app) (g.D.Disk.medium c.args.disk.now) (g.D.Disk.medium c.open_root.new.disk)
    tells (λ f is. no_root c.args.self.now.app f c.requires.memory.below is) c.open_root.ensures.outside
    (λ quiet clean. c.open_root.ensures.any_moment tells quiet clean next later)

pub returns-clause-root : goal.returns-clause-root
returns-clause-root g c = λ tells. record {
  app = c.in_ok-root.ensures.app tells;
  any_moment = c.open_root.ensures.any_moment tells;
  outside = aside_throughout g.D.Disk.told c.args.self.now.app (IsNoRootSlot c.args.self.now.app)
      (g.D.Disk.medium c.args.disk.now) (g.D.Disk.medium c.open_root.new.disk) tells
      (λ f is. no_root c.args.self.now.app f c.requires.memory.below is) c.open_root.ensures.outside;
  elsewhere = aside_at_the_end g.D.Disk.told c.args.self.now.app (IsNoRootSlot c.args.self.now.app)
      (g.D.Disk.medium c.args.disk.now) (g.D.Disk.medium c.open_root.new.disk) tells
      (λ f is. no_root c.args.self.now.app f c.requires.memory.below is) c.open_root.ensures.outside;
  slots = c.open_root.ensures.outside.at_the_end tells;
  manifests = c.roots_in_use.ensures.manifests (g.D.Disk.medium c.open_root.new.disk).image c.args.self.now.app
      c.in_ok-root.root c.in_ok-root.ensures.root.memory (c.in_ok-root.ensures.root.disk tells)
      ∙ c.in_ok-root.ensures.manifests tells;
  written = c.open_root.ensures.once tells;
  already = nothing_written (g.D.Disk.medium c.args.disk.now) (g.D.Disk.medium c.open_root.new.disk) c.args.self.now.app
      (c.open_root.ensures.already tells) (c.open_root.ensures.bad tells);
  clean = λ clean. c.in_ok-root.ensures.clean tells clean;
  quiet = c.in_ok-root.ensures.quiet;
  time = c.open_root.ensures.time;
}

pub returns-in_err-root-clause-slots : goal.returns-in_err-root-clause-slots
returns-in_err-root-clause-slots g c = c.open_root.ensures.outside.at_the_end

pub returns-clause-slots : goal.returns-clause-slots
returns-clause-slots g c = c.open_root.ensures.outside.at_the_end

pub returns-in_err-root-clause-written : goal.returns-in_err-root-clause-written
returns-in_err-root-clause-written g c = c.open_root.ensures.at_most

pub returns-clause-written : goal.returns-clause-written
returns-clause-written g c = c.open_root.ensures.at_most

pub returns-in_err-root-clause-once : goal.returns-in_err-root-clause-once
returns-in_err-root-clause-once g c = c.open_root.ensures.once

pub returns-clause-once : goal.returns-clause-once
returns-clause-once g c = c.open_root.ensures.once
