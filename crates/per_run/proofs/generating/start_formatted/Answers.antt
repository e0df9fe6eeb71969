-- The runtime starts after the formatting.
use Rattle.std.proofs.Common.{Result, Ok, Err, IfOk, OnOk, ℕ, ◌<◌, ◌≤◌, ◌+◌, ◌*◌, ◌≡◌, ◌∙◌, Bool, IsTrue}
use Rattle.disk_model.specs.Frame.{Spares}
use Rattle.disk_model.specs.Laws.{elapses_on, rose_before}
use Rattle.disk_model.specs.Medium.{Medium, Quiet, Elapses}
use Rattle.deploy_rows.specs.Costs.{format_cost}
use Rattle.deploy.specs.declared.errors.Stop.{Stop}
use Rattle.deploy_laws.specs.Apps.{IsCleanApp}
use Rattle.per_runtime.specs.Memories.{memory_of}
use Rattle.per_runtime.specs.declared.runtime.Runtime.{Runtime}
use Rattle.run_model.specs.Runtimes.{IsNoRoot, Starts}
use Rattle.run_model.specs.Turns.{bytes_now}
use Rattle.run_model.specs.Worlds.{formatted, world_at}
use Rattle.run_model.specs.WriteLaws.{all_alone}
use Rattle.run_model.specs.Writes.{AreRootsAlone}
use Rattle.per_run.specs.Steps.{IsServeBegun}
use Rattle.per_run.proofs.Fresh.{formats_on, formats_short, is_formatted}
use Rattle.per_run.proofs.generating.start_formatted.Goals as goal

begun_ok : {D : Type 0} (medium : D → Medium) (told : Bool) (r : Result Runtime Stop) (old middle new : D)
    → (medium middle).faults ≡ (medium old).faults
    → (IsTrue told → Spares IsNoRoot (medium old).image (medium middle).image)
    → (medium middle).written ≤ (medium old).written + 8 * format_cost
    → OnOk r ((medium new).faults ≡ (medium middle).faults)
    → (IsTrue told → world_at (medium middle).image ≡ formatted)
    → (IsTrue told → AreRootsAlone (medium middle).image)
    → (IsTrue told → (app : ℕ) → app < 8 → IsCleanApp app (medium middle).image)
    → Quiet (medium middle) → Elapses (medium old) (medium middle)
    → (IsTrue told → IfOk r (λ x. Starts (memory_of x) (medium middle) (medium new)))
    → Elapses (medium middle) (medium new)
    → IfOk r (λ x. (m : D) × IsServeBegun told (memory_of x) (medium old) (medium m) (medium new))
begun_ok medium told (Ok x) old middle new passes roots written started world alone clean quiet formats starts time = (
  middle,
  record {
    passes = passes;
    roots = roots;
    written = written;
    started = started;
    alone = alone;
    world = world;
    clean = clean;
    quiet = quiet;
    formats = formats;
    starts = starts;
    time = time;
  },
)
begun_ok medium told (Err e) old middle new passes roots written started world alone clean quiet formats starts time = tt

pub returns-in-Ok-clause-begun : goal.returns-in-Ok-clause-begun
returns-in-Ok-clause-begun g c = begun_ok g.D.Disk.medium g.D.Disk.told c.start.result c.args.disk.now
    c.format_all.new.disk c.start.new.disk c.in-Ok.ensures.passes
    c.format_all.ensures.outside.at_the_end c.format_all.ensures.written
    c.start.ensures.passes (λ tells. is_formatted _ (c.in-Ok.ensures.apps tells))
    (λ tells. all_alone _ _ _ (c.in-Ok.ensures.alone tells)) c.in-Ok.ensures.clean
    c.in-Ok.ensures.quiet c.format_all.ensures.time c.start.ensures.starts c.start.ensures.time

pub returns-in-Ok-clause-within : goal.returns-in-Ok-clause-within
returns-in-Ok-clause-within g c = λ tells. formats_on (g.D.Disk.medium c.args.disk.now)
    (g.D.Disk.medium c.format_all.new.disk) (bytes_now (g.D.Disk.medium c.start.new.disk))
    (c.format_all.ensures.outside.at_the_end tells) c.format_all.ensures.written
    (all_alone _ _ _ (c.in-Ok.ensures.alone tells)) (c.start.ensures.stopped tells).roots
    (c.start.ensures.stopped tells).already

pub returns-in-Err-clause-within : goal.returns-in-Err-clause-within
returns-in-Err-clause-within g c = λ tells. formats_short (g.D.Disk.medium c.args.disk.now)
    (g.D.Disk.medium c.format_all.new.disk) (c.format_all.ensures.outside.at_the_end tells) c.format_all.ensures.written

pub returns-in-Ok-clause-cause : goal.returns-in-Ok-clause-cause
returns-in-Ok-clause-cause g c = λ failed. rose_before _ _ _ c.format_all.ensures.time.faults
    (c.start.ensures.cause failed)

pub returns-in-Ok-clause-fed : goal.returns-in-Ok-clause-fed
returns-in-Ok-clause-fed g c = λ failed. c.start.ensures.fed failed ∙ c.in-Ok.ensures.passes

pub returns-in-Ok-clause-time : goal.returns-in-Ok-clause-time
returns-in-Ok-clause-time g c = elapses_on c.format_all.ensures.time c.start.ensures.time
