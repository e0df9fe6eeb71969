use Rattle.std.proofs.Common.{ℕ, ◌*◌, List, sym, subst, arith}
use Rattle.disk_model.specs.Place.{area, IsNoArea}
use Rattle.block_files.specs.lemmas.Outcomes.{on_err}
use Rattle.block_files.specs.Parts.{changed_blocks}
use Rattle.block_files.specs.Areas.{AllFull, HoldsShared}
use Rattle.block_files.specs.Writes.{Wrote, Tore, IsApartFromChanged}
use Rattle.element_store.specs.declared.jobs.Job.{Job}
use Rattle.element_store.specs.Jobs.{HasShared}
use Rattle.element_store.proofs.Working.{done_none, done_more, done_failed}
use Rattle.element_store.proofs.jobs.write_jobs.Goals as goal

pub loop-job-init : goal.loop-job-init
loop-job-init g c =
    done_none g.D.Disk.told c.args.place c.args.jobs.now (g.D.Disk.medium c.args.disk.now)
    (g.met.D.Disk.lawful c.args.disk.now) c.requires.shared

pub write_shared-requires-clause-shared : goal.write_shared-requires-clause-shared
write_shared-requires-clause-shared g c = λ tells few less. (
    let P : Job → Type 0 = λ j. HasShared (g.D.Disk.medium c.loop-job.disk).image c.args.place
    j in
    let it = subst P (sym c.job-item.is) (c.loop-job.invariant.shared tells c.loop-job.job-index c.job-item.result
    (omega arith) (omega arith)) in
    let Q : List ℕ → Type 0 = λ bs. HoldsShared ((g.D.Disk.medium c.loop-job.disk).image (area c.args.place few))
    bs c.job-item.result.bytes.now c.job-item.result.was.now in
    subst Q (sym c.as_slice.ensures) (it few less))

pub returns-in_err-write_shared-clause-failed : goal.returns-in_err-write_shared-clause-failed
returns-in_err-write_shared-clause-failed g c =
    let P : List ℕ → Type 0 = λ bs. Tore g.D.Disk.told (IsNoArea c.args.place)
    (IsApartFromChanged bs c.job-item.result.bytes.now c.job-item.result.was.now)
    (c.args.place.copies * (256 * changed_blocks c.job-item.result.bytes.now c.job-item.result.was.now))
    (g.D.Disk.medium c.loop-job.disk) (g.D.Disk.medium c.write_shared.new.disk) in
    on_err c.from_residual.result
    (done_failed g.D.Disk.told c.args.place c.args.jobs.now c.loop-job.job-index
    c.job-item.result
    (g.D.Disk.medium c.args.disk.now) (g.D.Disk.medium c.loop-job.disk) (g.D.Disk.medium c.write_shared.new.disk)
    (omega arith) c.job-item.is
    (subst P c.as_slice.ensures c.in_err-write_shared.ensures.failed) c.loop-job.invariant)

pub loop-job-preserved : goal.loop-job-preserved
loop-job-preserved g c =
    let P : List ℕ → Type 0 = λ bs. Wrote g.D.Disk.told (IsNoArea c.args.place)
    (IsApartFromChanged bs c.job-item.result.bytes.now c.job-item.result.was.now)
    (c.args.place.copies * (256 * changed_blocks c.job-item.result.bytes.now c.job-item.result.was.now))
    (g.D.Disk.medium c.loop-job.disk) (g.D.Disk.medium c.write_shared.new.disk) in
    let Q : List ℕ → Type 0 = λ bs. AllFull c.args.place bs c.job-item.result.bytes.now
    (g.D.Disk.medium c.write_shared.new.disk).image in
    done_more g.D.Disk.told c.args.place c.args.jobs.now c.loop-job.job-index
    c.job-item.result
    (g.D.Disk.medium c.args.disk.now) (g.D.Disk.medium c.loop-job.disk) (g.D.Disk.medium c.write_shared.new.disk)
    (omega arith) c.job-item.is
    (subst P c.as_slice.ensures c.in_ok-write_shared.ensures.done) c.requires.apart
    (λ tells. subst Q c.as_slice.ensures (c.in_ok-write_shared.ensures.whole tells)) c.loop-job.invariant
