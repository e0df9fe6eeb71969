use Rattle.std.proofs.Common.{List, sym, subst, ⊎_elim, inl, inr, arith}
use Rattle.element_store.specs.declared.jobs.Job.{Job}
use Rattle.element_store.specs.Committing.{IsPrepared}
use Rattle.element_store.proofs.Around.{areas_around}
use Rattle.element_laws.specs.lemmas.Untouched.{none_kept}
use Rattle.element_store.proofs.CommitKept.{commit_shares, commit_keeps_jobs, commit_around_jobs}
use Rattle.element_store.proofs.CommitKept.{commit_written_jobs}
use Rattle.element_store.proofs.store.Store.write_contents.Goals as goal

pub write_durably-requires-clause-shared : goal.write_durably-requires-clause-shared
write_durably-requires-clause-shared g c = λ tells. (
    let prep = subst (λ (js : List Job). IsPrepared c.args.self.now c.args.changes.now c.in-Ok.prepared.ready.index
    c.in-Ok.prepared.ready.text c.in-Ok.prepared.ready.used js) (sym c.deref.ensures.value) c.in-Ok.ensures.plan
    in
    commit_shares g.D.Disk.told c.args.self.now c.args.changes.now c.in-Ok.prepared.ready.used
    c.in-Ok.prepared.ready.index c.deref.result.now (g.D.Disk.medium c.args.disk.now) c.requires.used prep.plan
    tells)

pub returns-in-Err-clause-any_moment : goal.returns-in-Err-clause-any_moment
returns-in-Err-clause-any_moment g c = λ tells. none_kept c.untouched_is_kept.ensures.untouched g.D.Disk.told
    c.args.self.now.shape _ (g.D.Disk.medium c.args.disk.now)
    c.requires.used.memory.shape (g.met.D.Disk.lawful c.args.disk.now)

pub returns-in-Ok-write_durably-clause-elsewhere :
    goal.returns-in-Ok-write_durably-clause-elsewhere
returns-in-Ok-write_durably-clause-elsewhere g c = λ tells.
    areas_around c.args.self.now.shape.place _ _
    (c.in-Ok-write_durably.ensures.elsewhere tells)

pub returns-in-Ok-write_durably-clause-outside : goal.returns-in-Ok-write_durably-clause-outside
returns-in-Ok-write_durably-clause-outside g c = λ tells quiet. (
    let prep = subst (λ (js : List Job). IsPrepared c.args.self.now c.args.changes.now c.in-Ok.prepared.ready.index
    c.in-Ok.prepared.ready.text c.in-Ok.prepared.ready.used js) (sym c.deref.ensures.value) c.in-Ok.ensures.plan
    in
    commit_around_jobs g.D.Disk.told c.args.self.now c.args.changes.now c.in-Ok.prepared.ready.used
    c.in-Ok.prepared.ready.index c.deref.result.now (g.D.Disk.medium c.args.disk.now) c.requires.used prep.plan
    tells (g.D.Disk.medium c.write_durably.new.disk) _ quiet (c.in-Ok-write_durably.ensures.elsewhere tells)
    c.in-Ok-write_durably.ensures.during)

pub returns-in-Ok-write_durably-clause-any_moment :
    goal.returns-in-Ok-write_durably-clause-any_moment
returns-in-Ok-write_durably-clause-any_moment g c = λ tells. (
    let prep = subst (λ (js : List Job). IsPrepared c.args.self.now c.args.changes.now c.in-Ok.prepared.ready.index
    c.in-Ok.prepared.ready.text c.in-Ok.prepared.ready.used js) (sym c.deref.ensures.value) c.in-Ok.ensures.plan
    in
    commit_keeps_jobs g.D.Disk.told c.args.self.now c.args.changes.now c.in-Ok.prepared.ready.used
    c.in-Ok.prepared.ready.index c.deref.result.now (g.D.Disk.medium c.args.disk.now) c.requires.used prep.plan
    tells (g.D.Disk.medium c.write_durably.new.disk) c.use_is_adopted.ensures.adopted c.contents_keep.ensures.during
    c.contents_keep.ensures.done _ _ (λ d. c.in-Ok-write_durably.ensures.keeps tells)
    c.in-Ok-write_durably.ensures.during)

pub returns-in-Err-write_durably-clause-elsewhere :
    goal.returns-in-Err-write_durably-clause-elsewhere
returns-in-Err-write_durably-clause-elsewhere g c = λ tells.
    areas_around c.args.self.now.shape.place _ _
    (c.in-Err-write_durably.ensures.elsewhere tells)

pub returns-in-Err-write_durably-clause-outside : goal.returns-in-Err-write_durably-clause-outside
returns-in-Err-write_durably-clause-outside g c = λ tells quiet. (
    let prep = subst (λ (js : List Job). IsPrepared c.args.self.now c.args.changes.now c.in-Ok.prepared.ready.index
    c.in-Ok.prepared.ready.text c.in-Ok.prepared.ready.used js) (sym c.deref.ensures.value) c.in-Ok.ensures.plan
    in
    commit_around_jobs g.D.Disk.told c.args.self.now c.args.changes.now c.in-Ok.prepared.ready.used
    c.in-Ok.prepared.ready.index c.deref.result.now (g.D.Disk.medium c.args.disk.now) c.requires.used prep.plan
    tells (g.D.Disk.medium c.write_durably.new.disk) _ quiet (c.in-Err-write_durably.ensures.elsewhere tells)
    c.in-Err-write_durably.ensures.during)

pub returns-in-Err-write_durably-clause-any_moment :
    goal.returns-in-Err-write_durably-clause-any_moment
returns-in-Err-write_durably-clause-any_moment g c = λ tells. (
    let prep = subst (λ (js : List Job). IsPrepared c.args.self.now c.args.changes.now c.in-Ok.prepared.ready.index
    c.in-Ok.prepared.ready.text c.in-Ok.prepared.ready.used js) (sym c.deref.ensures.value) c.in-Ok.ensures.plan
    in
    commit_keeps_jobs g.D.Disk.told c.args.self.now c.args.changes.now c.in-Ok.prepared.ready.used
    c.in-Ok.prepared.ready.index c.deref.result.now (g.D.Disk.medium c.args.disk.now) c.requires.used prep.plan
    tells (g.D.Disk.medium c.write_durably.new.disk) c.use_is_adopted.ensures.adopted c.contents_keep.ensures.during
    c.contents_keep.ensures.done _ _ (λ d. absurd cc) c.in-Err-write_durably.ensures.during)

pub returns-in-Ok-write_durably-clause-ready : goal.returns-in-Ok-write_durably-clause-ready
returns-in-Ok-write_durably-clause-ready g c =
    let prep = subst (λ (js : List Job). IsPrepared c.args.self.now c.args.changes.now c.in-Ok.prepared.ready.index
    c.in-Ok.prepared.ready.text c.in-Ok.prepared.ready.used js) (sym c.deref.ensures.value) c.in-Ok.ensures.plan
    in
    record {
      jobs = c.deref.result.now;
      prepared = prep;
      done = λ tells. c.in-Ok-write_durably.ensures.written tells;
      keeps = λ tells. c.in-Ok-write_durably.ensures.keeps tells;
      each = λ x past. ⊎_elim (λ some. inl some) (λ all. inr (tt, all.1)) (c.in-Ok-write_durably.ensures.during x past);
      elsewhere = λ tells. c.in-Ok-write_durably.ensures.elsewhere tells;
      cost = c.in-Ok-write_durably.ensures.cost;
      time = c.in-Ok-write_durably.ensures.time;
      quiet = c.in-Ok-write_durably.ensures.quiet;
    }

pub returns-in-Ok-write_durably-clause-cost : goal.returns-in-Ok-write_durably-clause-cost
returns-in-Ok-write_durably-clause-cost g c =
    let prep = subst (λ (js : List Job). IsPrepared c.args.self.now c.args.changes.now c.in-Ok.prepared.ready.index
    c.in-Ok.prepared.ready.text c.in-Ok.prepared.ready.used js) (sym c.deref.ensures.value) c.in-Ok.ensures.plan
    in
    commit_written_jobs g.D.Disk.told c.args.self.now c.args.changes.now c.in-Ok.prepared.ready.used
    c.in-Ok.prepared.ready.index c.deref.result.now (g.D.Disk.medium c.args.disk.now) c.requires.used prep.plan
    (g.D.Disk.medium c.write_durably.new.disk) c.in-Ok-write_durably.ensures.cost

pub returns-in-Err-write_durably-clause-cost : goal.returns-in-Err-write_durably-clause-cost
returns-in-Err-write_durably-clause-cost g c =
    let prep = subst (λ (js : List Job). IsPrepared c.args.self.now c.args.changes.now c.in-Ok.prepared.ready.index
    c.in-Ok.prepared.ready.text c.in-Ok.prepared.ready.used js) (sym c.deref.ensures.value) c.in-Ok.ensures.plan
    in
    commit_written_jobs g.D.Disk.told c.args.self.now c.args.changes.now c.in-Ok.prepared.ready.used
    c.in-Ok.prepared.ready.index c.deref.result.now (g.D.Disk.medium c.args.disk.now) c.requires.used prep.plan
    (g.D.Disk.medium c.write_durably.new.disk) c.in-Err-write_durably.ensures.cost

pub returns-in-Err-clause-cost : goal.returns-in-Err-clause-cost
returns-in-Err-clause-cost g c = omega arith
