use Rattle.std.proofs.Common.{◌≡◌, ◌≤◌, ◌*◌, List, true, sym, subst}
use Rattle.std.specs.List.{All, AllZip}
use Rattle.disk_model.specs.lemmas.Frames.{keeps_less}
use Rattle.index_text.specs.declared.entries.Index.{Index}
use Rattle.index_text.specs.Rules.{IsIndex}
use Rattle.index_text.specs.Sizes.{fits}
use Rattle.element_store.specs.declared.jobs.Job.{Job}
use Rattle.element_store.specs.Jobs.{HasShared, IsJobWritten, jobs_cost}
use Rattle.element_store.specs.Plans.{IsWrittenEntry, ArePlacedJobs, blocks_of_all}
use Rattle.element_store.specs.Spelled.{index_with, ShowsFresh}
use Rattle.element_store.proofs.PlanSteps.{shared_of_whole, left_of_placed, jobs_to_contents, written_of_plan}
use Rattle.element_store.proofs.Ruled.{plan_rules, plan_fits}
use Rattle.element_store.proofs.Made.{fit_of}
use Rattle.element_store.proofs.writing.put_contents.Goals as goal

pub spell-requires : goal.spell-requires
spell-requires g c = plan_rules c.args.shape.now c.args.generation c.args.contents.now c.args.used.now
    c.plan_contents.new.used
    c.in_ok-entries.field-0.entries.items c.in_ok-entries.field-0.jobs.items c.requires.contents c.in_ok-entries.ensures

pub write_durably-requires-clause-shared : goal.write_durably-requires-clause-shared
write_durably-requires-clause-shared g c = λ tells. (
    let e : c.deref.result.now ≡ c.in_ok-entries.field-0.jobs.items = cc in
    let P : List Job → Type 0 = λ js. All (HasShared (g.D.Disk.medium c.args.disk.now).image
    c.args.shape.now.place) js in
    subst P (sym e) (shared_of_whole (g.D.Disk.medium c.args.disk.now).image c.args.shape.now.place
    c.in_ok-entries.field-0.jobs.items c.in_ok-entries.ensures.whole))

pub returns-in-Ok-clause-fit : goal.returns-in-Ok-clause-fit
returns-in-Ok-clause-fit g c =
    let plan = c.in_ok-entries.ensures in
    let e : c.in_ok-spelled.spelled.index ≡ index_with c.args.shape.now.kind c.in_ok-entries.field-0.entries.items =
    c.in_ok-spelled.ensures.index in
    let rules = plan_rules c.args.shape.now c.args.generation c.args.contents.now c.args.used.now
    c.plan_contents.new.used
    c.in_ok-entries.field-0.entries.items c.in_ok-entries.field-0.jobs.items c.requires.contents plan in
    let fit = plan_fits c.args.shape.now c.args.generation c.args.contents.now c.args.used.now c.plan_contents.new.used
    c.in_ok-entries.field-0.entries.items c.in_ok-entries.field-0.jobs.items c.requires.contents plan
    c.requires.capacity in
    let fits_it : fits c.args.shape.now.kind c.args.shape.now.allowed c.in_ok-spelled.spelled.index ≡ true =
    subst (λ (i : Index). fits c.args.shape.now.kind c.args.shape.now.allowed i ≡ true) (sym e) fit in
    record {
      spelled = c.in_ok-spelled.ensures.text;
      rules = subst IsIndex (sym e) rules;
      fits = fits_it;
      fit = fit_of c.args.shape.now c.in_ok-spelled.spelled.text c.in_ok-spelled.spelled.index
          c.in_ok-spelled.ensures.spells fits_it;
    }

pub returns-in-Ok-clause-shown : goal.returns-in-Ok-clause-shown
returns-in-Ok-clause-shown g c = λ tells. (
    let image = (g.D.Disk.medium c.write_durably.new.disk).image in
    let e : c.deref.result.now ≡ c.in_ok-entries.field-0.jobs.items = cc in
    let done = subst (λ (js : List Job). All (IsJobWritten image c.args.shape.now.place)
    js) e (c.in-Ok.ensures.written tells) in
    let shown = c.in_ok-entries.ensures.views image c.args.shape.now.place c.args.shape.now.m c.requires.shape.some
    c.requires.shape.enough done in
    subst (λ (i : Index). ShowsFresh image c.args.shape.now.place c.args.shape.now.m c.args.generation
    c.args.contents.now i.entries) (sym c.in_ok-spelled.ensures.index) shown)

pub returns-in-Ok-clause-during : goal.returns-in-Ok-clause-during
returns-in-Ok-clause-during g c = λ x past. (
    let e : c.deref.result.now ≡ c.in_ok-entries.field-0.jobs.items = cc in
    jobs_to_contents c.args.shape.now.place c.args.used.now c.plan_contents.new.used
    c.deref.result.now
    (g.D.Disk.medium c.args.disk.now) (g.D.Disk.medium c.write_durably.new.disk) _ _
    (subst (λ (js : List Job). ArePlacedJobs c.args.used.now c.plan_contents.new.used js) (sym e)
    c.in_ok-entries.ensures.placed) (λ is. is) x (c.in-Ok.ensures.during x past))

pub returns-clause-during : goal.returns-clause-during
returns-clause-during g c = λ x past. (
    let e : c.deref.result.now ≡ c.in_ok-entries.field-0.jobs.items = cc in
    jobs_to_contents c.args.shape.now.place c.args.used.now c.plan_contents.new.used
    c.deref.result.now
    (g.D.Disk.medium c.args.disk.now) (g.D.Disk.medium c.write_durably.new.disk) _ _
    (subst (λ (js : List Job). ArePlacedJobs c.args.used.now c.plan_contents.new.used js) (sym e)
    c.in_ok-entries.ensures.placed) (λ is. is) x (c.in-Err.ensures.during x past))

pub returns-in-Ok-clause-made : goal.returns-in-Ok-clause-made
returns-in-Ok-clause-made g c =
    subst (λ (i : Index). AllZip (IsWrittenEntry c.args.generation) c.args.contents.now i.entries)
    (sym c.in_ok-spelled.ensures.index) c.in_ok-entries.ensures.made

pub returns-in-Ok-clause-keeps : goal.returns-in-Ok-clause-keeps
returns-in-Ok-clause-keeps g c = λ tells. (
    let e : c.deref.result.now ≡ c.in_ok-entries.field-0.jobs.items = cc in
    keeps_less (λ f none. none)
    (λ k taken. left_of_placed c.args.used.now c.plan_contents.new.used c.deref.result.now
    (subst (λ (js : List Job). ArePlacedJobs c.args.used.now c.plan_contents.new.used js) (sym e)
    c.in_ok-entries.ensures.placed) k taken)
    (c.in-Ok.ensures.keeps tells))

pub returns-in-Ok-clause-written : goal.returns-in-Ok-clause-written
returns-in-Ok-clause-written g c =
    let e : c.deref.result.now ≡ c.in_ok-entries.field-0.jobs.items = cc in
    written_of_plan c.args.shape.now.place.copies (blocks_of_all c.args.contents.now)
    (g.D.Disk.medium c.args.disk.now).written (g.D.Disk.medium c.write_durably.new.disk).written
    c.deref.result.now (subst (λ (js : List Job). jobs_cost js ≤ 256 * blocks_of_all c.args.contents.now) (sym e)
    c.in_ok-entries.ensures.cost) c.write_durably.ensures.cost

pub returns-clause-written : goal.returns-clause-written
returns-clause-written g c =
    let e : c.deref.result.now ≡ c.in_ok-entries.field-0.jobs.items = cc in
    written_of_plan c.args.shape.now.place.copies (blocks_of_all c.args.contents.now)
    (g.D.Disk.medium c.args.disk.now).written (g.D.Disk.medium c.write_durably.new.disk).written
    c.deref.result.now (subst (λ (js : List Job). jobs_cost js ≤ 256 * blocks_of_all c.args.contents.now) (sym e)
    c.in_ok-entries.ensures.cost) c.write_durably.ensures.cost
