use Rattle.std.proofs.Common.{◌≡◌, ◌∙◌, refl, sym, subst, ⊎_elim, arith}
use Rattle.std.proofs.lemmas.Bool.{cases_lt}
use Rattle.flash_disk.specs.Kept.{in_ranges, HoldsKept}
use Rattle.flash_disk.proofs.Emptying.{look_forgets, forgets_on}
use Rattle.flash_disk.proofs.Accounting.{accounts_fails, accounts_ok, accounts_on, counted_none, counted_on}
use Rattle.flash_disk.proofs.layer.Layer.free_others.Goals as goal

pub loop-block-init : goal.loop-block-init
loop-block-init g c =
    let m = g.F.Flash.medium c.args.self.now.flash in
    let lawful = g.met.F.Flash.lawful c.args.self.now.flash in record {
      counts = counted_none 0 c.args.self.now lawful;
      forgetting = c.requires.forgetting;
      free = c.requires.free;
      holds = c.requires.before;
      does = λ told. look_forgets (in_ranges c.args.kept.now) m m c.args.self.now.state (c.requires.forgetting told) refl
          (λ x past. lawful.only_now x past);
    }

pub free_one-requires-clause-within : goal.free_one-requires-clause-within
free_one-requires-clause-within g c told =
    let below = c.loop-block-test.true in
    let end = c.blocks-block-end.ensures in
    let same = (c.loop-block.invariant.counts.time told).blocks in omega (arith, below, end, same)

pub loop-block-preserved : goal.loop-block-preserved
loop-block-preserved g c =
    let m = g.F.Flash.medium c.args.self.now.flash in
    let mid = g.F.Flash.medium c.loop-block.self.flash in
    let now = g.F.Flash.medium c.free_one.new.self.flash in
    let i = c.loop-block.invariant in
    let e = c.in_ok-target.ensures in
    let kept = in_ranges c.args.kept.now in
    let block = c.loop-block.block in record {
      counts = counted_on 0 0 0 (omega arith) i.counts e.accounts;
      forgetting = λ told. e.forgetting told;
      free = λ told. e.free told;
      holds = λ told b below. ⊎_elim
          (λ before. e.holds told b (i.holds told b before))
          (λ past. (let last : b ≡ block = omega (arith, past, below) in
          subst (HoldsKept kept now.state.pages) (sym last) (e.here told)))
          (cases_lt b block);
      does = λ told. forgets_on kept m mid now (i.counts.time told) (e.accounts.time told)
          (c.requires.forgetting told).agreed (i.does told) (e.does told);
    }

pub returns-in_err-target-clause-does : goal.returns-in_err-target-clause-does
returns-in_err-target-clause-does g c told =
    let m = g.F.Flash.medium c.args.self.now.flash in
    let mid = g.F.Flash.medium c.loop-block.self.flash in
    let now = g.F.Flash.medium c.free_one.new.self.flash in
    let i = c.loop-block.invariant in
    let e = c.free_one.ensures in
    forgets_on (in_ranges c.args.kept.now) m mid now (i.counts.time told) (e.accounts.time told)
    (c.requires.forgetting told).agreed (i.does told) (e.does told)

pub returns-in_err-target-clause-accounts : goal.returns-in_err-target-clause-accounts
returns-in_err-target-clause-accounts g c = accounts_fails c.from_residual.result _ c.from_residual.ensures.1
    (accounts_on 0 0 0 (omega arith) c.loop-block.invariant.counts c.in_err-target.ensures.accounts)

pub returns-in_err-target-clause-own : goal.returns-in_err-target-clause-own
returns-in_err-target-clause-own g c told = c.free_one.ensures.own told ∙ c.loop-block.invariant.counts.kept

pub returns-clause-forgetting : goal.returns-clause-forgetting
returns-clause-forgetting g c told = c.loop-block.invariant.forgetting told

pub returns-clause-whole : goal.returns-clause-whole
returns-clause-whole g c told block within =
    let past = c.loop-block-test.false in
    let end = c.blocks-block-end.ensures in
    let same = (c.loop-block.invariant.counts.time told).blocks in
    c.loop-block.invariant.holds told block (omega (arith, past, end, same, within))

pub returns-clause-does : goal.returns-clause-does
returns-clause-does g c told = c.loop-block.invariant.does told

pub returns-clause-accounts : goal.returns-clause-accounts
returns-clause-accounts g c = accounts_ok c.loop-block.invariant.counts

pub returns-clause-own : goal.returns-clause-own
returns-clause-own g c told = c.loop-block.invariant.counts.kept
