use Rattle.std.proofs.Common.{◌≡◌, ◌+◌, ◌∙◌, ap, sym, subst, take, length, arith, ◌++◌, ◌∷◌, []}
use Rattle.std.proofs.lemmas.List.{length-take-le}
use Rattle.disk_model.proofs.Synced.{IsSynced, one_more, closed, stays_open}
use Rattle.disk_model.proofs.history.synced.Goals as goal
use Rattle.disk_model.proofs.history.synced.Goals.{in-Sync, in_default}

pub loop-i-preserved : goal.loop-i-preserved
loop-i-preserved c =
    let calls = c.args.calls.now in
    let more = one_more calls c.loop-i.i c.index-calls-i.result c.loop-i-test.true c.index-calls-i.is in
    elim c.match-call.branch [
      | in-Sync w ↦
          let len : length (take (c.loop-i.i + 1) calls) ≡ c.match-call.count =
          length-take-le (c.loop-i.i + 1) calls (omega arith) ∙ sym w.count-is in
          subst (λ n. IsSynced (take (c.loop-i.i + 1) calls) n) len
          (closed (take c.loop-i.i calls) (take (c.loop-i.i + 1) calls)
          (more ∙ ap (λ call. take c.loop-i.i calls ++ (call ∷ [])) w.in-Sync.is))
      | in_default w ↦
          subst (λ n. IsSynced (take (c.loop-i.i + 1) calls) n) (sym w.count-is)
          (stays_open (take c.loop-i.i calls) c.loop-i.count c.index-calls-i.result (take (c.loop-i.i + 1) calls)
          w.in_default.not-Sync more c.loop-i.invariant)
    ]
