-- Where a line ends the run, the rest of the piece stands after it.
use Rattle.std.proofs.Common.{[], ◌∷◌, ◌++◌, ap, refl, sym, arith, false, append-nil, append_assoc}
use Rattle.disk_model.specs.Laws.{elapses_none, elapses_on}
use Rattle.run_model.specs.Lines.{lines_of}
use Rattle.per_run.specs.Steps.{ending_of}
use Rattle.per_run.proofs.Fronts.{front_more, given_at_line, given_whole, rest_less}
use Rattle.per_run.proofs.Hears.{service_along}
use Rattle.per_run.proofs.Listens.{ends_short, listened_along, listened_bytes}
use Rattle.per_run.proofs.serving.serve_piece.Goals as goal

pub loop-line-init : goal.loop-line-init
loop-line-init g c = record {
  front = [];
  parts = refl;
  goes_on = λ start before given l. listened_along _ _ _ before _ _ _ _ _ _ _ (append-nil given) l;
  in_use = c.requires;
  time = elapses_none (g.met.D.Disk.lawful _);
  sink_later = omega arith;
}

pub loop-line-smaller : goal.loop-line-smaller
loop-line-smaller g c = rest_less c.loop-line.rest.now c.in-Some.line.now c.in-Some.others.now c.in-Some.ensures.parts

pub loop-line-preserved : goal.loop-line-preserved
loop-line-preserved g c =
    let so_far = c.loop-line.invariant in
    let line = c.in-Some.line.now in
    record {
      front = so_far.front ++ (line ++ 10 ∷ []);
      parts = front_more c.args.piece.now so_far.front c.loop-line.rest.now line c.in-Some.others.now so_far.parts
          c.in-Some.ensures.parts;
      goes_on = λ start before given l.
          listened_along _ _ _ before _ _ _ _ _ _ _ (sym (append_assoc given so_far.front (line ++ 10 ∷ [])))
          (c.in-Ok.ensures.goes_on start before (given ++ so_far.front) (so_far.goes_on start before given l));
      in_use = c.in-Ok.ensures.memory;
      time = elapses_on so_far.time c.serve_next.ensures.time;
      sink_later = omega (arith, so_far.sink_later, c.serve_next.ensures.blames.later);
    }

pub returns-in-Err-clause-ends : goal.returns-in-Err-clause-ends
returns-in-Err-clause-ends g c = λ laws start before given l.
    let so_far = c.loop-line.invariant in
    service_along _ _ _ before (ending_of c.in-Err.ending) _ _ _ _
    (ap (lines_of false) (sym (given_at_line given c.args.piece.now so_far.front c.loop-line.rest.now
    c.in-Some.line.now c.in-Some.others.now so_far.parts c.in-Some.ensures.parts)))
    (c.in-Err.ensures.ends laws start before (given ++ so_far.front) c.in-Some.others.now
    (so_far.goes_on start before given l))

pub returns-in-Err-clause-time : goal.returns-in-Err-clause-time
returns-in-Err-clause-time g c = elapses_on c.loop-line.invariant.time c.in-Err.ensures.time

pub returns-in-Ok-keep-clause-goes_on : goal.returns-in-Ok-keep-clause-goes_on
returns-in-Ok-keep-clause-goes_on g c = λ start before given l.
    let so_far = c.loop-line.invariant in
    listened_along _ _ _ before _ _ _ _ _ _ _
    (sym (given_whole given c.args.piece.now so_far.front c.loop-line.rest.now so_far.parts))
    (listened_bytes _ _ _ before (given ++ so_far.front) c.loop-line.rest.now _ _ _ _ _ _
    (so_far.goes_on start before given l) c.in_default.ensures.none c.in-Ok-keep.ensures.kept)

pub returns-in-Err-keep-clause-ends : goal.returns-in-Err-keep-clause-ends
returns-in-Err-keep-clause-ends g c = λ laws start before given l.
    let so_far = c.loop-line.invariant in
    service_along _ _ _ before (ending_of c.in-Err-keep.ending) _ _ _ _
    (ap (lines_of false) (sym (given_whole given c.args.piece.now so_far.front c.loop-line.rest.now so_far.parts)))
    (ends_short _ _ _ before laws c.in-Err-keep.ending (given ++ so_far.front) c.loop-line.rest.now _ _ _ _ _
    c.in-Err-keep.ensures.memory (so_far.goes_on start before given l))
