use Rattle.std.proofs.Common.{◌≡◌, ◌+◌, ◌-◌, ◌*◌, ◌≤◌, ◌∙◌, min, length, get_or, take, drop, ap, arith}
use Rattle.std.proofs.lemmas.List.{length-take, length-drop}
use Rattle.per_base.specs.Contents.{blocks_for}
use Rattle.block_files.specs.Areas.{joined}
use Rattle.block_files.proofs.BlockReads.{read_on}
use Rattle.block_files.proofs.Runs.{run_numbers, gathered_more, gathered_all}
use Rattle.block_files.proofs.reading.read_runs.Goals as goal

pub loop-next-preserved : goal.loop-next-preserved
loop-next-preserved g c =
    let old = g.D.Disk.medium c.args.disk.now in
    let mid = g.D.Disk.medium c.loop-next.disk in
    let h = c.in_ok-read_from.ensures in
    let blocks = c.args.blocks.now in
    let out = c.loop-next.out in
    let next = c.loop-next.next in
    let count = c.count_run.result in
    let needed = c.count_blocks-needed.result in
    let stop = c.min-stop.result in
    let cut = take (needed - next) (drop next blocks) in
    let long : length out ≡ length c.args.out.now = c.loop-next.auto.out in
    let enough : needed ≡ blocks_for (length c.args.out.now) = c.count_blocks-needed.ensures in
    let below : count ≤ needed - next =
    omega (arith, c.count_run.ensures.within, length-take (needed - next) (drop next blocks)) in
    let stops : stop ≡ min (256 * (next + count)) (length out) = omega (arith, c.min-stop.ensures) in
    let from : 256 * next ≤ stop = omega (arith, c.loop-next-test.true) in
    let room : length (take (stop - 256 * next) (drop (256 * next) out)) ≡ stop - 256 * next =
    omega (arith, length-take (stop - 256 * next) (drop (256 * next) out), length-drop (256 * next) out) in
    record {
      read = read_on old mid (g.D.Disk.medium c.read_from.new.disk) c.loop-next.invariant.read h.reads h.time h.passes;
      below = omega (arith, c.loop-next.invariant.below);
      bytes = λ tells.
          gathered_more (old.image c.args.file) blocks out c.read_from.new.out next (next + count) stop stops from
          (c.read_from.auto.out ∙ room) (run_numbers blocks next needed count below c.count_run.ensures.follow)
          (λ i lt. h.bytes tells i (omega (arith, room))
          ∙ ap (λ image. get_or (image c.args.file) (256 * get_or blocks next 0 + i) 0)
          c.loop-next.invariant.read.reads.image)
          (c.loop-next.invariant.bytes tells);
    }

pub returns-clause-bytes : goal.returns-clause-bytes
returns-clause-bytes g c = λ tells.
    let file = (g.D.Disk.medium c.args.disk.now).image c.args.file in
    let long : length c.loop-next.out ≡ length c.args.out.now = c.loop-next.auto.out in
    let enough : c.count_blocks-needed.result ≡ blocks_for (length c.args.out.now) = c.count_blocks-needed.ensures in
    gathered_all file c.args.blocks.now c.loop-next.out c.loop-next.next (omega (arith, c.requires.room))
    (omega (arith, c.loop-next-test.false)) (c.loop-next.invariant.bytes tells)
    ∙ ap (joined file c.args.blocks.now) long
