use Rattle.std.proofs.Common.{◌≡◌, ◌-◌, ◌*◌, ◌≤◌, ◌∙◌, min, [], length, take, drop, refl, sym, ap, true≢false, arith}
use Rattle.std.proofs.lemmas.List.{take_rest}
use Rattle.block_files.specs.Areas.{joined}
use Rattle.block_files.proofs.BlockReads.{read_on}
use Rattle.block_files.proofs.Pieces.{same_more, piece_same, same_all, piece_fits, piece_length}
use Rattle.block_files.proofs.reading.has_bytes.Goals as goal

pub has_piece-requires-clause-blocks : goal.has_piece-requires-clause-blocks
has_piece-requires-clause-blocks g c =
    piece_fits [] c.args.blocks.now c.args.bytes.now c.loop-i.i c.piece_at-piece.result.now (omega arith)
    c.piece_at-piece.ensures c.requires.blocks

pub has_piece-requires-clause-room : goal.has_piece-requires-clause-room
has_piece-requires-clause-room g c =
    let long : length c.loop-i.room ≡ length c.args.room.now = c.loop-i.auto.room in
    let enough : min (length c.args.bytes.now) 65536 ≤ length c.args.room.now = c.requires.room in
    let piece = piece_length [] c.args.blocks.now c.args.bytes.now c.loop-i.i c.piece_at-piece.result.now (omega arith)
    c.piece_at-piece.ensures in
    omega (arith, long, enough, piece)

pub loop-i-preserved : goal.loop-i-preserved
loop-i-preserved g c =
    let old = g.D.Disk.medium c.args.disk.now in
    let mid = g.D.Disk.medium c.loop-i.disk in
    let blocks = c.args.blocks.now in
    let i = c.loop-i.i in
    let piece = c.piece_at-piece.result.now in
    let h = c.in_ok-has_piece.ensures in
    let here = ap (λ image. joined (image c.args.file) (take (length blocks - 256 * i) (drop (256 * i) blocks))
    (length piece)) c.loop-i.invariant.read.reads.image
    ∙ ap (λ rest. joined (old.image c.args.file) rest (length piece)) (take_rest blocks (256 * i)) in
    record {
      read = read_on old mid (g.D.Disk.medium c.has_piece.new.disk) c.loop-i.invariant.read h.reads h.time h.passes;
      same = λ tells. same_more (old.image c.args.file) blocks c.args.bytes.now i piece (omega arith)
          c.piece_at-piece.ensures (sym here ∙ (h.same tells).0 c.if-not-branch.false) (c.loop-i.invariant.same tells);
    }

pub returns-then-not-branch-clause-same : goal.returns-then-not-branch-clause-same
returns-then-not-branch-clause-same g c = λ tells.
    let old = g.D.Disk.medium c.args.disk.now in
    let blocks = c.args.blocks.now in
    let i = c.loop-i.i in
    let piece = c.piece_at-piece.result.now in
    let here = ap (λ image. joined (image c.args.file) (take (length blocks - 256 * i) (drop (256 * i) blocks))
    (length piece)) c.loop-i.invariant.read.reads.image
    ∙ ap (λ rest. joined (old.image c.args.file) rest (length piece)) (take_rest blocks (256 * i)) in (
      λ is. absurd (true≢false (sym is)),
      λ all. sym c.if-not-branch.true ∙ (c.in_ok-has_piece.ensures.same tells).1 (here
          ∙ piece_same (old.image c.args.file) blocks c.args.bytes.now i piece (omega arith) c.piece_at-piece.ensures
          all),
    )

pub returns-clause-same : goal.returns-clause-same
returns-clause-same g c = λ tells. (
  λ is. same_all ((g.D.Disk.medium c.args.disk.now).image c.args.file) c.args.blocks.now c.args.bytes.now c.loop-i.i
      (omega arith) (c.loop-i.invariant.same tells),
  λ all. refl,
)
