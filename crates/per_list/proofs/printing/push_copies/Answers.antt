use Rattle.std.proofs.Common.{◌<◌, arith, string_bytes}
use Rattle.per_list.specs.Listings.{copy_text}
use Rattle.per_list.proofs.Texts.{left_more}
use Rattle.per_list.proofs.printing.push_copies.Goals as goal

pub loop-copy-preserved : goal.loop-copy-preserved
loop-copy-preserved c =
    let lt : c.loop-copy.copy < c.args.place.copies = omega arith in
    left_more (copy_text c.args.form c.args.app c.args.bank c.args.name.now c.args.place) c.args.place.copies
    c.loop-copy.copy (string_bytes c.args.out.now) (string_bytes c.loop-copy.out) (string_bytes c.push_copy.new.out) lt
    c.loop-copy.invariant c.in_ok-push_copy.ensures
