use Rattle.std.proofs.Common.{◌∙◌, ap, sym, ◌++◌, ◌∷◌, []}
use Rattle.std.proofs.lemmas.Grind.{common_steps}
use Rattle.std.proofs.Common.{arith}
use Rattle.disk_model.specs.declared.history.Call.TheVariants.{Write}
use Rattle.disk_model.specs.Image.{put_image}
use Rattle.disk_model.specs.History.{image_of, start_image}
use Rattle.disk_model.proofs.Answering.{write_tied}
use Rattle.disk_model.proofs.memory.MemDisk.write.Goals as goal

pub invariant_of-self-in-Ok : goal.invariant_of-self-in-Ok
invariant_of-self-in-Ok c =
    let kept = c.in_ok-keep_start.ensures.start in
    let was = c.keep_start.new.self in
    record {
      tied = write_tied was.calls.items c.push.new.self.items (image_of was.files) (image_of c.put.new.files)
          (start_image was.files was.start) (start_image c.put.new.files was.start) c.args.file c.args.at
          c.in_ok-from_slice.field-0 c.args.bytes.now
          c.in_ok-from_slice.ensures.items c.in_ok-push.ensures.items (kept c.put.new.files ∙ sym (kept was.files))
          was.tied c.in-Ok.ensures.ok;
    }

pub returns-in-Ok-clause-ok : goal.returns-in-Ok-clause-ok
returns-in-Ok-clause-ok c =
    let record_same = c.in_ok-keep_start.ensures.record in
    let copy = c.in_ok-from_slice.field-0 in (
      copy,
      c.in_ok-from_slice.ensures.items,
      record {
        image_is = c.in-Ok.ensures.ok ∙ ap (λ i. put_image i c.args.file c.args.at c.args.bytes.now)
            record_same.image_is;
        start_is = c.in_ok-keep_start.ensures.start c.put.new.files;
        calls_are = c.in_ok-push.ensures.items ∙ ap (λ cs. cs ++ Write c.args.file c.args.at copy ∷ [])
            record_same.calls_are;
        written_is = grind (arith, common_steps);
      },
    )
