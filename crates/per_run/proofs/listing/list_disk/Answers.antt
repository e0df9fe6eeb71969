-- What is on the disk is written; or the disk failed, or memory ran out.
use Rattle.std.proofs.Common.{Err, ap, inl, inr, refl, ◌∙◌}
use Rattle.per_run.specs.declared.words.JobKind.TheVariants.{Listing}
use Rattle.per_run.specs.Jobs.{by_disk}
use Rattle.per_run.proofs.Answered.{lists_none}
use Rattle.per_run.proofs.Caused.{list_caused, short_caused}
use Rattle.per_run.proofs.Outputs.{writes_as}
use Rattle.per_run.proofs.listing.list_disk.Goals as goal

pub returns-in-Ok-clause-job : goal.returns-in-Ok-clause-job
returns-in-Ok-clause-job g c = record {
  text = c.in-Ok.text.items;
  text_is = λ tells. c.in-Ok.ensures.text tells;
  output = writes_as _ _ _ _ _ c.as_slice.ensures.value c.write_output.ensures.output;
  stays = record {
    image = c.list.ensures.image;
    written = c.list.ensures.written;
    during = c.list.ensures.during;
  };
  quiet = λ done. c.in-Ok.ensures.quiet;
  failed = λ unfailed. c.in-Ok.ensures.passes;
}

pub returns-in-Ok-clause-caused : goal.returns-in-Ok-clause-caused
returns-in-Ok-clause-caused g c = λ source.
    list_caused (Listing c.args.form) _ _ _ refl c.write_output.ensures.status

pub returns-in-Err-Device-clause-job : goal.returns-in-Err-Device-clause-job
returns-in-Err-Device-clause-job g c = lists_none _ _ _ _ _ _ (inl refl)
    (record {
      image = c.list.ensures.image;
      written = c.list.ensures.written;
      during = c.list.ensures.during;
    })
    (λ unfailed. absurd (unfailed refl))

pub returns-in-Err-Device-clause-caused : goal.returns-in-Err-Device-clause-caused
returns-in-Err-Device-clause-caused g c = λ source. by_disk refl
    (c.list.ensures.cause (c.in-Err-Device.is ∙ ap Err c.in-Err-Device.field-0-is))

pub returns-in-Err-OutOfMemory-clause-job : goal.returns-in-Err-OutOfMemory-clause-job
returns-in-Err-OutOfMemory-clause-job g c = lists_none _ _ _ _ _ _ (inr refl)
    (record {
      image = c.list.ensures.image;
      written = c.list.ensures.written;
      during = c.list.ensures.during;
    })
    (λ unfailed. c.list.ensures.fed (c.in-Err-OutOfMemory.is ∙ ap Err c.in-Err-OutOfMemory.field-0-is))

pub returns-in-Err-OutOfMemory-clause-caused : goal.returns-in-Err-OutOfMemory-clause-caused
returns-in-Err-OutOfMemory-clause-caused g c = λ source. short_caused (Listing c.args.form) _ _
