use Rattle.std.proofs.Common.{◌∙◌, ap}
use Rattle.std.specs.Prelude.{Some}
use Rattle.deployment_model.specs.Data.{storage_data}
use Rattle.file_storage.proofs.Initials.{initial_is_small}
use Rattle.file_storage.proofs.by_name.initial_content.Goals as goal

pub returns-in-Some-clause-small : goal.returns-in-Some-clause-small
returns-in-Some-clause-small c = initial_is_small (storage_data c.args.config.now) c.args.name.now
    (Some c.as_slice.result.now) c.requires.valid c.requires.of_files
    (ap (λ b. Some b) c.as_slice.ensures ∙ c.in-Some.ensures)
