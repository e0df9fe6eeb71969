use Rattle.deployment_model.specs.Data.{storage_data}
use Rattle.open_storages.proofs.Opened.{opened_files}
use Rattle.open_storages.proofs.opening.open_file_storage.Goals as goal

pub returns-in-Ok-clause-opened : goal.returns-in-Ok-clause-opened
returns-in-Ok-clause-opened g c = λ tells. opened_files g.D.Disk.told tells (g.D.Disk.medium c.args.disk.now).image
    c.args.shape (storage_data c.args.config.now) c.in-Ok.field-0
    c.views_are_maps.ensures.untested c.requires.configured.of_kind c.in-Ok.ensures.opened c.in-Ok.ensures.session
