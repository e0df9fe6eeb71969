use Rattle.std.proofs.Common.{◌≡◌, Some}
use Rattle.std.specs.Prelude.{option_map}
use Rattle.element_state.specs.States.{State}
use Rattle.deploy_rows.specs.Recovering.{if_contents_fit}
use Rattle.export_text.specs.declared.exports.Export.{Export}
use Rattle.export_text.specs.Exports.{export_of}
use Rattle.per_backup.specs.Backups.{importing}
use Rattle.per_backup.specs.Finding.{IsLocatedAs, IsMissingStorage, config_of}
use Rattle.per_backup.proofs.ImportCosts.{import_within, nothing_within}
use Rattle.per_backup.proofs.Lists.{err_so, ok_so}
use Rattle.per_backup.proofs.Nothing.{IsRefusedRow, early_refuses, missing_refuses, nothing_imported, nothing_keeps}
use Rattle.per_backup.proofs.Nothing.{refuses_answers, refuses_there}
use Rattle.per_backup.proofs.Replaced.{replaced_answers, replaced_imported, replaced_keeps, replaced_unchanged}
use Rattle.per_backup.proofs.importing.import_synced.Goals as goal

pub returns-in_err-located-clause-keeps : goal.returns-in_err-located-clause-keeps
returns-in_err-located-clause-keeps g c = λ tells. nothing_keeps c.storages_stand.ensures c.args.app c.requires
    c.args.name.now c.args.bytes.now (g.D.Disk.medium c.args.disk.now) (g.D.Disk.medium c.find.new.disk)
    (record {
      image = c.in_err-located.ensures.image;
      written = c.in_err-located.ensures.written;
      idle =
          c.in_err-located.ensures.idle;
    })

-- there is no such storage

pub returns-in-Err-clause-refused : goal.returns-in-Err-clause-refused
returns-in-Err-clause-refused g c = refuses_answers g.D.Disk.told (g.D.Disk.medium c.args.disk.now).image c.args.app
    c.args.name.now c.args.bytes.now c.in-Err.error (missing_refuses g.D.Disk.told
    (g.D.Disk.medium c.args.disk.now).image c.args.app c.args.name.now c.args.bytes.now c.in-Err.error
    (err_so c.in_ok-located.field-0 c.in-Err.error (IsMissingStorage g.D.Disk.told
    (g.D.Disk.medium c.args.disk.now).image
    c.args.app c.args.name.now) c.in-Err.is c.in_ok-located.ensures.missing))

pub returns-in-Err-clause-imported : goal.returns-in-Err-clause-imported
returns-in-Err-clause-imported g c = λ tells. nothing_imported c.storages_stand.ensures c.args.app c.requires
    c.args.name.now c.args.bytes.now (g.D.Disk.medium c.args.disk.now) (g.D.Disk.medium c.find.new.disk)
    (record {
      image = c.in_ok-located.ensures.image;
      written = c.in_ok-located.ensures.written;
      idle =
          c.in_ok-located.ensures.idle;
    }) c.in-Err.error
    (refuses_there g.D.Disk.told (g.D.Disk.medium c.args.disk.now).image c.args.app c.args.name.now c.args.bytes.now
    c.in-Err.error (missing_refuses g.D.Disk.told (g.D.Disk.medium c.args.disk.now).image c.args.app
    c.args.name.now c.args.bytes.now c.in-Err.error (err_so c.in_ok-located.field-0 c.in-Err.error
    (IsMissingStorage g.D.Disk.told (g.D.Disk.medium c.args.disk.now).image c.args.app c.args.name.now) c.in-Err.is
    c.in_ok-located.ensures.missing)) tells)

pub returns-in-Err-clause-keeps : goal.returns-in-Err-clause-keeps
returns-in-Err-clause-keeps g c = λ tells. nothing_keeps c.storages_stand.ensures c.args.app c.requires c.args.name.now
    c.args.bytes.now (g.D.Disk.medium c.args.disk.now) (g.D.Disk.medium c.find.new.disk)
    (record {
      image = c.in_ok-located.ensures.image;
      written = c.in_ok-located.ensures.written;
      idle =
          c.in_ok-located.ensures.idle;
    })

-- the text is none for it

pub returns-in_err-contents-clause-keeps : goal.returns-in_err-contents-clause-keeps
returns-in_err-contents-clause-keeps g c = λ tells. nothing_keeps c.storages_stand.ensures c.args.app c.requires
    c.args.name.now c.args.bytes.now (g.D.Disk.medium c.args.disk.now) (g.D.Disk.medium c.find.new.disk)
    (record {
      image = c.in_ok-located.ensures.image;
      written = c.in_ok-located.ensures.written;
      idle =
          c.in_ok-located.ensures.idle;
    })

pub returns-in-Err-2-clause-refused : goal.returns-in-Err-2-clause-refused
returns-in-Err-2-clause-refused g c = refuses_answers g.D.Disk.told (g.D.Disk.medium c.args.disk.now).image c.args.app
    c.args.name.now c.args.bytes.now c.in-Err-2.error (early_refuses g.D.Disk.told
    (g.D.Disk.medium c.args.disk.now).image c.args.app c.args.name.now c.args.bytes.now c.in-Err-2.error
    c.in-Ok.located (ok_so c.in_ok-located.field-0 c.in-Ok.located
    (IsLocatedAs g.D.Disk.told (g.D.Disk.medium c.args.disk.now).image c.args.app c.args.name.now) c.in-Ok.is
    c.in_ok-located.ensures.located) (err_so c.in_ok-contents.field-0 c.in-Err-2.error
    (IsRefusedRow (config_of c.in-Ok.located) c.args.bytes.now) c.in-Err-2.is c.in_ok-contents.ensures.refused))

pub returns-in-Err-2-clause-imported : goal.returns-in-Err-2-clause-imported
returns-in-Err-2-clause-imported g c = λ tells. nothing_imported c.storages_stand.ensures c.args.app c.requires
    c.args.name.now c.args.bytes.now (g.D.Disk.medium c.args.disk.now) (g.D.Disk.medium c.find.new.disk)
    (record {
      image = c.in_ok-located.ensures.image;
      written = c.in_ok-located.ensures.written;
      idle =
          c.in_ok-located.ensures.idle;
    }) c.in-Err-2.error
    (refuses_there g.D.Disk.told (g.D.Disk.medium c.args.disk.now).image c.args.app c.args.name.now c.args.bytes.now
    c.in-Err-2.error (early_refuses g.D.Disk.told (g.D.Disk.medium c.args.disk.now).image c.args.app
    c.args.name.now c.args.bytes.now c.in-Err-2.error c.in-Ok.located
    (ok_so c.in_ok-located.field-0 c.in-Ok.located (IsLocatedAs g.D.Disk.told
    (g.D.Disk.medium c.args.disk.now).image c.args.app c.args.name.now) c.in-Ok.is
    c.in_ok-located.ensures.located) (err_so c.in_ok-contents.field-0 c.in-Err-2.error
    (IsRefusedRow (config_of c.in-Ok.located) c.args.bytes.now) c.in-Err-2.is
    c.in_ok-contents.ensures.refused)) tells)

pub returns-in-Err-2-clause-keeps : goal.returns-in-Err-2-clause-keeps
returns-in-Err-2-clause-keeps g c = λ tells. nothing_keeps c.storages_stand.ensures c.args.app c.requires
    c.args.name.now c.args.bytes.now (g.D.Disk.medium c.args.disk.now) (g.D.Disk.medium c.find.new.disk)
    (record {
      image = c.in_ok-located.ensures.image;
      written = c.in_ok-located.ensures.written;
      idle =
          c.in_ok-located.ensures.idle;
    })

-- it is rebuilt

pub returns-clause-refused : goal.returns-clause-refused
returns-clause-refused g c = replaced_answers c.storages_stand.ensures g.D.Disk.told c.args.app c.requires
    c.args.name.now c.args.bytes.now c.in-Ok.located c.in-Ok-2.contents.items
    (ok_so c.in_ok-contents.field-0 c.in-Ok-2.contents (λ fs. (state : State)
    → importing (config_of c.in-Ok.located) state c.args.bytes.now
    ≡ if_contents_fit (config_of c.in-Ok.located) state fs.items) c.in-Ok-2.is c.in_ok-contents.ensures.row)
    (g.D.Disk.medium c.args.disk.now) (g.D.Disk.medium c.find.new.disk) (g.D.Disk.medium c.replace_contents.new.disk)
    c.in_ok-located.ensures.time (record {
      image = c.in_ok-located.ensures.image;
      written =
          c.in_ok-located.ensures.written;
      idle = c.in_ok-located.ensures.idle;
    }) c.replace_contents.ensures.time
    (ok_so c.in_ok-located.field-0 c.in-Ok.located (IsLocatedAs g.D.Disk.told (g.D.Disk.medium c.args.disk.now).image
    c.args.app c.args.name.now) c.in-Ok.is c.in_ok-located.ensures.located) c.replace_contents.result
    (record {
      refused = c.replace_contents.ensures.refused;
      state = c.replace_contents.ensures.state;
      unchanged =
          c.replace_contents.ensures.unchanged;
      stays = c.replace_contents.ensures.stays;
      clean =
          c.replace_contents.ensures.clean;
      outside = c.replace_contents.ensures.outside;
      any_moment =
          c.replace_contents.ensures.any_moment;
    })

pub returns-clause-unchanged : goal.returns-clause-unchanged
returns-clause-unchanged g c = replaced_unchanged c.storages_stand.ensures g.D.Disk.told c.args.app c.requires
    c.args.name.now c.args.bytes.now c.in-Ok.located c.in-Ok-2.contents.items
    (ok_so c.in_ok-contents.field-0 c.in-Ok-2.contents (λ fs. (state : State)
    → importing (config_of c.in-Ok.located) state c.args.bytes.now
    ≡ if_contents_fit (config_of c.in-Ok.located) state fs.items) c.in-Ok-2.is c.in_ok-contents.ensures.row)
    (g.D.Disk.medium c.args.disk.now) (g.D.Disk.medium c.find.new.disk) (g.D.Disk.medium c.replace_contents.new.disk)
    c.in_ok-located.ensures.time (record {
      image = c.in_ok-located.ensures.image;
      written =
          c.in_ok-located.ensures.written;
      idle = c.in_ok-located.ensures.idle;
    }) c.replace_contents.ensures.time
    (ok_so c.in_ok-located.field-0 c.in-Ok.located (IsLocatedAs g.D.Disk.told (g.D.Disk.medium c.args.disk.now).image
    c.args.app c.args.name.now) c.in-Ok.is c.in_ok-located.ensures.located) c.replace_contents.result
    (record {
      refused = c.replace_contents.ensures.refused;
      state = c.replace_contents.ensures.state;
      unchanged =
          c.replace_contents.ensures.unchanged;
      stays = c.replace_contents.ensures.stays;
      clean =
          c.replace_contents.ensures.clean;
      outside = c.replace_contents.ensures.outside;
      any_moment =
          c.replace_contents.ensures.any_moment;
    })

pub returns-clause-imported : goal.returns-clause-imported
returns-clause-imported g c = λ tells. replaced_imported c.storages_stand.ensures g.D.Disk.told c.args.app c.requires
    c.args.name.now c.args.bytes.now c.in-Ok.located c.in-Ok-2.contents.items
    (ok_so c.in_ok-contents.field-0 c.in-Ok-2.contents (λ fs. (state : State)
    → importing (config_of c.in-Ok.located) state c.args.bytes.now
    ≡ if_contents_fit (config_of c.in-Ok.located) state fs.items) c.in-Ok-2.is c.in_ok-contents.ensures.row)
    (g.D.Disk.medium c.args.disk.now) (g.D.Disk.medium c.find.new.disk) (g.D.Disk.medium c.replace_contents.new.disk)
    c.in_ok-located.ensures.time (record {
      image = c.in_ok-located.ensures.image;
      written =
          c.in_ok-located.ensures.written;
      idle = c.in_ok-located.ensures.idle;
    }) c.replace_contents.ensures.time
    (ok_so c.in_ok-located.field-0 c.in-Ok.located (IsLocatedAs g.D.Disk.told (g.D.Disk.medium c.args.disk.now).image
    c.args.app c.args.name.now) c.in-Ok.is c.in_ok-located.ensures.located) c.replace_contents.result
    (record {
      refused = c.replace_contents.ensures.refused;
      state = c.replace_contents.ensures.state;
      unchanged =
          c.replace_contents.ensures.unchanged;
      stays = c.replace_contents.ensures.stays;
      clean =
          c.replace_contents.ensures.clean;
      outside = c.replace_contents.ensures.outside;
      any_moment =
          c.replace_contents.ensures.any_moment;
    }) tells

pub returns-clause-keeps : goal.returns-clause-keeps
returns-clause-keeps g c = λ tells. replaced_keeps c.storages_stand.ensures g.D.Disk.told c.args.app c.requires
    c.args.name.now c.args.bytes.now c.in-Ok.located c.in-Ok-2.contents.items
    (ok_so c.in_ok-contents.field-0 c.in-Ok-2.contents (λ fs. (state : State)
    → importing (config_of c.in-Ok.located) state c.args.bytes.now
    ≡ if_contents_fit (config_of c.in-Ok.located) state fs.items) c.in-Ok-2.is c.in_ok-contents.ensures.row)
    (g.D.Disk.medium c.args.disk.now) (g.D.Disk.medium c.find.new.disk) (g.D.Disk.medium c.replace_contents.new.disk)
    c.in_ok-located.ensures.time (record {
      image = c.in_ok-located.ensures.image;
      written =
          c.in_ok-located.ensures.written;
      idle = c.in_ok-located.ensures.idle;
    }) c.replace_contents.ensures.time
    (ok_so c.in_ok-located.field-0 c.in-Ok.located (IsLocatedAs g.D.Disk.told (g.D.Disk.medium c.args.disk.now).image
    c.args.app c.args.name.now) c.in-Ok.is c.in_ok-located.ensures.located) c.replace_contents.result
    (record {
      refused = c.replace_contents.ensures.refused;
      state = c.replace_contents.ensures.state;
      unchanged =
          c.replace_contents.ensures.unchanged;
      stays = c.replace_contents.ensures.stays;
      clean =
          c.replace_contents.ensures.clean;
      outside = c.replace_contents.ensures.outside;
      any_moment =
          c.replace_contents.ensures.any_moment;
    }) tells

-- what was written

pub returns-in_err-located-clause-written : goal.returns-in_err-located-clause-written
returns-in_err-located-clause-written g c = λ tells. nothing_within c.args.app c.args.name.now c.args.bytes.now
    (g.D.Disk.medium c.args.disk.now) (g.D.Disk.medium c.find.new.disk) c.in_err-located.ensures.written

pub returns-in-Err-clause-written : goal.returns-in-Err-clause-written
returns-in-Err-clause-written g c = λ tells. nothing_within c.args.app c.args.name.now c.args.bytes.now
    (g.D.Disk.medium c.args.disk.now) (g.D.Disk.medium c.find.new.disk) c.in_ok-located.ensures.written

pub returns-in_err-contents-clause-written : goal.returns-in_err-contents-clause-written
returns-in_err-contents-clause-written g c = λ tells. nothing_within c.args.app c.args.name.now c.args.bytes.now
    (g.D.Disk.medium c.args.disk.now) (g.D.Disk.medium c.find.new.disk) c.in_ok-located.ensures.written

pub returns-in-Err-2-clause-written : goal.returns-in-Err-2-clause-written
returns-in-Err-2-clause-written g c = λ tells. nothing_within c.args.app c.args.name.now c.args.bytes.now
    (g.D.Disk.medium c.args.disk.now) (g.D.Disk.medium c.find.new.disk) c.in_ok-located.ensures.written

pub returns-clause-written : goal.returns-clause-written
returns-clause-written g c = import_within g.D.Disk.told c.args.app c.args.name.now c.args.bytes.now
    (g.D.Disk.medium c.args.disk.now) (g.D.Disk.medium c.find.new.disk) (g.D.Disk.medium c.replace_contents.new.disk)
    c.in-Ok.located c.in-Ok-2.contents.items
    (ok_so c.in_ok-located.field-0 c.in-Ok.located (IsLocatedAs g.D.Disk.told (g.D.Disk.medium c.args.disk.now).image
    c.args.app c.args.name.now) c.in-Ok.is c.in_ok-located.ensures.located) c.in_ok-located.ensures.written
    (ok_so c.in_ok-contents.field-0 c.in-Ok-2.contents (λ fs. option_map (λ (x : Export). x.contents)
    (export_of c.args.bytes.now) ≡ Some fs.items) c.in-Ok-2.is c.in_ok-contents.ensures.spelled)
    c.replace_contents.ensures.written
