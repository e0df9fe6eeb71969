use denote.Ref.{Bor}
use Rattle.std.proofs.Common.{◌+◌, IsTrue, length, inl, subst}
use Rattle.std.specs.Prelude.{IfOk, option_map}
use Rattle.disk_model.specs.declared.place.Place.{Place}
use Rattle.disk_model.specs.Frame.{Spares}
use Rattle.disk_model.specs.Laws.{elapses_on}
use Rattle.disk_model.specs.Medium.{EachCase, Quiet}
use Rattle.disk_model.specs.Place.{IsNoSlot}
use Rattle.guarded_cell.specs.Cells.{IsCellOf, generation_of}
use Rattle.guarded_cell.specs.Stops.{PutStops}
use Rattle.root_text.specs.declared.versions.VersionText.{VersionText}
use Rattle.root_text.specs.RootText.{root_text}
use Rattle.root_text.specs.RootText as text
use Rattle.root_text.specs.Views.{version_said}
use Rattle.deploy.specs.Next.{root_before}
use Rattle.deploy.proofs.InUse.{cell_alone}
use Rattle.deploy.proofs.MadePlaces.{both_written, made_places, rooted_places, some_more}
use Rattle.deploy.proofs.MadeStorages.{outside_rest}
use Rattle.deploy.proofs.NextVersion.{app_after, clean_after, if_behind, leaves_making, leaves_next, leaves_writing}
use Rattle.deploy.proofs.NextVersion.{on_written, root_kept, stands_making, stands_written}
use Rattle.deploy.proofs.RootLast.{last_made}
use Rattle.deploy.proofs.RootLens.{placed_cost}
use Rattle.deploy.proofs.installing.make_version.Goals as goal

pub returns-in_err-create_rest-clause-outside : goal.returns-in_err-create_rest-clause-outside
returns-in_err-create_rest-clause-outside g c = leaves_making g.D.Disk.told c.args.app c.args.bank c.args.built
    (length c.args.contents.now) (g.D.Disk.medium c.args.disk.now) (g.D.Disk.medium c.create_rest.new.disk)
    c.in_err-create_rest.ensures.outside

pub returns-in_err-create_rest-clause-any_moment : goal.returns-in_err-create_rest-clause-any_moment
returns-in_err-create_rest-clause-any_moment g c = stands_making c.one_root.ensures.again c.roots_say.ensures.alone
    c.args.app (generation_of c.args.cell) c.args.bank (version_said c.args.version.now)
    (option_map (λ (v : Bor VersionText). version_said v.now) c.args.previous) c.args.contents.now c.requires.app
    c.requires.bank c.requires.version.said (if_behind c.args.previous c.requires.previous)
    c.deploying_stands.ensures.creating g.D.Disk.told (g.D.Disk.medium c.args.disk.now)
    (g.D.Disk.medium c.create_rest.new.disk) (outside_rest g.D.Disk.told c.args.app c.args.bank c.args.built
    c.args.version.now.deployment c.args.contents.now (g.D.Disk.medium c.args.disk.now)
    (g.D.Disk.medium c.create_rest.new.disk) c.requires.version.keeps c.requires.fit
    c.in_err-create_rest.ensures.outside)
    (λ tells. cell_alone (g.D.Disk.medium c.args.disk.now).image c.args.app c.args.cell
    (root_text (root_before c.args.bank (option_map (λ (v : Bor VersionText). version_said v.now)
    c.args.previous))) c.requires.cell.place (c.requires.held tells))

pub returns-clause-outside : goal.returns-clause-outside
returns-clause-outside g c = leaves_next g.D.Disk.told c.args.app c.args.bank c.args.built (length c.args.contents.now)
    (g.D.Disk.medium c.args.disk.now) (g.D.Disk.medium c.create_rest.new.disk)
    (g.D.Disk.medium c.write_version.new.disk)
    c.in_ok-create_rest.ensures.time c.write_version.ensures.time c.in_ok-create_rest.ensures.quiet
    c.in_ok-create_rest.ensures.outside
    (leaves_writing g.D.Disk.told c.args.app (generation_of c.args.cell + 1)
    (root_text (text.installed c.args.bank (version_said c.args.version.now)
    (option_map (λ (v : Bor VersionText). version_said v.now) c.args.previous)))
    (g.D.Disk.medium c.create_rest.new.disk) (g.D.Disk.medium c.write_version.new.disk)
    (subst (λ (p : Place). IsTrue g.D.Disk.told → Spares (IsNoSlot p)
    (g.D.Disk.medium c.create_rest.new.disk).image (g.D.Disk.medium c.write_version.new.disk).image)
    c.requires.cell.place c.write_version.ensures.elsewhere)
    (subst (λ (p : Place). IsTrue g.D.Disk.told → Quiet (g.D.Disk.medium c.create_rest.new.disk)
    → EachCase (PutStops p (generation_of c.args.cell + 1)
    (root_text (text.installed c.args.bank (version_said c.args.version.now)
    (option_map (λ (v : Bor VersionText). version_said v.now) c.args.previous)))
    (g.D.Disk.medium c.create_rest.new.disk).image) (g.D.Disk.medium c.create_rest.new.disk)
    (g.D.Disk.medium c.write_version.new.disk)) c.requires.cell.place c.write_version.ensures.any_moment))

pub returns-clause-any_moment : goal.returns-clause-any_moment
returns-clause-any_moment g c = stands_written c.one_root.ensures.again c.roots_say.ensures.alone c.args.app
    (generation_of c.args.cell) c.args.bank (version_said c.args.version.now)
    (option_map (λ (v : Bor VersionText). version_said v.now) c.args.previous) c.args.contents.now c.requires.app
    c.requires.bank c.requires.version.said (if_behind c.args.previous c.requires.previous)
    c.deploying_stands.ensures.creating g.D.Disk.told (g.D.Disk.medium c.args.disk.now)
    (g.D.Disk.medium c.create_rest.new.disk) (outside_rest g.D.Disk.told c.args.app c.args.bank c.args.built
    c.args.version.now.deployment c.args.contents.now (g.D.Disk.medium c.args.disk.now)
    (g.D.Disk.medium c.create_rest.new.disk) c.requires.version.keeps c.requires.fit
    c.in_ok-create_rest.ensures.outside)
    (λ tells. cell_alone (g.D.Disk.medium c.args.disk.now).image c.args.app c.args.cell
    (root_text (root_before c.args.bank (option_map (λ (v : Bor VersionText). version_said v.now)
    c.args.previous))) c.requires.cell.place (c.requires.held tells))
    c.roots_say.ensures.held c.files_lie_apart.ensures.root c.others_stand.ensures.free_bank
    c.deploying_stands.ensures.writing (g.D.Disk.medium c.write_version.new.disk)
    c.in_ok-create_rest.ensures.time c.write_version.ensures.time c.in_ok-create_rest.ensures.quiet c.requires.fit
    c.in_ok-create_rest.ensures.made
    (subst (λ (p : Place). IsTrue g.D.Disk.told → Quiet (g.D.Disk.medium c.create_rest.new.disk)
    → EachCase (PutStops p (generation_of c.args.cell + 1)
    (root_text (text.installed c.args.bank (version_said c.args.version.now)
    (option_map (λ (v : Bor VersionText). version_said v.now) c.args.previous)))
    (g.D.Disk.medium c.create_rest.new.disk).image) (g.D.Disk.medium c.create_rest.new.disk)
    (g.D.Disk.medium c.write_version.new.disk)) c.requires.cell.place c.write_version.ensures.any_moment)

pub returns-clause-next : goal.returns-clause-next
returns-clause-next g c = (subst (λ (p : Place). IfOk c.write_version.result
    (IsCellOf p (generation_of c.args.cell + 1))) c.requires.cell.place c.write_version.ensures.next)

pub returns-clause-app : goal.returns-clause-app
returns-clause-app g c = λ tells. on_written c.write_version.result _ (g.D.Disk.medium c.write_version.new.disk).image
    c.args.app (generation_of c.args.cell + 1) (root_text
    (text.installed c.args.bank (version_said c.args.version.now)
    (option_map (λ (v : Bor VersionText). version_said v.now) c.args.previous)))
    (subst (λ (p : Place). IfOk c.write_version.result (IsCellOf p (generation_of c.args.cell + 1)))
    c.requires.cell.place c.write_version.ensures.next) (c.write_version.ensures.held tells)
    (λ now. app_after c.one_root.ensures.again c.roots_say.ensures.alone c.args.app (generation_of c.args.cell)
    c.args.bank (version_said c.args.version.now) (option_map (λ (v : Bor VersionText). version_said v.now)
    c.args.previous) c.args.contents.now c.requires.app c.requires.bank c.requires.version.said
    (if_behind c.args.previous c.requires.previous) c.roots_say.ensures.held c.files_lie_apart.ensures.root
    c.others_stand.ensures.free_bank
    (g.D.Disk.medium c.args.disk.now).image (g.D.Disk.medium c.create_rest.new.disk).image
    (cell_alone (g.D.Disk.medium c.args.disk.now).image c.args.app c.args.cell
    (root_text (root_before c.args.bank (option_map (λ (v : Bor VersionText). version_said v.now)
    c.args.previous))) c.requires.cell.place (c.requires.held tells))
    ((outside_rest g.D.Disk.told c.args.app c.args.bank c.args.built c.args.version.now.deployment
    c.args.contents.now (g.D.Disk.medium c.args.disk.now) (g.D.Disk.medium c.create_rest.new.disk)
    c.requires.version.keeps c.requires.fit c.in_ok-create_rest.ensures.outside).at_the_end tells)
    c.requires.fit (c.in_ok-create_rest.ensures.made tells)
    c.roots_say.ensures.versions c.files_lie_apart.ensures.slots c.others_stand.ensures.root c.roots_say.ensures.clean
    (g.D.Disk.medium c.write_version.new.disk).image ((subst
    (λ (p : Place). IsTrue g.D.Disk.told → Spares (IsNoSlot p)
    (g.D.Disk.medium c.create_rest.new.disk).image (g.D.Disk.medium c.write_version.new.disk).image)
    c.requires.cell.place c.write_version.ensures.elsewhere) tells) now)

pub returns-clause-clean : goal.returns-clause-clean
returns-clause-clean g c = λ tells were. on_written c.write_version.result _
    (g.D.Disk.medium c.write_version.new.disk).image c.args.app (generation_of c.args.cell + 1)
    (root_text (text.installed c.args.bank (version_said c.args.version.now)
    (option_map (λ (v : Bor VersionText). version_said v.now) c.args.previous)))
    (subst (λ (p : Place). IfOk c.write_version.result (IsCellOf p (generation_of c.args.cell + 1)))
    c.requires.cell.place c.write_version.ensures.next) (c.write_version.ensures.held tells)
    (λ now. clean_after c.one_root.ensures.again c.roots_say.ensures.alone c.args.app (generation_of c.args.cell)
    c.args.bank (version_said c.args.version.now) (option_map (λ (v : Bor VersionText). version_said v.now)
    c.args.previous) c.args.contents.now c.requires.app c.requires.bank c.requires.version.said
    (if_behind c.args.previous c.requires.previous) c.roots_say.ensures.held c.files_lie_apart.ensures.root
    c.others_stand.ensures.free_bank
    (g.D.Disk.medium c.args.disk.now).image (g.D.Disk.medium c.create_rest.new.disk).image
    (cell_alone (g.D.Disk.medium c.args.disk.now).image c.args.app c.args.cell
    (root_text (root_before c.args.bank (option_map (λ (v : Bor VersionText). version_said v.now)
    c.args.previous))) c.requires.cell.place (c.requires.held tells))
    ((outside_rest g.D.Disk.told c.args.app c.args.bank c.args.built c.args.version.now.deployment
    c.args.contents.now (g.D.Disk.medium c.args.disk.now) (g.D.Disk.medium c.create_rest.new.disk)
    c.requires.version.keeps c.requires.fit c.in_ok-create_rest.ensures.outside).at_the_end tells)
    c.requires.fit (c.in_ok-create_rest.ensures.made tells)
    c.roots_say.ensures.versions c.files_lie_apart.ensures.slots c.others_stand.ensures.root c.roots_say.ensures.clean
    (g.D.Disk.medium c.write_version.new.disk).image ((subst
    (λ (p : Place). IsTrue g.D.Disk.told → Spares (IsNoSlot p)
    (g.D.Disk.medium c.create_rest.new.disk).image (g.D.Disk.medium c.write_version.new.disk).image)
    c.requires.cell.place c.write_version.ensures.elsewhere) tells) now were)

pub returns-clause-time : goal.returns-clause-time
returns-clause-time g c = elapses_on c.in_ok-create_rest.ensures.time c.write_version.ensures.time

pub write_version-requires-clause-held : goal.write_version-requires-clause-held
write_version-requires-clause-held g c = λ tells. (
  root_text (root_before c.args.bank (option_map (λ (v : Bor VersionText). version_said v.now) c.args.previous)),
  root_kept c.roots_say.ensures.held c.files_lie_apart.ensures.root c.args.app c.args.bank
      (g.D.Disk.medium c.args.disk.now).image (g.D.Disk.medium c.create_rest.new.disk).image c.args.cell _
      c.requires.app
      ((outside_rest g.D.Disk.told c.args.app c.args.bank c.args.built c.args.version.now.deployment c.args.contents.now
      (g.D.Disk.medium c.args.disk.now) (g.D.Disk.medium c.create_rest.new.disk) c.requires.version.keeps
      c.requires.fit c.in_ok-create_rest.ensures.outside).at_the_end tells) c.requires.cell.place
      (c.requires.held tells),
)

pub returns-in_err-create_rest-clause-places : goal.returns-in_err-create_rest-clause-places
returns-in_err-create_rest-clause-places g c = made_places g.D.Disk.told c.args.app _ (g.D.Disk.medium c.args.disk.now)
    (g.D.Disk.medium c.create_rest.new.disk) c.in_err-create_rest.ensures.places

pub returns-in_err-create_rest-clause-written : goal.returns-in_err-create_rest-clause-written
returns-in_err-create_rest-clause-written g c = some_more _ _ _ _ c.in_err-create_rest.ensures.written

pub returns-clause-places : goal.returns-clause-places
returns-clause-places g c = rooted_places g.D.Disk.told c.args.app _ (g.D.Disk.medium c.args.disk.now)
    (g.D.Disk.medium c.create_rest.new.disk) (g.D.Disk.medium c.write_version.new.disk)
    c.in_ok-create_rest.ensures.time c.write_version.ensures.time c.in_ok-create_rest.ensures.quiet
    c.in_ok-create_rest.ensures.places
    (leaves_writing g.D.Disk.told c.args.app (generation_of c.args.cell + 1)
    (root_text (text.installed c.args.bank (version_said c.args.version.now)
    (option_map (λ (v : Bor VersionText). version_said v.now) c.args.previous)))
    (g.D.Disk.medium c.create_rest.new.disk) (g.D.Disk.medium c.write_version.new.disk)
    (subst (λ (p : Place). IsTrue g.D.Disk.told → Spares (IsNoSlot p)
    (g.D.Disk.medium c.create_rest.new.disk).image (g.D.Disk.medium c.write_version.new.disk).image)
    c.requires.cell.place c.write_version.ensures.elsewhere)
    (subst (λ (p : Place). IsTrue g.D.Disk.told → Quiet (g.D.Disk.medium c.create_rest.new.disk)
    → EachCase (PutStops p (generation_of c.args.cell + 1)
    (root_text (text.installed c.args.bank (version_said c.args.version.now)
    (option_map (λ (v : Bor VersionText). version_said v.now) c.args.previous)))
    (g.D.Disk.medium c.create_rest.new.disk).image) (g.D.Disk.medium c.create_rest.new.disk)
    (g.D.Disk.medium c.write_version.new.disk)) c.requires.cell.place c.write_version.ensures.any_moment))

pub returns-clause-written : goal.returns-clause-written
returns-clause-written g c = both_written _ _ _ _ _ c.in_ok-create_rest.ensures.written
    (placed_cost _ c.args.app _ _ _ c.requires.cell.place c.write_version.ensures.written)

pub returns-in_err-create_rest-clause-last : goal.returns-in_err-create_rest-clause-last
returns-in_err-create_rest-clause-last g c = last_made g.D.Disk.medium g.D.Disk.told c.args.app _ c.args.disk.now
    c.create_rest.new.disk (g.met.D.Disk.lawful c.create_rest.new.disk) c.in_err-create_rest.ensures.places
    c.in_err-create_rest.ensures.written c.in_err-create_rest.ensures.time

pub returns-clause-last : goal.returns-clause-last
returns-clause-last g c = record {
  made = c.create_rest.new.disk;
  storages = c.in_ok-create_rest.ensures.places;
  costs = c.in_ok-create_rest.ensures.written;
  before = c.in_ok-create_rest.ensures.time;
  durable = inl c.in_ok-create_rest.ensures.quiet;
  root = leaves_writing g.D.Disk.told c.args.app (generation_of c.args.cell + 1)
      (root_text (text.installed c.args.bank (version_said c.args.version.now)
      (option_map (λ (v : Bor VersionText). version_said v.now) c.args.previous)))
      (g.D.Disk.medium c.create_rest.new.disk) (g.D.Disk.medium c.write_version.new.disk)
      (subst (λ (p : Place). IsTrue g.D.Disk.told → Spares (IsNoSlot p)
      (g.D.Disk.medium c.create_rest.new.disk).image (g.D.Disk.medium c.write_version.new.disk).image)
      c.requires.cell.place c.write_version.ensures.elsewhere)
      (subst (λ (p : Place). IsTrue g.D.Disk.told → Quiet (g.D.Disk.medium c.create_rest.new.disk)
      → EachCase (PutStops p (generation_of c.args.cell + 1)
      (root_text (text.installed c.args.bank (version_said c.args.version.now)
      (option_map (λ (v : Bor VersionText). version_said v.now) c.args.previous)))
      (g.D.Disk.medium c.create_rest.new.disk).image) (g.D.Disk.medium c.create_rest.new.disk)
      (g.D.Disk.medium c.write_version.new.disk)) c.requires.cell.place c.write_version.ensures.any_moment);
  once = placed_cost _ c.args.app _ _ _ c.requires.cell.place c.write_version.ensures.written;
  after = c.write_version.ensures.time;
}
