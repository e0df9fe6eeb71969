use Rattle.std.proofs.Common.{◌-◌, List, length, get_or, refl, ap, sym, ◌∙◌, arith}
use Rattle.per_base.specs.declared.elements.Fresh.{Fresh}
use Rattle.deployment_model.specs.declared.configs.StorageConfig.{StorageConfig}
use Rattle.deploy_laws.specs.Apps.{app_at}
use Rattle.deploy_laws.specs.Places.{IsBeside}
use Rattle.deploy_laws.specs.Stands.{same_root}
use Rattle.deploy.proofs.Leaves.{leaves_none}
use Rattle.deploy.proofs.MadePlaces.{one_place, one_written}
use Rattle.deploy.proofs.RootLens.{none_written}
use Rattle.deploy.proofs.MadeStorages.{storage_fits, storage_keeps}
use Rattle.deploy.proofs.StagedMore.{app_same, clean_same, few_storages, outside_bank, staged_more, stands_same}
use Rattle.deploy.proofs.Unmoved.{stands_still}
use Rattle.deploy.proofs.updating.Staged.next_storage.Goals as goal

pub returns-then-self-len-clause-any_moment : goal.returns-then-self-len-clause-any_moment
returns-then-self-len-clause-any_moment g c = λ tells.
    stands_still c.untouched_stands.ensures.still g.D.Disk.told c.args.self.app (g.D.Disk.medium c.args.disk.now)
    (app_at (g.D.Disk.medium c.args.disk.now).image c.args.self.app)
    (g.met.D.Disk.lawful c.args.disk.now) c.requires.staged.memory.below (same_root refl refl)

pub returns-then-self-len-clause-outside : goal.returns-then-self-len-clause-outside
returns-then-self-len-clause-outside g c = leaves_none g.D.Disk.told
    (IsBeside c.args.self.app (1 - c.args.self.root.bank) c.args.self.built) (g.D.Disk.medium c.args.disk.now)
    (g.met.D.Disk.lawful c.args.disk.now)

pub bounds-as_slice-self : goal.bounds-as_slice-self
bounds-as_slice-self g c =
    let many = (few_storages c.args.self.app c.args.self c.requires.staged.memory).1 in
    let same = ap length c.as_slice.ensures in
    omega (arith, many, same)

pub create_one-requires-clause-number : goal.create_one-requires-clause-number
create_one-requires-clause-number g c =
    let few = (few_storages c.args.self.app c.args.self c.requires.staged.memory).0 in
    omega (arith, few)

pub create_one-requires-clause-config : goal.create_one-requires-clause-config
create_one-requires-clause-config g c =
    let many = (few_storages c.args.self.app c.args.self c.requires.staged.memory).1 in
    storage_keeps c.args.self.version.deployment.storages c.args.self.built c.index-as_slice-self.result
    c.requires.staged.memory.offers.keeps.each (omega (arith, many))
    (c.index-as_slice-self.is ∙ ap (λ (xs : List StorageConfig).
    get_or xs c.args.self.built c.index-as_slice-self.result) c.as_slice.ensures)

pub create_one-requires-clause-contents : goal.create_one-requires-clause-contents
create_one-requires-clause-contents g c =
    let many = (few_storages c.args.self.app c.args.self c.requires.staged.memory).1 in
    storage_fits c.args.self.version.deployment.storages c.args.self.contents.items c.args.self.built
    c.index-as_slice-self.result c.as_slice-2.result.now c.requires.staged.memory.fit (omega (arith, many))
    (c.index-as_slice-self.is ∙ ap (λ (xs : List StorageConfig).
    get_or xs c.args.self.built c.index-as_slice-self.result) c.as_slice.ensures)
    (c.as_slice-2.ensures ∙ c.index.ensures ∙ ap (λ (d : List Fresh).
    get_or c.args.self.contents.items c.args.self.built d) (sym c.as_slice-2.ensures))

pub overflow_add-staged : goal.overflow_add-staged
overflow_add-staged g c =
    let few = (few_storages c.args.self.app c.args.self c.requires.staged.memory).0 in
    omega (arith, few)

pub returns-in_err-create_one-clause-app : goal.returns-in_err-create_one-clause-app
returns-in_err-create_one-clause-app g c = app_same c.args.self.app c.args.self c.requires.staged.memory
    c.one_root.ensures.again c.roots_say.ensures.alone g.D.Disk.told (g.D.Disk.medium c.args.disk.now).image
    c.requires.staged.root_on c.others_stand.ensures.free_bank (g.D.Disk.medium c.create_one.new.disk).image
    (λ tells. (outside_bank g.D.Disk.told c.args.self.app (1 - c.args.self.root.bank) c.args.self.built
    (g.D.Disk.medium c.args.disk.now) (g.D.Disk.medium c.create_one.new.disk)
    (let few = (few_storages c.args.self.app c.args.self c.requires.staged.memory).0 in omega (arith, few))
    c.in_err-create_one.ensures.outside).at_the_end tells)

pub returns-in_err-create_one-clause-clean : goal.returns-in_err-create_one-clause-clean
returns-in_err-create_one-clause-clean g c = clean_same c.args.self.app c.args.self c.requires.staged.memory
    c.one_root.ensures.again c.roots_say.ensures.alone g.D.Disk.told (g.D.Disk.medium c.args.disk.now).image
    c.requires.staged.root_on c.others_stand.ensures.free_bank (g.D.Disk.medium c.create_one.new.disk).image
    (λ tells. (outside_bank g.D.Disk.told c.args.self.app (1 - c.args.self.root.bank) c.args.self.built
    (g.D.Disk.medium c.args.disk.now) (g.D.Disk.medium c.create_one.new.disk)
    (let few = (few_storages c.args.self.app c.args.self c.requires.staged.memory).0 in omega (arith, few))
    c.in_err-create_one.ensures.outside).at_the_end tells)

pub returns-in_err-create_one-clause-any_moment : goal.returns-in_err-create_one-clause-any_moment
returns-in_err-create_one-clause-any_moment g c = stands_same c.args.self.app c.args.self c.requires.staged.memory
    c.one_root.ensures.again c.roots_say.ensures.alone c.deploying_stands.ensures.creating g.D.Disk.told
    (g.D.Disk.medium c.args.disk.now) (g.D.Disk.medium c.create_one.new.disk) c.requires.staged.root_on
    (outside_bank g.D.Disk.told c.args.self.app (1 - c.args.self.root.bank) c.args.self.built
    (g.D.Disk.medium c.args.disk.now) (g.D.Disk.medium c.create_one.new.disk)
    (let few = (few_storages c.args.self.app c.args.self c.requires.staged.memory).0 in omega (arith, few))
    c.in_err-create_one.ensures.outside)

pub returns-clause-app : goal.returns-clause-app
returns-clause-app g c = app_same c.args.self.app c.args.self c.requires.staged.memory c.one_root.ensures.again
    c.roots_say.ensures.alone g.D.Disk.told (g.D.Disk.medium c.args.disk.now).image c.requires.staged.root_on
    c.others_stand.ensures.free_bank (g.D.Disk.medium c.create_one.new.disk).image
    (λ tells. (outside_bank g.D.Disk.told c.args.self.app (1 - c.args.self.root.bank) c.args.self.built
    (g.D.Disk.medium c.args.disk.now) (g.D.Disk.medium c.create_one.new.disk)
    (let few = (few_storages c.args.self.app c.args.self c.requires.staged.memory).0 in omega (arith, few))
    c.in_ok-create_one.ensures.outside).at_the_end tells)

pub returns-clause-clean : goal.returns-clause-clean
returns-clause-clean g c = clean_same c.args.self.app c.args.self c.requires.staged.memory c.one_root.ensures.again
    c.roots_say.ensures.alone g.D.Disk.told (g.D.Disk.medium c.args.disk.now).image c.requires.staged.root_on
    c.others_stand.ensures.free_bank (g.D.Disk.medium c.create_one.new.disk).image
    (λ tells. (outside_bank g.D.Disk.told c.args.self.app (1 - c.args.self.root.bank) c.args.self.built
    (g.D.Disk.medium c.args.disk.now) (g.D.Disk.medium c.create_one.new.disk)
    (let few = (few_storages c.args.self.app c.args.self c.requires.staged.memory).0 in omega (arith, few))
    c.in_ok-create_one.ensures.outside).at_the_end tells)

pub returns-clause-any_moment : goal.returns-clause-any_moment
returns-clause-any_moment g c = stands_same c.args.self.app c.args.self c.requires.staged.memory
    c.one_root.ensures.again c.roots_say.ensures.alone c.deploying_stands.ensures.creating g.D.Disk.told
    (g.D.Disk.medium c.args.disk.now) (g.D.Disk.medium c.create_one.new.disk) c.requires.staged.root_on
    (outside_bank g.D.Disk.told c.args.self.app (1 - c.args.self.root.bank) c.args.self.built
    (g.D.Disk.medium c.args.disk.now) (g.D.Disk.medium c.create_one.new.disk)
    (let few = (few_storages c.args.self.app c.args.self c.requires.staged.memory).0 in omega (arith, few))
    c.in_ok-create_one.ensures.outside)

pub returns-clause-staged : goal.returns-clause-staged
returns-clause-staged g c = staged_more c.places_stand_apart.ensures.frame c.files_lie_apart.ensures.storage
    c.roots_say.ensures.held c.files_lie_apart.ensures.root
    g.D.Disk.told (g.D.Disk.medium c.args.disk.now).image (g.D.Disk.medium c.create_one.new.disk).image c.args.self.app
    c.args.self _ c.requires.staged (omega arith) refl
    (λ tells. c.in_ok-create_one.ensures.outside.at_the_end tells) c.index-as_slice-self.result c.as_slice-2.result.now
    (c.index-as_slice-self.is ∙ ap (λ (xs : List StorageConfig).
    get_or xs c.args.self.built c.index-as_slice-self.result) c.as_slice.ensures)
    (c.as_slice-2.ensures ∙ c.index.ensures ∙ ap (λ (d : List Fresh).
    get_or c.args.self.contents.items c.args.self.built d) (sym c.as_slice-2.ensures))
    c.in_ok-create_one.ensures.made c.in_ok-create_one.ensures.clean

pub returns-then-self-len-clause-places : goal.returns-then-self-len-clause-places
returns-then-self-len-clause-places g c = leaves_none g.D.Disk.told _ (g.D.Disk.medium c.args.disk.now)
    (g.met.D.Disk.lawful c.args.disk.now)

pub returns-then-self-len-clause-written : goal.returns-then-self-len-clause-written
returns-then-self-len-clause-written g c = none_written _ _

pub returns-in_err-create_one-clause-places : goal.returns-in_err-create_one-clause-places
returns-in_err-create_one-clause-places g c =
    let many = (few_storages c.args.self.app c.args.self c.requires.staged.memory).1 in
    one_place g.D.Disk.told c.args.self.app (1 - c.args.self.root.bank) c.args.self.built
    c.args.self.version.deployment.storages c.args.self.contents.items (g.D.Disk.medium c.args.disk.now)
    (g.D.Disk.medium c.create_one.new.disk) c.index-as_slice-self.result c.as_slice-2.result.now
    (omega (arith, many)) (omega arith)
    (c.index-as_slice-self.is ∙ ap (λ (xs : List StorageConfig).
    get_or xs c.args.self.built c.index-as_slice-self.result) c.as_slice.ensures)
    (c.as_slice-2.ensures ∙ c.index.ensures ∙ ap (λ (d : List Fresh).
    get_or c.args.self.contents.items c.args.self.built d) (sym c.as_slice-2.ensures))
    c.in_err-create_one.ensures.place

pub returns-in_err-create_one-clause-written : goal.returns-in_err-create_one-clause-written
returns-in_err-create_one-clause-written g c =
    let many = (few_storages c.args.self.app c.args.self c.requires.staged.memory).1 in
    one_written g.D.Disk.told c.args.self.app (1 - c.args.self.root.bank) c.args.self.built
    c.args.self.version.deployment.storages c.args.self.contents.items (g.D.Disk.medium c.args.disk.now)
    (g.D.Disk.medium c.create_one.new.disk) c.index-as_slice-self.result c.as_slice-2.result.now
    (omega (arith, many)) (omega arith)
    (c.index-as_slice-self.is ∙ ap (λ (xs : List StorageConfig).
    get_or xs c.args.self.built c.index-as_slice-self.result) c.as_slice.ensures)
    (c.as_slice-2.ensures ∙ c.index.ensures ∙ ap (λ (d : List Fresh).
    get_or c.args.self.contents.items c.args.self.built d) (sym c.as_slice-2.ensures))
    c.in_err-create_one.ensures.written

pub returns-clause-places : goal.returns-clause-places
returns-clause-places g c =
    let many = (few_storages c.args.self.app c.args.self c.requires.staged.memory).1 in
    one_place g.D.Disk.told c.args.self.app (1 - c.args.self.root.bank) c.args.self.built
    c.args.self.version.deployment.storages c.args.self.contents.items (g.D.Disk.medium c.args.disk.now)
    (g.D.Disk.medium c.create_one.new.disk) c.index-as_slice-self.result c.as_slice-2.result.now
    (omega (arith, many)) (omega arith)
    (c.index-as_slice-self.is ∙ ap (λ (xs : List StorageConfig).
    get_or xs c.args.self.built c.index-as_slice-self.result) c.as_slice.ensures)
    (c.as_slice-2.ensures ∙ c.index.ensures ∙ ap (λ (d : List Fresh).
    get_or c.args.self.contents.items c.args.self.built d) (sym c.as_slice-2.ensures))
    c.in_ok-create_one.ensures.place

pub returns-clause-written : goal.returns-clause-written
returns-clause-written g c =
    let many = (few_storages c.args.self.app c.args.self c.requires.staged.memory).1 in
    one_written g.D.Disk.told c.args.self.app (1 - c.args.self.root.bank) c.args.self.built
    c.args.self.version.deployment.storages c.args.self.contents.items (g.D.Disk.medium c.args.disk.now)
    (g.D.Disk.medium c.create_one.new.disk) c.index-as_slice-self.result c.as_slice-2.result.now
    (omega (arith, many)) (omega arith)
    (c.index-as_slice-self.is ∙ ap (λ (xs : List StorageConfig).
    get_or xs c.args.self.built c.index-as_slice-self.result) c.as_slice.ensures)
    (c.as_slice-2.ensures ∙ c.index.ensures ∙ ap (λ (d : List Fresh).
    get_or c.args.self.contents.items c.args.self.built d) (sym c.as_slice-2.ensures))
    c.in_ok-create_one.ensures.written
