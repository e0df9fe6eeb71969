use Rattle.std.proofs.Common.{◌≡◌, List, ap, sym, subst, ◌∙◌}
use Rattle.per_base.specs.declared.elements.Fresh.{Fresh}
use Rattle.deployment_model.specs.Data.{storage_data}
use Rattle.index_text.specs.Contents.{AreContents}
use Rattle.element_state.specs.declared.shapes.Shape.{Shape}
use Rattle.element_state.specs.Clean.{IsClean}
use Rattle.element_state.specs.States.{fresh_map, fresh_state, store_at}
use Rattle.deploy.proofs.Leaves.{leaves_none}
use Rattle.deploy.proofs.MadePlaces.{made_at_cost, made_in_place}
use Rattle.deploy.proofs.MadeStorages.{storage_outside}
use Rattle.deploy.proofs.RootLens.{none_written}
use Rattle.deploy_laws.specs.Places.{IsBeside}
use Rattle.deploy.proofs.making.create_one.Goals as goal

pub create-requires-clause-contents : goal.create-requires-clause-contents
create-requires-clause-contents g c =
    let shape = c.in_ok-shape.shape in
    let of = c.in_ok-shape.ensures.configured in
    subst (λ (fs : List Fresh). AreContents shape.kind shape.allowed fs) (sym c.in_ok-contents.ensures)
    (subst (λ k. AreContents k shape.allowed c.args.contents.now) (sym of.kind)
    (subst (λ n. AreContents c.args.config.now.kind n c.args.contents.now) (sym of.allowed) c.requires.contents))

pub returns-clause-made : goal.returns-clause-made
returns-clause-made g c = λ tells.
    subst (λ (shape : Shape). store_at (g.D.Disk.medium c.create.new.disk).image shape
    ≡ fresh_state 1 (fresh_map c.args.contents.now)) c.in_ok-shape.ensures.shape
    (c.in_ok-_store.ensures.opens tells ∙ ap (λ (fs : List Fresh). fresh_state 1 (fresh_map fs))
    c.in_ok-contents.ensures)

pub returns-clause-clean : goal.returns-clause-clean
returns-clause-clean g c = λ tells.
    subst (λ (shape : Shape). IsClean shape (g.D.Disk.medium c.create.new.disk).image) c.in_ok-shape.ensures.shape
    (c.in_ok-_store.ensures.clean tells)

pub returns-clause-outside : goal.returns-clause-outside
returns-clause-outside g c =
    storage_outside g.D.Disk.told c.args.app c.args.bank c.args.number (storage_data c.args.config.now)
    c.in_ok-shape.shape
    (g.D.Disk.medium c.args.disk.now) (g.D.Disk.medium c.create.new.disk) c.files_lie_apart.ensures.beside
    c.requires.app c.requires.bank c.requires.number
    c.in_ok-shape.ensures.shape c.in_ok-_store.ensures.elsewhere c.in_ok-_store.ensures.outside

pub returns-in_err-_store-clause-outside : goal.returns-in_err-_store-clause-outside
returns-in_err-_store-clause-outside g c =
    storage_outside g.D.Disk.told c.args.app c.args.bank c.args.number (storage_data c.args.config.now)
    c.in_ok-shape.shape
    (g.D.Disk.medium c.args.disk.now) (g.D.Disk.medium c.create.new.disk) c.files_lie_apart.ensures.beside
    c.requires.app c.requires.bank c.requires.number
    c.in_ok-shape.ensures.shape c.in_err-_store.ensures.elsewhere c.in_err-_store.ensures.outside

pub returns-in_err-contents-clause-outside : goal.returns-in_err-contents-clause-outside
returns-in_err-contents-clause-outside g c =
    leaves_none g.D.Disk.told (IsBeside c.args.app c.args.bank c.args.number) (g.D.Disk.medium c.args.disk.now)
    (g.met.D.Disk.lawful c.args.disk.now)

pub returns-in_err-shape-clause-outside : goal.returns-in_err-shape-clause-outside
returns-in_err-shape-clause-outside g c =
    leaves_none g.D.Disk.told (IsBeside c.args.app c.args.bank c.args.number) (g.D.Disk.medium c.args.disk.now)
    (g.met.D.Disk.lawful c.args.disk.now)

pub returns-clause-place : goal.returns-clause-place
returns-clause-place g c = made_in_place g.D.Disk.told c.in_ok-shape.shape _
    (g.D.Disk.medium c.args.disk.now) (g.D.Disk.medium c.create.new.disk) c.in_ok-shape.ensures.shape
    c.in_ok-_store.ensures.elsewhere c.in_ok-_store.ensures.outside

pub returns-clause-written : goal.returns-clause-written
returns-clause-written g c = made_at_cost c.in_ok-shape.shape c.args.app c.args.bank c.args.number
    (storage_data c.args.config.now) c.in_ok-contents.contents.items c.args.contents.now _ _
    c.in_ok-shape.ensures.shape c.in_ok-contents.ensures c.requires.config c.in_ok-_store.ensures.at_most

pub returns-in_err-_store-clause-place : goal.returns-in_err-_store-clause-place
returns-in_err-_store-clause-place g c = made_in_place g.D.Disk.told c.in_ok-shape.shape _
    (g.D.Disk.medium c.args.disk.now) (g.D.Disk.medium c.create.new.disk) c.in_ok-shape.ensures.shape
    c.in_err-_store.ensures.elsewhere c.in_err-_store.ensures.outside

pub returns-in_err-_store-clause-written : goal.returns-in_err-_store-clause-written
returns-in_err-_store-clause-written g c = made_at_cost c.in_ok-shape.shape c.args.app c.args.bank c.args.number
    (storage_data c.args.config.now) c.in_ok-contents.contents.items c.args.contents.now _ _
    c.in_ok-shape.ensures.shape c.in_ok-contents.ensures c.requires.config c.in_err-_store.ensures.at_most

pub returns-in_err-contents-clause-place : goal.returns-in_err-contents-clause-place
returns-in_err-contents-clause-place g c = leaves_none g.D.Disk.told _ (g.D.Disk.medium c.args.disk.now)
    (g.met.D.Disk.lawful c.args.disk.now)

pub returns-in_err-contents-clause-written : goal.returns-in_err-contents-clause-written
returns-in_err-contents-clause-written g c = none_written _ _

pub returns-in_err-shape-clause-place : goal.returns-in_err-shape-clause-place
returns-in_err-shape-clause-place g c = leaves_none g.D.Disk.told _ (g.D.Disk.medium c.args.disk.now)
    (g.met.D.Disk.lawful c.args.disk.now)

pub returns-in_err-shape-clause-written : goal.returns-in_err-shape-clause-written
returns-in_err-shape-clause-written g c = none_written _ _
