-- A root in use, and an update in progress, while their files do not change.
use Rattle.std.proofs.Common.{ℕ, ◌-◌, ◌<◌, ◌≤◌, Bool, IsTrue, ◌∙◌, arith}
use Rattle.std.specs.Prelude.{map}
use Rattle.disk_model.specs.Frame.{Spares}
use Rattle.disk_model.specs.Image.{Image}
use Rattle.guarded_cell.specs.Cells.{generation_of}
use Rattle.deployment_model.specs.Data.{StorageData, storage_data}
use Rattle.element_laws.specs.Apart.{FrameLaw}
use Rattle.element_laws.specs.Phases.{IsOfPlace}
use Rattle.root_text.specs.RootText.{root_text}
use Rattle.root_text.specs.RootText as text
use Rattle.deploy_laws.specs.Laws.{AloneFrameLaw, RootFilesLaw, SaysFrameLaw, StorageFilesLaw}
use Rattle.deploy_laws.specs.Places.{IsFileOf, root_place, storage_shape}
use Rattle.deploy.specs.declared.roots.Root.{Root}
use Rattle.deploy.specs.declared.roots.Root.TheVariants.{Bad, Absent, Installed}
use Rattle.deploy.specs.declared.updating.Staged.{Staged}
use Rattle.deploy.specs.Building.{StagedAt}
use Rattle.deploy.specs.Laws.{IsRootFile}
use Rattle.deploy.specs.Roots.{IsRootOf, IsRootOn, RootAt}
use Rattle.deploy.proofs.InUse.{alone_cell, cell_alone, text_of}
use Rattle.deploy.proofs.MadeStorages.{few_contents, made_stays}

module _ (files : RootFilesLaw) (held : AloneFrameLaw) (says : SaysFrameLaw) (app : ℕ) (old new : Image) (lt : app < 8)
    (spared : Spares (IsRootFile app) old new) where
  place_spared : Spares (IsOfPlace (root_place app)) old new
  place_spared f of = spared f (files app f lt of)

  root_stays_on : (root : Root) → IsRootOf app root → IsRootOn old app root → IsRootOn new app root
  root_stays_on Bad of on = says app old new place_spared ∙ on
  root_stays_on (Absent cell) of on =
      let t = root_text text.absent in
      alone_cell new app cell t of.place (held app (generation_of cell) t old new place_spared
      (cell_alone old app cell t of.place on))
  root_stays_on (Installed i) of on =
      let t = root_text (text_of i) in
      alone_cell new app i.cell t of.0.place (held app (generation_of i.cell) t old new place_spared
      (cell_alone old app i.cell t of.0.place on))

module _ (files : RootFilesLaw) (held : AloneFrameLaw) (says : SaysFrameLaw) (told : Bool) (app : ℕ) (old new : Image)
  where
    pub root_stays : (root : Root) → app < 8 → (IsTrue told → Spares (IsRootFile app) old new)
        → RootAt told old app root
        → RootAt told new app root
    root_stays root lt spared at = record {
      memory = at.memory;
      disk = λ tells. root_stays_on files held says app old new lt (spared tells) root at.memory (at.disk tells);
    }

    module _ (storages : StorageFilesLaw) (frame : FrameLaw) (s : Staged)
        (spared : IsTrue told → Spares (IsFileOf app) old new) (at : StagedAt told old app s) where
      -- each storage of a bank has files of the application alone
      bank_spared : IsTrue told → (number : ℕ) (x : StorageData) → number < 16
          → Spares (IsOfPlace (storage_shape app (1 - s.root.bank) number x).place) old new
      bank_spared tells number x ltn f of =
          let lt = at.memory.below in
          let ltb : 1 - s.root.bank ≤ 1 = omega arith in
          let inside = storages app (1 - s.root.bank) number f x lt ltb ltn of in
          let low = inside.0 in
          let high = inside.1 in
          spared tells f (omega (arith, low), omega (arith, high, ltb, ltn))

      pub staged_stays : StagedAt told new app s
      staged_stays =
          let few = (few_contents s.version.deployment s.contents.items at.memory.offers.keeps at.memory.fit).0 in
          let within = at.memory.within in
          record {
            memory = at.memory;
            root_on = λ tells. root_stays_on files held says app old new at.memory.below
                (λ f is. let high = is.1 in spared tells f (is.0, omega (arith, high)))
                (Installed s.root) at.memory.root (at.root_on tells);
            made = λ tells. made_stays frame app (1 - s.root.bank) 16 old new (bank_spared tells)
                (map storage_data s.version.deployment.storages) s.contents.items 0 s.built
                (omega (arith, few, within)) (at.made tells);
          }
