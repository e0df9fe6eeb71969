-- From a moment on: what outlasts a loss reads on.
use Rattle.std.proofs.Common.{ℕ, inl, inr, ⊎_elim}
use Rattle.flash_model.specs.FlashMedium.{FlashMedium}
use Rattle.flash_model.specs.Pages.{Pages}
use Rattle.flash_disk.specs.FlashFiles.{flash_files}
use Rattle.flash_laws.specs.Outvotes.{OutlastsLoss, OutlastsSince}
use Rattle.loss_laws.specs.Laws.{AppsLaw}
use Rattle.loss_laws.specs.Since.{ReadOnAfterLoss, ReadOnSince}

module _ (m : FlashMedium) (t : ℕ) (apps : AppsLaw) where
  after_loss : (pages : Pages) → OutlastsLoss m t pages → ReadOnAfterLoss m t pages
  after_loss pages outlasts block new loses = ⊎_elim
      (λ outvoted. inl (apps (flash_files pages m.blocks) (flash_files new m.blocks) outvoted))
      (λ lacked. inr lacked)
      (outlasts block new loses)

  pub read_on : OutlastsSince m t → ReadOnSince m t
  read_on since = record {
    now = after_loss m.state.pages since.now;
    during = λ c past plain. after_loss c.left (since.during c past plain);
  }
