-- What is to be filled next changes nothing that counts.
use Rattle.std.proofs.Common.{◌≡◌, ℕ, List, sym, subst}
use Rattle.flash_model.specs.FlashMedium.{FlashMedium}
use Rattle.flash_disk.specs.declared.layer.LayerState.{LayerState}
use Rattle.flash_disk.specs.Learnt.{HasPlace}
use Rattle.flash_disk.specs.Sound.{FitsIn, MayBeAdded}

module _ (m now : FlashMedium) (pages : now.state.pages ≡ m.state.pages) (blocks : now.blocks ≡ m.blocks) where
  -- a record that might be added still may
  pub turned_fits : (s t : LayerState) → t.table ≡ s.table → (file page len : ℕ) (bytes : List ℕ)
      → FitsIn m s file page len bytes → FitsIn now t file page len bytes
  turned_fits s t table file page len bytes fits = subst (λ b. MayBeAdded now.state.pages b t file page len bytes)
      (sym blocks) (subst (λ p. MayBeAdded p m.blocks t file page len bytes) (sym pages) (record {
        place = subst (λ q. HasPlace q (record { file = file; page = page })) (sym table) fits.place;
        no_shorter = fits.no_shorter;
        zeros = fits.zeros;
        grows = fits.grows;
      }))
