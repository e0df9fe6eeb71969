-- A root that is right in every copy is opened without a write.
use Rattle.std.proofs.Common.{◌≡◌, ℕ, List, true, Some, sym, ap, ◌∙◌, subst}
use Rattle.std.proofs.Math.Path.{fun_ext}
use Rattle.disk_model.specs.Frame.{Spares}
use Rattle.disk_model.specs.Image.{Image}
use Rattle.disk_model.specs.Medium.{Medium}
use Rattle.disk_model.specs.declared.place.Place.{Place}
use Rattle.guarded_cell.specs.declared.looking.Seen.{Seen}
use Rattle.guarded_cell.specs.Held.{copies_that, standing_in}
use Rattle.guarded_cell.specs.Register.{Holds, IsAlone, IsBlank}
use Rattle.guarded_cell.specs.Rights.{IsRight}
use Rattle.deploy_laws.specs.Places.{root_place}
use Rattle.deploy.specs.declared.standing.Standing.{Standing}
use Rattle.deploy.specs.Standing.{IsFirstOfTwoCopies}
use Rattle.deploy.proofs.Formatted.{HeldAloneLaw}
use Rattle.deploy.proofs.Found.{texts_at}

-- no slot is to be written where the text is held alone
all_right : (image : Image) (place : Place) (g : ℕ) (t : List ℕ) → IsAlone image place g t → (f : ℕ)
    → IsRight image place g t f
all_right image place g t alone f copy lt = (
  λ is. subst (λ (n : ℕ). Holds (λ (any : ℕ). image n) place copy g t) (sym is) (alone.held copy lt),
  λ is. subst (λ (n : ℕ). IsBlank (image n)) (sym is) (alone.blank copy lt),
)

-- what brings every copy to the text then changes nothing
pub already_at : (place : Place) (app g : ℕ) (t u : List ℕ) (old new : Medium) → place ≡ root_place app → t ≡ u
    → Spares (IsRight old.image place g t) old.image new.image
    → (IsAlone old.image place g t → new.written ≡ old.written)
    → IsAlone old.image (root_place app) g u → (new.image ≡ old.image) × (new.written ≡ old.written)
already_at place app g t u old new same text right written alone =
    let here : IsAlone old.image place g t =
    subst (λ (v : List ℕ). IsAlone old.image place g v) (sym text)
    (subst (λ (p : Place). IsAlone old.image p g u) (sym same) alone) in
    (fun_ext (λ f. right f (all_right old.image place g t here f)), written here)

-- the text that is found is the one that is held alone
pub found_alone : HeldAloneLaw → (image : Image) (app g : ℕ) (t : List ℕ) (s : Standing)
    → IsFirstOfTwoCopies (texts_at image app) s
    → IsAlone image (root_place app) g t → IsAlone image (root_place app) s.seen.generation s.seen.text
found_alone law image app g t s first alone =
    let it : Seen = record { generation = g; text = t; copies = copies_that (λ c. true) 3 } in
    let found : Some it ≡ Some s.seen = sym (ap (standing_in 2)
    (law image (root_place app) g t alone).0) ∙ first.stands in
    let same : it ≡ s.seen = cc in
    subst (λ (seen : Seen). IsAlone image (root_place app) seen.generation seen.text) same alone

-- and so after a look, which changes nothing either
pub already_then : (old mid new : Medium) (app g : ℕ) (t : List ℕ) → mid.image ≡ old.image → mid.written ≡ old.written
    → (IsAlone mid.image (root_place app) g t → (new.image ≡ mid.image) × (new.written ≡ mid.written))
    → IsAlone old.image (root_place app) g t → (new.image ≡ old.image) × (new.written ≡ old.written)
already_then old mid new app g t image written now alone =
    let both = now (subst (λ (i : Image). IsAlone i (root_place app) g t) (sym image) alone) in
    (both.0 ∙ image, both.1 ∙ written)
