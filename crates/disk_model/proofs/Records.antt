-- Records of calls that grow at their end.
use Rattle.std.proofs.Common.{◌≡◌, List, [], ◌∷◌, ◌++◌, refl}
use Rattle.disk_model.specs.declared.history.Call.{Call}
use Rattle.disk_model.specs.declared.history.Call.TheVariants.{Write, Sync, Read}
use Rattle.disk_model.specs.Image.{Image, put_image}
use Rattle.disk_model.specs.History.{image_after, base_after, pending_after}

pub image_after-append : (xs ys : List Call) (image : Image)
    → image_after (xs ++ ys) image ≡ image_after ys (image_after xs image)
image_after-append [] ys image = refl
image_after-append (Write file at bytes ∷ xs) ys image = image_after-append xs ys (put_image image file at bytes.items)
image_after-append (Sync ∷ xs) ys image = image_after-append xs ys image
image_after-append (Read ∷ xs) ys image = image_after-append xs ys image

pub base_after-append : (xs ys : List Call) (base image : Image)
    → base_after (xs ++ ys) base image ≡ base_after ys (base_after xs base image) (image_after xs image)
base_after-append [] ys base image = refl
base_after-append (Write file at bytes ∷ xs) ys base image =
    base_after-append xs ys base (put_image image file at bytes.items)
base_after-append (Sync ∷ xs) ys base image = base_after-append xs ys image image
base_after-append (Read ∷ xs) ys base image = base_after-append xs ys base image

pub pending_after-append : (xs ys pending : List Call)
    → pending_after (xs ++ ys) pending ≡ pending_after ys (pending_after xs pending)
pending_after-append [] ys pending = refl
pending_after-append (Write file at bytes ∷ xs) ys pending =
    pending_after-append xs ys (pending ++ Write file at bytes ∷ [])
pending_after-append (Sync ∷ xs) ys pending = pending_after-append xs ys []
pending_after-append (Read ∷ xs) ys pending = pending_after-append xs ys (pending ++ Read ∷ [])
