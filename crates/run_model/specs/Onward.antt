-- Undamaged copies counted by pieces, at each moment of a run and across the power losses of a life.
use Rattle.std.specs.Prelude.{ℕ, ◌<◌, List, [], ◌++◌}
use Rattle.std.proofs.Common.{refl}
use Rattle.disk_model.specs.Case.{Case}
use Rattle.disk_model.specs.Image.{Image}
use Rattle.disk_model.specs.Medium.{Medium}
use Rattle.deploy_laws.specs.Apps.{App}
use Rattle.deploy_laws.specs.Onward.{OnwardAppLaw, StandsOnward}
use Rattle.deploy_laws.specs.Pieces.{DecaysApp, IsSoundApp}
use Rattle.run_model.specs.AppLaws.{AppLaws}
use Rattle.run_model.specs.Converters.{Converters}
use Rattle.run_model.specs.Lives.{BeginsAfterStop, IsAmong, Job, JobMayLeave, Known, Life, Pair, aged_among, pairs_of}
use Rattle.run_model.specs.Moments.{Between}
use Rattle.run_model.specs.Worlds.{Disks, disk_at}

-- at a moment at which an application stands between two disks, it does so with copies counted by pieces
abbrev pub MomentOnwardLaw : Type 0
MomentOnwardLaw = (app : ℕ) (before after : Disks) (c : Case) (damaged : List ℕ) (image : Image) → app < 8
    → Between app before after c → IsSoundApp app c → DecaysApp app damaged c.left image
    → StandsOnward app c.left image (disk_at before app) (disk_at after app)

-- on this image the application stands so between two states, from an image that was left before the damage to these
-- files
pub record CameOnward (app : ℕ) (damaged : List ℕ) (image : Image) (before after : App) : Type 0 where
  pub from : Image
  pub decays : DecaysApp app damaged from image
  pub stands : StandsOnward app from image before after

-- By what a power loss leaves, with its damage, the application stands so between the two states of one of the pairs
-- that were there before.
abbrev pub LifeOnwardLaw : {D : Type 0} → (medium : D → Medium) → Converters → Type 0
LifeOnwardLaw {D} medium converters = (app : ℕ) → app < 8 → (old new m : D) (pairs : List Pair)
    → Life medium converters app old pairs → (job : Job converters app (medium old) (medium new))
    → (stop : BeginsAfterStop app (JobMayLeave (medium old) (medium new) job)
    (pairs_of app (medium old) (medium new) job pairs) (medium m))
    → (p : Pair) × IsAmong (pairs_of app (medium old) (medium new) job pairs) p
    × CameOnward app (p.damaged ++ stop.damaged) (medium m).image p.before p.after

pub moment_onward : OnwardAppLaw → MomentOnwardLaw
moment_onward onward app before after c damaged image lt stands sound decays =
    onward app (disk_at before app) (disk_at after app) damaged c.left image lt
    (stands sound [] c.left (λ place of. record { others = λ f outside. refl; pieces = λ x is. is })) decays

pub stop_onward : OnwardAppLaw → AppLaws → {converters : Converters} (app : ℕ) → app < 8
    → (old new m : Medium) (pairs : List Pair) → Known app old pairs → (job : Job converters app old new)
    → (stop : BeginsAfterStop app (JobMayLeave old new job) (pairs_of app old new job pairs) m)
    → (p : Pair) × IsAmong (pairs_of app old new job pairs) p
    × CameOnward app (p.damaged ++ stop.damaged) m.image p.before p.after
stop_onward onward laws app lt old new m pairs known job stop =
    let (p, at, from, decays, stands) = aged_among laws app lt old new m pairs known job stop in (
      p,
      at,
      record {
        from = from;
        decays = decays;
        stands = onward app p.before p.after (p.damaged ++ stop.damaged) from m.image lt
            (stands [] from (λ place of. record { others = λ f outside. refl; pieces = λ x is. is })) decays;
      },
    )
