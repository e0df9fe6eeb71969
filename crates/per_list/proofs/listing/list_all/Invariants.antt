use Rattle.std.proofs.Common.{◌≤◌, string_bytes}
use Rattle.std.specs.Prelude.{IsTrue}
use Rattle.disk_model.specs.Medium.{Quiet}
use Rattle.deploy_laws.specs.Apps.{app_at}
use Rattle.per_list.specs.Listings.{app_text, listing_head}
use Rattle.per_list.proofs.Looks.{IsSeen}
use Rattle.per_list.proofs.Texts.{Left}
use Rattle.per_list.proofs.listing.list_all.Given as goal

abbrev pub invariant-loop-app : goal.invariant-loop-app
invariant-loop-app g l = record {
  text : IsTrue g.D.Disk.told → Left (λ app. app_text l.form app (app_at (g.D.Disk.medium l.fn.disk).image app)) 8 l.app
      (listing_head l.form) (string_bytes l.out);
  quiet : 1 ≤ l.app → Quiet (g.D.Disk.medium l.disk);
  seen : IsSeen (g.D.Disk.medium l.fn.disk) (g.D.Disk.medium l.disk);
}
