use Rattle.std.proofs.Common.{◌≡◌, ◌<◌, ◌≤◌, ℕ, List, ◌++◌, ap, ◌∙◌, subst, arith, string_bytes, Vec, Global}
use Rattle.std.specs.List.{flat_map, range_with_len}
use Rattle.disk_model.specs.Image.{Image}
use Rattle.disk_model.specs.Laws.{idle_on}
use Rattle.deploy_laws.specs.Apps.{app_at}
use Rattle.per_list.specs.Listings.{app_text, listing_end, listing_head, listing_text}
use Rattle.per_list.proofs.Looks.{none_seen, seen_on}
use Rattle.per_list.proofs.Texts.{left_all, left_more}
use Rattle.per_list.proofs.listing.list_all.Goals as goal

pub loop-app-init : goal.loop-app-init
loop-app-init g c =
    let of : ℕ → List ℕ = λ app. app_text c.args.form app (app_at (g.D.Disk.medium c.args.disk.now).image app) in
    record {
      text = λ tells. ap (λ (xs : List ℕ). xs ++ flat_map of (range_with_len 0 8))
          (c.in_ok-push_heading.ensures ∙ ap (λ (xs : List ℕ). xs ++ listing_head c.args.form) c.new-out.ensures.bytes);
      quiet = λ some. absurd (omega (arith, some));
      seen = none_seen (g.met.D.Disk.lawful c.args.disk.now);
    }

pub loop-app-preserved : goal.loop-app-preserved
loop-app-preserved g c =
    let it = c.loop-app.invariant in
    let lt : c.loop-app.app < 8 = omega arith in
    let ok = c.in_ok-list_app.ensures in
    let app = c.loop-app.app in
    let old = (g.D.Disk.medium c.args.disk.now).image in
    record {
      text = λ tells. left_more (λ k. app_text c.args.form k (app_at old k)) 8 app (listing_head c.args.form)
          (string_bytes c.loop-app.out) (string_bytes c.list_app.new.out) lt (it.text tells)
          (subst (λ (im : Image). string_bytes c.list_app.new.out ≡ string_bytes c.loop-app.out
          ++ app_text c.args.form app (app_at im app)) it.seen.image (ok.adds tells));
      quiet = λ some. ok.quiet;
      seen = seen_on it.seen (record {
        image = ok.image;
        idle = ok.idle;
        written = ok.written;
        passes = ok.passes;
        time = ok.time;
      });
    }

pub returns-clause-text : goal.returns-clause-text
unfolding listing_text
returns-clause-text g c = λ tells.
    let form = c.args.form in
    let of : ℕ → List ℕ = λ app. app_text form app (app_at (g.D.Disk.medium c.args.disk.now).image app) in
    let past : 8 ≤ c.loop-app.app = omega arith in
    ap (λ (v : Vec ℕ Global). v.items) c.into_bytes.ensures.value
    ∙ c.in_ok-push_ending.ensures
    ∙ ap (λ (xs : List ℕ). xs ++ listing_end form) (left_all of 8 c.loop-app.app (listing_head form)
    (string_bytes c.loop-app.out) past (c.loop-app.invariant.text tells))

pub returns-clause-quiet : goal.returns-clause-quiet
returns-clause-quiet g c = c.loop-app.invariant.quiet (omega arith)

pub returns-in_err-list_app-clause-idle : goal.returns-in_err-list_app-clause-idle
returns-in_err-list_app-clause-idle g c = λ quiet.
    let seen = c.loop-app.invariant.seen in
    let was = seen.idle quiet in
    idle_on seen.time was c.in_err-list_app.ensures.time (c.in_err-list_app.ensures.idle was.quiet)
