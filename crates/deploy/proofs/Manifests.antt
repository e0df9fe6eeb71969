-- Which manifests a root keeps on an image.
use Rattle.std.proofs.Common.{◌≡◌, ℕ, ◌+◌, ◌≤◌, List, [], ◌∷◌, true, Option, None, Some, refl, sym, ap, ◌∙◌, subst}
use Rattle.std.proofs.Common.{arith}
use Rattle.std.specs.Prelude.{option_map}
use Rattle.disk_model.specs.Image.{Image}
use Rattle.guarded_cell.specs.declared.looking.Seen.{Seen}
use Rattle.guarded_cell.specs.Cells.{generation_of}
use Rattle.guarded_cell.specs.Held.{copies_that, standing, standing_in}
use Rattle.guarded_cell.specs.Register.{IsAlone}
use Rattle.root_text.specs.declared.versions.VersionText.{VersionText}
use Rattle.root_text.specs.declared.versions.RootSays.{RootSays}
use Rattle.root_text.specs.declared.versions.RootSays.TheVariants as said
use Rattle.root_text.specs.RootText.{root_of, root_text}
use Rattle.root_text.specs.RootText as text
use Rattle.root_text.specs.Views.{root_said, version_said}
use Rattle.deploy_laws.specs.Apps.{nothing, says_at, says_by, says_in}
use Rattle.deploy_laws.specs.Places.{root_place}
use Rattle.deploy_rows.specs.Costs.{kept_manifests, manifests_at, manifests_by, manifests_in, root_cost}
use Rattle.deploy.specs.declared.roots.Installed as parts
use Rattle.deploy.specs.declared.roots.Root.{Root}
use Rattle.deploy.specs.declared.roots.Root.TheVariants.{Absent, Bad, Installed}
use Rattle.deploy.specs.declared.standing.Standing.{Standing}
use Rattle.deploy.specs.Roots.{IsRootOf, IsRootOn, previous_texts, root_texts}
use Rattle.deploy.specs.Standing.{IsFirstOfTwoCopies}
use Rattle.deploy.proofs.Formatted.{HeldAloneLaw}
use Rattle.deploy.proofs.Found.{AmongLaw, found_stands, texts_at}
use Rattle.deploy.proofs.InUse.{AgainLaw, cell_alone, parts_are_root, text_of}

-- ---- by what stands

stands_so : (image : Image) (app : ℕ) (seen : Option Seen) → standing image (root_place app) 2 ≡ seen
    → manifests_at image app ≡ manifests_in seen
unfolding manifests_at
stands_so image app seen is = ap manifests_in is

nothing_by : (g : ℕ) (r : Option text.Root) → says_by g r ≡ nothing → manifests_by r ≡ []
nothing_by g None is = refl
nothing_by g (Some text.absent) is = absurd cc
nothing_by g (Some (text.installed bank active previous)) is = absurd cc

nothing_in : (seen : Option Seen) → says_in seen ≡ nothing → manifests_in seen ≡ []
nothing_in None is = refl
nothing_in (Some seen) is = nothing_by seen.generation (root_of seen.text) is

pub bad_keeps : (image : Image) (app : ℕ) → says_at image app ≡ nothing → manifests_at image app ≡ []
unfolding says_at manifests_at
bad_keeps image app is = nothing_in (standing image (root_place app) 2) is

kept_by : (bank : ℕ) (active : VersionText) (previous : Option VersionText)
    → kept_manifests (text.installed bank (version_said active) (option_map version_said previous))
    ≡ active.text ∷ previous_texts previous
kept_by bank active None = refl
kept_by bank active (Some v) = refl

-- ---- a root in use

module _ (again : AgainLaw) (law : HeldAloneLaw) (among : AmongLaw) (image : Image) (app : ℕ) where
  alone_keeps : (g : ℕ) (t : List ℕ) → IsAlone image (root_place app) g t
      → manifests_at image app ≡ manifests_by (root_of t)
  alone_keeps g t alone =
      let it : Seen = record { generation = g; text = t; copies = copies_that (λ c. true) 3 } in
      let stands : standing image (root_place app) 2 ≡ Some it = among image (root_place app) 2
      ∙ ap (standing_in 2) (law image (root_place app) g t alone).0 in
      stands_so image app (Some it) stands

  pub in_use_keeps : (root : Root) → IsRootOf app root → IsRootOn image app root
      → manifests_at image app ≡ root_texts root
  in_use_keeps Bad of on = bad_keeps image app on
  in_use_keeps (Absent cell) of on = alone_keeps (generation_of cell) (root_text text.absent)
      (cell_alone image app cell (root_text text.absent) of.place on)
      ∙ ap manifests_by (again text.absent tt)
  in_use_keeps (Installed i) of on = alone_keeps (generation_of i.cell) (root_text (text_of i))
      (cell_alone image app i.cell (root_text (text_of i)) of.0.place on)
      ∙ ap manifests_by (again (text_of i) (parts_are_root i of.1))
      ∙ kept_by i.bank i.active i.previous

-- ---- a root that is opened

pub said_absent : (says : RootSays) → says ≡ said.Absent → [] ≡ kept_manifests (root_said says)
said_absent says is = sym (ap (λ (s : RootSays). kept_manifests (root_said s)) is)

pub said_installed : (i : parts.Installed) (says : RootSays) → says ≡ said.Installed i.bank i.active i.previous
    → root_texts (Installed i) ≡ kept_manifests (root_said says)
said_installed i says is = sym (ap (λ (s : RootSays). kept_manifests (root_said s)) is
    ∙ kept_by i.bank i.active i.previous)

-- what is found keeps what its text says
pub found_keeps : AmongLaw → (image : Image) (app : ℕ) (s : Standing) → IsFirstOfTwoCopies (texts_at image app) s
    → manifests_at image app ≡ kept_manifests (root_said s.says)
found_keeps among image app s first = stands_so image app (Some s.seen) (found_stands among image app s first)
    ∙ ap manifests_by first.said

-- what was written of it
pub once_written : (was mid now : ℕ) (image : Image) (app : ℕ) (manifests : List (List ℕ)) → mid ≡ was
    → manifests_at image app ≡ manifests → now ≤ mid + root_cost manifests
    → now ≤ was + root_cost (manifests_at image app)
once_written was mid now image app manifests same is le =
    subst (λ (kept : List (List ℕ)). now ≤ was + root_cost kept) (sym is) (omega (arith, same, le))
