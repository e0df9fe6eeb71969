-- A root is written, or formatted, that says that nothing is installed.
use Rattle.std.proofs.Common.{◌≡◌, ℕ, ◌+◌, ◌^◌, ◌<◌, ◌≤◌, List, [], Option, Some, None, Bool, IsTrue, sym, ap, ◌∙◌}
use Rattle.std.proofs.Common.{subst, arith}
use Rattle.disk_model.specs.Frame.{Spares}
use Rattle.disk_model.specs.Medium.{EachCase, Medium, Quiet}
use Rattle.disk_model.specs.Place.{IsNoSlot}
use Rattle.guarded_cell.specs.Cells.{CellAt, IsCellOf, generation_of, place_of}
use Rattle.guarded_cell.specs.declared.cell.Cell.{Cell}
use Rattle.guarded_cell.specs.Register.{IsAlone}
use Rattle.guarded_cell.specs.Stops.{FormatStops, PutStops}
use Rattle.root_text.specs.RootText.{root_text}
use Rattle.root_text.specs.RootText as text
use Rattle.deploy_laws.specs.Apps.{App, IsCleanApp, Says, absent, app_at, app_saying}
use Rattle.deploy_laws.specs.Laws.{AloneCleanLaw, AloneLaw, FormattingLaw, RootAloneLaw, RootSlotsLaw, VersionsLaw}
use Rattle.deploy_laws.specs.Laws.{WritingLaw}
use Rattle.deploy_laws.specs.Places.{root_place}
use Rattle.deploy_laws.specs.Stands.{StandsCase, StandsThroughout}
use Rattle.deploy.specs.declared.roots.Root.TheVariants.{Absent}
use Rattle.deploy.specs.Clauses.{IsNoRootSlot, Leaves}
use Rattle.deploy.specs.Leaving.{IsRegisterAt, empty_says}
use Rattle.deploy.specs.Roots.{RootAt}
use Rattle.deploy.proofs.InUse.{AgainLaw, cell_alone, written_app, written_clean}
use Rattle.deploy.proofs.Lone.{put_app, put_clean, put_outside, put_stands}
use Rattle.deploy.proofs.LoneRows.{empty_named, none_clean}
use Rattle.deploy.proofs.NextRoots.{format_leaves, next_cell}

-- the laws that say what is written
pub record AreLaws : Type 0 where
  pub again : AgainLaw
  pub alone : AloneLaw
  pub versions : VersionsLaw
  pub slots : RootSlotsLaw
  pub aside : RootAloneLaw
  pub clean : AloneCleanLaw

module _ (told : Bool) (app : ℕ) (lt : app < 8) (register : Option Cell) (old new : Medium)
    (at : IsRegisterAt told old.image app register) where
  -- ---- the next text is written in the register
  module _ (cell : Cell) (some : register ≡ Some cell) where
    at_some : IsRegisterAt told old.image app (Some cell)
    at_some = subst (λ (r : Option Cell). IsRegisterAt told old.image app r) some at

    pub next_left : generation_of cell + 1 < 2 ^ 64
    next_left = let left = at_some.1 in omega (arith, left)

    pub next_held : IsTrue told → (text : List ℕ) × CellAt old.image cell text
    next_held = at_some.2

    pub says_next : empty_says register ≡ absent (generation_of cell + 1)
    says_next = ap empty_says some

    module _ (next : Cell) (at_next : IsCellOf (place_of cell) (generation_of cell + 1) next)
        (held : IsTrue told → CellAt new.image next (root_text text.absent))
        (spared : IsTrue told → Spares (IsNoSlot (place_of cell)) old.image new.image)
      where
        pub next_root : RootAt told new.image app (Absent next)
        next_root = record {
          memory = next_cell app cell at_some.0 (generation_of cell + 1) next (omega arith) at_next;
          disk = held;
        }

        pub next_root_says : absent (generation_of next) ≡ empty_says register
        next_root_says = ap (λ (g : ℕ). absent g) at_next.counts ∙ sym says_next

        module _ (laws : AreLaws) (tells : IsTrue told) where
          pub next_app : app_at new.image app ≡ app_saying old.image app (empty_says register)
          next_app = subst (λ (s : Says). app_at new.image app ≡ app_saying old.image app s) (sym says_next)
              (put_app laws.again app lt cell at_some.0 text.absent tt old new laws.alone laws.versions laws.slots
              laws.aside laws.clean next at_next (held tells) (spared tells))

          pub next_clean : IsCleanApp app new.image
          next_clean = put_clean laws.again app lt cell at_some.0 text.absent tt old new laws.alone laws.versions
              laws.slots laws.aside laws.clean next at_next (held tells) (spared tells)
              (none_clean old.image app (generation_of cell + 1))

    module _ (puts : IsTrue told → Quiet old → EachCase (PutStops (place_of cell)
        (generation_of cell + 1) (root_text text.absent) old.image) old new) where
      pub next_outside : AgainLaw → (IsTrue told → Spares (IsNoSlot (place_of cell))
          old.image new.image) → Leaves told (IsNoRootSlot app) old new
      next_outside again spared = put_outside again app lt cell at_some.0 text.absent tt old new told spared puts

      pub next_stands : AgainLaw → WritingLaw → IsTrue told
          → StandsThroughout app (app_saying old.image app (empty_says register)) old new
      next_stands again writing tells = let held = at_some.2 tells in
          subst (λ (s : Says). StandsThroughout app (app_saying old.image app s) old new) (sym says_next)
          (put_stands again app lt cell at_some.0 text.absent tt old new writing held.0 held.1 (puts tells)
          (none_clean old.image app (generation_of cell + 1)))

  -- ---- a bad root is formatted
  module _ (none : register ≡ None) where
    says_first : empty_says register ≡ absent 1
    says_first = ap empty_says none

    module _ (cell : Cell) (is : IsCellOf (root_place app) 1 cell)
        (held : IsTrue told → CellAt new.image cell (root_text text.absent))
        (spared : IsTrue told → Spares (IsNoSlot (root_place app)) old.image new.image) where
      pub first_root : RootAt told new.image app (Absent cell)
      first_root = record {
        memory = record {
          place = is.lies;
          positive =
              subst (λ (h : ℕ). 1 ≤ h) (sym is.counts) (omega arith);
        };
        disk = held;
      }

      pub first_root_says : absent (generation_of cell) ≡ empty_says register
      first_root_says = ap (λ (g : ℕ). absent g) is.counts ∙ sym says_first

      module _ (laws : AreLaws) (tells : IsTrue told) where
        alone_first : IsAlone new.image (root_place app) 1 (root_text text.absent)
        alone_first = subst (λ (h : ℕ). IsAlone new.image (root_place app) h (root_text text.absent)) is.counts
            (cell_alone new.image app cell (root_text text.absent) is.lies (held tells))

        pub first_app : app_at new.image app ≡ app_saying old.image app (empty_says register)
        first_app = subst (λ (s : Says). app_at new.image app ≡ app_saying old.image app s) (sym says_first)
            (written_app laws.again laws.alone laws.versions laws.slots laws.aside laws.clean app 1 text.absent
            old.image new.image lt tt (spared tells) alone_first)

        pub first_clean : IsCleanApp app new.image
        first_clean = written_clean laws.again laws.alone laws.versions laws.slots laws.aside laws.clean app 1
            text.absent old.image new.image lt tt (spared tells) alone_first
            (none_clean old.image app 1)

    module _ (stops : IsTrue told → Quiet old → EachCase
        (FormatStops (root_place app) 1 (root_text text.absent) old.image) old new) where
      pub first_outside : (IsTrue told → Spares (IsNoSlot (root_place app)) old.image new.image)
          → Leaves told (IsNoRootSlot app) old new
      first_outside spared = format_leaves told app old new spared 1 (root_text text.absent) stops

      pub first_stands : AgainLaw → FormattingLaw → IsTrue told
          → StandsThroughout app (app_saying old.image app (empty_says register)) old new
      first_stands again formatting tells quiet clean c past =
          let bad = subst (λ (r : Option Cell). IsRegisterAt told old.image app r) none at tells in
          let after : app_saying old.image app (empty_says register)
          ≡ record { says = absent 1; lacking = []; states = [] } =
          ap (λ (s : Says). app_saying old.image app s) says_first ∙ empty_named old.image app 1 in
          subst (λ (a : App). StandsCase app (app_at old.image app) a c) (sym after)
          (formatting app (root_text text.absent) old.image c clean bad (again text.absent tt)
          (stops tells quiet c past))
