-- Rows that leave one version, or none.
use Rattle.std.proofs.Common.{◌≡◌, ℕ, suc, ◌+◌, ◌-◌, ◌<◌, ◌≤◌, List, [], ◌∷◌, ◌++◌, length, map, take, drop, Bool, true}
use Rattle.std.proofs.Common.{false, cond, Option, Some, None, IfNone, is_some, option_map, Result, Ok, Err, refl, sym}
use Rattle.std.proofs.Common.{ap, ◌∙◌, subst, arith}
use Rattle.std.proofs.lemmas.Bool.{le-leb, lt-leb}
use Rattle.per_base.specs.declared.errors.PerError.{PerError}
use Rattle.per_base.specs.declared.errors.PerError.TheVariants as error
use Rattle.per_base.specs.declared.errors.Limit.TheVariants as limit
use Rattle.per_base.specs.declared.errors.Unit.TheVariants as unit
use Rattle.disk_model.specs.Image.{Image}
use Rattle.guarded_cell.specs.Cells.{generation_of}
use Rattle.guarded_cell.specs.declared.cell.Cell.{Cell}
use Rattle.deployment_model.specs.Data.{StorageData}
use Rattle.element_state.specs.declared.shapes.Shape.{Shape}
use Rattle.element_state.specs.States.{State, greatest_generation, store_at}
use Rattle.root_text.specs.declared.versions.VersionText.{VersionText}
use Rattle.root_text.specs.RootText.{root_text}
use Rattle.root_text.specs.RootText as text
use Rattle.root_text.specs.Views.{version_said}
use Rattle.deploy_laws.specs.Apps.{App, AreClean, Says, absent, installed, named_in_bank, nothing, shapes_named}
use Rattle.deploy_laws.specs.Apps.{app_saying}
use Rattle.deploy_laws.specs.Apps as apps
use Rattle.deploy_laws.specs.Places.{Named, shapes_from, shapes_in, storage_shape}
use Rattle.deploy_rows.specs.Rows.{empty_app, finishing, not_busy, not_worn, rolling_back, wiping}
use Rattle.deploy.specs.declared.leaving.Lone.{Lone}
use Rattle.deploy.specs.declared.roots.Installed as parts
use Rattle.deploy.specs.declared.roots.Outcome.{Outcome}
use Rattle.deploy.specs.declared.roots.Root.{Root}
use Rattle.deploy.specs.declared.roots.Root.TheVariants.{Bad, Absent, Installed}
use Rattle.deploy.specs.Leaving.{IfRegister, IsEmptied, IsLone, IsRegister, IsRootRefused, LeadsToRoot, empty_says}
use Rattle.deploy.specs.Leaving.{refused_or, register_of}
use Rattle.deploy.specs.Roots.{AreParts, previous_texts, root_app, root_says, root_texts}

-- ---- generations

pub worn : (g : ℕ) (x : Result App PerError) → greatest_generation ≤ g
    → not_worn g x ≡ Err (error.LimitReached limit.Generations)
worn g x le = ap (λ (b : Bool). cond b (Err (error.LimitReached limit.Generations)) x) (le-leb greatest_generation g le)

pub not_yet_worn : (g : ℕ) (x : Result App PerError) → g < greatest_generation → not_worn g x ≡ x
not_yet_worn g x lt = ap (λ (b : Bool). cond b (Err (error.LimitReached limit.Generations)) x)
    (lt-leb greatest_generation g lt)

-- ---- the storages of one of two versions

first_states : (image : Image) (app bank n : ℕ) (ss : List StorageData) (more : List Shape)
    → take (length ss) (map (store_at image) (shapes_from app bank n ss ++ more))
    ≡ map (store_at image) (shapes_from app bank n ss ++ [])
first_states image app bank n [] more = refl
first_states image app bank n (s ∷ ss) more = ap (λ (states : List State). store_at image (storage_shape app bank n s)
    ∷ states) (first_states image app bank (suc n) ss more)

append_none : (shapes : List Shape) → shapes ++ [] ≡ shapes
append_none [] = refl
append_none (shape ∷ shapes) = ap (λ (more : List Shape). shape ∷ more) (append_none shapes)

last_states : (image : Image) (app bank n : ℕ) (ss : List StorageData) (more : List Shape)
    → drop (length ss) (map (store_at image) (shapes_from app bank n ss ++ more)) ≡ map (store_at image) (more ++ [])
last_states image app bank n [] more = ap (λ (shapes : List Shape). map (store_at image) shapes)
    (sym (append_none more))
last_states image app bank n (s ∷ ss) more = last_states image app bank (suc n) ss more

first_clean : (image : Image) (shapes more : List Shape) → AreClean image (shapes ++ more)
    → AreClean image (shapes ++ [])
first_clean image [] more all = tt
first_clean image (shape ∷ shapes) more all = (all.0, first_clean image shapes more all.1)

last_clean : (image : Image) (shapes more : List Shape) → AreClean image (shapes ++ more) → AreClean image (more ++ [])
last_clean image [] more all = subst (λ (shapes : List Shape). AreClean image shapes) (sym (append_none more)) all
last_clean image (shape ∷ shapes) more all = last_clean image shapes more all.1

-- ---- the previous version is forgotten

module _ (g : ℕ) (active previous : Named) (left : g < greatest_generation) where
  abbrev both : Says
  both = installed g active (Some previous)

  finish_row : (image : Image) (app : ℕ) → finishing (app_saying image app both)
      ≡ Ok (app_saying image app (installed (g + 1) active None))
  unfolding finishing shapes_named
  finish_row image app = not_yet_worn g _ left
      ∙ ap (λ (states : List State). Ok (record {
        says = installed (g + 1) active None;
        lacking = [];
        states =
            states;
      }))
      (first_states image app active.bank 0 active.deployment.storages (shapes_in app previous))

  finish_clean : (image : Image) (app : ℕ) → AreClean image (shapes_named app both)
      → AreClean image (shapes_named app (installed (g + 1) active None))
  unfolding shapes_named
  finish_clean image app all = first_clean image (shapes_in app active) (shapes_in app previous) all

  finish_leads : LeadsToRoot finishing both (installed (g + 1) active None)
  finish_leads = record { row_is = finish_row; clean = finish_clean }

  rollback_row : (image : Image) (app : ℕ) → rolling_back None (app_saying image app both)
      ≡ Ok (app_saying image app (installed (g + 1) previous None))
  unfolding rolling_back shapes_named
  rollback_row image app = not_yet_worn g _ left
      ∙ ap (λ (states : List State). Ok (record {
        says = installed (g + 1) previous None;
        lacking = [];
        states =
            states;
      }))
      (last_states image app active.bank 0 active.deployment.storages (shapes_in app previous))

  rollback_clean : (image : Image) (app : ℕ) → AreClean image (shapes_named app both)
      → AreClean image (shapes_named app (installed (g + 1) previous None))
  unfolding shapes_named
  rollback_clean image app all = last_clean image (shapes_in app active) (shapes_in app previous) all

  rollback_leads : LeadsToRoot (rolling_back None) both (installed (g + 1) previous None)
  rollback_leads = record { row_is = rollback_row; clean = rollback_clean }

installed_register : (i : parts.Installed) → generation_of i.cell < greatest_generation
    → IsRegister (Installed i) i.cell
installed_register i left = record {
  of_root = λ app of. of.0;
  held =
      λ image app on. (
        root_text (text.installed i.bank (version_said i.active) (option_map version_said i.previous)),
        on,
      );
  left = left;
}

module _ (cell : Cell) (bank : ℕ) (active : VersionText) where
  abbrev parts_with : Option VersionText → parts.Installed
  parts_with previous = record { cell = cell; bank = bank; active = active; previous = previous }

  abbrev only_active : Lone
  only_active = record { cell = cell; bank = bank; version = active }

  abbrev only_previous : VersionText → Lone
  only_previous v = record { cell = cell; bank = 1 - bank; version = v }

  pub finish_lone : (previous : Option VersionText) → is_some previous ≡ true → AreParts (parts_with previous)
      → generation_of cell < greatest_generation
      → IsLone finishing (Installed (parts_with previous)) only_active
  finish_lone None some are left = absurd cc
  finish_lone (Some v) some are left = record {
    register = installed_register (parts_with (Some v)) left;
    in_bank = are.in_bank;
    kept = are.active;
    leads = finish_leads (generation_of cell) (named_in_bank bank (version_said active))
        (named_in_bank (1 - bank) (version_said v))
        left;
  }

  pub first_text : (previous : Option VersionText) → active.text ∷ []
      ≡ take 1 (root_texts (Installed (parts_with previous)))
  first_text None = refl
  first_text (Some v) = refl

  pub last_text : (previous : Option VersionText) (v : VersionText) → previous ≡ Some v
      → v.text ∷ [] ≡ drop 1 (root_texts (Installed (parts_with previous)))
  last_text previous v some = sym (ap previous_texts some)

  pub finish_none : (previous : Option VersionText) (o : Outcome) → is_some previous ≡ false
      → o ≡ record { root = Installed (parts_with previous); refused = Some error.NoPreviousVersion }
      → IsRootRefused finishing (Installed (parts_with previous)) o
  unfolding finishing
  finish_none None o none is = record {
    same = ap (λ (x : Outcome). x.root) is;
    refusal =
        (error.NoPreviousVersion, ap (λ (x : Outcome). x.refused) is, refl);
  }
  finish_none (Some v) o none is = absurd cc

  pub finish_worn : (previous : Option VersionText) (o : Outcome) (e : PerError) → is_some previous ≡ true
      → greatest_generation ≤ generation_of cell
      → e ≡ error.LimitReached limit.Generations → o ≡ record {
        root = Installed (parts_with previous);
        refused =
            Some e;
      }
      → IsRootRefused finishing (Installed (parts_with previous)) o
  unfolding finishing
  finish_worn None o e some le e_is is = absurd cc
  finish_worn (Some v) o e some le e_is is = record {
    same = ap (λ (x : Outcome). x.root) is;
    refusal = (
      e,
      ap (λ (x : Outcome). x.refused) is,
      worn (generation_of cell) _ le
          ∙ ap (λ (x : PerError). Err x) (sym e_is),
    );
  }

  -- where there is a previous version, a rollback is refused while a storage is open and where no generation is left
  module _ (busy : Option (List ℕ)) (g : ℕ) (counts : g ≡ generation_of cell) (refused : Option PerError)
      (row : (x : Result App PerError) → not_busy busy (not_worn g x) ≡ refused_or refused x) where
    row_at : (now : Option PerError) → refused ≡ now → (x : Result App PerError)
        → not_busy busy (not_worn (generation_of cell) x) ≡ refused_or now x
    row_at now is x = subst (λ (n : ℕ). not_busy busy (not_worn n x) ≡ refused_or now x) counts
        (row x ∙ ap (λ (o : Option PerError). refused_or o x) is)

    left_at : (now : Option PerError) → now ≡ None → IfNone now (g < greatest_generation)
        → generation_of cell < greatest_generation
    left_at None is left = subst (λ (n : ℕ). n < greatest_generation) counts left
    left_at (Some e) is left = absurd cc

    lone_if : (storage : Option (List ℕ)) (v : VersionText)
        → ((x : Result App PerError) → not_busy storage (not_worn (generation_of cell) x) ≡ x)
        → AreParts (parts_with (Some v)) → generation_of cell < greatest_generation
        → IsLone (rolling_back storage) (Installed (parts_with (Some v))) (only_previous v)
    lone_if None v so are left = record {
      register = installed_register (parts_with (Some v)) left;
      in_bank = omega arith;
      kept = are.previous;
      leads = rollback_leads (generation_of cell) (named_in_bank bank (version_said active))
          (named_in_bank (1 - bank) (version_said v))
          left;
    }
    lone_if (Some name) v so are left = absurd (let e = so (Ok (empty_app 0)) in cc)

    pub rollback_lone : (previous : Option VersionText) (v : VersionText) → previous ≡ Some v → refused ≡ None
        → IfNone refused (g < greatest_generation)
        → AreParts (parts_with previous) → IsLone (rolling_back busy) (Installed (parts_with previous))
        (only_previous v)
    rollback_lone previous v some none left are = subst (λ (p : Option VersionText).
        IsLone (rolling_back busy) (Installed (parts_with p)) (only_previous v)) (sym some)
        (lone_if busy v (row_at None none) (subst (λ (p : Option VersionText). AreParts (parts_with p)) some are)
        (left_at refused none left))

    pub rollback_refused : (previous : Option VersionText) (v : VersionText) (e : PerError) (o : Outcome)
        → previous ≡ Some v → refused ≡ Some e
        → o ≡ record { root = Installed (parts_with (Some v)); refused = Some e }
        → IsRootRefused (rolling_back busy) (Installed (parts_with previous)) o
    unfolding rolling_back
    rollback_refused previous v e o some is made = subst
        (λ (p : Option VersionText). IsRootRefused (rolling_back busy) (Installed (parts_with p)) o) (sym some)
        (record {
          same = ap (λ (x : Outcome). x.root) made;
          refusal =
              (e, ap (λ (x : Outcome). x.refused) made, row_at (Some e) is _);
        })

  pub rollback_none : (busy : Option (List ℕ)) (previous : Option VersionText) (o : Outcome) → previous ≡ None
      → o ≡ record { root = Installed (parts_with None); refused = Some error.NoPreviousVersion }
      → IsRootRefused (rolling_back busy) (Installed (parts_with previous)) o
  unfolding rolling_back
  rollback_none busy previous o none is = subst (λ (p : Option VersionText).
      IsRootRefused (rolling_back busy) (Installed (parts_with p)) o) (sym none)
      (record {
        same = ap (λ (x : Outcome). x.root) is;
        refusal =
            (error.NoPreviousVersion, ap (λ (x : Outcome). x.refused) is, refl);
      })

-- ---- no version to leave

pub is_refused : (row : App → Result App PerError) (root same : Root) (o : Outcome) (e : PerError) → root ≡ same
    → o ≡ record { root = same; refused = Some e }
    → row (root_app same []) ≡ Err e → IsRootRefused row root o
is_refused row root same o e is made refuses = subst (λ (r : Root). IsRootRefused row r o) (sym is)
    (record { same = ap (λ (x : Outcome). x.root) made; refusal = (e, ap (λ (x : Outcome). x.refused) made, refuses) })

pub finish_bad : finishing (root_app Bad []) ≡ Err (error.IntegrityCorrupted unit.Root)
unfolding finishing
finish_bad = refl

pub finish_absent : (cell : Cell) → finishing (root_app (Absent cell) []) ≡ Err error.NotInstalled
unfolding finishing
finish_absent cell = refl

pub rollback_bad : (busy : Option (List ℕ)) → rolling_back busy (root_app Bad [])
    ≡ Err (error.IntegrityCorrupted unit.Root)
unfolding rolling_back
rollback_bad busy = refl

pub rollback_absent : (busy : Option (List ℕ)) (cell : Cell)
    → rolling_back busy (root_app (Absent cell) []) ≡ Err error.NotInstalled
unfolding rolling_back
rollback_absent busy cell = refl

-- ---- everything is taken away

-- a wipe by the generation of the root, which is 0 for a bad one
wipe_is : (busy : Option (List ℕ)) (says : Says) (lacking : List ℕ) (states : List State)
    → wiping busy (record { says = says; lacking = lacking; states = states })
    ≡ not_busy busy (not_worn (apps.says_generation says) (Ok (empty_app (apps.says_generation says + 1))))
unfolding wiping
wipe_is (Some name) says lacking states = refl
wipe_is None nothing lacking states = refl
wipe_is None (absent g) lacking states = refl
wipe_is None (installed g active previous) lacking states = refl

pub empty_named : (image : Image) (app g : ℕ) → app_saying image app (absent g) ≡ empty_app g
unfolding shapes_named
empty_named image app g = refl

pub none_clean : (image : Image) (app g : ℕ) → AreClean image (shapes_named app (absent g))
unfolding shapes_named
none_clean image app g = tt

-- the next root has the next generation
empty_next : (root : Root) → empty_says (register_of root) ≡ absent (apps.says_generation (root_says root) + 1)
empty_next Bad = refl
empty_next (Absent cell) = refl
empty_next (Installed i) = refl

registered : (root : Root) → apps.says_generation (root_says root) < greatest_generation
    → IfRegister root (register_of root)
registered Bad left = refl
registered (Absent cell) left = record {
  of_root = λ app of. of;
  held =
      λ image app on. (root_text text.absent, on);
  left = left;
}
registered (Installed i) left = installed_register i left

module _ (busy : Option (List ℕ)) (root : Root) (g : ℕ) (counts : g ≡ apps.says_generation (root_says root))
    (refused : Option PerError)
    (row : (x : Result App PerError) → not_busy busy (not_worn g x) ≡ refused_or refused x) where
  row_next : (lacking : List ℕ) (states : List State) (now : Option PerError) → refused ≡ now
      → wiping busy (record { says = root_says root; lacking = lacking; states = states })
      ≡ refused_or now (Ok (empty_app (apps.says_generation (root_says root) + 1)))
  row_next lacking states now is = wipe_is busy (root_says root) lacking states
      ∙ subst (λ (n : ℕ). not_busy busy (not_worn n (Ok (empty_app (apps.says_generation (root_says root) + 1))))
      ≡ refused_or now (Ok (empty_app (apps.says_generation (root_says root) + 1)))) counts
      (row (Ok (empty_app (apps.says_generation (root_says root) + 1)))
      ∙ ap (λ (o : Option PerError). refused_or o (Ok (empty_app (apps.says_generation (root_says root) + 1)))) is)

  left_next : (now : Option PerError) → now ≡ None → IfNone now (g < greatest_generation)
      → apps.says_generation (root_says root) < greatest_generation
  left_next None is left = subst (λ (n : ℕ). n < greatest_generation) counts left
  left_next (Some e) is left = absurd cc

  pub wipe_emptied : (cell : Option Cell) → cell ≡ register_of root → refused ≡ None
      → IfNone refused (g < greatest_generation) → IsEmptied (wiping busy) root cell
  wipe_emptied cell is none left = subst (λ (c : Option Cell). IsEmptied (wiping busy) root c) (sym is) (record {
    register = registered root (left_next refused none left);
    leads = subst (λ (s : Says). LeadsToRoot (wiping busy) (root_says root) s) (sym (empty_next root)) (record {
      row_is = λ image app. row_next [] (app_saying image app (root_says root)).states None none
          ∙ ap (λ (a : App). Ok a) (sym (empty_named image app (apps.says_generation (root_says root) + 1)));
      clean = λ image app all. none_clean image app (apps.says_generation (root_says root) + 1);
    });
  })

  pub wipe_refused : (e : PerError) (o : Outcome) → refused ≡ Some e → o ≡ record { root = root; refused = Some e }
      → IsRootRefused (wiping busy) root o
  wipe_refused e o is made = is_refused (wiping busy) root root o e refl made (row_next [] [] (Some e) is)
