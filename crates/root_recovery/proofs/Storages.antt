-- The storages that a root names are beside its slots, and stay as they are while these alone are written.
use Rattle.std.proofs.Common.{ℕ, suc, ◌+◌, ◌<◌, ◌≤◌, List, [], ◌∷◌, ◌++◌, length, None, Some, refl, arith}
use Rattle.std.specs.Prelude.{map}
use Rattle.std.specs.List.{AllByRecursion, Contains}
use Rattle.disk_model.specs.Image.{Image}
use Rattle.disk_model.specs.Case.{Case}
use Rattle.disk_model.specs.Damage.{DecaysFor}
use Rattle.disk_model.specs.Frame.{IsSettledOn}
use Rattle.disk_model.specs.Place.{IsNoSlot}
use Rattle.disk_model.specs.lemmas.Frames.{settled_less}
use Rattle.deployment_model.specs.Conditions.{IsStorage}
use Rattle.deployment_model.specs.Data.{StorageData}
use Rattle.element_state.specs.declared.shapes.Shape.{Shape}
use Rattle.element_state.specs.Clean.{IsPiece, IsSound}
use Rattle.element_state.specs.States.{store_at}
use Rattle.element_laws.specs.Phases.{IsOfPlace, UntouchedLaw}
use Rattle.deploy_laws.specs.Apps.{AreClean, AreVersions, IsInBank, Says, nothing, absent, installed, shapes_named}
use Rattle.deploy_laws.specs.Laws.{StorageFilesLaw}
use Rattle.deploy_laws.specs.Places.{Named, root_place, shapes_from, shapes_in, storage_shape}
use Rattle.deploy_laws.specs.Stands.{AreKept}

-- at least one copy must agree, and none of its files is a slot of the root
pub record IsBesideRoot (app : ℕ) (shape : Shape) : Type 0 where
  pub fit : 1 ≤ shape.m
  pub beside : (f : ℕ) → IsOfPlace shape.place f → IsNoSlot (root_place app) f

module _ (files : StorageFilesLaw) (app : ℕ) (lt : app < 8) where
  fit : (bank number : ℕ) (s : StorageData) → IsStorage s → 1 ≤ (storage_shape app bank number s).m
  unfolding storage_shape
  fit bank number s keeps = keeps.some_agree

  beside_root : (bank number : ℕ) (s : StorageData) → bank ≤ 1 → number < 16 → IsStorage s
      → IsBesideRoot app (storage_shape app bank number s)
  beside_root bank number s ltb ltn keeps = record {
    fit = fit bank number s keeps;
    beside = λ f of copy parity ltc ltp e. let low = (files app bank number f s lt ltb ltn of).0 in
        absurd (omega (arith, lt, low, ltc, ltp, e));
  }

  all_from : (bank number : ℕ) (ss : List StorageData) → bank ≤ 1 → number + length ss ≤ 16
      → AllByRecursion IsStorage ss → AllByRecursion (IsBesideRoot app) (shapes_from app bank number ss)
  all_from bank number [] ltb le keeps = tt
  all_from bank number (s ∷ ss) ltb le keeps = (
    beside_root bank number s ltb (omega (arith, le)) keeps.0,
    all_from bank (suc number) ss ltb (omega (arith, le)) keeps.1,
  )

  all_in : (v : Named) → IsInBank v → AllByRecursion (IsBesideRoot app) (shapes_in app v)
  all_in v is = let few = is.keeps.few in
      all_from v.bank 0 v.deployment.storages is.in_bank (omega (arith, few)) is.keeps.each

  joined : (xs ys : List Shape) → AllByRecursion (IsBesideRoot app) xs → AllByRecursion (IsBesideRoot app) ys
      → AllByRecursion (IsBesideRoot app) (xs ++ ys)
  joined [] ys h k = k
  joined (x ∷ xs) ys h k = (h.0, joined xs ys h.1 k)

  pub all_beside : (says : Says) → AreVersions says → AllByRecursion (IsBesideRoot app) (shapes_named app says)
  unfolding shapes_named
  all_beside nothing is = tt
  all_beside (absent g) is = tt
  all_beside (installed g active None) is = joined (shapes_in app active) [] (all_in active is) tt
  all_beside (installed g active (Some previous)) is =
      joined (shapes_in app active) (shapes_in app previous) (all_in active is.of_active)
      (all_in previous is.of_previous)

-- ---- a stop while slots of the root are written, and then damage

-- each is kept as it was, and its place clean
pub record AreStill (image start : Image) (damaged : List ℕ) (shapes : List Shape) : Type 0 where
  pub kept : AreKept image damaged shapes (map (store_at start) shapes) (map (store_at start) shapes)
  pub clean : AreClean image shapes

module _ (untouched : UntouchedLaw) (app : ℕ) (start : Image) (c : Case) (damaged : List ℕ) (image : Image)
    (settled : IsSettledOn (IsNoSlot (root_place app)) start c) where
  pub still : (shapes : List Shape) → ((shape : Shape) → Contains shapes shape
      → IsSound shape.place c × DecaysFor (IsPiece shape.place) damaged c.left image)
      → AllByRecursion (IsBesideRoot app) shapes → AreClean start shapes → AreStill image start damaged shapes
  still [] covered beside clean = record { kept = tt; clean = tt }
  still (shape ∷ shapes) covered beside clean =
      let first = covered shape (0, omega arith, refl) in
      let it = untouched shape start (store_at start shape) c beside.0.fit clean.0
      (settled_less beside.0.beside settled) first.0.pieces damaged image first.1 in
      let rest = still shapes
      (λ s at. covered s (suc at.0, (let lt = at.1 in omega (arith, lt)), at.2)) beside.1 clean.1 in
      record { kept = (it.kept, rest.kept); clean = (it.clean, rest.clean) }
