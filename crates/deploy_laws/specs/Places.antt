-- Where the root and the storages of an application are.
use Rattle.std.specs.Prelude.{◌⊎◌, ℕ, suc, ◌+◌, ◌*◌, ◌<◌, ◌≤◌, min, max, List, [], ◌∷◌, Option, Some, None, option_map}
use Rattle.std.proofs.Common.{arith}
use Rattle.disk_model.specs.declared.place.Place.{Place}
use Rattle.element_state.specs.declared.shapes.Shape.{Shape}
use Rattle.deployment_model.specs.Data.{DeploymentData, StorageData, deployment_data}
use Rattle.deployment_model.specs.declared.configs.Deployment.{Deployment}

-- ---- places

-- A place has from 1 to 8 copies of 4 files each, and its files have numbers below 2^32: 32 files from 4294967263 on
-- are the last. What goes beyond is cut off; nothing that a deployment gives does.
-- the number of a first file, cut so that 32 files from it on have numbers below 2^32
abbrev pub cut_first : ℕ → ℕ
cut_first first = min first 4294967263

-- a number of copies, cut to 1 to 8
abbrev pub cut_copies : ℕ → ℕ
cut_copies copies = min 8 (max 1 copies)

pub some_copies : (copies : ℕ) → 1 ≤ cut_copies copies
some_copies copies = omega arith

pub few_copies : (copies : ℕ) → cut_copies copies ≤ 8
few_copies copies = omega arith

pub cut_has_room : (first copies : ℕ) → cut_first first + 4 * cut_copies copies ≤ 4294967295
cut_has_room first copies = omega arith

-- the place whose first file has this number, with this many copies
abbrev pub place_at : (first copies : ℕ) → Place
place_at first copies = record {
  first = cut_first first;
  copies = cut_copies copies;
  some = some_copies copies;
  few = few_copies copies;
  room = cut_has_room first copies;
}

-- the first file of an application, by its number: it has 4096 from here on
abbrev pub first_file : ℕ → ℕ
first_file app = 4096 * app

-- the copies of a root
abbrev pub copies_of_root : ℕ
copies_of_root = 3

-- how many copies of a root must agree
abbrev pub agreeing_of_root : ℕ
agreeing_of_root = 2

-- the place of an application's root: the first 12 files of the application
abbrev pub root_place : ℕ → Place
root_place app = place_at (first_file app) copies_of_root

-- the first file of storage `number`, counted from 0, of a bank, 0 or 1: the banks begin 1024 files after the
-- application's first, and have 512 each; each storage has 32
abbrev pub storage_file : (app bank number : ℕ) → ℕ
storage_file app bank number = first_file app + 1024 + 512 * bank + 32 * number

-- ---- shapes

-- the shape of storage `number` of a bank: its name, its files with a copy for each of the n of its redundancy, its
-- kind, how many copies must agree on what, and the most bytes that it may have
unfoldable pub storage_shape : (app bank number : ℕ) → StorageData → Shape
storage_shape app bank number s = record {
  name = s.name;
  place = place_at (storage_file app bank number) s.n;
  kind = s.kind;
  m = s.m;
  scope = s.scope;
  allowed = s.maximum;
}

-- the shapes of these storages, whose numbers are counted from `number`
abbrev pub shapes_from : (app bank number : ℕ) → List StorageData → List Shape
shapes_from app bank number [] = []
shapes_from app bank number (s ∷ ss) = storage_shape app bank number s ∷ shapes_from app bank (suc number) ss

-- a version that a root names: the bank that it is in, and its deployment, which is its storages and their elements
pub record Named : Type 0 where
  pub bank : ℕ
  pub deployment : DeploymentData

-- a version in this bank, where there is one
abbrev pub version_in_bank : (bank : ℕ) → Option Deployment → Option Named
version_in_bank bank previous = option_map (λ d. record { bank = bank; deployment = deployment_data d }) previous

-- the shapes of all storages of an application's version, by their numbers
abbrev pub shapes_in : ℕ → Named → List Shape
shapes_in app v = shapes_from app v.bank 0 v.deployment.storages

-- the shapes of all storages of an application's version, by their numbers; none where there is no version
abbrev pub shapes_if : ℕ → Option Named → List Shape
shapes_if app None = []
shapes_if app (Some v) = shapes_in app v

-- ---- the files of an application

-- one of the files of the application
abbrev pub IsFileOf : ℕ → ℕ → Type 0
IsFileOf app file = (first_file app ≤ file) × (file < first_file app + 4096)

-- the file is none of the application's
abbrev pub IsNoFileOf : ℕ → ℕ → Type 0
IsNoFileOf app file = (file < first_file app) ⊎ (first_file app + 4096 ≤ file)

-- the file is not one of the 32 of a storage
abbrev pub IsBeside : (app bank number : ℕ) → ℕ → Type 0
IsBeside app bank number file = (file < storage_file app bank number) ⊎ (storage_file app bank number + 32 ≤ file)

-- the file is not one of the 512 of a bank
abbrev pub IsOutsideBank : (app bank : ℕ) → ℕ → Type 0
IsOutsideBank app bank file = (file < storage_file app bank 0) ⊎ (storage_file app bank 0 + 512 ≤ file)

-- the file is not one of the root's
abbrev pub IsNoRootFile : ℕ → ℕ → Type 0
IsNoRootFile app file = (file < first_file app) ⊎ (first_file app + 12 ≤ file)

-- the file is none that an install or an update in this bank writes: no file of the root, and none of the bank
abbrev pub IsBesideNew : (app bank : ℕ) → ℕ → Type 0
IsBesideNew app bank file = IsNoRootFile app file × IsOutsideBank app bank file
