-- The storages of the next version that remain to be made: those from number `built` on, of `count`.
use Rattle.std.specs.Prelude.{◌⊎◌, ◌<◌, ◌≤◌, ℕ}
use Rattle.deploy_laws.specs.Places.{storage_file}
use Rattle.deploy.specs.Clauses.{IsNoRootSlot}

-- the file is none of theirs
abbrev pub IsBesideRest : (app bank built count : ℕ) → ℕ → Type 0
IsBesideRest app bank built count file = (file < storage_file app bank built) ⊎ (storage_file app bank count ≤ file)

-- the file is none that a commit writes, which makes them and then writes the root
abbrev pub IsBesideCommit : (app bank built count : ℕ) → ℕ → Type 0
IsBesideCommit app bank built count file = IsNoRootSlot app file × IsBesideRest app bank built count file
