use Rattle.std.proofs.Common.{◌≡◌, drop}
use Rattle.value_model.specs.Views.{kinds_view}
use Rattle.migrate_fns.specs.Fingerprints.{fingerprints}
use Rattle.migrate_fns.proofs.fingerprints.+fingerprint.Given as goal

-- the types that are left finish it
abbrev pub invariant-fingerprints-loop-value_type : goal.invariant-fingerprints-loop-value_type
invariant-fingerprints-loop-value_type l = fingerprints l.all (kinds_view (drop l.value_type-index l.types))
    ≡ fingerprints 13 (kinds_view l.types)
