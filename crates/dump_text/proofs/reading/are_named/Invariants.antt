use Rattle.std.proofs.Common.{◌≡◌, drop, map}
use Rattle.deployment_model.specs.declared.configs.StorageConfig.{StorageConfig}
use Rattle.dump_text.specs.declared.dumps.DumpedStorage.{DumpedStorage}
use Rattle.dump_text.proofs.reading.are_named.Given as goal

-- where those that are left are named alike, all are
abbrev pub invariant-loop-number : goal.invariant-loop-number
invariant-loop-number l = map (λ (s : DumpedStorage). s.name) (drop l.number l.storages)
    ≡ map (λ (c : StorageConfig). c.name) (drop l.number l.configs)
    → map (λ (s : DumpedStorage). s.name) l.storages ≡ map (λ (c : StorageConfig). c.name) l.configs
