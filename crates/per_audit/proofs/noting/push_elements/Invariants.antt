use Rattle.std.proofs.Common.{◌≡◌, ◌++◌, drop}
use Rattle.std.specs.List.{flat_map}
use Rattle.deployment_model.specs.Data.{storage_data}
use Rattle.per_audit.specs.Audits.{of_element}
use Rattle.per_audit.proofs.noting.push_elements.Given as goal

-- what is found, and the entries that are left
abbrev pub invariant-loop-entry : goal.invariant-loop-entry
invariant-loop-entry l = l.findings.items ++ flat_map (of_element l.app l.bank (storage_data l.config))
    (drop l.entry-index l.entries)
    ≡ l.fn.findings.items ++ flat_map (of_element l.app l.bank (storage_data l.config)) l.entries
