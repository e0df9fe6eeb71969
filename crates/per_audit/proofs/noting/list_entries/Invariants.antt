use Rattle.std.proofs.Common.{◌≡◌, ◌++◌, drop, map}
use Rattle.deployment_model.specs.Data.{storage_data}
use Rattle.per_audit.specs.Audits.{listed_element}
use Rattle.per_audit.proofs.noting.list_entries.Given as goal

-- what is listed, and the entries that are left
abbrev pub invariant-loop-entry : goal.invariant-loop-entry
invariant-loop-entry l = l.elements.items ++ map (listed_element l.app l.bank (storage_data l.config))
    (drop l.entry-index l.entries)
    ≡ l.fn.elements.items ++ map (listed_element l.app l.bank (storage_data l.config)) l.entries
