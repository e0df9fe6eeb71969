-- The next version of an application: it is made in one bank, and the version before it is in the other.
use Rattle.std.specs.Prelude.{ℕ, ◌-◌, List, [], ◌++◌, Option, Some, None}
use Rattle.per_base.specs.declared.elements.Fresh.{Fresh}
use Rattle.root_text.specs.RootText.{Version}
use Rattle.root_text.specs.RootText as text
use Rattle.deploy_laws.specs.Apps.{App, says_by}
use Rattle.deploy_rows.specs.Rows.{made_states}

-- the root over which it is made: nothing is installed, or one version, in the other bank
abbrev pub root_before : (bank : ℕ) → (previous : Option Version) → text.Root
root_before bank None = text.absent
root_before bank (Some v) = text.installed (1 - bank) v None

-- the application once the root is written: its storages have these contents, and those of the version before it are as
-- they were
abbrev pub next_app : (generation bank : ℕ) → Version → (previous : Option Version) → List (List Fresh) → App → App
next_app g bank v previous contents a = record {
  says = says_by g (Some (text.installed bank v previous));
  lacking = [];
  states = made_states contents ++ a.states;
}
