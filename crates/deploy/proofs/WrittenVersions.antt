-- The versions of a root that is to be written.
use Rattle.std.proofs.Common.{◌≤◌, ℕ, Option, None, Some, refl}
use denote.Ref.{Bor}
use Rattle.std.specs.Option.{ForSome}
use Rattle.std.specs.Prelude.{option_map}
use Rattle.root_text.specs.declared.versions.VersionText.{VersionText}
use Rattle.root_text.specs.RootText.{IfVersion, IsRoot, IsVersion, installed}
use Rattle.root_text.specs.Views.{version_said}

if_said : (previous : Option (Bor VersionText)) → ForSome previous (λ v. IsVersion (version_said v.now))
    → IfVersion (option_map (λ v. version_said v.now) previous)
if_said None each = tt
if_said (Some v) each = each v refl

-- it is a root, so that its text is short enough
pub versions_are_root : (bank : ℕ) (active : VersionText) (previous : Option (Bor VersionText)) → bank ≤ 1
    → IsVersion (version_said active)
    → ForSome previous (λ v. IsVersion (version_said v.now))
    → IsRoot (installed bank (version_said active) (option_map (λ v. version_said v.now) previous))
versions_are_root bank active previous ltb is each = record {
  in_bank = ltb;
  of_active = is;
  of_previous =
      if_said previous each;
}
