-- Audits that compute: disks, roots and storages in one state after another, and the whole text of each.
use Rattle.std.specs.Prelude.{◌≡◌, ℕ, List, [], ◌∷◌, ◌++◌, Bool, true, false, Some, None, codes}
use Rattle.std.specs.List.{flat_map, range_with_len}
use Rattle.std.specs.Fmt.{decimal, digits}
use Rattle.std.proofs.Common.{refl}
use Rattle.per_base.specs.declared.elements.Content.{Content}
use Rattle.per_base.specs.declared.elements.Content.TheVariants.{Good, Bad}
use Rattle.per_base.specs.declared.elements.Entry.{Entry}
use Rattle.per_base.specs.declared.elements.Scope.{Scope}
use Rattle.per_base.specs.declared.elements.Scope.TheVariants as scope
use Rattle.per_base.specs.declared.elements.StoreKind.TheVariants.{Keys}
use Rattle.deployment_model.specs.Data.{StorageData}
use Rattle.deployment_model.specs.declared.configs.CollectionStrategy.TheVariants.{KeepExisting}
use Rattle.element_state.specs.declared.shapes.View.{View}
use Rattle.element_state.specs.States.{State, Opens, Corrupt}
use Rattle.guarded_cell.specs.Held.{held_in_first, standing}
use Rattle.hash_guard.specs.SealedText.{verified}
use Rattle.value_code.specs.Reading.{decoded, kind_at}
use Rattle.deploy_laws.specs.Apps.{App, Says, nothing, absent, installed, app_at, says_at, shapes_named}
use Rattle.deploy_laws.specs.Places.{Named}
use Rattle.per_audit.specs.Audits.{elements_at, elements_of, findings_at, findings_of}
use Rattle.per_audit.specs.AuditText.{audit_text}

-- all that the samples compute with
unfoldable computed : ℕ
unfolding elements_at elements_of findings_at findings_of audit_text app_at says_at shapes_named held_in_first
    standing verified
    decoded kind_at digits
computed = 0

-- the text of an audit of this application alone
abbrev text_of : (app : ℕ) → (sole : Bool) → App → List ℕ
text_of app sole a = audit_text (elements_of app a) (findings_of app sole a)

-- ---- roots

unformatted : audit_text (elements_at (λ f. [])) (findings_at (λ f. []))
    ≡ flat_map (λ app. codes "lost " ++ decimal app ++ codes " - root 1,2,3\n") (range_with_len 0 8)
    ++ codes "findings 8\n"
unfolding computed
unformatted = refl

abbrev without : Says → List ℕ → App
without says lacking = record { says = says; lacking = lacking; states = [] }

formatted : text_of 0 true (without (absent 1) []) ≡ codes "sound\n"
unfolding computed
formatted = refl

bad_root : text_of 7 true (without nothing []) ≡ codes "lost 7 - root 1,2,3\nfindings 1\n"
unfolding computed
bad_root = refl

-- the third copy lacks the root, and another text is held
marked_root : text_of 3 false (without (absent 1) (3 ∷ []))
    ≡ codes "damaged 3 - root 3\nunsettled 3 - root -\nfindings 2\n"
unfolding computed
marked_root = refl

-- ---- one key `home` in a storage `fav` of which two of three copies must agree

abbrev fav : Scope → StorageData
fav scope = record {
  name = codes "fav";
  kind = Keys;
  minimum = 0;
  maximum = 4194304;
  strategy = KeepExisting;
  read_only = false;
  m = 2;
  n = 3;
  scope = scope;
  elements = [];
}

abbrev version_in : (bank : ℕ) → Scope → Named
version_in bank scope = record { bank = bank; deployment = record { version = 1; storages = fav scope ∷ [] } }

abbrev of_state : Scope → State → App
of_state scope state = record { says = installed 1 (version_in 0 scope) None; lacking = []; states = state ∷ [] }

abbrev home : Content → (lacking : List ℕ) → Entry
home content lacking = record {
  name = codes "home";
  info = None;
  changed = 1;
  len = 3;
  content = content;
  lacking =
      lacking;
}

abbrev seen : (lacking : List ℕ) → Entry → View
seen lacking entry = record { generation = 1; lacking = lacking; sole = true; entries = entry ∷ [] }

-- the encoding of u16:513
abbrev good : Content
good = Good (3 ∷ 1 ∷ 2 ∷ [])

sound : text_of 0 true (of_state scope.Element (Opens (seen [] (home good [])) []))
    ≡ codes "element 0 0 fav:home 1\nsound\n"
unfolding computed
sound = refl

one_damaged : text_of 0 true (of_state scope.Element (Opens (seen [] (home good (1 ∷ []))) []))
    ≡ codes "element 0 0 fav:home 1\ndamaged 0 0 fav:home 1\nfindings 1\n"
unfolding computed
one_damaged = refl

two_damaged : text_of 0 true (of_state scope.Element (Opens (seen [] (home (Bad (Some (3 ∷ 1 ∷ 2 ∷ []))) (1 ∷ 2 ∷ [])))
    []))
    ≡ codes "element 0 0 fav:home 1\nlost 0 0 fav:home 1,2\nfindings 1\n"
unfolding computed
two_damaged = refl

-- all copies agree on bytes that encode no value
no_value : text_of 0 true (of_state scope.Element (Opens (seen [] (home (Good (3 ∷ 1 ∷ [])) [])) []))
    ≡ codes "element 0 0 fav:home 1\nlost 0 0 fav:home -\nfindings 1\n"
unfolding computed
no_value = refl

-- with storage scope the copy lacks the storage, which is named once; an element that cannot be read is named besides
storage_damaged : text_of 0 true (of_state scope.Storage (Opens (seen (1 ∷ []) (home good (1 ∷ []))) []))
    ≡ codes "element 0 0 fav:home 1\ndamaged 0 0 fav 1\nfindings 1\n"
unfolding computed
storage_damaged = refl

storage_no_value : text_of 0 true (of_state scope.Storage (Opens (seen (1 ∷ []) (home (Good []) (1 ∷ []))) []))
    ≡ codes "element 0 0 fav:home 1\ndamaged 0 0 fav 1\nlost 0 0 fav:home 1\nfindings 2\n"
unfolding computed
storage_no_value = refl

-- another text is held besides
another_text : text_of 0 true (of_state scope.Element (Opens (seen (2 ∷ []) (home good (1 ∷ [])))
    (seen [] (home good []) ∷ [])))
    ≡ codes "element 0 0 fav:home 1\ndamaged 0 0 fav 2\nunsettled 0 0 fav -\ndamaged 0 0 fav:home 1\nfindings 3\n"
unfolding computed
another_text = refl

-- of a storage that does not open no element is listed
corrupt : text_of 0 true (of_state scope.Element (Corrupt (Some (seen [] (home good []))) []))
    ≡ codes "lost 0 0 fav 1,2,3\nfindings 1\n"
unfolding computed
corrupt = refl

corrupt_others : text_of 0 true (of_state scope.Element
    (Corrupt (Some (seen [] (home good []))) (seen [] (home good []) ∷ [])))
    ≡ codes "lost 0 0 fav 1,2,3\nunsettled 0 0 fav -\nfindings 2\n"
unfolding computed
corrupt_others = refl

-- ---- the active version in bank 1, and after it the previous one in bank 0

both_versions : text_of 5 true (record {
  says = installed 2 (version_in 1 scope.Element) (Some (version_in 0 scope.Element));
  lacking = [];
  states = Opens (seen [] (home good (3 ∷ []))) [] ∷ Opens (seen (2 ∷ []) (home good [])) [] ∷ [];
})
    ≡ codes "element 5 1 fav:home 1\nelement 5 0 fav:home 1\ndamaged 5 1 fav:home 3\ndamaged 5 0 fav 2\nfindings 2\n"
unfolding computed
both_versions = refl
