use Rattle.std.proofs.Common.{◌≡◌, rules, tests, [], ◌∷◌, string_bytes}
use Rattle.std.specs.Prelude.{codes}
use Rattle.std.specs.List.{list_all}
use Rattle.std.specs.BTreeMap.{keys}
use Rattle.std.proofs.lemmas.Iterator.Search.{all_from_yields_List}
use Rattle.std.proofs.lemmas.Iterator.Consumers.{YieldsList-from_rest}
use Rattle.manifest.specs.Values.{one_of}
use Rattle.manifest.proofs.ListLaws.{members_tested}
use Rattle.manifest.proofs.words.has_redundancy_members.Goals as goal

pub returns-in-Some : goal.returns-in-Some
returns-in-Some c =
    let of_each : c.all.result ≡ list_all (λ k. one_of (codes "m" ∷ codes "n" ∷ codes "scope" ∷ []) (string_bytes k))
    (keys c.in-Some.members.now) =
    all_from_yields_List (λ k. one_of (codes "m" ∷ codes "n" ∷ codes "scope" ∷ []) (string_bytes k)) _ _ c.all.result
    c.all.ensures.ran (YieldsList-from_rest (keys c.in-Some.members.now) c.keys.ensures.rest)
    (λ x b q k. search (rules, tests)) in
    members_tested (codes "m" ∷ codes "n" ∷ codes "scope" ∷ []) c.in-Some.members.now.entries _ _ c.in-Some.ensures
    of_each
