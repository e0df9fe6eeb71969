-- What is said of a manifest that breaks a rule.
use Rattle.std.specs.Prelude.{◌≡◌, ℕ, List, [], ◌++◌, codes, nat_eq, if◌then◌else◌, Option, Some, None}
use Rattle.std.specs.Fmt.{decimal}
use Rattle.per_reasons.specs.Initials.{SaysInitial}

-- what the rule of this number forbids, as a refusal says it
abbrev pub rule_text : ℕ → List ℕ
rule_text rule =
    if nat_eq rule 1 then codes ": it has more than 65536 bytes" else (
    if nat_eq rule 2 then codes ": it is no JSON" else (
    if nat_eq rule 3 then codes ": it is no object" else (
    if nat_eq rule 4 then codes ": version is no whole number from 1 to 4294967295" else (
    if nat_eq rule 5 then codes ": keyValueStorages or fileStorages is no list of objects" else (
    if nat_eq rule 6 then codes ": it has a member that is none of version, keyValueStorages and fileStorages" else (
    if nat_eq rule 7 then codes ": it has more than 16 storages" else (
    if nat_eq rule 8 then codes ": it has a member that is none of a storage of its kind" else (
    if nat_eq rule 9 then codes ": its name is none of 1 to 255 letters, digits, _, -, . and /" else (
    if nat_eq rule 10 then codes ": another storage has its name" else (
    if nat_eq rule 11 then
    codes ": minimumSustainedSize is none from 0 to 4194304, or maximumAllowedSize none from 1 to 4194304" else (
    if nat_eq rule 12 then codes ": minimumSustainedSize is above maximumAllowedSize" else (
    if nat_eq rule 13 then codes ": up to it maximumAllowedSize sums up to more than 16777216" else (
    if nat_eq rule 14 then codes ": updateStrategy is neither keepExisting nor delete" else (
    if nat_eq rule 15 then codes ": readOnly is neither true nor false" else (
    if nat_eq rule 16 then
    codes ": redundancy is no object of m, n and scope, or scope is neither element nor storage" else (
    if nat_eq rule 17 then codes ": m and n of redundancy are not there, or not 1 <= m <= n <= 7" else (
    if nat_eq rule 18 then codes ": keyValuePairs or files is no list of at most 1024 objects" else (
    if nat_eq rule 19 then codes ": it has a member that is none of an element of its kind" else (
    if nat_eq rule 20 then
    codes ": its name is none of 1 to 255 letters, digits, _, -, . and /, or another has it" else (
    if nat_eq rule 21 then codes ": type is no type, or one more than 8 deep" else (
    if nat_eq rule 22 then
    codes ": initial is no value of its type, or no content in lower-case hexadecimal digits" else (
    if nat_eq rule 23 then
    codes ": updateStrategy is none of keepExisting, overwrite and delete, or overwrite has no initial" else (
    if nat_eq rule 24 then
    codes ": up to it the initial contents are more than maximumAllowedSize" else [])))))))))))))))))))))))

-- the part of a manifest in which it breaks a rule, where it is known
abbrev pub place_text : Option (List ℕ) → List ℕ
place_text None = []
place_text (Some part) = codes " in " ++ part

-- what is wrong with the text of an initial value, where that is said
abbrev pub initial_text : Option (List ℕ) → List ℕ
initial_text None = []
initial_text (Some why) = codes "; " ++ why

-- which byte shows that it is no JSON, or what is wrong with an initial value, where the rule is this
abbrev pub end_text : (rule byte : ℕ) → (why : Option (List ℕ)) → List ℕ
end_text rule byte why =
    if nat_eq rule 2 then codes ", which its byte " ++ (decimal byte ++ codes " shows") else (
    if nat_eq rule 22 then initial_text why else [])

-- the text names the rule that a manifest breaks, perhaps a part of it, and what the rule says; where that is the rule
-- of initial contents, also what is wrong with the initial value of the first key that breaks it
pub record IsRuleText (rule : ℕ) (manifest text : List ℕ) : Type 0 where
  pub part : Option (List ℕ)
  pub byte : ℕ
  pub why : Option (List ℕ)
  pub said : rule ≡ 22 → SaysInitial manifest why
  pub spelled : text ≡ codes "the manifest breaks rule "
      ++ (decimal rule ++ (place_text part ++ (rule_text rule ++ end_text rule byte why)))

-- there is such a text
abbrev pub NamesRule : (rule : ℕ) → (manifest : List ℕ) → Option (List ℕ) → Type 0
NamesRule rule manifest None = ⊥
NamesRule rule manifest (Some text) = IsRuleText rule manifest text
