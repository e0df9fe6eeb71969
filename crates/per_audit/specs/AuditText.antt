-- The text of an audit: a line for each element, a line for each finding, and what they come to.
use Rattle.std.specs.Prelude.{ℕ, List, [], ◌∷◌, ◌++◌, codes, length}
use Rattle.std.specs.List.{flat_map}
use Rattle.std.specs.Fmt.{decimal}
use Rattle.command_text.specs.Replies.{unit_text, copies_text, number_or_dash}
use Rattle.per_audit.specs.declared.findings.Finding.{Finding}
use Rattle.per_audit.specs.declared.findings.FindingKind.{FindingKind}
use Rattle.per_audit.specs.declared.findings.FindingKind.TheVariants.{Damaged, Lost, Unsettled}
use Rattle.per_audit.specs.declared.findings.Listed.{Listed}

-- the application, the bank, the storage with the element, and the generation of its last change
abbrev pub element_line : Listed → List ℕ
element_line l = codes "element " ++ decimal l.app ++ codes " " ++ decimal l.bank ++ codes " " ++ l.storage ++ codes ":"
    ++ l.element
    ++ codes " " ++ decimal l.changed ++ codes "\n"

-- the word for a kind of finding
abbrev pub kind_word : FindingKind → List ℕ
kind_word Damaged = codes "damaged"
kind_word Lost = codes "lost"
kind_word Unsettled = codes "unsettled"

-- what is found, the application, the bank, which a root has not, the unit and the copies
abbrev pub finding_line : Finding → List ℕ
finding_line f = kind_word f.kind ++ codes " " ++ decimal f.app ++ codes " " ++ number_or_dash f.bank ++ codes " "
    ++ unit_text f.unit
    ++ codes " " ++ copies_text f.copies ++ codes "\n"

-- a disk is sound where nothing is found, and else the findings are counted
abbrev pub verdict : List Finding → List ℕ
verdict [] = codes "sound\n"
verdict (f ∷ findings) = codes "findings " ++ decimal (length (f ∷ findings)) ++ codes "\n"

-- the whole text: the elements, the findings, and the verdict
unfoldable pub audit_text : List Listed → List Finding → List ℕ
audit_text elements findings = flat_map element_line elements ++ flat_map finding_line findings ++ verdict findings
