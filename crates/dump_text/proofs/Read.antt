-- What is written of an element is read back.
use Rattle.std.proofs.Common.{◌≡◌, ℕ, List, codes, Bool, Option, Some, None, refl, sym, ap, ◌∙◌, subst}
use Rattle.std.proofs.Common.{◌≤◌, lit≤, true≢false}
use Rattle.std.specs.Prelude.{IsTrue}
use Rattle.per_base.specs.declared.elements.Cause.{Cause}
use Rattle.per_base.specs.declared.elements.Cause.TheVariants.{Installation, Update, Reset, Recovery, Application}
use Rattle.per_base.specs.declared.elements.FileInfo.{FileInfo}
use Rattle.per_base.specs.declared.elements.Fresh.{Fresh}
use Rattle.per_base.specs.declared.elements.StoreKind.{StoreKind}
use Rattle.per_base.specs.declared.elements.StoreKind.TheVariants.{Files, Keys}
use Rattle.per_base.specs.Fields.{◌>>=◌, only_if}
use Rattle.per_base.specs.Names.{is_name}
use Rattle.index_text.specs.Rules.{has_info}
use Rattle.value_model.specs.Encoding.{encoding}
use Rattle.value_model.specs.Trees.{Tree}
use Rattle.value_text.specs.Parsing.{value_in}
use Rattle.value_text.specs.Texts.{hex_text, value_text}
use Rattle.value_text.specs.Whole.{bytes_in}
use Rattle.serde_json.specs.Data.{Data, depth, string}
use Rattle.dump_text.specs.Elements.{cause_said, cause_word, dumped_element_in, file_data, file_in, has_members}
use Rattle.dump_text.specs.Elements.{info_in, key_in}
use Rattle.dump_text.specs.Elements.{member_bytes, member_cause, member_number}

-- ---- a key

pub key_read : (t : Tree) (bytes text : List ℕ) (d : Data) → d ≡ string text → text ≡ value_text t
    → value_in (value_text t) ≡ Some t → bytes ≡ encoding t → key_in d ≡ Some bytes
unfolding key_in
key_read t bytes text d is spelled again encoded =
    ap key_in (is ∙ ap (λ (x : List ℕ). string x) spelled)
    ∙ ap (λ (o : Option Tree). o >>= λ v. Some (encoding v)) again
    ∙ ap (λ (b : List ℕ). Some b) (sym encoded)

-- ---- a file

said_again : (c : Cause) → cause_said (cause_word c) ≡ Some c
unfolding cause_said
said_again Installation = refl
said_again Update = refl
said_again Reset = refl
said_again Recovery = refl
said_again Application = refl

info_with : (i : FileInfo) (creation modification : Cause) → FileInfo
info_with i creation modification = record {
  created = i.created;
  modified = i.modified;
  accessed = i.accessed;
  creation = creation;
  modification = modification;
}

info_read : (i : FileInfo) (content : List ℕ) → info_in (file_data i content) ≡ Some i
unfolding info_in member_cause info_with
info_read i content =
    ap (λ (o : Option Cause). o >>= λ creation. cause_said (cause_word i.modification) >>= λ modification.
    Some (info_with i creation modification)) (said_again i.creation)
    ∙ ap (λ (o : Option Cause). o >>= λ modification. Some (info_with i i.creation modification))
    (said_again i.modification)

pub info_is : (d : Data) (created modified accessed : ℕ) (creation modification : Cause)
    → member_number (codes "created") d ≡ Some created → member_number (codes "modified") d ≡ Some modified
    → member_number (codes "accessed") d ≡ Some accessed → member_cause (codes "creation") d ≡ Some creation
    → member_cause (codes "modification") d ≡ Some modification
    → info_in d ≡ Some (record {
      created = created;
      modified = modified;
      accessed = accessed;
      creation = creation;
      modification = modification;
    })
unfolding info_in
info_is d created modified accessed creation modification first second third fourth fifth =
    rw (first, second, third, fourth, fifth) refl

pub file_read : (i : FileInfo) (content : List ℕ) (d : Data) → d ≡ file_data i content
    → bytes_in (hex_text content) ≡ Some content → file_in d ≡ Some (i, content)
unfolding file_in member_bytes
file_read i content d is again =
    ap file_in is
    ∙ ap (λ (o : Option FileInfo). o >>= λ info. member_bytes (codes "content") (file_data i content) >>= λ bytes.
    only_if (has_members 6 (file_data i content)) (info, bytes)) (info_read i content)
    ∙ ap (λ (o : Option (List ℕ)). o >>= λ bytes. only_if (has_members 6 (file_data i content)) (i, bytes)) again

pub file_nests : (i : FileInfo) (content : List ℕ) (d : Data) → d ≡ file_data i content → depth d ≤ 1
file_nests i content d is = subst (λ (x : Data). depth x ≤ 1) (sym is) (lit≤ tt)

-- ---- an element

pub key_element : (kind : StoreKind) (e : Fresh) (d : Data) → e.info ≡ None → IsTrue (has_info kind e.info)
    → IsTrue (is_name e.name) → key_in d ≡ Some e.bytes → dumped_element_in kind e.name d ≡ Some e
unfolding dumped_element_in
key_element Files e d is has named read =
    absurd (true≢false (sym (subst (λ (o : Option FileInfo). IsTrue (has_info Files o)) is has)))
key_element Keys e d is has named read =
    ap (λ (b : Bool). only_if b e.name >>= λ name. key_in d >>= λ bytes.
    Some (record { name = name; info = None; bytes = bytes })) named
    ∙ ap (λ (o : Option (List ℕ)). o >>= λ bytes. Some (record { name = e.name; info = None; bytes = bytes })) read
    ∙ ap (λ (o : Option FileInfo). Some (record { name = e.name; info = o; bytes = e.bytes })) (sym is)

pub file_element : (kind : StoreKind) (e : Fresh) (i : FileInfo) (d : Data) → e.info ≡ Some i
    → IsTrue (has_info kind e.info) → IsTrue (is_name e.name) → file_in d ≡ Some (i, e.bytes)
    → dumped_element_in kind e.name d ≡ Some e
unfolding dumped_element_in
file_element Keys e i d is has named read =
    absurd (true≢false (sym (subst (λ (o : Option FileInfo). IsTrue (has_info Keys o)) is has)))
file_element Files e i d is has named read =
    ap (λ (b : Bool). only_if b e.name >>= λ name. file_in d >>= λ file.
    Some (record { name = name; info = Some file.0; bytes = file.1 })) named
    ∙ ap (λ (o : Option (FileInfo × List ℕ)). o >>= λ file.
    Some (record { name = e.name; info = Some file.0; bytes = file.1 })) read
    ∙ ap (λ (o : Option FileInfo). Some (record { name = e.name; info = o; bytes = e.bytes })) (sym is)
