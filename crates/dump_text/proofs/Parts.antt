-- A storage, an application and a dump: each is read under its name, and from what is written of it.
use Rattle.std.proofs.Common.{◌≡◌, ℕ, ◌+◌, ◌-◌, ◌<◌, ◌≤◌, List, [], ◌∷◌, ◌++◌, length, map, Bool, true, false}
use Rattle.std.proofs.Common.{◌&&◌, Option, Some, None, refl, sym, ap, ◌∙◌, arith, codes, decimal, take_at}
use Rattle.std.proofs.Common.{length-append}
use Rattle.std.specs.Prelude.{◌↔◌, IsTrue, if◌then◌else◌, nat_le, ⊤}
use Rattle.std.specs.Cmp.Lexicographic.{pointwise}
use Rattle.std.specs.Io.BufRead.{strip_last}
use Rattle.std.specs.List.{AllByRecursion, list_all}
use Rattle.std.specs.Str.{IsUtf8, bytes_eq, is_utf8}
use Rattle.std.proofs.Math.Seq.{get_or-append_seam}
use Rattle.std.proofs.lemmas.Bool.Decides.{same_from_decides}
use Rattle.std.proofs.lemmas.Bool.{and_parts, le-leb, leb-true}
use Rattle.std.proofs.lemmas.Fmt.{decimal_digit}
use Rattle.std.proofs.lemmas.Slice.Eq.{bytes_eq-Decides, slice_eq-Decides}
use Rattle.std.proofs.lemmas.Str.{IsUtf8-from_is_utf8, is_utf8-from_IsUtf8}
use Rattle.per_base.specs.declared.elements.FileInfo.{FileInfo}
use Rattle.per_base.specs.declared.elements.Fresh.{Fresh}
use Rattle.per_base.specs.declared.elements.StoreKind.{StoreKind}
use Rattle.per_base.specs.declared.elements.StoreKind.TheVariants.{Files, Keys}
use Rattle.per_base.specs.Fields.{◌>>=◌, only_if}
use Rattle.per_base.specs.Names.{is_name}
use Rattle.index_text.specs.lemmas.Order.{ascends_from_sorted, sorted_from_ascends}
use Rattle.deployment_model.specs.Conditions.{storage_names}
use Rattle.deployment_model.specs.Data.{DeploymentData, StorageData, deployment_data, storage_data}
use Rattle.deployment_model.specs.declared.configs.Deployment.{Deployment}
use Rattle.deployment_model.specs.declared.configs.StorageConfig.{StorageConfig}
use Rattle.manifest.specs.Reading.{deployment_in, value_of}
use Rattle.export_text.specs.Exports.{AreExportable, IsExportable, export_text}
use Rattle.serde_json.specs.Data.{Data, Members, member, no_members, object, put, string}
use Rattle.serde_json.specs.Read.{read}
use Rattle.dump_text.specs.declared.dumps.DumpedStorage.{DumpedStorage}
use Rattle.dump_text.specs.Dumps.{ApplicationData, AreSaid, application_number, are_exportable}
use Rattle.dump_text.specs.Dumps.{are_said, dump_in, dump_of, dumped_application_in, dumped_names, dumped_parts_in}
use Rattle.dump_text.specs.Dumps.{dumped_storage_in, exported_text, is_exportable, json_in, kind_in, said_by}
use Rattle.dump_text.specs.Elements.{dumped_element_in, dumped_elements_in, dumped_word, file_in, key_in}
use Rattle.dump_text.specs.Elements.{member_object, only_members, read_members}
use Rattle.dump_text.proofs.Members.{some_same}

bind_some : {X Y : Type 0} (o : Option X) (f : X → Option Y) (y : Y) → (o >>= f) ≡ Some y
    → (x : X) × (o ≡ Some x) × (f x ≡ Some y)
bind_some (Some x) f y is = (x, refl, is)
bind_some None f y is = absurd cc

only_same : {X : Type 0} (b : Bool) (x y : X) → only_if b x ≡ Some y → y ≡ x
only_same true x y is = sym (some_same x y is)
only_same false x y is = absurd cc

-- ---- each is read under its name

element_with : (name : List ℕ) → Option FileInfo → (bytes : List ℕ) → Fresh
element_with name info bytes = record { name = name; info = info; bytes = bytes }

pub element_named : (kind : StoreKind) (name : List ℕ) (d : Data) (x : Fresh) → dumped_element_in kind name d ≡ Some x
    → x.name ≡ name
unfolding dumped_element_in element_with
element_named Keys name d x is =
    let known = bind_some (only_if (is_name name) name)
    (λ n. key_in d >>= λ bytes. Some (element_with n None bytes)) x is in
    let bytes = bind_some (key_in d) (λ b. Some (element_with known.0 None b)) x known.2 in
    ap (λ (e : Fresh). e.name) (sym (some_same (element_with known.0 None bytes.0) x bytes.2))
    ∙ only_same (is_name name) name known.0 known.1
element_named Files name d x is =
    let known = bind_some (only_if (is_name name) name)
    (λ n. file_in d >>= λ file. Some (element_with n (Some file.0) file.1)) x is in
    let file = bind_some (file_in d) (λ (f : FileInfo × List ℕ). Some (element_with known.0 (Some f.0) f.1)) x known.2 in
    ap (λ (e : Fresh). e.name) (sym (some_same (element_with known.0 (Some file.0.0) file.0.1) x file.2))
    ∙ only_same (is_name name) name known.0 known.1

storage_with : List ℕ → List ℕ → DumpedStorage
storage_with name text = record { name = name; text = text }

-- what is left when the elements are known
storage_by : StoreKind → (name : List ℕ) → Option (List Fresh) → Option DumpedStorage
storage_by kind name contents = contents >>= λ cs. exported_text kind cs >>= λ text. Some (storage_with name text)

storage_by_named : (kind : StoreKind) (name : List ℕ) (contents : Option (List Fresh)) (s : DumpedStorage)
    → storage_by kind name contents ≡ Some s → s.name ≡ name
unfolding storage_by storage_with
storage_by_named kind name contents s is =
    let known = bind_some contents (λ cs. exported_text kind cs >>= λ text. Some (storage_with name text)) s is in
    let text = bind_some (exported_text kind known.0) (λ t. Some (storage_with name t)) s known.2 in
    ap (λ (z : DumpedStorage). z.name) (sym (some_same (storage_with name text.0) s text.2))

storage_steps : (members : Option Members) (alone : Option ⊤) (known : Bool) (kind : StoreKind) (name : List ℕ)
    (s : DumpedStorage) → (members >>= λ ms. alone >>= λ nothing. only_if known name >>= λ n.
    storage_by kind n (dumped_elements_in kind ms)) ≡ Some s → s.name ≡ name
storage_steps None alone known kind name s is = absurd cc
storage_steps (Some ms) None known kind name s is = absurd cc
storage_steps (Some ms) (Some nothing) false kind name s is = absurd cc
storage_steps (Some ms) (Some nothing) true kind name s is = storage_by_named kind name (dumped_elements_in kind ms) s is

pub storage_named : (name : List ℕ) (d : Data) (s : DumpedStorage) → dumped_storage_in name d ≡ Some s → s.name ≡ name
unfolding dumped_storage_in storage_by storage_with
storage_named name d s is =
    storage_steps (member_object (dumped_word (kind_in d)) d) (only_members 1 d) (is_name name) (kind_in d) name s is

digit_named : (digit number : ℕ) (b : Bool) → (nat_le 48 digit && nat_le digit 55) ≡ b
    → only_if b (digit - 48) ≡ Some number → decimal number ≡ digit ∷ []
digit_named digit number false within is = absurd cc
digit_named digit number true within is =
    let parts = and_parts (nat_le 48 digit) (nat_le digit 55) within in
    let least : 48 ≤ digit = leb-true 48 digit parts.0 in
    let most : digit ≤ 55 = leb-true digit 55 parts.1 in
    let same : digit - 48 ≡ number = some_same (digit - 48) number is in
    let spelled : 48 + number ≡ digit = omega arith in
    decimal_digit number (omega arith) ∙ ap (λ (n : ℕ). n ∷ []) spelled

number_named : (name : List ℕ) (number : ℕ) → application_number name ≡ Some number → decimal number ≡ name
number_named [] number is = absurd cc
number_named (digit ∷ []) number is = digit_named digit number (nat_le 48 digit && nat_le digit 55) refl is
number_named (digit ∷ other ∷ more) number is = absurd cc

number_read : (number : ℕ) → number < 8 → application_number (decimal number) ≡ Some number
number_read number lt =
    let digit = decimal_digit number (omega arith) in
    let least : nat_le 48 (48 + number) ≡ true = le-leb 48 (48 + number) (omega arith) in
    let most : nat_le (48 + number) 55 ≡ true = le-leb (48 + number) 55 (omega arith) in
    let back : 48 + number - 48 ≡ number = omega arith in
    ap application_number digit ∙ ap (λ (b : Bool). only_if (b && nat_le (48 + number) 55) (48 + number - 48)) least
    ∙ ap (λ (b : Bool). only_if b (48 + number - 48)) most ∙ ap (λ (n : ℕ). Some n) back

application_with : ℕ → (List ℕ × List DumpedStorage) → ApplicationData
application_with number parts = record { number = number; manifest = parts.0; storages = parts.1 }

pub application_named : (name : List ℕ) (d : Data) (a : ApplicationData) → dumped_application_in name d ≡ Some a
    → decimal a.number ≡ name
unfolding dumped_application_in application_with
application_named name d a is =
    let number = bind_some (application_number name)
    (λ n. dumped_parts_in d >>= λ parts. Some (application_with n parts)) a is in
    let parts = bind_some (dumped_parts_in d)
    (λ (p : List ℕ × List DumpedStorage). Some (application_with number.0 p)) a number.2 in
    ap (λ (z : ApplicationData). decimal z.number) (sym (some_same (application_with number.0 parts.0) a parts.2))
    ∙ number_named name number.0 number.1

-- ---- a storage

each_can : (kind : StoreKind) (fs : List Fresh) → AllByRecursion (IsExportable kind) fs
    → list_all (is_exportable kind) fs ≡ true
each_can kind [] each = refl
each_can kind (f ∷ fs) each =
    rw (each.0.info, le-leb (length f.bytes) _ each.0.len, each.0.content, each_can kind fs each.1) refl

each_is : (kind : StoreKind) (fs : List Fresh) → list_all (is_exportable kind) fs ≡ true
    → AllByRecursion (IsExportable kind) fs
each_is kind [] can = tt
each_is kind (f ∷ fs) can =
    let parts = and_parts (is_exportable kind f) (list_all (is_exportable kind) fs) can in
    let both = and_parts _ _ parts.0 in
    let first = and_parts _ _ both.0 in
    (record { info = first.0; len = leb-true (length f.bytes) _ first.1; content = both.1 }, each_is kind fs parts.1)

can_export : (kind : StoreKind) (fs : List Fresh) → AreExportable kind fs → are_exportable kind fs ≡ true
can_export kind fs can =
    rw (le-leb (length fs) 1024 can.few, ascends_from_sorted _ can.ascend, each_can kind fs can.each) refl

is_export : (kind : StoreKind) (fs : List Fresh) → are_exportable kind fs ≡ true → AreExportable kind fs
is_export kind fs can =
    let parts = and_parts _ (list_all (is_exportable kind) fs) can in
    let both = and_parts _ _ parts.0 in
    record {
      few = leb-true (length fs) 1024 both.0;
      each = each_is kind fs parts.1;
      ascend = sorted_from_ascends _ both.1;
    }

pub exported : (kind : StoreKind) (fs : List Fresh) → AreExportable kind fs
    → exported_text kind fs ≡ Some (export_text (record { kind = kind; contents = fs }))
unfolding exported_text
exported kind fs can =
    ap (λ (b : Bool). only_if b (export_text (record { kind = kind; contents = fs }))) (can_export kind fs can)

pub unexported : (kind : StoreKind) (fs : List Fresh) → (AreExportable kind fs → ⊥) → exported_text kind fs ≡ None
unfolding exported_text
unexported kind fs not = by (are_exportable kind fs) refl
  where
    by : (b : Bool) → are_exportable kind fs ≡ b → only_if b (export_text (record { kind = kind; contents = fs })) ≡ None
    by true is = absurd (not (is_export kind fs is))
    by false is = refl

-- what is read of an object with the elements of this kind as its one member
module _ (name text : List ℕ) (members : Members) (contents : List Fresh) where
  abbrev written : StoreKind → Data
  written kind = object (member (dumped_word kind) (object members) no_members)

  ends : (kind : StoreKind) → is_name name ≡ true → dumped_elements_in kind members ≡ Some contents
      → exported_text kind contents ≡ Some text
      → (only_if (is_name name) name >>= λ n. storage_by kind n (dumped_elements_in kind members))
      ≡ Some (record { name = name; text = text })
  unfolding storage_by storage_with
  ends kind is read spelled =
      ap (λ (b : Bool). only_if b name >>= λ n. storage_by kind n (dumped_elements_in kind members)) is
      ∙ ap (storage_by kind name) read
      ∙ ap (λ (o : Option (List ℕ)). o >>= λ t. Some (storage_with name t)) spelled

  pub storage_written : (kind : StoreKind) → is_name name ≡ true → dumped_elements_in kind members ≡ Some contents
      → exported_text kind contents ≡ Some text
      → dumped_storage_in name (written kind) ≡ Some (record { name = name; text = text })
  unfolding dumped_storage_in storage_by storage_with
  storage_written Keys is read spelled = ends Keys is read spelled
  storage_written Files is read spelled = ends Files is read spelled

-- ---- an application

names_said : (manifest : List ℕ) (storages : List DumpedStorage) (o : Option DeploymentData)
    → deployment_in manifest ≡ o → AreSaid manifest storages → said_by o storages ≡ true
names_said manifest storages None is said = refl
names_said manifest storages (Some d) is said =
    (slice_eq-Decides bytes_eq-Decides (dumped_names storages) (storage_names d) _ refl).1 (said d is)

said_so : (manifest : List ℕ) (storages : List DumpedStorage) → AreSaid manifest storages
    → are_said manifest storages ≡ true
unfolding are_said
said_so manifest storages said = names_said manifest storages (deployment_in manifest) refl said

said_names : (manifest : List ℕ) (storages : List DumpedStorage) (o : Option DeploymentData) (d : DeploymentData)
    → o ≡ Some d → said_by o storages ≡ true → dumped_names storages ≡ storage_names d
said_names manifest storages None d is said = absurd cc
said_names manifest storages (Some e) d is said =
    (slice_eq-Decides bytes_eq-Decides (dumped_names storages) (storage_names e) _ refl).0 said
    ∙ ap storage_names (some_same e d is)

pub so_said : (manifest : List ℕ) (storages : List DumpedStorage) → are_said manifest storages ≡ true
    → AreSaid manifest storages
unfolding are_said
so_said manifest storages said = λ d is. said_names manifest storages (deployment_in manifest) d is said

names_configured : (configs : List StorageConfig)
    → map (λ (c : StorageConfig). c.name) configs ≡ map (λ (s : StorageData). s.name) (map storage_data configs)
names_configured [] = refl
names_configured (c ∷ cs) = ap (λ (ns : List (List ℕ)). c.name ∷ ns) (names_configured cs)

-- whether they are named as the storages of the deployment that was read
pub named_so : (manifest : List ℕ) (found : Deployment) (configs : List StorageConfig) (storages : List DumpedStorage)
    (b : Bool) → (IsTrue b ↔ (dumped_names storages ≡ map (λ (c : StorageConfig). c.name) configs))
    → configs ≡ found.storages → deployment_in manifest ≡ Some (deployment_data found) → are_said manifest storages ≡ b
unfolding are_said
named_so manifest found configs storages b named is read =
    let names = map (λ (c : StorageConfig). c.name) configs in
    let all : storage_names (deployment_data found) ≡ names =
    sym (ap (map (λ (c : StorageConfig). c.name)) is ∙ names_configured found.storages) in
    ap (λ (o : Option DeploymentData). said_by o storages) read
    ∙ ap (pointwise bytes_eq (dumped_names storages)) all
    ∙ same_from_decides (pointwise bytes_eq (dumped_names storages) names) b
    (slice_eq-Decides bytes_eq-Decides (dumped_names storages) names _ refl) named

pub none_said : (manifest : List ℕ) (storages : List DumpedStorage) → deployment_in manifest ≡ None
    → are_said manifest storages ≡ true
unfolding are_said
none_said manifest storages is = ap (λ (o : Option DeploymentData). said_by o storages) is

pub application_written : (number : ℕ) (manifest : List ℕ) (members : Members) (storages : List DumpedStorage)
    → number < 8 → read_members dumped_storage_in members ≡ Some storages → AreSaid manifest storages
    → dumped_application_in (decimal number)
    (object (put (codes "storages") (object members) (put (codes "manifest") (string manifest) no_members)))
    ≡ Some (record { number = number; manifest = manifest; storages = storages })
unfolding dumped_application_in dumped_parts_in application_with
application_written number manifest members storages lt read said =
    ap (λ (o : Option ℕ). o >>= λ n. (read_members dumped_storage_in members >>= λ ss.
    only_if (are_said manifest ss) (manifest, ss)) >>= λ (parts : List ℕ × List DumpedStorage).
    Some (application_with n parts)) (number_read number lt)
    ∙ ap (λ (o : Option (List DumpedStorage)). (o >>= λ ss. only_if (are_said manifest ss) (manifest, ss)) >>=
    λ (parts : List ℕ × List DumpedStorage). Some (application_with number parts)) read
    ∙ ap (λ (b : Bool). only_if b (manifest, storages) >>= λ (parts : List ℕ × List DumpedStorage).
    Some (application_with number parts)) (said_so manifest storages said)

-- ---- a dump

pub dump_written : (ms : Members) (found : List ApplicationData) → read_members dumped_application_in ms ≡ Some found
    → dump_of (object (put (codes "applications") (object ms)
    (put (codes "format") (string (codes "per dump 1")) no_members))) ≡ Some found
unfolding dump_of
dump_written ms found read = read

-- ---- the text

line_feed_left : (json : List ℕ) → strip_last 10 (json ++ 10 ∷ []) ≡ json
line_feed_left json =
    let long : length (json ++ 10 ∷ []) - 1 ≡ length json = omega (arith, length-append json (10 ∷ [])) in
    let some : 0 < length (json ++ 10 ∷ []) = omega (arith, length-append json (10 ∷ [])) in
    rw (le-leb 1 (length (json ++ 10 ∷ [])) some, long, get_or-append_seam json 10 [] 0)
    (take_at json (10 ∷ []) (length json) refl)

value_read : (text : List ℕ) (d : Data) → IsUtf8 text → read text ≡ Some d → value_of text ≡ Some d
unfolding value_of
value_read text d utf8 is = rw (is_utf8-from_IsUtf8 text utf8) is

value_none : (text : List ℕ) → (IsUtf8 text → read text ≡ None) → value_of text ≡ None
unfolding value_of
value_none text none = by (is_utf8 text) refl
  where
    by : (b : Bool) → is_utf8 text ≡ b → (if b then read text else None) ≡ None
    by true is = none (IsUtf8-from_is_utf8 text is)
    by false is = refl

pub json_read : (text json : List ℕ) (d : Data) → json ≡ strip_last 10 text → IsUtf8 json → read json ≡ Some d
    → json_in text ≡ Some d
unfolding json_in
json_read text json d is utf8 reads = ap value_of (sym is) ∙ value_read json d utf8 reads

pub json_none : (text json : List ℕ) → json ≡ strip_last 10 text → (IsUtf8 json → read json ≡ None)
    → json_in text ≡ None
unfolding json_in
json_none text json is none = ap value_of (sym is) ∙ value_none json none

pub text_written : (json : List ℕ) (d : Data) (found : List ApplicationData) → IsUtf8 json → read json ≡ Some d
    → dump_of d ≡ Some found → dump_in (json ++ 10 ∷ []) ≡ Some found
unfolding dump_in json_in
text_written json d found utf8 is said =
    ap (λ (text : List ℕ). value_of text >>= dump_of) (line_feed_left json)
    ∙ ap (λ (o : Option Data). o >>= dump_of) (value_read json d utf8 is) ∙ said
