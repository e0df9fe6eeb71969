-- Elements, the header, what is hashed, and whole texts are read exactly.
use Rattle.std.proofs.Common.{◌≡◌, ℕ, ◌-◌, ◌^◌, ◌<◌, ◌≤◌, eqb, leb, List, [], ◌∷◌, ◌++◌, length, take, Option, Some}
use Rattle.std.proofs.Common.{None, Result, Ok, Err, refl, sym, ap, subst, ◌∙◌, append_assoc, arith, length-append}
use Rattle.std.specs.Prelude.{◌&&◌, IfOk, IsTrue}
use Rattle.std.specs.Int.{w16, w32, to_le_bytes}
use Rattle.std.specs.List.{flat_map, AllByRecursion}
use Rattle.std.specs.Str.{bytes_eq}
use Rattle.std.proofs.lemmas.Bool.{and_parts, eqb-true, leb-true, le-leb}
use Rattle.std.proofs.lemmas.List.{append-nil, nil_from_length, take_all, take_at}
use Rattle.std.proofs.lemmas.Slice.Eq.{bytes_eq-Decides}
use Rattle.sha2.specs.Sha256.{sha256}
use Rattle.sha2.proofs.Facts256.{length-sha256}
use Rattle.per_base.specs.declared.elements.Fresh.{Fresh}
use Rattle.per_base.specs.declared.elements.StoreKind.{StoreKind}
use Rattle.per_base.specs.Fields.{◌>>=◌, byte_at, bytes_at, many, number_at, AreBytes}
use Rattle.per_base.specs.FieldLaws.{AreBytes-take, IsReader, Takes, Takes-then, bind_some, byte_reader, bytes_reader}
use Rattle.per_base.specs.FieldLaws.{many_reader, moved, number_reader, only_some, only_true, some_is, wide_16}
use Rattle.value_code.specs.Reading.{is_content}
use Rattle.index_text.specs.Reading.{ascends, coded_kind, info_at, len_at, name_at}
use Rattle.index_text.specs.Rules.{max_len}
use Rattle.index_text.specs.Spelling.{info_text, name_text, store_kind_code}
use Rattle.index_text.specs.lemmas.FieldReaders.{coded_kind_again, info_reader, kind_back, len_reader, name_reader}
use Rattle.export_text.specs.declared.errors.ExportError.{ExportError}
use Rattle.export_text.specs.declared.errors.ExportError.TheVariants as errors
use Rattle.export_text.specs.declared.exports.Export.{Export}
use Rattle.export_text.specs.declared.reading.Header.{Header}
use Rattle.export_text.specs.Exports.{IsExport, IsExportable, IsExportedElement, body_hashed, body_read, content_at}
use Rattle.export_text.specs.Exports.{export_body, export_of, export_text, fresh_at, fresh_text, header_at, header_text}
use Rattle.export_text.specs.Exports.{mark, marked_at, names_of}
use Rattle.export_text.specs.Views.{Gives}
use Rattle.export_text.proofs.Order.{ascends_from_sorted, sorted_from_ascends}

-- ---- an element

content_takes : (kind : StoreKind) (n : ℕ) (bytes x rest : List ℕ) → AreBytes bytes
    → content_at kind n bytes ≡ Some (x, rest) → Takes bytes x rest × ((length x ≡ n) × IsTrue (is_content kind x))
unfolding content_at
content_takes kind n bytes x rest fits e =
    let got = bind_some (bytes_at n bytes) _ (x, rest) e in
    let passed = only_some (is_content kind got.0.0) got.0 (x, rest) got.2 in
    let took = (bytes_reader n).takes bytes got.0.0 got.0.1 fits got.1 in
    subst (λ (p : List ℕ × List ℕ). Takes bytes p.0 p.1 × ((length p.0 ≡ n) × IsTrue (is_content kind p.0))) {x = got.0}
    passed.1 (took.0, (took.1, passed.0))

content_again : (kind : StoreKind) (n : ℕ) (x rest : List ℕ) → (length x ≡ n) × IsTrue (is_content kind x)
    → content_at kind n (x ++ rest) ≡ Some (x, rest)
unfolding content_at
content_again kind n x rest fits = rw ((bytes_reader n).again x rest fits.0)
    (only_true (is_content kind x) (x, rest) fits.1)

abbrev IsGood : StoreKind → Fresh → Type 0
IsGood kind f = IsExportable kind f × IsExportedElement f

fresh_takes : (kind : StoreKind) (bytes : List ℕ) (x : Fresh) (rest : List ℕ) → AreBytes bytes
    → fresh_at kind bytes ≡ Some (x, rest) → Takes bytes (fresh_text x) rest × IsGood kind x
unfolding fresh_at fresh_text
fresh_takes kind bytes x rest fits e =
    let name = bind_some (name_at bytes) _ (x, rest) e in
    let info = bind_some (info_at kind name.0.1) _ (x, rest) name.2 in
    let len = bind_some (len_at kind info.0.1) _ (x, rest) info.2 in
    let content = bind_some (content_at kind len.0.0 len.0.1) _ (x, rest) len.2 in
    let t0 = name_reader.takes bytes name.0.0 name.0.1 fits name.1 in
    let t1 = (info_reader kind).takes name.0.1 info.0.0 info.0.1 t0.0.rest_fits info.1 in
    let t2 = (len_reader kind).takes info.0.1 len.0.0 len.0.1 t1.0.rest_fits len.1 in
    let t3 = content_takes kind len.0.0 len.0.1 content.0.0 content.0.1 t2.0.rest_fits content.1 in
    let from_len : List ℕ = to_le_bytes w32 (length content.0.0) ++ content.0.0 in
    let from_info : List ℕ = info_text info.0.0 ++ from_len in
    let len_is : Takes info.0.1 (to_le_bytes w32 (length content.0.0)) len.0.1 =
    subst (λ (n : ℕ). Takes info.0.1 (to_le_bytes w32 n) len.0.1) (sym t3.1.0) t2.0 in
    let w2 : Takes info.0.1 from_len content.0.1 = Takes-then {a = info.0.1} {x = to_le_bytes w32 (length content.0.0)}
    {b = len.0.1} {y = content.0.0} {c = content.0.1} len_is t3.0 in
    let w1 : Takes name.0.1 from_info content.0.1 = Takes-then {a = name.0.1} {x = info_text info.0.0} {b = info.0.1}
    {y = from_len} {c = content.0.1} t1.0 w2 in
    let whole : Takes bytes (name_text name.0.0 ++ from_info) content.0.1 =
    Takes-then {a = bytes} {x = name_text name.0.0} {b = name.0.1} {y = from_info} {c = content.0.1} t0.0 w1 in
    let small : length content.0.0 ≤ max_len kind = subst (λ (n : ℕ). n ≤ max_len kind) (sym t3.1.0) t2.1 in
    let made : Fresh × List ℕ = (record { name = name.0.0; info = info.0.0; bytes = content.0.0 }, content.0.1) in
    let good : IsGood kind made.0 = (
      record { info = t1.1.0; len = small; content = t3.1.1 },
      record { name = t0.1; info = t1.1.1 },
    ) in
    moved (λ (p : Fresh × List ℕ). Takes bytes (fresh_text p.0) p.1 × IsGood kind p.0) made (x, rest) content.2
    (whole, good)

regroup_4 : (a b c d r : List ℕ) → (a ++ (b ++ (c ++ d))) ++ r ≡ a ++ (b ++ (c ++ (d ++ r)))
regroup_4 a b c d r = simp append_assoc

fresh_again : (kind : StoreKind) (x : Fresh) (rest : List ℕ) → IsGood kind x
    → fresh_at kind (fresh_text x ++ rest) ≡ Some (x, rest)
unfolding fresh_at fresh_text
fresh_again kind x rest good =
    let from_len : List ℕ = to_le_bytes w32 (length x.bytes) ++ (x.bytes ++ rest) in
    let from_info : List ℕ = info_text x.info ++ from_len in
    let name = name_reader.again x.name from_info good.1.name in
    let info = (info_reader kind).again x.info from_len (good.0.info, good.1.info) in
    let len = (len_reader kind).again (length x.bytes) (x.bytes ++ rest) good.0.len in
    let content = content_again kind (length x.bytes) x.bytes rest (refl, good.0.content) in
    ap (fresh_at kind) (regroup_4 (name_text x.name) (info_text x.info) (to_le_bytes w32 (length x.bytes)) x.bytes rest)
    ∙ rw (name, info, len, content) refl

fresh_reader : (kind : StoreKind) → IsReader (fresh_at kind) fresh_text (IsGood kind)
fresh_reader kind = record { takes = fresh_takes kind; again = fresh_again kind }

contents_reader : (kind : StoreKind) (n : ℕ) → IsReader (many (fresh_at kind) n) (flat_map fresh_text)
    (λ fs. (length fs ≡ n) × AllByRecursion (IsGood kind) fs)
contents_reader kind n = many_reader (fresh_at kind) fresh_text (IsGood kind) (fresh_reader kind) n

-- each can be exported, and each is an element
parts_of : (kind : StoreKind) (fs : List Fresh) → AllByRecursion (IsGood kind) fs
    → AllByRecursion (IsExportable kind) fs × AllByRecursion IsExportedElement fs
parts_of kind [] good = (tt, tt)
parts_of kind (f ∷ fs) good = let rest = parts_of kind fs good.1 in ((good.0.0, rest.0), (good.0.1, rest.1))

from_parts : (kind : StoreKind) (fs : List Fresh) → AllByRecursion (IsExportable kind) fs
    → AllByRecursion IsExportedElement fs
    → AllByRecursion (IsGood kind) fs
from_parts kind [] each elements = tt
from_parts kind (f ∷ fs) each elements = ((each.0, elements.0), from_parts kind fs each.1 elements.1)

-- ---- the header

marked_takes : (bytes rest : List ℕ) → AreBytes bytes → marked_at bytes ≡ Some rest → Takes bytes mark rest
unfolding marked_at
marked_takes bytes rest fits e =
    let first = bind_some (bytes_at 5 bytes) _ rest e in
    let passed = only_some (bytes_eq first.0.0 mark) first.0.1 rest first.2 in
    let took = (bytes_reader 5).takes bytes first.0.0 first.0.1 fits first.1 in
    let is : first.0.0 ≡ mark = (bytes_eq-Decides first.0.0 mark).0 passed.0 in
    subst (λ (r : List ℕ). Takes bytes mark r) {x = first.0.1} passed.1
    (subst (λ (t : List ℕ). Takes bytes t first.0.1) is took.0)

marked_again : (rest : List ℕ) → marked_at (mark ++ rest) ≡ Some rest
unfolding marked_at
marked_again rest = rw ((bytes_reader 5).again mark rest refl) refl

header_takes : (bytes : List ℕ) (h : Header) (rest : List ℕ) → AreBytes bytes → header_at bytes ≡ Some (h, rest)
    → Takes bytes (header_text h.kind h.count) rest × (h.count ≤ 1024)
unfolding header_at
header_takes bytes h rest fits e =
    let marked = bind_some (marked_at bytes) _ (h, rest) e in
    let code = bind_some (byte_at marked.0) _ (h, rest) marked.2 in
    let kind = bind_some (coded_kind code.0.0) _ (h, rest) code.2 in
    let count = bind_some (number_at w16 code.0.1) _ (h, rest) kind.2 in
    let made : Header × List ℕ = (record { kind = kind.0; count = count.0.0 }, count.0.1) in
    let passed = only_some (leb count.0.0 1024) made (h, rest) count.2 in
    let t0 = marked_takes bytes marked.0 fits marked.1 in
    let t1 = byte_reader.takes marked.0 code.0.0 code.0.1 t0.rest_fits code.1 in
    let t2 = (number_reader w16 (2 ^ 16) wide_16).takes code.0.1 count.0.0 count.0.1 t1.0.rest_fits count.1 in
    let kind_is : Takes marked.0 (store_kind_code kind.0 ∷ []) code.0.1 =
    subst (λ (n : ℕ). Takes marked.0 (n ∷ []) code.0.1) (kind_back code.0.0 kind.0 kind.1) t1.0 in
    let whole = Takes-then t0 (Takes-then kind_is t2.0) in
    subst (λ (p : Header × List ℕ). Takes bytes (header_text p.0.kind p.0.count) p.1 × (p.0.count ≤ 1024)) {x = made}
    passed.1 (whole, leb-true count.0.0 1024 passed.0)

header_again : (h : Header) (rest : List ℕ) → h.count ≤ 1024
    → header_at (header_text h.kind h.count ++ rest) ≡ Some (h, rest)
unfolding header_at
header_again h rest few =
    let small : h.count < 2 ^ 16 = omega arith in
    rw (
      marked_again (store_kind_code h.kind ∷ to_le_bytes w16 h.count ++ rest),
      coded_kind_again h.kind,
      (number_reader w16 (2 ^ 16) wide_16).again h.count rest small,
    )
    (only_true (leb h.count 1024) (h, rest) (le-leb _ _ few))

-- ---- what is hashed

-- a text with nothing after it
ends_there : (bytes text rest : List ℕ) → Takes bytes text rest → rest ≡ [] → bytes ≡ text
ends_there bytes text rest took nothing = took.parts ∙ ap (λ (r : List ℕ). text ++ r) nothing ∙ append-nil text

body_takes : (body : List ℕ) (x : Export) → AreBytes body → body_read body ≡ Some x → IsExport x
    × (body ≡ export_body x)
unfolding body_read
body_takes body x fits e =
    let header = bind_some (header_at body) _ x e in
    let kind = header.0.0.kind in
    let contents = bind_some (many (fresh_at kind) header.0.0.count header.0.1) _ x header.2 in
    let fs = contents.0.0 in
    let made : Export = record { kind = kind; contents = fs } in
    let passed = only_some (eqb (length contents.0.1) 0 && ascends (names_of fs)) made x contents.2 in
    let tests = and_parts (eqb (length contents.0.1) 0) (ascends (names_of fs)) passed.0 in
    let t0 = header_takes body header.0.0 header.0.1 fits header.1 in
    let t1 = (contents_reader kind header.0.0.count).takes header.0.1 fs contents.0.1 t0.0.rest_fits contents.1 in
    let parts = parts_of kind fs t1.1.1 in
    let nothing : contents.0.1 ≡ [] = nil_from_length contents.0.1 (eqb-true (length contents.0.1) 0 tests.0) in
    let both : Takes body (header_text kind header.0.0.count ++ flat_map fresh_text fs) contents.0.1 =
    Takes-then t0.0 t1.0 in
    let whole : body ≡ header_text kind (length fs) ++ flat_map fresh_text fs =
    rw t1.1.0 (ends_there body _ contents.0.1 both nothing) in
    let few : length fs ≤ 1024 = subst (λ (n : ℕ). n ≤ 1024) (sym t1.1.0) t0.1 in
    let is : IsExport made = record {
      rules = record { few = few; each = parts.0; ascend = sorted_from_ascends (names_of fs) tests.1 };
      elements = parts.1;
    } in
    subst (λ (y : Export). IsExport y × (body ≡ export_body y)) {x = made} passed.1 (is, whole)

body_again : (x : Export) → IsExport x → body_read (export_body x) ≡ Some x
unfolding body_read
body_again x is =
    let header : Header = record { kind = x.kind; count = length x.contents } in
    let contents_text : List ℕ = flat_map fresh_text x.contents in
    let contents : many (fresh_at x.kind) (length x.contents) contents_text ≡ Some (x.contents, []) =
    ap (many (fresh_at x.kind) (length x.contents)) (sym (append-nil contents_text))
    ∙ (contents_reader x.kind (length x.contents)).again x.contents []
    (refl, from_parts x.kind x.contents is.rules.each is.elements) in
    rw (header_again header contents_text is.rules.few, contents)
    (only_true (ascends (names_of x.contents)) x (ascends_from_sorted (names_of x.contents) is.rules.ascend))

-- ---- the whole text

-- bytes before others are bytes
front_fits : (text front rest : List ℕ) → AreBytes text → text ≡ front ++ rest → AreBytes front
front_fits text front rest fits parts =
    subst AreBytes (take_at front rest (length front) refl)
    (subst (λ (t : List ℕ). AreBytes (take (length front) t)) parts (AreBytes-take (length front) text fits))

hashed_takes : (text body : List ℕ) → AreBytes text → body_hashed text ≡ Some body
    → AreBytes body × (text ≡ body ++ sha256 body)
unfolding body_hashed
hashed_takes text body fits e =
    let parts = bind_some (bytes_at (length text - 32) text) _ body e in
    let passed = only_some (bytes_eq parts.0.1 (sha256 parts.0.0)) parts.0.0 body parts.2 in
    let took = (bytes_reader (length text - 32)).takes text parts.0.0 parts.0.1 fits parts.1 in
    let is : parts.0.1 ≡ sha256 parts.0.0 = (bytes_eq-Decides parts.0.1 (sha256 parts.0.0)).0 passed.0 in
    let whole : text ≡ parts.0.0 ++ sha256 parts.0.0 = took.0.parts ∙ ap (λ (h : List ℕ). parts.0.0 ++ h) is in
    subst (λ (b : List ℕ). AreBytes b × (text ≡ b ++ sha256 b)) {x = parts.0.0} passed.1
    (front_fits text parts.0.0 parts.0.1 fits took.0.parts, whole)

hashed_again : (body : List ℕ) → body_hashed (body ++ sha256 body) ≡ Some body
unfolding body_hashed
hashed_again body =
    let len : length (body ++ sha256 body) - 32 ≡ length body =
    omega (arith, length-append body (sha256 body), length-sha256 body) in
    rw (len, (bytes_reader (length body)).again body (sha256 body) refl)
    (only_true (bytes_eq (sha256 body) (sha256 body)) body ((bytes_eq-Decides (sha256 body) (sha256 body)).1 refl))

-- what is read keeps the rules, and is spelled so
pub export_takes : (text : List ℕ) (x : Export) → AreBytes text → export_of text ≡ Some x
    → IsExport x × (text ≡ export_text x)
unfolding export_of export_text
export_takes text x fits e =
    let body = bind_some (body_hashed text) _ x e in
    let hashed = hashed_takes text body.0 fits body.1 in
    let read = body_takes body.0 x hashed.0 body.2 in
    (read.0, hashed.1 ∙ ap (λ (b : List ℕ). b ++ sha256 b) read.1)

-- what is spelled is read
pub export_again : (x : Export) → IsExport x → export_of (export_text x) ≡ Some x
unfolding export_of export_text
export_again x is = ap (λ (r : Option (List ℕ)). r >>= body_read) (hashed_again (export_body x)) ∙ body_again x is

-- ---- what follows

-- a text has one export
pub one_export : (x y : Export) → IsExport x → IsExport y → export_text x ≡ export_text y → x ≡ y
one_export x y x_is y_is same = some_is x y (sym (export_again x x_is) ∙ ap export_of same ∙ export_again y y_is)

pub read_keeps_rules : (text : List ℕ) (r : Result Export ExportError) → AreBytes text
    → Gives (λ x. x) r (export_of text) → IfOk r IsExport
read_keeps_rules text (Ok x) fits given = (export_takes text x fits given).0
read_keeps_rules text (Err e) fits given = tt

pub read_is_spelled : (text : List ℕ) (r : Result Export ExportError) → AreBytes text
    → Gives (λ x. x) r (export_of text)
    → IfOk r (λ x. text ≡ export_text x)
read_is_spelled text (Ok x) fits given = (export_takes text x fits given).1
read_is_spelled text (Err e) fits given = tt

-- what is refused is the text of no export
pub refused_is_none : (text : List ℕ) (r : Result Export ExportError) → Gives (λ x. x) r (export_of text)
    → r ≡ Err errors.NotAnExport → (x : Export) → IsExport x → text ≡ export_text x → ⊥
refused_is_none text (Ok y) given refused x is same = absurd cc
refused_is_none text (Err errors.OutOfMemory) given refused x is same = absurd cc
refused_is_none text (Err errors.NotAnExport) given refused x is same =
    let read : export_of text ≡ Some x = ap export_of same ∙ export_again x is in
    let none : export_of text ≡ None = given in
    absurd cc

-- a loop that has gone over all elements
pub all_written : (fs : List Fresh) (n : ℕ) → length fs ≤ n → take n fs ≡ fs
all_written fs n whole = take_all n fs whole

-- a body with its hash after it
pub under_hash : (text written slice digest body : List ℕ) → text ≡ written ++ digest → written ≡ body → slice ≡ written
    → digest ≡ sha256 slice → text ≡ body ++ sha256 body
under_hash text written slice digest body added is slice_is hashed =
    added ∙ ap (λ (t : List ℕ). t ++ digest) is ∙ ap (λ (d : List ℕ). body ++ d) (hashed ∙ ap sha256 (slice_is ∙ is))
