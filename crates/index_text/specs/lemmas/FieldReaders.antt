-- The fields of an element, its name, info and length, are read exactly.
use Rattle.std.proofs.Common.{◌≡◌, ℕ, zero, suc, ◌^◌, ◌<◌, ◌≤◌, true, false, cond, eqb, leb, List, [], ◌∷◌, ◌++◌}
use Rattle.std.proofs.Common.{length, Option, Some, None, refl, sym, ap, subst, ◌∙◌, append_assoc, arith}
use Rattle.std.specs.Prelude.{◌||◌, IsTrue}
use Rattle.std.specs.Int.{w32, w64, to_le_bytes}
use Rattle.std.proofs.lemmas.Bool.{and_parts, cond-false, eqb-true, false_from_ne_true, le-leb, leb-true}
use Rattle.std.proofs.lemmas.Bool.Decides.{nat_tests}
use Rattle.std.proofs.lemmas.Str.{IsUtf8-from_ascii}
use Rattle.std.specs.List.{list_all}
use Rattle.std.specs.Str.{IsAscii, IsUtf8}
use Rattle.per_base.specs.declared.elements.Cause.{Cause}
use Rattle.per_base.specs.declared.elements.Cause.TheVariants.{Installation, Update, Reset, Recovery, Application}
use Rattle.per_base.specs.declared.elements.StoreKind.{StoreKind}
use Rattle.per_base.specs.declared.elements.StoreKind.TheVariants.{Keys, Files}
use Rattle.per_base.specs.declared.elements.FileInfo.{FileInfo}
use Rattle.per_base.specs.Names.{IsName, in_name, is_name}
use Rattle.index_text.specs.Rules.{InfoInRange, InfoIsInRange, has_changed, has_info, max_len}
use Rattle.index_text.specs.Spelling.{cause_code, changed_text, file_info_text, info_text, name_text, store_kind_code}
use Rattle.per_base.specs.Fields.{AreBytes, byte_at, bytes_at, number_at, only_if}
use Rattle.index_text.specs.Reading.{cause_at, coded_cause, changed_at, file_info_at, info_at, coded_kind, len_at}
use Rattle.index_text.specs.Reading.{name_at}
use Rattle.per_base.specs.FieldLaws.{IsReader, Takes, Takes-then, bind_some, byte_reader, bytes_reader}
use Rattle.per_base.specs.FieldLaws.{code_step, number_reader, only_some, moved, only_true, wide_32, wide_64}

-- ---- names

name_takes : (bytes name rest : List ℕ) → AreBytes bytes → name_at bytes ≡ Some (name, rest)
    → Takes bytes (name_text name) rest × IsName name
unfolding name_at
name_takes bytes name rest fits e =
    let len = bind_some (byte_at bytes) _ (name, rest) e in
    let text = bind_some (bytes_at len.0.0 len.0.1) _ (name, rest) len.2 in
    let known = only_some (is_name text.0.0) text.0 (name, rest) text.2 in
    let took_len = byte_reader.takes bytes len.0.0 len.0.1 fits len.1 in
    let took_text = (bytes_reader len.0.0).takes len.0.1 text.0.0 text.0.1 took_len.0.rest_fits text.1 in
    let both : Takes bytes (len.0.0 ∷ text.0.0) text.0.1 = Takes-then took_len.0 took_text.0 in
    let whole : Takes bytes (name_text text.0.0) text.0.1 =
    subst (λ (n : ℕ). Takes bytes (n ∷ text.0.0) text.0.1) (sym took_text.1) both in
    subst (λ (p : List ℕ × List ℕ). Takes bytes (name_text p.0) p.1 × IsName p.0) {x = text.0} known.1 (whole, known.0)

name_again : (name rest : List ℕ) → IsName name → name_at (name_text name ++ rest) ≡ Some (name, rest)
unfolding name_at
name_again name rest fits = rw ((bytes_reader (length name)).again name rest refl)
    (only_true (is_name name) (name, rest) fits)

pub name_reader : IsReader name_at name_text IsName
name_reader = record { takes = name_takes; again = name_again }

-- a name is text, since its bytes are ASCII
in_name_ascii : (b : ℕ) → in_name b ≡ true → b < 128
in_name_ascii b h = grind (arith, nat_tests)

all_ascii : (bytes : List ℕ) → list_all in_name bytes ≡ true → IsAscii bytes
all_ascii [] h i = omega arith
all_ascii (b ∷ bytes) h zero = in_name_ascii b (and_parts (in_name b) (list_all in_name bytes) h).0
all_ascii (b ∷ bytes) h (suc i) = all_ascii bytes (and_parts (in_name b) (list_all in_name bytes) h).1 i

name_is_text : (bytes : List ℕ) → IsName bytes → IsUtf8 bytes
name_is_text bytes is = IsUtf8-from_ascii bytes (all_ascii bytes (and_parts _ (list_all in_name bytes) is).1)

pub no_text_no_name : (bytes : List ℕ) → (IsUtf8 bytes → ⊥) → only_if (is_name bytes) bytes ≡ None
no_text_no_name bytes no_text = cond-false (is_name bytes) (Some bytes) None
    (false_from_ne_true (is_name bytes) (λ is. no_text (name_is_text bytes is)))

-- ---- codes

pub kind_back : (code : ℕ) (kind : StoreKind) → coded_kind code ≡ Some kind → code ≡ store_kind_code kind
kind_back code kind e = code_step store_kind_code code 1 Keys kind _ refl e
    (λ e2. code_step store_kind_code code 2 Files kind None refl e2 (λ none. absurd cc))

pub coded_kind_again : (kind : StoreKind) → coded_kind (store_kind_code kind) ≡ Some kind
coded_kind_again Keys = refl
coded_kind_again Files = refl

cause_back : (code : ℕ) (cause : Cause) → coded_cause code ≡ Some cause → code ≡ cause_code cause
cause_back code cause e =
    code_step cause_code code 1 Installation cause _ refl e (λ e2.
    code_step cause_code code 2 Update cause _ refl e2 (λ e3.
    code_step cause_code code 3 Reset cause _ refl e3 (λ e4.
    code_step cause_code code 4 Recovery cause _ refl e4 (λ e5.
    code_step cause_code code 5 Application cause None refl e5 (λ none. absurd cc)))))

coded_cause_again : (cause : Cause) → coded_cause (cause_code cause) ≡ Some cause
coded_cause_again Installation = refl
coded_cause_again Update = refl
coded_cause_again Reset = refl
coded_cause_again Recovery = refl
coded_cause_again Application = refl

cause_takes : (bytes : List ℕ) (cause : Cause) (rest : List ℕ) → AreBytes bytes → cause_at bytes ≡ Some (cause, rest)
    → Takes bytes (cause_code cause ∷ []) rest × Unit {0}
unfolding cause_at
cause_takes bytes cause rest fits e =
    let code = bind_some (byte_at bytes) _ (cause, rest) e in
    let found = bind_some (coded_cause code.0.0) _ (cause, rest) code.2 in
    let took = byte_reader.takes bytes code.0.0 code.0.1 fits code.1 in
    let one : Takes bytes (cause_code found.0 ∷ []) code.0.1 =
    subst (λ (n : ℕ). Takes bytes (n ∷ []) code.0.1) (cause_back code.0.0 found.0 found.1) took.0 in
    moved (λ (p : Cause × List ℕ). Takes bytes (cause_code p.0 ∷ []) p.1 × Unit {0}) (found.0, code.0.1) (cause, rest)
    found.2 (one, tt)

cause_again : (cause : Cause) (rest : List ℕ) → Unit {0} → cause_at (cause_code cause ∷ [] ++ rest) ≡ Some (cause, rest)
unfolding cause_at
cause_again cause rest fits = rw (coded_cause_again cause) refl

cause_reader : IsReader cause_at (λ cause. cause_code cause ∷ []) (λ cause. Unit {0})
cause_reader = record { takes = cause_takes; again = cause_again }

-- ---- infos

moment : IsReader (number_at w64) (to_le_bytes w64) (λ n. n < 2 ^ 64)
moment = number_reader w64 (2 ^ 64) wide_64

file_info_takes : (bytes : List ℕ) (i : FileInfo) (rest : List ℕ) → AreBytes bytes → file_info_at bytes ≡ Some (i, rest)
    → Takes bytes (file_info_text i) rest × InfoInRange i
unfolding file_info_at
file_info_takes bytes i rest fits e =
    let created = bind_some (number_at w64 bytes) _ (i, rest) e in
    let modified = bind_some (number_at w64 created.0.1) _ (i, rest) created.2 in
    let accessed = bind_some (number_at w64 modified.0.1) _ (i, rest) modified.2 in
    let creation = bind_some (cause_at accessed.0.1) _ (i, rest) accessed.2 in
    let modification = bind_some (cause_at creation.0.1) _ (i, rest) creation.2 in
    let t0 = moment.takes bytes created.0.0 created.0.1 fits created.1 in
    let t1 = moment.takes created.0.1 modified.0.0 modified.0.1 t0.0.rest_fits modified.1 in
    let t2 = moment.takes modified.0.1 accessed.0.0 accessed.0.1 t1.0.rest_fits accessed.1 in
    let t3 = cause_reader.takes accessed.0.1 creation.0.0 creation.0.1 t2.0.rest_fits creation.1 in
    let t4 = cause_reader.takes creation.0.1 modification.0.0 modification.0.1 t3.0.rest_fits modification.1 in
    let whole = Takes-then t0.0 (Takes-then t1.0 (Takes-then t2.0 (Takes-then t3.0 t4.0))) in
    let made : FileInfo × List ℕ = (
      record {
        created = created.0.0;
        modified = modified.0.0;
        accessed =
            accessed.0.0;
        creation = creation.0.0;
        modification = modification.0.0;
      },
      modification.0.1,
    ) in
    moved (λ (p : FileInfo × List ℕ). Takes bytes (file_info_text p.0) p.1 × InfoInRange p.0) made (i, rest)
    modification.2 (whole, record { created = t0.1; modified = t1.1; accessed = t2.1 })

regroup_5 : (a b c d r : List ℕ) → (a ++ (b ++ (c ++ d))) ++ r ≡ a ++ (b ++ (c ++ (d ++ r)))
regroup_5 a b c d r = simp append_assoc

file_info_again : (i : FileInfo) (rest : List ℕ) → InfoInRange i
    → file_info_at (file_info_text i ++ rest) ≡ Some (i, rest)
unfolding file_info_at
file_info_again i rest fits =
    let causes : List ℕ = cause_code i.creation ∷ cause_code i.modification ∷ [] in
    ap file_info_at (regroup_5 (to_le_bytes w64 i.created) (to_le_bytes w64 i.modified) (to_le_bytes w64 i.accessed)
    causes rest)
    ∙ rw (
      moment.again i.created (to_le_bytes w64 i.modified ++ (to_le_bytes w64 i.accessed ++ (causes ++ rest)))
          fits.created,
      moment.again i.modified (to_le_bytes w64 i.accessed ++ (causes ++ rest)) fits.modified,
      moment.again i.accessed (causes ++ rest) fits.accessed,
      cause_again i.creation (cause_code i.modification ∷ rest) tt,
      cause_again i.modification rest tt,
    ) refl

info_takes : (kind : StoreKind) (bytes : List ℕ) (i : Option FileInfo) (rest : List ℕ) → AreBytes bytes
    → info_at kind bytes ≡ Some (i, rest) → Takes bytes (info_text i) rest
    × (IsTrue (has_info kind i) × InfoIsInRange i)
unfolding info_at
info_takes Keys bytes i rest fits e =
    moved (λ (p : Option FileInfo × List ℕ). Takes bytes (info_text p.0) p.1
    × (IsTrue (has_info Keys p.0) × InfoIsInRange p.0)) (None, bytes) (i, rest) e
    (record { parts = refl; rest_fits = fits }, (refl, tt))
info_takes Files bytes i rest fits e =
    let info = bind_some (file_info_at bytes) _ (i, rest) e in
    let took = file_info_takes bytes info.0.0 info.0.1 fits info.1 in
    moved (λ (p : Option FileInfo × List ℕ). Takes bytes (info_text p.0) p.1
    × (IsTrue (has_info Files p.0) × InfoIsInRange p.0)) (Some info.0.0, info.0.1) (i, rest) info.2
    (took.0, (refl, took.1))

info_again : (kind : StoreKind) (i : Option FileInfo) (rest : List ℕ) → IsTrue (has_info kind i) × InfoIsInRange i
    → info_at kind (info_text i ++ rest) ≡ Some (i, rest)
unfolding info_at
info_again Keys None rest fits = refl
info_again Keys (Some i) rest fits = absurd (let e = fits.0 in cc)
info_again Files None rest fits = absurd (let e = fits.0 in cc)
info_again Files (Some i) rest fits = rw (file_info_again i rest fits.1) refl

pub info_reader : (kind : StoreKind) → IsReader (info_at kind) info_text
    (λ i. IsTrue (has_info kind i) × InfoIsInRange i)
info_reader kind = record { takes = info_takes kind; again = info_again kind }

-- ---- the number of the last change

changed_takes : (format : ℕ) (bytes : List ℕ) (n : ℕ) (rest : List ℕ) → AreBytes bytes
    → changed_at format bytes ≡ Some (n, rest) → Takes bytes (changed_text format n) rest
    × (IsTrue (has_changed format n) × (n < 2 ^ 64))
unfolding changed_at
changed_takes format bytes n rest fits =
    elim (eqb format 2) as (λ b. cond b (number_at w64 bytes) (Some (0, bytes)) ≡ Some (n, rest)
    → Takes bytes (cond b (to_le_bytes w64 n) []) rest × (IsTrue (b || eqb n 0) × (n < 2 ^ 64))) [
      | true ↦ λ e. let t = moment.takes bytes n rest fits e in (t.0, (refl, t.1))
      | false ↦ λ e. moved (λ (p : ℕ × List ℕ). Takes bytes [] p.1 × (IsTrue (eqb p.0 0) × (p.0 < 2 ^ 64))) (0, bytes)
          (n, rest) e (record { parts = refl; rest_fits = fits }, (refl, omega arith))
    ]

changed_again : (format n : ℕ) (rest : List ℕ) → IsTrue (has_changed format n) × (n < 2 ^ 64)
    → changed_at format (changed_text format n ++ rest) ≡ Some (n, rest)
unfolding changed_at
changed_again format n rest fits =
    elim (eqb format 2) as (λ b. IsTrue (b || eqb n 0) → cond b (number_at w64 (cond b (to_le_bytes w64 n) [] ++ rest))
    (Some (0, cond b (to_le_bytes w64 n) [] ++ rest)) ≡ Some (n, rest)) [
      | true ↦ λ e. moment.again n rest fits.1
      | false ↦ λ e. ap (λ (k : ℕ). Some (k, rest)) (sym (eqb-true n 0 e))
    ] fits.0

pub changed_reader : (format : ℕ) → IsReader (changed_at format) (changed_text format)
    (λ n. IsTrue (has_changed format n) × (n < 2 ^ 64))
changed_reader format = record { takes = changed_takes format; again = changed_again format }

-- ---- the length

number_32 : IsReader (number_at w32) (to_le_bytes w32) (λ n. n < 2 ^ 32)
number_32 = number_reader w32 (2 ^ 32) wide_32

pub max_len_fits : (kind : StoreKind) → max_len kind < 2 ^ 32
max_len_fits Keys = omega arith
max_len_fits Files = omega arith

len_takes : (kind : StoreKind) (bytes : List ℕ) (n : ℕ) (rest : List ℕ) → AreBytes bytes
    → len_at kind bytes ≡ Some (n, rest) → Takes bytes (to_le_bytes w32 n) rest × (n ≤ max_len kind)
unfolding len_at
len_takes kind bytes n rest fits e =
    let len = bind_some (number_at w32 bytes) _ (n, rest) e in
    let small = only_some (leb len.0.0 (max_len kind)) len.0 (n, rest) len.2 in
    let took = number_32.takes bytes len.0.0 len.0.1 fits len.1 in
    subst (λ (p : ℕ × List ℕ). Takes bytes (to_le_bytes w32 p.0) p.1 × (p.0 ≤ max_len kind)) {x = len.0} small.1
    (took.0, leb-true len.0.0 (max_len kind) small.0)

len_again : (kind : StoreKind) (n : ℕ) (rest : List ℕ) → n ≤ max_len kind
    → len_at kind (to_le_bytes w32 n ++ rest) ≡ Some (n, rest)
unfolding len_at
len_again kind n rest le =
    let small : n < 2 ^ 32 = omega (arith, max_len_fits kind) in
    rw (number_32.again n rest small) (only_true (leb n (max_len kind)) (n, rest) (le-leb _ _ le))

pub len_reader : (kind : StoreKind) → IsReader (len_at kind) (to_le_bytes w32) (λ n. n ≤ max_len kind)
len_reader kind = record { takes = len_takes kind; again = len_again kind }
