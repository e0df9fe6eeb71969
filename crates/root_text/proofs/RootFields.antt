-- The text of a root is read exactly.
use Rattle.std.proofs.Common.{◌≡◌, ◌⊎◌, ℕ, ◌^◌, ◌<◌, ◌≤◌, Bool, true, false, eqb, leb, cond, List, [], ◌∷◌, ◌++◌}
use Rattle.std.proofs.Common.{length, Option, Some, None, refl, sym, ap, subst, ◌∙◌, append_assoc, inl, inr, ⊎_elim}
use Rattle.std.proofs.Common.{arith}
use Rattle.std.specs.Prelude.{option_map, ⊤}
use Rattle.std.specs.Int.{w32, to_le_bytes}
use Rattle.std.proofs.lemmas.Bool.{eqb-true, le-leb, leb-true}
use Rattle.std.proofs.lemmas.List.{append-nil, length-append, nil_from_length}
use Rattle.per_base.specs.Fields.{AreBytes, byte_at, number_at, only_if}
use Rattle.per_base.specs.FieldLaws.{IsReader, Takes, Takes-then, bind_some, byte_reader, bytes_reader}
use Rattle.per_base.specs.FieldLaws.{number_reader, only_some, moved, wide_32}
use Rattle.deployment_model.specs.Data.{DeploymentData}
use Rattle.manifest.specs.Reading.{deployment_in}
use Rattle.root_text.specs.RootText.{Version, Root, Parts, absent, installed, version_text, parts_of, long_text}
use Rattle.root_text.specs.RootText.{flag_of}
use Rattle.root_text.specs.RootText.{previous_text, parts_text, root_text, IsVersion, IfVersion, IsRoot, text_at}
use Rattle.root_text.specs.RootText.{some_text_at, previous_at, parts_at, parts_in, version_of_text, previous_in}
use Rattle.root_text.specs.RootText.{installed_in, some_root_in, root_in, root_of}

-- ---- a text with its length

abbrev IsLong : List ℕ → Type 0
IsLong text = length text < 2 ^ 32

len_reader : IsReader (number_at w32) (to_le_bytes w32) (λ n. n < 2 ^ 32)
len_reader = number_reader w32 (2 ^ 32) wide_32

text_takes : (bytes text rest : List ℕ) → AreBytes bytes → text_at bytes ≡ Some (text, rest)
    → Takes bytes (long_text text) rest × IsLong text
unfolding text_at
text_takes bytes text rest fits e =
    let len = bind_some (number_at w32 bytes) _ (text, rest) e in
    let took_len = len_reader.takes bytes len.0.0 len.0.1 fits len.1 in
    let took_text = (bytes_reader len.0.0).takes len.0.1 text rest took_len.0.rest_fits len.2 in
    let both : Takes bytes (to_le_bytes w32 len.0.0 ++ text) rest = Takes-then took_len.0 took_text.0 in (
      subst (λ (n : ℕ). Takes bytes (to_le_bytes w32 n ++ text) rest) (sym took_text.1) both,
      subst (λ (n : ℕ). n < 2 ^ 32) (sym took_text.1) took_len.1,
    )

text_again : (text rest : List ℕ) → IsLong text → text_at (long_text text ++ rest) ≡ Some (text, rest)
unfolding text_at
text_again text rest fits =
    ap (λ (bytes : List ℕ). text_at bytes) (append_assoc (to_le_bytes w32 (length text)) text rest)
    ∙ rw (len_reader.again (length text) (text ++ rest) fits) ((bytes_reader (length text)).again text rest refl)

-- ---- the parts

abbrev IfLong : Option (List ℕ) → Type 0
IfLong None = ⊤
IfLong (Some text) = IsLong text

chosen : {A : Type 0} (b : Bool) (x y z : A) → cond b x y ≡ z → ((b ≡ true) × (x ≡ z)) ⊎ ((b ≡ false) × (y ≡ z))
chosen true x y z e = inl (refl, e)
chosen false x y z e = inr (refl, e)

no_none : {A : Type 0} (x : A) → None ≡ Some x → ⊥
no_none x e = absurd cc

-- the flag is that of what was read
record TakesPrevious (flag : ℕ) (bytes : List ℕ) (previous : Option (List ℕ)) (rest : List ℕ) : Type 0 where
  pub takes : Takes bytes (previous_text previous) rest
  pub flag_is : flag ≡ flag_of previous

previous_takes : (flag : ℕ) (bytes : List ℕ) (previous : Option (List ℕ)) (rest : List ℕ) → AreBytes bytes
    → previous_at flag bytes ≡ Some (previous, rest)
    → TakesPrevious flag bytes previous rest
unfolding previous_at some_text_at
previous_takes flag bytes previous rest fits e = ⊎_elim
    (λ zero. let is : flag ≡ 0 = eqb-true flag 0 zero.0 in
    moved (λ (p : Option (List ℕ) × List ℕ). TakesPrevious flag bytes p.0 p.1) (None, bytes) (previous, rest) zero.1
    (record { takes = record { parts = refl; rest_fits = fits }; flag_is = is }))
    (λ not_zero. ⊎_elim
    (λ one. let is : flag ≡ 1 = eqb-true flag 1 one.0 in
    let text = bind_some (text_at bytes) _ (previous, rest) one.1 in
    let made : Option (List ℕ) × List ℕ = (Some text.0.0, text.0.1) in
    moved (λ (p : Option (List ℕ) × List ℕ). TakesPrevious flag bytes p.0 p.1) made (previous, rest) text.2
    (record { takes = (text_takes bytes text.0.0 text.0.1 fits text.1).0; flag_is = is }))
    (λ other. absurd (no_none (previous, rest) other.1))
    (chosen (eqb flag 1) (some_text_at bytes) None (Some (previous, rest)) not_zero.1))
    (chosen (eqb flag 0) (Some (None, bytes)) (cond (eqb flag 1) (some_text_at bytes) None) (Some (previous, rest)) e)

previous_again : (previous : Option (List ℕ)) (rest : List ℕ) → IfLong previous
    → previous_at (flag_of previous) (previous_text previous ++ rest) ≡ Some (previous, rest)
unfolding previous_at some_text_at
previous_again None rest fits = refl
previous_again (Some text) rest fits = rw (text_again text rest fits) refl

parts_take : (bytes : List ℕ) (p : Parts) (rest : List ℕ) → AreBytes bytes → parts_at bytes ≡ Some (p, rest)
    → Takes bytes (parts_text p) rest × (p.bank ≤ 1)
unfolding parts_at
parts_take bytes p rest fits e =
    let bank = bind_some (byte_at bytes) _ (p, rest) e in
    let flag = bind_some (byte_at bank.0.1) _ (p, rest) bank.2 in
    let active = bind_some (text_at flag.0.1) _ (p, rest) flag.2 in
    let previous = bind_some (previous_at flag.0.0 active.0.1) _ (p, rest) active.2 in
    let made : Parts × List ℕ = (record { bank = bank.0.0; active = active.0.0; previous = previous.0.0 }, previous.0.1)
    in
    let passed = only_some (leb bank.0.0 1) made (p, rest) previous.2 in
    let t0 = byte_reader.takes bytes bank.0.0 bank.0.1 fits bank.1 in
    let t1 = byte_reader.takes bank.0.1 flag.0.0 flag.0.1 t0.0.rest_fits flag.1 in
    let t2 = text_takes flag.0.1 active.0.0 active.0.1 t1.0.rest_fits active.1 in
    let t3 = previous_takes flag.0.0 active.0.1 previous.0.0 previous.0.1 t2.0.rest_fits previous.1 in
    let flag_is : Takes bank.0.1 (flag_of previous.0.0 ∷ []) flag.0.1 =
    subst (λ (n : ℕ). Takes bank.0.1 (n ∷ []) flag.0.1) t3.flag_is t1.0 in
    let whole = Takes-then t0.0 (Takes-then flag_is (Takes-then t2.0 t3.takes)) in
    subst (λ (q : Parts × List ℕ). Takes bytes (parts_text q.0) q.1 × (q.0.bank ≤ 1)) {x = made} passed.1
    (whole, leb-true bank.0.0 1 passed.0)

record AreLong (p : Parts) : Type 0 where
  pub in_bank : p.bank ≤ 1
  pub of_active : IsLong p.active
  pub of_previous : IfLong p.previous

parts_again : (p : Parts) → AreLong p → parts_in (parts_text p) ≡ Some p
unfolding parts_in parts_at
parts_again p is =
    let end : previous_text p.previous ≡ previous_text p.previous ++ [] = sym (append-nil (previous_text p.previous)) in
    let read : previous_at (flag_of p.previous) (previous_text p.previous) ≡ Some (p.previous, []) =
    ap (previous_at (flag_of p.previous)) end ∙ previous_again p.previous [] is.of_previous in
    rw (text_again p.active (previous_text p.previous) is.of_active, read, le-leb p.bank 1 is.in_bank) refl

parts_taken : (bytes : List ℕ) (p : Parts) → AreBytes bytes → parts_in bytes ≡ Some p → bytes ≡ parts_text p
unfolding parts_in
parts_taken bytes p fits e =
    let parts = bind_some (parts_at bytes) _ p e in
    let passed = only_some (eqb (length parts.0.1) 0) parts.0.0 p parts.2 in
    let nothing : parts.0.1 ≡ [] = nil_from_length parts.0.1 (eqb-true (length parts.0.1) 0 passed.0) in
    let took = parts_take bytes parts.0.0 parts.0.1 fits parts.1 in
    took.0.parts ∙ ap (λ (t : List ℕ). parts_text parts.0.0 ++ t) nothing ∙ append-nil (parts_text parts.0.0)
    ∙ ap parts_text passed.1

-- the bank of every text
parts_bank : (bytes : List ℕ) (p : Parts) → parts_in bytes ≡ Some p → p.bank ≤ 1
unfolding parts_in parts_at
parts_bank bytes p e =
    let parts = bind_some (parts_at bytes) _ p e in
    let passed = only_some (eqb (length parts.0.1) 0) parts.0.0 p parts.2 in
    let bank = bind_some (byte_at bytes) _ parts.0 parts.1 in
    let flag = bind_some (byte_at bank.0.1) _ parts.0 bank.2 in
    let active = bind_some (text_at flag.0.1) _ parts.0 flag.2 in
    let previous = bind_some (previous_at flag.0.0 active.0.1) _ parts.0 active.2 in
    let made : Parts × List ℕ = (record { bank = bank.0.0; active = active.0.0; previous = previous.0.0 }, previous.0.1)
    in
    let small = only_some (leb bank.0.0 1) made parts.0 previous.2 in
    subst (λ (q : Parts). q.bank ≤ 1) passed.1 (subst (λ (q : Parts × List ℕ). q.0.bank ≤ 1) {x = made} small.1
    (leb-true bank.0.0 1 small.0))

-- ---- versions

-- a text that says a deployment is short
abbrev pub ShortLaw : Type 0
ShortLaw = (text : List ℕ) (d : DeploymentData) → deployment_in text ≡ Some d → length text ≤ 65536

-- a version is its text, and says what the text says
record IsTextOf (text : List ℕ) (v : Version) : Type 0 where
  pub text_is : text ≡ v.text
  pub says : IsVersion v

version_is : (text : List ℕ) (v : Version) → version_of_text text ≡ Some v → IsTextOf text v
unfolding version_of_text
version_is text v e =
    let said = bind_some (deployment_in text) _ v e in
    let made : Version = record { text = text; deployment = said.0 } in
    moved (IsTextOf text) made v said.2 (record { text_is = refl; says = said.1 })

version_again : (v : Version) → IsVersion v → version_of_text v.text ≡ Some v
unfolding version_of_text
version_again v is = rw is refl

record ArePrevious (text : Option (List ℕ)) (previous : Option Version) : Type 0 where
  pub text_is : text ≡ option_map version_text previous
  pub says : IfVersion previous

previous_is : (text : Option (List ℕ)) (previous : Option Version) → previous_in text ≡ Some previous
    → ArePrevious text previous
unfolding previous_in
previous_is None previous e = moved (ArePrevious None) None previous e (record { text_is = refl; says = tt })
previous_is (Some text) previous e =
    let version = bind_some (version_of_text text) _ previous e in
    let is = version_is text version.0 version.1 in
    moved (ArePrevious (Some text)) (Some version.0) previous version.2
    (record { text_is = ap Some is.text_is; says = is.says })

previous_version_again : (previous : Option Version) → IfVersion previous
    → previous_in (option_map version_text previous) ≡ Some previous
unfolding previous_in
previous_version_again None is = refl
previous_version_again (Some v) is = rw (version_again v is) refl

-- ---- roots

-- the parts are those of the root, and it is one
record IsRootOf (p : Parts) (r : Root) : Type 0 where
  pub text_is : 1 ∷ 1 ∷ parts_text p ≡ root_text r
  pub is_root : p.bank ≤ 1 → IsRoot r

installed_is : (p : Parts) (r : Root) → installed_in p ≡ Some r → IsRootOf p r
unfolding installed_in root_text
installed_is p r e =
    let active = bind_some (version_of_text p.active) _ r e in
    let previous = bind_some (previous_in p.previous) _ r active.2 in
    let a = version_is p.active active.0 active.1 in
    let b = previous_is p.previous previous.0 previous.1 in
    let made : Root = installed p.bank active.0 previous.0 in
    let whole : 1 ∷ 1 ∷ parts_text p ≡ 1 ∷ 1 ∷ parts_text (parts_of p.bank active.0 previous.0) =
    ap (λ (t : List ℕ). 1 ∷ 1 ∷ p.bank ∷ flag_of p.previous ∷ long_text t ++ previous_text p.previous) a.text_is
    ∙ ap (λ (o : Option (List ℕ)). 1 ∷ 1 ∷ p.bank ∷ flag_of o ∷ long_text active.0.text ++ previous_text o) b.text_is in
    moved (IsRootOf p) made r previous.2 (record {
      text_is = whole;
      is_root =
          λ le. record { in_bank = le; of_active = a.says; of_previous = b.says };
    })

-- ---- whole texts

record IsTaken (kind : ℕ) (bytes : List ℕ) (r : Root) : Type 0 where
  pub text_is : AreBytes bytes → 1 ∷ kind ∷ bytes ≡ root_text r
  pub is_root : IsRoot r

absent_is : (kind : ℕ) (bytes : List ℕ) (r : Root) → kind ≡ 0 → only_if (eqb (length bytes) 0) absent ≡ Some r
    → IsTaken kind bytes r
unfolding root_text
absent_is kind bytes r zero e =
    let passed = only_some (eqb (length bytes) 0) absent r e in
    let nothing : bytes ≡ [] = nil_from_length bytes (eqb-true (length bytes) 0 passed.0) in
    subst (IsTaken kind bytes) {x = absent} passed.1 (record {
      text_is = λ fits. ap (λ (k : ℕ). 1 ∷ k ∷ bytes) zero ∙ ap (λ (t : List ℕ). 1 ∷ 0 ∷ t) nothing;
      is_root = tt;
    })

some_root_is : (kind : ℕ) (bytes : List ℕ) (r : Root) → kind ≡ 1 → some_root_in bytes ≡ Some r → IsTaken kind bytes r
unfolding some_root_in
some_root_is kind bytes r one e =
    let parts = bind_some (parts_in bytes) _ r e in
    let it = installed_is parts.0 r parts.2 in
    record {
      text_is = λ fits. ap (λ (k : ℕ). 1 ∷ k ∷ bytes) one
          ∙ ap (λ (t : List ℕ). 1 ∷ 1 ∷ t) (parts_taken bytes parts.0 fits parts.1) ∙ it.text_is;
      is_root = it.is_root (parts_bank bytes parts.0 parts.1);
    }

root_in_is : (kind : ℕ) (bytes : List ℕ) (r : Root) → root_in kind bytes ≡ Some r → IsTaken kind bytes r
unfolding root_in
root_in_is kind bytes r e = ⊎_elim
    (λ zero. absent_is kind bytes r (eqb-true kind 0 zero.0) zero.1)
    (λ not_zero. ⊎_elim
    (λ one. some_root_is kind bytes r (eqb-true kind 1 one.0) one.1)
    (λ other. absurd (no_none r other.1))
    (chosen (eqb kind 1) (some_root_in bytes) None (Some r) not_zero.1))
    (chosen (eqb kind 0) (only_if (eqb (length bytes) 0) absent) (cond (eqb kind 1) (some_root_in bytes) None) (Some r)
    e)

record IsRead (text : List ℕ) (r : Root) : Type 0 where
  pub text_is : AreBytes text → text ≡ root_text r
  pub is_root : IsRoot r

root_of_is : (text : List ℕ) (r : Root) → root_of text ≡ Some r → IsRead text r
unfolding root_of
root_of_is text r e =
    let format = bind_some (byte_at text) _ r e in
    let kind = bind_some (byte_at format.0.1) _ r format.2 in
    ⊎_elim
    (λ first. let it = root_in_is kind.0.0 kind.0.1 r first.1 in record {
      text_is = λ fits.
          let t0 = byte_reader.takes text format.0.0 format.0.1 fits format.1 in
          let t1 = byte_reader.takes format.0.1 kind.0.0 kind.0.1 t0.0.rest_fits kind.1 in
          t0.0.parts ∙ ap (λ (n : ℕ). n ∷ format.0.1) (eqb-true format.0.0 1 first.0)
          ∙ ap (λ (t : List ℕ). 1 ∷ t) t1.0.parts ∙ it.text_is t1.0.rest_fits;
      is_root = it.is_root;
    })
    (λ other. absurd (no_none r other.1))
    (chosen (eqb format.0.0 1) (root_in kind.0.0 kind.0.1) None (Some r) kind.2)

-- ---- the laws

-- bytes that say a root are its text
pub root_taken : (text : List ℕ) (r : Root) → AreBytes text → root_of text ≡ Some r → text ≡ root_text r
root_taken text r fits e = (root_of_is text r e).text_is fits

-- what is said is a root
pub root_is : (text : List ℕ) (r : Root) → root_of text ≡ Some r → IsRoot r
root_is text r e = (root_of_is text r e).is_root

module _ (short : ShortLaw) where
  long : (v : Version) → IsVersion v → IsLong v.text
  long v is = let le = short v.text v.deployment is in omega (arith, le)

  if_long : (previous : Option Version) → IfVersion previous → IfLong (option_map version_text previous)
  if_long None is = tt
  if_long (Some v) is = long v is

  -- a root is said by its text
  pub root_again : (r : Root) → IsRoot r → root_of (root_text r) ≡ Some r
  unfolding root_of root_in some_root_in installed_in root_text
  root_again absent is = refl
  root_again (installed bank active previous) is =
      let parts : parts_in (parts_text (parts_of bank active previous)) ≡ Some (parts_of bank active previous) =
      parts_again (parts_of bank active previous) (record {
        in_bank = is.in_bank;
        of_active =
            long active is.of_active;
        of_previous = if_long previous is.of_previous;
      }) in
      rw (parts, version_again active is.of_active, previous_version_again previous is.of_previous) refl

  few : (v : Version) → IsVersion v → length v.text ≤ 65536
  few v is = short v.text v.deployment is

  -- no text is longer than two manifests and what stands before them
  pub root_short : (r : Root) → IsRoot r → length (root_text r) ≤ 131084
  unfolding root_text
  root_short absent is = omega arith
  root_short (installed bank active None) is = let one = few active is.of_active in
      omega (
        arith,
        one,
        length-append (long_text active.text) [],
        length-append (to_le_bytes w32 (length active.text)) active.text,
        wide_32.len (length active.text),
      )
  root_short (installed bank active (Some v)) is = let one = few active is.of_active in let two =
      few v is.of_previous in
      omega (
        arith,
        one,
        two,
        length-append (long_text active.text) (long_text v.text),
        length-append (to_le_bytes w32 (length active.text)) active.text,
        length-append (to_le_bytes w32 (length v.text)) v.text,
        wide_32.len (length active.text),
        wide_32.len (length v.text),
      )
