-- What is read one after another: members of an object, names.
use Rattle.std.proofs.Common.{◌≡◌, ℕ, zero, suc, ◌+◌, ◌<◌, List, [], ◌∷◌, ◌++◌, length, get_or, drop, map}
use Rattle.std.proofs.Common.{Option, Some, None, refl, sym, ap, ◌∙◌, subst, append_assoc, append-nil, arith, true≢false}
use Rattle.std.proofs.Common.{string_bytes}
use Rattle.std.specs.Prelude.{IsTrue, nat_eq}
use Rattle.std.specs.List.{AllByRecursion}
use Rattle.std.proofs.lemmas.List.{drop_more, get_or-map}
use Rattle.per_base.specs.Fields.{◌>>=◌}
use Rattle.serde_json.specs.Data.{Data}
use Rattle.serde_json.specs.Find.{as_object}
use Rattle.serde_json.specs.View.{members_view, view}
use Rattle.serde_json.proofs.Views.{Entry, members_len-members_view}
use Rattle.dump_text.specs.declared.errors.DumpError.{DumpError}
use Rattle.dump_text.specs.declared.errors.DumpError.TheVariants.{NotADump, OutOfMemory}
use Rattle.dump_text.specs.Elements.{are_so_many, has_members, read_members}
use Rattle.dump_text.specs.Views.{FailsToRead, is_memory}

-- each of them
pub all_at : {A : Type 0} (P : A → Type 0) (xs : List A) (i : ℕ) (x : A) → AllByRecursion P xs → i < length xs
    → x ≡ get_or xs i x → P x
all_at P [] i x all lt is = absurd (omega (arith, lt))
all_at P (y ∷ ys) zero x all lt is = subst P (sym is) all.0
all_at P (y ∷ ys) (suc i) x all lt is = all_at P ys i x all.1 (omega (arith, lt)) is

-- one more keeps it
pub all_push : {A : Type 0} (P : A → Type 0) (xs : List A) (x : A) → AllByRecursion P xs → P x
    → AllByRecursion P (xs ++ x ∷ [])
all_push P [] x all p = (p, tt)
all_push P (y ∷ ys) x all p = (all.0, all_push P ys x all.1 p)

-- ---- members of an object

pub count_is : (d : Data) (es : List Entry) (n len : ℕ) → Some (members_view es) ≡ as_object d → len ≡ length es
    → nat_eq len n ≡ has_members n d
count_is d es n len is long = ap (λ (k : ℕ). nat_eq k n) (long ∙ sym (members_len-members_view es))
    ∙ ap (are_so_many n) is

-- ---- members, one after another

-- those that are known, and after them the others
abbrev pub after : {A : Type 0} → List A → Option (List A) → Option (List A)
after known rest = rest >>= λ xs. Some (known ++ xs)

module _ {A : Type 0} (read : List ℕ → Data → Option A) where
  one_more : (known : List A) (x : A) (rest : Option (List A))
      → after known (rest >>= λ xs. Some (x ∷ xs)) ≡ after (known ++ x ∷ []) rest
  one_more known x (Some xs) = ap (λ (ys : List A). Some ys) (sym (append_assoc known (x ∷ []) xs))
  one_more known x None = refl

  pub after_more : (known : List A) (e : Entry) (left : List Entry) (x : A)
      → read (string_bytes e.0) (view e.1) ≡ Some x → after known (read_members read (members_view (e ∷ left)))
      ≡ after (known ++ x ∷ []) (read_members read (members_view left))
  unfolding read_members
  after_more known e left x is = ap (λ (o : Option A). after known (o >>= λ first.
      read_members read (members_view left) >>= λ others. Some (first ∷ others))) is
      ∙ one_more known x (read_members read (members_view left))

  after_bad : (known : List A) (e : Entry) (left : List Entry) → read (string_bytes e.0) (view e.1) ≡ None
      → after known (read_members read (members_view (e ∷ left))) ≡ None
  unfolding read_members
  after_bad known e left is = ap (λ (o : Option A). after known (o >>= λ first.
      read_members read (members_view left) >>= λ others. Some (first ∷ others))) is

  pub after_fails : (known : List A) (e : Entry) (left : List Entry) (error named : DumpError)
      (total : Option (List A)) → (IsTrue (is_memory error) → IsTrue (is_memory named))
      → FailsToRead error (read (string_bytes e.0) (view e.1))
      → after known (read_members read (members_view (e ∷ left))) ≡ total → FailsToRead named total
  after_fails known e left error OutOfMemory total kept fails so_far = tt
  after_fails known e left (NotADump why) (NotADump more) total kept fails so_far =
      sym so_far ∙ after_bad known e left fails
  after_fails known e left OutOfMemory (NotADump more) total kept fails so_far = absurd (true≢false (sym (kept refl)))

  -- none is left
  pub after_all : (known : List A) (total : Option (List A)) → after known (read_members read (members_view [])) ≡ total
      → total ≡ Some known
  unfolding read_members
  after_all known total is = sym is ∙ ap (λ (xs : List A). Some xs) (append-nil known)

-- ---- names, one beside another

module _ {A B : Type 0} (f : A → List ℕ) (g : B → List ℕ) (xs : List A) (ys : List B) (n : ℕ) where
  pub same_more : (x : A) (y : B) → n < length xs → n < length ys → x ≡ get_or xs n x → y ≡ get_or ys n y → f x ≡ g y
      → map f (drop (n + 1) xs) ≡ map g (drop (n + 1) ys) → map f (drop n xs) ≡ map g (drop n ys)
  same_more x y ltx lty isx isy same later =
      ap (map f) (drop_more xs n x ltx ∙ ap (λ (z : A). z ∷ drop (n + 1) xs) (sym isx))
      ∙ ap (λ (z : List ℕ). z ∷ map f (drop (n + 1) xs)) same
      ∙ ap (λ (zs : List (List ℕ)). g y ∷ zs) later
      ∙ ap (map g) (sym (drop_more ys n y lty ∙ ap (λ (z : B). z ∷ drop (n + 1) ys) (sym isy)))

  pub same_at : (x : A) (y : B) → n < length xs → n < length ys → x ≡ get_or xs n x → y ≡ get_or ys n y
      → map f xs ≡ map g ys → f x ≡ g y
  same_at x y ltx lty isx isy same =
      ap f isx ∙ sym (get_or-map f xs n x (f x) ltx) ∙ ap (λ (zs : List (List ℕ)). get_or zs n (f x)) same
      ∙ get_or-map g ys n y (f x) lty ∙ ap g (sym isy)
