-- What the rows of one shape read is spelled so and right.
use Rattle.std.proofs.Common.{◌≡◌, ℕ, cond, List, [], ◌∷◌, ◌++◌, Option, Some, inl, inr, sym, ap, subst, ◌∙◌}
use Rattle.std.specs.List.{AllByRecursion}
use Rattle.std.specs.Fmt.{decimal}
use Rattle.std.specs.Str.{bytes_eq}
use Rattle.std.proofs.lemmas.Slice.Eq.{bytes_eq-Decides}
use Rattle.per_base.specs.Fields.{◌>>=◌}
use Rattle.value_text.specs.lemmas.Steps.{bind_some, chosen, some_is}
use Rattle.command_text.specs.declared.calls.Call.{Call}
use Rattle.command_text.specs.Grammar.{Argument, name, handle, manifest, spelling, IsArgument, form, form_text}
use Rattle.command_text.specs.Reading.{pick, name_in, manifest_in, element_in, handle_in, element_front, handle_front}
use Rattle.command_text.proofs.ArgumentLaws.{name_takes, manifest_takes, element_takes, handle_takes}
use Rattle.command_text.proofs.ArgumentLaws.{element_front_takes, handle_front_takes}

-- the word and the rest spell this form
abbrev pub IsSaid : List ℕ → List ℕ → List ℕ × List Argument → Type 0
IsSaid word rest f = (form_text f ≡ word ++ 32 ∷ rest) × AllByRecursion IsArgument f.1

-- the word and the rest spell this call
abbrev pub IsCall : List ℕ → List ℕ → Call → Type 0
IsCall word rest c = IsSaid word rest (form c)

pub pick_takes : {A : Type 0} (rest : List ℕ) (use_row : A → Option Call) (rows : List (List ℕ × A))
    → AllByRecursion (λ row. (c : Call) → use_row row.1 ≡ Some c → IsCall row.0 rest c) rows
    → (word : List ℕ) (other : Option Call) (c : Call) → (other ≡ Some c → IsCall word rest c)
    → pick rows word use_row other ≡ Some c → IsCall word rest c
pick_takes rest use_row [] all word other c law e = law e
pick_takes rest use_row (row ∷ rows) all word other c law e =
    elim (chosen (bytes_eq word row.0) (use_row row.1) (pick rows word use_row other) (Some c) e) [
      | inl p ↦ subst (λ (w : List ℕ). IsCall w rest c) (sym ((bytes_eq-Decides word row.0).0 p.0)) (all.0 c p.1)
      | inr p ↦ pick_takes rest use_row rows all.1 word other c law p.1
    ]

-- one row alone
pub word_takes : (rest here : List ℕ) (mine : Option Call) → ((c : Call) → mine ≡ Some c → IsCall here rest c)
    → (word : List ℕ) (other : Option Call) (c : Call) → (other ≡ Some c → IsCall word rest c)
    → cond (bytes_eq word here) mine other ≡ Some c → IsCall word rest c
word_takes rest here mine all word other c law e =
    elim (chosen (bytes_eq word here) mine other (Some c) e) [
      | inl p ↦ subst (λ (w : List ℕ). IsCall w rest c) (sym ((bytes_eq-Decides word here).0 p.0)) (all c p.1)
      | inr p ↦ law p.1
    ]

-- a call whose form is spelled
pub made : (word rest : List ℕ) (f : List ℕ × List Argument) (c d : Call) → form c ≡ f → c ≡ d → IsSaid word rest f
    → IsCall word rest d
made word rest f c d shape same said = subst (λ (x : Call). IsCall word rest x) same
    (subst (λ (g : List ℕ × List Argument). IsSaid word rest g) (sym shape) said)

abbrev behind : List ℕ → List ℕ → List ℕ
behind word rest = word ++ 32 ∷ rest

pub manifest_row : (word : List ℕ) (make : List ℕ → Call) → ((j : List ℕ) → form (make j) ≡ (word, manifest j ∷ []))
    → (rest : List ℕ) (c : Call) → (manifest_in rest >>= λ j. Some (make j)) ≡ Some c → IsCall word rest c
manifest_row word make shape rest c e =
    let a = bind_some (manifest_in rest) (λ j. Some (make j)) c e in
    let read = manifest_takes rest a.0 a.1 in
    made word rest (word, manifest a.0 ∷ []) (make a.0) c (shape a.0) (some_is (make a.0) c a.2)
    (ap (behind word) (sym read.0), ((read.1, read.2), tt))

pub storage_row : (word : List ℕ) (make : List ℕ → Call) → ((s : List ℕ) → form (make s) ≡ (word, name s ∷ []))
    → (rest : List ℕ) (c : Call) → (name_in rest >>= λ s. Some (make s)) ≡ Some c → IsCall word rest c
storage_row word make shape rest c e =
    let a = bind_some (name_in rest) (λ s. Some (make s)) c e in
    let read = name_takes rest a.0 a.1 in
    made word rest (word, name a.0 ∷ []) (make a.0) c (shape a.0) (some_is (make a.0) c a.2)
    (ap (behind word) (sym read.0), (read.1, tt))

pub element_row : (word : List ℕ) (make : List ℕ → List ℕ → Call)
    → ((s k : List ℕ) → form (make s k) ≡ (word, name s ∷ name k ∷ [])) → (rest : List ℕ) (c : Call)
    → (element_in rest >>= λ x. Some (make x.0 x.1)) ≡ Some c → IsCall word rest c
element_row word make shape rest c e =
    let a = bind_some (element_in rest) (λ x. Some (make x.0 x.1)) c e in
    let read = element_takes rest a.0 a.1 in
    made word rest (word, name a.0.0 ∷ name a.0.1 ∷ []) (make a.0.0 a.0.1) c (shape a.0.0 a.0.1)
    (some_is (make a.0.0 a.0.1) c a.2) (ap (behind word) (sym read.0), (read.1, (read.2, tt)))

pub handle_row : (word : List ℕ) (make : List ℕ → ℕ → Call)
    → ((s : List ℕ) (h : ℕ) → form (make s h) ≡ (word, name s ∷ handle h ∷ [])) → (rest : List ℕ) (c : Call)
    → (handle_in rest >>= λ x. Some (make x.0 x.1)) ≡ Some c → IsCall word rest c
handle_row word make shape rest c e =
    let a = bind_some (handle_in rest) (λ x. Some (make x.0 x.1)) c e in
    let read = handle_takes rest a.0 a.1 in
    made word rest (word, name a.0.0 ∷ handle a.0.1 ∷ []) (make a.0.0 a.0.1) c (shape a.0.0 a.0.1)
    (some_is (make a.0.0 a.0.1) c a.2) (ap (behind word) (sym read.0), (read.1, (read.2, tt)))

-- what follows a storage and a name, or after a storage and a handle: the texts of the further arguments, and
-- that these are right
pub record Further {X : Type 0} (read : List ℕ → Option X) (arguments : X → List Argument) (text : X → List ℕ) : Type 0
  where
    pub spelled : (rest : List ℕ) (x : X) → read rest ≡ Some x → rest ≡ text x
    pub right : (rest : List ℕ) (x : X) → read rest ≡ Some x → AllByRecursion IsArgument (arguments x)
    pub joined : (word : List ℕ) (f g : Argument) (x : X)
        → form_text (word, f ∷ g ∷ arguments x) ≡ word ++ 32 ∷ (spelling f ++ 32 ∷ (spelling g ++ 32 ∷ text x))

pub detail_row : {X : Type 0} (read : List ℕ → Option X) (arguments : X → List Argument) (text : X → List ℕ)
    → Further read arguments text
    → (word : List ℕ) (make : List ℕ → List ℕ → X → Call)
    → ((s k : List ℕ) (x : X) → form (make s k x) ≡ (word, name s ∷ name k ∷ arguments x))
    → (rest : List ℕ) (c : Call) → (element_front rest >>= λ front. read front.2 >>= λ x. Some (make front.0 front.1 x))
    ≡ Some c → IsCall word rest c
detail_row read arguments text law word make shape rest c e =
    let a = bind_some (element_front rest) (λ front. read front.2 >>= λ x. Some (make front.0 front.1 x)) c e in
    let b = bind_some (read a.0.2) (λ x. Some (make a.0.0 a.0.1 x)) c a.2 in
    let front = element_front_takes rest a.0 a.1 in
    let whole : rest ≡ a.0.0 ++ 32 ∷ (a.0.1 ++ 32 ∷ text b.0) =
    front.0 ∙ ap (λ (t : List ℕ). a.0.0 ++ 32 ∷ (a.0.1 ++ 32 ∷ t)) (law.spelled a.0.2 b.0 b.1) in
    made word rest (word, name a.0.0 ∷ name a.0.1 ∷ arguments b.0) (make a.0.0 a.0.1 b.0) c (shape a.0.0 a.0.1 b.0)
    (some_is (make a.0.0 a.0.1 b.0) c b.2) (
      law.joined word (name a.0.0) (name a.0.1) b.0 ∙ ap (behind word) (sym whole),
      (front.1, (front.2, law.right a.0.2 b.0 b.1)),
    )

pub handle_detail_row : {X : Type 0} (read : List ℕ → Option X) (arguments : X → List Argument) (text : X → List ℕ)
    → Further read arguments text
    → (word : List ℕ) (make : List ℕ → ℕ → X → Call) → ((s : List ℕ) (h : ℕ) (x : X)
    → form (make s h x) ≡ (word, name s ∷ handle h ∷ arguments x))
    → (rest : List ℕ) (c : Call) → (handle_front rest >>= λ front. read front.2 >>= λ x. Some (make front.0 front.1 x))
    ≡ Some c → IsCall word rest c
handle_detail_row read arguments text law word make shape rest c e =
    let a = bind_some (handle_front rest) (λ front. read front.2 >>= λ x. Some (make front.0 front.1 x)) c e in
    let b = bind_some (read a.0.2) (λ x. Some (make a.0.0 a.0.1 x)) c a.2 in
    let front = handle_front_takes rest a.0 a.1 in
    let whole : rest ≡ a.0.0 ++ 32 ∷ (decimal a.0.1 ++ 32 ∷ text b.0) =
    front.0 ∙ ap (λ (t : List ℕ). a.0.0 ++ 32 ∷ (decimal a.0.1 ++ 32 ∷ t)) (law.spelled a.0.2 b.0 b.1) in
    made word rest (word, name a.0.0 ∷ handle a.0.1 ∷ arguments b.0) (make a.0.0 a.0.1 b.0) c (shape a.0.0 a.0.1 b.0)
    (some_is (make a.0.0 a.0.1 b.0) c b.2) (
      law.joined word (name a.0.0) (handle a.0.1) b.0 ∙ ap (behind word) (sym whole),
      (front.1, (front.2, law.right a.0.2 b.0 b.1)),
    )
