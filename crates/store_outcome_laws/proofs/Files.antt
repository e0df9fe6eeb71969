-- What the clauses of open files exclude.
use Rattle.std.specs.Prelude.{◌≡◌, ℕ, ◌+◌, List, [], ◌∷◌, length, Bool, true, false, cond, ◌&&◌, Option, Some, None}
use Rattle.std.specs.Prelude.{Result, Ok, option_map, find, nat_le, not}
use Rattle.std.proofs.Common.{refl, sym, ap, ◌∙◌, arith}
use Rattle.std.specs.BTreeMap.{is_at}
use Rattle.std.specs.Map.{lookup, remove_entry}
use Rattle.std.specs.Ordering.{nat_cmp}
use Rattle.std.specs.Str.{bytes_eq}
use Rattle.std.proofs.lemmas.Slice.Eq.{bytes_eq-Decides}
use Rattle.per_base.specs.declared.errors.Limit.TheVariants as limit
use Rattle.per_base.specs.declared.errors.PerError.{PerError}
use Rattle.per_base.specs.declared.errors.PerError.TheVariants.{FileNotFound, IllegalWriteAccess, IntegrityCorrupted}
use Rattle.per_base.specs.declared.errors.PerError.TheVariants.{InvalidOpenMode, LimitReached}
use Rattle.per_base.specs.declared.errors.Unit.TheVariants.{Part}
use Rattle.per_base.specs.Maps.{element_at, has}
use Rattle.file_core.specs.Places.{is_bad_mode, writes}
use Rattle.per_base.specs.declared.opening.OpenKind.TheVariants as kind
use Rattle.per_base.specs.Refusals.{refused_by, or_next}
use Rattle.file_handles.specs.declared.handle.Handle.{Handle}
use Rattle.file_handles.specs.Opening.{busy, can_open, is_unreadable, too_many, when}
use Rattle.file_handles.specs.Sessions.{Handles, blocking, blocks, handle_at}
use Rattle.store_outcome_laws.specs.Files.{HandleLeft, WriterBesideReader}

no_handle : (h : Handle) → ◌≡◌ {A = Option Handle} None (Some h) → ⊥
no_handle h is = absurd cc

same_handle : (g h : Handle) → Some g ≡ Some h → g ≡ h
same_handle g h is = cc

not_both : true ≡ false → ⊥
not_both is = absurd cc

-- ---- a writer beside a reader

module _ (name : List ℕ) where
  abbrev stands : ℕ × Handle → Bool
  stands e = blocks kind.Write name e.1

  -- what is found of a list, by its first handle and what is found of the rest
  found_in : (e : ℕ × Handle) (es : Handles) (number : ℕ) (h : Handle) (here there : Bool) → stands e ≡ here
      → is_at (nat_cmp number) e.0 ≡ there → handle_at (e ∷ es) number ≡ Some h → blocks kind.Write name h ≡ true
      → (handle_at es number ≡ Some h → (f : ℕ × Handle) × (find stands es ≡ Some f))
      → (f : ℕ × Handle) × (find stands (e ∷ es) ≡ Some f)
  found_in e es number h true there at key is blocked rest =
      (e, ap (λ (b : Bool). cond b (Some e) (find stands es)) at)
  found_in e es number h false true at key is blocked rest =
      let same : e.1 ≡ h = same_handle e.1 h
      (sym (ap (λ (b : Bool). cond b (Some e.1) (handle_at es number)) key) ∙ is) in
      absurd (not_both (sym blocked ∙ sym (ap (λ (g : Handle). blocks kind.Write name g) same) ∙ at))
  found_in e es number h false false at key is blocked rest =
      let later = rest (sym (ap (λ (b : Bool). cond b (Some e.1) (handle_at es number)) key) ∙ is) in
      (later.0, ap (λ (b : Bool). cond b (Some e) (find stands es)) at ∙ later.1)

  -- a conflicting handle is found, or another one is
  found_by : (handles : Handles) (number : ℕ) (h : Handle) → handle_at handles number ≡ Some h
      → blocks kind.Write name h ≡ true → (e : ℕ × Handle) × (find stands handles ≡ Some e)
  found_by [] number h is blocked = absurd (no_handle h is)
  found_by (e ∷ es) number h is blocked = found_in e es number h (stands e) (is_at (nat_cmp number) e.0) refl refl is
      blocked (λ there. found_by es number h there blocked)

abbrev Refuses : Option PerError → Type 0
Refuses o = (e : PerError) × (o ≡ Some e)

then_refuses : (o p : Option PerError) → Refuses p → Refuses (or_next o p)
then_refuses None p refusal = refusal
then_refuses (Some e) p refusal = (e, refl)

first_refuses : (o p : Option PerError) → Refuses o → Refuses (or_next o p)
first_refuses o p refusal = (refusal.0, ap (λ (q : Option PerError). or_next q p) refusal.1)

-- the fifth of some refusals
fifth_refuses : (a b c d o p : Option PerError) → Refuses o
    → Refuses (or_next a (or_next b (or_next c (or_next d (or_next o p)))))
fifth_refuses a b c d o p refusal =
    then_refuses a _ (then_refuses b _ (then_refuses c _ (then_refuses d _ (first_refuses o p refusal))))

refused : {A : Type 0} (o : Option PerError) (rest : Result A PerError) (x : A) → Refuses o
    → refused_by o rest ≡ Ok x → ⊥
refused None rest x refusal is = absurd cc
refused (Some e) rest x refusal is = absurd cc

pub writer_beside_reader : WriterBesideReader
writer_beside_reader storage before after name mode now number opened reader there named is =
    let stands_in_the_way : blocks kind.Write name reader ≡ true =
    ap (λ (n : List ℕ). bytes_eq n name && true) named
    ∙ ap (λ (b : Bool). b && true) ((bytes_eq-Decides name name).1 refl) in
    let found = found_by name before.handles number reader there stands_in_the_way in
    let blocked : blocking kind.Write name before.handles ≡ Some found.0.0 =
    ap (option_map (λ (e : ℕ × Handle). e.0)) found.1 in
    let refuses : Refuses (busy (blocking kind.Write name before.handles)) = (_, ap busy blocked) in
    refused (can_open storage before name kind.Write mode) _ (opened, after)
    (fifth_refuses (when (is_bad_mode kind.Write mode) InvalidOpenMode)
    (when (writes kind.Write && storage.read_only) IllegalWriteAccess)
    (when (not (writes kind.Write) && not (has before.files name)) FileNotFound)
    (when (is_unreadable (element_at before.files name)) (IntegrityCorrupted (Part storage.name name)))
    (busy (blocking kind.Write name before.handles))
    (or_next (when (nat_le 64 (length before.handles)) (LimitReached limit.Handles)) (too_many before.files name))
    refuses) is

-- ---- a handle that is dropped

less_at : (test : ℕ → Bool) (e : ℕ × Handle) (es : Handles) (h : Handle) (here : Bool) → test e.0 ≡ here
    → lookup test (e ∷ es) ≡ Some h
    → (lookup test es ≡ Some h → length (remove_entry test es) + 1 ≡ length es)
    → length (remove_entry test (e ∷ es)) + 1 ≡ length (e ∷ es)
less_at test e es h true at is rest =
    ap (λ (b : Bool). length (cond b es (e ∷ remove_entry test es)) + 1) at ∙ omega arith
less_at test e es h false at is rest =
    let less = rest (sym (ap (λ (b : Bool). cond b (Some e.1) (lookup test es)) at) ∙ is) in
    ap (λ (b : Bool). length (cond b es (e ∷ remove_entry test es)) + 1) at ∙ omega (arith, less)

one_less : (test : ℕ → Bool) (handles : Handles) (h : Handle) → lookup test handles ≡ Some h
    → length (remove_entry test handles) + 1 ≡ length handles
one_less test [] h is = absurd (no_handle h is)
one_less test (e ∷ es) h is = less_at test e es h (test e.0) refl is (one_less test es h)

pub handle_left : HandleLeft
handle_left before after number h is there same =
    let less = one_less (is_at (nat_cmp number)) before.session.handles h there in
    let length_is : length (remove_entry (is_at (nat_cmp number)) before.session.handles)
    ≡ length before.session.handles =
    ap (λ (s : _). length s.session.handles) (sym is) ∙ ap length same in
    absurd (omega (arith, less, length_is))
