-- What an export makes of a view, and that it is an export.
use Rattle.std.proofs.Common.{◌≡◌, ℕ, suc, ◌+◌, ◌<◌, ◌≤◌, Bool, true, false, cond, List, [], ◌∷◌, ◌++◌, length, map}
use Rattle.std.proofs.Common.{drop, Option, Some, None, Result, Ok, Err, refl, sym, ap, ◌∙◌, subst, true≢false}
use Rattle.std.proofs.Common.{append_assoc, append-nil, arith}
use Rattle.std.specs.Prelude.{IsTrue, IfSome}
use Rattle.std.specs.List.{AllByRecursion}
use Rattle.std.specs.List.Sorted.{IsStrictlySortedBy}
use Rattle.std.proofs.lemmas.Bool.{cases_Bool, cond-true, cond-false}
use Rattle.per_base.specs.declared.elements.Content.{Content}
use Rattle.per_base.specs.declared.elements.Content.TheVariants.{Good, Bad}
use Rattle.per_base.specs.declared.elements.Entry.{Entry}
use Rattle.per_base.specs.declared.elements.Fresh.{Fresh}
use Rattle.per_base.specs.declared.elements.StoreKind.{StoreKind}
use Rattle.per_base.specs.declared.errors.PerError.{PerError}
use Rattle.per_base.specs.declared.errors.PerError.TheVariants as error
use Rattle.per_base.specs.declared.errors.Unit.TheVariants as unit
use Rattle.per_base.specs.Names.{name_cmp}
use Rattle.per_base.specs.Contents.{HasLength}
use Rattle.disk_model.specs.Image.{Image}
use Rattle.value_code.specs.Reading.{is_content}
use Rattle.index_text.specs.Rules.{has_info, max_len}
use Rattle.deployment_model.specs.Data.{StorageData}
use Rattle.element_state.specs.declared.shapes.Shape.{Shape}
use Rattle.element_state.specs.declared.shapes.View.{View}
use Rattle.element_state.specs.Chosen.{opened_of}
use Rattle.element_state.specs.Read.{IsEntryOf, IsView}
use Rattle.element_state.specs.States.{State, Opens, Corrupt, store_at}
use Rattle.element_state.specs.Views.{judged_content}
use Rattle.deploy_laws.specs.Apps.{App}
use Rattle.deploy_rows.specs.Rows.{◌>>=◌}
use Rattle.export_text.specs.declared.exports.Export.{Export}
use Rattle.export_text.specs.Exports.{AreExportable, IsExportable, export_text}
use Rattle.per_backup.specs.declared.exporting.Exported.{Exported}
use Rattle.per_backup.specs.declared.finding.Located.{Located}
use Rattle.per_backup.specs.Backups.{exported_contents, exported_from, exporting, fresh_by, fresh_of, text_from}
use Rattle.per_backup.specs.Clauses.{IsAppSeen, IsViewFor, exported_as}
use Rattle.per_backup.specs.Finding.{IsLocatedAs, IsMissingStorage, config_of, found_as}
use Rattle.per_backup.proofs.Lists.{no_ok, ok_same}
use Rattle.per_backup.proofs.Rows.{exporting_found, exporting_missing}

-- ---- element by element

-- the contents that are known, and after them those of the rest
abbrev pub followed_by : List Fresh → Result (List Fresh) PerError → Result (List Fresh) PerError
followed_by known rest = rest >>= λ fs. Ok (known ++ fs)

one_more : (known : List Fresh) (f : Fresh) (rest : Result (List Fresh) PerError)
    → followed_by known (rest >>= λ fs. Ok (f ∷ fs)) ≡ followed_by (known ++ f ∷ []) rest
one_more known f (Ok fs) = ap (λ (xs : List Fresh). Ok xs) (sym (append_assoc known (f ∷ []) fs))
one_more known f (Err e) = refl

pub follows_one : (s : StorageData) (known : List Fresh) (e : Entry) (es : List Entry) (f : Fresh) → fresh_of s e ≡ Ok f
    → followed_by known (exported_contents s (e ∷ es)) ≡ followed_by (known ++ f ∷ []) (exported_contents s es)
follows_one s known e es f is = ap (λ (r : Result Fresh PerError).
    followed_by known (r >>= λ g. exported_contents s es >>= λ fs. Ok (g ∷ fs))) is
    ∙ one_more known f (exported_contents s es)

pub follows_none : (s : StorageData) (known : List Fresh) (e : Entry) (es : List Entry) (x : PerError)
    → fresh_of s e ≡ Err x
    → followed_by known (exported_contents s (e ∷ es)) ≡ Err x
follows_none s known e es x is = ap (λ (r : Result Fresh PerError).
    followed_by known (r >>= λ g. exported_contents s es >>= λ fs. Ok (g ∷ fs))) is

pub follows_end : (s : StorageData) (known : List Fresh) → followed_by known (exported_contents s []) ≡ Ok known
follows_end s known = ap (λ (xs : List Fresh). Ok xs) (append-nil known)

pub follows_start : (r : Result (List Fresh) PerError) → followed_by [] r ≡ r
follows_start (Ok fs) = refl
follows_start (Err e) = refl

-- ---- one element

fresh_good : (s : StorageData) (e : Entry) (bytes : List ℕ) → e.content ≡ Good bytes
    → fresh_of s e ≡ fresh_by s.name e (cond (is_content s.kind bytes) (Good bytes) (Bad None))
fresh_good s e bytes is = ap (λ (c : Content). fresh_by s.name e (judged_content (is_content s.kind) c)) is

pub fresh_counts : (s : StorageData) (e : Entry) (bytes : List ℕ) → e.content ≡ Good bytes
    → is_content s.kind bytes ≡ true
    → fresh_of s e ≡ Ok (record { name = e.name; info = e.info; bytes = bytes })
fresh_counts s e bytes is counts = fresh_good s e bytes is
    ∙ ap (λ (c : Content). fresh_by s.name e c) (cond-true (is_content s.kind bytes) (Good bytes) (Bad None) counts)

pub fresh_fails : (s : StorageData) (e : Entry) (bytes : List ℕ) → e.content ≡ Good bytes
    → is_content s.kind bytes ≡ false
    → fresh_of s e ≡ Err (error.IntegrityCorrupted (unit.Part s.name e.name))
fresh_fails s e bytes is fails = fresh_good s e bytes is
    ∙ ap (λ (c : Content). fresh_by s.name e c) (cond-false (is_content s.kind bytes) (Good bytes) (Bad None) fails)

bad_by : (test : List ℕ → Bool) (s : StorageData) (e : Entry) (salvage : Option (List ℕ))
    → fresh_by s.name e (judged_content test (Bad salvage)) ≡ Err (error.IntegrityCorrupted (unit.Part s.name e.name))
bad_by test s e None = refl
bad_by test s e (Some bytes) = by (test bytes)
  where
    by : (b : Bool) → fresh_by s.name e (cond b (Bad (Some bytes)) (Bad None))
        ≡ Err (error.IntegrityCorrupted (unit.Part s.name e.name))
    by true = refl
    by false = refl

pub fresh_bad : (s : StorageData) (e : Entry) (salvage : Option (List ℕ)) → e.content ≡ Bad salvage
    → fresh_of s e ≡ Err (error.IntegrityCorrupted (unit.Part s.name e.name))
fresh_bad s e salvage is = ap (λ (c : Content). fresh_by s.name e (judged_content (is_content s.kind) c)) is
    ∙ bad_by (is_content s.kind) s e salvage

-- ---- what is exported is an export

-- an element that is exported
record IsOne (kind : StoreKind) (e : Entry) (f : Fresh) : Type 0 where
  pub name : f.name ≡ e.name
  pub rules : IsExportable kind f

module _ (shape : Shape) (s : StorageData) (kind : shape.kind ≡ s.kind) where
  one_so : (e : Entry) → IsEntryOf shape e → (content : Content) → e.content ≡ content → (f : Fresh)
      → fresh_of s e ≡ Ok f → IsOne s.kind e f
  one_so e entry (Bad salvage) is f given = absurd (no_ok (error.IntegrityCorrupted (unit.Part s.name e.name)) f
      (sym (fresh_bad s e salvage is) ∙ given))
  one_so e entry (Good bytes) is f given = by (is_content s.kind bytes) refl
    where
      made : Fresh
      made = record { name = e.name; info = e.info; bytes = bytes }

      long : length bytes ≤ max_len s.kind
      long = let same = subst (λ (c : Content). HasLength c e.len) is entry.content in
          subst (λ (k : StoreKind). length bytes ≤ max_len k) kind
          (subst (λ (n : ℕ). n ≤ max_len shape.kind) (sym same) entry.len)

      by : (b : Bool) → is_content s.kind bytes ≡ b → IsOne s.kind e f
      by true counts = subst (λ (g : Fresh). IsOne s.kind e g)
          (ok_same made f (sym (fresh_counts s e bytes is counts) ∙ given)) (record {
            name = refl;
            rules = record {
              info = subst (λ (k : StoreKind). IsTrue (has_info k e.info)) kind entry.info;
              len =
                  long;
              content = counts;
            };
          })
      by false fails = absurd (no_ok (error.IntegrityCorrupted (unit.Part s.name e.name)) f
          (sym (fresh_fails s e bytes is fails) ∙ given))

  -- and all of them
  record AreAll (es : List Entry) (fs : List Fresh) : Type 0 where
    pub names : map (λ (f : Fresh). f.name) fs ≡ map (λ (e : Entry). e.name) es
    pub rules : AllByRecursion (IsExportable s.kind) fs
    pub long : length fs ≡ length es

  all_so : (es : List Entry) → AllByRecursion (IsEntryOf shape) es → (fs : List Fresh) → exported_contents s es ≡ Ok fs
      → AreAll es fs
  all_so [] entries fs given = subst (λ (xs : List Fresh). AreAll [] xs) (ok_same [] fs given)
      (record { names = refl; rules = tt; long = refl })
  all_so (e ∷ es) entries fs given = by (all_so es entries.1) (fresh_of s e) refl (exported_contents s es) refl given
    where
      by : ((gs : List Fresh) → exported_contents s es ≡ Ok gs → AreAll es gs) → (one : Result Fresh PerError)
          → fresh_of s e ≡ one
          → (rest : Result (List Fresh) PerError) → exported_contents s es ≡ rest
          → (one >>= λ f. rest >>= λ gs. Ok (f ∷ gs)) ≡ Ok fs → AreAll (e ∷ es) fs
      by all (Err x) one rest others is = absurd (no_ok x fs is)
      by all (Ok f) one (Err x) others is = absurd (no_ok x fs is)
      by all (Ok f) one (Ok gs) others is =
          let first = one_so e entries.0 e.content refl f one in
          let more = all gs others in
          subst (λ (xs : List Fresh). AreAll (e ∷ es) xs) (ok_same (f ∷ gs) fs is) (record {
            names = ap (λ (n : List ℕ). n ∷ map (λ (g : Fresh). g.name) gs) first.name
                ∙ ap (λ (ns : List (List ℕ)). e.name ∷ ns) more.names;
            rules = (first.rules, more.rules);
            long = ap suc more.long;
          })

  pub exportable : (v : View) → IsView shape v → (fs : List Fresh) → exported_contents s v.entries ≡ Ok fs
      → AreExportable s.kind fs
  exportable v view fs given = let all = all_so v.entries view.each fs given in record {
    few = subst (λ (n : ℕ). n ≤ 1024) (sym all.long) view.few;
    each = all.rules;
    ascend = subst (λ (ns : List (List ℕ)). IsStrictlySortedBy name_cmp ns) (sym all.names) view.names_ascend;
  }

-- ---- the text of a state

pub text_corrupt : (s : StorageData) (state : State) → opened_of state ≡ None
    → text_from s state ≡ Err (error.IntegrityCorrupted (unit.Whole s.name))
text_corrupt s (Opens v others) is = absurd cc
text_corrupt s (Corrupt salvage others) is = refl

text_opens : (s : StorageData) (v : View) (state : State) → opened_of state ≡ Some v
    → text_from s state ≡ ((exported_contents s v.entries >>= λ contents. Ok
    (record { kind = s.kind; contents = contents }))
    >>= λ x. Ok (export_text x))
text_opens s v (Corrupt salvage others) is = absurd cc
text_opens s v (Opens w others) is = let same : w ≡ v = cc in
    ap (λ (u : View). (exported_contents s u.entries >>= λ contents. Ok
    (record { kind = s.kind; contents = contents })) >>=
    λ x. Ok (export_text x)) same

pub text_made : (s : StorageData) (v : View) (state : State) → opened_of state ≡ Some v → (fs : List Fresh)
    → exported_contents s v.entries ≡ Ok fs
    → text_from s state ≡ Ok (export_text (record { kind = s.kind; contents = fs }))
text_made s v state is fs given = text_opens s v state is
    ∙ ap (λ (r : Result (List Fresh) PerError). (r >>= λ contents. Ok (record { kind = s.kind; contents = contents }))
    >>= λ x. Ok (export_text x)) given

pub text_refused : (s : StorageData) (v : View) (state : State) → opened_of state ≡ Some v → (e : PerError)
    → exported_contents s v.entries ≡ Err e → text_from s state ≡ Err e
text_refused s v state is e given = text_opens s v state is
    ∙ ap (λ (r : Result (List Fresh) PerError). (r >>= λ contents. Ok (record { kind = s.kind; contents = contents }))
    >>= λ x. Ok (export_text x)) given

-- ---- the answer of an export

-- the state that was seen: on a disk that models nothing, one that opens at what was read
abbrev state_of : Option View → State
state_of None = Corrupt None []
state_of (Some v) = Opens v []

opened_so : (view : Option View) → opened_of (state_of view) ≡ view
opened_so None = refl
opened_so (Some v) = refl

state_seen : (told : Bool) (there : State) (view : Option View) → (IsTrue told → opened_of there ≡ view)
    → (state : State) × (IsTrue told → state ≡ there) × (opened_of state ≡ view)
state_seen true there view is = (there, λ tells. refl, is refl)
state_seen false there view is = (state_of view, λ tells. absurd (true≢false (sym tells)), opened_so view)

abbrev Answered : (told : Bool) → Image → ℕ → List ℕ → Exported → Type 0
Answered told image app name x = (it : App) × IsAppSeen told image app it × (exported_as x ≡ exporting it name)

pub answered : (told : Bool) (image mid : Image) (app : ℕ) (name : List ℕ) (l : Located) → mid ≡ image
    → IsLocatedAs told image app name l
    → (view : Option View) → (IsTrue told → opened_of (store_at mid l.shape) ≡ view)
    → (x : Exported) → ((state : State) → opened_of state ≡ view → exported_as x ≡ text_from (config_of l) state)
    → Answered told image app name x
answered told image mid app name l same located view opened x gives =
    let seen = state_seen told (store_at image l.shape) view
    (λ tells. ap (λ (im : Image). opened_of (store_at im l.shape)) (sym same) ∙ opened tells) in
    let found = located.named seen.0 seen.1 in (
      found.0,
      found.1,
      gives seen.0 seen.2 ∙ sym (exporting_found found.0 name
          (found_as located.active located.of.number l seen.0) found.2),
    )

pub answered_missing : (told : Bool) (image : Image) (app : ℕ) (name : List ℕ) (e : PerError)
    → IsMissingStorage told image app name e
    → (x : Exported) → exported_as x ≡ Err e → Answered told image app name x
answered_missing told image app name e missing x is = (
  missing.0,
  missing.1,
  is ∙ sym (exporting_missing missing.0 name e missing.2),
)
