-- What a recovery and a reset come to, and every moment of a call that first looks.
use Rattle.std.proofs.Common.{◌≡◌, ℕ, ◌+◌, ◌<◌, ◌≤◌, Bool, true, false, cond, List, [], ◌∷◌, refl, sym, ap, subst, ◌∙◌}
use Rattle.std.proofs.Common.{arith}
use Rattle.std.specs.Prelude.{IsErr, IsTrue, Option, None, Some, Result, Ok, Err, length, nat_le, nat_lt, sum_by}
use Rattle.std.specs.List.{AllByRecursion}
use Rattle.std.proofs.lemmas.Bool.Decides.{nat_tests}
use Rattle.per_base.specs.declared.elements.Cause.TheVariants as cause
use Rattle.per_base.specs.declared.elements.Fresh.{Fresh}
use Rattle.per_base.specs.declared.elements.StoreKind.{StoreKind}
use Rattle.per_base.specs.declared.elements.StoreKind.TheVariants.{Keys, Files}
use Rattle.per_base.specs.declared.errors.PerError.{PerError}
use Rattle.per_base.specs.declared.errors.PerError.TheVariants as error
use Rattle.per_base.specs.declared.errors.Limit.TheVariants as limit
use Rattle.disk_model.specs.Frame.{IsSettledOn}
use Rattle.disk_model.specs.Image.{Image}
use Rattle.disk_model.specs.lemmas.Frames.{settled_on}
use Rattle.disk_model.specs.Laws.{goes_none, goes_on}
use Rattle.disk_model.specs.Medium.{EachCase, Elapses, IsIdle, IsLawful, Medium, Quiet}
use Rattle.index_text.specs.Contents.{AreContents, SuitsKind, fresh_size}
use Rattle.index_text.specs.Rules.{max_len}
use Rattle.deployment_model.specs.Data.{StorageData}
use Rattle.element_maps.specs.Storages.{IsConfigured}
use Rattle.element_laws.specs.Phases.{IsOfPlace, UntouchedLaw}
use Rattle.element_state.specs.declared.shapes.Shape.{Shape}
use Rattle.element_state.specs.declared.shapes.View.{View}
use Rattle.element_state.specs.Clean.{IsClean}
use Rattle.element_state.specs.Conditions.{IsShape}
use Rattle.element_state.specs.Kept.{IsKeptCase, KeptThroughout}
use Rattle.element_state.specs.States.{State, Corrupt, fresh_map, fresh_state, greatest_generation, next_generation}
use Rattle.element_state.specs.States.{salvage_of, store_at}
use Rattle.element_store.specs.Rebuilds.{HasNext, rebuilding_cost}
use Rattle.update_plan.specs.Rows.{initial_contents}
use Rattle.deploy_rows.specs.Recovering.{after_state, if_contents_fit, is_worn_out, rebuilding, recovered_contents}
use Rattle.deploy_rows.specs.Recovering.{recovering}
use Rattle.deploy_rows.specs.Recovering.{resetting}
use Rattle.deploy_rows.specs.Rows.{AnswersRow}
use Rattle.deploy_laws.specs.Stands.{ChangesNothing}
use Rattle.deploy.specs.Clauses.{Leaves}
use Rattle.deploy.specs.Recovered.{AreElements}

-- ---- a rebuilding

abbrev unless_worn : Bool → Option View → List Fresh → Result State PerError
unless_worn worn view contents = cond worn (Err (error.LimitReached limit.Generations))
    (Ok (fresh_state (next_generation view) (fresh_map contents)))

-- a generation is left
pub has_next : (view : Option View) → is_worn_out view ≡ false → HasNext view
has_next None fresh = tt
has_next (Some v) fresh = left v.generation fresh
  where
    left : (g : ℕ) → nat_le greatest_generation g ≡ false → g < greatest_generation
    left g e = grind (arith, nat_tests, e)

-- without one a rebuilding is refused
pub worn_refused : (view : Option View) (contents : List Fresh) → is_worn_out view ≡ true
    → rebuilding (Corrupt view []) contents ≡ Err (error.LimitReached limit.Generations)
worn_refused view contents worn = ap (λ (b : Bool). unless_worn b view contents) worn

pub worn_answers : (view : Option View) (contents : List Fresh) (e : PerError)
    → e ≡ error.LimitReached limit.Generations → is_worn_out view ≡ true
    → AnswersRow (Some e) (rebuilding (Corrupt view []) contents)
worn_answers view contents e is worn = subst (λ (r : Result State PerError). AnswersRow (Some e) r)
    (sym (worn_refused view contents worn)) (sym is)

-- and the state stays
pub worn_stays : (state : State) (view : Option View) (contents : List Fresh) → view ≡ salvage_of state
    → is_worn_out view ≡ true
    → state ≡ after_state state (rebuilding state contents)
worn_stays state view contents read worn =
    sym (ap (λ (b : Bool). after_state state (unless_worn b (salvage_of state) contents))
    (ap is_worn_out (sym read) ∙ worn))

-- with one it leads to the new contents
pub next_answers : (view : Option View) (contents : List Fresh) → is_worn_out view ≡ false
    → AnswersRow None (rebuilding (Corrupt view []) contents)
next_answers view contents fresh = subst (λ (b : Bool). AnswersRow None (unless_worn b view contents)) (sym fresh) tt

pub rebuilt_next : (state : State) (view : Option View) (contents : List Fresh) → view ≡ salvage_of state
    → is_worn_out view ≡ false
    → after_state state (rebuilding state contents) ≡ fresh_state (next_generation (salvage_of state))
    (fresh_map contents)
rebuilt_next state view contents read fresh =
    ap (λ (b : Bool). after_state state (unless_worn b (salvage_of state) contents)) (ap is_worn_out (sym read) ∙ fresh)

-- ---- the rows

abbrev unless_large : Bool → StorageData → State → List Fresh → Result State PerError
unless_large large s state contents = cond large (Err (error.OutOfStorageSpace (sum_by fresh_size contents) s.maximum))
    (rebuilding state contents)

-- what fits is rebuilt, and what does not is refused with both sizes
pub fits_row : (s : StorageData) (contents : List Fresh) → sum_by fresh_size contents ≤ s.maximum → (state : State)
    → if_contents_fit s state contents ≡ rebuilding state contents
fits_row s contents le state = ap (λ (b : Bool). unless_large b s state contents)
    (within (sum_by fresh_size contents) s.maximum le)
  where
    within : (a b : ℕ) → a ≤ b → nat_lt b a ≡ false
    within a b le = grind (arith, nat_tests, le)

pub large_row : (s : StorageData) (contents : List Fresh) → s.maximum < sum_by fresh_size contents → (state : State)
    → if_contents_fit s state contents ≡ Err (error.OutOfStorageSpace (sum_by fresh_size contents) s.maximum)
large_row s contents lt state = ap (λ (b : Bool). unless_large b s state contents)
    (above (sum_by fresh_size contents) s.maximum lt)
  where
    above : (a b : ℕ) → b < a → nat_lt b a ≡ true
    above a b lt = grind (arith, nat_tests, lt)

-- what fits and is refused is worn out
pub fits_worn : (s : StorageData) (contents : List Fresh) → sum_by fresh_size contents ≤ s.maximum
    → (state : State) (view : Option View) → view ≡ salvage_of state
    → IsErr (if_contents_fit s state contents) → is_worn_out view ≡ true
fits_worn s contents le state view read err = ap is_worn_out read
    ∙ worn (is_worn_out (salvage_of state)) (subst (λ (r : Result State PerError). IsErr r)
    (fits_row s contents le state) err)
  where
    worn : (b : Bool) → IsErr (unless_worn b (salvage_of state) contents) → b ≡ true
    worn true err = refl
    worn false err = absurd cc

if_recovered : (s : StorageData) (now : ℕ) (state : State) (view : Option View) (contents : List Fresh)
    → view ≡ salvage_of state
    → contents ≡ recovered_contents s now view → recovering s now state ≡ if_contents_fit s state contents
unfolding recovering
if_recovered s now state view contents read made =
    ap (λ (fs : List Fresh). if_contents_fit s state fs) (ap (λ (v : Option View). recovered_contents s now v)
    (sym read)
    ∙ sym made)

pub recovery_row : (s : StorageData) (now : ℕ) (view : Option View) (contents : List Fresh)
    → contents ≡ recovered_contents s now view
    → sum_by fresh_size contents ≤ s.maximum → (state : State) → view ≡ salvage_of state
    → recovering s now state ≡ rebuilding state contents
recovery_row s now view contents made le state read = if_recovered s now state view contents read made
    ∙ fits_row s contents le state

pub too_large : (s : StorageData) (now : ℕ) (view : Option View) (contents : List Fresh)
    → contents ≡ recovered_contents s now view
    → s.maximum < sum_by fresh_size contents → (state : State) → view ≡ salvage_of state
    → recovering s now state ≡ Err (error.OutOfStorageSpace (sum_by fresh_size contents) s.maximum)
too_large s now view contents made lt state read = if_recovered s now state view contents read made
    ∙ large_row s contents lt state

pub reset_row : (s : StorageData) (now : ℕ) (view : Option View) (contents : List Fresh)
    → contents ≡ initial_contents s cause.Reset now
    → (state : State) → view ≡ salvage_of state → resetting s now state ≡ rebuilding state contents
unfolding resetting
reset_row s now view contents made state read = ap (λ (fs : List Fresh). rebuilding state fs) (sym made)

-- ---- the state that was read: on a disk that models nothing, the view that was read

abbrev seen_state : (told : Bool) (there : State) (view : Option View) → State
seen_state told there view = cond told there (Corrupt view [])

seen_there : (told : Bool) (there : State) (view : Option View) → IsTrue told → there ≡ seen_state told there view
seen_there told there view tells = sym (ap (λ (b : Bool). seen_state b there view) tells)

seen_view : (told : Bool) (there : State) (view : Option View) → (IsTrue told → view ≡ salvage_of there)
    → view ≡ salvage_of (seen_state told there view)
seen_view true there view read = read refl
seen_view false there view read = refl

-- a state from which a row answers so
abbrev pub AnswersFrom : (told : Bool) (there : State) (row : State → Result State PerError) → Option PerError → Type 0
AnswersFrom told there row refused = (state : State) × (IsTrue told → there ≡ state) × AnswersRow refused (row state)

module _ (row : State → Result State PerError) (view : Option View) (told : Bool) (there : State)
    (read : IsTrue told → view ≡ salvage_of there) where
  pub answers_row : (contents : List Fresh) → ((state : State) → view ≡ salvage_of state
      → row state ≡ rebuilding state contents)
      → (refused : Option PerError) → AnswersRow refused (rebuilding (Corrupt view []) contents)
      → AnswersFrom told there row refused
  answers_row contents is refused answer = (
    seen_state told there view,
    seen_there told there view,
    subst (λ (r : Result State PerError). AnswersRow refused r)
        (ap (λ (v : Option View). unless_worn (is_worn_out v) v contents) (seen_view told there view read)
        ∙ sym (is (seen_state told there view) (seen_view told there view read))) answer,
  )

  pub answers_large : (e : PerError) → ((state : State) → view ≡ salvage_of state → row state ≡ Err e) → (f : PerError)
      → e ≡ f
      → AnswersFrom told there row (Some f)
  answers_large e is f same = (
    seen_state told there view,
    seen_there told there view,
    subst (λ (r : Result State PerError). AnswersRow (Some f) r)
        (sym (is (seen_state told there view) (seen_view told there view read))) same,
  )

-- the state after a rebuilding is that after the row, over the same image
pub rebuilt_as : (row : State → Result State PerError) (view : Option View) (contents : List Fresh)
    → ((state : State) → view ≡ salvage_of state → row state ≡ rebuilding state contents)
    → (old mid : Image) (shape : Shape) → mid ≡ old → view ≡ salvage_of (store_at old shape)
    → after_state (store_at mid shape) (rebuilding (store_at mid shape) contents)
    ≡ after_state (store_at old shape) (row (store_at old shape))
rebuilt_as row view contents is old mid shape same read =
    ap (λ (im : Image). after_state (store_at im shape) (rebuilding (store_at im shape) contents)) same
    ∙ sym (ap (λ (r : Result State PerError). after_state (store_at old shape) r) (is (store_at old shape) read))

-- ---- sizes

kind_small : (kind : StoreKind) → max_len kind ≤ 1048576
kind_small Keys = omega arith
kind_small Files = omega arith

pub bytes_small : (kind : StoreKind) (contents : List Fresh) → AllByRecursion (SuitsKind kind) contents
    → AllByRecursion (λ (x : Fresh). length x.bytes ≤ 1048576) contents
bytes_small kind [] each = tt
bytes_small kind (x ∷ xs) each = (small x each.0, bytes_small kind xs each.1)
  where
    small : (x : Fresh) → SuitsKind kind x → length x.bytes ≤ 1048576
    small x is = let most = kind_small kind in let len = is.small in omega (arith, most, len)

pub elements_within : (kind : StoreKind) (maximum : ℕ) (contents : List Fresh) → AreElements kind contents
    → sum_by fresh_size contents ≤ maximum → AreContents kind maximum contents
elements_within kind maximum contents are le = record {
  each = are.each;
  names_ascend = are.names_ascend;
  few =
      are.few;
  small = le;
}

pub at_shape : (shape : Shape) (s : StorageData) (contents : List Fresh) → {of : StoreKind} → IsConfigured of s shape
    → AreContents s.kind s.maximum contents
    → AreContents shape.kind shape.allowed contents
at_shape shape s contents lies are = subst (λ (k : StoreKind). AreContents k shape.allowed contents)
    (lies.of_kind ∙ sym lies.kind)
    (subst (λ n. AreContents s.kind n contents) (sym lies.allowed) are)

-- ---- moments

-- while nothing is called
pub none_leaves : (told : Bool) (Apart : ℕ → Type 0) (old : Medium) → IsLawful told old → Leaves told Apart old old
none_leaves told Apart old law = record {
  at_the_end = λ tells f out. refl;
  throughout = λ tells quiet. goes_none (IsSettledOn Apart old.image) law
      (λ c here. settled_on Apart (quiet c here));
}

-- nothing was changed where it was looked and then nothing was done
pub nothing_changes : (old mid new : Medium) → mid.image ≡ old.image → mid.written ≡ old.written
    → (Quiet old → IsIdle old mid) → new ≡ mid → ChangesNothing old new
nothing_changes old mid new image written idle same = subst (λ (m : Medium). ChangesNothing old m) (sym same)
    (record { image = image; written = written; idle = idle })

module _ (old mid : Medium) (same : mid.image ≡ old.image) (idle : Quiet old → IsIdle old mid) where
  -- while it looks
  pub look_kept : UntouchedLaw → (shape : Shape) → IsShape shape → (state : State) → KeptThroughout shape state old mid
  look_kept untouched shape is state quiet clean c past =
      untouched shape old.image state c is.some clean (settled_on (IsOfPlace shape.place)
      ((idle quiet).during c past))

  pub look_leaves : (told : Bool) (Apart : ℕ → Type 0) → Leaves told Apart old mid
  look_leaves told Apart = record {
    at_the_end = λ tells f out. ap (λ (im : Image). im f) same;
    throughout = λ tells quiet c past. settled_on Apart ((idle quiet).during c past);
  }

  -- and then
  module _ (new : Medium) (before : Elapses old mid) (later : Elapses mid new) where
    pub then_kept : UntouchedLaw → (shape : Shape) → IsShape shape → (state : State)
        → KeptThroughout shape state mid new → KeptThroughout shape state old new
    then_kept untouched shape is state keeps quiet clean =
        goes_on (IsKeptCase shape old.image state) before later (look_kept untouched shape is state quiet clean)
        (subst (λ (im : Image). EachCase (IsKeptCase shape im state) mid new) same
        (keeps (idle quiet).quiet (subst (λ (im : Image). IsClean shape im) (sym same) clean)))

    pub then_leaves : (told : Bool) (Apart : ℕ → Type 0) → Leaves told Apart mid new → Leaves told Apart old new
    then_leaves told Apart leaves = record {
      at_the_end = λ tells f out. leaves.at_the_end tells f out ∙ ap (λ (im : Image). im f) same;
      throughout = λ tells quiet. goes_on (IsSettledOn Apart old.image) before later
          ((look_leaves told Apart).throughout tells quiet)
          (subst (λ (im : Image). EachCase (IsSettledOn Apart im) mid new) same
          (leaves.throughout tells (idle quiet).quiet));
    }

-- ---- the count of bytes, of a call that first looks

pub looked_within : (cost was mid : ℕ) → mid ≡ was → mid ≤ was + cost
looked_within cost was mid looked = omega (arith, looked)

pub rebuilt_within : {of : StoreKind} (shape : Shape) (s : StorageData) (cs fs : List Fresh) (was mid end : ℕ)
    → IsConfigured of s shape → cs ≡ fs → mid ≡ was → end ≤ mid + rebuilding_cost shape.place.copies cs
    → end ≤ was + rebuilding_cost s.n fs
rebuilt_within shape s cs fs was mid end of same looked written =
    subst (λ (n : ℕ). end ≤ n + rebuilding_cost s.n fs) looked
    (subst (λ (n : ℕ). end ≤ mid + rebuilding_cost n fs) of.copies
    (subst (λ (es : List Fresh). end ≤ mid + rebuilding_cost shape.place.copies es) same written))
