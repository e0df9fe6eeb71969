-- What the clauses of a storage exclude.
use Rattle.std.specs.Prelude.{◌≡◌, ℕ, zero, suc, ◌+◌, ◌*◌, ◌<◌, ◌≤◌, List, [], ◌∷◌, length, Option, slice_index_or}
use Rattle.std.specs.List.{AllByRecursion, Contains}
use Rattle.std.proofs.Common.{sym, ◌∙◌, subst, ⊎_elim, arith}
use Rattle.std.proofs.Math.Nat.{mul-le-mul_left}
use Rattle.per_base.specs.declared.elements.Content.{Content}
use Rattle.per_base.specs.declared.elements.Entry.{Entry}
use Rattle.per_base.specs.declared.elements.StoreKind.TheVariants.{Files}
use Rattle.per_base.specs.Contents.{blocks_for}
use Rattle.disk_model.specs.Image.{Image}
use Rattle.disk_model.specs.Medium.{Medium}
use Rattle.block_files.specs.Parts.{changed_blocks}
use Rattle.element_state.specs.declared.shapes.Shape.{Shape}
use Rattle.element_state.specs.declared.shapes.View.{View}
use Rattle.element_state.specs.Conditions.{IsMended}
use Rattle.element_state.specs.Kept.{Kept}
use Rattle.element_state.specs.States.{State, Opens, store_at}
use Rattle.element_state.specs.Written.{commit_cost, cost_beside}
use Rattle.element_laws.specs.Refused.{IndexFirst, OldOverwritten, SalvageLost}
use Rattle.element_store.specs.Stores.{view_in}
use Rattle.store_outcome_laws.specs.Stores.{BlankedFirst, ContentsNotDurable, CopyLacks, EqualBlocksWritten}
use Rattle.store_outcome_laws.specs.Stores.{FailureAsNoMemory}
use Rattle.store_outcome_laws.specs.Stores.{FewCopies, IsMomentOfCall, StandingOverwritten, TextsNotGivenUp}
use Rattle.store_outcome_laws.specs.Stores.{UnchangedWritten}

-- ---- what is written

more_than : (copies less more old new : ℕ) → less < more → 1 ≤ copies → new ≤ old + copies * less
    → new ≡ old + copies * more → ⊥
more_than (suc n) less more old new lt some le is =
    let rest : n * less ≤ n * more = mul-le-mul_left n (omega (arith, lt)) in
    omega (arith, lt, le, is, rest)
more_than zero less more old new lt some le is = omega (arith, some)

pub equal_blocks_written : EqualBlocksWritten
unfolding commit_cost
equal_blocks_written copies index old new entries f was within there few some is =
    let cost = 256 * changed_blocks f.bytes was in
    let here = subst (λ (o : Option Content). new ≤ old + copies * (0 + cost_beside Files o f.bytes + index + 88)) there
    within in
    more_than copies (0 + cost + index + 88) (256 * blocks_for (length f.bytes) + index + 88) old new
    (omega (arith, few)) some here is

pub unchanged_written : UnchangedWritten
unfolding commit_cost
unchanged_written copies index old new kind entries within more = omega (arith, within, more)

pub failure_as_want : FailureAsNoMemory
failure_as_want result before after fed rose below want = let same = fed want in omega (arith, same, rose, below)

-- ---- what is in the copies

pub few_copies : FewCopies
few_copies told image s copy used tells inside lacks = lacks ((used.disk tells).alone.held copy inside)

all_at : {A : Type 0} (P : A → Type 0) (xs : List A) (i : ℕ) (d : A) → AllByRecursion P xs → i < length xs
    → P (slice_index_or xs i d)
all_at P [] i d all lt = absurd (omega (arith, lt))
all_at P (x ∷ xs) zero d all lt = all.0
all_at P (x ∷ xs) (suc i) d all lt = all_at P xs i d all.1 (omega (arith, lt))

abbrev IsMendedEntry : Entry → Type 0
IsMendedEntry e = IsMended e.content e.lacking

mended : (es : List Entry) (e : Entry) → AllByRecursion IsMendedEntry es → Contains es e → IsMendedEntry e
mended es e all found = subst IsMendedEntry found.2 (all_at IsMendedEntry es found.0 e all found.1)

same_view : (v w : View) (xs ys : List View) → Opens v xs ≡ Opens w ys → w ≡ v
same_view v w xs ys is = cc

no_copy : (copy : ℕ) (rest : List ℕ) → [] ≡ copy ∷ rest → ⊥
no_copy copy rest is = absurd cc

pub copy_lacks : CopyLacks
copy_lacks told image s v others e value rest copy used tells opens found good lacks =
    let in_use = used.disk tells in
    let same : view_in s ≡ v = same_view v (view_in s) others [] (sym opens ∙ in_use.opens) in
    let all = subst (λ (w : View). AllByRecursion IsMendedEntry w.entries) same in_use.mended in
    let none : e.lacking ≡ [] = subst (λ (c : Content). IsMended c e.lacking) good (mended v.entries e all found) in
    no_copy copy rest (sym none ∙ lacks)

-- ---- what a stop leaves

module _ {D : Type 0} (medium : D → Medium) where
  kept_at : (shape : Shape) (before after left : State) (image : Image) → IsMomentOfCall medium shape before after image
      → store_at image shape ≡ left → Kept shape [] left before after
  kept_at shape before after left image m is =
      let on = m.kept m.quiet m.clean m.case m.since m.sound.pieces [] image m.left in
      subst (λ (s : State). Kept shape [] s before after) is
      (subst (λ (s : State). Kept shape [] (store_at image shape) s after) m.was on.kept)

  pub contents_not_durable : IndexFirst → ContentsNotDurable medium
  contents_not_durable index_first shape g was is image enough m there =
      index_first shape g was is enough (kept_at shape _ _ _ image m there)

  pub standing_overwritten : OldOverwritten → StandingOverwritten medium
  standing_overwritten old_overwritten shape g was is image enough m there =
      old_overwritten shape g was is enough (kept_at shape _ _ _ image m there)

  pub blanked_first : SalvageLost → BlankedFirst medium
  blanked_first salvage_lost shape g was is image some m there =
      salvage_lost shape g was is some (kept_at shape _ _ _ image m there)

pub texts_not_given_up : TextsNotGivenUp
texts_not_given_up place c at untorn unsettled named =
    ⊎_elim (λ settled. unsettled settled.0 settled.1) (λ nothing. nothing.2 at named) untorn
