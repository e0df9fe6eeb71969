-- Where the last sync stands in a record.
use Rattle.std.proofs.Common.{◌≡◌, ℕ, ◌+◌, ◌<◌, ◌≤◌, suc, List, [], ◌∷◌, ◌++◌, length, take, drop, get_or, refl, sym}
use Rattle.std.proofs.Common.{ap, ◌∙◌, subst, arith, drop_of_length-le, take_all, le_refl}
use Rattle.std.proofs.Math.Seq.{take-suc}
use Rattle.std.proofs.lemmas.List.{drop-append-le, take-append-le, length-append}
use Rattle.disk_model.specs.declared.history.Call.{Call}
use Rattle.disk_model.specs.declared.history.Call.TheVariants.{Write, Sync, Read}
use Rattle.disk_model.specs.Image.{Image}
use Rattle.disk_model.specs.History.{image_after, base_after, pending_after}
use Rattle.disk_model.proofs.Records.{image_after-append, base_after-append, pending_after-append}

-- of the first calls, that many are closed by the last sync among them
pub record IsSynced (calls : List Call) (count : ℕ) : Type 0 where
  pub within : count ≤ length calls
  pub base : (image : Image) → base_after calls image image ≡ image_after (take count calls) image
  pub pending : pending_after calls [] ≡ drop count calls

-- one more call, as a loop meets it
pub one_more : (calls : List Call) (i : ℕ) (call : Call) → i < length calls → call ≡ get_or calls i call
    → take (i + 1) calls ≡ take i calls ++ (call ∷ [])
one_more calls i call lt is = let e : i + 1 ≡ suc i = omega arith in
    ap (λ k. take k calls) e ∙ take-suc calls i call lt ∙ ap (λ x. take i calls ++ (x ∷ [])) (sym is)

-- a sync closes all calls so far
pub closed : (calls : List Call) (calls' : List Call) → calls' ≡ calls ++ (Sync ∷ []) → IsSynced calls' (length calls')
closed calls calls' is = record {
  within = omega arith;
  base = λ image. ap (λ xs. base_after xs image image) is ∙ base_after-append calls (Sync ∷ []) image image
      ∙ sym (image_after-append calls (Sync ∷ []) image) ∙ sym
      (ap (λ xs. image_after xs image) (take_all (length calls') calls' (le_refl (length calls')) ∙ is));
  pending = ap (λ xs. pending_after xs []) is ∙ pending_after-append calls (Sync ∷ []) []
      ∙ sym (drop_of_length-le calls' (omega arith));
}

-- any other call leaves open what was
pub stays_open : (calls : List Call) (count : ℕ) (call : Call) (calls' : List Call) → (call ≡ Sync → ⊥)
    → calls' ≡ calls ++ (call ∷ [])
    → IsSynced calls count → IsSynced calls' count
stays_open calls count Sync calls' other is synced = absurd (other refl)
stays_open calls count (Write file at bytes) calls' other is synced = subst (λ xs. IsSynced xs count) (sym is) (record {
  within = omega (arith, synced.within, length-append calls (Write file at bytes ∷ []));
  base = λ image. base_after-append calls (Write file at bytes ∷ []) image image ∙ synced.base image
      ∙ ap (λ xs. image_after xs image) (sym (take-append-le count calls (Write file at bytes ∷ []) synced.within));
  pending = pending_after-append calls (Write file at bytes ∷ []) []
      ∙ ap (λ xs. xs ++ (Write file at bytes ∷ [])) synced.pending
      ∙ sym (drop-append-le count calls (Write file at bytes ∷ []) synced.within);
})
stays_open calls count Read calls' other is synced = subst (λ xs. IsSynced xs count) (sym is) (record {
  within = omega (arith, synced.within, length-append calls (Read ∷ []));
  base = λ image. base_after-append calls (Read ∷ []) image image ∙ synced.base image
      ∙ ap (λ xs. image_after xs image) (sym (take-append-le count calls (Read ∷ []) synced.within));
  pending = pending_after-append calls (Read ∷ []) [] ∙ ap (λ xs. xs ++ (Read ∷ [])) synced.pending
      ∙ sym (drop-append-le count calls (Read ∷ []) synced.within);
})
