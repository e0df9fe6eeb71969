-- The new contents of a storage: what the merged names become.
use Rattle.std.proofs.Common.{◌≡◌, ℕ, ◌≤◌, Bool, true, false, List, [], ◌∷◌, ◌++◌, length, map, Option, Some, None}
use Rattle.std.proofs.Common.{Result, Ok, Err, refl, sym, ap, subst, ◌∙◌, append_assoc, append-nil, arith}
use Rattle.std.specs.Prelude.{nat_lt, sum_by, IfOk}
use Rattle.std.specs.List.{AllByRecursion, cons_option}
use Rattle.std.specs.List.Sorted.{IsStrictlySortedBy}
use Rattle.std.specs.Str.{bytes_eq}
use Rattle.std.specs.declared.cmp.Ordering.TheVariants.{Less}
use Rattle.std.proofs.lemmas.Bool.{ltb-false}
use Rattle.per_base.specs.declared.elements.Entry.{Entry}
use Rattle.per_base.specs.declared.elements.Fresh.{Fresh}
use Rattle.per_base.specs.declared.elements.StoreKind.{StoreKind}
use Rattle.per_base.specs.declared.elements.StoreKind.TheVariants.{Keys, Files}
use Rattle.per_base.specs.declared.errors.PerError.{PerError}
use Rattle.per_base.specs.Names.{name_cmp}
use Rattle.index_text.specs.Rules.{max_len}
use Rattle.deployment_model.specs.Conditions.{IsElement, IsStorage}
use Rattle.deployment_model.specs.Data.{ElementData, StorageData}
use Rattle.deployment_model.specs.Lookups.{element_named}
use Rattle.deployment_model.specs.declared.configs.CollectionStrategy.{CollectionStrategy}
use Rattle.deployment_model.specs.declared.configs.ElementStrategy.{ElementStrategy}
use Rattle.deployment_model.specs.declared.configs.ElementStrategy.TheVariants as own
use Rattle.migrate_fns.specs.Rules.{Rule, Answers}
use Rattle.update_plan.specs.Fates.{Becomes, Fate, goes, gets, converted, refused, RefusesAs, by_row, fate, refusal}
use Rattle.index_text.specs.Contents.{AreContents, SuitsKind, fresh_size}
use Rattle.update_plan.specs.Limits.{IfMade}
use Rattle.update_plan.specs.Merging.{Item, merged}
use Rattle.update_plan.specs.Plans.{AreStored, IsStoredEntry, PlansOver, UnlessOutOfMemory, Updated, entry_named}
use Rattle.update_plan.specs.Plans.{first_or_none, first_refusal}
use Rattle.update_plan.specs.Plans.{fresh_named, within_limits}
use Rattle.update_plan.specs.Renewed.{BecomeAll, RenewAll, item_fate, refusals}
use Rattle.update_plan.specs.Rows.{row_by, initial_or}
use Rattle.update_plan.specs.Views.{viewed_items}
use Rattle.update_plan.proofs.Merged.{Above, OfItem, absent, item_name, joined, merged_all, merged_ascends}
use Rattle.update_plan.proofs.Merged.{merged_joined, merged_refusals, named, same_name}

abbrev pub fresh_name : Fresh → List ℕ
fresh_name x = x.name

put_first : {A : Type 0} (o : Option A) (xs : List A) → cons_option o [] ++ xs ≡ cons_option o xs
put_first None xs = refl
put_first (Some x) xs = refl

not_refused : (answers : Answers) (name : List ℕ) (f : Fate) (new : Option Fresh) → Becomes answers name f new
    → refusal f ≡ None
not_refused answers name goes new h = refl
not_refused answers name (gets x) new h = refl
not_refused answers name (converted v places) new h = refl
not_refused answers name (refused e) new h = absurd h

-- ---- the loop over the merged names

module _ (rules : List Rule) (answers : Answers) (now : ℕ) (s : StorageData) where
  pub record Renewing (all left : List Item) (made : List Fresh) : Type 0 where
    pub becomes : (new : List Fresh) → BecomeAll rules answers now s left new
        → BecomeAll rules answers now s all (made ++ new)
    pub same_refusals : refusals rules now s all ≡ refusals rules now s left
    pub fit : AllByRecursion (OfItem (IsStoredEntry s.kind) (IsElement s.kind)) left

  pub begun : (es : List Entry) → AllByRecursion (IsStoredEntry s.kind) es
      → AllByRecursion (IsElement s.kind) s.elements
      → Renewing (merged es s.elements) (merged es s.elements) []
  begun es h k = record {
    becomes = λ new b. b;
    same_refusals = refl;
    fit =
        merged_all (IsStoredEntry s.kind) (IsElement s.kind) es s.elements h k;
  }

  pub next : (all left rest : List Item) (p : Item) (f : Option Fresh) (made longer : List Fresh)
      → Renewing all left made → left ≡ p ∷ rest → Becomes answers p.name (item_fate rules now s p) f
      → IfMade s.kind p.name f
      → longer ≡ made ++ cons_option f [] → Renewing all rest longer
  next all left rest p f made longer r is becomes if_made more =
      let inner = subst (λ l. Renewing all l made) is r in
      record {
        becomes = λ new b.
            let same : longer ++ new ≡ made ++ cons_option f new =
            ap (λ l. l ++ new) more ∙ append_assoc made (cons_option f []) new
            ∙ ap (λ l. made ++ l) (put_first f new) in
            subst (λ l. BecomeAll rules answers now s all l) (sym same)
            (inner.becomes (cons_option f new) (f, new, becomes, if_made, b, refl));
        same_refusals = inner.same_refusals ∙ ap (λ o. cons_option o (refusals rules now s rest))
            (not_refused answers p.name (item_fate rules now s p) f becomes);
        fit = inner.fit.1;
      }

  pub ended : (all left : List Item) (made : List Fresh) → Renewing all left made → left ≡ []
      → RenewAll rules answers now s all (Ok made)
  ended all left made r is =
      let inner = subst (λ l. Renewing all l made) is r in
      (inner.same_refusals, subst (λ l. BecomeAll rules answers now s all l) (append-nil made) (inner.becomes [] refl))

  pub stopped : (all left rest : List Item) (p : Item) (made : List Fresh) (e : PerError) → Renewing all left made
      → left ≡ p ∷ rest → RefusesAs (item_fate rules now s p) e → RenewAll rules answers now s all (Err e)
  stopped all left rest p made e r is refuses = λ memory.
      let inner = subst (λ l. Renewing all l made) is r in
      ap first_or_none (inner.same_refusals ∙ ap (λ o. cons_option o (refusals rules now s rest)) (refuses memory))

-- ---- what the merged names become is the new contents

module _ (rules : List Rule) (answers : Answers) (now : ℕ) (s : StorageData) where
  put_made : (name : List ℕ) (f : Option Fresh) (others : List Fresh) → IfMade s.kind name f
      → AllByRecursion (SuitsKind s.kind) others → AllByRecursion (SuitsKind s.kind) (cons_option f others)
  put_made name None others m h = h
  put_made name (Some x) others m h = (m.fresh, h)

  pub all_made : (ps : List Item) (new : List Fresh) → BecomeAll rules answers now s ps new
      → AllByRecursion (SuitsKind s.kind) new
  all_made [] new h = subst (AllByRecursion (SuitsKind s.kind)) (sym h) tt
  all_made (p ∷ ps) new h = subst (AllByRecursion (SuitsKind s.kind)) (sym h.5)
      (put_made p.name h.0 h.1 h.3 (all_made ps h.1 h.4))

  put_above : (a name : List ℕ) (f : Option Fresh) (others : List Fresh) → IfMade s.kind name f → name_cmp a name ≡ Less
      → Above a (map fresh_name others) → Above a (map fresh_name (cons_option f others))
  put_above a name None others m less h = h
  put_above a name (Some x) others m less h = (subst (λ n. name_cmp a n ≡ Less) (sym m.named) less, h)

  new_above : (a : List ℕ) (ps : List Item) (new : List Fresh) → BecomeAll rules answers now s ps new
      → Above a (map item_name ps) → Above a (map fresh_name new)
  new_above a [] new h above = subst (λ l. Above a (map fresh_name l)) (sym h) tt
  new_above a (p ∷ ps) new h above = subst (λ l. Above a (map fresh_name l)) (sym h.5)
      (put_above a p.name h.0 h.1 h.3 above.0 (new_above a ps h.1 h.4 above.1))

  new_ascend : (ps : List Item) (new : List Fresh) → BecomeAll rules answers now s ps new
      → IsStrictlySortedBy name_cmp (map item_name ps) → IsStrictlySortedBy name_cmp (map fresh_name new)
  unfolding IsStrictlySortedBy
  new_ascend [] new h ascends = subst (λ l. IsStrictlySortedBy name_cmp (map fresh_name l)) (sym h) tt
  new_ascend (p ∷ ps) new h ascends =
      let rest = new_ascend ps h.1 h.4 ascends.1 in
      let above = new_above p.name ps h.1 h.4 ascends.0 in
      subst (λ l. IsStrictlySortedBy name_cmp (map fresh_name l)) (sym h.5)
      (elim h.0 as (λ f. IfMade s.kind p.name f → IsStrictlySortedBy name_cmp (map fresh_name (cons_option f h.1))) [
        | None ↦ λ m. rest
        | Some x ↦ λ m. (subst (λ n. Above n (map fresh_name h.1)) (sym m.named) above, rest)
      ] h.3)

  abbrev Found : Option Item → Option Fresh → Type 0
  Found None new = new ≡ None
  Found (Some p) new = Becomes answers p.name (item_fate rules now s p) new

  named_there : (p : Item) (ps : List Item) (name : List ℕ) (f : Option Fresh) (others : List Fresh)
      → bytes_eq p.name name ≡ true → IfMade s.kind p.name f → Above p.name (map fresh_name others)
      → Becomes answers p.name (item_fate rules now s p) f
      → Becomes answers p.name (item_fate rules now s p) (named fresh_name (cons_option f others) name)
  named_there p ps name None others q m above b =
      let none : named fresh_name others name ≡ None = absent fresh_name others name
      (subst (λ n. Above n (map fresh_name others)) (same_name p.name name q) above) in
      subst (Becomes answers p.name (item_fate rules now s p)) (sym none) b
  named_there p ps name (Some x) others q m above b =
      let there : bytes_eq x.name name ≡ true = subst (λ n. bytes_eq n name ≡ true) (sym m.named) q in
      let found : named fresh_name (x ∷ others) name ≡ Some x = rw there refl in
      subst (Becomes answers p.name (item_fate rules now s p)) (sym found) b

  named_later : (p : Item) (name : List ℕ) (f : Option Fresh) (others : List Fresh) → bytes_eq p.name name ≡ false
      → IfMade s.kind p.name f → named fresh_name (cons_option f others) name ≡ named fresh_name others name
  named_later p name None others q m = refl
  named_later p name (Some x) others q m = let there : bytes_eq x.name name ≡ false =
      subst (λ n. bytes_eq n name ≡ false) (sym m.named) q in rw there refl

  looked_up : (name : List ℕ) (ps : List Item) (new : List Fresh) → BecomeAll rules answers now s ps new
      → IsStrictlySortedBy name_cmp (map item_name ps) → Found (named item_name ps name) (named fresh_name new name)
  unfolding IsStrictlySortedBy
  looked_up name [] new h ascends = ap (λ l. named fresh_name l name) h
  looked_up name (p ∷ ps) new h ascends =
      let above = new_above p.name ps h.1 h.4 ascends.0 in
      let rest = looked_up name ps h.1 h.4 ascends.1 in
      elim (bytes_eq p.name name) as (λ b. bytes_eq p.name name ≡ b
      → Found (named item_name (p ∷ ps) name) (named fresh_name new name)) [
        | true ↦ λ q.
            let item : named item_name (p ∷ ps) name ≡ Some p = rw q refl in
            let there = named_there p ps name h.0 h.1 q h.3 above h.2 in
            subst (λ o. Found o (named fresh_name new name)) (sym item)
            (subst (λ l. Becomes answers p.name (item_fate rules now s p) (named fresh_name l name)) (sym h.5)
            there)
        | false ↦ λ q.
            let item : named item_name (p ∷ ps) name ≡ named item_name ps name = rw q refl in
            let later : named fresh_name new name ≡ named fresh_name h.1 name =
            ap (λ l. named fresh_name l name) h.5 ∙ named_later p name h.0 h.1 q h.3 in
            subst (λ o. Found o (named fresh_name new name)) (sym item)
            (subst (Found (named item_name ps name)) (sym later) rest)
      ] refl

  becomes_so : (name : List ℕ) (stored : Option Entry) (configured : Option ElementData) (new : Option Fresh)
      → Found (joined name stored configured) new → Becomes answers name (fate rules now s name configured stored) new
  becomes_so name None None new h = h
  becomes_so name (Some e) configured new h = h
  becomes_so name None (Some c) new h = h

  pub is_updated : (old : List Entry) (new : List Fresh) → IsStorage s → AreStored s.kind old
      → BecomeAll rules answers now s (merged old s.elements) new → Updated rules answers now s old new
  is_updated old new storage stored h =
      let ascends = merged_ascends old s.elements stored.names_ascend storage.ascends in
      record {
        names_ascend = new_ascend (merged old s.elements) new h ascends;
        each = λ name. becomes_so name (entry_named old name) (element_named s name) (fresh_named new name)
            (subst (λ o. Found o (fresh_named new name)) (merged_joined name old s.elements stored.names_ascend
            storage.ascends) (looked_up name (merged old s.elements) new h ascends));
      }

  -- ---- refusals

  free_start : (name : List ℕ) (c : ElementData) (i : Option (List ℕ))
      → refusal (by_row rules now s name (Some c) None (initial_or i)) ≡ None
  free_start name c None = refl
  free_start name c (Some bytes) = refl

  free_row : (name : List ℕ) (c : ElementData) (strategy : Option ElementStrategy) (collection : CollectionStrategy)
      (i : Option (List ℕ)) → refusal (by_row rules now s name (Some c) None (row_by strategy collection i None)) ≡ None
  free_row name c (Some own.Delete) collection i = refl
  free_row name c (Some own.Overwrite) collection i = free_start name c i
  free_row name c (Some own.KeepExisting) collection i = free_start name c i
  free_row name c None collection i = free_start name c i

  pub refused_first : (old : List Entry) → IsStorage s → AreStored s.kind old
      → first_or_none (refusals rules now s (merged old s.elements)) ≡ first_refusal rules now s old
  refused_first old storage stored = ap first_or_none (merged_refusals (λ name c o. refusal (fate rules now s name c o))
      (λ name c. free_row name c c.strategy s.strategy c.initial) old s.elements stored.names_ascend storage.ascends)

  -- ---- the plan of a storage

  pub told_so : {A : Type 0} (r : Result A PerError) (P : Result A PerError → Type 0) → P r → UnlessOutOfMemory r P
  told_so (Ok x) P h = h
  told_so (Err e) P h = λ memory. h

  pub plans_over : (old : List Entry) (new : List Fresh) (r : Result (List Fresh) PerError) → IsStorage s
      → AreStored s.kind old → RenewAll rules answers now s (merged old s.elements) (Ok new)
      → r ≡ within_limits s.maximum new
      → UnlessOutOfMemory r (PlansOver rules answers now s old (first_refusal rules now s old))
  plans_over old new r storage stored renewed is =
      let none : first_refusal rules now s old ≡ None = sym (refused_first old storage stored)
      ∙ ap first_or_none renewed.0
      in
      told_so r (PlansOver rules answers now s old (first_refusal rules now s old))
      (subst (λ o. PlansOver rules answers now s old o r) (sym none)
      (new, is_updated old new storage stored renewed.1, is))

  pub refused_over : (old : List Entry) (e : PerError) → IsStorage s → AreStored s.kind old
      → RenewAll rules answers now s (merged old s.elements) (Err e)
      → UnlessOutOfMemory (Err e) (PlansOver rules answers now s old (first_refusal rules now s old))
  refused_over old e storage stored renewed = λ memory.
      let first : first_refusal rules now s old ≡ Some e = sym (refused_first old storage stored) ∙ renewed memory in
      subst (λ o. PlansOver rules answers now s old o (Err e)) (sym first) refl

  within : (maximum : ℕ) (new x : List Fresh) (few small : Bool) → nat_lt 1024 (length new) ≡ few
      → nat_lt maximum (sum_by fresh_size new) ≡ small → Ok x ≡ within_limits maximum new
      → (few ≡ false) × (small ≡ false) × (new ≡ x)
  within maximum new x true small p q is = let e = rw (p) at is in absurd (cc)
  within maximum new x false true p q is = let e = rw (p, q) at is in absurd (cc)
  within maximum new x false false p q is = let e = rw (p, q) at is in (refl, refl, cc)

  pub contents_fit : (old : List Entry) (new x : List Fresh) → IsStorage s → AreStored s.kind old
      → RenewAll rules answers now s (merged old s.elements) (Ok new) → Ok x ≡ within_limits s.maximum new
      → AreContents s.kind s.maximum x
  contents_fit old new x storage stored renewed is =
      let w = within s.maximum new x (nat_lt 1024 (length new)) (nat_lt s.maximum (sum_by fresh_size new)) refl refl is
      in
      subst (AreContents s.kind s.maximum) w.2 (record {
        each = all_made (merged old s.elements) new renewed.1;
        names_ascend = (is_updated old new storage stored renewed.1).names_ascend;
        few = ltb-false _ _ w.0;
        small = ltb-false _ _ w.1;
      })

  pub fits_if : {A : Type 0} (items : A → List Fresh) (old : List Entry) (new : List Fresh) (r : Result A PerError)
      → IsStorage s → AreStored s.kind old → RenewAll rules answers now s (merged old s.elements) (Ok new)
      → viewed_items items r ≡ within_limits s.maximum new → IfOk r (λ x. AreContents s.kind s.maximum (items x))
  fits_if items old new (Ok x) storage stored renewed is = contents_fit old new (items x) storage stored renewed is
  fits_if items old new (Err e) storage stored renewed is = tt

-- ---- contents have few bytes each

small_one : (kind : StoreKind) (n : ℕ) → n ≤ max_len kind → n ≤ 1048576
small_one Keys n h = omega (arith, h)
small_one Files n h = h

pub all_small : (kind : StoreKind) (new : List Fresh) → AllByRecursion (SuitsKind kind) new
    → AllByRecursion (λ (x : Fresh). length x.bytes ≤ 1048576) new
all_small kind [] h = tt
all_small kind (x ∷ xs) h = (small_one kind (length x.bytes) h.0.small, all_small kind xs h.1)
