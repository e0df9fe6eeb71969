-- States of the hasher that an opening keeps of what it read.
use Rattle.std.proofs.Common.{◌≡◌, ℕ, ◌<◌, List, [], ◌∷◌, length, get_or, map, Vec, Global, Option, Some, refl, sym, ap}
use Rattle.std.proofs.Common.{◌∙◌, subst}
use Rattle.std.specs.Prelude.{IfSome}
use Rattle.std.specs.List.{AllZip}
use Rattle.std.specs.List.Sorted.{IsStrictlySortedBy}
use Rattle.std.proofs.lemmas.List.{get_or_default}
use Rattle.sha2.specs.declared.Sha256.{Sha256}
use Rattle.per_base.specs.Names.{name_cmp, NamesAscend}
use Rattle.per_base.specs.declared.elements.Content.{Content}
use Rattle.per_base.specs.declared.elements.Content.TheVariants.{Good, Bad}
use Rattle.per_base.specs.declared.elements.Entry.{Entry}
use Rattle.block_files.specs.States.{AreStatesOf}
use Rattle.element_state.specs.Changes.{entry_name, entry_by_name}
use Rattle.element_state.specs.States.{mended_by, mended_entry}
use Rattle.element_state.specs.Surveys.{AreOfEntry, HasStates}
use Rattle.element_state.specs.declared.surveying.Found.{Found}
use Rattle.element_store.specs.declared.hashing.KeptStates.{KeptStates}
use Rattle.element_store.specs.Hashing.{AreOfElement}
use Rattle.element_store.proofs.InOrder.{found_here}

-- the element of the name is the one that was read
pub kept_read : (entries : List Entry) (at : ℕ) (e : Entry) (one : Vec Sha256 Global) → NamesAscend entry_name entries
    → at < length entries → e ≡ get_or entries at e → AreOfEntry e one
    → (k : KeptStates) → k.name ≡ e.name → k.states.items ≡ one.items → AreOfElement entries k
kept_read entries at e one ascend lt is are k named states f bytes found content =
    let here : entry_by_name e.name entries ≡ Some e = found_here entry_name e.name entries at e ascend lt
    (λ d. sym (ap (λ (x : Entry). x.name) (is ∙ get_or_default entries at e d lt))) is in
    let there = subst (λ (n : List ℕ). entry_by_name n entries ≡ Some f) named found in
    let one_of : Some e ≡ Some f = sym here ∙ there in
    let same : e ≡ f = cc in
    let good : e.content ≡ Good bytes = ap (λ (x : Entry). x.content) same ∙ content in
    subst (λ (ss : List Sha256). AreStatesOf bytes ss) (sym states) (are bytes good)

-- ---- elements that are mended

mended_name : (x : Content) (e : Entry) → (mended_by x e).name ≡ e.name
mended_name (Good value) e = refl
mended_name (Bad salvage) e = refl

mended_content : (x : Content) (e : Entry) → (mended_by x e).content ≡ e.content
mended_content (Good value) e = refl
mended_content (Bad salvage) e = refl

mended_names : (es : List Entry) → map entry_name (map mended_entry es) ≡ map entry_name es
mended_names [] = refl
mended_names (e ∷ es) = ap (λ (n : List ℕ). n ∷ map entry_name (map mended_entry es)) (mended_name e.content e)
    ∙ ap (λ (ns : List (List ℕ)). e.name ∷ ns) (mended_names es)

pub mended_ascend : (es now : List Entry) → now ≡ map mended_entry es → NamesAscend entry_name es
    → NamesAscend entry_name now
mended_ascend es now is ascend = subst (λ (ns : List (List ℕ)). IsStrictlySortedBy name_cmp ns)
    (sym (ap (map entry_name) is ∙ mended_names es)) ascend

mended_each : (es : List Entry) (states : List (Vec Sha256 Global)) → AllZip AreOfEntry es states
    → AllZip AreOfEntry (map mended_entry es) states
mended_each [] [] all = tt
mended_each [] (one ∷ states) all = absurd all
mended_each (e ∷ es) [] all = absurd all
mended_each (e ∷ es) (one ∷ states) all = (
  (λ bytes good. all.0 bytes (sym (mended_content e.content e) ∙ good)),
  mended_each es states all.1,
)

pub mended_states : (es now : List Entry) (states : List (Vec Sha256 Global)) → now ≡ map mended_entry es
    → AllZip AreOfEntry es states → AllZip AreOfEntry now states
mended_states es now states is all = subst (λ (fs : List Entry). AllZip AreOfEntry fs states) (sym is)
    (mended_each es states all)

-- what a survey hands up
pub found_states : (found : Option Found) (f : Found) → found ≡ Some f → IfSome found HasStates → HasStates f
found_states found f is has = subst (λ (o : Option Found). IfSome o HasStates) is has
