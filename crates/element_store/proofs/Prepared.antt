-- A storage whose copies were settled on the text beside which it is rebuilt.
use Rattle.std.proofs.Common.{◌≡◌, ℕ, ◌+◌, ◌-◌, ◌^◌, ◌/◌, ◌<◌, ◌≤◌, min, List, Bool, true, false, Some, None, sym}
use Rattle.std.proofs.Common.{subst, arith}
use Rattle.std.specs.List.{All, AllByRecursion}
use Rattle.disk_model.specs.Medium.{Medium, Quiet, Elapses, EachCase, IsIdle}
use Rattle.disk_model.specs.Image.{Image}
use Rattle.disk_model.specs.Frame.{Spares}
use Rattle.disk_model.specs.Place.{IsNoSlot}
use Rattle.guarded_cell.specs.declared.looking.Seen.{Seen}
use Rattle.block_files.specs.lemmas.AsideLaws.{aside}
use Rattle.block_files.specs.BlockSets.{free_of}
use Rattle.index_text.specs.declared.entries.Index.{Index}
use Rattle.index_text.specs.declared.entries.IndexEntry.{IndexEntry}
use Rattle.index_text.specs.Rules.{IsIndex, blocks_of}
use Rattle.index_text.specs.Sizes.{area_blocks}
use Rattle.element_state.specs.declared.shapes.Shape.{Shape}
use Rattle.element_state.specs.declared.surveying.Found.{Found}
use Rattle.element_state.specs.Chosen.{chosen}
use Rattle.element_state.specs.Clean.{IsClean}
use Rattle.element_state.specs.Conditions.{IsShape}
use Rattle.element_state.specs.Fit.{fit_index}
use Rattle.element_state.specs.Kept.{KeptThroughout}
use Rattle.element_state.specs.States.{State, store_at, salvage_of}
use Rattle.element_state.specs.Surveys.{IsFoundView, found_text}
use Rattle.element_laws.specs.lemmas.Phases.{untouched, adopt as adopt_law, keep as keep_law, contents as contents_law}
use Rattle.element_laws.specs.lemmas.Phases.{contents_done as contents_done_law, corrupt_found as corrupt_law}
use Rattle.element_laws.specs.lemmas.IndexLaws.{index as index_law}
use Rattle.element_laws.specs.lemmas.RebuildingLaws.{given_up, taken_named, rebuilt_contents, rebuilt_done, rebuilt_index}
use Rattle.element_laws.specs.lemmas.Refusals.{opened as opened_law}
use Rattle.element_store.specs.Plans.{HasAll}
use Rattle.element_store.specs.Stores.{AreTaken}
use Rattle.element_store.specs.Rebuilds.{IsGround, IsLeftWith, OneTextStops, HasNext}
use Rattle.element_store.proofs.Rebuilt.{opened_at, ready_opened, ready_salvaged, ready_none, idle_kept, adopt_kept}
use Rattle.element_store.proofs.Rebuilt.{keep_kept}
use Rattle.element_store.proofs.Taken.{fits_below, taken_area}
use Rattle.element_store.proofs.TakenBlocks.{taken_all, taken_room}

module _ (shape : Shape) (is : IsShape shape) (old mid : Medium) (same : mid.image ≡ old.image) where
  pub surveyed_kept : (state : State) → (Quiet old → IsIdle old mid) → KeptThroughout shape state old mid
  surveyed_kept state idle = idle_kept shape is state untouched old mid idle

  pub none_ready : (set : List Bool) → IsClean shape old.image → chosen old.image shape ≡ None
      → IsGround shape old.image mid.image set 1
  none_ready set clean none = subst (λ (im : Image). IsGround shape old.image im set 1) (sym same)
      (ready_none corrupt_law (rebuilt_contents aside) (rebuilt_done aside) (rebuilt_index aside) shape old.image set is
      clean none)

  module _ (new : Medium) where
    settled_kept_by : (opens : Bool) (seen : Seen) (index : Index) (state : State) → Elapses old mid → Elapses mid new
        → (Quiet old → IsIdle old mid)
        → chosen old.image shape ≡ Some (opens, (seen, index))
        → EachCase (OneTextStops opens shape.place seen.generation seen.text mid.image) mid new
        → KeptThroughout shape state old new
    settled_kept_by true seen index state before later idle chose stops =
        adopt_kept shape is state untouched adopt_law opened_law old mid new (seen, index) before later idle same chose
        stops
    settled_kept_by false seen index state before later idle chose stops =
        keep_kept shape is state untouched keep_law old mid new (seen, index) before later idle same chose stops

    pub settled_kept : (found : Found) (state : State) → Elapses old mid → Elapses mid new
        → (Quiet old → IsIdle old mid) → Some (found_text found) ≡ chosen old.image shape
        → EachCase (OneTextStops found.opens shape.place found.seen.generation found.seen.text
        mid.image) mid new → KeptThroughout shape state old new
    settled_kept found state before later idle chose stops =
        settled_kept_by found.opens found.seen found.index state before later idle (sym chose) stops

    settled_ready_by : (opens : Bool) (seen : Seen) (index : Index) (set : List Bool) → IsClean shape old.image
        → chosen old.image shape ≡ Some (opens, (seen, index))
        → fit_index shape seen.text ≡ Some index → IsIndex index
        → AllByRecursion (λ (e : IndexEntry). HasAll set e.blocks) index.entries
        → IsLeftWith opens shape.place seen.generation seen.text old.image new.image
        → Spares (IsNoSlot shape.place) old.image new.image
        → IsGround shape old.image new.image set (seen.generation + 1)
    settled_ready_by true seen index set clean chose fit rules takes left areas =
        ready_opened shape old.image new.image set is (contents_law aside) (contents_done_law aside) (index_law aside)
        seen.generation seen.text index
        (record {
          clean = clean;
          opens = opened_at shape old.image opened_law (seen, index) chose;
          alone = left;
          areas =
              areas;
        }) rules takes
    settled_ready_by false seen index set clean chose fit rules takes left areas =
        ready_salvaged shape old.image new.image set is given_up taken_named (rebuilt_contents aside) (rebuilt_done aside)
        (rebuilt_index aside) (seen, index)
        clean chose fit rules takes left areas

    module _ (found : Found) (found_is : IsFoundView shape found) (set : List Bool)
        (taken : AreTaken (area_blocks shape.allowed) found.index.entries set) where
      pub settled_ready : (next : ℕ) → HasNext (salvage_of (store_at old.image shape))
          → salvage_of (store_at old.image shape) ≡ Some found.view
          → next ≡ min (found.view.generation + 1) (2 ^ 64 - 1) → IsClean shape old.image
          → Some (found_text found) ≡ chosen old.image shape
          → IsLeftWith found.opens shape.place found.seen.generation found.seen.text mid.image
          new.image
          → Spares (IsNoSlot shape.place) mid.image new.image
          → IsGround shape old.image new.image set next
      settled_ready next fresh salvaged next_is clean chose left areas =
          let below : found.view.generation < 2 ^ 64 - 1 = subst HasNext salvaged fresh in
          let generation_is = found_is.generation in
          let e : next ≡ found.seen.generation + 1 = omega (arith, next_is, below, generation_is) in
          let fit = found_is.text.index in
          subst (λ (n : ℕ). IsGround shape old.image new.image set n) (sym e)
          (settled_ready_by found.opens found.seen found.index set clean (sym chose) fit.fit fit.rules
          (taken_all (area_blocks shape.allowed) found.index.entries set taken)
          (subst (λ (im : Image). IsLeftWith found.opens shape.place found.seen.generation
          found.seen.text im new.image) same left)
          (subst (λ (im : Image). Spares (IsNoSlot shape.place) im new.image) same areas))

-- the blocks of the text
module _ (shape : Shape) (found : Found) (found_is : IsFoundView shape found) (es : List IndexEntry)
    (same : es ≡ found.index.entries) (blocks : ℕ) (many : blocks ≡ area_blocks shape.allowed) where
  pub found_below : All (λ b. b < blocks) (blocks_of es)
  found_below =
      subst (λ (xs : List IndexEntry). All (λ b. b < blocks) (blocks_of xs)) (sym same)
      (subst (λ (n : ℕ). All (λ b. b < n) (blocks_of found.index.entries)) (sym many)
      (fits_below shape.kind shape.allowed found.index found_is.text.index.fits))

  pub found_taken : (set : List Bool) → AreTaken blocks es set
      → AreTaken (area_blocks shape.allowed) found.index.entries set
  found_taken set taken = taken_area shape found.index es blocks set same many taken

  pub found_room : (set : List Bool) → AreTaken blocks es set → shape.allowed / 256 + 1024 ≤ free_of set
  found_room set taken = taken_room shape.kind shape.allowed found.index set (found_taken set taken)
      found_is.text.index.rules found_is.text.index.fits
