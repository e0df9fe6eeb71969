-- What is known of the bound on a command: one that writes nothing keeps it, one that names a storage where it stays in
-- that storage's place, and one whose root was opened first. And of one that is refused: it writes that opening alone.
use Rattle.std.specs.Prelude.{◌≡◌, ◌≤◌, ◌<◌, ℕ, ◌+◌, List, Option, Some, None, Ok, Err}
use Rattle.std.proofs.Common.{refl, sym, ap, ap₂, ◌∙◌, subst, le_trans, inl, inr, arith}
use Rattle.per_base.specs.declared.errors.PerError.{PerError}
use Rattle.disk_model.specs.Frame.{Spares}
use Rattle.disk_model.specs.Image.{Image}
use Rattle.disk_model.specs.Place.{IsNoSlot}
use Rattle.guarded_cell.specs.Register.{IsAlone}
use Rattle.command_text.specs.declared.calls.Call.{Call}
use Rattle.command_text.specs.declared.calls.Call.TheVariants as call
use Rattle.command_text.specs.declared.calls.Event.{Event}
use Rattle.command_text.specs.declared.calls.Event.TheVariants as event
use Rattle.deploy_laws.specs.Apps.{App}
use Rattle.deploy_laws.specs.Places.{IsBeside, root_place}
use Rattle.deploy_rows.specs.Costs.{manifests_at, root_cost}
use Rattle.deploy_rows.specs.Rows.{offered, reopened}
use Rattle.run_model.specs.Converters.{Converters}
use Rattle.run_model.specs.Costs.{call_cost, named_cost, opening_cost, update_cost}
use Rattle.run_model.specs.Found.{FoundStorage}
use Rattle.run_model.specs.Steps.{device_storage, found_named}
use Rattle.run_model.specs.Turns.{DiskBytes}
use Rattle.run_model.specs.Worlds.{Application, Sessions, Stage, World, app_of, at_rest, to_open, application_at}
use Rattle.run_model.specs.Writes.{AreRootsAlone, CostsCall, IsBesideCall, IsBesidePlaces, IsCallWithin}
use Rattle.run_model.specs.Writes.{IsCommandWithin, NeedsNothing, OpensAtMost}

none_some : {A : Type 0} (x : Option A) (a : A) → x ≡ None → x ≡ Some a → ⊥
none_some x a none some = cc

-- ---- what is within any bound

-- more is allowed than nothing
allowed : (before after cost : ℕ) → after ≤ before → after ≤ before + cost
allowed before after cost le = omega (arith, le)

-- and more where more was written before
raised : (before before' after cost : ℕ) → before ≤ before' → after ≤ before + cost → after ≤ before' + cost
raised before before' after cost more le = omega (arith, more, le)

-- the same bytes
pub unchanged : (old new : DiskBytes) → new.image ≡ old.image → new.written ≡ old.written → new ≡ old
unchanged old new image written = ap₂ (λ (i : Image) (n : ℕ). record { image = i; written = n }) image written

no_more : (old new : DiskBytes) → new ≡ old → new.written ≤ old.written
no_more old new same = let count = ap (λ (b : DiskBytes). b.written) same in omega (arith, count)

-- roots that hold this text alone
pub all_alone : (image : Image) (generation : ℕ) (text : List ℕ)
    → ((app : ℕ) → app < 8 → IsAlone image (root_place app) generation text) → AreRootsAlone image
all_alone image generation text alone app lt = record {
  generation = generation;
  text = text;
  alone = alone app lt;
}

module _ (converters : Converters) (now : ℕ) (r : Application) where
  -- where nothing is written
  pub costs_nothing : (app : ℕ) (kept : List (List ℕ)) (c : Call) (before after : ℕ) → after ≤ before
      → CostsCall converters (application_at app now r) kept c before after
  costs_nothing app kept (call.Update text) before after le = inl le
  costs_nothing app kept other before after le = allowed before after (call_cost app now kept r other) le

  costs_raised : (app : ℕ) (kept : List (List ℕ)) (c : Call) (before before' after : ℕ) → before ≤ before'
      → CostsCall converters (application_at app now r) kept c before after
      → CostsCall converters (application_at app now r) kept c before' after
  costs_raised app kept (call.Update text) before before' after more (inl le) = inl (le_trans le more)
  costs_raised app kept (call.Update text) before before' after more (inr of) =
      inr (of.0, of.1, raised before before' after (update_cost kept text of.0) more of.2)
  costs_raised app kept other before before' after more le =
      raised before before' after (call_cost app now kept r other) more le

  -- of a call that names a storage it is the cost of that
  pub costs_named : (app : ℕ) (kept : List (List ℕ)) (c : Call) (name : List ℕ) → device_storage c ≡ Some name
      → (before after : ℕ) → after ≤ before + named_cost app now r c (found_named r c)
      → CostsCall converters (application_at app now r) kept c before after
  costs_named app kept (call.Install text) name some before after le = absurd cc
  costs_named app kept (call.Update text) name some before after le = absurd cc
  costs_named app kept call.UpdateNext name some before after le = absurd cc
  costs_named app kept call.UpdateCommit name some before after le = absurd cc
  costs_named app kept call.Finish name some before after le = absurd cc
  costs_named app kept call.Rollback name some before after le = absurd cc
  costs_named app kept call.Wipe name some before after le = absurd cc
  costs_named app kept other name some before after le = le

  -- and only the place of that storage is touched, and nothing where it is not found
  pub files_named : (app : ℕ) (c : Call) (name : List ℕ) → device_storage c ≡ Some name → (old new : Image)
      → ((f : FoundStorage) → found_named r c ≡ Some (Ok f) → Spares (IsBeside app f.bank f.number) old new)
      → ((e : PerError) → found_named r c ≡ Some (Err e) → new ≡ old)
      → (file : ℕ) → IsBesidePlaces app r c file → new file ≡ old file
  files_named app (call.Install text) name some old new place missing file is = absurd cc
  files_named app (call.Update text) name some old new place missing file is = absurd cc
  files_named app call.UpdateNext name some old new place missing file is = absurd cc
  files_named app call.UpdateCommit name some old new place missing file is = absurd cc
  files_named app other name some old new place missing file (inl none) =
      absurd (none_some (device_storage other) name none some)
  files_named app other name some old new place missing file (inr (inl found)) = place found.0 found.1 file found.2
  files_named app other name some old new place missing file (inr (inr refused)) =
      ap (λ (i : Image). i file) (missing refused.0 refused.1)

-- what a call keeps to whose root is open, it keeps to where its root is to be opened
pub call_opened : (converters : Converters) (app now : ℕ) (r : Application) (c : Call)
    (old new : DiskBytes)
    → CostsCall converters (application_at app now r) (manifests_at old.image app) c old.written new.written
    → Spares (IsBesideCall app r c) old.image new.image → IsCallWithin converters (application_at app now r) c old new
call_opened converters app now r c old new costs files = record {
  costs = costs_raised converters now r app (manifests_at old.image app) c old.written
      (old.written + opening_cost (manifests_at old.image app) r.stage) new.written (omega arith) costs;
  already = λ needs. costs;
  files = files;
}

-- where the image is the same, and no more is written
pub call_unwritten : (converters : Converters) (app now : ℕ) (r : Application) (c : Call)
    (old new : DiskBytes) → new.image ≡ old.image → new.written ≡ old.written
    → IsCallWithin converters (application_at app now r) c old new
call_unwritten converters app now r c old new image written = call_opened converters app now r c old new
    (costs_nothing converters now r app (manifests_at old.image app) c old.written new.written
    (omega (arith, written)))
    (λ file beside. ap (λ (i : Image). i file) image)

-- of a call that names a storage
pub call_named : (converters : Converters) (app now : ℕ) (r : Application) (c : Call) (name : List ℕ)
    (old new : DiskBytes) → device_storage c ≡ Some name
    → new.written ≤ old.written + named_cost app now r c (found_named r c)
    → ((f : FoundStorage) → found_named r c ≡ Some (Ok f)
    → Spares (IsBeside app f.bank f.number) old.image new.image)
    → ((e : PerError) → found_named r c ≡ Some (Err e) → new.image ≡ old.image)
    → IsCallWithin converters (application_at app now r) c old new
call_named converters app now r c name old new some cost place missing =
    call_opened converters app now r c old new
    (costs_named converters now r app (manifests_at old.image app) c name some old.written new.written cost)
    (λ file beside. files_named converters now r app c name some old.image new.image place missing file beside.1)

pub command_unwritten : (converters : Converters) (w : World) (e : Event) (old new : DiskBytes)
    → new.image ≡ old.image → new.written ≡ old.written → IsCommandWithin converters w e old new
command_unwritten converters w (event.Now t) old new image written = tt
command_unwritten converters w (event.App app c) old new image written =
    call_unwritten converters app w.now (app_of w app) c old new image written

-- ---- a root that is opened first

module _ (a : App) (sessions : Sessions) where
  -- before it is opened
  abbrev marked : Application
  marked = record { disk = a; stage = to_open; sessions = sessions }

  -- and after it: what it says is the same
  abbrev opened : Application
  opened = record { disk = reopened a; stage = at_rest; sessions = sessions }

  costs_marked : (converters : Converters) (app now : ℕ) (kept : List (List ℕ)) (c : Call)
      (before before' after : ℕ) → before ≤ before'
      → CostsCall converters (application_at app now opened) kept c before after
      → CostsCall converters (application_at app now marked) kept c before' after
  unfolding offered
  costs_marked converters app now kept (call.Update text) before before' after more (inl le) = inl (le_trans le more)
  costs_marked converters app now kept (call.Update text) before before' after more (inr of) =
      inr (of.0, of.1, raised before before' after (update_cost kept text of.0) more of.2)
  costs_marked converters app now kept other before before' after more le =
      raised before before' after (call_cost app now kept marked other) more le

  beside_marked : (app : ℕ) (c : Call) (file : ℕ) → IsBesidePlaces app marked c file
      → IsBesidePlaces app opened c file
  beside_marked app (call.Install text) file beside = beside
  beside_marked app (call.Update text) file beside = beside
  beside_marked app call.UpdateNext file beside = beside
  beside_marked app call.UpdateCommit file beside = beside
  beside_marked app other file beside = beside

  call_marked : (converters : Converters) (app now : ℕ) (c : Call) (old mid new : DiskBytes)
      → Spares (IsNoSlot (root_place app)) old.image mid.image
      → mid.written ≤ old.written + root_cost (manifests_at old.image app)
      → (NeedsNothing old.image app → mid ≡ old)
      → CostsCall converters (application_at app now opened) (manifests_at old.image app) c (mid.written + 0)
      new.written
      → ((file : ℕ) → IsNoSlot (root_place app) file × IsBesidePlaces app opened c file
      → new.image file ≡ mid.image file)
      → IsCallWithin converters (application_at app now marked) c old new
  call_marked converters app now c old mid new slots cost already costs files = record {
    costs = costs_marked converters app now (manifests_at old.image app) c (mid.written + 0)
        (old.written + root_cost (manifests_at old.image app)) new.written (omega (arith, cost)) costs;
    already = λ needs. let same = no_more old mid (already needs) in
        costs_marked converters app now (manifests_at old.image app) c (mid.written + 0) old.written new.written
        (omega (arith, same)) costs;
    files = λ file beside. files file (beside.0, beside_marked app c file beside.1) ∙ slots file beside.0;
  }

-- what is allowed beside the opening
module _ (converters : Converters) (app now : ℕ) (r : Application) (c : Call) (old mid new : DiskBytes)
    (marked_is : r.stage ≡ to_open) (slots : Spares (IsNoSlot (root_place app)) old.image mid.image)
    (cost : mid.written ≤ old.written + root_cost (manifests_at old.image app))
    (already : NeedsNothing old.image app → mid ≡ old) where
  abbrev r' : Application
  r' = record r { disk = reopened r.disk; stage = at_rest }

  behind : CostsCall converters (application_at app now r') (manifests_at old.image app) c (mid.written + 0)
      new.written
      → ((file : ℕ) → IsNoSlot (root_place app) file × IsBesidePlaces app r' c file → new.image file ≡ mid.image file)
      → IsCallWithin converters (application_at app now r) c old new
  behind costs files = subst
      (λ (s : Stage). IsCallWithin converters (application_at app now (record r { stage = s })) c old new)
      (sym marked_is) (call_marked r.disk r.sessions converters app now c old mid new slots cost already costs
      files)

  -- A call over an opened root, and before it the opening, which changed slots of the root alone.
  pub call_behind : manifests_at mid.image app ≡ manifests_at old.image app
      → IsCallWithin converters (application_at app now r') c mid new
      → IsCallWithin converters (application_at app now r) c old new
  call_behind kept within = behind (subst (λ (manifests : List (List ℕ)).
      CostsCall converters (application_at app now r') manifests c (mid.written + 0) new.written) kept within.costs)
      within.files

-- and the opening alone, where the call did nothing
pub call_unbegun : (converters : Converters) (app now : ℕ) (r : Application) (c : Call)
    (old new : DiskBytes) → r.stage ≡ to_open → Spares (IsNoSlot (root_place app)) old.image new.image
    → new.written ≤ old.written + root_cost (manifests_at old.image app) → (NeedsNothing old.image app → new ≡ old)
    → IsCallWithin converters (application_at app now r) c old new
call_unbegun converters app now r c old new marked_is slots cost already =
    behind converters app now r c old new new marked_is slots cost already
    (costs_nothing converters now (record r { disk = reopened r.disk; stage = at_rest }) app
    (manifests_at old.image app) c (new.written + 0) new.written (omega arith)) (λ file beside. refl)

-- ---- a refused command

-- it wrote nothing
pub opens_nothing : (app : ℕ) (stage : Stage) (old new : DiskBytes) → new.image ≡ old.image
    → new.written ≡ old.written → OpensAtMost app stage old new
opens_nothing app stage old new image written = record {
  costs = allowed old.written new.written (opening_cost (manifests_at old.image app) stage) (omega (arith, written));
  already = λ needs. unchanged old new image written;
  files = λ file is. ap (λ (i : Image). i file) image;
}

-- no more than the opening before it
only_before : (was opened now cost : ℕ) → opened ≤ was + cost → now ≡ opened → now ≤ was + cost
only_before was opened now cost le same = omega (arith, le, same)

-- it wrote nothing after its root was opened
pub opens_alone : (app : ℕ) (stage : Stage) (old mid new : DiskBytes) → stage ≡ to_open
    → Spares (IsNoSlot (root_place app)) old.image mid.image
    → mid.written ≤ old.written + root_cost (manifests_at old.image app) → (NeedsNothing old.image app → mid ≡ old)
    → new.image ≡ mid.image → new.written ≡ mid.written → OpensAtMost app stage old new
opens_alone app stage old mid new marked_is slots cost already image written = record {
  costs = subst (λ (s : Stage). new.written ≤ old.written + opening_cost (manifests_at old.image app) s)
      (sym marked_is)
      (only_before old.written mid.written new.written (root_cost (manifests_at old.image app)) cost written);
  already = λ needs. unchanged mid new image written ∙ already needs;
  files = λ file is. ap (λ (i : Image). i file) image ∙ slots file is;
}
