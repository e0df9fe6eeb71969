-- Making working files durable, in the words of an open storage.
use Rattle.std.proofs.Common.{◌≡◌, ℕ, Bool, refl, sym, ◌∙◌, ap, subst}
use Rattle.std.specs.Prelude.{Option, Some, None, IsSome, Result, Ok, Err}
use Rattle.per_base.specs.declared.errors.PerError.{PerError}
use Rattle.per_base.specs.Maps.{Map}
use Rattle.disk_model.specs.Image.{Image}
use Rattle.element_store.specs.Stores.{IsUsed, store_shape, view_in}
use Rattle.file_storage.specs.declared.syncing.Closed.{Closed}
use Rattle.file_storage.specs.declared.syncing.Closed.TheVariants as closed
use Rattle.per_base.specs.declared.faults.Fault.{Fault}
use Rattle.file_storage.specs.declared.syncing.FilesOutcome.{FilesOutcome}
use Rattle.file_storage.specs.FileSessions.{FilesInUse, stored_in}
use Rattle.file_storage.specs.Syncs as below
use Rattle.run_model.specs.Sessions as run
use Rattle.open_storages.specs.declared.opens.Open.TheVariants.{Files}
use Rattle.open_storages.specs.declared.closing.Closing.TheVariants as left
use Rattle.open_storages.specs.declared.syncing.Durable.TheVariants as made
use Rattle.open_storages.specs.Durables.{IsDurableOrRefused, made_of}
use Rattle.open_storages.specs.Opens.{session_in}
use Rattle.open_storages.specs.Refusals.{flush_refused}
use Rattle.open_storages.proofs.Refused.{flush_refused_is}

-- what holds where nothing was refused, and where something was
pub made_or : {P : Type 0} (refused : Option PerError) → (refused ≡ None → P) → (IsSome refused → P) → P
made_or {P} None done handed = done refl
made_or {P} (Some error) done handed = handed refl

durable_session : (f later : FilesInUse) → stored_in later.store ≡ f.session.files
    → later ≡ record f { store = later.store }
    → session_in (Files later) ≡ run.made_durable (session_in (Files f))
durable_session f later stored beside = ap (λ (m : Map). run.files (record { synced = m; working = later.session }))
    stored
    ∙ ap (λ (x : FilesInUse). run.files (record { synced = f.session.files; working = x.session })) beside

module _ (told : Bool) (image : Image) (f : FilesInUse) (handle : ℕ) (o : FilesOutcome)
    (is : o.refused ≡ below.sync_refused f handle) where
  flush_is : flush_refused (Files f) handle ≡ o.refused
  flush_is = flush_refused_is f handle ∙ sym is

  pub flush_made : (o.refused ≡ None → stored_in o.files.store ≡ f.session.files)
      → (o.refused ≡ None → view_in o.files.store ≡ below.synced_view f)
      → o.files ≡ record f { store = o.files.store } → store_shape o.files.store ≡ store_shape f.store
      → IsUsed told image o.files.store → (IsSome o.refused → o.files ≡ f)
      → IsDurableOrRefused told image (Files f) (flush_refused (Files f) handle) (made_of (Files o.files) o.refused)
  flush_made stored view beside shape used same = by o.refused flush_is stored view same
    where
      by : (refused : Option PerError) → flush_refused (Files f) handle ≡ refused
          → (refused ≡ None → stored_in o.files.store ≡ f.session.files)
          → (refused ≡ None → view_in o.files.store ≡ below.synced_view f) → (IsSome refused → o.files ≡ f)
          → IsDurableOrRefused told image (Files f) (flush_refused (Files f) handle) (made_of (Files o.files) refused)
      by None due stored view same = (
        due,
        record {
          session = durable_session f o.files (stored refl) beside;
          config = ap (λ (x : FilesInUse). x.config) beside;
          shape = shape;
          view = view refl;
          used = used;
        },
      )
      by (Some error) due stored view same = (due, ap (λ (x : FilesInUse). Files x) (same refl))

  pub flush_due : (error : PerError) → flush_refused (Files f) handle ≡ Some error → (IsSome o.refused → o.files ≡ f)
      → made_of (Files o.files) o.refused ≡ made.Refused (Files f) error
  flush_due error due same =
      let refused : o.refused ≡ Some error = sym flush_is ∙ due in
      let some : IsSome o.refused = subst (λ (r : Option PerError). IsSome r) (sym refused) refl in
      ap (λ (r : Option PerError). made_of (Files o.files) r) refused
      ∙ ap (λ (x : FilesInUse). made.Refused (Files x) error) (same some)

-- what is handed back is as it was
pub same_files : (f : FilesInUse) (o : FilesOutcome) (result : Result FilesOutcome (Fault FilesInUse))
    (refused : Option PerError) → result ≡ Ok o → result ≡ Ok (record { files = f; refused = refused }) → o.files ≡ f
same_files f o result refused was due =
    let both = sym was ∙ due in
    let same : o ≡ record { files = f; refused = refused } = cc in
    ap (λ (x : FilesOutcome). x.files) same

-- one refusal of a closing
pub same_refusal : (f files : FilesInUse) (e error : PerError) (result : Result Closed (Fault FilesInUse))
    → result ≡ Ok (closed.Refused files e) → result ≡ Ok (closed.Refused f error)
    → left.Refused (Files files) e ≡ left.Refused (Files f) error
same_refusal f files e error result was due =
    let both = sym was ∙ due in
    let same : closed.Refused files e ≡ closed.Refused f error = cc in
    let one : files ≡ f = cc in
    let two : e ≡ error = cc in
    ap (λ (x : FilesInUse). left.Refused (Files x) e) one ∙ ap (λ (x : PerError). left.Refused (Files f) x) two

-- a result is one of the two
pub not_both : {A E : Type 0} (result : Result A E) (answer : A) (fault : E) → result ≡ Ok answer → result ≡ Err fault
    → ⊥
not_both {A} {E} result answer fault done failed = let both = sym done ∙ failed in absurd (cc)

pub some_or : {P : Type 0} (refused : Option PerError) → (refused ≡ None → P)
    → ((error : PerError) → refused ≡ Some error → P) → P
some_or {P} None none some = none refl
some_or {P} (Some error) none some = some error refl
