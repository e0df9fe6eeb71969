use Rattle.std.proofs.Common.{◌≡◌, ◌≢◌, ℕ, List, ap, subst}
use Rattle.std.specs.Prelude.{IfErr, OnOk, Result, Ok, Err}
use Rattle.per_base.specs.declared.errors.PerError.{PerError}
use Rattle.per_base.specs.declared.errors.PerError.TheVariants.{PhysicalStorageFailure}
use Rattle.per_base.specs.Refusals.{IsRefusal}
use Rattle.value_model.specs.Kinds.{Kind}
use Rattle.value_model.specs.Trees.{Tree, type_of}
use Rattle.value_model.specs.Validity.{IsValue}
use Rattle.kvs_core.specs.Calls.{get_as, set_value}
use Rattle.kvs_store.specs.Storages.{KvsSession, showing}
use Rattle.kvs_laws.specs.Laws.{SetLaw}
use Rattle.kvs_laws.specs.Values.{HasValue}
use Rattle.per_embed.specs.Owned.{asked_of}
use Rattle.per_embed.proofs.Unfailed.{set_open}
use Rattle.per_embed.proofs.writing.set_in.Goals as goal

got : {A : Type 0} (law : SetLaw) (old new : KvsSession) (name : List ℕ) (kind : Kind) (value : Tree)
    (result : Result A PerError) → type_of value ≡ kind → new ≡ showing old new.session.visible
    → OnOk result (set_value old.config old.session.visible name value ≡ Ok new.session.visible)
    → OnOk result (IsValue value → HasValue (asked_of new name kind) new.session.visible value)
got law old new name kind value (Ok answer) typed beside ok = λ is.
    let config : new.config ≡ old.config = ap (λ (k : KvsSession). k.config) beside in
    let here : get_as old.config new.session.visible name kind ≡ Ok value =
    subst (λ (k : Kind). get_as old.config new.session.visible name k ≡ Ok value) typed
    (law old.config old.session.visible new.session.visible name value is ok) in
    rw config here
got law old new name kind value (Err error) typed beside ok = tt

pub returns-in-Some-clause-got : goal.returns-in-Some-clause-got
returns-in-Some-clause-got g c = got c.set_is_got.ensures _ c.set_value.new.self c.args.key.now g.T.PerValue.kind
    (g.T.PerValue.tree c.args.value.now) c.set_value.result (g.met.T.PerValue.has_type c.args.value.now)
    c.set_value.ensures.beside c.set_value.ensures.ok

open_so : {A : Type 0} (old new : KvsSession) (name : List ℕ) (value : Tree) (result : Result A PerError)
    → new ≡ showing old new.session.visible
    → IfErr result (λ error. IsRefusal (set_value old.config old.session.visible name value) error)
    → result ≢ Err PhysicalStorageFailure
open_so old new name value result beside refused =
    set_open old.config old.session.visible name value result refused

pub returns-in-Some-clause-closed : goal.returns-in-Some-clause-closed
returns-in-Some-clause-closed g c = (
  λ is. absurd (open_so _ c.set_value.new.self c.args.key.now (g.T.PerValue.tree c.args.value.now) c.set_value.result
      c.set_value.ensures.beside c.set_value.ensures.refused is),
  λ none. absurd cc,
)
