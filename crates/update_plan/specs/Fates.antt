-- What an update makes of one name: what the rows give it, or why its stored element cannot be kept.
use Rattle.std.specs.Prelude.{◌≡◌, ℕ, List, cond, Option, Some, None, option_and_then, option_map, Result, Ok, Err, ◌≢◌}
use Rattle.std.specs.Prelude.{IsTrue, ⊤}
use Rattle.per_base.specs.declared.elements.Cause.TheVariants.{Update}
use Rattle.per_base.specs.declared.elements.Content.{Content}
use Rattle.per_base.specs.declared.elements.Content.TheVariants.{Good, Bad}
use Rattle.per_base.specs.declared.elements.Entry.{Entry}
use Rattle.per_base.specs.declared.elements.FileInfo.{FileInfo}
use Rattle.per_base.specs.declared.elements.Fresh.{Fresh}
use Rattle.per_base.specs.declared.elements.StoreKind.{StoreKind}
use Rattle.per_base.specs.declared.elements.StoreKind.TheVariants.{Keys, Files}
use Rattle.per_base.specs.declared.errors.PerError.{PerError}
use Rattle.per_base.specs.declared.errors.PerError.TheVariants.{IntegrityCorrupted, OutOfMemory}
use Rattle.per_base.specs.declared.errors.Unit.TheVariants.{Part}
use Rattle.file_core.specs.Infos.{made, info_changed}
use Rattle.value_model.specs.Kinds.{Kind, kind_fits, same_kind}
use Rattle.value_model.specs.Trees.{Tree, type_of}
use Rattle.value_model.specs.Encoding.{encoding}
use Rattle.value_code.specs.Reading.{decoded}
use Rattle.value_text.specs.Texts.{mismatch}
use Rattle.deployment_model.specs.Data.{ElementData, StorageData}
use Rattle.deployment_model.specs.declared.configs.ElementStrategy.{ElementStrategy}
use Rattle.deployment_model.specs.declared.configs.ElementStrategy.TheVariants as own
use Rattle.migrate_fns.specs.Chains.{chain_of}
use Rattle.migrate_fns.specs.Rules.{Rule, Answers, ConvertsTo}
use Rattle.update_plan.specs.Rows.{Row, nothing, initial, kept, row_by}

-- a name goes, gets this element, gets what the converters at these places, counted from 0, make of this value, or the
-- update is refused with this error
pub data Fate : Type 0 where
  goes : Fate
  gets : Fresh → Fate
  converted : Tree → List ℕ → Fate
  refused : PerError → Fate

-- the own strategy of an element, where it is configured and has one
abbrev pub strategy_of : Option ElementData → Option ElementStrategy
strategy_of configured = option_and_then (λ (e : ElementData). e.strategy) configured

-- the initial bytes of an element, where it is configured and has some
abbrev pub initial_configured : Option ElementData → Option (List ℕ)
initial_configured configured = option_and_then (λ (e : ElementData). e.initial) configured

-- the type of an element, where it is configured and has one
abbrev pub type_configured : Option ElementData → Option Kind
type_configured configured = option_and_then (λ (e : ElementData). e.value_type) configured

-- the info that an initial content gets, by the kind of the storage, the element's own strategy, what is stored, and
-- the moment: none of a key; a stored file that is overwritten changes now, and any other file that gets its initial
-- content is made now
abbrev pub initial_info : StoreKind → Option ElementStrategy → Option Entry → ℕ → Option FileInfo
initial_info Keys strategy stored now = None
initial_info Files (Some own.Overwrite) (Some e) now = option_map (info_changed now Update) e.info
initial_info Files (Some own.Overwrite) None now = Some (made now Update)
initial_info Files (Some own.KeepExisting) stored now = Some (made now Update)
initial_info Files (Some own.Delete) stored now = Some (made now Update)
initial_info Files None stored now = Some (made now Update)

-- an element, by the names of its storage and itself, that is to be kept and cannot be read: the refusal names both
abbrev pub unreadable : List ℕ → List ℕ → Fate
unreadable storage name = refused (IntegrityCorrupted (Part storage name))

-- this value is converted to this type by the chain that was found; without one the refusal names both types
abbrev pub by_chain : Tree → Kind → Option (List ℕ) → Fate
by_chain v to None = refused (mismatch (type_of v) to)
by_chain v to (Some places) = converted v places

-- a readable key, `same` as an element and as its value, stays where its type is the configured one or none is
-- configured, and else is converted
abbrev pub of_type : List Rule → Fresh → Tree → Option Kind → Fate
of_type rules same v None = gets same
of_type rules same v (Some to) = cond (same_kind (type_of v) to) (gets same)
    (by_chain v to (chain_of rules same.name (type_of v) to))

-- a key is readable where its bytes encode a value
abbrev pub of_value : List Rule → List ℕ → Fresh → Option Kind → Option Tree → Fate
of_value rules storage same to None = unreadable storage same.name
of_value rules storage same to (Some v) = of_type rules same v to

-- what is kept of readable bytes: of a key by its value, of a file as it is
abbrev pub of_bytes : List Rule → StoreKind → List ℕ → Fresh → Option Kind → Fate
of_bytes rules Keys storage same to = of_value rules storage same to (decoded same.bytes)
of_bytes rules Files storage same to = gets same

-- what is kept of a stored content with this info, where this type is configured: a bad content is a refusal
abbrev pub of_content : List Rule → StoreKind → List ℕ → List ℕ → Option FileInfo → Option Kind → Content → Fate
of_content rules kind storage name info to (Good bytes) =
    of_bytes rules kind storage (record { name = name; info = info; bytes = bytes }) to
of_content rules kind storage name info to (Bad salvage) = unreadable storage name

-- what the row gives: nothing, the initial content with its info, or what is stored, kept or converted
abbrev pub by_row : List Rule → ℕ → StorageData → List ℕ → Option ElementData → Option Entry → Row → Fate
by_row rules now s name configured stored nothing = goes
by_row rules now s name configured stored (initial bytes) =
    gets (record { name = name; info = initial_info s.kind (strategy_of configured) stored now; bytes = bytes })
by_row rules now s name configured stored (kept e) = of_content rules s.kind s.name name e.info
    (type_configured configured)
    e.content

-- what an update at this moment makes of a name in a storage, by the converters, what the storage configures of the
-- name and what is stored of it
abbrev pub fate : List Rule → ℕ → StorageData → List ℕ → Option ElementData → Option Entry → Fate
fate rules now s name configured stored = by_row rules now s name configured stored
    (row_by (strategy_of configured) s.strategy (initial_configured configured) stored)

-- the error, where the update is refused
abbrev pub refusal : Fate → Option PerError
refusal goes = None
refusal (gets x) = None
refusal (converted v places) = None
refusal (refused e) = Some e

-- what the name then has, nothing or an element; of a conversion any value that the converters may answer, encoded
abbrev pub Becomes : Answers → List ℕ → Fate → Option Fresh → Type 0
Becomes answers name goes new = new ≡ None
Becomes answers name (gets x) new = new ≡ Some x
Becomes answers name (converted v places) new = (w : Tree) × ConvertsTo answers places v w
    × (new ≡ Some (record { name = name; info = None; bytes = encoding w }))
Becomes answers name (refused e) new = ⊥

-- an error is the refusal, or OutOfMemory
abbrev pub RefusesAs : Fate → PerError → Type 0
RefusesAs f e = e ≢ OutOfMemory → refusal f ≡ Some e

-- a call gave what the name then has, or the refusal
abbrev pub Renews : Answers → List ℕ → Fate → Result (Option Fresh) PerError → Type 0
Renews answers name f (Ok new) = Becomes answers name f new
Renews answers name f (Err e) = RefusesAs f e

-- a call gave the element that the name then has, or the refusal
abbrev pub Retains : Answers → List ℕ → Fate → Result Fresh PerError → Type 0
Retains answers name f (Ok x) = Becomes answers name f (Some x)
Retains answers name f (Err e) = RefusesAs f e

-- this element, unless memory runs out
abbrev pub GivesOnly : Result Fresh PerError → Fresh → Type 0
GivesOnly (Ok x) y = x ≡ y
GivesOnly (Err e) y = e ≡ OutOfMemory

-- the type of a configured key has a text
abbrev pub FitsType : Option Kind → Type 0
FitsType None = ⊤
FitsType (Some k) = IsTrue (kind_fits k)
