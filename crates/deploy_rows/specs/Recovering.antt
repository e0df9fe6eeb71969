-- What a recovery and a reset make of a closed storage.
use Rattle.std.specs.Prelude.{ℕ, List, filter_map, sum_by, Bool, false, cond, nat_lt, Option, Some, None}
use Rattle.std.specs.Prelude.{option_map, Result, Ok, Err}
use Rattle.per_base.specs.declared.elements.Cause.TheVariants as cause
use Rattle.per_base.specs.declared.elements.Content.{Content}
use Rattle.per_base.specs.declared.elements.Content.TheVariants.{Good, Bad}
use Rattle.per_base.specs.declared.elements.Entry.{Entry}
use Rattle.per_base.specs.declared.elements.Fresh.{Fresh}
use Rattle.per_base.specs.declared.errors.PerError.{PerError}
use Rattle.per_base.specs.declared.errors.PerError.TheVariants as error
use Rattle.per_base.specs.declared.errors.Limit.TheVariants as limit
use Rattle.value_code.specs.Reading.{is_content}
use Rattle.file_core.specs.Infos.{info_changed}
use Rattle.deployment_model.specs.Data.{StorageData}
use Rattle.deployment_model.specs.Lookups.{initial_content}
use Rattle.element_state.specs.declared.shapes.View.{View}
use Rattle.element_state.specs.States.{State, salvage_of, next_generation, is_worn, fresh_map, fresh_state}
use Rattle.element_state.specs.Views.{judged_content}
use Rattle.index_text.specs.Contents.{fresh_size}
use Rattle.update_plan.specs.Rows.{initial_contents}

-- an element of these bytes, in whose info a recovery at the moment now is the last change
abbrev pub rescued_as : StorageData → ℕ → Entry → List ℕ → Fresh
rescued_as s now e bytes = record {
  name = e.name;
  info = option_map (info_changed now cause.Recovery) e.info;
  bytes =
      bytes;
}

-- what a recovery makes of an element of this content: what is readable stays; else its salvage, else what it starts
-- with, else nothing
abbrev pub rescued : StorageData → ℕ → Entry → Content → Option Fresh
rescued s now e (Good bytes) = Some (record { name = e.name; info = e.info; bytes = bytes })
rescued s now e (Bad (Some bytes)) = Some (rescued_as s now e bytes)
rescued s now e (Bad None) = option_map (rescued_as s now e) (initial_content s e.name)

-- what a storage is recovered to: all of its elements, or its initial contents where there is no view of it
abbrev pub recovered_contents : StorageData → ℕ → Option View → List Fresh
recovered_contents s now None = initial_contents s cause.Recovery now
recovered_contents s now (Some v) = filter_map (λ (e : Entry).
    rescued s now e (judged_content (is_content s.kind) e.content)) v.entries

-- no generation is left after that of this view
abbrev pub is_worn_out : Option View → Bool
is_worn_out None = false
is_worn_out (Some v) = is_worn v

-- a storage in this state is rebuilt from these contents, under the generation after the one that it had, and this is
-- refused where none is left
abbrev pub rebuilding : State → List Fresh → Result State PerError
rebuilding state contents = cond (is_worn_out (salvage_of state)) (Err (error.LimitReached limit.Generations))
    (Ok (fresh_state (next_generation (salvage_of state)) (fresh_map contents)))

-- a storage in this state is rebuilt from these contents, which is refused first where names and contents are together
-- more bytes than the storage may have, and then where no generation is left
abbrev pub if_contents_fit : StorageData → State → List Fresh → Result State PerError
if_contents_fit s state contents = cond (nat_lt s.maximum (sum_by fresh_size contents))
    (Err (error.OutOfStorageSpace (sum_by fresh_size contents) s.maximum)) (rebuilding state contents)

-- what a recovery at the moment now makes of a storage in this state: all of the elements, or the initial contents
-- where nothing is left
unfoldable pub recovering : StorageData → ℕ → State → Result State PerError
recovering s now state = if_contents_fit s state (recovered_contents s now (salvage_of state))

-- what a reset at the moment now makes of a storage in this state: the initial contents, and in the infos of files its
-- cause and the moment
unfoldable pub resetting : StorageData → ℕ → State → Result State PerError
resetting s now state = rebuilding state (initial_contents s cause.Reset now)

-- the state after a call: that of the row, or the same where it is refused
abbrev pub after_state : State → Result State PerError → State
after_state state (Ok next) = next
after_state state (Err e) = state
