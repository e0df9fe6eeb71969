-- The run goes on: one command more.
use Rattle.std.proofs.Common.{List, [], ◌∷◌, ◌++◌, ◌≡◌, refl, sym, Option, None, Bool, true, false, IsTrue}
use Rattle.disk_model.specs.Medium.{Medium, IsLawful, Elapses}
use Rattle.command_text.specs.declared.calls.Event.{Event}
use Rattle.command_text.specs.declared.replies.Reply.{Reply}
use Rattle.run_model.specs.Converters.{Converters}
use Rattle.run_model.specs.RunLaws.{blamed_on, starts_going, steps_going}
use Rattle.run_model.specs.Runtimes.{Memory, IsDoubt, Starts, Stepped, world_of, runtime_at}
use Rattle.run_model.specs.Turns.{Turn, turn, IsBlamed}
use Rattle.run_model.specs.Worlds.{Doubt, World, formatted}
use Rattle.per_run.specs.Steps.{Goes, IsGoing}

module _ (converters : Converters) (start : Medium) where
  -- the doubt after a command whose disk has modelled bytes
  told_on : (turns : List Turn) (e : Event) (reply : Reply) (before after : Memory) (now new : Medium)
      → IsLawful true new → Elapses now new
      → (g : IsGoing converters start turns before now)
      → (s : Stepped converters e reply g.0 (runtime_at before now) (runtime_at after new))
      → IsGoing converters start (turns ++ turn e reply new (world_of new.image after s.doubt') ∷ []) after
      new
  told_on turns e reply before after now new lawful time g s = (
    s.doubt',
    s.is_doubt,
    steps_going converters turns e reply before after g.0 true start now new refl lawful
        time g.2 s,
  )

  -- one command more
  pub goes_on : (told : Bool) (turns : List Turn) (e : Event) (reply : Reply) (before after : Memory)
      (now new : Medium)
      → IsLawful told new → Elapses now new
      → Goes told converters start turns before now → IsBlamed now.faults new.faults reply
      → (IsTrue told → (doubt : Option Doubt) → IsDoubt before doubt
      → Stepped converters e reply doubt (runtime_at before now) (runtime_at after new))
      → (w : World) × Goes told converters start (turns ++ turn e reply new w ∷ []) after new
  goes_on false turns e reply before after now new lawful time goes blamed stepped = (
    formatted,
    record {
      blamed = blamed_on start.faults turns (turn e reply new formatted) now.faults goes.blamed blamed;
      disk = λ tells. let bad : false ≡ true = tells in cc;
    },
  )
  goes_on true turns e reply before after now new lawful time goes blamed stepped =
      let g : IsGoing converters start turns before now = goes.disk refl in
      let s : Stepped converters e reply g.0 (runtime_at before now) (runtime_at after new) = stepped refl g.0 g.1 in
      let w : World = world_of new.image after s.doubt' in (
        w,
        record {
          blamed = blamed_on start.faults turns (turn e reply new w) now.faults goes.blamed blamed;
          disk = λ tells. told_on turns e reply before after now new lawful time g s;
        },
      )

-- a runtime that started is a run without a command
pub goes_none : (told : Bool) (converters : Converters) (memory : Memory) (old new : Medium)
    → Elapses old new → new.faults ≡ old.faults → (IsTrue told → Starts memory old new)
    → Goes told converters old [] memory new
goes_none told converters memory old new time passes starts = record {
  blamed = passes;
  disk = λ tells. let s : Starts memory old new = starts tells in
      (None, sym s.sure, starts_going converters memory old new time s);
}
