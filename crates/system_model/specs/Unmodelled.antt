-- A system that models nothing: no byte and no case.
use Rattle.system_model.specs.SystemMedium.{SystemMedium, SavesFiles}
use Rattle.disk_model.specs.Silence.{silent_medium}

-- every file is empty, nothing is free or lost, and no power loss is spoken of
abbrev pub unmodelled : SystemMedium
unmodelled = record {
  disk = silent_medium 0;
  named = λ _. Unit {0};
  free = λ _ _. ⊥;
  lost = λ _ _. ⊥;
}

-- it keeps its word of files
pub unmodelled_saves : SavesFiles unmodelled
unmodelled_saves f whole still named c now = absurd now
