-- What a making, a change and an opening leave of the info of a file. A moment (`now`) is in seconds.
use Rattle.std.specs.Prelude.{ℕ}
use Rattle.per_base.specs.declared.elements.Cause.{Cause}
use Rattle.per_base.specs.declared.elements.FileInfo.{FileInfo}

-- made now: all three moments are now, both causes the one of the making
abbrev pub made : ℕ → Cause → FileInfo
made now cause = record { created = now; modified = now; accessed = now; creation = cause; modification = cause }

-- the info of a file whose content changed now
abbrev pub info_changed : ℕ → Cause → FileInfo → FileInfo
info_changed now cause info = record info { modified = now; modification = cause }

-- the info of a file that was opened now
abbrev pub opened_info : ℕ → FileInfo → FileInfo
opened_info now info = record info { accessed = now }
