-- The text of what a recovery came to.
use Rattle.std.specs.Prelude.{ℕ, List, ◌++◌, codes, option_map}
use Rattle.std.specs.Fmt.{decimal}
use Rattle.command_text.specs.declared.replies.AppStatus.TheVariants as status
use Rattle.command_text.specs.Replies.{copies_text, status_text}
use Rattle.root_text.specs.RootText.{Root, Version}
use Rattle.root_text.specs.RootText as text
use Rattle.root_recovery.specs.Recoveries.{RootRow, reads, none_left, takes}

-- the versions that a root names, as an application's status says them
abbrev pub root_words : Root → List ℕ
root_words text.absent = status_text status.Absent
root_words (text.installed bank active previous) =
    status_text (status.Active active.deployment.version (option_map (λ v. v.deployment.version) previous))

-- the generation of what was taken, the copies that held it, and what it says; or why nothing was taken
unfoldable pub recovery_text : RootRow → List ℕ
recovery_text reads = codes "refused readable\n"
recovery_text none_left = codes "refused none-left\n"
recovery_text (takes g root copies) = codes "recovered " ++ decimal g ++ codes " " ++ copies_text copies ++ codes " "
    ++ root_words root ++ codes "\n"
