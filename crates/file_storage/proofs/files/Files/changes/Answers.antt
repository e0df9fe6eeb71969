use Rattle.std.proofs.Common.{◌≡◌, ◌∙◌, ap, subst}
use Rattle.std.specs.Prelude.{map}
use Rattle.per_base.specs.Maps.{Map}
use Rattle.element_state.specs.Views.{element_of}
use Rattle.file_storage.specs.FileSessions.{FilesInUse}
use Rattle.file_storage.specs.Syncs.{due_changes}
use Rattle.file_storage.specs.Walks.{bare, walked}
use Rattle.file_storage.proofs.files.Files.changes.Goals as goal

pub returns : goal.returns
returns c =
    let made = c.in_ok-list.ensures
    ∙ ap (λ (m : Map). map bare (walked m (map element_of c.entries.result.now))) c.files.ensures
    ∙ ap (λ es. map bare (walked c.self.inside.table.session.files (map element_of es))) c.entries.ensures in
    subst (λ (s : FilesInUse). c.in_ok-list.list.items ≡ map bare (due_changes s)) c.self.view_is made
