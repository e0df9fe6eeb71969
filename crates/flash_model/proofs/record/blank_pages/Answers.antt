use Rattle.std.proofs.Common.{ap, ◌∙◌}
use Rattle.flash_model.specs.Pages.{blank_page}
use Rattle.flash_model.specs.History.{pages_of}
use Rattle.flash_model.proofs.PageLists.{all_blank}
use Rattle.flash_model.proofs.record.blank_pages.Goals as goal

pub returns-clause-blank : goal.returns-clause-blank
unfolding blank_page
returns-clause-blank c = ap pages_of c.in_ok-pages.ensures ∙ all_blank c.args.count
