use Rattle.flash_model.specs.Pages.{blank_page}
use Rattle.flash_model.proofs.PageLists.{block_blank}
use Rattle.flash_model.proofs.record.blank_block.Goals as goal

pub returns-clause-pages : goal.returns-clause-pages
unfolding blank_page
returns-clause-pages c = block_blank c.args.pages.now.items c.set_from.new.pages.items c.args.block
    c.set_from.ensures.inside c.set_from.ensures.outside
