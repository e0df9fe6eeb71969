use Rattle.file_handles.specs.lemmas.Asked.{cat_due, put_due, same_content}
use Rattle.file_handles.proofs.laws.whole_contents_are_given.Goals as goal

pub returns-clause-cat : goal.returns-clause-cat
returns-clause-cat c = cat_due

pub returns-clause-put : goal.returns-clause-put
returns-clause-put c = put_due

pub returns-clause-same : goal.returns-clause-same
returns-clause-same c = same_content
