use Rattle.open_storages.proofs.with_files.answer_files.Goals as goal

pub returns-in-Peek-clause-answered : goal.returns-in-Peek-clause-answered
returns-in-Peek-clause-answered c = c.read.ensures.answered c.args.now

pub returns-in-HandleSize-clause-answered : goal.returns-in-HandleSize-clause-answered
returns-in-HandleSize-clause-answered c = c.place.ensures.answered c.args.now
