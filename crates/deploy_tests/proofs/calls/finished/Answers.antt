use Rattle.deploy_tests.proofs.calls.finished.Goals as goal

pub returns : goal.returns
returns c = record { root = c.in_ok-finish.ensures.root c.args.app c.requires.app c.requires.root }
