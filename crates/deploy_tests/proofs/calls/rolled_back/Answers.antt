use Rattle.deploy_tests.proofs.calls.rolled_back.Goals as goal

pub returns : goal.returns
returns c = record { root = c.in_ok-rollback.ensures.root c.args.app c.requires.app c.requires.root }
