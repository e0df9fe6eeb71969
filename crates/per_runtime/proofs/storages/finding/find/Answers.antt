use Rattle.std.proofs.Common.{None, sym, subst}
use Rattle.deploy.specs.declared.roots.Root.{Root}
use Rattle.deploy.specs.Roots.{root_says}
use Rattle.per_runtime.specs.storages.Finding.{IsAsked, IsLocated}
use Rattle.per_runtime.proofs.storage_lemmas.Found.{asked_on, both_ok}
use Rattle.per_runtime.proofs.storages.finding.find.Goals as goal

pub returns-in-Installed-clause-found : goal.returns-in-Installed-clause-found
returns-in-Installed-clause-found c = both_ok c.find_in.result _ _ _
    (λ l located asked image on. asked_on c.storages_stand.ensures c.args.app c.args.root.now c.requires.root
    c.args.name.now c.args.kind l
    (subst (λ (r : Root). IsLocated c.args.app (root_says r) l) (sym c.in-Installed.is) located)
    (subst (λ (r : Root). IsAsked (root_says r) c.args.name.now c.args.kind l) (sym c.in-Installed.is) asked) image
    on)
    c.find_in.ensures.located c.find_in.ensures.found

pub returns-in-Installed-clause-named : goal.returns-in-Installed-clause-named
returns-in-Installed-clause-named c = both_ok c.find_in.result _ _ _
    (λ l located asked image on. asked_on c.storages_stand.ensures c.args.app c.args.root.now c.requires.root
    c.args.name.now None l
    (subst (λ (r : Root). IsLocated c.args.app (root_says r) l) (sym c.in-Installed.is) located)
    (subst (λ (r : Root). IsAsked (root_says r) c.args.name.now None l) (sym c.in-Installed.is) asked) image on)
    c.find_in.ensures.located c.find_in.ensures.named
