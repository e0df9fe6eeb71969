use Rattle.deploy.proofs.InUse.{in_use}
use Rattle.deploy.proofs.Manifests.{in_use_keeps}
use Rattle.deploy.proofs.RootLens.{root_len_is}
use Rattle.deploy.proofs.laws.roots_in_use.Goals as goal

pub returns : goal.returns
returns c = record {
  app = λ image app root of on. in_use c.one_root.ensures.again c.roots_say.ensures.alone image app
      root of on;
  manifests = λ image app root of on. in_use_keeps c.one_root.ensures.again c.held_is_lawful.ensures.alone
      c.held_is_lawful.ensures.among image app root of on;
  len = root_len_is;
}
