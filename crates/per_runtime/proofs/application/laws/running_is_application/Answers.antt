use Rattle.per_runtime.proofs.application_lemmas.InWorld.{in_world}
use Rattle.per_runtime.proofs.application.laws.running_is_application.Goals as goal

pub returns : goal.returns
returns c = in_world c.roots_in_use.ensures.app c.roots_say.ensures.numbers
