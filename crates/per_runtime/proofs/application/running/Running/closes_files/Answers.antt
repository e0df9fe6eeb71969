use Rattle.std.proofs.Common.{◌∙◌, Some, ap, sym}
use Rattle.std.specs.Prelude.{option_map}
use Rattle.per_base.specs.declared.elements.StoreKind.TheVariants.{Files, Keys}
use Rattle.per_runtime.proofs.application_lemmas.Ended.{not_some}
use Rattle.per_runtime.proofs.application_lemmas.KnownCalls.{a_kind, active_keeps, no_number, none_installed}
use Rattle.per_runtime.proofs.application.running.Running.closes_files.Goals as goal

pub number-requires : goal.number-requires
number-requires c = active_keeps c.requires.0 c.requires.1 c.args.self.now c.in-Some.installed.now c.requires.2
    c.in-Some.ensures

pub returns-in_default : goal.returns-in_default
returns-in_default c = λ told image is tells opened. sym
    (none_installed c.roots_in_use.ensures.app c.roots_say.ensures.numbers told image c.args.self.now tells is opened
    c.args.name.now (Some Files)
    (sym c.installed.ensures ∙ ap (option_map (λ i. i.now)) (not_some c.installed.result c.in_default.not-Some)))

pub returns-in-None : goal.returns-in-None
returns-in-None c = λ told image is tells opened. sym (no_number c.roots_in_use.ensures.app c.roots_say.ensures.numbers
    told image c.args.self.now tells is opened c.args.name.now (Some Files)
    c.in-Some.installed.now c.in-Some.ensures (sym c.number.ensures.found ∙ c.in-None.is))

pub returns-in-Files : goal.returns-in-Files
returns-in-Files c = λ told image is tells opened. sym
    (a_kind c.roots_in_use.ensures.app c.roots_say.ensures.numbers told image c.args.self.now tells is opened
    c.args.name.now (Some Files)
    c.in-Some.installed.now c.in-Some.ensures c.as_slice-storages.result.now c.as_slice-storages.ensures
    c.in-Some-number.number _ c.in-Some-number.ensures.bound
    (sym c.number.ensures.found ∙ c.in-Some-number.is) Files c.in-Files.is)

pub returns-in_default-matches : goal.returns-in_default-matches
returns-in_default-matches c = λ told image is tells opened.
    sym (a_kind c.roots_in_use.ensures.app c.roots_say.ensures.numbers told image c.args.self.now tells is opened
    c.args.name.now (Some Files)
    c.in-Some.installed.now c.in-Some.ensures c.as_slice-storages.result.now c.as_slice-storages.ensures
    c.in-Some-number.number _ c.in-Some-number.ensures.bound
    (sym c.number.ensures.found ∙ c.in-Some-number.is) Keys c.in_default-matches.is)
