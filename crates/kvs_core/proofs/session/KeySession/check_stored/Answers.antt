use Rattle.std.proofs.Common.{◌∙◌, ap, sym}
use Rattle.std.specs.Prelude.{Err}
use Rattle.value_model.specs.Trees.{type_of}
use Rattle.kvs_core.proofs.Contents.{other_typed, same_typed, typed_needs, untrue}
use Rattle.kvs_core.proofs.session.KeySession.check_stored.Goals as goal

pub returns-then-has_type_of-clause-ok : goal.returns-then-has_type_of-clause-ok
returns-then-has_type_of-clause-ok c = λ rest. same_typed c.args.key.now.content c.in-Some.stored.now
    (type_of c.args.value.now) c.in-Some.ensures rest (c.has_type_of.ensures.same.0 c.if-has_type_of.true)

pub returns-in-Ok-clause-refused : goal.returns-in-Ok-clause-refused
returns-in-Ok-clause-refused c = λ rest never. other_typed c.args.key.now.content c.in-Some.stored.now
    (type_of c.args.value.now) c.in-Some.ensures rest c.in-Ok.stored c.in-Ok.ensures.reads
    (untrue c.has_type_of.result c.has_type_of.ensures.same c.if-has_type_of.false)
    ∙ sym (ap (λ e. Err e) (c.values_differ.ensures never))

pub returns-in-Ok-clause-memory : goal.returns-in-Ok-clause-memory
returns-in-Ok-clause-memory c = λ out rest. typed_needs c.args.key.now.content c.in-Some.stored.now
    (type_of c.args.value.now) c.in-Some.ensures rest c.has_type_of.ensures.readable
    (untrue c.has_type_of.result c.has_type_of.ensures.same c.if-has_type_of.false)

pub returns-in-Err-clause-memory : goal.returns-in-Err-clause-memory
returns-in-Err-clause-memory c = λ out rest. typed_needs c.args.key.now.content c.in-Some.stored.now
    (type_of c.args.value.now) c.in-Some.ensures rest c.has_type_of.ensures.readable
    (untrue c.has_type_of.result c.has_type_of.ensures.same c.if-has_type_of.false)
