use Rattle.std.proofs.Common.{sym, ap, ◌∙◌, arith, bytes_eq, get_or, true≢false}
use Rattle.std.proofs.lemmas.Bool.{not-false, not-true}
use Rattle.std.proofs.lemmas.Slice.Eq.{bytes_eq-Decides}
use Rattle.deployment_model.specs.declared.configs.StorageConfig.{StorageConfig}
use Rattle.dump_text.specs.declared.dumps.DumpedStorage.{DumpedStorage}
use Rattle.dump_text.proofs.Containers.{same_at, same_more}
use Rattle.dump_text.proofs.reading.are_named.Goals as goal

pub loop-number-preserved : goal.loop-number-preserved
loop-number-preserved c =
    let n = c.loop-number.number in
    let x = c.index-storages-number.result in
    let y = c.index-configs-number.result in
    let a = (get_or c.args.storages.now n x).name in
    let b = (get_or c.args.configs.now n y).name in
    let same = (bytes_eq-Decides a b).0 (not-false (bytes_eq a b) (sym c.ne.ensures ∙ c.if-ne.false)) in
    λ later. c.loop-number.invariant (same_more (λ (s : DumpedStorage). s.name) (λ (k : StorageConfig). k.name)
    c.args.storages.now c.args.configs.now n x y (omega arith) (omega arith) c.index-storages-number.is
    c.index-configs-number.is
    (ap (λ (s : DumpedStorage). s.name) c.index-storages-number.is ∙ same
    ∙ sym (ap (λ (k : StorageConfig). k.name) c.index-configs-number.is)) later)

pub returns-then-ne : goal.returns-then-ne
returns-then-ne c =
    let n = c.loop-number.number in
    let x = c.index-storages-number.result in
    let y = c.index-configs-number.result in
    let a = (get_or c.args.storages.now n x).name in
    let b = (get_or c.args.configs.now n y).name in (
      (λ yes. absurd cc),
      λ all. absurd (true≢false (sym ((bytes_eq-Decides a b).1
          (sym (ap (λ (s : DumpedStorage). s.name) c.index-storages-number.is)
          ∙ same_at (λ (s : DumpedStorage). s.name) (λ (k : StorageConfig). k.name) c.args.storages.now
          c.args.configs.now n x y (omega arith) (omega arith) c.index-storages-number.is c.index-configs-number.is all
          ∙ ap (λ (k : StorageConfig). k.name) c.index-configs-number.is))
          ∙ not-true (bytes_eq a b) (sym c.ne.ensures ∙ c.if-ne.true))),
    )
