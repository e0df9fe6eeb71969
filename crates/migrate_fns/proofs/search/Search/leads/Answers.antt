use Rattle.std.proofs.Common.{◌≡◌, ◌<◌, ◌-◌, suc, ap, sym, ◌∙◌, map, length, arith, None}
use Rattle.std.specs.Prelude.{is_some}
use Rattle.std.proofs.lemmas.Option.{slice_get_within}
use Rattle.value_model.specs.Views.{kind_of}
use Rattle.migrate_fns.specs.Chains.{links}
use Rattle.migrate_fns.specs.Links.{levels_view}
use Rattle.migrate_fns.specs.Stored.{rule_of}
use Rattle.migrate_fns.specs.lemmas.Facts.{no_last, read_as}
use Rattle.migrate_fns.proofs.Levels.{leads_at_end, leads_by, view_at}
use Rattle.migrate_fns.proofs.TypeNumbers.{numbered}
use Rattle.migrate_fns.proofs.search.Search.leads.Goals as goal

pub index-requires : goal.index-requires
index-requires g c =
    let view = view_at c.args.levels.now (length c.args.levels.now - 1) c.in-Some.level.now
    (sym c.in-Some.ensures.value) in
    omega (
      (c.requires.levels (length c.args.levels.now - 1) c.in-Some.level.now.items view).0,
      c.requires.number,
      c.in-Some.level.now.ok,
      arith,
    )

pub returns-in-None : goal.returns-in-None
returns-in-None g c from at =
    leads_at_end (map rule_of c.args.self.now.list.now) c.args.self.now.element.now (kind_of c.args.self.now.to.now)
    c.args.self.now.types c.args.number c.args.self.now.end from c.args.self.now.differ at
    (numbered c.args.self.now.types (kind_of c.args.self.now.to.now) c.args.self.now.end c.args.self.now.ends)
    ∙ ap (λ n. is_some (links (map rule_of c.args.self.now.list.now) c.args.self.now.element.now
    (kind_of c.args.self.now.to.now) n from)) (sym (no_last c.args.levels.now (sym c.in-None.ensures.value)))

pub returns-in-Some : goal.returns-in-Some
returns-in-Some g c from at =
    let last = sym c.in-Some.ensures.value in
    let view = view_at c.args.levels.now (length c.args.levels.now - 1) c.in-Some.level.now last in
    let inside : c.args.number < length c.in-Some.level.now.items =
    omega (
      (c.requires.levels (length c.args.levels.now - 1) c.in-Some.level.now.items view).0,
      c.requires.number,
      arith,
    ) in
    let more : suc (length c.args.levels.now - 1) ≡ length c.args.levels.now =
    omega (slice_get_within c.args.levels.now (length c.args.levels.now - 1) c.in-Some.level.now last, arith) in
    c.is_some.ensures
    ∙ ap is_some (sym (read_as c.in-Some.level.now.items c.args.number c.index.result.now None inside c.index.ensures))
    ∙ leads_by (map rule_of c.args.self.now.list.now) c.args.self.now.element.now (kind_of c.args.self.now.to.now)
    c.args.self.now.types (levels_view c.args.levels.now) c.in-Some.level.now.items (length c.args.levels.now - 1)
    c.args.number from c.requires.levels view at
    ∙ ap (λ n. is_some (links (map rule_of c.args.self.now.list.now) c.args.self.now.element.now
    (kind_of c.args.self.now.to.now) n from)) more
