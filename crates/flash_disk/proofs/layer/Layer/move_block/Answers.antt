use Rattle.std.proofs.Common.{◌≡◌, ◌≢◌, ◌<◌, ◌+◌, ◌≤◌, refl, sym, ap, subst, ◌∙◌, arith}
use Rattle.std.specs.Prelude.{vec_capacity, All, IsSome, IsFalse, false}
use Rattle.flash_disk.specs.declared.table.FilePage.{FilePage}
use Rattle.flash_disk.specs.declared.table.Newest.{Newest}
use Rattle.flash_disk.specs.declared.table.Table.{Table}
use Rattle.flash_disk.specs.declared.layer.LayerState.{LayerState}
use Rattle.flash_disk.specs.Known.{known, PutsAll}
use Rattle.flash_disk.specs.Learnt.{HasPlace}
use Rattle.flash_disk.specs.Does.{Does}
use Rattle.flash_disk.specs.Sound.{IsSoundLayer}
use Rattle.flash_disk.specs.Moving.{IsMoving, LeadsFewer, StandsMoved}
use Rattle.flash_disk.specs.Counted.{IsInside, entries_in}
use Rattle.flash_disk.specs.Entries.{SameEntries}
use Rattle.flash_disk.specs.Newest.{places}
use Rattle.flash_disk.specs.Apart.{HoldsOneCopy}
use Rattle.flash_disk.specs.KeepsApart.{KeepsApart}
use Rattle.flash_disk.proofs.Moved.{all_known, finished, joins, places_stay, entries_stay}
use Rattle.flash_disk.proofs.Clearing.{cleared_stands, cleared_keeps, cleared_sound, cleared_apart, moving_none}
use Rattle.flash_disk.proofs.Clearing.{empty_holds}
use Rattle.flash_disk.proofs.Moving.{stands_then, keeps_on, fits_kept, shows_same, moved_stands, moved_held}
use Rattle.flash_disk.proofs.Holding.{held_apart, apart_then}
use Rattle.flash_disk.proofs.Accounting.{accounts_fails, accounts_here, accounts_on}
use Rattle.flash_disk.proofs.layer.Layer.move_block.Goals as goal

pub returns-in_err-clear_spare-clause-ready : goal.returns-in_err-clear_spare-clause-ready
returns-in_err-clear_spare-clause-ready g c = record {
  sure = ap (λ (q : LayerState). q.unsure) c.clear_spare.ensures.state ∙ c.requires.ready.sure;
  sound = λ told.
      let s = c.args.self.now.state in
      let m = g.F.Flash.medium c.args.self.now.flash in
      let look = g.F.Flash.medium c.clear_spare.new.self.flash in
      let e = c.clear_spare.ensures in
      let sound : IsSoundLayer m s = c.requires.ready.sound told in
      let agreed : IsFalse s.has_rivals = c.requires.agreed in
      cleared_sound m s sound agreed look (e.accounts.time told).blocks (e.does told) c.clear_spare.new.self.state e.state
      (e.blank told);
}

pub returns-in_err-clear_spare-clause-fits : goal.returns-in_err-clear_spare-clause-fits
returns-in_err-clear_spare-clause-fits g c told =
    let s = c.args.self.now.state in
    let m = g.F.Flash.medium c.args.self.now.flash in
    let look = g.F.Flash.medium c.clear_spare.new.self.flash in
    let e = c.clear_spare.ensures in
    let sound : IsSoundLayer m s = c.requires.ready.sound told in
    let agreed : IsFalse s.has_rivals = c.requires.agreed in
    fits_kept m look s c.clear_spare.new.self.state sound agreed
    (cleared_keeps m s sound agreed look (e.accounts.time told).blocks (e.does told))
    (e.accounts.time told).blocks
    (λ key has. subst (λ (q : LayerState). HasPlace q.table key) (sym e.state) has)

pub returns-in_err-clear_spare-clause-does : goal.returns-in_err-clear_spare-clause-does
returns-in_err-clear_spare-clause-does g c told =
    let s = c.args.self.now.state in
    let m = g.F.Flash.medium c.args.self.now.flash in
    let look = g.F.Flash.medium c.clear_spare.new.self.flash in
    let e = c.clear_spare.ensures in
    let sound : IsSoundLayer m s = c.requires.ready.sound told in
    let agreed : IsFalse s.has_rivals = c.requires.agreed in
    cleared_stands m s sound agreed look (e.accounts.time told).blocks (e.does told)

pub copy_needed-requires-clause-moving : goal.copy_needed-requires-clause-moving
copy_needed-requires-clause-moving g c told =
    let s = c.args.self.now.state in
    let m = g.F.Flash.medium c.args.self.now.flash in
    let look = g.F.Flash.medium c.clear_spare.new.self.flash in
    let e = c.clear_spare.ensures in
    let sound : IsSoundLayer m s = c.requires.ready.sound told in
    let agreed : IsFalse s.has_rivals = c.requires.agreed in
    let s1 : LayerState = record s { cleared = c.clear_spare.new.self.state.cleared } in
    let t : LayerState = record c.clear_spare.new.self.state { cleared = false; moved = c.clear.new.self } in
    let state : t ≡ record s { cleared = false; moved = c.clear.new.self } =
    ap (λ (q : LayerState). let z : LayerState = record q { cleared = false; moved = c.clear.new.self } in z) e.state in
    let from = c.args.victim in
    let blocks = (e.accounts.time told).blocks in
    let within : from < look.blocks = (let below = c.requires.within in let same = sound.counted.blocks_are in
    omega (arith, below, same, blocks)) in
    let same = ap (λ (q : LayerState). vec_capacity q.moved) e.state in
    let kept = c.clear.ensures.capacity in
    moving_none look s1
    (cleared_sound m s sound agreed look blocks (e.does told) s1 refl (e.blank told)) agreed c.requires.full
    (e.blank told c.in_ok-clear_spare.ensures.cleared) t state (omega (arith, same, kept)) c.clear.ensures.items
    from s.spare refl within c.requires.other

pub returns-in_err-copy_needed-clause-fits : goal.returns-in_err-copy_needed-clause-fits
returns-in_err-copy_needed-clause-fits g c told =
    let s = c.args.self.now.state in
    let m = g.F.Flash.medium c.args.self.now.flash in
    let look = g.F.Flash.medium c.clear_spare.new.self.flash in
    let e = c.clear_spare.ensures in
    let sound : IsSoundLayer m s = c.requires.ready.sound told in
    let agreed : IsFalse s.has_rivals = c.requires.agreed in
    let now = g.F.Flash.medium c.copy_needed.new.self.flash in
    let t = c.copy_needed.new.self.state in
    let n = c.copy_needed.ensures in
    let same_blocks : now.blocks ≡ m.blocks = (n.accounts.time told).blocks ∙ (e.accounts.time told).blocks in
    let keeps = keeps_on m look s sound agreed (e.accounts.time told).blocks
    (cleared_keeps m s sound agreed look (e.accounts.time told).blocks (e.does told)) now.state.pages (n.keeps told) in
    let same_table : t.table ≡ s.table = ap (λ (q : LayerState). q.table) n.state
    ∙ ap (λ (q : LayerState). q.table) e.state in
    fits_kept m now s t sound agreed keeps same_blocks (λ key has. subst (λ q. HasPlace q key) (sym same_table) has)

pub returns-in_err-copy_needed-clause-does : goal.returns-in_err-copy_needed-clause-does
returns-in_err-copy_needed-clause-does g c told =
    let s = c.args.self.now.state in
    let m = g.F.Flash.medium c.args.self.now.flash in
    let look = g.F.Flash.medium c.clear_spare.new.self.flash in
    let e = c.clear_spare.ensures in
    let sound : IsSoundLayer m s = c.requires.ready.sound told in
    let agreed : IsFalse s.has_rivals = c.requires.agreed in
    let now = g.F.Flash.medium c.copy_needed.new.self.flash in
    let t = c.copy_needed.new.self.state in
    let n = c.copy_needed.ensures in
    let same_blocks : now.blocks ≡ m.blocks = (n.accounts.time told).blocks ∙ (e.accounts.time told).blocks in
    let keeps = keeps_on m look s sound agreed (e.accounts.time told).blocks
    (cleared_keeps m s sound agreed look (e.accounts.time told).blocks (e.does told)) now.state.pages (n.keeps told) in
    let same_table : t.table ≡ s.table = ap (λ (q : LayerState). q.table) n.state
    ∙ ap (λ (q : LayerState). q.table) e.state in
    stands_then m look now (e.accounts.time told) (n.accounts.time told)
    (cleared_stands m s sound agreed look (e.accounts.time told).blocks (e.does told))
    (moved_stands c.clear_spare.new.self.state.table c.args.victim s.spare look now (n.does told))

pub returns-clause-ready : goal.returns-clause-ready
returns-clause-ready g c = record {
  sure = ap (λ (q : LayerState). q.unsure) c.copy_needed.ensures.state
      ∙ (ap (λ (q : LayerState). q.unsure) c.clear_spare.ensures.state ∙ c.requires.ready.sure);
  sound = λ told.
      let s = c.args.self.now.state in
      let m = g.F.Flash.medium c.args.self.now.flash in
      let look = g.F.Flash.medium c.clear_spare.new.self.flash in
      let e = c.clear_spare.ensures in
      let sound : IsSoundLayer m s = c.requires.ready.sound told in
      let agreed : IsFalse s.has_rivals = c.requires.agreed in
      let now = g.F.Flash.medium c.copy_needed.new.self.flash in
      let t = c.copy_needed.new.self.state in
      let n = c.copy_needed.ensures in
      let same_blocks : now.blocks ≡ m.blocks = (n.accounts.time told).blocks ∙ (e.accounts.time told).blocks in
      let keeps = keeps_on m look s sound agreed (e.accounts.time told).blocks
      (cleared_keeps m s sound agreed look (e.accounts.time told).blocks (e.does told)) now.state.pages (n.keeps told) in
      let same_table : t.table ≡ s.table = ap (λ (q : LayerState). q.table) n.state
      ∙ ap (λ (q : LayerState). q.table) e.state in
      let from = c.args.victim in
      let to = s.spare in
      let moving : IsMoving now.state.pages now.blocks t from to 64 = c.in_ok-copy_needed.ensures.moving told in
      let p = c.put_all.ensures in
      let items : c.deref.result.now ≡ t.moved.items = c.deref.ensures.value in
      let known_all = subst (All (λ (q : FilePage × Newest). IsSome (known t.table q.0))) (sym items)
      (all_known now t from to moving) in
      let room = moving.sound.knows.led.room in
      let puts = subst (PutsAll t.table c.put_all.new.self) items (p.put known_all room) in
      let long = t.moved.ok.0 in let count = c.len.ensures in let least = c.min.ensures in
      finished now t from to moving c.put_all.new.self puts (p.len known_all room) (p.room known_all room)
      p.bounds.limit
      p.bounds.lens
      (p.stays known_all room) c.min.result (omega (arith, long, count, least))
      (λ counted inside. p.counted now.blocks (subst (All (λ (q : FilePage × Newest). IsInside now.blocks q.1))
      (sym items) inside) counted);
}

pub returns-clause-fits : goal.returns-clause-fits
returns-clause-fits g c told =
    let s = c.args.self.now.state in
    let m = g.F.Flash.medium c.args.self.now.flash in
    let look = g.F.Flash.medium c.clear_spare.new.self.flash in
    let e = c.clear_spare.ensures in
    let sound : IsSoundLayer m s = c.requires.ready.sound told in
    let agreed : IsFalse s.has_rivals = c.requires.agreed in
    let now = g.F.Flash.medium c.copy_needed.new.self.flash in
    let t = c.copy_needed.new.self.state in
    let n = c.copy_needed.ensures in
    let same_blocks : now.blocks ≡ m.blocks = (n.accounts.time told).blocks ∙ (e.accounts.time told).blocks in
    let keeps = keeps_on m look s sound agreed (e.accounts.time told).blocks
    (cleared_keeps m s sound agreed look (e.accounts.time told).blocks (e.does told)) now.state.pages (n.keeps told) in
    let same_table : t.table ≡ s.table = ap (λ (q : LayerState). q.table) n.state
    ∙ ap (λ (q : LayerState). q.table) e.state in
    let from = c.args.victim in
    let to = s.spare in
    let moving : IsMoving now.state.pages now.blocks t from to 64 = c.in_ok-copy_needed.ensures.moving told in
    let p = c.put_all.ensures in
    let items : c.deref.result.now ≡ t.moved.items = c.deref.ensures.value in
    let known_all = subst (All (λ (q : FilePage × Newest). IsSome (known t.table q.0))) (sym items)
    (all_known now t from to moving) in
    let room = moving.sound.knows.led.room in
    let puts = subst (PutsAll t.table c.put_all.new.self) items (p.put known_all room) in
    fits_kept m now s (record t { table = c.put_all.new.self; fill = c.min.result; current = to; spare = from }) sound
    agreed keeps same_blocks
    (λ key has. places_stay now t from to moving c.put_all.new.self puts (p.len known_all room) (p.room known_all room)
    p.bounds.limit p.bounds.lens (p.stays known_all room) key (subst (λ q. HasPlace q key) (sym same_table) has))

pub returns-clause-shown : goal.returns-clause-shown
returns-clause-shown g c told =
    let s = c.args.self.now.state in
    let m = g.F.Flash.medium c.args.self.now.flash in
    let look = g.F.Flash.medium c.clear_spare.new.self.flash in
    let e = c.clear_spare.ensures in
    let sound : IsSoundLayer m s = c.requires.ready.sound told in
    let agreed : IsFalse s.has_rivals = c.requires.agreed in
    let now = g.F.Flash.medium c.copy_needed.new.self.flash in
    let t = c.copy_needed.new.self.state in
    let n = c.copy_needed.ensures in
    let same_blocks : now.blocks ≡ m.blocks = (n.accounts.time told).blocks ∙ (e.accounts.time told).blocks in
    let keeps = keeps_on m look s sound agreed (e.accounts.time told).blocks
    (cleared_keeps m s sound agreed look (e.accounts.time told).blocks (e.does told)) now.state.pages (n.keeps told) in
    shows_same m now s sound agreed keeps same_blocks

pub returns-clause-does : goal.returns-clause-does
returns-clause-does g c told =
    let s = c.args.self.now.state in
    let m = g.F.Flash.medium c.args.self.now.flash in
    let look = g.F.Flash.medium c.clear_spare.new.self.flash in
    let e = c.clear_spare.ensures in
    let sound : IsSoundLayer m s = c.requires.ready.sound told in
    let agreed : IsFalse s.has_rivals = c.requires.agreed in
    let now = g.F.Flash.medium c.copy_needed.new.self.flash in
    let t = c.copy_needed.new.self.state in
    let n = c.copy_needed.ensures in
    let same_blocks : now.blocks ≡ m.blocks = (n.accounts.time told).blocks ∙ (e.accounts.time told).blocks in
    let keeps = keeps_on m look s sound agreed (e.accounts.time told).blocks
    (cleared_keeps m s sound agreed look (e.accounts.time told).blocks (e.does told)) now.state.pages (n.keeps told) in
    let same_table : t.table ≡ s.table = ap (λ (q : LayerState). q.table) n.state
    ∙ ap (λ (q : LayerState). q.table) e.state in
    stands_then m look now (e.accounts.time told) (n.accounts.time told)
    (cleared_stands m s sound agreed look (e.accounts.time told).blocks (e.does told))
    (moved_stands c.clear_spare.new.self.state.table c.args.victim s.spare look now (n.does told))

pub returns-in_err-clear_spare-clause-own : goal.returns-in_err-clear_spare-clause-own
returns-in_err-clear_spare-clause-own g c told = c.clear_spare.ensures.own told

pub returns-in_err-copy_needed-clause-own : goal.returns-in_err-copy_needed-clause-own
returns-in_err-copy_needed-clause-own g c told = c.copy_needed.ensures.own told ∙ c.clear_spare.ensures.own told

pub returns-clause-own : goal.returns-clause-own
returns-clause-own g c told = c.copy_needed.ensures.own told ∙ c.clear_spare.ensures.own told

pub returns-clause-entries : goal.returns-clause-entries
returns-clause-entries g c told =
    let s = c.args.self.now.state in
    let now = g.F.Flash.medium c.copy_needed.new.self.flash in
    let t = c.copy_needed.new.self.state in
    let same_table : t.table ≡ s.table = ap (λ (q : LayerState). q.table) c.copy_needed.ensures.state
    ∙ ap (λ (q : LayerState). q.table) c.clear_spare.ensures.state in
    let from = c.args.victim in
    let to = s.spare in
    let moving : IsMoving now.state.pages now.blocks t from to 64 = c.in_ok-copy_needed.ensures.moving told in
    let p = c.put_all.ensures in
    let items : c.deref.result.now ≡ t.moved.items = c.deref.ensures.value in
    let known_all = subst (All (λ (q : FilePage × Newest). IsSome (known t.table q.0))) (sym items)
    (all_known now t from to moving) in
    let room = moving.sound.knows.led.room in
    let puts = subst (PutsAll t.table c.put_all.new.self) items (p.put known_all room) in
    subst (λ was. SameEntries was c.put_all.new.self) same_table
    (entries_stay now t from to moving c.put_all.new.self puts (p.len known_all room) (p.room known_all room)
    p.bounds.limit
    p.bounds.lens (p.stays known_all room))

pub returns-in_err-copy_needed-clause-accounts : goal.returns-in_err-copy_needed-clause-accounts
returns-in_err-copy_needed-clause-accounts g c =
    accounts_fails c.from_residual-in_err-copy_needed.result _ c.from_residual-in_err-copy_needed.ensures.1
    (accounts_on 0 0 0 (omega arith) (accounts_here refl refl refl refl c.in_ok-clear_spare.ensures.accounts)
    c.in_err-copy_needed.ensures.accounts)

pub returns-clause-accounts : goal.returns-clause-accounts
returns-clause-accounts g c = accounts_here refl refl refl refl
    (accounts_on 0 0 0 (omega arith) (accounts_here refl refl refl refl c.in_ok-clear_spare.ensures.accounts)
    c.in_ok-copy_needed.ensures.accounts)

pub returns-in_err-clear_spare-clause-apart : goal.returns-in_err-clear_spare-clause-apart
returns-in_err-clear_spare-clause-apart g c told copy only own =
    let s = c.args.self.now.state in
    let m = g.F.Flash.medium c.args.self.now.flash in
    let look = g.F.Flash.medium c.clear_spare.new.self.flash in
    let e = c.clear_spare.ensures in
    cleared_apart m s (c.requires.ready.sound told) c.requires.agreed look (e.accounts.time told).blocks (e.does told)
    copy

pub returns-in_err-copy_needed-clause-apart : goal.returns-in_err-copy_needed-clause-apart
returns-in_err-copy_needed-clause-apart g c told copy only own =
    let s = c.args.self.now.state in
    let m = g.F.Flash.medium c.args.self.now.flash in
    let look = g.F.Flash.medium c.clear_spare.new.self.flash in
    let now = g.F.Flash.medium c.copy_needed.new.self.flash in
    let e = c.clear_spare.ensures in
    let n = c.copy_needed.ensures in
    let first = e.accounts.time told in
    apart_then copy m look now first (n.accounts.time told)
    (cleared_apart m s (c.requires.ready.sound told) c.requires.agreed look first.blocks (e.does told) copy)
    (held_apart copy look now only s.spare
    (moved_held s.table c.args.victim s.spare only look now own
    (subst (λ (q : LayerState). Does (StandsMoved q.table c.args.victim s.spare look) look now) e.state (n.does told)))
    (empty_holds look.state.pages s.spare (e.blank told c.in_ok-clear_spare.ensures.cleared) (places look.blocks) only))

pub returns-clause-apart : goal.returns-clause-apart
returns-clause-apart g c told copy only own =
    let s = c.args.self.now.state in
    let m = g.F.Flash.medium c.args.self.now.flash in
    let look = g.F.Flash.medium c.clear_spare.new.self.flash in
    let now = g.F.Flash.medium c.copy_needed.new.self.flash in
    let e = c.clear_spare.ensures in
    let n = c.copy_needed.ensures in
    let first = e.accounts.time told in
    apart_then copy m look now first (n.accounts.time told)
    (cleared_apart m s (c.requires.ready.sound told) c.requires.agreed look first.blocks (e.does told) copy)
    (held_apart copy look now only s.spare
    (moved_held s.table c.args.victim s.spare only look now own
    (subst (λ (q : LayerState). Does (StandsMoved q.table c.args.victim s.spare look) look now) e.state (n.does told)))
    (empty_holds look.state.pages s.spare (e.blank told c.in_ok-clear_spare.ensures.cleared) (places look.blocks) only))

pub returns-clause-home : goal.returns-clause-home
returns-clause-home g c told only own =
    let s = c.args.self.now.state in
    let look = g.F.Flash.medium c.clear_spare.new.self.flash in
    let now = g.F.Flash.medium c.copy_needed.new.self.flash in
    let e = c.clear_spare.ensures in
    let n = c.copy_needed.ensures in
    let moved = subst (λ (q : LayerState). Does (StandsMoved q.table c.args.victim s.spare look) look now) e.state
    (n.does told) in
    subst (λ k. HoldsOneCopy now.state.pages (places k) s.spare only) (sym (n.accounts.time told).blocks)
    (moved.now.held only own s.spare only (λ _. refl)
    (empty_holds look.state.pages s.spare (e.blank told c.in_ok-clear_spare.ensures.cleared) (places look.blocks) only))

pub returns-clause-few : goal.returns-clause-few
returns-clause-few g c told =
    let s = c.args.self.now.state in
    let few = c.copy_needed.ensures.few in
    let same : entries_in c.clear_spare.new.self.state.table c.args.victim ≡ entries_in s.table c.args.victim =
    ap (λ (q : LayerState). entries_in q.table c.args.victim) c.clear_spare.ensures.state in
    let count = c.len.ensures in let least = c.min.ensures in
    omega (arith, few, same, count, least)

pub returns-clause-joins : goal.returns-clause-joins
returns-clause-joins g c told other below apart room =
    let s = c.args.self.now.state in
    let now = g.F.Flash.medium c.copy_needed.new.self.flash in
    let t = c.copy_needed.new.self.state in
    let same_table : t.table ≡ s.table = ap (λ (q : LayerState). q.table) c.copy_needed.ensures.state
    ∙ ap (λ (q : LayerState). q.table) c.clear_spare.ensures.state in
    let from = c.args.victim in
    let moving : IsMoving now.state.pages now.blocks t from s.spare 64 = c.in_ok-copy_needed.ensures.moving told in
    let p = c.put_all.ensures in
    let items : c.deref.result.now ≡ t.moved.items = c.deref.ensures.value in
    let known_all = subst (All (λ (q : FilePage × Newest). IsSome (known t.table q.0))) (sym items)
    (all_known now t from s.spare moving) in
    let had = moving.sound.knows.led.room in
    let puts = subst (PutsAll t.table c.put_all.new.self) items (p.put known_all had) in
    let long = t.moved.ok.0 in let count = c.len.ensures in let least = c.min.ensures in
    let few = returns-clause-few g c told in
    let here : entries_in t.table from ≡ entries_in s.table from = ap (λ (q : Table). entries_in q from) same_table in
    let there : entries_in t.table other ≡ entries_in s.table other =
    ap (λ (q : Table). entries_in q other) same_table in
    let both = joins now t from s.spare moving c.put_all.new.self puts (p.len known_all had) (p.room known_all had)
    p.bounds.limit p.bounds.lens (p.stays known_all had) c.min.result (omega (arith, long, count, least))
    ((returns-clause-ready g c).sound told) (omega (arith, few, here))
    (λ block all. p.no_more block (subst (All (λ (q : FilePage × Newest). q.1.place.block ≢ block)) (sym items) all))
    other below apart (omega (arith, room, here, there)) in (
      both.0,
      subst (λ (q : Table). LeadsFewer q c.put_all.new.self other) same_table both.1,
    )
