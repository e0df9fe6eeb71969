use Rattle.std.proofs.Common.{◌≡◌, ◌+◌, refl, sym, ap, subst, ◌∙◌, arith}
use Rattle.std.specs.Prelude.{Some}
use Rattle.flash_disk.specs.declared.table.FlashPage.{FlashPage}
use Rattle.flash_disk.specs.declared.table.Newest.{Newest}
use Rattle.flash_disk.specs.declared.table.Table.{Table}
use Rattle.flash_disk.specs.declared.layer.LayerState.{LayerState}
use Rattle.flash_disk.specs.Known.{known, HasCapacity, SetsEntry}
use Rattle.flash_disk.specs.Newest.{places}
use Rattle.flash_disk.specs.Does.{Does}
use Rattle.flash_disk.specs.Entries.{SameEntries}
use Rattle.flash_disk.specs.Sound.{IsSoundLayer}
use Rattle.flash_disk.specs.Moving.{IsJoining, LeadsFewer, StandsMoved}
use Rattle.flash_disk.proofs.Entries.{same_entries}
use Rattle.flash_disk.proofs.Emptying.{put_sets}
use Rattle.flash_disk.proofs.Moving.{differ, same_places, found_same, found_there, look_keeps, keeps_since, look_moved}
use Rattle.flash_disk.proofs.Moving.{moved_then, on_err}
use Rattle.flash_disk.proofs.Joins.{look_joining, added_none, room, within_now, blank_now, add_failed_keeps}
use Rattle.flash_disk.proofs.Joins.{add_failed_sound, add_keeps, add_does, added_fewer, added_one, fewer_refl}
use Rattle.flash_disk.specs.Counted.{entries_in, had_in, leads_into, IsInside, IsCountedTable}
use Rattle.flash_disk.proofs.Joins.{Puts, set_entries, put_done}
use Rattle.flash_disk.proofs.Accounting.{accounts_fails, accounts_here, accounts_on}
use Rattle.flash_disk.proofs.layer.Layer.add_one.Goals as goal

pub returns-in_err-read_page-clause-keeps : goal.returns-in_err-read_page-clause-keeps
returns-in_err-read_page-clause-keeps g c told =
    let m = g.F.Flash.medium c.args.self.now.flash in
    let look = g.F.Flash.medium c.read_page.new.self.flash in
    let e = c.read_page.ensures.reads.only in
    let s = c.read_page.new.self.state in
    let from = c.args.from in
    look_keeps m look (e.looks.state told) e.blocks

pub returns-in_err-read_page-clause-does : goal.returns-in_err-read_page-clause-does
returns-in_err-read_page-clause-does g c told =
    let m = g.F.Flash.medium c.args.self.now.flash in
    let look = g.F.Flash.medium c.read_page.new.self.flash in
    let e = c.read_page.ensures.reads.only in
    let s = c.read_page.new.self.state in
    let from = c.args.from in
    look_moved m look (e.looks.state told) e.blocks c.args.self.now.state.table from.block
    c.args.self.now.state.current c.read_page.ensures.during c.args.self.now.state (c.requires.joining told).sound

pub returns-in_err-read_page-clause-fewer : goal.returns-in_err-read_page-clause-fewer
returns-in_err-read_page-clause-fewer g c told =
    subst (λ (q : LayerState). LeadsFewer c.args.self.now.state.table q.table c.args.from.block)
    (sym c.read_page.ensures.reads.state) (fewer_refl c.args.self.now.state.table c.args.from.block)

pub returns-in_err-read_page-clause-entries : goal.returns-in_err-read_page-clause-entries
returns-in_err-read_page-clause-entries g c told =
    subst (λ (q : LayerState). SameEntries c.args.self.now.state.table q.table) (sym c.read_page.ensures.reads.state)
    (same_entries c.args.self.now.state.table)

pub returns-in_err-read_page-clause-state : goal.returns-in_err-read_page-clause-state
returns-in_err-read_page-clause-state g c =
    let s = c.read_page.new.self.state in
    subst (λ (q : LayerState). s ≡ record q { table = s.table; fill = s.fill }) c.read_page.ensures.reads.state refl

pub returns-in_default-clause-keeps : goal.returns-in_default-clause-keeps
returns-in_default-clause-keeps g c told =
    let m = g.F.Flash.medium c.args.self.now.flash in
    let look = g.F.Flash.medium c.read_page.new.self.flash in
    let e = c.read_page.ensures.reads.only in
    let s = c.read_page.new.self.state in
    let from = c.args.from in
    look_keeps m look (e.looks.state told) e.blocks

pub returns-in_default-clause-does : goal.returns-in_default-clause-does
returns-in_default-clause-does g c told =
    let m = g.F.Flash.medium c.args.self.now.flash in
    let look = g.F.Flash.medium c.read_page.new.self.flash in
    let e = c.read_page.ensures.reads.only in
    let s = c.read_page.new.self.state in
    let from = c.args.from in
    look_moved m look (e.looks.state told) e.blocks c.args.self.now.state.table from.block
    c.args.self.now.state.current c.read_page.ensures.during c.args.self.now.state (c.requires.joining told).sound

pub returns-in_default-clause-fewer : goal.returns-in_default-clause-fewer
returns-in_default-clause-fewer g c told =
    subst (λ (q : LayerState). LeadsFewer c.args.self.now.state.table q.table c.args.from.block)
    (sym c.read_page.ensures.reads.state) (fewer_refl c.args.self.now.state.table c.args.from.block)

pub returns-in_default-clause-entries : goal.returns-in_default-clause-entries
returns-in_default-clause-entries g c told =
    subst (λ (q : LayerState). SameEntries c.args.self.now.state.table q.table) (sym c.read_page.ensures.reads.state)
    (same_entries c.args.self.now.state.table)

pub returns-in_default-clause-state : goal.returns-in_default-clause-state
returns-in_default-clause-state g c =
    let s = c.read_page.new.self.state in
    subst (λ (q : LayerState). s ≡ record q { table = s.table; fill = s.fill }) c.read_page.ensures.reads.state refl

pub returns-then-ne-clause-keeps : goal.returns-then-ne-clause-keeps
returns-then-ne-clause-keeps g c told =
    let m = g.F.Flash.medium c.args.self.now.flash in
    let look = g.F.Flash.medium c.read_page.new.self.flash in
    let e = c.read_page.ensures.reads.only in
    let s = c.read_page.new.self.state in
    let from = c.args.from in
    look_keeps m look (e.looks.state told) e.blocks

pub returns-then-ne-clause-does : goal.returns-then-ne-clause-does
returns-then-ne-clause-does g c told =
    let m = g.F.Flash.medium c.args.self.now.flash in
    let look = g.F.Flash.medium c.read_page.new.self.flash in
    let e = c.read_page.ensures.reads.only in
    let s = c.read_page.new.self.state in
    let from = c.args.from in
    look_moved m look (e.looks.state told) e.blocks c.args.self.now.state.table from.block
    c.args.self.now.state.current c.read_page.ensures.during c.args.self.now.state (c.requires.joining told).sound

pub returns-then-ne-clause-fewer : goal.returns-then-ne-clause-fewer
returns-then-ne-clause-fewer g c told =
    subst (λ (q : LayerState). LeadsFewer c.args.self.now.state.table q.table c.args.from.block)
    (sym c.read_page.ensures.reads.state) (fewer_refl c.args.self.now.state.table c.args.from.block)

pub returns-then-ne-clause-entries : goal.returns-then-ne-clause-entries
returns-then-ne-clause-entries g c told =
    subst (λ (q : LayerState). SameEntries c.args.self.now.state.table q.table) (sym c.read_page.ensures.reads.state)
    (same_entries c.args.self.now.state.table)

pub returns-then-ne-clause-state : goal.returns-then-ne-clause-state
returns-then-ne-clause-state g c =
    let s = c.read_page.new.self.state in
    subst (λ (q : LayerState). s ≡ record q { table = s.table; fill = s.fill }) c.read_page.ensures.reads.state refl

pub returns-in_default-clause-joining : goal.returns-in_default-clause-joining
returns-in_default-clause-joining g c told =
    let m = g.F.Flash.medium c.args.self.now.flash in
    let look = g.F.Flash.medium c.read_page.new.self.flash in
    let e = c.read_page.ensures.reads.only in
    let s = c.read_page.new.self.state in
    let from = c.args.from in
    let start = c.requires.joining told in
    let joining : IsJoining look.state.pages look.blocks s from.block from.page =
    look_joining m look (e.looks.state told) e.blocks c.args.self.now.state s c.read_page.ensures.reads.state from.block
    from.page start in
    let read = c.in_ok-read_page.ensures.bytes told start.within c.requires.page
    ∙ ap (λ z. z.pages from.block from.page) (sym (e.looks.state told)) in
    added_none look s from.block from.page joining c.requires.page c.read_page.new.out read
    (λ key entry is block page. c.in_default.not-Some (key, entry)
    (found_there look s joining.sound from.block from.page c.requires.page c.read_page.new.out read
    c.newest_in.result c.newest_in.ensures.found key entry is block page))

pub returns-then-ne-clause-joining : goal.returns-then-ne-clause-joining
returns-then-ne-clause-joining g c told =
    let m = g.F.Flash.medium c.args.self.now.flash in
    let look = g.F.Flash.medium c.read_page.new.self.flash in
    let e = c.read_page.ensures.reads.only in
    let s = c.read_page.new.self.state in
    let from = c.args.from in
    let start = c.requires.joining told in
    let joining : IsJoining look.state.pages look.blocks s from.block from.page =
    look_joining m look (e.looks.state told) e.blocks c.args.self.now.state s c.read_page.ensures.reads.state from.block
    from.page start in
    let read = c.in_ok-read_page.ensures.bytes told start.within c.requires.page
    ∙ ap (λ z. z.pages from.block from.page) (sym (e.looks.state told)) in
    added_none look s from.block from.page joining c.requires.page c.read_page.new.out read
    (λ key entry is block page.
    (let found = found_there look s joining.sound from.block from.page c.requires.page c.read_page.new.out read
    c.newest_in.result c.newest_in.ensures.found key entry is block page in
    let same : c.in-Some.old ≡ entry = (found_same c.newest_in.result c.in-Some.key key c.in-Some.old entry c.in-Some.is
    found).1 in
    differ c.in-Some.old.place.block from.block c.in-Some.old.place.page from.page c.ne.result c.ne.ensures
    c.if-ne.true (ap (λ (q : Newest). q.place.block) same ∙ block) (ap (λ (q : Newest). q.place.page) same ∙ page)))

pub program_page-requires-clause-within : goal.program_page-requires-clause-within
program_page-requires-clause-within g c told =
    let m = g.F.Flash.medium c.args.self.now.flash in
    let look = g.F.Flash.medium c.read_page.new.self.flash in
    let e = c.read_page.ensures.reads.only in
    let s = c.read_page.new.self.state in
    let from = c.args.from in
    let start = c.requires.joining told in
    let joining : IsJoining look.state.pages look.blocks s from.block from.page =
    look_joining m look (e.looks.state told) e.blocks c.args.self.now.state s c.read_page.ensures.reads.state from.block
    from.page start in
    let read = c.in_ok-read_page.ensures.bytes told start.within c.requires.page
    ∙ ap (λ z. z.pages from.block from.page) (sym (e.looks.state told)) in
    let key = c.in-Some.key in
    let old = c.in-Some.old in
    let is : known s.table key ≡ Some old = c.in-Some.ensures.known in
    let at = same_places old.place.block from.block old.place.page from.page c.ne.result c.ne.ensures c.if-ne.false in (
      within_now look s from.block from.page joining c.requires.page c.read_page.new.out read key old is at.0 at.1,
      room look s from.block from.page joining c.requires.page c.read_page.new.out read key old is at.0 at.1,
    )

pub program_page-requires-clause-blank : goal.program_page-requires-clause-blank
program_page-requires-clause-blank g c told =
    let m = g.F.Flash.medium c.args.self.now.flash in
    let look = g.F.Flash.medium c.read_page.new.self.flash in
    let e = c.read_page.ensures.reads.only in
    let s = c.read_page.new.self.state in
    let from = c.args.from in
    let start = c.requires.joining told in
    let joining : IsJoining look.state.pages look.blocks s from.block from.page =
    look_joining m look (e.looks.state told) e.blocks c.args.self.now.state s c.read_page.ensures.reads.state from.block
    from.page start in
    let read = c.in_ok-read_page.ensures.bytes told start.within c.requires.page
    ∙ ap (λ z. z.pages from.block from.page) (sym (e.looks.state told)) in
    let key = c.in-Some.key in
    let old = c.in-Some.old in
    let is : known s.table key ≡ Some old = c.in-Some.ensures.known in
    let at = same_places old.place.block from.block old.place.page from.page c.ne.result c.ne.ensures c.if-ne.false in
    blank_now look s from.block from.page joining c.requires.page c.read_page.new.out read key old is at.0 at.1

pub returns-in_err-program_page-clause-keeps : goal.returns-in_err-program_page-clause-keeps
returns-in_err-program_page-clause-keeps g c told =
    let m = g.F.Flash.medium c.args.self.now.flash in
    let look = g.F.Flash.medium c.read_page.new.self.flash in
    let e = c.read_page.ensures.reads.only in
    let s = c.read_page.new.self.state in
    let from = c.args.from in
    let start = c.requires.joining told in
    let joining : IsJoining look.state.pages look.blocks s from.block from.page =
    look_joining m look (e.looks.state told) e.blocks c.args.self.now.state s c.read_page.ensures.reads.state from.block
    from.page start in
    let read = c.in_ok-read_page.ensures.bytes told start.within c.requires.page
    ∙ ap (λ z. z.pages from.block from.page) (sym (e.looks.state told)) in
    let key = c.in-Some.key in
    let old = c.in-Some.old in
    let is : known s.table key ≡ Some old = c.in-Some.ensures.known in
    let at = same_places old.place.block from.block old.place.page from.page c.ne.result c.ne.ensures c.if-ne.false in
    let now = g.F.Flash.medium c.program_page.new.self.flash in
    let p = c.program_page.ensures in
    keeps_since m look (e.looks.state told) e.blocks now.state.pages
    (add_failed_keeps look s from.block from.page joining c.requires.page c.read_page.new.out read key old is at.0 at.1
    now (c.in_err-program_page.ensures.failed told))

pub returns-in_err-program_page-clause-failed : goal.returns-in_err-program_page-clause-failed
returns-in_err-program_page-clause-failed g c told =
    let m = g.F.Flash.medium c.args.self.now.flash in
    let look = g.F.Flash.medium c.read_page.new.self.flash in
    let e = c.read_page.ensures.reads.only in
    let s = c.read_page.new.self.state in
    let from = c.args.from in
    let start = c.requires.joining told in
    let joining : IsJoining look.state.pages look.blocks s from.block from.page =
    look_joining m look (e.looks.state told) e.blocks c.args.self.now.state s c.read_page.ensures.reads.state from.block
    from.page start in
    let read = c.in_ok-read_page.ensures.bytes told start.within c.requires.page
    ∙ ap (λ z. z.pages from.block from.page) (sym (e.looks.state told)) in
    let key = c.in-Some.key in
    let old = c.in-Some.old in
    let is : known s.table key ≡ Some old = c.in-Some.ensures.known in
    let at = same_places old.place.block from.block old.place.page from.page c.ne.result c.ne.ensures c.if-ne.false in
    let now = g.F.Flash.medium c.program_page.new.self.flash in
    let p = c.program_page.ensures in
    on_err c.from_residual-in_err-program_page.result (subst (IsSoundLayer now) (sym p.state)
    (add_failed_sound look s from.block from.page joining c.requires.page c.read_page.new.out read key old is at.0 at.1
    now (c.in_err-program_page.ensures.failed told) (p.accounts.time told).blocks))

pub returns-in_err-program_page-clause-does : goal.returns-in_err-program_page-clause-does
returns-in_err-program_page-clause-does g c told =
    let m = g.F.Flash.medium c.args.self.now.flash in
    let look = g.F.Flash.medium c.read_page.new.self.flash in
    let e = c.read_page.ensures.reads.only in
    let s = c.read_page.new.self.state in
    let from = c.args.from in
    let start = c.requires.joining told in
    let joining : IsJoining look.state.pages look.blocks s from.block from.page =
    look_joining m look (e.looks.state told) e.blocks c.args.self.now.state s c.read_page.ensures.reads.state from.block
    from.page start in
    let read = c.in_ok-read_page.ensures.bytes told start.within c.requires.page
    ∙ ap (λ z. z.pages from.block from.page) (sym (e.looks.state told)) in
    let key = c.in-Some.key in
    let old = c.in-Some.old in
    let is : known s.table key ≡ Some old = c.in-Some.ensures.known in
    let at = same_places old.place.block from.block old.place.page from.page c.ne.result c.ne.ensures c.if-ne.false in
    let now = g.F.Flash.medium c.program_page.new.self.flash in
    let p = c.program_page.ensures in
    moved_then c.args.self.now.state.table from.block c.args.self.now.state.current m look now (e.looks.time told)
    (p.accounts.time told)
    (look_moved m look (e.looks.state told) e.blocks c.args.self.now.state.table from.block
    c.args.self.now.state.current c.read_page.ensures.during c.args.self.now.state start.sound)
    (subst (λ (q : LayerState). Does (StandsMoved q.table from.block q.current look) look now)
    c.read_page.ensures.reads.state
    (add_does look s from.block from.page joining c.requires.page c.read_page.new.out read key old is at.0 at.1
    now c.program_page.result (p.done told) (p.failed told) (p.during told)))

pub returns-in_err-program_page-clause-fewer : goal.returns-in_err-program_page-clause-fewer
returns-in_err-program_page-clause-fewer g c told =
    subst (λ (q : LayerState). LeadsFewer c.args.self.now.state.table q.table c.args.from.block)
    (sym (c.program_page.ensures.state ∙ ap (λ (q : LayerState). let z : LayerState = record q { fill = 64 } in z)
    c.read_page.ensures.reads.state)) (fewer_refl c.args.self.now.state.table c.args.from.block)

pub returns-in_err-program_page-clause-entries : goal.returns-in_err-program_page-clause-entries
returns-in_err-program_page-clause-entries g c told =
    subst (λ (q : LayerState). SameEntries c.args.self.now.state.table q.table)
    (sym (c.program_page.ensures.state ∙ ap (λ (q : LayerState). let z : LayerState = record q { fill = 64 } in z)
    c.read_page.ensures.reads.state)) (same_entries c.args.self.now.state.table)

pub returns-in_err-program_page-clause-state : goal.returns-in_err-program_page-clause-state
returns-in_err-program_page-clause-state g c =
    let u = c.program_page.new.self.state in
    let same : u ≡ record c.args.self.now.state { fill = 64 } = c.program_page.ensures.state
    ∙ ap (λ (q : LayerState). let z : LayerState = record q { fill = 64 } in z) c.read_page.ensures.reads.state in
    subst (λ (q : LayerState). u ≡ record q { table = u.table; fill = u.fill }) same refl

pub returns-in_err-program_page-clause-own : goal.returns-in_err-program_page-clause-own
returns-in_err-program_page-clause-own g c told =
    c.program_page.ensures.own told ∙ c.read_page.ensures.reads.only.own

pub returns-in_err-program_page-clause-accounts : goal.returns-in_err-program_page-clause-accounts
returns-in_err-program_page-clause-accounts g c =
    accounts_fails c.from_residual-in_err-program_page.result _ c.from_residual-in_err-program_page.ensures.1
    (accounts_on 0 0 0 (omega arith) (accounts_here refl refl refl refl c.in_ok-read_page.ensures.reads.accounts)
    c.in_err-program_page.ensures.accounts)

pub returns-clause-keeps : goal.returns-clause-keeps
returns-clause-keeps g c told =
    let m = g.F.Flash.medium c.args.self.now.flash in
    let look = g.F.Flash.medium c.read_page.new.self.flash in
    let e = c.read_page.ensures.reads.only in
    let s = c.read_page.new.self.state in
    let from = c.args.from in
    let start = c.requires.joining told in
    let joining : IsJoining look.state.pages look.blocks s from.block from.page =
    look_joining m look (e.looks.state told) e.blocks c.args.self.now.state s c.read_page.ensures.reads.state from.block
    from.page start in
    let read = c.in_ok-read_page.ensures.bytes told start.within c.requires.page
    ∙ ap (λ z. z.pages from.block from.page) (sym (e.looks.state told)) in
    let key = c.in-Some.key in
    let old = c.in-Some.old in
    let is : known s.table key ≡ Some old = c.in-Some.ensures.known in
    let at = same_places old.place.block from.block old.place.page from.page c.ne.result c.ne.ensures c.if-ne.false in
    let now = g.F.Flash.medium c.program_page.new.self.flash in
    let p = c.program_page.ensures in
    keeps_since m look (e.looks.state told) e.blocks now.state.pages
    (add_keeps look s from.block from.page joining c.requires.page c.read_page.new.out read key old is at.0 at.1
    now (c.in_ok-program_page.ensures.done told))

pub returns-clause-does : goal.returns-clause-does
returns-clause-does g c told =
    let m = g.F.Flash.medium c.args.self.now.flash in
    let look = g.F.Flash.medium c.read_page.new.self.flash in
    let e = c.read_page.ensures.reads.only in
    let s = c.read_page.new.self.state in
    let from = c.args.from in
    let start = c.requires.joining told in
    let joining : IsJoining look.state.pages look.blocks s from.block from.page =
    look_joining m look (e.looks.state told) e.blocks c.args.self.now.state s c.read_page.ensures.reads.state from.block
    from.page start in
    let read = c.in_ok-read_page.ensures.bytes told start.within c.requires.page
    ∙ ap (λ z. z.pages from.block from.page) (sym (e.looks.state told)) in
    let key = c.in-Some.key in
    let old = c.in-Some.old in
    let is : known s.table key ≡ Some old = c.in-Some.ensures.known in
    let at = same_places old.place.block from.block old.place.page from.page c.ne.result c.ne.ensures c.if-ne.false in
    let now = g.F.Flash.medium c.program_page.new.self.flash in
    let p = c.program_page.ensures in
    moved_then c.args.self.now.state.table from.block c.args.self.now.state.current m look now (e.looks.time told)
    (p.accounts.time told)
    (look_moved m look (e.looks.state told) e.blocks c.args.self.now.state.table from.block
    c.args.self.now.state.current c.read_page.ensures.during c.args.self.now.state start.sound)
    (subst (λ (q : LayerState). Does (StandsMoved q.table from.block q.current look) look now)
    c.read_page.ensures.reads.state
    (add_does look s from.block from.page joining c.requires.page c.read_page.new.out read key old is at.0 at.1
    now c.program_page.result (p.done told) (p.failed told) (p.during told)))

pub returns-clause-fewer : goal.returns-clause-fewer
returns-clause-fewer g c told =
    let m = g.F.Flash.medium c.args.self.now.flash in
    let look = g.F.Flash.medium c.read_page.new.self.flash in
    let e = c.read_page.ensures.reads.only in
    let s = c.read_page.new.self.state in
    let from = c.args.from in
    let start = c.requires.joining told in
    let joining : IsJoining look.state.pages look.blocks s from.block from.page =
    look_joining m look (e.looks.state told) e.blocks c.args.self.now.state s c.read_page.ensures.reads.state from.block
    from.page start in
    let read = c.in_ok-read_page.ensures.bytes told start.within c.requires.page
    ∙ ap (λ z. z.pages from.block from.page) (sym (e.looks.state told)) in
    let key = c.in-Some.key in
    let old = c.in-Some.old in
    let is : known s.table key ≡ Some old = c.in-Some.ensures.known in
    let at = same_places old.place.block from.block old.place.page from.page c.ne.result c.ne.ensures c.if-ne.false in
    let now = g.F.Flash.medium c.program_page.new.self.flash in
    let p = c.program_page.ensures in
    let u = c.program_page.new.self.state in
    let table = c.put.new.self in
    let place : FlashPage = record { block = s.current; page = s.fill } in
    let sets : SetsEntry s.table table key (record old { place = place }) =
    put_sets s.table table key old (record old { place = place }) c.put.result joining.sound.knows.led.room is
    (subst (λ (q : LayerState). Puts q.table table key (record old { place = place }) c.put.result) p.state
    (c.put.ensures.full, c.put.ensures.put)).0
    (subst (λ (q : LayerState). Puts q.table table key (record old { place = place }) c.put.result) p.state
    (c.put.ensures.full, c.put.ensures.put)).1 in
    subst (λ (q : LayerState). LeadsFewer q.table table from.block) c.read_page.ensures.reads.state
    (added_fewer look s from.block from.page joining c.requires.page c.read_page.new.out read key old is at.0 at.1
    table sets)

pub returns-clause-entries : goal.returns-clause-entries
returns-clause-entries g c told =
    let m = g.F.Flash.medium c.args.self.now.flash in
    let look = g.F.Flash.medium c.read_page.new.self.flash in
    let e = c.read_page.ensures.reads.only in
    let s = c.read_page.new.self.state in
    let from = c.args.from in
    let start = c.requires.joining told in
    let joining : IsJoining look.state.pages look.blocks s from.block from.page =
    look_joining m look (e.looks.state told) e.blocks c.args.self.now.state s c.read_page.ensures.reads.state from.block
    from.page start in
    let read = c.in_ok-read_page.ensures.bytes told start.within c.requires.page
    ∙ ap (λ z. z.pages from.block from.page) (sym (e.looks.state told)) in
    let key = c.in-Some.key in
    let old = c.in-Some.old in
    let is : known s.table key ≡ Some old = c.in-Some.ensures.known in
    let at = same_places old.place.block from.block old.place.page from.page c.ne.result c.ne.ensures c.if-ne.false in
    let now = g.F.Flash.medium c.program_page.new.self.flash in
    let p = c.program_page.ensures in
    let u = c.program_page.new.self.state in
    let table = c.put.new.self in
    let place : FlashPage = record { block = s.current; page = s.fill } in
    let sets : SetsEntry s.table table key (record old { place = place }) =
    put_sets s.table table key old (record old { place = place }) c.put.result joining.sound.knows.led.room is
    (subst (λ (q : LayerState). Puts q.table table key (record old { place = place }) c.put.result) p.state
    (c.put.ensures.full, c.put.ensures.put)).0
    (subst (λ (q : LayerState). Puts q.table table key (record old { place = place }) c.put.result) p.state
    (c.put.ensures.full, c.put.ensures.put)).1 in
    subst (λ (q : LayerState). SameEntries q.table table) c.read_page.ensures.reads.state
    (set_entries s.table table key old (record old { place = place }) is sets
    (c.put.ensures.bounds.limit ∙ ap (λ (q : LayerState). q.table.limit) p.state))

pub returns-clause-joining : goal.returns-clause-joining
returns-clause-joining g c told =
    let m = g.F.Flash.medium c.args.self.now.flash in
    let look = g.F.Flash.medium c.read_page.new.self.flash in
    let e = c.read_page.ensures.reads.only in
    let s = c.read_page.new.self.state in
    let from = c.args.from in
    let start = c.requires.joining told in
    let joining : IsJoining look.state.pages look.blocks s from.block from.page =
    look_joining m look (e.looks.state told) e.blocks c.args.self.now.state s c.read_page.ensures.reads.state from.block
    from.page start in
    let read = c.in_ok-read_page.ensures.bytes told start.within c.requires.page
    ∙ ap (λ z. z.pages from.block from.page) (sym (e.looks.state told)) in
    let key = c.in-Some.key in
    let old = c.in-Some.old in
    let is : known s.table key ≡ Some old = c.in-Some.ensures.known in
    let at = same_places old.place.block from.block old.place.page from.page c.ne.result c.ne.ensures c.if-ne.false in
    let now = g.F.Flash.medium c.program_page.new.self.flash in
    let p = c.program_page.ensures in
    let u = c.program_page.new.self.state in
    let table = c.put.new.self in
    let place : FlashPage = record { block = s.current; page = s.fill } in
    let sets : SetsEntry s.table table key (record old { place = place }) =
    put_sets s.table table key old (record old { place = place }) c.put.result joining.sound.knows.led.room is
    (subst (λ (q : LayerState). Puts q.table table key (record old { place = place }) c.put.result) p.state
    (c.put.ensures.full, c.put.ensures.put)).0
    (subst (λ (q : LayerState). Puts q.table table key (record old { place = place }) c.put.result) p.state
    (c.put.ensures.full, c.put.ensures.put)).1 in
    let t : LayerState = record u { table = table; fill = c.saturating_add-self.result } in
    let state : t ≡ record s { table = table; fill = c.saturating_add-self.result } = ap (λ (q : LayerState).
    let z : LayerState = record q { table = table; fill = c.saturating_add-self.result } in z) p.state in
    let few = room look s from.block from.page joining c.requires.page c.read_page.new.out read key old is at.0 at.1 in
    added_one look s from.block from.page joining c.requires.page c.read_page.new.out read key old is at.0 at.1
    table sets now (c.in_ok-program_page.ensures.done told) (p.accounts.time told).blocks
    (λ k entry found block page. (let up = found_there look s joining.sound from.block from.page c.requires.page
    c.read_page.new.out read c.newest_in.result c.newest_in.ensures.found k entry found block page in
    (found_same c.newest_in.result key k old entry c.in-Some.is up).0))
    (c.put.ensures.bounds.limit ∙ ap (λ (q : LayerState). q.table.limit) p.state)
    (c.put.ensures.bounds.lens ∙ ap (λ (q : LayerState). q.table.lens) p.state)
    (subst (λ (q : LayerState). IsCountedTable look.blocks q.table
    → IsInside look.blocks (record old { place = place }) → IsCountedTable look.blocks table) p.state
    (c.put.ensures.counted look.blocks))
    (subst (λ (q : LayerState). entries_in table from.block + had_in from.block (known q.table key)
    ≡ entries_in q.table from.block + leads_into from.block (record old { place = place })) p.state
    (c.put.ensures.counts (put_done u.table table key old c.put.result
    (subst (λ (q : LayerState). HasCapacity q.table) (sym p.state) joining.sound.knows.led.room)
    (subst (λ (q : LayerState). known q.table key ≡ Some old) (sym p.state) is) c.put.ensures.full) from.block))
    c.saturating_add-self.result (let sum = c.saturating_add-self.ensures in omega (arith, sum, few)) t state

pub returns-clause-state : goal.returns-clause-state
returns-clause-state g c =
    let table = c.put.new.self in
    let fill = c.saturating_add-self.result in
    ap (λ (q : LayerState). let z : LayerState = record q { table = table; fill = fill } in z)
    (c.program_page.ensures.state ∙ ap (λ (q : LayerState). let z : LayerState = record q { fill = 64 } in z)
    c.read_page.ensures.reads.state)

pub returns-clause-own : goal.returns-clause-own
returns-clause-own g c told =
    c.program_page.ensures.own told ∙ c.read_page.ensures.reads.only.own

pub returns-clause-accounts : goal.returns-clause-accounts
returns-clause-accounts g c =
    accounts_here refl refl refl refl
    (accounts_on 0 0 0 (omega arith) (accounts_here refl refl refl refl c.in_ok-read_page.ensures.reads.accounts)
    c.in_ok-program_page.ensures.accounts)
