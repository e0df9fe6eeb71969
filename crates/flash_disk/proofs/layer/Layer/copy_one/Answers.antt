use Rattle.std.proofs.Common.{arith, ◌≡◌, ◌++◌, ◌∷◌, [], length, cond, true, Some, sym, ap, subst, refl, ◌∙◌}
use Rattle.std.specs.Prelude.{is_ok, not, vec_len, vec_capacity}
use Rattle.flash_disk.proofs.Spreading.{few_same, few_more, of_err}
use Rattle.flash_disk.specs.declared.table.FlashPage.{FlashPage}
use Rattle.flash_disk.specs.declared.table.FilePage.{FilePage}
use Rattle.flash_disk.specs.declared.table.Newest.{Newest}
use Rattle.flash_disk.specs.declared.layer.LayerState.{LayerState}
use Rattle.flash_disk.specs.Known.{known}
use Rattle.flash_disk.specs.Newest.{places}
use Rattle.flash_disk.specs.Does.{Does}
use Rattle.flash_disk.specs.Standing.{KeepsRecords}
use Rattle.flash_disk.specs.Sound.{IsSoundLayer}
use Rattle.flash_disk.proofs.Entering.{as_said}
use Rattle.flash_disk.specs.Moving.{IsMoving, StandsMoved}
use Rattle.flash_disk.proofs.Moving.{differ, same_places, found_same, on_err, moved_then, looked_up, passed_over}
use Rattle.flash_disk.proofs.Moving.{copy_failed_keeps, copy_failed_sound, copy_keeps_all, copy_sound, copy_does}
use Rattle.flash_disk.proofs.Moving.{copied, looked, look_keeps, keeps_since, look_moved}
use Rattle.flash_disk.proofs.Accounting.{accounts_fails, accounts_here, accounts_on}
use Rattle.flash_disk.proofs.layer.Layer.copy_one.Goals as goal

pub returns-in_err-read_page-clause-keeps : goal.returns-in_err-read_page-clause-keeps
returns-in_err-read_page-clause-keeps g c told =
    let m = g.F.Flash.medium c.args.self.now.flash in
    let look = g.F.Flash.medium c.read_page.new.self.flash in
    let e = c.read_page.ensures.reads.only in
    look_keeps m look (e.looks.state told) e.blocks

pub returns-in_err-read_page-clause-does : goal.returns-in_err-read_page-clause-does
returns-in_err-read_page-clause-does g c told =
    let m = g.F.Flash.medium c.args.self.now.flash in
    let look = g.F.Flash.medium c.read_page.new.self.flash in
    let e = c.read_page.ensures.reads.only in
    look_moved m look (e.looks.state told) e.blocks c.args.self.now.state.table c.args.from.block c.args.to
    c.read_page.ensures.during c.args.self.now.state
    (c.requires.moving told).sound

pub returns-in_default-clause-keeps : goal.returns-in_default-clause-keeps
returns-in_default-clause-keeps g c told =
    let m = g.F.Flash.medium c.args.self.now.flash in
    let look = g.F.Flash.medium c.read_page.new.self.flash in
    let e = c.read_page.ensures.reads.only in
    look_keeps m look (e.looks.state told) e.blocks

pub returns-in_default-clause-does : goal.returns-in_default-clause-does
returns-in_default-clause-does g c told =
    let m = g.F.Flash.medium c.args.self.now.flash in
    let look = g.F.Flash.medium c.read_page.new.self.flash in
    let e = c.read_page.ensures.reads.only in
    look_moved m look (e.looks.state told) e.blocks c.args.self.now.state.table c.args.from.block c.args.to
    c.read_page.ensures.during c.args.self.now.state
    (c.requires.moving told).sound

pub returns-then-ne-clause-keeps : goal.returns-then-ne-clause-keeps
returns-then-ne-clause-keeps g c told =
    let m = g.F.Flash.medium c.args.self.now.flash in
    let look = g.F.Flash.medium c.read_page.new.self.flash in
    let e = c.read_page.ensures.reads.only in
    look_keeps m look (e.looks.state told) e.blocks

pub returns-then-ne-clause-does : goal.returns-then-ne-clause-does
returns-then-ne-clause-does g c told =
    let m = g.F.Flash.medium c.args.self.now.flash in
    let look = g.F.Flash.medium c.read_page.new.self.flash in
    let e = c.read_page.ensures.reads.only in
    look_moved m look (e.looks.state told) e.blocks c.args.self.now.state.table c.args.from.block c.args.to
    c.read_page.ensures.during c.args.self.now.state
    (c.requires.moving told).sound

pub returns-in_default-clause-moving : goal.returns-in_default-clause-moving
returns-in_default-clause-moving g c told =
    let m = g.F.Flash.medium c.args.self.now.flash in
    let look = g.F.Flash.medium c.read_page.new.self.flash in
    let e = c.read_page.ensures.reads.only in
    let s = c.read_page.new.self.state in
    let moving : IsMoving look.state.pages look.blocks s c.args.from.block c.args.to c.args.from.page =
    looked m look (e.looks.state told) e.blocks c.args.self.now.state s c.read_page.ensures.reads.state
    c.args.from.block c.args.to
    c.args.from.page (c.requires.moving told) in
    let read = c.in_ok-read_page.ensures.bytes told (c.requires.moving told).within c.requires.page
    ∙ ap (λ z. z.pages c.args.from.block c.args.from.page) (sym (e.looks.state told)) in
    passed_over look s c.args.from.block c.args.to c.args.from.page moving c.requires.page c.read_page.new.out read
    (λ key entry is block page. c.in_default.not-Some (key, entry)
    (looked_up look s c.args.from.block c.args.to c.args.from.page moving c.requires.page c.read_page.new.out read
    c.newest_in.result c.newest_in.ensures.found key entry is block page))

pub returns-then-ne-clause-moving : goal.returns-then-ne-clause-moving
returns-then-ne-clause-moving g c told =
    let m = g.F.Flash.medium c.args.self.now.flash in
    let look = g.F.Flash.medium c.read_page.new.self.flash in
    let e = c.read_page.ensures.reads.only in
    let s = c.read_page.new.self.state in
    let moving : IsMoving look.state.pages look.blocks s c.args.from.block c.args.to c.args.from.page =
    looked m look (e.looks.state told) e.blocks c.args.self.now.state s c.read_page.ensures.reads.state
    c.args.from.block c.args.to
    c.args.from.page (c.requires.moving told) in
    let read = c.in_ok-read_page.ensures.bytes told (c.requires.moving told).within c.requires.page
    ∙ ap (λ z. z.pages c.args.from.block c.args.from.page) (sym (e.looks.state told)) in
    passed_over look s c.args.from.block c.args.to c.args.from.page moving c.requires.page c.read_page.new.out read
    (λ key entry is block page. let found = looked_up look s c.args.from.block c.args.to c.args.from.page moving
    c.requires.page c.read_page.new.out read
    c.newest_in.result c.newest_in.ensures.found key entry is block page in
    let same : c.in-Some.old ≡ entry = (found_same c.newest_in.result c.in-Some.key key c.in-Some.old entry c.in-Some.is
    found).1 in
    differ c.in-Some.old.place.block c.args.from.block c.in-Some.old.place.page c.args.from.page c.ne.result
    c.ne.ensures c.if-ne.true
    (ap (λ (q : Newest). q.place.block) same ∙ block) (ap (λ (q : Newest). q.place.page) same ∙ page))

pub returns-in_err-program_page-clause-keeps : goal.returns-in_err-program_page-clause-keeps
returns-in_err-program_page-clause-keeps g c told =
    let m = g.F.Flash.medium c.args.self.now.flash in
    let look = g.F.Flash.medium c.read_page.new.self.flash in
    let e = c.read_page.ensures.reads.only in
    let s = c.read_page.new.self.state in
    let moving : IsMoving look.state.pages look.blocks s c.args.from.block c.args.to c.args.from.page =
    looked m look (e.looks.state told) e.blocks c.args.self.now.state s c.read_page.ensures.reads.state
    c.args.from.block c.args.to
    c.args.from.page (c.requires.moving told) in
    let read = c.in_ok-read_page.ensures.bytes told (c.requires.moving told).within c.requires.page
    ∙ ap (λ z. z.pages c.args.from.block c.args.from.page) (sym (e.looks.state told)) in
    let key = c.in-Some.key in
    let old = c.in-Some.old in
    let is : known s.table key ≡ Some old = c.in-Some.ensures.known in
    let at = same_places old.place.block c.args.from.block old.place.page c.args.from.page c.ne.result c.ne.ensures
    c.if-ne.false in
    let now = g.F.Flash.medium c.program_page.new.self.flash in
    let long : c.len.result ≡ length s.moved.items = c.len.ensures ∙ s.moved.ok.0 in
    let p = c.program_page.ensures in
    keeps_since m look (e.looks.state told) e.blocks now.state.pages
    (copy_failed_keeps look s c.args.from.block c.args.to c.args.from.page moving c.requires.page
    c.read_page.new.out read key old is at.0 at.1 c.len.result long now
    (c.in_err-program_page.ensures.failed told))

pub returns-in_err-program_page-clause-failed : goal.returns-in_err-program_page-clause-failed
returns-in_err-program_page-clause-failed g c told =
    let m = g.F.Flash.medium c.args.self.now.flash in
    let look = g.F.Flash.medium c.read_page.new.self.flash in
    let e = c.read_page.ensures.reads.only in
    let s = c.read_page.new.self.state in
    let moving : IsMoving look.state.pages look.blocks s c.args.from.block c.args.to c.args.from.page =
    looked m look (e.looks.state told) e.blocks c.args.self.now.state s c.read_page.ensures.reads.state
    c.args.from.block c.args.to
    c.args.from.page (c.requires.moving told) in
    let read = c.in_ok-read_page.ensures.bytes told (c.requires.moving told).within c.requires.page
    ∙ ap (λ z. z.pages c.args.from.block c.args.from.page) (sym (e.looks.state told)) in
    let key = c.in-Some.key in
    let old = c.in-Some.old in
    let is : known s.table key ≡ Some old = c.in-Some.ensures.known in
    let at = same_places old.place.block c.args.from.block old.place.page c.args.from.page c.ne.result c.ne.ensures
    c.if-ne.false in
    let now = g.F.Flash.medium c.program_page.new.self.flash in
    let long : c.len.result ≡ length s.moved.items = c.len.ensures ∙ s.moved.ok.0 in
    let p = c.program_page.ensures in
    on_err c.from_residual-in_err-program_page.result (subst (IsSoundLayer now) (sym p.state)
    (copy_failed_sound look s c.args.from.block c.args.to c.args.from.page moving c.requires.page
    c.read_page.new.out read key old is at.0 at.1 c.len.result long now
    (c.in_err-program_page.ensures.failed told) (p.accounts.time told).blocks))

pub returns-in_err-program_page-clause-does : goal.returns-in_err-program_page-clause-does
returns-in_err-program_page-clause-does g c told =
    let m = g.F.Flash.medium c.args.self.now.flash in
    let look = g.F.Flash.medium c.read_page.new.self.flash in
    let e = c.read_page.ensures.reads.only in
    let s = c.read_page.new.self.state in
    let moving : IsMoving look.state.pages look.blocks s c.args.from.block c.args.to c.args.from.page =
    looked m look (e.looks.state told) e.blocks c.args.self.now.state s c.read_page.ensures.reads.state
    c.args.from.block c.args.to
    c.args.from.page (c.requires.moving told) in
    let read = c.in_ok-read_page.ensures.bytes told (c.requires.moving told).within c.requires.page
    ∙ ap (λ z. z.pages c.args.from.block c.args.from.page) (sym (e.looks.state told)) in
    let key = c.in-Some.key in
    let old = c.in-Some.old in
    let is : known s.table key ≡ Some old = c.in-Some.ensures.known in
    let at = same_places old.place.block c.args.from.block old.place.page c.args.from.page c.ne.result c.ne.ensures
    c.if-ne.false in
    let now = g.F.Flash.medium c.program_page.new.self.flash in
    let long : c.len.result ≡ length s.moved.items = c.len.ensures ∙ s.moved.ok.0 in
    let p = c.program_page.ensures in
    moved_then c.args.self.now.state.table c.args.from.block c.args.to m look now (e.looks.time told)
    (p.accounts.time told)
    (look_moved m look (e.looks.state told) e.blocks c.args.self.now.state.table c.args.from.block c.args.to
    c.read_page.ensures.during c.args.self.now.state
    (c.requires.moving told).sound)
    (subst (λ (q : LayerState). Does (StandsMoved q.table c.args.from.block c.args.to look) look now)
    c.read_page.ensures.reads.state
    (copy_does look s c.args.from.block c.args.to c.args.from.page moving c.requires.page c.read_page.new.out read key
    old is at.0 at.1 c.len.result long now c.program_page.result (p.done told) (p.failed told) (p.during told)))

pub returns-then-is_err-clause-does : goal.returns-then-is_err-clause-does
returns-then-is_err-clause-does g c told =
    let m = g.F.Flash.medium c.args.self.now.flash in
    let look = g.F.Flash.medium c.read_page.new.self.flash in
    let e = c.read_page.ensures.reads.only in
    let s = c.read_page.new.self.state in
    let moving : IsMoving look.state.pages look.blocks s c.args.from.block c.args.to c.args.from.page =
    looked m look (e.looks.state told) e.blocks c.args.self.now.state s c.read_page.ensures.reads.state
    c.args.from.block c.args.to
    c.args.from.page (c.requires.moving told) in
    let read = c.in_ok-read_page.ensures.bytes told (c.requires.moving told).within c.requires.page
    ∙ ap (λ z. z.pages c.args.from.block c.args.from.page) (sym (e.looks.state told)) in
    let key = c.in-Some.key in
    let old = c.in-Some.old in
    let is : known s.table key ≡ Some old = c.in-Some.ensures.known in
    let at = same_places old.place.block c.args.from.block old.place.page c.args.from.page c.ne.result c.ne.ensures
    c.if-ne.false in
    let now = g.F.Flash.medium c.program_page.new.self.flash in
    let long : c.len.result ≡ length s.moved.items = c.len.ensures ∙ s.moved.ok.0 in
    let p = c.program_page.ensures in
    subst (λ f. Does (StandsMoved c.args.self.now.state.table c.args.from.block c.args.to m) m
    (g.F.Flash.medium f)) (sym c.fault.ensures.flash) (
    moved_then c.args.self.now.state.table c.args.from.block c.args.to m look now (e.looks.time told)
    (p.accounts.time told)
    (look_moved m look (e.looks.state told) e.blocks c.args.self.now.state.table c.args.from.block c.args.to
    c.read_page.ensures.during c.args.self.now.state
    (c.requires.moving told).sound)
    (subst (λ (q : LayerState). Does (StandsMoved q.table c.args.from.block c.args.to look) look now)
    c.read_page.ensures.reads.state
    (copy_does look s c.args.from.block c.args.to c.args.from.page moving c.requires.page c.read_page.new.out read key
    old is at.0 at.1 c.len.result long now c.program_page.result (p.done told) (p.failed told) (p.during told))))

pub returns-clause-does : goal.returns-clause-does
returns-clause-does g c told =
    let m = g.F.Flash.medium c.args.self.now.flash in
    let look = g.F.Flash.medium c.read_page.new.self.flash in
    let e = c.read_page.ensures.reads.only in
    let s = c.read_page.new.self.state in
    let moving : IsMoving look.state.pages look.blocks s c.args.from.block c.args.to c.args.from.page =
    looked m look (e.looks.state told) e.blocks c.args.self.now.state s c.read_page.ensures.reads.state
    c.args.from.block c.args.to
    c.args.from.page (c.requires.moving told) in
    let read = c.in_ok-read_page.ensures.bytes told (c.requires.moving told).within c.requires.page
    ∙ ap (λ z. z.pages c.args.from.block c.args.from.page) (sym (e.looks.state told)) in
    let key = c.in-Some.key in
    let old = c.in-Some.old in
    let is : known s.table key ≡ Some old = c.in-Some.ensures.known in
    let at = same_places old.place.block c.args.from.block old.place.page c.args.from.page c.ne.result c.ne.ensures
    c.if-ne.false in
    let now = g.F.Flash.medium c.program_page.new.self.flash in
    let long : c.len.result ≡ length s.moved.items = c.len.ensures ∙ s.moved.ok.0 in
    let p = c.program_page.ensures in
    moved_then c.args.self.now.state.table c.args.from.block c.args.to m look now (e.looks.time told)
    (p.accounts.time told)
    (look_moved m look (e.looks.state told) e.blocks c.args.self.now.state.table c.args.from.block c.args.to
    c.read_page.ensures.during c.args.self.now.state
    (c.requires.moving told).sound)
    (subst (λ (q : LayerState). Does (StandsMoved q.table c.args.from.block c.args.to look) look now)
    c.read_page.ensures.reads.state
    (copy_does look s c.args.from.block c.args.to c.args.from.page moving c.requires.page c.read_page.new.out read key
    old is at.0 at.1 c.len.result long now c.program_page.result (p.done told) (p.failed told) (p.during told)))

pub returns-clause-keeps : goal.returns-clause-keeps
returns-clause-keeps g c told =
    let m = g.F.Flash.medium c.args.self.now.flash in
    let look = g.F.Flash.medium c.read_page.new.self.flash in
    let e = c.read_page.ensures.reads.only in
    let s = c.read_page.new.self.state in
    let moving : IsMoving look.state.pages look.blocks s c.args.from.block c.args.to c.args.from.page =
    looked m look (e.looks.state told) e.blocks c.args.self.now.state s c.read_page.ensures.reads.state
    c.args.from.block c.args.to
    c.args.from.page (c.requires.moving told) in
    let read = c.in_ok-read_page.ensures.bytes told (c.requires.moving told).within c.requires.page
    ∙ ap (λ z. z.pages c.args.from.block c.args.from.page) (sym (e.looks.state told)) in
    let key = c.in-Some.key in
    let old = c.in-Some.old in
    let is : known s.table key ≡ Some old = c.in-Some.ensures.known in
    let at = same_places old.place.block c.args.from.block old.place.page c.args.from.page c.ne.result c.ne.ensures
    c.if-ne.false in
    let now = g.F.Flash.medium c.program_page.new.self.flash in
    let long : c.len.result ≡ length s.moved.items = c.len.ensures ∙ s.moved.ok.0 in
    let p = c.program_page.ensures in
    keeps_since m look (e.looks.state told) e.blocks now.state.pages
    (copy_keeps_all look s c.args.from.block c.args.to c.args.from.page moving c.requires.page c.read_page.new.out
    read key old is at.0 at.1 c.len.result long now (c.in_ok-program_page.ensures.done told))

pub returns-then-is_err-clause-keeps : goal.returns-then-is_err-clause-keeps
returns-then-is_err-clause-keeps g c told =
    let m = g.F.Flash.medium c.args.self.now.flash in
    let look = g.F.Flash.medium c.read_page.new.self.flash in
    let e = c.read_page.ensures.reads.only in
    let s = c.read_page.new.self.state in
    let moving : IsMoving look.state.pages look.blocks s c.args.from.block c.args.to c.args.from.page =
    looked m look (e.looks.state told) e.blocks c.args.self.now.state s c.read_page.ensures.reads.state
    c.args.from.block c.args.to
    c.args.from.page (c.requires.moving told) in
    let read = c.in_ok-read_page.ensures.bytes told (c.requires.moving told).within c.requires.page
    ∙ ap (λ z. z.pages c.args.from.block c.args.from.page) (sym (e.looks.state told)) in
    let key = c.in-Some.key in
    let old = c.in-Some.old in
    let is : known s.table key ≡ Some old = c.in-Some.ensures.known in
    let at = same_places old.place.block c.args.from.block old.place.page c.args.from.page c.ne.result c.ne.ensures
    c.if-ne.false in
    let now = g.F.Flash.medium c.program_page.new.self.flash in
    let long : c.len.result ≡ length s.moved.items = c.len.ensures ∙ s.moved.ok.0 in
    let p = c.program_page.ensures in
    subst (λ f. KeepsRecords m.state.pages (g.F.Flash.medium f).state.pages (places m.blocks))
    (sym c.fault.ensures.flash)
    (keeps_since m look (e.looks.state told) e.blocks now.state.pages
    (copy_keeps_all look s c.args.from.block c.args.to c.args.from.page moving c.requires.page c.read_page.new.out
    read key old is at.0 at.1 c.len.result long now (c.in_ok-program_page.ensures.done told)))

pub returns-then-is_err-clause-failed : goal.returns-then-is_err-clause-failed
returns-then-is_err-clause-failed g c told =
    let m = g.F.Flash.medium c.args.self.now.flash in
    let look = g.F.Flash.medium c.read_page.new.self.flash in
    let e = c.read_page.ensures.reads.only in
    let s = c.read_page.new.self.state in
    let moving : IsMoving look.state.pages look.blocks s c.args.from.block c.args.to c.args.from.page =
    looked m look (e.looks.state told) e.blocks c.args.self.now.state s c.read_page.ensures.reads.state
    c.args.from.block c.args.to
    c.args.from.page (c.requires.moving told) in
    let read = c.in_ok-read_page.ensures.bytes told (c.requires.moving told).within c.requires.page
    ∙ ap (λ z. z.pages c.args.from.block c.args.from.page) (sym (e.looks.state told)) in
    let key = c.in-Some.key in
    let old = c.in-Some.old in
    let is : known s.table key ≡ Some old = c.in-Some.ensures.known in
    let at = same_places old.place.block c.args.from.block old.place.page c.args.from.page c.ne.result c.ne.ensures
    c.if-ne.false in
    let now = g.F.Flash.medium c.program_page.new.self.flash in
    let long : c.len.result ≡ length s.moved.items = c.len.ensures ∙ s.moved.ok.0 in
    let p = c.program_page.ensures in
    let sound = copy_sound look s c.args.from.block c.args.to c.args.from.page moving c.requires.page
    c.read_page.new.out read key old is at.0 at.1 c.len.result long now (c.in_ok-program_page.ensures.done told)
    (p.accounts.time told).blocks in
    let state : c.fault.new.self.state ≡ record s { moved = c.push.new.self } =
    c.fault.ensures.state ∙ ap (λ (q : LayerState). let z : LayerState = record q { moved = c.push.new.self } in z)
    p.state in
    subst (IsSoundLayer (g.F.Flash.medium c.fault.new.self.flash)) (sym state)
    (subst (λ f. IsSoundLayer (g.F.Flash.medium f) (record s { moved = c.push.new.self })) (sym c.fault.ensures.flash)
    (as_said now.state.pages now.blocks s (record s { moved = c.push.new.self }) sound
    (let same = ap (λ (q : LayerState). vec_capacity q.moved) p.state in let more =
    c.push.ensures.capacity in omega (arith, same, more))))

pub returns-clause-moving : goal.returns-clause-moving
returns-clause-moving g c told =
    let m = g.F.Flash.medium c.args.self.now.flash in
    let look = g.F.Flash.medium c.read_page.new.self.flash in
    let e = c.read_page.ensures.reads.only in
    let s = c.read_page.new.self.state in
    let moving : IsMoving look.state.pages look.blocks s c.args.from.block c.args.to c.args.from.page =
    looked m look (e.looks.state told) e.blocks c.args.self.now.state s c.read_page.ensures.reads.state
    c.args.from.block c.args.to
    c.args.from.page (c.requires.moving told) in
    let read = c.in_ok-read_page.ensures.bytes told (c.requires.moving told).within c.requires.page
    ∙ ap (λ z. z.pages c.args.from.block c.args.from.page) (sym (e.looks.state told)) in
    let key = c.in-Some.key in
    let old = c.in-Some.old in
    let is : known s.table key ≡ Some old = c.in-Some.ensures.known in
    let at = same_places old.place.block c.args.from.block old.place.page c.args.from.page c.ne.result c.ne.ensures
    c.if-ne.false in
    let now = g.F.Flash.medium c.program_page.new.self.flash in
    let long : c.len.result ≡ length s.moved.items = c.len.ensures ∙ s.moved.ok.0 in
    let p = c.program_page.ensures in
    let t : LayerState = record c.program_page.new.self.state { moved = c.push.new.self } in
    let state : t ≡ record s { moved = t.moved } = ap (λ (q : LayerState). let z : LayerState =
    record q { moved = c.push.new.self } in z) p.state in
    copied look s c.args.from.block c.args.to c.args.from.page moving c.requires.page c.read_page.new.out read key old
    is at.0 at.1 c.len.result long now (c.in_ok-program_page.ensures.done told) (p.accounts.time told).blocks
    (λ k entry found block page. let up = looked_up look s c.args.from.block c.args.to c.args.from.page moving
    c.requires.page c.read_page.new.out read
    c.newest_in.result c.newest_in.ensures.found k entry found block page in
    (found_same c.newest_in.result key k old entry c.in-Some.is up).0)
    t state
    (let same = ap (λ (q : LayerState). vec_capacity q.moved) p.state in let more =
    c.push.ensures.capacity in omega (arith, same, more))
    (
    let u = c.program_page.new.self.state in
    let place : FlashPage = record { block = c.args.to; page = c.len.result } in
    let new : Newest = record old { place = place } in
    let v : FilePage × Newest = (key, new) in
    let ok : is_ok c.push.result ≡ true = c.is_err.ensures.negation ∙ ap not c.if-is_err.false in
    c.push.ensures.items ∙ (ap (λ b. cond b (u.moved.items ++ v ∷ []) u.moved.items) ok
    ∙ ap (λ (q : LayerState). q.moved.items ++ v ∷ []) p.state))

pub returns-in_err-read_page-clause-few : goal.returns-in_err-read_page-clause-few
returns-in_err-read_page-clause-few g c few = few_same c.args.self.now.state c.read_page.new.self.state
    c.args.from.block c.args.from.page c.read_page.ensures.reads.state few

pub returns-in_err-read_page-clause-own : goal.returns-in_err-read_page-clause-own
returns-in_err-read_page-clause-own g c told = c.read_page.ensures.reads.only.own

pub returns-in_default-clause-few : goal.returns-in_default-clause-few
returns-in_default-clause-few g c few = few_same c.args.self.now.state c.read_page.new.self.state c.args.from.block
    c.args.from.page c.read_page.ensures.reads.state few

pub returns-in_default-clause-own : goal.returns-in_default-clause-own
returns-in_default-clause-own g c told = c.read_page.ensures.reads.only.own

pub returns-then-ne-clause-few : goal.returns-then-ne-clause-few
returns-then-ne-clause-few g c few = few_same c.args.self.now.state c.read_page.new.self.state c.args.from.block
    c.args.from.page c.read_page.ensures.reads.state few

pub returns-then-ne-clause-own : goal.returns-then-ne-clause-own
returns-then-ne-clause-own g c told = c.read_page.ensures.reads.only.own

pub returns-in_err-program_page-clause-few : goal.returns-in_err-program_page-clause-few
returns-in_err-program_page-clause-few g c few = few_same c.args.self.now.state c.program_page.new.self.state
    c.args.from.block c.args.from.page (c.program_page.ensures.state ∙ c.read_page.ensures.reads.state) few

pub returns-in_err-program_page-clause-own : goal.returns-in_err-program_page-clause-own
returns-in_err-program_page-clause-own g c told = c.program_page.ensures.own told ∙ c.read_page.ensures.reads.only.own

pub returns-then-is_err-clause-few : goal.returns-then-is_err-clause-few
returns-then-is_err-clause-few g c few =
    let start = c.args.self.now.state in
    let key = c.in-Some.key in
    let old = c.in-Some.old in
    let is : known start.table key ≡ Some old = ap (λ (q : LayerState). known q.table key)
    (sym c.read_page.ensures.reads.state) ∙ c.in-Some.ensures.known in
    let at = same_places old.place.block c.args.from.block old.place.page c.args.from.page c.ne.result c.ne.ensures
    c.if-ne.false in
    let moved : vec_len c.program_page.new.self.state.moved ≡ vec_len start.moved =
    ap (λ (q : LayerState). vec_len q.moved) (c.program_page.ensures.state ∙ c.read_page.ensures.reads.state) in
    let now : vec_len c.fault.new.self.state.moved ≡ vec_len c.push.new.self =
    ap (λ (q : LayerState). vec_len q.moved) c.fault.ensures.state in
    few_more start.table c.args.from.block c.args.from.page key old is at.0 at.1 (vec_len start.moved)
    (vec_len c.fault.new.self.state.moved) few
    (let up = c.push.ensures.upper_bound in omega (arith, moved, now, up))

pub returns-then-is_err-clause-own : goal.returns-then-is_err-clause-own
returns-then-is_err-clause-own g c told =
    let start = c.args.self.now.state in
    let state = c.program_page.ensures.state ∙ c.read_page.ensures.reads.state in
    let len : vec_len c.program_page.new.self.state.moved ≡ vec_len start.moved =
    ap (λ (q : LayerState). vec_len q.moved) state in
    let memory : vec_capacity c.program_page.new.self.state.moved ≡ vec_capacity start.moved =
    ap (λ (q : LayerState). vec_capacity q.moved) state in
    let full = of_err c.push.result (c.is_err.ensures.negation ∙ ap not c.if-is_err.true) c.push.ensures.full in
    let count = c.requires.count in
    let page = c.requires.page in
    let enough = (c.requires.moving told).sound.memory in
    absurd (omega (arith, len, memory, full, count, page, enough))

pub returns-clause-own : goal.returns-clause-own
returns-clause-own g c told = c.program_page.ensures.own told ∙ c.read_page.ensures.reads.only.own

pub returns-clause-few : goal.returns-clause-few
returns-clause-few g c few =
    let start = c.args.self.now.state in
    let key = c.in-Some.key in
    let old = c.in-Some.old in
    let is : known start.table key ≡ Some old = ap (λ (q : LayerState). known q.table key)
    (sym c.read_page.ensures.reads.state) ∙ c.in-Some.ensures.known in
    let at = same_places old.place.block c.args.from.block old.place.page c.args.from.page c.ne.result c.ne.ensures
    c.if-ne.false in
    let moved : vec_len c.program_page.new.self.state.moved ≡ vec_len start.moved =
    ap (λ (q : LayerState). vec_len q.moved) (c.program_page.ensures.state ∙ c.read_page.ensures.reads.state) in
    let now : vec_len (let u : LayerState = record c.program_page.new.self.state { moved = c.push.new.self } in u).moved
    ≡ vec_len c.push.new.self = refl in
    few_more start.table c.args.from.block c.args.from.page key old is at.0 at.1 (vec_len start.moved)
    (vec_len (let u : LayerState = record c.program_page.new.self.state { moved = c.push.new.self } in u).moved) few
    (let up = c.push.ensures.upper_bound in omega (arith, moved, now, up))

pub returns-clause-accounts : goal.returns-clause-accounts
returns-clause-accounts g c = accounts_here refl refl refl refl
    (accounts_on 0 0 0 (omega arith) c.in_ok-read_page.ensures.reads.accounts c.in_ok-program_page.ensures.accounts)

pub returns-in_err-program_page-clause-accounts : goal.returns-in_err-program_page-clause-accounts
returns-in_err-program_page-clause-accounts g c =
    accounts_fails c.from_residual-in_err-program_page.result _ c.from_residual-in_err-program_page.ensures.1
    (accounts_on 0 0 0 (omega arith) c.in_ok-read_page.ensures.reads.accounts c.in_err-program_page.ensures.accounts)
