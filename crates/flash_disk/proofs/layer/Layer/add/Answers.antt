use Rattle.std.proofs.Common.{◌≡◌, ◌*◌, refl, sym, ap, inl, inr, subst, ◌∙◌, arith}
use Rattle.flash_record.specs.PageRecord.{PageRecord}
use Rattle.flash_disk.specs.declared.table.FlashPage.{FlashPage}
use Rattle.flash_disk.specs.declared.layer.LayerState.{LayerState}
use Rattle.flash_disk.specs.Does.{Does}
use Rattle.flash_disk.specs.PutPart.{PutPart}
use Rattle.flash_disk.specs.Sound.{files_on, IsSoundLayer, FitsIn, LeavesAdded, ShowsPage}
use Rattle.flash_disk.proofs.Adding.{adds_nothing, added_sound, added_entries, added_put, added_shown, failed_holds}
use Rattle.flash_disk.proofs.Adding.{add_does}
use Rattle.flash_disk.proofs.Accounting.{accounts_here, accounts_on}
use Rattle.flash_disk.proofs.layer.Layer.add.Goals as goal

pub returns-in_err-sequence-clause-does : goal.returns-in_err-sequence-clause-does
returns-in_err-sequence-clause-does g c told =
    let f = c.args.self.now.flash in
    subst (λ now. Does (LeavesAdded c.args.self.now.state.current c.args.file (256 * c.args.page) c.args.bytes.now
    c.args.len (g.F.Flash.medium f)) (g.F.Flash.medium f) (g.F.Flash.medium now)) (sym c.next_sequence.ensures.flash)
    (adds_nothing g.F.Flash.told (g.F.Flash.medium f) (g.met.F.Flash.lawful f) c.args.self.now.state
    (c.requires.ready.sound told) c.args.self.now.state.current c.args.file (256 * c.args.page) c.args.len
    c.args.bytes.now)

pub returns-in-Ok-clause-stays : goal.returns-in-Ok-clause-stays
returns-in-Ok-clause-stays g c = record {
  sure = c.enter.ensures.unsure ∙ (ap (λ (q : LayerState). q.unsure) c.program_page.ensures.state
      ∙ (ap (λ q. q.state.unsure) c.in_ok-sequence.ensures.next.1 ∙ c.requires.ready.sure));
  sound = λ told.
      let r : PageRecord = record {
        sequence = c.in_ok-sequence.sequence;
        file = c.args.file;
        page = c.args.page;
        len =
            c.args.len;
        bytes = c.args.bytes.now;
      } in
      let s = c.args.self.now.state in
      let t = c.next_sequence.new.self.state in
      let m = g.F.Flash.medium c.next_sequence.new.self.flash in
      let now = g.F.Flash.medium c.program_page.new.self.flash in
      let u = c.program_page.new.self.state in
      let place : FlashPage = record { block = t.current; page = t.fill } in
      let sound : IsSoundLayer m s = subst (λ f. IsSoundLayer (g.F.Flash.medium f) s)
      (sym c.next_sequence.ensures.flash)
      (c.requires.ready.sound told) in
      let fits : FitsIn m s c.args.file c.args.page c.args.len c.args.bytes.now =
      subst (λ f. FitsIn (g.F.Flash.medium f) s c.args.file c.args.page c.args.len c.args.bytes.now)
      (sym c.next_sequence.ensures.flash) (c.requires.fits told) in
      let next = c.in_ok-sequence.ensures.next in
      let state : t ≡ record s { sequence = c.in_ok-sequence.sequence } = ap (λ l. l.state) next.1 in
      let on : u ≡ record s { sequence = c.in_ok-sequence.sequence; fill = 64 } =
      c.program_page.ensures.state ∙ ap (λ (q : LayerState). let z : LayerState = record q { fill = 64 } in
      z)
      state in
      let at = ap (λ (q : LayerState). let p : FlashPage = record { block = q.current; page = q.fill } in p) state in
      subst (λ f. IsSoundLayer (g.F.Flash.medium f) c.enter.new.self.state) (sym c.enter.ensures.flash)
      (added_sound m now s u place r c.page_with.result sound c.requires.room fits c.requires.bytes at next.0 on
      c.page_with.ensures
      (c.in-Ok.ensures.done told) (c.program_page.ensures.accounts.time told).blocks c.enter.new.self.state
      c.enter.ensures.sound);
  failed = λ told. tt;
}

pub returns-in-Ok-clause-put : goal.returns-in-Ok-clause-put
returns-in-Ok-clause-put g c told =
    let r : PageRecord = record {
      sequence = c.in_ok-sequence.sequence;
      file = c.args.file;
      page = c.args.page;
      len =
          c.args.len;
      bytes = c.args.bytes.now;
    } in
    let s = c.args.self.now.state in
    let t = c.next_sequence.new.self.state in
    let m = g.F.Flash.medium c.next_sequence.new.self.flash in
    let now = g.F.Flash.medium c.program_page.new.self.flash in
    let u = c.program_page.new.self.state in
    let place : FlashPage = record { block = t.current; page = t.fill } in
    let sound : IsSoundLayer m s = subst (λ f. IsSoundLayer (g.F.Flash.medium f) s) (sym c.next_sequence.ensures.flash)
    (c.requires.ready.sound told) in
    let fits : FitsIn m s c.args.file c.args.page c.args.len c.args.bytes.now =
    subst (λ f. FitsIn (g.F.Flash.medium f) s c.args.file c.args.page c.args.len c.args.bytes.now)
    (sym c.next_sequence.ensures.flash) (c.requires.fits told) in
    let next = c.in_ok-sequence.ensures.next in
    let state : t ≡ record s { sequence = c.in_ok-sequence.sequence } = ap (λ l. l.state) next.1 in
    let on : u ≡ record s { sequence = c.in_ok-sequence.sequence; fill = 64 } =
    c.program_page.ensures.state ∙ ap (λ (q : LayerState). let z : LayerState = record q { fill = 64 } in z)
    state in
    let at = ap (λ (q : LayerState). let p : FlashPage = record { block = q.current; page = q.fill } in p) state in
    subst (λ f. PutPart c.args.file (256 * c.args.page) c.args.bytes.now c.args.len (files_on (g.F.Flash.medium f))
    (files_on (g.F.Flash.medium c.enter.new.self.flash)))
    c.next_sequence.ensures.flash
    (subst (λ f. PutPart c.args.file (256 * c.args.page) c.args.bytes.now c.args.len (files_on m)
    (files_on (g.F.Flash.medium f))) (sym c.enter.ensures.flash)
    (added_put m now s u place r c.page_with.result sound c.requires.room fits c.requires.bytes at next.0 on
    c.page_with.ensures
    (c.in-Ok.ensures.done told) (c.program_page.ensures.accounts.time told).blocks))

pub returns-in-Ok-clause-shown : goal.returns-in-Ok-clause-shown
returns-in-Ok-clause-shown g c told =
    let r : PageRecord = record {
      sequence = c.in_ok-sequence.sequence;
      file = c.args.file;
      page = c.args.page;
      len =
          c.args.len;
      bytes = c.args.bytes.now;
    } in
    let s = c.args.self.now.state in
    let t = c.next_sequence.new.self.state in
    let m = g.F.Flash.medium c.next_sequence.new.self.flash in
    let now = g.F.Flash.medium c.program_page.new.self.flash in
    let u = c.program_page.new.self.state in
    let place : FlashPage = record { block = t.current; page = t.fill } in
    let sound : IsSoundLayer m s = subst (λ f. IsSoundLayer (g.F.Flash.medium f) s) (sym c.next_sequence.ensures.flash)
    (c.requires.ready.sound told) in
    let fits : FitsIn m s c.args.file c.args.page c.args.len c.args.bytes.now =
    subst (λ f. FitsIn (g.F.Flash.medium f) s c.args.file c.args.page c.args.len c.args.bytes.now)
    (sym c.next_sequence.ensures.flash) (c.requires.fits told) in
    let next = c.in_ok-sequence.ensures.next in
    let state : t ≡ record s { sequence = c.in_ok-sequence.sequence } = ap (λ l. l.state) next.1 in
    let on : u ≡ record s { sequence = c.in_ok-sequence.sequence; fill = 64 } =
    c.program_page.ensures.state ∙ ap (λ (q : LayerState). let z : LayerState = record q { fill = 64 } in z)
    state in
    let at = ap (λ (q : LayerState). let p : FlashPage = record { block = q.current; page = q.fill } in p) state in
    subst (λ f. ShowsPage (g.F.Flash.medium f) (g.F.Flash.medium c.enter.new.self.flash) c.args.file c.args.page
    c.args.bytes.now) c.next_sequence.ensures.flash
    (subst (λ f. ShowsPage m (g.F.Flash.medium f) c.args.file c.args.page c.args.bytes.now) (sym c.enter.ensures.flash)
    (added_shown m now s u place r c.page_with.result sound c.requires.room fits c.requires.bytes at next.0 on
    c.page_with.ensures
    (c.in-Ok.ensures.done told) (c.program_page.ensures.accounts.time told).blocks))

pub returns-in-Ok-clause-does : goal.returns-in-Ok-clause-does
returns-in-Ok-clause-does g c told =
    let r : PageRecord = record {
      sequence = c.in_ok-sequence.sequence;
      file = c.args.file;
      page = c.args.page;
      len =
          c.args.len;
      bytes = c.args.bytes.now;
    } in
    let s = c.args.self.now.state in
    let t = c.next_sequence.new.self.state in
    let m = g.F.Flash.medium c.next_sequence.new.self.flash in
    let now = g.F.Flash.medium c.program_page.new.self.flash in
    let u = c.program_page.new.self.state in
    let place : FlashPage = record { block = t.current; page = t.fill } in
    let sound : IsSoundLayer m s = subst (λ f. IsSoundLayer (g.F.Flash.medium f) s) (sym c.next_sequence.ensures.flash)
    (c.requires.ready.sound told) in
    let fits : FitsIn m s c.args.file c.args.page c.args.len c.args.bytes.now =
    subst (λ f. FitsIn (g.F.Flash.medium f) s c.args.file c.args.page c.args.len c.args.bytes.now)
    (sym c.next_sequence.ensures.flash) (c.requires.fits told) in
    let next = c.in_ok-sequence.ensures.next in
    let state : t ≡ record s { sequence = c.in_ok-sequence.sequence } = ap (λ l. l.state) next.1 in
    let on : u ≡ record s { sequence = c.in_ok-sequence.sequence; fill = 64 } =
    c.program_page.ensures.state ∙ ap (λ (q : LayerState). let z : LayerState = record q { fill = 64 } in z)
    state in
    let at = ap (λ (q : LayerState). let p : FlashPage = record { block = q.current; page = q.fill } in p) state in
    subst (λ f. Does (LeavesAdded c.args.self.now.state.current c.args.file (256 * c.args.page) c.args.bytes.now
    c.args.len (g.F.Flash.medium f)) (g.F.Flash.medium f) (g.F.Flash.medium c.enter.new.self.flash))
    c.next_sequence.ensures.flash
    (subst (λ f. Does (LeavesAdded c.args.self.now.state.current c.args.file (256 * c.args.page) c.args.bytes.now
    c.args.len m) m (g.F.Flash.medium f)) (sym c.enter.ensures.flash)
    (add_does m now s u place r c.page_with.result sound c.requires.room fits c.requires.bytes at next.0 on
    c.page_with.ensures
    c.program_page.result (c.program_page.ensures.done told) (c.program_page.ensures.failed told)
    (c.program_page.ensures.during told)))

pub returns-in-Err-clause-stays : goal.returns-in-Err-clause-stays
returns-in-Err-clause-stays g c = record {
  sure = tt;
  sound = λ told. tt;
  failed = λ told.
      let r : PageRecord = record {
        sequence = c.in_ok-sequence.sequence;
        file = c.args.file;
        page = c.args.page;
        len =
            c.args.len;
        bytes = c.args.bytes.now;
      } in
      let s = c.args.self.now.state in
      let t = c.next_sequence.new.self.state in
      let m = g.F.Flash.medium c.next_sequence.new.self.flash in
      let now = g.F.Flash.medium c.program_page.new.self.flash in
      let u = c.program_page.new.self.state in
      let place : FlashPage = record { block = t.current; page = t.fill } in
      let sound : IsSoundLayer m s = subst (λ f. IsSoundLayer (g.F.Flash.medium f) s)
      (sym c.next_sequence.ensures.flash)
      (c.requires.ready.sound told) in
      let fits : FitsIn m s c.args.file c.args.page c.args.len c.args.bytes.now =
      subst (λ f. FitsIn (g.F.Flash.medium f) s c.args.file c.args.page c.args.len c.args.bytes.now)
      (sym c.next_sequence.ensures.flash) (c.requires.fits told) in
      let next = c.in_ok-sequence.ensures.next in
      let state : t ≡ record s { sequence = c.in_ok-sequence.sequence } = ap (λ l. l.state) next.1 in
      let on : u ≡ record s { sequence = c.in_ok-sequence.sequence; fill = 64 } =
      c.program_page.ensures.state ∙ ap (λ (q : LayerState). let z : LayerState = record q { fill = 64 } in
      z)
      state in
      let at = ap (λ (q : LayerState). let p : FlashPage = record { block = q.current; page = q.fill } in p) state in
      failed_holds m now s u place r c.page_with.result sound c.requires.room fits c.requires.bytes at next.0 on
      c.page_with.ensures
      (c.in-Err.ensures.failed told) (c.program_page.ensures.accounts.time told).blocks;
}

pub returns-in-Err-clause-does : goal.returns-in-Err-clause-does
returns-in-Err-clause-does g c told =
    let r : PageRecord = record {
      sequence = c.in_ok-sequence.sequence;
      file = c.args.file;
      page = c.args.page;
      len =
          c.args.len;
      bytes = c.args.bytes.now;
    } in
    let s = c.args.self.now.state in
    let t = c.next_sequence.new.self.state in
    let m = g.F.Flash.medium c.next_sequence.new.self.flash in
    let now = g.F.Flash.medium c.program_page.new.self.flash in
    let u = c.program_page.new.self.state in
    let place : FlashPage = record { block = t.current; page = t.fill } in
    let sound : IsSoundLayer m s = subst (λ f. IsSoundLayer (g.F.Flash.medium f) s) (sym c.next_sequence.ensures.flash)
    (c.requires.ready.sound told) in
    let fits : FitsIn m s c.args.file c.args.page c.args.len c.args.bytes.now =
    subst (λ f. FitsIn (g.F.Flash.medium f) s c.args.file c.args.page c.args.len c.args.bytes.now)
    (sym c.next_sequence.ensures.flash) (c.requires.fits told) in
    let next = c.in_ok-sequence.ensures.next in
    let state : t ≡ record s { sequence = c.in_ok-sequence.sequence } = ap (λ l. l.state) next.1 in
    let on : u ≡ record s { sequence = c.in_ok-sequence.sequence; fill = 64 } =
    c.program_page.ensures.state ∙ ap (λ (q : LayerState). let z : LayerState = record q { fill = 64 } in z)
    state in
    let at = ap (λ (q : LayerState). let p : FlashPage = record { block = q.current; page = q.fill } in p) state in
    subst (λ f. Does (LeavesAdded c.args.self.now.state.current c.args.file (256 * c.args.page) c.args.bytes.now
    c.args.len (g.F.Flash.medium f)) (g.F.Flash.medium f) now) c.next_sequence.ensures.flash
    (add_does m now s u place r c.page_with.result sound c.requires.room fits c.requires.bytes at next.0 on
    c.page_with.ensures
    c.program_page.result (c.program_page.ensures.done told) (c.program_page.ensures.failed told)
    (c.program_page.ensures.during told))

pub returns-in_err-sequence-clause-own : goal.returns-in_err-sequence-clause-own
returns-in_err-sequence-clause-own g c told = inr (ap (λ (q : LayerState). q.sequence) c.in_err-sequence.ensures.none
    ∙ c.in_err-sequence.ensures.last)

pub returns-in-Ok-clause-own : goal.returns-in-Ok-clause-own
returns-in-Ok-clause-own g c told = inl (c.enter.ensures.own
    ∙ (c.program_page.ensures.own told ∙ ap (λ q. q.own) c.in_ok-sequence.ensures.next.1))

pub returns-in-Err-clause-own : goal.returns-in-Err-clause-own
returns-in-Err-clause-own g c told = inl (c.program_page.ensures.own told
    ∙ ap (λ q. q.own) c.in_ok-sequence.ensures.next.1)

pub returns-in-Ok-clause-entries : goal.returns-in-Ok-clause-entries
returns-in-Ok-clause-entries g c told =
    let r : PageRecord = record {
      sequence = c.in_ok-sequence.sequence;
      file = c.args.file;
      page = c.args.page;
      len =
          c.args.len;
      bytes = c.args.bytes.now;
    } in
    let s = c.args.self.now.state in
    let t = c.next_sequence.new.self.state in
    let m = g.F.Flash.medium c.next_sequence.new.self.flash in
    let now = g.F.Flash.medium c.program_page.new.self.flash in
    let u = c.program_page.new.self.state in
    let place : FlashPage = record { block = t.current; page = t.fill } in
    let sound : IsSoundLayer m s = subst (λ f. IsSoundLayer (g.F.Flash.medium f) s) (sym c.next_sequence.ensures.flash)
    (c.requires.ready.sound told) in
    let fits : FitsIn m s c.args.file c.args.page c.args.len c.args.bytes.now =
    subst (λ f. FitsIn (g.F.Flash.medium f) s c.args.file c.args.page c.args.len c.args.bytes.now)
    (sym c.next_sequence.ensures.flash) (c.requires.fits told) in
    let next = c.in_ok-sequence.ensures.next in
    let state : t ≡ record s { sequence = c.in_ok-sequence.sequence } = ap (λ l. l.state) next.1 in
    let on : u ≡ record s { sequence = c.in_ok-sequence.sequence; fill = 64 } =
    c.program_page.ensures.state ∙ ap (λ (q : LayerState). let z : LayerState = record q { fill = 64 } in z)
    state in
    let at = ap (λ (q : LayerState). let p : FlashPage = record { block = q.current; page = q.fill } in p) state in
    added_entries m now s u place r c.page_with.result sound c.requires.room fits c.requires.bytes at next.0 on
    c.page_with.ensures
    c.enter.new.self.state c.enter.ensures.entries

pub returns-in-Ok-clause-accounts : goal.returns-in-Ok-clause-accounts
returns-in-Ok-clause-accounts g c =
    let e = c.enter.ensures in
    accounts_here e.flash e.own e.sequence e.has_rivals (accounts_on 1 0 1 (omega arith)
    (accounts_here refl refl refl refl c.in_ok-sequence.ensures.accounts) c.in-Ok.ensures.accounts)

pub returns-in-Err-clause-accounts : goal.returns-in-Err-clause-accounts
returns-in-Err-clause-accounts g c =
    accounts_here refl refl refl refl (accounts_on 1 0 1 (omega arith)
    (accounts_here refl refl refl refl c.in_ok-sequence.ensures.accounts) c.in-Err.ensures.accounts)

pub returns-in_err-sequence-clause-cleared : goal.returns-in_err-sequence-clause-cleared
returns-in_err-sequence-clause-cleared g c = ap (λ (q : LayerState). q.cleared) c.in_err-sequence.ensures.none

pub returns-in-Ok-clause-cleared : goal.returns-in-Ok-clause-cleared
returns-in-Ok-clause-cleared g c =
    c.enter.ensures.cleared ∙ (ap (λ (q : LayerState). q.cleared) c.program_page.ensures.state
    ∙ ap (λ q. q.state.cleared) c.in_ok-sequence.ensures.next.1)

pub returns-in-Err-clause-cleared : goal.returns-in-Err-clause-cleared
returns-in-Err-clause-cleared g c = ap (λ (q : LayerState). q.cleared) c.program_page.ensures.state
    ∙ ap (λ q. q.state.cleared) c.in_ok-sequence.ensures.next.1
