use Rattle.std.proofs.Common.{◌*◌, inl, inr, ⊎_elim, ◌∙◌, arith}
use Rattle.std.proofs.lemmas.Bool.{cases_Bool}
use Rattle.std.proofs.lemmas.Result.{on_ok_weaker}
use Rattle.flash_disk.specs.declared.table.FilePage.{FilePage}
use Rattle.flash_disk.proofs.Entries.{occupies_after}
use Rattle.flash_disk.specs.Newest.{places}
use Rattle.flash_disk.specs.Apart.{copy_of, HoldsOneCopy}
use Rattle.flash_disk.proofs.Adding.{puts_then, puts_not, shown_after, added_puts, added_held}
use Rattle.flash_disk.proofs.Holding.{apart_if, does_apart}
use Rattle.flash_disk.proofs.Accounting.{accounts_fails, accounts_more, accounts_on}
use Rattle.flash_disk.proofs.Steps.{sure_fails}
use Rattle.flash_disk.proofs.Topmost.{on_ok}
use Rattle.flash_disk.proofs.layer.Layer.append.Goals as goal

pub returns-in_err-make_room-clause-does : goal.returns-in_err-make_room-clause-does
returns-in_err-make_room-clause-does g c told =
    let m = g.F.Flash.medium c.args.self.now.flash in
    let mid = g.F.Flash.medium c.make_room.new.self.flash in
    puts_not m mid mid (c.make_room.ensures.accounts.time told) (c.make_room.ensures.does told) c.args.file
    (256 * c.args.page)
    c.args.len c.args.bytes.now

pub returns-clause-does : goal.returns-clause-does
returns-clause-does g c told =
    let m = g.F.Flash.medium c.args.self.now.flash in
    let mid = g.F.Flash.medium c.make_room.new.self.flash in
    let now = g.F.Flash.medium c.add.new.self.flash in
    puts_then m mid now (c.make_room.ensures.accounts.time told) (c.make_room.ensures.does told) c.args.file
    (256 * c.args.page)
    c.args.len c.args.bytes.now
    (c.add.ensures.accounts.time told)
    (added_puts c.make_room.new.self.state.current c.args.file (256 * c.args.page) c.args.bytes.now c.args.len mid now
    (c.add.ensures.does told))

pub returns-clause-apart : goal.returns-clause-apart
returns-clause-apart g c told =
    let m = g.F.Flash.medium c.args.self.now.flash in
    let mid = g.F.Flash.medium c.make_room.new.self.flash in
    let now = g.F.Flash.medium c.add.new.self.flash in
    let block = c.make_room.new.self.state.current in
    let copy = copy_of c.args.file in
    apart_if copy m mid now (c.make_room.ensures.accounts.time told) (c.add.ensures.accounts.time told)
    (c.make_room.ensures.apart told) (HoldsOneCopy mid.state.pages (places mid.blocks) block copy)
    (c.in_ok-make_room.ensures.home told)
    (does_apart copy mid now block (added_held block c.args.file (256 * c.args.page) c.args.bytes.now c.args.len mid
    now (c.add.ensures.does told)))

pub returns-in_err-make_room-clause-apart : goal.returns-in_err-make_room-clause-apart
returns-in_err-make_room-clause-apart g c told = c.make_room.ensures.apart told

pub returns-clause-shown : goal.returns-clause-shown
returns-clause-shown g c told =
    let m = g.F.Flash.medium c.args.self.now.flash in
    let mid = g.F.Flash.medium c.make_room.new.self.flash in
    let now = g.F.Flash.medium c.add.new.self.flash in
    on_ok_weaker c.add.result (shown_after m mid now c.args.file c.args.page c.args.bytes.now
    (c.in_ok-make_room.ensures.shown told)) (c.add.ensures.shown told)

pub add-requires-clause-fits : goal.add-requires-clause-fits
add-requires-clause-fits g c told =
    c.make_room.ensures.fits told c.args.file c.args.page c.args.len c.args.bytes.now (c.requires.fits told)

pub returns-clause-entries : goal.returns-clause-entries
returns-clause-entries g c told =
    let key : FilePage = record { file = c.args.file; page = c.args.page } in
    on_ok_weaker c.add.result
    (occupies_after c.args.self.now.state.table c.make_room.new.self.state.table c.add.new.self.state.table key
    (c.in_ok-make_room.ensures.entries told))
    (c.add.ensures.entries told)

pub returns-in_err-make_room-clause-adds : goal.returns-in_err-make_room-clause-adds
returns-in_err-make_room-clause-adds g c =
    let r = c.from_residual.result in
    let fails = c.from_residual.ensures.1 in record {
      stays = sure_fails r _ fails c.make_room.ensures.ready;
      accounts = accounts_more 1 (omega arith) (accounts_fails r _ fails c.in_err-make_room.ensures.accounts);
      own = λ told. ⊎_elim
          (λ has_rivals. inr (inr (c.make_room.ensures.accounts.has_rivals ∙ has_rivals)))
          (λ no_rivals. inl (c.make_room.ensures.own told no_rivals))
          (cases_Bool c.args.self.now.state.has_rivals);
    }

pub returns-clause-adds : goal.returns-clause-adds
returns-clause-adds g c = record {
  stays = c.add.ensures.stays;
  accounts = accounts_on 0 1 1 (omega arith) c.in_ok-make_room.ensures.accounts
      c.add.ensures.accounts;
  own = λ told. ⊎_elim
      (λ has_rivals. inr (inr (c.add.ensures.accounts.has_rivals ∙ (c.make_room.ensures.accounts.has_rivals ∙ has_rivals))))
      (λ no_rivals. ⊎_elim
      (λ same. inl (same ∙ c.make_room.ensures.own told no_rivals))
      (λ last. inr (inl last))
      (c.add.ensures.own told))
      (cases_Bool c.args.self.now.state.has_rivals);
}

pub returns-clause-cleared : goal.returns-clause-cleared
returns-clause-cleared g c = on_ok c.add.result (c.add.ensures.cleared ∙ c.in_ok-make_room.ensures.cleared)
