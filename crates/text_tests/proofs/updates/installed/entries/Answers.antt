use Rattle.std.proofs.Common.{◌≡◌, ◌+◌, ◌++◌, ◌∷◌, [], take, sym, subst}
use Rattle.std.specs.List.{AllZip}
use Rattle.text_tests.specs.Stores.{Stores}
use Rattle.text_tests.proofs.Storing.{are_stored, zip_all, zip_more}
use Rattle.text_tests.proofs.updates.installed.entries.Goals as goal

pub loop-fresh-preserved : goal.loop-fresh-preserved
loop-fresh-preserved c =
    let made = c.deref-fresh-items.result.now in
    let i = c.loop-fresh.fresh-index in
    let before = c.loop-fresh.entries.items in
    let more : c.push.new.self.items ≡ before ++ c.in_ok-entry.field-0 ∷ [] = c.in_ok-push.ensures.items in
    subst (λ es. AllZip Stores (take (i + 1) made) es) (sym more)
    (zip_more Stores made i c.fresh-item.result before c.in_ok-entry.field-0 c.loop-fresh.invariant
    c.loop-fresh-test.true c.fresh-item.is c.in_ok-entry.ensures)

pub returns : goal.returns
returns c =
    let storage = c.args.storage.now in
    let made = c.in_ok-made.made.items in
    let entries = c.loop-fresh.entries.items in
    let same : c.deref-fresh-items.result.now ≡ made = cc in
    let zipped = zip_all Stores c.deref-fresh-items.result.now c.loop-fresh.fresh-index entries c.loop-fresh.invariant
    c.loop-fresh-test.false in
    are_stored storage.kind storage.maximum made entries (subst (λ ms. AllZip Stores ms entries) same zipped)
    c.in_ok-made.ensures.limits
