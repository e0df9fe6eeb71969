use Rattle.std.proofs.Common.{ℕ, ◌≡◌, ◌⊎◌, ◌↔◌, length, subst, sym}
use Rattle.std.specs.Prelude.{IsTrue, IfOk}
use Rattle.disk_model.specs.Medium.{OnlyReads}
use Rattle.system_model.specs.SystemMedium.{InRange, ShowsBytes}
use Rattle.folder_disk.proofs.opened.Opened.write.Goals as goal

pub returns-in-Some-clause-frees : goal.returns-in-Some-clause-frees
returns-in-Some-clause-frees g c = λ t.
    let is = c.self.invariant c.args.file c.in-Some.open.now (sym c.in-Some.ensures.value) in
    let new = g.S.System.medium c.write.new.self in
    subst (λ k. IfOk c.write.result (λ n. (f i : ℕ) → new.free f i
    ↔ ((g.S.System.medium c.args.self.now).free f i ⊎ ((f ≡ k) × InRange c.args.at n i)))) is
    (subst (λ s. IfOk c.write.result (λ n. (f i : ℕ) → new.free f i
    ↔ ((g.S.System.medium s).free f i ⊎ ((f ≡ g.S.System.number c.in-Some.open.now) × InRange c.args.at n i))))
    c.self.view_is (c.write.ensures.frees t))

pub returns-in-Some-clause-found : goal.returns-in-Some-clause-found
returns-in-Some-clause-found g c = λ t.
    let is = c.self.invariant c.args.file c.in-Some.open.now (sym c.in-Some.ensures.value) in
    let new = g.S.System.medium c.write.new.self in
    subst (λ k. IfOk c.write.result (λ n. (i : ℕ) → InRange c.args.at n i → ¬ (new.lost k i))) is
    (c.write.ensures.found t)

pub returns-in-Some-clause-again : goal.returns-in-Some-clause-again
returns-in-Some-clause-again g c =
    let is = c.self.invariant c.args.file c.in-Some.open.now (sym c.in-Some.ensures.value) in
    let told = g.S.System.told in
    let medium = g.S.System.medium in
    let at = c.args.at in
    let bytes = c.args.bytes.now in
    let new = medium c.write.new.self in
    subst (λ k. (IsTrue told → (i : ℕ) → InRange at (length bytes) i → (medium c.args.self.now).free k i)
    → (IsTrue told → ShowsBytes ((medium c.args.self.now).disk.image k) at bytes)
    → OnlyReads (medium c.args.self.now).disk new.disk) is
    (subst (λ s. (IsTrue told → (i : ℕ) → InRange at (length bytes) i
    → (medium s).free (g.S.System.number c.in-Some.open.now) i)
    → (IsTrue told → ShowsBytes ((medium s).disk.image (g.S.System.number c.in-Some.open.now)) at bytes)
    → OnlyReads (medium s).disk new.disk) c.self.view_is c.write.ensures.again)
