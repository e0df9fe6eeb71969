use Rattle.std.proofs.Common.{◌≡◌, ◌≤◌, suc, length, [], ◌∷◌, sym, ap, subst, ◌∙◌, inl, inr, ⊎_elim, arith}
use Rattle.std.specs.Map.Iter.{deref_pair}
use Rattle.std.proofs.lemmas.Map.Iter.{rest_all, rest_more}
use Rattle.std.proofs.lemmas.Option.{none-some}
use Rattle.std.specs.Map.{lookup}
use Rattle.std.specs.Prelude.{Some, IsTrue, max}
use Rattle.std.specs.HashMap.{hash_map_len, spare}
use Rattle.flash_disk.specs.declared.table.FilePage.{FilePage}
use Rattle.flash_disk.specs.declared.table.Newest.{Newest}
use Rattle.flash_disk.specs.Known.{same_page, len_in, IsLongest}
use Rattle.flash_disk.proofs.Lengths.{longest, most, one, taken, passed}
use Rattle.flash_disk.proofs.table.raise_all.Goals as goal

pub returns-clause-longest : goal.returns-clause-longest
returns-clause-longest c fits empty file =
    let inv = c.loop-key.invariant in
    let none : c.loop-key.key-iterator ≡ [] = rest_all deref_pair _ _ _ c.in-None.is c.next.ensures.steps in
    let ends = inv.1 fits file in
    let rest : longest file c.loop-key.key-iterator ≡ 0 = ap (longest file) none in
    let start = empty file in
    let len : len_in c.loop-key.lens file ≡ longest file c.args.newest.now.entries = omega (arith, ends, rest, start) in
    subst (IsLongest c.args.newest.now file) (sym len) (record {
      most = λ key entry found of_file. most file c.args.newest.now.entries key entry found of_file;
      one = one file c.args.newest.now.entries c.iter-key-items.ensures.unique;
    })

pub returns-clause-has : goal.returns-clause-has
returns-clause-has c fits key entry is =
    let none : c.loop-key.key-iterator ≡ [] = rest_all deref_pair _ _ _ c.in-None.is c.next.ensures.steps in
    ⊎_elim
    (λ left. absurd (none-some entry (subst (λ l. lookup (same_page key) l ≡ Some entry) none left)))
    (λ has. has)
    (c.loop-key.invariant.2 fits key entry is)

pub loop-key-init : goal.loop-key-init
loop-key-init c =
    let rest : c.into_iter-key-iterator.result ≡ c.args.newest.now.entries =
    c.into_iter-key-iterator.ensures.into_iter_gives ∙ c.iter-key-items.ensures.rest in
    let long : length c.into_iter-key-iterator.result ≡ length c.args.newest.now.entries = ap length rest in (
      omega (arith, long),
      (λ fits f. ap (λ es. max (len_in c.args.lens.now f) (longest f es)) rest),
      (λ fits key entry is. inl (subst (λ es. lookup (same_page key) es ≡ Some entry) (sym rest) is)),
    )

pub loop-key-preserved : goal.loop-key-preserved
loop-key-preserved c =
    let i = c.loop-key.invariant in
    let key : FilePage = c.in-Some.key.now in
    let entry : Newest = c.in-Some.entry.now in
    let rest = c.next.new.self in
    let step : c.loop-key.key-iterator ≡ (key, entry) ∷ rest =
    rest_more deref_pair _ _ _ (c.in-Some.key, c.in-Some.entry) c.in-Some.is c.next.ensures.steps in
    let long : length c.loop-key.key-iterator ≡ suc (length rest) = ap length step in
    let before = i.0 in
    let used = c.raise.ensures.spare in
    let raised : hash_map_len c.args.newest.now ≤ spare c.args.lens.now → IsTrue c.raise.result =
    λ fits. c.raise.ensures.succeeds (omega (arith, long, before, fits)) in (
      omega (arith, long, before, used),
      (λ fits f. taken f (len_in c.loop-key.lens f) (len_in c.raise.new.lens f) (key, entry) rest
          (c.raise.ensures.raised (raised fits) f)
          ∙ (ap (λ es. max (len_in c.loop-key.lens f) (longest f es)) (sym step) ∙ i.1 fits f)),
      (λ fits k w is. ⊎_elim
          (λ left. ⊎_elim
          (λ here. inr (c.raise.ensures.has (raised fits) k.file (inr (ap (λ (q : FilePage). q.file) here.0))))
          (λ there. inl there)
          (passed k key w entry rest c.loop-key.key-iterator step left))
          (λ had. inr (c.raise.ensures.has (raised fits) k.file (inl had)))
          (i.2 fits k w is)),
    )
