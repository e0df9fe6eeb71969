-- A copy of files holds the same bytes.
use Rattle.std.proofs.Common.{◌≡◌, ℕ, List, [], ◌∷◌, refl, sym, subst, cond, Bool, true, false}
use Rattle.std.specs.Prelude.{Some, Vec, vec_len}
use Rattle.std.specs.List.{AllZip, each_same}
use Rattle.std.specs.Map.{lookup}
use Rattle.std.specs.BTreeMap.{is_at}
use Rattle.std.specs.Ordering.{nat_cmp}
use Rattle.std.proofs.Math.Path.{fun_ext}
use Rattle.std.specs.declared.alloc.Global.{Global}
use Rattle.disk_model.specs.History.{WrittenFiles, bytes_or_none, image_of}

-- a copy of one file's bytes under its number
abbrev pub IsCopy : ℕ × Vec ℕ Global → ℕ × Vec ℕ Global → Type 0
IsCopy p q = (q.0 ≡ p.0) × (AllZip (λ x y. y ≡ x) p.1.items q.1.items × (vec_len q.1 ≡ vec_len p.1))

lookup_copy : (test : ℕ → Bool) (es fs : List (ℕ × Vec ℕ Global)) → AllZip IsCopy es fs
    → bytes_or_none (lookup test fs) ≡ bytes_or_none (lookup test es)
lookup_copy test [] [] copies = refl
lookup_copy test [] (f ∷ fs) copies = absurd copies
lookup_copy test (e ∷ es) [] copies = absurd copies
lookup_copy test (e ∷ es) (f ∷ fs) copies =
    let (copy, others) = copies in
    let same : f.1.items ≡ e.1.items = each_same e.1.items f.1.items copy.1.0 in
    subst (λ k. bytes_or_none (cond (test k) (Some f.1) (lookup test fs))
    ≡ bytes_or_none (cond (test e.0) (Some e.1) (lookup test es))) (sym copy.0)
    (elim (test e.0) as (λ b. bytes_or_none (cond b (Some f.1) (lookup test fs))
    ≡ bytes_or_none (cond b (Some e.1) (lookup test es)))
    [ true ↦ same | false ↦ lookup_copy test es fs others ])

-- a copy holds the same bytes
pub image_of-copy : (files copy : WrittenFiles) → AllZip IsCopy files.entries copy.entries → image_of copy ≡ image_of files
image_of-copy files copy copies = fun_ext (λ f. lookup_copy (is_at (nat_cmp f)) files.entries copy.entries copies)
