use Rattle.std.proofs.Common.{◌≡◌, List, [], ◌∷◌, length, suc, refl, ap, arith}
use Rattle.std.specs.List.{AllZip}
use Rattle.element_store.proofs.store.Store.size.Goals as goal

zip_length : {X Y : Type 0} (R : X → Y → Type 0) (xs : List X) (ys : List Y) → AllZip R xs ys → length xs ≡ length ys
zip_length R [] [] zip = refl
zip_length R [] (y ∷ ys) zip = absurd zip
zip_length R (x ∷ xs) [] zip = absurd zip
zip_length R (x ∷ xs) (y ∷ ys) zip = ap suc (zip_length R xs ys zip.1)

pub storage_size-requires : goal.storage_size-requires
storage_size-requires c =
    let same = zip_length _ c.args.self.now.index.entries c.args.self.now.entries.items c.requires.entries in
    let few = c.requires.index.rules.few in
    let long = c.deref.ensures.len in
    let e = ap length c.deref.ensures.value in
    omega (arith, same, few, e)
