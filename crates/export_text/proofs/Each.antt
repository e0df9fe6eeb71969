-- What holds of each element holds of the one at a place.
use Rattle.std.proofs.Common.{◌≡◌, ℕ, ◌^◌, ◌<◌, List, length, get_or, sym, subst, arith}
use Rattle.std.specs.List.{AllByRecursion}
use Rattle.std.proofs.lemmas.List.Elements.{All-from_recursion}
use Rattle.per_base.specs.declared.elements.Fresh.{Fresh}
use Rattle.per_base.specs.declared.elements.StoreKind.{StoreKind}
use Rattle.index_text.specs.lemmas.FieldReaders.{max_len_fits}
use Rattle.export_text.specs.Exports.{IsExportable}

pub short_at : (kind : StoreKind) (fs : List Fresh) (i : ℕ) (f : Fresh) → AllByRecursion (IsExportable kind) fs
    → i < length fs → f ≡ get_or fs i f → length f.bytes < 2 ^ 32
short_at kind fs i f each within is =
    let at : IsExportable kind f = subst (IsExportable kind) (sym is)
    (All-from_recursion (IsExportable kind) fs each i f within) in
    omega (arith, at.len, max_len_fits kind)
