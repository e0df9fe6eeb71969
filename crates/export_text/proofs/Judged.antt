-- Which elements can be exported, and which cannot.
use Rattle.std.proofs.Common.{◌≡◌, ℕ, ◌<◌, ◌≤◌, true, false, List, length, take, refl, sym, ◌∙◌, subst, arith}
use Rattle.std.specs.Prelude.{◌↔◌, IsTrue}
use Rattle.std.specs.List.{AllByRecursion}
use Rattle.std.proofs.lemmas.List.{take_all}
use Rattle.per_base.specs.declared.elements.Fresh.{Fresh}
use Rattle.per_base.specs.declared.elements.StoreKind.{StoreKind}
use Rattle.index_text.specs.Reading.{ascends}
use Rattle.export_text.specs.Exports.{AreExportable, IsExportable, names_of}
use Rattle.export_text.proofs.Order.{ascends_from_sorted, sorted_from_ascends}

module _ (kind : StoreKind) (fs : List Fresh) where
  pub too_many : 1024 < length fs → IsTrue false ↔ AreExportable kind fs
  too_many lt = ((λ yes. absurd cc), (λ can. absurd (omega (arith, lt, can.few))))

  pub unordered : ascends (names_of fs) ≡ false → IsTrue false ↔ AreExportable kind fs
  unordered fails = ((λ yes. absurd cc), (λ can. sym fails ∙ ascends_from_sorted (names_of fs) can.ascend))

  pub each_can : (n : ℕ) → length fs ≤ n → AllByRecursion (IsExportable kind) (take n fs) → length fs ≤ 1024
      → ascends (names_of fs) ≡ true → IsTrue true ↔ AreExportable kind fs
  each_can n past each few ascend = (
    (λ yes. record {
      few = few;
      each = subst (AllByRecursion (IsExportable kind)) (take_all n fs past) each;
      ascend = sorted_from_ascends (names_of fs) ascend;
    }),
    (λ can. refl),
  )
