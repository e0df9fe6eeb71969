-- The words of calls that are made often are looked for first, and read as every other.
use Rattle.std.proofs.Common.{◌≡◌, ℕ, List, Bool, true, Some, refl, sym, subst}
use Rattle.std.specs.Prelude.{codes}
use Rattle.std.specs.Str.{bytes_eq}
use Rattle.std.proofs.lemmas.Slice.Eq.{bytes_eq-Decides}
use Rattle.per_base.specs.Fields.{◌>>=◌}
use Rattle.value_text.specs.Parsing.{value_in}
use Rattle.command_text.specs.Reading.{detail_call, element_call, element_front, element_in, manifest_call, storage_call}
use Rattle.command_text.specs.declared.calls.Call.TheVariants as call

pub of_get : (word text : List ℕ) → bytes_eq word (codes "get") ≡ true
    → manifest_call word text ≡ (element_in text >>= λ x. Some (call.Get x.0 x.1))
unfolding manifest_call storage_call element_call
of_get word text is =
    subst (λ (w : List ℕ). manifest_call w text ≡ (element_in text >>= λ x. Some (call.Get x.0 x.1)))
    (sym ((bytes_eq-Decides word (codes "get")).0 is)) refl

pub of_set : (word text : List ℕ) → bytes_eq word (codes "set") ≡ true
    → manifest_call word text ≡ (element_front text >>= λ x. value_in x.2 >>= λ value. Some (call.Set x.0 x.1 value))
unfolding manifest_call storage_call element_call detail_call
of_set word text is = subst
    (λ (w : List ℕ). manifest_call w text
    ≡ (element_front text >>= λ x. value_in x.2 >>= λ value. Some (call.Set x.0 x.1 value)))
    (sym ((bytes_eq-Decides word (codes "set")).0 is)) refl
