use Rattle.std.proofs.Common.{◌≡◌, List, true, refl, sym, ap, ◌∙◌}
use Rattle.std.specs.Prelude.{nat_le, nat_lt}
use Rattle.std.specs.List.{list_all}
use Rattle.std.proofs.lemmas.Bool.{le-leb}
use Rattle.index_text.specs.declared.entries.IndexEntry.{IndexEntry}
use Rattle.index_text.specs.Sizes.{area_blocks, size_of}
use Rattle.element_state.specs.lemmas.Entrywise.{fits_by}
use Rattle.element_state.proofs.fitting.fits.Goals as goal

pub returns : goal.returns
returns c =
    let shape = c.args.shape.now in
    let i = c.args.index.now in
    let size : c.size_of.result ≡ size_of i.entries = c.size_of.ensures ∙ ap size_of c.as_slice-entries.ensures in
    let small : nat_le (size_of i.entries) shape.allowed ≡ true =
    ap (λ n. nat_le n shape.allowed) (sym size) ∙ le-leb c.size_of.result shape.allowed c.if-size_of-shape.false in
    let below = λ (es : List IndexEntry). list_all (λ (e : IndexEntry).
    list_all (λ n. nat_lt n (area_blocks shape.allowed)) e.blocks) es in
    c.are_below.ensures ∙ ap below c.as_slice-entries.ensures
    ∙ sym (fits_by shape.kind shape.allowed i true true (below i.entries)
    (sym c.is_same_kind.ensures ∙ c.if-not-is_same_kind.false) small refl)
