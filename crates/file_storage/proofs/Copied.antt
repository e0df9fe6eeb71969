-- The loop that copies the bytes of files into changes.
use Rattle.std.proofs.Common.{◌≡◌, ◌+◌, ◌<◌, ℕ, List, [], ◌∷◌, ◌++◌, length, take, drop, sym, ◌∙◌, ap, append_assoc}
use Rattle.std.specs.Prelude.{map}
use Rattle.per_base.specs.declared.elements.Change.{Change}
use Rattle.per_base.specs.Maps.{Map}
use Rattle.file_handles.specs.Lending.{filled}

-- the changes so far, which have the bytes of their files, with those that are left
pub record IsCopying (files : Map) (start now : List Change) (at : ℕ) : Type 0 where
  pub fills : take at now ++ map (filled files) (drop at now) ≡ map (filled files) start

-- one more change
pub copies_more : (files : Map) (start now next : List Change) (at : ℕ) (change new : Change)
    → IsCopying files start now at → at < length now → drop at now ≡ change ∷ drop (at + 1) now
    → new ≡ filled files change → take (at + 1) next ≡ take at now ++ new ∷ []
    → drop (at + 1) next ≡ drop (at + 1) now → IsCopying files start next (at + 1)
copies_more files start now next at change new is less here filled_as before after = record {
  fills = ap (λ l. l ++ map (filled files) (drop (at + 1) next)) before
      ∙ append_assoc (take at now) (new ∷ []) (map (filled files) (drop (at + 1) next))
      ∙ ap (λ l. take at now ++ new ∷ map (filled files) l) after
      ∙ ap (λ c. take at now ++ c ∷ map (filled files) (drop (at + 1) now)) filled_as
      ∙ sym (ap (λ l. take at now ++ map (filled files) l) here) ∙ is.fills;
}
