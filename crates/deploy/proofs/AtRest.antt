-- A register on a disk at which nothing was done: what its stops leave.
use Rattle.std.proofs.Common.{ℕ, List, Bool, inl}
use Rattle.disk_model.specs.Case.{Case, IsSettledAt}
use Rattle.disk_model.specs.Frame.{IsSettledOn}
use Rattle.disk_model.specs.Image.{Image}
use Rattle.disk_model.specs.Laws.{goes_none}
use Rattle.disk_model.specs.Medium.{EachCase, IsLawful, Medium, Quiet}
use Rattle.disk_model.specs.Place.{IsNoSlot}
use Rattle.disk_model.specs.lemmas.Frames.{settled_on}
use Rattle.disk_model.specs.declared.place.Place.{Place}
use Rattle.guarded_cell.specs.Stops.{AfterStop, FormatStops, HoldsLess, KeepsText, PutStops}

-- of guarded_cell
abbrev pub StillLaw : Type 0
StillLaw = (place : Place) (start : Image) (c : Case) → IsSettledOn (λ f. ¬ (IsNoSlot place f)) start c
    → AfterStop place (λ damaged image. HoldsLess place start image
    × ((g : ℕ) (text : List ℕ) → KeepsText place g text damaged start image)) c

module _ (still : StillLaw) (place : Place) (generation : ℕ) (text : List ℕ) where
  put_still : (start : Image) (c : Case) → IsSettledAt start c → PutStops place generation text start c
  put_still start c settled = record {
    slots = λ sound damaged image decays.
        let left = still place start c (settled_on (λ f. ¬ (IsNoSlot place f)) settled) sound damaged
        image decays in
        record {
          known = λ copy lt g t holds. inl (left.0 copy lt g t holds);
          kept = left.1 generation text;
          stands = inl (λ copy lt spared g t same holds. left.1 g t copy lt spared holds);
        };
    elsewhere = settled_on (IsNoSlot place) settled;
  }

  format_still : (start : Image) (c : Case) → IsSettledAt start c → FormatStops place generation text start c
  format_still start c settled = record {
    slots = λ sound damaged image decays.
        inl (still place start c (settled_on (λ f. ¬ (IsNoSlot place f)) settled) sound damaged image
        decays).0;
    elsewhere = settled_on (IsNoSlot place) settled;
  }

  -- a register that was to be written
  pub unwritten : (told : Bool) (m : Medium) → IsLawful told m → Quiet m
      → EachCase (PutStops place generation text m.image) m m
  unwritten told m law quiet = goes_none (PutStops place generation text m.image) law
      (λ c now. put_still m.image c (quiet c now))

  -- a register that was to be formatted
  pub unformatted : (told : Bool) (m : Medium) → IsLawful told m → Quiet m
      → EachCase (FormatStops place generation text m.image) m m
  unformatted told m law quiet = goes_none (FormatStops place generation text m.image) law
      (λ c now. format_still m.image c (quiet c now))
