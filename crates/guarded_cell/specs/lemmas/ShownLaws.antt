-- The texts that are held show what the copies hold, and the one that stands is chosen of them.
use Rattle.std.proofs.Common.{ℕ, ◌+◌, ◌≤◌, List, get_or, sym, subst}
use Rattle.std.specs.List.{Contains}
use Rattle.disk_model.specs.Image.{Image}
use Rattle.disk_model.specs.declared.place.Place.{Place}
use Rattle.guarded_cell.specs.declared.looking.Seen.{Seen}
use Rattle.guarded_cell.specs.Held.{holds, held, standing}
use Rattle.guarded_cell.specs.lemmas.CopyLaws.{passing_is, is_passing}
use Rattle.guarded_cell.specs.lemmas.HeldLaws.{holds_is, is_holds, held_copies, held_all, held_descends}
use Rattle.guarded_cell.specs.lemmas.HeldLaws.{standing_copies}
use Rattle.guarded_cell.specs.lemmas.HeldLaws.{standing_stands, standing_none}
use Rattle.guarded_cell.specs.lemmas.FirstLaws.{held_firsts, held_some, standing_first}
use Rattle.guarded_cell.specs.lemmas.SeenLaws.{text_of}
use Rattle.guarded_cell.specs.Shown.{ShowsTexts, Chooses}

pub held_shows : (image : Image) (place : Place) → ShowsTexts image place (held image place)
held_shows image place = record {
  every = λ copy generation text lt v. held_all image place copy generation text lt v;
  copies_are = held_copies image place;
  holders = λ k d lt copy inside.
      let seen : Seen = get_or (held image place) k d in
      let it = is_passing (λ c. holds image place c (text_of seen)) place.copies copy
      (subst (λ (cs : List ℕ). Contains cs (copy + 1)) (held_copies image place k d lt) inside) in
      (it.0, holds_is image place copy (text_of seen) it.1);
  all_holders = λ k d lt copy within v.
      let seen : Seen = get_or (held image place) k d in
      subst (λ (cs : List ℕ). Contains cs (copy + 1)) (sym (held_copies image place k d lt))
      (passing_is (λ c. holds image place c (text_of seen)) place.copies copy within
      (is_holds image place copy (text_of seen) v));
  some = held_some image place;
  descends = λ i j d before lt. held_descends image place i j d before lt;
  firsts = λ i j d before lt e. held_firsts image place i j d before lt e;
}

pub standing_chosen : (image : Image) (place : Place) (m : ℕ) → 1 ≤ m
    → Chooses image place m (standing image place m)
standing_chosen image place m positive = record {
  stands = λ seen e. standing_stands image place m seen positive e;
  copies_are = λ seen e. (standing_copies image place m seen e).0;
  first_held = λ seen text e some differ. standing_first image place m seen text positive e some differ;
  nothing = λ e. standing_none image place m positive e;
}
