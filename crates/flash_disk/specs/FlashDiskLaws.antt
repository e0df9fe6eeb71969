-- That a disk over a lawful flash meets the laws of a disk.
use Rattle.std.specs.Prelude.{◌≡◌, ℕ, ◌≤◌, Bool, true, false, cond, IsTrue}
use Rattle.std.proofs.Common.{sym, refl, ap, ◌∙◌, subst, inl, le_refl, true≢false}
use Rattle.disk_model.specs.Case.{Case}
use Rattle.disk_model.specs.Medium.{Medium, IsLawful}
use Rattle.flash_model.specs.State.{FlashState, FlashCase, IsStill}
use Rattle.flash_model.specs.FlashMedium.{FlashMedium, IsLawfulFlash}
use Rattle.flash_disk.specs.FlashFiles.{flash_files}
use Rattle.flash_disk.specs.Newest.{places, IsUsable}
use Rattle.flash_disk.specs.Standing.{IsAgreed}
use Rattle.flash_disk.specs.Apart.{StandApart}
use Rattle.flash_disk.specs.FlashDiskMedium.{put_announced, disk_case, files_told, flash_disk_medium}
use Rattle.flash_disk.specs.Looks.{still_case}

not_modelled : {X : Type 0} → IsTrue false → X
not_modelled t = absurd (true≢false (sym t))

-- a modelled disk has the clock of its flash
pub told_moment : (told : Bool) (n : ℕ) → IsTrue told → cond told n 0 ≡ n
told_moment true n t = refl
told_moment false n t = not_modelled t

-- and the files of its flash
pub told_files : (told : Bool) (m : FlashMedium) → IsTrue told → files_told told m ≡ flash_files m.state.pages m.blocks
told_files true m t = refl
told_files false m t = not_modelled t

-- between two calls a crash leaves what there is
pub still_is : (s : FlashState) → IsStill s (still_case s)
still_is s = record { before = refl; whole = refl; left = refl; settled = refl; announced = refl }

-- and all such cases are one case of the disk
pub same_case : (s : FlashState) (blocks blocks' : ℕ) (f : FlashCase) → blocks' ≡ blocks → IsStill s f
    → disk_case blocks' f ≡ disk_case blocks (still_case s)
same_case s blocks blocks' f same is = λ i. record {
  base = flash_files (is.settled i) (same i);
  full = put_announced (flash_files (is.settled i) (same i)) (is.announced i);
  left = flash_files (is.left i) (same i);
}

module _ (told : Bool) (m : FlashMedium) (own written : ℕ) where
  abbrev disk : Medium
  disk = flash_disk_medium told m own written

  -- a crash since now leaves what there is
  left_now : IsLawfulFlash told m → IsTrue told → (c : FlashCase) → m.since disk.moment c → c.left ≡ m.state.pages
  left_now lawful tells c past = (lawful.only_now c (subst (λ k. m.since k c) (told_moment told m.moment tells)
      past)).left

  -- the disk meets the laws where its flash does
  pub disk_is_lawful : IsLawfulFlash told m → IsLawful told disk
  disk_is_lawful lawful = record {
    counts_now = λ t c le now. (
      now.0,
      (
        still_case m.state,
        lawful.counts_now now.0 t (still_case m.state) (subst (λ k. t ≤ k) (told_moment told m.moment now.0) le)
            (still_is m.state),
        (λ b p generation body verifies. inl verifies, now.1),
      ),
    );
    only_now = λ c past.
        let f = past.1.0 in
        let since : m.since m.moment f = subst (λ k. m.since k f) (told_moment told m.moment past.0) past.1.1 in
        (past.0, past.1.2.1 ∙ same_case m.state m.blocks m.blocks f refl (lawful.only_now f since));
    reads_one = λ t. (disk_case m.blocks (still_case m.state), (t, refl), sym (told_files told m t));
    gives = λ t c now left. (t, (m.state, counts m.state t disk.moment (le_refl _) (still_is m.state), now.1));
    gave_counts = λ t c le past. (
      past.0,
      (
        past.1.0,
        counts past.1.0 past.0 t le (still past.1.0 past.0 past.1.1),
        past.1.2,
      ),
    );
    gives_only = λ c past.
        let is = past.1.2 ∙ same_case m.state m.blocks m.blocks (still_case past.1.0) refl
        (still past.1.0 past.0 past.1.1) in
        ((past.0, is), ap (λ (d : Case). d.left) is ∙ sym (told_files told m past.0));
    gave_left = λ t c past. (
      past.0,
      (
        still_case past.1.0,
        past.1.1,
        ((λ b p generation body verifies. inl verifies), past.1.2),
      ),
    );
  }
    where
      counts : (s : FlashState) → IsTrue told → (t : ℕ) → t ≤ disk.moment → IsStill m.state (still_case s)
          → m.since t (still_case s)
      counts s tells t le is = lawful.counts_now tells t (still_case s)
          (subst (λ k. t ≤ k) (told_moment told m.moment tells) le) is

      still : (s : FlashState) → IsTrue told → m.since disk.moment (still_case s) → IsStill m.state (still_case s)
      still s tells past = lawful.only_now (still_case s)
          (subst (λ k. m.since k (still_case s)) (told_moment told m.moment tells) past)

  -- what can be opened, has no rivals or stands apart is so since now: with what calls keep, at each moment from now
  -- on
  pub opens_now : IsLawfulFlash told m → 4 ≤ m.blocks → m.blocks ≤ 4096
      → (IsTrue told → IsUsable m.state.pages m.blocks) → disk.opens disk.moment
  opens_now lawful many few usable tells = record {
    many = many;
    few = few;
    now = usable tells;
    during = λ c past plain. subst (λ p. IsUsable p m.blocks) (sym (left_now lawful tells c past)) (usable tells);
  }

  pub agrees_now : IsLawfulFlash told m → (IsTrue told → IsAgreed m.state.pages (places m.blocks))
      → disk.agrees disk.moment
  agrees_now lawful agreed tells = record {
    now = agreed tells;
    during = λ c past plain. subst (λ p. IsAgreed p (places m.blocks)) (sym (left_now lawful tells c past))
        (agreed tells);
  }

  pub apart_now : IsLawfulFlash told m → 16 ≤ m.blocks → (IsTrue told → StandApart m.state.pages m.blocks)
      → disk.apart disk.moment
  apart_now lawful many stand tells = record {
    many = many;
    now = inl (stand tells);
    during = λ c past plain. inl (subst (λ p. StandApart p m.blocks) (sym (left_now lawful tells c past))
        (stand tells));
  }
