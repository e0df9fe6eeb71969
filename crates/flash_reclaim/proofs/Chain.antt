-- A flash was opened as a disk, its roots were read, and files were given up: what is left of it since it was handed in.
use Rattle.std.proofs.Common.{◌≡◌, ◌⊎◌, ℕ, ◌+◌, ◌<◌, ◌≤◌, Bool, true, false, cond, [], refl, sym, ap, subst, ◌∙◌}
use Rattle.std.proofs.Common.{inl, inr, ⊎_elim, arith, true≢false, Result, Ok, Err}
use Rattle.std.specs.Prelude.{IsTrue, IsFalse, IsErrAnd, IfErr}
use Rattle.per_base.specs.Causes.{Rose}
use Rattle.disk_model.specs.Case.{Case}
use Rattle.disk_model.specs.Image.{Image}
use Rattle.disk_model.specs.Medium.{Elapses, IsIdle}
use Rattle.flash_model.specs.Pages.{Pages, IsPlain}
use Rattle.flash_model.specs.State.{FlashCase}
use Rattle.flash_model.specs.FlashMedium.{FlashMedium}
use Rattle.flash_disk.specs.Apart.{HasNoRoom, StandApart, copy_of}
use Rattle.flash_disk.specs.FlashDiskLaws.{told_files, told_moment}
use Rattle.flash_disk.specs.FlashDiskMedium.{disk_case, disk_seen}
use Rattle.flash_disk.specs.FlashFiles.{flash_files}
use Rattle.flash_disk.specs.FlashView.{FlashView}
use Rattle.flash_disk.specs.Forgetting.{Forgets, GivesUp, IsFullOfKept, MayGiveNothing}
use Rattle.flash_disk.specs.KeepsApart.{ApartSince, LackedRoom, StandsOrLacked}
use Rattle.flash_disk.specs.Looks.{LeavesFlashAlone, OpensFlash, still_case}
use Rattle.flash_disk.specs.Newest.{IsUnusable, IsUsable, places}
use Rattle.flash_disk.specs.Sound.{files_on}
use Rattle.flash_disk.specs.Standing.{HasRivals, IsAgreed, StaysAgreed}
use Rattle.flash_disk.specs.Kept.{kept_image}
use Rattle.flash_disk.specs.declared.disk.FlashOpenError.{FlashOpenError}
use Rattle.flash_disk.specs.declared.disk.FlashOpenError.TheVariants.{WrongSize, Unusable, Device, OutOfMemory}
use Rattle.flash_disk.specs.Throughout.{AgreedSince, KeepsAgreed, KeepsUsable, UsableSince}
use Rattle.deploy_laws.specs.Laws.{AppFrameLaw, VersionsLaw}
use Rattle.flash_reclaim.specs.Naming.{IsFileGivenUp}
use Rattle.flash_reclaim.specs.Reclaiming.{AppsStand, AppsStandSince, HandsBackTold, IsFlashRefused, Reclaims}
use Rattle.flash_reclaim.specs.Reclaiming.{ReclaimsTold}
use Rattle.flash_reclaim.proofs.Standing.{FreeBankLaw, apps_stand}

-- ---- results

-- an error that is handed on
pub err_is : {T E : Type 0} (r : Result T E) (e : E) (P : E → Type 0) → IsErrAnd r (λ x. x ≡ e) → P e → IfErr r P
err_is (Ok y) e P is p = tt
err_is (Err x) e P is p = subst P (sym is) p

pub hands_back : (told : Bool) (old back : FlashMedium) (error : FlashOpenError)
    → (IsTrue told → IsFlashRefused old back error) → HandsBackTold told old back error
unfolding HandsBackTold
hands_back told old back error is = is

pub reclaims_told : (told : Bool) (old new : FlashMedium) (whole : Bool) (own : ℕ)
    → (IsTrue told → Reclaims old new whole own) → ReclaimsTold told old new whole own
unfolding ReclaimsTold
reclaims_told told old new whole own is = is

-- a count that rose, where the disk counted none of its own
pub rose_alone : (before was was_own now now_own : ℕ) → was ≡ before → was_own ≡ 0 → now_own ≡ 0
    → Rose (was + was_own) (now + now_own) → Rose before now
rose_alone before was was_own now now_own same one two rose = omega (arith, same, one, two, rose)

-- ---- nothing changed

module _ (frame : AppFrameLaw) (law : FreeBankLaw) (of : VersionsLaw) where
  pub same_stand : (old new : Image) → new ≡ old → AppsStand old new
  same_stand old new same = apps_stand frame law of old new (λ file few not. ap (λ (i : Image). i file) same)

  -- a flash that was only looked at
  pub looks_stand : (told : Bool) → IsTrue told → (old new : FlashMedium) → new.blocks ≡ old.blocks
      → LeavesFlashAlone told old new → AppsStandSince old new
  looks_stand told tells old new blocks looks =
      let files : (pages : Pages) → pages ≡ old.state.pages → flash_files pages new.blocks ≡ files_on old =
      (λ pages same. ap (λ p. flash_files p new.blocks) same ∙ ap (λ b. flash_files old.state.pages b) blocks) in
      record {
        now = same_stand (files_on old) (files_on new)
            (files new.state.pages (ap (λ s. s.pages) (looks.state tells)));
        during = λ c past plain. same_stand (files_on old) (flash_files c.left new.blocks)
            (files c.left (looks.during tells c past).left);
      }

  pub looks_refused : (told : Bool) → IsTrue told → (old new : FlashMedium) (error : FlashOpenError)
      → new.blocks ≡ old.blocks → LeavesFlashAlone told old new
      → (error ≡ WrongSize → (old.blocks < 4) ⊎ (4096 < old.blocks))
      → (error ≡ Unusable → IsUnusable old.state.pages old.blocks) → (error ≡ Device → Rose old.faults new.faults)
      → IsFlashRefused old new error
  looks_refused told tells old new error blocks looks size unusable device = record {
    stands = looks_stand told tells old new blocks looks;
    wrong_size = size;
    unusable = unusable;
    device = device;
  }

-- ---- the roots were read

module _ {F : Type 0} (told : Bool) (tells : IsTrue told) (medium : F → FlashMedium) (flash : F)
    (opened seen : FlashView F) (blocks : (medium opened.flash).blocks ≡ (medium flash).blocks)
    (pages : (medium opened.flash).state.pages ≡ (medium flash).state.pages)
    (meanwhile : OpensFlash told (medium flash) (medium opened.flash))
    (time : Elapses (disk_seen told medium opened) (disk_seen told medium seen))
    (idle : IsIdle (disk_seen told medium opened) (disk_seen told medium seen)) where
  abbrev start : FlashMedium
  start = medium flash

  abbrev first : FlashMedium
  first = medium opened.flash

  abbrev mid : FlashMedium
  mid = medium seen.flash

  earlier : start.moment ≤ (disk_seen told medium opened).moment
  earlier = subst (λ (m : ℕ). start.moment ≤ m) (sym (told_moment told first.moment tells)) (meanwhile.time tells).later

  pub later : start.moment ≤ mid.moment
  later =
      let one = earlier in
      let two = time.later in
      let same = told_moment told mid.moment tells in
      omega (arith, one, two, same)

  files_first : files_on first ≡ files_on start
  files_first = ap (λ p. flash_files p first.blocks) pages ∙ ap (λ b. flash_files start.state.pages b) blocks

  pub image_first : (disk_seen told medium opened).image ≡ files_on start
  image_first = told_files told first tells ∙ files_first

  -- no byte of a file changed
  pub files_seen : files_on mid ≡ files_on start
  files_seen = sym (told_files told mid tells) ∙ (idle.image ∙ image_first)

  -- and a crash meanwhile leaves them
  pub files_left : (c : FlashCase) → mid.since start.moment c → IsPlain c.before c.whole c.left
      → flash_files c.left mid.blocks ≡ files_on start
  files_left c past plain = ⊎_elim
      (λ was. ap (λ (d : Case). d.left) was.1.2.1
      ∙ (ap (λ p. flash_files p first.blocks) (⊎_elim (λ still. still.left ∙ sym pages)
      (λ settled. settled.left ∙ sym pages) (meanwhile.during tells was.1.0 was.1.1)) ∙ files_first))
      (λ since. (idle.during (disk_case mid.blocks c) since).left ∙ image_first)
      (time.nothing_else start.moment (disk_case mid.blocks c) earlier (tells, (c, past, (plain, refl))))

  pub usable_seen : 4 ≤ start.blocks → start.blocks ≤ 4096 → KeepsUsable start first → UsableSince mid start.moment
  usable_seen many few keeps = time.opens start.moment earlier
      (λ _. record {
        many = subst (λ (b : ℕ). 4 ≤ b) (sym keeps.blocks) many;
        few = subst (λ (b : ℕ). b ≤ 4096) (sym keeps.blocks) few;
        now = subst (λ (b : ℕ). IsUsable first.state.pages b) (sym keeps.blocks) keeps.now;
        during = λ c past plain. subst (λ (b : ℕ). IsUsable c.left b) (sym keeps.blocks) (keeps.during c past plain);
      })
      tells

  pub agreed_seen : KeepsAgreed start first → IsAgreed start.state.pages (places start.blocks)
      → IsAgreed mid.state.pages (places mid.blocks)
  agreed_seen keeps agreed =
      let since : AgreedSince mid start.moment = time.agrees start.moment earlier
      (λ _. record {
        now = subst (λ (b : ℕ). IsAgreed first.state.pages (places b)) (sym blocks) (keeps.now agreed);
        during = λ c past plain. subst (λ (b : ℕ). IsAgreed c.left (places b)) (sym blocks)
            (keeps.during c past plain agreed);
      })
      tells in
      since.now

  pub apart_seen : 16 ≤ start.blocks → StandApart start.state.pages start.blocks
      → StandsOrLacked mid start.moment mid.state.pages
  apart_seen many stand =
      let since : ApartSince mid start.moment = time.apart start.moment earlier
      (λ _. record {
        many = subst (λ (b : ℕ). 16 ≤ b) (sym blocks) many;
        now = inl (stands first.state.pages pages);
        during = λ c past plain. inl (stands c.left
            (⊎_elim (λ still. still.left) (λ settled. settled.left) (meanwhile.during tells c past)));
      })
      tells in
      since.now
    where
      stands : (p : Pages) → p ≡ start.state.pages → StandApart p first.blocks
      stands p same = subst (λ (b : ℕ). StandApart p b) (sym blocks)
          (subst (λ (q : Pages). StandApart q start.blocks) (sym same) stand)

  module _ (frame : AppFrameLaw) (law : FreeBankLaw) (of : VersionsLaw) where
    -- it was not more than looked at
    pub seen_stand : AppsStandSince start mid
    seen_stand = record {
      now = same_stand frame law of (files_on start) (files_on mid) files_seen;
      during = λ c past plain. same_stand frame law of (files_on start) (flash_files c.left mid.blocks)
          (files_left c past plain);
    }

    pub seen_reclaims : (own : ℕ) → 0 < own → 4 ≤ start.blocks → start.blocks ≤ 4096 → KeepsUsable start first
        → KeepsAgreed start first → Reclaims start mid false own
    seen_reclaims own some many few usable agreed = record {
      stands = seen_stand;
      files = λ is. absurd (true≢false (sym is));
      nothing = λ is. files_seen;
      due = λ is. inr some;
      own_faults = λ more. refl;
      opens = usable_seen many few usable;
      agreed = agreed_seen agreed;
      apart = apart_seen;
      faults = λ is. absurd (true≢false (sym is));
    }

    pub seen_refused : (error : FlashOpenError) → (error ≡ WrongSize → ⊥) → (error ≡ Unusable → ⊥)
        → (error ≡ Device → Rose start.faults mid.faults) → IsFlashRefused start mid error
    seen_refused error size unusable device = record {
      stands = seen_stand;
      wrong_size = λ is. absurd (size is);
      unusable = λ is. absurd (unusable is);
      device = device;
    }

    -- files were given up
    module _ (kept : ℕ → Bool)
        (named : (file : ℕ) → file < 4294967295 → (IsFileGivenUp (files_on start) file → ⊥) → kept file ≡ true)
        (now : FlashMedium) (gives : GivesUp kept mid now) where
      forgot_stand : (p : Pages) → Forgets kept mid.blocks mid.state.pages p
          → AppsStand (files_on start) (flash_files p now.blocks)
      forgot_stand p forgets = apps_stand frame law of (files_on start) (flash_files p now.blocks)
          (λ file few not. ap (λ b. flash_files p b file) gives.time.blocks
          ∙ (forgets.files file (named file few not) ∙ ap (λ (i : Image). i file) files_seen))

      since_then : {P : Type 0} → (c : FlashCase) → now.since start.moment c → IsPlain c.before c.whole c.left
          → (mid.since start.moment c → P) → (Forgets kept mid.blocks mid.state.pages c.left → P) → P
      since_then c past plain before after = ⊎_elim before (λ since. after ((gives.during c since).left plain))
          (gives.time.nothing_else start.moment c later past)

      pub given_stand : AppsStandSince start now
      given_stand = record {
        now = forgot_stand now.state.pages gives.now;
        during = λ c past plain. since_then c past plain
            (λ before. same_stand frame law of (files_on start) (flash_files c.left now.blocks)
            (ap (λ b. flash_files c.left b) gives.time.blocks ∙ files_left c before plain))
            (λ forgets. forgot_stand c.left forgets);
      }

      pub given_usable : UsableSince mid start.moment → UsableSince now start.moment
      given_usable usable = record {
        many = subst (λ (b : ℕ). 4 ≤ b) (sym gives.time.blocks) usable.many;
        few = subst (λ (b : ℕ). b ≤ 4096) (sym gives.time.blocks) usable.few;
        now = subst (λ b. IsUsable now.state.pages b) (sym gives.time.blocks) gives.now.usable;
        during = λ c past plain. subst (λ b. IsUsable c.left b) (sym gives.time.blocks) (since_then c past plain
            (λ before. usable.during c before plain) (λ forgets. forgets.usable));
      }

      -- where there was no room there was none
      lacked_still : LackedRoom mid start.moment → LackedRoom now start.moment
      lacked_still lacked = record {
        between = lacked.between;
        past = gives.time.keeps start.moment (still_case lacked.between) later lacked.past;
        earlier = lacked.earlier;
        write = lacked.write;
        last = lacked.last;
        apart = subst (StandApart lacked.between.pages) (sym gives.time.blocks) lacked.apart;
        no_room = subst (λ b. HasNoRoom lacked.between.pages b (copy_of lacked.write.file)) (sym gives.time.blocks)
            lacked.no_room;
      }

      pub given_apart : (StandApart mid.state.pages mid.blocks → StandApart now.state.pages now.blocks)
          → StandsOrLacked mid start.moment mid.state.pages → StandsOrLacked now start.moment now.state.pages
      given_apart stays = ⊎_elim (λ stand. inl (stays stand))
          (λ lacked. inr (lacked_still lacked))

      -- what kept it from giving up anything still does
      stuck_still : now.state.pages ≡ mid.state.pages → MayGiveNothing kept mid → MayGiveNothing kept now
      stuck_still same stuck =
          subst (λ b. HasRivals now.state.pages (places b) ⊎ IsFullOfKept kept now.state.pages b)
          (sym gives.time.blocks)
          (subst (λ p. HasRivals p (places mid.blocks) ⊎ IsFullOfKept kept p mid.blocks) (sym same) stuck)

      pub given_refused : (error : FlashOpenError) → (error ≡ Device) ⊎ (error ≡ OutOfMemory)
          → (error ≡ Device → Rose start.faults now.faults) → IsFlashRefused start now error
      given_refused error two device = record {
        stands = given_stand;
        wrong_size = λ is. absurd (⊎_elim (λ a. (let b = sym is ∙ a in cc)) (λ a. (let b = sym is ∙ a in cc)) two);
        unusable = λ is. absurd (⊎_elim (λ a. (let b = sym is ∙ a in cc)) (λ a. (let b = sym is ∙ a in cc)) two);
        device = device;
      }

      pub given_reclaims : (whole : Bool) → ((file : ℕ) → IsFileGivenUp (files_on start) file → kept file ≡ false)
          → (IsTrue whole → files_on now ≡ kept_image kept (files_on mid))
          → (IsFalse whole → now.state.pages ≡ mid.state.pages)
          → (IsFalse whole → MayGiveNothing kept mid) → StaysAgreed mid now.state.pages
          → (StandApart mid.state.pages mid.blocks → StandApart now.state.pages now.blocks)
          → 4 ≤ start.blocks → start.blocks ≤ 4096 → KeepsUsable start first → KeepsAgreed start first
          → now.faults ≡ start.faults → (own : ℕ) → own ≡ 0 → Reclaims start now whole own
      given_reclaims whole unnamed image same stuck agreed_on apart_on many few usable agreed faults own none = record {
        stands = given_stand;
        files = λ is. record {
          given_up = λ file up. ap (λ (i : Image). i file) (image is)
              ∙ ap (λ b. cond b (files_on mid file) []) (unnamed file up);
          kept = λ file small not. ap (λ (i : Image). i file) (image is)
              ∙ (ap (λ b. cond b (files_on mid file) []) (named file small not)
              ∙ ap (λ (i : Image). i file) files_seen);
        };
        nothing = λ is. ap (λ p. flash_files p now.blocks) (same is)
            ∙ (ap (λ b. flash_files mid.state.pages b) gives.time.blocks ∙ files_seen);
        due = λ is. inl (kept, λ file own up. true≢false (sym own ∙ unnamed file up), stuck_still (same is) (stuck is));
        own_faults = λ more. absurd (omega (arith, none, more));
        opens = given_usable (usable_seen many few usable);
        agreed = λ was. subst (λ b. IsAgreed now.state.pages (places b)) (sym gives.time.blocks)
            (agreed_on (agreed_seen agreed was));
        apart = λ enough stand. given_apart apart_on (apart_seen enough stand);
        faults = λ is. faults;
      }
