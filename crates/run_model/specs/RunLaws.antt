-- A run, command by command: what was said of it before a command is said of it with that command, and at its end all
-- that is promised follows.
use Rattle.std.specs.Prelude.{◌≡◌, ◌⊎◌, ℕ, zero, suc, ◌+◌, ◌<◌, List, [], ◌∷◌, ◌++◌, length, map, Option, Some}
use Rattle.std.specs.Prelude.{None, Bool, IsTrue, true, false}
use Rattle.std.specs.List.{AllByRecursion}
use Rattle.std.proofs.Common.{refl, sym, ap, ap₂, ◌∙◌, subst, le_trans, inl, inr, ⊎_elim, arith, true≢false}
use Rattle.std.specs.Io.KnownBytes.{Appends}
use Rattle.disk_model.specs.Case.{Case}
use Rattle.disk_model.specs.Laws.{elapses_on}
use Rattle.disk_model.specs.Medium.{Medium, OnlyReads, Quiet, IsLawful, Elapses}
use Rattle.command_text.specs.declared.calls.Event.{Event}
use Rattle.command_text.specs.declared.replies.Reply.{Reply}
use Rattle.command_text.specs.declared.lines.Line.TheVariants as line
use Rattle.command_text.specs.Grammar.{IsLine}
use Rattle.deploy_laws.specs.Apps.{App, app_at, IsCleanApp}
use Rattle.deploy_laws.specs.Pieces.{IsSoundApp}
use Rattle.deploy_laws.specs.Stands.{Stands}
use Rattle.run_model.specs.AppLaws.{AppLaws}
use Rattle.run_model.specs.Converters.{Converters}
use Rattle.run_model.specs.Worlds.{Application, after_start, Disks, Doubt, World, disks, disk_at, resting, all_resting}
use Rattle.run_model.specs.Worlds.{world_at, after_run}
use Rattle.run_model.specs.Lasting.{IsWorld, starts_so}
use Rattle.run_model.specs.Steps.{StepsTo, Leads}
use Rattle.run_model.specs.Moments.{AtMoment, Between, InDoubt, IsInDoubt, IsMomentOf, StepKeeps, StopKeeps, Stayed}
use Rattle.run_model.specs.Moments.{
  last_of,
  AreImaged,
  AreSoundDoubts,
  IsDecided,
  IsImaged,
  IsSoundDoubt,
  IsSideImaged,
  IsWorldImaged,
  OrBefore,
}
use Rattle.disk_model.specs.Image.{Image}
use Rattle.command_text.specs.declared.calls.Event.TheVariants as event
use Rattle.run_model.specs.Worlds.{app_of, with_app}
use Rattle.run_model.specs.Steps.{calls_device, doubt_after}
use Rattle.run_model.specs.MomentLaws.{last_is, start_stays, step_stays, end_stays, stop_stays, sound_front}
use Rattle.run_model.specs.KeepLaws.{rests}
use Rattle.run_model.specs.Runtimes.{Running, Memory, with_disk, world_of, StepsOn, Stepped, Stopped, Starts}
use Rattle.run_model.specs.Runtimes.{StartKeeps, IsUnwritten, RuntimeAt, runtime_at, world_in}
use Rattle.run_model.specs.Starting.{at_entry}
use Rattle.run_model.specs.Bounds.{AreBounded, IsBounded, IsBegunWithin, StartsWithin, bytes_after}
use Rattle.run_model.specs.Endings.{Ending, HasStarted, HasEnded, has_started}
use Rattle.run_model.specs.Turns.{DiskBytes, Turn, Follow, bytes_now, turn, worlds_of, replies_text, IsBlamed}
use Rattle.run_model.specs.Turns.{AreBlamed}
use Rattle.run_model.specs.Runs.{AreCases, IsCaseOfDoubt, IsReadSince, Everywhen, IsSettled, starting, between, within}
use Rattle.run_model.specs.Runs.{DiskSide, IsSoundEnd, all_ended, none_written, sound_reads}

-- ---- the world of the memory

disk_there : (disk : ℕ → App) (app : ℕ) (rs : List Running) (i : ℕ) → i < length rs
    → disk_at (map (λ (a : Application). a.disk) (with_disk disk app rs)) i ≡ disk (app + i)
disk_there disk app [] i lt = absurd (omega (arith, lt))
disk_there disk app (r ∷ rs) zero lt = ap disk (omega arith)
disk_there disk app (r ∷ rs) (suc i) lt = let less : i < length rs =
    omega (arith, lt) in disk_there disk (app + 1) rs i less ∙ ap disk (omega arith)

rest_there : (disk : ℕ → App) (app : ℕ) (rs : List Running)
    → all_resting disk app (length rs) ≡ map (λ (a : Application). resting a.disk) (with_disk disk app rs)
rest_there disk app [] = refl
rest_there disk app (r ∷ rs) = ap (λ (xs : List Application). resting (disk app) ∷ xs) (rest_there disk (app + 1) rs)

-- ---- causes

-- one command more, with its cause
pub blamed_on : (before : ℕ) (ts : List Turn) (t : Turn) (after : ℕ) → AreBlamed before ts after
    → IsBlamed after t.faults t.reply → AreBlamed before (ts ++ t ∷ []) t.faults
blamed_on before [] t after same cause = (subst (λ (n : ℕ). IsBlamed n t.faults t.reply) same cause, refl)
blamed_on before (u ∷ us) t after blamed cause = (blamed.0, blamed_on u.faults us t after blamed.1 cause)

-- ---- what is said of a run so far

-- the world once a run on this disk has started
abbrev pub started_on : Medium → World
started_on old = after_start (world_at old.image)

start_calm : (m : Medium) → (started_on m).doubt ≡ None
unfolding world_at
start_calm m = refl

-- A run so far from the disk `old`, with no command in progress: its start led from what was there to the applications
-- at rest, and these turns, each a command with its reply and the world after it, led on to the runtime `now`, in this
-- doubt.
pub record Going (converters : Converters) (old : Medium) (turns : List Turn) (doubt : Option Doubt)
    (now : RuntimeAt Medium) : Type 0 where
  pub eight : length now.memory.apps ≡ 8
  -- each reply and each world is the specified one, and the last world is what is there now
  pub follow : Follow converters (started_on old) turns
  pub worlds : AllByRecursion IsWorld (started_on old ∷ worlds_of turns)
  pub last : last_of (started_on old) (worlds_of turns) ≡ world_in now doubt
  -- a doubt has a case of the disk since the start, and what reads then gave; without one nothing is pending
  pub cases : AreCases (IsReadSince old now.disk) (worlds_of turns)
  pub quiet : doubt ≡ None → Quiet now.disk
  -- each application is what some image denotes, and each moment so far is one of the start or of a command
  pub imaged : (app : ℕ) → app < 8 → AreImaged app (started_on old ∷ worlds_of turns)
  pub stayed : (app : ℕ) → app < 8 → IsCleanApp app old.image → AreSoundDoubts app (worlds_of turns)
      → Stayed app (world_at old.image) (started_on old) (worlds_of turns) old now.disk
  -- what each command wrote, from the bytes that the start left on
  pub begun : DiskBytes
  pub starts : StartsWithin (bytes_now old) begun
  pub bounded : AreBounded converters (started_on old) begun turns
  pub held : bytes_now now.disk ≡ bytes_after begun turns
  pub time : Elapses old now.disk

-- ---- what applications came from

there_imaged : (app : ℕ) → app < 8 → (image : Image) (memory : Memory) (doubt : Option Doubt) → length memory.apps ≡ 8
    → IsImaged app (disks (world_of image memory doubt))
there_imaged app lt image memory doubt eight = let less : app < length memory.apps = omega (arith, lt, eight) in
    (image, disk_there (app_at image) 0 memory.apps app less ∙ ap (app_at image) (omega arith))

after_imaged : (app : ℕ) (calls : Bool) (doubt : Option Doubt) → IsSideImaged app doubt
    → IsSideImaged app (doubt_after calls doubt)
after_imaged app true doubt is = tt
after_imaged app false doubt is = is

side_as : (app : ℕ) (w v : World) → w ≡ v → IsSideImaged app v.doubt → IsSideImaged app w.doubt
side_as app w v same is = subst (λ (x : World). IsSideImaged app x.doubt) (sym same) is

side_imaged : (converters : Converters) (app : ℕ) (w : World) (e : Event) (reply : Reply) (w' : World)
    (old new : Medium) → IsWorldImaged app w → StepsOn converters w e reply w' (OnlyReads old new)
    → IsSideImaged app w'.doubt
side_imaged converters app w (event.Now t) reply w' old new is (inl step) =
    side_as app w' (record w { now = t }) step.1 is.1
side_imaged converters app w (event.App b c) reply w' old new is (inl step) =
    side_as app w' (record (with_app w b step.0.1) { doubt = doubt_after (calls_device (app_of w b) c) w.doubt })
    step.3
    (after_imaged app (calls_device (app_of w b) c) w.doubt is.1)
side_imaged converters app w (event.Now t) reply w' old new is (inr (inl fails)) = absurd fails.0
side_imaged converters app w (event.App b c) reply w' old new is (inr (inl fails)) =
    side_as app w' w fails.0.2 is.1
side_imaged converters app w (event.Now t) reply w' old new is (inr (inr fails)) = absurd fails
side_imaged converters app w (event.App b c) reply w' old new is (inr (inr fails)) =
    side_as app w' (record (with_app w b fails.0) {
      doubt = Some (record { before = disks w; after = fails.1; case = fails.2 });
    }) fails.6 is.0

imaged_end : (app : ℕ) (ws : List World) (w : World) → AreImaged app ws → IsWorldImaged app w
    → AreImaged app (ws ++ w ∷ [])
imaged_end app [] w are is = (is, tt)
imaged_end app (u ∷ us) w are is = (are.0, imaged_end app us w are.1 is)

pub imaged_last : (app : ℕ) (w : World) (ws : List World) → IsWorldImaged app w → AreImaged app ws
    → IsWorldImaged app (last_of w ws)
imaged_last app w [] is are = is
imaged_last app w (u ∷ us) is are = imaged_last app u us are.0 are.1

-- ---- clean places at the end

-- what stands between two disks in a sound case leaves clean places
between_clean : AppLaws → (app : ℕ) (before after : Disks) (c : Case) → IsImaged app before → IsSoundApp app c
    → Between app before after c → IsCleanApp app c.left
between_clean laws app before after c is passes stands = laws.clean app is.0 c.left (disk_at after app)
    (subst (λ (a : App). Stands app c.left [] a (disk_at after app)) is.1
    (stands passes [] c.left (λ place of. record { others = λ f outside. refl; pieces = λ x piece. piece })))

doubt_clean : AppLaws → (app : ℕ) (doubt : Option Doubt) (c : Case) → IsSideImaged app doubt → IsSoundApp app c
    → InDoubt app doubt c → IsCleanApp app c.left
doubt_clean laws app None c is passes there = absurd there
doubt_clean laws app (Some d) c is passes there = between_clean laws app d.before d.after c is passes there

moment_clean : AppLaws → (app : ℕ) (w : World) (next : Disks) (c : Case) → IsWorldImaged app w → IsSoundApp app c
    → IsMomentOf app w [] next c → IsCleanApp app c.left
moment_clean laws app w next c is passes (inl stands) = between_clean laws app (disks w) next c is.0 passes stands
moment_clean laws app w next c is passes (inr there) = doubt_clean laws app w.doubt c is.1 passes there

-- the moments of the exit, of which one leaves what reads give
exit_clean : AppLaws → (app : ℕ) (w : World) (none : Type 0) (next : Disks) (old new : Medium) → IsWorldImaged app w
    → IsCleanApp app old.image
    → ((c : Case) → new.now c → (none × OnlyReads old new) ⊎ IsMomentOf app w [] next c)
    → (c : Case) → new.now c → c.left ≡ new.image → IsSoundApp app c → IsCleanApp app new.image
exit_clean laws app w none next old new is clean at_exit c now left passes = ⊎_elim
    (λ idle. subst (λ (i : Image). IsCleanApp app i) (sym idle.1.image) clean)
    (λ at. subst (λ (i : Image). IsCleanApp app i) left (moment_clean laws app w next c is passes at))
    (at_exit c now)

-- ---- one command more

-- whatever else is known of the disk, it is a step
steps_on : (converters : Converters) (w : World) (e : Event) (reply : Reply) (w' : World)
    (old new : Medium) → StepsOn converters w e reply w' (OnlyReads old new)
    → StepsTo converters w e reply w'
steps_on converters w e reply w' old new (inl step) = inl step
steps_on converters w e reply w' old new (inr (inl fails)) = inr (inl fails.0)
steps_on converters w e reply w' old new (inr (inr fails)) = inr (inr fails)

worlds_on : (ts : List Turn) (t : Turn) → worlds_of (ts ++ t ∷ []) ≡ worlds_of ts ++ t.world ∷ []
worlds_on [] t = refl
worlds_on (u ∷ us) t = ap (λ (ws : List World). u.world ∷ ws) (worlds_on us t)

follow_on : (converters : Converters) (w : World) (ts : List Turn) (t : Turn) → Follow converters w ts
    → StepsTo converters (last_of w (worlds_of ts)) t.event t.reply t.world → Follow converters w (ts ++ t ∷ [])
follow_on converters w [] t follow step = (step, tt)
follow_on converters w (u ∷ us) t follow step = (follow.0, follow_on converters u.world us t follow.1 step)

case_on : (P Q : Case → Type 0) (doubt : Option Doubt) → ((c : Case) → P c → Q c) → IsCaseOfDoubt P doubt
    → IsCaseOfDoubt Q doubt
case_on P Q None more is = tt
case_on P Q (Some d) more is = more d.case is

cases_more : (P Q : Case → Type 0) (ws : List World) → ((c : Case) → P c → Q c) → AreCases P ws → AreCases Q ws
cases_more P Q [] more are = tt
cases_more P Q (w ∷ ws) more are = (case_on P Q w.doubt more are.0, cases_more P Q ws more are.1)

cases_end : (P : Case → Type 0) (ws : List World) (w : World) → AreCases P ws → IsCaseOfDoubt P w.doubt
    → AreCases P (ws ++ w ∷ [])
cases_end P [] w are is = (is, tt)
cases_end P (u ∷ us) w are is = (are.0, cases_end P us w are.1 is)

worlds_end : (ws : List World) (w : World) → AllByRecursion IsWorld ws → IsWorld w
    → AllByRecursion IsWorld (ws ++ w ∷ [])
worlds_end [] w are is = (is, tt)
worlds_end (u ∷ us) w are is = (are.0, worlds_end us w are.1 is)

-- the doubt of the last world is one of the worlds', or that of the first
case_last : (P : Case → Type 0) (w : World) (ws : List World) → IsCaseOfDoubt P w.doubt → AreCases P ws
    → IsCaseOfDoubt P (last_of w ws).doubt
case_last P w [] is are = is
case_last P w (u ∷ us) is are = case_last P u us are.0 are.1

new_case : (P Q : Case → Type 0) (doubt doubt' : Option Doubt) → ((c : Case) → P c → Q c) → IsCaseOfDoubt P doubt
    → ((d : Doubt) → doubt' ≡ Some d → (doubt ≡ Some d) ⊎ Q d.case) → IsCaseOfDoubt Q doubt'
new_case P Q doubt None more is new = tt
new_case P Q doubt (Some d) more is new = ⊎_elim (λ same. more d.case (subst (λ x. IsCaseOfDoubt P x) same is))
    (λ q. q)
    (new d refl)

-- what was read since an earlier moment stays so
read_on : (old now new : Medium) → Elapses old now → Elapses now new → (c : Case) → IsReadSince old now c
    → IsReadSince old new c
read_on old now new time later c was = later.gave.keeps old.moment c time.later was

-- and what is read now counts
read_now : (told : Bool) (old now new : Medium) → IsTrue told → IsLawful told new → Elapses old now → Elapses now new
    → (c : Case) → new.now c
    → c.left ≡ new.image → IsReadSince old new c
read_now told old now new tells lawful time later c at left =
    lawful.gave_counts old.moment c (le_trans time.later later.later) (lawful.gives tells c at left)

-- ---- what was written

after_on : (b : DiskBytes) (ts : List Turn) (t : Turn) → bytes_after b (ts ++ t ∷ []) ≡ t.bytes
after_on b [] t = refl
after_on b (u ∷ us) t = after_on u.bytes us t

bounded_on : (converters : Converters) (w : World) (b : DiskBytes) (ts : List Turn) (t : Turn)
    → AreBounded converters w b ts
    → IsBounded converters (last_of w (worlds_of ts)) t.event (Some t.reply) (bytes_after b ts) t.bytes
    → AreBounded converters w b (ts ++ t ∷ [])
bounded_on converters w b [] t are is = (is, tt)
bounded_on converters w b (u ∷ us) t are is = (are.0, bounded_on converters u.world u.bytes us t are.1 is)

same_bytes : (old new : Medium) → IsUnwritten old new → bytes_now new ≡ bytes_now old
same_bytes old new is = ap₂ (λ (i : Image) (n : ℕ). record { image = i; written = n }) is.0 is.1

module _ (converters : Converters) (old : Medium) where
  abbrev entry : World
  entry = world_at old.image

  abbrev start : World
  start = started_on old

  -- the command that was answered, from the last world
  bounded_here : (turns : List Turn) (e : Event) (reply : Reply) (memory memory' : Memory) (doubt : Option Doubt)
      (now new : Medium) → Elapses now new
      → (going : Going converters old turns doubt (runtime_at memory now))
      → Stepped converters e reply doubt (runtime_at memory now) (runtime_at memory' new)
      → IsBounded converters (last_of start (worlds_of turns)) e (Some reply) (bytes_after going.begun turns)
      (bytes_now new)
  bounded_here turns e reply memory memory' doubt now new time going s =
      subst (λ (w : World). IsBounded converters w e (Some reply) (bytes_after going.begun turns) (bytes_now new))
      (sym going.last)
      (subst (λ (b : DiskBytes). IsBounded converters (world_of now.image memory doubt) e (Some reply) b
      (bytes_now new))
      going.held (record {
        elsewhere = s.aside.elsewhere;
        place = s.place;
        unwritten = λ none. same_bytes now new (s.unwritten none);
        written = s.written;
        within = s.within;
        opens = s.refused;
        later = time.written;
      }))

  -- and one in progress
  begun_here : (turns : List Turn) (e : Event) (memory : Memory) (doubt : Option Doubt) (now new : Medium)
      → Elapses now new → (going : Going converters old turns doubt (runtime_at memory now))
      → Stopped converters e doubt (runtime_at memory now) new
      → IsBegunWithin converters (last_of start (worlds_of turns)) e (bytes_after going.begun turns) (bytes_now new)
  begun_here turns e memory doubt now new time going s =
      subst (λ (w : World). IsBegunWithin converters w e (bytes_after going.begun turns) (bytes_now new))
      (sym going.last)
      (subst (λ (b : DiskBytes). IsBegunWithin converters (world_of now.image memory doubt) e b (bytes_now new))
      going.held (record {
        elsewhere = s.aside.elsewhere;
        place = s.place;
        unwritten = λ none. same_bytes now new (s.unwritten none);
        written = s.written;
        within = s.within;
        opens = λ refused. absurd (true≢false (sym refused));
        later = time.written;
      }))

  pub goes_on : (turns : List Turn) (e : Event) (reply : Reply) (memory memory' : Memory) (doubt : Option Doubt)
      (told : Bool) (now new : Medium) → IsTrue told
      → IsLawful told new → Elapses now new → Going converters old turns doubt (runtime_at memory now)
      → (s : Stepped converters e reply doubt (runtime_at memory now) (runtime_at memory' new))
      → Going converters old (turns ++ turn e reply new (world_of new.image memory' s.doubt') ∷ []) s.doubt'
      (runtime_at memory' new)
  goes_on turns e reply memory memory' doubt told now new tells lawful time going s =
      let w' : World = world_of new.image memory' s.doubt' in
      let t : Turn = turn e reply new w' in
      record {
        eight = s.eight;
        follow = follow_on converters start turns t going.follow
            (subst (λ w. StepsTo converters w e reply w') (sym going.last)
            (steps_on converters (world_of now.image memory doubt) e reply w' now new s.step));
        worlds = (
          going.worlds.0,
          subst (λ ws. AllByRecursion IsWorld ws) (sym (worlds_on turns t))
              (worlds_end (worlds_of turns) w' going.worlds.1 s.world),
        );
        last = subst (λ ws. last_of start ws ≡ w') (sym (worlds_on turns t)) (last_is start (worlds_of turns) w');
        cases = subst (λ ws. AreCases (IsReadSince old new) ws) (sym (worlds_on turns t))
            (cases_end (IsReadSince old new) (worlds_of turns) w'
            (cases_more (IsReadSince old now) (IsReadSince old new) (worlds_of turns)
            (read_on old now new going.time time) going.cases)
            (new_case (IsReadSince old now) (IsReadSince old new) doubt s.doubt' (read_on old now new going.time time)
            (subst (λ (w : World). IsCaseOfDoubt (IsReadSince old now) w.doubt) going.last
            (case_last (IsReadSince old now) start (worlds_of turns)
            (subst (λ d. IsCaseOfDoubt (IsReadSince old now) d) (sym (start_calm old)) tt) going.cases))
            (λ d is. ⊎_elim (λ same. inl same)
            (λ at. inr (read_now told old now new tells lawful going.time time d.case
            at.0 at.1)) (s.case d is))));
        quiet = s.quiet;
        imaged = λ app lt.
            let are = going.imaged app lt in (
              are.0,
              subst (λ ws. AreImaged app ws) (sym (worlds_on turns t))
                  (imaged_end app (worlds_of turns) w' are.1 (
                    there_imaged app lt new.image memory' s.doubt' s.eight,
                    side_imaged converters app (world_of now.image memory doubt) e reply w' now new
                        (subst (λ w. IsWorldImaged app w) going.last (imaged_last app start (worlds_of turns) are.0
                        are.1))
                        s.step,
                  )),
            );
        stayed = λ app lt clean sound.
            let sound' : AreSoundDoubts app (worlds_of turns ++ w' ∷ []) =
            subst (λ ws. AreSoundDoubts app ws) (worlds_on turns t) sound in
            subst (λ ws. Stayed app entry start ws old new) (sym (worlds_on turns t))
            (step_stays app entry start (worlds_of turns) w' old now new (start_calm old) going.time time s.quiet
            (λ d is. ⊎_elim (λ same. inl (ap (λ (w : World). w.doubt) going.last ∙ same)) (λ at. inr at.0)
            (s.case d is)) sound'
            (subst (λ w. StepKeeps app w w' now new) (sym going.last) (s.keeps app lt))
            (going.stayed app lt clean (sound_front app (worlds_of turns) w' sound')));
        begun = going.begun;
        starts = going.starts;
        bounded = bounded_on converters start going.begun turns t going.bounded
            (bounded_here turns e reply memory memory' doubt now new time going s);
        held = sym (after_on going.begun turns t);
        time = elapses_on going.time time;
      }

  -- ---- the end of a run in which every command has ended

  disk_of : (turns : List Turn) (memory : Memory) (doubt : Option Doubt) (now : Medium)
      → Going converters old turns doubt (runtime_at memory now) → (app : ℕ) → app < 8
      → app_at now.image app ≡ disk_at (disks (last_of start (worlds_of turns))) app
  disk_of turns memory doubt now going app lt = let less : app < length memory.apps =
      omega (arith, lt, going.eight) in
      sym (ap (λ (w : World). disk_at (disks w) app) going.last
      ∙ (disk_there (app_at now.image) 0 memory.apps app less ∙ ap (app_at now.image) (omega arith)))

  exit_moment : AppLaws → (app : ℕ) → app < 8 → (w : World) (d : Option Doubt) (m : Medium) → IsCleanApp app m.image
      → app_at m.image app ≡ disk_at (disks w) app
      → (d ≡ None → Quiet m) → (IsInDoubt d → (c : Case) → m.now c → InDoubt app d c) → (c : Case) → m.now c
      → Between app (disks w) (disks w) c ⊎ InDoubt app d c
  exit_moment laws app lt w None m clean is quiet calm' c at =
      inl (rests laws app lt (disks w) m clean is (quiet refl) c at)
  exit_moment laws app lt w (Some d) m clean is quiet calm' c at = inr (calm' tt c at)

  -- the start is the first stretch of the run
  from_start : (app : ℕ) (worlds : List World) (next : Disks) (c : Case)
      → OrBefore old (λ c. Between app (disks entry) (disks start) c ⊎ IsMomentOf app start worlds next c) c
      → OrBefore old (IsMomentOf app entry (start ∷ worlds) next) c
  from_start app worlds next c m = ⊎_elim (λ before. inl before)
      (λ s. inr (⊎_elim (λ b. inl (subst (λ d. AtMoment app (disks entry) (disks start) d c) (sym (start_calm old)) b))
      (λ x. inr x) s)) m

  decided_start : (app : ℕ) → IsDecided app start.doubt
  decided_start app = subst (λ d. IsDecided app d) (sym (start_calm old)) tt

  pub ends_everywhen : AppLaws → (turns : List Turn) (memory : Memory) (doubt : Option Doubt) (now : Medium)
      → Going converters old turns doubt (runtime_at memory now)
      → Everywhen (world_at old.image) (started_on old ∷ worlds_of turns)
      (disks (last_of (started_on old) (worlds_of turns))) old now
  ends_everywhen laws turns memory doubt now going = record {
    always = λ app lt clean sound c s. from_start app (worlds_of turns) (disks (last_of start (worlds_of turns))) c
        (end_stays app entry start (worlds_of turns) (disks (last_of start (worlds_of turns))) old now
        (going.stayed app lt clean sound.1) c s);
    at_exit = λ app lt clean sound c at.
        let stayed : Stayed app entry start (worlds_of turns) old now = going.stayed app lt clean sound.1 in
        inr (exit_moment laws app lt (last_of start (worlds_of turns)) (last_of start (worlds_of turns)).doubt now
        stayed.ready.clean
        (disk_of turns memory doubt now going app lt) stayed.ready.quiet stayed.calm c at);
    decided = λ app lt clean sound. (decided_start app, (going.stayed app lt clean sound.1).decided);
  }

  pub ends_settled : (turns : List Turn) (memory : Memory) (doubt : Option Doubt) (now : Medium)
      → Going converters old turns doubt (runtime_at memory now)
      → IsSettled (last_of (started_on old) (worlds_of turns)) now
  unfolding world_at
  ends_settled turns memory doubt now going = record {
    world = ap (λ (apps : List Application). record { now = 0; apps = apps; doubt = None })
        (subst (λ n. all_resting (app_at now.image) 0 n ≡ map (λ (a : Application). resting a.disk)
        (with_disk (app_at now.image) 0 memory.apps)) going.eight (rest_there (app_at now.image) 0 memory.apps))
        ∙ ap after_run (sym going.last);
    quiet = λ none. going.quiet (sym (ap (λ (w : World). w.doubt) going.last) ∙ none);
  }

  -- ---- the end of a run that stopped in a command

  pub stops_everywhen : (turns : List Turn) (e : Event) (memory : Memory) (doubt : Option Doubt) (told : Bool)
      (now new : Medium) → IsLawful told new → Elapses now new
      → Going converters old turns doubt (runtime_at memory now)
      → (s : Stopped converters e doubt (runtime_at memory now) new)
      → Everywhen (world_at old.image) (started_on old ∷ worlds_of turns) s.after old new
  stops_everywhen turns e memory doubt told now new lawful time going s = record {
    always = λ app lt clean sound c at. from_start app (worlds_of turns) s.after c
        (stop_stays app entry start (worlds_of turns) s.after old now new going.time time
        (keeps app lt) (stayed app lt clean sound.1) c at);
    at_exit = λ app lt clean sound c at.
        let there : Stayed app entry start (worlds_of turns) old now = stayed app lt clean sound.1 in
        inr (⊎_elim (λ d. inr (there.calm d.0 c d.1)) (λ b. inl b)
        (keeps app lt there.ready c (lawful.counts_now now.moment c time.later at)));
    decided = λ app lt clean sound. (decided_start app, (stayed app lt clean sound.1).decided);
  }
    where
      keeps : (app : ℕ) → app < 8 → StopKeeps app (last_of start (worlds_of turns)) s.after now new
      keeps app lt = subst (λ w. StopKeeps app w s.after now new) (sym going.last) (s.keeps app lt)

      stayed : (app : ℕ) → app < 8 → IsCleanApp app old.image → AreSoundDoubts app (worlds_of turns)
          → Stayed app entry start (worlds_of turns) old now
      stayed app lt clean sound = going.stayed app lt clean sound

-- ---- what a run promises of the disk

-- the start is a run without a command
pub starts_going : (converters : Converters) (memory : Memory) (old new : Medium) → Elapses old new
    → Starts memory old new → Going converters old [] None (runtime_at memory new)
starts_going converters memory old new time s = record {
  eight = s.eight;
  follow = tt;
  worlds = (starts_so old.image, tt);
  last = sym s.world;
  cases = tt;
  quiet = λ none. s.quiet;
  imaged = λ app lt. (
    (
      subst (λ w. IsImaged app (disks w)) s.world (there_imaged app lt new.image memory None s.eight),
      subst (λ d. IsSideImaged app d) (sym (start_calm old)) tt,
    ),
    tt,
  );
  stayed = λ app lt clean sound. start_stays app (world_at old.image) (started_on old) old new
      (start_calm old) (s.keeps.always app lt clean)
      (record { clean = s.clean app lt clean; quiet = λ none. s.quiet });
  begun = bytes_now new;
  starts = record {
    roots = s.keeps.roots;
    written = s.keeps.written;
    left = s.keeps.left;
    already = s.keeps.already;
    later = time.written;
  };
  bounded = tt;
  held = refl;
  time = time;
}

-- one command more
pub steps_going : (converters : Converters) (turns : List Turn) (e : Event) (reply : Reply)
    (memory memory' : Memory) (doubt : Option Doubt) (told : Bool)
    (old now new : Medium) → IsTrue told → IsLawful told new → Elapses now new
    → Going converters old turns doubt (runtime_at memory now)
    → (s : Stepped converters e reply doubt (runtime_at memory now) (runtime_at memory' new))
    → Going converters old (turns ++ turn e reply new (world_of new.image memory' s.doubt') ∷ []) s.doubt'
    (runtime_at memory' new)
steps_going converters turns e reply memory memory' doubt told old now new tells lawful time going s =
    goes_on converters old turns e reply memory memory' doubt told now new tells lawful time going s

-- a run that ended in its start
abbrev NoneReached : List World → Type 0
NoneReached reached = reached ≡ []

entry_imaged : (app : ℕ) → app < 8 → (image : Image) → IsWorldImaged app (world_at image)
unfolding world_at
entry_imaged app lt image = ((image, at_entry image app lt), tt)

pub start_disk : AppLaws → (converters : Converters) (ending : Ending) (before after : Option (List ℕ))
    (told : Bool) (old new : Medium) → IsLawful told new → Elapses old new
    → ¬ (HasStarted ending) → StartKeeps old new → DiskSide converters ending
    (record { lines = []; all = []; turns = []; before = before; now = after }) old new
start_disk laws converters how before after told old new lawful time open_end keeps = record {
  follow = tt;
  worlds = (starts_so old.image, tt);
  cases = tt;
  imaged = λ app lt. tt;
  settled = λ over. absurd (open_end (has_started how over));
  reached = [];
  next = disks (started_on old);
  begun = bytes_now new;
  starts = record {
    roots = keeps.roots;
    written = keeps.written;
    left = keeps.left;
    already = keeps.already;
    later = time.written;
  };
  bounded = tt;
  progress = starting open_end refl refl refl refl refl refl;
  clean = λ app lt clean calm. begun_clean app lt clean;
  everywhen = record {
    always = λ app lt clean calm c s. ⊎_elim (λ before. inl before) (λ b. inr (inl b))
        (keeps.always app lt clean c s);
    at_exit = λ app lt clean calm. left app lt clean;
    decided = λ app lt clean calm. tt;
  };
}
  where
    left : (app : ℕ) → app < 8 → IsCleanApp app old.image → (c : Case) → new.now c
        → (NoneReached [] × OnlyReads old new)
        ⊎ IsMomentOf app (world_at old.image) [] (disks (started_on old)) c
    left app lt clean c at = ⊎_elim (λ reads. inl (refl, reads)) (λ each. inr (inl (each app lt clean c at)))
        keeps.at_exit

    begun_clean : (app : ℕ) → app < 8 → IsCleanApp app old.image → IsSoundEnd app how (bytes_now new) new
        → IsCleanApp app new.image
    begun_clean app lt clean (all_ended over) = absurd (open_end (has_started how over))
    begun_clean app lt clean (none_written begun same) = absurd (open_end begun)
    begun_clean app lt clean (sound_reads c now is passes) = exit_clean laws app (world_at old.image) (NoneReached [])
        (disks (started_on old)) old new (entry_imaged app lt old.image) clean
        (left app lt clean) c now is passes

-- one where every command has ended
pub ends_disk : AppLaws → (converters : Converters) (ending : Ending) (lines all : List (List ℕ))
    (turns : List Turn) (before after : Option (List ℕ))
    (memory : Memory) (doubt : Option Doubt) (old now : Medium) → HasStarted ending
    → Going converters old turns doubt (runtime_at memory now)
    → DiskSide converters ending
    (record { lines = lines; all = all; turns = turns; before = before; now = after }) old now
ends_disk laws converters _ lines all turns before after memory doubt old now started_well going = record {
  follow = going.follow;
  worlds = going.worlds;
  cases = going.cases;
  imaged = going.imaged;
  settled = λ over. ends_settled converters old turns memory doubt now going;
  reached = started_on old ∷ worlds_of turns;
  next = disks (last_of (started_on old) (worlds_of turns));
  begun = going.begun;
  starts = going.starts;
  bounded = going.bounded;
  progress = between started_well refl refl going.held;
  clean = λ app lt clean calm end. (going.stayed app lt clean calm).ready.clean;
  everywhen = ends_everywhen converters old laws turns memory doubt now going;
}

-- one that stopped in a command
pub stops_disk : AppLaws → (converters : Converters) (ending : Ending) (lines all others : List (List ℕ))
    (text : List ℕ) (turns : List Turn) (before after : Option (List ℕ))
    (e : Event) (memory : Memory) (doubt : Option Doubt) (told : Bool) (old now new : Medium) → IsLawful told new
    → Elapses now new → HasStarted ending
    → ¬ (HasEnded ending) → Appends before after (replies_text turns) → all ≡ lines ++ text ∷ others
    → IsLine text (line.Event e) → Going converters old turns doubt (runtime_at memory now)
    → Stopped converters e doubt (runtime_at memory now) new → DiskSide converters ending
    (record { lines = lines; all = all; turns = turns; before = before; now = after }) old new
stops_disk laws converters ending lines all others text turns before after e memory doubt told old now new lawful
    time started_well open_end wrote is_next spelled going s = record {
      follow = going.follow;
      worlds = going.worlds;
      cases = cases_more (IsReadSince old now) (IsReadSince old new) (worlds_of turns)
          (read_on old now new going.time time)
          going.cases;
      imaged = going.imaged;
      settled = λ over. absurd (open_end over);
      reached = started_on old ∷ worlds_of turns;
      next = s.after;
      begun = going.begun;
      starts = going.starts;
      bounded = going.bounded;
      progress = within started_well open_end wrote refl (record {
        text = text;
        others = others;
        event = e;
        is_next = is_next;
        spelled = spelled;
        leads = subst (λ w. Leads converters w e s.after) (sym going.last) s.leads;
        bounded = begun_here converters old turns e memory doubt now new time going s;
      });
      clean = λ app lt clean calm. stopped_clean app lt clean calm;
      everywhen = every;
    }
  where
    every : Everywhen (world_at old.image) (started_on old ∷ worlds_of turns) s.after old new
    every = stops_everywhen converters old turns e memory doubt told now new lawful time going s

    imaged : (app : ℕ) → app < 8
        → IsWorldImaged app (last_of (started_on old) (worlds_of turns))
    imaged app lt = imaged_last app (started_on old) (worlds_of turns) (going.imaged app lt).0
        (going.imaged app lt).1

    stopped_clean : (app : ℕ) → app < 8 → IsCleanApp app old.image → AreSoundDoubts app (worlds_of turns)
        → IsSoundEnd app ending (bytes_after going.begun turns) new → IsCleanApp app new.image
    stopped_clean app lt clean calm (all_ended over) = absurd (open_end over)
    stopped_clean app lt clean calm (none_written begun same) =
        subst (λ (i : Image). IsCleanApp app i) (sym (ap (λ (b : DiskBytes). b.image) (same ∙ sym going.held)))
        (going.stayed app lt clean calm).ready.clean
    stopped_clean app lt clean calm (sound_reads c at is passes) = exit_clean laws app
        (last_of (started_on old) (worlds_of turns))
        (NoneReached (started_on old ∷ worlds_of turns)) s.after old new (imaged app lt) clean
        (every.at_exit app lt clean
        (subst (λ (d : Option Doubt). IsSoundDoubt app d) (sym (start_calm old)) tt, calm)) c at is passes
