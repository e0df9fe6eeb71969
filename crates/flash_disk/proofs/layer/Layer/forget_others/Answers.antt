use Rattle.std.proofs.Common.{◌<◌, ◌∙◌, ℕ, refl, sym, ap, subst, inl, inr, arith}
use Rattle.std.specs.Prelude.{IsFalse, IfSome}
use Rattle.flash_disk.specs.declared.layer.LayerState.{LayerState}
use Rattle.flash_disk.specs.Newest.{places}
use Rattle.flash_disk.specs.Sound.{IsSoundLayer}
use Rattle.flash_disk.specs.Kept.{in_ranges, HoldsKept}
use Rattle.flash_disk.specs.Forgetting.{Forgets, LeadsKept, MayBeFreed, NeedsBlock}
use Rattle.flash_disk.proofs.Entering.{sound_usable}
use Rattle.flash_disk.proofs.Stretches.{does_nothing}
use Rattle.flash_disk.proofs.Steps.{nothing_then}
use Rattle.flash_disk.proofs.Hiding.{hidden_led}
use Rattle.flash_disk.proofs.Emptying.{clearing_forgets, emptied_holds, forgets_after, forgets_refl}
use Rattle.flash_disk.proofs.Emptying.{look_sound}
use Rattle.flash_disk.proofs.Needing.{full_of_kept}
use Rattle.flash_disk.proofs.layer.Layer.forget_others.Goals as goal

-- ---- there are rivals

pub returns-then-self-clause-does : goal.returns-then-self-clause-does
returns-then-self-clause-does g c told =
    let m = g.F.Flash.medium c.args.self.now.flash in
    let kept = in_ranges c.args.kept.now in
    let lawful = g.met.F.Flash.lawful c.args.self.now.flash in
    does_nothing m m (Forgets kept m.blocks m.state.pages) refl (λ x past. lawful.only_now x past)
    (forgets_refl kept m.blocks m.state.pages (sound_usable m.state.pages m.blocks c.args.self.now.state
    (c.requires.ready.sound told)))

pub returns-then-self-clause-due : goal.returns-then-self-clause-due
returns-then-self-clause-due g c told is = inl ((c.requires.ready.sound told).rivals c.if-self.true)

-- ---- which block has other files

pub returns-in_err-first-clause-does : goal.returns-in_err-first-clause-does
returns-in_err-first-clause-does g c told =
    let m = g.F.Flash.medium c.args.self.now.flash in
    let found = g.F.Flash.medium c.find_other.new.self.flash in
    let kept = in_ranges c.args.kept.now in
    let r = c.find_other.ensures.reads in
    does_nothing m found (Forgets kept m.blocks m.state.pages) (r.only.looks.state told) (r.only.looks.during told)
    (forgets_refl kept m.blocks m.state.pages (sound_usable m.state.pages m.blocks c.args.self.now.state
    (c.requires.ready.sound told)))

-- ---- there is none

pub clear_spare-requires : goal.clear_spare-requires
clear_spare-requires g c =
    let m = g.F.Flash.medium c.args.self.now.flash in
    let found = g.F.Flash.medium c.find_other.new.self.flash in
    let r = c.find_other.ensures.reads in record {
      ready = record {
        sure = ap (λ (q : LayerState). q.unsure) r.state ∙ c.requires.ready.sure;
        sound = λ told. look_sound (in_ranges c.args.kept.now) m found c.args.self.now.state
            c.find_other.new.self.state (r.only.looks.state told) r.only.blocks r.state (c.requires.ready.sound told);
      };
    }

pub returns-in_err-clear_spare-clause-does : goal.returns-in_err-clear_spare-clause-does
returns-in_err-clear_spare-clause-does g c told =
    let m = g.F.Flash.medium c.args.self.now.flash in
    let found = g.F.Flash.medium c.find_other.new.self.flash in
    let now = g.F.Flash.medium c.clear_spare.new.self.flash in
    let s = c.args.self.now.state in
    let t = c.find_other.new.self.state in
    let kept = in_ranges c.args.kept.now in
    let r = c.find_other.ensures.reads in
    let e = c.clear_spare.ensures in
    let sound : IsSoundLayer m s = c.requires.ready.sound told in
    let no_rivals : IsFalse t.has_rivals = subst (λ (q : LayerState). IsFalse q.has_rivals) (sym r.state)
    c.if-self.false in
    forgets_after kept m found now (r.accounts.time told) (e.accounts.time told) (r.only.looks.state told)
    (r.only.looks.during told) (sound_usable m.state.pages m.blocks s sound)
    (clearing_forgets kept found t
    (look_sound kept m found s t (r.only.looks.state told) r.only.blocks r.state sound) no_rivals now (e.does told))

pub returns-in_default-clause-does : goal.returns-in_default-clause-does
returns-in_default-clause-does g c told =
    let m = g.F.Flash.medium c.args.self.now.flash in
    let found = g.F.Flash.medium c.find_other.new.self.flash in
    let now = g.F.Flash.medium c.clear_spare.new.self.flash in
    let s = c.args.self.now.state in
    let t = c.find_other.new.self.state in
    let kept = in_ranges c.args.kept.now in
    let r = c.find_other.ensures.reads in
    let e = c.clear_spare.ensures in
    let sound : IsSoundLayer m s = c.requires.ready.sound told in
    let no_rivals : IsFalse t.has_rivals = subst (λ (q : LayerState). IsFalse q.has_rivals) (sym r.state)
    c.if-self.false in
    forgets_after kept m found now (r.accounts.time told) (e.accounts.time told) (r.only.looks.state told)
    (r.only.looks.during told) (sound_usable m.state.pages m.blocks s sound)
    (clearing_forgets kept found t
    (look_sound kept m found s t (r.only.looks.state told) r.only.blocks r.state sound) no_rivals now (e.does told))

pub returns-in_default-clause-whole : goal.returns-in_default-clause-whole
returns-in_default-clause-whole g c told whole block within =
    let m = g.F.Flash.medium c.args.self.now.flash in
    let found = g.F.Flash.medium c.find_other.new.self.flash in
    let now = g.F.Flash.medium c.clear_spare.new.self.flash in
    let kept = in_ranges c.args.kept.now in
    let r = c.find_other.ensures.reads in
    let e = c.clear_spare.ensures in
    let first = r.only.blocks in
    let second = (e.accounts.time told).blocks in
    emptied_holds kept m.blocks found.state.pages now.state.pages c.find_other.new.self.state.spare (e.does told).now
    block
    (subst (λ p. HoldsKept kept p block) (sym (r.only.pages told))
    (c.in_ok-first.ensures.none told c.in_default.is block (omega (arith, within, first, second))))

pub returns-in_default-clause-empty : goal.returns-in_default-clause-empty
returns-in_default-clause-empty g c told whole =
    let m = g.F.Flash.medium c.args.self.now.flash in
    let found = g.F.Flash.medium c.find_other.new.self.flash in
    let now = g.F.Flash.medium c.clear_spare.new.self.flash in
    let s = c.args.self.now.state in
    let t = c.find_other.new.self.state in
    let kept = in_ranges c.args.kept.now in
    let r = c.find_other.ensures.reads in
    let e = c.in_ok-clear_spare.ensures in
    let within = (look_sound kept m found s t (r.only.looks.state told) r.only.blocks r.state
    (c.requires.ready.sound told)).within in
    let blocks = (e.accounts.time told).blocks in
    (t.spare, omega (arith, within, blocks), e.blank told e.cleared)

-- ---- which block is to be blank

pub returns-in_err-free-clause-does : goal.returns-in_err-free-clause-does
returns-in_err-free-clause-does g c told =
    let m = g.F.Flash.medium c.args.self.now.flash in
    let free = g.F.Flash.medium c.find_free.new.self.flash in
    let kept = in_ranges c.args.kept.now in
    let r = nothing_then c.in_ok-first.ensures.reads c.find_free.ensures.reads in
    does_nothing m free (Forgets kept m.blocks m.state.pages) (r.only.looks.state told) (r.only.looks.during told)
    (forgets_refl kept m.blocks m.state.pages (sound_usable m.state.pages m.blocks c.args.self.now.state
    (c.requires.ready.sound told)))

pub returns-in_default-2-clause-does : goal.returns-in_default-2-clause-does
returns-in_default-2-clause-does g c told =
    let m = g.F.Flash.medium c.args.self.now.flash in
    let free = g.F.Flash.medium c.find_free.new.self.flash in
    let kept = in_ranges c.args.kept.now in
    let r = nothing_then c.in_ok-first.ensures.reads c.find_free.ensures.reads in
    does_nothing m free (Forgets kept m.blocks m.state.pages) (r.only.looks.state told) (r.only.looks.during told)
    (forgets_refl kept m.blocks m.state.pages (sound_usable m.state.pages m.blocks c.args.self.now.state
    (c.requires.ready.sound told)))

pub returns-in_default-2-clause-nothing : goal.returns-in_default-2-clause-nothing
returns-in_default-2-clause-nothing g c told whole =
    (nothing_then c.in_ok-first.ensures.reads c.find_free.ensures.reads).only.pages told

pub returns-in_default-2-clause-due : goal.returns-in_default-2-clause-due
returns-in_default-2-clause-due g c told is =
    let m = g.F.Flash.medium c.args.self.now.flash in
    let s = c.args.self.now.state in
    let kept = in_ranges c.args.kept.now in
    let r = c.in_ok-first.ensures.reads in
    inr (full_of_kept kept m.state.pages m.blocks s.table (c.requires.ready.sound told).knows.led s.spare
    (λ block within apart. subst (λ (q : LayerState). NeedsBlock kept q.table block) r.state
    (c.in_ok-free.ensures.full c.in_default-2.is block (subst (λ k. block < k) (sym r.only.blocks) within)
    (λ here. apart (here ∙ ap (λ (q : LayerState). q.spare) r.state)))))

-- ---- both are found

pub free_from-requires-clause-ready : goal.free_from-requires-clause-ready
free_from-requires-clause-ready g c =
    let m = g.F.Flash.medium c.args.self.now.flash in
    let free = g.F.Flash.medium c.find_free.new.self.flash in
    let r = nothing_then c.in_ok-first.ensures.reads c.in_ok-free.ensures.reads in record {
      sure = ap (λ (q : LayerState). q.unsure) r.state ∙ c.requires.ready.sure;
      sound = λ told. look_sound (in_ranges c.args.kept.now) m free c.args.self.now.state c.find_free.new.self.state
          (r.only.looks.state told) r.only.blocks r.state (c.requires.ready.sound told);
    }

pub free_from-requires-clause-agreed : goal.free_from-requires-clause-agreed
free_from-requires-clause-agreed g c =
    let r = nothing_then c.in_ok-first.ensures.reads c.in_ok-free.ensures.reads in
    subst (λ (q : LayerState). IsFalse q.has_rivals) (sym r.state) c.if-self.false

pub free_from-requires-clause-free : goal.free_from-requires-clause-free
free_from-requires-clause-free g c told =
    let m = g.F.Flash.medium c.args.self.now.flash in
    let found = g.F.Flash.medium c.find_other.new.self.flash in
    let s = c.args.self.now.state in
    let t = c.find_other.new.self.state in
    let kept = in_ranges c.args.kept.now in
    let r = c.in_ok-first.ensures.reads in
    let q = c.in_ok-free.ensures.reads in
    let sound : IsSoundLayer found t = look_sound kept m found s t (r.only.looks.state told) r.only.blocks r.state
    (c.requires.ready.sound told) in
    let led : LeadsKept kept found.state.pages (places found.blocks) t.table =
    hidden_led kept found.state.pages (places found.blocks) t.table sound.knows.led in
    let may : MayBeFreed kept found.blocks t c.in-Some-2.free =
    subst (λ o. IfSome o (MayBeFreed kept found.blocks t)) c.in-Some-2.is (c.in_ok-free.ensures.free told led) in
    subst (λ k. MayBeFreed kept k c.find_free.new.self.state c.in-Some-2.free) (sym q.only.blocks)
    (subst (λ (w : LayerState). MayBeFreed kept found.blocks w c.in-Some-2.free) (sym q.state) may)

pub free_from-requires-clause-before : goal.free_from-requires-clause-before
free_from-requires-clause-before g c told block below =
    let m = g.F.Flash.medium c.args.self.now.flash in
    let kept = in_ranges c.args.kept.now in
    let r = nothing_then c.in_ok-first.ensures.reads c.in_ok-free.ensures.reads in
    let before : (b : ℕ) → b < c.in-Some.first → HoldsKept kept m.state.pages b =
    subst (λ o. IfSome o (λ first. (b : ℕ) → b < first → HoldsKept kept m.state.pages b)) c.in-Some.is
    (c.in_ok-first.ensures.before told) in
    subst (λ p. HoldsKept kept p block) (sym (r.only.pages told)) (before block below)

pub returns-in_err-free_from-clause-does : goal.returns-in_err-free_from-clause-does
returns-in_err-free_from-clause-does g c told =
    let m = g.F.Flash.medium c.args.self.now.flash in
    let free = g.F.Flash.medium c.find_free.new.self.flash in
    let now = g.F.Flash.medium c.free_from.new.self.flash in
    let r = nothing_then c.in_ok-first.ensures.reads c.in_ok-free.ensures.reads in
    let e = c.free_from.ensures in
    forgets_after (in_ranges c.args.kept.now) m free now (r.accounts.time told) (e.accounts.time told)
    (r.only.looks.state told) (r.only.looks.during told)
    (sound_usable m.state.pages m.blocks c.args.self.now.state (c.requires.ready.sound told)) (e.does told)

pub returns-clause-does : goal.returns-clause-does
returns-clause-does g c told =
    let m = g.F.Flash.medium c.args.self.now.flash in
    let free = g.F.Flash.medium c.find_free.new.self.flash in
    let now = g.F.Flash.medium c.free_from.new.self.flash in
    let r = nothing_then c.in_ok-first.ensures.reads c.in_ok-free.ensures.reads in
    let e = c.free_from.ensures in
    forgets_after (in_ranges c.args.kept.now) m free now (r.accounts.time told) (e.accounts.time told)
    (r.only.looks.state told) (r.only.looks.during told)
    (sound_usable m.state.pages m.blocks c.args.self.now.state (c.requires.ready.sound told)) (e.does told)
