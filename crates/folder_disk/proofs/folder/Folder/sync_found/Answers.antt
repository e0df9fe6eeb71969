use Rattle.std.proofs.Common.{ℕ, true, get_or, refl, subst, sym, ap, ◌∙◌, ⊎_elim}
use Rattle.std.specs.Prelude.{Contains}
use Rattle.std.proofs.lemmas.Bool.{cases_eq}
use Rattle.disk_model.specs.Laws.{reads_on, elapses_on}
use Rattle.system_model.specs.SystemMedium.{HasNothingFree}
use Rattle.folder_disk.specs.Knows.{Covered, Knows}
use Rattle.folder_disk.proofs.Noting.{knows_fresh}
use Rattle.folder_disk.proofs.Syncs.{contains_next, not_in_end}
use Rattle.folder_disk.proofs.folder.Folder.sync_found.Goals as goal

pub loop-file-init : goal.loop-file-init
loop-file-init g c =
    let told = g.S.System.told in
    let self = c.args.self.now in
    let new = g.S.System.medium c.list.new.self in
    let looks = c.list.ensures.looks in
    record {
      reads = looks.reads;
      time = looks.time;
      named = λ f. looks.named f (c.requires.names f);
      knows = subst (λ rs. Knows told new rs true self.is_grown self.is_lost) (sym c.clear.ensures.items)
          (knows_fresh told new self.is_grown self.is_lost
          (λ t l f i h. c.requires.knows.whole t l f i (looks.lost f i h)));
      ranges = c.clear.ensures.items;
      fresh = refl;
      lost = c.requires.lost;
      others = λ t f none. (c.in-Ok.ensures.others t f
          (λ h. none (subst (λ xs. Contains xs f) (sym c.deref-file-items.ensures.value) h))).still;
      faults = refl;
      written = refl;
    }

pub loop-file-preserved : goal.loop-file-preserved
loop-file-preserved g c =
    let inv = c.loop-file.invariant in
    let e = c.in_ok-sync_first.ensures in
    let new = g.S.System.medium c.sync_first.new.self.system in
    let files = c.deref-file-items.result.now in
    let k = c.loop-file.file-index in
    let file = get_or files k 0 in
    record {
      reads = reads_on inv.time inv.reads e.time e.reads;
      time = elapses_on inv.time e.time;
      named = e.names;
      knows = e.knows;
      ranges = ap (λ v. v.items) e.ranges ∙ inv.ranges;
      fresh = e.fresh;
      lost = e.lost;
      others = λ t f none. ⊎_elim
          (λ same. subst (λ x. HasNothingFree new x) (sym same) (e.still t))
          (λ ne. let was = inv.others t f (contains_next files k f c.loop-file-test.true ne none) in
          (λ i h. was i (e.no_more t f i h)))
          (cases_eq f file);
      faults = e.passes ∙ inv.faults;
      written = e.written ∙ inv.written;
    }

pub returns-clause-safe : goal.returns-clause-safe
returns-clause-safe g c = λ t f.
    let inv = c.loop-file.invariant in
    g.met.S.System.saves c.loop-file.self.system t f (inv.knows.whole t inv.lost f)
    (inv.others t f (not_in_end c.deref-file-items.result.now c.loop-file.file-index f c.loop-file-test.false))
    (inv.named f)

pub returns-clause-knows : goal.returns-clause-knows
returns-clause-knows g c =
    let inv = c.loop-file.invariant in
    let none = λ (f : ℕ). not_in_end c.deref-file-items.result.now c.loop-file.file-index f c.loop-file-test.false in
    record {
      whole = λ t l f. inv.knows.whole t l f;
      free = λ t l f i h. absurd (subst (λ rs. Covered rs f i) inv.ranges h);
      covers = λ t l s f i h. absurd (inv.others t f (none f) i h);
      named = λ s gr f. inv.named f;
    }
