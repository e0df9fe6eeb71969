use Rattle.std.proofs.Common.{◌≡◌, ◌+◌, ◌*◌, ◌∙◌, [], ◌∷◌, ◌++◌, ℕ, List, Option, Vec, Global, min, sym, ap, subst, length}
use Rattle.std.proofs.Common.{arith}
use Rattle.std.specs.Prelude.{IsSomeAnd}
use Rattle.std.specs.Option.{option_map}
use Rattle.std.proofs.lemmas.List.{length_push}
use Rattle.sha2.specs.declared.Sha256.{Sha256}
use Rattle.disk_model.specs.Laws.{elapses_on}
use Rattle.disk_model.specs.Medium.{Medium, Elapses}
use Rattle.block_files.specs.Areas.{has_all_bytes, is_within, joined}
use Rattle.block_files.specs.Contents.{counting, first_content, HaveSize}
use Rattle.block_files.specs.States.{AreStatesOf}
use Rattle.block_files.proofs.BlockReads.{read_none}
use Rattle.block_files.proofs.Counting.{inside_more, some_items, sizes_none}
use Rattle.block_files.proofs.First.{first_more}
use Rattle.block_files.proofs.Looked.{IsLooked, looked_as, looked_on, looked_more, looked_first, first_fits}
use Rattle.block_files.proofs.reading.look.Goals as goal
use Rattle.block_files.proofs.reading.look.Goals.{then-branch+in_ok-push_first, else-branch+in_ok-read+in_ok-push}

pub loop-copy-init : goal.loop-copy-init
loop-copy-init g c = record {
  read = read_none g.D.Disk.told (g.D.Disk.medium c.args.disk.now) (g.met.D.Disk.lawful c.args.disk.now);
  texts = λ tells. c.new-texts.ensures;
  inside = λ tells. c.new-inside.ensures.items;
  copies = (ap length c.new-texts.ensures, ap length c.new-inside.ensures.items);
  size = (
      let n = min c.args.len (256 * length c.args.blocks.now) in
      subst (λ (xs : List (Option (List ℕ))). HaveSize n xs) (sym c.new-texts.ensures) (sizes_none n));
  states = λ text is i d lt. absurd (omega (arith, lt, ap length c.new-states.ensures.items));
}

pub has_first-requires : goal.has_first-requires
has_first-requires g c = first_fits c.args.len (256 * length c.args.blocks.now) c.loop-copy.texts
    c.loop-copy.invariant.size

pub returns-in_err-size-clause-time : goal.returns-in_err-size-clause-time
returns-in_err-size-clause-time g c =
    let old = g.D.Disk.medium c.args.disk.now in
    let time = elapses_on c.loop-copy.invariant.read.time c.in_ok-has_first.ensures.time in
    let looked : Elapses old (g.D.Disk.medium c.if-branch.disk) = elim c.if-branch.branch [
      | then-branch+in_ok-push_first w ↦ subst (λ (m : Medium). Elapses old m) (sym (ap g.D.Disk.medium w.disk-is)) time
      | else-branch+in_ok-read+in_ok-push w ↦ subst (λ (m : Medium). Elapses old m) (sym (ap g.D.Disk.medium w.disk-is))
          (elapses_on time w.in_ok-read.ensures.time)
    ] in
    elapses_on looked c.size.ensures.time

pub returns-in_err-push-2-clause-time : goal.returns-in_err-push-2-clause-time
returns-in_err-push-2-clause-time g c =
    let old = g.D.Disk.medium c.args.disk.now in
    let time = elapses_on c.loop-copy.invariant.read.time c.in_ok-has_first.ensures.time in
    let looked : Elapses old (g.D.Disk.medium c.if-branch.disk) = elim c.if-branch.branch [
      | then-branch+in_ok-push_first w ↦ subst (λ (m : Medium). Elapses old m) (sym (ap g.D.Disk.medium w.disk-is)) time
      | else-branch+in_ok-read+in_ok-push w ↦ subst (λ (m : Medium). Elapses old m) (sym (ap g.D.Disk.medium w.disk-is))
          (elapses_on time w.in_ok-read.ensures.time)
    ] in
    elapses_on looked c.size.ensures.time

pub loop-copy-preserved : goal.loop-copy-preserved
loop-copy-preserved g c =
    let told = g.D.Disk.told in
    let place = c.args.place in
    let i = c.loop-copy.copy in
    let blocks = c.args.blocks.now in
    let len = c.args.len in
    let hash = c.args.hash.now in
    let old = g.D.Disk.medium c.args.disk.now in
    let before = g.D.Disk.medium c.loop-copy.disk in
    let mid = g.D.Disk.medium c.has_first.new.disk in
    let after = g.D.Disk.medium c.if-branch.disk in
    let given = c.loop-copy.texts in
    let kept = c.loop-copy.states.items in
    let file = c.area-file.result in
    let first = c.in_ok-has_first.ensures in
    let size = c.in_ok-size.ensures in
    let was : IsLooked told place i blocks len hash old before given kept = record {
      read = c.loop-copy.invariant.read;
      texts = c.loop-copy.invariant.texts;
      count = c.loop-copy.invariant.copies.0;
      size = c.loop-copy.invariant.size;
      states = c.loop-copy.invariant.states;
    } in
    let compared = looked_on told place blocks len hash old i before given kept was mid first.reads first.time first.passes
    in
    let looked : IsLooked told place (i + 1) blocks len hash old after c.if-branch.texts c.if-branch.states.items =
    elim c.if-branch.branch [
      | then-branch+in_ok-push_first w ↦ (
          let same = ap (λ im. im file) was.read.reads.image ∙ ap old.image c.area-file.ensures in
          looked_as told place blocks len hash old (i + 1) mid (given ++ first_content given ∷ []) kept
          (looked_first told place blocks len hash old i mid given kept compared
          (λ tells. subst
          (λ (bytes : List ℕ). IsSomeAnd (first_content given) (λ t. joined bytes blocks (length t) ≡ t)) same
          ((first.same tells).0 w.if-branch.true)))
          after c.if-branch.texts c.if-branch.states.items
          (ap g.D.Disk.medium w.disk-is) (w.texts-is ∙ w.in_ok-push_first.ensures)
          (ap (λ (v : Vec Sha256 Global). v.items) w.states-is))
      | else-branch+in_ok-read+in_ok-push w ↦ (
          let same = ap (λ im. im file) compared.read.reads.image ∙ ap old.image c.area-file.ensures in
          let read = w.in_ok-read.ensures in
          let next = g.D.Disk.medium w.read_text.new.disk in
          let text = option_map (λ (t : Vec ℕ Global). t.items) w.in_ok-read.read.text in
          let states = w.first_states-states.result in
          looked_as told place blocks len hash old (i + 1) next (given ++ text ∷ []) states.items
          (looked_more told place blocks len hash old i next given kept
          (looked_on told place blocks len hash old i mid given kept compared next read.reads read.time read.passes)
          text states.items
          (λ tells. read.text tells ∙ ap (λ bytes. counting bytes blocks len hash) same)
          (some_items w.in_ok-read.read.text (λ t. length t ≡ min len (256 * length blocks)) read.size)
          (first_more given text c.loop-copy.states w.in_ok-read.read.states states c.loop-copy.invariant.states
          (some_items w.in_ok-read.read.text (λ t. AreStatesOf t w.in_ok-read.read.states.items) read.states)
          w.first_states-states.ensures.next w.first_states-states.ensures.stay))
          after c.if-branch.texts c.if-branch.states.items
          (ap g.D.Disk.medium w.disk-is) (w.texts-is ∙ w.in_ok-push.ensures)
          (ap (λ (v : Vec Sha256 Global). v.items) w.states-is))
    ] in
    let sized = looked_on told place blocks len hash old (i + 1) after c.if-branch.texts c.if-branch.states.items looked
    (g.D.Disk.medium c.size.new.self) size.reads size.time size.passes in
    record {
      read = sized.read;
      texts = sized.texts;
      inside = λ tells. (
          let same = ap (λ im. im file) looked.read.reads.image ∙ ap old.image c.area-file.ensures in
          let here = c.is_inside.ensures ∙ ap (λ s. is_within s blocks len) (size.size tells)
          ∙ ap (λ bytes. has_all_bytes bytes blocks len) same in
          c.in_ok-push-2.ensures.items
          ∙ inside_more place i blocks len old.image c.loop-copy.inside.items c.is_inside.result
          (c.loop-copy.invariant.inside tells) here);
      copies = (
        sized.count,
        ap length c.in_ok-push-2.ensures.items ∙ length_push c.loop-copy.inside.items c.is_inside.result
            ∙ ap (λ n. n + 1) c.loop-copy.invariant.copies.1,
      );
      size = sized.size;
      states = sized.states;
    }
