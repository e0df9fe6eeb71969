use Rattle.std.proofs.Common.{◌≡◌, ◌≢◌, ◌<◌, ℕ, List, [], length, get_or, map, Option, IfSome, Some, None, true, false}
use Rattle.std.proofs.Common.{nat_le, sym, ap, subst, ◌∙◌, arith}
use Rattle.std.specs.List.{AllByRecursion, AllZip}
use Rattle.std.proofs.lemmas.List.{get_or_default, nil_from_length}
use Rattle.std.proofs.lemmas.Bool.{eqb-true, eq-eqb}
use Rattle.std.specs.Prelude.{◌==◌}
use Rattle.guarded_cell.specs.lemmas.SeenLaws.{never_both}
use Rattle.disk_model.specs.Image.{Image}
use Rattle.per_base.specs.declared.elements.Entry.{Entry}
use Rattle.index_text.specs.declared.entries.IndexEntry.{IndexEntry}
use Rattle.index_text.specs.Rules.{IsEntry}
use Rattle.element_state.specs.declared.reading.ReadEntries.{ReadEntries}
use Rattle.element_state.specs.Fit.{FitText}
use Rattle.element_state.specs.Views.{entry_view, entries_seen}
use Rattle.element_state.specs.Chosen.{HasBlocks, IsFit, IsReadBy}
use Rattle.element_state.specs.Surveys.{AreOfEntry, IsFirstQualified, IsReadText}
use Rattle.element_state.specs.lemmas.Entrywise.{all_at, all_less}
use Rattle.element_state.proofs.Finding.{chosen_by, chosen_first, chosen_none}
use Rattle.element_state.proofs.Finding.{found_chosen, found_read, found_states, found_viewed}
use Rattle.element_state.proofs.choosing.choose.Goals as goal

pub returns-in-Some-clause-chosen : goal.returns-in-Some-clause-chosen
returns-in-Some-clause-chosen g c = λ tells.
    let old = (g.D.Disk.medium c.args.disk.now).image in
    let shape = c.args.shape.now in
    let texts = c.args.texts.items in
    let f = c.in_ok-found.found in
    let d : FitText = (f.seen, f.index) in
    let given = subst (λ (o : Option (ℕ × ReadEntries)). IsFirstQualified old shape c.deref.result.now o) c.in-Some.is
    (c.in_ok-at.ensures.first tells) in
    let first = subst (λ (ts : List FitText). IsFirstQualified old shape ts (Some (c.in-Some.at, c.in-Some.read)))
    c.deref.ensures.value given in
    found_chosen f true (get_or texts c.in-Some.at d) c.in_ok-found.ensures.opens c.in_ok-found.ensures.text
    ∙ sym (chosen_by old shape texts (c.requires.texts tells) (Some (get_or texts c.in-Some.at d)) (first d).0)

pub returns-in-Some-clause-viewed : goal.returns-in-Some-clause-viewed
returns-in-Some-clause-viewed g c = λ tells.
    let old = (g.D.Disk.medium c.args.disk.now).image in
    let shape = c.args.shape.now in
    let texts = c.args.texts.items in
    let f = c.in_ok-found.found in
    let d : FitText = (f.seen, f.index) in
    let at = c.in-Some.at in
    let given = subst (λ (o : Option (ℕ × ReadEntries)). IsFirstQualified old shape c.deref.result.now o) c.in-Some.is
    (c.in_ok-at.ensures.first tells) in
    let first = subst (λ (ts : List FitText). IsFirstQualified old shape ts (Some (at, c.in-Some.read)))
    c.deref.ensures.value
    given in
    let inside = subst (λ (o : Option (ℕ × ReadEntries)). IfSome o (IsReadText shape.place.copies c.deref.result.now))
    c.in-Some.is c.in_ok-at.ensures.among in
    let among = subst (λ (ts : List FitText). IsReadText shape.place.copies ts (at, c.in-Some.read))
    c.deref.ensures.value inside in
    let long : c.len-sole.result ≡ length texts = omega (arith, c.len-sole.ensures, c.args.texts.ok) in
    let chose = found_chosen f true (get_or texts at d) c.in_ok-found.ensures.opens c.in_ok-found.ensures.text
    ∙ sym (chosen_by old shape texts (c.requires.texts tells) (Some (get_or texts at d)) (first d).0) in
    found_viewed shape texts f at (nat_le c.len-sole.result 1) c.in-Some.read.entries among.0 c.in_ok-found.ensures.text
    c.in_ok-found.ensures.view old
    (c.requires.texts tells) (c.requires.held tells) (ap (λ (n : ℕ). nat_le n 1) long)
    ((first d).1 ∙ ap (λ (t : FitText). entries_seen old shape t) (sym c.in_ok-found.ensures.text)) chose

pub returns-in-Some-clause-found : goal.returns-in-Some-clause-found
returns-in-Some-clause-found g c =
    let shape = c.args.shape.now in
    let texts = c.args.texts.items in
    let f = c.in_ok-found.found in
    let at = c.in-Some.at in
    let inside = subst (λ (o : Option (ℕ × ReadEntries)). IfSome o (IsReadText shape.place.copies c.deref.result.now))
    c.in-Some.is c.in_ok-at.ensures.among in
    let among = subst (λ (ts : List FitText). IsReadText shape.place.copies ts (at, c.in-Some.read))
    c.deref.ensures.value inside in
    found_read shape texts f at (nat_le c.len-sole.result 1) c.in-Some.read.entries among.0 c.in_ok-found.ensures.text
    c.in_ok-found.ensures.view
    c.requires.fit (among.1 (f.seen, f.index))

pub returns-in-Some-clause-states : goal.returns-in-Some-clause-states
returns-in-Some-clause-states g c =
    let all = subst (λ (o : Option (ℕ × ReadEntries)). IfSome o (λ f. AllZip AreOfEntry f.1.entries f.1.states.items))
    c.in-Some.is c.in_ok-at.ensures.states in
    found_states c.args.shape.now c.in_ok-found.found c.in-Some.read (nat_le c.len-sole.result 1)
    c.in_ok-found.ensures.view c.in_ok-found.ensures.states all

pub returns-then-is_empty-clause-chosen : goal.returns-then-is_empty-clause-chosen
returns-then-is_empty-clause-chosen g c = λ tells.
    let old = (g.D.Disk.medium c.args.disk.now).image in
    let shape = c.args.shape.now in
    let texts = c.args.texts.items in
    let given = subst (λ (o : Option (ℕ × ReadEntries)). IsFirstQualified old shape c.deref.result.now o) c.in_default.is
    (c.in_ok-at.ensures.first tells) in
    let first = subst (λ (ts : List FitText). IsFirstQualified old shape ts None) c.deref.ensures.value given in
    let zero : c.args.texts.len ≡ 0 = eqb-true c.args.texts.len 0 (sym c.if-is_empty.ensures) in
    let empty : texts ≡ [] = nil_from_length texts (omega (arith, zero, c.args.texts.ok)) in
    sym (chosen_none old shape texts (c.requires.texts tells) first empty)

pub read_entries-requires-clause-blocks : goal.read_entries-requires-clause-blocks
read_entries-requires-clause-blocks g c =
    let shape = c.args.shape.now in
    let texts = c.args.texts.items in
    let x = c.index.result.now in
    let some : c.args.texts.len ≢ 0 = (λ e. never_both (c.args.texts.len == 0) (eq-eqb c.args.texts.len 0 e)
    (sym c.if-is_empty.ensures)) in
    let lt : 0 < length texts = omega (arith, some, c.args.texts.ok) in
    let fit = subst (IsFit shape) (sym c.index.ensures) (all_at (IsFit shape) texts 0 x c.requires.fit lt) in
    subst (AllByRecursion HasBlocks) (sym c.as_slice.ensures)
    (all_less (IsEntry x.1.format x.1.kind) HasBlocks (λ e is. is.blocks) x.1.entries fit.index.rules.each)

pub returns-clause-chosen : goal.returns-clause-chosen
returns-clause-chosen g c = λ tells.
    let old = (g.D.Disk.medium c.args.disk.now).image in
    let shape = c.args.shape.now in
    let texts = c.args.texts.items in
    let f = c.in_ok-found-2.found in
    let d : FitText = (f.seen, f.index) in
    let given = subst (λ (o : Option (ℕ × ReadEntries)). IsFirstQualified old shape c.deref.result.now o) c.in_default.is
    (c.in_ok-at.ensures.first tells) in
    let first = subst (λ (ts : List FitText). IsFirstQualified old shape ts None) c.deref.ensures.value given in
    let some : c.args.texts.len ≢ 0 = (λ e. never_both (c.args.texts.len == 0) (eq-eqb c.args.texts.len 0 e)
    (sym c.if-is_empty.ensures)) in
    let lt : 0 < length texts = omega (arith, some, c.args.texts.ok) in
    found_chosen f false (get_or texts 0 d) c.in_ok-found-2.ensures.opens c.in_ok-found-2.ensures.text
    ∙ sym (chosen_first old shape texts (c.requires.texts tells) d first lt)

pub returns-clause-viewed : goal.returns-clause-viewed
returns-clause-viewed g c = λ tells.
    let old = (g.D.Disk.medium c.args.disk.now).image in
    let shape = c.args.shape.now in
    let texts = c.args.texts.items in
    let f = c.in_ok-found-2.found in
    let d : FitText = (f.seen, f.index) in
    let x = c.index.result.now in
    let given = subst (λ (o : Option (ℕ × ReadEntries)). IsFirstQualified old shape c.deref.result.now o) c.in_default.is
    (c.in_ok-at.ensures.first tells) in
    let first = subst (λ (ts : List FitText). IsFirstQualified old shape ts None) c.deref.ensures.value given in
    let some : c.args.texts.len ≢ 0 = (λ e. never_both (c.args.texts.len == 0) (eq-eqb c.args.texts.len 0 e)
    (sym c.if-is_empty.ensures)) in
    let lt : 0 < length texts = omega (arith, some, c.args.texts.ok) in
    let chose = found_chosen f false (get_or texts 0 d) c.in_ok-found-2.ensures.opens c.in_ok-found-2.ensures.text
    ∙ sym (chosen_first old shape texts (c.requires.texts tells) d first lt) in
    let long : c.len-sole.result ≡ length texts = omega (arith, c.len-sole.ensures, c.args.texts.ok) in
    let same : x ≡ d = c.index.ensures ∙ get_or_default texts 0 x d lt ∙ sym c.in_ok-found-2.ensures.text in
    let reads = c.in_ok-read.ensures.views tells
    ∙ ap (λ (image : Image). map (entry_view image shape.place shape.m) c.as_slice.result.now)
    c.first_qualifying.ensures.reads.image
    ∙ ap (λ (es : List IndexEntry). map (entry_view old shape.place shape.m) es) c.as_slice.ensures
    ∙ ap (λ (t : FitText). entries_seen old shape t) same in
    found_viewed shape texts f 0 (nat_le c.len-sole.result 1) c.in_ok-read.read.entries lt c.in_ok-found-2.ensures.text
    c.in_ok-found-2.ensures.view old
    (c.requires.texts tells) (c.requires.held tells) (ap (λ (n : ℕ). nat_le n 1) long) reads chose

pub returns-clause-found : goal.returns-clause-found
returns-clause-found g c =
    let shape = c.args.shape.now in
    let texts = c.args.texts.items in
    let f = c.in_ok-found-2.found in
    let d : FitText = (f.seen, f.index) in
    let x = c.index.result.now in
    let some : c.args.texts.len ≢ 0 = (λ e. never_both (c.args.texts.len == 0) (eq-eqb c.args.texts.len 0 e)
    (sym c.if-is_empty.ensures)) in
    let lt : 0 < length texts = omega (arith, some, c.args.texts.ok) in
    let same : x ≡ get_or texts 0 d = c.index.ensures ∙ get_or_default texts 0 x d lt in
    let R = λ (es : List IndexEntry) (fs : List Entry). AllZip (IsReadBy shape.place.copies) es fs in
    let read = subst (λ (es : List IndexEntry). R es c.in_ok-read.read.entries) c.as_slice.ensures
    c.in_ok-read.ensures.read in
    found_read shape texts f 0 (nat_le c.len-sole.result 1) c.in_ok-read.read.entries lt c.in_ok-found-2.ensures.text
    c.in_ok-found-2.ensures.view
    c.requires.fit (subst (λ (t : FitText). R t.1.entries c.in_ok-read.read.entries) same read)

pub returns-clause-states : goal.returns-clause-states
returns-clause-states g c = found_states c.args.shape.now c.in_ok-found-2.found c.in_ok-read.read
    (nat_le c.len-sole.result 1) c.in_ok-found-2.ensures.view c.in_ok-found-2.ensures.states c.in_ok-read.ensures.states
