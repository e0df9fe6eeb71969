-- What an audit, a listing, a recovery, an export and an import promise: that the call was made, or that the job did
-- not come to it.
use Rattle.std.proofs.Common.{ℕ, List, [], ◌∷◌, ◌≡◌, ◌≢◌, ◌⊎◌, ◌<◌, ◌≤◌, ◌+◌, inl, inr, refl, sym, ap, subst, arith, length}
use Rattle.std.proofs.Common.{◌∙◌, Option, Some, None, Bool, true, false, Result, Ok, Err, IfErr, IfSome, codes}
use Rattle.std.proofs.KnownBytes.{Keeps-refl}
use Rattle.std.specs.Prelude.{IsErr, IsSome, IsTrue}
use Rattle.per_base.specs.Errors.{error_number}
use Rattle.per_base.specs.declared.errors.PerError.{PerError}
use Rattle.disk_model.specs.Medium.{IsLawful, Medium}
use Rattle.deploy_laws.specs.Apps.{app_at}
use Rattle.deploy_rows.specs.Rows.{AnswersRow}
use Rattle.per_audit.specs.Audits.{elements_at, findings_at, is_sound}
use Rattle.per_audit.specs.declared.findings.Finding.{Finding}
use Rattle.per_list.specs.Listings.{listing_text}
use Rattle.per_list.specs.declared.forms.Form.{Form}
use Rattle.root_recovery.specs.Clauses.{RecoveryKeeps}
use Rattle.root_recovery.specs.Recoveries.{most_written, none_left}
use Rattle.per_backup.specs.Backups.{exporting, importing_into}
use Rattle.per_backup.specs.Clauses.{ImportKeeps, WritesImport}
use Rattle.per_run.specs.declared.endings.Ending.{Ending}
use Rattle.per_run.specs.declared.endings.Ending.TheVariants.{AllRead, EndLine, BadLine, OutOfMemory, Source, Sink}
use Rattle.per_run.specs.declared.endings.Ending.TheVariants.{TooLong}
use Rattle.per_run.specs.Jobs.{AnswersOr, Audits, CameToOutput, Exports, FailsAtThree, Imports, IsInputTaken}
use Rattle.per_run.specs.Jobs.{IsUncalled, Lists, Makes, Recovers, WritesOutput, error_line, outputs}
use Rattle.per_run.specs.Steps.{Breaks, IsCut, ending_of}
use Rattle.per_run.proofs.Outputs.{not_done, not_read, writes_as, writes_none}
use Rattle.run_model.specs.Edges.{Edges}
use Rattle.run_model.specs.Endings.{ending_status}
use Rattle.run_model.specs.Lives.{LooksOnly, looks_none}

-- ---- an audit

pub audits_none : (told : Bool) (status : ℕ) (now : Option (List ℕ)) (old new : Medium) → (status ≡ 3) ⊎ (status ≡ 4)
    → LooksOnly old new → FailsAtThree status old.faults new.faults
    → Audits told status (outputs now old) (outputs now new)
audits_none told status now old new is stays failed = record {
  elements = elements_at old.image;
  findings = findings_at old.image;
  elements_are = λ tells. refl;
  findings_are = λ tells. refl;
  output = writes_none status now _ is;
  sound = λ none. absurd (not_done status is (inl (inl none)));
  found = λ eight. absurd (not_done status is (inl (inr (inl eight))));
  stays = stays;
  quiet = λ done. absurd (not_done status is done);
  failed = failed;
}

pub sound_none : (findings : List Finding) → is_sound findings ≡ true → findings ≡ []
sound_none [] is = refl
sound_none (f ∷ findings) is = let bad : false ≡ true = is in cc

pub unsound_some : (findings : List Finding) → is_sound findings ≡ false → findings ≢ []
unsound_some findings is none = let bad : is_sound [] ≡ false =
    subst (λ (fs : List Finding). is_sound fs ≡ false) none is in cc

-- ---- a listing

pub lists_none : (told : Bool) (form : Form) (status : ℕ) (now : Option (List ℕ)) (old new : Medium)
    → (status ≡ 3) ⊎ (status ≡ 4) → LooksOnly old new → FailsAtThree status old.faults new.faults
    → Lists told form status (outputs now old) (outputs now new)
lists_none told form status now old new is stays failed = record {
  text = listing_text form old.image;
  text_is = λ tells. refl;
  output = writes_none status now _ is;
  stays = stays;
  quiet = λ done. absurd (not_done status is done);
  failed = failed;
}

-- ---- a recovery of a root

pub recovers_none : (told : Bool) (app status : ℕ) (now : Option (List ℕ)) (old new : Medium)
    → (status ≡ 3) ⊎ (status ≡ 4) → (IsTrue told → RecoveryKeeps app old new)
    → new.written ≤ old.written + most_written → FailsAtThree status old.faults new.faults
    → Recovers told app status (outputs now old) (outputs now new)
recovers_none told app status now old new is keeps cost failed = record {
  row = none_left;
  ended = λ tells came. absurd (not_done status is came);
  output = writes_none status now _ is;
  done = λ none. absurd (not_done status is (inl (inl none)));
  refused = λ nine. absurd (not_done status is (inl (inr (inr nine))));
  stays = λ came refused. absurd (not_done status is came);
  keeps = keeps;
  written = cost;
  quiet = λ came. absurd (not_done status is came);
  failed = failed;
}

-- no call was made
pub recovery_keeps_none : {told : Bool} (app : ℕ) (m : Medium) → IsLawful told m → RecoveryKeeps app m m
recovery_keeps_none app m lawful = record {
  elsewhere = λ f aside. refl;
  outside = λ c past. inl (lawful.only_now c past);
  stands = λ clean cleans c past. inl (lawful.only_now c past);
}

-- the status of a recovery whose output was made
pub recovered_as : (P : Type 0) (status verdict done : ℕ) (Q : Type 0) → (verdict ≡ done → P)
    → (done ≡ 4 → ⊥) → (done ≡ 6 → ⊥) → (status ≡ verdict) ⊎ ((status ≡ 4) ⊎ ((status ≡ 6) × Q)) → status ≡ done → P
recovered_as P status verdict done Q so no_4 no_6 (inl is) e = so (sym is ∙ e)
recovered_as P status verdict done Q so no_4 no_6 (inr (inl four)) e = absurd (no_4 (sym e ∙ four))
recovered_as P status verdict done Q so no_4 no_6 (inr (inr six)) e = absurd (no_6 (sym e ∙ six.0))

-- and what it may be
pub recovered_ends : (status verdict : ℕ) (Q : Type 0) → (verdict ≡ 0) ⊎ (verdict ≡ 9)
    → (status ≡ verdict) ⊎ ((status ≡ 4) ⊎ ((status ≡ 6) × Q))
    → ((status ≡ 0) ⊎ (status ≡ 9)) ⊎ ((status ≡ 4) ⊎ ((status ≡ 6) × Q))
recovered_ends status verdict Q (inl none) (inl is) = inl (inl (is ∙ none))
recovered_ends status verdict Q (inr nine) (inl is) = inl (inr (is ∙ nine))
recovered_ends status verdict Q either (inr other) = inr other

-- ---- an answer that may be a refusal

-- the status where the answer is written, or is not
abbrev OrCut : (status done : ℕ) → (R : Type 0) → Type 0
OrCut status done R = (status ≡ done) ⊎ ((status ≡ 4) ⊎ ((status ≡ 6) × R))

not_so : (status done other : ℕ) (R : Type 0) → OrCut status done R → (done ≡ other → ⊥) → (4 ≡ other → ⊥)
    → (6 ≡ other → ⊥) → status ≡ other → ⊥
not_so status done other R (inl is) no_done no_4 no_6 so = no_done (sym is ∙ so)
not_so status done other R (inr (inl four)) no_done no_4 no_6 so = no_4 (sym four ∙ so)
not_so status done other R (inr (inr six)) no_done no_4 no_6 so = no_6 (sym six.0 ∙ so)

pub answers_ok : {A : Type 0} (text : A → List ℕ) (x : A) (status : ℕ) (before now : Option (List ℕ)) (R : Type 0)
    → WritesOutput status before now (text x) → (status ≡ 0) ⊎ ((status ≡ 6) × R)
    → AnswersOr text (Ok x) status before now
answers_ok text x status before now R writes is = record {
  output = writes;
  done = λ none. refl;
  refused = λ nine. absurd (apart is nine);
}
  where
    apart : (status ≡ 0) ⊎ ((status ≡ 6) × R) → status ≡ 9 → ⊥
    apart (inl none) nine = omega (arith, none, nine)
    apart (inr six) nine = omega (arith, six.0, nine)

pub answers_err : {A : Type 0} (text : A → List ℕ) (e : PerError) (status : ℕ) (before now : Option (List ℕ))
    (R : Type 0) → WritesOutput status before now (error_line e) → OrCut status 9 R
    → AnswersOr text (Err e) status before now
answers_err text e status before now R writes is = record {
  output = writes;
  done = λ none. absurd (not_so status 9 0 R is (λ e. omega (arith, e)) (λ e. omega (arith, e))
      (λ e. omega (arith, e)) none);
  refused = λ nine. refl;
}

pub answers_none : {A : Type 0} (text : A → List ℕ) (row : Result A PerError) (status : ℕ) (now : Option (List ℕ))
    → (status ≡ 3) ⊎ (status ≡ 4) → AnswersOr text row status now now
answers_none text row status now is = record {
  output = writes_none status now _ is;
  done = λ none. absurd (not_done status is (inl (inl none)));
  refused = λ nine. absurd (not_done status is (inl (inr (inr nine))));
}

pub answers_as : {A : Type 0} (text : A → List ℕ) (row same : Result A PerError) (status : ℕ)
    (before now : Option (List ℕ)) → row ≡ same → AnswersOr text row status before now
    → AnswersOr text same status before now
answers_as text row same status before now is answers =
    subst (λ r. AnswersOr text r status before now) is answers

-- ---- an export

pub exports_none : (told : Bool) (app : ℕ) (name : List ℕ) (status : ℕ) (now : Option (List ℕ)) (old new : Medium)
    → (status ≡ 3) ⊎ (status ≡ 4) → LooksOnly old new → FailsAtThree status old.faults new.faults
    → Exports told app name status (outputs now old) (outputs now new)
exports_none told app name status now old new is stays failed = record {
  it = app_at old.image app;
  seen = λ tells. refl;
  answers = answers_none (λ text. text) (exporting (app_at old.image app) name) status now is;
  stays = stays;
  quiet = λ done. absurd (not_done status is done);
  failed = failed;
}

-- the refusal that is answered is that of the row, which has a number
pub err_numbered : {A : Type 0} (r : Result A PerError) (row : Result A PerError) → r ≡ row
    → IfErr row (λ e. IsSome (error_number e)) → IfErr r (λ e. IsSome (error_number e))
err_numbered {A} r row is numbered = subst (λ (x : Result A PerError). IfErr x (λ e. IsSome (error_number e)))
    (sym is) numbered

-- ---- an import

pub some_numbered : {A : Type 0} (refused : Option PerError) (row : Result A PerError) → AnswersRow refused row
    → IfErr row (λ e. IsSome (error_number e)) → IfSome refused (λ e. IsSome (error_number e))
some_numbered None row answers numbered = tt
some_numbered (Some e) (Ok x) answers numbered = absurd answers
some_numbered (Some e) (Err f) answers numbered = subst (λ (x : PerError). IsSome (error_number x)) answers numbered

-- a row that answers no refusal is none, and one that answers one is it
pub ok_answers : {A : Type 0} (bytes : List ℕ) (row : Result A PerError) (status : ℕ) (before now : Option (List ℕ))
    (R : Type 0) → AnswersRow None row → WritesOutput status before now bytes → (status ≡ 0) ⊎ ((status ≡ 6) × R)
    → AnswersOr (λ x. bytes) row status before now
ok_answers bytes (Ok x) status before now R answers writes is = answers_ok (λ y. bytes) x status before now R writes is
ok_answers bytes (Err e) status before now R answers writes is = absurd answers

pub err_answers : {A : Type 0} (bytes : List ℕ) (e : PerError) (row : Result A PerError) (status : ℕ)
    (before now : Option (List ℕ)) (R : Type 0) → AnswersRow (Some e) row
    → WritesOutput status before now (error_line e)
    → OrCut status 9 R → AnswersOr (λ x. bytes) row status before now
err_answers bytes e (Ok x) status before now R answers writes is = absurd answers
err_answers bytes e (Err f) status before now R answers writes is =
    answers_err (λ x. bytes) f status before now R
    (writes_as status before now (error_line e) (error_line f) (ap error_line (sym answers)) writes) is

-- where the row is a refusal, one was answered
pub some_refused : {A : Type 0} (refused : Option PerError) (row : Result A PerError) → AnswersRow refused row
    → IsErr row → IsSome refused
some_refused None (Ok x) answers is = is
some_refused None (Err e) answers is = absurd answers
some_refused (Some e) row answers is = refl

pub makes_none : (told : Bool) (app : ℕ) (name text : List ℕ) (status : ℕ) (now : Option (List ℕ)) (old new : Medium)
    → (status ≡ 3) ⊎ (status ≡ 4) → (IsTrue told → ImportKeeps app name text old new)
    → (IsTrue told → WritesImport app name text old new)
    → FailsAtThree status old.faults new.faults
    → Makes told (record { app = app; name = name; text = text }) status (outputs now old) (outputs now new)
makes_none told app name text status now old new is keeps written failed = record {
  it = app_at old.image app;
  seen = λ tells. refl;
  answers = answers_none (λ made. codes "ok\n") (importing_into (app_at old.image app) name text) status now is;
  refused = λ done. absurd (not_done status is done);
  imported = λ tells done. absurd (not_done status is done);
  keeps = keeps;
  written = written;
  quiet = λ done. absurd (not_done status is done);
  failed = failed;
}

-- the input was not read whole
pub uncalled : {told : Bool} {m : Medium} (now : Option (List ℕ)) → IsLawful told m
    → IsUncalled (outputs now m) (outputs now m)
uncalled now lawful = record {
  output = Keeps-refl now;
  stays = looks_none lawful;
  moment = refl;
  faults = refl;
}

-- by which status, after that many bytes
abbrev CutAs : (status count : ℕ) → Type 0
CutAs status count = (status ≡ 4) ⊎ (((status ≡ 5) × (count < 67108864)) ⊎ ((status ≡ 7) × (count ≡ 67108864)))

pub cut_as : (ending : Ending) (status count : ℕ) → status ≡ ending_status (ending_of ending) → IsCut ending count
    → CutAs status count
cut_as AllRead status count is cut = absurd cut
cut_as EndLine status count is cut = absurd cut
cut_as BadLine status count is cut = absurd cut
cut_as OutOfMemory status count is cut = inl is
cut_as Source status count is cut = inr (inl (is, cut))
cut_as Sink status count is cut = absurd cut
cut_as TooLong status count is cut = inr (inr (is, cut))

unread_at : (status count : ℕ) → CutAs status count → (status ≡ 4) ⊎ ((status ≡ 5) ⊎ (status ≡ 7))
unread_at status count (inl four) = inl four
unread_at status count (inr (inl five)) = inr (inl five.0)
unread_at status count (inr (inr seven)) = inr (inr seven.0)

short_at : (status count : ℕ) → CutAs status count → status ≡ 5 → count < 67108864
short_at status count (inl four) five = absurd (omega (arith, four, five))
short_at status count (inr (inl cut)) five = cut.1
short_at status count (inr (inr seven)) five = absurd (omega (arith, seven.0, five))

long_at : (status count : ℕ) → CutAs status count → status ≡ 7 → count ≡ 67108864
long_at status count (inl four) seven = absurd (omega (arith, four, seven))
long_at status count (inr (inl five)) seven = absurd (omega (arith, five.0, seven))
long_at status count (inr (inr cut)) seven = cut.1

not_called : (status count : ℕ) → CutAs status count → CameToOutput status ⊎ (status ≡ 3) → ⊥
not_called status count as_is (inl done) = not_read status (unread_at status count as_is) done
not_called status count (inl four) (inr three) = omega (arith, four, three)
not_called status count (inr (inl five)) (inr three) = omega (arith, five.0, three)
not_called status count (inr (inr seven)) (inr three) = omega (arith, seven.0, three)

untrue : false ≡ true → ⊥
untrue is = cc

-- `before`, with what the source then has left and how many of its calls have failed
abbrev pub with_source : (before : Edges Medium) → (left : Option (List ℕ)) → (source_failures : ℕ) → Edges Medium
with_source before left source_failures = record before { left = left; source_failures = source_failures }

pub imports_cut : (told : Bool) (app : ℕ) (name : List ℕ) (ending : Ending) (status : ℕ) (before : Edges Medium)
    (left : Option (List ℕ)) (source_failures : ℕ) → IsLawful told before.disk
    → status ≡ ending_status (ending_of ending) → Breaks before.left left ending
    → Imports told app name status before (with_source before left source_failures)
imports_cut told app name ending status before left source_failures lawful is breaks =
    let as_is : CutAs status (length breaks.given) = cut_as ending status (length breaks.given) is breaks.cut in
    record {
      given = breaks.given;
      ended = false;
      taken = breaks.taken;
      broken = λ five. (refl, short_at status (length breaks.given) as_is five);
      too_long = λ seven. (refl, long_at status (length breaks.given) as_is seven);
      called = λ called. absurd (not_called status (length breaks.given) as_is called);
      uncalled = λ open_still. uncalled before.taken lawful;
      made = λ ended. absurd (untrue ended);
    }

called_at : (status : ℕ) → ((status ≡ 0) ⊎ (status ≡ 9)) ⊎ ((status ≡ 4) ⊎ ((status ≡ 3) ⊎ (status ≡ 6)))
    → (status ≡ 5 → ⊥) × (status ≡ 7 → ⊥)
called_at status (inl (inl none)) = (λ e. omega (arith, none, e), λ e. omega (arith, none, e))
called_at status (inl (inr nine)) = (λ e. omega (arith, nine, e), λ e. omega (arith, nine, e))
called_at status (inr (inl four)) = (λ e. omega (arith, four, e), λ e. omega (arith, four, e))
called_at status (inr (inr (inl three))) = (λ e. omega (arith, three, e), λ e. omega (arith, three, e))
called_at status (inr (inr (inr six))) = (λ e. omega (arith, six, e), λ e. omega (arith, six, e))

by_status : (status : ℕ) (R Q : Type 0) → ((status ≡ 0) ⊎ (status ≡ 9)) ⊎ ((status ≡ 4) ⊎ (((status ≡ 3) × R)
    ⊎ ((status ≡ 6) × Q))) → ((status ≡ 0) ⊎ (status ≡ 9)) ⊎ ((status ≡ 4) ⊎ ((status ≡ 3) ⊎ (status ≡ 6)))
by_status status R Q (inl written) = inl written
by_status status R Q (inr (inl four)) = inr (inl four)
by_status status R Q (inr (inr (inl three))) = inr (inr (inl three.0))
by_status status R Q (inr (inr (inr six))) = inr (inr (inr six.0))

pub imports_read : (told : Bool) (app : ℕ) (name text given : List ℕ) (status : ℕ) (before after : Edges Medium)
    (R Q : Type 0) → text ≡ given → IsInputTaken before.left after.left given true
    → ((status ≡ 0) ⊎ (status ≡ 9)) ⊎ ((status ≡ 4) ⊎ (((status ≡ 3) × R) ⊎ ((status ≡ 6) × Q)))
    → Makes told (record { app = app; name = name; text = text }) status (outputs before.taken before.disk)
    (outputs after.taken after.disk)
    → Imports told app name status before after
imports_read told app name text given status before after R Q is taken ends makes =
    let apart : (status ≡ 5 → ⊥) × (status ≡ 7 → ⊥) = called_at status (by_status status R Q ends) in
    record {
      given = given;
      ended = true;
      taken = taken;
      broken = λ five. absurd (apart.0 five);
      too_long = λ seven. absurd (apart.1 seven);
      called = λ called. refl;
      uncalled = λ unseen. absurd (untrue (sym unseen));
      made = λ ended. subst (λ (t : List ℕ). Makes told (record { app = app; name = name; text = t }) status
          (outputs before.taken before.disk) (outputs after.taken after.disk)) is makes;
    }
