-- What the matches of the words say, and that the words have matches.
use Rattle.std.proofs.Common.{ℕ, List, [], ◌∷◌, length, Bool, true, false, Option, Some, None, Result, Ok, Err, IfOk}
use Rattle.std.proofs.Common.{IsErrAnd, ◌∙◌, ◌≡◌, ◌≢◌, ◌⊎◌, ◌≤◌, ◌<◌, ◌^◌, ◌==◌, refl, sym, ap, subst, arith, ⊎_elim}
use Rattle.std.proofs.Common.{ap₂, fold, if◌then◌else◌}
use Rattle.std.proofs.lemmas.Bool.{cases_Bool, ne_eqb}
use Rattle.std.specs.Prelude.{⊤}
use Rattle.std.specs.Str.Parse.{IsNumeral, digits_value, without_leading_plus}
use Rattle.clap.proofs.OnLiterals.{clap_on_literals}
use Rattle.clap.proofs.ValueTestLemmas.{accepts-Accepts, Accepts-accepts}
use Rattle.clap.specs.Built.{AddsArg, AddsInTurn}
use Rattle.clap.specs.Faults.{fault_of, is_simple_and_free}
use Rattle.clap.specs.Kinds.{IsAmong, Kinds}
use Rattle.clap.specs.Simple.{App, app_of, is_simple, matches_of, with_rule}
use Rattle.clap.specs.Values.{IsUnsignedIn}
use Rattle.clap.specs.ValueTests.{is_unsigned_in}
use Rattle.clap.specs.Walk.{Row, Rule, rule_of}
use Rattle.clap.specs.declared.builder.arg.Arg.{Arg}
use Rattle.clap.specs.declared.builder.command.Command.{Command}
use Rattle.clap.specs.declared.builder.value_parser.ValueParser.TheVariants as vp
use Rattle.clap.specs.declared.error.kind.ErrorKind.{ErrorKind}
use Rattle.per_base.specs.Fields.{◌>>=◌}
use Rattle.per_run.specs.declared.words.Job.{Job}
use Rattle.per_run.specs.declared.words.JobKind.{JobKind}
use Rattle.per_run.specs.declared.words.WordsError.{WordsError}
use Rattle.per_run.specs.declared.words.WordsError.TheVariants as words_error
use Rattle.per_run.specs.Words.{ReadsWord, command, has_matches, job_in, job_of, modes, number_in, only_mode}

-- ---- the command

-- the arguments have these rules, and none is global
abbrev pub HaveRules : List Arg → List Rule → Type 0
HaveRules [] [] = ⊤
HaveRules (x ∷ xs) (r ∷ rs) = (rule_of x ≡ r) × (x.global ≡ false) × HaveRules xs rs
HaveRules xs rs = ⊥

-- a command that is given them in turn has their rules after its own
pub with_rules : (old new : Command) (app : App) (xs : List Arg) (rs : List Rule) → AddsInTurn AddsArg old xs new
    → app_of old ≡ app → HaveRules xs rs → app_of new ≡ fold with_rule app rs
with_rules old new app [] [] adds is have = ap app_of (sym adds) ∙ is
with_rules old new app (x ∷ xs) (r ∷ rs) adds is have =
    with_rules adds.0 new (with_rule app r) xs rs adds.2 (adds.1.shape have.1 ∙ ap₂ with_rule is have.0) have.2
with_rules old new app [] (r ∷ rs) adds is have = absurd have
with_rules old new app (x ∷ xs) [] adds is have = absurd have

is_simple_one : is_simple command ≡ true
unfolding clap_on_literals
is_simple_one = refl

is_free_one : is_simple_and_free command ≡ true
unfolding clap_on_literals
is_free_one = refl

-- ---- the job of the words is that of their matches

by_matches : (rows : List Row) (ws : List (List ℕ)) (b : Bool) → rows ≡ matches_of command ws → b ≡ true
    → (if b then job_in (matches_of command ws) else None) ≡ job_in rows
by_matches rows ws true same yes_is = ap job_in (sym same)
by_matches rows ws false same yes_is = let bad : false ≡ true = yes_is in cc

none_left : (kinds : Kinds) → kinds ≡ [] → (length kinds == 0) ≡ true
none_left [] is = refl
none_left (k ∷ kinds) is = cc

pub job_says : {Sub : Type 0} (app : App) (rows : List Row) (ws : List (List ℕ)) → app ≡ command
    → (is_simple app ≡ true → (rows ≡ matches_of app ws) × Sub)
    → (is_simple_and_free app ≡ true → fault_of app ws ≡ []) → job_of ws ≡ job_in rows
unfolding job_of
job_says {Sub} app rows ws is matches faults =
    let here : (is_simple command ≡ true → (rows ≡ matches_of command ws) × Sub) =
    subst (λ (a : App). is_simple a ≡ true → (rows ≡ matches_of a ws) × Sub) is matches in
    let fine : (is_simple_and_free command ≡ true → fault_of command ws ≡ []) =
    subst (λ (a : App). is_simple_and_free a ≡ true → fault_of a ws ≡ []) is faults in
    by_matches rows ws (has_matches ws) (here is_simple_one).0 (none_left (fault_of command ws) (fine is_free_one))

-- ---- and there is none where they have no matches

some_left : (kinds : Kinds) (k : ErrorKind) → IsAmong k kinds → (length kinds == 0) ≡ false
some_left [] k among = absurd among
some_left (x ∷ kinds) k among = ne_eqb _ _ (λ is. cc)

no_job : (ws : List (List ℕ)) (b : Bool) → b ≡ false → (if b then job_in (matches_of command ws) else None) ≡ None
no_job ws true none = let bad : true ≡ false = none in cc
no_job ws false none = refl

pub job_none : (app : App) (ws : List (List ℕ)) (k memory : ErrorKind) → app ≡ command
    → (is_simple_and_free app ≡ true → (k ≡ memory) ⊎ IsAmong k (fault_of app ws)) → k ≢ memory → job_of ws ≡ None
unfolding job_of
job_none app ws k memory is fails other =
    let here : (is_simple_and_free command ≡ true → (k ≡ memory) ⊎ IsAmong k (fault_of command ws)) =
    subst (λ (a : App). is_simple_and_free a ≡ true → (k ≡ memory) ⊎ IsAmong k (fault_of a ws)) is fails in
    no_job ws (has_matches ws) (⊎_elim (λ same. absurd (other same)) (λ among. some_left (fault_of command ws) k among)
    (here is_free_one))

-- ---- numbers

-- a number that was read and is in the range
pub number_says : (least most : ℕ) (text : List ℕ) (n : ℕ) → n ≡ digits_value 10 (without_leading_plus text)
    → IsNumeral 10 (without_leading_plus text)
    → digits_value 10 (without_leading_plus text) < 2 ^ 32 → least ≤ n → n ≤ most → number_in least most text ≡ Some n
number_says least most text n is numeral small above below =
    let yes_is : is_unsigned_in least most text ≡ true =
    Accepts-accepts false (vp.Unsigned least most) text (
      numeral,
      omega (arith, small),
      omega (arith, is, above),
      omega (arith, is, below),
    ) in
    rw (yes_is, sym is) refl

-- a text that is no number
pub number_none : (least most : ℕ) (text : List ℕ) → most < 2 ^ 32
    → (IsNumeral 10 (without_leading_plus text) × (digits_value 10 (without_leading_plus text) < 2 ^ 32) → ⊥)
    → number_in least most text ≡ None
number_none least most text small none = ⊎_elim
    (λ (yes_is : is_unsigned_in least most text ≡ true).
    let within : IsUnsignedIn least most text = accepts-Accepts false (vp.Unsigned least most) text yes_is in
    absurd (none (within.0, omega (arith, within.3, small))))
    (λ (no_is : is_unsigned_in least most text ≡ false). rw no_is refl)
    (cases_Bool (is_unsigned_in least most text))

-- what was read, by other names for what is said
pub reads_as : {T : Type 0} (result : Result T WordsError) (said same : Option T) → said ≡ same → ReadsWord result said
    → ReadsWord result same
reads_as result said same is reads = subst (ReadsWord result) is reads

-- ---- the parts of a job

abbrev pub job_from : Option JobKind → Option (Option ℕ) → Option (List ℕ) → Option Job
job_from kind flash dir = kind >>= λ k. flash >>= λ f. dir >>= λ d. Some (record { dir = d; kind = k; flash = f })

no_flash : (kind : Option JobKind) (flash : Option (Option ℕ)) (dir : Option (List ℕ)) → flash ≡ None
    → job_from kind flash dir ≡ None
no_flash None flash dir none = refl
no_flash (Some k) flash dir none = ap (λ (f : Option (Option ℕ)). job_from (Some k) f dir) none

no_dir : (kind : Option JobKind) (flash : Option (Option ℕ)) (dir : Option (List ℕ)) → dir ≡ None
    → job_from kind flash dir ≡ None
no_dir None flash dir none = refl
no_dir (Some k) None dir none = refl
no_dir (Some k) (Some f) dir none = ap (λ (d : Option (List ℕ)). job_from (Some k) (Some f) d) none

-- a part that was refused, or that there was no memory for
failed_as : {A B : Type 0} (e : WordsError) (part : Option A) (whole : Option B) → (part ≡ None → whole ≡ None)
    → ReadsWord {T = A} (Err e) part → ReadsWord {T = B} (Err e) whole
failed_as words_error.Refused part whole none reads = none reads
failed_as words_error.OutOfMemory part whole none reads = tt

handed_on : {A : Type 0} (result : Result Job WordsError) (e : WordsError) (part : Option A) (whole : Option Job)
    → IsErrAnd result (λ x. x ≡ e) → (part ≡ None → whole ≡ None)
    → ReadsWord {T = A} (Err e) part → ReadsWord result whole
handed_on (Ok job) e part whole is none reads = absurd is
handed_on (Err x) e part whole is none reads = failed_as x part whole none
    (subst (λ (y : WordsError). ReadsWord (Err y) part) (sym is) reads)

pub flash_fails : (result : Result Job WordsError) (e : WordsError) (kind : Option JobKind)
    (flash same : Option (Option ℕ)) (dir : Option (List ℕ)) → IsErrAnd result (λ x. x ≡ e)
    → flash ≡ same → ReadsWord {T = Option ℕ} (Err e) flash → ReadsWord result (job_from kind same dir)
flash_fails result e kind flash same dir is same_is reads =
    handed_on result e same (job_from kind same dir) is (no_flash kind same dir)
    (reads_as (Err e) flash same same_is reads)

pub dir_fails : (result : Result Job WordsError) (e : WordsError) (kind : Option JobKind) (flash : Option (Option ℕ))
    (dir same : Option (List ℕ)) → IsErrAnd result (λ x. x ≡ e)
    → dir ≡ same → ReadsWord {T = List ℕ} (Err e) dir → ReadsWord result (job_from kind flash same)
dir_fails result e kind flash dir same is same_is reads =
    handed_on result e same (job_from kind flash same) is (no_dir kind flash same)
    (reads_as (Err e) dir same same_is reads)

pub job_is : (k : JobKind) (f : Option ℕ) (d : List ℕ) (kind : Option JobKind) (flash : Option (Option ℕ))
    (dir : Option (List ℕ)) → kind ≡ Some k → flash ≡ Some f → dir ≡ Some d
    → job_from kind flash dir ≡ Some (record { dir = d; kind = k; flash = f })
job_is k f d kind flash dir kind_is flash_is dir_is = rw (kind_is, flash_is, dir_is) refl

-- ---- what was read of the matches is what the words say

pub job_read : (result : Result Job WordsError) (said same : Option Job) → same ≡ said → ReadsWord result said
    → IfOk result (λ job. same ≡ Some job)
job_read (Ok job) said same is reads = is ∙ reads
job_read (Err e) said same is reads = tt

pub job_refused : (result : Result Job WordsError) (said same : Option Job) → same ≡ said → ReadsWord result said
    → result ≡ Err words_error.Refused → same ≡ None
job_refused result said same is reads refused = is ∙ subst (λ (r : Result Job WordsError). ReadsWord r said) refused
    reads

pub modes_as : {f g a b s t : Bool} {n m x y i j k l r q : Option (List ℕ)} → f ≡ g → n ≡ m → a ≡ b → x ≡ y → i ≡ j
    → s ≡ t → k ≡ l → r ≡ q → only_mode (modes (record {
      formats = f;
      generates = n;
      audits = a;
      exports = x;
      imports = i;
      serves = s;
      lists = k;
      recovers = r;
    })) ≡ only_mode (modes (record {
      formats = g;
      generates = m;
      audits = b;
      exports = y;
      imports = j;
      serves = t;
      lists = l;
      recovers = q;
    }))
modes_as formats number audits exports imports serves lists recovers =
    rw (formats, number, audits, exports, imports, serves, lists, recovers) refl
