-- What the rows of a deployment exclude.
use Rattle.std.specs.Prelude.{◌≡◌, ◌⊎◌, ℕ, ◌+◌, ◌-◌, List, [], ◌∷◌, Option, Some, None, Bool, true, false, cond}
use Rattle.std.specs.Prelude.{nat_le, Result, Ok, Err}
use Rattle.std.proofs.Common.{refl, sym, ap, ◌∙◌, inl, inr, ⊎_elim, arith}
use Rattle.per_base.specs.declared.errors.PerError.{PerError}
use Rattle.element_state.specs.States.{State, greatest_generation}
use Rattle.deploy_laws.specs.Apps.{Says, nothing, absent, installed, App, app_at}
use Rattle.deploy_laws.specs.Places.{Named}
use Rattle.deploy_rows.specs.Rows.{InProgress, not_worn, after, finishing, rolling_back, wiping, updated_app}
use Rattle.deploy_outcome_laws.specs.Rows.{ActiveBankTaken, BadRootFormatted, CopyLeft, NewContentsKept, PreviousKept}

-- ---- refusals and ends

no_ok : (e : PerError) (b : App) → ◌≡◌ {A = Result App PerError} (Err e) (Ok b) → ⊥
no_ok e b is = absurd cc

ok_is : (x b : App) → ◌≡◌ {A = Result App PerError} (Ok x) (Ok b) → x ≡ b
ok_is x b is = cc

worn_or : (worn : Bool) (e : PerError) (x b : App) → ◌≡◌ {A = Result App PerError} (cond worn (Err e) (Ok x)) (Ok b)
    → x ≡ b
worn_or true e x b is = absurd (no_ok e b is)
worn_or false e x b is = ok_is x b is

row_ok : (g : ℕ) (x b : App) → not_worn g (Ok x) ≡ Ok b → x ≡ b
row_ok g x b is = worn_or (nat_le greatest_generation g) _ x b is

-- the application after a call that led there
after_ok : (a new done : App) (row : Result App PerError) → new ≡ after a row → row ≡ Ok done → new ≡ done
after_ok a new done row is ok = is ∙ ap (after a) ok

worn_after : (worn : Bool) (e : PerError) (a x : App) → (after a (cond worn (Err e) (Ok x)) ≡ a)
    ⊎ (after a (cond worn (Err e) (Ok x)) ≡ x)
worn_after true e a x = inl refl
worn_after false e a x = inr refl

abbrev app : Says → List ℕ → List State → App
app s lacking states = record { says = s; lacking = lacking; states = states }

-- ---- what roots say

no_root : (g : ℕ) → nothing ≡ absent g → ⊥
no_root g is = absurd cc

not_nothing : (g : ℕ) (v : Named) (p : Option Named) → nothing ≡ installed g v p → ⊥
not_nothing g v p is = absurd cc

not_absent : (k g : ℕ) (v : Named) (p : Option Named) → absent k ≡ installed g v p → ⊥
not_absent k g v p is = absurd cc

one_not_two : (k g : ℕ) (v w p : Named) → installed k v None ≡ installed g w (Some p) → ⊥
one_not_two k g v w p is = absurd cc

same_active : (k g : ℕ) (v w : Named) (p q : Option Named) → installed k v p ≡ installed g w q → v ≡ w
same_active k g v w p q is = cc

same_previous : (k g : ℕ) (v w p q : Named) → installed k v (Some p) ≡ installed g w (Some q) → p ≡ q
same_previous k g v w p q is = cc

-- ---- an opening

pub bad_root_formatted : BadRootFormatted
bad_root_formatted app g old new is bad says =
    no_root g (sym bad ∙ sym (ap (λ (a : App). a.says) is) ∙ says)

-- ---- a finish

alone_after : (s : Says) (l : List ℕ) (xs : List State) (b : App) (h : ℕ) (v p : Named)
    → finishing (app s l xs) ≡ Ok b → b.says ≡ installed h v (Some p) → ⊥
unfolding finishing
alone_after nothing l xs b h v p row says = no_ok _ b row
alone_after (absent g) l xs b h v p row says = no_ok _ b row
alone_after (installed g active None) l xs b h v p row says = no_ok _ b row
alone_after (installed g active (Some previous)) l xs b h v p row says =
    one_not_two (g + 1) h active v p (ap (λ (a : App). a.says) (row_ok g _ b row) ∙ says)

pub previous_kept : PreviousKept
previous_kept app h old new done v p is row says =
    let a = app_at old app in
    let there = after_ok a (app_at new app) done (finishing a) is row in
    alone_after a.says a.lacking a.states done h v p row (sym (ap (λ (b : App). b.says) there) ∙ says)

-- ---- a rollback

back_worn : (worn : Bool) (e : PerError) (a x b : App) → b ≡ after a (cond worn (Err e) (Ok x)) → (b ≡ a) ⊎ (b ≡ x)
back_worn worn e a x b is = ⊎_elim (λ same. inl (is ∙ same)) (λ there. inr (is ∙ there)) (worn_after worn e a x)

-- the version that stands alone after a rollback is the previous one
back_alone : (busy : Option (List ℕ)) (s : Says) (l : List ℕ) (xs : List State) (b : App) (g h : ℕ)
    (active previous w : Named)
    → s ≡ installed g active (Some previous) → b ≡ after (app s l xs) (rolling_back busy (app s l xs))
    → b.says ≡ installed h w None → w ≡ previous
unfolding rolling_back
back_alone busy nothing l xs b g h v p w e is says = absurd (not_nothing g v (Some p) e)
back_alone busy (absent k) l xs b g h v p w e is says = absurd (not_absent k g v (Some p) e)
back_alone busy (installed k u None) l xs b g h v p w e is says = absurd (one_not_two k g u v p e)
back_alone (Some name) (installed k u (Some q)) l xs b g h v p w e is says =
    absurd (one_not_two h k w u q (sym says ∙ ap (λ (a : App). a.says) is))
back_alone None (installed k u (Some q)) l xs b g h v p w e is says =
    ⊎_elim (λ same. absurd (one_not_two h k w u q (sym says ∙ ap (λ (a : App). a.says) same)))
    (λ there. same_active h (k + 1) w q None None (sym says ∙ ap (λ (a : App). a.says) there)
    ∙ same_previous k g u v q p e) (back_worn (nat_le greatest_generation k) _ _ _ b is)

pub new_contents_kept : NewContentsKept
new_contents_kept app g h busy old new active previous is was placed says =
    let a = app_at old app in
    let w : Named = record { bank = active.bank; deployment = previous.deployment } in
    let same : w ≡ previous = back_alone busy a.says a.lacking a.states (app_at new app) g h active previous w was is
    says in
    let bank : active.bank ≡ previous.bank = ap (λ (v : Named). v.bank) same in
    let apart = placed.apart in
    let small = placed.of_active.in_bank in
    absurd (omega (arith, bank, apart, small))

-- ---- a wipe

none_lack : (busy : Option (List ℕ)) (s : Says) (l : List ℕ) (xs : List State) (b : App)
    → wiping busy (app s l xs) ≡ Ok b → [] ≡ b.lacking
unfolding wiping
none_lack (Some name) s l xs b row = absurd (no_ok _ b row)
none_lack None nothing l xs b row = ap (λ (a : App). a.lacking) (ok_is _ b row)
none_lack None (absent g) l xs b row = ap (λ (a : App). a.lacking) (row_ok g _ b row)
none_lack None (installed g v p) l xs b row = ap (λ (a : App). a.lacking) (row_ok g _ b row)

no_copy : (copy : ℕ) (rest : List ℕ) → [] ≡ copy ∷ rest → ⊥
no_copy copy rest is = absurd cc

pub copy_left : CopyLeft
copy_left app copy rest busy old new done is row lacks =
    let a = app_at old app in
    let there = after_ok a (app_at new app) done (wiping busy a) is row in
    no_copy copy rest (none_lack busy a.says a.lacking a.states done row
    ∙ sym (ap (λ (b : App). b.lacking) there) ∙ lacks)

-- ---- an update

other_bank : (p : InProgress) (s : Says) (l : List ℕ) (xs : List State) (b : App) (g h : ℕ) (active next : Named)
    (previous : Option Named) → s ≡ installed g active None → b ≡ updated_app p (app s l xs)
    → b.says ≡ installed h next previous → next.bank ≡ 1 - active.bank
unfolding updated_app
other_bank p nothing l xs b g h v n q e is says = absurd (not_nothing g v None e)
other_bank p (absent k) l xs b g h v n q e is says = absurd (not_absent k g v None e)
other_bank p (installed k u r) l xs b g h v n q e is says =
    let there = sym says ∙ ap (λ (a : App). a.says) is in
    let same : n ≡ record { bank = 1 - u.bank; deployment = p.deployment } =
    same_active h (k + 1) n _ q (Some u) there in
    ap (λ (w : Named). w.bank) same ∙ ap (λ (w : Named). 1 - w.bank) (same_active k g u v r None e)

pub active_bank_taken : ActiveBankTaken
active_bank_taken app g h p old new active next previous is was small taken says =
    let a = app_at old app in
    let other = other_bank p a.says a.lacking a.states (app_at new app) g h active next previous was is says in
    absurd (omega (arith, other, small, taken))
