-- What writes of the file leave that are cut short, by a failure or a power loss.
use Rattle.std.proofs.Common.{◌≡◌, ◌≢◌, ◌⊎◌, ℕ, ◌+◌, ◌-◌, ◌≤◌, Bool, List, length, min, refl, sym, ap, ◌∙◌, subst}
use Rattle.std.proofs.Common.{inl, inr, ⊎_elim, le_refl, le_trans, arith, cond, ne_eqb, true≢false}
use Rattle.std.specs.Prelude.{Result, Ok, Err, OnOk, OnErr, IfOk, MatchResult, is_ok}
use Rattle.std.proofs.lemmas.Bool.{cases_eq}
use Rattle.disk_model.specs.Image.{Image, end_of, put_image, TornImage}
use Rattle.disk_model.specs.Case.{Case, Follows, WriteOrNot}
use Rattle.disk_model.specs.Medium.{Medium, Quiet, IsLawful, Elapses, OnlyReads, WritesNothing, EachCase}
use Rattle.disk_model.specs.Laws.{cases_on, case_now, goes_on, reads_quiet}
use Rattle.disk_model.specs.Written.{put_tears}
use Rattle.folder_flash.specs.FilePages.{TornFile}

-- ---- answers

pub on_err : {T E : Type 0} (r : Result T E) (P : Type 0) → P → OnErr r P
on_err (Ok x) P p = tt
on_err (Err e) P p = p

-- what a call that succeeded says, once its answer was handed on
pub passed : {T E D : Type 0} (r : Result T E) (made : Result T D) (x : T) (P : Type 0) → is_ok made ≡ is_ok r
    → made ≡ Ok x → OnOk r P → P
passed (Ok y) made x P same is p = p
passed (Err e) made x P same is p = absurd (true≢false (sym (ap is_ok is) ∙ same))

abbrev value_or : {T E : Type 0} → T → Result T E → T
value_or d (Ok x) = x
value_or d (Err e) = d

-- and what it says of what it answered
pub passed_if : {T E D : Type 0} (r : Result T E) (made : Result T D) (x : T) (P : T → Type 0) (Q : E → Type 0)
    → MatchResult r (λ y. made ≡ Ok y) Q → is_ok made ≡ is_ok r → made ≡ Ok x → IfOk r P → P x
passed_if (Ok y) made x P Q cases same is p = subst P (ap (value_or y) (sym cases ∙ is)) p
passed_if (Err e) made x P Q cases same is p = absurd (true≢false (sym (ap is_ok is) ∙ same))

pub on_ok_as : {T E : Type 0} (r s : Result T E) (P Q : Type 0) → s ≡ r → (P → Q) → OnOk r P → OnOk s Q
on_ok_as (Ok x) s P Q same f p = subst (λ s. OnOk s Q) (sym same) (f p)
on_ok_as (Err e) s P Q same f p = subst (λ s. OnOk s Q) (sym same) tt

pub on_err_as : {T E : Type 0} (r s : Result T E) (P Q : Type 0) → s ≡ r → (P → Q) → OnErr r P → OnErr s Q
on_err_as (Ok x) s P Q same f p = subst (λ s. OnErr s Q) (sym same) tt
on_err_as (Err e) s P Q same f p = subst (λ s. OnErr s Q) (sym same) (f p)

-- ---- bytes that may hold anything

end_none : (at : ℕ) → end_of at 0 ≡ 0
end_none at = refl

end_some : (at n : ℕ) → n ≢ 0 → end_of at n ≡ at + n
end_some at n some = subst (λ b. cond b 0 (at + n) ≡ at + n) (sym (ne_eqb n 0 some)) refl

end_within : (at n from m : ℕ) → at ≤ from → from + m ≤ at + n → end_of from m ≤ end_of at n
end_within at n from m low high = ⊎_elim
    (λ e. let z : end_of from m ≡ 0 = subst (λ k. end_of from k ≡ 0) (sym e) (end_none from) in omega (arith, z))
    (λ ne. let some : n ≢ 0 = omega arith in omega (arith, end_some from m ne, end_some at n some))
    (cases_eq m 0)

pub torn_none : (at n : ℕ) (image : Image) → TornImage 0 at n image image
torn_none at n image = record {
  others = λ f ne. refl;
  torn = record { kept = λ i lt out. refl; no_shorter = le_refl _; no_longer = omega arith };
}

pub torn_on : (at n : ℕ) (a b c : Image) → TornImage 0 at n a b → TornImage 0 at n b c → TornImage 0 at n a c
torn_on at n a b c first next = record {
  others = λ f ne. next.others f ne ∙ first.others f ne;
  torn = record {
    kept = λ i lt out. next.torn.kept i (le_trans lt first.torn.no_shorter) out ∙ first.torn.kept i lt out;
    no_shorter = le_trans first.torn.no_shorter next.torn.no_shorter;
    no_longer = omega (arith, first.torn.no_longer, next.torn.no_longer);
  };
}

pub torn_within : (at n from m : ℕ) (a b : Image) → at ≤ from → from + m ≤ at + n → TornImage 0 from m a b
    → TornImage 0 at n a b
torn_within at n from m a b low high cut = record {
  others = cut.others;
  torn = record {
    kept = λ i lt out. cut.torn.kept i lt (⊎_elim (λ below. inl (omega (arith, below, low)))
        (λ past. inr (omega (arith, past, high))) out);
    no_shorter = cut.torn.no_shorter;
    no_longer = omega (arith, cut.torn.no_longer, end_within at n from m low high);
  };
}

-- a whole write is one that may be cut short
pub put_is_torn : (at : ℕ) (bytes : List ℕ) (old new : Image) → new ≡ put_image old 0 at bytes
    → TornImage 0 at (length bytes) old new
put_is_torn at bytes old new is = subst (λ i. TornImage 0 at (length bytes) old i) (sym is) (put_tears old 0 at bytes)

-- ---- a write, and a sync of it

-- a power loss in a write of a disk where nothing was pending
pub cut_write : (at : ℕ) (bytes : List ℕ) (a b : Medium) → Quiet a
    → Follows (WriteOrNot 0 at bytes) a.now (b.since a.moment)
    → EachCase (λ c. TornImage 0 at (length bytes) a.image c.left) a b
cut_write at bytes a b quiet steps c past =
    let n = length bytes in
    let (d, was, step) = steps c past in
    let is : d.left ≡ a.image = (quiet d was).left in
    ⊎_elim
    (λ write. subst (λ i. TornImage 0 at n i c.left) is write.left)
    (λ same. subst (λ i. TornImage 0 at n a.image i) (sym (ap (λ (x : Case). x.left) same ∙ is)) (torn_none at n a.image))
    step

-- and in a sync after it
pub cut_sync : (told : Bool) (P : Case → Type 0) (a b c : Medium) → IsLawful told b → Elapses a b → Elapses b c
    → EachCase P a b → ((x : Case) → c.since b.moment x → b.now x ⊎ P x) → EachCase P a c
cut_sync told P a b c law first next was then x past = ⊎_elim
    (was x)
    (λ new. ⊎_elim (λ now. was x (case_now law first x now)) (λ is. is) (then x new))
    (cases_on first next x past)

-- one that succeeds
pub synced : (at : ℕ) (bytes : List ℕ) (old : Image) (b c : Medium) → b.image ≡ put_image old 0 at bytes → Quiet c
    → WritesNothing b c
    → (x : Case) → c.since b.moment x → b.now x ⊎ TornImage 0 at (length bytes) old x.left
synced at bytes old b c is quiet calls x new = ⊎_elim
    inl
    (λ now. inr (put_is_torn at bytes old x.left ((quiet x now).left ∙ calls.image ∙ is)))
    (calls.during x new)

-- ---- blank bytes up to a place, and then a write there

pub none_filled : (at : ℕ) (image : Image) → TornFile at 0 image image
none_filled at image = let from = min (length (image 0)) at in torn_none from (at + 0 - from) image

more_filled : (at from n : ℕ) (old mid new : Image) → min (length (old 0)) at ≤ from → from + n ≤ at
    → TornFile at 0 old mid
    → TornImage 0 from n mid new
    → TornFile at 0 old new
more_filled at from n old mid new low high filled put =
    let start = min (length (old 0)) at in
    torn_on start (at + 0 - start) old mid new filled
    (torn_within start (at + 0 - start) from n mid new low (omega (arith, low, high)) put)

pub filled_then_put : (at n : ℕ) (old mid new : Image) → TornFile at 0 old mid → TornImage 0 at n mid new
    → TornFile at n old new
filled_then_put at n old mid new filled put =
    let from = min (length (old 0)) at in
    let low : from ≤ at = omega arith in
    torn_on from (at + n - from) old mid new
    (torn_within from (at + n - from) from (at + 0 - from) old mid (le_refl _) (omega (arith, low)) filled)
    (torn_within from (at + n - from) at n mid new low (omega (arith, low)) put)

pub filled_alone : (at n : ℕ) (old new : Image) → TornFile at 0 old new → TornFile at n old new
filled_alone at n old new filled = filled_then_put at n old new new filled (torn_none at n new)

-- ---- the disk while blank bytes are written up to a place

pub record Fills (at : ℕ) (a b : Medium) : Type 0 where
  pub torn : TornFile at 0 a.image b.image
  pub quiet : Quiet a → Quiet b
  pub during : Quiet a → EachCase (λ c. TornFile at 0 a.image c.left) a b

pub fills_none : (at : ℕ) (a b : Medium) → OnlyReads a b → Fills at a b
fills_none at a b reads = record {
  torn = subst (λ i. TornFile at 0 a.image i) (sym reads.image) (none_filled at a.image);
  quiet = λ quiet. reads_quiet quiet reads;
  during = λ quiet c past. subst (λ i. TornFile at 0 a.image i) (sym (quiet c (reads.during c past)).left)
      (none_filled at a.image);
}

module _ (at from : ℕ) (bytes : List ℕ) (a b c : Medium) (low : min (length (a.image 0)) at ≤ from)
    (high : from + length bytes ≤ at) (fills : Fills at a b) (first : Elapses a b) (next : Elapses b c)
    (cut : Quiet b → EachCase (λ x. TornImage 0 from (length bytes) b.image x.left) b c) where
  pub fills_during : Quiet a → EachCase (λ x. TornFile at 0 a.image x.left) a c
  fills_during quiet = goes_on (λ x. TornFile at 0 a.image x.left) first next (fills.during quiet)
      (λ x past. more_filled at from (length bytes) a.image b.image x.left low high fills.torn
      (cut (fills.quiet quiet) x past))

  pub fills_torn : TornImage 0 from (length bytes) b.image c.image → TornFile at 0 a.image c.image
  fills_torn put = more_filled at from (length bytes) a.image b.image c.image low high fills.torn put

  pub fills_on : c.image ≡ put_image b.image 0 from bytes → Quiet c → Fills at a c
  fills_on is quiet = record {
    torn = fills_torn (put_is_torn from bytes b.image c.image is);
    quiet = λ _. quiet;
    during = fills_during;
  }

-- then the bytes are put there
pub fills_then : (at n : ℕ) (a b c : Medium) → TornFile at 0 a.image b.image
    → EachCase (λ x. TornFile at 0 a.image x.left) a b
    → Elapses a b → Elapses b c → EachCase (λ x. TornImage 0 at n b.image x.left) b c
    → EachCase (λ x. TornFile at n a.image x.left) a c
fills_then at n a b c torn was first next cut = goes_on (λ x. TornFile at n a.image x.left) first next
    (λ x past. filled_alone at n a.image x.left (was x past))
    (λ x past. filled_then_put at n a.image b.image x.left torn (cut x past))
