-- Storages of a bank that are made one after another.
use Rattle.std.proofs.Common.{◌≡◌, ℕ, zero, suc, ◌+◌, ◌<◌, ◌≤◌, List, [], ◌∷◌, length, get_or, take, Bool, IsTrue, refl}
use Rattle.std.proofs.Common.{sym, ap, ◌∙◌, subst, inl, inr, ⊎_elim, arith}
use Rattle.std.specs.Prelude.{map}
use Rattle.std.specs.List.{AllByRecursion}
use Rattle.per_base.specs.declared.elements.Fresh.{Fresh}
use Rattle.disk_model.specs.Frame.{IsSettledOn, Spares}
use Rattle.disk_model.specs.Image.{Image}
use Rattle.disk_model.specs.Laws.{elapses_none, elapses_on}
use Rattle.disk_model.specs.Medium.{EachCase, Elapses, IsLawful, Medium, Quiet}
use Rattle.disk_model.specs.Place.{IsOutside}
use Rattle.deployment_model.specs.Conditions.{IsDeployment, IsStorage}
use Rattle.deployment_model.specs.Data.{StorageData, deployment_data, storage_data}
use Rattle.deployment_model.specs.declared.configs.Deployment.{Deployment}
use Rattle.deployment_model.specs.declared.configs.StorageConfig.{StorageConfig}
use Rattle.index_text.specs.Contents.{AreContents}
use Rattle.element_state.specs.declared.shapes.Shape.{Shape}
use Rattle.element_state.specs.Clean.{IsClean}
use Rattle.element_state.specs.States.{fresh_map, fresh_state, store_at}
use Rattle.element_laws.specs.Apart.{FrameLaw}
use Rattle.element_laws.specs.Phases.{IsOfPlace}
use Rattle.update_plan.specs.Plans.{AllFit}
use Rattle.deploy_laws.specs.Laws.{BesideLaw, StorageFilesLaw}
use Rattle.deploy_laws.specs.Places.{IsBeside, IsOutsideBank, shapes_from, storage_shape}
use Rattle.deploy.specs.Clauses.{Leaves}
use Rattle.deploy.specs.Made.{AreMade}
use Rattle.deploy.specs.Remaining.{IsBesideRest}
use Rattle.deploy.proofs.Leaves.{leaves_less, leaves_none, leaves_on}

-- ---- a storage of a deployment, by its number

pub storage_keeps : (ds : List StorageConfig) (k : ℕ) (x : StorageConfig)
    → AllByRecursion IsStorage (map storage_data ds) → k < length ds → x ≡ get_or ds k x
    → IsStorage (storage_data x)
storage_keeps [] k x all lt is = absurd (omega (arith, lt))
storage_keeps (d ∷ ds) zero x all lt is = subst (λ (y : StorageConfig). IsStorage (storage_data y)) (sym is) all.0
storage_keeps (d ∷ ds) (suc k) x all lt is = storage_keeps ds k x all.1 (omega (arith, lt)) is

pub storage_fits : (ds : List StorageConfig) (cs : List (List Fresh)) (k : ℕ) (x : StorageConfig) (fs : List Fresh)
    → AllFit (map storage_data ds) cs
    → k < length ds → x ≡ get_or ds k x → fs ≡ get_or cs k fs → AreContents x.kind x.maximum fs
storage_fits [] cs k x fs all lt is here = absurd (omega (arith, lt))
storage_fits (d ∷ ds) [] k x fs all lt is here = absurd all
storage_fits (d ∷ ds) (c ∷ cs) zero x fs all lt is here =
    subst (λ (y : StorageConfig). AreContents y.kind y.maximum fs) (sym is)
    (subst (λ (es : List Fresh). AreContents d.kind d.maximum es) (sym here) all.0)
storage_fits (d ∷ ds) (c ∷ cs) (suc k) x fs all lt is here = storage_fits ds cs k x fs all.1 (omega (arith, lt)) is here

pub fit_as_long : (ds : List StorageConfig) (cs : List (List Fresh)) → AllFit (map storage_data ds) cs
    → length cs ≡ length ds
fit_as_long [] [] all = refl
fit_as_long [] (c ∷ cs) all = absurd all
fit_as_long (d ∷ ds) [] all = absurd all
fit_as_long (d ∷ ds) (c ∷ cs) all = ap suc (fit_as_long ds cs all.1)

as_many : (ds : List StorageConfig) → length (map storage_data ds) ≡ length ds
as_many [] = refl
as_many (d ∷ ds) = ap suc (as_many ds)

-- there are at most sixteen
pub few_contents : (d : Deployment) (cs : List (List Fresh)) → IsDeployment (deployment_data d)
    → AllFit (map storage_data d.storages) cs
    → (length cs ≤ 16) × (length cs ≡ length d.storages)
few_contents d cs is fit =
    let few : length (map storage_data d.storages) ≤ 16 = is.few in
    let long = as_many d.storages in
    let same = fit_as_long d.storages cs fit in
    (omega (arith, few, long, same), same)

-- ---- what is made stays so

-- where no file of the storages below a number changes
module _ (frame : FrameLaw) (app bank limit : ℕ) (old new : Image)
    (spared : (number : ℕ) (s : StorageData) → number < limit
    → Spares (IsOfPlace (storage_shape app bank number s).place) old new) where
  pub made_stays : (ss : List StorageData) (cs : List (List Fresh)) (from k : ℕ) → from + k ≤ limit
      → AreMade old (take k (shapes_from app bank from ss)) (take k cs)
      → AreMade new (take k (shapes_from app bank from ss)) (take k cs)
  made_stays ss cs from zero low made = tt
  made_stays [] cs from (suc k) low made = tt
  made_stays (s ∷ ss) [] from (suc k) low made = absurd made
  made_stays (s ∷ ss) (c ∷ cs) from (suc k) low made =
      let same = frame (storage_shape app bank from s) old new (spared from s (omega (arith, low))) in
      (same.state ∙ made.0, same.clean made.1, made_stays ss cs (suc from) k (omega (arith, low)) made.2)

-- the files of a storage are beside those of one with a greater number
pub earlier_spared : (files : StorageFilesLaw) (app bank later : ℕ) (old new : Image) → app < 8 → bank ≤ 1 → later ≤ 16
    → Spares (IsBeside app bank later) old new
    → (number : ℕ) (s : StorageData) → number < later → Spares
    (IsOfPlace (storage_shape app bank number s).place) old new
earlier_spared files app bank later old new lt ltb ltn spared number s before f of =
    let high = (files app bank number f s lt ltb (omega (arith, before, ltn)) of).1 in
    spared f (inl (omega (arith, high, before)))

-- and one more is made
module _ (image : Image) (app bank : ℕ) (x : StorageConfig) (fs : List Fresh) where
  pub made_more : (ds : List StorageConfig) (cs : List (List Fresh)) (from k number : ℕ) → from + k ≡ number
      → k < length ds → k < length cs
      → x ≡ get_or ds k x → fs ≡ get_or cs k fs
      → AreMade image (take k (shapes_from app bank from (map storage_data ds))) (take k cs)
      → store_at image (storage_shape app bank number (storage_data x)) ≡ fresh_state 1 (fresh_map fs)
      → IsClean (storage_shape app bank number (storage_data x)) image
      → AreMade image (take (suc k) (shapes_from app bank from (map storage_data ds))) (take (suc k) cs)
  made_more [] cs from k number sum lt ltc is here made state clean = absurd (omega (arith, lt))
  made_more (d ∷ ds) [] from k number sum lt ltc is here made state clean = absurd (omega (arith, ltc))
  made_more (d ∷ ds) (c ∷ cs) from zero number sum lt ltc is here made state clean =
      let at : number ≡ from = omega (arith, sum) in
      let state_is = subst (λ (es : List Fresh). store_at image (storage_shape app bank number (storage_data x))
      ≡ fresh_state 1 (fresh_map es)) here state in (
        subst (λ (n : ℕ). store_at image (storage_shape app bank n (storage_data d)) ≡ fresh_state 1 (fresh_map c)) at
            (subst (λ (y : StorageConfig). store_at image (storage_shape app bank number (storage_data y))
            ≡ fresh_state 1 (fresh_map c)) is state_is),
        subst (λ (n : ℕ). IsClean (storage_shape app bank n (storage_data d)) image) at
            (subst (λ (y : StorageConfig). IsClean (storage_shape app bank number (storage_data y)) image) is clean),
        tt,
      )
  made_more (d ∷ ds) (c ∷ cs) from (suc k) number sum lt ltc is here made state clean = (
    made.0,
    made.1,
    made_more ds cs (suc from) k number (omega (arith, sum)) (omega (arith, lt)) (omega (arith, ltc))
        is here made.2 state clean,
  )

-- all of them are
pub made_all : (image : Image) (app bank : ℕ) (ds : List StorageConfig) (cs : List (List Fresh)) (from k : ℕ)
    → length cs ≡ length ds → k ≡ length cs
    → AreMade image (take k (shapes_from app bank from (map storage_data ds))) (take k cs)
    → AreMade image (shapes_from app bank from (map storage_data ds)) cs
made_all image app bank [] [] from k same all made = tt
made_all image app bank [] (c ∷ cs) from k same all made = absurd (omega (arith, same))
made_all image app bank (d ∷ ds) [] from k same all made = absurd (omega (arith, same))
made_all image app bank (d ∷ ds) (c ∷ cs) from zero same all made = absurd (omega (arith, all))
made_all image app bank (d ∷ ds) (c ∷ cs) from (suc k) same all made =
    (made.0, made.1, made_all image app bank ds cs (suc from) k (omega (arith, same)) (omega (arith, all)) made.2)

-- ---- files

-- what spares the files beside a storage of a bank spares those outside the bank
pub beside_in_bank : (app bank number : ℕ) → number < 16 → (f : ℕ) → IsOutsideBank app bank f
    → IsBeside app bank number f
beside_in_bank app bank number ltn f out = ⊎_elim (λ low. inl (omega (arith, low)))
    (λ high. inr (omega (arith, high, ltn))) out

-- and those beside the storages that remain
beside_in_rest : (app bank built count number : ℕ) → built ≤ number → number < count → (f : ℕ)
    → IsBesideRest app bank built count f → IsBeside app bank number f
beside_in_rest app bank built count number from ltc f rest =
    ⊎_elim (λ low. inl (omega (arith, low, from))) (λ high. inr (omega (arith, high, ltc))) rest

-- of at most sixteen storages none is outside the bank
pub bank_in_rest : (app bank built count : ℕ) → count ≤ 16 → (f : ℕ) → IsOutsideBank app bank f
    → IsBesideRest app bank built count f
bank_in_rest app bank built count few f out = ⊎_elim (λ low. inl (omega (arith, low)))
    (λ high. inr (omega (arith, high, few))) out

pub outside_rest : (told : Bool) (app bank built : ℕ) (d : Deployment) (cs : List (List Fresh)) (old new : Medium)
    → IsDeployment (deployment_data d)
    → AllFit (map storage_data d.storages) cs → Leaves told (IsBesideRest app bank built (length cs)) old new
    → Leaves told (IsOutsideBank app bank) old new
outside_rest told app bank built d cs old new keeps fit leaves =
    leaves_less told (IsBesideRest app bank built (length cs)) (IsOutsideBank app bank) old new
    (bank_in_rest app bank built (length cs) (few_contents d cs keeps fit).0) leaves

-- where a storage alone was made
pub storage_outside : (told : Bool) (app bank number : ℕ) (s : StorageData) (shape : Shape) (old new : Medium)
    → BesideLaw → app < 8 → bank ≤ 1 → number < 16
    → shape ≡ storage_shape app bank number s
    → (IsTrue told → Spares (IsOutside shape.place) old.image new.image)
    → (IsTrue told → Quiet old → EachCase (IsSettledOn (IsOutside shape.place) old.image) old
    new)
    → Leaves told (IsBeside app bank number) old new
storage_outside told app bank number s shape old new beside lt ltb ltn is elsewhere outside =
    leaves_less told (IsOutside shape.place) (IsBeside app bank number) old new
    (λ f aside. subst (λ (it : Shape). IsOutside it.place f) (sym is)
    (beside app bank number f s lt ltb ltn aside))
    (record { at_the_end = elsewhere; throughout = outside })

-- ---- one after another

-- from number `built` on that many of the storages are made, and only files of those that remained changed
pub record IsMaking (told : Bool) (app bank built number : ℕ) (ds : List StorageConfig) (cs : List (List Fresh))
    (old now : Medium) : Type 0 where
  pub made : IsTrue told → AreMade now.image (take number (shapes_from app bank 0 (map storage_data ds)))
      (take number cs)
  pub quiet : Quiet old → Quiet now
  pub passes : now.faults ≡ old.faults
  pub outside : Leaves told (IsBesideRest app bank built (length cs)) old now
  pub time : Elapses old now

pub making_none : (told : Bool) (app bank built : ℕ) (ds : List StorageConfig) (cs : List (List Fresh)) (m : Medium)
    → IsLawful told m
    → (IsTrue told → AreMade m.image (take built (shapes_from app bank 0 (map storage_data ds))) (take built cs))
    → IsMaking told app bank built built ds cs m m
making_none told app bank built ds cs m law made = record {
  made = made;
  quiet = λ quiet. quiet;
  passes = refl;
  outside = leaves_none told (IsBesideRest app bank built (length cs)) m law;
  time = elapses_none law;
}

module _ (told : Bool) (app bank built number : ℕ) (ds : List StorageConfig) (cs : List (List Fresh))
    (old mid new : Medium) (ltn : number < 16)
    (from : built ≤ number) (ltc : number < length cs) (before : IsMaking told app bank built number ds cs old mid)
    (outside : Leaves told (IsBeside app bank number) mid new) (time : Elapses mid new) where
  pub more_outside : Leaves told (IsBesideRest app bank built (length cs)) old new
  more_outside = leaves_on told (IsBesideRest app bank built (length cs)) old mid new before.time time before.quiet
      before.outside
      (leaves_less told (IsBeside app bank number) (IsBesideRest app bank built (length cs)) mid new
      (beside_in_rest app bank built (length cs) number from ltc) outside)

  pub more_time : Elapses old new
  more_time = elapses_on before.time time

  module _ (frame : FrameLaw) (files : StorageFilesLaw) (x : StorageConfig) (fs : List Fresh) (lt : app < 8)
      (ltb : bank ≤ 1)
      (ltd : number < length ds) (is : x ≡ get_or ds number x) (here : fs ≡ get_or cs number fs)
      (state : IsTrue told → store_at new.image (storage_shape app bank number (storage_data x))
      ≡ fresh_state 1 (fresh_map fs))
      (clean : IsTrue told → IsClean (storage_shape app bank number (storage_data x)) new.image) (quiet : Quiet new)
      (passes : new.faults ≡ mid.faults) where
    pub making_more : IsMaking told app bank built (number + 1) ds cs old new
    making_more =
        let on : suc number ≡ number + 1 = omega arith in
        subst (λ (n : ℕ). IsMaking told app bank built n ds cs old new) on
        (record {
          made = λ tells. made_more new.image app bank x fs ds cs 0 number number (omega arith) ltd ltc is here
              (made_stays frame app bank number mid.image new.image
              (earlier_spared files app bank number mid.image new.image lt ltb (omega (arith, ltn))
              (outside.at_the_end tells))
              (map storage_data ds) cs 0 number (omega arith) (before.made tells))
              (state tells) (clean tells);
          quiet = λ _. quiet;
          passes = passes ∙ before.passes;
          outside = more_outside;
          time = more_time;
        })
