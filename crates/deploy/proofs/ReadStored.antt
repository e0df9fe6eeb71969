-- What is read of storages before an update, one after another.
use Rattle.std.proofs.Common.{◌≡◌, ℕ, zero, suc, ◌+◌, ◌≤◌, ◌<◌, List, [], ◌∷◌, ◌++◌, length, get_or, slice_get, take}
use Rattle.std.proofs.Common.{Bool, true, false, IsTrue, Option, None, Some, refl, sym, ap, ◌∙◌, subst, arith}
use Rattle.std.specs.Prelude.{map}
use Rattle.std.specs.List.{AllByRecursion}
use Rattle.std.proofs.lemmas.Bool.{false≢true}
use Rattle.std.proofs.lemmas.List.{map-append, take_all}
use Rattle.per_base.specs.declared.elements.Content.{Content}
use Rattle.per_base.specs.declared.elements.Content.TheVariants.{Good, Bad}
use Rattle.per_base.specs.declared.elements.Entry.{Entry}
use Rattle.per_base.specs.declared.elements.StoreKind.{StoreKind}
use Rattle.per_base.specs.Contents.{HasLength}
use Rattle.disk_model.specs.Image.{Image}
use Rattle.disk_model.specs.Laws.{elapses_none, elapses_on, idle_none, idle_on}
use Rattle.disk_model.specs.Medium.{Elapses, IsIdle, IsLawful, Medium, Quiet}
use Rattle.index_text.specs.Rules.{max_len}
use Rattle.deployment_model.specs.Conditions.{IsDeployment}
use Rattle.deployment_model.specs.Data.{DeploymentData, StorageData, deployment_data, storage_data}
use Rattle.deployment_model.specs.declared.configs.Deployment.{Deployment}
use Rattle.deployment_model.specs.declared.configs.StorageConfig.{StorageConfig}
use Rattle.deployment_model.specs.Lookups.{storage_named, storage_number}
use Rattle.element_state.specs.declared.shapes.Shape.{Shape}
use Rattle.element_state.specs.declared.shapes.View.{View}
use Rattle.element_state.specs.Chosen.{opened_of}
use Rattle.element_state.specs.Read.{IsEntryOf, IsView}
use Rattle.element_state.specs.States.{Corrupt, Opens, State, store_at}
use Rattle.update_plan.specs.declared.contents.Stored.{Stored}
use Rattle.update_plan.specs.declared.contents.StorageContents.{StorageContents}
use Rattle.update_plan.specs.declared.contents.StorageContents.TheVariants.{Damaged, Present}
use Rattle.update_plan.specs.Plans.{AreContentsOf, ArePresent, AreStored, IsSmall, IsStoredEntry, IsStoredOf}
use Rattle.deploy_laws.specs.Places.{shapes_from, storage_shape}
use Rattle.deploy_rows.specs.Rows.{contents_of, contents_stored}
use Rattle.deploy.specs.Beginning.{AreReadContents}

-- ---- one storage

pub opened_contents : (s : State) (v : View) → opened_of s ≡ Some v → contents_of s ≡ Present v.entries
opened_contents (Opens w others) v is =
    let same : w ≡ v = cc in
    ap (λ (x : View). Present x.entries) same
opened_contents (Corrupt salvage others) v is = absurd cc

pub corrupt_contents : (s : State) → opened_of s ≡ None → contents_of s ≡ Damaged
corrupt_contents (Opens w others) is = absurd cc
corrupt_contents (Corrupt salvage others) is = refl

small : (kind : StoreKind) (len : ℕ) (c : Content) → HasLength c len → len ≤ max_len kind → IsSmall kind c
small kind len (Good bytes) long le = subst (λ (n : ℕ). n ≤ max_len kind) (sym long) le
small kind len (Bad salvage) long le = tt

entries_stored : (shape : Shape) (es : List Entry) → AllByRecursion (IsEntryOf shape) es
    → AllByRecursion (IsStoredEntry shape.kind) es
entries_stored shape [] all = tt
entries_stored shape (e ∷ es) all = (
  record { info = all.0.info; small = small shape.kind e.len e.content all.0.content all.0.len },
  entries_stored shape es all.1,
)

-- a view is of the kind of its storage
pub view_stored : (shape : Shape) (v : View) (kind : StoreKind) → shape.kind ≡ kind → IsView shape v
    → AreStored kind v.entries
view_stored shape v kind same is = subst (λ (k : StoreKind). AreStored k v.entries) same
    (record { names_ascend = is.names_ascend; each = entries_stored shape v.entries is.each })

pub shape_kind : (app bank number : ℕ) (s : StorageData) (shape : Shape) → shape ≡ storage_shape app bank number s
    → shape.kind ≡ s.kind
unfolding storage_shape
shape_kind app bank number s shape is = ap (λ (x : Shape). x.kind) is

-- ---- one more

more_shapes : (app bank number : ℕ) (ss : List StorageData) (s : StorageData)
    → shapes_from app bank number (ss ++ s ∷ []) ≡ shapes_from app bank number ss
    ++ storage_shape app bank (number + length ss) s ∷ []
more_shapes app bank number [] s =
    let here : number ≡ number + 0 = omega arith in
    ap (λ (n : ℕ). storage_shape app bank n s ∷ []) here
more_shapes app bank number (x ∷ ss) s =
    let on : suc number + length ss ≡ number + suc (length ss) = omega arith in
    ap (λ (shapes : List Shape). storage_shape app bank number x ∷ shapes) (more_shapes app bank (suc number) ss s)
    ∙ ap (λ (n : ℕ). storage_shape app bank number x ∷ (shapes_from app bank (suc number) ss
    ++ storage_shape app bank n s ∷ []))
    on

more_stored : (ss : List StorageData) (states : List State) (s : StorageData) (state : State)
    → length states ≡ length ss
    → contents_stored (ss ++ s ∷ []) (states ++ state ∷ []) ≡ contents_stored ss states
    ++ record { name = s.name; contents = contents_of state } ∷ []
more_stored [] [] s state same = refl
more_stored [] (x ∷ states) s state same = absurd (omega (arith, same))
more_stored (y ∷ ss) [] s state same = absurd (omega (arith, same))
more_stored (y ∷ ss) (x ∷ states) s state same =
    ap (λ (xs : List Stored). record { name = y.name; contents = contents_of x } ∷ xs)
    (more_stored ss states s state (omega (arith, same)))

one_longer : {A : Type 0} (xs : List A) (x : A) → length (xs ++ x ∷ []) ≡ suc (length xs)
one_longer [] x = refl
one_longer (y ∷ xs) x = ap suc (one_longer xs x)

-- a state of these contents, and it is the storage's where the disk is modelled
pub record IsStateOf (told : Bool) (theirs : State) (contents : StorageContents) : Type 0 where
  pub state : State
  pub same : IsTrue told → theirs ≡ state
  pub holds : contents_of state ≡ contents

state_of : (told : Bool) (theirs : State) (contents : StorageContents) → (IsTrue told → contents_of theirs ≡ contents)
    → (state : State) × (contents_of state ≡ contents) → IsStateOf told theirs contents
state_of true theirs contents tells some = record { state = theirs; same = λ _. refl; holds = tells refl }
state_of false theirs contents tells some = record {
  state = some.0;
  same = λ no. absurd (false≢true no);
  holds =
      some.1;
}

module _ (told : Bool) (image : Image) (app bank : ℕ) (ss : List StorageData) (s : StorageData) (contents : List Stored)
    (x : Stored) where
  pub read_more : AreReadContents told image (shapes_from app bank 0 ss) ss contents → x.name ≡ s.name
      → (IsTrue told → contents_of (store_at image (storage_shape app bank (length ss) s)) ≡ x.contents)
      → (state : State) × (contents_of state ≡ x.contents)
      → AreReadContents told image (shapes_from app bank 0 (ss ++ s ∷ [])) (ss ++ s ∷ []) (contents ++ x ∷ [])
  read_more read name tells some =
      let shape : Shape = storage_shape app bank (length ss) s in
      let of : IsStateOf told (store_at image shape) x.contents =
      state_of told (store_at image shape) x.contents tells some in
      let zero_on : 0 + length ss ≡ length ss = omega arith in
      let shapes : shapes_from app bank 0 (ss ++ s ∷ []) ≡ shapes_from app bank 0 ss ++ shape ∷ [] =
      more_shapes app bank 0 ss s ∙ ap (λ (n : ℕ). shapes_from app bank 0 ss
      ++ storage_shape app bank n s ∷ []) zero_on in
      let last : ◌≡◌ {A = Stored} x (record { name = s.name; contents = contents_of of.state }) =
      ap (λ (n : List ℕ). record { name = n; contents = x.contents }) name
      ∙ ap (λ (c : StorageContents). record { name = s.name; contents = c }) (sym of.holds) in
      record {
        states = read.states ++ of.state ∷ [];
        each = one_longer read.states of.state ∙ ap suc read.each ∙ sym (one_longer ss s);
        theirs = λ told_so. ap (λ (xs : List Shape). map (store_at image) xs) shapes
            ∙ map-append (store_at image) (shapes_from app bank 0 ss) (shape ∷ [])
            ∙ ap (λ (states : List State). states ++ store_at image shape ∷ []) (read.theirs told_so)
            ∙ ap (λ (state : State). read.states ++ state ∷ []) (of.same told_so);
        stored = ap (λ (xs : List Stored). xs ++ x ∷ []) read.stored
            ∙ ap (λ (y : Stored). contents_stored ss read.states ++ y ∷ []) last
            ∙ sym (more_stored ss read.states s of.state read.each);
      }

pub read_none : (told : Bool) (image : Image) (app bank : ℕ) → AreReadContents told image
    (shapes_from app bank 0 []) [] []
read_none told image app bank = record { states = []; each = refl; theirs = λ _. refl; stored = refl }

-- ---- of their kinds

pub all_more : {A : Type 0} (P : A → Type 0) (xs : List A) (x : A) → AllByRecursion P xs → P x
    → AllByRecursion P (xs ++ x ∷ [])
all_more P [] x all is = (is, tt)
all_more P (y ∷ xs) x all is = (all.0, all_more P xs x all.1 is)

pub is_of : (d : DeploymentData) (s : StorageData) (x : Stored) → x.name ≡ s.name → storage_named d s.name ≡ Some s
    → ArePresent s.kind x.contents → IsStoredOf d x
is_of d s x name found are = subst (λ (o : Option StorageData). AreContentsOf o x.contents)
    (sym (ap (λ (n : List ℕ). storage_named d n) name ∙ found)) are

-- ---- a list and its images, by a number

at_number : {A B : Type 0} (f : A → B) (xs : List A) (i : ℕ) (x : A) → i < length xs → x ≡ get_or xs i x
    → slice_get (map f xs) i ≡ Some (f x)
at_number f [] i x lt is = absurd (omega (arith, lt))
at_number f (y ∷ ys) zero x lt is = ap (λ z. Some (f z)) (sym is)
at_number f (y ∷ ys) (suc i) x lt is = at_number f ys i x (omega (arith, lt)) is

taken_more : {A B : Type 0} (f : A → B) (xs : List A) (i : ℕ) (x : A) → i < length xs → x ≡ get_or xs i x
    → take (suc i) (map f xs) ≡ take i (map f xs) ++ f x ∷ []
taken_more f [] i x lt is = absurd (omega (arith, lt))
taken_more f (y ∷ ys) zero x lt is = ap (λ z. f z ∷ []) (sym is)
taken_more f (y ∷ ys) (suc i) x lt is = ap (λ zs. f y ∷ zs) (taken_more f ys i x (omega (arith, lt)) is)

taken : {A : Type 0} (xs : List A) (i : ℕ) → i ≤ length xs → length (take i xs) ≡ i
taken xs zero le = refl
taken [] (suc i) le = absurd (omega (arith, le))
taken (x ∷ xs) (suc i) le = ap suc (taken xs i (omega (arith, le)))

as_long : {A B : Type 0} (f : A → B) (xs : List A) → length (map f xs) ≡ length xs
as_long f [] = refl
as_long f (x ∷ xs) = ap suc (as_long f xs)

-- ---- one after another

-- that many of the storages were read, and nothing changed
pub record IsReading (told : Bool) (app bank number : ℕ) (d : Deployment) (contents : List Stored)
    (old now : Medium) : Type 0 where
  pub read : AreReadContents told old.image (shapes_from app bank 0 (take number (map storage_data d.storages)))
      (take number (map storage_data d.storages)) contents
  pub kinds : AllByRecursion (IsStoredOf (deployment_data d)) contents
  pub image : now.image ≡ old.image
  pub idle : Quiet old → IsIdle old now
  pub written : now.written ≡ old.written
  pub passes : now.faults ≡ old.faults
  pub time : Elapses old now

pub reading_none : (told : Bool) (app bank : ℕ) (d : Deployment) (m : Medium) → IsLawful told m
    → IsReading told app bank 0 d [] m m
reading_none told app bank d m law = record {
  read = read_none told m.image app bank;
  kinds = tt;
  image = refl;
  idle = λ quiet. idle_none law quiet;
  written = refl;
  passes = refl;
  time = elapses_none law;
}

-- of names_are_apart
abbrev pub NamesLaw : Type 0
NamesLaw = (d : DeploymentData) (i : ℕ) (s : StorageData) → IsDeployment d → slice_get d.storages i ≡ Some s
    → (storage_named d s.name ≡ Some s) × (storage_number d s.name ≡ Some i)

module _ (told : Bool) (app bank number : ℕ) (d : Deployment) (contents : List Stored) (old mid new : Medium)
    (before : IsReading told app bank number d contents old mid)
    (time : Elapses mid new) where
  pub more_idle : new.image ≡ mid.image → (Quiet mid → IsIdle mid new) → Quiet old → IsIdle old new
  more_idle image idle quiet = idle_on before.time (before.idle quiet) time (idle (before.idle quiet).quiet)

  module _ (names : NamesLaw) (is : IsDeployment (deployment_data d)) (config : StorageConfig)
      (some : number < length d.storages)
      (here : config ≡ get_or d.storages number config) (x : Stored) (name : x.name ≡ config.name)
      (theirs : IsTrue told → contents_of (store_at mid.image (storage_shape app bank number (storage_data config)))
      ≡ x.contents)
      (some_state : (state : State) × (contents_of state ≡ x.contents)) (present : ArePresent config.kind x.contents)
      (image : new.image ≡ mid.image) (idle : Quiet mid → IsIdle mid new) (written : new.written ≡ mid.written)
      (passes : new.faults ≡ mid.faults) where
    pub reading_more : IsReading told app bank (number + 1) d (contents ++ x ∷ []) old new
    reading_more =
        let s : StorageData = storage_data config in
        let ss : List StorageData = map storage_data d.storages in
        let on : suc number ≡ number + 1 = omega arith in
        let long = as_long storage_data d.storages in
        let low : number ≤ length ss = omega (arith, long, some) in
        let its_number : length (take number ss) ≡ number = taken ss number low in
        subst (λ (n : ℕ). IsReading told app bank n d (contents ++ x ∷ []) old new) on
        (record {
          read = subst (λ (ts : List StorageData). AreReadContents told old.image (shapes_from app bank 0 ts) ts
              (contents ++ x ∷ []))
              (sym (taken_more storage_data d.storages number config some here))
              (read_more told old.image app bank (take number ss) s contents x before.read name
              (λ tells. subst (λ (n : ℕ). contents_of (store_at old.image (storage_shape app bank n s)) ≡ x.contents)
              (sym its_number)
              (subst (λ (i : Image). contents_of (store_at i (storage_shape app bank number s))
              ≡ x.contents) before.image
              (theirs tells)))
              some_state);
          kinds = all_more (IsStoredOf (deployment_data d)) contents x before.kinds
              (is_of (deployment_data d) s x name (names (deployment_data d) number s is
              (at_number storage_data d.storages number config some here)).0 present);
          image = image ∙ before.image;
          idle = more_idle image idle;
          written = written ∙ before.written;
          passes = passes ∙ before.passes;
          time = elapses_on before.time time;
        })

-- all of them were
pub read_all : (told : Bool) (app bank number : ℕ) (d : Deployment) (contents : List Stored) (old now : Medium)
    → IsReading told app bank number d contents old now
    → length d.storages ≤ number → AreReadContents told old.image (shapes_from app bank 0 (map storage_data d.storages))
    (map storage_data d.storages) contents
read_all told app bank number d contents old now reading past =
    let long = as_long storage_data d.storages in
    subst (λ (ts : List StorageData). AreReadContents told old.image (shapes_from app bank 0 ts) ts contents)
    (take_all number (map storage_data d.storages) (omega (arith, long, past))) reading.read
