-- What is known while the copies of a content are looked at, one after another.
use Rattle.std.proofs.Common.{◌≡◌, ℕ, ◌+◌, ◌*◌, ◌≤◌, min, List, [], ◌∷◌, ◌++◌, length, Bool, true, false, cond, IsTrue}
use Rattle.std.proofs.Common.{Option, Some, None, refl, sym, ap, ◌∙◌, subst, arith}
use Rattle.std.specs.Prelude.{IfSome, IsSomeAnd, map}
use Rattle.std.specs.List.{range_with_len}
use Rattle.std.specs.Str.{bytes_eq}
use Rattle.std.proofs.lemmas.List.{length_push}
use Rattle.sha2.specs.Sha256.{sha256}
use Rattle.sha2.specs.declared.Sha256.{Sha256}
use Rattle.disk_model.specs.Image.{Image}
use Rattle.disk_model.specs.Place.{area}
use Rattle.disk_model.specs.declared.place.Place.{Place}
use Rattle.disk_model.specs.Medium.{Medium, Elapses, OnlyReads}
use Rattle.block_files.specs.Areas.{joined}
use Rattle.block_files.specs.Contents.{counting, first_content, HaveSize}
use Rattle.block_files.specs.States.{AreOfFirst}
use Rattle.block_files.proofs.BlockReads.{IsRead, read_on}
use Rattle.block_files.proofs.Counting.{contents_of, counting_some, first_size, sizes_more, texts_more}
use Rattle.block_files.proofs.First.{first_push, or_else}
use Rattle.block_files.proofs.Runs.{joined_cut}

-- ---- the first that counts has the hash

first_or : (P : List ℕ → Type 0) (text : Option (List ℕ)) (rest : List (Option (List ℕ))) → IfSome text P
    → IfSome (first_content rest) P → IfSome (first_content (text ∷ rest)) P
first_or P None rest here later = later
first_or P (Some t) rest here later = here

first_of : (P : List ℕ → Type 0) (give : ℕ → Option (List ℕ)) → ((c : ℕ) → IfSome (give c) P) → (copies : List ℕ)
    → IfSome (first_content (map give copies)) P
first_of P give each [] = tt
first_of P give each (c ∷ copies) = first_or P (give c) (map give copies) (each c) (first_of P give each copies)

hashed_by : (bytes hash : List ℕ) (same : Bool) → bytes_eq (sha256 bytes) hash ≡ same
    → IfSome (cond same (Some bytes) None) (λ t. bytes_eq (sha256 t) hash ≡ true)
hashed_by bytes hash true is = is
hashed_by bytes hash false is = tt

hashed : (file blocks : List ℕ) (len : ℕ) (hash : List ℕ)
    → IfSome (counting file blocks len hash) (λ t. bytes_eq (sha256 t) hash ≡ true)
unfolding counting
hashed file blocks len hash = hashed_by (joined file blocks len) hash
    (bytes_eq (sha256 (joined file blocks len)) hash) refl

first_hashed : (place : Place) (n : ℕ) (blocks : List ℕ) (len : ℕ) (hash : List ℕ) (image : Image)
    → IfSome (first_content (contents_of place n blocks len hash image)) (λ t. bytes_eq (sha256 t) hash ≡ true)
first_hashed place n blocks len hash image =
    first_of (λ t. bytes_eq (sha256 t) hash ≡ true) (λ c. counting (image (area place c)) blocks len hash)
    (λ c. hashed (image (area place c)) blocks len hash) (range_with_len 0 n)

-- ---- a copy that has the bytes of the first that counts

counting_first : (first : Option (List ℕ)) (file blocks : List ℕ) (len : ℕ) (hash : List ℕ)
    → IsSomeAnd first (λ t. joined file blocks (length t) ≡ t)
    → IfSome first (λ t. length t ≡ min len (256 * length blocks))
    → IfSome first (λ t. bytes_eq (sha256 t) hash ≡ true)
    → first ≡ counting file blocks len hash
counting_first None file blocks len hash same size counts = absurd same
counting_first (Some t) file blocks len hash same size counts =
    counting_some file blocks len hash t (sym same ∙ joined_cut file blocks len (length t) size) counts

or_same : (text : Option (List ℕ)) → or_else text text ≡ text
or_same None = refl
or_same (Some t) = refl

pub first_stays : (given : List (Option (List ℕ))) (states : List Sha256) → AreOfFirst given states
    → AreOfFirst (given ++ first_content given ∷ []) states
first_stays given states are text is =
    are text (sym (first_push given (first_content given) ∙ or_same (first_content given)) ∙ is)

fits : (len room : ℕ) (text : Option (List ℕ)) → IfSome text (λ t. length t ≡ min len room)
    → IfSome text (λ t. length t ≤ room)
fits len room None is = tt
fits len room (Some t) is = omega (arith, is)

-- the blocks have room for the first that counts
pub first_fits : (len room : ℕ) (given : List (Option (List ℕ))) → HaveSize (min len room) given
    → IfSome (first_content given) (λ t. length t ≤ room)
first_fits len room given sizes = fits len room (first_content given)
    (first_size (min len room) given (first_content given) refl sizes)

-- ---- one copy after another

pub record IsLooked (told : Bool) (place : Place) (n : ℕ) (blocks : List ℕ) (len : ℕ) (hash : List ℕ)
    (old now : Medium) (given : List (Option (List ℕ))) (kept : List Sha256) : Type 0 where
  pub read : IsRead old now
  pub texts : IsTrue told → given ≡ contents_of place n blocks len hash old.image
  pub count : length given ≡ n
  pub size : HaveSize (min len (256 * length blocks)) given
  pub states : AreOfFirst given kept

module _ (told : Bool) (place : Place) (blocks : List ℕ) (len : ℕ) (hash : List ℕ) (old : Medium) where
  -- the same, of equal values
  pub looked_as : (n : ℕ) (mid : Medium) (given : List (Option (List ℕ))) (kept : List Sha256)
      → IsLooked told place n blocks len hash old mid given kept
      → (now : Medium) (texts : List (Option (List ℕ))) (states : List Sha256)
      → now ≡ mid → texts ≡ given → states ≡ kept
      → IsLooked told place n blocks len hash old now texts states
  looked_as n mid given kept looked now texts states now_is texts_are states_are =
      subst (λ (m : Medium). IsLooked told place n blocks len hash old m texts states) (sym now_is)
      (subst (λ (xs : List (Option (List ℕ))). IsLooked told place n blocks len hash old mid xs states) (sym texts_are)
      (subst (λ (ss : List Sha256). IsLooked told place n blocks len hash old mid given ss) (sym states_are) looked))

  module _ (i : ℕ) (now : Medium) (given : List (Option (List ℕ))) (kept : List Sha256)
      (looked : IsLooked told place i blocks len hash old now given kept) where
    pub looked_on : (mid : Medium) → OnlyReads now mid → Elapses now mid → mid.faults ≡ now.faults
        → IsLooked told place i blocks len hash old mid given kept
    looked_on mid reads time passes = record {
      read = read_on old now mid looked.read reads time passes;
      texts = looked.texts;
      count = looked.count;
      size = looked.size;
      states = looked.states;
    }

    pub looked_more : (text : Option (List ℕ)) (next : List Sha256)
        → (IsTrue told → text ≡ counting (old.image (area place i)) blocks len hash)
        → IfSome text (λ t. length t ≡ min len (256 * length blocks))
        → AreOfFirst (given ++ text ∷ []) next
        → IsLooked told place (i + 1) blocks len hash old now (given ++ text ∷ []) next
    looked_more text next is size states = record {
      read = looked.read;
      texts = λ tells. texts_more place i blocks len hash old.image given text (looked.texts tells) (is tells);
      count = length_push given text ∙ ap (λ n. n + 1) looked.count;
      size = sizes_more (min len (256 * length blocks)) given text looked.size size;
      states = states;
    }

    -- a copy that has the bytes of the first that counts
    pub looked_first : (IsTrue told → IsSomeAnd (first_content given)
        (λ t. joined (old.image (area place i)) blocks (length t) ≡ t))
        → IsLooked told place (i + 1) blocks len hash old now (given ++ first_content given ∷ []) kept
    looked_first same =
        let long = first_size (min len (256 * length blocks)) given (first_content given) refl looked.size in
        looked_more (first_content given) kept
        (λ tells. counting_first (first_content given) (old.image (area place i)) blocks len hash (same tells) long
        (subst (λ (xs : List (Option (List ℕ))). IfSome (first_content xs) (λ t. bytes_eq (sha256 t) hash ≡ true))
        (sym (looked.texts tells)) (first_hashed place i blocks len hash old.image)))
        long (first_stays given kept looked.states)
