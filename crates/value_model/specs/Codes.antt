-- Codes of kinds and of trees, by which a proof tells two of them apart: each is written as a list of tokens, and a
-- stack machine reads it back.
use Rattle.std.specs.Prelude.{◌≡◌, ℕ, ℤ, pos, negsuc, List, [], ◌∷◌, Bool, true, false, cond, nat_eq, nat_le, refl}
use Rattle.std.specs.Coded.{Coded, code_by, coded_ℕ, coded_ℤ, coded_list, coded×, Coded-set}
use Rattle.std.proofs.Common.{◌∙◌, ap}
use Rattle.value_model.specs.Kinds.{Size, one, two, four, eight, Kind, bool_kind, unsigned_kind, signed_kind, text_kind}
use Rattle.value_model.specs.Kinds.{bytes_kind, list_kind, fields_kind, Kinds, no_kinds, kind_then}
use Rattle.value_model.specs.Trees.{Tree, bool_tree, unsigned_tree, signed_tree, text_tree, bytes_tree, list_tree}
use Rattle.value_model.specs.Trees.{fields_tree, Trees, no_trees, tree_then}

-- what to build, as a tag (1 to 9 for kinds, 10 to 18 for trees), with a number, an integer and a list to build it from
abbrev Token : Type 0
Token = ℕ × (ℕ × (ℤ × List ℕ))

abbrev token : ℕ → Token
token tag = (tag, (0, (pos 0, [])))

abbrev size_number : Size → ℕ
size_number one = 1
size_number two = 2
size_number four = 4
size_number eight = 8

abbrev magnitude : ℤ → ℕ
magnitude (pos n) = n
magnitude (negsuc n) = n

abbrev numbered_size : ℕ → Size
numbered_size n = cond (nat_eq n 1) one (cond (nat_eq n 2) two (cond (nat_eq n 4) four eight))

-- the tokens that build a kind, before those that follow
abbrev mutual
  kind_tokens : Kind → List Token → List Token
  kind_tokens bool_kind more = token 1 ∷ more
  kind_tokens (unsigned_kind s) more = (2, (size_number s, (pos 0, []))) ∷ more
  kind_tokens (signed_kind s) more = (3, (size_number s, (pos 0, []))) ∷ more
  kind_tokens text_kind more = token 4 ∷ more
  kind_tokens bytes_kind more = token 5 ∷ more
  kind_tokens (list_kind k) more = kind_tokens k (token 6 ∷ more)
  kind_tokens (fields_kind ks) more = kinds_tokens ks (token 7 ∷ more)

  kinds_tokens : Kinds → List Token → List Token
  kinds_tokens no_kinds more = token 8 ∷ more
  kinds_tokens (kind_then k ks) more = kind_tokens k (kinds_tokens ks (token 9 ∷ more))

abbrev mutual
  tree_tokens : Tree → List Token → List Token
  tree_tokens (bool_tree b) more = (10, (cond b 1 0, (pos 0, []))) ∷ more
  tree_tokens (unsigned_tree s n) more = (11, (n, (pos (size_number s), []))) ∷ more
  tree_tokens (signed_tree s z) more = (12, (size_number s, (z, []))) ∷ more
  tree_tokens (text_tree t) more = (13, (0, (pos 0, t))) ∷ more
  tree_tokens (bytes_tree b) more = (14, (0, (pos 0, b))) ∷ more
  tree_tokens (list_tree k ts) more = kind_tokens k (trees_tokens ts (token 15 ∷ more))
  tree_tokens (fields_tree ts) more = trees_tokens ts (token 16 ∷ more)

  trees_tokens : Trees → List Token → List Token
  trees_tokens no_trees more = token 17 ∷ more
  trees_tokens (tree_then t ts) more = tree_tokens t (trees_tokens ts (token 18 ∷ more))

-- what the machine has built so far
pub data Built : Type 0 where
  a_kind : Kind → Built
  some_kinds : Kinds → Built
  a_tree : Tree → Built
  some_trees : Trees → Built

abbrev as_list_kind : List Built → List Built
as_list_kind (a_kind k ∷ below) = a_kind (list_kind k) ∷ below
as_list_kind _ = []

abbrev as_fields_kind : List Built → List Built
as_fields_kind (some_kinds ks ∷ below) = a_kind (fields_kind ks) ∷ below
as_fields_kind _ = []

abbrev as_kinds : List Built → List Built
as_kinds (some_kinds ks ∷ a_kind k ∷ below) = some_kinds (kind_then k ks) ∷ below
as_kinds _ = []

abbrev as_list : List Built → List Built
as_list (some_trees ts ∷ a_kind k ∷ below) = a_tree (list_tree k ts) ∷ below
as_list _ = []

abbrev as_fields : List Built → List Built
as_fields (some_trees ts ∷ below) = a_tree (fields_tree ts) ∷ below
as_fields _ = []

abbrev as_trees : List Built → List Built
as_trees (some_trees ts ∷ a_tree t ∷ below) = some_trees (tree_then t ts) ∷ below
as_trees _ = []

abbrev built_kind : Token → List Built → List Built
built_kind t below =
    cond (nat_eq t.0 1) (a_kind bool_kind ∷ below)
    (cond (nat_eq t.0 2) (a_kind (unsigned_kind (numbered_size t.1.0)) ∷ below)
    (cond (nat_eq t.0 3) (a_kind (signed_kind (numbered_size t.1.0)) ∷ below)
    (cond (nat_eq t.0 4) (a_kind text_kind ∷ below)
    (cond (nat_eq t.0 5) (a_kind bytes_kind ∷ below)
    (cond (nat_eq t.0 6) (as_list_kind below)
    (cond (nat_eq t.0 7) (as_fields_kind below)
    (cond (nat_eq t.0 8) (some_kinds no_kinds ∷ below)
    (as_kinds below))))))))

abbrev built_tree : Token → List Built → List Built
built_tree t below =
    cond (nat_eq t.0 10) (a_tree (bool_tree (nat_eq t.1.0 1)) ∷ below)
    (cond (nat_eq t.0 11) (a_tree (unsigned_tree (numbered_size (magnitude t.1.1.0)) t.1.0) ∷ below)
    (cond (nat_eq t.0 12) (a_tree (signed_tree (numbered_size t.1.0) t.1.1.0) ∷ below)
    (cond (nat_eq t.0 13) (a_tree (text_tree t.1.1.1) ∷ below)
    (cond (nat_eq t.0 14) (a_tree (bytes_tree t.1.1.1) ∷ below)
    (cond (nat_eq t.0 15) (as_list below)
    (cond (nat_eq t.0 16) (as_fields below)
    (cond (nat_eq t.0 17) (some_trees no_trees ∷ below)
    (as_trees below))))))))

abbrev run : List Token → List Built → List Built
run [] below = below
run (t ∷ ts) below = run ts (cond (nat_le t.0 9) (built_kind t below) (built_tree t below))

size_back : (s : Size) → numbered_size (size_number s) ≡ s
size_back one = refl
size_back two = refl
size_back four = refl
size_back eight = refl

bool_back : (b : Bool) → nat_eq (cond b 1 0) 1 ≡ b
bool_back true = refl
bool_back false = refl

mutual
  pub run_kind : (k : Kind) (more : List Token) (below : List Built)
      → run (kind_tokens k more) below ≡ run more (a_kind k ∷ below)
  run_kind bool_kind more below = refl
  run_kind (unsigned_kind s) more below = ap (λ n. run more (a_kind (unsigned_kind n) ∷ below)) (size_back s)
  run_kind (signed_kind s) more below = ap (λ n. run more (a_kind (signed_kind n) ∷ below)) (size_back s)
  run_kind text_kind more below = refl
  run_kind bytes_kind more below = refl
  run_kind (list_kind k) more below = run_kind k (token 6 ∷ more) below
  run_kind (fields_kind ks) more below = run_kinds ks (token 7 ∷ more) below

  pub run_kinds : (ks : Kinds) (more : List Token) (below : List Built)
      → run (kinds_tokens ks more) below ≡ run more (some_kinds ks ∷ below)
  run_kinds no_kinds more below = refl
  run_kinds (kind_then k ks) more below = run_kind k (kinds_tokens ks (token 9 ∷ more)) below
      ∙ run_kinds ks (token 9 ∷ more) (a_kind k ∷ below)

mutual
  pub run_tree : (t : Tree) (more : List Token) (below : List Built)
      → run (tree_tokens t more) below ≡ run more (a_tree t ∷ below)
  run_tree (bool_tree b) more below = ap (λ n. run more (a_tree (bool_tree n) ∷ below)) (bool_back b)
  run_tree (unsigned_tree s n) more below = ap (λ m. run more (a_tree (unsigned_tree m n) ∷ below)) (size_back s)
  run_tree (signed_tree s z) more below = ap (λ m. run more (a_tree (signed_tree m z) ∷ below)) (size_back s)
  run_tree (text_tree t) more below = refl
  run_tree (bytes_tree b) more below = refl
  run_tree (list_tree k ts) more below = run_kind k (trees_tokens ts (token 15 ∷ more)) below
      ∙ run_trees ts (token 15 ∷ more) (a_kind k ∷ below)
  run_tree (fields_tree ts) more below = run_trees ts (token 16 ∷ more) below

  pub run_trees : (ts : Trees) (more : List Token) (below : List Built)
      → run (trees_tokens ts more) below ≡ run more (some_trees ts ∷ below)
  run_trees no_trees more below = refl
  run_trees (tree_then t ts) more below = run_tree t (trees_tokens ts (token 18 ∷ more)) below
      ∙ run_trees ts (token 18 ∷ more) (a_tree t ∷ below)

abbrev first_kind : List Built → Kind
first_kind (a_kind k ∷ below) = k
first_kind _ = bool_kind

abbrev first_tree : List Built → Tree
first_tree (a_tree t ∷ below) = t
first_tree _ = bool_tree false

abbrev tokens_code : Coded (List Token)
tokens_code = coded_list (coded× coded_ℕ (coded× coded_ℕ (coded× coded_ℤ (coded_list coded_ℕ))))

-- the code of kinds, which gives each kind back
abbrev pub kind_code : Coded Kind
kind_code = code_by (List Token) tokens_code (λ k. kind_tokens k []) (λ ts. first_kind (run ts []))
    (λ k. ap first_kind (run_kind k [] []))

-- the code of trees, which gives each tree back
abbrev pub tree_code : Coded Tree
tree_code = code_by (List Token) tokens_code (λ t. tree_tokens t []) (λ ts. first_tree (run ts []))
    (λ t. ap first_tree (run_tree t [] []))

-- there is at most one proof that two kinds are equal
pub kinds_same-prop : (k l : Kind) → IsProp (k ≡ l)
kinds_same-prop k l = Coded-set kind_code k l
