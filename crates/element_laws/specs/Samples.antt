-- Rot in two copies of three that computes: the first copy has lost one key, and the second another.
use Rattle.std.specs.Prelude.{◌≡◌, ◌%◌, ℕ, List, [], ◌∷◌, ◌++◌, replicate, codes, cond, nat_eq, Some, None}
use Rattle.std.specs.Str.{bytes_eq}
use Rattle.std.proofs.Common.{refl, ap, subst, ◌∙◌, arith}
use Rattle.std.proofs.lemmas.Bool.{eqb-true}
use Rattle.sha2.specs.Sha256.{sha256}
use Rattle.per_base.specs.declared.elements.Scope.TheVariants as scope
use Rattle.per_base.specs.declared.elements.StoreKind.TheVariants.{Keys}
use Rattle.disk_model.specs.Image.{Image}
use Rattle.disk_model.specs.Place.{area}
use Rattle.block_files.specs.Areas.{joined}
use Rattle.block_files.specs.Aside.{Where}
use Rattle.block_files.specs.Contents.{counting}
use Rattle.element_state.specs.declared.shapes.Shape.{Shape}
use Rattle.element_state.specs.Kept.{HasEnough}
use Rattle.element_laws.specs.Pieces.{HasEnoughStorage, HasEnoughContent, RotsApart}
use Rattle.element_laws.specs.lemmas.Lists.{false_not_true}
use Rattle.element_laws.specs.lemmas.Pieces.{two_rots}

-- of three copies two must agree
abbrev three : Shape
three = record {
  name = codes "s";
  place = record {
    first = 0;
    copies = 3;
    some = omega arith;
    few =
        omega arith;
    room = omega arith;
  };
  kind = Keys;
  m = 2;
  scope = scope.Element;
  allowed = 64;
}

-- one byte in the first block, and one in the second
abbrev two_blocks : (a b : ℕ) → List ℕ
two_blocks a b = a ∷ (replicate 255 0 ++ b ∷ [])

-- in each area the bytes 7 and 9
abbrev whole : Image
whole f = cond (nat_eq (f % 4) 2) (two_blocks 7 9) []

-- the area of the first copy, file 2, has lost the 9, and that of the second, file 6, the 7
abbrev rotten : Image
rotten f = cond (nat_eq f 2) (two_blocks 7 0) (cond (nat_eq f 6) (two_blocks 0 9) (whole f))

abbrev seven : Where
seven = record { blocks = 0 ∷ []; len = 1; hash = sha256 (7 ∷ []) }

abbrev nine : Where
nine = record { blocks = 1 ∷ []; len = 1; hash = sha256 (9 ∷ []) }

seven_stays : joined (whole (area three.place 0)) seven.blocks seven.len
    ≡ joined (rotten (area three.place 0)) seven.blocks seven.len
seven_stays = refl

nine_stays : joined (whole (area three.place 1)) nine.blocks nine.len
    ≡ joined (rotten (area three.place 1)) nine.blocks nine.len
nine_stays = refl

-- neither is there whole where the rot was
nine_lost : joined (rotten (area three.place 0)) nine.blocks nine.len ≡ 0 ∷ []
nine_lost = refl

seven_lost : joined (rotten (area three.place 1)) seven.blocks seven.len ≡ 0 ∷ []
seven_lost = refl

rots : RotsApart three.place seven nine whole rotten
unfolding counting
rots = record {
  files = λ f first second. ap (λ b. cond b (two_blocks 7 0) (cond (nat_eq f 6) (two_blocks 0 9) (whole f)))
      (false_not_true (nat_eq f 2) (λ e. first (eqb-true f 2 e)))
      ∙ ap (λ b. cond b (two_blocks 0 9) (whole f)) (false_not_true (nat_eq f 6) (λ e. second (eqb-true f 6 e)));
  first = λ bytes counts. subst (λ (x : List ℕ). cond (bytes_eq (sha256 x) seven.hash) (Some x) None ≡ Some bytes)
      seven_stays counts;
  second = λ bytes counts. subst (λ (x : List ℕ). cond (bytes_eq (sha256 x) nine.hash) (Some x) None ≡ Some bytes)
      nine_stays counts;
}

-- the index has three whole copies and each key two; counted by files one copy is left
pub still_enough : HasEnoughStorage three whole rotten [] × HasEnoughContent three whole rotten seven []
    × HasEnoughContent three whole rotten nine []
    × ¬ (HasEnough three (area three.place 0 ∷ area three.place 1 ∷ []) [])
still_enough = two_rots three seven nine whole rotten refl refl refl rots
