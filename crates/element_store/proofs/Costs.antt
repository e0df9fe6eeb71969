-- How many bytes openings and rebuilds write.
use Rattle.std.proofs.Common.{◌≡◌, ℕ, ◌+◌, ◌*◌, ◌≤◌, Option, Some, sym, subst, arith}
use Rattle.std.specs.Prelude.{sum_by}
use Rattle.std.proofs.Math.Nat.{mul-le-mul_left, mul-add}
use Rattle.element_state.specs.declared.shapes.View.{View}
use Rattle.element_store.specs.Mends.{lacking_cost, mending_cost}

-- ---- openings

module _ (copies text was mid : ℕ) (short : text ≤ 524244) (brought : mid ≤ was + copies * (44 + text + 44)) where
  brought_most : mid ≤ was + copies * 524332
  brought_most =
      let wider : copies * (44 + text + 44) ≤ copies * 524332 = mul-le-mul_left copies (omega (arith, short)) in
      omega (arith, brought, wider)

  -- every copy has the index
  pub adopted_cost : (v : View) (seen : Option View) → seen ≡ Some v → mid ≤ was + mending_cost copies seen
  adopted_cost v seen is =
      let most = brought_most in
      subst (λ (s : Option View). mid ≤ was + mending_cost copies s) (sym is) (omega (arith, most))

  -- and the elements are mended
  pub opened_cost : (v : View) (seen : Option View) (end : ℕ) → seen ≡ Some v
      → end ≤ mid + sum_by lacking_cost v.entries → end ≤ was + mending_cost copies seen
  opened_cost v seen end is mended =
      let most = brought_most in
      subst (λ (s : Option View). end ≤ was + mending_cost copies s) (sym is) (omega (arith, most, mended))

-- ---- rebuilds

module _ (copies was : ℕ) where
  -- the copies are brought to a text
  pub text_cost : (text end : ℕ) → text ≤ 524244 → end ≤ was + copies * (44 + text + 44)
      → end ≤ was + copies * (44 + 524244 + 44)
  text_cost text end short brought =
      let wider : copies * (44 + text + 44) ≤ copies * (44 + 524244 + 44) =
      mul-le-mul_left copies (omega (arith, short)) in
      omega (arith, brought, wider)

  -- or all texts but one are taken away
  pub blanks_cost : (end : ℕ) → end ≤ was + copies * (44 + 44) → end ≤ was + copies * (44 + 524244 + 44)
  blanks_cost end blanked =
      let wider : copies * (44 + 44) ≤ copies * (44 + 524244 + 44) = mul-le-mul_left copies (omega arith) in
      omega (arith, blanked, wider)

  module _ (blocks mid : ℕ) (first : mid ≤ was + copies * (44 + 524244 + 44)) where
    pub settled_cost : mid ≤ was + copies * (256 * blocks + 1048664)
    settled_cost =
        let wider : copies * (44 + 524244 + 44) ≤ copies * (256 * blocks + 1048664) =
        mul-le-mul_left copies (omega arith) in
        omega (arith, first, wider)

    module _ (put : ℕ) (second : put ≤ mid + copies * (256 * blocks)) where
      pub put_cost : put ≤ was + copies * (256 * blocks + 1048664)
      put_cost =
          let whole : copies * (44 + 524244 + 44 + 256 * blocks)
          ≡ copies * (44 + 524244 + 44) + copies * (256 * blocks) = mul-add copies (44 + 524244 + 44) (256 * blocks) in
          let wider : copies * (44 + 524244 + 44 + 256 * blocks) ≤ copies * (256 * blocks + 1048664) =
          mul-le-mul_left copies (omega arith) in
          omega (arith, first, second, whole, wider)

      pub rebuilt_cost : (text end : ℕ) → text ≤ 524244 → end ≤ put + copies * (44 + text + 44)
          → end ≤ was + copies * (256 * blocks + 1048664)
      rebuilt_cost text end short third =
          let one : copies * (256 * blocks + (44 + text + 44))
          ≡ copies * (256 * blocks) + copies * (44 + text + 44) = mul-add copies (256 * blocks) (44 + text + 44) in
          let two : copies * ((44 + 524244 + 44) + (256 * blocks + (44 + text + 44)))
          ≡ copies * (44 + 524244 + 44) + copies * (256 * blocks + (44 + text + 44)) =
          mul-add copies (44 + 524244 + 44) (256 * blocks + (44 + text + 44)) in
          let wider : copies * ((44 + 524244 + 44) + (256 * blocks + (44 + text + 44)))
          ≤ copies * (256 * blocks + 1048664) = mul-le-mul_left copies (omega (arith, short)) in
          omega (arith, first, second, third, one, two, wider)
