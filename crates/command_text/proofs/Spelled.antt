-- Each line of a generated input spells an event.
use Rattle.std.proofs.Common.{◌≡◌, ℕ, zero, suc, ◌≤◌, ◌<◌, ◌+◌, ◌/◌, ◌%◌, ◌^◌, ◌&&◌, ◌==◌, if◌then◌else◌, true, false}
use Rattle.std.proofs.Common.{Bool, List, ◌++◌, length, inl, inr, refl, arith, lit≤, length-append}
use Rattle.std.specs.Prelude.{codes}
use Rattle.std.specs.Fmt.{decimal, digits}
use Rattle.std.specs.List.{AllByRecursion}
use Rattle.std.proofs.lemmas.Bool.{and_parts, cases_lt}
use Rattle.std.proofs.lemmas.Fmt.{length-decimal-le}
use Rattle.per_base.specs.Names.{IsName, is_name}
use Rattle.value_model.specs.Kinds.{eight}
use Rattle.value_model.specs.Trees.{unsigned_tree}
use Rattle.value_model.specs.Validity.{IsValue}
use Rattle.command_text.specs.declared.calls.Call.TheVariants as call
use Rattle.command_text.specs.declared.calls.Event.TheVariants as event
use Rattle.command_text.specs.Generated.{generated, generated_key, generated_line, generated_lines, last_lines}
use Rattle.command_text.specs.Generated.{next_number}
use Rattle.command_text.specs.Grammar.{IsEventLine}

-- ---- keys

all_below : (ℕ → Bool) → ℕ → Bool
all_below p zero = true
all_below p (suc n) = p n && all_below p n

each_below : (p : ℕ → Bool) (n : ℕ) → all_below p n ≡ true → (k : ℕ) → k < n → p k ≡ true
unfolding all_below
each_below p zero all k lt = absurd (omega arith)
each_below p (suc n) all k lt =
    let both = and_parts (p n) (all_below p n) all in
    elim (cases_lt k n) [
      | inl before ↦ each_below p n both.1 k before
      | inr from ↦ let same : k ≡ n = omega arith in rw same both.0
    ]

keys_are_named : all_below (λ k. is_name (codes "k" ++ decimal k)) 64 ≡ true
unfolding all_below digits
keys_are_named = refl

key_number : ℕ → ℕ
key_number x = x / 65536 % 64

key_small : (x : ℕ) → x / 65536 % 64 < 64
key_small x = omega arith

key_named : (x : ℕ) → IsName (generated_key x)
key_named x = each_below (λ k. is_name (codes "k" ++ decimal k)) 64 keys_are_named (x / 65536 % 64) (key_small x)

key_short : (x : ℕ) → length (decimal (x / 65536 % 64)) ≤ 2
key_short x = length-decimal-le 2 (x / 65536 % 64) (lit≤ tt) (omega (arith, key_small x)) (omega (arith, key_small x))

-- ---- numbers

number_short : (x : ℕ) → x < 2 ^ 31 → length (decimal x) ≤ 10
number_short x small = length-decimal-le 10 x (lit≤ tt) (omega arith) (omega arith)

number_is_value : (x : ℕ) → x < 2 ^ 31 → IsValue (unsigned_tree eight x)
number_is_value x small = record { typed = tt; in_range = omega arith; shallow = lit≤ tt; short = lit≤ tt }

-- ---- lines

sync_line : IsEventLine (codes "0 sync g")
sync_line = (event.App 0 (call.Sync (codes "g")), record { short = lit≤ tt; spelled = (refl, (lit≤ tt, (refl, tt))) })

get_line : (x : ℕ) → IsEventLine (codes "0 get g " ++ generated_key x)
get_line x = (
  event.App 0 (call.Get (codes "g") (generated_key x)),
  record { short = omega (arith, key_short x); spelled = (refl, (lit≤ tt, (refl, (key_named x, tt)))) },
)

remove_line : (x : ℕ) → IsEventLine (codes "0 remove g " ++ generated_key x)
remove_line x = (
  event.App 0 (call.Remove (codes "g") (generated_key x)),
  record { short = omega (arith, key_short x); spelled = (refl, (lit≤ tt, (refl, (key_named x, tt)))) },
)

exists_line : (x : ℕ) → IsEventLine (codes "0 exists g " ++ generated_key x)
exists_line x = (
  event.App 0 (call.Exists (codes "g") (generated_key x)),
  record { short = omega (arith, key_short x); spelled = (refl, (lit≤ tt, (refl, (key_named x, tt)))) },
)

set_line : (x : ℕ) → x < 2 ^ 31 → IsEventLine (codes "0 set g " ++ (generated_key x ++ (codes " u64:" ++ decimal x)))
set_line x small = (
  event.App 0 (call.Set (codes "g") (generated_key x) (unsigned_tree eight x)),
  record {
    short = omega (
      arith,
      key_short x,
      number_short x small,
      length-append (decimal (x / 65536 % 64)) (codes " u64:" ++ decimal x),
    );
    spelled = (refl, (lit≤ tt, (refl, (key_named x, (number_is_value x small, tt)))));
  },
)

either : (b : Bool) (t u : List ℕ) → IsEventLine t → IsEventLine u → IsEventLine (if b then t else u)
either true t u p q = p
either false t u p q = q

pub line_is_spelled : (x i : ℕ) → x < 2 ^ 31 → IsEventLine (generated_line x i)
line_is_spelled x i small =
    either (i % 8 == 0) _ _ sync_line
    (either (i % 8 == 4) _ _ (get_line x) (either (i % 8 == 6) _ _ (remove_line x)
    (either (i % 8 == 7) _ _ (exists_line x) (set_line x small))))

-- ---- the whole

next_small : (x : ℕ) → next_number x < 2 ^ 31
next_small x = omega arith

lines_are_spelled : (count i x : ℕ) (rest : List (List ℕ)) → AllByRecursion IsEventLine rest
    → AllByRecursion IsEventLine (generated_lines count i x ++ rest)
lines_are_spelled zero i x rest all = all
lines_are_spelled (suc count) i x rest all =
    (line_is_spelled (next_number x) i (next_small x), lines_are_spelled count (i + 1) (next_number x) rest all)

install_line : IsEventLine
    (codes "0 install {\"version\":1,\"keyValueStorages\":[{\"name\":\"g\",\"redundancy\":{\"m\":2,\"n\":3}}]}")
install_line = (
  event.App 0
      (call.Install (codes "{\"version\":1,\"keyValueStorages\":[{\"name\":\"g\",\"redundancy\":{\"m\":2,\"n\":3}}]}")),
  record { short = lit≤ tt; spelled = (refl, (lit≤ tt, ((lit≤ tt, refl), tt))) },
)

open_line : IsEventLine (codes "0 open-kvs g")
open_line = (
  event.App 0 (call.OpenKvs (codes "g")),
  record {
    short = lit≤ tt;
    spelled =
        (refl, (lit≤ tt, (refl, tt)));
  },
)

size_line : IsEventLine (codes "0 size g")
size_line = (event.App 0 (call.Size (codes "g")), record { short = lit≤ tt; spelled = (refl, (lit≤ tt, (refl, tt))) })

close_line : IsEventLine (codes "0 close g")
close_line = (event.App 0 (call.Close (codes "g")), record { short = lit≤ tt; spelled = (refl, (lit≤ tt, (refl, tt))) })

pub whole_is_spelled : (n : ℕ) → n < 2 ^ 31 → AllByRecursion IsEventLine (generated n)
whole_is_spelled n small = (
  install_line,
  (
    open_line,
    lines_are_spelled n 1 n last_lines
        (sync_line, (size_line, (close_line, tt))),
  ),
)
