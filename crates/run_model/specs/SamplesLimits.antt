-- Courses up to a limit, computed: the handles and the elements of a storage.
use Rattle.std.specs.Prelude.{◌≡◌, ℕ, zero, suc, ◌+◌, List, [], ◌∷◌, ◌++◌, replicate, None, true, false, refl, codes}
use Rattle.std.specs.Fmt.{decimal}
use Rattle.per_base.specs.declared.elements.Content.TheVariants.{Good}
use Rattle.per_base.specs.declared.opening.OpenKind.TheVariants as kind
use Rattle.per_base.specs.Maps.{Map}
use Rattle.value_model.specs.Trees.{bool_tree}
use Rattle.element_state.specs.States.{fresh_state}
use Rattle.command_text.specs.declared.calls.Call.TheVariants as call
use Rattle.run_model.specs.Samples.{computed, replies, on, fav, home, home_key, key_storage, cal, a_map, opening}
use Rattle.run_model.specs.SamplesDamage.{of_one, found_so}
use Rattle.run_model.specs.Worlds.{World}

-- ---- handles

handles_run_out : replies a_map (on (call.OpenFiles cal) ∷ replicate 65 (opening kind.Read 0))
    ≡ codes
    "ok\nhandle 1\nhandle 2\nhandle 3\nhandle 4\nhandle 5\nhandle 6\nhandle 7\nhandle 8\nhandle 9\nhandle 10\nhandle 11\nhandle 12\nhandle 13\nhandle 14\nhandle 15\nhandle 16\nhandle 17\nhandle 18\nhandle 19\nhandle 20\nhandle 21\nhandle 22\nhandle 23\nhandle 24\nhandle 25\nhandle 26\nhandle 27\nhandle 28\nhandle 29\nhandle 30\nhandle 31\nhandle 32\nhandle 33\nhandle 34\nhandle 35\nhandle 36\nhandle 37\nhandle 38\nhandle 39\nhandle 40\nhandle 41\nhandle 42\nhandle 43\nhandle 44\nhandle 45\nhandle 46\nhandle 47\nhandle 48\nhandle 49\nhandle 50\nhandle 51\nhandle 52\nhandle 53\nhandle 54\nhandle 55\nhandle 56\nhandle 57\nhandle 58\nhandle 59\nhandle 60\nhandle 61\nhandle 62\nhandle 63\nhandle 64\nerror 25 LimitReached handles\n"
unfolding computed
handles_run_out = refl

-- ---- elements

abbrev pub numbered_key : ℕ → List ℕ
numbered_key n = codes "k" ++ decimal n

-- that many keys that hold true, from this number on, after the key `home`
abbrev pub true_keys : (first count : ℕ) → Map
true_keys first zero = []
true_keys first (suc count) = (numbered_key first, record { info = None; len = 2; content = Good (1 ∷ 1 ∷ []) })
    ∷ true_keys (first + 1) count

-- a storage of `home` and of that many further keys
abbrev pub with_further : ℕ → World
with_further count = found_so (of_one (key_storage fav 1048576 1 1 (home_key ∷ [])))
    (fresh_state 2 ((home, record { info = None; len = 3; content = Good (3 ∷ 1 ∷ 2 ∷ []) }) ∷ true_keys 1000 count))

-- the last that has a place, and one more
elements_run_out : replies (with_further 1022) (on (call.OpenKvs fav)
    ∷ on (call.Set fav (codes "last") (bool_tree true)) ∷ on (call.Set fav (codes "more") (bool_tree true))
    ∷ on (call.Set fav home (bool_tree true)) ∷ on (call.Set fav (codes "last") (bool_tree false)) ∷ [])
    ≡ codes "ok\nok\nerror 25 LimitReached elements\nerror 7 DataTypeMismatch u16 bool\nok\n"
unfolding computed
elements_run_out = refl
