-- How long the text of a root is.
use Rattle.std.proofs.Common.{◌≡◌, ℕ, ◌+◌, ◌*◌, ◌≤◌, ◌<◌, [], ◌∷◌, length, Bool, Option, None, Some, refl, ap}
use Rattle.std.proofs.Common.{◌∙◌, subst, arith}
use denote.Ref.{Bor}
use Rattle.std.specs.Int.{w32, to_le_bytes}
use Rattle.std.specs.Prelude.{option_map}
use Rattle.std.proofs.lemmas.List.{length-append}
use Rattle.per_base.specs.FieldLaws.{wide_32}
use Rattle.disk_model.specs.Image.{Image}
use Rattle.disk_model.specs.declared.place.Place.{Place}
use Rattle.guarded_cell.specs.Cells.{place_of}
use Rattle.guarded_cell.specs.declared.cell.Cell.{Cell}
use Rattle.root_text.specs.declared.versions.VersionText.{VersionText}
use Rattle.root_text.specs.declared.versions.RootSays.{RootSays}
use Rattle.root_text.specs.declared.versions.RootSays.TheVariants as said
use Rattle.root_text.specs.RootText.{long_text, root_text}
use Rattle.root_text.specs.RootText as text
use Rattle.root_text.specs.Views.{root_said, version_said}
use Rattle.deploy_laws.specs.Places.{root_place}
use Rattle.deploy.specs.declared.roots.Installed as parts
use Rattle.deploy.specs.declared.roots.Root.{Root}
use Rattle.deploy.specs.declared.roots.Root.TheVariants.{Absent, Bad, Installed}
use Rattle.deploy.specs.Leaving.{IfRegister, IsRegisterAt}
use Rattle.deploy.specs.Laws.{RootLenLaw}
use Rattle.deploy.specs.Roots.{previous_texts, root_texts}
use Rattle.deploy_rows.specs.Costs.{format_cost, greatest_cost, root_cost, root_len}

pub root_len_is : RootLenLaw
unfolding root_text
root_len_is text.absent = refl
root_len_is (text.installed bank active None) =
    let all = length-append (long_text active.text) [] in
    let one = length-append (to_le_bytes w32 (length active.text)) active.text in
    let four = wide_32.len (length active.text) in
    omega (arith, all, one, four)
root_len_is (text.installed bank active (Some previous)) =
    let all = length-append (long_text active.text) (long_text previous.text) in
    let one = length-append (to_le_bytes w32 (length active.text)) active.text in
    let four = wide_32.len (length active.text) in
    let other = length-append (to_le_bytes w32 (length previous.text)) previous.text in
    let fours = wide_32.len (length previous.text) in
    omega (arith, all, one, four, other, fours)

-- the text with these versions
pub installed_len : (bank : ℕ) (active : VersionText) (previous : Option (Bor VersionText))
    → length (root_text (text.installed bank (version_said active) (option_map (λ v. version_said v.now) previous)))
    ≡ root_len (active.text ∷ previous_texts (option_map (λ v. v.now) previous))
installed_len bank active None = root_len_is (text.installed bank (version_said active) None)
installed_len bank active (Some v) = root_len_is (text.installed bank (version_said active) (Some (version_said v.now)))

-- what was read of a root
pub absent_len : (says : RootSays) → says ≡ said.Absent → length (root_text (root_said says)) ≡ 2
absent_len says is = ap (λ (s : RootSays). length (root_text (root_said s))) is ∙ root_len_is text.absent

parts_len : (i : parts.Installed) (previous : Option VersionText) → i.previous ≡ previous
    → length (root_text (root_said (said.Installed i.bank i.active previous)))
    ≡ root_len (i.active.text ∷ previous_texts previous)
parts_len i None is = root_len_is (text.installed i.bank (version_said i.active) None)
parts_len i (Some v) is = root_len_is (text.installed i.bank (version_said i.active) (Some (version_said v)))

pub said_len : (i : parts.Installed) (says : RootSays) → says ≡ said.Installed i.bank i.active i.previous
    → length (root_text (root_said says)) ≡ root_len (root_texts (Installed i))
said_len i says is = ap (λ (s : RootSays). length (root_text (root_said s))) is ∙ parts_len i i.previous refl

-- ---- what was written

pub none_written : (was k : ℕ) → was ≤ was + k
none_written was k = omega arith

pub same_most : (was now k : ℕ) → now ≡ was → now ≤ was + k
same_most was now k is = omega (arith, is)

pub then_most : (was mid now k : ℕ) → mid ≡ was → now ≤ mid + k → now ≤ was + k
then_most was mid now k is le = omega (arith, is, le)

-- a text of this length, with its head and a blank
pub text_cost : (was now copies len k : ℕ) → now ≤ was + copies * (44 + len + 44) → len ≡ k
    → now ≤ was + copies * (k + 88)
text_cost was now copies len k le is =
    let all : 44 + len + 44 ≡ k + 88 = omega (arith, is) in
    subst (λ (n : ℕ). now ≤ was + copies * n) all le

-- at a root's place
pub placed_cost : (place : Place) (app was now k : ℕ) → place ≡ root_place app → now ≤ was + place.copies * k
    → now ≤ was + 3 * k
placed_cost place app was now k is le = subst (λ (p : Place). now ≤ was + p.copies * k) is le

pub most_cost : (was now len : ℕ) → now ≤ was + 3 * (44 + len + 44) → len ≤ 131084 → now ≤ was + greatest_cost
most_cost was now len le short = omega (arith, le, short)

pub formatted_cost : (was now len : ℕ) → now ≤ was + 3 * (44 + 44 + (44 + len)) → len ≡ 2 → now ≤ was + format_cost
formatted_cost was now len le is = omega (arith, le, is)

pub emptied_cost : (was now : ℕ) → now ≤ was + root_cost [] → now ≤ was + format_cost
emptied_cost was now le = omega (arith, le)

-- the register that a root has
pub some_placed : (told : Bool) (image : Image) (app : ℕ) (register : Option Cell) (cell : Cell) → register ≡ Some cell
    → IsRegisterAt told image app register → place_of cell ≡ root_place app
some_placed told image app register cell is at =
    let of = subst (λ (r : Option Cell). IsRegisterAt told image app r) is at in
    of.0.place

pub bad_alone : (root : Root) (register : Option Cell) → IfRegister root register → register ≡ None → root ≡ Bad
bad_alone Bad register of none = refl
bad_alone (Absent cell) None of none = absurd cc
bad_alone (Absent cell) (Some x) of none = absurd cc
bad_alone (Installed i) None of none = absurd cc
bad_alone (Installed i) (Some x) of none = absurd cc

-- roots that are formatted one after another
pub one_more_cost : (was mid now app : ℕ) → mid ≤ was + app * format_cost → now ≤ mid + format_cost
    → now ≤ was + (app + 1) * format_cost
one_more_cost was mid now app le more = omega (arith, le, more)

pub some_cost : (was mid now app : ℕ) → app < 8 → mid ≤ was + app * format_cost → now ≤ mid + format_cost
    → now ≤ was + 8 * format_cost
some_cost was mid now app lt le more = omega (arith, lt, le, more)

pub all_cost : (was now app : ℕ) → app ≤ 8 → now ≤ was + app * format_cost → now ≤ was + 8 * format_cost
all_cost was now app few le = omega (arith, few, le)
