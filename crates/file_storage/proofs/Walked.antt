-- The walk along the stored files and the working ones.
use Rattle.std.proofs.Common.{◌≡◌, ◌==◌, ℕ, List, [], ◌∷◌, ◌++◌, length, Bool, refl, sym, ◌∙◌, ap, subst, append_assoc}
use Rattle.std.proofs.Common.{arith}
use Rattle.std.proofs.lemmas.Bool.{ne_eqb}
use Rattle.std.specs.Prelude.{Option, Some, None, map}
use Rattle.std.specs.List.{cons_option}
use Rattle.std.specs.Option.{option_map, option_to_list}
use Rattle.std.specs.declared.cmp.Ordering.TheVariants.{Equal, Greater}
use Rattle.std.proofs.lemmas.Map.Lookups.{exact_bytes}
use Rattle.per_base.specs.declared.elements.Element.{Element}
use Rattle.per_base.specs.declared.elements.Entry.{Entry}
use Rattle.per_base.specs.Maps.{Map}
use Rattle.per_base.specs.Names.{name_cmp}
use Rattle.per_base.specs.declared.elements.Change.{Change}
use Rattle.per_base.specs.declared.elements.Change.TheVariants.{Remove}
use Rattle.element_state.specs.Views.{element_of}
use Rattle.element_maps.specs.Differences.{arrival, put}
use Rattle.element_maps.specs.Sessions.{same_map}
use Rattle.file_storage.specs.Walks.{bare, passing, removed, walked}

abbrev nothing : List Entry
nothing = []

-- a change that there may be, after those so far
joined : (done rest : List Change) (o : Option Change)
    → (done ++ option_to_list (option_map bare o)) ++ map bare rest ≡ done ++ map bare (cons_option o rest)
joined done rest None = append_assoc done [] (map bare rest)
joined done rest (Some change) = append_assoc done (bare change ∷ []) (map bare rest)

-- at the working file's name
pub met : (name : List ℕ) (file : Element) (files : Map) (entry : Entry) (more rest : List Entry)
    (done later all : List Change)
    → rest ≡ entry ∷ more → name_cmp entry.name name ≡ Equal
    → later ≡ done ++ option_to_list (option_map bare (arrival entry.name (Some (element_of entry).1) file))
    → done ++ map bare (passing (name, file) (walked files) (map element_of rest)) ≡ all
    → later ++ map bare (walked files (map element_of more)) ≡ all
met name file files entry more rest done later all split same is whole =
    let named : entry.name ≡ name = exact_bytes entry.name name same in
    let here : later ≡ done ++ option_to_list (option_map bare (arrival name (Some (element_of entry).1) file)) =
    subst (λ (n : List ℕ). later ≡ done ++ option_to_list (option_map bare (arrival n (Some (element_of entry).1) file)))
    named is in
    let at_split : done ++ map bare (passing (name, file) (walked files) (map element_of (entry ∷ more))) ≡ all =
    subst (λ (es : List Entry). done ++ map bare (passing (name, file) (walked files) (map element_of es)) ≡ all) split
    whole in
    let walks : passing (name, file) (walked files) (map element_of (entry ∷ more))
    ≡ cons_option (arrival name (Some (element_of entry).1) file) (walked files (map element_of more)) =
    rw same refl in
    ap (λ (l : List Change). l ++ map bare (walked files (map element_of more))) here
    ∙ joined done (walked files (map element_of more)) (arrival name (Some (element_of entry).1) file)
    ∙ ap (λ (l : List Change). done ++ map bare l) (sym walks) ∙ at_split

-- before a stored file that comes later
pub put_before : (name : List ℕ) (file : Element) (files : Map) (entry : Entry) (more rest : List Entry)
    (done later all : List Change)
    → rest ≡ entry ∷ more → name_cmp entry.name name ≡ Greater → later ≡ done ++ bare (put name file) ∷ []
    → done ++ map bare (passing (name, file) (walked files) (map element_of rest)) ≡ all
    → later ++ map bare (walked files (map element_of rest)) ≡ all
put_before name file files entry more rest done later all split above is whole =
    let walks : passing (name, file) (walked files) (map element_of (entry ∷ more))
    ≡ put name file ∷ walked files (map element_of (entry ∷ more)) = rw above refl in
    ap (λ (l : List Change). l ++ map bare (walked files (map element_of rest))) is
    ∙ append_assoc done (bare (put name file) ∷ []) (map bare (walked files (map element_of rest)))
    ∙ ap (λ (l : List Change). done ++ map bare l) (sym (subst (λ (es : List Entry).
    passing (name, file) (walked files) (map element_of es)
    ≡ put name file ∷ walked files (map element_of es)) (sym split) walks))
    ∙ whole

no_entries : (rest : List Entry) → length rest ≡ 0 → rest ≡ nothing
no_entries [] empty = refl
no_entries (e ∷ es) empty = absurd (omega (arith, empty))

-- where no stored file is left
pub put_last : (name : List ℕ) (file : Element) (files : Map) (rest : List Entry) (done later all : List Change)
    → length rest ≡ 0 → later ≡ done ++ bare (put name file) ∷ []
    → done ++ map bare (passing (name, file) (walked files) (map element_of rest)) ≡ all
    → later ++ map bare (walked files (map element_of rest)) ≡ all
put_last name file files rest done later all empty is whole =
    let none : rest ≡ nothing = no_entries rest empty in
    ap (λ (l : List Change). l ++ map bare (walked files (map element_of rest))) is
    ∙ append_assoc done (bare (put name file) ∷ []) (map bare (walked files (map element_of rest)))
    ∙ ap (λ (l : List Change). done ++ map bare l) (sym (subst (λ (es : List Entry).
    passing (name, file) (walked files) (map element_of es)
    ≡ put name file ∷ walked files (map element_of es)) (sym none) refl))
    ∙ whole

-- what is left of the stored files is taken away
pub taken_away : (rest : List Entry)
    → map bare (map removed (map element_of rest)) ≡ map (λ (e : Entry). Remove e.name) rest
taken_away [] = refl
taken_away (e ∷ es) = ap (λ (l : List Change). Remove e.name ∷ l) (taken_away es)

-- no working file is left, so no stored one may be
pub none_left : (rest : List Entry) (empty : Bool) → empty ≡ (length rest == 0)
    → (let none : Map = [] in empty ≡ same_map (map element_of rest) none)
none_left [] empty is = is
none_left (e ∷ es) empty is = is ∙ ne_eqb (length (e ∷ es)) 0 (λ same. absurd (omega (arith, same)))
