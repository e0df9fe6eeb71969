-- That each element of a map stays a file.
use Rattle.std.proofs.Common.{◌≡◌, ℕ, ◌≤◌, List, [], length, Bool, true, false, cond, refl, sym, subst, arith}
use Rattle.std.specs.Prelude.{Option, Some, None, IsSome, option_map}
use Rattle.std.specs.BTreeMap.{is_at}
use Rattle.std.specs.Cmp.{Equal-is}
use Rattle.std.specs.List.Sorted.{IsStrictlySortedBy}
use Rattle.std.specs.Map.{keys_of}
use Rattle.std.proofs.lemmas.Map.Lookups.{exact_bytes}
use Rattle.per_base.specs.declared.elements.Cause.{Cause}
use Rattle.per_base.specs.declared.elements.Cause.TheVariants.{Application}
use Rattle.per_base.specs.declared.elements.Element.{Element}
use Rattle.per_base.specs.declared.elements.FileInfo.{FileInfo}
use Rattle.per_base.specs.Maps.{Map, element_at, with_element, without}
use Rattle.per_base.specs.Names.{name_cmp}
use Rattle.file_core.specs.Files.{IsFile, changed_to, file_of, opened_at}
use Rattle.file_handles.specs.Sessions.{IsFileAt, SameBeside}
use Rattle.file_handles.specs.Tables.{AreFiles}
use Rattle.file_handles.specs.lemmas.Lookups.{file_put, file_gone}

-- an empty map has no element
pub whole_none : AreFiles []
whole_none name = tt

pub whole_put : (files : Map) (name : List ℕ) (new : Element) → AreFiles files → IsFile new
    → AreFiles (with_element files name new)
whole_put files name new whole is other = subst IsFileAt (sym (file_put files other name new))
    (by (is_at (name_cmp other) name))
  where
    by : (b : Bool) → IsFileAt (cond b (Some new) (element_at files other))
    by true = is
    by false = whole other

pub whole_gone : (files : Map) (name : List ℕ) → IsStrictlySortedBy name_cmp (keys_of files) → AreFiles files
    → AreFiles (without files name)
whole_gone files name sorted whole other = subst IsFileAt (sym (file_gone files other name sorted))
    (by (is_at (name_cmp name) other))
  where
    by : (b : Bool) → IsFileAt (cond b None (element_at files other))
    by true = tt
    by false = whole other

pub whole_beside : (files later : Map) (name : List ℕ) → AreFiles files → SameBeside files later name
    → IsFileAt (element_at later name) → AreFiles later
whole_beside files later name whole same here other = by (is_at (name_cmp name) other) refl
  where
    by : (b : Bool) → is_at (name_cmp name) other ≡ b → IsFileAt (element_at later other)
    by true p = subst (λ n. IsFileAt (element_at later n))
        (exact_bytes name other ((Equal-is (name_cmp name other)).0 p)) here
    by false p = subst IsFileAt (sym (same other p)) (whole other)

-- a file that is there is one
pub file_there : (files : Map) (name : List ℕ) (file : Element) → AreFiles files → element_at files name ≡ Some file
    → IsFile file
file_there files name file whole there = subst IsFileAt there (whole name)

pub made_is_file : (info : FileInfo) (bytes : List ℕ) → length bytes ≤ 1048576 → IsFile (file_of (Some info) bytes)
made_is_file info bytes small = record { informed = refl; measured = refl; small = small }

informed_by : (change : FileInfo → FileInfo) (info : Option FileInfo) → IsSome info → IsSome (option_map change info)
informed_by change None is = absurd (cc)
informed_by change (Some info) is = refl

pub changed_is_file : (bytes : List ℕ) (now : ℕ) (cause : Cause) (file : Element) → length bytes ≤ 1048576 → IsFile file
    → IsFile (changed_to bytes now cause file)
changed_is_file bytes now cause file small is = record {
  informed = informed_by _ file.info is.informed;
  measured =
      refl;
  small = small;
}

opened_at_is_file : (now : ℕ) (file : Element) → IsFile file → IsFile (opened_at now file)
opened_at_is_file now file is = record {
  informed = informed_by _ file.info is.informed;
  measured = is.measured;
  small =
      is.small;
}

-- what an opening leaves of a file
pub opened_is_file : (b t : Bool) (now : ℕ) (old : Element) → IsFile old
    → IsFile (cond b old (cond t (changed_to [] now Application (opened_at now old)) (opened_at now old)))
opened_is_file true t now old is = is
opened_is_file false true now old is = changed_is_file [] now Application (opened_at now old) (omega arith)
    (opened_at_is_file now old is)
opened_is_file false false now old is = opened_at_is_file now old is
