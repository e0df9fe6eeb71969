-- What reading and replacing a whole content leave of the files that cannot be read.
use Rattle.std.proofs.Common.{◌≡◌, ℕ, List, length, refl, sym, ap}
use Rattle.std.specs.Prelude.{Result, Ok, Err}
use Rattle.per_base.specs.declared.errors.PerError.{PerError}
use Rattle.per_base.specs.declared.opening.OpenKind.TheVariants.{Read, Write}
use Rattle.per_base.specs.Maps.{Map, element_at}
use Rattle.per_base.specs.Modes.{plain, truncating}
use Rattle.file_handles.specs.declared.storage.Storage.{Storage}
use Rattle.file_handles.specs.Handling.{write}
use Rattle.file_handles.specs.Opening.{can_open, open_file, would_fit}
use Rattle.file_handles.specs.Sessions.{Session}
use Rattle.file_handles.specs.Whole.{and_then, bytes_of_file, cat, put_whole, released}
use Rattle.file_handles.specs.lemmas.Asked.{refused_ok}
use Rattle.file_storage.proofs.Keeping.{Keeps, keeps_same, open_opens, write_changes}

-- an answer made of an answer: what was made first, and then
record IsMade {A B : Type 0} (first : Result A PerError) (next : A → Result B PerError) (answer : B) : Type 0 where
  made : A
  first_is : first ≡ Ok made
  next_is : next made ≡ Ok answer

made_of : {A B : Type 0} (first : Result A PerError) (next : A → Result B PerError) (answer : B)
    → and_then first next ≡ Ok answer → IsMade first next answer
made_of (Ok made) next answer is = record { made = made; first_is = refl; next_is = is }
made_of (Err error) next answer is = absurd (cc)

keeps_both : (files mid later : Map) → Keeps files mid → Keeps mid later → Keeps files later
keeps_both files mid later one two = record {
  unreadable =
      λ name file at bad. one.unreadable name file (two.unreadable name file at bad) bad;
}

pub cat_keeps : (storage : Storage) (s later : Session) (name content : List ℕ) (now : ℕ)
    → cat storage s name now ≡ Ok (content, later) → Keeps s.files later.files
cat_keeps storage s later name content now is =
    let o = made_of (open_file storage s name Read plain now) _ (content, later) is in
    let opens : Keeps s.files o.made.1.files = (open_opens storage s o.made.1 name Read plain now o.made.0
    o.first_is).files in
    let given : List ℕ × Session = (bytes_of_file (element_at o.made.1.files name), released o.made.1 o.made.0) in
    let done : Ok given ≡ Ok (content, later) = o.next_is in
    let same : given ≡ (content, later) = cc in
    let files : later.files ≡ o.made.1.files = sym (ap (λ (r : List ℕ × Session). r.1.files) same) in
    keeps_both s.files o.made.1.files later.files opens (keeps_same o.made.1.files later.files files)

pub put_keeps : (storage : Storage) (s later : Session) (name bytes : List ℕ) (now : ℕ)
    → put_whole storage s name bytes now ≡ Ok later → Keeps s.files later.files
put_keeps storage s later name bytes now is =
    let fits = refused_ok (can_open storage s name Write truncating) _ later is in
    let o = made_of (open_file storage s name Write truncating now) _ later
    (refused_ok (would_fit storage s.files name (length bytes)) _ later fits) in
    let opens : Keeps s.files o.made.1.files = (open_opens storage s o.made.1 name Write truncating now o.made.0
    o.first_is).files in
    let w = made_of (write storage o.made.1 now o.made.0 bytes) _ later o.next_is in
    let fills : Keeps o.made.1.files w.made.files = (write_changes storage o.made.1 w.made now o.made.0 bytes
    w.first_is).files in
    let after : Session = released w.made o.made.0 in
    let done : Ok after ≡ Ok later = w.next_is in
    let same : after ≡ later = cc in
    let files : later.files ≡ w.made.files = sym (ap (λ (t : Session). t.files) same) in
    keeps_both s.files o.made.1.files later.files opens (keeps_both o.made.1.files w.made.files later.files fills
    (keeps_same w.made.files later.files files))
