-- How far the input of a run that stays is handled: line by line, piece by piece, and to its end.
use Rattle.std.proofs.Common.{ℕ, List, [], ◌∷◌, ◌++◌, length, take, ◌≡◌, ◌≤◌, ◌<◌, ◌+◌, ◌-◌, ◌^◌, min, refl}
use Rattle.std.proofs.Common.{sym}
use Rattle.std.proofs.Common.{◌∙◌, ap, subst, arith, Option, Bool, true, false, append_assoc, append-nil}
use Rattle.std.proofs.Common.{length-append}
use Rattle.std.specs.List.{AllByRecursion, flat_map}
use Rattle.std.proofs.lemmas.List.{length-take-le}
use Rattle.std.proofs.KnownBytes.{Consumes-kept, Consumes-nil, Consumes-trans}
use Rattle.std.specs.Io.KnownBytes.{Consumes, IsAtEnd, Keeps}
use Rattle.disk_model.specs.Medium.{Medium}
use Rattle.run_model.specs.AppLaws.{AppLaws}
use Rattle.run_model.specs.Converters.{Converters}
use Rattle.run_model.specs.Endings as endings
use Rattle.run_model.specs.Endings.{HasStarted}
use Rattle.run_model.specs.Lines.{lines_of, split_lines}
use Rattle.run_model.specs.Runtimes.{Memory}
use Rattle.per_run.specs.declared.endings.Ending.{Ending}
use Rattle.per_run.specs.declared.endings.Ending.TheVariants.{AllRead, EndLine, BadLine, OutOfMemory, Source, Sink}
use Rattle.per_run.specs.declared.endings.Ending.TheVariants.{TooLong}
use Rattle.per_run.specs.Serves.{Heard, HasServedAll, IsServedInput, lines_in}
use Rattle.per_run.specs.Serving.{Hearing, HearsOne, Listened, Served, Service}
use Rattle.per_run.specs.Steps.{HasNoFeed, IsBroken, ending_of, reading, with_feed}
use Rattle.per_run.proofs.Hears.{lines_on, service, service_along, service_memory}
use Rattle.per_run.proofs.Inputs.{not_seen}
use Rattle.per_run.proofs.Splits.{all_clean_more, clean_append, lines_false, lines_next, lines_whole, with_line}
use Rattle.per_run.proofs.Settings.{setting}

module _ (told : Bool) (converters : Converters) (start : Medium) (before : Option (List ℕ)) where
  -- nothing is handled yet
  pub listened_none : (now : Option (List ℕ)) (memory same : Memory) (medium : Medium) (kept : List ℕ) (number : ℕ)
      → same ≡ memory → Hearing (setting told converters start before) [] now memory medium → kept ≡ [] → number ≡ 0
      → Listened (setting told converters start before) [] now (reading same kept number) medium
  listened_none now memory same medium kept number is hearing empty none = record {
    heard = [];
    rest = [];
    split = refl;
    clean = tt;
    clean_rest = refl;
    kept_is = empty;
    number_is = omega (arith, none);
    hearing = subst (λ (m : Memory). Hearing (setting told converters start before) [] now m medium) (sym is) hearing;
  }

  -- one line more is handled, or the handling ends at it
  abbrev Hears : (now later : Option (List ℕ)) (memory after : Memory) (old new : Medium) → (kept : List ℕ)
      → (number : ℕ) → Type 0
  Hears now later memory after old new kept number = (heard : List Heard) (text : List ℕ) → kept ≡ take 262145 text
      → number ≡ min (length heard) (2 ^ 64 - 1)
      → Hearing (setting told converters start before) heard now memory old
      → HearsOne (setting told converters start before) heard text later after new

  abbrev EndsAt : endings.Ending → (now later : Option (List ℕ)) (memory : Memory) (old new : Medium) → (kept : List ℕ)
      → (number : ℕ) → Type 0
  EndsAt ending now later memory old new kept number = (heard : List Heard) (more : List (List ℕ)) (text : List ℕ)
      → kept ≡ take 262145 text → number ≡ min (length heard) (2 ^ 64 - 1)
      → Hearing (setting told converters start before) heard now memory old
      → Service (setting told converters start before) ending (lines_in heard ++ text ∷ more) later new

  -- ---- more bytes

  -- a line feed
  listened_feed : (given : List ℕ) (now later : Option (List ℕ)) (memory after : Memory) (old new : Medium)
      (kept kept_later : List ℕ) (number number_later : ℕ)
      → Listened (setting told converters start before) given now (reading memory kept number) old
      → Hears now later memory after old new kept number
      → number_later ≡ min (number + 1) (2 ^ 64 - 1) → kept_later ≡ []
      → Listened (setting told converters start before) (given ++ 10 ∷ []) later (reading after kept_later number_later)
      new
  listened_feed given now later memory after old new kept kept_later number number_later l goes_on counts clears =
      let one = goes_on l.heard l.rest l.kept_is l.number_is l.hearing in
      let lines : lines_in (l.heard ++ one.0 ∷ []) ≡ lines_in l.heard ++ l.rest ∷ [] =
      lines_on l.heard one.0 ∙ ap (λ (t : List ℕ). lines_in l.heard ++ t ∷ []) one.1 in
      record {
        heard = l.heard ++ one.0 ∷ [];
        rest = [];
        split = ap (λ (bytes : List ℕ). bytes ++ 10 ∷ []) l.split
            ∙ append_assoc (flat_map with_feed (lines_in l.heard)) l.rest (10 ∷ [])
            ∙ sym (with_line (lines_in l.heard) l.rest)
            ∙ ap (λ (ls : List (List ℕ)). flat_map with_feed ls) (sym lines)
            ∙ sym (append-nil (flat_map with_feed (lines_in (l.heard ++ one.0 ∷ []))));
        clean = subst (AllByRecursion HasNoFeed) (sym lines)
            (all_clean_more (lines_in l.heard) l.rest l.clean l.clean_rest);
        clean_rest = refl;
        kept_is = clears;
        number_is = omega (arith, counts, l.number_is, length-append l.heard (one.0 ∷ []));
        hearing = one.2;
      }

  -- bytes among which is no line feed
  pub listened_bytes : (given bytes : List ℕ) (now : Option (List ℕ)) (memory : Memory) (medium : Medium)
      (kept kept_later : List ℕ) (number : ℕ)
      → Listened (setting told converters start before) given now (reading memory kept number) medium → HasNoFeed bytes
      → ((rest : List ℕ) → kept ≡ take 262145 rest → kept_later ≡ take 262145 (rest ++ bytes))
      → Listened (setting told converters start before) (given ++ bytes) now (reading memory kept_later number) medium
  listened_bytes given bytes now memory medium kept kept_later number l clean keeps = record {
    heard = l.heard;
    rest = l.rest ++ bytes;
    split = ap (λ (front : List ℕ). front ++ bytes) l.split
        ∙ append_assoc (flat_map with_feed (lines_in l.heard)) l.rest bytes;
    clean = l.clean;
    clean_rest = clean_append l.rest bytes l.clean_rest clean;
    kept_is = keeps l.rest l.kept_is;
    number_is = l.number_is;
    hearing = l.hearing;
  }

  -- a line with its line feed
  pub listened_line : (given line : List ℕ) (now later : Option (List ℕ)) (memory after : Memory) (old new : Medium)
      (kept kept_line kept_later : List ℕ) (number number_later : ℕ)
      → Listened (setting told converters start before) given now (reading memory kept number) old → HasNoFeed line
      → ((rest : List ℕ) → kept ≡ take 262145 rest → kept_line ≡ take 262145 (rest ++ line))
      → Hears now later memory after old new kept_line number
      → number_later ≡ min (number + 1) (2 ^ 64 - 1) → kept_later ≡ []
      → Listened (setting told converters start before) (given ++ (line ++ 10 ∷ [])) later
      (reading after kept_later number_later) new
  listened_line given line now later memory after old new kept kept_line kept_later number number_later l clean keeps
      goes_on counts clears =
      subst (λ (bytes : List ℕ). Listened (setting told converters start before) bytes later
      (reading after kept_later number_later) new) (append_assoc given line (10 ∷ []))
      (listened_feed (given ++ line) now later memory after old new kept_line kept_later number number_later
      (listened_bytes given line now memory old kept kept_line number l clean keeps) goes_on counts clears)

  -- ---- endings within the input

  -- at a line feed
  ends_feed : (ending : endings.Ending) (given others : List ℕ) (now later : Option (List ℕ)) (memory : Memory)
      (old new : Medium) (kept : List ℕ) (number : ℕ)
      → Listened (setting told converters start before) given now (reading memory kept number) old
      → EndsAt ending now later memory old new kept number
      → Service (setting told converters start before) ending (lines_of false (given ++ 10 ∷ others)) later new
  ends_feed ending given others now later memory old new kept number l ends =
      let is : lines_of false (given ++ 10 ∷ others) ≡ lines_in l.heard ++ l.rest ∷ (split_lines others).0 =
      ap (λ (bytes : List ℕ). lines_of false (bytes ++ 10 ∷ others)) l.split
      ∙ ap (lines_of false) (append_assoc (flat_map with_feed (lines_in l.heard)) l.rest (10 ∷ others))
      ∙ lines_next (lines_in l.heard) l.rest others l.clean l.clean_rest in
      service_along told converters start before ending _ _ later new is
      (ends l.heard (split_lines others).0 l.rest l.kept_is l.number_is l.hearing)

  -- at the line feed of a line
  pub ends_line : (ending : endings.Ending) (given line others : List ℕ) (now later : Option (List ℕ)) (memory : Memory)
      (old new : Medium) (kept kept_line : List ℕ) (number : ℕ)
      → Listened (setting told converters start before) given now (reading memory kept number) old → HasNoFeed line
      → ((rest : List ℕ) → kept ≡ take 262145 rest → kept_line ≡ take 262145 (rest ++ line))
      → EndsAt ending now later memory old new kept_line number
      → Service (setting told converters start before) ending (lines_of false (given ++ (line ++ 10 ∷ others))) later
      new
  ends_line ending given line others now later memory old new kept kept_line number l clean keeps ends =
      subst (λ (bytes : List ℕ). Service (setting told converters start before) ending (lines_of false bytes) later new)
      (append_assoc given line (10 ∷ others))
      (ends_feed ending (given ++ line) others now later memory old new kept_line number
      (listened_bytes given line now memory old kept kept_line number l clean keeps) ends)

  -- at bytes for which there is no memory
  pub ends_short : AppLaws → (ending : Ending) (given more : List ℕ) (now : Option (List ℕ)) (memory : Memory)
      (medium : Medium) (kept : List ℕ) (number : ℕ) → ending ≡ OutOfMemory
      → Listened (setting told converters start before) given now (reading memory kept number) medium
      → Service (setting told converters start before) (ending_of ending) (lines_of false (given ++ more)) now medium
  ends_short laws way given more now memory medium kept number short l =
      let is : lines_of false (given ++ more) ≡ lines_in l.heard ++ (split_lines (l.rest ++ more)).0 =
      ap (λ (bytes : List ℕ). lines_of false (bytes ++ more)) l.split
      ∙ ap (lines_of false) (append_assoc (flat_map with_feed (lines_in l.heard)) l.rest more)
      ∙ lines_false (lines_in l.heard) (l.rest ++ more) l.clean in
      subst (λ (e : Ending). Service (setting told converters start before) (ending_of e)
      (lines_of false (given ++ more)) now medium) (sym short)
      (service_along told converters start before endings.memory _ _ now medium is
      (service_memory told converters start before laws l.heard _ now memory medium l.hearing))

  -- ---- a piece of the input

  -- the same bytes
  pub listened_along : (given same : List ℕ) (now : Option (List ℕ)) (memory : Memory) (medium : Medium)
      (kept : List ℕ) (number : ℕ) → same ≡ given
      → Listened (setting told converters start before) given now (reading memory kept number) medium
      → Listened (setting told converters start before) same now (reading memory kept number) medium
  listened_along given same now memory medium kept number is l =
      subst (λ (bytes : List ℕ). Listened (setting told converters start before) bytes now (reading memory kept number)
      medium) (sym is)
      l

-- ---- the input as a whole

-- at least that many bytes were taken and handled
pub record HasTaken (told : Bool) (converters : Converters) (start : Medium)
    (left_before left_now before now : Option (List ℕ)) (memory : Memory) (medium : Medium)
    (kept : List ℕ) (number least : ℕ) : Type 0 where
  pub given : List ℕ
  pub takes : Consumes left_before left_now given
  pub many : least ≤ length given
  pub listened : Listened (setting told converters start before) given now (reading memory kept number) medium

input_false : (ending : Ending) (count : ℕ) → IsBroken ending → IsServedInput (ending_of ending) false count
input_false AllRead count broken = absurd broken
input_false EndLine count broken = tt
input_false BadLine count broken = tt
input_false OutOfMemory count broken = tt
input_false Source count broken = absurd broken
input_false Sink count broken = tt
input_false TooLong count broken = absurd broken

module _ (told : Bool) (converters : Converters) (start : Medium)
    (left_before before : Option (List ℕ)) where
  pub taken_none : (now : Option (List ℕ)) (memory : Memory) (medium : Medium) (kept : List ℕ) (number : ℕ)
      → Listened (setting told converters start before) [] now (reading memory kept number) medium
      → HasTaken told converters start left_before left_before before now memory medium kept number 0
  taken_none now memory medium kept number l = record {
    given = [];
    takes = Consumes-nil left_before;
    many = omega arith;
    listened = l;
  }

  pub taken_more : (left_now left_later now later : Option (List ℕ)) (memory after : Memory) (old new : Medium)
      (kept kept_later : List ℕ) (number number_later least count : ℕ) (buffer : List ℕ)
      → HasTaken told converters start left_before left_now before now memory old kept number least
      → 0 < count → count ≤ length buffer → Consumes left_now left_later (take count buffer)
      → ((given : List ℕ) → Listened (setting told converters start before) given now (reading memory kept number) old
      → Listened (setting told converters start before) (given ++ take count buffer) later
      (reading after kept_later number_later) new)
      → HasTaken told converters start left_before left_later before later after new kept_later number_later
      (least + 1)
  taken_more left_now left_later now later memory after old new kept kept_later number number_later least count buffer
      so_far some fits takes goes_on = record {
        given = so_far.given ++ take count buffer;
        takes = Consumes-trans left_before left_now left_later _ _ so_far.takes takes;
        many = omega (
          arith,
          so_far.many,
          some,
          length-append so_far.given (take count buffer),
          length-take-le count buffer fits,
        );
        listened = goes_on so_far.given so_far.listened;
      }

  -- all whole lines of what was taken are handled
  served_all : AppLaws → (ending : endings.Ending) → HasStarted ending → (given : List ℕ) (now : Option (List ℕ))
      (memory : Memory) (medium : Medium) (kept : List ℕ) (number : ℕ)
      → (l : Listened (setting told converters start before) given now (reading memory kept number) medium)
      → (HasServedAll l.heard (lines_of false given) before now
      → Service (setting told converters start before) ending (lines_of false given) now medium)
      → Service (setting told converters start before) ending (lines_of false given) now medium
  served_all laws ending begun given now memory medium kept number l then = then (record {
    next = ap (lines_of false) l.split ∙ lines_whole (lines_in l.heard) l.rest l.clean l.clean_rest;
    wrote = l.hearing.wrote;
  })

  -- the end of the input was seen
  pub served_read : AppLaws → (left_now left_later now : Option (List ℕ)) (memory : Memory) (medium : Medium)
      (kept : List ℕ) (number least count : ℕ) (buffer : List ℕ)
      → HasTaken told converters start left_before left_now before now memory medium kept number least
      → count ≡ 0 → Consumes left_now left_later (take count buffer) → IsAtEnd left_later
      → Served (setting told converters start before) AllRead left_before left_later now medium
  served_read laws left_now left_later now memory medium kept number least count buffer so_far none takes at_end =
      let l = so_far.listened in
      let nothing : Consumes left_now left_later [] = subst (λ (n : ℕ). Consumes left_now left_later (take n buffer))
      none takes in
      record {
        given = so_far.given;
        taken = subst (Consumes left_before left_later) (append-nil so_far.given)
            (Consumes-trans left_before left_now left_later _ _ so_far.takes nothing);
        ended = true;
        end_seen = λ _. at_end;
        input = refl;
        course = served_all laws endings.all_read tt so_far.given now memory medium kept number l (λ all.
            service told converters start before laws endings.all_read tt l.heard (lines_of false so_far.given) now
            memory medium l.hearing.are l.hearing.goes all);
      }

  -- the source failed
  pub served_source : AppLaws → (left_now left_later now : Option (List ℕ)) (memory : Memory) (medium : Medium)
      (kept : List ℕ) (number least : ℕ)
      → HasTaken told converters start left_before left_now before now memory medium kept number least
      → Keeps left_now left_later
      → Served (setting told converters start before) Source left_before left_later now medium
  served_source laws left_now left_later now memory medium kept number least so_far keeps =
      let l = so_far.listened in
      record {
        given = so_far.given;
        taken = Consumes-kept left_before left_now left_later so_far.given so_far.takes keeps;
        ended = false;
        end_seen = not_seen;
        input = refl;
        course = served_all laws endings.source tt so_far.given now memory medium kept number l (λ all.
            service told converters start before laws endings.source tt l.heard (lines_of false so_far.given) now
            memory medium l.hearing.are l.hearing.goes all);
      }

  -- nobody can count any more
  pub served_long : AppLaws → (left_now now : Option (List ℕ)) (memory : Memory) (medium : Medium) (kept : List ℕ)
      (number least : ℕ)
      → HasTaken told converters start left_before left_now before now memory medium kept number least
      → 2 ^ 64 - 1 ≤ least
      → Served (setting told converters start before) TooLong left_before left_now now medium
  served_long laws left_now now memory medium kept number least so_far most =
      let l = so_far.listened in
      record {
        given = so_far.given;
        taken = so_far.takes;
        ended = false;
        end_seen = not_seen;
        input = (refl, omega (arith, most, so_far.many));
        course = served_all laws endings.too_long tt so_far.given now memory medium kept number l (λ all.
            service told converters start before laws endings.too_long tt l.heard (lines_of false so_far.given) now
            memory medium l.hearing.are l.hearing.goes all);
      }

  -- a piece of the input ended the run
  pub served_piece : (ending : Ending) (left_now left_later now later : Option (List ℕ)) (memory : Memory)
      (old new : Medium) (kept : List ℕ) (number least count : ℕ) (buffer : List ℕ)
      → HasTaken told converters start left_before left_now before now memory old kept number least
      → Consumes left_now left_later (take count buffer) → IsBroken ending
      → ((given : List ℕ) → Listened (setting told converters start before) given now (reading memory kept number) old
      → Service (setting told converters start before) (ending_of ending) (lines_of false (given ++ take count buffer))
      later new)
      → Served (setting told converters start before) ending left_before left_later later new
  served_piece ending left_now left_later now later memory old new kept number least count buffer so_far takes broken
      ends = record {
        given = so_far.given ++ take count buffer;
        taken = Consumes-trans left_before left_now left_later _ _ so_far.takes takes;
        ended = false;
        end_seen = not_seen;
        input = input_false ending _ broken;
        course = ends so_far.given so_far.listened;
      }

  -- memory ran out before anything was taken
  pub served_memory : AppLaws → (now : Option (List ℕ)) (memory : Memory) (medium : Medium)
      → Hearing (setting told converters start before) [] now memory medium
      → Served (setting told converters start before) OutOfMemory left_before left_before now medium
  served_memory laws now memory medium hearing = record {
    given = [];
    taken = Consumes-nil left_before;
    ended = false;
    end_seen = not_seen;
    input = tt;
    course = service_memory told converters start before laws [] [] now memory medium hearing;
  }
