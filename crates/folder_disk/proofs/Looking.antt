-- How calls that only look follow one another, and how short reads make a whole one.
use Rattle.std.proofs.Common.{◌≡◌, ℕ, ◌+◌, ◌-◌, ◌<◌, ◌≤◌, min, Bool, List, ◌++◌, length, take, drop, get_or, sym, ◌∙◌}
use Rattle.std.proofs.Common.{ap, inl, inr}
use Rattle.std.proofs.Common.{⊎_elim, arith}
use Rattle.std.proofs.lemmas.Bool.{cases_lt}
use Rattle.std.proofs.lemmas.List.{ext_get_or, length-take-le, length-drop, length-append, get_or-take, get_or-drop}
use Rattle.std.proofs.lemmas.List.{get_or_append_left, get_or-append_right}
use borrow.Rule.Slice.PartMut.{put_mid, post_of}
use Rattle.disk_model.specs.Medium.{IsLawful}
use Rattle.disk_model.specs.Laws.{elapses_none, elapses_on, reads_none, reads_on}
use Rattle.system_model.specs.SystemMedium.{SystemMedium, Looks, GivesBytes, GivesNone}

pub looks_none : (told : Bool) (m : SystemMedium) → IsLawful told m.disk → Looks m m
looks_none told m law = record {
  reads = reads_none law;
  time = elapses_none law;
  named = λ f was. was;
  free = λ f i. (λ h. h, λ h. h);
  lost = λ f i h. h;
}

pub looks_on : (a b c : SystemMedium) → Looks a b → Looks b c → Looks a c
looks_on a b c first next = record {
  reads = reads_on first.time first.reads next.time next.reads;
  time = elapses_on first.time next.time;
  named = λ f was. next.named f (first.named f was);
  free = λ f i. (λ h. (first.free f i).0 ((next.free f i).0 h), λ h. (next.free f i).1 ((first.free f i).1 h));
  lost = λ f i h. first.lost f i (next.lost f i h);
}

-- the bytes read so far are those of the file
pub record HasRead (file : List ℕ) (at count : ℕ) (out : List ℕ) : Type 0 where
  pub within : count ≤ length file - at
  pub room : count ≤ length out
  pub bytes : take count out ≡ take count (drop at file)

pub read_more : (file : List ℕ) (at count more : ℕ) (out rest post new : List ℕ) → HasRead file at count out
    → length rest ≡ length out - count → more ≤ length rest
    → more ≤ length file - (at + count) → take more rest ≡ take more (drop (at + count) file)
    → new ≡ take count out ++ (rest ++ post) → length new ≡ length out → HasRead file at (count + more) new
read_more file at count more out rest post new was len room within bytes is n =
    let l : length (take count out) ≡ count = length-take-le count out was.room in
    record {
      within = omega (arith, was.within, within);
      room = omega (arith, n, was.room, room, len);
      bytes = ext_get_or 0 (take (count + more) new) (take (count + more) (drop at file))
          (length-take-le (count + more) new (omega (arith, n, was.room, room, len))
          ∙ sym (length-take-le (count + more) (drop at file)
          (omega (arith, length-drop at file, was.within, within))))
          (λ i lt.
          let lt' : i < count + more = omega (
            arith,
            length-take-le (count + more) new
                (omega (arith, n, was.room, room, len)),
          ) in
          get_or-take (count + more) new i 0 lt'
          ∙ ap (λ xs. get_or xs i 0) is
          ∙ ⊎_elim
          (λ below.
          get_or_append_left (take count out) (rest ++ post) 0 i (omega (arith, l))
          ∙ ap (λ xs. get_or xs i 0) was.bytes
          ∙ get_or-take count (drop at file) i 0 below)
          (λ above.
          let j : i - count < more = omega (arith, lt') in
          let e : at + count + (i - count) ≡ at + i = omega arith in
          get_or-append_right (take count out) (rest ++ post) count i 0 l above
          ∙ get_or_append_left rest post 0 (i - count) (omega (arith, j, room))
          ∙ sym (get_or-take more rest (i - count) 0 j)
          ∙ ap (λ xs. get_or xs (i - count) 0) bytes
          ∙ get_or-take more (drop (at + count) file) (i - count) 0 j
          ∙ get_or-drop (at + count) file (i - count) 0
          ∙ ap (λ k. get_or file k 0) e
          ∙ sym (get_or-drop at file i 0))
          (cases_lt i count)
          ∙ sym (get_or-take (count + more) (drop at file) i 0 lt'));
    }

abbrev put_long_type : Type 0
put_long_type = (a k : ℕ) (xs ys : List ℕ) → length ys ≡ k → a + k ≡ length xs → length (put_mid a k xs ys) ≡ length xs

pub put_long : put_long_type
put_long a k xs ys long fits =
    omega (
      arith,
      length-append (take a xs) (ys ++ post_of a k xs),
      length-append ys (post_of a k xs),
      length-take-le a xs (omega arith),
      length-drop k (drop a xs),
      length-drop a xs,
    )

-- bytes that cannot be read are zeros
pub gives_zeros : (file : List ℕ) (at room unreadable count : ℕ) (out : List ℕ) → length out ≡ room
    → count ≡ min (min (length file - at) room) unreadable → GivesNone file at unreadable
    → ((j : ℕ) → j < count → get_or out j 0 ≡ 0) → GivesBytes file at room out count
gives_zeros file at room unreadable count out long is none zeros = record {
  within = omega (arith, is);
  bytes = ext_get_or 0 (take count out) (take count (drop at file))
      (length-take-le count out (omega (arith, is, long))
      ∙ sym (length-take-le count (drop at file) (omega (arith, is, length-drop at file))))
      (λ i lt.
      let l : i < count = omega (arith, lt, length-take-le count out (omega (arith, is, long))) in
      get_or-take count out i 0 l
      ∙ zeros i l
      ∙ sym (none.zeros i (omega (arith, is, l)))
      ∙ sym (get_or-drop at file i 0)
      ∙ sym (get_or-take count (drop at file) i 0 l));
  ends = λ e. ⊎_elim
      (λ before. inl (omega (arith, is, none.some, e, before)))
      (λ past. inr past)
      (cases_lt at (length file));
}
