-- What each call does to what a power loss may leave.
use Rattle.std.proofs.Common.{◌≡◌, ◌≢◌, ◌⊎◌, ℕ, suc, ◌+◌, ◌-◌, ◌<◌, ◌≤◌, min, cond, ◌==◌, List, [], length, take}
use Rattle.std.proofs.Common.{drop, get_or, refl, sym, ◌∙◌, ap, subst, inl, inr, ⊎_elim, le_refl, arith}
use Rattle.std.proofs.Common.{eq-eqb, ne_eqb}
use Rattle.std.proofs.lemmas.Bool.{cases_eq, cases_lt}
use Rattle.std.proofs.lemmas.List.{ext_get_or, length-take, length-take-le, length-drop, get_or-take, get_or-drop}
use Rattle.disk_model.specs.Image.{put_image, put_bytes, Torn, end_of}
use Rattle.disk_model.specs.Case.{Case, Follows, IsSettledAt}
use Rattle.disk_model.specs.Written.{put_outside, put_inside, put_none, length-put_some, length-put_bytes}
use Rattle.disk_model.specs.Written.{put_image_here, put_image_elsewhere}
use Rattle.system_model.specs.SystemMedium.{InRange, TearCase, AnnounceCase, ShowsBytes}
use Rattle.mem_system.specs.declared.record.Call.TheVariants.{Make, FailSync, SyncFolder, Settle}
use Rattle.mem_system.specs.History.{FolderState, LeavesFile, MayLeave, IsLeft, NoneLost, bytes_written}
use Rattle.mem_system.specs.History.{file_synced, after_call}
use Rattle.mem_system.specs.HistoryLaws.{IsSoundFolder}

-- ---- a write

module _ (image xs bytes : List ℕ) (free sure : ℕ → Type 0) (at : ℕ) (sound : (n : ℕ) → sure n → n ≤ length image)
    (leaves : LeavesFile (put_bytes image at bytes) (λ i. free i ⊎ InRange at (length bytes) i) sure xs) where
  abbrev m : ℕ
  m = min (length xs) (length image)

  -- what the range held before
  abbrev was : List ℕ
  was = take (length bytes) (drop at image)

  abbrev over : List ℕ
  over = put_bytes xs at was

  abbrev ys : List ℕ
  ys = take m over

  len_was : length was ≡ min (length bytes) (length image - at)
  len_was = length-take (length bytes) (drop at image) ∙ ap (λ n. min (length bytes) n) (length-drop at image)

  len_ys : length ys ≡ m
  len_ys = let h = length-put_bytes xs at was in length-take-le m over (omega (arith, h))

  in_range : (i : ℕ) → InRange at (length bytes) i → i < m → get_or ys i 0 ≡ get_or image i 0
  in_range i range lt =
      let e : at + (i - at) ≡ i = omega (arith, range.0) in
      let l : i - at < length was = omega (arith, len_was, range.0, range.1, lt) in
      get_or-take m over i 0 lt
      ∙ sym (ap (λ k. get_or over k 0) e)
      ∙ put_inside xs at was (i - at) l
      ∙ get_or-take (length bytes) (drop at image) (i - at) 0 (omega (arith, range.0, range.1))
      ∙ get_or-drop at image (i - at) 0
      ∙ ap (λ k. get_or image k 0) e

  out_of : (i : ℕ) → (i < at) ⊎ (at + length bytes ≤ i) → i < m → get_or ys i 0 ≡ get_or xs i 0
  out_of i out lt =
      get_or-take m over i 0 lt
      ∙ put_outside xs at was i (⊎_elim (λ l. inl l) (λ g. inr (omega (arith, g, len_was))) out)

  torn_back : Torn at (length bytes) ys xs
  torn_back = record {
    kept = λ i lt out. sym (out_of i out (omega (arith, lt, len_ys)));
    no_shorter = omega (arith, len_ys);
    no_longer =
        let h = length-put_bytes image at bytes in
        let n = leaves.no_longer in
        omega (arith, h, n, len_ys);
  }

  leaves_back : LeavesFile image free sure ys
  leaves_back = record {
    no_shorter = λ n is. let low = leaves.no_shorter n is in let high = sound n is in omega (arith, low, high, len_ys);
    no_longer = omega (arith, len_ys);
    kept = λ i is not_free.
        let low = leaves.no_shorter (suc i) is in
        let high = sound (suc i) is in
        let here : i < m = omega (arith, low, high) in
        let outside : (i < at) ⊎ (at + length bytes ≤ i) → get_or ys i 0 ≡ get_or image i 0 =
        λ out. out_of i out here
        ∙ leaves.kept i is (λ either. ⊎_elim not_free (λ range. ⊎_elim (λ l. omega (arith, l, range.0))
        (λ g. omega (arith, g, range.1)) out) either)
        ∙ put_outside image at bytes i out in
        ⊎_elim
        (λ below. outside (inl below))
        (λ from. ⊎_elim (λ inside. in_range i (from, inside) here) (λ past. outside (inr past))
        (cases_lt i (at + length bytes)))
        (cases_lt i at);
  }

-- what a file held before
back : (s : FolderState) (file at : ℕ) (bytes : List ℕ) → IsSoundFolder s → (xs : List ℕ)
    → MayLeave (bytes_written s file at bytes) file xs
    → (ys : List ℕ) × MayLeave s file ys × Torn at (length bytes) ys xs
back s file at bytes sound xs may = ⊎_elim
    (λ none. (xs, inl none, record { kept = λ i lt out. refl; no_shorter = le_refl _; no_longer = omega arith }))
    (λ leaves.
    let here : LeavesFile (put_bytes (s.image file) at bytes) (λ i. s.free file i ⊎ InRange at (length bytes) i)
    (s.sure file) xs = record {
      no_shorter = leaves.no_shorter;
      no_longer = subst (λ ys. length xs ≤ length ys) (put_image_here s.image file at bytes) leaves.no_longer;
      kept = λ i is out. leaves.kept i is (λ e. out (⊎_elim (λ f. inl f) (λ r. inr r.1) e))
          ∙ ap (λ ys. get_or ys i 0) (put_image_here s.image file at bytes);
    } in (
      ys (s.image file) xs bytes (s.free file) (s.sure file) at (sound.sure file) here,
      inr (leaves_back (s.image file) xs bytes (s.free file) (s.sure file) at (sound.sure file) here),
      torn_back (s.image file) xs bytes (s.free file) (s.sure file) at (sound.sure file) here,
    ))
    may

abbrev choose : (f file : ℕ) (ys xs : List ℕ) → List ℕ
choose f file ys xs = cond (f == file) ys xs

choose_here : (f file : ℕ) (ys xs : List ℕ) → f ≡ file → choose f file ys xs ≡ ys
choose_here f file ys xs same = subst (λ b. cond b ys xs ≡ ys) (sym (eq-eqb f file same)) refl

choose_other : (f file : ℕ) (ys xs : List ℕ) → f ≢ file → choose f file ys xs ≡ xs
choose_other f file ys xs ne = subst (λ b. cond b ys xs ≡ xs) (sym (ne_eqb f file ne)) refl

elsewhere : (s : FolderState) (file at : ℕ) (bytes : List ℕ) (f : ℕ) → f ≢ file → (xs : List ℕ)
    → MayLeave (bytes_written s file at bytes) f xs → MayLeave s f xs
elsewhere s file at bytes f ne xs may = ⊎_elim
    (λ none. inl none)
    (λ leaves. inr (record {
      no_shorter = leaves.no_shorter;
      no_longer = subst (λ ys. length xs ≤ length ys) (put_image_elsewhere s.image file at bytes f ne) leaves.no_longer;
      kept = λ i is out. leaves.kept i is (λ e. ⊎_elim out (λ r. ne r.0) e)
          ∙ ap (λ ys. get_or ys i 0) (put_image_elsewhere s.image file at bytes f ne);
    }))
    may

pub write_tears : (s : FolderState) (file at : ℕ) (bytes : List ℕ) → IsSoundFolder s
    → Follows (TearCase file at (length bytes)) (IsLeft s) (IsLeft (bytes_written s file at bytes))
write_tears s file at bytes sound c now =
    let (ys, may, torn) = back s file at bytes sound (c.left file) (now.left file) in
    let d : Case = record { base = c.base; full = c.full; left = λ f. choose f file ys (c.left f) } in (
      d,
      record {
        base = now.base;
        full = now.full;
        left = λ f. ⊎_elim
            (λ same. subst (λ k. MayLeave s k (choose k file ys (c.left k))) (sym same)
            (subst (λ zs. MayLeave s file zs) (sym (choose_here file file ys (c.left file) refl)) may))
            (λ ne. subst (λ zs. MayLeave s f zs) (sym (choose_other f file ys (c.left f) ne))
            (elsewhere s file at bytes f ne (c.left f) (now.left f)))
            (cases_eq f file);
      },
      record {
        base = refl;
        full = refl;
        left = record {
          others = λ f ne. sym (choose_other f file ys (c.left f) ne);
          torn = subst (λ zs. Torn at (length bytes) zs (c.left file)) (sym (choose_here file file ys (c.left file) refl))
              torn;
        };
      },
    )

ends : (at n m : ℕ) → n ≤ m → end_of at n ≤ end_of at m
ends at n m le = ⊎_elim
    (λ none. subst (λ b. cond b 0 (at + n) ≤ end_of at m) (sym (eq-eqb n 0 none)) (omega arith))
    (λ some.
    let other : m ≢ 0 = λ none. some (omega arith) in
    subst (λ b. cond b 0 (at + n) ≤ end_of at m) (sym (ne_eqb n 0 some))
    (subst (λ b. at + n ≤ cond b 0 (at + m)) (sym (ne_eqb m 0 other)) (omega arith)))
    (cases_eq n 0)

-- a range that was torn is part of a longer one
pub torn_more : (file at n m : ℕ) (d c : Case) → n ≤ m → TearCase file at n d c → TearCase file at m d c
torn_more file at n m d c le tear = record {
  base = tear.base;
  full = tear.full;
  left = record {
    others = tear.left.others;
    torn = record {
      kept = λ i lt out. tear.left.torn.kept i lt (⊎_elim (λ l. inl l) (λ g. inr (omega (arith, g, le))) out);
      no_shorter = tear.left.torn.no_shorter;
      no_longer = let h = tear.left.torn.no_longer in let e = ends at n m le in omega (arith, h, e);
    };
  };
}

-- no write is one that tears nothing
pub torn_none : (file at n : ℕ) (c : Case) → TearCase file at n c c
torn_none file at n c = record {
  base = refl;
  full = refl;
  left = record {
    others = λ f other. refl;
    torn = record { kept = λ i lt out. refl; no_shorter = le_refl _; no_longer = omega arith };
  };
}

-- what is there is written once more
put_same : (old : List ℕ) (at : ℕ) (bytes : List ℕ) → ShowsBytes old at bytes → put_bytes old at bytes ≡ old
put_same old at bytes shows = ⊎_elim
    (λ none. put_none old at bytes none)
    (λ some.
    let h = length-put_some old at bytes some in
    let last = shows.within (length bytes - 1) (omega arith) in
    ext_get_or 0 (put_bytes old at bytes) old (omega (arith, h, last))
    (λ i lt. ⊎_elim
    (λ below. put_outside old at bytes i (inl below))
    (λ from. ⊎_elim
    (λ inside.
    let e : at + (i - at) ≡ i = omega arith in
    let l : i - at < length bytes = omega arith in
    subst (λ k. get_or (put_bytes old at bytes) k 0 ≡ get_or old k 0) e
    (put_inside old at bytes (i - at) l ∙ sym (shows.equal (i - at) l)))
    (λ past. put_outside old at bytes i (inr past))
    (cases_lt i (at + length bytes)))
    (cases_lt i at)))
    (cases_eq (length bytes) 0)

pub same_image : (s : FolderState) (file at : ℕ) (bytes : List ℕ) → ShowsBytes (s.image file) at bytes → (f : ℕ)
    → put_image s.image file at bytes f ≡ s.image f
same_image s file at bytes shows f = ⊎_elim
    (λ e. subst (λ k. put_image s.image file at bytes k ≡ s.image k) (sym e)
    (put_image_here s.image file at bytes ∙ put_same (s.image file) at bytes shows))
    (λ ne. put_image_elsewhere s.image file at bytes f ne)
    (cases_eq f file)

-- it makes no case where the range is free anyway
pub again_fewer : (s : FolderState) (file at : ℕ) (bytes : List ℕ)
    → ((i : ℕ) → InRange at (length bytes) i → s.free file i) → ShowsBytes (s.image file) at bytes
    → (c : Case) → IsLeft (bytes_written s file at bytes) c → IsLeft s c
again_fewer s file at bytes free shows c now = record {
  base = now.base;
  full = now.full;
  left = λ f. ⊎_elim
      (λ none. inl none)
      (λ leaves.
      let same = same_image s file at bytes shows f in
      inr (record {
        no_shorter = leaves.no_shorter;
        no_longer = subst (λ ys. length (c.left f) ≤ length ys) same leaves.no_longer;
        kept = λ i is out. leaves.kept i is (λ e. ⊎_elim out
            (λ r. out (subst (λ k. s.free k i) (sym r.0) (free i r.1))) e)
            ∙ ap (λ ys. get_or ys i 0) same;
      }))
      (now.left f);
}

-- ---- a sync of a file

pub sync_fewer : (s : FolderState) (file : ℕ) (c : Case) → IsLeft (file_synced s file) c → IsLeft s c
sync_fewer s file c now = record {
  base = now.base;
  full = now.full;
  left = λ f. ⊎_elim
      (λ none. inl none)
      (λ leaves. inr (record {
        no_shorter = λ n is. leaves.no_shorter n (inl is);
        no_longer = leaves.no_longer;
        kept = λ i is out. leaves.kept i (inl is) (λ free. out free.0);
      }))
      (now.left f);
}

pub fail_fewer : (s : FolderState) (file : ℕ) (c : Case) → IsLeft (after_call (FailSync file) s) c → IsLeft s c
fail_fewer s file c now = record { base = now.base; full = now.full; left = now.left }

-- ---- names

-- a file that is not there has one way to be left
absent_leaves : (s : FolderState) (f : ℕ) → IsSoundFolder s → s.image f ≡ [] → (left : List ℕ) → left ≡ []
    → LeavesFile (s.image f) (s.free f) (s.sure f) left
absent_leaves s f sound absent left none =
    let empty : length (s.image f) ≡ 0 = ap length absent in
    let nothing : length left ≡ 0 = ap length none in
    record {
      no_shorter = λ n is. let h = sound.sure f n is in omega (arith, h, empty);
      no_longer = omega (arith, nothing);
      kept = λ i is out. let h = sound.sure f (suc i) is in absurd (omega (arith, h, empty));
    }

pub make_fewer : (s : FolderState) (file : ℕ) → IsSoundFolder s → s.image file ≡ []
    → (c : Case) → IsLeft (after_call (Make file) s) c → IsLeft s c
make_fewer s file sound absent c now = record {
  base = now.base;
  full = now.full;
  left = λ f. ⊎_elim
      (λ none. ⊎_elim
      (λ same. inr (absent_leaves s f sound (ap s.image same ∙ absent) (c.left f) none.1))
      (λ other. inl (λ named. none.0 (named, other), none.1))
      (cases_eq f file))
      (λ leaves. inr leaves)
      (now.left f);
}

pub names_fewer : (s : FolderState) (c : Case) → IsLeft (after_call SyncFolder s) c → IsLeft s c
names_fewer s c now = record {
  base = now.base;
  full = now.full;
  left = λ f. ⊎_elim (λ none. absurd (none.0 tt)) (λ leaves. inr leaves) (now.left f);
}

-- ---- notes

pub announce_follows : (s : FolderState) (file at : ℕ) (bytes : List ℕ)
    → Follows (AnnounceCase file at bytes) (IsLeft s)
    (IsLeft (record s { full = put_image s.full file at bytes }))
announce_follows s file at bytes c now = (
  record { base = c.base; full = s.full; left = c.left },
  record { base = now.base; full = refl; left = now.left },
  record { base = refl; full = now.full; left = refl },
)

pub settle_quiets : (s : FolderState) → ((f : ℕ) (c : Case) → IsLeft s c → c.left f ≡ s.image f)
    → (c : Case) → IsLeft (after_call Settle s) c → IsSettledAt s.image c
settle_quiets s safe c now = record {
  base = now.base;
  full = now.full;
  left = λ i f. safe f (record { base = s.base; full = s.full; left = c.left })
      (record { base = refl; full = refl; left = now.left }) i;
}
