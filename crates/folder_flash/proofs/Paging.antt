-- How the bytes of a file make the pages of a flash.
use Rattle.std.proofs.Common.{◌≡◌, ◌≢◌, ◌⊎◌, ℕ, ◌+◌, ◌-◌, ◌*◌, ◌<◌, ◌≤◌, List, ◌++◌, length, drop, min}
use Rattle.std.proofs.Common.{replicate}
use Rattle.std.proofs.Common.{get_or, refl, sym, ap, ◌∙◌, subst, inl, inr, ⊎_elim, arith, cond, eq-eqb, ne_eqb}
use Rattle.std.proofs.Common.{◌==◌, ◌&&◌}
use Rattle.std.proofs.lemmas.List.{ext_get_or, get_or_default, get_or_past, get_or-replicate, get_or-take, get_or-drop}
use Rattle.std.proofs.lemmas.List.{get_or_append_left, get_or-append_right, length-replicate, length-append, length-drop}
use Rattle.std.proofs.lemmas.List.{length-take-le}
use Rattle.std.proofs.lemmas.Bool.{cases_lt, cases_eq, lt-ltb, le-ltb}
use Rattle.std.proofs.Math.Path.{fun_ext}
use Rattle.disk_model.specs.Image.{Image, end_of, Torn}
use Rattle.flash_model.specs.Pages.{blank_page, program_page, erase_block}
use Rattle.folder_flash.specs.Bytes.{flash_byte, AreFlashBytes, PutsIntoFlash}
use Rattle.folder_flash.specs.FilePages.{page_start, file_page, file_pages, IsPageSpared, TornFile, TornPageOf, TornBlockOf}

blank_length : length blank_page ≡ 512
unfolding blank_page
blank_length = length-replicate {A = ℕ} 512 255

blank_byte : (j : ℕ) → j < 512 → get_or blank_page j 0 ≡ 255
unfolding blank_page
blank_byte j lt = get_or-replicate 512 j 255 0 lt

-- ---- one page

pub page_length : (file : List ℕ) (b p : ℕ) → length (file_page file b p) ≡ 512
unfolding file_page
page_length file b p = length-take-le 512 (drop (page_start b p) file ++ blank_page)
    (omega (arith, length-append (drop (page_start b p) file) blank_page, blank_length))

pub page_byte : (file : List ℕ) (b p j : ℕ) → j < 512
    → get_or (file_page file b p) j 0 ≡ flash_byte file (page_start b p + j)
unfolding file_page
page_byte file b p j lt =
    let at = page_start b p in
    let rest = drop at file in
    let long : length rest ≡ length file - at = length-drop at file in
    get_or-take 512 (rest ++ blank_page) j 0 lt
    ∙ ⊎_elim
    (λ inside. get_or_append_left rest blank_page 0 j inside ∙ get_or-drop at file j 0
    ∙ get_or_default file (at + j) 0 255 (omega (arith, inside, long)))
    (λ past. get_or-append_right rest blank_page (length rest) j 0 refl past
    ∙ blank_byte (j - length rest) (omega (arith, lt))
    ∙ sym (get_or_past file (at + j) 255 (omega (arith, past, long))))
    (cases_lt j (length rest))

-- 512 bytes are a page if they are those of the file
pub page_is : (file bytes : List ℕ) (b p : ℕ) → length bytes ≡ 512
    → ((j : ℕ) → j < 512 → get_or bytes j 0 ≡ flash_byte file (page_start b p + j)) → bytes ≡ file_page file b p
page_is file bytes b p long same = ext_get_or 0 bytes (file_page file b p) (long ∙ sym (page_length file b p))
    (λ j lt. let l : j < 512 = omega (arith, lt, long) in same j l ∙ sym (page_byte file b p j l))

-- a page of two files
pub page_alike : (old new : List ℕ) (b p : ℕ)
    → ((j : ℕ) → j < 512 → flash_byte new (page_start b p + j) ≡ flash_byte old (page_start b p + j))
    → file_page new b p ≡ file_page old b p
page_alike old new b p same = page_is old (file_page new b p) b p (page_length new b p)
    (λ j lt. page_byte new b p j lt ∙ same j lt)

-- ---- all pages

in_block : (file : List ℕ) (b p : ℕ) → p < 64 → file_pages file b p ≡ file_page file b p
in_block file b p lt = subst (λ v. cond v (file_page file b p) blank_page ≡ file_page file b p) (sym (lt-ltb p 64 lt)) refl

no_page : (file : List ℕ) (b p : ℕ) → 64 ≤ p → file_pages file b p ≡ blank_page
no_page file b p le = subst (λ v. cond v (file_page file b p) blank_page ≡ blank_page) (sym (le-ltb p 64 le)) refl

pub pages_alike : (old new : List ℕ) (b p : ℕ) → (p < 64 → file_page new b p ≡ file_page old b p)
    → file_pages new b p ≡ file_pages old b p
pages_alike old new b p same = ⊎_elim
    (λ lt. in_block new b p lt ∙ same lt ∙ sym (in_block old b p lt))
    (λ le. no_page new b p le ∙ sym (no_page old b p le))
    (cases_lt p 64)

-- the bytes that are read are those of the page
pub reads_page : (file out : List ℕ) (b p : ℕ) → p < 64 → length out ≡ 512 → AreFlashBytes file (page_start b p) out
    → out ≡ file_pages file b p
reads_page file out b p lt long are = page_is file out b p long (λ j l. are j (omega (arith, l, long)))
    ∙ sym (in_block file b p lt)

-- two pages do not overlap
apart : (b p block page j : ℕ) → p < 64 → page < 64 → (b ≢ block) ⊎ (p ≢ page) → j < 512
    → (page_start b p + j < page_start block page) ⊎ (page_start block page + 512 ≤ page_start b p + j)
apart b p block page j lt within other l = ⊎_elim
    (λ ne. ⊎_elim (λ less. inl (omega (arith, less, lt, l))) (λ le. inr (omega (arith, le, ne, within))) (cases_lt b block))
    (λ ne. ⊎_elim
    (λ less. inl (omega (arith, less, lt, l)))
    (λ le. ⊎_elim
    (λ more. inr (omega (arith, more, within)))
    (λ same. let e : b ≡ block = omega (arith, le, same) in
    ⊎_elim
    (λ less. inl (omega (arith, e, less, l)))
    (λ geq. inr (omega (arith, e, geq, ne)))
    (cases_lt p page))
    (cases_lt block b))
    (cases_lt b block))
    other

outside_block : (b p block j : ℕ) → p < 64 → b ≢ block → j < 512
    → (page_start b p + j < page_start block 0) ⊎ (page_start block 0 + 32768 ≤ page_start b p + j)
outside_block b p block j lt ne l = ⊎_elim (λ less. inl (omega (arith, less, lt, l)))
    (λ le. inr (omega (arith, le, ne))) (cases_lt b block)

-- ---- whole writes

pub programs : (old new bytes : List ℕ) (block page : ℕ) → page < 64 → length bytes ≡ 512
    → PutsIntoFlash (page_start block page) bytes old new
    → file_pages new ≡ program_page (file_pages old) block page bytes
programs old new bytes block page within long puts = fun_ext (λ b. fun_ext (λ p. at_page b p))
  where
    other : (b p : ℕ) → (b ≢ block) ⊎ (p ≢ page) → file_pages new b p ≡ file_pages old b p
    other b p ne = pages_alike old new b p (λ lt. page_alike old new b p (λ j l.
        puts.outside (page_start b p + j) (⊎_elim inl (λ past. inr (omega (arith, past, long)))
        (apart b p block page j lt within ne l))))

    here : (b p : ℕ) → b ≡ block → p ≡ page → file_pages new b p ≡ bytes
    here b p e f = ap (λ k. file_pages new k p) e ∙ ap (λ k. file_pages new block k) f
        ∙ in_block new block page within
        ∙ sym (page_is new bytes block page long (λ j l. puts.inside j (omega (arith, l, long))))

    at_page : (b p : ℕ) → file_pages new b p ≡ program_page (file_pages old) block page bytes b p
    at_page b p = ⊎_elim
        (λ e. ⊎_elim
        (λ f. here b p e f ∙ sym (ap (λ v. cond (v && (p == page)) bytes (file_pages old b p)) (eq-eqb b block e)
        ∙ ap (λ v. cond v bytes (file_pages old b p)) (eq-eqb p page f)))
        (λ nf. other b p (inr nf) ∙ sym (ap (λ v. cond (v && (p == page)) bytes (file_pages old b p)) (eq-eqb b block e)
        ∙ ap (λ v. cond v bytes (file_pages old b p)) (ne_eqb p page nf)))
        (cases_eq p page))
        (λ ne. other b p (inl ne)
        ∙ sym (ap (λ v. cond (v && (p == page)) bytes (file_pages old b p)) (ne_eqb b block ne)))
        (cases_eq b block)

pub erases : (old new bytes : List ℕ) (block : ℕ) → length bytes ≡ 32768
    → ((j : ℕ) → j < 32768 → get_or bytes j 0 ≡ 255) → PutsIntoFlash (page_start block 0) bytes old new
    → file_pages new ≡ erase_block (file_pages old) block
erases old new bytes block long blank puts = fun_ext (λ b. fun_ext (λ p. at_page b p))
  where
    other : (b p : ℕ) → b ≢ block → file_pages new b p ≡ file_pages old b p
    other b p ne = pages_alike old new b p (λ lt. page_alike old new b p (λ j l.
        puts.outside (page_start b p + j) (⊎_elim inl (λ past. inr (omega (arith, past, long)))
        (outside_block b p block j lt ne l))))

    blank_in : (p j : ℕ) → p < 64 → j < 512 → flash_byte new (page_start block p + j) ≡ 255
    blank_in p j lt l =
        let k = 512 * p + j in
        let few : k < 32768 = omega (arith, lt, l) in
        let e : page_start block 0 + k ≡ page_start block p + j = omega arith in
        subst (λ i. flash_byte new i ≡ 255) e (sym (puts.inside k (omega (arith, few, long))) ∙ blank k few)

    here : (b p : ℕ) → b ≡ block → file_pages new b p ≡ blank_page
    here b p e = ap (λ k. file_pages new k p) e ∙ ⊎_elim
        (λ lt. in_block new block p lt
        ∙ sym (page_is new blank_page block p blank_length (λ j l. blank_byte j l ∙ sym (blank_in p j lt l))))
        (λ le. no_page new block p le)
        (cases_lt p 64)

    at_page : (b p : ℕ) → file_pages new b p ≡ erase_block (file_pages old) block b p
    at_page b p = ⊎_elim
        (λ e. here b p e ∙ sym (ap (λ v. cond v blank_page (file_pages old b p)) (eq-eqb b block e)))
        (λ ne. other b p ne ∙ sym (ap (λ v. cond v blank_page (file_pages old b p)) (ne_eqb b block ne)))
        (cases_eq b block)

-- ---- writes that were cut short

-- a byte before what may be torn, or after it
kept_byte : (old new : List ℕ) (at n i : ℕ) → 0 < n
    → Torn (min (length old) at) (at + n - min (length old) at) old new
    → (i < min (length old) at) ⊎ (at + n ≤ i) → flash_byte new i ≡ flash_byte old i
kept_byte old new at n i some torn out =
    let from = min (length old) at in
    let span = at + n - from in
    let low : from ≤ at = omega arith in
    let ends : end_of from span ≡ from + span = ap (λ v. cond v 0 (from + span)) (ne_eqb span 0 (omega (arith, some, low)))
    in
    ⊎_elim
    (λ inside. get_or_default new i 255 0 (omega (arith, inside, torn.no_shorter))
    ∙ torn.kept i inside (⊎_elim (λ before. inl before) (λ past. inr (omega (arith, past, low))) out)
    ∙ get_or_default old i 0 255 inside)
    (λ past. get_or_past new i 255 (⊎_elim
    (λ before. absurd (omega (arith, before, past)))
    (λ after. omega (arith, after, past, torn.no_longer, ends, low))
    out)
    ∙ sym (get_or_past old i 255 past))
    (cases_lt i (length old))

kept_page : (old new : List ℕ) (at n b p : ℕ) → 0 < n
    → Torn (min (length old) at) (at + n - min (length old) at) old new → IsPageSpared old at b p
    → ((j : ℕ) → j < 512 → (page_start b p + j < at) ⊎ (at + n ≤ page_start b p + j))
    → file_page new b p ≡ file_page old b p
kept_page old new at n b p some torn spared outside = page_alike old new b p (λ j l.
    kept_byte old new at n (page_start b p + j) some torn (⊎_elim
    (λ before. inl (⊎_elim (λ reached. omega (arith, reached, before)) (λ whole. omega (arith, whole, before, l)) spared))
    (λ past. inr past)
    (outside j l)))

pub program_torn : (block page : ℕ) (old new : Image) → page < 64 → TornFile (page_start block page) 512 old new
    → TornPageOf block page (old 0) (new 0)
program_torn block page old new within torn b p other spared = pages_alike (old 0) (new 0) b p (λ lt.
    kept_page (old 0) (new 0) (page_start block page) 512 b p (omega arith) torn.torn spared
    (λ j l. apart b p block page j lt within other l))

pub erase_torn : (block : ℕ) (old new : Image) → TornFile (page_start block 0) 32768 old new
    → TornBlockOf block (old 0) (new 0)
erase_torn block old new torn b p other spared = pages_alike (old 0) (new 0) b p (λ lt.
    kept_page (old 0) (new 0) (page_start block 0) 32768 b p (omega arith) torn.torn spared
    (λ j l. outside_block b p block j lt other l))

-- ---- the same where a page begins at a place

pub reads_at : (file out : List ℕ) (at b p : ℕ) → at ≡ page_start b p → p < 64 → length out ≡ 512
    → AreFlashBytes file at out → out ≡ file_pages file b p
reads_at file out at b p e lt long are = reads_page file out b p lt long (subst (λ k. AreFlashBytes file k out) e are)

pub programs_at : (old new bytes : List ℕ) (at block page : ℕ) → at ≡ page_start block page → page < 64
    → length bytes ≡ 512 → PutsIntoFlash at bytes old new
    → file_pages new ≡ program_page (file_pages old) block page bytes
programs_at old new bytes at block page e within long puts = programs old new bytes block page within long
    (subst (λ k. PutsIntoFlash k bytes old new) e puts)

pub program_torn_at : (at n block page : ℕ) (old new : Image) → at ≡ page_start block page → page < 64 → n ≡ 512
    → TornFile at n old new → TornPageOf block page (old 0) (new 0)
program_torn_at at n block page old new e within long torn = program_torn block page old new within
    (subst (λ k. TornFile (page_start block page) k old new) long (subst (λ k. TornFile k n old new) e torn))

pub erases_at : (old new : List ℕ) (at block : ℕ) → at ≡ page_start block 0
    → PutsIntoFlash at (replicate 32768 255) old new → file_pages new ≡ erase_block (file_pages old) block
erases_at old new at block e puts = erases old new (replicate 32768 255) block (length-replicate {A = ℕ} 32768 255)
    (λ j lt. get_or-replicate 32768 j 255 0 lt)
    (subst (λ k. PutsIntoFlash k (replicate 32768 255) old new) e puts)

pub erase_torn_at : (at block : ℕ) (old new : Image) → at ≡ page_start block 0 → TornFile at 32768 old new
    → TornBlockOf block (old 0) (new 0)
erase_torn_at at block old new e torn = erase_torn block old new (subst (λ k. TornFile k 32768 old new) e torn)
