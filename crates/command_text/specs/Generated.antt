-- A synthetic workload, generated from a number.
use Rattle.std.specs.Prelude.{ℕ, zero, suc, ◌+◌, ◌*◌, ◌/◌, ◌%◌, List, [], ◌∷◌, ◌++◌, if◌then◌else◌, ◌==◌, codes}
use Rattle.std.specs.Fmt.{decimal}

-- the number after this one: a linear congruential generator, modulo 2^31
abbrev pub next_number : ℕ → ℕ
next_number x = (x * 1103515245 + 12345) % 2147483648

-- the key that a number chooses: one of k0 to k63, by the number's bits from 16 to 21
abbrev pub generated_key : ℕ → List ℕ
generated_key x = codes "k" ++ decimal (x / 65536 % 64)

-- line i, counted from 1, of the number x: of eight lines four set a key to x, and one each syncs, reads, removes a
-- key, and asks whether it exists
abbrev pub generated_line : ℕ → ℕ → List ℕ
generated_line x i =
    if i % 8 == 0 then codes "0 sync g" else (
    if i % 8 == 4 then codes "0 get g " ++ generated_key x else (
    if i % 8 == 6 then codes "0 remove g " ++ generated_key x else (
    if i % 8 == 7 then codes "0 exists g " ++ generated_key x else
    codes "0 set g " ++ (generated_key x ++ (codes " u64:" ++ decimal x)))))

-- that many lines from line i on, each of the next number; the first after x
abbrev pub generated_lines : ℕ → ℕ → ℕ → List (List ℕ)
generated_lines zero i x = []
generated_lines (suc count) i x = generated_line (next_number x) i ∷ generated_lines count (i + 1) (next_number x)

-- the lines before these: the storage is installed and opened
abbrev pub first_lines : List (List ℕ)
first_lines = codes "0 install {\"version\":1,\"keyValueStorages\":[{\"name\":\"g\",\"redundancy\":{\"m\":2,\"n\":3}}]}"
    ∷ codes "0 open-kvs g" ∷ []

-- the lines after them
abbrev pub last_lines : List (List ℕ)
last_lines = codes "0 sync g" ∷ codes "0 size g" ∷ codes "0 close g" ∷ []

-- the whole input of a number n: n lines, the sequence of whose numbers starts after n, between the first and the last
abbrev pub generated : ℕ → List (List ℕ)
generated n = first_lines ++ generated_lines n 1 n ++ last_lines
