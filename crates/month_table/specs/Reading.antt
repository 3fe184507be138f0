-- Reading the text of a month's table: each row is what would be written for the count that stands in it, so that no other text is taken.
use Rattle.std.specs.Prelude.{ℕ, zero, suc, ◌+◌, ◌-◌, ◌*◌, ◌%◌, Bool, true, false, cond, ◌&&◌, ltb, eqb}
use Rattle.std.specs.Prelude.{List, [], ◌∷◌, ◌++◌, length, drop, get_or, set, replicate}
use Rattle.month_table.specs.Table.{head, label, place, row, session_row}

-- whether a text begins with these bytes
unfoldable pub begins : List ℕ → List ℕ → Bool
begins [] text = true
begins (b ∷ bs) [] = false
begins (b ∷ bs) (t ∷ ts) = eqb b t && begins bs ts

-- the bytes of a text up to its first newline
unfoldable pub line : List ℕ → List ℕ
line [] = []
line (b ∷ bs) = cond (eqb b 10) [] (b ∷ line bs)

-- the number that decimal digits stand for, after the number before them
unfoldable pub value_from : ℕ → List ℕ → ℕ
value_from v [] = v
value_from v (b ∷ bs) = value_from (10 * v + (b - 48)) bs

-- the count in a row that begins a text
unfoldable pub count_in : ℕ → List ℕ → ℕ
count_in p text = value_from 0 (drop (length (label p)) (line text))

-- Whether a text begins with row p: a count below 2^64, written as it is written.
unfoldable pub is_row : ℕ → List ℕ → Bool
is_row p text = ltb (count_in p text) 0x1_0000_0000_0000_0000 && begins (row p (count_in p text)) text

-- a digit's value: 0 to 9, a to f
unfoldable pub digit_value : ℕ → ℕ
digit_value b = cond (ltb b 58) (b - 48) (b - 87)

-- the n bytes that hexadecimal digits stand for, two each
unfoldable pub bytes_in : ℕ → List ℕ → List ℕ
bytes_in zero digits = []
bytes_in (suc n) digits = ((16 * digit_value (get_or digits 0 0) + digit_value (get_or digits 1 0)) % 256) ∷ bytes_in n (drop 2 digits)

-- the digest in a session's row that begins a text
unfoldable pub digest_in : List ℕ → List ℕ
digest_in text = bytes_in 32 (drop 8 text)

unfoldable pub is_session : List ℕ → Bool
is_session text = begins (session_row (digest_in text)) text

-- What reading gives: the figures and the digests, or the number of the first line, from 1 on, that is not written so.
pub data Table : Type 0 where
  table : List ℕ → List ℕ → Table
  wrong : ℕ → Table

abbrev pub with_digest : List ℕ → Table → Table
with_digest d (table figures digests) = table figures (d ++ digests)
with_digest d (wrong n) = wrong n

-- the sessions' rows to the end of a text; the fuel is its length
unfoldable pub sessions_from : ℕ → ℕ → List ℕ → List ℕ → Table
sessions_from zero n figures text = table figures []
sessions_from (suc fuel) n figures text =
    let more = with_digest (digest_in text) (sessions_from fuel (suc n) figures (drop 75 text)) in
    cond (eqb (length text) 0) (table figures []) (cond (is_session text) more (wrong n))

-- the rows of `left` figures from row p on, then the sessions
unfoldable pub figures_from : ℕ → ℕ → List ℕ → List ℕ → Table
figures_from zero p figures text = sessions_from (length text) (p + 2) figures text
figures_from (suc left) p figures text =
    let more = figures_from left (suc p) (set figures (place p) (count_in p text)) (drop (length (row p (count_in p text))) text) in
    cond (is_row p text) more (wrong (p + 2))

unfoldable pub reading : List ℕ → Table
reading text =
    let more = figures_from 39 0 (replicate 39 0) (drop (length head) text) in
    cond (begins head text) more (wrong 1)
