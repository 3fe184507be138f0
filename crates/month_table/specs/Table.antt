-- The text of a month's table (docs/DECISIONS.md, "The table of a month"): a head, a row for each figure, a row for each session that was added.
use Rattle.std.specs.Prelude.{ℕ, zero, suc, ◌+◌, ◌-◌, ◌*◌, ◌/◌, ◌%◌, cond, List, [], ◌∷◌, ◌++◌, ltb, eqb, length, take, drop, get_or}
use Rattle.printing.specs.Text.{decimal, newline, each, hex_byte}

-- `token,status,count`
abbrev pub head : List ℕ
head = 116 ∷ 111 ∷ 107 ∷ 101 ∷ 110 ∷ 44 ∷ 115 ∷ 116 ∷ 97 ∷ 116 ∷ 117 ∷ 115 ∷ 44 ∷ 99 ∷ 111 ∷ 117 ∷ 110 ∷ 116 ∷ 10 ∷ []

-- The statuses in the order in which their calls are counted, then all of them: `0`, `1`, `-1`, `-3`, `-4`, `-9`, `-10`, `all`.
unfoldable pub status_word : ℕ → List ℕ
status_word s =
    cond (eqb s 0) (48 ∷ [])
    (cond (eqb s 1) (49 ∷ [])
    (cond (eqb s 2) (45 ∷ 49 ∷ [])
    (cond (eqb s 3) (45 ∷ 51 ∷ [])
    (cond (eqb s 4) (45 ∷ 52 ∷ [])
    (cond (eqb s 5) (45 ∷ 57 ∷ [])
    (cond (eqb s 6) (45 ∷ 49 ∷ 48 ∷ []) (97 ∷ 108 ∷ 108 ∷ [])))))))

-- `operations,,`, `used,,`, `available,,`, `sessions,added,`, `sessions,refused,`, `sessions,unread,`, `calls,agreed,`
unfoldable pub last_word : ℕ → List ℕ
last_word n =
    cond (eqb n 0) (111 ∷ 112 ∷ 101 ∷ 114 ∷ 97 ∷ 116 ∷ 105 ∷ 111 ∷ 110 ∷ 115 ∷ 44 ∷ 44 ∷ [])
    (cond (eqb n 1) (117 ∷ 115 ∷ 101 ∷ 100 ∷ 44 ∷ 44 ∷ [])
    (cond (eqb n 2) (97 ∷ 118 ∷ 97 ∷ 105 ∷ 108 ∷ 97 ∷ 98 ∷ 108 ∷ 101 ∷ 44 ∷ 44 ∷ [])
    (cond (eqb n 3) (115 ∷ 101 ∷ 115 ∷ 115 ∷ 105 ∷ 111 ∷ 110 ∷ 115 ∷ 44 ∷ 97 ∷ 100 ∷ 100 ∷ 101 ∷ 100 ∷ 44 ∷ [])
    (cond (eqb n 4) (115 ∷ 101 ∷ 115 ∷ 115 ∷ 105 ∷ 111 ∷ 110 ∷ 115 ∷ 44 ∷ 114 ∷ 101 ∷ 102 ∷ 117 ∷ 115 ∷ 101 ∷ 100 ∷ 44 ∷ [])
    (cond (eqb n 5) (115 ∷ 101 ∷ 115 ∷ 115 ∷ 105 ∷ 111 ∷ 110 ∷ 115 ∷ 44 ∷ 117 ∷ 110 ∷ 114 ∷ 101 ∷ 97 ∷ 100 ∷ 44 ∷ [])
    (99 ∷ 97 ∷ 108 ∷ 108 ∷ 115 ∷ 44 ∷ 97 ∷ 103 ∷ 114 ∷ 101 ∷ 101 ∷ 100 ∷ 44 ∷ []))))))

-- The row of a figure without its count: eight rows for each token from 1 to 4, then the last seven.
unfoldable pub label : ℕ → List ℕ
label p = cond (ltb p 32) ((49 + p / 8) ∷ 44 ∷ (status_word (p % 8) ++ (44 ∷ []))) (last_word (p - 32))

-- Where the figure of a row stands: the calls of each token by their seven statuses, the calls of each token, then the others in the rows' order.
unfoldable pub place : ℕ → ℕ
place p = cond (ltb p 32) (cond (eqb (p % 8) 7) (28 + p / 8) (7 * (p / 8) + p % 8)) p

unfoldable pub row : ℕ → ℕ → List ℕ
row p v = label p ++ (decimal v ++ newline)

-- n rows from row p on
unfoldable pub rows_from : ℕ → ℕ → List ℕ → List ℕ
rows_from zero p figures = []
rows_from (suc n) p figures = row p (get_or figures (place p) 0) ++ rows_from n (suc p) figures

-- `session,DIGEST,1`, the 32 bytes of a digest in hexadecimal digits
unfoldable pub session_row : List ℕ → List ℕ
session_row digest = (115 ∷ 101 ∷ 115 ∷ 115 ∷ 105 ∷ 111 ∷ 110 ∷ 44 ∷ []) ++ (each hex_byte digest ++ (44 ∷ 49 ∷ 10 ∷ []))

-- n sessions by their digests, 32 bytes each
unfoldable pub session_rows : ℕ → List ℕ → List ℕ
session_rows zero digests = []
session_rows (suc n) digests = session_row (take 32 digests) ++ session_rows n (drop 32 digests)

-- The text of 39 figures and whole digests.
unfoldable pub text : List ℕ → List ℕ → List ℕ
text figures digests = head ++ (rows_from 39 0 figures ++ session_rows (length digests / 32) digests)
