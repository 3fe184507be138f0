-- What was written reads back, and no other text is taken. Part of the promise of the exports of a month's table.
use Rattle.std.specs.Prelude.{ℕ, suc, ◌+◌, ◌*◌, ◌%◌, ◌^◌, ◌≤◌, ◌<◌, ◌≡◌, true, false, List, [], ◌∷◌, ◌++◌, length, take, drop, get_or, set, replicate}
use Rattle.words.specs.Numbers.{Bytes}
use Rattle.words.specs.Claims.Exactly.{Exactly}
use Rattle.printing.specs.Text.{decimal, each, hex_byte}
use Rattle.month_table.specs.Table.{label, place, rows_from, session_rows, text}
use Rattle.month_table.specs.Table as written
use Rattle.month_table.specs.Reading.{table, wrong, begins, is_row, is_session, figures_from, sessions_from, reading}

-- 39 figures below 2^64, and whole digests of bytes
pub record Written (figures digests : List ℕ) : Type 0 where
  pub many : length figures ≡ 39
  pub small : (i : ℕ) → get_or figures i 0 < 0x1_0000_0000_0000_0000
  pub whole : length digests % 32 ≡ 0
  pub bytes : Bytes digests

-- What was written reads back as the same figures and digests.
abbrev pub ReadsBack : Type 0
ReadsBack = (figures digests : List ℕ) → Written figures digests → reading (text figures digests) ≡ table figures digests

-- No other text is taken.
abbrev pub NoOther : Type 0
NoOther = (t figures digests : List ℕ) → Bytes t → reading t ≡ table figures digests → Written figures digests × (t ≡ text figures digests)

-- The text row by row, in bytes.
pub record TextExactly : Type 0 where
  -- `token,status,count`, then 39 rows, then one for each session
  pub whole : (figures digests : List ℕ) (n : ℕ) → length digests ≡ 32 * n → text figures digests
      ≡ (116 ∷ 111 ∷ 107 ∷ 101 ∷ 110 ∷ 44 ∷ 115 ∷ 116 ∷ 97 ∷ 116 ∷ 117 ∷ 115 ∷ 44 ∷ 99 ∷ 111 ∷ 117 ∷ 110 ∷ 116 ∷ 10 ∷ [])
      ++ (rows_from 39 0 figures ++ session_rows n digests)
  pub no_rows : (p : ℕ) (figures : List ℕ) → rows_from 0 p figures ≡ []
  pub rows : (n p : ℕ) (figures : List ℕ) → rows_from (suc n) p figures
      ≡ label p ++ (decimal (get_or figures (place p) 0) ++ (10 ∷ [])) ++ rows_from n (suc p) figures
  -- of token t, from 0 on, the rows `t+1,0,` to `t+1,-10,` and `t+1,all,`
  pub labels : (t : ℕ) → t < 4
      → (label (8 * t) ≡ (49 + t) ∷ 44 ∷ 48 ∷ 44 ∷ []) × (label (8 * t + 1) ≡ (49 + t) ∷ 44 ∷ 49 ∷ 44 ∷ [])
      × (label (8 * t + 2) ≡ (49 + t) ∷ 44 ∷ 45 ∷ 49 ∷ 44 ∷ [])
      × (label (8 * t + 3) ≡ (49 + t) ∷ 44 ∷ 45 ∷ 51 ∷ 44 ∷ []) × (label (8 * t + 4) ≡ (49 + t) ∷ 44 ∷ 45 ∷ 52 ∷ 44 ∷ [])
      × (label (8 * t + 5) ≡ (49 + t) ∷ 44 ∷ 45 ∷ 57 ∷ 44 ∷ [])
      × (label (8 * t + 6) ≡ (49 + t) ∷ 44 ∷ 45 ∷ 49 ∷ 48 ∷ 44 ∷ []) × (label (8 * t + 7) ≡ (49 + t) ∷ 44 ∷ 97 ∷ 108 ∷ 108 ∷ 44 ∷ [])
  -- `operations,,`, `used,,`, `available,,`, `sessions,added,`, `sessions,refused,`, `sessions,unread,`, `calls,agreed,`
  pub last_labels : (label 32 ≡ 111 ∷ 112 ∷ 101 ∷ 114 ∷ 97 ∷ 116 ∷ 105 ∷ 111 ∷ 110 ∷ 115 ∷ 44 ∷ 44 ∷ [])
      × (label 33 ≡ 117 ∷ 115 ∷ 101 ∷ 100 ∷ 44 ∷ 44 ∷ [])
      × (label 34 ≡ 97 ∷ 118 ∷ 97 ∷ 105 ∷ 108 ∷ 97 ∷ 98 ∷ 108 ∷ 101 ∷ 44 ∷ 44 ∷ [])
      × (label 35 ≡ 115 ∷ 101 ∷ 115 ∷ 115 ∷ 105 ∷ 111 ∷ 110 ∷ 115 ∷ 44 ∷ 97 ∷ 100 ∷ 100 ∷ 101 ∷ 100 ∷ 44 ∷ [])
      × (label 36 ≡ 115 ∷ 101 ∷ 115 ∷ 115 ∷ 105 ∷ 111 ∷ 110 ∷ 115 ∷ 44 ∷ 114 ∷ 101 ∷ 102 ∷ 117 ∷ 115 ∷ 101 ∷ 100 ∷ 44 ∷ [])
      × (label 37 ≡ 115 ∷ 101 ∷ 115 ∷ 115 ∷ 105 ∷ 111 ∷ 110 ∷ 115 ∷ 44 ∷ 117 ∷ 110 ∷ 114 ∷ 101 ∷ 97 ∷ 100 ∷ 44 ∷ [])
      × (label 38 ≡ 99 ∷ 97 ∷ 108 ∷ 108 ∷ 115 ∷ 44 ∷ 97 ∷ 103 ∷ 114 ∷ 101 ∷ 101 ∷ 100 ∷ 44 ∷ [])
  pub places : (t s : ℕ) → t < 4 → s < 7 → (place (8 * t + s) ≡ 7 * t + s) × (place (8 * t + 7) ≡ 28 + t)
  pub last_places : (p : ℕ) → 32 ≤ p → place p ≡ p
  -- `session,DIGEST,1`
  pub no_sessions : (digests : List ℕ) → session_rows 0 digests ≡ []
  pub sessions : (n : ℕ) (digests : List ℕ)
      → session_rows (suc n) digests ≡ ((115 ∷ 101 ∷ 115 ∷ 115 ∷ 105 ∷ 111 ∷ 110 ∷ 44 ∷ []) ++ (each hex_byte (take 32 digests) ++ (44 ∷ 49 ∷ 10 ∷ [])))
      ++ session_rows n (drop 32 digests)

-- a text that begins with `token,status,count`
pub record HeadFront (t : List ℕ) : Type 0 where
  pub rest : List ℕ
  pub same : t ≡ (116 ∷ 111 ∷ 107 ∷ 101 ∷ 110 ∷ 44 ∷ 115 ∷ 116 ∷ 97 ∷ 116 ∷ 117 ∷ 115 ∷ 44 ∷ 99 ∷ 111 ∷ 117 ∷ 110 ∷ 116 ∷ 10 ∷ []) ++ rest

-- a text that begins with the row of a figure, of a count below 2^64
pub record RowFront (p : ℕ) (t : List ℕ) : Type 0 where
  pub count : ℕ
  pub rest : List ℕ
  pub small : count < 2 ^ 64
  pub same : t ≡ label p ++ (decimal count ++ (10 ∷ [])) ++ rest

-- a text that begins with the row of a session
pub record SessionFront (t : List ℕ) : Type 0 where
  pub digest : List ℕ
  pub rest : List ℕ
  pub whole : length digest ≡ 32
  pub bytes : Bytes digest
  pub same : t ≡ ((115 ∷ 101 ∷ 115 ∷ 115 ∷ 105 ∷ 111 ∷ 110 ∷ 44 ∷ []) ++ (each hex_byte digest ++ (44 ∷ 49 ∷ 10 ∷ []))) ++ rest

-- Which line is wrong: the first that is not written so. The head is line 1, row p line p + 2, and the first session line 41.
pub record LinesExactly : Type 0 where
  pub head : (t : List ℕ) → Exactly (begins written.head t ≡ true) (HeadFront t)
  pub row : (p : ℕ) (t : List ℕ) → p < 39 → Exactly (is_row p t ≡ true) (RowFront p t)
  pub session : (t : List ℕ) → Exactly (is_session t ≡ true) (SessionFront t)
  pub no_head : (t : List ℕ) → begins written.head t ≡ false → reading t ≡ wrong 1
  pub after_head : (t : List ℕ) → begins written.head t ≡ true → reading t ≡ figures_from 39 0 (replicate 39 0) (drop 19 t)
  pub no_row : (n p : ℕ) (figures t : List ℕ) → is_row p t ≡ false → figures_from (suc n) p figures t ≡ wrong (p + 2)
  pub after_row : (n p count : ℕ) (figures rest : List ℕ) → p < 39 → count < 2 ^ 64
      → figures_from (suc n) p figures (label p ++ (decimal count ++ (10 ∷ [])) ++ rest) ≡ figures_from n (suc p) (set figures (place p) count) rest
  pub after_rows : (p : ℕ) (figures t : List ℕ) → figures_from 0 p figures t ≡ sessions_from (length t) (p + 2) figures t
  pub no_session : (fuel n : ℕ) (figures t : List ℕ) → 1 ≤ length t → is_session t ≡ false → sessions_from (suc fuel) n figures t ≡ wrong n
  pub after_session : (fuel n m : ℕ) (figures t : List ℕ) → 1 ≤ length t → is_session t ≡ true
      → sessions_from fuel (suc n) figures (drop 75 t) ≡ wrong m → sessions_from (suc fuel) n figures t ≡ wrong m

pub record TableClaims : Type 0 where
  pub reads_back : ReadsBack
  pub no_other : NoOther
  pub exactly : TextExactly
  pub lines : LinesExactly
