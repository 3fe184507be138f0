-- What a call counts (document 02, M-111: "for each token 1 to 4, calls with argument answer 0 and each status's count; for node updates also operations handed
-- out, words used (operators and operands)").
use Rattle.std.specs.Prelude.{ℕ, ◌+◌, ◌-◌, ◌*◌, Bool, cond, ◌&&◌, List, leb, ltb, eqb, get_or, set, replicate}
use Rattle.words.specs.Numbers.{be32}
use Rattle.calls.specs.declared.status.Number.{Number}
use Rattle.calls.specs.Status.{is_given}
use Rattle.calls.specs.Lent.{part_at}
use Rattle.calls.specs.Buffer.{token, input, status_at, is_nodes}
use Rattle.counting.specs.declared.counts.Counts.{Counts}
use Rattle.counting.specs.declared.area.Tally.{Tally}
use Rattle.counting.specs.Area.{no_tally, tally_of}

abbrev pub no_counts : Counts
no_counts = record { rows = replicate 28 0; operations = 0; used = 0 }

-- "each status's count": 0, 1, -1, -3, -4, -9, -10, in this order
unfoldable pub place_of : ℕ → ℕ
place_of status =
    cond (leb status 1) status
    (cond (eqb status 0xffff_ffff) 2
    (cond (eqb status 0xffff_fffd) 3
    (cond (eqb status 0xffff_fffc) 4
    (cond (eqb status 0xffff_fff7) 5
    (cond (eqb status 0xffff_fff6) 6
    7)))))

-- "for each token 1 to 4": seven places each. Other tokens appear nowhere, nor does a status that no call gives.
unfoldable pub is_counted : ℕ → ℕ → Bool
is_counted t status = leb 1 t && (leb t 4 && ltb (place_of status) 7)

abbrev pub row_of : ℕ → ℕ → ℕ
row_of t status = 7 * (t - 1) + place_of status

abbrev pub one_more : List ℕ → ℕ → List ℕ
one_more rows i = set rows i (get_or rows i 0 + 1)

-- one call more in a row, with what it handed out
abbrev pub counted_in : Counts → ℕ → Tally → Counts
counted_in c row more = record { rows = one_more c.rows row; operations = c.operations + more.operations; used = c.used + more.words }

-- "for node updates also operations handed out, words used", of an answered call, whose inputs are address and scope
unfoldable pub handed_out : ℕ → List ℕ → List ℕ → Tally
handed_out status args memory = cond (is_nodes args && leb status 1) (tally_of (input args 1) (part_at memory (input args 0) 4096)) no_tally

-- "calls with argument answer 0": a call by its number, and by the argument buffer and memory that it left.
-- DECISIONS: "Other tokens and answers 10 to 12 appear nowhere."
unfoldable pub counted : Counts → Number → List ℕ → List ℕ → Counts
counted c number args memory =
    let t = token args in
    let status = be32 args (status_at args) in
    cond (is_given number && is_counted t status) (counted_in c (row_of t status) (handed_out status args memory)) c
