-- A term of contracts below the exports; no promise of theirs cites it.
use Rattle.std.specs.Prelude.{◌≤◌}
use Rattle.replay_states.specs.declared.state.FlatReport.{FlatReport}

-- the number of a call fits its 32 bits
abbrev pub Narrow : FlatReport → Type 0
Narrow f = f.verdict ≤ 1 → f.number ≤ 4_294_967_295
