-- The table of readings of node areas, by computing each.
use mathlib.Core.Path.{refl}
use Rattle.words.specs.Numbers.{be, be_bytes, word_bytes, words, zeros}
use Rattle.node_area.specs.Head.{is_reserved}
use Rattle.node_area.specs.Reading.{fault_of, last_after, verdict, operations_at, reading}
use Rattle.node_area.specs.Cases.Reading.{ReadingCases}

pub reading_cases_lem : ReadingCases
unfolding be be_bytes word_bytes words zeros is_reserved fault_of last_after verdict operations_at reading
reading_cases_lem = refl
