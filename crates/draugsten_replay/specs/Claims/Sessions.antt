-- What is claimed of the definitions of `Month`.
use Rattle.std.specs.Prelude.{ℕ, ◌≡◌, List, [], ◌∷◌}
use Rattle.trace.specs.declared.report.Report.{Report}
use Rattle.trace.specs.Playing.{Platform, replay_of}
use Rattle.counting.specs.Figures.{figures_of}
use Rattle.counting.specs.OfTrace.{counts_of}
use Rattle.totals.specs.declared.adding.Totals.{Totals}
use Rattle.draugsten_replay.specs.declared.month.FlatAdded.{FlatAdded}
use Rattle.draugsten_replay.specs.Feeding.{platform}
use Rattle.draugsten_replay.specs.Month.{added_by}

-- ---- the month, over sessions that were recorded

-- what a trace replays over, DECISIONS: "its own journal, inventory, edition and memory"; and the trace
pub record Session : Type 0 where
  pub journal : List ℕ
  pub inventory : List ℕ
  pub edition : ℕ
  pub memory : List ℕ
  pub trace : List ℕ

abbrev pub platform_of : Session → Platform
platform_of s = platform s.journal s.inventory s.edition

abbrev pub report_for : Session → Report
report_for s = (replay_of (platform_of s) s.memory s.trace).report

-- the counts of the calls that its replay makes
abbrev pub figures_for : Session → Totals
figures_for s = figures_of (counts_of (platform_of s) s.memory s.trace)

abbrev pub session_added : Totals → Session → FlatAdded
session_added t s = added_by t (report_for s) (figures_for s)

-- one after the other
unfoldable pub month_of : Totals → List Session → Totals
month_of t [] = t
month_of t (s ∷ ss) = month_of (session_added t s).totals ss

-- none of them is refused
abbrev pub NoneRefused : Totals → List Session → Type 0
NoneRefused t [] = Unit {0}
NoneRefused t (s ∷ ss) = ((session_added t s).number ≡ 0) × NoneRefused (session_added t s).totals ss
