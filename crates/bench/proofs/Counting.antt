-- What the judgement of a journal tells of its reportable list, and that of an inventory of its entries, as a number.
use mathlib.Core.Path.{◌≡◌, ap, ◌∙◌}
use mathlib.Core.Bool.{false, cond}
use mathlib.Core.List.{List, ◌++◌}
use Prim.Native.Nat.{ℕ, ◌+◌, ◌≤◌}
use native.Mathlib.Omega.{arith}
use lib.ListN.{length, length-append}
use Rattle.journal.specs.Scope.{Selection}
use Rattle.std.specs.Prelude.{Option, Some, None}
use Rattle.journal.specs.declared.counts.Counts.{Counts}
use Rattle.journal.specs.Journal.{entries, well_formed}
use Rattle.journal.specs.Reportable.{chosen, reportable, judgement_of}
use Rattle.inventory.specs.declared.scanning.Counted as scanned
use Rattle.inventory.specs.Inventory as inventory
use Rattle.inventory.specs.Inner.Scanning.{ScanFinds}
use Rattle.bench.specs.Inner.Bench.{listed_of}
use Rattle.words.proofs.Choice.{choose, decide}
use Rattle.journal.proofs.Entries.{operations_few}
use Rattle.journal.proofs.Walks.{within_limit}

-- ---- the judgement as a number

-- what the code makes of a judgement
abbrev pub total : Option Counts → ℕ
total None = 0xffff_ffff_ffff_ffff
total (Some c) = c.deletes + c.updates + c.additions

-- counts whose sum is far below the highest number
abbrev pub Light : Option Counts → Type 0
Light None = Unit {0}
Light (Some c) = c.deletes + c.updates + c.additions ≤ 3_145_728

module _ (sel : Selection) (j : List ℕ) where
  pub total-is : total (judgement_of sel j) ≡ cond (well_formed j) (length (reportable sel j)) 0xffff_ffff_ffff_ffff
  unfolding judgement_of reportable
  total-is = decide (well_formed j)
      (λ t. rw t (omega (arith, length-append (chosen sel 1 (entries j)) (chosen sel 2 (entries j) ++ chosen sel 3 (entries j)), length-append (chosen sel 2 (entries j)) (chosen sel 3 (entries j)))))
      (λ t. rw t)

  pub light : Light (judgement_of sel j)
  unfolding judgement_of
  light = choose (well_formed j) Light (λ t. omega (arith, within_limit j t, operations_few sel j 1, operations_few sel j 2, operations_few sel j 3)) (λ _. tt)

  -- what is known of a judgement that is the scan's
  module _ (g : Option Counts) (is : g ≡ judgement_of sel j) where
    pub total_of : total g ≡ cond (well_formed j) (length (reportable sel j)) 0xffff_ffff_ffff_ffff
    total_of = ap total is ∙ total-is

    pub light_of : Light g
    light_of = rw is light

-- ---- the judgement of an inventory as a number

module _ (flag type number : ℕ) (i : List ℕ) (g : Option scanned.Counted) (told : ScanFinds flag type number i g) where
  pub none_listed : g ≡ None → 0xffff_ffff_ffff_ffff ≡ listed_of flag type i
  unfolding listed_of
  none_listed e = let t : inventory.well_formed i ≡ false = rw e at told in rw t

  pub some_listed : (c : scanned.Counted) → g ≡ Some c → c.count ≡ listed_of flag type i
  unfolding listed_of
  some_listed c e = let t : ScanFinds flag type number i (Some c) = rw e at told in rw t.0 t.1
