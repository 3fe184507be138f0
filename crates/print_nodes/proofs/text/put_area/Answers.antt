-- `text::put_area` meets its contract.
use mathlib.Core.Path.{refl}
use mathlib.Core.List.{List, ◌++◌}
use Prim.Native.Nat.{ℕ}
use native.Mathlib.Omega.{arith}
use Rattle.node_area.specs.Claims.Cursor.{remaining, start_of}
use Rattle.printing.specs.Put.{Fits}
use Rattle.printing.specs.Text.{state-, end-, ended}
use Rattle.print_nodes.specs.Text.{unit_line, lines}
use Rattle.printing.proofs.Puts.{fits-first, fits_then, put_then}
use Rattle.print_nodes.proofs.Sizes.{area_text}
use Rattle.print_nodes.proofs.text.put_area.Goals as goal

-- what is still to come after the state: the unit, the lines and the end
abbrev rest : ℕ → List ℕ → ℕ → List ℕ
rest scope input count = unit_line scope input ++ (lines (remaining input start_of) ++ ended end- count)

pub read-state-requires : goal.read-state-requires
read-state-requires c =
    omega (arith, (area_text _ _ _ _ c.requires.counted refl).0)

pub push_ended-requires : goal.push_ended-requires
push_ended-requires c =
    let whole : Fits c.args.out.now (ended state- c.from.result ++ rest c.args.scope c.args.input.now c.args.count) =
    rw c.from.ensures (rw (area_text c.args.scope c.args.input.now _ _ c.requires.counted c.read-state.ensures).1 at c.requires.fits) in
    fits-first _ (ended state- _) _ (whole)

pub put_unit-requires : goal.put_unit-requires
put_unit-requires c =
    let whole : Fits c.args.out.now (ended state- c.from.result ++ rest c.args.scope c.args.input.now c.args.count) =
    rw c.from.ensures (rw (area_text c.args.scope c.args.input.now _ _ c.requires.counted c.read-state.ensures).1 at c.requires.fits) in
    let after_state : Fits c.push_ended.new.self (rest c.args.scope c.args.input.now c.args.count) =
    fits_then _ (whole) c.push_ended.ensures in
    let input = c.args.input.now in
    let more = lines (remaining input start_of) ++ ended end- c.args.count in
    record { in_bounds = omega (arith, (area_text _ _ _ _ c.requires.counted refl).0); fits = fits-first _ (unit_line c.args.scope input) more (after_state) }

pub put_lines-requires : goal.put_lines-requires
put_lines-requires c =
    let whole : Fits c.args.out.now (ended state- c.from.result ++ rest c.args.scope c.args.input.now c.args.count) =
    rw c.from.ensures (rw (area_text c.args.scope c.args.input.now _ _ c.requires.counted c.read-state.ensures).1 at c.requires.fits) in
    let after_state : Fits c.push_ended.new.self (rest c.args.scope c.args.input.now c.args.count) =
    fits_then _ (whole) c.push_ended.ensures in
    let after_unit : Fits c.put_unit.new.out (lines (remaining c.args.input.now start_of) ++ ended end- c.args.count) =
    fits_then _ (after_state) c.put_unit.ensures in
    fits-first _ (lines _) _ (after_unit)

pub push_ended-requires-2 : goal.push_ended-requires-2
push_ended-requires-2 c =
    let whole : Fits c.args.out.now (ended state- c.from.result ++ rest c.args.scope c.args.input.now c.args.count) =
    rw c.from.ensures (rw (area_text c.args.scope c.args.input.now _ _ c.requires.counted c.read-state.ensures).1 at c.requires.fits) in
    let after_state : Fits c.push_ended.new.self (rest c.args.scope c.args.input.now c.args.count) =
    fits_then _ (whole) c.push_ended.ensures in
    let after_unit : Fits c.put_unit.new.out (lines (remaining c.args.input.now start_of) ++ ended end- c.args.count) =
    fits_then _ (after_state) c.put_unit.ensures in
    fits_then (ended end- _) (after_unit)
    c.put_lines.ensures

pub returns : goal.returns
returns c =
    let last = put_then c.put_lines.ensures c.push_ended-2.ensures in
    rw ((area_text _ _ _ _ c.requires.counted c.read-state.ensures).1, ← c.from.ensures)
    (put_then c.push_ended.ensures (put_then c.put_unit.ensures last))
