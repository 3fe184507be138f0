-- `text::put_area` meets its contract.
use mathlib.Core.Path.{◌≡◌, refl}
use mathlib.Core.List.{List, ◌++◌}
use Prim.Native.Nat.{ℕ}
use native.Mathlib.Omega.{arith}
use Rattle.property_area.specs.Claims.Cursor.{remaining, start_of}
use Rattle.printing.specs.Put.{Fits}
use Rattle.printing.specs.Text.{state-, end-, ended}
use Rattle.printing.proofs.Puts.{fits-first, fits_then, put_then}
use Rattle.print_properties.specs.Text.{lines, phandle_line, text}
use Rattle.print_properties.proofs.Sizes.{area_text}
use Rattle.print_properties.proofs.text.put_area.Goals as goal

-- the text by its parts: what stands after the state, and all
abbrev rest : List ℕ → ℕ → List ℕ
rest input count = lines (remaining input (start_of input)) ++ ended end- count

abbrev parts : ℕ → ℕ → List ℕ → ℕ → List ℕ
parts phandle state input count = phandle_line phandle ++ (ended state- state ++ rest input count)

pub read_phandle-phandle-requires : goal.read_phandle-phandle-requires
read_phandle-phandle-requires c =
    omega (arith, (area_text _ _ _ _ c.requires.counted refl refl).0)

pub read_state-state-requires : goal.read_state-state-requires
read_state-state-requires c =
    omega (arith, (area_text _ _ _ _ c.requires.counted refl refl).0)

pub put_phandle-requires : goal.put_phandle-requires
put_phandle-requires c =
    let in_parts : text c.args.input.now ≡ parts c.read_phandle-phandle.result c.read_state-state.result c.args.input.now c.args.count =
    (area_text _ _ _ _ c.requires.counted c.read_phandle-phandle.ensures c.read_state-state.ensures).1 in
    let whole : Fits c.args.out.now (parts c.read_phandle-phandle.result c.read_state-state.result c.args.input.now c.args.count) =
    rw (in_parts) at c.requires.fits in
    fits-first _ (phandle_line _) _ (whole)

pub push_ended-requires : goal.push_ended-requires
push_ended-requires c =
    let in_parts : text c.args.input.now ≡ parts c.read_phandle-phandle.result c.from.result c.args.input.now c.args.count =
    rw c.from.ensures (area_text _ _ _ _ c.requires.counted c.read_phandle-phandle.ensures c.read_state-state.ensures).1 in
    let whole : Fits c.args.out.now (parts c.read_phandle-phandle.result c.from.result c.args.input.now c.args.count) =
    rw (in_parts) at c.requires.fits in
    fits-first _ (ended state- _) _
    (fits_then _ (whole) c.put_phandle.ensures)

pub put_lines-requires : goal.put_lines-requires
put_lines-requires c =
    let in_parts : text c.args.input.now ≡ parts c.read_phandle-phandle.result c.from.result c.args.input.now c.args.count =
    rw c.from.ensures (area_text _ _ _ _ c.requires.counted c.read_phandle-phandle.ensures c.read_state-state.ensures).1 in
    let whole : Fits c.args.out.now (parts c.read_phandle-phandle.result c.from.result c.args.input.now c.args.count) =
    rw (in_parts) at c.requires.fits in
    let after : Fits c.push_ended.new.self (rest c.args.input.now c.args.count) =
    fits_then _
    (fits_then _ (whole) c.put_phandle.ensures)
    c.push_ended.ensures in
    fits-first _ (lines _) _ (after)

pub push_ended-requires-2 : goal.push_ended-requires-2
push_ended-requires-2 c =
    let in_parts : text c.args.input.now ≡ parts c.read_phandle-phandle.result c.from.result c.args.input.now c.args.count =
    rw c.from.ensures (area_text _ _ _ _ c.requires.counted c.read_phandle-phandle.ensures c.read_state-state.ensures).1 in
    let whole : Fits c.args.out.now (parts c.read_phandle-phandle.result c.from.result c.args.input.now c.args.count) =
    rw (in_parts) at c.requires.fits in
    let after : Fits c.push_ended.new.self (rest c.args.input.now c.args.count) =
    fits_then _
    (fits_then _ (whole) c.put_phandle.ensures)
    c.push_ended.ensures in
    fits_then (ended end- _) (after) c.put_lines.ensures

pub returns : goal.returns
returns c =
    let in_parts : text c.args.input.now ≡ parts c.read_phandle-phandle.result c.from.result c.args.input.now c.args.count =
    rw c.from.ensures (area_text _ _ _ _ c.requires.counted c.read_phandle-phandle.ensures c.read_state-state.ensures).1 in
    let last = put_then c.put_lines.ensures c.push_ended-2.ensures in
    rw (in_parts) (put_then c.put_phandle.ensures (put_then c.push_ended.ensures last))
