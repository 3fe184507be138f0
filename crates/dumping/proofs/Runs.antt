-- Laws of running a dump.
use mathlib.Core.Path.{◌≡◌, refl, sym, ap, ◌∙◌}
use mathlib.Core.Bool.{Bool, true, false, cond, ◌||◌}
use mathlib.Core.List.{List}
use Prim.Native.Nat.{ℕ, zero, suc, ◌+◌, ◌-◌, ◌*◌, ◌≤◌, ◌<◌}
use native.Mathlib.Numerals.{sub-one}
use native.Mathlib.Omega.{arith}
use lib.Dec.{leb}
use lib.ListN.{length, take, drop, length-take}
use lib.Seq.{sets, length-sets}
use Rattle.words.specs.Numbers.{be_bytes}
use Rattle.words.proofs.Choice.{and_left, and_right}
use Rattle.words.proofs.Numbers.{be_take}
use Rattle.dump.specs.declared.registration.Phase.TheVariants.{Unregistered, Registered, Active}
use Rattle.dump.specs.declared.registration.Registration.{Registration}
use Rattle.dump.specs.declared.registration.Configured.{Configured}
use Rattle.dump.specs.declared.registration.Refusal.{Refusal}
use Rattle.dump.specs.declared.registration.Refusal.TheVariants.{Parameter, DumpActive}
use Rattle.std.specs.Prelude.{Ok, Err, is_ok}
use Rattle.dump.specs.Structure.{header_size, section_size, sections, first_section, good_header, good_structure}
use Rattle.dump.specs.Registration.{copy_size}
use Rattle.dump.proofs.StructureLaws.{header_bounds}
use Rattle.dumping.specs.declared.section.Section.{Section}
use Rattle.dumping.specs.Section.{error_flags, actual_length}
use Rattle.dumping.specs.Running.{source_of, is_asked, errors_of, actual_of, memory_after, Running, section_run, sections_run, structure_run, good_copy, run_verdict, leaves_run, run_of}

-- ---- one section

-- what came of a section: its error flags, its actual length, and memory
pub record Came (platform memory : List ℕ) (x : Section) (errors actual : ℕ) (after : List ℕ) : Type 0 where
  pub flags : errors ≡ errors_of platform memory x
  pub bytes : actual ≡ actual_of platform memory x
  pub left : after ≡ memory_after platform memory x

module _ (platform memory : List ℕ) (x : Section) where
  pub not_asked : is_asked x ≡ false → Came platform memory x 0 0 memory
  unfolding errors_of actual_of memory_after
  not_asked e = record { flags = rw e; bytes = rw e; left = rw e }

  pub asked : (source : List ℕ) (errors actual : ℕ) (after : List ℕ) → is_asked x ≡ true → source_of platform memory x ≡ source → errors ≡ error_flags (length source) (length memory) x
      → actual ≡ actual_length (length source) (length memory) x → after ≡ sets memory x.destination (take actual (drop x.start source)) → Came platform memory x errors actual after
  unfolding errors_of actual_of memory_after
  asked source errors actual after e s f a m = record { flags = rw (e, s) f; bytes = rw (e, s) a; left = rw (e, s, ← a) m }

-- ---- sections one after the other

pub run_none : (platform : List ℕ) (n at : ℕ) (r : Running) → n ≤ 0 → sections_run platform n at r ≡ r
unfolding sections_run
run_none platform zero at r h = refl
run_none platform (suc n) at r h = absurd (omega arith)

pub run_step : (platform : List ℕ) (n at : ℕ) (r : Running) → 0 < n → sections_run platform n at r ≡ sections_run platform (n - 1) (at + section_size) (section_run platform at r)
unfolding sections_run
run_step platform zero at r h = absurd (omega arith)
run_step platform (suc n) at r h = rw (sub-one (suc n))

-- an error before a section is not forgotten
pub failed_before : (platform memory copy m d : List ℕ) (at : ℕ) (before error : Bool)
    → record { memory = m; copy = d; failed = error } ≡ section_run platform at (record { memory = memory; copy = copy; failed = false })
    → section_run platform at (record { memory = memory; copy = copy; failed = before }) ≡ record { memory = m; copy = d; failed = before || error }
unfolding section_run
failed_before platform memory copy m d at before error e =
    let a : m ≡ (section_run platform at (record { memory = memory; copy = copy; failed = false })).memory = ap (λ (r : Running). r.memory) e in
    let b : d ≡ (section_run platform at (record { memory = memory; copy = copy; failed = false })).copy = ap (λ (r : Running). r.copy) e in
    let f : error ≡ (section_run platform at (record { memory = memory; copy = copy; failed = false })).failed = ap (λ (r : Running). r.failed) e in
    rw (a, b, f)

-- a section keeps the sizes of memory and of the copy
pub section_sizes : (platform : List ℕ) (at : ℕ) (r : Running) → (length (section_run platform at r).memory ≡ length r.memory) × (length (section_run platform at r).copy ≡ length r.copy)
unfolding section_run memory_after
section_sizes platform at r = (simp length-sets, simp length-sets)

-- ---- the loop: what is left to run, applied to what stands now, is the whole run

abbrev standing : List ℕ → List ℕ → Bool → Running
standing memory copy failed = record { memory = memory; copy = copy; failed = failed }

abbrev whole_run : List ℕ → List ℕ → List ℕ → Running
whole_run platform memory copy = sections_run platform (sections copy) (first_section copy) (standing memory copy false)

pub record Going (platform memory₀ copy₀ memory copy : List ℕ) (at left : ℕ) (failed : Bool) : Type 0 where
  pub room : at + section_size * left ≤ length copy
  pub long : length memory ≡ length memory₀
  pub wide : length copy ≡ length copy₀
  pub rest : sections_run platform left at (standing memory copy failed) ≡ whole_run platform memory₀ copy₀

pub going_start : (platform memory copy : List ℕ) (at left : ℕ) → at ≡ first_section copy → left ≡ sections copy → first_section copy + section_size * sections copy ≤ length copy
    → Going platform memory copy memory copy at left false
going_start platform memory copy at left a n h = record { room = rw (a, n) h; long = refl; wide = refl; rest = rw (a, n) }

module _ {platform memory₀ copy₀ memory copy : List ℕ} {at left : ℕ} {failed : Bool} (t : Going platform memory₀ copy₀ memory copy at left failed) where
  pub going_next : (m d : List ℕ) (error : Bool) (next rest : ℕ) → 0 < left → next ≡ at + section_size → rest ≡ left - 1
      → standing m d error ≡ section_run platform at (standing memory copy false) → Going platform memory₀ copy₀ m d next rest (failed || error)
  going_next m d error next rest more f g e =
      let sizes = section_sizes platform at (standing memory copy false) in
      let a : length m ≡ length memory = ap (λ (r : Running). length r.memory) e ∙ sizes.0 in
      let b : length d ≡ length copy = ap (λ (r : Running). length r.copy) e ∙ sizes.1 in
      record {
        room = omega (arith, t.room, b, f, g);
        long = a ∙ t.long;
        wide = b ∙ t.wide;
        rest = rw (f, g) (ap (sections_run platform (left - 1) (at + section_size)) (sym (failed_before platform memory copy m d at failed error e)) ∙ sym (run_step platform left at (standing memory copy failed) more) ∙ t.rest);
      }

  pub going_end : (flags : ℕ) (after : List ℕ) → left ≤ 0 → flags ≡ 32_768 + cond failed 8192 0 → after ≡ sets copy 6 (be_bytes 2 flags)
      → (memory ≡ (structure_run platform memory₀ copy₀).memory) × (after ≡ (structure_run platform memory₀ copy₀).copy)
  unfolding structure_run
  going_end flags after none f e =
      let now = sym t.rest ∙ run_none platform left at (standing memory copy failed) none in
      (rw now, rw (e, f, now))

-- ---- a registration

-- the sections of a good copy stand behind its header and within it
pub good_bounds : (copy : List ℕ) (len : ℕ) → good_copy copy len ≡ true → (header_size ≤ first_section copy) × (first_section copy + section_size * sections copy ≤ length copy)
unfolding good_copy good_structure
good_bounds copy len good =
    let s = take len copy in
    let b = header_bounds s (and_left (good_header s) _ (and_right (leb len copy_size) _ good)) in
    let n = length-take len copy in
    let long : 40 ≤ len = omega (arith, b, n) in
    let first : first_section s ≡ first_section copy = be_take 4 len copy 8 (omega arith) in
    let count : sections s ≡ sections copy = be_take 2 len copy 4 (omega arith) in
    (rw first at b.0, omega (arith, rw (first, count) at b.1, n))

-- so the header stands within it too
pub good_room : (copy : List ℕ) (len : ℕ) → good_copy copy len ≡ true → (header_size ≤ length copy) × (first_section copy + section_size * sections copy ≤ length copy)
good_room copy len good =
    let b = good_bounds copy len good in
    (omega arith, b.1)

module _ (platform memory : List ℕ) (r : Registration) where
  pub run_kept : is_ok (run_verdict r) ≡ false → run_of platform memory r ≡ record { memory = memory; next = r; verdict = run_verdict r }
  unfolding run_of
  run_kept e = rw e

  pub run_refused : (x : Configured) (e : Refusal) → run_verdict r ≡ Err e → x ≡ record { next = r; verdict = Err e } → leaves_run memory x ≡ run_of platform memory r
  unfolding run_of
  run_refused x e v k = rw (k, v)

  pub run_done : run_verdict r ≡ Ok tt → run_of platform memory r ≡ record {
    memory = (structure_run platform memory r.copy).memory;
    next = record { phase = Active; len = r.len; copy = (structure_run platform memory r.copy).copy };
    verdict = Ok tt;
  }
  unfolding run_of
  run_done e = rw e

module _ (r : Registration) where
  pub verdict_active : r.phase ≡ Active → run_verdict r ≡ Err DumpActive
  unfolding run_verdict
  verdict_active p = rw p

  pub verdict_none : r.phase ≡ Unregistered → run_verdict r ≡ Err Parameter
  unfolding run_verdict
  verdict_none p = rw p

  pub verdict_good : r.phase ≡ Registered → good_copy r.copy r.len ≡ true → run_verdict r ≡ Ok tt
  unfolding run_verdict
  verdict_good p g = rw (p, g)

  pub verdict_bad : r.phase ≡ Registered → good_copy r.copy r.len ≡ false → run_verdict r ≡ Err Parameter
  unfolding run_verdict
  verdict_bad p g = rw (p, g)
