-- Running a registered dump (document 02, M-104).
use Rattle.std.specs.Prelude.{ℕ, zero, suc, ◌+◌, Bool, false, cond, not, ◌&&◌, ◌||◌, List, leb, eqb, length, take, drop, Ok, Err, is_ok}
use Rattle.std.proofs.lemmas.List.Edits.{sets}
use Rattle.words.specs.Numbers.{be_bytes}
use Rattle.dump.specs.declared.registration.Registration.{Registration}
use Rattle.dump.specs.declared.registration.Phase.TheVariants.{Active}
use Rattle.dump.specs.declared.registration.Configured.{Configured}
use Rattle.dump.specs.declared.registration.Refusal.TheVariants.{Parameter, DumpActive}
use Rattle.dump.specs.Structure.{section_size, sections, first_section, request_flags, section_type, section_source, section_requested, section_destination}
use Rattle.dump.specs.Structure.{good_structure}
use Rattle.dump.specs.Registration.{Verdict, copy_size, is_registered, is_active}
use Rattle.dumping.specs.declared.section.Section.{Section}
use Rattle.dumping.specs.Section.{error_flags, actual_length}

-- ---- one section

abbrev pub section_at : List ℕ → ℕ → Section
section_at s at =
    record {
      request = request_flags s at;
      kind = section_type s at;
      start = section_source s at;
      requested = section_requested s at;
      destination = section_destination s at;
    }

-- 02: "types 1 and 2 read platform memory at a byte offset, the others partition memory at an address"
unfoldable pub source_of : List ℕ → List ℕ → Section → List ℕ
source_of platform memory x = cond (eqb x.kind 1 || eqb x.kind 2) platform memory

-- "With request flag 1 the bytes go to the destination", "Sections without flag 1 count zero bytes and get no error flag."
abbrev pub is_asked : Section → Bool
is_asked x = eqb x.request 1

unfoldable pub errors_of : List ℕ → List ℕ → Section → ℕ
errors_of platform memory x = cond (is_asked x) (error_flags (length (source_of platform memory x)) (length memory) x) 0

unfoldable pub actual_of : List ℕ → List ℕ → Section → ℕ
actual_of platform memory x = cond (is_asked x) (actual_length (length (source_of platform memory x)) (length memory) x) 0

-- "an overlapping destination gets what the source held before that section began"
unfoldable pub memory_after : List ℕ → List ℕ → Section → List ℕ
memory_after platform memory x = sets memory x.destination (take (actual_of platform memory x) (drop x.start (source_of platform memory x)))

-- ---- "process the sections in order"

-- partition memory, the copy of the structure, and whether a section had an error so far
pub record Running : Type 0 where
  pub memory : List ℕ
  pub copy : List ℕ
  pub failed : Bool

-- the section at an offset of the copy: its bytes go to memory, its error flags and its actual length into the copy
unfoldable pub section_run : List ℕ → ℕ → Running → Running
section_run platform at r =
    let x = section_at r.copy at in
    let errors = errors_of platform r.memory x in
    record {
      memory = memory_after platform r.memory x;
      copy = sets (sets r.copy (at + 6) (be_bytes 2 errors)) (at + 24) (be_bytes 8 (actual_of platform r.memory x));
      failed = r.failed || not (eqb errors 0);
    }

-- so many sections from an offset on
unfoldable pub sections_run : List ℕ → ℕ → ℕ → Running → Running
sections_run platform zero at r = r
sections_run platform (suc n) at r = sections_run platform n (at + section_size) (section_run platform at r)

-- "0x8000 and, on any section error, 0x2000 of the status flags are filled in the copy"
unfoldable pub structure_run : List ℕ → List ℕ → List ℕ → Running
structure_run platform memory copy =
    let r = sections_run platform (sections copy) (first_section copy) (record { memory = memory; copy = copy; failed = false }) in
    record { memory = r.memory; copy = sets r.copy 6 (be_bytes 2 (32_768 + cond r.failed 8192 0)); failed = r.failed }

-- ---- a registration

-- the copy is a good structure, by document 01's rules
unfoldable pub good_copy : List ℕ → ℕ → Bool
good_copy copy len = leb len copy_size && good_structure (take len copy)

-- "Refusals: -10 when active, -3 when nothing is registered or the copy isn't a good structure."
unfoldable pub run_verdict : Registration → Verdict
run_verdict r = cond (is_active r.phase) (Err DumpActive) (cond (is_registered r.phase && good_copy r.copy r.len) (Ok tt) (Err Parameter))

-- All that a run leaves: partition memory, the next registration, and what came of it. Platform memory is only read.
pub record Run : Type 0 where
  pub memory : List ℕ
  pub next : Registration
  pub verdict : Verdict

abbrev pub leaves_run : List ℕ → Configured → Run
leaves_run memory x = record { memory = memory; next = x.next; verdict = x.verdict }

-- "and the registration becomes active. Nothing else changes"
unfoldable pub run_of : List ℕ → List ℕ → Registration → Run
run_of platform memory r =
    let ran = structure_run platform memory r.copy in
    let v = run_verdict r in
    cond (is_ok v)
    (record { memory = ran.memory; next = record { phase = Active; len = r.len; copy = ran.copy }; verdict = v })
    (record { memory = memory; next = r; verdict = v })
