-- Demand 2 of update-properties: the exact condition of each status, and what an answer leaves.
use mathlib.Core.Path.{◌≡◌, ap, ◌∙◌}
use mathlib.Core.Bool.{Bool, true, false, ◌&&◌, not}
use mathlib.Core.List.{List}
use Prim.Native.Nat.{ℕ, ◌≤◌}
use lib.Dec.{eqb}
use lib.ListN.{length}
use Rattle.words.specs.Claims.Exactly.{Exactly}
use Rattle.words.specs.Numbers.{Bytes, be32}
use Rattle.words.proofs.Numbers.{be_below}
use Rattle.words.proofs.Choice.{and_left, and_right}
use Rattle.journal.specs.Journal.{well_formed}
use Rattle.journal.specs.Scope.{valid}
use Rattle.journal.proofs.Walks.{all_good_lem}
use Rattle.property_area.specs.Head.{state_in, is_reserved}
use Rattle.properties.specs.Changes.{Change, is_due}
use Rattle.properties.specs.Filling.{Filled}
use Rattle.properties.specs.Answer.{changes_for, carries, handed}
use Rattle.properties.proofs.Sessions.{session_of}
use Rattle.properties.proofs.Steps.{placed_all}
use Rattle.calls.specs.Status.{status_word}
use Rattle.calls.specs.UpdateNodes.{area_at, placed}
use Rattle.calls.specs.UpdateProperties.{properties_status, properties_memory}
use Rattle.calls.specs.Claims.Terms.{minus}
use Rattle.calls.specs.Claims.ExactNodes.{Asked}
use Rattle.calls.specs.Claims.ExactProperties as exact
use Rattle.calls.specs.Claims.ExactProperties.{ExactProperties}
use Rattle.calls.proofs.Exactly.{equal, at_most, both, fails, same}
use Rattle.calls.proofs.Ladder.{is_malformed, ladder_malformed, ladder_otherwise}
use Rattle.calls.proofs.Areas.{well_placed}
use Rattle.calls.proofs.Calls.{word_either}
use Rattle.calls.proofs.Memory.{part_length, part_bytes, part_stored}
use Rattle.calls.proofs.ExactNodes.{asked_exact}
use Rattle.calls.proofs.PropertiesCalls.{Passed, passed_is, status_ladder, properties_status_lem, properties_answers, properties_memory_lem}
use Rattle.calls.proofs.PropertyAnswers as left

-- what the area carries, in the paper's terms: the states of the session that starts at 0
carries_exact : (area j : List ℕ) → well_formed j ≡ true → Exactly (carries area j ≡ true) (exact.Passed j area (changes_for area j))
unfolding carries is_reserved
carries_exact area j formed = (
  (λ h. record { formed = formed; clear = and_left _ _ h; known = left.some area j formed h; carried = left.state_carried area j formed h }),
  (λ p.
      let session = session_of 0 (length j) (changes_for area j) (placed_all (be32 area 0) j (all_good_lem j formed)) p.known in
      rw (p.clear, p.known) ((session.carried (state_in area)).1 p.carried)),
)

module _ (m j : List ℕ) (address scope : ℕ) where
  abbrev area : List ℕ
  area = area_at m address

  abbrev cs : List Change
  cs = changes_for area j

  abbrev filled : Filled
  filled = handed area j

  abbrev more : Bool
  more = is_due filled.due

  abbrev status : ℕ
  status = status_word (properties_status m address scope j)

  abbrev after : List ℕ
  after = properties_memory m address scope j

  passed : status ≤ 1 → Passed m address scope j
  passed h = passed_is m address scope j ((at_most status 1).1 h)

  answered : Exactly (status ≤ 1) (Asked m address scope × exact.Passed j area cs)
  answered = (
    (λ h. let p = passed h in
        ((asked_exact m address scope).0 (rw (well_placed m address p.aligned p.inside) p.scoped), (carries_exact area j p.formed).0 p.known)),
    (λ h. (at_most status 1).0 (properties_answers m address scope j (record {
      aligned = h.0.aligned;
      inside = h.0.inside;
      scoped = and_right (placed m address) _ ((asked_exact m address scope).1 h.0);
      formed = h.1.formed;
      known = (carries_exact area j h.1.formed).1 h.1;
    }))),
  )

  malformed : Exactly (status ≡ minus 1) (Asked m address scope × (well_formed j ≡ false))
  malformed =
      let test = ap is_malformed (status_ladder m address scope j) ∙ ladder_malformed (placed m address) (valid scope) (well_formed j) (carries area j) true more in
      same (eqb status 0xffff_ffff) ((placed m address && valid scope) && not (well_formed j)) test (equal status 0xffff_ffff)
      (both (placed m address && valid scope) (not (well_formed j)) (asked_exact m address scope) (fails (well_formed j)))

  otherwise : (status ≤ 1 → ⊥) → (status ≡ minus 1 → ⊥) → status ≡ minus 3
  otherwise = rw (status_ladder m address scope j) (ladder_otherwise (placed m address) (valid scope) (well_formed j) (carries area j) true more)

  module _ (h : status ≤ 1) where
    p : Passed m address scope j
    p = passed h

    size : length area ≡ 4096
    size = part_length m address 4096 p.inside

    -- the area afterwards
    left_is : area_at after address ≡ left.left area j
    left_is =
        ap (λ (l : List ℕ). area_at l address) (properties_memory_lem m address scope j p)
        ∙ part_stored m address 4096 p.inside (left.left area j) (left.left_length area j size)

    answers : Bytes m → exact.Answer area (area_at after address) filled status
    unfolding is_reserved
    answers memory =
        let bytes = part_bytes m address 4096 p.inside memory in
        rw left_is
        (record {
          remaining = ap status_word (properties_status_lem m address scope j p) ∙ word_either more;
          phandle = left.left_phandle area j (be_below area bytes 4 0);
          new_state = left.left_state area j (left.next_small area j p.formed p.known);
          clear = left.left_reserved area j;
          number = left.left_number area j;
          unchanged = left.left_behind area j;
          reads_back = left.left_reads area j p.formed p.known size;
        })

  pub exact_properties : ExactProperties m j address scope status after
  unfolding handed
  exact_properties =
      record {
        answered = answered;
        malformed = malformed;
        otherwise = otherwise;
        answers = λ memory _ h. answers h memory;
        memory = λ h. properties_memory_lem m address scope j (passed h);
      }
