-- Journals joined end to end: entries, lists and counts of the one, then those of the other.
use mathlib.Core.Path.{◌≡◌, ap, ◌∙◌}
use mathlib.Core.Bool.{true, ◌&&◌}
use mathlib.Core.List.{List, [], ◌∷◌, ◌++◌, map, map-append}
use Prim.Native.Nat.{ℕ, ◌+◌, ◌≤◌}
use native.Mathlib.Omega.{arith}
use lib.ListN.{length, length-append}
use Rattle.words.proofs.Choice.{and_left, and_right}
use Rattle.records.specs.Records.{records, whole, size_limit}
use Rattle.records.proofs.Steps.{none_good, formed}
use Rattle.records.proofs.Whole.{whole_size}
use Rattle.records.proofs.Choosing.{chosen_join}
use Rattle.records.proofs.Joining.{records_join, formed_join, one_good, one_whole}
use Rattle.journal.specs.Journal.{good_record, well_formed, entry_of, entries}
use Rattle.journal.specs.Scope.{Selection}
use Rattle.journal.specs.Reportable.{operation, reports, chosen, counts_of}
use Rattle.journal.proofs.Sizes.{bounds}
use Rattle.journal.proofs.Walks.{all_good_lem}

module _ (a b : List ℕ) (formed-first : well_formed a ≡ true) where
  pub entries_join : entries (a ++ b) ≡ entries a ++ entries b
  unfolding entries
  entries_join = ap (map entry_of) (records_join good_record a b (all_good_lem a formed-first)) ∙ map-append entry_of (records a) (records b)

  pub well_formed_join : well_formed b ≡ true → length a + length b ≤ size_limit → well_formed (a ++ b) ≡ true
  unfolding well_formed
  well_formed_join second h = formed_join good_record size_limit a b formed-first second h

  module _ (sel : Selection) where
    -- the operations of an opcode, and how many there are
    pub list_join : (code : ℕ) → chosen sel code (entries (a ++ b)) ≡ chosen sel code (entries a) ++ chosen sel code (entries b)
    list_join code = ap (chosen sel code) entries_join ∙ chosen_join (reports sel code) operation (entries a) (entries b)

    pub count_join : (code : ℕ) → length (chosen sel code (entries (a ++ b))) ≡ length (chosen sel code (entries a)) + length (chosen sel code (entries b))
    count_join code = ap length (list_join code) ∙ length-append (chosen sel code (entries a)) (chosen sel code (entries b))

    pub counts_join : counts_of sel (a ++ b) ≡ record {
      deletes = (counts_of sel a).deletes + (counts_of sel b).deletes;
      updates = (counts_of sel a).updates + (counts_of sel b).updates;
      additions = (counts_of sel a).additions + (counts_of sel b).additions;
    }
    counts_join = rw (count_join 1, count_join 2, count_join 3)

-- ---- an empty journal, and a journal of one record

pub none_formed : well_formed [] ≡ true
unfolding well_formed
none_formed = formed size_limit good_record [] (omega arith) (none_good good_record [] 0 (omega arith))

module _ (r : List ℕ) where
  -- a good record is no longer than a journal may be
  pub one_formed : (whole r && good_record r) ≡ true → well_formed r ≡ true
  unfolding well_formed
  one_formed g = formed size_limit good_record r (omega (arith, whole_size r (and_left (whole r) _ g), bounds r (and_right (whole r) _ g))) (one_good r good_record g)

  pub only_record : records r ≡ r ∷ [] → well_formed r ≡ true → (whole r && good_record r) ≡ true
  only_record e w = one_whole r good_record e (all_good_lem r w)
