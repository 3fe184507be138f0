-- Records of nodes and of properties together: which of the two a good record is.
use mathlib.Core.Path.{◌≡◌, refl, sym, ◌∙◌}
use mathlib.Core.Bool.{Bool, true, false, ◌&&◌, ◌||◌, or-false, or-true}
use mathlib.Core.List.{List}
use Prim.Native.Nat.{ℕ, ◌≤◌}
use native.Mathlib.Omega.{arith}
use lib.ListN.{length, drop}
use borrow.Author.Tests.{le-leb}
use Rattle.words.proofs.Choice.{decide}
use Rattle.records.specs.Records.{kind_of, first_record, whole}
use Rattle.records.proofs.Steps.{record_kind}
use Rattle.journal.specs.Property.{good_property}
use Rattle.journal.specs.Journal.{good_node, good_record, entry_of}
use Rattle.journal.specs.Scope.{Selection}
use Rattle.journal.specs.Reportable.{reports}
use Rattle.journal.specs.Terms.{node_here}
use Rattle.journal.specs.Holding.{good_here, property_here}
use Rattle.journal.proofs.PropertyLaws.{property_frame_lem}
use Rattle.journal.proofs.RecordLaws.{good_kind}

module _ (j : List ℕ) (at : ℕ) where
  abbrev here : List ℕ
  here = first_record (drop at j)

  abbrev kind : ℕ
  kind = kind_of (drop at j)

  -- it is one of the two
  pub good_either : good_here j at ≡ (node_here j at || property_here j at)
  unfolding good_record
  good_either = go (whole here) (good_node here) (good_property here)
    where
      go : (w a b : Bool) → (w && (a || b)) ≡ ((w && a) || (w && b))
      go true a b = refl
      go false a b = refl

  pub node_good : node_here j at ≡ true → good_here j at ≡ true
  node_good e = good_either ∙ rw e

  pub property_good : property_here j at ≡ true → good_here j at ≡ true
  property_good e = good_either ∙ rw e (or-true (node_here j at))

  pub neither_good : node_here j at ≡ false → property_here j at ≡ false → good_here j at ≡ false
  neither_good p q = good_either ∙ rw (p, q)

  module _ (inside : at ≤ length j) (good : good_here j at ≡ true) where
    -- which, by its kind
    pub node_by : kind ≤ 4 → node_here j at ≡ true
    node_by h = decide (property_here j at)
        (λ e. absurd (omega (arith, (property_frame_lem j at inside e).low)))
        (λ e. sym (or-false (node_here j at)) ∙ (rw e at (sym good_either ∙ good)))

    pub property_by : 5 ≤ kind → property_here j at ≡ true
    property_by h = decide (node_here j at)
        (λ e. absurd (omega (arith, (good_kind j at e).high)))
        (λ e. rw e at (sym good_either ∙ good))

  -- a record of a property is never reported
  pub property_passed : at ≤ length j → property_here j at ≡ true → (sel : Selection) (code : ℕ) → reports sel code (entry_of here) ≡ false
  unfolding reports
  property_passed inside p sel code =
      let f = property_frame_lem j at inside p in
      rw (record_kind j at (omega (arith, f.large)), le-leb 5 kind f.low)
