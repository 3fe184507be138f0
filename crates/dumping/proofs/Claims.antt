-- What is claimed of a section holds.
use Prim.Native.Nat.{ℕ, ◌+◌, ◌≤◌}
use mathlib.Core.Path.{◌≡◌, refl, sym, ap, ◌∙◌}
use mathlib.Core.Bool.{Bool}
use mathlib.Core.Logic.{⊎_elim}
use native.Mathlib.Omega.{arith}
use lib.Dec.{leb, ltb}
use borrow.Author.Tests.{leb-true, ltb-true, ltb-false, le-leb, lt-ltb}
use Rattle.dumping.specs.declared.section.Section.{Section}
use Rattle.dumping.specs.Section.{has, room, error_flags, actual_length}
use Rattle.dumping.specs.Claims.Dumping.{FlagsExactly, OutsideCopiesNothing, CopiedInside, AllCopied, SectionClaims}
use Rattle.dumping.proofs.Flags.{four, one_if_lem, is_one, Bits, bits, none_set}

module _ (source memory : ℕ) (s : Section) where
  abbrev start : Bool
  start = leb source s.start

  abbrev long : Bool
  long = ltb source (s.start + s.requested)

  abbrev destination : Bool
  destination = leb memory s.destination

  abbrev short : Bool
  short = ltb (room memory s) (has source s)

  flags_are : error_flags source memory s ≡ four start long destination short
  unfolding error_flags four
  flags_are = refl

  told : Bits (error_flags source memory s) start long destination short
  told = rw flags_are (bits start long destination short)

  exactly : FlagsExactly (error_flags source memory s) source memory s
  exactly = record {
    start = (λ e. leb-true source s.start (is_one start (sym told.first ∙ e)), λ h. told.first ∙ ap one_if_lem (le-leb source s.start h));
    length = (λ e. ltb-true source (s.start + s.requested) (is_one long (sym told.second ∙ e)), λ h. told.second ∙ ap one_if_lem (lt-ltb source (s.start + s.requested) h));
    destination = (λ e. leb-true memory s.destination (is_one destination (sym told.third ∙ e)), λ h. told.third ∙ ap one_if_lem (le-leb memory s.destination h));
    small = (λ e. ltb-true (room memory s) (has source s) (is_one short (sym told.fourth ∙ e)), λ h. told.fourth ∙ ap one_if_lem (lt-ltb (room memory s) (has source s) h));
    no_other = told.rest;
  }

outside : OutsideCopiesNothing
unfolding actual_length
outside source memory s o = ⊎_elim (λ (h : source ≤ s.start). omega (arith, h)) (λ (h : memory ≤ s.destination). omega (arith, h)) o

inside : CopiedInside
unfolding actual_length
inside source memory s h = omega (arith, h)

all_copied : AllCopied
unfolding actual_length
all_copied source memory s e =
    let none = none_set (start source memory s) (long source memory s) (destination source memory s) (short source memory s) (sym (flags_are source memory s) ∙ e) in
    let fits = ltb-false source (s.start + s.requested) none.0 in
    let wide = ltb-false (room memory s) (has source s) none.1 in
    omega (arith, fits, wide)

pub section_claims : SectionClaims
section_claims = record { each_flag = exactly; outside_copies_nothing = outside; copied_inside = inside; all_copied = all_copied }
