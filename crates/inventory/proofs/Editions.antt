-- Laws of an edition.
use native.Mathlib.Omega.{arith}
use borrow.Author.Tests.{eq-eqb, ne_eqb}
use Rattle.inventory.specs.Edition.{edit_of}
use Rattle.inventory.specs.Claims.Edition.{EditionRises}

pub edition_rises : EditionRises
unfolding edit_of
edition_rises = record { rises = λ e h. rw (ne_eqb e.0 0xffff_ffff (λ f. omega arith)); top = λ e h. rw (eq-eqb e.0 0xffff_ffff h) }
