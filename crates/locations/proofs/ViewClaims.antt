-- The claims about a view hold.
use Rattle.std.specs.Prelude.{Err, Ok, Result}
use mathlib.Core.Path.{◌≡◌, refl, sym, ◌∙◌}
use mathlib.Core.Bool.{false≢true}
use mathlib.Core.List.{List, [], ◌∷◌}
use Prim.Native.Nat.{ℕ, ◌+◌}
use lib.ListN.{length, drop_of_length-le}
use lib.Seq.{drop-append_seam}
use borrow.Author.Tests.{lt-ltb, le-ltb}
use Rattle.words.specs.Reading.{read, refused}
use Rattle.inventory.specs.Listing.{Entry}
use Rattle.indices.specs.declared.reading.Refusal.{Refusal}
use Rattle.indices.specs.Reading.{length_at, fault_at, entry_at, judged_by, read_from}
use Rattle.locations.specs.Views.{listing, cursor_behind}
use Rattle.locations.specs.Claims.Locations.{EachEntry, ThenTheLast, EachStep, EachViewStart, ViewClaims}
use Rattle.locations.proofs.Listings.{none_taken, set_taken}
use Rattle.locations.proofs.Stepping.{advance_short, advance_end, advance_set, steps_show, as_the_reader}

each_entry : EachEntry
each_entry area before after e h = rw (steps_show (length before) area, h, drop-append_seam before (e ∷ after))

then_the_last : ThenTheLast
then_the_last area n h = rw (steps_show n area, drop_of_length-le (listing area).entries {i = n} h)

-- one set, refused or read
one_judged : (area : List ℕ) (at : ℕ) → judged_by (fault_at area at) at (read (entry_at area at ∷ [])) ≡ read_from 1 area at
unfolding read_from
one_judged area at = refl

one_refused : (f : Result (Unit {0}) Refusal) (at : ℕ) (es : List Entry) (r : Refusal) (k : ℕ) → judged_by f at (read es) ≡ refused r k → (Err r ≡ f) × (k ≡ at)
one_refused (Ok u) at es r k h = absurd (false≢true (cc))
one_refused (Err b) at es r k h = (cc, cc)

one_read : (f : Result (Unit {0}) Refusal) (at : ℕ) (d e : Entry) → judged_by f at (read (d ∷ [])) ≡ read (e ∷ []) → (Ok tt ≡ f) × (e ≡ d)
one_read (Ok u) at d e h = (refl, cc)
one_read (Err b) at d e h = absurd (false≢true (cc))

each_step : EachStep
each_step area c =
    record {
      short = λ h. sym (advance_short area c h);
      ended = λ l h. sym (advance_end area c l h);
      refused = λ l h r k e. let b = one_refused (fault_at area c.at) c.at (entry_at area c.at ∷ []) r k (one_judged area c.at ∙ e) in rw b.1 (sym (advance_set area c l (Err r) h b.0));
      passed = λ l h e k. let b = one_read (fault_at area c.at) c.at (entry_at area c.at) e (one_judged area c.at ∙ k) in rw (b.1, ← set_taken area c.at [] (sym b.0), none_taken (c.at + (8 + length_at area c.at))) (sym (advance_set area c l (Ok tt) h b.0));
    }

each_view_start : EachViewStart
unfolding cursor_behind
each_view_start area = record { short = λ h. rw (lt-ltb (length area) 4 h); start = λ h. rw (le-ltb (length area) 4 h); first = refl; next = λ n. (refl, refl) }

pub view_claims : ViewClaims
view_claims = record { each_start = each_view_start; as_the_reader = as_the_reader; each_entry = each_entry; then_the_last = then_the_last; each_step = each_step }
