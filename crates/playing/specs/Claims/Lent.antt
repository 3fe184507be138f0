-- What is claimed of the definitions of `Lent`.
use Rattle.std.specs.Prelude.{ℕ, ◌<◌, ◌≤◌, ◌≡◌, true, false, List, ◌⊎◌, length, take, drop}
use Rattle.std.proofs.lemmas.List.Edits.{sets}
use Rattle.words.specs.Numbers.{le}
use Rattle.trace.specs.declared.report.Report.TheVariants.{Differs}
use Rattle.trace.specs.Trace.{is_good}
use Rattle.trace.specs.Playing.{Platform, none, call, stopped, called, step}
use Rattle.playing.specs.Lent.{Lent, lent_step}

-- At a difference our buffer of that call stands at the front.
abbrev pub OursStands : Type 0
OursStands =
    (p : Platform) (x : Lent) (r before : List ℕ) (number offset : ℕ) → stopped x.state ≡ false → x.state.waiting ≡ call before
    → length before ≤ length x.args
    → (lent_step p x r).state.report ≡ Differs number offset → take (length before) (lent_step p x r).args ≡ (called p x.state before).args

-- What one record puts into the lent buffer, exactly when; before the limit, of a replay that goes on.
pub record LentExactly (p : Platform) (x : Lent) (r : List ℕ) : Type 0 where
  pub steps : (lent_step p x r).state ≡ step p x.state r
  pub waits : stopped x.state ≡ false → x.state.records < 4_294_967_295 → is_good r ≡ true → x.state.waiting ≡ none → le 2 r 2 ≡ 32
      → (lent_step p x r).args ≡ sets x.args 0 (drop 4 r)
  pub calls : (b : List ℕ) → stopped x.state ≡ false → x.state.records < 4_294_967_295 → is_good r ≡ true → x.state.waiting ≡ call b → le 2 r 2 ≡ 33
      → (lent_step p x r).args ≡ sets x.args 0 (called p x.state b).args
  -- any other record leaves it, and so does one that stops the replay or comes after a stop
  pub unasked : x.state.waiting ≡ none → (le 2 r 2 ≡ 32 → ⊥) → (lent_step p x r).args ≡ x.args
  pub unanswered : (b : List ℕ) → x.state.waiting ≡ call b → (le 2 r 2 ≡ 33 → ⊥) → (lent_step p x r).args ≡ x.args
  pub stays : (stopped x.state ≡ true) ⊎ ((4_294_967_295 ≤ x.state.records) ⊎ (is_good r ≡ false)) → (lent_step p x r).args ≡ x.args

abbrev pub EachLent : Type 0
EachLent = (p : Platform) (x : Lent) (r : List ℕ) → LentExactly p x r
