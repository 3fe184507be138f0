-- What is counted of a call, by the tests that the code makes.
use mathlib.Core.Path.{◌≡◌, refl}
use mathlib.Core.Bool.{true, ◌&&◌}
use mathlib.Core.List.{List}
use Prim.Native.Nat.{ℕ, ◌≤◌, ◌<◌}
use lib.Dec.{leb, ltb}
use borrow.Author.Tests.{leb-true, le-leb, ltb-true, lt-ltb}
use Rattle.words.specs.Numbers.{be32}
use Rattle.words.proofs.Choice.{choose, and_left, and_right}
use Rattle.calls.specs.declared.status.Number.{Number}
use Rattle.calls.specs.Status.{is_given}
use Rattle.calls.specs.Lent.{part_at}
use Rattle.calls.specs.Buffer.{token, inputs, outputs, input, status_at, is_nodes}
use Rattle.calls.proofs.Heads.{asks_by}
use Rattle.counting.specs.declared.area.Tally.{Tally}
use Rattle.counting.specs.declared.counts.Counts.{Counts}
use Rattle.counting.specs.Area.{no_tally, tally_of}
use Rattle.counting.specs.Counts.{place_of, is_counted, row_of, counted_in, handed_out, counted}

module _ (args memory : List ℕ) where
  module _ (status : ℕ) where
    pub handed_not : (is_nodes args ≡ true → status ≤ 1 → ⊥) → no_tally ≡ handed_out status args memory
    unfolding handed_out
    handed_not h = choose (is_nodes args && leb status 1) (λ (t : Tally). no_tally ≡ t) (λ e. absurd (h (and_left _ _ e) (leb-true status 1 (and_right (is_nodes args) _ e)))) (λ _. refl)

    pub handed_is : token args ≡ 1 → inputs args ≡ 2 → outputs args ≡ 1 → status ≤ 1 → handed_out status args memory ≡ tally_of (input args 1) (part_at memory (input args 0) 4096)
    unfolding handed_out
    handed_is t i o l = rw (asks_by 1 2 1 args t i o, le-leb status 1 l)

  module _ (c : Counts) (number : Number) where
    abbrev status : ℕ
    status = be32 args (status_at args)

    pub counted_ways : (P : Counts → Type 0)
        → (is_given number ≡ true → 1 ≤ token args → token args ≤ 4 → place_of status < 7 → P (counted_in c (row_of (token args) status) (handed_out status args memory))) → P c
        → P (counted c number args memory)
    unfolding counted is_counted
    counted_ways P h q = choose (is_given number && (leb 1 (token args) && (leb (token args) 4 && ltb (place_of status) 7))) P
        (λ e.
        let f = and_right (is_given number) _ e in
        let g = and_right (leb 1 (token args)) _ f in
        h (and_left _ _ e) (leb-true 1 (token args) (and_left _ _ f)) (leb-true (token args) 4 (and_left _ _ g)) (ltb-true (place_of status) 7 (and_right (leb (token args) 4) _ g)))
        (λ _. q)

    pub counted_not : (is_given number ≡ true → 1 ≤ token args → token args ≤ 4 → place_of status < 7 → ⊥) → c ≡ counted c number args memory
    counted_not h = counted_ways (λ (d : Counts). c ≡ d) (λ g l m p. absurd (h g l m p)) refl

    pub counted_is : is_given number ≡ true → 1 ≤ token args → token args ≤ 4 → place_of status < 7 → counted c number args memory ≡ counted_in c (row_of (token args) status) (handed_out status args memory)
    unfolding counted is_counted
    counted_is e l m p = rw (e, le-leb 1 (token args) l, le-leb (token args) 4 m, lt-ltb (place_of status) 7 p)
