-- Stretches of good records that held bytes begin: none, gone on with, begun by a held record, and taken.
use mathlib.Core.Path.{◌≡◌, refl, sym, ap, ap₂, ◌∙◌}
use mathlib.Core.Bool.{true, false}
use mathlib.Core.List.{List, [], ◌++◌, append_assoc}
use Prim.Native.Nat.{ℕ, ◌+◌, ◌-◌, ◌<◌, ◌≤◌, min}
use native.Mathlib.Omega.{arith}
use lib.Dec.{leb}
use lib.ListN.{length, take, length-append, length-take}
use lib.Seq.{sets, length-sets, length-take-le, take_at, take-add, take-take, take-append-add}
use borrow.Author.Tests.{leb-true}
use Rattle.std.specs.Prelude.{Option, Some, None, is_some}
use Rattle.words.proofs.Choice.{and_left, and_right}
use Rattle.words.proofs.Stores.{sets_behind}
use Rattle.records.specs.Records.{size_of, length_of, kind_of, first_record, records, whole, all_good, size_limit}
use Rattle.records.specs.Cutting.{due}
use Rattle.records.proofs.Steps.{formed, record_length, record_kind}
use Rattle.records.proofs.Whole.{records_none}
use Rattle.records.proofs.Joining.{records_join, good_join, one_record_lem, one_good}
use Rattle.records.proofs.Behind.{filled_front, front_due}
use Rattle.records.proofs.Holding.{under}
use Rattle.journal.specs.declared.judging.Shape.{Shape}
use Rattle.journal.specs.Journal.{largest_type, good_record, well_formed}
use Rattle.journal.specs.Terms.{IsKind, node_here, shape_at, verdict_at}
use Rattle.journal.proofs.RecordLaws.{given_good}
use Rattle.journal.proofs.Sizes.{sized_here}
use Rattle.stretch.specs.declared.packed.Packed.{Packed}
use Rattle.stretch.specs.declared.steps.Stretch.{Stretch}
use Rattle.stretch.specs.Packed.{weights_for}
use Rattle.stretch.specs.Inner.Stretches.{between, nothing, Goes, Light}
use Rattle.stretch.specs.Inner.Terms.{Adds}
use Rattle.stretch.proofs.Adding.{node_adds, adds_few, packed_join, packed_none}
use Rattle.stretch.proofs.Going.{shape_known}
use Rattle.tallies.specs.declared.tallies.Tallies.{Tallies}
use Rattle.tallies.specs.declared.keeping.Tallied.{Tallied}
use Rattle.tallies.specs.declared.keeping.Refusal.{Refusal}
use Rattle.tallies.specs.Tallies.{recount_of, tally_sum}
use Rattle.tallies.specs.Keeping.{fits}
use Rattle.tallies.specs.Inner.Weighing.{tallies_from, extended_by, Extends}
use Rattle.tallies.proofs.Recounts.{packed_recount}
use Rattle.intake.specs.declared.taking.Place.{Place}
use Rattle.intake.specs.Taking.{good_front, taking_of, capped}
use Rattle.intake.specs.Bursts.{completed}
use Rattle.intake.specs.Inner.Terms.{finished, Holds, Covers, Onward, Begins, Takeable, TakesStretch}
use Rattle.intake.proofs.Fronts.{due_size, good_front_lem}
use Rattle.intake.proofs.Completing.{completed_near, finished_near}
use Rattle.intake.proofs.Runs.{Roomy, run_good}

-- ---- none, and gone on with

pub covers_none : (bytes : List ℕ) → Covers [] bytes nothing
unfolding all_good
covers_none bytes = record { inside = omega arith; good = rw records_none; number = rw records_none; counts = sym packed_none }

pub onward_none : Onward nothing
onward_none = record { number = omega arith; few = omega arith }

module _ (h bytes : List ℕ) (cut : ℕ) (s to : Stretch) (g : Goes (take cut bytes) s to) where
  abbrev more : List ℕ
  more = between (take cut bytes) s.end to.end

  cut_inside : (to.end ≤ cut) × (to.end ≤ length bytes)
  cut_inside = (omega (arith, g.inside, length-take cut bytes), omega (arith, g.inside, length-take cut bytes))

  further : h ++ take to.end bytes ≡ (h ++ take s.end bytes) ++ more
  further =
      let sum : to.end ≡ s.end + (to.end - s.end) = omega (arith, g.onward) in
      let front : take s.end (take cut bytes) ≡ take s.end bytes = take-take s.end cut bytes (omega (arith, g.onward, cut_inside)) in
      let parts : take to.end bytes ≡ take s.end bytes ++ more =
      sym (take-take to.end cut bytes cut_inside.0) ∙ ap (λ (n : ℕ). take n (take cut bytes)) sum ∙ take-add s.end (to.end - s.end) (take cut bytes)
      ∙ ap (λ (l : List ℕ). l ++ more) front in
      ap (λ (l : List ℕ). h ++ l) parts ∙ sym (append_assoc h (take s.end bytes) more)

  pub covers_on : Covers h bytes s → length h + s.end ≤ size_limit → Covers h bytes to
  unfolding well_formed
  covers_on c small =
      let p = h ++ take s.end bytes in
      let rs = ap records further ∙ records_join good_record p more c.good in
      let short : length p ≤ size_limit = omega (arith, length-append h (take s.end bytes), length-take-le s.end bytes c.inside) in
      record {
        inside = cut_inside.1;
        good = rw (rs, good_join good_record (records p) (records more), c.good, g.good);
        number = rw (rs, length-append (records p) (records more)) (omega (arith, g.number, c.number));
        counts = g.counts ∙ rw (further, c.counts, packed_join p more (formed size_limit good_record p short c.good));
      }

-- ---- begun by a held record

-- none, with the held bytes as they were
pub begins_none : {store : List ℕ} {held : ℕ} {bytes after : List ℕ} → length after ≡ length store → take held after ≡ take held store
    → finished after held bytes ≡ completed store held bytes → (s : Stretch) → s ≡ nothing → Begins store held bytes after s
begins_none size front put s e = rw e (record {
  size = size;
  front = front;
  whole = put;
  ended = λ l. absurd (omega arith);
  none = λ _. refl;
  empty = λ _. refl;
  onward = onward_none;
  covers = λ l. absurd (omega arith);
})

-- bytes of the burst stand behind the held ones, enough to judge a record of a node
pub record Stored (store : List ℕ) (held : ℕ) (bytes after : List ℕ) : Type 0 where
  pub holds : Holds store held
  pub some : held ≡ 0 → ⊥
  pub low : held < 18
  pub long : 18 ≤ length bytes
  pub is : after ≡ sets store held (take 18 bytes)

module _ {store : List ℕ} {held : ℕ} {bytes after : List ℕ} (k : Stored store held bytes after) where
  abbrev joined : List ℕ
  joined = take held store ++ take 18 bytes

  held_long : length (take held store) ≡ held
  held_long = length-take-le held store k.holds.inside

  store_size : length after ≡ length store
  store_size = ap (λ (l : List ℕ). length l) k.is ∙ length-sets store held (take 18 bytes)

  pub judged_inside : held + 18 ≤ length after
  judged_inside = omega (arith, k.low, k.holds.room, store_size)

  judged_bytes : take (held + 18) after ≡ joined
  judged_bytes = filled_front store held bytes 0 18 after (omega (arith, k.low, k.holds.room)) (omega (arith, k.long)) k.is

  held_front : take held after ≡ take held store
  held_front = sym (take-take held (held + 18) after (omega arith)) ∙ ap (take held) judged_bytes ∙ take_at (take held store) (take 18 bytes) held held_long

  put : finished after held bytes ≡ completed store held bytes
  put = finished_near store held bytes k.some k.low k.long after k.is held_front

  pub begins_not : (s : Stretch) → s ≡ nothing → Begins store held bytes after s
  begins_not = begins_none store_size held_front put

  -- what was judged there as good
  module _ (s : Shape) (v : Option Shape) (e : v ≡ Some s) (g : v ≡ verdict_at 4 (take (held + 18) after) 0) where
    judged : (node_here joined 0 ≡ true) × (s ≡ shape_at joined 0)
    judged = rw judged_bytes at (given_good (take (held + 18) after) 0 4 v s e g)

    pub begun_known : IsKind s.kind × (s.node ≤ largest_type)
    begun_known = shape_known joined 0 s judged

    adds : Adds joined 0 s.size (weights_for s.kind s.node)
    adds = node_adds joined 0 s judged

    front_is_good : good_front (length_of joined) (kind_of joined) ≡ true
    front_is_good = rw (record_length joined 0, record_kind joined 0 (omega (arith, sized_here joined 0 adds.good))) at (good_front_lem (first_record joined) (and_right (whole (first_record joined)) _ adds.good))

    -- the record ends behind the held bytes, in the burst
    pub begun_size : (held < s.size) × (s.size ≤ held + 18)
    begun_size =
        let due = due_size joined front_is_good in
        (omega (arith, under good_front (take held store) (take 18 bytes) k.holds.raw, due, adds.size_is, held_long), omega (arith, sized_here joined 0 adds.good, adds.size_is, length-append (take held store) (take 18 bytes), held_long, length-take-le 18 bytes k.long))

    begun_missing : due good_front (take held store ++ bytes) - held ≤ 18
    begun_missing =
        let four : 4 ≤ length joined = omega (arith, length-append (take held store) (take 18 bytes), length-take-le 18 bytes k.long) in
        omega (arith, front_due good_front (take held store) bytes 18 four, due_size joined front_is_good, adds.size_is, begun_size)

    begun : first_record joined ≡ take held store ++ take (s.size - held) bytes
    begun =
        let n : size_of joined ≡ length (take held store) + (s.size - held) = omega (arith, adds.size_is, begun_size, held_long) in
        ap (λ (i : ℕ). take i joined) n ∙ take-append-add (take held store) (take 18 bytes) (s.size - held) ∙ ap (λ (l : List ℕ). take held store ++ l) (take-take (s.size - held) 18 bytes (omega (arith, begun_size)))

    pub begins : (w : Packed) → w ≡ weights_for s.kind s.node → Begins store held bytes after (record { end = s.size - held; records = 1; counts = w })
    begins w q =
        let r = first_record joined in
        rw q (record {
          size = store_size;
          front = held_front;
          whole = put;
          ended = λ _. completed_near store held bytes k.some k.low k.long after k.is begun_missing;
          none = λ z. absurd (omega (arith, begun_size));
          empty = λ z. absurd (k.some z);
          onward = record { number = omega (arith, begun_size); few = adds_few joined 0 s.size (weights_for s.kind s.node) adds };
          covers = λ _. record {
            inside = omega (arith, begun_size, k.long);
            good = rw (← begun) (one_good r good_record adds.good);
            number = rw (← begun, one_record_lem r (and_left (whole r) _ adds.good));
            counts = rw (← begun) adds.weight_is;
          };
        })

-- ---- taken

told_done : (o : Option Refusal) → is_some o ≡ false → o ≡ None
told_done None e = refl
told_done (Some r) e = cc

module _ {buffer held : List ℕ} {from : Place} {bytes : List ℕ} {s : Stretch} (t : Takeable buffer held from bytes s) where
  abbrev used : ℕ
  used = from.journal.used

  used_inside : used ≤ length buffer
  unfolding fits
  used_inside = leb-true _ _ (and_left _ _ t.fit)

  -- room in the buffer, and for the counts
  pub room_behind_lem : used + (length held + s.end) ≤ length buffer
  room_behind_lem = omega (arith, used_inside, t.room)

  pub counts_extend : length buffer ≤ 0x7fff_ffff_ffff_ffff → Extends from.journal (length held + s.end)
  unfolding fits
  counts_extend l = record { within = and_right (leb used (length buffer)) _ t.fit; narrow = omega (arith, room_behind_lem) }

  -- as far as there is room
  module _ (room cut : ℕ) (d : room ≡ min (length buffer) size_limit - used) (e : cut ≡ min (length bytes) (room - length held)) where
    pub cut_light : Light (take cut bytes) s
    cut_light = record { small = omega (arith, length-take cut bytes); inside = omega (arith, length-take cut bytes, t.covers.inside, t.room); number = t.onward.number; few = t.onward.few }

    pub takeable_on : (to : Stretch) → Goes (take cut bytes) s to → Light (take cut bytes) to → Takeable buffer held from bytes to
    takeable_on to g l = record {
      going = t.going;
      fit = t.fit;
      covers = covers_on held bytes cut s to g t.covers (omega (arith, t.room));
      onward = record { number = l.number; few = l.few };
      room = omega (arith, t.room, l.inside, length-take cut bytes);
    }

  abbrev part : List ℕ
  part = held ++ take s.end bytes

  abbrev grown : ℕ → Tallies → Tallied
  grown n u = record { used = used + n; tallies = tally_sum from.journal.tallies u }

  part_long : length part ≡ length held + s.end
  part_long = length-append held (take s.end bytes) ∙ ap (λ (n : ℕ). length held + n) (length-take-le s.end bytes t.covers.inside)

  module _ (narrow : from.number ≤ 0xffff_ffff_ffff_ffff) where
    roomy : Roomy (taking_of buffer from) part
    roomy = record { going = told_done from.fault t.going; narrow = narrow; fit = t.fit; lent = omega (arith, room_behind_lem, part_long); limited = λ h. omega (arith, t.room, part_long) }

    pub stretch_taken : (one after : List ℕ) → one ≡ sets buffer used held → after ≡ sets one (used + length held) (take s.end bytes)
        → (j : Tallied) → j ≡ extended_by from.journal (length held + s.end) s.counts → (n : ℕ) → n ≡ capped (from.number + s.records)
        → TakesStretch buffer held from bytes after (record { place = record { journal = j; number = n; fault = from.fault }; at = s.end })
    stretch_taken one after e f j g n k = record {
      place = t.covers.inside;
      good = t.covers.good;
      same =
          let bytes_are : after ≡ sets buffer used part = f ∙ rw e (sets_behind buffer used (used + length held) held (take s.end bytes) refl) in
          let counted = ap tallies_from t.covers.counts ∙ packed_recount part (omega (arith, t.room, part_long)) in
          let journal_is : j ≡ grown (length part) (recount_of part) = g ∙ ap₂ grown (sym part_long) counted in
          rw (bytes_are, journal_is, k, t.covers.number) (sym (run_good (taking_of buffer from) part t.covers.good roomy));
    }
