-- What a call's own work leaves, way by way through the code, and what comes of it once the status is stored.
use mathlib.Core.Path.{◌≡◌, ap, ◌∙◌}
use mathlib.Core.Bool.{true, false}
use mathlib.Core.List.{List, ◌∷◌, ◌++◌}
use Prim.Native.Nat.{ℕ, ◌+◌, ◌-◌}
use native.Mathlib.Omega.{arith}
use lib.ListN.{length, take, drop}
use lib.Seq.{sets}
use Rattle.words.specs.Numbers.{be_bytes, word_bytes}
use Rattle.words.proofs.Numbers.{length_be_bytes}
use Rattle.words.proofs.Stores.{sets_swap, sets_behind}
use Rattle.dump.specs.declared.registration.Registration.{Registration}
use Rattle.dump.specs.Registration.{registration_after}
use Rattle.calls.specs.declared.reading_record.ReadingRecord.{ReadingRecord}
use Rattle.calls.specs.declared.status.Number.{Number}
use Rattle.calls.specs.declared.status.Number.TheVariants.{Given}
use Rattle.calls.specs.declared.status.Status.{Status}
use Rattle.calls.specs.declared.status.Status.TheVariants.{Parameter}
use Rattle.calls.specs.Status.{is_given, status_word}
use Rattle.journal.specs.Scope.{valid}
use Rattle.properties.specs.Answer.{outcome_of, area_after}
use Rattle.calls.specs.UpdateNodes.{with_area, placed, nodes_status, nodes_memory}
use Rattle.calls.specs.UpdateProperties.{status_for, properties_status, properties_memory}
use Rattle.calls.specs.ConfigureDump.{dump_status}
use Rattle.calls.specs.Buffer.{input, is_nodes, is_indices, is_dump, is_properties, status_at, number_for, Found, nodes_outcome, indices_outcome, dump_outcome, properties_outcome, outcome, leaves, call_of}
use Rattle.calls.proofs.Areas.{placed_inside}
use Rattle.calls.proofs.Memory.{part_lent, part_back}
use Rattle.calls.proofs.Heads.{asked, carried_out, nodes_outcome_lem, indices_outcome_lem, dump_outcome_lem, properties_outcome_lem}
use Rattle.rtas.specs.Inner.Working.{Indexes, Worked}

-- the area of an update-properties call with what the call makes of it, put back into memory
pub left_properties : (m : List ℕ) (address scope : ℕ) (j : List ℕ) → placed m address ≡ true → valid scope ≡ true → (s : Status) (v : List ℕ) → length v ≡ 4096
    → s ≡ status_for (outcome_of (take (address + 4096 - address) (drop address m)) j) → v ≡ area_after (take (address + 4096 - address) (drop address m)) j
    → (s ≡ properties_status m address scope j) × (take address m ++ (v ++ drop (address + 4096 - address) (drop address m)) ≡ properties_memory m address scope j)
unfolding properties_status properties_memory
left_properties m address scope j p e s v n f g =
    let inside = placed_inside m address p in
    let back = part_back m address 4096 inside v n in
    rw (p, e, back, ← part_lent m address 4096 inside) (f, ap (with_area m address) g)

module _ (c : Found) where
  abbrev b : List ℕ
  b = c.args

  pub worked_nodes : (s : Status) (memory : List ℕ) → is_nodes b ≡ true → s ≡ nodes_status c.memory (input b 0) (input b 1) c.journal → memory ≡ nodes_memory c.memory (input b 0) (input b 1) c.journal
      → Worked c s c.registration c.reading b memory
  unfolding nodes_outcome word_bytes
  worked_nodes s memory e f g = let o = nodes_outcome_lem c e in record { status_is = rw o f; registration_is = rw o; reading_is = rw o; args_are = rw o; memory_is = rw o g }

  pub worked_indices : (s : Status) (reading : ReadingRecord) (args memory : List ℕ) → is_indices b ≡ true → Indexes c.memory c.inventory c.edition c.reading b s reading args memory
      → Worked c s c.registration reading args memory
  unfolding indices_outcome
  worked_indices s reading args memory e told =
      let o = indices_outcome_lem c e in
      let place : status_at b + 4 ≡ 36 = omega (arith, asked 2 5 2 b e) in
      record { status_is = rw o told.status_is; registration_is = rw o; reading_is = rw o told.reading_is; args_are = rw (o, place) told.args_are; memory_is = rw o told.memory_is }

  pub worked_dump : (s : Status) (next : Registration) → is_dump b ≡ true → s ≡ dump_status c.memory (input b 0) (input b 1) (input b 2) c.registration
      → next ≡ registration_after c.memory (input b 0) (input b 1) (input b 2) c.registration → Worked c s next c.reading b c.memory
  unfolding dump_outcome word_bytes
  worked_dump s next e f g = let o = dump_outcome_lem c e in record { status_is = rw o f; registration_is = rw o g; reading_is = rw o; args_are = rw o; memory_is = rw o }

  pub worked_properties : (s : Status) (memory : List ℕ) → is_properties b ≡ true → s ≡ properties_status c.memory (input b 0) (input b 1) c.journal
      → memory ≡ properties_memory c.memory (input b 0) (input b 1) c.journal → Worked c s c.registration c.reading b memory
  unfolding properties_outcome word_bytes
  worked_properties s memory e f g = let o = properties_outcome_lem c e in record { status_is = rw o f; registration_is = rw o; reading_is = rw o; args_are = rw o; memory_is = rw o g }

  pub worked_none : is_nodes b ≡ false → is_indices b ≡ false → is_dump b ≡ false → is_properties b ≡ false → Worked c Parameter c.registration c.reading b c.memory
  unfolding outcome word_bytes
  worked_none e f g h = record { status_is = rw (e, f, g, h); registration_is = rw (e, f, g, h); reading_is = rw (e, f, g, h); args_are = rw (e, f, g, h); memory_is = rw (e, f, g, h) }

  -- the status word is stored before the outputs behind it, which stand already
  stored_all : (s : Status) (next : Registration) (reading : ReadingRecord) (l memory : List ℕ) → Worked c s next reading l memory → sets l (status_at b) (be_bytes 4 (status_word s)) ≡ sets b (status_at b) (word_bytes (status_word (outcome c).status ∷ (outcome c).more))
  unfolding word_bytes
  stored_all s next reading l memory w =
      let v = be_bytes 4 (status_word (outcome c).status) in
      let ws = word_bytes (outcome c).more in
      let size = length_be_bytes 4 (status_word (outcome c).status) in
      rw (w.args_are, w.status_is) (sets_swap v ws b (status_at b) (status_at b + 4) (omega arith) ∙ sets_behind b (status_at b) (status_at b + 4) v ws (omega arith))

  -- what a call leaves whose work is done and whose status is stored
  pub call_leaves : (n : Number) (s : Status) (next : Registration) (reading : ReadingRecord) (l args memory : List ℕ) (at word : ℕ) → is_given (number_for b) ≡ true → n ≡ Given → Worked c s next reading l memory
      → at ≡ status_at b → word ≡ status_word s → args ≡ sets l at (be_bytes 4 word) → leaves n args memory next reading ≡ call_of c
  call_leaves n s next reading l args memory at word g e w p t a =
      rw (carried_out c g, e, a, t, p, stored_all s next reading l memory w, w.memory_is, w.registration_is, w.reading_is)
