-- The argument buffer, and a call through it (document 01, "The argument buffer").
use Rattle.std.specs.Prelude.{ℕ, ◌+◌, ◌*◌, Bool, cond, ◌&&◌, ◌||◌, List, [], ◌∷◌, leb, ltb, eqb, length}
use Rattle.std.proofs.lemmas.List.Edits.{sets}
use Rattle.words.specs.Numbers.{be32, word_bytes}
use Rattle.inventory.specs.declared.edition.Edition.{Edition}
use Rattle.dump.specs.declared.registration.Registration.{Registration}
use Rattle.calls.specs.declared.status.Number.{Number}
use Rattle.calls.specs.declared.status.Number.TheVariants.{Given, Short, NoOutputs, TooMany}
use Rattle.calls.specs.declared.status.Status.{Status}
use Rattle.calls.specs.declared.status.Status.TheVariants.{Parameter}
use Rattle.calls.specs.declared.request.Request.{Request}
use Rattle.calls.specs.declared.reading_record.ReadingRecord.{ReadingRecord}
use Rattle.calls.specs.Status.{is_given, is_answer, status_word}
use Rattle.calls.specs.UpdateNodes.{nodes_status, nodes_memory}
use Rattle.dump.specs.Registration.{registration_after}
use Rattle.calls.specs.ConfigureDump.{dump_status}
use Rattle.calls.specs.UpdateProperties.{properties_status, properties_memory}
use Rattle.calls.specs.ReadingRecord.{record_after}
use Rattle.calls.specs.GetIndices.{indices_status, indices_memory, next_number}

-- 01: "Token, number of inputs, number of outputs, the inputs, the outputs; the first output is the status."
abbrev pub token : List ℕ → ℕ
token b = be32 b 0

abbrev pub inputs : List ℕ → ℕ
inputs b = be32 b 4

abbrev pub outputs : List ℕ → ℕ
outputs b = be32 b 8

abbrev pub input : List ℕ → ℕ → ℕ
input b n = be32 b (12 + 4 * n)

abbrev pub status_at : List ℕ → ℕ
status_at b = 12 + 4 * inputs b

-- 01: "The 12-byte test comes first, then 12, then the declared size, then 11."
unfoldable pub number_for : List ℕ → Number
number_for b =
    cond (ltb (length b) 12) Short
    (cond (ltb 16 (inputs b) || ltb 16 (outputs b)) TooMany
    (cond (ltb (length b) (12 + 4 * (inputs b + outputs b))) Short
    (cond (eqb (outputs b) 0) NoOutputs
    Given)))

-- All that a call finds.
pub record Found : Type 0 where
  pub args : List ℕ
  pub memory : List ℕ
  pub journal : List ℕ
  pub inventory : List ℕ
  pub edition : Edition
  pub registration : Registration
  pub reading : ReadingRecord

abbrev pub found : List ℕ → List ℕ → List ℕ → List ℕ → Edition → Registration → ReadingRecord → Found
found args memory journal inventory edition registration reading =
    record { args = args; memory = memory; journal = journal; inventory = inventory; edition = edition; registration = registration; reading = reading }

-- What a call's own work gives: its status, the output words after the status, memory, the registration and the reading record afterwards.
pub record Outcome : Type 0 where
  pub status : Status
  pub more : List ℕ
  pub memory : List ℕ
  pub registration : Registration
  pub reading : ReadingRecord

-- a buffer with a call's token and counts
unfoldable pub asks : ℕ → ℕ → ℕ → List ℕ → Bool
asks t i o b = eqb (token b) t && (eqb (inputs b) i && eqb (outputs b) o)

abbrev pub is_nodes : List ℕ → Bool
is_nodes b = asks 1 2 1 b

abbrev pub is_indices : List ℕ → Bool
is_indices b = asks 2 5 2 b

abbrev pub is_dump : List ℕ → Bool
is_dump b = asks 3 3 1 b

abbrev pub is_properties : List ℕ → Bool
is_properties b = asks 4 2 1 b

-- 01, update-nodes: "Inputs: address, scope. One output."
unfoldable pub nodes_outcome : Found → Outcome
nodes_outcome f =
    let address = input f.args 0 in
    let scope = input f.args 1 in
    record {
      status = nodes_status f.memory address scope f.journal;
      more = [];
      memory = nodes_memory f.memory address scope f.journal;
      registration = f.registration;
      reading = f.reading;
    }

-- 01, get-indices: "Inputs: indicator (0) or sensor (1), type, address, size, Starting Number. Outputs: status, Next Starting Number."
abbrev pub request_of : List ℕ → Request
request_of b = record { flag = input b 0; item_type = input b 1; address = input b 2; size = input b 3; number = record { 0 = input b 4 } }

unfoldable pub indices_outcome : Found → Outcome
indices_outcome f =
    let q = request_of f.args in
    let s = indices_status f.memory f.inventory f.edition f.reading q in
    record {
      status = s;
      more = cond (is_answer s) (next_number f.inventory q ∷ []) [];
      memory = indices_memory f.memory f.inventory f.edition f.reading q;
      registration = f.registration;
      reading = record_after s q (next_number f.inventory q) f.edition f.reading;
    }

-- 01, configure-kernel-dump: "Inputs: command, address, length."
unfoldable pub dump_outcome : Found → Outcome
dump_outcome f =
    let command = input f.args 0 in
    let address = input f.args 1 in
    let len = input f.args 2 in
    record {
      status = dump_status f.memory command address len f.registration;
      more = [];
      memory = f.memory;
      registration = registration_after f.memory command address len f.registration;
      reading = f.reading;
    }

-- 02, M-103, update-properties: inputs address and scope, one output
unfoldable pub properties_outcome : Found → Outcome
properties_outcome f =
    let address = input f.args 0 in
    let scope = input f.args 1 in
    record {
      status = properties_status f.memory address scope f.journal;
      more = [];
      memory = properties_memory f.memory address scope f.journal;
      registration = f.registration;
      reading = f.reading;
    }

-- a call that is refused for its token, counts or parameters
abbrev pub refusal : Found → Outcome
refusal f = record { status = Parameter; more = []; memory = f.memory; registration = f.registration; reading = f.reading }

-- 01: "Tokens here: 1 update-nodes, 2 get-indices, 3 configure-kernel-dump.", "an unknown token or counts unlike the call's own give status -3".
-- 02, M-103: "Add ibm,update-properties, .. token 4". Further tokens are added here.
unfoldable pub outcome : Found → Outcome
outcome f =
    cond (is_nodes f.args) (nodes_outcome f)
    (cond (is_indices f.args) (indices_outcome f)
    (cond (is_dump f.args) (dump_outcome f)
    (cond (is_properties f.args) (properties_outcome f)
    (refusal f))))

-- All that a call leaves; the journal, the inventory and its edition are only read.
pub record Left : Type 0 where
  pub number : Number
  pub args : List ℕ
  pub memory : List ℕ
  pub registration : Registration
  pub reading : ReadingRecord

abbrev pub leaves : Number → List ℕ → List ℕ → Registration → ReadingRecord → Left
leaves number args memory registration reading = record { number = number; args = args; memory = memory; registration = registration; reading = reading }

-- 01: "Each status below 0 writes the status word only."
unfoldable pub call_of : Found → Left
call_of f =
    let o = outcome f in
    let given = leaves Given (sets f.args (status_at f.args) (word_bytes (status_word o.status ∷ o.more))) o.memory o.registration o.reading in
    cond (is_given (number_for f.args)) given (leaves (number_for f.args) f.args f.memory f.registration f.reading)

-- 01: "A call is answered when its number is 0 and its status 0 or 1; otherwise it is refused."
unfoldable pub answered : List ℕ → Left → Bool
answered b x = is_given x.number && leb (be32 x.args (status_at b)) 1
