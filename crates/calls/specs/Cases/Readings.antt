-- The table of readings, cited by the contract of `call`: 01, "Cases marked * are proved of the written rules themselves, gathered into a single
-- table under a single claim." Each case is a test of what one call leaves; statuses are words.
use Rattle.std.specs.Prelude.{ℕ, ◌+◌, Bool, false, ◌&&◌, List, [], ◌∷◌, ◌++◌, T, eqb, length, take, replicate}
use Rattle.words.specs.Claims.Cases.{every}
use Rattle.words.specs.Numbers.{be32, word_bytes}
use Rattle.words.specs.Reading.{Reading, read, refused}
use Rattle.journal.specs.Claims.Journal.{short, long}
use Rattle.node_area.specs.Reading as node-area
use Rattle.inventory.specs.Claims.Inventory.{entry, bytes}
use Rattle.indices.specs.Area.{entry_bytes}
use Rattle.indices.specs.Reading as index-area
use Rattle.dump.specs.declared.registration.Registration.{Registration}
use Rattle.dump.specs.declared.registration.Phase.{Phase}
use Rattle.dump.specs.declared.registration.Phase.TheVariants.{Unregistered, Registered, Active}
use Rattle.dump.specs.Claims.Dump.{from, bare, asked, times}
use Rattle.calls.specs.Status.{number_of}
use Rattle.calls.specs.Lent.{part_at}
use Rattle.calls.specs.Buffer.{Found, Left, found, call_of}
use Rattle.calls.specs.Claims.Terms.{minus, naming}

-- what a call finds over the edition 0, with no reading in progress
abbrev pub at_rest : List ℕ → List ℕ → List ℕ → List ℕ → Registration → Found
at_rest args m j i registration = found args m j i (record { 0 = 0 }) registration (naming 0 0 1 0)

abbrev pub none : Registration
none = record { phase = Unregistered; len = 0; copy = [] }

-- what a call leaves, by the words of its argument buffer, memory, journal, inventory and the phase of its registration
abbrev pub called : List ℕ → List ℕ → List ℕ → List ℕ → Phase → Left
called args m j i p = call_of (at_rest (word_bytes args) m j i (record { phase = p; len = 0; copy = [] }))

-- ---- update-nodes

-- so many deletes, updates and additions of node type 10
abbrev pub journal_of : ℕ → ℕ → ℕ → List ℕ
journal_of d u a = times d (short 8 1 10) ++ (times u (short 8 2 10) ++ times a (long 12 3 10))

-- a call over an area with these first four words and sevens after them
abbrev pub update_nodes : List ℕ → ℕ → List ℕ → Left
update_nodes j scope head = called (1 ∷ 2 ∷ 1 ∷ 0 ∷ scope ∷ 9 ∷ []) (word_bytes head ++ replicate 4080 7) j [] Unregistered

-- an area that reads as so many entries
abbrev pub reads : {E R : Type 0} → ℕ → Reading E R → Bool
reads n (read es) = eqb (length es) n
reads n (refused r at) = false

-- a journal, scope and state are answered: the status, the operations that the area reads as, the state left
abbrev pub nodes : List ℕ → ℕ → ℕ → ℕ → ℕ → ℕ → Bool
nodes j scope state status n next =
    let x = update_nodes j scope (state ∷ 0 ∷ 0 ∷ 0 ∷ []) in
    eqb (be32 x.args 20) status && (reads n (node-area.reading scope x.memory) && eqb (be32 x.memory 0) next)

-- a call over an area with these first words is refused: the status
abbrev pub no_nodes : List ℕ → ℕ → List ℕ → ℕ → Bool
no_nodes j scope head status = eqb (be32 (update_nodes j scope head).args 20) status

-- ---- get-indices

-- sensors of type 9 and index 1 with codes of these lengths
abbrev pub inventory_of : List ℕ → List ℕ
inventory_of [] = []
inventory_of (c ∷ cs) = entry (12 + c) 16 1 (bytes c) ++ inventory_of cs

-- a call over so many sevens, with a record that names what it asks for
abbrev pub get_indices : ℕ → List ℕ → ℕ → ℕ → ℕ → ℕ → ℕ → Left
get_indices memory codes flag type address size number =
    call_of (found (word_bytes (2 ∷ 5 ∷ 2 ∷ flag ∷ type ∷ address ∷ size ∷ number ∷ 9 ∷ 9
    ∷ [])) (replicate memory 7) [] (inventory_of codes) (record { 0 = 0 }) none (naming flag type number 0))

-- sensors are listed in an area of a size at an address, from a Starting Number on: the status, the entries that it reads as, the next number
abbrev pub sensors_over : ℕ → List ℕ → ℕ → ℕ → ℕ → ℕ → ℕ → ℕ → Bool
sensors_over memory codes address size number status n next =
    let x = get_indices memory codes 1 9 address size number in
    eqb (be32 x.args 32) status && (reads n (index-area.reading (part_at x.memory address size)) && eqb (be32 x.args 36) next)

-- a request is refused: the status, and nothing in the second output
abbrev pub no_indices_over : ℕ → List ℕ → ℕ → ℕ → ℕ → ℕ → ℕ → ℕ → Bool
no_indices_over memory codes flag type address size number status =
    let x = get_indices memory codes flag type address size number in
    eqb (be32 x.args 32) status && eqb (be32 x.args 36) 9

-- both over 200 sevens
abbrev pub sensors : List ℕ → ℕ → ℕ → ℕ → ℕ → ℕ → ℕ → Bool
sensors = sensors_over 200

abbrev pub no_indices : List ℕ → ℕ → ℕ → ℕ → ℕ → ℕ → ℕ → Bool
no_indices = no_indices_over 200

-- the bytes that an entry with a code of a length takes
abbrev pub takes : ℕ → ℕ
takes c = length (entry_bytes (record { index = 1; code = bytes c }))

-- ---- configure-kernel-dump

-- a command in a phase, over memory, with an address and a length: the status
abbrev pub dump : Phase → List ℕ → ℕ → ℕ → ℕ → ℕ → Bool
dump p m command address len status = eqb (be32 (called (3 ∷ 3 ∷ 1 ∷ command ∷ address ∷ len ∷ 9 ∷ []) m [] [] p).args 24) status

-- ---- the argument buffer

-- a buffer of a size with these counts: the number
abbrev pub numbered : ℕ → ℕ → ℕ → ℕ → Bool
numbered inputs outputs size number = eqb (number_of (call_of (at_rest (take size (word_bytes (1 ∷ inputs ∷ outputs ∷ [])
    ++ replicate 200 0)) [] [] [] none)).number) number

-- ---- the table

abbrev pub cases : List Bool
cases =
    -- * "1,018 reportable deletes: one call. * 1,019: status 1, state 1,018; then one delete, status 0."
    nodes (journal_of 1018 0 0) 1 0 0 1018 0
    ∷ nodes (journal_of 1019 0 0) 1 0 1 1018 1018
    ∷ nodes (journal_of 1019 0 0) 1 1018 0 1 0
    -- * "509 additions: one call. 510: two."
    ∷ nodes (journal_of 0 0 509) 1 0 0 509 0
    ∷ nodes (journal_of 0 0 510) 1 0 1 509 509
    ∷ nodes (journal_of 0 0 510) 1 509 0 1 0
    -- * "1 delete, 1,013 updates, 1 addition: one call. * With 1,014 updates: status 1, state 1,015."
    ∷ nodes (journal_of 1 1013 1) 1 0 0 1015 0
    ∷ nodes (journal_of 1 1014 1) 1 0 1 1015 1015
    -- * "Empty journal, scope 1: status 0, terminator at byte 16."
    ∷ nodes [] 1 0 0 0 0
    ∷ eqb (be32 (update_nodes [] 1 (0 ∷ 0 ∷ 0 ∷ 0 ∷ [])).memory 16) 0
    -- * "Scope 0x80000000 is negative and good; * 0 and 4 give -3."
    ∷ nodes (journal_of 3 0 0) 0x8000_0000 0 0 3 0
    ∷ no_nodes (journal_of 3 0 0) 0 (0 ∷ 0 ∷ 0 ∷ 0 ∷ []) (minus 3)
    ∷ no_nodes (journal_of 3 0 0) 4 (0 ∷ 0 ∷ 0 ∷ 0 ∷ []) (minus 3)
    -- * "State equal to the list's length, above 0: -3."
    ∷ no_nodes (journal_of 3 0 0) 1 (3 ∷ 0 ∷ 0 ∷ 0 ∷ []) (minus 3)
    -- * "Starting Number 0 or 0x80000000: -3."
    ∷ no_indices (3 ∷ 4 ∷ []) 1 9 0 100 0 (minus 3)
    ∷ no_indices (3 ∷ 4 ∷ []) 1 9 0 100 0x8000_0000 (minus 3)
    -- * "A three-byte code takes 12 bytes, a four-byte one 16. Alone, the first needs an area of 16; 15 gives -3."
    ∷ eqb (takes 3) 12
    ∷ eqb (takes 4) 16
    ∷ sensors (3 ∷ []) 0 16 1 0 1 1
    ∷ no_indices (3 ∷ []) 1 9 0 15 1 (minus 3)
    -- * "Ten sections at offset 112, length 512, no disk: good. At 113: -3."
    ∷ dump Unregistered (from 112 (bare 10 112) (times 10 (asked 1))) 1 0 512 0
    ∷ dump Unregistered (from 113 (bare 10 113) (times 10 (asked 1))) 1 0 512 (minus 3)
    -- Our own. update-nodes: a malformed journal, and a reserved byte
    ∷ no_nodes (short 8 1 15) 1 (0 ∷ 0 ∷ 0 ∷ 0 ∷ []) (minus 1)
    ∷ no_nodes [] 1 (0 ∷ 0 ∷ 1 ∷ 0 ∷ []) (minus 3)
    -- get-indices; 02, M-113: "codes up to 1,023 bytes", "the size that always holds the entry due (1,036)"
    ∷ sensors_over 1048 (1023 ∷ 1 ∷ []) 0 1036 1 1 1 2
    ∷ no_indices_over 1048 (1023 ∷ 1 ∷ []) 1 9 0 1035 1 (minus 3)
    ∷ no_indices_over 1048 (1024 ∷ []) 1 9 0 1040 1 (minus 1)
    -- configure-kernel-dump: "registered and command 1 (-9)", "active and command 1 or 2 (-10)"
    ∷ dump Registered (from 40 (bare 1 40) (asked 1)) 1 0 80 (minus 9)
    ∷ dump Active (from 40 (bare 1 40) (asked 1)) 1 0 80 (minus 10)
    -- the numbers 10, 12 and 11
    ∷ numbered 2 1 23 10
    ∷ numbered 17 0 12 12
    ∷ numbered 0 0 12 11
    ∷ []

abbrev pub Readings : Type 0
Readings = T (every cases)
