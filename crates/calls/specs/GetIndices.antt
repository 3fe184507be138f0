-- get-indices on partition memory (document 01, "get-indices").
use Rattle.std.specs.Prelude.{ℕ, ◌+◌, ◌-◌, Bool, false, cond, ◌&&◌, ◌||◌, not, List, [], ◌∷◌, leb, ltb, eqb, length, drop}
use Rattle.inventory.specs.declared.edition.Edition.{Edition}
use Rattle.inventory.specs.Inventory.{well_formed}
use Rattle.inventory.specs.Listing.{Entry, listed}
use Rattle.indices.specs.Area.{entry_size, run, written}
use Rattle.calls.specs.declared.request.Request.{Request}
use Rattle.calls.specs.declared.reading_record.ReadingRecord.{ReadingRecord}
use Rattle.calls.specs.declared.status.Status.{Status}
use Rattle.calls.specs.declared.status.Status.TheVariants.{Done, Again, Malformed, Parameter, Changed}
use Rattle.calls.specs.Status.{is_answer}
use Rattle.calls.specs.ReadingRecord.{is_named, is_current}
use Rattle.calls.specs.Lent.{part_at, with_part}

-- 01: "flag; type not 9001, 9002, 9003 for indicators nor 9003 for sensors"
unfoldable pub askable : ℕ → ℕ → Bool
askable flag type = leb flag 1 && not (eqb type 9003 || (eqb flag 0 && (eqb type 9001 || eqb type 9002)))

-- 01: "size at least 4 and address + size at most 2^32 and inside memory"
unfoldable pub lendable : List ℕ → ℕ → ℕ → Bool
lendable m address size = leb 4 size && (leb (address + size) 0x1_0000_0000 && leb (address + size) (length m))

-- the entries of the flag and type, the Starting Number, and the run from it on
abbrev pub entries_for : List ℕ → Request → List Entry
entries_for i q = listed q.flag q.item_type i

abbrev pub number_in : Request → ℕ
number_in q = q.number.0

abbrev pub run_for : List ℕ → Request → List Entry
run_for i q = run q.size (number_in q) (entries_for i q)

-- 01: "some entry of this flag and type exists; Starting Number from 1 to the number of entries, unsigned"
unfoldable pub good_number : ℕ → List Entry → Bool
good_number number es = leb 1 (length es) && (leb 1 number && leb number (length es))

-- 01: "the entry due fits", behind the count
unfoldable pub due_fits : ℕ → List Entry → Bool
due_fits size [] = false
due_fits size (e ∷ es) = leb (4 + entry_size (length e.code)) size

-- entries remain behind the run
unfoldable pub more_entries : List ℕ → Request → Bool
more_entries i q = ltb (number_in q - 1 + length (run_for i q)) (length (entries_for i q))

-- The checks of the list, after those of the request: inventory (-1); an entry, the Starting Number, the entry due (-3).
unfoldable pub list_status : List ℕ → Request → Status
list_status i q =
    cond (well_formed i)
    (cond (good_number (number_in q) (entries_for i q))
    (cond (due_fits q.size (drop (number_in q - 1) (entries_for i q)))
    (cond (more_entries i q) Again Done)
    Parameter)
    Parameter)
    Malformed

-- 02, M-105: "-4 when the edition differs; -3 when flag, type or number differ from the record; both before the inventory check, -3 first."
unfoldable pub reading_status : List ℕ → Edition → ReadingRecord → Request → Status
reading_status i e r q =
    cond (is_named r q)
    (cond (is_current r e q)
    (list_status i q)
    Changed)
    Parameter

-- 01: "Order: flag; type ..; size .. and address + size ..; all -3. Then inventory (-1). Then: ..; all -3."; 02, M-105: the record's checks stand between.
unfoldable pub indices_status : List ℕ → List ℕ → Edition → ReadingRecord → Request → Status
indices_status m i e r q =
    cond (askable q.flag q.item_type)
    (cond (lendable m q.address q.size)
    (reading_status i e r q)
    Parameter)
    Parameter

-- 01: "The longest fitting run is returned"; "later bytes stay unchanged"
unfoldable pub indices_memory : List ℕ → List ℕ → Edition → ReadingRecord → Request → List ℕ
indices_memory m i e r q =
    cond (is_answer (indices_status m i e r q)) (with_part m q.address q.size (written (part_at m q.address q.size) (run_for i q))) m

-- 01: "Status 1 with the next number, or 0 with 1."
unfoldable pub next_number : List ℕ → Request → ℕ
next_number i q = cond (more_entries i q) (number_in q + length (run_for i q)) 1

-- the number that a call gives; without an answer it is the one asked for, and nobody is told it
unfoldable pub number_given : Status → List ℕ → Request → ℕ
number_given s i q = cond (is_answer s) (next_number i q) (number_in q)
