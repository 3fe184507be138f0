-- The numbers and statuses of a call (document 01, "The argument buffer").
use Rattle.std.specs.Prelude.{ℕ, Bool, true, false, leb}
use Rattle.calls.specs.declared.status.Number.{Number}
use Rattle.calls.specs.declared.status.Number.TheVariants.{Given, Short, NoOutputs, TooMany}
use Rattle.calls.specs.declared.status.Status.{Status}
use Rattle.calls.specs.declared.status.Status.TheVariants.{Done, Again, Malformed, Parameter, Changed, AlreadyRegistered, DumpActive}

-- 01: the table of numbers: 10 a short buffer, 12 inputs or outputs above 16, 11 no outputs, 0 none of these
abbrev pub number_of : Number → ℕ
number_of Given = 0
number_of Short = 10
number_of NoOutputs = 11
number_of TooMany = 12

-- 01: "Statuses: 0 done, 1 call again, -1 journal or inventory malformed, -3 parameter, -9 already registered, -10 dump active.", as 32-bit words;
-- 02, M-105: "-4 when the edition differs"
abbrev pub status_word : Status → ℕ
status_word Done = 0
status_word Again = 1
status_word Malformed = 0xffff_ffff
status_word Parameter = 0xffff_fffd
status_word Changed = 0xffff_fffc
status_word AlreadyRegistered = 0xffff_fff7
status_word DumpActive = 0xffff_fff6

abbrev pub is_given : Number → Bool
is_given Given = true
is_given Short = false
is_given NoOutputs = false
is_given TooMany = false

-- 01: "A call is answered when its number is 0 and its status 0 or 1; otherwise it is refused."
abbrev pub is_answer : Status → Bool
is_answer s = leb (status_word s) 1
