-- The claims of the counts hold.
use Rattle.words.specs.Numbers.{be, be_bytes, word_bytes, words, zeros}
use Rattle.node_area.specs.Head.{is_reserved}
use Rattle.node_area.specs.Reading.{fault_of, last_after, verdict, operations_at, reading}
use Rattle.calls.specs.Lent.{part_at}
use Rattle.calls.specs.Buffer.{asks}
use Rattle.counting.specs.Area.{words_used, tally_of}
use Rattle.counting.specs.Counts.{place_of, is_counted, handed_out, counted}
use Rattle.counting.specs.Claims.Counts.{OperationsRead, UsedWithin, CountReadings, CountClaims}
use Rattle.counting.proofs.Tallies.{words_few}
use Rattle.counting.proofs.Handed.{run_counted}
use Rattle.counting.proofs.EachCall.{each_call_counted}

used_within : UsedWithin
unfolding tally_of
used_within scope area os e = rw e (words_few scope area os e)

operations_read : OperationsRead
unfolding handed_out tally_of
operations_read status args memory os own answered e = rw (own, answered, e)

-- ---- calls in words, by one computed test

count_readings : CountReadings
unfolding be be_bytes word_bytes words zeros is_reserved fault_of last_after verdict operations_at reading part_at asks words_used tally_of place_of is_counted handed_out counted
count_readings = tt

pub count_claims : CountClaims
count_claims = record { operations_read = operations_read; used_within = used_within; run_counted = run_counted; each_call_counted = each_call_counted; count_readings = count_readings }
