-- `finding::is_session` meets its contract.
use Prim.Native.Nat.{◌≤◌}
use native.Mathlib.Omega.{arith}
use mathlib.Core.Path.{◌≡◌, sym, ap, ◌∙◌}
use lib.ListN.{length}
use Rattle.month_table.specs.Table.{session_row}
use Rattle.month_table.specs.Reading.{digest_in, is_session}
use Rattle.month_table.proofs.Sessions.{length_session, digest_whole}
use Rattle.month_table.proofs.Sizes.{put_front, put_inside}
use Rattle.month_reading.proofs.Searches.{begins_is}
use Rattle.month_reading.proofs.Digests.{not_session}
use Rattle.month_reading.proofs.finding.is_session.Goals as goal

pub returns-then-text-lt75 : goal.returns-then-text-lt75
returns-then-text-lt75 c =
    sym (not_session _ c.if-text-lt75.true)

pub put_session-requires : goal.put_session-requires
put_session-requires c =
    let size : length (session_row c.digest_in-digest.result) ≡ 75 =
    length_session _ (ap length c.digest_in-digest.ensures ∙ digest_whole _) in
    omega (arith, size, ap length c.new-row.ensures.held)

pub bytes-requires : goal.bytes-requires
bytes-requires c =
    let size : length (session_row c.digest_in-digest.result) ≡ 75 =
    length_session _ (ap length c.digest_in-digest.ensures ∙ digest_whole _) in
    put_inside c.put_session.ensures c.new-row.ensures.empty (omega (arith, size, ap length c.new-row.ensures.held))

pub returns : goal.returns
unfolding is_session
returns c =
    let size : length (session_row c.digest_in-digest.result) ≡ 75 =
    length_session _ (ap length c.digest_in-digest.ensures ∙ digest_whole _) in
    let fits : length (session_row c.digest_in-digest.result) ≤ length c.new-row.result.buffer.now = omega (arith, size, ap length c.new-row.ensures.held) in
    let made : c.bytes.result.now ≡ session_row (digest_in c.args.text.now) =
    c.bytes.ensures ∙ put_front c.put_session.ensures c.new-row.ensures.empty (fits) ∙ rw c.digest_in-digest.ensures in
    c.starts_with.ensures.value ∙ begins_is c.bytes.result.now c.args.text.now ∙ rw made
