use mathlib.Core.Path.{◌≡◌, ◌∙◌, ap}
use native.Mathlib.Nat.{div-one}
use lib.Seq.{sets}
use Rattle.words.specs.Numbers.{be_bytes}
use Rattle.words.proofs.storing.store_be16.Goals as goal

pub returns : goal.returns
unfolding be_bytes
returns c =
    let same : c.to_be_bytes.result ≡ be_bytes 2 c.args.v = c.to_be_bytes.ensures ∙ simp div-one in
    c.store.ensures ∙ ap (sets c.args.s.now c.args.at) same
