-- `head::write_head` meets its contract.
use mathlib.Core.Path.{◌≡◌}
use mathlib.Core.List.{List, ◌++◌}
use Prim.Native.Nat.{ℕ}
use lib.ListN.{replicate}
use lib.Seq.{sets}
use Rattle.words.specs.Numbers.{word_bytes, be_bytes}
use Rattle.property_area.specs.Head.{carried_head}
use Rattle.property_area.proofs.head.write_head.Goals as goal

-- the four stores are one
module _ (phandle state count : ℕ) where
  one_store : (l : List ℕ) {a b c d : List ℕ} → a ≡ sets l 0 (be_bytes 4 phandle) → b ≡ sets a 4 (be_bytes 4 state) → c ≡ sets b 8 (replicate 8 0) → d ≡ sets c 16 (be_bytes 4 count)
      → d ≡ sets l 0 (carried_head phandle state ++ be_bytes 4 count)
  unfolding word_bytes be_bytes
  one_store l p s z n = rw (n, z, s, p)

pub returns : goal.returns
returns c =
    let a = c.args in
    one_store a.phandle a.state a.count a.area.now c.store_be32.ensures
    c.store_be32-2.ensures
    c.store_zeros.ensures
    c.store_be32-3.ensures
