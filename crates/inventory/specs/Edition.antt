-- The edition of an inventory (document 02, M-105).
use Rattle.std.specs.Prelude.{◌+◌, cond, eqb, Option, None, Some}
use Rattle.inventory.specs.declared.edition.Edition.{Edition}

-- 02: "the inventory's 32-bit edition number, which rises by one with each edit (none is taken at the top)"
unfoldable pub edit_of : Edition → Option Edition
edit_of e = cond (eqb e.0 0xffff_ffff) None (Some (record { 0 = e.0 + 1 }))
