-- What is claimed of the definitions of `Edition`.
use Rattle.std.specs.Prelude.{◌+◌, ◌<◌, ◌≡◌, None, Some}
use Rattle.inventory.specs.declared.edition.Edition.{Edition}
use Rattle.inventory.specs.Edition.{edit_of}

-- what is claimed of an edit, cited by the contract of `Edition::edit`
pub record EditionRises : Type 0 where
  pub rises : (e : Edition) → e.0 < 0xffff_ffff → edit_of e ≡ Some (record { 0 = e.0 + 1 })
  pub top : (e : Edition) → e.0 ≡ 0xffff_ffff → edit_of e ≡ None
