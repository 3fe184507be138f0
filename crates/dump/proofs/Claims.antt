-- The claims about dump structures hold.
use Rattle.words.specs.Numbers.{be, be_bytes}
use Rattle.words.specs.Nul.{until_nul}
use Rattle.dump.specs.Structure.{good_header, each_section, good_type, good_section, requested, without_disk, good_path, good_structure}
use Rattle.dump.specs.Claims.Dump.{StructureCases}

pub structure_cases : StructureCases
unfolding good_structure good_header each_section good_type good_section requested without_disk good_path until_nul be be_bytes
structure_cases = tt
