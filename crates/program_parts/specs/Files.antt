-- When two words name one file.
use Rattle.std.specs.Prelude.{◌≡◌}
use Rattle.std.specs.String.{string_bytes}
use Rattle.program_parts.specs.declared.target.FileId.{FileId}
use Rattle.program_parts.specs.declared.target.FileId.TheVariants.{There, Missing}

-- one file that is there, or one name in one folder
abbrev pub NamesOneFile : FileId → FileId → Type 0
NamesOneFile (There device number) (There other_device other_number) = (device ≡ other_device) × (number ≡ other_number)
NamesOneFile (Missing device number name) (Missing other_device other_number other_name) =
    (device ≡ other_device) × (number ≡ other_number) × (string_bytes name ≡ string_bytes other_name)
NamesOneFile one other = ⊥
