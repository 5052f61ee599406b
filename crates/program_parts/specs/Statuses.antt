-- With which status a program ends that failed.
use Rattle.std.specs.Prelude.{ℕ}
use Rattle.program_parts.specs.declared.failure.Failure.{Failure}
use Rattle.program_parts.specs.declared.failure.Failure.TheVariants as failures

-- 2 where the words are wrong, 3 where a file or a stream fails, else 1
abbrev pub status_of : Failure → ℕ
status_of (failures.Words _) = 2
status_of (failures.Module _) = 1
status_of (failures.Unknown _) = 1
status_of (failures.Wrong _) = 1
status_of (failures.File _ _) = 3
status_of (failures.Stream _) = 3
