-- What a run writes, and the status with which it ends.
use Rattle.std.specs.Prelude.{ℕ, ◌≡◌, Result, Ok, Err}
use Rattle.std.specs.declared.alloc.Global.{Global}
use Rattle.std.specs.declared.vec.Vec.{Vec}
use Rattle.inspect_lines.specs.declared.counts.Counts.{Counts}
use Rattle.inspect_lines.specs.Lines.{lines_of}
use Rattle.walrus_errors.specs.declared.error.ModuleError.{ModuleError}
use Rattle.walrus_errors.specs.declared.error.ModuleError.TheVariants.{Memory}
use Rattle.inspect_program.specs.declared.failure.Failure.{Failure}
use Rattle.inspect_program.specs.declared.failure.Failure.TheVariants.{Refused, IsText, Unread, Unwritten}

-- of counts their lines, or want of memory; of a refusal just that
abbrev pub Tells : Result Counts ModuleError → Result (Vec ℕ Global) ModuleError → Type 0
Tells (Ok counts) (Ok text) = text.items ≡ lines_of counts
Tells (Ok counts) (Err e) = e ≡ Memory
Tells (Err refusal) result = result ≡ Err refusal

-- 3 where a file can't be read or written, and 1 where the module is refused
abbrev pub status_of : Failure → ℕ
status_of (Refused error) = 1
status_of (IsText file error) = 1
status_of (Unread file cause) = 3
status_of (Unwritten cause) = 3
