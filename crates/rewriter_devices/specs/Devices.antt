-- When a call of a device fails.
use Rattle.std.specs.Prelude.{ℕ, Bool, true, nat_eq, nat_lt, ◌&&◌, Result, Ok, Err}

-- a write of `len` bytes fails by an error, or by taking none of some bytes
abbrev pub write_fails : {E : Type 0} → Result ℕ E → ℕ → Bool
write_fails (Ok n) len = nat_eq n 0 && nat_lt 0 len
write_fails (Err e) len = true
