-- A source in memory, and what a read does to it.
use Rattle.std.specs.Prelude.{ℕ, ◌+◌, ◌-◌, ◌^◌, min, List, length, drop, Bool, false, nat_eq, ◌||◌, if◌then◌else◌, Option, None, Some}

-- the bytes left, how many reads were made, the number of the read that fails, and whether one has
pub record MemorySourceState : Type 0 where
  pub left : List ℕ
  pub reads : ℕ
  pub failing_read : Option ℕ
  pub has_failed : Bool

-- the failing read is the one with this number
abbrev pub is_failing : Option ℕ → ℕ → Bool
is_failing None n = false
is_failing (Some k) n = nat_eq k n

-- the next read fails
abbrev pub read_fails : MemorySourceState → Bool
read_fails s = s.has_failed || is_failing s.failing_read s.reads

-- how many bytes the next read gives into so much room, unless it fails
abbrev pub read_len : MemorySourceState → ℕ → ℕ
read_len s room = if read_fails s then 0 else min room (length s.left)

-- the source after a read into so much room; the count of reads stops at `u64::MAX`
abbrev pub after_read : MemorySourceState → ℕ → MemorySourceState
after_read s room = record { left = drop (read_len s room) s.left; reads = min (s.reads + 1) (2 ^ 64 - 1); failing_read = s.failing_read; has_failed = read_fails s }
