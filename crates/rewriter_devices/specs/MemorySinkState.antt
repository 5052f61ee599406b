-- A sink in memory, and what a write and a flush do to it.
use Rattle.std.specs.Prelude.{ℕ, ◌-◌, min, List, ◌++◌, length, take, Bool, true, false, nat_eq, nat_lt, nat_le, ◌||◌, ◌&&◌, if◌then◌else◌, Option, None, Some}
use Rattle.rewriter_devices.specs.declared.memory.SinkFail.{SinkFail}
use Rattle.rewriter_devices.specs.declared.memory.SinkFail.TheVariants.{Never, After, Zero, Flush}

-- the bytes taken, how many it may take, where it fails, and whether a call has failed
pub record MemorySinkState : Type 0 where
  pub bytes : List ℕ
  pub room : ℕ
  pub fail : SinkFail
  pub has_failed : Bool

-- how many of `len` bytes such a sink takes after `taken`, or none where the write is an error
abbrev pub part_taken_of : SinkFail → ℕ → ℕ → Option ℕ
part_taken_of Never taken len = Some len
part_taken_of (After k) taken len = if nat_le k taken && nat_lt 0 len then None else Some (min len (k - taken))
part_taken_of (Zero k) taken len = Some (min len (k - taken))
part_taken_of Flush taken len = Some len

-- what the next write of `len` bytes answers: how many it takes, or none where it is an error
abbrev pub write_answer : MemorySinkState → ℕ → Option ℕ
write_answer s len = if s.has_failed || nat_lt (s.room - length s.bytes) len then None else part_taken_of s.fail (length s.bytes) len

-- the number, or 0 where there is none
abbrev pub count_of : Option ℕ → ℕ
count_of None = 0
count_of (Some n) = n

-- a write of `len` bytes fails where it is an error, or takes none of some bytes
abbrev pub fails_at : Option ℕ → ℕ → Bool
fails_at None len = true
fails_at (Some n) len = nat_eq n 0 && nat_lt 0 len

-- the sink after a write of these bytes
abbrev pub after_write : MemorySinkState → List ℕ → MemorySinkState
after_write s written = record s { bytes = s.bytes ++ take (count_of (write_answer s (length written))) written; has_failed = fails_at (write_answer s (length written)) (length written) }

-- a flush is an error where it was told to be, or a call has failed
abbrev pub flush_fails : MemorySinkState → Bool
flush_fails s = s.has_failed || is_flush s.fail
  where
    is_flush : SinkFail → Bool
    is_flush Never = false
    is_flush (After k) = false
    is_flush (Zero k) = false
    is_flush Flush = true
