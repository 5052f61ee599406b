-- What a run reads, writes and answers.
use Rattle.std.specs.Prelude.{ℕ, ◌≡◌, ◌≤◌, ◌+◌, ◌^◌, List, [], length, take, Bool, true, false, Option, Some, None, Result, Ok, Err}
use Rattle.std.specs.Io.KnownBytes.{Appends, Consumes}
use Rattle.rewriter_devices.specs.Input.{IsInput}
use Rattle.rewriter_devices.specs.Lines.{lines_of}
use Rattle.wasm_rewriter.specs.declared.fault.Fault.{Fault}
use Rattle.wasm_rewriter.specs.declared.fault.Fault.TheVariants as faults
use Rattle.wasm_rewriter.specs.declared.options.Options.{Options}
use Rattle.wasm_rewriter.specs.declared.running.Summary.{Summary}
use Rattle.wasm_rewriter.specs.Made.{IsRewritten}
use Rattle.wasm_rewriter.specs.Rewrites.{IsRefused}

-- the pairs of places that there are
abbrev pub pairs_of : Option (List (ℕ × ℕ)) → List (ℕ × ℕ)
pairs_of None = []
pairs_of (Some pairs) = pairs

-- the bytes that a device has left, or took, before a run and after it, where it tells them, and whether it failed
pub record Device : Type 0 where
  pub before : Option (List ℕ)
  pub after : Option (List ℕ)
  pub has_failed : Bool

-- the sink took all bytes, the other all lines, and the summary counts them
pub record WritesAll (bytes : List ℕ) (pairs : List (ℕ × ℕ)) (sink places : Device) (summary : Summary) : Type 0 where
  pub bytes_taken : Appends sink.before sink.after bytes
  pub lines_taken : Appends places.before places.after (lines_of pairs)
  pub bytes_counted : summary.bytes ≡ length bytes
  pub pairs_counted : summary.places ≡ length pairs

-- the sink failed once it had taken the first n bytes
pub record WritesSomeBytes (n : ℕ) (bytes : List ℕ) (sink : Device) : Type 0 where
  pub within : n ≤ length bytes
  pub bytes_taken : Appends sink.before sink.after (take n bytes)
  pub failed : sink.has_failed ≡ true

-- the sink took all bytes, and the other failed once it had taken the first n of the lines
pub record WritesSomeLines (n : ℕ) (bytes : List ℕ) (pairs : List (ℕ × ℕ)) (sink places : Device) : Type 0 where
  pub bytes_taken : Appends sink.before sink.after bytes
  pub within : n ≤ length (lines_of pairs)
  pub lines_taken : Appends places.before places.after (take n (lines_of pairs))
  pub failed : places.has_failed ≡ true

-- what became of the bytes and the pairs
abbrev pub Writes : List ℕ → List (ℕ × ℕ) → Device → Device → Result Summary Fault → Type 0
Writes bytes pairs sink places (Ok summary) = WritesAll bytes pairs sink places summary
Writes bytes pairs sink places (Err (faults.WriterFault n)) = WritesSomeBytes n bytes sink
Writes bytes pairs sink places (Err (faults.PlacesFault n)) = WritesSomeLines n bytes pairs sink places
Writes bytes pairs sink places (Err fault) = ⊥

-- an input was read and rewritten, and the answer says what became of what was made of it
pub record RewritesInput (o : Options) (source sink places : Device) (answer : Result Summary Fault) : Type 0 where
  pub input : List ℕ
  pub bytes : List ℕ
  pub pairs : Option (List (ℕ × ℕ))
  pub is_input : IsInput source.before source.after input
  pub rewritten : IsRewritten o input bytes pairs
  pub written : Writes bytes (pairs_of pairs) sink places answer

-- an input was read, and refused
pub record RefusesInput (o : Options) (source : Device) (fault : Fault) : Type 0 where
  pub input : List ℕ
  pub is_input : IsInput source.before source.after input
  pub refused : IsRefused o input fault

-- so many bytes were read, at most one more than an input may have, and no others are gone
abbrev pub ReadSome : Device → Type 0
ReadSome source = (read : List ℕ) × (length read ≤ 2 ^ 30 + 1) × Consumes source.before source.after read

-- what a run did, by its answer. The source may fail, and memory be wanting, while the input is read
abbrev pub Runs : Options → Device → Device → Device → Result Summary Fault → Type 0
Runs o source sink places (Ok summary) = RewritesInput o source sink places (Ok summary)
Runs o source sink places (Err (faults.WriterFault n)) = RewritesInput o source sink places (Err (faults.WriterFault n))
Runs o source sink places (Err (faults.PlacesFault n)) = RewritesInput o source sink places (Err (faults.PlacesFault n))
Runs o source sink places (Err faults.ReaderFault) = (source.has_failed ≡ true) × ReadSome source
Runs o source sink places (Err faults.Memory) = ReadSome source
Runs o source sink places (Err fault) = RefusesInput o source fault

-- the answer says that all bytes were written: the lines alone may be missing
abbrev pub tells_of_bytes : Result Summary Fault → Bool
tells_of_bytes (Ok summary) = true
tells_of_bytes (Err (faults.PlacesFault n)) = true
tells_of_bytes (Err fault) = false

-- the answer says that something may have been written to the writer
abbrev pub tells_of_writer : Fault → Bool
tells_of_writer (faults.WriterFault n) = true
tells_of_writer (faults.PlacesFault n) = true
tells_of_writer fault = false

-- the answer says that something may have been written to the writer of places
abbrev pub tells_of_places : Fault → Bool
tells_of_places (faults.PlacesFault n) = true
tells_of_places fault = false

-- the fault is one of a device
abbrev pub tells_of_device : Fault → Bool
tells_of_device faults.ReaderFault = true
tells_of_device (faults.WriterFault n) = true
tells_of_device (faults.PlacesFault n) = true
tells_of_device fault = false
