-- Laws of readings: what more bytes change, and what they leave.
use Rattle.std.specs.Prelude.{ℕ, ◌+◌, ◌-◌, ◌<◌, ◌≤◌, ◌≡◌, ◌≢◌, List, ◌++◌, length, Result, Ok, Err, IfErr, IsOk, All, [], Bool}
use Rattle.wasm_reader.specs.declared.error.Error.{Error}
use Rattle.wasm_reader.specs.declared.error.ErrorKind.{ErrorKind}
use Rattle.wasm_reader.specs.declared.error.ErrorKind.TheVariants as kinds
use Rattle.wasm_reader.specs.Cursor.{Cursor, IsWithin}
use Rattle.wasm_reader.specs.Reading.{Reading, fault, Reads}
use Rattle.wasm_reader.specs.Items.{WantsMemory, ReadsBy}

-- the reading gets past the place, or fails there for another reason than the end
abbrev pub Passes : {A : Type 0} → ℕ → Reading A → Type 0
Passes place (Ok x) = length x.1 < place
Passes place (Err f) = (missing : ℕ) → f ≢ fault (kinds.EndOfFile missing) place

-- fewer bytes than are missing keep the fault at its place, and that many do not
pub record HintHolds {A : Type 0} (missing left : ℕ) (more : List ℕ) (after : Reading A) : Type 0 where
  pub some : 0 < missing
  pub keeps : length more < missing → after ≡ Err (fault (kinds.EndOfFile (missing - length more)) (left + length more))
  pub passes : missing ≤ length more → Passes (left + length more) after

-- what more bytes make of a fault: nothing, unless bytes were missing
abbrev pub GrowsFault : {A : Type 0} → ErrorKind → ℕ → List ℕ → Reading A → Type 0
GrowsFault (kinds.EndOfFile missing) left more after = HintHolds missing left more after
GrowsFault kind left more after = after ≡ Err (fault kind (left + length more))

-- what more bytes make of an answer
abbrev pub Grows : {A : Type 0} → List ℕ → Reading A → Reading A → Type 0
Grows more (Ok x) after = after ≡ Ok (x.0, x.1 ++ more)
Grows more (Err f) after = GrowsFault f.kind f.left more after

-- the answer leaves, or the fault stands before, at most so many bytes
abbrev pub StaysWithin : {A : Type 0} → ℕ → Reading A → Type 0
StaysWithin n (Ok x) = length x.1 ≤ n
StaysWithin n (Err f) = f.left ≤ n

-- what is answered, the end of the bytes aside, is final whatever bytes follow, and the hint is exact
pub record IsFinal {A : Type 0} (reading : List ℕ → Reading A) : Type 0 where
  pub grows : (bytes more : List ℕ) → Grows more (reading bytes) (reading (bytes ++ more))
  pub within : (bytes : List ℕ) → StaysWithin (length bytes) (reading bytes)

-- the same of a look at the next byte, which takes none
abbrev pub GrowsNext : {A : Type 0} → List ℕ → Reading A → Reading A → Type 0
GrowsNext more (Ok x) after = after ≡ Ok (x.0, x.1 ++ more)
GrowsNext more (Err f) after = (f ≡ fault (kinds.EndOfFile 1) 0) × (0 < length more → IsOk after)

-- a proper front of the bytes of a value is answered with the end of the bytes, and no more is missing than was cut off
abbrev pub EndsEarly : {A : Type 0} → (List ℕ → Reading A) → Type 0
EndsEarly {A} reading = (front more : List ℕ) (value : A) → reading (front ++ more) ≡ Ok (value, []) → 0 < length more
    → (missing left : ℕ) × (missing ≤ length more) × (reading front ≡ Err (fault (kinds.EndOfFile missing) left))

-- the reading takes the spellings, each as its value and whatever follows, and nothing else
pub record TakesSpelled {A : Type 0} (reading : List ℕ → Reading A) (spells : List ℕ → A → Type 0) : Type 0 where
  pub again : (bytes more : List ℕ) (value : A) → spells bytes value → reading (bytes ++ more) ≡ Ok (value, more)
  pub found : (bytes later : List ℕ) (value : A) → All (λ b. b < 256) bytes → reading bytes ≡ Ok (value, later)
      → (front : List ℕ) × spells front value × (bytes ≡ front ++ later)

-- no spelling is a proper front of another
abbrev pub IsPrefixFree : {A : Type 0} → (List ℕ → A → Type 0) → Type 0
IsPrefixFree {A} spells = (a b x y : List ℕ) (m n : A) → spells a m → spells b n → a ++ x ≡ b ++ y → (a ≡ b) × (m ≡ n)

-- the same bytes and position, at offsets greater by k
pub record IsMoved (k : ℕ) (here there : Cursor) : Type 0 where
  pub bytes : there.window.bytes ≡ here.window.bytes
  pub start : there.window.start ≡ here.window.start + k
  pub position : there.position ≡ here.position

-- the same answer at offsets greater by k
abbrev pub MovedAnswer : {X Y : Type 0} → (X → Y) → ℕ → Cursor → Cursor → Result X Error → Result X Error → Type 0
MovedAnswer view k here there (Ok x) (Ok y) = (view y ≡ view x) × IsMoved k here there
MovedAnswer view k here there (Err e) (Err f) = (f.kind ≡ e.kind) × (f.offset ≡ e.offset + k)
MovedAnswer view k here there (Ok x) (Err f) = ⊥
MovedAnswer view k here there (Err e) (Ok y) = ⊥

-- a call at offset k answers what it answers at offset 0, moved by k
abbrev pub OffsetsMove : {X Y : Type 0} → (X → Y) → Type 0
OffsetsMove {X} {Y} view = (reading : List ℕ → Reading Y) (k : ℕ) (old new old' new' : Cursor) (result result' : Result X Error)
    → IsMoved k old old' → IsWithin old → Reads reading view old new result → Reads reading view old' new' result' → MovedAnswer view k new new' result result'

-- the call was not refused memory
abbrev pub SparesMemory : {X : Type 0} → Cursor → Result X Error → Type 0
SparesMemory new result = IfErr result (λ e. WantsMemory new e → ⊥)

-- the same of a call that may take memory, where memory is there
abbrev pub OffsetsMoveBy : Bool → {X Y : Type 0} → (X → Y) → Type 0
OffsetsMoveBy takes {X} {Y} view = (reading : List ℕ → Reading Y) (k : ℕ) (old new old' new' : Cursor) (result result' : Result X Error)
    → IsMoved k old old' → IsWithin old → SparesMemory new result → SparesMemory new' result' → ReadsBy takes reading view old new result → ReadsBy takes reading view old' new' result'
    → MovedAnswer view k new new' result result'
