-- Readings by calls that take memory, and readings of many items (Core Specification, binary format, conventions: vectors).
use Rattle.std.specs.Prelude.{ℕ, zero, suc, ◌+◌, ◌-◌, ◌≤◌, ◌≡◌, ◌⊎◌, Bool, true, false, List, [], ◌∷◌, ◌++◌, length, map, Result, Ok, Err, IfErr}
use Rattle.std.specs.Global.{Vec}
use Rattle.wasm_reader.specs.declared.error.Error.{Error}
use Rattle.wasm_reader.specs.declared.error.ErrorKind.TheVariants as kinds
use Rattle.wasm_reader.specs.Cursor.{Cursor, rest, end_of, Forward}
use Rattle.wasm_reader.specs.Reading.{Reading, fault, ◌>>=◌, Reads}
use Rattle.wasm_reader.specs.Numbers.{unsigned, Spells}
use Rattle.wasm_reader.specs.Text.{size_at}

-- memory was refused, where the reader stands
pub record WantsMemory (now : Cursor) (e : Error) : Type 0 where
  pub kind : e.kind ≡ kinds.Memory
  pub offset : e.offset ≡ now.window.start + now.position

-- a call's fault is the reading's, or want of memory
abbrev pub FailsAs : {Y : Type 0} → Cursor → Error → Reading Y → Type 0
FailsAs now e read = (read ≡ Err (fault e.kind (end_of now - e.offset))) ⊎ WantsMemory now e

-- a call's result is the reading's answer, want of memory aside
abbrev pub AnswersUnlessMemory : {X Y : Type 0} → (X → Y) → Cursor → Result X Error → Reading Y → Type 0
AnswersUnlessMemory view now (Ok x) read = read ≡ Ok (view x, rest now)
AnswersUnlessMemory view now (Err e) read = FailsAs now e read

-- the call read what the reading says, or was refused memory where the reader then stands
pub record ReadsUnlessMemory {X Y : Type 0} (reading : List ℕ → Reading Y) (view : X → Y) (old new : Cursor) (result : Result X Error) : Type 0 where
  pub value : AnswersUnlessMemory view new result (reading (rest old))
  pub place : IfErr result (λ e. e.offset ≤ end_of new)
  pub moves : Forward old new

-- the same of a call that takes memory or takes none
abbrev pub ReadsBy : Bool → {X Y : Type 0} → (List ℕ → Reading Y) → (X → Y) → Cursor → Cursor → Result X Error → Type 0
ReadsBy true reading view old new result = ReadsUnlessMemory reading view old new result
ReadsBy false reading view old new result = Reads reading view old new result

-- so many items, one after another
unfoldable pub items_at : {A : Type 0} → (List ℕ → Reading A) → ℕ → List ℕ → Reading (List A)
items_at item zero bytes = Ok ([], bytes)
items_at item (suc count) bytes = do
  first ← item bytes
  later ← items_at item count first.1
  Ok (first.0 ∷ later.0, later.1)

-- a count of at most `limit`, and that many items
unfoldable pub vec_at : {A : Type 0} → ℕ → (List ℕ → Reading A) → List ℕ → Reading (List A)
vec_at limit item bytes = do
  count ← size_at limit bytes
  items_at item count.0 count.1

-- the items of a vec
abbrev pub seen_items : {X Y : Type 0} → (X → Y) → Vec X → List Y
seen_items seen items = map seen items.items

-- so many items, of which nothing is answered
unfoldable pub passed_at : {A : Type 0} → (List ℕ → Reading A) → ℕ → List ℕ → Reading (Unit {0})
passed_at item zero bytes = Ok (tt, bytes)
passed_at item (suc count) bytes = do
  first ← item bytes
  passed_at item count first.1

-- the bytes of these items, one after another, where `spells` says which bytes are an item's
abbrev pub SpellsItems : {A : Type 0} → (List ℕ → A → Type 0) → List ℕ → List A → Type 0
SpellsItems spells bytes [] = bytes ≡ []
SpellsItems spells bytes (x ∷ items) = (front later : List ℕ) × (bytes ≡ front ++ later) × spells front x × SpellsItems spells later items

-- the bytes of a vec of at most `limit` items: their number, and theirs
pub record SpellsVec {A : Type 0} (limit : ℕ) (spells : List ℕ → A → Type 0) (bytes : List ℕ) (items : List A) : Type 0 where
  pub count : List ℕ
  pub listed : List ℕ
  pub joined : bytes ≡ count ++ listed
  pub counts : Spells unsigned 32 count (length items)
  pub most : length items ≤ limit
  pub lists : SpellsItems spells listed items
