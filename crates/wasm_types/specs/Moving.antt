-- What offsets greater by k change of groups and sections: their places alone.
use Rattle.std.specs.Prelude.{ℕ, ◌+◌, ◌≡◌, ⊤, map, Option, Some, None, Result, Ok, Err}
use Rattle.wasm_reader.specs.declared.error.Error.{Error}
use Rattle.wasm_reader.specs.Cursor.{Cursor, IsWithin}
use Rattle.wasm_reader.specs.Laws.{IsMoved, SparesMemory}
use Rattle.wasm_types.specs.Groups.{Group}
use Rattle.wasm_types.specs.Section.{Section, ReadsGroup, GivesGroup}

-- the same bytes, position and features, at offsets greater by k
pub record IsAway (k : ℕ) (here there : Cursor) : Type 0 where
  pub moved : IsMoved k here there
  pub features : there.window.features ≡ here.window.features

-- the same group, each of its types k further on
pub record IsMovedGroup (k : ℕ) (here there : Group) : Type 0 where
  pub explicit : there.explicit ≡ here.explicit
  pub types : there.types ≡ here.types
  pub offsets : there.offsets ≡ map (λ offset. offset + k) here.offsets

-- the same group or fault, at offsets greater by k
abbrev pub MovedOutcome : ℕ → Result Group Error → Result Group Error → Type 0
MovedOutcome k (Ok g) (Ok h) = IsMovedGroup k g h
MovedOutcome k (Err e) (Err f) = (f.kind ≡ e.kind) × (f.offset ≡ e.offset + k)
MovedOutcome k (Ok g) (Err f) = ⊥
MovedOutcome k (Err e) (Ok h) = ⊥

-- a group that is read at offsets greater by k is the same, its places moved
abbrev pub OffsetsOfGroupsMove : Type 0
OffsetsOfGroupsMove = (k : ℕ) (old new old' new' : Cursor) (outcome outcome' : Result Group Error)
    → IsAway k old old' → IsWithin old → SparesMemory new outcome → SparesMemory new' outcome'
    → ReadsGroup old new outcome → ReadsGroup old' new' outcome' → MovedOutcome k outcome outcome'

-- a call that gave nothing or was not refused memory
abbrev pub GivesInMemory : Section → Option (Result Group Error) → Type 0
GivesInMemory new None = ⊤
GivesInMemory new (Some outcome) = SparesMemory new.cursor outcome

-- nothing twice, or the same group or fault
abbrev pub MovedGiven : ℕ → Option (Result Group Error) → Option (Result Group Error) → Type 0
MovedGiven k None None = ⊤
MovedGiven k (Some outcome) (Some outcome') = MovedOutcome k outcome outcome'
MovedGiven k None (Some outcome) = ⊥
MovedGiven k (Some outcome) None = ⊥

-- what a section gives next at offsets greater by k is the same, its places moved, and as much is to come
abbrev pub OffsetsOfSectionsMove : Type 0
OffsetsOfSectionsMove = (k : ℕ) (old new old' new' : Section) (given given' : Option (Result Group Error))
    → IsAway k old.cursor old'.cursor → old'.remaining ≡ old.remaining → IsWithin old.cursor → GivesInMemory new given → GivesInMemory new' given'
    → GivesGroup old given new → GivesGroup old' given' new' → MovedGiven k given given' × (new'.remaining ≡ new.remaining)
