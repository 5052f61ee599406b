-- Finite maps between indices and ids, as contracts see them.
use Rattle.std.specs.Prelude.{ℕ, ◌+◌, ◌==◌, ◌&&◌, Bool, false, List, [], ◌∷◌, ◌++◌, take, replicate, Option, Some, None, if◌then◌else◌}
use Rattle.walrus_index_maps.specs.Runs.{nowhere}

-- ---- from indices to ids: of each space the ids in the order of their indices; of locals, for each function, and whether those that a body
-- declares and nothing names are to have ids, too

pub record Ids : Type 0 where
  pub types : List ℕ
  pub functions : List ℕ
  pub tables : List ℕ
  pub memories : List ℕ
  pub tags : List ℕ
  pub globals : List ℕ
  pub elements : List ℕ
  pub segments : List ℕ
  pub locals : ℕ → List ℕ
  pub all_locals : Bool

abbrev pub no_ids : Ids
no_ids = record { types = []; functions = []; tables = []; memories = []; tags = []; globals = []; elements = []; segments = []; locals = λ _. []; all_locals = false }

-- the same lists, but one longer by so many indices that name no local
abbrev pub with_skipped : ℕ → ℕ → (ℕ → List ℕ) → ℕ → List ℕ
with_skipped function n locals f = if f == function then locals f ++ replicate n nowhere else locals f

-- the same lists, but one longer by an id
abbrev pub with_last : ℕ → ℕ → (ℕ → List ℕ) → ℕ → List ℕ
with_last function id locals f = if f == function then locals f ++ id ∷ [] else locals f

-- the same lists, but one has no more than its first ones
abbrev pub with_first : ℕ → ℕ → (ℕ → List ℕ) → ℕ → List ℕ
with_first function n locals f = if f == function then take n (locals f) else locals f

-- ---- from ids to indices

-- the number of each id that has one, and how many were given in turn
pub record Numbering : Type 0 where
  pub number : ℕ → Option ℕ
  pub given : ℕ

abbrev pub unnumbered : Numbering
unnumbered = record { number = λ _. None; given = 0 }

-- the same, but for one id
abbrev pub numbered : ℕ → ℕ → Numbering → Numbering
numbered id number m = record m { number = λ other. if other == id then Some number else m.number other }

-- one more id has the next number
abbrev pub next_numbered : ℕ → Numbering → Numbering
next_numbered id m = record (numbered id m.given m) { given = m.given + 1 }

pub record Indices : Type 0 where
  pub types : Numbering
  pub functions : Numbering
  pub tables : Numbering
  pub memories : Numbering
  pub tags : Numbering
  pub globals : Numbering
  pub elements : Numbering
  pub segments : Numbering
  -- of a local in a function
  pub locals : ℕ → ℕ → Option ℕ

abbrev pub no_indices : Indices
no_indices = record { types = unnumbered; functions = unnumbered; tables = unnumbered; memories = unnumbered; tags = unnumbered; globals = unnumbered; elements = unnumbered; segments = unnumbered; locals = λ _ _. None }

-- the same, but for one local of one function
abbrev pub with_local : ℕ → ℕ → ℕ → (ℕ → ℕ → Option ℕ) → ℕ → ℕ → Option ℕ
with_local function id number locals f local = if f == function && local == id then Some number else locals f local
