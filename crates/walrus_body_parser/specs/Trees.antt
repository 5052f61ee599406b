-- The operators of a body, up to its end, and the tree that they are read as.
use Rattle.std.specs.Prelude.{◌≡◌, ◌⊎◌, ◌<◌, ◌≤◌, ◌+◌, ℕ, ◌-◌, Bool, true, false, List, [], ◌∷◌, ◌++◌, length, fold, Option, Some, None, Result, Ok, Err}
use Rattle.wasm_features.specs.declared.WasmFeatures.{WasmFeatures}
use Rattle.wasm_reader.specs.Cursor.{Cursor, Forward, IsWithin, rest, end_of}
use Rattle.wasm_formats.specs.Stops.{Parsing}
use Rattle.walrus_body_operands.specs.walrus_body_stack.walrus_builder.Built.{Seq}
use Rattle.walrus_body_operands.specs.walrus_body_rules.wasm_body_grammar.wasm_operators.Operators.{Seen}
use Rattle.walrus_body_locals.specs.wasm_body_grammar.Bodies.{Point, next_point, opened, is_closed}
use Rattle.walrus_body_locals.specs.wasm_normal_form.Trees.{open_in, tree_of}
use Rattle.walrus_body_locals.specs.wasm_normal_form.Normal.{normal}
use Rattle.walrus_body_locals.specs.walrus_body_env.declared.error.BodyError.{BodyError}
use Rattle.walrus_body_locals.specs.walrus_body_env.declared.error.BodyError.TheVariants as faults
use Rattle.walrus_body_locals.specs.walrus_body_nesting.Stands.{StandsAs}
use Rattle.walrus_body_locals.specs.walrus_body_nesting.Opens.{Open, Good, IsReached, Reads, kinds_of, left_kinds, same}
use Rattle.walrus_body_operands.specs.walrus_body_stack.declared.stack.Stack.{Stack}
use Rattle.walrus_body_operands.specs.walrus_body_stack.Frames.{blocks, opens}
use Rattle.walrus_body_operands.specs.walrus_body_rules.Sights.{Sight}
use Rattle.walrus_body_operands.specs.walrus_body_steps.Meanings.{OpensOf, meaning}
use Rattle.walrus_body_locals.specs.Told.{Pass, Fails}
use Rattle.walrus_body_parser.specs.Points.{operator_seen, op_told, place_at, ops_from}
use Rattle.walrus_body_parser.specs.Changes.{LacksType}

-- these sequences are open behind the operators that were read from this place on: they have the kinds of the frames there, and whatever
-- operators come next, with these in them the body will stand as the tree of all in normal form
pub record AreOpen (s : Sight) (place : ℕ) (ops : List (ℕ × Seen)) (b : List Seq) (os : List Open) : Type 0 where
  pub kinds : (fold next_point (opened place) ops).frames ≡ kinds_of os
  pub shaped : Good false b os
  pub reads : (ys : List (ℕ × Seen)) → Reads (meaning s) false b os (open_in (ops_from (fold next_point (opened place) ops).place ys)) (normal same (tree_of (ops_from place (ops ++ ys))))

-- a validator's two answers: told of an operator, and told of the end
pub record Validating (V : Type 0) : Type 0 where
  pub op : V → ℕ → Seen → Option BodyError × V
  pub finish : V → ℕ → Option BodyError × V

abbrev pub validating : {V : Type 0} → (V → ℕ → Seen → Option BodyError × V) → (V → ℕ → Option BodyError × V) → Validating V
validating op finish = record { op = op; finish = finish }

-- how operators are parsed at a point
abbrev pub Parser : Type 0
Parser = Point → List ℕ → Parsing (ℕ × Seen)

abbrev pub parser_of : WasmFeatures → Sight → Parser
parser_of features s p = (operator_seen features s p).parse

module _ {V : Type 0} (parser : Parser) (told : Validating V) (end place : ℕ) where
  -- these operators stand at the front of the bytes of a body, from this place on, and the validator accepts each
  abbrev pub PassOps : V → List ℕ → List (ℕ × Seen) → List ℕ → V → Type 0
  PassOps v bytes ops later w = Pass next_point parser (op_told told.op) end (opened place) v bytes ops later w

  -- the validator was told of some operators at the front of the bytes, and accepts each
  abbrev pub SomeOps : V → List ℕ → V → Type 0
  SomeOps v bytes w = (ops : List (ℕ × Seen)) × (later : List ℕ) × PassOps v bytes ops later w

  abbrev pub point_of : List (ℕ × Seen) → Point
  point_of ops = fold next_point (opened place) ops

  -- they are all, the last one closes the body, and the validator accepts the end
  pub record EndOps (v : V) (bytes : List ℕ) (ops : List (ℕ × Seen)) (w : V) : Type 0 where
    pub left : V
    pub passed : PassOps v bytes ops [] left
    pub closed : is_closed (point_of ops).frames ≡ true
    pub finished : told.finish left end ≡ (None, w)

  -- behind these operators the next one stands there, and begins a handler of the innermost open block, which is reached, for which the
  -- environment has no type
  pub record Lacks (s : Sight) (ops : List (ℕ × Seen)) (bytes : List ℕ) (e : BodyError) : Type 0 where
    pub op : ℕ × Seen
    pub later : List ℕ
    pub stands : parser (point_of ops) bytes ≡ Ok (op, later)
    pub seqs : List Seq
    pub inner : Open
    pub around : List Open
    pub behind : AreOpen s place ops seqs (inner ∷ around)
    pub reached : IsReached inner.reach
    -- what opened the block
    pub by : Seen
    pub opens : OpensOf s by inner.ty
    pub lacks : LacksType s inner.ty op.1
    pub is : e ≡ faults.TypeForm (Some (end - length bytes))

  -- a next one is read: bytes are left, or the body isn't closed
  abbrev pub IsDue : Point → List ℕ → Type 0
  IsDue p bytes = (0 < length bytes) ⊎ (is_closed p.frames ≡ false)

  -- behind some that pass, of which the validator was told: the next one is refused, or lacks a type; or the validator refuses the end
  pub record FailOps (s : Sight) (v : V) (bytes : List ℕ) (w : V) (e : BodyError) : Type 0 where
    pub ops : List (ℕ × Seen)
    pub later : List ℕ
    pub left : V
    pub passed : PassOps v bytes ops later left
    pub fails : (IsDue (point_of ops) later × Fails (parser (point_of ops)) (op_told told.op) end left later w e) ⊎ (Lacks s ops later e × (w ≡ left))
        ⊎ ((later ≡ []) × (is_closed (point_of ops).frames ≡ true) × (told.finish left end ≡ (Some e, w)))

-- ---- what a call answers

-- the operators that are left were read, and stand as the tree in normal form, block types as they are written
pub record ReadsTree {V : Type 0} (s : Sight) (told : Validating V) (code : ℕ) (old : Cursor) (v w : V) (b : List Seq) : Type 0 where
  pub ops : List (ℕ × Seen)
  pub read : EndOps (parser_of old.window.features s) told (end_of old) (place_at code old) v (rest old) ops w
  pub stands : StandsAs (meaning s) b (normal same (tree_of (ops_from (place_at code old) ops)))

-- memory is wanted behind some operators; or it is refused
abbrev pub RefusesTree : {V : Type 0} → Sight → Validating V → ℕ → Cursor → V → V → BodyError → Type 0
RefusesTree s told code old v w e =
    ((e ≡ faults.Memory) × SomeOps (parser_of old.window.features s) told (end_of old) (place_at code old) v (rest old) w)
    ⊎ FailOps (parser_of old.window.features s) told (end_of old) (place_at code old) s v (rest old) w e

-- ---- on the way

module _ {V : Type 0} (s : Sight) (told : Validating V) (code : ℕ) (old : Cursor) (v : V) where
  -- some operators were read, and the validator accepted them; with those that come next they will stand as the tree of all in normal form
  pub record Goes (done : Bool) (b : List Seq) (os : List Open) (now : Cursor) (w : V) : Type 0 where
    pub ops : List (ℕ × Seen)
    pub passed : PassOps (parser_of old.window.features s) told (end_of old) (place_at code old) v (rest old) ops (rest now) w
    pub point : fold next_point (opened (place_at code old)) ops ≡ record { place = place_at code now; frames = left_kinds done os }
    pub good : Good done b os
    pub means : (ys : List (ℕ × Seen)) → Reads (meaning s) done b os (open_in (ops_from (place_at code now) ys)) (normal same (tree_of (ops_from (place_at code old) (ops ++ ys))))
    pub moves : Forward old now
    pub within : IsWithin now
    pub begins : code ≤ now.window.start + now.position

-- whatever was read before, so it goes on with what a call read; or the tree is refused
abbrev pub Follows : {V : Type 0} → Sight → Validating V → ℕ → Cursor → Stack → V → Cursor → Stack → V → Result Bool BodyError → Type 0
Follows {V} s told code now stack w next after u (Ok done) =
    (old : Cursor) (v : V) → Goes s told code old v false (blocks stack) (opens stack) now w → Goes s told code old v done (blocks after) (opens after) next u
Follows {V} s told code now stack w next after u (Err e) = (old : Cursor) (v : V) → Goes s told code old v false (blocks stack) (opens stack) now w → RefusesTree s told code old v u e
