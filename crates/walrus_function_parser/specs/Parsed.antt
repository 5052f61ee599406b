-- Whole bodies that are read, in words of the grammar of bodies.
use Rattle.std.specs.Prelude.{◌≡◌, ◌⊎◌, ℕ, Bool, List, length, map, Option, Some, Ok, Err}
use Rattle.wasm_features.specs.declared.WasmFeatures.{WasmFeatures}
use Rattle.wasm_reader.specs.Cursor.{Cursor, Forward, rest, end_of}
use Rattle.walrus_body_parser.specs.walrus_body_locals.wasm_ref_types.declared.value.ValType.{ValType as Written}
use Rattle.walrus_forms.specs.declared.value.ValType.{ValType}
use Rattle.walrus_forms.specs.Renaming.{at, renamed_value}
use Rattle.walrus_instr.specs.walrus_items.declared.local.Local.{Local}
use Rattle.walrus_index_maps.specs.Maps.{Ids}
use Rattle.walrus_instr.specs.declared.seq.InstrSeqType.{InstrSeqType}
use Rattle.walrus_body_parser.specs.walrus_body_stack.walrus_builder.Built.{Seq}
use Rattle.wasm_formats.specs.Stops.{Stop}
use Rattle.walrus_body_parser.specs.walrus_body_locals.wasm_operators.declared.block_type.BlockType.{BlockType}
use Rattle.walrus_body_parser.specs.wasm_operators.Operators.{Seen}
use Rattle.walrus_body_parser.specs.walrus_body_locals.wasm_body_grammar.Rules.{Around}
use Rattle.walrus_body_parser.specs.walrus_body_locals.wasm_body_grammar.Bodies.{Run, run, body, declared}
use Rattle.walrus_body_parser.specs.walrus_body_locals.wasm_normal_form.Trees.{tree_of}
use Rattle.walrus_body_parser.specs.walrus_body_locals.wasm_normal_form.Normal.{normal}
use Rattle.walrus_body_parser.specs.walrus_body_locals.walrus_body_env.declared.error.BodyError.{BodyError}
use Rattle.walrus_body_parser.specs.walrus_body_locals.walrus_body_env.declared.error.BodyError.TheVariants as faults
use Rattle.walrus_body_parser.specs.walrus_body_locals.walrus_body_nesting.Opens.{type_at}
use Rattle.walrus_body_parser.specs.walrus_body_locals.walrus_body_nesting.Stands.{StandsAs}
use Rattle.walrus_body_parser.specs.walrus_body_rules.Sights.{Sight}
use Rattle.walrus_body_parser.specs.walrus_body_rules.Agreeing.{Sees}
use Rattle.walrus_body_parser.specs.walrus_body_steps.Meanings.{meaning}
use Rattle.walrus_body_parser.specs.walrus_body_steps.Picks.{ArePicks}
use Rattle.walrus_body_parser.specs.walrus_body_locals.Calls.{IsFaultOf}
use Rattle.walrus_body_parser.specs.walrus_body_locals.Locals.{run_told, IsSeen, SomeRuns, FailRuns, AddsKept, Declares}
use Rattle.walrus_body_parser.specs.walrus_body_locals.Named.{kept_by}
use Rattle.walrus_body_parser.specs.Points.{place_at, ops_from}
use Rattle.walrus_body_parser.specs.Changes.{LacksType}
use Rattle.walrus_body_parser.specs.Trees.{Validating, parser_of, EndOps, SomeOps, FailOps}

-- what is seen of a module from the body of a function, by what indices name
module _ {E : Type 0} (params results : E → ℕ → Option (List ValType)) (block handler : E → List ValType → List ValType → Option InstrSeqType) (tag : E → ℕ → Option ℕ) (wide : E → ℕ → Bool) (counted : E → Bool) where
  abbrev pub sight_of : E → ℕ → Ids → Sight
  sight_of env function i = record {
    ids = i;
    function = function;
    params = params env;
    results = results env;
    block_type = block env;
    handler_type = handler env;
    tag_type = tag env;
    is_wide = wide env;
    has_data_count = counted env;
  }

-- the same where indices name these
abbrev pub seen_by : Sight → Ids → Sight
seen_by s j = record s { ids = j }

-- a validator's answers: told of a run of locals, of an operator and of the end
pub record Telling (V : Type 0) : Type 0 where
  pub run : V → ℕ → ℕ → Written → Option BodyError × V
  pub rest : Validating V

abbrev pub telling : {V : Type 0} → (V → ℕ → ℕ → Written → Option BodyError × V) → (V → ℕ → Seen → Option BodyError × V) → (V → ℕ → Option BodyError × V) → Telling V
telling run op finish = record { run = run; rest = record { op = op; finish = finish } }

-- the file around the body is this one, in which the function has so many locals
pub record IsAround (s : Sight) (features : WasmFeatures) (locals : ℕ) (a : Around) : Type 0 where
  pub features_are : a.features ≡ features
  pub sees : Sees s a locals

module _ {V : Type 0} (s : Sight) (told : Telling V) (params code : ℕ) (old : Cursor) where
  -- the body's locals stand in front of this place and are added, and the validator accepts each run
  pub record Begins (now : Cursor) (ls ms : List Local) (j : Ids) (v w : V) : Type 0 where
    pub declares : Declares (run_told told.run) s.function params old now s.ids.types ls ms s.ids j v w
    pub moves : Forward old now

  -- the body was read: the bytes are parsed as its runs and its operators, all were accepted, and its sequences stand as the normal
  -- form of the operators' tree, each at its place, whose block types are the picks; of the locals that it declares those were added that its
  -- operators name, or all, where all are wanted
  pub record Parses (entry : InstrSeqType) (ls ms : List Local) (j : Ids) (v w : V) (b : List Seq) : Type 0 where
    pub mid : Cursor
    pub left : V
    pub begins : Begins mid ls ms j v left
    pub ops : List (ℕ × Seen)
    pub ended : EndOps (parser_of old.window.features (seen_by s j)) told.rest (end_of old) (place_at code mid) left (rest mid) ops w
    pub read : (a : Around) → IsAround s old.window.features params a → (body a params (place_at code old)).parse (rest old) ≡ Ok ((place_at code mid, begins.declares.runs), ops)
    pub adds : AddsKept s.function (kept_by s.ids.all_locals params (length (declared begins.declares.runs)) (map (λ x. x.1) ops)) (map (renamed_value (at s.ids.types)) (declared begins.declares.runs)) ls ms s.ids j
    pub typed : type_at b 0 ≡ Some entry
    pub stands : (pick : BlockType → BlockType) → ArePicks (seen_by s j) pick → StandsAs (meaning (seen_by s j)) b (normal pick (tree_of (ops_from (place_at code mid) ops)))

  -- the validator was told of a first part of the body, and accepts all of it: some runs of its locals, or all of these and some operators
  abbrev pub PassesPart : List Local → List Local → Ids → V → V → Type 0
  PassesPart ls ms j v w =
      ((a : Around) → IsSeen old.window.features s.ids.types a → SomeRuns (run_told told.run) (run a) params (end_of old) v (rest old) w)
      ⊎ ((mid : Cursor) × (left : V) × Begins mid ls ms j v left × SomeOps (parser_of old.window.features (seen_by s j)) told.rest (end_of old) (place_at code mid) left (rest mid) w)

  -- its locals stand there, and behind operators that pass the next one is refused, or the end
  pub record FailsBehind (ls ms : List Local) (j : Ids) (v w : V) (e : BodyError) : Type 0 where
    pub mid : Cursor
    pub left : V
    pub begins : Begins mid ls ms j v left
    pub fails : FailOps (parser_of old.window.features (seen_by s j)) told.rest (end_of old) (place_at code mid) (seen_by s j) left (rest mid) w e

  -- the first refusal of it: among its locals, or behind them; of what is in front the validator was told, and of what it refuses itself
  abbrev pub Refuses : List Local → List Local → Ids → V → V → BodyError → Type 0
  Refuses ls ms j v w e =
      ((a : Around) → IsSeen old.window.features s.ids.types a → FailRuns (run_told told.run) (run a) params (end_of old) v (rest old) w e)
      ⊎ FailsBehind ls ms j v w e

  -- memory is wanted behind a part that passes; or it is refused so
  abbrev pub IsRefused : List Local → List Local → Ids → V → V → BodyError → Type 0
  IsRefused ls ms j v w e = ((e ≡ faults.Memory) × PassesPart ls ms j v w) ⊎ Refuses ls ms j v w e

  -- ---- in words of the grammar

  -- reading the body stops, for this fault
  abbrev pub StopsFor : Around → BodyError → Type 0
  StopsFor a e = (t : Stop) × ((body a params (place_at code old)).parse (rest old) ≡ Err t) × IsFaultOf (end_of old) t e

  -- the validator gives it as its answer
  abbrev pub Bars : BodyError → Type 0
  Bars e =
      ((v : V) × (offset : ℕ) × (r : Run) × ((run_told told.run v offset r).0 ≡ Some e)) ⊎ ((v : V) × (offset : ℕ) × (op : Seen) × ((told.rest.op v offset op).0 ≡ Some e))
      ⊎ ((v : V) × (offset : ℕ) × ((told.rest.finish v offset).0 ≡ Some e))

  -- there is no type for a handler
  abbrev pub Lacks : Ids → BodyError → Type 0
  Lacks j e = (offset : ℕ) × (ty : InstrSeqType) × (op : Seen) × LacksType (seen_by s j) ty op × (e ≡ faults.TypeForm (Some offset))

  -- where neither the validator nor a handler is to blame, the body doesn't read, and this is its fault
  abbrev pub IsCause : Ids → BodyError → Type 0
  IsCause j e = (a : Around) → IsAround s old.window.features params a → StopsFor a e ⊎ Bars e ⊎ Lacks j e
