-- Laws of locations that are sent through a callback.
use Rattle.std.specs.Prelude.{ℕ, ◌≡◌, ◌<◌, map, nat_lt, if◌then◌else◌}
use Rattle.std.specs.Option.{option_map}
use Rattle.std.specs.Vec.{with_items}
use Rattle.walrus_arena.specs.Arena.{Arena}
use Rattle.walrus_builder.specs.declared.function.FunctionBuilder.{FunctionBuilder}
use Rattle.walrus_builder.specs.Functions.{seqs_of}
use Rattle.walrus_collections.specs.walrus_module_items.declared.function.Function.{Function}
use Rattle.walrus_collections.specs.walrus_module_items.declared.function.FunctionKind.{FunctionKind}
use Rattle.walrus_collections.specs.walrus_module_items.declared.function.FunctionKind.TheVariants.{Local}
use Rattle.walrus_walks.specs.walrus_instr.declared.instr.Instr.{Instr}
use Rattle.walrus_walks.specs.walrus_instr.declared.seq.InstrLocId.{InstrLocId}
use Rattle.walrus_walks.specs.walrus_instr.declared.seq.InstrSeq.{InstrSeq}
use Rattle.walrus_locations.specs.Sent.{FunctionsSent}

-- ---- each location replaced by what this gives for its number
module _ (of : ℕ → InstrLocId) where
  -- what stands for none stays
  abbrev pub location_by : InstrLocId → InstrLocId
  location_by place = if nat_lt place.0 4294967295 then of place.0 else place

  abbrev pub item_by : Instr × InstrLocId → Instr × InstrLocId
  item_by item = (item.0, location_by item.1)

  abbrev pub seq_by : InstrSeq → InstrSeq
  seq_by s = record s { instrs = with_items s.instrs (map item_by s.instrs.items); end = location_by s.end }

  abbrev pub body_by : FunctionBuilder → FunctionBuilder
  body_by b = record b { builder = record b.builder { seqs = map seq_by (seqs_of b) } }

  abbrev pub kind_by : FunctionKind → FunctionKind
  kind_by (Local local) = Local (record local { builder = body_by local.builder })
  kind_by kind = kind

  abbrev pub function_by : Function → Function
  function_by function = record function { kind = kind_by function.kind }

  abbrev pub functions_by : Arena Function → Arena Function
  functions_by functions = record functions { slots = map (option_map function_by) functions.slots }

-- ---- what a callback leaves that answers so
module _ {F : Type 0} (step : F → ℕ → InstrLocId → F → Type 0) where
  -- whatever state it is in, it answers this for the number of a location
  abbrev pub Answers : (ℕ → InstrLocId) → Type 0
  Answers of = (f g : F) (place : ℕ) (answer : InstrLocId) → place < 4294967295 → step f place answer g → answer ≡ of place

  -- then each location is replaced by that, and nothing else changes
  abbrev pub AnswersReplace : Type 0
  AnswersReplace = (of : ℕ → InstrLocId) → Answers of → (f g : F) (functions after : Arena Function) → FunctionsSent step f functions g after → after ≡ functions_by of functions

  -- where it answers the location of each number, nothing changes
  abbrev pub LocationsStay : Type 0
  LocationsStay = Answers (λ place. record { 0 = place }) → (f g : F) (functions after : Arena Function) → FunctionsSent step f functions g after → after ≡ functions
