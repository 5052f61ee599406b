-- The part looks at the listed slots alone: modules in which these agree have one part, as a module has with the one in which all else was deleted.
use Rattle.std.specs.Prelude.{ℕ, ◌≡◌, List, Option, Some, None, slice_get, slice_index_or}
use Rattle.wasm_operators.specs.Items.{Functions, Tables, Memories, Tags, Globals, ElementSegments, DataSegments}
use Rattle.wasm_grammar.specs.Modules.{Module}
use Rattle.wasm_part.specs.Part.{Plan, part}

-- the slots of these numbers are the same
abbrev pub SlotsAgree : {A : Type 0} → List ℕ → List (Option A) → List (Option A) → Type 0
SlotsAgree ns xs ys = (i n : ℕ) → slice_get ns i ≡ Some n → slice_index_or xs n None ≡ slice_index_or ys n None

pub record AgreeOn (p : Plan) (m k : Module) : Type 0 where
  pub imports : SlotsAgree p.imports m.imports k.imports
  pub functions : SlotsAgree (p.listed Functions) m.functions k.functions
  pub tables : SlotsAgree (p.listed Tables) m.tables k.tables
  pub memories : SlotsAgree (p.listed Memories) m.memories k.memories
  pub tags : SlotsAgree (p.listed Tags) m.tags k.tags
  pub globals : SlotsAgree (p.listed Globals) m.globals k.globals
  pub exports : SlotsAgree p.exports m.exports k.exports
  pub start : m.start ≡ k.start
  pub elements : SlotsAgree (p.listed ElementSegments) m.elements k.elements
  pub segments : SlotsAgree (p.listed DataSegments) m.segments k.segments

abbrev pub PartsAgree : Type 0
PartsAgree = (p : Plan) (m k : Module) → AgreeOn p m k → part p m ≡ part p k
