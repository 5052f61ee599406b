-- Laws of shortest spellings.
use Rattle.std.specs.Prelude.{ℕ, ◌≤◌, List, length}
use Rattle.wasm_features.specs.declared.WasmFeatures.{WasmFeatures}
use Rattle.wasm_formats.specs.Formats.{Small}
use Rattle.wasm_formats.specs.Wholes.{u32}
use Rattle.wasm_format_bytes.specs.Writers.{u32_writer}
use Rattle.wasm_grammar.specs.Values.{u64, name, value_type, ref_type, limits}
use Rattle.wasm_body_grammar.specs.Rules.{Around}
use Rattle.wasm_body_grammar.specs.Bodies.{operator, runs}
use Rattle.wasm_grammar_bytes.specs.Values.{u64_writer, name_writer, value_type_writer, ref_type_writer, limits_writer}
use Rattle.wasm_grammar_bytes.specs.Bodies.{operator_writer, runs_writer}

-- what is within the limits is spelled so, and by nothing shorter; what has a spelling is within the limits
pub record SpellsShortest {A : Type 0} (spells : List ℕ → A → Type 0) (fits : A → Type 0) (bytes : A → List ℕ) : Type 0 where
  pub written : (x : A) → fits x → spells (bytes x) x
  pub short : (others : List ℕ) (x : A) → Small others → spells others x → fits x × (length (bytes x) ≤ length others)

-- numbers, names, types, limits, runs of locals and operators have shortest spellings
pub record ValuesAreShortest : Type 0 where
  pub u32s : SpellsShortest u32.spells u32_writer.fits u32_writer.bytes
  pub u64s : SpellsShortest u64.spells u64_writer.fits u64_writer.bytes
  pub names : SpellsShortest name.spells name_writer.fits name_writer.bytes
  pub types : (features : WasmFeatures) (count : ℕ) → SpellsShortest (value_type features count).spells (value_type_writer features count).fits (value_type_writer features count).bytes
  pub references : (features : WasmFeatures) (count : ℕ) → SpellsShortest (ref_type features count).spells (ref_type_writer features count).fits (ref_type_writer features count).bytes
  pub limit : (bound : ℕ) → SpellsShortest (limits bound).spells (limits_writer bound).fits (limits_writer bound).bytes
  pub operators : (features : WasmFeatures) → SpellsShortest (operator features).spells (operator_writer features).fits (operator_writer features).bytes
  pub locals : (a : Around) (params : ℕ) → SpellsShortest (runs a params).spells (runs_writer a params).fits (runs_writer a params).bytes

pub values_are_shortest : ValuesAreShortest
values_are_shortest = record {
  u32s = record { written = u32_writer.written; short = u32_writer.short };
  u64s = record { written = u64_writer.written; short = u64_writer.short };
  names = record { written = name_writer.written; short = name_writer.short };
  types = λ features count. let w = value_type_writer features count in record { written = w.written; short = w.short };
  references = λ features count. let w = ref_type_writer features count in record { written = w.written; short = w.short };
  limit = λ bound. let w = limits_writer bound in record { written = w.written; short = w.short };
  operators = λ features. let w = operator_writer features in record { written = w.written; short = w.short };
  locals = λ a params. let w = runs_writer a params in record { written = w.written; short = w.short };
}
