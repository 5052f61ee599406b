-- The bodies of functions that meet the rules are spelled by their shortest bytes, wherever these stand (Core Specification, binary format: code section).
use Rattle.std.specs.Prelude.{ℕ, ◌<◌, ◌^◌, ◌≡◌, List, [], ◌∷◌, length, map, Option}
use Rattle.std.specs.List.{filter_map}
use Rattle.wasm_grammar.specs.Modules.{Origin, Imported, Own, Placed, Body, Function}
use Rattle.wasm_grammar.specs.States.{Chunk}
use Rattle.wasm_body_grammar.specs.Rules.{Around}
use Rattle.wasm_body_grammar.specs.Bodies.{next_total, run}
use Rattle.wasm_body_grammar.specs.Codes.{coded, own_type, param_count, with_bodies}
use Rattle.wasm_format_bytes.specs.Lists.{EntriesFit}
use Rattle.wasm_grammar_bytes.specs.Bodies.{operator_writer, run_writer}
use Rattle.wasm_grammar_bytes.specs.Maximal.{maximal_of}
use Rattle.wasm_module_bytes.specs.Bytes.{slot_unplaced}
use Rattle.wasm_module_rules.specs.Linked.{Each}
use Rattle.wasm_module_spellings.specs.Spelled.{SpellsCodes}
use Rattle.wasm_ruled_modules.specs.Rules.{OriginRuled, bare_slot}
use Rattle.wasm_canonical.specs.Due.{own_bytes}

-- each operator has a spelling
abbrev pub OperatorsFit : Around → List Placed → Type 0
OperatorsFit a [] = Unit {0}
OperatorsFit a (p ∷ ps) = (operator_writer a.features).fits p.op × OperatorsFit a ps

-- what is in a body is within the limits of the format
pub record BodyFits (a : Around) (params : ℕ) (x : Body) : Type 0 where
  pub few : length (maximal_of x.locals) < 2 ^ 32
  pub runs : EntriesFit next_total (run a) (run_writer a) params (maximal_of x.locals)
  pub operators : OperatorsFit a x.operators

abbrev pub OriginFits : Around → ℕ → Origin Body → Type 0
OriginFits a params (Imported n) = Unit {0}
OriginFits a params (Own x) = BodyFits a params x

abbrev pub bytes_of : List Chunk → List (List ℕ)
bytes_of cs = map (λ (c : Chunk). c.bytes) cs

-- chunks of these bytes, wherever they stand, spell the functions, places aside
abbrev pub SpellsFunctions : Around → List (Option Function) → List Chunk → Type 0
SpellsFunctions a fs cs =
    (ys : List Body) × SpellsCodes a (coded a.filled (filter_map own_type fs) cs) ys × (map slot_unplaced (with_bodies (map bare_slot fs) ys) ≡ map slot_unplaced fs)

abbrev pub DueBodiesAreSpelled : Type 0
DueBodiesAreSpelled = (a : Around) (fs : List (Option Function)) (cs : List Chunk) → bytes_of cs ≡ filter_map (own_bytes a) fs
    → Each (λ (f : Function). OriginRuled a (param_count a.filled f.ty) f.origin) fs → Each (λ (f : Function). OriginFits a (param_count a.filled f.ty) f.origin) fs → SpellsFunctions a fs cs
