-- The abstract module as runs see it.
use Rattle.std.specs.Prelude.{List, [], ◌∷◌, map, Option, Some, None, slice_get, slice_index_or}
use Rattle.walrus_forms.specs.Kinds.{Kind}
use Rattle.walrus_forms.specs.Forms.{params_of, results_of}
use Rattle.wasm_operators.specs.declared.block_type.BlockType.{BlockType}
use Rattle.wasm_operators.specs.declared.block_type.BlockType.TheVariants as blocks
use Rattle.wasm_operators.specs.Operators.{Seen}
use Rattle.wasm_grammar.specs.Modules.{Module, Function, Origin, Imported, Own, Body, Placed}
use Rattle.wasm_grammar.specs.States.{types_of}
use Rattle.wasm_grammar.specs.TypeWords.{value_from}
use Rattle.wasm_runs.specs.Programs.{Signature, Program}

abbrev pub own_body : Origin Body → Option (List Seen)
own_body (Imported n) = None
own_body (Own body) = Some (map (λ (o : Placed). o.op) body.operators)

abbrev pub body_of : Option Function → Option (List Seen)
body_of None = None
body_of (Some f) = own_body f.origin

-- of a type
abbrev pub kind_signature : Option Kind → Signature
kind_signature None = record { params = []; results = [] }
kind_signature (Some kind) = record { params = map value_from (params_of kind.form); results = map value_from (results_of kind.form) }

-- the parameters and results of a block type (Core Specification, execution: block types)
abbrev pub signature_in : Module → BlockType → Signature
signature_in m blocks.Empty = record { params = []; results = [] }
signature_in m (blocks.Value ty) = record { params = []; results = ty ∷ [] }
signature_in m (blocks.Type n) = kind_signature (slice_get (types_of m) n)

abbrev pub program_of : Module → Program
program_of m = record { body = λ f. body_of (slice_index_or m.functions f None); signature = signature_in m }
