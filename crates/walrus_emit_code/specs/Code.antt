-- What is due for the bodies of functions (Core Specification, binary format: code section). A body's locals have their numbers from the time on at
-- which it is written.
use Rattle.std.specs.Prelude.{ℕ, ◌+◌, List, [], ◌∷◌, ◌++◌, length, map, Option, Some, None, Ok, Err, if◌then◌else◌, nat_lt, slice_get}
use Rattle.std.specs.List.{filter_map, flat_map, fold}
use Rattle.wasm_formats.specs.declared.fault.Limited.TheVariants.{Body, Locals}
use Rattle.wasm_formats.specs.declared.fault.Space.TheVariants.{Function as FunctionSpace}
use Rattle.walrus_arena.specs.Arena.{Arena, item_at}
use Rattle.wasm_operators.specs.Operators.{Seen}
use Rattle.wasm_operators.specs.Bytes.{operator_bytes}
use Rattle.wasm_normal_form.specs.Locals.{runs_of}
use Rattle.walrus_index_maps.specs.Maps.{Indices}
use Rattle.walrus_items.specs.declared.local.Local.{Local}
use Rattle.walrus_instr.specs.declared.seq.InstrSeq.{InstrSeq}
use Rattle.walrus_errors.specs.declared.error.ModuleError.TheVariants.{DeadReference, NotLinked}
use Rattle.walrus_body_writer.specs.walrus_body_env.Refusals.{module_error}
use Rattle.walrus_body_writer.specs.walrus_pairing.Looks.{Look, Or, number_of}
use Rattle.walrus_body_writer.specs.walrus_tree.Text.{operators}
use Rattle.walrus_body_writer.specs.walrus_tree.walrus_builder.Functions.{seqs_of}
use Rattle.walrus_body_writer.specs.Refusals.{fault_of}
use Rattle.walrus_body_writer.specs.Spelled.{Text, written as written_piece}
use Rattle.walrus_local_numbers.specs.Declared.{declared, local_ids, with_numbers}
use Rattle.walrus_local_numbers.specs.Written.{Run, WrittenRun, runs_bytes, written_runs}
use Rattle.walrus_local_function.specs.declared.local_function.LocalFunction.{LocalFunction}
use Rattle.walrus_module_items.specs.declared.function.Function.{Function}
use Rattle.walrus_module_items.specs.Functions.{local_of}
use Rattle.walrus_emit_parts.specs.Due.{Due, lacking, limited, number, section, sized, written}
use Rattle.walrus_emit_numbers.specs.declared.facts.BodyFacts.{BodyFacts}

-- ---- one body

abbrev pub or_lacking : {A : Type 0} → (A → Due) → Or A → Due
or_lacking due (Ok x) = due x
or_lacking due (Err e) = lacking (module_error (fault_of e))

-- declarations of locals, in runs of one type
abbrev pub runs_due : (ℕ → Option ℕ) → List Run → Due
runs_due types runs = or_lacking (λ (rs : List WrittenRun). written (runs_bytes rs)) (written_runs types runs)

abbrev pub operator_due : Option Seen → Due
operator_due None = []
operator_due (Some op) = written (operator_bytes op)

-- the operators of a text
abbrev pub text_due : Look → List InstrSeq → Text → Due
text_due look seqs text = flat_map (λ p. or_lacking operator_due (written_piece look seqs p.0)) text

-- the numbers, with those of a function's locals: its arguments come first, then those that it declares
abbrev pub with_locals : List Local → ℕ → LocalFunction → List ℕ → Indices → Indices
with_locals locals function local used i = record i { locals = with_numbers function 0 (local_ids locals local.args.items used) i.locals }

abbrev pub declarations : List Local → LocalFunction → List ℕ → Indices → Due
declarations locals local used i = runs_due i.types.number (runs_of (map (λ k. k.0) (declared locals local.args.items used)))

abbrev pub operators_due : ℕ → LocalFunction → Indices → Due
operators_due function local i = text_due (number_of i function) (seqs_of local.builder) (operators (seqs_of local.builder) 0)

-- so many, or one more than a number, whichever is more
abbrev pub behind : ℕ → Option ℕ → ℕ
behind count None = count
behind count (Some n) = if nat_lt count (n + 1) then n + 1 else count

-- how many locals it has, of so many arguments
abbrev pub local_count : (ℕ → Option ℕ) → ℕ → List ℕ → ℕ
local_count numbers arguments used = fold (λ (count id : ℕ). behind count (numbers id)) arguments used

-- what a body is made of: of at most so many locals and bytes as a reader takes
abbrev pub contents : List Local → ℕ → LocalFunction → List ℕ → Indices → Due
contents locals function local used i =
    let numbered = with_locals locals function local used i in
    let all = declarations locals local used i ++ operators_due function local numbered in
    limited 50000 (local_count (numbered.locals function) (length local.args.items) used) Locals (limited 7654321 (length all) Body all)

-- ---- all of them

-- the facts at these positions
abbrev pub facts_at : List BodyFacts → List ℕ → List BodyFacts
facts_at facts order = filter_map (λ (at : ℕ). slice_get facts at) order

module _ (locals : List Local) (functions : Arena Function) where
  abbrev pub kind_due : Indices → BodyFacts → Option LocalFunction → Due
  kind_due i facts None = lacking NotLinked
  kind_due i facts (Some local) = sized (contents locals facts.function local facts.used_locals.items i)

  abbrev pub slot_due : Indices → BodyFacts → Option Function → Due
  slot_due i facts None = lacking (DeadReference FunctionSpace)
  slot_due i facts (Some f) = kind_due i facts (local_of f.kind)

  -- a function's body, of which this is known
  abbrev pub body_due : Indices → BodyFacts → Due
  body_due i facts = slot_due i facts (item_at functions facts.function)

  abbrev pub kind_numbers : Indices → BodyFacts → Option LocalFunction → Indices
  kind_numbers i facts None = i
  kind_numbers i facts (Some local) = with_locals locals facts.function local facts.used_locals.items i

  abbrev pub slot_numbers : Indices → BodyFacts → Option Function → Indices
  slot_numbers i facts None = i
  slot_numbers i facts (Some f) = kind_numbers i facts (local_of f.kind)

  -- the numbers behind it
  abbrev pub body_numbers : Indices → BodyFacts → Indices
  body_numbers i facts = slot_numbers i facts (item_at functions facts.function)

  -- the bodies, one behind another
  abbrev pub bodies_due : Indices → List BodyFacts → Due
  bodies_due i [] = []
  bodies_due i (f ∷ fs) = body_due i f ++ bodies_due (body_numbers i f) fs

  abbrev pub bodies_numbers : Indices → List BodyFacts → Indices
  bodies_numbers i fs = fold body_numbers i fs

  -- the code section; none where there is no body
  abbrev pub code : Indices → List BodyFacts → Due
  code i [] = []
  code i (f ∷ fs) = section 10 (number (length (f ∷ fs)) ++ bodies_due i (f ∷ fs))
