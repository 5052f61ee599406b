-- The part that is written of a file meets the rules.
use Rattle.std.specs.Prelude.{ℕ, ◌≡◌, Bool, true, List, [], Option, Some, None, slice_get, slice_index_or}
use Rattle.walrus_forms.specs.Records.{TypeGroup}
use Rattle.walrus_types.specs.Table.{Table}
use Rattle.wasm_features.specs.declared.WasmFeatures.{WasmFeatures}
use Rattle.wasm_operators.specs.Items.{Functions}
use Rattle.wasm_grammar.specs.Modules.{Function, Module}
use Rattle.wasm_modules.specs.Modules.{Reads}
use Rattle.wasm_module_rules.specs.Linked.{Each}
use Rattle.wasm_ruled_modules.specs.Rules.{around_bodies}
use Rattle.wasm_normal_modules.specs.Modules.{MeetsRules}
use Rattle.wasm_merged_modules.specs.Merged.{StandBehind, merged_module}
use Rattle.wasm_part.specs.Part.{Plan, part}
use Rattle.wasm_part.specs.Handlers.{handler_groups}
use Rattle.wasm_part.specs.Kept.{BodyCounts, BodyPicked, LocalsNamed}
use Rattle.wasm_part.specs.Seen.{file_seen}
use Rattle.wasm_part.specs.Written.{WritesKept}

-- the types of the locals that a normal form declares are among what its function names, as each of them is used
abbrev pub FilesNameTheirLocals : Type 0
FilesNameTheirLocals = (place : Option ℕ → ℕ) (features : WasmFeatures) (more : List TypeGroup) (file : Module) → MeetsRules features true file → StandBehind (around_bodies features true file) more
    → (n : ℕ) (f : Function) → slice_index_or (merged_module place features true more file).functions n None ≡ Some f → LocalsNamed (file_seen place features more file) n f f.origin

-- the normal form of a file that is read meets the rules with its types merged and those of its handlers behind them, and each block type in it is its own pick
abbrev pub ReadFilesArePicked : Type 0
ReadFilesArePicked = (place : Option ℕ → ℕ) (features : WasmFeatures) (bytes : List ℕ) (file : Module) → Reads features bytes file
    → (let m = merged_module place features true (handler_groups file) file in
    MeetsRules features true m × Each (λ (f : Function). BodyPicked (around_bodies features true m) f.origin) m.functions)

-- so the part of it that has just what is kept meets the rules, renumbered, with a data count section where one of its bodies asks for one
abbrev pub WrittenPartsAreRuled : Type 0
WrittenPartsAreRuled = (place : Option ℕ → ℕ) (keep : Bool) (features : WasmFeatures) (counted : Bool) (bytes : List ℕ) (file : Module) (t : Table) (p : Plan) → Reads features bytes file
    → WritesKept (file_seen place features (handler_groups file) file) keep [] t p
    → (let m = merged_module place features true (handler_groups file) file in
    ((i n : ℕ) → slice_get (p.listed Functions) i ≡ Some n → (f : Function) → slice_index_or m.functions n None ≡ Some f → BodyCounts counted f.origin) → MeetsRules features counted (part p m))
