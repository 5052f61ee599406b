use Rattle.std.proofs.Common.{◌≡◌, ◌++◌, map, take}
use Rattle.wasm_formats.specs.declared.fault.Space.TheVariants as spaces
use Rattle.walrus_roots.specs.Items.{item}
use Rattle.walrus_reasons.proofs.names.add_functions.Given as goal

abbrev pub invariant-loop-function : goal.invariant-loop-function
invariant-loop-function l = l.named.items ≡ l.fn.named.items ++ map (item spaces.Function) (take l.function-index l.functions)
