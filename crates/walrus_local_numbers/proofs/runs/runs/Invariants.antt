use Rattle.std.proofs.Common.{◌≡◌, map, take}
use Rattle.wasm_normal_form.specs.Locals.{Key, runs_of}
use Rattle.walrus_local_numbers.proofs.runs.runs.Given as goal

abbrev pub invariant-loop-key : goal.invariant-loop-key
invariant-loop-key l = l.runs.items ≡ runs_of (map (λ (k : Key). k.0) (take l.key-index l.keys))
