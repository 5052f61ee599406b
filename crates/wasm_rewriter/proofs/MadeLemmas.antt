-- How a rewriting is made.
use Rattle.std.proofs.Common.{ℕ, ◌≡◌, ◌∙◌, Bool, true, false, List, Option, Some, None, Result, Ok, Err, IfOk, refl, ap, is_some, option_map, vec_items}
use Rattle.walrus_emit.specs.walrus_emit_code.declared.emission.Emission.{Emission}
use Rattle.walrus_module.specs.declared.module.Module.{Module}
use Rattle.walrus_parse.specs.Parsed.{IsRead}
use Rattle.wasm_rewriter.specs.declared.fault.Fault.{Fault}
use Rattle.wasm_rewriter.specs.declared.none.NoSection.{NoSection}
use Rattle.wasm_rewriter.specs.declared.options.Options.{Options}
use Rattle.wasm_rewriter.specs.declared.rewriting.Rewritten.{Rewritten}
use Rattle.wasm_rewriter.specs.Made.{IsRewritten, WritesWhatIsKept, if_asked}
use Rattle.wasm_rewriter.specs.Rewrites.{IsAccepted, config_of}

-- there are pairs where they are asked for
asked_of : (asked : Bool) (pairs : List (ℕ × ℕ)) → is_some (if_asked asked pairs) ≡ asked
asked_of true pairs = refl
asked_of false pairs = refl

-- what stands in the answer was made
pub made_of : (o : Options) (input : List ℕ) (read left : Module NoSection) (emission : Emission) (r : Result Rewritten Fault) → IsAccepted o input → IsRead (config_of o) input read
    → WritesWhatIsKept read left emission → IfOk r (λ out. out.bytes.items ≡ emission.bytes.items) → IfOk r (λ out. option_map vec_items out.places ≡ if_asked o.places emission.locations.items)
    → IfOk r (λ out. IsRewritten o input out.bytes.items (option_map vec_items out.places))
made_of o input read left emission (Ok out) accepted is_read writes bytes pairs = record {
  reads = accepted;
  asked = ap is_some pairs ∙ asked_of o.places emission.locations.items;
  made = record { read = read; is_read = is_read; left = left; emission = emission; writes = writes; bytes_are = bytes; pairs_are = pairs };
}
made_of o input read left emission (Err fault) accepted is_read writes bytes pairs = tt
