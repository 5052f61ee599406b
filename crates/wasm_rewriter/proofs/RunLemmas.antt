-- A run by what became of its input.
use Rattle.std.proofs.Common.{ℕ, ◌≡◌, ◌∙◌, true, false, List, Option, Some, None, Result, Ok, Err, refl, ap, inl, inr}
use Rattle.rewriter_devices.specs.Input.{IsInput}
use Rattle.walrus_errors.specs.declared.error.ModuleError.{ModuleError}
use Rattle.walrus_errors.specs.declared.error.ModuleError.TheVariants as errors
use Rattle.wasm_rewriter.specs.declared.fault.Fault.{Fault}
use Rattle.wasm_rewriter.specs.declared.fault.Fault.TheVariants as faults
use Rattle.wasm_rewriter.specs.declared.options.Options.{Options}
use Rattle.wasm_rewriter.specs.declared.running.Summary.{Summary}
use Rattle.wasm_rewriter.specs.Faults.{fault_of}
use Rattle.wasm_rewriter.specs.Made.{IsRewritten}
use Rattle.wasm_rewriter.specs.Rewrites.{IsRefused}
use Rattle.wasm_rewriter.specs.Run.{Device, Writes, Runs, pairs_of, tells_of_bytes, tells_of_device}

pub written_runs : (o : Options) (source sink places : Device) (input bytes : List ℕ) (pairs : Option (List (ℕ × ℕ))) (answer : Result Summary Fault)
    → IsInput source.before source.after input → IsRewritten o input bytes pairs → Writes bytes (pairs_of pairs) sink places answer → Runs o source sink places answer
written_runs o source sink places input bytes pairs (Ok summary) i r w = record { input = input; bytes = bytes; pairs = pairs; is_input = i; rewritten = r; written = w }
written_runs o source sink places input bytes pairs (Err (faults.WriterFault n)) i r w = record { input = input; bytes = bytes; pairs = pairs; is_input = i; rewritten = r; written = w }
written_runs o source sink places input bytes pairs (Err (faults.PlacesFault n)) i r w = record { input = input; bytes = bytes; pairs = pairs; is_input = i; rewritten = r; written = w }
written_runs o source sink places input bytes pairs (Err fault) i r w = absurd w

of_module : (error : ModuleError) → tells_of_device (fault_of error) ≡ false
of_module (errors.Unsupported form None) = refl
of_module (errors.Unsupported form (Some offset)) = refl
of_module error = refl

-- what is refused tells of no device
of_input : (o : Options) (input : List ℕ) (fault : Fault) → IsRefused o input fault → tells_of_device fault ≡ false
of_input o input fault (inl u) = ap tells_of_device u.fault_is ∙ of_module u.error
of_input o input fault (inr l) = ap tells_of_device l.fault_is

pub refused_runs : (o : Options) (source sink places : Device) (input : List ℕ) (fault : Fault)
    → IsInput source.before source.after input → IsRefused o input fault → Runs o source sink places (Err fault)
refused_runs o source sink places input faults.ReaderFault i r = let bad : true ≡ false = of_input o input faults.ReaderFault r in absurd cc
refused_runs o source sink places input (faults.WriterFault n) i r = let bad : true ≡ false = of_input o input (faults.WriterFault n) r in absurd cc
refused_runs o source sink places input (faults.PlacesFault n) i r = let bad : true ≡ false = of_input o input (faults.PlacesFault n) r in absurd cc
refused_runs o source sink places input faults.Memory i r = (input, i.at_most, i.read)
refused_runs o source sink places input fault i r = record { input = input; is_input = i; refused = r }

-- nor of any bytes
pub refused_untold : {A : Type 0} (o : Options) (input : List ℕ) (fault : Fault) → IsRefused o input fault → tells_of_bytes (Err fault) ≡ true → A
refused_untold o input (faults.PlacesFault n) r told = let bad : true ≡ false = of_input o input (faults.PlacesFault n) r in cc
refused_untold o input fault r told = cc
