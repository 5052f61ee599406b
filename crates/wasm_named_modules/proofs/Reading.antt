-- Lemmas: laws of modules with their names and producers.
use Rattle.std.specs.Prelude.{ℕ, List, ◌⊎◌, refl}
use Rattle.std.proofs.Common.{ap, sym, ◌∙◌, inl, inr}
use Rattle.wasm_features.specs.declared.WasmFeatures.{WasmFeatures}
use Rattle.wasm_formats.specs.Stops.{Trouble}
use Rattle.wasm_formats.specs.Formats.{Small}
use Rattle.wasm_grammar.specs.Modules.{Module}
use Rattle.wasm_modules.specs.Modules.{IsShort, Stops}
use Rattle.wasm_modules.specs.Read.{reads_once, read_dont_stop, read_or_stop}
use Rattle.wasm_named_modules.specs.Modules.{NamedModule, with_payloads, ReadsNamed, ReadingNames}

or_stop : (features : WasmFeatures) (bytes : List ℕ) → Small bytes → IsShort bytes → ((n : NamedModule) × ReadsNamed features bytes n) ⊎ ((trouble : Trouble) × (place : ℕ) × Stops features bytes trouble place)
or_stop features bytes small short = elim (read_or_stop features bytes small short) [
  | inl reads ↦ inl (with_payloads reads.0, (reads.0, reads.1, refl))
  | inr stops ↦ inr stops
]

pub reading_names : ReadingNames
reading_names = record {
  once = λ features bytes n k h g. sym h.2 ∙ ap (λ (m : Module). with_payloads m) (reads_once features bytes h.0 g.0 h.1 g.1) ∙ g.2;
  always = λ features bytes m h. (m, h, refl);
  or_stop = or_stop;
  dont_stop = λ features bytes n trouble place h stops. read_dont_stop features bytes h.0 trouble place h.1 stops;
}
