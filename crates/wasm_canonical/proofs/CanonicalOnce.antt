-- Lemmas: canonical bytes are told by their module.
use Rattle.std.specs.Prelude.{◌≡◌}
use Rattle.std.proofs.Common.{ap, sym, ◌∙◌}
use Rattle.wasm_features.specs.declared.WasmFeatures.{WasmFeatures}
use Rattle.wasm_grammar.specs.Modules.{Module}
use Rattle.wasm_module_bytes.specs.Bytes.{without_places}
use Rattle.wasm_modules.specs.Laws.{ReadsOnce}
use Rattle.wasm_canonical.specs.Canonical.{CanonicalOnce, bytes_due, canonical_bytes}

told_by : (features : WasmFeatures) (m n : Module) → without_places m ≡ without_places n → canonical_bytes features m ≡ canonical_bytes features n
told_by features m n e = ap (bytes_due features) e

pub canonical_is_once : ReadsOnce → CanonicalOnce
canonical_is_once once features a b m n (k, reads, is) (l, other, also) one two e =
    is ∙ ap (canonical_bytes features) (once features a k m reads one) ∙ told_by features m n e ∙ sym (ap (canonical_bytes features) (once features b l n other two)) ∙ sym also
