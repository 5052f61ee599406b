-- Lemmas: the bytes that are due to a module read as it.
use Rattle.wasm_section_bytes.specs.Files.{file_bytes}
use Rattle.wasm_module_spellings.specs.Spelled.{ReadsIsSpelledAndRuled}
use Rattle.wasm_canonical.specs.Places.{PlacesAreNotRuled}
use Rattle.wasm_canonical.specs.Read.{DueModulesAreRead}
use Rattle.wasm_canonical.specs.Spelled.{DueModulesAreSpelled, file_due}

pub modules_read : ReadsIsSpelledAndRuled → DueModulesAreSpelled → PlacesAreNotRuled → DueModulesAreRead
modules_read reads spelled places features counted first last m dense ruled customs fits short =
    let one = spelled features counted first last m dense ruled customs fits in
    (one.0, reads.joins features (file_bytes features (file_due features counted first last m)) counted one.0 short one.1 (places features counted m one.0 one.2 ruled), one.2)
