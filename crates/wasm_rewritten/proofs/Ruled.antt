-- Lemmas: the part that is written of a file meets the rules.
use Rattle.std.specs.Prelude.{true}
use Rattle.wasm_grammar.specs.Modules.{Function}
use Rattle.wasm_ruled_modules.specs.Rules.{around_bodies}
use Rattle.wasm_normal_modules.specs.Modules.{ReadModulesMeetRules}
use Rattle.walrus_forms.specs.Renaming.{at}
use Rattle.wasm_merged_modules.specs.Merged.{MergedFilesAreRuled, MissingKindsAreNew, NewKindsStandBehind, ids_of, merged_module, once}
use Rattle.wasm_part.specs.Handlers.{HandlersAreMissing, handler_groups, lacking}
use Rattle.wasm_part.specs.Kept.{BodyPicked}
use Rattle.wasm_part.specs.Open.{SpelledBlocksOpen}
use Rattle.wasm_part.specs.Written.{KeptPartsAreRuled}
use Rattle.wasm_part.proofs.Picked.{each_at}
use Rattle.wasm_rewritten.specs.Orderly.{ReadFilesAreOrderly}
use Rattle.wasm_rewritten.specs.Ruled.{FilesNameTheirLocals, ReadFilesArePicked, WrittenPartsAreRuled}
use Rattle.wasm_rewritten.proofs.Opened.{functions_picked, read_shows}

pub files_picked : SpelledBlocksOpen → HandlersAreMissing → MergedFilesAreRuled → ReadFilesArePicked
files_picked open_so missing ruled place features bytes file reads =
    let both = ruled place features bytes file (lacking file) reads (missing features bytes file reads) in
    let m = merged_module place features true (handler_groups file) file in
    (both.0, functions_picked place (around_bodies features true file) (around_bodies features true m) (at (ids_of file.groups)) file.functions (read_shows open_so features bytes file reads) both.1)

pub parts_ruled : ReadFilesArePicked → FilesNameTheirLocals → ReadFilesAreOrderly → HandlersAreMissing → ReadModulesMeetRules → NewKindsStandBehind → MissingKindsAreNew → KeptPartsAreRuled → WrittenPartsAreRuled
parts_ruled picked named orderly missing rules behind new kept place keep features counted bytes file t p reads writes counts =
    let more = handler_groups file in
    let m = merged_module place features true more file in
    let own = rules features bytes file reads in
    let stands = behind features true file (once (lacking file)) own.groups (new file.groups (lacking file) own.groups (missing features bytes file reads)) in
    let all = picked place features bytes file reads in
    let first = orderly place features bytes more file reads in
    kept features true counted _ _ _ t p writes first.1
    (λ i n at f slot. (each_at (λ (f : Function). BodyPicked (around_bodies features true m) f.origin) m.functions n f all.1 slot, named place features more file own stands n f slot, counts i n at f slot)) all.0
