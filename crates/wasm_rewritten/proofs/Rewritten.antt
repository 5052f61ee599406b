-- Lemmas: what is asked of a file holds of each that is read.
use Rattle.std.specs.Prelude.{true, refl}
use Rattle.std.proofs.Common.{sym, subst}
use Rattle.std.specs.Prelude.{List}
use Rattle.walrus_forms.specs.Records.{TypeGroup}
use Rattle.wasm_ruled_modules.specs.Rules.{around_bodies}
use Rattle.wasm_normal_modules.specs.Modules.{ReadModulesMeetRules}
use Rattle.wasm_merged_modules.specs.Merged.{MissingKindsAreNew, NewKindsStandBehind, StandBehind, once}
use Rattle.wasm_part.specs.Handlers.{HandlersAreMissing, handler_groups, lacking}
use Rattle.wasm_rewritten.specs.Runs.{CorrespondingRuns, ReadFilesAreAsked, RewrittenRunsCorrespond}

pub files_asked : ReadModulesMeetRules → NewKindsStandBehind → MissingKindsAreNew → ReadFilesAreAsked
files_asked rules behind new features bytes file more reads has =
    let ruled = rules features bytes file reads in
    let own = behind features true file (once has.0) ruled.groups (new file.groups has.0 ruled.groups has.1) in
    (ruled, subst (λ (gs : List TypeGroup). StandBehind (around_bodies features true file) gs) (sym has.2) own)

pub rewritten_correspond : ReadFilesAreAsked → HandlersAreMissing → CorrespondingRuns → RewrittenRunsCorrespond
rewritten_correspond asked missing runs place names producers keep features input bytes places w =
    let more = handler_groups w.file in
    runs place keep features more w.file w.n w.t w.p w.stands (asked features input w.file more w.reads (lacking w.file, missing features input w.file w.reads, refl))
