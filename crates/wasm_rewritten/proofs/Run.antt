-- Lemmas: runs of what is written are the file's, renamed.
use Rattle.std.specs.Prelude.{List, map}
use Rattle.std.proofs.Common.{sym, subst}
use Rattle.wasm_operators.specs.Items.{Functions}
use Rattle.wasm_normal_form.specs.Laws.{TreeIsOne, NormalNests}
use Rattle.wasm_part.specs.Part.{IsIn}
use Rattle.wasm_run_laws.specs.wasm_runs.Laws.{EachRunEnds, OneTrace}
use Rattle.wasm_run_laws.specs.wasm_runs.Modules.{program_of}
use Rattle.wasm_run_laws.specs.wasm_runs.Outcomes.{Ending}
use Rattle.wasm_run_laws.specs.wasm_runs.Programs.{Event}
use Rattle.wasm_run_laws.specs.wasm_runs.Renamed.{renamed_event, renamed_outcome}
use Rattle.wasm_run_laws.specs.wasm_runs.Traces.{Trace}
use Rattle.wasm_run_laws.proofs.Modules.{normal_runs_correspond}
use Rattle.wasm_rewritten.specs.Runs.{CorrespondingRuns, EntriesAreKept, WrittenRunsTheSame, WrittenStandsNormal, maps_of, pick_in}

pub runs_same : WrittenStandsNormal → TreeIsOne → NormalNests → WrittenRunsTheSame
runs_same stands one nests place keep features more file n t p s asked =
    normal_runs_correspond one nests (IsIn p Functions) (maps_of features file p) (pick_in features file) (program_of file) (program_of n) (stands place keep features more file n t p s asked)

pub runs_correspond : WrittenRunsTheSame → EntriesAreKept → EachRunEnds → OneTrace → CorrespondingRuns
runs_correspond runs entries ends one place keep features more file n t p s asked f entry outcomes fits bound others ending =
    let r = maps_of features file p in
    let kept = entries place keep features more file n t p s f entry in
    let same = runs place keep features more file n t p s asked f kept outcomes fits bound in
    let T : List Event → Ending → Type 0 = λ vs e. Trace (program_of n) (p.renames Functions f) (map (renamed_outcome (p.renames Functions)) outcomes) bound vs e in (
      λ run.
          let here = ends (program_of file) f outcomes bound in
          let both = one (program_of n) (p.renames Functions f) (map (renamed_outcome (p.renames Functions)) outcomes) bound others (map (renamed_event r) here.0) ending here.1 run (same here.0 here.1 here.2) in
          (here.0, subst (λ (e : Ending). Trace (program_of file) f outcomes bound here.0 e) (sym both.1) here.2, both.0),
      λ h. subst (λ (vs : List Event). T vs ending) (sym h.2) (same h.0 ending h.1),
    )
