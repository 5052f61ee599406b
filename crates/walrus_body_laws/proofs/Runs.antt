-- Lemmas: what is written for a body that was read runs as it does.
use Rattle.std.proofs.Common.{◌≡◌, List, [], ◌∷◌, map, ap, subst, sym, refl, ◌∙◌}
use Rattle.wasm_operators.specs.Items.{Labels}
use Rattle.wasm_operators.specs.Operators.{Seen}
use Rattle.wasm_operators.specs.NameLaws.{after}
use Rattle.wasm_operators.specs.Names.{Renaming, renamed_operator}
use Rattle.wasm_normal_form.specs.Normal.{normal_ops}
use Rattle.wasm_normal_form.specs.Roles.{Placed}
use Rattle.wasm_runs.specs.Programs.{operators as codes}
use Rattle.wasm_run_laws.specs.Laws.{NormalRunsRenamed, RunsRenamed}
use Rattle.wasm_run_laws.specs.Stands.{normal_code, renamed_code}
use Rattle.wasm_run_laws.proofs.Nested.{normal_unplaced}
use Rattle.walrus_body_trees.specs.Laws.{ops_of, renamed}
use Rattle.walrus_body_laws.specs.EmissionLaws.{ReadBodiesAreWritten}
use Rattle.walrus_body_laws.specs.Runs.{WrittenBodiesRunRenamed}

codes_renamed : (r : Renaming) (os : List Placed) → codes (map (renamed r) os) ≡ renamed_code r (codes os)
codes_renamed r [] = refl
codes_renamed r (o ∷ os) = ap (λ (rest : List Seen). renamed_operator r o.op ∷ rest) (codes_renamed r os)

pub written_run : ReadBodiesAreWritten → NormalRunsRenamed → WrittenBodiesRunRenamed
written_run written runs a params place bytes parts is s ids pick names own local stands r look sends keeps w here there picks types =
    let both : Renaming = after r ids in
    let ops = ops_of parts in
    let code : renamed_code both (normal_code pick (codes ops)) ≡ codes _ =
    ap (renamed_code both) (normal_unplaced pick ops) ∙ sym (codes_renamed both (normal_ops pick ops))
    ∙ ap codes (sym (written a params place bytes parts is s ids pick names own local stands r look sends keeps w)) in
    subst (λ (os : List Seen). RunsRenamed both here there (codes ops) os) code
    (runs here there both (λ n. ap (r Labels) (names.labels n) ∙ keeps n) pick picks (codes ops) types)
