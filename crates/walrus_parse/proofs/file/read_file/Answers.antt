use Rattle.std.proofs.Common.{arith}
use Rattle.std.proofs.lemmas.Result.{IfErr-weaker}
use Rattle.walrus_parse.specs.Refusals.{IsRefusal}
use Rattle.walrus_parse.proofs.RefusalLemmas.{sections_refused}
use Rattle.walrus_parse.proofs.file.read_file.Goals as goal

pub returns-clause-refused : goal.returns-clause-refused
returns-clause-refused c =
    IfErr-weaker c.read_sections.result _ (λ error. IsRefusal c.args.features c.args.wasm.now error)
    (λ error h. sections_refused c.args.features c.args.wasm.now error (omega (arith, c.if-wasm-gt-MAX_FILE.false)) h) c.read_sections.ensures.refused
