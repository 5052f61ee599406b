use Rattle.walrus_emit_code.proofs.CodeLemmas.{front_kept}
use Rattle.walrus_emit_code.proofs.code.seal.Goals as goal

pub returns-in_err-put_front-clause-keeps : goal.returns-in_err-put_front-clause-keeps
returns-in_err-put_front-clause-keeps c = front_kept _ _ _ c.in_err-put_front.ensures.1
