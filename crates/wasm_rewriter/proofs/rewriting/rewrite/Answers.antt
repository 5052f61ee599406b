use Rattle.std.proofs.Common.{◌≡◌, inl}
use Rattle.std.proofs.lemmas.Result.{err_from_is_err_and, IfErr-weaker}
use Rattle.wasm_rewriter.proofs.MadeLemmas.{made_of}
use Rattle.wasm_rewriter.proofs.RefusalLemmas.{accepted_told, may_refuse, read_long, read_refused, refused_long}
use Rattle.wasm_rewriter.specs.Rewrites.{IsAccepted, MayBeRefused}
use Rattle.wasm_rewriter.proofs.rewriting.rewrite.Goals as goal

pub returns-in_err-input-clause-refused : goal.returns-in_err-input-clause-refused
returns-in_err-input-clause-refused c =
    let p = err_from_is_err_and c.from_residual.result c.from_residual.ensures.1 in
    rw (p.1, p.2) (inl c.in_err-input.ensures.refused)

pub returns-in_err-input-clause-too_long : goal.returns-in_err-input-clause-too_long
returns-in_err-input-clause-too_long c =
    let p = err_from_is_err_and c.from_residual.result c.from_residual.ensures.1 in
    rw (p.1, p.2) (refused_long c.args.options.now c.args.bytes.now _ (inl c.in_err-input.ensures.refused))

pub returns-in_err-input-clause-accepted : goal.returns-in_err-input-clause-accepted
returns-in_err-input-clause-accepted c =
    let p = err_from_is_err_and c.from_residual.result c.from_residual.ensures.1 in
    rw (p.1, p.2) (accepted_told c.read_dont_stop.ensures c.args.options.now c.args.bytes.now _ (inl c.in_err-input.ensures.refused))

pub returns-in_err-emitted-clause-refused : goal.returns-in_err-emitted-clause-refused
returns-in_err-emitted-clause-refused c =
    let p = err_from_is_err_and c.from_residual-in_err-emitted.result c.from_residual-in_err-emitted.ensures.1 in
    rw (p.1, p.2) (may_refuse c.args.options.now c.args.bytes.now _ c.in_ok-input.ensures.accepted c.in_err-emitted.ensures.refused)

pub returns-in_err-emitted-clause-too_long : goal.returns-in_err-emitted-clause-too_long
returns-in_err-emitted-clause-too_long c =
    let p = err_from_is_err_and c.from_residual-in_err-emitted.result c.from_residual-in_err-emitted.ensures.1 in
    rw (p.1, p.2) (refused_long c.args.options.now c.args.bytes.now _ (may_refuse c.args.options.now c.args.bytes.now _ c.in_ok-input.ensures.accepted c.in_err-emitted.ensures.refused))

pub returns-in_err-emitted-clause-accepted : goal.returns-in_err-emitted-clause-accepted
returns-in_err-emitted-clause-accepted c =
    let p = err_from_is_err_and c.from_residual-in_err-emitted.result c.from_residual-in_err-emitted.ensures.1 in
    rw (p.1, p.2) (λ reads. c.in_err-emitted.ensures.refused)

pub returns-clause-refused : goal.returns-clause-refused
returns-clause-refused c = read_refused c.args.options.now c.args.bytes.now c.in_ok-input.ensures.accepted c.with_places.result c.with_places.ensures.refused

pub returns-clause-too_long : goal.returns-clause-too_long
returns-clause-too_long c = read_long c.args.options.now c.args.bytes.now c.in_ok-input.ensures.accepted c.with_places.result c.with_places.ensures.refused

pub returns-clause-rewritten : goal.returns-clause-rewritten
returns-clause-rewritten c =
    made_of c.args.options.now c.args.bytes.now c.in_ok-input.input c.write_kept.new.input c.in_ok-emitted.emitted c.with_places.result c.in_ok-input.ensures.accepted c.in_ok-input.ensures.read
    c.in_ok-emitted.ensures.written c.with_places.ensures.bytes c.with_places.ensures.pairs

pub returns-clause-accepted : goal.returns-clause-accepted
returns-clause-accepted c =
    IfErr-weaker c.with_places.result (λ fault. MayBeRefused fault) (λ fault. IsAccepted c.args.options.now c.args.bytes.now → MayBeRefused fault) (λ fault may reads. may) c.with_places.ensures.refused
