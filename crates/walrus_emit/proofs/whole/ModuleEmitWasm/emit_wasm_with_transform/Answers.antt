use Rattle.walrus_emit.proofs.WrittenLemmas.{is_transformed}
use Rattle.walrus_emit.proofs.whole.ModuleEmitWasm.emit_wasm_with_transform.Goals as goal

pub returns-clause-transformed : goal.returns-clause-transformed
returns-clause-transformed g c =
    is_transformed g.B.CustomSection.own_name g.B.CustomSection.contents c.args.self.now c.emit_sound.new.input c.in_ok-emission.emission c.in_ok-transform.transform c.in_ok-emission.ensures.stands
    c.in_ok-transform.ensures
