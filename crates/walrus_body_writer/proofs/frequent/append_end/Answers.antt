use Rattle.std.proofs.Common.{[], sym, subst}
use Rattle.wasm_operators.specs.declared.op_code.OpCode.{OpCode}
use Rattle.walrus_pairing.specs.Write.{op}
use Rattle.walrus_body_text.specs.declared.todo.Closer.{Closer}
use Rattle.walrus_body_writer.specs.Appended.{IsAppended}
use Rattle.walrus_body_text.specs.Doing.{piece_of}
use Rattle.walrus_body_writer.specs.Spelled.{written}
use Rattle.walrus_body_writer.proofs.frequent.append_end.Goals as goal

pub returns-in-Else : goal.returns-in-Else
returns-in-Else c = λ look b.
    let F : Closer → Type 0 = λ z. IsAppended ⊥ (written look b (piece_of z)) c.args.bytes.now c.append_plain.new.bytes c.append_plain.result in
    let G : OpCode → Type 0 = λ z. IsAppended ⊥ (op z []) c.args.bytes.now c.append_plain.new.bytes c.append_plain.result in
    subst F (sym c.in-Else.is) (subst G c.byte.ensures c.append_plain.ensures)

pub returns-in-End : goal.returns-in-End
returns-in-End c = λ look b.
    let F : Closer → Type 0 = λ z. IsAppended ⊥ (written look b (piece_of z)) c.args.bytes.now c.append_plain-in-End.new.bytes c.append_plain-in-End.result in
    let G : OpCode → Type 0 = λ z. IsAppended ⊥ (op z []) c.args.bytes.now c.append_plain-in-End.new.bytes c.append_plain-in-End.result in
    subst F (sym c.in-End.is) (subst G c.byte-in-End.ensures c.append_plain-in-End.ensures)
