use Rattle.std.proofs.Common.{sym, subst}
use Rattle.walrus_body_text.specs.walrus_tree.walrus_walks.walrus_instr.declared.instr.Instr.{Instr}
use Rattle.walrus_body_writer.specs.Appended.{IsAppended}
use Rattle.walrus_body_writer.specs.Numbers.{look_of}
use Rattle.walrus_body_writer.specs.Refusals.{IsLarge, value_in}
use Rattle.walrus_body_writer.specs.Spelled.{written_instr}
use Rattle.walrus_body_writer.proofs.frequent.append_holder.Goals as goal

pub returns-in-Block : goal.returns-in-Block
returns-in-Block c = λ number.
    let look = look_of c.args.numbers.now in
    let b = c.args.seqs.now in
    let F : Instr → Type 0 = λ i. IsAppended (IsLarge look (value_in b i)) (written_instr look b number i) c.args.bytes.now c.append_opening.new.bytes c.append_opening.result in
    subst F (sym c.in-Block.is) c.append_opening.ensures

pub returns-in-Loop : goal.returns-in-Loop
returns-in-Loop c = λ number.
    let look = look_of c.args.numbers.now in
    let b = c.args.seqs.now in
    let F : Instr → Type 0 = λ i. IsAppended (IsLarge look (value_in b i)) (written_instr look b number i) c.args.bytes.now c.append_opening-in-Loop.new.bytes c.append_opening-in-Loop.result in
    subst F (sym c.in-Loop.is) c.append_opening-in-Loop.ensures

pub returns-in-IfElse : goal.returns-in-IfElse
returns-in-IfElse c = λ number.
    let look = look_of c.args.numbers.now in
    let b = c.args.seqs.now in
    let F : Instr → Type 0 = λ i. IsAppended (IsLarge look (value_in b i)) (written_instr look b number i) c.args.bytes.now c.append_opening-in-IfElse.new.bytes c.append_opening-in-IfElse.result in
    subst F (sym c.in-IfElse.is) c.append_opening-in-IfElse.ensures
