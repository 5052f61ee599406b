use Rattle.std.proofs.Common.{ℕ, refl, subst}
use Rattle.std.specs.Prelude.{Option}
use Rattle.wasm_operators.specs.Items.{Functions}
use Rattle.walrus_body_writer.specs.Appended.{IsAppended, named}
use Rattle.walrus_body_writer.proofs.frequent.append_function.Goals as goal

pub returns : goal.returns
returns c =
    let F : Option ℕ → Type 0 = λ z. IsAppended ⊥ (named c.args.code Functions z) c.args.bytes.now c.append_named.new.bytes c.append_named.result in
    subst F c.get_func_index-number.ensures (c.append_named.ensures Functions refl)
