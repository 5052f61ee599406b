use Rattle.std.proofs.Common.{ℕ, refl, subst}
use Rattle.std.specs.Prelude.{Option}
use Rattle.wasm_operators.specs.Items.{Locals}
use Rattle.walrus_body_writer.specs.Appended.{IsAppended, named}
use Rattle.walrus_body_writer.proofs.frequent.append_local.Goals as goal

pub returns : goal.returns
returns c =
    let F : Option ℕ → Type 0 = λ z. IsAppended ⊥ (named c.args.code Locals z) c.args.bytes.now c.append_named.new.bytes c.append_named.result in
    subst F c.get_local_index-number.ensures (c.append_named.ensures Locals refl)
