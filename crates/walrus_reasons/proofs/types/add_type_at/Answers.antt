use Rattle.std.proofs.lemmas.Result.{IfOk-weaker}
use Rattle.wasm_formats.specs.declared.fault.Space.TheVariants as spaces
use Rattle.walrus_used.specs.walrus_module.Parts.{parts}
use Rattle.walrus_used.specs.walrus_references.References.{IsInGroup, RefersIn}
use Rattle.walrus_reasons.specs.Added.{Adds}
use Rattle.walrus_reasons.proofs.TypeLemmas.{type_adds}
use Rattle.walrus_reasons.proofs.types.add_type_at.Goals as goal

pub returns : goal.returns
returns g c =
    let m = parts c.args.input.now in
    let a = c.args.named.now.items in
    let b = c.add_named.new.named.items in
    let d = c.add_group.new.named.items in
    IfOk-weaker c.add_group.result (λ _. Adds (IsInGroup m.types c.args.id) b d) (λ _. Adds (RefersIn m spaces.Type c.args.id) a d) (λ _ h. type_adds m c.args.id a b d c.in_ok-add_named.ensures h) c.add_group.ensures
