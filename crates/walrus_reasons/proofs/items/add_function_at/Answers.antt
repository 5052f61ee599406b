use Rattle.std.proofs.Common.{◌∙◌, ◌++◌, [], ◌∷◌, ap}
use Rattle.wasm_formats.specs.declared.fault.Space.TheVariants as spaces
use Rattle.walrus_roots.specs.declared.item.Item.{Item}
use Rattle.walrus_roots.specs.Items.{item}
use Rattle.walrus_used.specs.walrus_module.Parts.{parts}
use Rattle.walrus_reasons.proofs.ItemLemmas.{function_adds}
use Rattle.walrus_reasons.proofs.items.add_function_at.Goals as goal

pub returns-in_ok-add_kind : goal.returns-in_ok-add_kind
returns-in_ok-add_kind g c =
    let a = c.args.named.now.items in
    function_adds (parts c.args.input.now) c.args.id c.get-function.result.now a c.push.new.self.items c.add_kind.new.named.items c.get-function.ensures
    (c.in_ok-push.ensures.items ∙ ap (λ (i : Item). a ++ i ∷ []) (c.new.ensures ∙ ap (item spaces.Type) c.ty.ensures)) c.in_ok-add_kind.ensures
