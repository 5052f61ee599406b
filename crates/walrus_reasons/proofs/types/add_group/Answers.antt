use Rattle.std.proofs.Common.{◌∙◌, ◌++◌, List, ℕ, map, refl, sym, ap}
use Rattle.wasm_formats.specs.declared.fault.Space.TheVariants as spaces
use Rattle.walrus_items.specs.Items.{group_of}
use Rattle.walrus_roots.specs.Items.{item}
use Rattle.walrus_reasons.proofs.TypeLemmas.{alone_adds, dead_adds, group_adds}
use Rattle.walrus_reasons.proofs.types.add_group.Goals as goal

pub returns-in_ok-add_types : goal.returns-in_ok-add_types
returns-in_ok-add_types c =
    let a = c.args.named.now.items in
    group_adds c.args.types.now c.types_are_grouped.ensures c.args.id (group_of c.in-Some.group.now) a c.add_types.new.named.items c.in-Some.ensures (sym c.is_explicit.ensures ∙ c.if-is_explicit.true)
    (c.in_ok-add_types.ensures ∙ ap (λ (ms : List ℕ). a ++ map (item spaces.Type) ms) c.as_slice.ensures.value)

pub returns-else-is_explicit : goal.returns-else-is_explicit
returns-else-is_explicit c =
    alone_adds c.args.types.now c.types_are_grouped.ensures c.args.id (group_of c.in-Some.group.now) c.args.named.now.items c.args.named.now.items c.in-Some.ensures (sym c.is_explicit.ensures ∙ c.if-is_explicit.false) refl

pub returns-in_default : goal.returns-in_default
returns-in_default c = dead_adds c.args.types.now c.types_are_grouped.ensures c.args.id c.args.named.now.items c.args.named.now.items c.in_default.ensures refl
