-- Items of a module in memory among those of what it means.
use Rattle.std.proofs.Common.{◌≡◌, List, Contains, sym, ap, subst}
use Rattle.wasm_references.specs.wasm_grammar.Modules as grammar
use Rattle.walrus_roots.specs.declared.item.Item.{Item}
use Rattle.walrus_pass_laws.specs.Items.{own_item, own_items}
use Rattle.walrus_pass_laws.proofs.Sets.{In, in_of, contains_of, in_map, map_in}

-- the item in memory
abbrev pub item_of : grammar.Item → Item
item_of z = record { space = z.space; id = z.number }

pub owned_forth : (xs : List Item) (zs : List grammar.Item) → own_items xs ≡ zs → (y : Item) → Contains xs y → Contains zs (own_item y)
owned_forth xs zs e y c = contains_of zs (own_item y) (subst (λ (l : List grammar.Item). In l (own_item y)) e (map_in own_item xs y (in_of xs y c)))

pub owned_back : (xs : List Item) (zs : List grammar.Item) → own_items xs ≡ zs → (y : Item) → Contains zs (own_item y) → Contains xs y
owned_back xs zs e y c =
    let r = in_map own_item xs (own_item y) (subst (λ (l : List grammar.Item). In l (own_item y)) (sym e) (in_of zs (own_item y) c)) in
    contains_of xs y (subst (In xs) (ap item_of r.2) r.1)
