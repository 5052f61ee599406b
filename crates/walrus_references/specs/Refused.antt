-- Why a module is refused for what is reached in it: the conditions, an item at a time, beside that the item lives.
use Rattle.std.specs.Prelude.{ℕ, MatchOption}
use Rattle.wasm_formats.specs.declared.fault.Space.{Space}
use Rattle.wasm_formats.specs.declared.fault.Space.TheVariants as spaces
use Rattle.walrus_arena.specs.Arena.{item_at}
use Rattle.walrus_module.specs.walrus_builder.Functions.{seqs_of}
use Rattle.walrus_module.specs.walrus_tree.Trees.{IsTree}
use Rattle.walrus_module.specs.walrus_module_items.declared.function.Function.{Function}
use Rattle.walrus_module.specs.walrus_module_items.declared.function.FunctionKind.{FunctionKind}
use Rattle.walrus_module.specs.walrus_module_items.declared.function.FunctionKind.TheVariants as functions
use Rattle.walrus_module.specs.Parts.{Module}
use Rattle.walrus_roots.specs.declared.item.Item.{Item}

-- the sequences of a body form a tree, in which each label names a sequence around it
abbrev pub HasTree : FunctionKind → Type 0
HasTree (functions.Local local) = IsTree (seqs_of local.builder) 0
HasTree _ = Unit {0}

-- where the item is a live function, its body is a tree
abbrev pub IsTreeIn : Module → Space → ℕ → Type 0
IsTreeIn m spaces.Function id = MatchOption (item_at m.funcs id) (Unit {0}) (λ (f : Function). HasTree f.kind)
IsTreeIn m _ id = Unit {0}

abbrev pub FormsTree : Module → Item → Type 0
FormsTree m x = IsTreeIn m x.space x.id
