-- What a walk of a body tells that it names, beside what its operators name.
use Rattle.std.specs.Prelude.{List, ◌++◌, map}
use Rattle.std.specs.List.{flat_map}
use Rattle.wasm_references.specs.wasm_body_grammar.Rules.{space_of}
use Rattle.wasm_references.specs.wasm_grammar.Modules.{Placed}
use Rattle.wasm_references.specs.wasm_operators.declared.block_type.BlockType.{BlockType}
use Rattle.wasm_references.specs.wasm_operators.Names.{Name, operator_names, block_names}
use Rattle.walrus_walks.specs.walrus_instr.declared.seq.InstrLocId.{InstrLocId}
use Rattle.walrus_walks.specs.walrus_instr.declared.seq.InstrSeq.{InstrSeq}
use Rattle.walrus_walks.specs.Walk.{body_walk}
use Rattle.walrus_tree.specs.Text.{Piece, operators}
use Rattle.walrus_tree.specs.Trees.{IsTree}
use Rattle.walrus_marks.specs.Named.{items_of}
use Rattle.walrus_roots.specs.declared.item.Item.{Item}
use Rattle.walrus_roots.specs.Items.{item}
use Rattle.walrus_meaning.specs.Bodies.{own_piece}
use Rattle.walrus_meaning.specs.Told.{told_all}
use Rattle.walrus_pass_laws.specs.Instrs.{HaveSame, part_types, unlabelled}

-- the block types of the parts of a body that no operator has
abbrev pub parts_of : List InstrSeq → List BlockType
parts_of b = flat_map (λ (p : Piece × InstrLocId). part_types b p.0) (operators b 0)

-- what the operators of a body name, and the block types of its parts
abbrev pub body_names : List InstrSeq → List Name
body_names b = flat_map (λ (o : Placed). operator_names o.op) (map (own_piece b) (operators b 0)) ++ flat_map block_names (parts_of b)

-- of a body whose sequences form a tree that is what the walk of it tells
abbrev pub BodiesNameWhatIsTold : Type 0
BodiesNameWhatIsTold = (b : List InstrSeq) → IsTree b 0 → HaveSame (unlabelled (body_names b)) (unlabelled (told_all (body_walk b 0)))

-- the item of a name
abbrev pub named_item : Name → Item
named_item n = item (space_of n.0) n.1

-- so that the items that the walk names are those of these names
abbrev pub WalksNameItems : Type 0
WalksNameItems = (b : List InstrSeq) → IsTree b 0 → HaveSame (items_of (body_walk b 0)) (map named_item (unlabelled (body_names b)))
