-- The words of contracts, passed on under one name: a crate above lists the face alone, and names them here.
-- Arenas, sets and what lending an item leaves.
pub use Rattle.walrus_arena.specs.Arena
pub use Rattle.walrus_arena.specs.Set
pub use Rattle.walrus_arena.specs.Lends as ArenaLends
pub use Rattle.walrus_arena.specs.Laws as ArenaLaws
-- Forms of types and of records.
pub use Rattle.walrus_forms.specs.Conversions
pub use Rattle.walrus_forms.specs.Forms
pub use Rattle.walrus_forms.specs.Kinds
pub use Rattle.walrus_forms.specs.Lends as FormLends
pub use Rattle.walrus_forms.specs.Order as FormOrder
pub use Rattle.walrus_forms.specs.Records
pub use Rattle.walrus_forms.specs.Renaming
pub use Rattle.walrus_forms.specs.Same
pub use Rattle.walrus_forms.specs.Texts as FormTexts
pub use Rattle.walrus_forms.specs.ValueOrder
pub use Rattle.walrus_forms.specs.Values
-- Sorting around anchors.
pub use Rattle.walrus_type_order.specs.Order as TypeOrder
-- The table of types, its items and what is written of it.
pub use Rattle.walrus_types.specs.Items
pub use Rattle.walrus_items.specs.Lends as ItemLends
pub use Rattle.walrus_items.specs.LocalLends
pub use Rattle.walrus_types.specs.Emission
pub use Rattle.walrus_types.specs.Groups
pub use Rattle.walrus_types.specs.Inverse
pub use Rattle.walrus_types.specs.Merged
pub use Rattle.walrus_types.specs.Mergers
pub use Rattle.walrus_types.specs.Pairs
pub use Rattle.walrus_types.specs.Parsing
pub use Rattle.walrus_types.specs.Table
pub use Rattle.walrus_types.specs.TableLends
pub use Rattle.walrus_types.specs.TypeLaws
-- Laws of tables.
pub use Rattle.walrus_type_laws.specs.Alike
pub use Rattle.walrus_type_laws.specs.Edited as EditedTables
pub use Rattle.walrus_type_laws.specs.Rounds
pub use Rattle.walrus_type_laws.specs.Swap
pub use Rattle.walrus_type_laws.specs.Edits as TableEdits
pub use Rattle.walrus_type_laws.specs.Locals
pub use Rattle.walrus_type_laws.specs.Ordinary
-- Instructions, constants and block types.
pub use Rattle.walrus_instr.specs.BlockTypes
pub use Rattle.walrus_instr.specs.Constants
pub use Rattle.walrus_instr.specs.Copies
pub use Rattle.walrus_instr.specs.Cuts
pub use Rattle.walrus_instr.specs.Lends as InstrLends
pub use Rattle.walrus_instr.specs.Renamed
pub use Rattle.walrus_instr.specs.Widths
-- Walks over trees.
pub use Rattle.walrus_walks.specs.Changes
pub use Rattle.walrus_walks.specs.Changing
pub use Rattle.walrus_walks.specs.ConstEvents
pub use Rattle.walrus_walks.specs.Events
pub use Rattle.walrus_walks.specs.Fronts
pub use Rattle.walrus_walks.specs.Order as WalkOrder
pub use Rattle.walrus_walks.specs.Plain
pub use Rattle.walrus_walks.specs.Steps
pub use Rattle.walrus_walks.specs.Tree
pub use Rattle.walrus_walks.specs.Walk
-- Functions that are built.
pub use Rattle.walrus_builder.specs.Built
pub use Rattle.walrus_builder.specs.Edited
pub use Rattle.walrus_builder.specs.Functions
pub use Rattle.walrus_builder.specs.Holders
pub use Rattle.walrus_builder.specs.Lends as BuilderLends
pub use Rattle.walrus_builder.specs.OwnIds
-- Sequences that form trees, and their text.
pub use Rattle.walrus_tree.specs.Once
pub use Rattle.walrus_tree.specs.Text
pub use Rattle.walrus_tree.specs.TextLaws
pub use Rattle.walrus_tree.specs.Trees
