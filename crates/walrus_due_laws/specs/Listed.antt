-- The part of a module that has all that lives: own items stand in it by rising number, imported ones have no entries, and what imports bring stands at its new number.
use Rattle.std.specs.Prelude.{ℕ, ◌≡◌, ◌++◌, List, map, Contains, Some, None, IsSome, slice_index_or}
use Rattle.std.specs.List.{filter_map}
use Rattle.wasm_operators.specs.Items.{Functions, Tables, Memories, Tags, Globals, ElementSegments, DataSegments}
use Rattle.wasm_grammar.specs.Modules.{Function, Table, Memory, Tag, Global, Import, Export, Element, Segment, Module}
use Rattle.wasm_body_grammar.specs.Codes.{own_type}
use Rattle.wasm_import_links.specs.Links.{ImportsLink}
use Rattle.wasm_canonical.specs.Due.{items_in, own_global, own_memory, own_table, own_tag}
use Rattle.wasm_part.specs.Part.{IsIn, Plan, declaring, part, picked, renumbered_element, renumbered_export, renumbered_function, renumbered_global, renumbered_import, renumbered_memory, renumbered_segment, renumbered_table, renumbered_tag}
use Rattle.wasm_part.specs.Closed.{Rise}
use Rattle.wasm_part.specs.Order.{InOrder}
use Rattle.walrus_pairing.specs.Looks.{Look}
use Rattle.walrus_emit_due.specs.Slots.{live_at}
use Rattle.walrus_due_laws.specs.Spelled.{Follows, in_slots}
use Rattle.walrus_due_laws.specs.Elements.{FirstIsAlike}
use Rattle.walrus_due_laws.specs.Imports.{BroughtStand}

-- a plan lists each item that lives, at its new number
pub record LivingAreListed (p : Plan) (m : Module) : Type 0 where
  pub imports : (n : ℕ) (x : Import) → slice_index_or m.imports n None ≡ Some x → Contains p.imports n
  pub functions : (n : ℕ) (f : Function) → slice_index_or m.functions n None ≡ Some f → IsIn p Functions n
  pub tables : (n : ℕ) (t : Table) → slice_index_or m.tables n None ≡ Some t → IsIn p Tables n
  pub memories : (n : ℕ) (x : Memory) → slice_index_or m.memories n None ≡ Some x → IsIn p Memories n
  pub tags : (n : ℕ) (t : Tag) → slice_index_or m.tags n None ≡ Some t → IsIn p Tags n
  pub globals : (n : ℕ) (g : Global) → slice_index_or m.globals n None ≡ Some g → IsIn p Globals n
  pub exports : (n : ℕ) (x : Export) → slice_index_or m.exports n None ≡ Some x → Contains p.exports n
  pub elements : (n : ℕ) (e : Element) → slice_index_or m.elements n None ≡ Some e → IsIn p ElementSegments n
  pub segments : (n : ℕ) (x : Segment) → slice_index_or m.segments n None ≡ Some x → IsIn p DataSegments n

-- the entries of the part are those of all slots, renamed; those of functions stand in the order of the plan's own ones
pub record OwnStay (p : Plan) (m : Module) (own : List ℕ) : Type 0 where
  pub imports : items_in (part p m).imports ≡ items_in (in_slots (renumbered_import p.renames) m.imports)
  pub functions : filter_map own_type (part p m).functions ≡ filter_map own_type (picked (renumbered_function p.renames p.brings) own m.functions)
  pub tables : filter_map own_table (part p m).tables ≡ filter_map own_table (in_slots (renumbered_table p.renames p.brings) m.tables)
  pub memories : filter_map own_memory (part p m).memories ≡ filter_map own_memory (in_slots (renumbered_memory p.renames p.brings) m.memories)
  pub tags : filter_map own_tag (part p m).tags ≡ filter_map own_tag (in_slots (renumbered_tag p.renames p.brings) m.tags)
  pub globals : filter_map own_global (part p m).globals ≡ filter_map own_global (in_slots (renumbered_global p.renames p.brings) m.globals)
  pub exports : items_in (part p m).exports ≡ items_in (in_slots (renumbered_export p.renames) m.exports)
  pub elements : items_in (part p m).elements ≡ items_in (in_slots (renumbered_element p.renames) m.elements) ++ map (declaring p.renames) p.declared
  pub segments : items_in (part p m).segments ≡ items_in (in_slots (renumbered_segment p.renames) m.segments)

abbrev pub OwnItemsStay : Type 0
OwnItemsStay = (p : Plan) (m : Module) (order : InOrder m p) → ImportsLink m → LivingAreListed p m → Rise p.exports → OwnStay p m (order.own Functions)

-- what imports bring stands in the part, renamed; and its first table is the one that gets the number 0, where each table that has a number lives
pub record PartServes (p : Plan) (m : Module) : Type 0 where
  pub brought : BroughtStand p.renames p.brings m (part p m)
  pub first : (look : Look) → Follows p.renames look → ((id n : ℕ) → look Tables id ≡ Some n → IsSome (live_at m.tables id)) → FirstIsAlike look m.tables (part p m).tables

abbrev pub PartsServe : Type 0
PartsServe = (p : Plan) (m : Module) → ImportsLink m → LivingAreListed p m → PartServes p m
