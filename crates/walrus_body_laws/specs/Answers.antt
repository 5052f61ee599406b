-- What a sight answers with: the items that a body can name which is read by it.
use Rattle.std.specs.Prelude.{◌≡◌, ℕ, List, Contains, Some, None}
use Rattle.walrus_pairing.specs.wasm_operators.Items.{Space}
use Rattle.walrus_handler_laws.specs.walrus_body_steps.wasm_body_grammar.Rules.{space_of}
use Rattle.walrus_walks.specs.walrus_forms.declared.value.ValType.{ValType}
use Rattle.walrus_marks.specs.walrus_instr.declared.seq.InstrSeqType.{InstrSeqType}
use Rattle.walrus_walks.specs.Events.{block_names, events_of, val_names}
use Rattle.walrus_roots.specs.declared.item.Item.{Item}
use Rattle.walrus_roots.specs.Items.{item}
use Rattle.walrus_marks.specs.Named.{items_of}
use Rattle.walrus_handler_laws.specs.walrus_body_steps.walrus_body_rules.Sights.{Sight, look}

-- the items that value types name, and that a block type names
abbrev pub value_items : List ValType → List Item
value_items tys = items_of (events_of val_names tys)

abbrev pub block_items : InstrSeqType → List Item
block_items ty = items_of (block_names ty)

-- each of these items is so
abbrev pub AllAre : (Item → Type 0) → List Item → Type 0
AllAre Good items = (y : Item) → Contains items y → Good y

-- an item that the sight answers with: what an index names; what the parameters or results of a function type name; and what a block type or
-- a handler's type names that it gives for parameters and results which name such items alone
pub data IsAnswer (s : Sight) : Item → Type 0 where
  Looked : (space : Space) (n id : ℕ) → look s space n ≡ Some id → IsAnswer s (item (space_of space) id)
  OfParams : (id : ℕ) (tys : List ValType) (y : Item) → s.params id ≡ Some tys → Contains (value_items tys) y → IsAnswer s y
  OfResults : (id : ℕ) (tys : List ValType) (y : Item) → s.results id ≡ Some tys → Contains (value_items tys) y → IsAnswer s y
  OfBlock : (ps rs : List ValType) (ty : InstrSeqType) (y : Item) → s.block_type ps rs ≡ Some ty
      → ((x : Item) → Contains (value_items ps) x → IsAnswer s x) → ((x : Item) → Contains (value_items rs) x → IsAnswer s x) → Contains (block_items ty) y → IsAnswer s y
  OfHandler : (ps rs : List ValType) (ty : InstrSeqType) (y : Item) → s.handler_type ps rs ≡ Some ty
      → ((x : Item) → Contains (value_items ps) x → IsAnswer s x) → ((x : Item) → Contains (value_items rs) x → IsAnswer s x) → Contains (block_items ty) y → IsAnswer s y

-- the sight that gives no types to handlers
abbrev pub without_handlers : Sight → Sight
without_handlers s = record s { handler_type = λ ps rs. None }

-- the answers of a sight are so, handlers' types aside
pub record AnswersAre (s : Sight) (Good : Item → Type 0) : Type 0 where
  pub looked : (space : Space) (n id : ℕ) → look s space n ≡ Some id → Good (item (space_of space) id)
  pub params : (id : ℕ) (tys : List ValType) → s.params id ≡ Some tys → AllAre Good (value_items tys)
  pub results : (id : ℕ) (tys : List ValType) → s.results id ≡ Some tys → AllAre Good (value_items tys)
  pub blocks : (ps rs : List ValType) (ty : InstrSeqType) → s.block_type ps rs ≡ Some ty → AllAre Good (value_items ps) → AllAre Good (value_items rs) → AllAre Good (block_items ty)

-- so are handlers' types
abbrev pub HandlersAre : Sight → (Item → Type 0) → Type 0
HandlersAre s Good =
    (ps rs : List ValType) (ty : InstrSeqType) → s.handler_type ps rs ≡ Some ty → AllAre Good (value_items ps) → AllAre Good (value_items rs) → AllAre Good (block_items ty)
