-- New recursion groups.
use Rattle.std.specs.Prelude.{ℕ, ◌+◌, ◌≡◌, ◌≢◌, ◌⊎◌, ⊤, Vec, Result, Ok, Err, Bool, true, List, [], ◌∷◌, ◌++◌, length, map, Option, Some, None}
use Rattle.std.specs.List.{range_with_len}
use Rattle.walrus_type_arenas.specs.declared.group.NewType.{NewType}
use Rattle.std.specs.declared.alloc.Global.{Global}
use Rattle.walrus_type_arenas.specs.declared.error.IrError.{IrError}
use Rattle.walrus_type_arenas.specs.declared.error.IrError.TheVariants.{Memory, WrongCount, Dead, EntryOnly, Later}
use Rattle.walrus_type_index.specs.walrus_items.walrus_forms.Forms.{form_of}
use Rattle.walrus_type_index.specs.walrus_items.walrus_forms.Kinds.{Kind, declared_kind}
use Rattle.walrus_type_index.specs.walrus_items.Items.{Item, Group}
use Rattle.walrus_type_arenas.specs.Table.{Table, next_id}

-- the kind of a new member
abbrev pub member_kind : NewType → Kind
member_kind member = declared_kind (form_of member.kind) member.is_final member.supertype

-- types of these kinds, the first of which has this id
abbrev pub new_items : ℕ → List Kind → List (Option Item)
new_items id [] = []
new_items id (kind ∷ kinds) = Some (record { id = id; kind = kind; name = None }) ∷ new_items (id + 1) kinds

-- the slot of a new group: an empty group takes none
abbrev pub group_slot : Bool → List ℕ → List (Option Group)
group_slot explicit [] = []
group_slot explicit (id ∷ ids) = Some (record { explicit = explicit; types = id ∷ ids }) ∷ []

-- the table has new types of these kinds, under the next ids, in a group of their own, which is written
-- as one or not
pub record AddsGroup (explicit : Bool) (kinds : List Kind) (old new : Table) : Type 0 where
  pub types : new.types ≡ old.types ++ new_items (next_id old) kinds
  pub groups : new.groups ≡ old.groups ++ group_slot explicit (range_with_len (next_id old) (length kinds))

-- the closure made so many members, and the table has them
pub record IsBuilt (returns : Result (Vec NewType Global) IrError → Type 0) (count : ℕ) (old new : Table) : Type 0 where
  pub members : Vec NewType Global
  pub returned : returns (Ok members)
  pub counted : length members.items ≡ count
  pub added : AddsGroup true (map member_kind members.items) old new

-- why no group was added: a count that differs, or what the closure answered
abbrev pub IsCause : (Result (Vec NewType Global) IrError → Type 0) → ℕ → IrError → Type 0
IsCause returns count Memory = ⊤
IsCause returns count WrongCount =
    returns (Err WrongCount) ⊎ ((members : Vec NewType Global) × returns (Ok members) × (length members.items ≢ count))
IsCause returns count Dead = returns (Err Dead)
IsCause returns count EntryOnly = returns (Err EntryOnly)
IsCause returns count Later = returns (Err Later)
