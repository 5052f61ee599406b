-- What a type is named by: an index into a module's types or a recursion group's, or an id that is the same in every module.
use Rattle.std.specs.Prelude.{ℕ, ◌<◌, ◌^◌, ◌==◌, Bool, Option, Some, None}
use Rattle.std.specs.declared.cmp.Ordering.{Ordering}
use Rattle.std.specs.Ordering.{on, nat_cmp, then_cmp, eq_of_both}
use Rattle.wasm_ref_types.specs.declared.index.UnpackedIndex.{UnpackedIndex}
use Rattle.wasm_ref_types.specs.declared.index.UnpackedIndex.TheVariants.{Module, RecGroup, Id}
use Rattle.wasm_ref_types.specs.declared.index.CoreTypeId.{CoreTypeId}

-- the place of an index's kind in the order of kinds
abbrev pub index_kind : UnpackedIndex → ℕ
index_kind (Module _) = 0
index_kind (RecGroup _) = 1
index_kind (Id _) = 2

-- the number of an index, whatever its kind
abbrev pub number_of : UnpackedIndex → ℕ
number_of (Module index) = index
number_of (RecGroup index) = index
number_of (Id id) = id.index

-- a number of 20 bits
abbrev pub IsSmall : UnpackedIndex → Type 0
IsSmall index = number_of index < 2 ^ 20

-- whether it is the same in every module
abbrev pub is_id : UnpackedIndex → Bool
is_id index = index_kind index == 2

abbrev pub module_index : UnpackedIndex → Option ℕ
module_index (Module index) = Some index
module_index (RecGroup _) = None
module_index (Id _) = None

abbrev pub group_index : UnpackedIndex → Option ℕ
group_index (Module _) = None
group_index (RecGroup index) = Some index
group_index (Id _) = None

abbrev pub core_id : UnpackedIndex → Option CoreTypeId
core_id (Module _) = None
core_id (RecGroup _) = None
core_id (Id id) = Some id

-- by kind, then by number
abbrev pub index_cmp : UnpackedIndex → UnpackedIndex → Ordering
index_cmp = then_cmp (on index_kind nat_cmp) (on number_of nat_cmp)

abbrev pub index_eq : UnpackedIndex → UnpackedIndex → Bool
index_eq = eq_of_both (on index_kind ◌==◌) (on number_of ◌==◌)
