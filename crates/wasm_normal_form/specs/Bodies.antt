-- The normal form of a body: its operators, and its locals with their new numbers.
use Rattle.std.specs.Prelude.{ℕ, ◌+◌, ◌==◌, Bool, List, [], ◌∷◌, map, nat_lt, if◌then◌else◌}
use Rattle.std.specs.List.{flat_map, filter, list_any}
use Rattle.walrus_forms.specs.declared.value.ValType.{ValType}
use Rattle.wasm_operators.specs.declared.block_type.BlockType.{BlockType}
use Rattle.wasm_operators.specs.Items.{Locals, Item, Names}
use Rattle.wasm_normal_form.specs.Roles.{Placed, placed}
use Rattle.wasm_normal_form.specs.Normal.{normal_ops}
use Rattle.wasm_normal_form.specs.Locals.{Key, in_order, position, numbered}

-- a body: the types of the locals that it declares, and its operators through the last `end`
pub record Body : Type 0 where
  pub locals : List ValType
  pub ops : List Placed

-- the local that an immediate names, if it names one
abbrev pub local_in : Item → List ℕ
local_in (Names Locals n) = n ∷ []
local_in _ = []

abbrev pub locals_named : List Placed → List ℕ
locals_named ops = flat_map (λ (o : Placed). flat_map local_in o.op.items) ops

-- a local is used where an operator names it
abbrev pub is_used : List Placed → ℕ → Bool
is_used ops n = list_any (λ m. m == n) (locals_named ops)

-- the used ones of those that are declared behind so many parameters, in their new order: by type, then by number
abbrev pub used_keys : ℕ → List ValType → List Placed → List Key
used_keys params locals ops = in_order (filter (λ (k : Key). is_used ops k.1) (numbered params locals))

-- the new number of a local: a parameter keeps its own; other used ones follow in their new order
abbrev pub new_number : ℕ → List Key → ℕ → ℕ
new_number params keys n = if nat_lt n params then n else params + position keys n

abbrev pub renamed_local : (ℕ → ℕ) → Item → Item
renamed_local r (Names Locals n) = Names Locals (r n)
renamed_local r item = item

abbrev pub with_locals : (ℕ → ℕ) → Placed → Placed
with_locals r o = placed (record { code = o.op.code; items = map (renamed_local r) o.op.items }) o.place

-- the body of these used locals and operators, with the locals' new numbers
abbrev pub renumbered : ℕ → List Key → List Placed → Body
renumbered params keys ops = record { locals = map (λ (k : Key). k.0) keys; ops = map (with_locals (new_number params keys)) ops }

-- the normal form of a body behind so many parameters
abbrev pub normal_body : (BlockType → BlockType) → ℕ → Body → Body
normal_body pick params b = renumbered params (used_keys params b.locals (normal_ops pick b.ops)) (normal_ops pick b.ops)
