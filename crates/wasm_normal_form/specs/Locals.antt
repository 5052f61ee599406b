-- Which locals a body uses, and their new order.
use Rattle.std.specs.Prelude.{ℕ, suc, ◌==◌, Bool, true, false, List, [], ◌∷◌, if◌then◌else◌}
use Rattle.std.specs.declared.cmp.Ordering.{Ordering}
use Rattle.std.specs.declared.cmp.Ordering.TheVariants.{Less, Equal}
use Rattle.std.specs.Ordering.{ordering_then, nat_cmp}
use Rattle.walrus_forms.specs.declared.value.ValType.{ValType}
use Rattle.walrus_forms.specs.ValueOrder.{value_cmp}

-- a local: its type and its number, or its id
abbrev pub Key : Type 0
Key = ValType × ℕ

-- by type, then by number
abbrev pub key_cmp : Key → Key → Ordering
key_cmp a b = ordering_then (value_cmp a.0 b.0) (nat_cmp a.1 b.1)

abbrev pub is_less : Ordering → Bool
is_less Less = true
is_less _ = false

-- in order: one more local, and all of them
abbrev pub insert_key : Key → List Key → List Key
insert_key k [] = k ∷ []
insert_key k (j ∷ js) = if is_less (key_cmp j k) then j ∷ insert_key k js else k ∷ (j ∷ js)

abbrev pub in_order : List Key → List Key
in_order [] = []
in_order (k ∷ ks) = insert_key k (in_order ks)

-- the position of a number among these, or how many there are
abbrev pub position : List Key → ℕ → ℕ
position [] n = 0
position (k ∷ ks) n = if k.1 == n then 0 else suc (position ks n)

-- locals of these types, numbered from here on
abbrev pub numbered : ℕ → List ValType → List Key
numbered from [] = []
numbered from (ty ∷ tys) = (ty, from) ∷ numbered (suc from) tys

abbrev pub is_equal : Ordering → Bool
is_equal Equal = true
is_equal _ = false

-- maximal runs of one type: how many, and which
abbrev pub with_first : ValType → List (ℕ × ValType) → List (ℕ × ValType)
with_first ty [] = (1, ty) ∷ []
with_first ty (run ∷ runs) = if is_equal (value_cmp ty run.1) then (suc run.0, run.1) ∷ runs else (1, ty) ∷ (run ∷ runs)

abbrev pub runs_of : List ValType → List (ℕ × ValType)
runs_of [] = []
runs_of (ty ∷ tys) = with_first ty (runs_of tys)
