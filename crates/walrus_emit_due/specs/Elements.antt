-- What is due for element segments.
use Rattle.std.specs.Prelude.{ℕ, ◌+◌, ◌==◌, ◌&&◌, if◌then◌else◌, not, Bool, true, false, List, [], ◌∷◌, ◌++◌, length, Option, Some, None}
use Rattle.wasm_formats.specs.declared.fault.Limited.TheVariants as limits_of
use Rattle.wasm_formats.specs.declared.fault.Space.TheVariants as spaces
use Rattle.wasm_operators.specs.Items as items
use Rattle.wasm_grammar.specs.Modules.{Expr, Table, Mode, Passive, Declared, Active, Elements, Functions, Expressions, Element}
use Rattle.wasm_grammar.specs.TypeWords.{ref_from}
use Rattle.wasm_section_bytes.specs.Flags.{is_funcref}
use Rattle.walrus_pairing.specs.Looks.{Look}
use Rattle.walrus_emit_parts.specs.Due.{Due, limited, number, vec, written}
use Rattle.walrus_emit_due.specs.Values.{expr, index, reference}
use Rattle.walrus_emit_due.specs.Own.{live, own_section}
use Rattle.walrus_emit_due.specs.Slots.{live_at}

-- the number of a form: those of expressions are by 4 greater than those of functions
abbrev pub form : ℕ → Elements → ℕ
form n (Functions ids) = n
form n (Expressions ty exprs) = n + 4

-- what they are
abbrev pub type_of : Look → Elements → Due
type_of look (Functions ids) = written (0 ∷ [])
type_of look (Expressions ty exprs) = reference (look items.Types) (ref_from ty)

-- each of them
abbrev pub list_of : Look → Elements → Due
list_of look (Functions ids) = vec (λ id. index spaces.Function (look items.Functions id)) ids
list_of look (Expressions ty exprs) = vec (expr look) exprs

abbrev pub items_of : Look → Elements → Due
items_of look xs = type_of look xs ++ list_of look xs

-- a form that doesn't say what they are means these
abbrev pub are_plain : Elements → Bool
are_plain (Functions ids) = true
are_plain (Expressions ty exprs) = is_funcref ty

-- a form that doesn't say which table means the first one, of addresses of 32 bits
abbrev pub is_first : Option ℕ → Bool
is_first None = false
is_first (Some n) = n == 0

abbrev pub is_narrow : Option Table → Bool
is_narrow None = false
is_narrow (Some t) = not t.wide

abbrev pub is_plain_table : Look → List (Option Table) → ℕ → Bool
is_plain_table look tables table = is_first (look items.Tables table) && is_narrow (live_at tables table)

abbrev pub is_plain : Look → List (Option Table) → ℕ → Elements → Bool
is_plain look tables table xs = are_plain xs && is_plain_table look tables table

abbrev pub plain : Look → Expr → Elements → Due
plain look offset xs = number (form 0 xs) ++ (expr look offset ++ list_of look xs)

abbrev pub told : Look → ℕ → Expr → Elements → Due
told look table offset xs = number (form 2 xs) ++ (index spaces.Table (look items.Tables table) ++ (expr look offset ++ items_of look xs))

abbrev pub active : Look → List (Option Table) → ℕ → Expr → Elements → Due
active look tables table offset xs = if is_plain look tables table xs then plain look offset xs else told look table offset xs

abbrev pub moded : Look → List (Option Table) → Elements → Mode → Due
moded look tables xs Passive = number (form 1 xs) ++ items_of look xs
moded look tables xs Declared = number (form 3 xs) ++ items_of look xs
moded look tables xs (Active table offset) = active look tables table offset xs

abbrev pub element : Look → List (Option Table) → Element → Due
element look tables x = moded look tables x.items x.mode

abbrev pub elements : Look → List (Option Table) → List (Option Element) → Due
elements look tables slots = limited 100000 (length (live slots)) limits_of.Elements (own_section 9 (λ _. true) (element look tables) slots)
