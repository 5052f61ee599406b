-- Look-ups that find all that a module numbers.
use Rattle.std.specs.Prelude.{ℕ, ◌<◌, ◌≡◌, length, Some}
use Rattle.walrus_tables_into.specs.walrus_sections_into.walrus_collections.walrus_local_function.walrus_body_locals.wasm_grammar.Exprs.{Known}
use Rattle.walrus_tables_into.specs.walrus_sections_into.wasm_operators.Items.{Space, Types, Functions, Globals}
use Rattle.walrus_tables_into.specs.walrus_sections_into.walrus_pairing.Looks.{Look}

-- the numbers below this one are found
abbrev pub AllFound : Look → Space → ℕ → Type 0
AllFound look space count = (n : ℕ) → n < count → (id : ℕ) × (look space n ≡ Some id)

-- all that constant expressions may name is found
pub record Finds (look : Look) (k : Known) : Type 0 where
  pub types : AllFound look Types k.types
  pub functions : AllFound look Functions k.functions
  pub globals : AllFound look Globals (length k.globals)
