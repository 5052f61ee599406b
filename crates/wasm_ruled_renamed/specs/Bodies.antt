-- What holds of whole bodies in their normal form, as they are and renamed: where they met the rules, so does it.
use Rattle.std.specs.Prelude.{ℕ, ◌≡◌, ◌<◌, map, Option}
use Rattle.walrus_forms.specs.Renaming.{renamed_value}
use Rattle.wasm_ruled_normal.specs.wasm_ruled_modules.wasm_module_rules.wasm_modules.wasm_body_grammar.Rules.{Around, room}
use Rattle.wasm_ruled_normal.specs.wasm_ruled_modules.wasm_module_rules.wasm_modules.wasm_body_grammar.wasm_grammar.Modules as grammar
use Rattle.wasm_ruled_normal.specs.wasm_ruled_modules.wasm_module_rules.wasm_modules.wasm_body_grammar.wasm_operators.NameLaws.{same}
use Rattle.wasm_ruled_normal.specs.wasm_ruled_modules.wasm_module_rules.wasm_modules.wasm_body_grammar.wasm_operators.Names.{Renaming}
use Rattle.wasm_ruled_normal.specs.wasm_ruled_modules.wasm_module_rules.wasm_modules.wasm_body_grammar.wasm_operators.Items.{Space, Types, Locals, Labels}
use Rattle.wasm_ruled_normal.specs.wasm_normal_form.Bodies.{Body, new_number, normal_body, used_keys}
use Rattle.wasm_ruled_normal.specs.wasm_normal_form.Locals.{Key}
use Rattle.wasm_ruled_normal.specs.wasm_normal_form.Normal.{normal_ops}
use Rattle.wasm_ruled_normal.specs.wasm_ruled_modules.Rules.{GroupsBelow, IsBody}
use Rattle.wasm_ruled_normal.specs.wasm_run_names.Picks.{block_pick}
use Rattle.wasm_ruled_normal.specs.Normal.{located, text_of}
use Rattle.wasm_ruled_renamed.specs.Renamed.{Keeps, renamed_placed}

abbrev pub body_from : (Option ℕ → ℕ) → Body → grammar.Body
body_from place b = record { locals = b.locals; operators = map (located place) b.ops }

-- the normal form of the body of a function of so many parameters, by the picks of the file around it; its locals stand in the order of their
-- types as they are written
abbrev pub normal_of : (Option ℕ → ℕ) → Around → ℕ → grammar.Body → grammar.Body
normal_of place a params x = body_from place (normal_body (block_pick a) params (record { locals = x.locals; ops = text_of x.operators }))

-- a body that meets the rules meets them in its normal form, where the locals that it uses are left, each named by its new number
abbrev pub NormalBodiesAreRuled : Type 0
NormalBodiesAreRuled = (place : Option ℕ → ℕ) (a : Around) (params : ℕ) (x : grammar.Body) → GroupsBelow 0 a.filled.groups → IsBody a params x → IsBody a params (normal_of place a params x)

-- ---- renamed

-- one of so many items of a space of the file
abbrev pub IsItem : Around → Space → ℕ → Type 0
IsItem a Locals n = Unit {0}
IsItem a Labels n = Unit {0}
IsItem a space n = n < room a 0 0 space

-- items go to items
abbrev pub Reaches : Renaming → Around → Around → Type 0
Reaches r a b = (space : Space) (n : ℕ) → IsItem a space n → IsItem b space (r space n)

-- locals by their own numbers, all else as it is renamed
abbrev pub with_numbers : (ℕ → ℕ) → Renaming → Renaming
with_numbers number r Locals n = number n
with_numbers number r space n = r space n

-- the normal form of the body of a function of so many parameters, renamed: its locals stand in the order of their new types
abbrev pub normal_renamed : (Option ℕ → ℕ) → Around → Renaming → ℕ → grammar.Body → grammar.Body
normal_renamed place a r params x =
    let ops = normal_ops (block_pick a) (text_of x.operators) in
    let keys = used_keys params (map (renamed_value (r Types)) x.locals) ops in
    record { locals = map (λ (k : Key). k.0) keys; operators = map (renamed_placed (with_numbers (new_number params keys) r)) (map (located place) ops) }

-- where each number stays, it is the normal form as it is
abbrev pub SameRenamedIsNormal : Type 0
SameRenamedIsNormal = (place : Option ℕ → ℕ) (a : Around) (params : ℕ) (x : grammar.Body) → normal_renamed place a same params x ≡ normal_of place a params x

-- a body that meets the rules in one file so meets those in another to which each item goes
abbrev pub RenamedBodiesAreRuled : Type 0
RenamedBodiesAreRuled = (place : Option ℕ → ℕ) (r : Renaming) (a b : Around) (params : ℕ) (x : grammar.Body) → GroupsBelow 0 a.filled.groups → Keeps r a b → Reaches r a b → IsBody a params x
    → IsBody b params (normal_renamed place a r params x)
