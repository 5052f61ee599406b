-- Operators of normal forms that were renamed otherwise, as by ids of locals: where each name comes to the same in the end, they are those of the renamed
-- normal forms.
use Rattle.std.specs.Prelude.{ℕ, ◌≡◌, ◌<◌, ◌+◌, true, List, length, map, Option}
use Rattle.std.specs.List.{AllByRecursion}
use Rattle.wasm_ruled_renamed.specs.wasm_ruled_normal.Normal.{located, text_of}
use Rattle.wasm_ruled_renamed.specs.wasm_ruled_normal.wasm_normal_form.Bodies.{is_used, new_number, used_keys}
use Rattle.wasm_ruled_renamed.specs.wasm_ruled_normal.wasm_normal_form.Locals.{Key}
use Rattle.wasm_ruled_renamed.specs.wasm_ruled_normal.wasm_normal_form.Normal.{normal_ops}
use Rattle.wasm_ruled_renamed.specs.wasm_ruled_normal.wasm_normal_form.Roles.{Placed, placed}
use Rattle.wasm_ruled_renamed.specs.wasm_ruled_normal.wasm_ruled_modules.Rules.{GroupsBelow, IsBody}
use Rattle.wasm_ruled_renamed.specs.wasm_ruled_normal.wasm_ruled_modules.wasm_module_rules.wasm_modules.wasm_body_grammar.Rules.{Around, room}
use Rattle.wasm_ruled_renamed.specs.wasm_ruled_normal.wasm_ruled_modules.wasm_module_rules.wasm_modules.wasm_body_grammar.wasm_grammar.Modules as grammar
use Rattle.wasm_ruled_renamed.specs.wasm_ruled_normal.wasm_ruled_modules.wasm_module_rules.wasm_modules.wasm_body_grammar.wasm_grammar.walrus_forms.Renaming.{renamed_value}
use Rattle.wasm_ruled_renamed.specs.wasm_ruled_normal.wasm_ruled_modules.wasm_module_rules.wasm_modules.wasm_body_grammar.wasm_operators.NameLaws.{same}
use Rattle.wasm_ruled_renamed.specs.wasm_ruled_normal.wasm_ruled_modules.wasm_module_rules.wasm_modules.wasm_body_grammar.wasm_operators.Names.{Name, Renaming, operator_names, renamed_operator}
use Rattle.wasm_ruled_renamed.specs.wasm_ruled_normal.wasm_ruled_modules.wasm_module_rules.wasm_modules.wasm_body_grammar.wasm_operators.Items.{Space, Types, Locals, Labels}
use Rattle.wasm_ruled_renamed.specs.wasm_ruled_normal.wasm_ruled_modules.wasm_module_rules.wasm_modules.wasm_body_grammar.wasm_operators.Operators.{Seen}
use Rattle.wasm_ruled_renamed.specs.wasm_ruled_normal.wasm_run_names.Picks.{block_pick}
use Rattle.wasm_ruled_renamed.specs.Bodies.{normal_renamed, with_numbers}
use Rattle.wasm_ruled_renamed.specs.Renamed.{renamed_placed}

-- renamings that agree on what an operator names rename it alike
abbrev pub NamesDecide : Type 0
NamesDecide = (r s : Renaming) (op : Seen) → AllByRecursion (λ (n : Name). r n.0 n.1 ≡ s n.0 n.1) (operator_names op) → renamed_operator r op ≡ renamed_operator s op

-- an operator of a normal form, renamed at its place
abbrev pub named_by : Renaming → Placed → Placed
named_by named o = placed (renamed_operator named o.op) o.place

module _ (place : Option ℕ → ℕ) (a : Around) (r named : Renaming) (position : ℕ → ℕ) (params : ℕ) (x : grammar.Body) where
  abbrev pub ops_of : List Placed
  ops_of = normal_ops (block_pick a) (text_of x.operators)

  abbrev pub keys_of : List Key
  keys_of = used_keys params (map (renamed_value (r Types)) x.locals) ops_of

  -- a local that is used has its new number by the position of its name; labels, and items of the file, are named as they are renamed
  abbrev pub ComesTo : Space → ℕ → Type 0
  ComesTo Locals n = n < params + length x.locals → is_used ops_of n ≡ true → position (named Locals n) ≡ new_number params keys_of n
  ComesTo Labels n = named Labels n ≡ r Labels n
  ComesTo space n = n < room a 0 0 space → named space n ≡ r space n

  -- so named, and then by these positions, the operators are those of the normal form
  abbrev pub IsNumbered : Type 0
  IsNumbered = map (renamed_placed (with_numbers position same)) (map (located place) (map (named_by named) ops_of)) ≡ (normal_renamed place a r params x).operators

abbrev pub NumberedOperatorsAreNormal : Type 0
NumberedOperatorsAreNormal = (place : Option ℕ → ℕ) (a : Around) (r named : Renaming) (position : ℕ → ℕ) (params : ℕ) (x : grammar.Body) → GroupsBelow 0 a.filled.groups → IsBody a params x
    → ((space : Space) (n : ℕ) → ComesTo place a r named position params x space n) → IsNumbered place a r named position params x
