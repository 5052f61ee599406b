-- What is due for a body is the shortest spelling of the body that is meant, renamed.
use Rattle.std.specs.Prelude.{ℕ, List}
use Rattle.wasm_operators.specs.Names.{Renaming}
use Rattle.wasm_body_grammar.specs.Rules.{Around}
use Rattle.wasm_grammar_bytes.specs.Shortest.{body_bytes}
use Rattle.wasm_part.specs.Part.{renumbered_body}
use Rattle.walrus_index_maps.specs.Maps.{Indices}
use Rattle.walrus_items.specs.declared.local.Local.{Local}
use Rattle.walrus_builder.specs.Functions.{seqs_of}
use Rattle.walrus_tree.specs.Text.{operators}
use Rattle.walrus_body_names.specs.Names.{HaveSame, local_in, text_names}
use Rattle.walrus_local_function.specs.declared.local_function.LocalFunction.{LocalFunction}
use Rattle.walrus_local_numbers.specs.Laws.{IsOnce}
use Rattle.walrus_meaning.specs.Bodies.{local_ids, own_body}
use Rattle.walrus_emit_code.specs.Code.{contents}
use Rattle.walrus_due_laws.specs.Spelled.{SpelledAs}
use Rattle.walrus_code_laws.specs.Numbered.{numbered_body}
use Rattle.walrus_code_laws.specs.Spelled.{HavePlaces, ServesBodies}

-- these are the locals that the body names, and no argument stands twice
pub record IsKnown (local : LocalFunction) (used : List ℕ) : Type 0 where
  pub names : HaveSame used (text_names local_in (operators (seqs_of local.builder) 0))
  pub once : IsOnce local.args.items

abbrev pub BodiesAreSpelled : Type 0
BodiesAreSpelled = (a : Around) (params : ℕ) (r : Renaming) (i : Indices) → ServesBodies r i
    → (locals : List Local) (function : ℕ) (local : LocalFunction) (used : List ℕ) → IsKnown local used → HavePlaces (local_ids locals local) (i.locals function)
    → SpelledAs (contents locals function local used i) (body_bytes a params (renumbered_body r (numbered_body (local_ids locals local) (own_body locals local))))
