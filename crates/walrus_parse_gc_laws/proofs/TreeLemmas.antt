-- Lemmas: what is so of each operator of a body is so of those that stand in its normal form.
use Rattle.std.proofs.Common.{subst, sym}
use Rattle.std.specs.List.{AllByRecursion}
use Rattle.std.specs.Prelude.{Bool, List, Option, Some, [], false, map, true, ℕ, ◌∷◌}
use Rattle.walrus_parse_laws.specs.walrus_named_bodies.walrus_file_bodies.walrus_items_into.walrus_module_env.walrus_handler_types.walrus_body_steps.walrus_body_nesting.Opens.{same}
use Rattle.walrus_parse_laws.specs.walrus_named_bodies.walrus_file_bodies.walrus_items_into.walrus_module_env.walrus_handler_types.walrus_body_steps.Stepping.{same_op}
use Rattle.walrus_parse_laws.specs.walrus_named_bodies.walrus_file_bodies.walrus_items_into.wasm_sections.wasm_grammar.Modules as grammar
use Rattle.walrus_parse_laws.specs.walrus_named_bodies.walrus_file_bodies.walrus_items_into.walrus_module_env.walrus_handler_types.walrus_body_steps.wasm_normal_form.Normal.{normal, normal_from}
use Rattle.walrus_parse_laws.specs.walrus_named_bodies.walrus_file_bodies.walrus_items_into.walrus_module_env.walrus_handler_types.walrus_body_steps.wasm_normal_form.Roles.{placed, Role, Passes, Runs, Opens, Turns, Ends, role, cuts, is_if}
use Rattle.walrus_parse_laws.specs.walrus_named_bodies.walrus_file_bodies.walrus_items_into.walrus_module_env.walrus_handler_types.walrus_body_steps.wasm_normal_form.Trees.{Tree, Close, Arm, Skip, Run, Nest, innermost, open_in, prepend, tree_of}
use Rattle.walrus_parse_laws.specs.walrus_named_bodies.walrus_file_bodies.walrus_items_into.walrus_module_env.walrus_body_parser.wasm_operators.Operators.{Seen}

module _ (Q : Seen → Type 0) where
  -- each operator of a tree, but for those that end a sequence or begin a further part of a block
  abbrev pub TreeIs : Tree → Type 0
  TreeIs (Close o p) = Unit {0}
  TreeIs (Arm o p t) = TreeIs t
  TreeIs (Skip o p t) = TreeIs t
  TreeIs (Run o p t) = Q o × TreeIs t
  TreeIs (Nest o p u t) = Q o × TreeIs u × TreeIs t

  abbrev AllAre : List Tree → Type 0
  AllAre [] = Unit {0}
  AllAre (t ∷ ts) = TreeIs t × AllAre ts

  prepended : (o : Seen) (p : Option ℕ) (r : Role) (ts : List Tree) → Q o → AllAre ts → AllAre (prepend r o p ts)
  prepended o p Passes [] q h = tt
  prepended o p Passes (t ∷ ts) q h = h
  prepended o p Runs [] q h = tt
  prepended o p Runs (t ∷ ts) q h = ((q, h.0), h.1)
  prepended o p Turns [] q h = tt
  prepended o p Turns (t ∷ ts) q h = h
  prepended o p Opens [] q h = tt
  prepended o p Opens (u ∷ []) q h = tt
  prepended o p Opens (u ∷ (t ∷ ts)) q h = ((q, h.0, h.1.0), h.1.1)
  prepended o p Ends ts q h = (tt, h)

  opened : (ops : List grammar.Placed) → AllByRecursion (λ (o : grammar.Placed). Q o.op) ops → AllAre (open_in (map (λ (o : grammar.Placed). placed o.op (Some o.place)) ops))
  opened [] h = tt
  opened (o ∷ ops) h = prepended o.op (Some o.place) (role o.op) (open_in (map (λ (o : grammar.Placed). placed o.op (Some o.place)) ops)) h.0 (opened ops h.1)

  first : (ts : List Tree) → AllAre ts → TreeIs (innermost ts)
  first [] h = tt
  first (t ∷ ts) h = h.0

  kept : (t : Tree) (bare dropped : Bool) → TreeIs t → TreeIs (normal_from same t bare dropped)
  kept (Close o p) true dropped h = tt
  kept (Close o p) false dropped h = tt
  kept (Arm o p t) bare dropped h = kept t false false h
  kept (Skip o p t) bare dropped h = kept t bare dropped h
  kept (Run o p t) bare true h = kept t bare true h.1
  kept (Run o p t) bare false h = (h.0, kept t bare (cuts o) h.1)
  kept (Nest o p u t) bare true h = kept t bare true h.2
  kept (Nest o p u t) bare false h = (subst Q (sym (same_op o)) h.0, kept u (is_if o) false h.1, kept t bare false h.2)

  pub normal_is : (ops : List grammar.Placed) → AllByRecursion (λ (o : grammar.Placed). Q o.op) ops → TreeIs (normal same (tree_of (map (λ (o : grammar.Placed). placed o.op (Some o.place)) ops)))
  normal_is ops h =
      kept (tree_of (map (λ (o : grammar.Placed). placed o.op (Some o.place)) ops)) false false (first (open_in (map (λ (o : grammar.Placed). placed o.op (Some o.place)) ops)) (opened ops h))
