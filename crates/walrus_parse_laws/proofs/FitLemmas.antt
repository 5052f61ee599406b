-- Lemmas: the tree of a body, and that the instruction of an operator which stands in a sequence holds none itself.
use Rattle.std.proofs.Common.{ℕ, ◌≡◌, ◌∙◌, inl, inr, List, [], ◌∷◌, map, Some, refl, ap}
use Rattle.walrus_body_laws.specs.walrus_pairing.wasm_operators.wasm_features.declared.WasmFeatures.{WasmFeatures}
use Rattle.walrus_named_bodies.specs.walrus_file_bodies.walrus_items_into.walrus_module_env.walrus_handler_types.walrus_handler_laws.walrus_body_steps.wasm_grammar.Modules as grammar
use Rattle.walrus_body_laws.specs.walrus_pairing.wasm_operators.Items.{Labels, Item, Names, Byte, Heap, ManyLabels}
use Rattle.wasm_operators.specs.Operators.{Seen}
use Rattle.wasm_operators.specs.Ranges.{OperatorFits}
use Rattle.walrus_named_bodies.specs.walrus_file_bodies.walrus_items_into.walrus_module_env.walrus_handler_types.walrus_handler_laws.walrus_body_steps.wasm_body_grammar.Bodies.{Parts, body_of}
use Rattle.walrus_named_bodies.specs.walrus_file_bodies.walrus_items_into.walrus_module_env.walrus_handler_types.walrus_handler_laws.walrus_body_steps.wasm_normal_form.Roles.{placed}
use Rattle.walrus_named_bodies.specs.walrus_file_bodies.walrus_items_into.walrus_module_env.walrus_handler_types.walrus_handler_laws.walrus_body_steps.wasm_normal_form.Trees.{Tree, tree_of}
use Rattle.walrus_body_laws.specs.walrus_pairing.walrus_instr.declared.instr.Instr.{Instr}
use Rattle.walrus_body_laws.specs.walrus_pairing.walrus_instr.declared.instr.Instr.TheVariants as instrs
use Rattle.walrus_named_bodies.specs.walrus_file_bodies.walrus_items_into.walrus_module_env.walrus_handler_types.walrus_handler_laws.walrus_tree.walrus_walks.Tree.{children}
use Rattle.walrus_body_laws.specs.walrus_pairing.Laws.{OperatorComesBack}
use Rattle.walrus_body_laws.specs.walrus_pairing.Read.{at, instr_at}
use Rattle.walrus_named_bodies.specs.walrus_file_bodies.walrus_items_into.walrus_module_env.walrus_handler_types.walrus_handler_laws.walrus_body_steps.walrus_body_rules.Sights.{Sight, look}
use Rattle.walrus_named_bodies.specs.walrus_file_bodies.walrus_items_into.walrus_module_env.walrus_handler_types.walrus_handler_laws.walrus_body_steps.Meanings.{RunsAs}
use Rattle.walrus_body_laws.proofs.walrus_body_trees.Instrs.{bytes_have, objects_have, read_stands}

-- the tree of a body's operators
abbrev pub body_tree : Parts → Tree
body_tree parts = tree_of (map (λ (o : grammar.Placed). placed o.op (Some o.place)) (body_of parts).operators)

abbrev HoldsNone : Instr → Type 0
HoldsNone i = children i ≡ []

module _ (back : OperatorComesBack) (features : WasmFeatures) (s : Sight) (around : List ℕ) where
  pub run_none : (op : Seen) (i : Instr) → RunsAs s around op.code op.items i → OperatorFits features op → children i ≡ []
  run_none op i h fits = go op.items refl h
    where
      go : (items : List Item) → op.items ≡ items → RunsAs s around op.code items i → children i ≡ []
      go (Names Labels n ∷ []) e (inl h) = ap children h.1
      go (Names Labels n ∷ []) e (inr (k, there, is)) =
          bytes_have HoldsNone (at 0x0c (instrs.Br k) ∷ at 0x0d (instrs.BrIf k) ∷ at 0xd5 (instrs.BrOnNull k) ∷ at 0xd6 (instrs.BrOnNonNull k) ∷ []) op.code i
          ((refl, tt), ((refl, tt), ((refl, tt), ((refl, tt), tt)))) is
      go (ManyLabels ns ∷ Names Labels n ∷ []) e (ks, k, are, there, is) = ap children is
      go (Byte b ∷ Names Labels n ∷ Heap x ∷ Heap y ∷ []) e (k, from, to, there, f, t, is) =
          objects_have HoldsNone [] (at 24 (instrs.BrOnCast k _ _) ∷ at 25 (instrs.BrOnCastFail k _ _) ∷ []) op.code i tt ((refl, tt), ((refl, tt), tt)) is
      go _ e h = (read_stands back features s around op i fits (ap (λ items. instr_at (look s) (record { code = op.code; items = items })) e ∙ h)).1
