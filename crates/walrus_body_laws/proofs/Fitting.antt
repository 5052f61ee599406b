-- Lemmas: in a body that meets the grammar, each operator that stands in a sequence fits its code.
use Rattle.std.proofs.Common.{ℕ, ◌<◌, Bool, true, false, List, [], ◌∷◌, All, Option, Some, subst, map}
use Rattle.std.specs.Prelude.{fold}
use Rattle.wasm_operators.specs.wasm_features.declared.WasmFeatures.{WasmFeatures}
use Rattle.walrus_handler_laws.specs.walrus_body_steps.wasm_grammar.Modules as grammar
use Rattle.walrus_pairing.specs.wasm_operators.declared.block_type.BlockType.{BlockType}
use Rattle.wasm_operators.specs.Operators.{Seen}
use Rattle.wasm_operators.specs.Ranges.{OperatorFits}
use Rattle.walrus_handler_laws.specs.walrus_body_steps.wasm_body_grammar.Rules.{Around}
use Rattle.walrus_handler_laws.specs.walrus_body_steps.wasm_body_grammar.Bodies.{Parts, body, next_total, opened, placed as placed_from}
use Rattle.walrus_handler_laws.specs.walrus_body_steps.wasm_normal_form.Roles.{placed, Role, Passes, Runs, Opens, Turns, Ends, role, cuts, is_if}
use Rattle.walrus_handler_laws.specs.walrus_body_steps.wasm_normal_form.Trees.{Tree, Close, Arm, Skip, Run, Nest, innermost, open_in, prepend, tree_of}
use Rattle.walrus_handler_laws.specs.walrus_body_steps.wasm_normal_form.Normal.{normal, normal_from}
use Rattle.walrus_body_trees.specs.Laws.{IsBody, ops_of}
use Rattle.walrus_body_trees.proofs.Counted.{AllFit}
use Rattle.walrus_body_trees.proofs.Bodies.{AreSpelled, all_front, fit}

module _ (features : WasmFeatures) where
  -- each operator that stands in a sequence of a tree fits
  abbrev pub RunsFit : Tree → Type 0
  RunsFit (Close o p) = Unit {0}
  RunsFit (Arm o p t) = RunsFit t
  RunsFit (Skip o p t) = RunsFit t
  RunsFit (Run o p t) = OperatorFits features o × RunsFit t
  RunsFit (Nest o p u t) = RunsFit u × RunsFit t

  abbrev TreesFit : List Tree → Type 0
  TreesFit [] = Unit {0}
  TreesFit (t ∷ ts) = RunsFit t × TreesFit ts

  prepend_fits : (o : Seen) (p : Option ℕ) (r : Role) (ts : List Tree) → OperatorFits features o → TreesFit ts → TreesFit (prepend r o p ts)
  prepend_fits o p Passes [] f h = tt
  prepend_fits o p Passes (t ∷ ts) f h = h
  prepend_fits o p Runs [] f h = tt
  prepend_fits o p Runs (t ∷ ts) f h = ((f, h.0), h.1)
  prepend_fits o p Turns [] f h = tt
  prepend_fits o p Turns (t ∷ ts) f h = h
  prepend_fits o p Opens [] f h = tt
  prepend_fits o p Opens (u ∷ []) f h = tt
  prepend_fits o p Opens (u ∷ (t ∷ ts)) f h = ((h.0, h.1.0), h.1.1)
  prepend_fits o p Ends ts f h = (tt, h)

  open_fits : (ops : List (ℕ × Seen)) (place : ℕ) → AllFit features ops → TreesFit (open_in (map (λ (o : grammar.Placed). placed o.op (Some o.place)) (placed_from place ops)))
  open_fits [] place f = tt
  open_fits (x ∷ xs) place f = prepend_fits x.1 (Some place) (role x.1) _ f.0 (open_fits xs x.0 f.1)

  first_fits : (ts : List Tree) → TreesFit ts → RunsFit (innermost ts)
  first_fits [] h = tt
  first_fits (t ∷ ts) h = h.0

  normal_fits : (pick : BlockType → BlockType) (t : Tree) (bare dropped : Bool) → RunsFit t → RunsFit (normal_from pick t bare dropped)
  normal_fits pick (Close o p) true dropped h = tt
  normal_fits pick (Close o p) false dropped h = tt
  normal_fits pick (Arm o p t) bare dropped h = normal_fits pick t false false h
  normal_fits pick (Skip o p t) bare dropped h = normal_fits pick t bare dropped h
  normal_fits pick (Run o p t) bare true h = normal_fits pick t bare true h.1
  normal_fits pick (Run o p t) bare false h = (h.0, normal_fits pick t bare (cuts o) h.1)
  normal_fits pick (Nest o p u t) bare true h = normal_fits pick t bare true h.1
  normal_fits pick (Nest o p u t) bare false h = (normal_fits pick u (is_if o) false h.0, normal_fits pick t bare false h.1)

-- each operator that stands in a sequence of the normal form of a body fits
pub spelled_fits : AreSpelled → (a : Around) (params place : ℕ) (bytes : List ℕ) (parts : Parts) (pick : BlockType → BlockType) → All (λ b. b < 256) bytes → (body a params place).spells bytes parts
    → RunsFit a.features (normal pick (tree_of (ops_of parts)))
spelled_fits spelled a params place bytes parts pick small spells =
    let halves = all_front spells.0 spells.1 (subst (All (λ b. b < 256)) spells.2 small) in
    let fits = fit spelled a (fold next_total params parts.0.1) parts.1 (opened parts.0.0) spells.1 halves.1 spells.4 in
    normal_fits a.features pick (tree_of (ops_of parts)) false false (first_fits a.features (open_in (ops_of parts)) (open_fits a.features parts.1 parts.0.0 fits))

pub body_fits : AreSpelled → (a : Around) (params place : ℕ) (bytes : List ℕ) (parts : Parts) (pick : BlockType → BlockType) → IsBody a params place bytes parts
    → RunsFit a.features (normal pick (tree_of (ops_of parts)))
body_fits spelled a params place bytes parts pick (small, spells, rules) = spelled_fits spelled a params place bytes parts pick small spells
