-- Lemmas: in a normal form each block type is its own pick.
use Rattle.std.specs.Prelude.{◌≡◌, ℕ, Bool, true, false, List, [], ◌∷◌, map, Option, refl}
use Rattle.std.specs.List.{AllByRecursion}
use Rattle.std.proofs.Common.{sym, ◌∙◌, subst}
use Rattle.std.proofs.lemmas.List.{map-append}
use Rattle.walrus_forms.specs.Same.{SameKindIsEquality}
use Rattle.wasm_ruled_modules.specs.wasm_module_rules.wasm_modules.wasm_body_grammar.Rules.{Around}
use Rattle.wasm_ruled_modules.specs.wasm_module_rules.wasm_modules.wasm_body_grammar.wasm_operators.Operators.{Seen}
use Rattle.wasm_ruled_modules.specs.wasm_module_rules.wasm_modules.wasm_body_grammar.wasm_operators.Table.{structure_rows}
use Rattle.wasm_normal_form.specs.Normal.{closed, normal_from, with_pick}
use Rattle.wasm_normal_form.specs.Roles.{Placed, Role, Passes, Runs, Opens, Turns, Ends, cuts, else_op, end_op, is_if, role}
use Rattle.wasm_normal_form.specs.Trees.{Tree, Close, Arm, Skip, Run, Nest, IsShaped, flat, innermost, open_in, prepend, tree_of}
use Rattle.wasm_normal_form.specs.wasm_operators.Items.{Item, Names, Number, S32, S64, Bits, Byte, Bytes, Heap, Block, Access, ManyLabels, ManyValues, ManyClauses}
use Rattle.wasm_run_names.specs.Picks.{block_pick}
use Rattle.wasm_ruled_normal.proofs.Picks.{picked_own}
use Rattle.wasm_ruled_normal.proofs.Tests.{all_join}
use Rattle.wasm_ruled_normal.specs.Normal.{BlockTypesArePicked, IsPicked, OpensPicked, located, text_of}

-- ---- operators stand in their roles

prepend_shaped : (r : Role) (o : Seen) (p : Option ℕ) (ts : List Tree) → role o ≡ r → AllByRecursion IsShaped ts → AllByRecursion IsShaped (prepend r o p ts)
prepend_shaped Passes o p [] e h = tt
prepend_shaped Passes o p (t ∷ ts) e h = ((e, h.0), h.1)
prepend_shaped Runs o p [] e h = tt
prepend_shaped Runs o p (t ∷ ts) e h = ((e, h.0), h.1)
prepend_shaped Turns o p [] e h = tt
prepend_shaped Turns o p (t ∷ ts) e h = ((e, h.0), h.1)
prepend_shaped Opens o p [] e h = tt
prepend_shaped Opens o p (u ∷ []) e h = tt
prepend_shaped Opens o p (u ∷ (t ∷ ts)) e h = ((e, h.0, h.1.0), h.1.1)
prepend_shaped Ends o p ts e h = (e, h)

open_shaped : (ops : List Placed) → AllByRecursion IsShaped (open_in ops)
open_shaped [] = tt
open_shaped (o ∷ ops) = prepend_shaped (role o.op) o.op o.place (open_in ops) refl (open_shaped ops)

else_turns : role else_op ≡ Turns
unfolding structure_rows
else_turns = refl

end_ends : role end_op ≡ Ends
unfolding structure_rows
end_ends = refl

innermost_shaped : (ts : List Tree) → AllByRecursion IsShaped ts → IsShaped (innermost ts)
innermost_shaped [] h = end_ends
innermost_shaped (t ∷ ts) h = h.0

-- ---- those that open a block have its pick

module _ (is : SameKindIsEquality) (a : Around) (at : Option ℕ → ℕ) where
  abbrev Own : Tree → Type 0
  Own t = AllByRecursion (OpensPicked a) (map (located at) (flat t))

  item_picked : (x : Item) → IsPicked a (with_pick (block_pick a) x)
  item_picked (Block ty) = picked_own is a ty
  item_picked (Names space n) = tt
  item_picked (Number n) = tt
  item_picked (S32 z) = tt
  item_picked (S64 z) = tt
  item_picked (Bits size n) = tt
  item_picked (Byte b) = tt
  item_picked (Bytes run) = tt
  item_picked (Heap ty) = tt
  item_picked (Access x) = tt
  item_picked (ManyLabels ns) = tt
  item_picked (ManyValues tys) = tt
  item_picked (ManyClauses cs) = tt

  items_picked : (xs : List Item) → AllByRecursion (IsPicked a) (map (with_pick (block_pick a)) xs)
  items_picked [] = tt
  items_picked (x ∷ xs) = (item_picked x, items_picked xs)

  -- an operator of another role opens none
  apart : (o : Seen) (r : Role) → role o ≡ r → (r ≡ Opens → ⊥) → role o ≡ Opens → AllByRecursion (IsPicked a) o.items
  apart o r e other opens = absurd (other (sym e ∙ opens))

  closed_picked : (o : Seen) (p : Option ℕ) (bare : Bool) → role o ≡ Ends → Own (closed bare o p)
  closed_picked o p true e = (apart else_op Turns else_turns (λ f. absurd cc), (apart end_op Ends end_ends (λ f. absurd cc), tt))
  closed_picked o p false e = (apart o Ends e (λ f. absurd cc), tt)

  normal_picked : (t : Tree) (bare dropped : Bool) → IsShaped t → Own (normal_from (block_pick a) t bare dropped)
  normal_picked (Close o p) bare dropped h = closed_picked o p bare h
  normal_picked (Arm o p t) bare dropped h = (apart o Turns h.0 (λ f. absurd cc), normal_picked t false false h.1)
  normal_picked (Skip o p t) bare dropped h = normal_picked t bare dropped h.1
  normal_picked (Run o p t) bare true h = normal_picked t bare true h.1
  normal_picked (Run o p t) bare false h = (apart o Runs h.0 (λ f. absurd cc), normal_picked t bare (cuts o) h.1)
  normal_picked (Nest o p u t) bare true h = normal_picked t bare true h.2
  normal_picked (Nest o p u t) bare false h =
      let inner = normal_from (block_pick a) u (is_if o) false in
      let later = normal_from (block_pick a) t bare false in (
        (λ _. items_picked o.items),
        subst (AllByRecursion (OpensPicked a)) (sym (map-append (located at) (flat inner) (flat later)))
            (all_join (OpensPicked a) (map (located at) (flat inner)) (map (located at) (flat later)) (normal_picked u (is_if o) false h.1) (normal_picked t bare false h.2)),
      )

pub blocks_picked : SameKindIsEquality → BlockTypesArePicked
blocks_picked is at a ops = normal_picked is a at (tree_of (text_of ops)) false false (innermost_shaped (open_in (text_of ops)) (open_shaped (text_of ops)))
