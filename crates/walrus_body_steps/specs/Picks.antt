-- What stands as a normal form with block types as they are written stands as it with their picks.
use Rattle.std.proofs.Common.{ℕ, ◌+◌, ◌≡◌, Bool, true, false, List, [], ◌∷◌, map, refl, sym, ap, subst, ◌∙◌}
use Rattle.walrus_body_stack.specs.walrus_instr.declared.instr.Instr.{Instr}
use Rattle.walrus_body_stack.specs.walrus_instr.declared.seq.InstrLocId.{InstrLocId}
use Rattle.walrus_body_stack.specs.walrus_instr.declared.seq.InstrSeqType.{InstrSeqType}
use Rattle.walrus_body_stack.specs.walrus_builder.Built.{Seq}
use Rattle.walrus_body_rules.specs.walrus_pairing.wasm_operators.declared.block_type.BlockType.{BlockType}
use Rattle.walrus_body_rules.specs.wasm_body_grammar.wasm_operators.Operators.{Seen}
use Rattle.walrus_body_stack.specs.wasm_normal_form.Roles.{cuts, is_if}
use Rattle.walrus_body_stack.specs.wasm_normal_form.Trees.{Tree, Close, Arm, Skip, Run, Nest}
use Rattle.walrus_body_stack.specs.wasm_normal_form.Normal.{with_pick, picked, normal_from, normal}
use Rattle.walrus_body_stack.specs.walrus_body_nesting.declared.frames.Opener.{Opener}
use Rattle.walrus_body_stack.specs.walrus_body_nesting.declared.frames.Opener.TheVariants as openers
use Rattle.walrus_body_stack.specs.walrus_body_nesting.Stands.{Part, Finish, lies, StandsAs, tree_size}
use Rattle.walrus_body_stack.specs.walrus_body_nesting.Opens.{same}
use Rattle.walrus_body_rules.specs.Sights.{Sight, written_block}
use Rattle.walrus_body_steps.specs.Meanings.{IsOpener, OpensOf, meaning}
use Rattle.walrus_body_steps.specs.Stepping.{same_op}

-- the picks of block types are their types
abbrev pub ArePicks : Sight → (BlockType → BlockType) → Type 0
ArePicks s pick = (ty : BlockType) → written_block s (pick ty) ≡ written_block s ty

abbrev pub PicksStand : Type 0
PicksStand = (s : Sight) (pick : BlockType → BlockType) (b : List Seq) (t : Tree) → ArePicks s pick → StandsAs (meaning s) b (normal same t) → StandsAs (meaning s) b (normal pick t)

-- ---- lemmas

abbrev pub with_picks : (BlockType → BlockType) → Tree → Tree
with_picks pick (Close o p) = Close o p
with_picks pick (Arm o p t) = Arm o p (with_picks pick t)
with_picks pick (Skip o p t) = Skip o p (with_picks pick t)
with_picks pick (Run o p t) = Run o p (with_picks pick t)
with_picks pick (Nest o p u t) = Nest (picked pick o) p (with_picks pick u) (with_picks pick t)

pub picked_size : (pick : BlockType → BlockType) (t : Tree) → tree_size (with_picks pick t) ≡ tree_size t
picked_size pick (Close o p) = refl
picked_size pick (Arm o p t) = picked_size pick t
picked_size pick (Skip o p t) = picked_size pick t
picked_size pick (Run o p t) = ap (λ (n : ℕ). n + 1) (picked_size pick t)
picked_size pick (Nest o p u t) = ap (λ (n : ℕ). n + tree_size (with_picks pick t) + 1) (picked_size pick u) ∙ ap (λ (n : ℕ). tree_size u + n + 1) (picked_size pick t)

pub normal_picked : (pick : BlockType → BlockType) (t : Tree) (bare dropped : Bool) → with_picks pick (normal_from same t bare dropped) ≡ normal_from pick t bare dropped
normal_picked pick (Close o p) true dropped = refl
normal_picked pick (Close o p) false dropped = refl
normal_picked pick (Arm o p t) bare dropped = ap (λ (u : Tree). Arm o p u) (normal_picked pick t false false)
normal_picked pick (Skip o p t) bare dropped = normal_picked pick t bare dropped
normal_picked pick (Run o p t) bare true = normal_picked pick t bare true
normal_picked pick (Run o p t) bare false = ap (λ (u : Tree). Run o p u) (normal_picked pick t bare (cuts o))
normal_picked pick (Nest o p u t) bare true = normal_picked pick t bare true
normal_picked pick (Nest o p u t) bare false =
    let v = with_picks pick (normal_from same u (is_if o) false) in
    let w = with_picks pick (normal_from same t bare false) in
    ap (λ (x : Seen). Nest (picked pick x) p v w) (same_op o)
    ∙ ap (λ (x : Tree). Nest (picked pick o) p x w) (normal_picked pick u (is_if o) false)
    ∙ ap (λ (x : Tree). Nest (picked pick o) p (normal_from pick u (is_if o) false) x) (normal_picked pick t bare false)

opener_picked : (s : Sight) (pick : BlockType → BlockType) (around : List ℕ) (op : Seen) (g : Opener) → IsOpener s around op g → IsOpener s around (picked pick op) g
opener_picked s pick around op openers.Block h = h
opener_picked s pick around op openers.Loop h = h
opener_picked s pick around op openers.If h = h
opener_picked s pick around op openers.Try h = h
opener_picked s pick around op (openers.TryTable clauses) (flow, ty, hs, items, are) = (flow, pick ty, hs, ap (map (with_pick pick)) items, are)

opens_picked : (s : Sight) (pick : BlockType → BlockType) (op : Seen) (ty : InstrSeqType) → ArePicks s pick → OpensOf s op ty → OpensOf s (picked pick op) ty
opens_picked s pick op ty alike (written, more, items, is) = (pick written, map (with_pick pick) more, ap (map (with_pick pick)) items, alike written ∙ is)

lies_picked : (s : Sight) (pick : BlockType → BlockType) (t : Tree) (b : List Seq) (around : List ℕ) (k : ℕ) (ty : InstrSeqType) (met : ℕ → Bool) (is : List (Instr × InstrLocId)) (e : InstrLocId) (ms : List Part) (f : Finish) (done : ℕ → Bool)
    → ArePicks s pick → lies (meaning s) t b around k ty met is e ms f done → lies (meaning s) (with_picks pick t) b around k ty met is e ms f done
lies_picked s pick (Close o p) b around k ty met [] e [] f done alike h = h
lies_picked s pick (Close o p) b around k ty met [] e (n ∷ ms) f done alike h = absurd h
lies_picked s pick (Close o p) b around k ty met (i ∷ is) e ms f done alike h = absurd h
lies_picked s pick (Arm o p t) b around k ty met [] e [] f done alike h = absurd h
lies_picked s pick (Arm o p t) b around k ty met [] e (n ∷ ms) f done alike (place, fresh, x, found, turns, lie) =
    (place, fresh, x, found, turns, lies_picked s pick t b around n.seq ty _ x.instrs x.end ms f done alike lie)
lies_picked s pick (Arm o p t) b around k ty met (i ∷ is) e ms f done alike h = absurd h
lies_picked s pick (Skip o p t) b around k ty met [] e [] f done alike h = absurd h
lies_picked s pick (Skip o p t) b around k ty met [] e (n ∷ ms) f done alike h = absurd h
lies_picked s pick (Skip o p t) b around k ty met (i ∷ is) e ms f done alike h = absurd h
lies_picked s pick (Run o p t) b around k ty met [] e [] f done alike h = absurd h
lies_picked s pick (Run o p t) b around k ty met [] e (n ∷ ms) f done alike h = absurd h
lies_picked s pick (Run o p t) b around k ty met (i ∷ is) e ms f done alike (runs, place, lie) = (runs, place, lies_picked s pick t b around k ty met is e ms f done alike lie)
lies_picked s pick (Nest o p u t) b around k ty met [] e [] f done alike h = absurd h
lies_picked s pick (Nest o p u t) b around k ty met [] e (n ∷ ms) f done alike h = absurd h
lies_picked s pick (Nest o p u t) b around k ty met (i ∷ is) e ms f done alike (q, (g, makes, opener), place, fresh, x, found, opens, half, inside, lie) = (
  q,
  (g, makes, opener_picked s pick (k ∷ around) o g opener),
  place,
  fresh,
  x,
  found,
  opens_picked s pick o x.ty alike opens,
  half,
  lies_picked s pick u b (k ∷ around) q.first x.ty _ x.instrs x.end q.more q.finish half alike inside,
  lies_picked s pick t b around k ty half is e ms f done alike lie,
)

pub picks_stand : PicksStand
picks_stand s pick b t alike stands =
    let n = stands.enters in
    let T : Tree → Type 0 = λ u. StandsAs (meaning s) b u in
    subst T (normal_picked pick t false false) (record {
      ty = stands.ty;
      done = stands.done;
      enters = record { seq = n.seq; fresh = n.fresh; found = n.found; typed = n.typed; lie = lies_picked s pick (normal same t) b [] 0 stands.ty _ n.seq.instrs n.seq.end [] _ stands.done alike n.lie };
      just = stands.just ∙ sym (picked_size pick (normal same t));
    })
