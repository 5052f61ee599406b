-- Lemmas: what stands as a normal form with picks stands as it with block types as they are written.
use Rattle.std.specs.Prelude.{ℕ, ◌≡◌, Bool, false, List, [], ◌∷◌, map, refl}
use Rattle.std.proofs.Common.{ap, sym, ◌∙◌, subst}
use Rattle.walrus_named_bodies.specs.walrus_file_bodies.walrus_items_into.walrus_module_bodies.walrus_body_trees.walrus_meaning.walrus_linked.walrus_body_writer.walrus_pairing.wasm_operators.Items.{Item as Word, Names, Number, S32, S64, Bits, Byte, Bytes, Heap, Block, Access, ManyLabels, ManyValues, ManyClauses}
use Rattle.walrus_named_bodies.specs.walrus_file_bodies.walrus_items_into.walrus_module_bodies.walrus_body_trees.walrus_meaning.walrus_linked.walrus_body_writer.walrus_pairing.wasm_operators.declared.block_type.BlockType.{BlockType}
use Rattle.walrus_named_bodies.specs.walrus_file_bodies.walrus_items_into.walrus_module_bodies.walrus_body_trees.walrus_meaning.walrus_linked.walrus_body_writer.walrus_pairing.wasm_operators.declared.clause.Clause.{Clause}
use Rattle.walrus_named_bodies.specs.walrus_file_bodies.walrus_items_into.walrus_module_bodies.walrus_body_trees.walrus_meaning.walrus_linked.walrus_body_writer.walrus_pairing.walrus_codes.wasm_operators.Operators.{Seen}
use Rattle.walrus_named_bodies.specs.walrus_file_bodies.walrus_items_into.walrus_module_bodies.walrus_body_trees.walrus_meaning.walrus_linked.walrus_local_function.walrus_body_locals.wasm_normal_form.Normal.{normal, picked, with_pick}
use Rattle.walrus_named_bodies.specs.walrus_file_bodies.walrus_items_into.walrus_module_bodies.walrus_body_trees.walrus_meaning.walrus_linked.walrus_local_function.walrus_body_locals.wasm_normal_form.Trees.{Tree, Close, Arm, Skip, Run, Nest}
use Rattle.walrus_named_bodies.specs.walrus_file_bodies.walrus_items_into.walrus_module_bodies.walrus_body_trees.walrus_meaning.walrus_linked.walrus_local_function.walrus_body_locals.walrus_body_nesting.Opens.{same}
use Rattle.walrus_named_bodies.specs.walrus_file_bodies.walrus_items_into.walrus_module_bodies.walrus_body_trees.walrus_meaning.walrus_linked.walrus_local_function.walrus_body_locals.walrus_body_nesting.Stands.{Finish, Part, StandsAs, lies}
use Rattle.walrus_named_bodies.specs.walrus_file_bodies.walrus_items_into.walrus_module_bodies.walrus_body_trees.walrus_meaning.walrus_linked.walrus_local_function.walrus_body_locals.walrus_body_nesting.declared.frames.Opener.{Opener}
use Rattle.walrus_named_bodies.specs.walrus_file_bodies.walrus_items_into.walrus_module_bodies.walrus_body_trees.walrus_meaning.walrus_linked.walrus_local_function.walrus_body_locals.walrus_body_nesting.declared.frames.Opener.TheVariants as openers
use Rattle.walrus_named_bodies.specs.walrus_file_bodies.walrus_items_into.walrus_module_env.walrus_body_parser.walrus_body_steps.Meanings.{IsOpener, OpensOf, meaning}
use Rattle.walrus_named_bodies.specs.walrus_file_bodies.walrus_items_into.walrus_module_env.walrus_body_parser.walrus_body_steps.Picks.{ArePicks, normal_picked, picked_size, with_picks}
use Rattle.walrus_named_bodies.specs.walrus_file_bodies.walrus_items_into.walrus_module_bodies.walrus_body_trees.walrus_meaning.walrus_linked.walrus_local_function.walrus_function_parser.walrus_body_rules.Sights.{Sight, written_block}
use Rattle.walrus_named_bodies.specs.walrus_item_names.walrus_module.walrus_builder.Built.{Seq}
use Rattle.walrus_named_bodies.specs.walrus_file_bodies.walrus_items_into.walrus_module_bodies.walrus_body_trees.walrus_meaning.walrus_linked.walrus_body_writer.walrus_body_env.walrus_instr.declared.instr.Instr.{Instr}
use Rattle.walrus_named_bodies.specs.walrus_file_bodies.walrus_items_into.walrus_module_bodies.walrus_body_trees.walrus_meaning.walrus_linked.walrus_body_writer.walrus_body_env.walrus_instr.declared.seq.InstrLocId.{InstrLocId}
use Rattle.walrus_named_bodies.specs.walrus_file_bodies.walrus_items_into.walrus_module_bodies.walrus_body_trees.walrus_meaning.walrus_linked.walrus_body_writer.walrus_body_env.walrus_instr.declared.seq.InstrSeqType.{InstrSeqType}

block_was : (pick : BlockType → BlockType) (written : BlockType) (more words : List Word) → map (with_pick pick) words ≡ Block written ∷ more
    → (ty : BlockType) × (rest : List Word) × (words ≡ Block ty ∷ rest) × (pick ty ≡ written) × (map (with_pick pick) rest ≡ more)
block_was pick written more [] e = absurd cc
block_was pick written more (Names space n ∷ rest) e = absurd cc
block_was pick written more (Number n ∷ rest) e = absurd cc
block_was pick written more (S32 z ∷ rest) e = absurd cc
block_was pick written more (S64 z ∷ rest) e = absurd cc
block_was pick written more (Bits size n ∷ rest) e = absurd cc
block_was pick written more (Byte b ∷ rest) e = absurd cc
block_was pick written more (Bytes run ∷ rest) e = absurd cc
block_was pick written more (Heap ty ∷ rest) e = absurd cc
block_was pick written more (Block ty ∷ rest) e = (ty, rest, refl, first e, second e)
  where
    first : Block (pick ty) ∷ map (with_pick pick) rest ≡ Block written ∷ more → pick ty ≡ written
    first e = cc

    second : Block (pick ty) ∷ map (with_pick pick) rest ≡ Block written ∷ more → map (with_pick pick) rest ≡ more
    second e = cc
block_was pick written more (Access a ∷ rest) e = absurd cc
block_was pick written more (ManyLabels ns ∷ rest) e = absurd cc
block_was pick written more (ManyValues tys ∷ rest) e = absurd cc
block_was pick written more (ManyClauses cs ∷ rest) e = absurd cc

clauses_were : (pick : BlockType → BlockType) (hs : List Clause) (words : List Word) → map (with_pick pick) words ≡ ManyClauses hs ∷ [] → words ≡ ManyClauses hs ∷ []
clauses_were pick hs [] e = absurd cc
clauses_were pick hs (Names space n ∷ rest) e = absurd cc
clauses_were pick hs (Number n ∷ rest) e = absurd cc
clauses_were pick hs (S32 z ∷ rest) e = absurd cc
clauses_were pick hs (S64 z ∷ rest) e = absurd cc
clauses_were pick hs (Bits size n ∷ rest) e = absurd cc
clauses_were pick hs (Byte b ∷ rest) e = absurd cc
clauses_were pick hs (Bytes run ∷ rest) e = absurd cc
clauses_were pick hs (Heap ty ∷ rest) e = absurd cc
clauses_were pick hs (Block ty ∷ rest) e = absurd cc
clauses_were pick hs (Access a ∷ rest) e = absurd cc
clauses_were pick hs (ManyLabels ns ∷ rest) e = absurd cc
clauses_were pick hs (ManyValues tys ∷ rest) e = absurd cc
clauses_were pick hs (ManyClauses cs ∷ []) e = e
clauses_were pick hs (ManyClauses cs ∷ w ∷ rest) e = absurd cc

opener_was : (s : Sight) (pick : BlockType → BlockType) (around : List ℕ) (op : Seen) (g : Opener) → IsOpener s around (picked pick op) g → IsOpener s around op g
opener_was s pick around op openers.Block h = h
opener_was s pick around op openers.Loop h = h
opener_was s pick around op openers.If h = h
opener_was s pick around op openers.Try h = h
opener_was s pick around op (openers.TryTable clauses) (flow, ty, hs, items, are) =
    let was = block_was pick ty (ManyClauses hs ∷ []) op.items items in
    (flow, was.0, hs, was.2 ∙ ap (λ (l : List Word). Block was.0 ∷ l) (clauses_were pick hs was.1 was.4), are)

opens_was : (s : Sight) (pick : BlockType → BlockType) (op : Seen) (ty : InstrSeqType) → ArePicks s pick → OpensOf s (picked pick op) ty → OpensOf s op ty
opens_was s pick op ty alike (written, more, items, is) =
    let was = block_was pick written more op.items items in
    (was.0, was.1, was.2, sym (alike was.0) ∙ ap (written_block s) was.3 ∙ is)

lies_was : (s : Sight) (pick : BlockType → BlockType) (t : Tree) (b : List Seq) (around : List ℕ) (k : ℕ) (ty : InstrSeqType) (met : ℕ → Bool) (is : List (Instr × InstrLocId)) (e : InstrLocId) (ms : List Part) (f : Finish) (done : ℕ → Bool)
    → ArePicks s pick → lies (meaning s) (with_picks pick t) b around k ty met is e ms f done → lies (meaning s) t b around k ty met is e ms f done
lies_was s pick (Close o p) b around k ty met [] e [] f done alike h = h
lies_was s pick (Close o p) b around k ty met [] e (n ∷ ms) f done alike h = absurd h
lies_was s pick (Close o p) b around k ty met (i ∷ is) e ms f done alike h = absurd h
lies_was s pick (Arm o p t) b around k ty met [] e [] f done alike h = absurd h
lies_was s pick (Arm o p t) b around k ty met [] e (n ∷ ms) f done alike (place, fresh, x, found, turns, lie) =
    (place, fresh, x, found, turns, lies_was s pick t b around n.seq ty _ x.instrs x.end ms f done alike lie)
lies_was s pick (Arm o p t) b around k ty met (i ∷ is) e ms f done alike h = absurd h
lies_was s pick (Skip o p t) b around k ty met [] e [] f done alike h = absurd h
lies_was s pick (Skip o p t) b around k ty met [] e (n ∷ ms) f done alike h = absurd h
lies_was s pick (Skip o p t) b around k ty met (i ∷ is) e ms f done alike h = absurd h
lies_was s pick (Run o p t) b around k ty met [] e [] f done alike h = absurd h
lies_was s pick (Run o p t) b around k ty met [] e (n ∷ ms) f done alike h = absurd h
lies_was s pick (Run o p t) b around k ty met (i ∷ is) e ms f done alike (runs, place, lie) = (runs, place, lies_was s pick t b around k ty met is e ms f done alike lie)
lies_was s pick (Nest o p u t) b around k ty met [] e [] f done alike h = absurd h
lies_was s pick (Nest o p u t) b around k ty met [] e (n ∷ ms) f done alike h = absurd h
lies_was s pick (Nest o p u t) b around k ty met (i ∷ is) e ms f done alike (q, (g, makes, opener), place, fresh, x, found, opens, half, inside, lie) = (
  q,
  (g, makes, opener_was s pick (k ∷ around) o g opener),
  place,
  fresh,
  x,
  found,
  opens_was s pick o x.ty alike opens,
  half,
  lies_was s pick u b (k ∷ around) q.first x.ty _ x.instrs x.end q.more q.finish half alike inside,
  lies_was s pick t b around k ty half is e ms f done alike lie,
)

pub stands_as_written : (s : Sight) (pick : BlockType → BlockType) (b : List Seq) (t : Tree) → ArePicks s pick → StandsAs (meaning s) b (normal pick t) → StandsAs (meaning s) b (normal same t)
stands_as_written s pick b t alike stands =
    let here = subst (λ (u : Tree). StandsAs (meaning s) b u) (sym (normal_picked pick t false false)) stands in
    let n = here.enters in record {
      ty = here.ty;
      done = here.done;
      enters = record { seq = n.seq; fresh = n.fresh; found = n.found; typed = n.typed; lie = lies_was s pick (normal same t) b [] 0 here.ty _ n.seq.instrs n.seq.end [] _ here.done alike n.lie };
      just = here.just ∙ picked_size pick (normal same t);
    }
