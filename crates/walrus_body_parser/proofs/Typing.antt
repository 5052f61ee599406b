-- Lemmas: the body's own sequence keeps its type.
use Rattle.std.proofs.Common.{ℕ, zero, suc, ◌≡◌, ◌<◌, Bool, true, false, List, [], ◌∷◌, ◌++◌, length, None, refl, ap, inl, inr, ◌∙◌, arith}
use Rattle.walrus_instr.specs.declared.instr.Instr.{Instr}
use Rattle.walrus_instr.specs.declared.seq.InstrLocId.{InstrLocId}
use Rattle.walrus_instr.specs.declared.seq.InstrSeqType.{InstrSeqType}
use Rattle.walrus_body_locals.specs.wasm_body_grammar.Frames.{Frame}
use Rattle.walrus_body_operands.specs.walrus_body_stack.walrus_builder.Built.{Seq, edited, filled_with}
use Rattle.walrus_body_locals.specs.walrus_body_nesting.declared.frames.Opener.{Opener}
use Rattle.walrus_body_locals.specs.walrus_body_nesting.Stands.{Turn}
use Rattle.walrus_body_locals.specs.walrus_body_nesting.Opens.{Shaped, type_at}
use Rattle.walrus_body_operands.specs.walrus_body_stack.declared.stack.Stack.{Stack}
use Rattle.walrus_body_operands.specs.walrus_body_stack.Frames.{inner, around, opens, blocks, filled, delegate_test, IsOpened, IsTurned, IsEnded, IsHanded}
use Rattle.walrus_body_parser.specs.Changes.{entry_of}
use Rattle.walrus_body_parser.proofs.Turning.{not_body, is_trying}

-- another sequence behind them
first_type : (b : List Seq) (s : Seq) → 0 < length b → type_at (b ++ s ∷ []) 0 ≡ type_at b 0
first_type [] s l = absurd (omega (arith, l))
first_type (x ∷ b) s l = refl

edited_type : (is : List (Instr × InstrLocId)) (e : InstrLocId) (b : List Seq) (k : ℕ) → type_at (edited (filled_with is e) b k) 0 ≡ type_at b 0
edited_type is e [] k = refl
edited_type is e (s ∷ b) zero = refl
edited_type is e (s ∷ b) (suc k) = refl

edited_some : (is : List (Instr × InstrLocId)) (e : InstrLocId) (b : List Seq) (k n : ℕ) → n < length b → 0 < length (edited (filled_with is e) b k)
edited_some is e [] k n l = absurd (omega (arith, l))
edited_some is e (s ∷ b) zero n l = omega arith
edited_some is e (s ∷ b) (suc k) n l = omega arith

filled_type : (p : InstrLocId) (old : Stack) → type_at (filled p old) 0 ≡ entry_of old
filled_type p old = edited_type (inner old).instrs p (blocks old) (inner old).seq

there : (new : Stack) (b : List Seq) → blocks new ≡ b → entry_of new ≡ type_at b 0
there new b e = ap (λ (l : List Seq). type_at l 0) e

pub entry_ran : (old new : Stack) → blocks new ≡ blocks old → entry_of new ≡ entry_of old
entry_ran old new e = there new (blocks old) e

pub entry_opened : (g : Opener) (p : InstrLocId) (ty : InstrSeqType) (old new : Stack) → Shaped (blocks old) (opens old) → IsOpened g p ty old new → entry_of new ≡ entry_of old
entry_opened g p ty old new h o = there new _ o.blocks_are ∙ first_type (blocks old) _ (let k = h.0.0 in omega (arith, k))

filled_more : (p : InstrLocId) (old : Stack) (s : Seq) → Shaped (blocks old) (opens old) → type_at (filled p old ++ s ∷ []) 0 ≡ entry_of old
filled_more p old s h = first_type (filled p old) s (edited_some (inner old).instrs p (blocks old) (inner old).seq (inner old).seq h.0.0) ∙ filled_type p old

pub entry_turned : (t : Turn) (k : Frame) (ty : InstrSeqType) (p : InstrLocId) (old new : Stack) → Shaped (blocks old) (opens old) → IsTurned t k ty p old new → entry_of new ≡ entry_of old
entry_turned t k ty p old new h o = there new _ o.blocks_are ∙ filled_more p old _ h

pub entry_ended : (done : Bool) (p : InstrLocId) (old new : Stack) → Shaped (blocks old) (opens old) → IsEnded done p old new → entry_of new ≡ entry_of old
entry_ended true p old new h o = there new _ o.blocks_are ∙ filled_type p old
entry_ended false p old new h (inl o) = there new _ o.blocks_are ∙ filled_type p old
entry_ended false p old new h (inr o) = there new _ o.blocks_are ∙ filled_more p old _ h

pub entry_handed : (done : Bool) (n : ℕ) (old new : Stack) → delegate_test (inner old).kind ≡ None → Shaped (blocks old) (opens old) → IsHanded done n old new → entry_of new ≡ entry_of old
entry_handed true n old new t h o = absurd (not_body (blocks old) (inner old) (around old) h (is_trying (inner old).kind t) o)
entry_handed false n old new t h o = there new _ o.blocks_are ∙ filled_type _ old
