-- Refusals, and what is answered behind them.
use Rattle.std.proofs.Common.{ℕ, subst, ◌⊎◌, inl, inr, ◌≡◌, List, [], ◌∷◌, ◌++◌, Option, Some, None, Ok, Err, refl, sym, ◌∙◌}
use Rattle.std.specs.Prelude.{Result}
use Rattle.walrus_body_text.specs.walrus_tree.walrus_walks.walrus_instr.declared.instr.Instr.{Instr}
use Rattle.walrus_body_text.specs.walrus_tree.walrus_walks.walrus_instr.declared.instr.Instr.TheVariants as instrs
use Rattle.walrus_body_text.specs.walrus_tree.walrus_walks.walrus_instr.walrus_forms.declared.value.ValType.{ValType}
use Rattle.walrus_pairing.specs.Answers.{IsAnswer, IsSelectAnswer}
use Rattle.walrus_pairing.specs.Seen.{as_seen}
use Rattle.walrus_body_text.specs.walrus_tree.walrus_walks.walrus_instr.declared.seq.InstrSeq.{InstrSeq}
use Rattle.wasm_operators.specs.Operators.{Seen}
use Rattle.walrus_pairing.specs.walrus_operators.declared.operator.Operator.{Operator}
use Rattle.walrus_pairing.specs.declared.error.PairError.{PairError}
use Rattle.walrus_pairing.specs.declared.error.PairError.TheVariants as errors
use Rattle.walrus_pairing.specs.Looks.{Look, Or}
use Rattle.walrus_body_writer.specs.declared.output.Output.{Output}
use Rattle.walrus_body_text.specs.walrus_tree.Trees.{IsTree}
use Rattle.walrus_body_text.specs.walrus_tree.Text.{Catch, operators}
use Rattle.wasm_operators.specs.Items.{Tags, Types}
use Rattle.walrus_body_text.specs.walrus_tree.walrus_walks.walrus_instr.declared.seq.InstrLocId.{InstrLocId}
use Rattle.walrus_pairing.specs.Write.{either, plain_at, operator_at}
use Rattle.walrus_body_text.specs.declared.todo.Closer.{Closer}
use Rattle.walrus_body_text.specs.declared.todo.Closer.TheVariants as closers
use Rattle.walrus_body_text.specs.Doing.{piece_of}
use Rattle.walrus_body_writer.specs.Emitting.{IsDone}
use Rattle.walrus_body_writer.specs.Spelled.{Text, written, written_instr}
use Rattle.walrus_body_writer.specs.Outputs.{PutsIf, IsPut, Wrote}
use Rattle.walrus_body_writer.specs.Refusals.{Gives, IsDue, IsLarge, IsRefusal, IsStraightRefusal, LeavesOff, fault_of, value_in}

-- where no number can be too great, any cause will do
pub gives_more : {A : Type 0} (large : Type 0) (x : Or A) (e : PairError) → Gives ⊥ x (Err e) → Gives large x (Err e)
gives_more large x (errors.Unknown s) h = h
gives_more large x errors.ContinuationType h = h
gives_more large x errors.Select h = h
gives_more large x errors.Alignment h = h
gives_more {A} large x errors.TypeIndex h = elim h as (λ _. Gives large x (Err errors.TypeIndex)) [ inl i ↦ absurd i | inr e ↦ inr e ]
gives_more large x errors.Memory h = tt

-- what was put there is what was to be written
pub done : (large : Type 0) (x a : Or (Option Seen)) (place : InstrLocId) (old new : Output) (r : Result (Unit {0}) PairError) → Gives large x a → IsPut a place old new r → IsDone large x place old new r
done large x (Ok o) place old new (Ok u) g h = let F : Or (Option Seen) → Type 0 = λ z. PutsIf z place old new in subst F g h
done large x (Err e) place old new (Ok u) g h = absurd h
done large x a place old new (Err e) g h = (refused (h.0), h.1)
  where
    refused : (e ≡ errors.Memory) ⊎ (a ≡ Err e) → Gives large x (Err e)
    refused (inl m) = let F : PairError → Type 0 = λ z. Gives large x (Err z) in subst F (sym m) tt
    refused (inr i) = let F : Or (Option Seen) → Type 0 = λ z. Gives large x z in subst F i g

-- what stands behind a sequence names no type
pub end_gives : (look : Look) (b : List InstrSeq) (c : Closer) (a : Or (Option Seen)) → a ≡ written look b (piece_of c) → Gives ⊥ (written look b (piece_of c)) a
end_gives look b c a e = let F : Or (Option Seen) → Type 0 = λ z. Gives ⊥ (written look b (piece_of c)) z in subst F (sym e) (itself c)
  where
    tagged : (tag : ℕ) (o : Option ℕ) → look Tags tag ≡ o → Gives ⊥ (written look b (Catch tag)) (written look b (Catch tag))
    tagged tag (Some n) i = rw i refl
    tagged tag None i = rw i refl

    itself : (c : Closer) → Gives ⊥ (written look b (piece_of c)) (written look b (piece_of c))
    itself closers.Else = refl
    itself (closers.Catch tag) = tagged tag (look Tags tag) refl
    itself closers.CatchAll = refl
    itself (closers.Delegate depth) = refl
    itself closers.End = refl

-- an instruction that holds no sequence and names none is written as its operator is
either_none : (x : Or (Option Seen)) → either x (Ok None) ≡ x
either_none (Ok (Some s)) = refl
either_none (Ok None) = refl
either_none (Err e) = refl

-- an instruction that holds no sequence and names none
abbrev pub IsOther : Instr → Type 0
IsOther (instrs.Block k) = ⊥
IsOther (instrs.Loop k) = ⊥
IsOther (instrs.IfElse k j) = ⊥
IsOther (instrs.Try k cs) = ⊥
IsOther (instrs.TryTable k cs) = ⊥
IsOther (instrs.Br k) = ⊥
IsOther (instrs.BrIf k) = ⊥
IsOther (instrs.BrTable k ks) = ⊥
IsOther (instrs.BrOnNull k) = ⊥
IsOther (instrs.BrOnNonNull k) = ⊥
IsOther (instrs.BrOnCast k from to) = ⊥
IsOther (instrs.BrOnCastFail k from to) = ⊥
IsOther (instrs.Rethrow n) = ⊥
IsOther _ = Unit {0}

select_answered : (look : Look) (ty : ValType) (r : Result (Option Operator) PairError) → IsSelectAnswer (look Types) ty r → Gives (IsLarge look (Some ty)) (operator_at look (instrs.Select (Some ty))) (as_seen r)
unfolding operator_at
select_answered look ty (Ok (Some o)) h = h
select_answered look ty (Ok None) h = h
select_answered look ty (Err (errors.Unknown s)) h = h
select_answered look ty (Err errors.ContinuationType) h = h
select_answered look ty (Err errors.Select) h = h
select_answered look ty (Err errors.Alignment) h = h
select_answered look ty (Err errors.TypeIndex) h = inl h
select_answered look ty (Err errors.Memory) h = tt

plain_answered : (x : Or (Option Seen)) (r : Result (Option Operator) PairError) → as_seen r ≡ x → Gives ⊥ x (as_seen r)
plain_answered x (Ok (Some o)) h = h
plain_answered x (Ok None) h = h
plain_answered x (Err (errors.Unknown s)) h = h
plain_answered x (Err errors.ContinuationType) h = h
plain_answered x (Err errors.Select) h = h
plain_answered x (Err errors.Alignment) h = h
plain_answered x (Err errors.TypeIndex) h = inr h
plain_answered x (Err errors.Memory) h = tt

pub answered : (look : Look) (b : List InstrSeq) (number : ℕ → ℕ) (i : Instr) (r : Result (Option Operator) PairError) → IsOther i → IsAnswer look i r
    → Gives (IsLarge look (value_in b i)) (written_instr look b number i) (as_seen r)
unfolding operator_at
answered look b number (instrs.Block k) r o h = absurd o
answered look b number (instrs.Loop k) r o h = absurd o
answered look b number (instrs.IfElse k j) r o h = absurd o
answered look b number (instrs.Try k cs) r o h = absurd o
answered look b number (instrs.TryTable k cs) r o h = absurd o
answered look b number (instrs.Br k) r o h = absurd o
answered look b number (instrs.BrIf k) r o h = absurd o
answered look b number (instrs.BrTable k ks) r o h = absurd o
answered look b number (instrs.BrOnNull k) r o h = absurd o
answered look b number (instrs.BrOnNonNull k) r o h = absurd o
answered look b number (instrs.BrOnCast k from to) r o h = absurd o
answered look b number (instrs.BrOnCastFail k from to) r o h = absurd o
answered look b number (instrs.Rethrow n) r o h = absurd o
answered look b number (instrs.Select (Some ty)) r o h = select_answered look ty r h
answered look b number i r o h = plain_answered (operator_at look i) r (h ∙ sym (either_none (plain_at look i)))

memory_due : (look : Look) (b : List InstrSeq) (back : Text) → IsDue look b back errors.Memory
memory_due look b [] = refl
memory_due look b (p ∷ ps) = tt

-- memory was wanted behind a first part
pub wants : (look : Look) (b : List InstrSeq) (all front back : Text) (old out : Output) → all ≡ front ++ back → Wrote look b front old out → LeavesOff look b all old errors.Memory out
wants look b all front back old out parts wrote = record { front = front; back = back; parts = parts; wrote = wrote; due = memory_due look b back }

pub refusal : (look : Look) (b : List InstrSeq) (old : Output) → IsTree b 0 → (e : PairError) (new : Output) → LeavesOff look b (operators b 0) old e new → IsRefusal look b old (fault_of e) new
refusal look b old tree (errors.Unknown s) new h = (tree, errors.Unknown s, refl, h)
refusal look b old tree errors.ContinuationType new h = (tree, errors.ContinuationType, refl, h)
refusal look b old tree errors.Select new h = (tree, errors.Select, refl, h)
refusal look b old tree errors.Alignment new h = (tree, errors.Alignment, refl, h)
refusal look b old tree errors.TypeIndex new h = (tree, errors.TypeIndex, refl, h)
refusal look b old tree errors.Memory new h = h

pub straight_refusal : (look : Look) (b : List InstrSeq) (old : Output) → IsTree b 0 → (e : PairError) (new : Output) → LeavesOff look b (operators b 0) old e new → IsStraightRefusal look b old (fault_of e) new
straight_refusal look b old tree (errors.Unknown s) new h = (tree, errors.Unknown s, refl, h)
straight_refusal look b old tree errors.ContinuationType new h = (tree, errors.ContinuationType, refl, h)
straight_refusal look b old tree errors.Select new h = (tree, errors.Select, refl, h)
straight_refusal look b old tree errors.Alignment new h = (tree, errors.Alignment, refl, h)
straight_refusal look b old tree errors.TypeIndex new h = (tree, errors.TypeIndex, refl, h)
straight_refusal look b old tree errors.Memory new h = tt
