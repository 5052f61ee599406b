-- Steps of the loops over sequences and over functions.
use Rattle.std.proofs.Common.{ℕ, zero, suc, ◌≡◌, ◌+◌, List, [], ◌∷◌, length, Some, Result, Ok, Err, OnOk, refl, sym, ap, subst, ◌∙◌}
use Rattle.std.proofs.lemmas.Option.{get_or_from_slice_get, slice_get_within}
use Rattle.std.specs.Prelude.{slice_get, slice_set}
use Rattle.walrus_arena.specs.Arena.{Arena}
use Rattle.walrus_builder.specs.declared.function.FunctionBuilder.{FunctionBuilder}
use Rattle.walrus_builder.specs.Functions.{seqs_of}
use Rattle.walrus_collections.specs.walrus_module_items.declared.function.Function.{Function}
use Rattle.walrus_collections.specs.walrus_module_items.declared.function.FunctionKind.{FunctionKind}
use Rattle.walrus_collections.specs.walrus_module_items.declared.function.FunctionKind.TheVariants.{Local}
use Rattle.walrus_collections.specs.walrus_module_items.walrus_local_function.declared.local_function.LocalFunction.{LocalFunction}
use Rattle.walrus_walks.specs.walrus_instr.declared.seq.InstrLocId.{InstrLocId}
use Rattle.walrus_walks.specs.walrus_instr.declared.seq.InstrSeq.{InstrSeq}
use Rattle.walrus_walks.proofs.Threaded.{Continues, threads_end, threads_turn}
use Rattle.walrus_locations.specs.Sent.{BodySent, FunctionSent, FunctionsSent, KindSent, SeqSent, SlotSent}

set_length : {A : Type 0} (xs : List A) (i : ℕ) (y : A) → length (slice_set xs i y) ≡ length xs
set_length [] i y = refl
set_length (x ∷ xs) zero y = refl
set_length (x ∷ xs) (suc i) y = ap suc (set_length xs i y)

pub on_ok : {A E : Type 0} (P Q : Type 0) (r : Result A E) → (P → Q) → OnOk r P → OnOk r Q
on_ok P Q (Ok x) f p = f p
on_ok P Q (Err e) f p = p

module _ {F : Type 0} (step : F → ℕ → InstrLocId → F → Type 0) where
  -- ---- sequences of a body

  -- so many were sent, and nothing else changed
  pub record SeqsSent (f : F) (old : FunctionBuilder) (g : F) (new : FunctionBuilder) (n : ℕ) : Type 0 where
    pub changed : Continues (SeqSent step) f (seqs_of old) g (seqs_of new) n
    pub many : length (seqs_of new) ≡ length (seqs_of old)
    pub rest : new ≡ record old { builder = record old.builder { seqs = seqs_of new } }

  abbrev pub with_seq : FunctionBuilder → ℕ → InstrSeq → FunctionBuilder
  with_seq b n seq = record b { builder = record b.builder { seqs = slice_set (seqs_of b) n seq } }

  pub seqs_begin : (f : F) (b : FunctionBuilder) → SeqsSent f b f b 0
  seqs_begin f b = record { changed = λ last ys t. t; many = refl; rest = refl }

  pub seqs_go_on : (f : F) (old : FunctionBuilder) (g h : F) (mid : FunctionBuilder) (n id : ℕ) (s t : InstrSeq) → id ≡ n → slice_get (seqs_of mid) id ≡ Some s → SeqSent step g s h t → SeqsSent f old g mid n → SeqsSent f old h (with_seq mid id t) (n + 1)
  seqs_go_on f old g h mid n id s t same there sent so = subst (λ (k : ℕ). SeqsSent f old h (with_seq mid id t) (k + 1)) same (record {
    changed = threads_turn (SeqSent step) f (seqs_of old) g h (seqs_of mid) id s t (slice_get_within (seqs_of mid) id s there)
        (subst (λ (x : InstrSeq). SeqSent step g x h t) (sym (get_or_from_slice_get (seqs_of mid) id s s there)) sent)
        (subst (Continues (SeqSent step) f (seqs_of old) g (seqs_of mid)) (sym same) so.changed);
    many = set_length (seqs_of mid) id t ∙ so.many;
    rest = ap (λ (b : FunctionBuilder). with_seq b id t) so.rest;
  })

  pub seqs_end : (f : F) (old : FunctionBuilder) (g : F) (new : FunctionBuilder) (n : ℕ) → n ≡ length (seqs_of new) → SeqsSent f old g new n → BodySent step f old g new
  seqs_end f old g new n all so = (seqs_of new, so.rest, threads_end (SeqSent step) f (seqs_of old) g (seqs_of new) n all so.changed)

  -- ---- functions

  -- so many were sent, and nothing else changed
  pub record SlotsSent (f : F) (old : Arena Function) (g : F) (new : Arena Function) (n : ℕ) : Type 0 where
    pub changed : Continues (SlotSent step) f old.slots g new.slots n
    pub many : length new.slots ≡ length old.slots
    pub rest : new ≡ record old { slots = new.slots }

  pub slots_begin : (f : F) (a : Arena Function) → SlotsSent f a f a 0
  slots_begin f a = record { changed = λ last ys t. t; many = refl; rest = refl }

  pub slots_end : (f : F) (old : Arena Function) (g : F) (new : Arena Function) (n : ℕ) → n ≡ length new.slots → SlotsSent f old g new n → FunctionsSent step f old g new
  slots_end f old g new n all so = (new.slots, so.rest, threads_end (SlotSent step) f old.slots g new.slots n all so.changed)

  -- ---- the function of an id

  pub local_sent : {E : Type 0} (f g : F) (function : Function) (local : LocalFunction) (lent body : FunctionBuilder) (r : Result (Unit {0}) E) → function.kind ≡ Local local → lent ≡ local.builder → OnOk r (BodySent step f lent g body)
      → OnOk r (FunctionSent step f function g (record function { kind = Local (record local { builder = body }) }))
  local_sent f g function local lent body r is same = on_ok (BodySent step f lent g body) (FunctionSent step f function g (record function { kind = Local (record local { builder = body }) })) r
      (λ sent. (Local (record local { builder = body }), refl, subst (λ (kind : FunctionKind). KindSent step f kind g (Local (record local { builder = body }))) (sym is) (body, refl, subst (λ (b : FunctionBuilder). BodySent step f b g body) same sent)))
