-- Locations that are sent through a callback.
use Rattle.std.specs.Prelude.{ℕ, ◌≡◌, ◌<◌, Option, Some, None, MatchBool, nat_lt, slice_set}
use Rattle.std.specs.Vec.{with_items}
use Rattle.walrus_arena.specs.Arena.{Arena, item_at}
use Rattle.walrus_builder.specs.declared.function.FunctionBuilder.{FunctionBuilder}
use Rattle.walrus_builder.specs.Functions.{seqs_of}
use Rattle.walrus_collections.specs.walrus_module_items.declared.function.Function.{Function}
use Rattle.walrus_collections.specs.walrus_module_items.declared.function.FunctionKind.{FunctionKind}
use Rattle.walrus_collections.specs.walrus_module_items.declared.function.FunctionKind.TheVariants.{Local}
use Rattle.walrus_walks.specs.walrus_instr.declared.instr.Instr.{Instr}
use Rattle.walrus_walks.specs.walrus_instr.declared.seq.InstrLocId.{InstrLocId}
use Rattle.walrus_walks.specs.walrus_instr.declared.seq.InstrSeq.{InstrSeq}
use Rattle.walrus_walks.specs.Changes.{Made, MadeOfTwo, Threads}

-- the callback may be called with each number of a location, in whatever state it is
abbrev pub AnswersLocations : {F : Type 0} → (F → ℕ → Type 0) → Type 0
AnswersLocations {F} pre = (f : F) (place : ℕ) → place < 4294967295 → pre f place

-- Each relation is between the callback and a part before, and the two after; `step` is a call, with its number and its answer.
module _ {F : Type 0} (step : F → ℕ → InstrLocId → F → Type 0) where
  -- the callback is called with the number of a location, and answers what stands in its place; what stands for none stays
  abbrev pub LocationSent : F → InstrLocId → F → InstrLocId → Type 0
  LocationSent f place g answer = MatchBool (nat_lt place.0 4294967295) (step f place.0 answer g) ((answer ≡ place) × (f ≡ g))

  -- that of an instruction
  abbrev pub ItemSent : F → Instr × InstrLocId → F → Instr × InstrLocId → Type 0
  ItemSent f item g after = Made LocationSent (λ place. (item.0, place)) f item.1 g after

  -- those of the instructions of a sequence in their order, then that of its end
  abbrev pub SeqSent : F → InstrSeq → F → InstrSeq → Type 0
  SeqSent f s g after = MadeOfTwo (Threads ItemSent) LocationSent (λ items end. record s { instrs = with_items s.instrs items; end = end }) f s.instrs.items s.end g after

  -- those of the sequences of a body, by rising id
  abbrev pub BodySent : F → FunctionBuilder → F → FunctionBuilder → Type 0
  BodySent f b g after = Made (Threads SeqSent) (λ seqs. record b { builder = record b.builder { seqs = seqs } }) f (seqs_of b) g after

  -- those of a function, if it has a body
  abbrev pub KindSent : F → FunctionKind → F → FunctionKind → Type 0
  KindSent f (Local local) g after = Made BodySent (λ body. Local (record local { builder = body })) f local.builder g after
  KindSent f kind g after = (after ≡ kind) × (f ≡ g)

  abbrev pub FunctionSent : F → Function → F → Function → Type 0
  FunctionSent f function g after = Made KindSent (λ kind. record function { kind = kind }) f function.kind g after

  -- those of what lives in a slot
  abbrev pub SlotSent : F → Option Function → F → Option Function → Type 0
  SlotSent f (Some function) g after = Made FunctionSent Some f function g after
  SlotSent f None g after = (after ≡ None) × (f ≡ g)

  -- those of the function of an id alone
  abbrev pub IsSentAt : ℕ → F → Arena Function → F → Arena Function → Type 0
  IsSentAt id f functions g after = Made SlotSent (λ slot. record functions { slots = slice_set functions.slots id slot }) f (item_at functions id) g after

  -- those of all functions, by rising id
  abbrev pub FunctionsSent : F → Arena Function → F → Arena Function → Type 0
  FunctionsSent f functions g after = Made (Threads SlotSent) (λ slots. record functions { slots = slots }) f functions.slots g after
