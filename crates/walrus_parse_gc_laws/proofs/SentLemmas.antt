-- Functions whose locations were sent are those that they were, but for places.
use Rattle.std.proofs.Common.{ℕ, ◌≡◌, ◌∙◌, List, [], ◌∷◌, Option, Some, None, refl, sym, subst}
use Rattle.std.proofs.lemmas.List.{with_items_is}
use Rattle.std.specs.List.{AllZip}
use Rattle.std.specs.Vec.{with_items}
use Rattle.walrus_locations.specs.Sent.{BodySent, FunctionSent, FunctionsSent, ItemSent, KindSent, SeqSent, SlotSent}
use Rattle.walrus_marks.specs.walrus_instr.declared.instr.Instr.{Instr}
use Rattle.walrus_marks.specs.walrus_instr.declared.seq.InstrLocId.{InstrLocId}
use Rattle.walrus_marks.specs.walrus_instr.declared.seq.InstrSeq.{InstrSeq}
use Rattle.walrus_marks.specs.walrus_walks.Changes.{Threads}
use Rattle.walrus_meaning.specs.walrus_linked.walrus_local_function.declared.local_function.LocalFunction.{LocalFunction}
use Rattle.walrus_meaning.specs.walrus_linked.walrus_module.walrus_builder.Functions.{seqs_of}
use Rattle.walrus_meaning.specs.walrus_linked.walrus_module.walrus_builder.declared.function.FunctionBuilder.{FunctionBuilder}
use Rattle.walrus_meaning.specs.walrus_linked.walrus_module.walrus_types.walrus_forms.walrus_arena.Arena.{Arena}
use Rattle.walrus_meaning.specs.walrus_linked.walrus_module_items.declared.function.Function.{Function}
use Rattle.walrus_meaning.specs.walrus_linked.walrus_module_items.declared.function.FunctionKind.{FunctionKind}
use Rattle.walrus_meaning.specs.walrus_linked.walrus_module_items.declared.function.FunctionKind.TheVariants.{Import, Local, Uninitialized}
use Rattle.walrus_parse_gc_laws.proofs.SeqLemmas.{ItemMoved, SeqMoved}
use Rattle.walrus_parse_gc_laws.proofs.ZipLemmas.{OptionZip, zip_length}
use Rattle.walrus_parse_gc_laws.specs.Sent.{IsAnswer}

module _ (P : InstrLocId → InstrLocId → Type 0) where
  -- a function with a body, the same but for places
  pub record LocalShifted (old new : LocalFunction) : Type 0 where
    pub args : new.args.items ≡ old.args.items
    pub ty : new.builder.ty ≡ old.builder.ty
    pub seqs : AllZip (SeqMoved P) (seqs_of old.builder) (seqs_of new.builder)

  abbrev pub KindShifted : FunctionKind → FunctionKind → Type 0
  KindShifted (Local local) kind = (new : LocalFunction) × (kind ≡ Local new) × LocalShifted local new
  KindShifted (Import imported) kind = kind ≡ Import imported
  KindShifted (Uninitialized ty) kind = kind ≡ Uninitialized ty

  pub record FunctionShifted (old new : Function) : Type 0 where
    pub kind : KindShifted old.kind new.kind
    pub rest : new ≡ record old { kind = new.kind }

  abbrev pub SlotsShifted : List (Option Function) → List (Option Function) → Type 0
  SlotsShifted = AllZip (OptionZip FunctionShifted)

-- what holds of each call holds place by place
threads_zip : {V A : Type 0} (R : V → A → V → A → Type 0) (S : A → A → Type 0) → ((v w : V) (x y : A) → R v x w y → S x y) → (v w : V) (xs ys : List A) → Threads R v xs w ys → AllZip S xs ys
threads_zip R S each v w [] [] t = tt
threads_zip R S each v w [] (y ∷ ys) t = absurd t
threads_zip R S each v w (x ∷ xs) [] t = absurd t
threads_zip R S each v w (x ∷ xs) (y ∷ ys) t = (each v t.0 x y t.1, threads_zip R S each t.0 w xs ys t.2)

module _ {F : Type 0} (step : F → ℕ → InstrLocId → F → Type 0) where
  -- some call answered so
  abbrev pub Answered : InstrLocId → InstrLocId → Type 0
  Answered place answer = IsAnswer step place.0 answer.0

  item_moved : (f g : F) (item after : Instr × InstrLocId) → ItemSent step f item g after → ItemMoved Answered item after
  item_moved f g item after (place, made, sent) = subst (ItemMoved Answered item) (sym made) (refl, (f, g, sent))

  seq_moved : (f g : F) (s after : InstrSeq) → SeqSent step f s g after → SeqMoved Answered s after
  seq_moved f g s after (items, end, made, (h, sent, ended)) =
      let zip = threads_zip (ItemSent step) (ItemMoved Answered) item_moved f h s.instrs.items items sent in
      let is : (with_items s.instrs items).items ≡ items = with_items_is s.instrs items (zip_length (ItemMoved Answered) s.instrs.items items zip ∙ sym s.instrs.ok.0) in
      let held = subst (AllZip (ItemMoved Answered) s.instrs.items) (sym is) zip in
      let moved : SeqMoved Answered s (record s { instrs = with_items s.instrs items; end = end }) = record { ty = refl; instrs = held; ends = (h, g, ended) } in
      subst (SeqMoved Answered s) (sym made) moved

  body_moved : (f g : F) (b after : FunctionBuilder) → BodySent step f b g after → (after.ty ≡ b.ty) × AllZip (SeqMoved Answered) (seqs_of b) (seqs_of after)
  body_moved f g b after (seqs, made, sent) =
      let Moved : FunctionBuilder → Type 0 = λ c. (c.ty ≡ b.ty) × AllZip (SeqMoved Answered) (seqs_of b) (seqs_of c) in
      subst Moved (sym made) (refl, threads_zip (SeqSent step) (SeqMoved Answered) seq_moved f g (seqs_of b) seqs sent)

  kind_moved : (f g : F) (kind after : FunctionKind) → KindSent step f kind g after → KindShifted Answered kind after
  kind_moved f g (Local local) after (body, made, sent) =
      let moved = body_moved f g local.builder body sent in
      (record local { builder = body }, made, record { args = refl; ty = moved.0; seqs = moved.1 })
  kind_moved f g (Import imported) after h = h.0
  kind_moved f g (Uninitialized ty) after h = h.0

  function_moved : (f g : F) (function after : Function) → FunctionSent step f function g after → FunctionShifted Answered function after
  function_moved f g function after (kind, made, sent) =
      let moved : FunctionShifted Answered function (record function { kind = kind }) = record { kind = kind_moved f g function.kind kind sent; rest = refl } in
      subst (FunctionShifted Answered function) (sym made) moved

  slot_moved : (f g : F) (slot after : Option Function) → SlotSent step f slot g after → OptionZip (FunctionShifted Answered) slot after
  slot_moved f g (Some function) after (kept, made, sent) = subst (OptionZip (FunctionShifted Answered) (Some function)) (sym made) (function_moved f g function kept sent)
  slot_moved f g None after h = subst (OptionZip (FunctionShifted Answered) None) (sym h.0) tt

  pub functions_moved : (f g : F) (functions after : Arena Function) → FunctionsSent step f functions g after → SlotsShifted Answered functions.slots after.slots
  functions_moved f g functions after (slots, made, sent) =
      let zip = threads_zip (SlotSent step) (OptionZip (FunctionShifted Answered)) slot_moved f g functions.slots slots sent in
      subst (λ (a : Arena Function). SlotsShifted Answered functions.slots a.slots) (sym made) zip
