-- Lemmas: each operator is a step.
use Rattle.std.proofs.Common.{ℕ, ◌≡◌, Bool, true, false, List, [], ◌∷◌, ◌++◌, length, map, Option, Some, None, if◌then◌else◌, refl, sym, ap, subst, arith, ◌∙◌, inl, inr}
use Rattle.std.specs.Prelude.{Ok}
use Rattle.walrus_body_stack.specs.walrus_instr.declared.seq.InstrLocId.{InstrLocId}
use Rattle.walrus_body_stack.specs.walrus_instr.declared.seq.InstrSeqType.{InstrSeqType}
use Rattle.walrus_body_stack.specs.walrus_builder.Built.{Seq, empty_seq, no_place}
use Rattle.walrus_body_rules.specs.walrus_pairing.wasm_operators.Items.{Item, Names, Number, S32, S64, Bits, Byte, Bytes, Heap, Block, Access, ManyLabels, ManyValues, ManyClauses}
use Rattle.walrus_body_rules.specs.wasm_body_grammar.wasm_operators.declared.entry.Flow.{Flow}
use Rattle.walrus_body_rules.specs.wasm_body_grammar.wasm_operators.declared.entry.Flow.TheVariants as flows
use Rattle.walrus_body_rules.specs.wasm_body_grammar.wasm_operators.Operators.{Seen, flow_of}
use Rattle.walrus_body_rules.specs.wasm_body_grammar.wasm_operators.Table.{structure_rows}
use Rattle.walrus_body_rules.specs.wasm_body_grammar.Frames.{Frame, Plain, Choice, Trying, Catching, Caught, turned}
use Rattle.walrus_body_stack.specs.wasm_normal_form.Roles.{Placed, Opens, Turns, Ends, role_in, role, is_if_in, is_delegate_in, else_op, end_op}
use Rattle.walrus_body_stack.specs.wasm_normal_form.Trees.{open_in, tree_of}
use Rattle.walrus_body_stack.specs.wasm_normal_form.Normal.{with_pick, picked, end_place, normal}
use Rattle.walrus_body_stack.specs.walrus_body_nesting.declared.frames.Opener.{Opener}
use Rattle.walrus_body_stack.specs.walrus_body_nesting.declared.frames.Opener.TheVariants as openers
use Rattle.walrus_body_stack.specs.walrus_body_nesting.declared.frames.Reach.{Reach}
use Rattle.walrus_body_stack.specs.walrus_body_nesting.declared.frames.Reach.TheVariants.{Live, Cut, Dropped}
use Rattle.walrus_body_stack.specs.walrus_body_nesting.Stands.{Turn, Otherwise, Handles, HandlesAll, Part, part, Finish, Ended, Delegated, block, place_in, total}
use Rattle.walrus_body_stack.specs.walrus_body_nesting.Opens.{Open, is_bare, ids_of, kinds_of, same, reach_in, reach_on, begun, Unless, IsBegun, Makes, IsBody, Shaped, Reads, Steps, type_at}
use Rattle.walrus_body_stack.specs.walrus_body_nesting.Ending.{IsEnd, IsBareEnd, Closing, plain_closing, bare_closing, starts}
use Rattle.walrus_body_stack.specs.walrus_body_nesting.Steps.{steps_as, nop_steps, run_steps, begin_steps, turn_steps, end_steps, body_steps}
use Rattle.walrus_body_stack.specs.declared.stack.Stack.{Stack}
use Rattle.walrus_body_stack.specs.Frames.{first_kind, inner, around, opens, blocks, filled, IsOpened, IsTurned, IsNested, IsTrying, other_test, handler_test}
use Rattle.walrus_body_rules.specs.Sights.{Sight}
use Rattle.walrus_body_steps.specs.Meanings.{IsOpener, OpensOf, TurnsTo, NestsAs, EndsAs, meaning}
use Rattle.walrus_body_steps.specs.Laws.{StepOf, BodiesStart, PassesAreSteps, RunsAreSteps, OpeningsAreSteps, TurnsAreSteps, EndsAreSteps, HandsAreSteps}

-- ---- block types as they are

same_item : (i : Item) → with_pick same i ≡ i
same_item (Names space n) = refl
same_item (Number n) = refl
same_item (S32 z) = refl
same_item (S64 z) = refl
same_item (Bits size n) = refl
same_item (Byte b) = refl
same_item (Bytes run) = refl
same_item (Heap ty) = refl
same_item (Block ty) = refl
same_item (Access x) = refl
same_item (ManyLabels ns) = refl
same_item (ManyValues tys) = refl
same_item (ManyClauses cs) = refl

same_items : (is : List Item) → map (with_pick same) is ≡ is
same_items [] = refl
same_items (i ∷ is) = ap (λ (j : Item). j ∷ map (with_pick same) is) (same_item i) ∙ ap (λ (js : List Item). i ∷ js) (same_items is)

pub same_op : (op : Seen) → picked same op ≡ op
same_op op = ap (λ (is : List Item). record { code = op.code; items = is }) (same_items op.items)

begun_so : (s : Sight) (around : List ℕ) (op : Seen) (g : Opener) (ty : InstrSeqType) → IsOpener s around op g → OpensOf s op ty → IsBegun (meaning s) around g ty op
begun_so s around op g ty opener typed = record {
  nests = λ i q made. let N : Seen → Type 0 = λ o. NestsAs s around o i q in subst N (sym (same_op op)) (g, made, opener);
  opens = (let O : Seen → Type 0 = λ o. OpensOf s o ty in subst O (sym (same_op op)) typed);
}

unless : (r : Reach) (A : Type 0) → A → Unless r A
unless Live A x = x
unless Cut A x = x
unless Dropped A x = tt

-- ---- each kind of operator

some_type : (x y : InstrSeqType) → (let some : InstrSeqType → Option InstrSeqType = λ t. Some t in some x ≡ some y) → x ≡ y
some_type x y e = cc

start_reads : (s : Sight) (b : List Seq) (ty : InstrSeqType) (ops : List Placed) → length b ≡ 1 → total b ≡ 0 → type_at b 0 ≡ Some ty
    → Reads (meaning s) false b (begun openers.Block no_place ty Plain 0 Live ∷ []) (open_in ops) (normal same (tree_of ops))
start_reads s [] ty ops e n t = absurd (omega (arith, e))
start_reads s (x ∷ b) ty ops e n t =
    starts (meaning s) (x ∷ b) (begun openers.Block no_place ty Plain 0 Live) (open_in ops) x e n (record { first = refl; turns = refl; kind = refl; reached = tt }) refl refl refl refl (some_type x.ty ty t)

pub bodies_start : BodiesStart
bodies_start s new ty one none typed is =
    let b = blocks new in
    let o : Open = begun openers.Block no_place ty Plain 0 Live in
    let S : List Open → Type 0 = λ os. Shaped b os in
    let R : List Placed → List Open → Type 0 = λ ops os. Reads (meaning s) false b os (open_in ops) (normal same (tree_of ops)) in
    let body : IsBody o = record { first = refl; turns = refl; kind = refl; reached = tt } in
    (subst S (sym is) ((omega (arith, one), tt), body), λ ops. subst (R ops) (sym is) (start_reads s b ty ops one none typed))

pub passes_are_steps : PassesAreSteps
passes_are_steps s old op p e h = nop_steps (meaning s) (blocks old) (opens old) op (place_in p) e h

pub runs_are_steps : RunsAreSteps
runs_are_steps s old new op i p e runs h same_blocks opened =
    steps_as (meaning s) op (place_in p) (blocks old) (opens old) false (blocks old) (blocks new) _ (opens new) (run_steps (meaning s) (blocks old) (inner old) _ (around old) i op p _ e runs refl refl h) same_blocks opened

-- what opens a block makes of frames
opens_so : (f : Option Flow) (g : Flow) (ks : List Frame) (k : Frame) → f ≡ Some g → turned (Some g) ks ≡ Ok (k ∷ ks) → turned f ks ≡ Ok (k ∷ ks)
opens_so f g ks k e t = ap (λ (x : Option Flow). turned x ks) e ∙ t

opening : (s : Sight) (old new : Stack) (op : Seen) (g : Opener) (f : Flow) (ty : InstrSeqType) (p : InstrLocId) → flow_of op.code ≡ Some f → role_in (Some f) ≡ Opens
    → turned (Some f) (kinds_of (opens old)) ≡ Ok (first_kind g ∷ kinds_of (opens old)) → is_bare (first_kind g) ≡ is_if_in (Some f) → IsOpener s (ids_of (opens old)) op g → OpensOf s op ty
    → Shaped (blocks old) (opens old) → IsOpened g p ty old new → StepOf s op p old false new
opening s old new op g f ty p e r t q opener typed h opened =
    begin_steps (meaning s) (blocks old) (blocks new) g p ty (first_kind g) op (inner old) (around old) (opens new) (ap role_in e ∙ r) (opens_so (flow_of op.code) f (kinds_of (opens old)) (first_kind g) e t)
    (q ∙ sym (ap is_if_in e)) (unless (reach_in (inner old).reach) _ (begun_so s (ids_of (opens old)) op g ty opener typed)) opened.blocks_are opened.opens_are h

pub openings_are_steps : OpeningsAreSteps
openings_are_steps s old new op openers.Block ty p o typed h opened = opening s old new op openers.Block flows.OpensBlock ty p o refl refl refl o typed h opened
openings_are_steps s old new op openers.Loop ty p o typed h opened = opening s old new op openers.Loop flows.OpensLoop ty p o refl refl refl o typed h opened
openings_are_steps s old new op openers.If ty p o typed h opened = opening s old new op openers.If flows.OpensIf ty p o refl refl refl o typed h opened
openings_are_steps s old new op openers.Try ty p o typed h opened = opening s old new op openers.Try flows.OpensTry ty p o refl refl refl o typed h opened
openings_are_steps s old new op (openers.TryTable clauses) ty p o typed h opened = opening s old new op (openers.TryTable clauses) flows.OpensTryTable ty p o.0 refl refl refl o typed h opened

other_so : (k : Frame) (ks : List Frame) → other_test k ≡ None → turned (Some flows.Else) (k ∷ ks) ≡ Ok (Plain ∷ ks)
other_so Plain ks e = absurd cc
other_so Choice ks e = refl
other_so Trying ks e = absurd cc
other_so Catching ks e = absurd cc
other_so Caught ks e = absurd cc

handler_so : (k : Frame) (ks : List Frame) → handler_test k ≡ None → turned (Some flows.Catch) (k ∷ ks) ≡ Ok (Catching ∷ ks)
handler_so Plain ks e = absurd cc
handler_so Choice ks e = absurd cc
handler_so Trying ks e = refl
handler_so Catching ks e = refl
handler_so Caught ks e = absurd cc

last_so : (k : Frame) (ks : List Frame) → handler_test k ≡ None → turned (Some flows.CatchAll) (k ∷ ks) ≡ Ok (Caught ∷ ks)
last_so Plain ks e = absurd cc
last_so Choice ks e = absurd cc
last_so Trying ks e = refl
last_so Catching ks e = refl
last_so Caught ks e = absurd cc

turning : (s : Sight) (old new : Stack) (op : Seen) (turn : Turn) (kind : Frame) (f : Flow) (ty : InstrSeqType) (p : InstrLocId) → flow_of op.code ≡ Some f → role_in (Some f) ≡ Turns
    → turned (Some f) (kinds_of (opens old)) ≡ Ok (kind ∷ kinds_of (around old)) → is_bare kind ≡ false → Unless (reach_on (inner old).reach) (TurnsTo s (inner old).ty op turn ty)
    → Shaped (blocks old) (opens old) → IsTurned turn kind ty p old new → StepOf s op p old false new
turning s old new op turn kind f ty p e r t q typed h done =
    let u = opens new in
    steps_as (meaning s) op (place_in p) (blocks old) (opens old) false (blocks new) (blocks new) _ (opens new)
    (turn_steps (meaning s) (blocks old) (blocks new) (inner old) _ (around old) turn kind ty op p (ap role_in e ∙ r) (ap (λ (x : Option Flow). turned x (kinds_of (opens old))) e ∙ t) q typed done.blocks_are refl h)
    refl done.opens_are

pub turns_are_steps : TurnsAreSteps
turns_are_steps = record {
  others = λ s old new op p e t h done. turning s old new op Otherwise Plain flows.Else (inner old).ty p e refl (other_so (inner old).kind (kinds_of (around old)) t) refl (unless (reach_on (inner old).reach) _ (e, refl)) h done;
  handlers = λ s old new op tag ty p e t typed h done. turning s old new op (Handles tag) Catching flows.Catch ty p e refl (handler_so (inner old).kind (kinds_of (around old)) t) refl typed h done;
  last = λ s old new op ty p e t typed h done. turning s old new op HandlesAll Caught flows.CatchAll ty p e refl (last_so (inner old).kind (kinds_of (around old)) t) refl typed h done;
}

-- ---- what ends a block

ending : (s : Sight) (old new : Stack) (op : Seen) (p : Option ℕ) (f : Finish) (b : List Seq) (ms : List Part) → role op ≡ Ends → turned (flow_of op.code) (kinds_of (opens old)) ≡ Ok (kinds_of (around old))
    → (n : IsNested f old new) → n.parts ≡ ms → Closing (meaning s) (blocks old) b (ids_of (around old)) (inner old) op p ms f → blocks new ≡ b
    → Shaped (blocks old) (opens old) → Steps (meaning s) op p (blocks old) (opens old) false (blocks new) (opens new)
ending s old new op p f b ms r t n parts closing is h =
    let m = meaning s in
    let A : List Open → Type 0 = λ os. Shaped (blocks old) (inner old ∷ os) in
    let T : List Open → Type 0 = λ os. turned (flow_of op.code) (kinds_of (inner old ∷ os)) ≡ Ok (kinds_of os) in
    let K : List Open → Type 0 = λ os. Closing m (blocks old) b (ids_of os) (inner old) op p ms f in
    let M : List Part → Type 0 = λ l. Makes (inner old).opener n.instr (block (inner old).first l f) in
    let S : List Open → Type 0 = λ os. Steps m op p (blocks old) (inner old ∷ os) false b (opens new) in
    let at = n.around_is in
    let there : Steps m op p (blocks old) (inner old ∷ (n.outer ∷ n.further)) false b (opens new) =
    steps_as m op p (blocks old) (inner old ∷ (n.outer ∷ n.further)) false b b _ (opens new)
    (end_steps m (blocks old) b (inner old) n.outer _ n.further n.instr op p ms f r (subst T at t) (subst K at closing) (subst M parts n.makes) refl (subst A at h)) refl n.opens_are in
    steps_as m op p (blocks old) (opens old) false b (blocks new) (opens new) (opens new) (subst S (sym at) there) is refl

kept_end : (op : Seen) (p : InstrLocId) → flow_of op.code ≡ Some flows.End → place_in p ≡ end_place op (place_in p)
kept_end op p e = sym (ap (λ (d : Bool). if d then None else place_in p) (ap is_delegate_in e))

dropped_end : (op : Seen) (p : Option ℕ) → flow_of op.code ≡ Some flows.Delegate → place_in no_place ≡ end_place op p
dropped_end op p e = sym (ap (λ (d : Bool). if d then None else p) (ap is_delegate_in e))

else_turns : (s : Sight) (ty : InstrSeqType) → TurnsTo s ty else_op Otherwise ty
unfolding structure_rows
else_turns s ty = (refl, refl)

end_ends : EndsAs end_op Ended
unfolding structure_rows
end_ends = refl

end_so : (op : Seen) (k : Frame) (ks : List Frame) → flow_of op.code ≡ Some flows.End → turned (flow_of op.code) (k ∷ ks) ≡ Ok ks
end_so op k ks e = ap (λ (x : Option Flow). turned x (k ∷ ks)) e

pub ends_are_steps : EndsAreSteps
ends_are_steps s old new op p true e h done =
    let m = meaning s in
    let S : List Open → Type 0 = λ os. Steps m op (place_in p) (blocks old) (inner old ∷ os) true (blocks new) (opens new) in
    let A : List Open → Type 0 = λ os. Shaped (blocks old) (inner old ∷ os) in
    let k : IsEnd m op (place_in p) Ended p = record { ends = e; place = kept_end op p e } in
    subst S (sym done.outermost) (body_steps m (blocks old) (blocks new) (inner old) (opens new) op (place_in p) p (ap role_in e) (end_so op (inner old).kind [] e) k done.blocks_are (subst A done.outermost h))
ends_are_steps s old new op p false e h (inl done) =
    let m = meaning s in
    let k : IsEnd m op (place_in p) Ended p = record { ends = e; place = kept_end op p e } in
    ending s old new op (place_in p) Ended (filled p old) (inner old).turns (ap role_in e) (end_so op (inner old).kind (kinds_of (around old)) e) done.nested done.parts
    (plain_closing m (blocks old) (ids_of (around old)) (inner old) op (place_in p) Ended p k h.0 done.bare) done.blocks_are h
ends_are_steps s old new op p false e h (inr done) =
    let m = meaning s in
    let k : IsBareEnd m (inner old).ty (place_in p) p = record { turns = else_turns s (inner old).ty; ends = end_ends; place = refl } in
    let n = length (filled p old) in
    ending s old new op (place_in p) Ended (filled p old ++ empty_seq n (inner old).ty ∷ []) ((inner old).turns ++ part Otherwise n ∷ []) (ap role_in e) (end_so op (inner old).kind (kinds_of (around old)) e) done.nested done.parts
    (bare_closing m (blocks old) (ids_of (around old)) (inner old) op (place_in p) p k h.0 done.bare) done.blocks_are h

delegate_so : (k : Frame) (ks : List Frame) → IsTrying k → turned (Some flows.Delegate) (k ∷ ks) ≡ Ok ks
delegate_so Plain ks h = absurd h
delegate_so Choice ks h = absurd h
delegate_so Trying ks h = refl
delegate_so Catching ks h = absurd h
delegate_so Caught ks h = absurd h

pub hands_are_steps : HandsAreSteps
hands_are_steps s old new op n p e items trying h done =
    let m = meaning s in
    let k : IsEnd m op (place_in p) (Delegated n) no_place = record { ends = (e, items); place = dropped_end op (place_in p) e } in
    ending s old new op (place_in p) (Delegated n) (filled no_place old) (inner old).turns (ap role_in e)
    (ap (λ (x : Option Flow). turned x (kinds_of (opens old))) e ∙ delegate_so (inner old).kind (kinds_of (around old)) trying) done.nested done.parts
    (plain_closing m (blocks old) (ids_of (around old)) (inner old) op (place_in p) (Delegated n) no_place k h.0 done.bare) done.blocks_are h
