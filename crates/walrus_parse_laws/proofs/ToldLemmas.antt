-- Lemmas: of handlers that a tree tells, the types of tags and blocks were seen.
use Rattle.std.proofs.Common.{◌≡◌, ◌∙◌, ℕ, zero, suc, Bool, true, false, List, [], ◌∷◌, ◌++◌, map, Option, Some, None, refl, sym, ap, subst}
use Rattle.std.specs.Prelude.{◌==◌, IsSome, slice_get, if◌then◌else◌}
use Rattle.std.specs.List.{AllByRecursion}
use Rattle.std.specs.Option.{option_map}
use Rattle.walrus_body_laws.specs.walrus_pairing.wasm_operators.wasm_features.declared.WasmFeatures.{WasmFeatures}
use Rattle.walrus_named_bodies.specs.walrus_file_bodies.walrus_items_into.walrus_module_env.walrus_handler_types.walrus_handler_laws.walrus_body_steps.wasm_normal_form.Trees.{Tree as OpTree, Close, Arm, Skip, Run, Nest}
use Rattle.wasm_operators.specs.Operators.{Seen}
use Rattle.walrus_forms.specs.declared.value.ValType.{ValType}
use Rattle.walrus_body_laws.specs.walrus_pairing.walrus_instr.declared.instr.Instr.{Instr}
use Rattle.walrus_body_laws.specs.walrus_pairing.walrus_instr.declared.instr.Instr.TheVariants as instrs
use Rattle.walrus_body_laws.specs.walrus_pairing.walrus_instr.declared.instr.LegacyCatch.{LegacyCatch}
use Rattle.walrus_body_laws.specs.walrus_pairing.walrus_instr.declared.instr.LegacyCatch.TheVariants as legacy
use Rattle.walrus_body_laws.specs.walrus_pairing.walrus_instr.declared.seq.InstrLocId.{InstrLocId}
use Rattle.walrus_body_laws.specs.walrus_pairing.walrus_instr.declared.seq.InstrSeq.{InstrSeq}
use Rattle.walrus_body_laws.specs.walrus_pairing.walrus_instr.declared.seq.InstrSeqType.{InstrSeqType}
use Rattle.walrus_named_bodies.specs.walrus_item_names.walrus_module.walrus_builder.Built.{Seq, seq_of}
use Rattle.walrus_named_bodies.specs.walrus_file_bodies.walrus_items_into.walrus_module_env.walrus_handler_types.walrus_handler_laws.walrus_tree.walrus_walks.Tree.{children, children_in, handlers}
use Rattle.walrus_named_bodies.specs.walrus_file_bodies.walrus_items_into.walrus_module_env.walrus_handler_types.walrus_handler_laws.walrus_tree.Trees.{IsTree, Nothing, Stand, Tree, Trees, ids}
use Rattle.walrus_body_laws.specs.walrus_pairing.Laws.{OperatorComesBack}
use Rattle.walrus_named_bodies.specs.walrus_file_bodies.walrus_items_into.walrus_module_env.walrus_handler_types.walrus_handler_laws.walrus_body_steps.walrus_body_nesting.declared.frames.Opener.{Opener}
use Rattle.walrus_named_bodies.specs.walrus_file_bodies.walrus_items_into.walrus_module_env.walrus_handler_types.walrus_handler_laws.walrus_body_steps.walrus_body_nesting.declared.frames.Opener.TheVariants as openers
use Rattle.walrus_named_bodies.specs.walrus_file_bodies.walrus_items_into.walrus_module_env.walrus_handler_types.walrus_handler_laws.walrus_body_steps.walrus_body_nesting.Opens.{Makes, type_at}
use Rattle.walrus_named_bodies.specs.walrus_file_bodies.walrus_items_into.walrus_module_env.walrus_handler_types.walrus_handler_laws.walrus_body_steps.walrus_body_nesting.Stands.{Block, EndsOnce, Ended, Finish, Handles, HandlesAll, Otherwise, Part, StandsAs, Turn, lies, none, parts_of, with}
use Rattle.walrus_named_bodies.specs.walrus_file_bodies.walrus_items_into.walrus_module_env.walrus_handler_types.walrus_handler_laws.walrus_body_steps.walrus_body_rules.Sights.{Sight, handler_of, results_of, tag_params}
use Rattle.walrus_named_bodies.specs.walrus_file_bodies.walrus_items_into.walrus_module_env.walrus_handler_types.walrus_handler_laws.walrus_body_steps.Meanings.{TurnsTo, meaning}
use Rattle.walrus_named_bodies.specs.walrus_file_bodies.walrus_items_into.walrus_module_env.walrus_handler_types.walrus_handler_laws.declared.handler.Handler.{Handler}
use Rattle.walrus_named_bodies.specs.walrus_file_bodies.walrus_items_into.walrus_module_env.walrus_handler_types.walrus_handler_laws.Handlers.{Slot, all_slots, handler_in, part_slots, seq_slots, slots, slots_in, told_by, tree_ids, turn_handler}
use Rattle.walrus_named_bodies.specs.walrus_file_bodies.walrus_items_into.walrus_module_env.walrus_handler_types.walrus_handler_laws.Retyping.{handler_params}
use Rattle.walrus_body_laws.proofs.Fitting.{RunsFit}
use Rattle.walrus_parse_laws.proofs.FitLemmas.{run_none}

-- ---- lists

pub all_join : {X : Type 0} (P : X → Type 0) (xs ys : List X) → AllByRecursion P xs → AllByRecursion P ys → AllByRecursion P (xs ++ ys)
all_join P [] ys h k = k
all_join P (x ∷ xs) ys h k = (h.0, all_join P xs ys h.1 k)

all_split : {X : Type 0} (P : X → Type 0) (xs ys : List X) → AllByRecursion P (xs ++ ys) → AllByRecursion P xs × AllByRecursion P ys
all_split P [] ys h = (tt, h)
all_split P (x ∷ xs) ys h = let r = all_split P xs ys h.1 in ((h.0, r.0), r.1)

pub seen_at : (b : List InstrSeq) (k : ℕ) (x : Seq) → slice_get (map seq_of b) k ≡ Some x → (y : InstrSeq) × (slice_get b k ≡ Some y) × (x ≡ seq_of y)
seen_at [] k x e = absurd cc
seen_at (y ∷ b) zero x e = (y, refl, let f = e in cc)
seen_at (y ∷ b) (suc k) x e = seen_at b k x e

type_seen : (b : List Seq) (k : ℕ) (x : Seq) → slice_get b k ≡ Some x → type_at b k ≡ Some x.ty
type_seen b k x e = ap (option_map (λ (s : Seq). s.ty)) e

no_slots : (tags : ℕ → Option ℕ) (b : List Seq) (i : Instr) → children i ≡ [] → slots tags b i ≡ []
no_slots tags b (instrs.Block k) e = absurd cc
no_slots tags b (instrs.Loop k) e = absurd cc
no_slots tags b (instrs.IfElse k j) e = absurd cc
no_slots tags b (instrs.Try k cs) e = absurd cc
no_slots tags b (instrs.TryTable k cs) e = absurd cc
no_slots tags b _ e = refl

-- ---- what is seen of a handler

-- the sight has the parameters of its tag's type and the results of its block
abbrev pub IsSeen : Sight → Option Handler → Type 0
IsSeen s None = Unit {0}
IsSeen s (Some h) = IsSome (handler_params s h.tag_type) × IsSome (results_of s h.block)

both_some : (s : Sight) (ps rs : Option (List ValType)) (own : InstrSeqType) → handler_of s ps rs ≡ Some own → IsSome ps × IsSome rs
both_some s None rs own e = absurd cc
both_some s (Some ps) None own e = absurd cc
both_some s (Some ps) (Some rs) own e = (refl, refl)

module _ (back : OperatorComesBack) (features : WasmFeatures) (s : Sight) (b : List InstrSeq) where
  abbrev c : List Seq
  c = map seq_of b

  abbrev Lies : OpTree → List ℕ → ℕ → InstrSeqType → (ℕ → Bool) → List (Instr × InstrLocId) → InstrLocId → List Part → Finish → (ℕ → Bool) → Type 0
  Lies t around k ty met is e ms f done = lies (meaning s) t c around k ty met is e ms f done

  turn_seen : (ty own : InstrSeqType) (o : Seen) (turn : Turn) → TurnsTo s ty o turn own → IsSeen s (turn_handler s.tag_type ty turn)
  turn_seen ty own o Otherwise h = tt
  turn_seen ty own o (Handles tag) (flow, n, items, named, is) = go (s.tag_type tag) refl is
    where
      go : (t : Option ℕ) → s.tag_type tag ≡ t → handler_of s (tag_params s t) (results_of s ty) ≡ Some own → IsSeen s (turn_handler s.tag_type ty (Handles tag))
      go None e is = absurd cc
      go (Some t) e is = rw e (both_some s (s.params t) (results_of s ty) own is)
  turn_seen ty own o HandlesAll (flow, is) = both_some s (Some []) (results_of s ty) own is

  -- a sequence was entered
  record Entered (j : ℕ) : Type 0 where
    pub seq : InstrSeq
    pub found : slice_get b j ≡ Some seq
    pub tree : OpTree
    pub around : List ℕ
    pub ty : InstrSeqType
    pub met : ℕ → Bool
    pub parts : List Part
    pub finish : Finish
    pub done : ℕ → Bool
    pub fits : RunsFit features tree
    pub lie : Lies tree around j ty met seq.instrs.items seq.end parts finish done

  abbrev SlotFine : Slot → Type 0
  SlotFine x = IsSeen s x.handles × Entered x.seq

  abbrev PartFine : InstrSeqType → Part → Type 0
  PartFine ty n = IsSeen s (turn_handler s.tag_type ty n.turn) × Entered n.seq

  -- the further parts of a block
  parts_in : (t : OpTree) (around : List ℕ) (k : ℕ) (ty : InstrSeqType) (met : ℕ → Bool) (is : List (Instr × InstrLocId)) (e : InstrLocId) (ms : List Part) (f : Finish) (done : ℕ → Bool)
      → RunsFit features t → Lies t around k ty met is e ms f done → AllByRecursion (PartFine ty) ms
  parts_in (Close o p) around k ty met [] e [] f done n h = tt
  parts_in (Close o p) around k ty met [] e (m ∷ ms) f done n h = absurd h
  parts_in (Close o p) around k ty met (i ∷ is) e ms f done n h = absurd h
  parts_in (Arm o p t) around k ty met [] e [] f done n h = absurd h
  parts_in (Arm o p t) around k ty met [] e (m ∷ ms) f done n (place, fresh, x, found, turns, lie) =
      let y = seen_at b m.seq x found in
      let own = subst (λ (z : Seq). Lies t around m.seq ty (with m.seq met) z.instrs z.end ms f done) y.2 lie in (
        (
          turn_seen ty x.ty o m.turn turns,
          record { seq = y.0; found = y.1; tree = t; around = around; ty = ty; met = with m.seq met; parts = ms; finish = f; done = done; fits = n; lie = own },
        ),
        parts_in t around m.seq ty (with m.seq met) y.0.instrs.items y.0.end ms f done n own,
      )
  parts_in (Arm o p t) around k ty met (i ∷ is) e ms f done n h = absurd h
  parts_in (Skip o p t) around k ty met [] e [] f done n h = absurd h
  parts_in (Skip o p t) around k ty met [] e (m ∷ ms) f done n h = absurd h
  parts_in (Skip o p t) around k ty met (i ∷ is) e ms f done n h = absurd h
  parts_in (Run o p t) around k ty met [] e [] f done n h = absurd h
  parts_in (Run o p t) around k ty met [] e (m ∷ ms) f done n h = absurd h
  parts_in (Run o p t) around k ty met (i ∷ is) e ms f done n (runs, place, lie) = parts_in t around k ty met is e ms f done n.1 lie
  parts_in (Nest o p u t) around k ty met [] e [] f done n h = absurd h
  parts_in (Nest o p u t) around k ty met [] e (m ∷ ms) f done n h = absurd h
  parts_in (Nest o p u t) around k ty met (i ∷ is) e ms f done n (q, nests, place, fresh, x, found, opens, half, inside, lie) = parts_in t around k ty half is e ms f done n.1 lie

  parts_fine : (ty : InstrSeqType) (cs : List LegacyCatch) → EndsOnce cs → AllByRecursion (PartFine ty) (parts_of cs) → AllByRecursion SlotFine (part_slots s.tag_type (Some ty) cs)
  parts_fine ty [] once h = tt
  parts_fine ty (legacy.Catch tag k ∷ cs) once h = (h.0, parts_fine ty cs once h.1)
  parts_fine ty (legacy.CatchAll k ∷ cs) once h = (h.0, parts_fine ty cs once h.1)
  parts_fine ty (legacy.Delegate n ∷ cs) once h = subst (λ (l : List LegacyCatch). AllByRecursion SlotFine (part_slots s.tag_type (Some ty) l)) (sym once) tt

  made_fine : (g : Opener) (i : Instr) (q : Block) (ty : InstrSeqType) → Makes g i q → type_at c q.first ≡ Some ty → Entered q.first → AllByRecursion (PartFine ty) q.more → AllByRecursion SlotFine (slots s.tag_type c i)
  made_fine openers.Block i q ty (is, more, fin) typed first parts = subst (λ (j : Instr). AllByRecursion SlotFine (slots s.tag_type c j)) (sym is) ((tt, first), tt)
  made_fine openers.Loop i q ty (is, more, fin) typed first parts = subst (λ (j : Instr). AllByRecursion SlotFine (slots s.tag_type c j)) (sym is) ((tt, first), tt)
  made_fine openers.If i q ty (k, is, more, fin) typed first parts =
      let other = subst (AllByRecursion (PartFine ty)) more parts in
      subst (λ (j : Instr). AllByRecursion SlotFine (slots s.tag_type c j)) (sym is) ((tt, first), (other.0, tt))
  made_fine openers.Try i q ty (cs, is, more, fin, once) typed first parts =
      let others = parts_fine ty cs.items once (subst (AllByRecursion (PartFine ty)) more parts) in
      subst (λ (j : Instr). AllByRecursion SlotFine (slots s.tag_type c j)) (sym is)
      ((tt, first), subst (λ (o : Option InstrSeqType). AllByRecursion SlotFine (part_slots s.tag_type o cs.items)) (sym typed) others)
  made_fine (openers.TryTable cs) i q ty (is, more, fin) typed first parts = subst (λ (j : Instr). AllByRecursion SlotFine (slots s.tag_type c j)) (sym is) ((tt, first), tt)

  -- what is held by the instructions of a sequence that was entered
  all_fine : (t : OpTree) (around : List ℕ) (k : ℕ) (ty : InstrSeqType) (met : ℕ → Bool) (is : List (Instr × InstrLocId)) (e : InstrLocId) (ms : List Part) (f : Finish) (done : ℕ → Bool)
      → RunsFit features t → Lies t around k ty met is e ms f done → AllByRecursion SlotFine (slots_in s.tag_type c is)
  all_fine (Close o p) around k ty met [] e ms f done n h = tt
  all_fine (Close o p) around k ty met (i ∷ is) e ms f done n h = absurd h
  all_fine (Arm o p t) around k ty met [] e ms f done n h = tt
  all_fine (Arm o p t) around k ty met (i ∷ is) e ms f done n h = absurd h
  all_fine (Skip o p t) around k ty met [] e ms f done n h = tt
  all_fine (Skip o p t) around k ty met (i ∷ is) e ms f done n h = absurd h
  all_fine (Run o p t) around k ty met [] e ms f done n h = tt
  all_fine (Run o p t) around k ty met (i ∷ is) e ms f done n (runs, place, lie) =
      let plain = run_none back features s (k ∷ around) o i.0 runs n.0 in
      subst (λ (l : List Slot). AllByRecursion SlotFine (l ++ slots_in s.tag_type c is)) (sym (no_slots s.tag_type c i.0 plain)) (all_fine t around k ty met is e ms f done n.1 lie)
  all_fine (Nest o p u t) around k ty met [] e ms f done n h = tt
  all_fine (Nest o p u t) around k ty met (i ∷ is) e ms f done n (q, (g, makes, opener), place, fresh, x, found, opens, half, inside, lie) =
      let y = seen_at b q.first x found in
      let own = subst (λ (z : Seq). Lies u (k ∷ around) q.first x.ty (with q.first met) z.instrs z.end q.more q.finish half) y.2 inside in
      let first : Entered q.first =
      record { seq = y.0; found = y.1; tree = u; around = k ∷ around; ty = x.ty; met = with q.first met; parts = q.more; finish = q.finish; done = half; fits = n.0; lie = own } in
      let parts = parts_in u (k ∷ around) q.first x.ty (with q.first met) y.0.instrs.items y.0.end q.more q.finish half n.0 own in
      all_join SlotFine (slots s.tag_type c i.0) (slots_in s.tag_type c is) (made_fine g i.0 q x.ty makes (type_seen c q.first x found) first parts) (all_fine t around k ty half is e ms f done n.1 lie)

  -- ---- all sequences of the tree

  handlers_entered : (o : Option InstrSeqType) (cs : List LegacyCatch) → AllByRecursion SlotFine (part_slots s.tag_type o cs) → AllByRecursion Entered (handlers cs)
  handlers_entered o [] h = tt
  handlers_entered o (legacy.Catch tag k ∷ cs) h = (h.0.1, handlers_entered o cs h.1)
  handlers_entered o (legacy.CatchAll k ∷ cs) h = (h.0.1, handlers_entered o cs h.1)
  handlers_entered o (legacy.Delegate n ∷ cs) h = handlers_entered o cs h

  instr_entered : (i : Instr) → AllByRecursion SlotFine (slots s.tag_type c i) → AllByRecursion Entered (children i)
  instr_entered (instrs.Block k) h = (h.0.1, tt)
  instr_entered (instrs.Loop k) h = (h.0.1, tt)
  instr_entered (instrs.IfElse k j) h = (h.0.1, (h.1.0.1, tt))
  instr_entered (instrs.Try k cs) h = (h.0.1, handlers_entered (type_at c k) cs.items h.1)
  instr_entered (instrs.TryTable k cs) h = (h.0.1, tt)
  instr_entered _ h = tt

  children_entered : (is : List (Instr × InstrLocId)) → AllByRecursion SlotFine (slots_in s.tag_type c is) → AllByRecursion Entered (children_in is)
  children_entered [] h = tt
  children_entered (i ∷ is) h =
      let r = all_split SlotFine (slots s.tag_type c i.0) (slots_in s.tag_type c is) h in
      all_join Entered (children i.0) (children_in is) (instr_entered i.0 r.0) (children_entered is r.1)

  slots_join : (xs ys : List ℕ) → AllByRecursion SlotFine (all_slots s.tag_type c xs) → AllByRecursion SlotFine (all_slots s.tag_type c ys) → AllByRecursion SlotFine (all_slots s.tag_type c (xs ++ ys))
  slots_join [] ys h k = k
  slots_join (x ∷ xs) ys h k =
      let r = all_split SlotFine (seq_slots s.tag_type c (slice_get c x)) (all_slots s.tag_type c xs) h in
      all_join SlotFine (seq_slots s.tag_type c (slice_get c x)) (all_slots s.tag_type c (xs ++ ys)) r.0 (slots_join xs ys r.1 k)

  got : (xs : List InstrSeq) (k : ℕ) (y : InstrSeq) → slice_get xs k ≡ Some y → slice_get (map seq_of xs) k ≡ Some (seq_of y)
  got [] k y e = absurd cc
  got (x ∷ xs) zero y e = let same : x ≡ y = cc in ap (λ (z : InstrSeq). Some (seq_of z)) same
  got (x ∷ xs) (suc k) y e = got xs k y e

  same_seq : (x y : InstrSeq) → ◌≡◌ {A = Option InstrSeq} (Some x) (Some y) → x ≡ y
  same_seq x y e = cc

  trees_fine : (x : Trees) (around ks : List ℕ) → Stand b x around ks → AllByRecursion Entered ks → AllByRecursion SlotFine (all_slots s.tag_type c (ids x))
  trees_fine Nothing around ks h entered = tt
  trees_fine (Tree id inside beside) around [] h entered = absurd h
  trees_fine (Tree id inside beside) around (k ∷ ks) (same, y, found, within, held, next) entered =
      let n = entered.0 in
      let alike : n.seq ≡ y = same_seq n.seq y (sym n.found ∙ found) in
      let fine : AllByRecursion SlotFine (slots_in s.tag_type c y.instrs.items) =
      subst (λ (z : InstrSeq). AllByRecursion SlotFine (slots_in s.tag_type c z.instrs.items)) alike
      (all_fine n.tree n.around k n.ty n.met n.seq.instrs.items n.seq.end n.parts n.finish n.done n.fits n.lie) in
      let there : slice_get c id ≡ Some (seq_of y) = got b id y (ap (slice_get b) same ∙ found) in
      all_join SlotFine (seq_slots s.tag_type c (slice_get c id)) (all_slots s.tag_type c (ids inside ++ ids beside))
      (subst (λ (o : Option Seq). AllByRecursion SlotFine (seq_slots s.tag_type c o)) (sym there) fine)
      (slots_join (ids inside) (ids beside) (trees_fine inside (k ∷ around) (children_in y.instrs.items) held (children_entered y.instrs.items fine)) (trees_fine beside around ks next entered.1))

  told_seen : (xs : List Slot) (j : ℕ) → AllByRecursion SlotFine xs → IsSeen s (handler_in xs j)
  told_seen [] j h = tt
  told_seen (x ∷ xs) j h = go (x.seq == j) (told_seen xs j h.1)
    where
      go : (d : Bool) → IsSeen s (handler_in xs j) → IsSeen s (if d then x.handles else handler_in xs j)
      go true later = h.0.0
      go false later = later

  -- each handler that the tree tells
  pub each_seen : (o : OpTree) → RunsFit features o → StandsAs (meaning s) c o → (t : IsTree b 0) → (j : ℕ) → IsSeen s (told_by s.tag_type b (tree_ids t) j)
  each_seen o n h t j =
      let y = seen_at b 0 h.enters.seq h.enters.found in
      let own = subst (λ (z : Seq). Lies o [] 0 h.ty (with 0 none) z.instrs z.end [] Ended h.done) y.2 h.enters.lie in
      let body : Entered 0 = record { seq = y.0; found = y.1; tree = o; around = []; ty = h.ty; met = with 0 none; parts = []; finish = Ended; done = h.done; fits = n; lie = own } in
      told_seen (all_slots s.tag_type c (tree_ids t)) j (trees_fine (Tree 0 t.inside Nothing) [] (0 ∷ []) t.stands (body, tt))
