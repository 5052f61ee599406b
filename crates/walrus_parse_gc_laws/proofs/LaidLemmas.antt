-- Lemmas: sequences that stand as a body's normal form hold no exact heap type, where its operators hold none.
use Rattle.std.proofs.Common.{ap, inl, inr, subst, sym, ◌∙◌}
use Rattle.std.specs.List.{AllByRecursion}
use Rattle.std.specs.Prelude.{Bool, Contains, List, None, Option, Some, [], false, map, nat_eq, not, refl, slice_get, true, ℕ, ◌&&◌, ◌++◌, ◌∷◌, ◌≡◌, ◌⊎◌}
use Rattle.walrus_parse_laws.specs.walrus_named_bodies.walrus_file_bodies.walrus_items_into.walrus_module_env.walrus_handler_types.walrus_body_steps.walrus_body_nesting.Opens.{Makes}
use Rattle.walrus_parse_laws.specs.walrus_named_bodies.walrus_file_bodies.walrus_items_into.walrus_module_env.walrus_handler_types.walrus_body_steps.walrus_body_nesting.Stands.{Block, EndsOnce, Ended, Finish, Handles, HandlesAll, Otherwise, Part, StandsAs, Turn, lies, none, part, parts_of, with}
use Rattle.walrus_parse_laws.specs.walrus_named_bodies.walrus_file_bodies.walrus_items_into.walrus_module_env.walrus_handler_types.walrus_body_steps.walrus_body_nesting.declared.frames.Opener.TheVariants as openers
use Rattle.walrus_parse_laws.specs.walrus_named_bodies.walrus_file_bodies.walrus_items_into.walrus_module_env.walrus_handler_types.walrus_body_steps.walrus_body_nesting.declared.frames.Opener.{Opener}
use Rattle.walrus_parse_laws.specs.walrus_named_bodies.walrus_file_bodies.walrus_items_into.walrus_module_env.walrus_body_parser.walrus_body_rules.Sights.{Sight, tag_params}
use Rattle.walrus_parse_laws.specs.walrus_named_bodies.walrus_file_bodies.walrus_items_into.walrus_module_env.walrus_handler_types.walrus_body_steps.Meanings.{TurnsTo, meaning}
use Rattle.walrus_parse_laws.specs.walrus_named_bodies.walrus_file_bodies.walrus_items_into.walrus_module_env.walrus_handler_types.walrus_tree.walrus_builder.Built.{Seq, seq_of}
use Rattle.walrus_pass_laws.specs.walrus_exact.Exact.{block_exact, instr_exact, instrs_exact}
use Rattle.walrus_marks.specs.walrus_instr.declared.instr.Instr.{Instr}
use Rattle.walrus_marks.specs.walrus_instr.declared.instr.LegacyCatch.TheVariants as legacy
use Rattle.walrus_marks.specs.walrus_instr.declared.instr.LegacyCatch.{LegacyCatch}
use Rattle.walrus_marks.specs.walrus_instr.declared.seq.InstrLocId.{InstrLocId}
use Rattle.walrus_marks.specs.walrus_instr.declared.seq.InstrSeq.{InstrSeq}
use Rattle.walrus_marks.specs.walrus_instr.declared.seq.InstrSeqType.{InstrSeqType}
use Rattle.walrus_marks.specs.Chains.{Chain, root, refers}
use Rattle.walrus_parse_laws.specs.walrus_pairing.Laws.{OperatorComesBack}
use Rattle.walrus_parse_gc_laws.proofs.InstrLemmas.{IsFine, IsLeaf, Knows, handler_inexact, opened_inexact, run_leaf}
use Rattle.walrus_parse_gc_laws.proofs.TreeLemmas.{TreeIs}
use Rattle.walrus_parse_laws.proofs.walrus_body_laws.Meeting.{New, Stays, either_bool, new_back, new_front, new_one, not_both, seen_at, with_cases, with_here, with_stays}
use Rattle.walrus_parse_gc_laws.proofs.ValueLemmas.{InexactType, any_false, or_false, type_false}
use Rattle.walrus_pass_laws.proofs.BodyLemmas.{of_held}
use Rattle.walrus_pass_laws.specs.walrus_references.References.{Holds, IsEntry, held, held_in}
use Rattle.walrus_pass_laws.specs.walrus_refusals.Written.{BodyHasNone}
use Rattle.walrus_parse_laws.specs.walrus_named_bodies.walrus_file_bodies.walrus_items_into.walrus_tables_into.walrus_sections.walrus_roots.Items.{item}
use Rattle.walrus_parse_laws.specs.walrus_named_bodies.walrus_file_bodies.walrus_items_into.walrus_tables_into.walrus_sections.walrus_roots.declared.item.Item.{Item}
use Rattle.walrus_parse_laws.specs.walrus_named_bodies.walrus_file_bodies.walrus_items_into.walrus_module_env.walrus_handler_types.walrus_tree.Trees.{Has}
use Rattle.walrus_pass_laws.proofs.walrus_passes.walrus_used.LooksLemmas.{none_in, only_in}
use Rattle.walrus_marks.specs.walrus_walks.Tree.{children, children_in, handlers as handlers_of}
use Rattle.walrus_parse_laws.specs.walrus_named_bodies.walrus_file_bodies.walrus_items_into.walrus_module_env.walrus_body_parser.wasm_operators.wasm_features.declared.WasmFeatures.{WasmFeatures}
use Rattle.walrus_parse_laws.specs.walrus_named_bodies.walrus_file_bodies.walrus_items_into.wasm_sections.wasm_grammar.wasm_formats.declared.fault.Space.TheVariants as spaces
use Rattle.walrus_parse_laws.specs.walrus_named_bodies.walrus_file_bodies.walrus_items_into.wasm_sections.wasm_grammar.wasm_formats.declared.fault.Space.{Space}
use Rattle.walrus_parse_laws.specs.walrus_named_bodies.walrus_file_bodies.walrus_items_into.walrus_module_env.walrus_handler_types.walrus_body_steps.wasm_normal_form.Trees.{Tree as OpTree, Close, Arm, Skip, Run, Nest}
use Rattle.walrus_parse_laws.specs.walrus_named_bodies.walrus_file_bodies.walrus_items_into.walrus_module_env.walrus_body_parser.wasm_operators.Operators.{Seen}

-- ---- what all of a list has

pub all_up : {A : Type 0} (P Q : A → Type 0) → ((x : A) → P x → Q x) → (xs : List A) → AllByRecursion P xs → AllByRecursion Q xs
all_up P Q up [] h = tt
all_up P Q up (x ∷ xs) h = (up x h.0, all_up P Q up xs h.1)

-- ---- what an instruction holds

-- it writes no exact heap type, and the sequences that it holds are these
record IsFineIn (S : ℕ → Type 0) (i : Instr) : Type 0 where
  pub inexact : instr_exact i ≡ false
  pub held : (k : ℕ) → Has (children i) k → S k

abbrev AllFine : (ℕ → Type 0) → List (Instr × InstrLocId) → Type 0
AllFine S is = AllByRecursion (λ (i : Instr × InstrLocId). IsFineIn S i.0) is

all_fine_up : (S R : ℕ → Type 0) → ((j : ℕ) → S j → R j) → (is : List (Instr × InstrLocId)) → AllFine S is → AllFine R is
all_fine_up S R up is h =
    all_up (λ (i : Instr × InstrLocId). IsFineIn S i.0) (λ (i : Instr × InstrLocId). IsFineIn R i.0) (λ i h. record { inexact = h.inexact; held = λ k has. up k (h.held k has) }) is h

-- the sequences of further parts of a block are these
abbrev PartsIn : (ℕ → Type 0) → List Part → Type 0
PartsIn S ms = AllByRecursion (λ (m : Part). S m.seq) ms

parts_up : (S R : ℕ → Type 0) → ((j : ℕ) → S j → R j) → (ms : List Part) → PartsIn S ms → PartsIn R ms
parts_up S R up ms h = all_up (λ (m : Part). S m.seq) (λ (m : Part). R m.seq) (λ m x. up m.seq x) ms h

leaf_in : (S : ℕ → Type 0) (i : Instr) → IsLeaf i → IsFineIn S i
leaf_in S i h = record { inexact = h.0; held = λ k has. absurd (subst (λ (ks : List ℕ). Has ks k) h.1 has) }

module _ (S : ℕ → Type 0) where
  one_held : (j k : ℕ) → S j → Has (j ∷ []) k → S k
  one_held j k here (inl e) = subst S e here
  one_held j k here (inr later) = absurd later

  two_held : (i j k : ℕ) → S i → S j → Has (i ∷ j ∷ []) k → S k
  two_held i j k a c (inl e) = subst S e a
  two_held i j k a c (inr later) = one_held j k c later

  legacy_held : (cs : List LegacyCatch) → EndsOnce cs → PartsIn S (parts_of cs) → (k : ℕ) → Has (handlers_of cs) k → S k
  legacy_held [] h ps k has = absurd has
  legacy_held (legacy.Catch tag j ∷ cs) h ps k (inl e) = subst S e ps.0
  legacy_held (legacy.Catch tag j ∷ cs) h ps k (inr later) = legacy_held cs h ps.1 k later
  legacy_held (legacy.CatchAll j ∷ cs) h ps k (inl e) = subst S e ps.0
  legacy_held (legacy.CatchAll j ∷ cs) h ps k (inr later) = legacy_held cs h ps.1 k later
  legacy_held (legacy.Delegate n ∷ cs) h ps k has = absurd (subst (λ (ds : List LegacyCatch). Has (handlers_of ds) k) h has)

  try_held : (j : ℕ) (cs : List LegacyCatch) → S j → EndsOnce cs → PartsIn S (parts_of cs) → (k : ℕ) → Has (j ∷ handlers_of cs) k → S k
  try_held j cs here h ps k (inl e) = subst S e here
  try_held j cs here h ps k (inr later) = legacy_held cs h ps k later

  made_in : (g : Opener) (i : Instr) (q : Block) → Makes g i q → S q.first → PartsIn S q.more → IsFineIn S i
  made_in openers.Block i q h here ps = subst (IsFineIn S) (sym h.0) (record { inexact = refl; held = λ k has. one_held q.first k here has })
  made_in openers.Loop i q h here ps = subst (IsFineIn S) (sym h.0) (record { inexact = refl; held = λ k has. one_held q.first k here has })
  made_in openers.If i q h here ps =
      let other : PartsIn S (part Otherwise h.0 ∷ []) = subst (PartsIn S) h.2 ps in
      subst (IsFineIn S) (sym h.1) (record { inexact = refl; held = λ k has. two_held q.first h.0 k here other.0 has })
  made_in openers.Try i q h here ps =
      let more : PartsIn S (parts_of h.0.items) = subst (PartsIn S) h.2 ps in
      subst (IsFineIn S) (sym h.1) (record { inexact = refl; held = λ k has. try_held q.first h.0.items here h.4 more k has })
  made_in (openers.TryTable cs) i q h here ps = subst (IsFineIn S) (sym h.0) (record { inexact = refl; held = λ k has. one_held q.first k here has })

-- ---- what lies as a tree

module _ (b : List InstrSeq) where
  -- the sequence is there, of an inexact type, and its instructions are fine
  abbrev IsWhole : (ℕ → Type 0) → ℕ → Type 0
  IsWhole S j = (y : InstrSeq) × (slice_get b j ≡ Some y) × InexactType y.ty × AllFine S y.instrs.items

  whole_up : (S R : ℕ → Type 0) → ((j : ℕ) → S j → R j) → (j : ℕ) → IsWhole S j → IsWhole R j
  whole_up S R up j h = (h.0, h.1, h.2, all_fine_up S R up h.0.instrs.items h.3)

  -- the instructions of a sequence from here on, the further parts of its block, and the sequences that are met in between
  record Laid (met : ℕ → Bool) (is : List (Instr × InstrLocId)) (ms : List Part) (done : ℕ → Bool) : Type 0 where
    pub stays : Stays met done
    pub fine : AllFine (New met done) is
    pub parts : PartsIn (New met done) ms
    pub whole : (j : ℕ) → New met done j → IsWhole (New met done) j

  -- where further parts follow, the block's type is inexact
  abbrev Known : List Part → InstrSeqType → Type 0
  Known [] ty = Unit {0}
  Known (m ∷ ms) ty = InexactType ty

  known_all : (ms : List Part) (ty : InstrSeqType) → InexactType ty → Known ms ty
  known_all [] ty h = tt
  known_all (m ∷ ms) ty h = h

  module _ (back : OperatorComesBack) (features : WasmFeatures) (s : Sight) (knows : Knows s) where
    turned : (turn : Turn) (ty own : InstrSeqType) (o : Seen) → TurnsTo s ty o turn own → InexactType ty → InexactType own
    turned Otherwise ty own o h known = subst InexactType (sym h.1) known
    turned (Handles tag) ty own o (flow, n, items, found, handler) known = handler_inexact s knows (tag_params s (s.tag_type tag)) ty own known handler
    turned HandlesAll ty own o (flow, handler) known = handler_inexact s knows (Some []) ty own known handler

    abbrev Lies : OpTree → List ℕ → ℕ → InstrSeqType → (ℕ → Bool) → List (Instr × InstrLocId) → InstrLocId → List Part → Finish → (ℕ → Bool) → Type 0
    Lies t around k ty met is e ms f done = lies (meaning s) t (map seq_of b) around k ty met is e ms f done

    laid : (t : OpTree) (around : List ℕ) (k : ℕ) (ty : InstrSeqType) (met : ℕ → Bool) (is : List (Instr × InstrLocId)) (e : InstrLocId) (ms : List Part) (f : Finish) (done : ℕ → Bool)
        → TreeIs (IsFine features) t → Known ms ty → Lies t around k ty met is e ms f done → Laid met is ms done
    laid (Close o p) around k ty met [] e [] f done c known (ends, place, same) = record {
      stays = λ j h. ap (λ (m : ℕ → Bool). m j) same ∙ h;
      fine = tt;
      parts = tt;
      whole = λ j h. absurd (not_both (met j) (sym (ap (λ (m : ℕ → Bool). m j) same) ∙ h.1) h.0);
    }
    laid (Close o p) around k ty met [] e (n ∷ ms) f done c known h = absurd h
    laid (Close o p) around k ty met (i ∷ is) e ms f done c known h = absurd h
    laid (Arm o p t) around k ty met [] e [] f done c known h = absurd h
    laid (Arm o p t) around k ty met [] e (n ∷ ms) f done c known (place, fresh, x, found, turns, lie) =
        let y = seen_at b n.seq x found in
        let own : InexactType x.ty = turned n.turn ty x.ty o turns known in
        let l = laid t around n.seq ty (with n.seq met) y.0.instrs.items y.0.end ms f done c (known_all ms ty known) (subst (λ (z : Seq). Lies t around n.seq ty (with n.seq met) z.instrs z.end ms f done) y.2 lie) in
        let on = new_one n.seq met done in
        record {
          stays = λ j h. l.stays j (with_stays n.seq met j h);
          fine = tt;
          parts = ((fresh, l.stays n.seq (with_here n.seq met)), parts_up (New (with n.seq met) done) (New met done) on ms l.parts);
          whole = λ j h. elim (with_cases n.seq met j) as (λ _. IsWhole (New met done) j) [
            | inl same ↦ subst (IsWhole (New met done)) (sym same) (y.0, y.1, subst InexactType (ap (λ (z : Seq). z.ty) y.2) own, all_fine_up (New (with n.seq met) done) (New met done) on y.0.instrs.items l.fine)
            | inr same ↦ whole_up (New (with n.seq met) done) (New met done) on j (l.whole j (same ∙ h.0, h.1))
          ];
        }
    laid (Arm o p t) around k ty met (i ∷ is) e ms f done c known h = absurd h
    laid (Skip o p t) around k ty met [] e [] f done c known h = absurd h
    laid (Skip o p t) around k ty met [] e (n ∷ ms) f done c known h = absurd h
    laid (Skip o p t) around k ty met (i ∷ is) e ms f done c known h = absurd h
    laid (Run o p t) around k ty met [] e [] f done c known h = absurd h
    laid (Run o p t) around k ty met [] e (n ∷ ms) f done c known h = absurd h
    laid (Run o p t) around k ty met (i ∷ is) e ms f done c known (runs, place, lie) =
        let l = laid t around k ty met is e ms f done c.1 known lie in
        record {
          stays = l.stays;
          fine = (leaf_in (New met done) i.0 (run_leaf s back features (k ∷ around) o i.0 runs c.0), l.fine);
          parts = l.parts;
          whole = l.whole;
        }
    laid (Nest o p u t) around k ty met [] e [] f done c known h = absurd h
    laid (Nest o p u t) around k ty met [] e (n ∷ ms) f done c known h = absurd h
    laid (Nest o p u t) around k ty met (i ∷ is) e ms f done c known (q, (g, makes, opener), place, fresh, x, found, typed, half, inside, lie) =
        let y = seen_at b q.first x found in
        let own : InexactType x.ty = opened_inexact s knows o x.ty c.0.0 typed in
        let v = laid u (k ∷ around) q.first x.ty (with q.first met) y.0.instrs.items y.0.end q.more q.finish half c.1 (known_all q.more x.ty own)
        (subst (λ (z : Seq). Lies u (k ∷ around) q.first x.ty (with q.first met) z.instrs z.end q.more q.finish half) y.2 inside) in
        let l = laid t around k ty half is e ms f done c.2 known lie in
        let half_way : Stays met half = λ j h. v.stays j (with_stays q.first met j h) in
        let in_v : (j : ℕ) → New (with q.first met) half j → New met done j = λ j h. new_front met half done l.stays j (new_one q.first met half j h) in
        let in_l : (j : ℕ) → New half done j → New met done j = new_back met half done half_way in
        let here : New met done q.first = (fresh, l.stays q.first (v.stays q.first (with_here q.first met))) in
        record {
          stays = λ j h. l.stays j (half_way j h);
          fine = (
            made_in (New met done) g i.0 q makes here (parts_up (New (with q.first met) half) (New met done) in_v q.more v.parts),
            all_fine_up (New half done) (New met done) in_l is l.fine,
          );
          parts = parts_up (New half done) (New met done) in_l ms l.parts;
          whole = λ j h. elim (either_bool (half j)) as (λ _. IsWhole (New met done) j) [
            | inl now ↦ elim (with_cases q.first met j) as (λ _. IsWhole (New met done) j) [
              | inl same ↦ subst (IsWhole (New met done)) (sym same)
                  (y.0, y.1, subst InexactType (ap (λ (z : Seq). z.ty) y.2) own, all_fine_up (New (with q.first met) half) (New met done) in_v y.0.instrs.items v.fine)
              | inr same ↦ whole_up (New (with q.first met) half) (New met done) in_v j (v.whole j (same ∙ h.0, now))
            ]
            | inr later ↦ whole_up (New half done) (New met done) in_l j (l.whole j (later, h.1))
          ];
        }

    -- ---- what is reached

    module _ (t : OpTree) (c : TreeIs (IsFine features) t) (stands : StandsAs (meaning s) (map seq_of b) t) where
      own : (y : InstrSeq) × (slice_get b 0 ≡ Some y) × (stands.enters.seq ≡ seq_of y)
      own = seen_at b 0 stands.enters.seq stands.enters.found

      all : Laid (with 0 none) own.0.instrs.items [] stands.done
      all = laid t [] 0 stands.ty (with 0 none) own.0.instrs.items own.0.end [] Ended stands.done c tt
          (subst (λ (z : Seq). Lies t [] 0 stands.ty (with 0 none) z.instrs z.end [] Ended stands.done) own.2 stands.enters.lie)

      abbrev Inner : ℕ → Type 0
      Inner = New (with 0 none) stands.done

      -- it is the body's own sequence, or one inside it
      abbrev IsOne : ℕ → Type 0
      IsOne k = (k ≡ 0) ⊎ Inner k

      some_seq : (x y : InstrSeq) → ◌≡◌ {A = Option InstrSeq} (Some x) (Some y) → x ≡ y
      some_seq x y e = cc

      fine_at : (k : ℕ) (y : InstrSeq) → slice_get b k ≡ Some y → IsOne k → AllFine Inner y.instrs.items
      fine_at k y found (inl e) =
          subst (λ (z : InstrSeq). AllFine Inner z.instrs.items) (some_seq own.0 y (sym own.1 ∙ ap (slice_get b) (sym e) ∙ found)) all.fine
      fine_at k y found (inr here) =
          let w = all.whole k here in
          subst (λ (z : InstrSeq). AllFine Inner z.instrs.items) (some_seq w.0 y (sym w.1 ∙ found)) w.3

      has_either : (xs ys : List ℕ) (k : ℕ) → Has (xs ++ ys) k → Has xs k ⊎ Has ys k
      has_either [] ys k h = inr h
      has_either (x ∷ xs) ys k (inl e) = inl (inl e)
      has_either (x ∷ xs) ys k (inr h) = elim (has_either xs ys k h) as (λ _. Has (x ∷ xs) k ⊎ Has ys k) [ inl f ↦ inl (inr f) | inr f ↦ inr f ]

      held_so : (is : List (Instr × InstrLocId)) → AllFine Inner is → (k : ℕ) → Has (children_in is) k → Inner k
      held_so [] h k has = absurd has
      held_so (i ∷ is) h k has = elim (has_either (children i.0) (children_in is) k has) as (λ _. Inner k) [ inl f ↦ h.0.held k f | inr f ↦ held_so is h.1 k f ]

      step_in : (k : ℕ) (o : Option InstrSeq) (y : Item) → slice_get b k ≡ o → IsOne k → Contains (held o) y → (y.space ≡ spaces.Label) × Inner y.id
      step_in k None y at one has = absurd (none_in y has)
      step_in k (Some x) y at one has =
          let h = of_held x.instrs.items y has in
          (ap (λ (z : Item). z.space) h.2, subst Inner (sym (ap (λ (z : Item). z.id) h.2)) (held_so x.instrs.items (fine_at k x at one) h.0 h.1))

      reached : (x : Item) → Chain IsEntry (Holds b) x → (x.space ≡ spaces.Label) × IsOne x.id
      reached x (root r) = (let e = only_in (item spaces.Label 0) x r in (sym (ap (λ (z : Item). z.space) e), inl (sym (ap (λ (z : Item). z.id) e))))
      reached y (refers {x} k r) =
          let before = reached x k in
          let h = step_in x.id (slice_get b x.id) y refl before.1 (subst (λ (z : Space). Contains (held_in b z x.id) y) before.0 r) in
          (h.0, inr h.1)

      and_false : (a c : Bool) → c ≡ false → (a && c) ≡ false
      and_false true c e = e
      and_false false c e = refl

      instrs_false : (is : List (Instr × InstrLocId)) → AllFine Inner is → instrs_exact is ≡ false
      instrs_false is h = any_false (λ (i : Instr × InstrLocId). instr_exact i.0) (λ (i : Instr × InstrLocId). IsFineIn Inner i.0) (λ i h. h.inexact) is h

      block_false : (k : ℕ) (y : InstrSeq) → slice_get b k ≡ Some y → IsOne k → (not (nat_eq k 0) && block_exact y.ty) ≡ false
      block_false k y at (inl e) = subst (λ (n : ℕ). (not (nat_eq n 0) && block_exact y.ty) ≡ false) (sym e) refl
      block_false k y at (inr here) =
          let w = all.whole k here in
          and_false (not (nat_eq k 0)) (block_exact y.ty) (type_false y.ty (subst (λ (z : InstrSeq). InexactType z.ty) (some_seq w.0 y (sym w.1 ∙ at)) w.2))

      pub body_inexact : BodyHasNone b
      body_inexact k y reaches at =
          let one = (reached (item spaces.Label k) reaches).1 in
          or_false (not (nat_eq k 0) && block_exact y.ty) (instrs_exact y.instrs.items) (block_false k y at one) (instrs_false y.instrs.items (fine_at k y at one))
