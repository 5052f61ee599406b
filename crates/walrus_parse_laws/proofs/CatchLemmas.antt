-- Lemmas: the handlers that a tree tells, in its order, are those of the text.
use Rattle.std.proofs.Common.{◌≡◌, ◌∙◌, ℕ, Bool, List, [], ◌∷◌, ◌++◌, map, Option, Some, None, refl, sym, ap, subst}
use Rattle.std.specs.Prelude.{slice_get}
use Rattle.std.specs.List.{flat_map}
use Rattle.std.specs.Option.{option_and_then}
use Rattle.std.proofs.lemmas.List.{append_assoc, append-nil}
use Rattle.std.proofs.lemmas.List.Concat.{flat_map-append}
use Rattle.walrus_body_laws.specs.walrus_pairing.wasm_operators.wasm_features.declared.WasmFeatures.{WasmFeatures}
use Rattle.walrus_named_bodies.specs.walrus_file_bodies.walrus_items_into.walrus_module_env.walrus_handler_types.walrus_handler_laws.walrus_body_steps.wasm_normal_form.Trees.{Tree as OpTree, Close, Arm, Skip, Run, Nest}
use Rattle.wasm_operators.specs.Operators.{Seen, flow_of}
use Rattle.wasm_operators.specs.declared.entry.Flow.{Flow}
use Rattle.wasm_operators.specs.declared.entry.Flow.TheVariants as flows
use Rattle.walrus_forms.specs.declared.value.ValType.{ValType}
use Rattle.walrus_body_laws.specs.walrus_pairing.walrus_instr.declared.instr.Instr.{Instr}
use Rattle.walrus_body_laws.specs.walrus_pairing.walrus_instr.declared.seq.InstrLocId.{InstrLocId}
use Rattle.walrus_body_laws.specs.walrus_pairing.walrus_instr.declared.seq.InstrSeq.{InstrSeq}
use Rattle.walrus_body_laws.specs.walrus_pairing.walrus_instr.declared.seq.InstrSeqType.{InstrSeqType}
use Rattle.walrus_named_bodies.specs.walrus_item_names.walrus_module.walrus_builder.Built.{Seq, seq_of}
use Rattle.walrus_named_bodies.specs.walrus_file_bodies.walrus_items_into.walrus_module_env.walrus_handler_types.walrus_handler_laws.walrus_tree.walrus_walks.Tree.{children_in}
use Rattle.walrus_named_bodies.specs.walrus_file_bodies.walrus_items_into.walrus_module_env.walrus_handler_types.walrus_handler_laws.walrus_tree.Trees.{Has, IsTree, Nothing, Stand, Tree, Trees, ids}
use Rattle.walrus_body_laws.specs.walrus_pairing.Laws.{OperatorComesBack}
use Rattle.walrus_named_bodies.specs.walrus_file_bodies.walrus_items_into.walrus_module_env.walrus_handler_types.walrus_handler_laws.walrus_body_steps.walrus_body_nesting.Stands.{Ended, Finish, Handles, HandlesAll, Otherwise, Part, StandsAs, Turn, lies, none, with}
use Rattle.walrus_named_bodies.specs.walrus_file_bodies.walrus_items_into.walrus_module_env.walrus_handler_types.walrus_handler_laws.walrus_body_steps.walrus_body_rules.Sights.{Sight, handler_of, results_of, tag_params}
use Rattle.walrus_named_bodies.specs.walrus_file_bodies.walrus_items_into.walrus_module_env.walrus_handler_types.walrus_handler_laws.walrus_body_steps.Meanings.{OpensOf, TurnsTo, meaning}
use Rattle.walrus_named_bodies.specs.walrus_file_bodies.walrus_items_into.walrus_module_env.walrus_handler_types.walrus_handler_laws.declared.handler.Handler.{Handler}
use Rattle.walrus_named_bodies.specs.walrus_file_bodies.walrus_items_into.walrus_module_env.walrus_handler_types.walrus_handler_laws.Handlers.{AreTold, TellsHandlers, seq_slots, slots, slots_in, tag_handler, tree_ids, turn_handler}
use Rattle.walrus_named_bodies.specs.walrus_file_bodies.walrus_items_into.walrus_module_env.walrus_handler_types.walrus_handler_laws.Retyping.{Widens, handler_params}
use Rattle.walrus_parse_laws.specs.Added.{Signature}
use Rattle.walrus_parse_laws.specs.Catches.{catches, opened_results, part_signature}
use Rattle.walrus_parse_laws.specs.Handlers.{signature_of}
use Rattle.walrus_body_laws.proofs.Fitting.{RunsFit}
use Rattle.walrus_body_laws.proofs.walrus_body_trees.Instrs.{made_children, seqs_in}
use Rattle.walrus_body_laws.proofs.walrus_handler_laws.Standing.{PartsTold, makes_told, told_front, written_kept, results_kept}
use Rattle.walrus_parse_laws.proofs.FitLemmas.{run_none}
use Rattle.walrus_parse_laws.proofs.ToldLemmas.{seen_at}

-- ---- trees side by side

-- those of two lists one behind the other
stand_split : (b : List InstrSeq) (x : Trees) (around ks ls : List ℕ) → Stand b x around (ks ++ ls) → (y z : Trees) × Stand b y around ks × Stand b z around ls × (ids x ≡ ids y ++ ids z)
stand_split b x around [] ls h = (Nothing, x, tt, h, refl)
stand_split b Nothing around (k ∷ ks) ls h = absurd h
stand_split b (Tree id inside beside) around (k ∷ ks) ls (same, s, found, within, held, next) =
    let r = stand_split b beside around ks ls next in (
      Tree id inside r.0,
      r.1,
      (same, s, found, within, held, r.2),
      r.3,
      ap (λ (l : List ℕ). id ∷ (ids inside ++ l)) r.4 ∙ ap (λ (l : List ℕ). id ∷ l) (sym (append_assoc (ids inside) (ids r.0) (ids r.1))),
    )

none_stand : (b : List InstrSeq) (x : Trees) (around : List ℕ) → Stand b x around [] → ids x ≡ []
none_stand b Nothing around h = refl
none_stand b (Tree id inside beside) around h = absurd h

-- ---- what a sight sees

-- the signature of a handler, as it is seen
abbrev pub seen_signatures : Sight → Option Handler → List Signature
seen_signatures s None = []
seen_signatures s (Some h) = signature_of (handler_params s h.tag_type) (results_of s h.block)

module _ (back : OperatorComesBack) (features : WasmFeatures) (s : Sight) (b : List InstrSeq) (js : List ℕ) (told : ℕ → Option Handler) (tells : TellsHandlers s.tag_type (map seq_of b) js told) where
  abbrev c : List Seq
  c = map seq_of b

  abbrev Lies : OpTree → List ℕ → ℕ → InstrSeqType → (ℕ → Bool) → List (Instr × InstrLocId) → InstrLocId → List Part → Finish → (ℕ → Bool) → Type 0
  Lies t around k ty met is e ms f done = lies (meaning s) t c around k ty met is e ms f done

  abbrev Told : List (Instr × InstrLocId) → Type 0
  Told is = AreTold js told (slots_in s.tag_type c is)

  abbrev sigs : List ℕ → List Signature
  sigs ks = flat_map (λ j. seen_signatures s (told j)) ks

  entered : (j : ℕ) (x : Seq) → Has js j → slice_get c j ≡ Some x → Told x.instrs
  entered j x has found = subst (λ (o : Option Seq). AreTold js told (seq_slots s.tag_type c o)) found (tells.held j has)

  part_is : (ty own : InstrSeqType) (o : Seen) (turn : Turn) → TurnsTo s ty o turn own → part_signature s (results_of s ty) (flow_of o.code) o.items ≡ seen_signatures s (turn_handler s.tag_type ty turn)
  part_is ty own o Otherwise (flow, is) = ap (λ (x : Option Flow). part_signature s (results_of s ty) x o.items) flow
  part_is ty own o (Handles tag) (flow, n, items, named, is) =
      ap (λ (x : Option Flow). part_signature s (results_of s ty) x o.items) flow
      ∙ ap (part_signature s (results_of s ty) (Some flows.Catch)) items
      ∙ ap (λ (x : Option ℕ). signature_of (tag_params s (option_and_then s.tag_type x)) (results_of s ty)) named
      ∙ go (s.tag_type tag)
    where
      go : (t : Option ℕ) → signature_of (tag_params s t) (results_of s ty) ≡ seen_signatures s (tag_handler t ty)
      go None = refl
      go (Some t) = refl
  part_is ty own o HandlesAll (flow, is) = ap (λ (x : Option Flow). part_signature s (results_of s ty) x o.items) flow

  opened_is : (o : Seen) (ty : InstrSeqType) → OpensOf s o ty → opened_results s o.items ≡ results_of s ty
  opened_is o ty (written, more, items, is) = ap (opened_results s) items ∙ ap (option_and_then (results_of s)) is

  same_told : (j k : ℕ) (h : Option Handler) → j ≡ k → told k ≡ h → seen_signatures s (told j) ≡ seen_signatures s h
  same_told j k h e is = ap (λ (n : ℕ). seen_signatures s (told n)) e ∙ ap (seen_signatures s) is

  same_seq : (x y : InstrSeq) → ◌≡◌ {A = Option InstrSeq} (Some x) (Some y) → x ≡ y
  same_seq x y e = cc

  text_told : (t : OpTree) (around : List ℕ) (k : ℕ) (ty : InstrSeqType) (met : ℕ → Bool) (is : List (Instr × InstrLocId)) (e : InstrLocId) (ms : List Part) (f : Finish) (done : ℕ → Bool)
      → RunsFit features t → Lies t around k ty met is e ms f done → Told is → PartsTold js told s.tag_type c ty ms
      → (x y : Trees) (at bt : List ℕ) → Stand b x at (children_in is) → Stand b y bt (seqs_in ms) → catches s (results_of s ty) t ≡ sigs (ids x) ++ sigs (ids y)
  text_told (Close o p) around k ty met [] e [] f done n l h g x y at bt st su = sym (ap (λ (ks : List ℕ). sigs ks ++ sigs (ids y)) (none_stand b x at st) ∙ ap sigs (none_stand b y bt su))
  text_told (Close o p) around k ty met [] e (m ∷ ms) f done n l h g x y at bt st su = absurd l
  text_told (Close o p) around k ty met (i ∷ is) e ms f done n l h g x y at bt st su = absurd l
  text_told (Arm o p t) around k ty met [] e [] f done n l h g x y at bt st su = absurd l
  text_told (Arm o p t) around k ty met [] e (m ∷ ms) f done n l h g x Nothing at bt st su = absurd su
  text_told (Arm o p t) around k ty met [] e (m ∷ ms) f done n (place, fresh, z, found, turns, lie) h g x (Tree id inside beside) at bt st (same, v, there, within, held, next) =
      let w = seen_at b m.seq z found in
      let alike : w.0 ≡ v = same_seq w.0 v (sym w.1 ∙ there) in
      let own = subst (λ (u : Seq). Lies t around m.seq ty (with m.seq met) u.instrs u.end ms f done) (w.2 ∙ ap seq_of alike) lie in
      let inner : Told v.instrs.items = subst (λ (u : Seq). Told u.instrs) (w.2 ∙ ap seq_of alike) (entered m.seq z g.0 found) in
      ap (λ (l : List Signature). l ++ catches s (results_of s ty) t) (part_is ty z.ty o m.turn turns ∙ sym (same_told id m.seq _ same g.1))
      ∙ ap (λ (l : List Signature). seen_signatures s (told id) ++ l) (text_told t around m.seq ty (with m.seq met) v.instrs.items v.end ms f done n own inner g.2 inside beside (m.seq ∷ bt) bt held next)
      ∙ ap (λ (l : List Signature). seen_signatures s (told id) ++ l) (sym (flat_map-append (λ j. seen_signatures s (told j)) (ids inside) (ids beside)))
      ∙ sym (ap (λ (ks : List ℕ). sigs ks ++ sigs (ids (Tree id inside beside))) (none_stand b x at st))
  text_told (Arm o p t) around k ty met (i ∷ is) e ms f done n l h g x y at bt st su = absurd l
  text_told (Skip o p t) around k ty met [] e [] f done n l h g x y at bt st su = absurd l
  text_told (Skip o p t) around k ty met [] e (m ∷ ms) f done n l h g x y at bt st su = absurd l
  text_told (Skip o p t) around k ty met (i ∷ is) e ms f done n l h g x y at bt st su = absurd l
  text_told (Run o p t) around k ty met [] e [] f done n l h g x y at bt st su = absurd l
  text_told (Run o p t) around k ty met [] e (m ∷ ms) f done n l h g x y at bt st su = absurd l
  text_told (Run o p t) around k ty met (i ∷ is) e ms f done n (runs, place, lie) h g x y at bt st su =
      let plain = run_none back features s (k ∷ around) o i.0 runs n.0 in
      let r = told_front js told (slots s.tag_type c i.0) (slots_in s.tag_type c is) h in
      text_told t around k ty met is e ms f done n.1 lie r.1 g x y at bt (subst (λ (ks : List ℕ). Stand b x at (ks ++ children_in is)) plain st) su
  text_told (Nest o p u t) around k ty met [] e [] f done n l h g x y at bt st su = absurd l
  text_told (Nest o p u t) around k ty met [] e (m ∷ ms) f done n l h g x y at bt st su = absurd l
  text_told (Nest o p u t) around k ty met (i ∷ is) e ms f done n (q, (opened, makes, opener), place, fresh, z, found, opens, half, inside, lie) h g x y at bt st su =
      let r = told_front js told (slots s.tag_type c i.0) (slots_in s.tag_type c is) h in
      let m = makes_told js told s.tag_type c opened i.0 q z makes found r.0 in
      nest (λ is e own inner parts x y at bt st su. text_told u (k ∷ around) q.first z.ty (with q.first met) is e q.more q.finish half n.0 own inner parts x y at bt st su)
      (λ x st. text_told t around k ty half is e ms f done n.1 lie r.1 g x y at bt st su) x (subst (λ (ks : List ℕ). Stand b x at (ks ++ children_in is)) (made_children opened i.0 q makes) st) m
    where
      nest : ((is : List (Instr × InstrLocId)) (e : InstrLocId) → Lies u (k ∷ around) q.first z.ty (with q.first met) is e q.more q.finish half → Told is → PartsTold js told s.tag_type c z.ty q.more
          → (x y : Trees) (at bt : List ℕ) → Stand b x at (children_in is) → Stand b y bt (seqs_in q.more) → catches s (results_of s z.ty) u ≡ sigs (ids x) ++ sigs (ids y))
          → ((x : Trees) → Stand b x at (children_in is) → catches s (results_of s ty) t ≡ sigs (ids x) ++ sigs (ids y))
          → (x : Trees) → Stand b x at (q.first ∷ (seqs_in q.more ++ children_in is)) → Has js q.first × (told q.first ≡ None) × PartsTold js told s.tag_type c z.ty q.more
          → catches s (opened_results s o.items) u ++ catches s (results_of s ty) t ≡ sigs (ids x) ++ sigs (ids y)
      nest into on Nothing st m = absurd st
      nest into on (Tree id below beside) (same, v, there, within, held, next) m =
          let w = seen_at b q.first z found in
          let alike : w.0 ≡ v = same_seq w.0 v (sym w.1 ∙ there) in
          let own = subst (λ (a : Seq). Lies u (k ∷ around) q.first z.ty (with q.first met) a.instrs a.end q.more q.finish half) (w.2 ∙ ap seq_of alike) inside in
          let inner : Told v.instrs.items = subst (λ (a : Seq). Told a.instrs) (w.2 ∙ ap seq_of alike) (entered q.first z m.0 found) in
          let parts = stand_split b beside at (seqs_in q.more) (children_in is) next in
          let first = into v.instrs.items v.end own inner m.2 below parts.0 (q.first ∷ at) at held parts.2 in
          let later = on parts.1 parts.3 in
          let f : ℕ → List Signature = λ j. seen_signatures s (told j) in
          let all : sigs (ids (Tree id below beside)) ≡ (sigs (ids below) ++ sigs (ids parts.0)) ++ sigs (ids parts.1) =
          ap (λ (l : List Signature). l ++ sigs (ids below ++ ids beside)) (same_told id q.first None same m.1)
          ∙ flat_map-append f (ids below) (ids beside)
          ∙ ap (λ (ks : List ℕ). sigs (ids below) ++ sigs ks) parts.4
          ∙ ap (λ (l : List Signature). sigs (ids below) ++ l) (flat_map-append f (ids parts.0) (ids parts.1))
          ∙ sym (append_assoc (sigs (ids below)) (sigs (ids parts.0)) (sigs (ids parts.1))) in
          ap (λ (rs : Option (List ValType)). catches s rs u ++ catches s (results_of s ty) t) (opened_is o z.ty opens)
          ∙ ap (λ (l : List Signature). l ++ catches s (results_of s ty) t) first
          ∙ ap (λ (l : List Signature). (sigs (ids below) ++ sigs (ids parts.0)) ++ l) later
          ∙ sym (append_assoc (sigs (ids below) ++ sigs (ids parts.0)) (sigs (ids parts.1)) (sigs (ids y)))
          ∙ sym (ap (λ (l : List Signature). l ++ sigs (ids y)) all)

  -- those of a whole body
  pub body_told : (o : OpTree) → RunsFit features o → (h : StandsAs (meaning s) c o) → (t : IsTree b 0) → js ≡ tree_ids t → catches s (results_of s h.ty) o ≡ sigs (tree_ids t)
  body_told o n h t are =
      let z = seen_at b 0 h.enters.seq h.enters.found in
      let st = t.stands in
      let alike : z.0 ≡ st.1 = same_seq z.0 st.1 (sym z.1 ∙ st.2) in
      let own = subst (λ (a : Seq). Lies o [] 0 h.ty (with 0 none) a.instrs a.end [] Ended h.done) (z.2 ∙ ap seq_of alike) h.enters.lie in
      let inner : Told st.1.instrs.items = subst (λ (a : Seq). Told a.instrs) (z.2 ∙ ap seq_of alike) (entered 0 h.enters.seq tells.body h.enters.found) in
      text_told o [] 0 h.ty (with 0 none) st.1.instrs.items st.1.end [] Ended h.done n own inner tt t.inside Nothing (0 ∷ []) [] st.4 tt
      ∙ append-nil (sigs (ids t.inside))
      ∙ ap sigs (sym (append-nil (ids t.inside)))
      ∙ sym (ap (λ (l : List Signature). l ++ sigs (ids t.inside ++ [])) (ap (seen_signatures s) tells.plain))

-- ---- a body's own block has no further parts

any_results : (x s : Sight) (c : List Seq) (rs ts : Option (List ValType)) (t : OpTree) (around : List ℕ) (k : ℕ) (ty : InstrSeqType) (met : ℕ → Bool) (is : List (Instr × InstrLocId)) (e : InstrLocId) (f : Finish) (done : ℕ → Bool)
    → lies (meaning s) t c around k ty met is e [] f done → catches x rs t ≡ catches x ts t
any_results x s c rs ts (Close o p) around k ty met [] e f done l = refl
any_results x s c rs ts (Close o p) around k ty met (i ∷ is) e f done l = absurd l
any_results x s c rs ts (Arm o p t) around k ty met [] e f done l = absurd l
any_results x s c rs ts (Arm o p t) around k ty met (i ∷ is) e f done l = absurd l
any_results x s c rs ts (Skip o p t) around k ty met [] e f done l = absurd l
any_results x s c rs ts (Skip o p t) around k ty met (i ∷ is) e f done l = absurd l
any_results x s c rs ts (Run o p t) around k ty met [] e f done l = absurd l
any_results x s c rs ts (Run o p t) around k ty met (i ∷ is) e f done (runs, place, lie) = any_results x s c rs ts t around k ty met is e f done lie
any_results x s c rs ts (Nest o p u t) around k ty met [] e f done l = absurd l
any_results x s c rs ts (Nest o p u t) around k ty met (i ∷ is) e f done (q, nests, place, fresh, z, found, opens, half, inside, lie) =
    ap (λ (l : List Signature). catches x (opened_results x o.items) u ++ l) (any_results x s c rs ts t around k ty half is e f done lie)

-- ---- who sees more sees the same

module _ (s v : Sight) (wide : Widens s v) (c : List Seq) where
  -- with the same ids written as such
  abbrev u : Sight
  u = record v { ids = s.ids; function = s.function }

  -- what a handler that has a type takes and gives
  part_kept : (o : Option ℕ) (tag : ℕ) (block own : InstrSeqType) → s.tag_type tag ≡ o → handler_of s (tag_params s o) (results_of s block) ≡ Some own
      → signature_of (tag_params u (u.tag_type tag)) (results_of u block) ≡ signature_of (tag_params s o) (results_of s block)
  part_kept None tag block own e h = absurd cc
  part_kept (Some t) tag block own e h = both (s.params t) (results_of s block) refl refl h
    where
      both : (ps rs : Option (List ValType)) → s.params t ≡ ps → results_of s block ≡ rs → handler_of s ps rs ≡ Some own → signature_of (tag_params u (u.tag_type tag)) (results_of u block) ≡ signature_of ps rs
      both None rs p r h = absurd cc
      both (Some ps) None p r h = absurd cc
      both (Some ps) (Some rs) p r h =
          ap (λ (x : Option ℕ). signature_of (tag_params u x) (results_of u block)) (wide.tags tag t e)
          ∙ ap (λ (x : Option (List ValType)). signature_of x (results_of u block)) (wide.params t ps p)
          ∙ ap (signature_of (Some ps)) (results_kept s v wide block rs r)

  all_kept : (block own : InstrSeqType) → handler_of s (Some []) (results_of s block) ≡ Some own → signature_of (Some []) (results_of u block) ≡ signature_of (Some []) (results_of s block)
  all_kept block own h = go (results_of s block) refl h
    where
      go : (rs : Option (List ValType)) → results_of s block ≡ rs → handler_of s (Some []) rs ≡ Some own → signature_of (Some []) (results_of u block) ≡ signature_of (Some []) rs
      go None r h = absurd cc
      go (Some rs) r h = ap (signature_of (Some [])) (results_kept s v wide block rs r)

  turn_kept : (block own : InstrSeqType) (o : Seen) (turn : Turn) → TurnsTo s block o turn own → part_signature u (results_of u block) (flow_of o.code) o.items ≡ part_signature s (results_of s block) (flow_of o.code) o.items
  turn_kept block own o Otherwise (flow, is) = rw flow refl
  turn_kept block own o (Handles tag) (flow, n, items, named, is) = rw flow (rw items (rw named (part_kept (s.tag_type tag) tag block own refl is)))
  turn_kept block own o HandlesAll (flow, is) = rw flow (all_kept block own is)

  opened_kept : (o : Seen) (ty : InstrSeqType) → OpensOf s o ty → opened_results u o.items ≡ results_of u ty
  opened_kept o ty (written, more, items, is) = ap (opened_results u) items ∙ ap (option_and_then (results_of u)) (written_kept s v wide written ty is)

  opened_seen : (o : Seen) (ty : InstrSeqType) → OpensOf s o ty → opened_results s o.items ≡ results_of s ty
  opened_seen o ty (written, more, items, is) = ap (opened_results s) items ∙ ap (option_and_then (results_of s)) is

  text_kept : (t : OpTree) (around : List ℕ) (k : ℕ) (ty : InstrSeqType) (met : ℕ → Bool) (is : List (Instr × InstrLocId)) (e : InstrLocId) (ms : List Part) (f : Finish) (done : ℕ → Bool)
      → lies (meaning s) t c around k ty met is e ms f done → catches u (results_of u ty) t ≡ catches s (results_of s ty) t
  text_kept (Close o p) around k ty met [] e [] f done l = refl
  text_kept (Close o p) around k ty met [] e (m ∷ ms) f done l = absurd l
  text_kept (Close o p) around k ty met (i ∷ is) e ms f done l = absurd l
  text_kept (Arm o p t) around k ty met [] e [] f done l = absurd l
  text_kept (Arm o p t) around k ty met [] e (m ∷ ms) f done (place, fresh, z, found, turns, lie) =
      ap (λ (l : List Signature). l ++ catches u (results_of u ty) t) (turn_kept ty z.ty o m.turn turns)
      ∙ ap (λ (l : List Signature). part_signature s (results_of s ty) (flow_of o.code) o.items ++ l) (text_kept t around m.seq ty (with m.seq met) z.instrs z.end ms f done lie)
  text_kept (Arm o p t) around k ty met (i ∷ is) e ms f done l = absurd l
  text_kept (Skip o p t) around k ty met [] e [] f done l = absurd l
  text_kept (Skip o p t) around k ty met [] e (m ∷ ms) f done l = absurd l
  text_kept (Skip o p t) around k ty met (i ∷ is) e ms f done l = absurd l
  text_kept (Run o p t) around k ty met [] e [] f done l = absurd l
  text_kept (Run o p t) around k ty met [] e (m ∷ ms) f done l = absurd l
  text_kept (Run o p t) around k ty met (i ∷ is) e ms f done (runs, place, lie) = text_kept t around k ty met is e ms f done lie
  text_kept (Nest o p w t) around k ty met [] e [] f done l = absurd l
  text_kept (Nest o p w t) around k ty met [] e (m ∷ ms) f done l = absurd l
  text_kept (Nest o p w t) around k ty met (i ∷ is) e ms f done (q, nests, place, fresh, z, found, opens, half, inside, lie) =
      ap (λ (rs : Option (List ValType)). catches u rs w ++ catches u (results_of u ty) t) (opened_kept o z.ty opens)
      ∙ ap (λ (l : List Signature). l ++ catches u (results_of u ty) t) (text_kept w (k ∷ around) q.first z.ty (with q.first met) z.instrs z.end q.more q.finish half inside)
      ∙ ap (λ (l : List Signature). catches s (results_of s z.ty) w ++ l) (text_kept t around k ty half is e ms f done lie)
      ∙ sym (ap (λ (rs : Option (List ValType)). catches s rs w ++ catches s (results_of s ty) t) (opened_seen o z.ty opens))

-- the handlers that the tree of a body tells, in its order, are those of the text, for who sees more, too
pub body_catches : OperatorComesBack → (features : WasmFeatures) (s v : Sight) (b : List InstrSeq) → Widens s v → (t : IsTree b 0) (told : ℕ → Option Handler) → TellsHandlers s.tag_type (map seq_of b) (tree_ids t) told
    → (o : OpTree) → RunsFit features o → StandsAs (meaning s) (map seq_of b) o → (rs : Option (List ValType)) → catches v rs o ≡ flat_map (λ j. seen_signatures s (told j)) (tree_ids t)
body_catches back features s v b wide t told tells o fits h rs =
    let n = h.enters in
    let same_sight : u s v wide (map seq_of b) ≡ v = (let a = sym wide.ids in let f = sym wide.function in λ i. record v { ids = a i; function = f i }) in
    ap (λ (x : Sight). catches x rs o) (sym same_sight)
    ∙ every rs (results_of (u s v wide (map seq_of b)) h.ty)
    ∙ text_kept s v wide (map seq_of b) o [] 0 h.ty (with 0 none) n.seq.instrs n.seq.end [] Ended h.done n.lie
    ∙ body_told back features s b (tree_ids t) told tells o fits h t refl
  where
    every : (rs ts : Option (List ValType)) → catches (u s v wide (map seq_of b)) rs o ≡ catches (u s v wide (map seq_of b)) ts o
    every rs ts = any_results (u s v wide (map seq_of b)) s (map seq_of b) rs ts o [] 0 h.ty (with 0 none) h.enters.seq.instrs h.enters.seq.end Ended h.done h.enters.lie
