-- Lemmas: sequences that lie as a tree of operators hold fine instructions, and sequences that are so.
use Rattle.std.proofs.Common.{ℕ, ◌≡◌, Bool, List, [], ◌∷◌, map, Some, refl, sym, ap, subst, ◌∙◌, inl, inr}
use Rattle.std.specs.Prelude.{slice_get}
use Rattle.std.specs.List.{AllByRecursion}
use Rattle.wasm_operators.specs.wasm_features.declared.WasmFeatures.{WasmFeatures}
use Rattle.wasm_operators.specs.Operators.{Seen}
use Rattle.wasm_operators.specs.NameLaws.{NamesAreRenamed}
use Rattle.walrus_pairing.specs.wasm_operators.Items.{Tags}
use Rattle.walrus_handler_laws.specs.walrus_body_steps.wasm_normal_form.Trees.{Tree as OpTree, Close, Arm, Skip, Run, Nest}
use Rattle.walrus_walks.specs.walrus_forms.declared.value.ValType.{ValType}
use Rattle.walrus_marks.specs.walrus_instr.declared.instr.Instr.{Instr}
use Rattle.walrus_marks.specs.walrus_instr.declared.seq.InstrLocId.{InstrLocId}
use Rattle.walrus_marks.specs.walrus_instr.declared.seq.InstrSeq.{InstrSeq}
use Rattle.walrus_marks.specs.walrus_instr.declared.seq.InstrSeqType.{InstrSeqType}
use Rattle.walrus_walks.specs.Events.{block_names}
use Rattle.walrus_handler_laws.specs.walrus_tree.walrus_builder.Built.{Seq, seq_of}
use Rattle.walrus_roots.specs.declared.item.Item.{Item}
use Rattle.walrus_body_trees.specs.walrus_meaning.Told.{NamesAreTold}
use Rattle.walrus_pairing.specs.Laws.{OperatorComesBack}
use Rattle.walrus_handler_laws.specs.walrus_body_steps.walrus_body_nesting.Opens.{type_at}
use Rattle.walrus_handler_laws.specs.walrus_body_steps.walrus_body_nesting.Stands.{Turn, Otherwise, Handles, HandlesAll, Part, Finish, Ended, with, none, lies, StandsAs}
use Rattle.walrus_handler_laws.specs.walrus_body_steps.walrus_body_rules.Sights.{Sight, results_of, tag_params}
use Rattle.walrus_handler_laws.specs.walrus_body_steps.Meanings.{TurnsTo, meaning}
use Rattle.walrus_body_laws.specs.Answers.{AllAre, AnswersAre, value_items}
use Rattle.walrus_body_laws.proofs.Fitting.{RunsFit}
use Rattle.walrus_body_laws.proofs.Meeting.{New, Stays, either_bool, new_back, new_front, new_one, not_both, seen_at, with_cases, with_here, with_stays}
use Rattle.walrus_body_laws.proofs.Told.{Told, all_later, told_are}
use Rattle.walrus_body_laws.proofs.Types.{handler_has, results_good, tag_good, written_told}
use Rattle.walrus_body_laws.proofs.Instrs.{Fine, Parts, TurnGood, made_fine, run_fine}

-- ---- what lies as a tree

type_seen : (b : List Seq) (k : ℕ) (x : Seq) → slice_get b k ≡ Some x → type_at b k ≡ Some x.ty
type_seen b k x e = rw e refl

module _ (Good : Item → Type 0) (b : List InstrSeq) where
  abbrev pub AllFine : (ℕ → Type 0) → List (Instr × InstrLocId) → Type 0
  AllFine S is = AllByRecursion (λ i. Fine Good (map seq_of b) S i.0) is

  fine_later : (S R : ℕ → Type 0) → ((j : ℕ) → S j → R j) → (i : Instr × InstrLocId) → Fine Good (map seq_of b) S i.0 → Fine Good (map seq_of b) R i.0
  fine_later S R f i h = record { named = h.named; held = λ k has. f k (h.held k has); tried = h.tried }

  all_fine_later : (S R : ℕ → Type 0) → ((j : ℕ) → S j → R j) → (is : List (Instr × InstrLocId)) → AllFine S is → AllFine R is
  all_fine_later S R f is h = all_later (λ i. Fine Good (map seq_of b) S i.0) (λ i. Fine Good (map seq_of b) R i.0) (fine_later S R f) is h

  parts_later : (S R : ℕ → Type 0) → ((j : ℕ) → S j → R j) → (ms : List Part) → Parts Good S ms → Parts Good R ms
  parts_later S R f ms h = all_later (λ m. S m.seq × TurnGood Good m.turn) (λ m. R m.seq × TurnGood Good m.turn) (λ m x. (f m.seq x.0, x.1)) ms h

  -- a sequence of such a type is there, and its instructions are fine
  abbrev pub Whole : (InstrSeqType → Type 0) → (ℕ → Type 0) → ℕ → Type 0
  Whole Typed S j = (y : InstrSeq) × (slice_get b j ≡ Some y) × Typed y.ty × AllFine S y.instrs.items

  whole_later : (Typed : InstrSeqType → Type 0) (S R : ℕ → Type 0) → ((j : ℕ) → S j → R j) → (j : ℕ) → Whole Typed S j → Whole Typed R j
  whole_later Typed S R f j h = (h.0, h.1, h.2, all_fine_later S R f h.0.instrs.items h.3)

  -- the instructions of a sequence from here on, the further parts of its block, and the sequences that are met in between
  record Laid (Typed : InstrSeqType → Type 0) (met : ℕ → Bool) (is : List (Instr × InstrLocId)) (ms : List Part) (done : ℕ → Bool) : Type 0 where
    pub stays : Stays met done
    pub fine : AllFine (New met done) is
    pub parts : Parts Good (New met done) ms
    pub whole : (j : ℕ) → New met done j → Whole Typed (New met done) j

  -- the sequences of a body that stands as a tree: its own, and those inside it
  pub record Inside (Typed : InstrSeqType → Type 0) : Type 0 where
    pub done : ℕ → Bool
    pub own : InstrSeq
    pub found : slice_get b 0 ≡ Some own
    pub fine : AllFine (New (with 0 none) done) own.instrs.items
    pub whole : (j : ℕ) → New (with 0 none) done j → Whole Typed (New (with 0 none) done) j

  -- where further parts follow, what the block's type names is good
  abbrev Known : List Part → InstrSeqType → Type 0
  Known [] ty = Unit {0}
  Known (m ∷ ms) ty = Told Good (block_names ty)

  known_all : (ms : List Part) (ty : InstrSeqType) → Told Good (block_names ty) → Known ms ty
  known_all [] ty h = tt
  known_all (m ∷ ms) ty h = h

  module _ (s : Sight) (answers : AnswersAre s Good) (Typed : InstrSeqType → Type 0) (opened : (ty : InstrSeqType) → Told Good (block_names ty) → Typed ty)
      (handled : (ps rs : List ValType) (ty : InstrSeqType) → s.handler_type ps rs ≡ Some ty → AllAre Good (value_items ps) → AllAre Good (value_items rs) → Typed ty) where
    turned : (turn : Turn) (ty own : InstrSeqType) (o : Seen) → TurnsTo s ty o turn own → Told Good (block_names ty) → Typed own × TurnGood Good turn
    turned Otherwise ty own o h known = (subst Typed (sym h.1) (opened ty known), tt)
    turned (Handles tag) ty own o (flow, n, items, found, handler) known = (
      handler_has s Good answers Typed handled (tag_params s (s.tag_type tag)) (results_of s ty) own (tag_good s Good answers (s.tag_type tag)) (λ rs e. results_good s Good answers ty rs known e) handler,
      answers.looked Tags n tag found,
    )
    turned HandlesAll ty own o (flow, handler) known =
        (handler_has s Good answers Typed handled (Some []) (results_of s ty) own none_good (λ rs e. results_good s Good answers ty rs known e) handler, tt)
      where
        none_good : (tys : List ValType) → Some [] ≡ Some tys → AllAre Good (value_items tys)
        none_good tys e = let same : [] ≡ tys = cc in subst (λ (l : List ValType). AllAre Good (value_items l)) same (told_are Good [] tt)

    module _ (back : OperatorComesBack) (told_names : NamesAreTold) (again : NamesAreRenamed) (features : WasmFeatures) where
      abbrev Lies : OpTree → List ℕ → ℕ → InstrSeqType → (ℕ → Bool) → List (Instr × InstrLocId) → InstrLocId → List Part → Finish → (ℕ → Bool) → Type 0
      Lies t around k ty met is e ms f done = lies (meaning s) t (map seq_of b) around k ty met is e ms f done

      laid : (t : OpTree) (around : List ℕ) (k : ℕ) (ty : InstrSeqType) (met : ℕ → Bool) (is : List (Instr × InstrLocId)) (e : InstrLocId) (ms : List Part) (f : Finish) (done : ℕ → Bool)
          → RunsFit features t → Known ms ty → Lies t around k ty met is e ms f done → Laid Typed met is ms done
      laid (Close o p) around k ty met [] e [] f done c known (ends, place, same) = record {
        stays = λ j h. ap (λ (m : ℕ → Bool). m j) same ∙ h;
        fine = tt;
        parts = tt;
        whole = λ j h. absurd (not_both (met j) (sym (ap (λ (m : ℕ → Bool). m j) same) ∙ h.1) h.0);
      }
      laid (Close o p) around k ty met [] e (n ∷ ms) f done c known h = absurd h
      laid (Close o p) around k ty met (i ∷ is) e ms f done c known h = absurd h
      laid (Arm o p t) around k ty met [] e [] f done c known h = absurd h
      laid (Arm o p t) around k ty met [] e (n ∷ ms) f done c known (place, fresh, x, found, turns, lie) =
          let y = seen_at b n.seq x found in
          let own : Typed x.ty × TurnGood Good n.turn = turned n.turn ty x.ty o turns known in
          let l = laid t around n.seq ty (with n.seq met) y.0.instrs.items y.0.end ms f done c (known_all ms ty known)
          (subst (λ (z : Seq). Lies t around n.seq ty (with n.seq met) z.instrs z.end ms f done) y.2 lie) in
          let on = new_one n.seq met done in
          record {
            stays = λ j h. l.stays j (with_stays n.seq met j h);
            fine = tt;
            parts = (((fresh, l.stays n.seq (with_here n.seq met)), own.1), parts_later (New (with n.seq met) done) (New met done) on ms l.parts);
            whole = λ j h. elim (with_cases n.seq met j) as (λ _. Whole Typed (New met done) j) [
              | inl same ↦ subst (Whole Typed (New met done)) (sym same) (y.0, y.1, subst Typed (ap (λ (z : Seq). z.ty) y.2) own.0, all_fine_later (New (with n.seq met) done) (New met done) on y.0.instrs.items l.fine)
              | inr same ↦ whole_later Typed (New (with n.seq met) done) (New met done) on j (l.whole j (same ∙ h.0, h.1))
            ];
          }
      laid (Arm o p t) around k ty met (i ∷ is) e ms f done c known h = absurd h
      laid (Skip o p t) around k ty met [] e [] f done c known h = absurd h
      laid (Skip o p t) around k ty met [] e (n ∷ ms) f done c known h = absurd h
      laid (Skip o p t) around k ty met (i ∷ is) e ms f done c known h = absurd h
      laid (Run o p t) around k ty met [] e [] f done c known h = absurd h
      laid (Run o p t) around k ty met [] e (n ∷ ms) f done c known h = absurd h
      laid (Run o p t) around k ty met (i ∷ is) e ms f done c known (runs, place, lie) =
          let l = laid t around k ty met is e ms f done c.1 known lie in
          record {
            stays = l.stays;
            fine = (run_fine s Good answers back told_names again features (map seq_of b) (New met done) (k ∷ around) o i.0 runs c.0, l.fine);
            parts = l.parts;
            whole = l.whole;
          }
      laid (Nest o p u t) around k ty met [] e [] f done c known h = absurd h
      laid (Nest o p u t) around k ty met [] e (n ∷ ms) f done c known h = absurd h
      laid (Nest o p u t) around k ty met (i ∷ is) e ms f done c known (q, (g, makes, opener), place, fresh, x, found, (written, more, items, typed), half, inside, lie) =
          let y = seen_at b q.first x found in
          let own : Told Good (block_names x.ty) = written_told s Good answers written x.ty typed in
          let v = laid u (k ∷ around) q.first x.ty (with q.first met) y.0.instrs.items y.0.end q.more q.finish half c.0 (known_all q.more x.ty own)
          (subst (λ (z : Seq). Lies u (k ∷ around) q.first x.ty (with q.first met) z.instrs z.end q.more q.finish half) y.2 inside) in
          let l = laid t around k ty half is e ms f done c.1 known lie in
          let half_way : Stays met half = λ j h. v.stays j (with_stays q.first met j h) in
          let in_v : (j : ℕ) → New (with q.first met) half j → New met done j = λ j h. new_front met half done l.stays j (new_one q.first met half j h) in
          let in_l : (j : ℕ) → New half done j → New met done j = new_back met half done half_way in
          let first : New met done q.first = (fresh, l.stays q.first (v.stays q.first (with_here q.first met))) in
          record {
            stays = λ j h. l.stays j (half_way j h);
            fine = (
              made_fine s Good answers back told_names again features (map seq_of b) (New met done) (k ∷ around) o g i.0 q x.ty makes opener first
                  (parts_later (New (with q.first met) half) (New met done) in_v q.more v.parts) (type_seen (map seq_of b) q.first x found) own,
              all_fine_later (New half done) (New met done) in_l is l.fine,
            );
            parts = parts_later (New half done) (New met done) in_l ms l.parts;
            whole = λ j h. elim (either_bool (half j)) as (λ _. Whole Typed (New met done) j) [
              | inl now ↦ elim (with_cases q.first met j) as (λ _. Whole Typed (New met done) j) [
                | inl same ↦ subst (Whole Typed (New met done)) (sym same)
                    (y.0, y.1, subst Typed (ap (λ (z : Seq). z.ty) y.2) (opened x.ty own), all_fine_later (New (with q.first met) half) (New met done) in_v y.0.instrs.items v.fine)
                | inr same ↦ whole_later Typed (New (with q.first met) half) (New met done) in_v j (v.whole j (same ∙ h.0, now))
              ]
              | inr later ↦ whole_later Typed (New half done) (New met done) in_l j (l.whole j (later, h.1))
            ];
          }

      pub inside_of : (t : OpTree) → RunsFit features t → StandsAs (meaning s) (map seq_of b) t → Inside Typed
      inside_of t c h =
          let n = h.enters in
          let y = seen_at b 0 n.seq n.found in
          let l = laid t [] 0 h.ty (with 0 none) y.0.instrs.items y.0.end [] Ended h.done c tt
          (subst (λ (z : Seq). Lies t [] 0 h.ty (with 0 none) z.instrs z.end [] Ended h.done) y.2 n.lie) in
          record { done = h.done; own = y.0; found = y.1; fine = l.fine; whole = l.whole }
