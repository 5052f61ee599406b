-- Lemmas: the answers of a sight are good if each that it gives is; and bodies that were read name its answers.
use Rattle.std.proofs.Common.{◌≡◌, List, Option, Some, None, map}
use Rattle.std.specs.Prelude.{IfSome}
use Rattle.wasm_operators.specs.NameLaws.{NamesAreRenamed}
use Rattle.walrus_handler_laws.specs.walrus_body_steps.wasm_normal_form.Trees.{tree_of}
use Rattle.walrus_handler_laws.specs.walrus_body_steps.wasm_normal_form.Normal.{normal}
use Rattle.walrus_walks.specs.walrus_forms.declared.value.ValType.{ValType}
use Rattle.walrus_marks.specs.walrus_instr.declared.instr.Instr.{Instr}
use Rattle.walrus_marks.specs.walrus_instr.declared.seq.InstrLocId.{InstrLocId}
use Rattle.walrus_marks.specs.walrus_instr.declared.seq.InstrSeq.{InstrSeq}
use Rattle.walrus_marks.specs.walrus_instr.declared.seq.InstrSeqType.{InstrSeqType}
use Rattle.walrus_walks.specs.Events.{block_names}
use Rattle.walrus_walks.specs.Walk.{body_walk}
use Rattle.walrus_handler_laws.specs.walrus_tree.walrus_builder.Built.{seq_of}
use Rattle.walrus_roots.specs.declared.item.Item.{Item}
use Rattle.walrus_body_trees.specs.walrus_meaning.Told.{NamesAreTold}
use Rattle.walrus_pairing.specs.Laws.{OperatorComesBack}
use Rattle.walrus_handler_laws.specs.walrus_body_steps.walrus_body_rules.Sights.{Sight}
use Rattle.walrus_body_trees.specs.Laws.{ops_of}
use Rattle.walrus_body_laws.specs.Answers.{AllAre, AnswersAre, HandlersAre, IsAnswer, Looked, OfParams, OfResults, OfBlock, OfHandler, block_items, value_items, without_handlers}
use Rattle.walrus_handler_laws.specs.Handlers.{tree_ids}
use Rattle.walrus_body_laws.specs.WalkingLaws.{HandlersHaveAnswers, IsRead, TriesHaveAnswers, WalksNameAnswers, try_type}
use Rattle.walrus_body_trees.proofs.Bodies.{AreSpelled}
use Rattle.walrus_body_laws.proofs.Fitting.{body_fits}
use Rattle.walrus_body_laws.proofs.Told.{Told, all_later, are_told, told_are}
use Rattle.walrus_body_laws.proofs.Sequences.{Inside, inside_of}
use Rattle.walrus_body_laws.proofs.Slots.{told_has}
use Rattle.walrus_body_laws.proofs.Walks.{body_told, tries_good}

-- ---- what holds of each answer that is given holds of all answers

pub answers_are : (s : Sight) (Good : Item → Type 0) → AnswersAre s Good → HandlersAre s Good → (y : Item) → IsAnswer s y → Good y
answers_are s Good answers handlers _ (Looked space n id e) = answers.looked space n id e
answers_are s Good answers handlers _ (OfParams id tys y e c) = answers.params id tys e y c
answers_are s Good answers handlers _ (OfResults id tys y e c) = answers.results id tys e y c
answers_are s Good answers handlers _ (OfBlock ps rs ty y e p r c) =
    answers.blocks ps rs ty e (λ x in_ps. answers_are s Good answers handlers x (p x in_ps)) (λ x in_rs. answers_are s Good answers handlers x (r x in_rs)) y c
answers_are s Good answers handlers _ (OfHandler ps rs ty y e p r c) =
    handlers ps rs ty e (λ x in_ps. answers_are s Good answers handlers x (p x in_ps)) (λ x in_rs. answers_are s Good answers handlers x (r x in_rs)) y c

-- so it is where handlers are given none
pub other_answers_are : (s : Sight) (Good : Item → Type 0) → AnswersAre s Good → (y : Item) → IsAnswer (without_handlers s) y → Good y
other_answers_are s Good answers y h =
    answers_are (without_handlers s) Good
    (record { looked = answers.looked; params = answers.params; results = answers.results; blocks = answers.blocks }) (λ ps rs ty e p r. absurd (let f = e in cc)) y h

-- ---- bodies that were read

are_answers : (s : Sight) → AnswersAre s (IsAnswer s)
are_answers s = record {
  looked = λ space n id e. Looked space n id e;
  params = λ id tys e y c. OfParams id tys y e c;
  results = λ id tys e y c. OfResults id tys y e c;
  blocks = λ ps rs ty e p r y c. OfBlock ps rs ty y e p r c;
}

handlers_are_answers : (s : Sight) → HandlersAre s (IsAnswer s)
handlers_are_answers s ps rs ty e p r y c = OfHandler ps rs ty y e p r c

are_other_answers : (s : Sight) → AnswersAre s (IsAnswer (without_handlers s))
are_other_answers s = let h = are_answers (without_handlers s) in record { looked = h.looked; params = h.params; results = h.results; blocks = h.blocks }

module _ (back : OperatorComesBack) (told_names : NamesAreTold) (again : NamesAreRenamed) (spelled : AreSpelled) where
  read_inside : (Good : Item → Type 0) (s : Sight) (b : List InstrSeq) → AnswersAre s Good → (Typed : InstrSeqType → Type 0) → ((ty : InstrSeqType) → Told Good (block_names ty) → Typed ty)
      → ((ps rs : List ValType) (ty : InstrSeqType) → s.handler_type ps rs ≡ Some ty → AllAre Good (value_items ps) → AllAre Good (value_items rs) → Typed ty) → IsRead s b → Inside Good b Typed
  read_inside Good s b answers Typed opened handled h =
      inside_of Good b s answers Typed opened handled back told_names again h.around.features (normal h.pick (tree_of (ops_of h.parts)))
      (body_fits spelled h.around h.params h.place h.bytes h.parts h.pick h.is_body) h.stands

  pub walks_name : WalksNameAnswers
  walks_name s b h =
      let Good : Item → Type 0 = IsAnswer s in
      told_are Good (body_walk b 0)
      (body_told Good b (read_inside Good s b (are_answers s) (λ ty. Told Good (block_names ty)) (λ ty known. known) (λ ps rs ty e p r. are_told Good (block_names ty) (handlers_are_answers s ps rs ty e p r)) h))

  pub tries_have : TriesHaveAnswers
  tries_have s b h t k x has found =
      let Good : Item → Type 0 = IsAnswer (without_handlers s) in
      let tries = tries_good Good b (λ _. Unit {0}) (read_inside Good s b (are_other_answers s) (λ _. Unit {0}) (λ ty known. tt) (λ ps rs ty e p r. tt) h) t k x has found in
      all_later (λ (i : Instr × InstrLocId). IfSome (try_type (map seq_of b) i.0) (λ ty. Told Good (block_names ty)))
      (λ (i : Instr × InstrLocId). IfSome (try_type (map seq_of b) i.0) (λ ty. AllAre Good (block_items ty))) (λ i. weaker (try_type (map seq_of b) i.0)) x.instrs.items tries
    where
      weaker : (o : Option InstrSeqType) → IfSome o (λ ty. Told (IsAnswer (without_handlers s)) (block_names ty)) → IfSome o (λ ty. AllAre (IsAnswer (without_handlers s)) (block_items ty))
      weaker None known = tt
      weaker (Some ty) known = told_are (IsAnswer (without_handlers s)) (block_names ty) known

pub handlers_have : TriesHaveAnswers → HandlersHaveAnswers
handlers_have tries s b h t tags j = told_has (λ ty. AllAre (IsAnswer (without_handlers s)) (block_items ty)) tags b (tree_ids t) (λ k x has found. tries s b h t k x has found) j
