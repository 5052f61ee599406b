-- Lemmas: what was read beside some types of handlers stands beside those that they were given.
use Rattle.std.proofs.Common.{◌≡◌, ◌∙◌, ℕ, map, refl, sym, ap, subst}
use Rattle.std.specs.Prelude.{Option, Some, None}
use Rattle.walrus_function_types.specs.Growth.{Grows}
use Rattle.walrus_function_types.proofs.GrowthLemmas.{grows_on}
use Rattle.walrus_index_maps.specs.Maps.{Ids}
use Rattle.walrus_handler_types.specs.Giving.{GivesTree}
use Rattle.walrus_handler_types.proofs.Growing.{function_results_grow, params_grow, picks_grow, total_given, tree_types_grow, trees_are_typed}
use Rattle.walrus_handler_types.specs.walrus_handler_laws.Handlers.{told_by, tree_ids}
use Rattle.walrus_handler_types.specs.walrus_handler_laws.Retyping.{AreTyped, HandlersStand, Widens}
use Rattle.walrus_handler_types.specs.walrus_handler_laws.Handlers.{TreesTell}
use Rattle.walrus_handler_types.specs.walrus_body_steps.walrus_body_rules.Sights.{Sight}
use Rattle.walrus_handler_types.specs.walrus_tree.walrus_builder.Built.{seq_of}
use Rattle.walrus_handler_types.specs.walrus_tree.walrus_walks.walrus_instr.BlockTypes.{picked}
use Rattle.walrus_handler_types.specs.walrus_tree.walrus_walks.walrus_instr.declared.seq.InstrSeqType.{InstrSeqType}
use Rattle.walrus_module_env.specs.declared.env.ModuleEnv.{ModuleEnv}
use Rattle.walrus_module_env.specs.Around.{sight_in}
use Rattle.walrus_module_env.specs.Env.{if_own, own_pick, tag_type_at}
use Rattle.walrus_module_env.specs.Handled.{HandledBodiesStand, SeesAside}

own_grows : (o p : Option InstrSeqType) (own : ℕ) (ty : InstrSeqType) → ((x : InstrSeqType) → o ≡ Some x → p ≡ Some x) → if_own own o ≡ Some ty → if_own own p ≡ Some ty
own_grows None p own ty up h = absurd cc
own_grows (Some x) p own ty up h = ap (if_own own) (up x refl) ∙ h

module _ (e f : ModuleEnv) (function : ℕ) (j : Ids) (s : Sight) (aside : SeesAside s (sight_in e function j)) (grown : Grows e.types.now f.types.now) (own : f.own_types ≡ e.own_types) (tags : f.tags.now ≡ e.tags.now) where
  -- a later module's bodies see what was seen
  widens : Widens s (sight_in f function j)
  widens = record {
    ids = sym (ap (λ (x : Sight). x.ids) aside);
    function = sym (ap (λ (x : Sight). x.function) aside);
    params = λ id tys h. params_grow e.types.now f.types.now grown id tys (sym (ap (λ (x : Sight). x.params id) aside) ∙ h);
    results = λ id tys h. function_results_grow e.types.now f.types.now grown id tys (sym (ap (λ (x : Sight). x.results id) aside) ∙ h);
    blocks = λ params results ty h.
        ap (λ (n : ℕ). own_pick n f.types.now params results) own
        ∙ own_grows (picked params results e.types.now) (picked params results f.types.now) e.own_types ty (picks_grow e.types.now f.types.now grown params results) (sym (ap (λ (x : Sight). x.block_type params results) aside) ∙ h);
    tags = λ tag ty h. ap (λ a. tag_type_at a tag) tags ∙ sym (ap (λ (x : Sight). x.tag_type tag) aside) ∙ h;
  }

pub handled_bodies_stand : HandlersStand → TreesTell → HandledBodiesStand
handled_bodies_stand stand tell e f function j s b t c new body aside stands gives later =
    stand s (sight_in f function j) (map seq_of b) c (tree_ids t) (told_by s.tag_type b (tree_ids t)) body (widens e f function j s aside grown later.own later.tags) (tell s.tag_type b t) typed
    (total_given (told_by s.tag_type b (tree_ids t)) (tree_ids t) (map seq_of b) c e.types.now new own) stands
  where
    grown : Grows e.types.now f.types.now
    grown = grows_on e.types.now new f.types.now (tree_types_grow (tag_type_at e.tags.now) b t e.types.now c new gives) later.types

    own : GivesTree s.tag_type b t e.types.now c new
    own = subst (λ (tags : ℕ → Option ℕ). GivesTree tags b t e.types.now c new) (sym (ap (λ (x : Sight). x.tag_type) aside)) gives

    typed : AreTyped s (sight_in f function j) (told_by s.tag_type b (tree_ids t)) (map seq_of b) c
    typed =
        trees_are_typed s.tag_type b t c e.types.now new f.types.now s (sight_in f function j) own later.types
        (record { params = λ id. ap (λ (x : Sight). x.params id) aside; results = λ id. ap (λ (x : Sight). x.results id) aside })
        (λ params results. refl)
