-- Lemmas: a table by which handlers were given types.
use Rattle.std.proofs.Common.{◌≡◌, ◌∙◌, ℕ, List, [], ◌∷◌, ◌++◌, map, Option, Some, None, refl, sym, ap, subst}
use Rattle.std.specs.Prelude.{IsSome}
use Rattle.std.specs.List.{AllByRecursion, flat_map}
use Rattle.std.proofs.lemmas.List.{append_assoc, append-nil}
use Rattle.walrus_forms.specs.declared.value.ValType.{ValType}
use Rattle.walrus_function_types.specs.Growth.{Grows}
use Rattle.walrus_function_types.proofs.GrowthLemmas.{grows_on}
use Rattle.walrus_named_bodies.specs.walrus_item_names.walrus_module.walrus_builder.Built.{Seq}
use Rattle.walrus_named_bodies.specs.walrus_file_bodies.walrus_items_into.walrus_module_env.walrus_handler_types.walrus_handler_laws.declared.handler.Handler.{Handler}
use Rattle.walrus_named_bodies.specs.walrus_file_bodies.walrus_items_into.walrus_module_env.walrus_handler_types.Giving.{FindsIf, Gives, GivesAt, block_results, caught}
use Rattle.walrus_named_bodies.proofs.walrus_handler_types.Growing.{at_grows, function_results_grow, given_types_grow, params_grow}
use Rattle.walrus_body_laws.specs.walrus_pairing.walrus_instr.declared.seq.InstrSeqType.{InstrSeqType}
use Rattle.walrus_body_laws.specs.walrus_pairing.walrus_instr.declared.seq.InstrSeqType.TheVariants.{Simple, MultiValue}
use Rattle.walrus_named_bodies.specs.walrus_item_names.walrus_module.walrus_types.Table.{Table}
use Rattle.walrus_parse_laws.specs.Added.{Signature}
use Rattle.walrus_parse_laws.specs.Handlers.{HasTypes, signature_of, signatures}
use Rattle.walrus_parse_laws.proofs.GroupsTableLemmas.{Stands, stands_found}

-- ---- what a handler takes and gives stays

some_stays : {X : Type 0} (a b : Option X) → IsSome a → ((x : X) → a ≡ Some x → b ≡ Some x) → b ≡ a
some_stays None b is up = absurd cc
some_stays (Some x) b is up = up x refl

caught_stays : (t v : Table) → Grows t v → (tag : Option ℕ) → IsSome (caught t tag) → caught v tag ≡ caught t tag
caught_stays t v g None is = refl
caught_stays t v g (Some id) is = some_stays (caught t (Some id)) (caught v (Some id)) is (params_grow t v g id)

results_stay : (t v : Table) → Grows t v → (block : InstrSeqType) → IsSome (block_results t block) → block_results v block ≡ block_results t block
results_stay t v g (Simple ty) is = refl
results_stay t v g (MultiValue id) is = some_stays (block_results t (MultiValue id)) (block_results v (MultiValue id)) is (function_results_grow t v g id)

pub signatures_stay : (t v : Table) → Grows t v → (h : Option Handler) → HasTypes t h → signatures v h ≡ signatures t h
signatures_stay t v g None is = refl
signatures_stay t v g (Some h) is =
    ap (λ (o : Option (List ValType)). signature_of o (block_results v h.block)) (caught_stays t v g h.tag_type is.0) ∙ ap (signature_of (caught t h.tag_type)) (results_stay t v g h.block is.1)

pub types_stay : (t v : Table) → Grows t v → (h : Option Handler) → HasTypes t h → HasTypes v h
types_stay t v g None is = tt
types_stay t v g (Some h) is =
    (subst IsSome (sym (caught_stays t v g h.tag_type is.0)) is.0, subst IsSome (sym (results_stay t v g h.block is.1)) is.1)

-- ---- one handler

module _ (t : Table) (ss : List Signature) (u : Table) (h : Stands t ss u) where
  stands_on : (v : Table) → v ≡ u → Stands t (ss ++ []) v
  stands_on v e = subst (λ (l : List Signature). Stands t l v) (sym (append-nil ss)) (subst (Stands t ss) (sym e) h)

  stands_if : (o p : Option (List ValType)) (was ty : InstrSeqType) (v : Table) → FindsIf o p was u ty v → Stands t (ss ++ signature_of o p) v
  stands_if (Some ps) (Some rs) was ty v f = stands_found t ss u h (record { params = ps; results = rs }) ty v f
  stands_if (Some ps) None was ty v f = stands_on v f.1
  stands_if None (Some rs) was ty v f = stands_on v f.1
  stands_if None None was ty v f = stands_on v f.1

  stands_at : (k : ℕ) (x : Option Handler) (b c : List Seq) (v : Table) → GivesAt k x b u c v → Stands t (ss ++ signatures u x) v
  stands_at k None b c v (is, kept) = stands_on v kept
  stands_at k (Some x) b c v (y, found, ty, gives, is) = stands_if (caught u x.tag_type) (block_results u x.block) y.ty ty v gives

-- ---- those of sequences

pub all_stay : (t v : Table) → Grows t v → (hs : List (Option Handler)) → AllByRecursion (HasTypes t) hs → AllByRecursion (HasTypes v) hs
all_stay t v g [] is = tt
all_stay t v g (h ∷ hs) is = (types_stay t v g h is.0, all_stay t v g hs is.1)

module _ (t later : Table) (told : ℕ → Option Handler) where
  pub stands_given : (ks : List ℕ) (ss : List Signature) (b c : List Seq) (old new : Table) → Stands t ss old → AllByRecursion (HasTypes old) (map told ks) → Gives told ks b old c new → Grows new later
      → Stands t (ss ++ flat_map (signatures later) (map told ks)) new
  stands_given [] ss b c old new h typed (is, kept) grows = stands_on t ss old h new kept
  stands_given (k ∷ ks) ss b c old new h typed (mid, u, one, rest) grows =
      let x : Option Handler = told k in
      let others : List Signature = flat_map (signatures later) (map told ks) in
      let first : Grows old u = at_grows k x b mid old u one in
      let all : Grows old later = grows_on old u later first (grows_on u new later (given_types_grow told ks mid c u new rest) grows) in
      let more = stands_given ks (ss ++ signatures old x) mid c u new (stands_at t ss old h k x b mid u one) (all_stay old u first (map told ks) typed.1) rest grows in
      subst (λ (l : List Signature). Stands t l new)
      (append_assoc ss (signatures old x) others ∙ ap (λ (l : List Signature). ss ++ (l ++ others)) (sym (signatures_stay old later all x typed.0))) more
