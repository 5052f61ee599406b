-- Lemmas: what is kept of a module that was read is written by the numbers of its plan.
use Rattle.std.specs.Prelude.{ℕ, zero, suc, ◌+◌, ◌<◌, ◌≡◌, List, [], ◌∷◌, All, length, Some, slice_get, refl}
use Rattle.std.proofs.Common.{ap, sym, ◌∙◌, subst, arith, inl, inr}
use Rattle.std.proofs.lemmas.List.Elements.{All-cons, All-nil}
use Rattle.std.proofs.lemmas.List.Sorted.{All-permutation}
use Rattle.std.proofs.lemmas.Option.{none-some, same_Some}
use Rattle.walrus_arena.specs.Arena.{item_at}
use Rattle.walrus_index_maps.specs.Runs.{run_from}
use Rattle.walrus_linked.specs.Linked.{IsWhole}
use Rattle.walrus_local_function.specs.declared.local_function.LocalFunction.{LocalFunction}
use Rattle.walrus_local_numbers.specs.Laws.{IsOnce}
use Rattle.walrus_module.specs.Parts.{parts, Module as Parts}
use Rattle.walrus_module_items.specs.Functions.{local_of}
use Rattle.walrus_module_items.specs.declared.function.Function.{Function}
use Rattle.walrus_module_items.specs.declared.function.FunctionKind.{FunctionKind}
use Rattle.walrus_module_items.specs.declared.function.FunctionKind.TheVariants as functions
use Rattle.walrus_types.specs.Table.{Table}
use Rattle.walrus_tree.specs.Trees.{AreDistinct, Has}
use Rattle.walrus_emit_numbers.specs.declared.facts.BodyFacts.{BodyFacts}
use Rattle.walrus_emit_numbers.specs.Order.{AreWithin, IsOrder}
use Rattle.walrus_parse_laws.specs.Linked.{ReadModulesAreLinked}
use Rattle.walrus_pass_laws.specs.LinkedKept.{GcKeepsLinked}
use Rattle.walrus_code_laws.specs.Emissions.{ArgumentsAreOnce, EmissionsServeCode, IsByNumbers}
use Rattle.walrus_own_ids_laws.specs.OwnIds.{KeptItemsHaveOwnIds, ReadItemsHaveOwnIds}
use Rattle.walrus_places_laws.specs.Order.{FactsStandInOrder}
use Rattle.walrus_plan_laws.specs.Emissions.{EmissionsHavePlans}
use Rattle.walrus_plan_laws.specs.Plans.{plan_of}
use Rattle.walrus_plan_laws.specs.Written.{WrittenModulesAreReady}
use Rattle.walrus_rewritten_laws.specs.Planned.{KeptModulesArePlanned, WrittenModulesArePlanned}

-- ---- positions

run_within : (k n most : ℕ) → most ≡ k + n → All (λ (at : ℕ). at < most) (run_from k n)
run_within k zero most e = All-nil (λ (at : ℕ). at < most)
run_within k (suc n) most e = All-cons (λ (at : ℕ). at < most) k (run_from (suc k) n) (omega (arith, e)) (run_within (suc k) n most (omega (arith, e)))

within : (facts : List BodyFacts) (order : List ℕ) → IsOrder facts order → AreWithin facts order
within facts order is = All-permutation (λ (at : ℕ). at < length facts) (run_from 0 (length facts)) order is.all (run_within 0 (length facts) (length facts) (omega arith))

-- ---- arguments

has_at : (xs : List ℕ) (i k : ℕ) → slice_get xs i ≡ Some k → Has xs k
has_at [] i k e = absurd (none-some k e)
has_at (x ∷ xs) zero k e = inl (same_Some x k e)
has_at (x ∷ xs) (suc i) k e = inr (has_at xs i k e)

once : (xs : List ℕ) → AreDistinct xs → IsOnce xs
once [] d i j id a b = absurd (none-some id a)
once (x ∷ xs) d zero zero id a b = refl
once (x ∷ xs) d zero (suc j) id a b = absurd (d.0 (subst (Has xs) (sym (same_Some x id a)) (has_at xs j id b)))
once (x ∷ xs) d (suc i) zero id a b = absurd (d.0 (subst (Has xs) (sym (same_Some x id b)) (has_at xs i id a)))
once (x ∷ xs) d (suc i) (suc j) id a b = ap (λ (n : ℕ). suc n) (once xs d.1 i j id a b)

kind_once : (types : Table) (kind : FunctionKind) (local : LocalFunction) → local_of kind ≡ Some local → IsWhole types kind → IsOnce local.args.items
kind_once types (functions.Import imported) local e whole = absurd (none-some local e)
kind_once types (functions.Local x) local e whole = once local.args.items (subst (λ (l : LocalFunction). AreDistinct l.args.items) (same_Some x local e) whole.0.distinct)
kind_once types (functions.Uninitialized ty) local e whole = absurd (none-some local e)

arguments : (a : Parts) → ((f : ℕ) (function : Function) → item_at a.funcs f ≡ Some function → IsWhole a.types function.kind) → ArgumentsAreOnce a
arguments a whole id f local there is = kind_once a.types f.kind local is (whole id f there)

-- ---- the laws

pub modules_planned : {B : Type 0} → WrittenModulesAreReady B → EmissionsHavePlans B → EmissionsServeCode B → FactsStandInOrder → WrittenModulesArePlanned B
modules_planned ready_of plans serve stand own_name contents old new bytes w linked ids =
    let ready = ready_of own_name contents old new bytes w linked ids in
    let plan = plans new w.facts w.order w.emitted ready in
    let by_numbers : IsByNumbers new w.facts w.order w.emitted.ids.items (plan_of new w.facts w.order w.emitted) = record { serves = plan.serves; own = plan.own; locals = λ n. refl; labels = λ n. refl } in
    let code = serve new w.facts w.order w.emitted.ids.items (plan_of new w.facts w.order w.emitted) by_numbers ready.known (within w.facts w.order ready.sorted)
    (arguments (parts new) ready.bound.whole) in
    record { ready = ready; plan = plan; code = code; own = sym code.order ∙ stand w.facts w.order ready.sorted }

pub kept_planned : {B : Type 0} → WrittenModulesArePlanned B → ReadModulesAreLinked B → GcKeepsLinked → ReadItemsHaveOwnIds B → KeptItemsHaveOwnIds → KeptModulesArePlanned B
kept_planned planned linked keeps own_read own_kept config input read found bytes is kept part own_name contents left out w =
    planned own_name contents kept left out w
    (keeps (parts read) (parts kept) [] (linked config input read found bytes is) part)
    (own_kept (parts read) [] (parts kept) part (own_read config input read (found, is)))
