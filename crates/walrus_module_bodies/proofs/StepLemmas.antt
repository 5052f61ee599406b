-- Lemmas: bodies that are read one after another.
use Rattle.std.proofs.Common.{ℕ, zero, suc, ◌≡◌, ◌≢◌, inl, inr, ◌+◌, ◌==◌, ◌<◌, ◌≤◌, Bool, true, false, true≢false, List, [], ◌∷◌, ◌++◌, length, drop, refl, ap, sym, ◌∙◌, subst, arith, if◌then◌else◌}
use Rattle.std.specs.Prelude.{All, Option, Some, None, MatchOption, IsTrue, slice_index_or}
use Rattle.std.proofs.lemmas.Bool.{eqb-true}
use Rattle.std.proofs.lemmas.List.Elements.{All-head, All-tail}
use Rattle.wasm_features.specs.declared.WasmFeatures.{WasmFeatures}
use Rattle.walrus_arena.specs.Arena.{Arena, item_at}
use Rattle.walrus_arena.proofs.ArenaLemmas.{at-other}
use Rattle.walrus_forms.specs.declared.value.ValType.{ValType}
use Rattle.walrus_forms.specs.Forms.{Form, FunctionForm, StructForm, ArrayForm, is_function}
use Rattle.walrus_module_env.specs.walrus_body_parser.walrus_body_stack.walrus_instr.walrus_types.Items.{Item}
use Rattle.walrus_module_env.specs.walrus_body_parser.walrus_body_stack.walrus_instr.walrus_types.Table.{IsFunctionType, Table, type_at}
use Rattle.walrus_function_types.specs.FunctionTypes.{params_at, results_at}
use Rattle.walrus_function_types.specs.Growth.{FoundTypesStay, Grows, TablesGrowOn}
use Rattle.walrus_function_types.proofs.GrowthLemmas.{grows_same}
use Rattle.walrus_index_maps.specs.Maps.{Ids}
use Rattle.walrus_module_env.specs.walrus_body_parser.walrus_body_stack.walrus_body_env.declared.error.BodyError.{BodyError}
use Rattle.walrus_module_env.specs.Around.{IsFiled}
use Rattle.walrus_module_env.specs.walrus_collections.walrus_module_items.declared.tag.Tag.{Tag}
use Rattle.walrus_module_env.specs.walrus_collections.walrus_local_function.walrus_body_locals.Locals.{ids_from, with_more}
use Rattle.walrus_module_env.specs.walrus_collections.walrus_module_items.declared.function.Function.{Function}
use Rattle.walrus_module_env.specs.walrus_collections.walrus_module_items.declared.function.FunctionKind.TheVariants as kinds
use Rattle.walrus_module_env.specs.walrus_collections.walrus_module_items.Functions.{type_of}
use Rattle.walrus_module_env.specs.walrus_functions_into.declared.bodies.FunctionBody.{FunctionBody}
use Rattle.walrus_module_bodies.specs.declared.file.FileEnv.{FileEnv}
use Rattle.walrus_module_bodies.specs.Reading.{TagsStand}
use Rattle.walrus_module_bodies.specs.Steps.{AreApart, Fails, IsFiledLater, IsReady, IsStep, State, Steps, StopsIn}

-- a function type has parameters and results
pub record IsFormed (t : Table) (id : ℕ) : Type 0 where
  pub params : List ValType
  pub params_are : params_at t id ≡ Some params
  pub results : List ValType
  pub results_are : results_at t id ≡ Some results

pub formed : (t : Table) (id : ℕ) → IsFunctionType t id → IsFormed t id
formed t id h = go (type_at t id) refl h
  where
    at : (item : Item) (form : Form) → item.kind.form ≡ form → type_at t id ≡ Some item → IsTrue (is_function form) → IsFormed t id
    at item (FunctionForm params results) e live is = record { params = params; params_are = rw (live, e) refl; results = results; results_are = rw (live, e) refl }
    at item (StructForm fields) e live is = absurd (true≢false (sym is))
    at item (ArrayForm field) e live is = absurd (true≢false (sym is))

    go : (o : Option Item) → type_at t id ≡ o → MatchOption o ⊥ (λ item. IsTrue (is_function item.kind.form)) → IsFormed t id
    go None e is = absurd is
    go (Some item) e is = at item item.kind.form refl e is

-- ---- lists by index

pub drop_one : {X : Type 0} (xs : List X) (i : ℕ) (other : X) → i < length xs → drop i xs ≡ slice_index_or xs i other ∷ drop (i + 1) xs
drop_one [] i other lt = absurd (omega (arith, lt))
drop_one (x ∷ xs) zero other lt = refl
drop_one (x ∷ xs) (suc i) other lt =
    let e : suc (i + 1) ≡ suc i + 1 = omega arith in
    drop_one xs i other (omega (arith, lt)) ∙ ap (λ (n : ℕ). slice_index_or xs i other ∷ drop n (x ∷ xs)) e

drop_past : {X : Type 0} (xs : List X) (i : ℕ) → length xs ≤ i → drop i xs ≡ []
drop_past [] zero le = refl
drop_past [] (suc i) le = refl
drop_past (x ∷ xs) zero le = absurd (omega (arith, le))
drop_past (x ∷ xs) (suc i) le = drop_past xs i (omega (arith, le))

-- the same map, some locals aside
abbrev pub HasLocals : Ids → Ids → Type 0
HasLocals old new = new ≡ record old { locals = new.locals }

-- so far: the bodies that are left stand at the list's end, each ready
pub record Going (file : FileEnv) (features : WasmFeatures) (all left : List FunctionBody) (old now : State) : Type 0 where
  pub so_far : (end : State) → Steps file features left now end → Steps file features all old end
  pub stops_so : (fault : BodyError) → StopsIn file features left now fault → StopsIn file features all old fault
  pub ready : All (IsReady now) left
  pub apart : AreApart left
  pub grown : Grows old.types now.types
  pub names : HasLocals old.ids now.ids

-- ---- who is ready stays so while another function gets its body

stays_function : FoundTypesStay → (t v : Table) → Grows t v → (id : ℕ) → IsFunctionType t id → IsFunctionType v id
stays_function stay t v g id h = go (type_at t id) refl h
  where
    go : (o : Option Item) → type_at t id ≡ o → MatchOption o ⊥ (λ item. IsTrue (is_function item.kind.form)) → IsFunctionType v id
    go None e is = absurd is
    go (Some item) e is = rw ((stay t v g).live id item e) is

pub tags_grow : FoundTypesStay → (tags : Arena Tag) (t v : Table) (i : Ids) → Grows t v → TagsStand tags t i → TagsStand tags v i
tags_grow stay tags t v i grows h n tag is = let it = h n tag is in (it.0, it.1, stays_function stay t v grows it.0.ty it.2)

pub others_keep : (function : ℕ) (ids : List ℕ) (locals : ℕ → List ℕ) (c : ℕ) → c ≢ function → with_more function ids locals c ≡ locals c
others_keep function ids locals c apart = go (c == function) refl
  where
    go : (b : Bool) → (c == function) ≡ b → (if b then locals c ++ ids else locals c) ≡ locals c
    go true e = absurd (apart (eqb-true c function e))
    go false e = refl

module _ (stay : FoundTypesStay) (on : TablesGrowOn) (file : FileEnv) (features : WasmFeatures) where
  ready_on : (b c : FunctionBody) (old new : State) → IsStep file features b old new → c.number ≢ b.number → IsReady old c → IsReady new c
  ready_on b c old new s apart r = record {
    item = r.item;
    live = ap (λ (a : Arena Function). item_at a c.number) s.given ∙ at-other old.functions.slots (Some (record s.item { kind = kinds.Local s.body })) b.number c.number apart ∙ r.live;
    typed = stays_function stay old.types new.types s.grown (type_of r.item.kind) r.typed;
    no_locals = ap (λ (i : Ids). i.locals c.number) s.left.named ∙ others_keep b.number s.left.ids s.numbered.locals c.number apart
        ∙ ap (λ (i : Ids). i.locals c.number) s.arguments.named ∙ others_keep b.number (ids_from (length old.locals) s.params) old.ids.locals c.number apart ∙ r.no_locals;
  }

  pub all_ready_on : (b : FunctionBody) (bs : List FunctionBody) (old new : State) → IsStep file features b old new → All (λ (c : FunctionBody). c.number ≢ b.number) bs → All (IsReady old) bs → All (IsReady new) bs
  all_ready_on b bs old new s apart h = λ k d lt. ready_on b (slice_index_or bs k d) old new s (apart k d lt) (h k d lt)

  pub step_names : (b : FunctionBody) (old new : State) → IsStep file features b old new → HasLocals old.ids new.ids
  step_names b old new s = s.left.named ∙ ap (λ (i : Ids). record i { locals = with_more b.number s.left.ids i.locals }) s.arguments.named ∙ ap (λ (l : ℕ → List ℕ). record old.ids { locals = l }) (sym (ap (λ (i : Ids). i.locals) (s.left.named ∙ ap (λ (i : Ids). record i { locals = with_more b.number s.left.ids i.locals }) s.arguments.named)))

  pub names_on : (i j k : Ids) → HasLocals i j → HasLocals j k → HasLocals i k
  names_on i j k a b = b ∙ ap (λ (m : Ids). record m { locals = k.locals }) a

  pub going_on : (all left : List FunctionBody) (b : FunctionBody) (bs : List FunctionBody) (old now new : State) → left ≡ b ∷ bs → Going file features all left old now → IsStep file features b now new → Going file features all bs old new
  going_on all left b bs old now new is g s =
      let h = subst (λ (l : List FunctionBody). Going file features all l old now) is g in record {
        so_far = λ end more. h.so_far end (new, s, more);
        stops_so = λ fault more. h.stops_so fault (inr (new, s, more));
        ready = all_ready_on b bs now new s h.apart.0 (All-tail (IsReady now) b bs h.ready);
        apart = h.apart.1;
        grown = on old.types now.types new.types h.grown s.grown;
        names = names_on old.ids now.ids new.ids h.names (step_names b now new s);
      }

  -- at the loop's beginning, from one body to the next, and at its end
  pub going_first : (all : List FunctionBody) (old : State) → All (IsReady old) all → AreApart all → Going file features all all old old
  going_first all old ready apart = record { so_far = λ end s. s; stops_so = λ fault s. s; ready = ready; apart = apart; grown = grows_same old.types old.types refl; names = refl }

  pub going_next : (all : List FunctionBody) (at : ℕ) (other b : FunctionBody) (old now new : State) → b ≡ slice_index_or all at other → at < length all → Going file features all (drop at all) old now → IsStep file features b now new
      → Going file features all (drop (at + 1) all) old new
  going_next all at other b old now new is lt g s =
      going_on all (drop at all) b (drop (at + 1) all) old now new (drop_one all at other lt ∙ ap (λ (c : FunctionBody). c ∷ drop (at + 1) all) (sym is)) g s

  pub going_ready : (all : List FunctionBody) (at : ℕ) (other b : FunctionBody) (old now : State) → b ≡ slice_index_or all at other → at < length all → Going file features all (drop at all) old now → IsReady now b
  going_ready all at other b old now is lt g =
      subst (IsReady now) (sym is) (All-head (IsReady now) (slice_index_or all at other) (drop (at + 1) all) (subst (All (IsReady now)) (drop_one all at other lt) g.ready))

  pub going_filed : (all left : List FunctionBody) (old now : State) → Going file features all left old now → IsFiledLater file features old.types old.ids → IsFiledLater file features now.types now.ids
  going_filed all left old now g h = (
    h.0,
    λ v e locals function grows is. subst (λ (k : Ids). IsFiled e (record k { locals = locals }) function (length (locals function)) features h.0) (sym g.names)
        (h.1 v e locals function (on old.types now.types v g.grown grows) is),
  )

  pub going_last : (all : List FunctionBody) (at : ℕ) (old now : State) → length all ≤ at → Going file features all (drop at all) old now → Steps file features all old now
  going_last all at old now le g = g.so_far now (subst (λ (l : List FunctionBody). Steps file features l now now) (sym (drop_past all at le)) refl)

  pub going_stops : (all : List FunctionBody) (at : ℕ) (other b : FunctionBody) (old now : State) (fault : BodyError) → b ≡ slice_index_or all at other → at < length all → Going file features all (drop at all) old now
      → Fails file features b now fault → StopsIn file features all old fault
  going_stops all at other b old now fault is lt g fails =
      g.stops_so fault (subst (λ (l : List FunctionBody). StopsIn file features l now fault) (sym (drop_one all at other lt ∙ ap (λ (c : FunctionBody). c ∷ drop (at + 1) all) (sym is))) (inl fails))

  -- tags have live function types still
  pub going_tags : (tags : Arena Tag) (all left : List FunctionBody) (old now : State) → Going file features all left old now → TagsStand tags old.types old.ids → TagsStand tags now.types now.ids
  going_tags tags all left old now g h = subst (TagsStand tags now.types) (sym g.names) (tags_grow stay tags old.types now.types old.ids g.grown h)
