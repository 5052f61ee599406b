-- Runs of a module, of the one of its normal forms, and of those that hold its kept functions, renamed.
use Rattle.std.proofs.Common.{ℕ, ◌≡◌, false, List, [], ◌∷◌, map, refl, sym, ap, subst, ◌∙◌, inl}
use Rattle.std.specs.Prelude.{Option, Some, None, IsTrue, slice_get}
use Rattle.std.specs.List.{AllByRecursion}
use Rattle.std.specs.Option.{option_map}
use Rattle.wasm_operators.specs.declared.block_type.BlockType.{BlockType}
use Rattle.wasm_operators.specs.Items.{Functions}
use Rattle.wasm_operators.specs.Operators.{Seen}
use Rattle.wasm_operators.specs.Names.{renamed_operator}
use Rattle.wasm_operators.specs.NameLaws.{same}
use Rattle.wasm_operators.specs.Renamed.{same_is_same}
use Rattle.wasm_normal_form.specs.Normal.{picked, normal}
use Rattle.wasm_normal_form.specs.Laws.{TreeIsOne, NormalNests}
use Rattle.wasm_runs.specs.Outcomes.{Outcome, Ending}
use Rattle.wasm_runs.specs.Programs.{Program, Executed, Event, whole, event, nested, functions_of, callee_of}
use Rattle.wasm_runs.specs.Traces.{Traces, starts, Trace}
use Rattle.wasm_runs.specs.Renamed.{Maps, within, renamed_event, renamed_outcome}
use Rattle.wasm_runs.proofs.Ends.{each_run_ends, one_trace}
use Rattle.wasm_run_laws.specs.Stands.{normal_code, renamed_code, normal_program, KeepsSignatures, NamesKept, AreTypedSo, PicksKeep, StandsNormal, StandsRenamed}
use Rattle.wasm_run_laws.specs.Laws.{ModuleRunsAs, NormalModuleRunsTheSame, SameRuns, RunsCorrespond, RenamedRunsCorrespond}
use Rattle.wasm_run_laws.proofs.Images.{each_is, AllOf, Images, SameCallee, Good, SameBody, SameBodies, functions_renamed}
use Rattle.wasm_run_laws.proofs.Alike.{runs_alike}
use Rattle.wasm_run_laws.proofs.Nested.{nested_image, all_of, both_of, each_of, nested_all, normal_all, as_written, written_picked, normal_renamed}
use Rattle.wasm_run_laws.proofs.Entries.{executed_renamed, executed_picked, executed_with_pick}
use Rattle.wasm_run_laws.proofs.Bodies.{Any, any_fits, outcome_is}

abbrev in_function : ℕ → Executed → Event
in_function f x = record { function = f; executed = x }

-- ---- a module and the one of its normal forms

module _ (one : TreeIsOne) (nests : NormalNests) (pick : BlockType → BlockType) (p : Program) (keeps : KeepsSignatures pick p.signature) where
  abbrev own : Images Event
  own = record {
    here = whole p;
    there = whole (normal_program pick p);
    function = λ f. f;
    items = λ f. same;
    pick = pick;
    entry = λ v. v;
    labels = λ f k. refl;
    picks = λ f o. ap (in_function f) (executed_with_pick p.signature pick keeps o);
  }

  own_callee : (o : Option ℕ) → SameCallee Any own o o
  own_callee None = tt
  own_callee (Some g) = inl (tt, refl)

  own_good : (f : ℕ) (o : Seen) → Good Any own f o
  own_good f o = record { calls = subst (λ (x : Seen). SameCallee Any own (callee_of o) (callee_of x)) (sym (same_is_same o)) (own_callee (callee_of o)); shows = ap (event p.signature f) (same_is_same o) }

  own_body : (f : ℕ) (o : Option (List Seen)) → SameBody Any own f o (option_map (normal_code pick) o)
  own_body f None = tt
  own_body f (Some ops) = (ap nested (sym (each_is (renamed_operator same) same_is_same (normal_code pick ops))) ∙ nested_image same one nests pick ops, each_of (Good Any own f) (own_good f) (normal pick (nested ops)))

  to_normal_module : ModuleRunsAs p (normal_program pick p)
  to_normal_module f outcomes bound events ending run =
      let q : Program = normal_program pick p in
      let P : List Outcome → Type 0 = λ os. Traces (whole q) (starts f (q.body f) os bound) (map (λ (v : Event). v) events) ending in
      let Q : List Event → Type 0 = λ vs. Trace q f outcomes bound vs ending in
      subst Q (each_is (λ (v : Event). v) (λ v. refl) events)
      (subst P (each_is (renamed_outcome (λ f. f)) outcome_is outcomes)
      (runs_alike Event Any own (λ g k. own_body g (p.body g)) f (p.body f) (q.body f) (own_body f (p.body f)) outcomes (any_fits outcomes) bound events ending run))

  -- since each has one trace
  from_normal_module : ModuleRunsAs (normal_program pick p) p
  from_normal_module f outcomes bound events ending run =
      let mine = each_run_ends p f outcomes bound in
      let is = one_trace (normal_program pick p) f outcomes bound mine.0 events mine.1 ending (to_normal_module f outcomes bound mine.0 mine.1 mine.2) run in
      let P : List Event → Type 0 = λ vs. Trace p f outcomes bound vs mine.1 in
      let Q : Ending → Type 0 = λ e. Trace p f outcomes bound events e in
      subst Q is.1 (subst P is.0 mine.2)

pub normal_module_runs_the_same : TreeIsOne → NormalNests → NormalModuleRunsTheSame
normal_module_runs_the_same one nests pick p keeps = (to_normal_module one nests pick p keeps, from_normal_module one nests pick p keeps)

-- ---- kept functions, renamed

-- every number of a function is the renamed one
callee_kept : {E : Type 0} (P : ℕ → Type 0) (i : Images E) (xs : List ℕ) → AllByRecursion P xs → SameCallee P i (slice_get xs 0) (slice_get (map i.function xs) 0)
callee_kept P i [] h = tt
callee_kept P i (x ∷ xs) h = inl (h.0, refl)

module _ (kept : ℕ → Type 0) (r : Maps) (pick : BlockType → BlockType) (m n : Program) (picks : (f : ℕ) → PicksKeep (within r f) pick m.signature) where
  abbrev images : Images Event
  images = record {
    here = whole m;
    there = whole n;
    function = r.items Functions;
    items = within r;
    pick = pick;
    entry = renamed_event r;
    labels = λ f k. refl;
    picks = λ f o. ap (in_function (r.items Functions f)) (executed_picked (within r f) m.signature pick (picks f) o);
  }

  good : (f : ℕ) (o : Seen) → NamesKept kept o → AreTypedSo (within r f) m.signature n.signature o → Good kept images f o
  good f o names types = record {
    calls =
        let Q : List ℕ → Type 0 = λ xs. SameCallee kept images (callee_of o) (slice_get xs 0) in
        subst Q (sym (functions_renamed (within r f) o)) (callee_kept kept images (functions_of o) names);
    shows = ap (in_function (r.items Functions f)) (executed_renamed (within r f) m.signature n.signature o types);
  }

  all_good : (f : ℕ) (w : _) → AllOf (NamesKept kept) w → AllOf (AreTypedSo (within r f) m.signature n.signature) w → AllOf (Good kept images f) w
  all_good f w names types = both_of (NamesKept kept) (AreTypedSo (within r f) m.signature n.signature) (Good kept images f) (good f) w names types

  runs_as : SameBodies kept images → SameRuns kept r m n
  runs_as bodies f k outcomes fits bound events ending run =
      runs_alike Event kept images bodies f (m.body f) (n.body (r.items Functions f)) (bodies f k) outcomes fits bound events ending run

-- in normal form
module _ (one : TreeIsOne) (nests : NormalNests) (kept : ℕ → Type 0) (r : Maps) (pick : BlockType → BlockType) (m n : Program) (stands : StandsNormal kept r pick m n) where
  normal_body_same : (g : ℕ) (o : Option (List Seen)) → ((ops : List Seen) → o ≡ Some ops → AllByRecursion (NamesKept kept) (normal_code pick ops))
      → ((ops : List Seen) → o ≡ Some ops → AllByRecursion (AreTypedSo (within r g) m.signature n.signature) (normal_code pick ops))
      → SameBody kept (images kept r pick m n stands.picks) g o (option_map (λ ops. renamed_code (within r g) (normal_code pick ops)) o)
  normal_body_same g None names types = tt
  normal_body_same g (Some ops) names types =
      let w = normal pick (nested ops) in (
        nested_image (within r g) one nests pick ops,
        all_good kept r pick m n stands.picks g w (all_of (NamesKept kept) w (names ops refl)) (all_of (AreTypedSo (within r g) m.signature n.signature) w (types ops refl)),
      )

  -- for all predicates
  pub normal_runs_correspond : SameRuns kept r m n
  normal_runs_correspond = runs_as kept r pick m n stands.picks (λ g k.
      let Q : Option (List Seen) → Type 0 = λ o. SameBody kept (images kept r pick m n stands.picks) g (m.body g) o in
      subst Q (sym (stands.there g k)) (normal_body_same g (m.body g) (λ ops. stands.names g ops k) (λ ops. stands.types g ops k)))

-- as they are: those of n run as their normal forms
module _ (one : TreeIsOne) (nests : NormalNests) (kept : ℕ → Type 0) (r : Maps) (m n : Program) (stands : StandsRenamed kept r m n) where
  abbrev renamed_images : Images Event
  renamed_images = images kept r as_written m (normal_program as_written n) (λ f ty. refl)

  renamed_body_same : (g : ℕ) (o : Option (List Seen)) → ((ops : List Seen) → o ≡ Some ops → AllByRecursion (NamesKept kept) ops)
      → ((ops : List Seen) → o ≡ Some ops → AllByRecursion (AreTypedSo (within r g) m.signature n.signature) ops)
      → SameBody kept renamed_images g o (option_map (normal_code as_written) (option_map (renamed_code (within r g)) o))
  renamed_body_same g None names types = tt
  renamed_body_same g (Some ops) names types =
      let as_it_is : (o : Seen) → Good kept renamed_images g o → Good kept renamed_images g (picked as_written o) = λ o h. subst (Good kept renamed_images g) (sym (written_picked o)) h in (
        ap nested (normal_renamed (within r g) ops) ∙ nested_image (within r g) one nests as_written ops,
        normal_all (Good kept renamed_images g) as_written as_it_is (nested ops) false false
            (all_good kept r as_written m (normal_program as_written n) (λ f ty. refl) g (nested ops) (nested_all (NamesKept kept) ops (names ops refl))
            (nested_all (AreTypedSo (within r g) m.signature n.signature) ops (types ops refl))),
      )

  pub renamed_runs_correspond : SameRuns kept r m n
  renamed_runs_correspond f k outcomes fits bound events ending run =
      from_normal_module one nests as_written n (λ ty. refl) (r.items Functions f) (map (renamed_outcome (r.items Functions)) outcomes) bound (map (renamed_event r) events) ending
      (runs_as kept r as_written m (normal_program as_written n) (λ f ty. refl) (λ g h.
      let Q : Option (List Seen) → Type 0 = λ o. SameBody kept renamed_images g (m.body g) (option_map (normal_code as_written) o) in
      subst Q (sym (stands.there g h)) (renamed_body_same g (m.body g) (λ ops. stands.names g ops h) (λ ops. stands.types g ops h))) f k outcomes fits bound events ending run)

pub runs_correspond : TreeIsOne → NormalNests → RunsCorrespond
runs_correspond one nests chosen r pick m n stands = normal_runs_correspond one nests (λ f. IsTrue (chosen f)) r pick m n stands

pub renamed_correspond : TreeIsOne → NormalNests → RenamedRunsCorrespond
renamed_correspond one nests chosen r m n stands = renamed_runs_correspond one nests (λ f. IsTrue (chosen f)) r m n stands
