-- Lemmas: what a run of a kept function executes names kept functions. Each event is sent to one of two, by whether it does so; a program whose
-- operators all stand as the one in its traces runs alike, so that none was sent to the other.
use Rattle.std.specs.Prelude.{ℕ, ◌≡◌, ◌&&◌, Bool, true, false, List, [], ◌∷◌, ◌++◌, map, Option, Some, None, slice_get, if◌then◌else◌, refl}
use Rattle.std.specs.List.{AllByRecursion, flat_map}
use Rattle.std.specs.Option.{option_map}
use Rattle.std.proofs.Common.{ap, sym, ◌∙◌, subst, inl}
use Rattle.std.proofs.lemmas.Bool.{and_parts}
use Rattle.wasm_operators.specs.declared.block_type.BlockType.{BlockType}
use Rattle.wasm_operators.specs.Items.{Functions, Item, Block}
use Rattle.wasm_operators.specs.Names.{Name, item_names, operator_names}
use Rattle.wasm_operators.specs.Operators.{Seen}
use Rattle.wasm_normal_form.specs.Laws.{TreeIsOne, NormalNests}
use Rattle.wasm_normal_form.specs.Normal.{normal, picked, with_pick}
use Rattle.wasm_normal_form.specs.Roles.{end_op}
use Rattle.wasm_ruled_normal.proofs.Tests.{all_join, all_split}
use Rattle.wasm_part.specs.Part.{IsIn, Plan}
use Rattle.wasm_run_laws.specs.wasm_runs.Modules.{program_of}
use Rattle.wasm_run_laws.specs.wasm_runs.Outcomes.{Outcome, Ending}
use Rattle.wasm_run_laws.specs.wasm_runs.Programs.{Code, Event, Program, Signature, callee_of, event, executed, function_in, functions_of, nested, shown, whole}
use Rattle.wasm_run_laws.specs.wasm_runs.Renamed.{Fits, Maps, renamed_outcome, within}
use Rattle.wasm_run_laws.specs.wasm_runs.Traces.{Trace, Traces, starts}
use Rattle.wasm_run_laws.specs.Stands.{NamesKept, StandsNormal, normal_code, renamed_code}
use Rattle.wasm_run_laws.proofs.Alike.{runs_alike}
use Rattle.wasm_run_laws.proofs.Images.{Good, Images, SameBodies, SameBody, SameCallee, functions_renamed}
use Rattle.wasm_run_laws.proofs.Nested.{all_of, both_of, nested_image}
use Rattle.wasm_runs.proofs.Ends.{one_run}
use Rattle.wasm_rewritten.specs.Runs.{CallsAreKept, IsOfKept, WrittenStandsNormal, functions_executed, functions_shown, is_kept, maps_of, pick_in}
use Rattle.wasm_rewritten.proofs.Stood.{number_is}

-- ---- from names to what is shown

module _ (P : ℕ → Type 0) where
  abbrev Each : Name → Type 0
  Each n = AllByRecursion P (function_in n.0 n.1)

  names_each : (names : List Name) → AllByRecursion P (flat_map (λ (n : Name). function_in n.0 n.1) names) → AllByRecursion Each names
  names_each [] h = tt
  names_each (n ∷ names) h =
      let both = all_split P (function_in n.0 n.1) (flat_map (λ (n : Name). function_in n.0 n.1) names) h in (both.0, names_each names both.1)

  each_names : (names : List Name) → AllByRecursion Each names → AllByRecursion P (flat_map (λ (n : Name). function_in n.0 n.1) names)
  each_names [] h = tt
  each_names (n ∷ names) h = all_join P (function_in n.0 n.1) (flat_map (λ (n : Name). function_in n.0 n.1) names) h.0 (each_names names h.1)

  item_shown : (s : BlockType → Signature) (x : Item) → AllByRecursion Each (item_names x) → AllByRecursion P (functions_shown (shown s x))
  item_shown s (Block ty) h = tt
  item_shown s x h = each_names (item_names x) h

  items_shown : (s : BlockType → Signature) (xs : List Item) → AllByRecursion Each (flat_map item_names xs) → AllByRecursion P (flat_map functions_shown (map (shown s) xs))
  items_shown s [] h = tt
  items_shown s (x ∷ xs) h =
      let both = all_split Each (item_names x) (flat_map item_names xs) h in
      all_join P (functions_shown (shown s x)) (flat_map functions_shown (map (shown s) xs)) (item_shown s x both.0) (items_shown s xs both.1)

  operator_shown : (s : BlockType → Signature) (o : Seen) → AllByRecursion P (functions_of o) → AllByRecursion P (functions_executed (executed s o))
  operator_shown s o h = items_shown s o.items (names_each (operator_names o) h)

-- a pick names no function
pick_shown : (s : BlockType → Signature) (pick : BlockType → BlockType) (x : Item) → functions_shown (shown s (with_pick pick x)) ≡ functions_shown (shown s x)
pick_shown s pick (Block ty) = refl
pick_shown s pick _ = refl

picks_shown : (s : BlockType → Signature) (pick : BlockType → BlockType) (xs : List Item) → flat_map functions_shown (map (shown s) (map (with_pick pick) xs)) ≡ flat_map functions_shown (map (shown s) xs)
picks_shown s pick [] = refl
picks_shown s pick (x ∷ xs) =
    ap (λ (l : List ℕ). l ++ flat_map functions_shown (map (shown s) (map (with_pick pick) xs))) (pick_shown s pick x) ∙ ap (λ (l : List ℕ). functions_shown (shown s x) ++ l) (picks_shown s pick xs)

-- ---- marks

abbrev yes : Event
yes = record { function = 0; executed = record { code = end_op.code; items = [] } }

abbrev no : Event
no = record { function = 1; executed = record { code = end_op.code; items = [] } }

module _ (p : Plan) where
  abbrev kept : ℕ → Type 0
  kept f = IsIn p Functions f

  abbrev all_kept : List ℕ → Bool
  all_kept [] = true
  all_kept (n ∷ ns) = is_kept p n && all_kept ns

  and_both : (a b : Bool) → a ≡ true → b ≡ true → (a && b) ≡ true
  and_both a b e f = ap (λ (c : Bool). c && b) e ∙ f

  decided : (f : ℕ) → kept f → is_kept p f ≡ true
  decided f h = (number_is (slice_get (p.listed Functions) (p.renames Functions f)) f).1 h

  is_in : (f : ℕ) → is_kept p f ≡ true → kept f
  is_in f h = (number_is (slice_get (p.listed Functions) (p.renames Functions f)) f).0 h

  all_decided : (ns : List ℕ) → AllByRecursion kept ns → all_kept ns ≡ true
  all_decided [] h = refl
  all_decided (n ∷ ns) h = and_both (is_kept p n) (all_kept ns) (decided n h.0) (all_decided ns h.1)

  all_in : (ns : List ℕ) → all_kept ns ≡ true → AllByRecursion kept ns
  all_in [] h = tt
  all_in (n ∷ ns) h = let both = and_parts (is_kept p n) (all_kept ns) h in (is_in n both.0, all_in ns both.1)

  abbrev mark_if : Bool → Event
  mark_if b = if b then yes else no

  abbrev good : Event → Bool
  good v = is_kept p v.function && all_kept (functions_executed v.executed)

  abbrev mark : Event → Event
  mark v = mark_if (good v)

  marked : (b : Bool) → mark_if b ≡ yes → b ≡ true
  marked true e = refl
  marked false e = absurd (let z : 1 ≡ 0 = ap (λ (v : Event). v.function) e in cc)

  callee_kept : (i : Images Event) (xs : List ℕ) → AllByRecursion kept xs → SameCallee kept i (slice_get xs 0) (slice_get (map i.function xs) 0)
  callee_kept i [] h = tt
  callee_kept i (x ∷ xs) h = inl (h.0, refl)

  module _ (one : TreeIsOne) (nests : NormalNests) (r : Maps) (pick : BlockType → BlockType) (m n : Program) (stands : StandsNormal kept r pick m n) where
    -- in what is written each operator stands so
    abbrev marks : Code Event
    marks = record { body = n.body; entry = λ f o. yes }

    module _ (sent : Event → Event) (sent_picks : (f : ℕ) (o : Seen) → sent (event m.signature f (picked pick o)) ≡ sent (event m.signature f o))
        (sent_good : (f : ℕ) (o : Seen) → kept f → NamesKept kept o → yes ≡ sent (event m.signature f o)) where
      abbrev images : Images Event
      images = record {
        here = whole m;
        there = marks;
        function = r.items Functions;
        items = within r;
        pick = pick;
        entry = sent;
        labels = λ f k. refl;
        picks = sent_picks;
      }

      is_good : (f : ℕ) (o : Seen) → kept f → NamesKept kept o → Good kept images f o
      is_good f o k names = record {
        calls =
            let Q : List ℕ → Type 0 = λ xs. SameCallee kept images (callee_of o) (slice_get xs 0) in
            subst Q (sym (functions_renamed (within r f) o)) (callee_kept images (functions_of o) names);
        shows = sent_good f o k names;
      }

      same_body : (g : ℕ) → kept g → (o : Option (List Seen)) → ((ops : List Seen) → o ≡ Some ops → AllByRecursion (NamesKept kept) (normal_code pick ops))
          → SameBody kept images g o (option_map (λ ops. renamed_code (within r g) (normal_code pick ops)) o)
      same_body g k None names = tt
      same_body g k (Some ops) names =
          let w = normal pick (nested ops) in
          let all = all_of (NamesKept kept) w (names ops refl) in
          (nested_image (within r g) one nests pick ops, both_of (NamesKept kept) (NamesKept kept) (Good kept images g) (λ o h l. is_good g o k h) w all all)

      same_bodies : SameBodies kept images
      same_bodies g k =
          let Q : Option (List Seen) → Type 0 = λ o. SameBody kept images g (m.body g) o in subst Q (sym (stands.there g k)) (same_body g k (m.body g) (λ ops. stands.names g ops k))

      run_sent : (f : ℕ) → kept f → (outcomes : List Outcome) → Fits kept outcomes → (bound : ℕ) (events : List Event) (ending : Ending) → Trace m f outcomes bound events ending
          → Traces marks (starts (r.items Functions f) (n.body (r.items Functions f)) (map (renamed_outcome (r.items Functions)) outcomes) bound) (map sent events) ending
      run_sent f k outcomes fits bound events ending run =
          runs_alike Event kept images same_bodies f (m.body f) (n.body (r.items Functions f)) (same_bodies f k) outcomes fits bound events ending run

    abbrev first : List Event → Event
    first [] = no
    first (v ∷ vs) = v

    abbrev rest : List Event → List Event
    rest [] = []
    rest (v ∷ vs) = vs

    all_good : (vs : List Event) → map mark vs ≡ map (λ v. yes) vs → AllByRecursion (IsOfKept p) vs
    all_good [] e = tt
    all_good (v ∷ vs) e =
        let both = and_parts (is_kept p v.function) (all_kept (functions_executed v.executed)) (marked (good v) (ap first e)) in
        ((is_in v.function both.0, all_in (functions_executed v.executed) both.1), all_good vs (ap rest e))

    mark_picks : (f : ℕ) (o : Seen) → mark (event m.signature f (picked pick o)) ≡ mark (event m.signature f o)
    mark_picks f o = ap (λ (ns : List ℕ). mark_if (is_kept p f && all_kept ns)) (picks_shown m.signature pick o.items)

    mark_good : (f : ℕ) (o : Seen) → kept f → NamesKept kept o → yes ≡ mark (event m.signature f o)
    mark_good f o k names =
        sym (ap mark_if (and_both (is_kept p f) (all_kept (functions_executed (executed m.signature o))) (decided f k) (all_decided (functions_executed (executed m.signature o)) (operator_shown kept m.signature o names))))

    pub events_kept : (f : ℕ) → kept f → (outcomes : List Outcome) → Fits kept outcomes → (bound : ℕ) (events : List Event) (ending : Ending) → Trace m f outcomes bound events ending → AllByRecursion (IsOfKept p) events
    events_kept f k outcomes fits bound events ending run =
        all_good events (one_run Event marks (starts (r.items Functions f) (n.body (r.items Functions f)) (map (renamed_outcome (r.items Functions)) outcomes) bound) (map mark events) (map (λ v. yes) events) ending ending
        (run_sent mark mark_picks mark_good f k outcomes fits bound events ending run)
        (run_sent (λ v. yes) (λ f o. refl) (λ f o k names. refl) f k outcomes fits bound events ending run)).0

pub calls_kept : WrittenStandsNormal → TreeIsOne → NormalNests → CallsAreKept
calls_kept stands one nests place keep features more file n t p s asked =
    events_kept p one nests (maps_of features file p) (pick_in features file) (program_of file) (program_of n) (stands place keep features more file n t p s asked)
