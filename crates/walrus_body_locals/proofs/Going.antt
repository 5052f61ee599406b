-- Lemmas: runs, one after another.
use Rattle.std.proofs.Common.{ℕ, zero, suc, ◌≡◌, ◌⊎◌, ◌+◌, ◌-◌, ◌<◌, ◌≤◌, List, [], ◌∷◌, ◌++◌, length, map, None, Ok, Err, refl, ap, sym, subst, inl, inr, ◌∙◌, arith, append-nil}
use Rattle.std.specs.Prelude.{fold}
use Rattle.std.specs.List.{repeat}
use Rattle.std.proofs.lemmas.Grind.{flat_map-append}
use Rattle.std.proofs.lemmas.List.{map-append, length-append}
use Rattle.std.proofs.lemmas.List.Sums.{fold-append}
use Rattle.wasm_features.specs.declared.WasmFeatures.{WasmFeatures}
use Rattle.wasm_reader.specs.declared.error.Error.{Error}
use Rattle.wasm_reader.specs.Reading.{fault}
use Rattle.wasm_reader.specs.Numbers.{unsigned_at}
use Rattle.wasm_reader.specs.Cursor.{Window, Cursor, rest, end_of, Forward}
use Rattle.walrus_forms.specs.declared.value.ValType.{ValType}
use Rattle.walrus_forms.specs.Renaming.{at, renamed_value}
use Rattle.wasm_formats.specs.Stops.{Read, stop, Parsing}
use Rattle.wasm_formats.specs.Wholes.{u32}
use Rattle.walrus_body_nesting.specs.wasm_body_grammar.Rules.{Around}
use Rattle.walrus_body_nesting.specs.wasm_body_grammar.Bodies as grammar
use Rattle.walrus_body_nesting.specs.wasm_body_grammar.Bodies.{Run, next_total, declared}
use Rattle.walrus_body_nesting.specs.walrus_body_env.declared.error.BodyError.{BodyError}
use Rattle.walrus_body_nesting.specs.walrus_body_env.declared.error.BodyError.TheVariants as faults
use Rattle.walrus_body_nesting.specs.walrus_body_env.Faults.{read_fault}
use Rattle.walrus_body_locals.specs.Calls.{IsFaultOf}
use Rattle.walrus_body_locals.specs.Told.{Telling, Fails, AnswersTold, Tells, Pass, pass_on, pass_entries}
use Rattle.walrus_body_locals.specs.Locals.{IsRunOf, run_in, IsSeen, ReadsRuns, RefusesRuns}
use Rattle.walrus_body_locals.proofs.Answering.{end_stays, reader_refuses}

-- ---- the types of one more run

many_renamed : (r : ℕ → ℕ) (n : ℕ) (ty : ValType) → map (renamed_value r) (repeat n (ty ∷ [])) ≡ repeat n (renamed_value r ty ∷ [])
many_renamed r zero ty = refl
many_renamed r (suc n) ty = ap (λ (l : List ValType). renamed_value r ty ∷ l) (many_renamed r n ty)

abbrev pub own_types : List ℕ → List Run → List ValType
own_types types runs = map (renamed_value (at types)) (declared runs)

own_more : (types : List ℕ) (runs : List Run) (run : Run) → own_types types (runs ++ run ∷ []) ≡ own_types types runs ++ repeat run.0 (renamed_value (at types) run.1 ∷ [])
own_more types runs run =
    let f : Run → List ValType = λ r. repeat r.0 (r.1 ∷ []) in
    ap (λ (l : List ValType). map (renamed_value (at types)) l) (flat_map-append f runs (run ∷ []) ∙ ap (λ (l : List ValType). declared runs ++ l) (append-nil (f run)))
    ∙ map-append (renamed_value (at types)) (declared runs) (f run) ∙ ap (λ (l : List ValType). own_types types runs ++ l) (many_renamed (at types) run.0 run.1)

-- ---- some runs were read

abbrev pub reads_at : WasmFeatures → List ℕ → ℕ → List ℕ → Parsing Run
reads_at features types total = (run_in features (length types) total).parse

pub record Going {V : Type 0} (told : Telling Run V) (params count : ℕ) (old new : Cursor) (types : List ℕ) (v w : V) (own : List Run) (total done : ℕ) : Type 0 where
  pub mid : List ℕ
  pub runs : List Run
  pub counted : u32.parse (rest old) ≡ Ok (count, mid)
  pub passed : Pass next_total (reads_at old.window.features types) told (end_of old) params v mid runs (rest new) w
  pub many : length runs ≡ done
  pub total_is : total ≡ fold next_total params runs
  pub own_are : declared own ≡ own_types types runs
  pub sum_is : total ≡ params + length (declared own)
  pub few : (total ≡ params) ⊎ (total ≤ 50000)
  pub moves : Forward old new

pub going_start : {V : Type 0} (told : Telling Run V) (params count : ℕ) (old new : Cursor) (types : List ℕ) (v : V) → unsigned_at 32 (rest old) ≡ Ok (count, rest new) → Forward old new
    → Going told params count old new types v v [] params 0
going_start told params count old new types v e moves = record {
  mid = rest new;
  runs = [];
  counted = rw e refl;
  passed = (refl, refl);
  many = refl;
  total_is = refl;
  own_are = refl;
  sum_is = omega arith;
  few = inl refl;
  moves = moves;
}

pub repeat_length : (n : ℕ) (ty : ValType) → length (repeat n (ty ∷ [])) ≡ n
repeat_length zero ty = refl
repeat_length (suc n) ty = ap suc (repeat_length n ty)

-- as they are declared
pub own_declared : (own : List Run) (run : Run) → declared (own ++ run ∷ []) ≡ declared own ++ repeat run.0 (run.1 ∷ [])
own_declared own run =
    let f : Run → List ValType = λ r. repeat r.0 (r.1 ∷ []) in
    flat_map-append f own (run ∷ []) ∙ ap (λ (l : List ValType). declared own ++ l) (append-nil (f run))

module _ {V : Type 0} (told : Telling Run V) (params count : ℕ) (old new next : Cursor) (types : List ℕ) (v w x : V) (own : List Run) (total done : ℕ) (g : Going told params count old new types v w own total done) where
  -- the next run is read so too
  abbrev nexts : List ℕ → Parsing Run
  nexts = reads_at new.window.features types total

  abbrev wants : List ℕ → Parsing Run
  wants = reads_at old.window.features types (fold next_total params g.runs)

  same_reads : nexts ≡ wants
  same_reads =
      ap (λ (f : WasmFeatures). reads_at f types total) (ap (λ (w : Window). w.features) g.moves.window)
      ∙ ap (λ (t : ℕ). reads_at old.window.features types t) g.total_is

  pub on_forward : Forward new next → Forward old next
  on_forward moves = record {
    window = moves.window ∙ g.moves.window;
    forward = let a = g.moves.forward in let b = moves.forward in omega (arith, a, b);
    within = λ h. moves.within (g.moves.within h);
  }

  -- with it, too
  passed_on : (more : ℕ) (ty : ValType) (t : Tells nexts told (IsRunOf types) new next w x (Ok (more, ty)))
      → Pass next_total (reads_at old.window.features types) told (end_of old) params v g.mid (g.runs ++ t.value.0 ∷ []) (rest next) x
  passed_on more ty t =
      let run = t.value.0 in
      let P : (List ℕ → Parsing Run) → Type 0 = λ p. p (rest new) ≡ Ok (run, rest next) in
      let T : ℕ → Type 0 = λ end. told w (end - length (rest new)) run ≡ (None, x) in
      pass_on next_total (reads_at old.window.features types) told (end_of old) g.runs params v g.mid (rest new) (rest next) w x run g.passed
      (subst P same_reads t.value.1) (subst T (end_stays old new g.moves) t.value.2)

  pub going_on : (more : ℕ) (ty : ValType) → Tells nexts told (IsRunOf types) new next w x (Ok (more, ty)) → total + more ≤ 50000
      → Going told params count old next types v x (own ++ (more, ty) ∷ []) (total + more) (done + 1)
  going_on more ty t few =
      let run = t.value.0 in
      let one : repeat more (ty ∷ []) ≡ repeat run.0 (renamed_value (at types) run.1 ∷ []) =
      ap (λ (n : ℕ). repeat n (ty ∷ [])) t.value.3.0 ∙ ap (λ (z : ValType). repeat run.0 (z ∷ [])) t.value.3.1 in
      let longer = ap length (own_declared own (more, ty)) ∙ length-append (declared own) (repeat more (ty ∷ [])) ∙ ap (λ (n : ℕ). length (declared own) + n) (repeat_length more ty) in
      record {
        mid = g.mid;
        runs = g.runs ++ run ∷ [];
        counted = g.counted;
        passed = passed_on more ty t;
        many = length-append g.runs (run ∷ []) ∙ ap (λ (n : ℕ). n + 1) g.many;
        total_is = ap (λ (n : ℕ). n + more) g.total_is ∙ ap (λ (n : ℕ). fold next_total params g.runs + n) t.value.3.0 ∙ sym (fold-append next_total params g.runs (run ∷ []));
        own_are = own_declared own (more, ty) ∙ ap (λ (l : List ValType). l ++ repeat more (ty ∷ [])) g.own_are ∙ ap (λ (l : List ValType). own_types types g.runs ++ l) one ∙ sym (own_more types g.runs run);
        sum_is = (let s = g.sum_is in omega (arith, s, longer));
        few = inr few;
        moves = on_forward t.moves;
      }

  -- ---- in words of the grammar

  in_words : (runs : List Run) (later : List ℕ) (z : V) → Pass next_total (reads_at old.window.features types) told (end_of old) params v g.mid runs later z
      → (a : Around) → IsSeen old.window.features types a → Pass next_total (λ t. (grammar.run a t).parse) told (end_of old) params v g.mid runs later z
  in_words runs later z h a s =
      let F : WasmFeatures → Type 0 = λ f. Pass next_total (λ t. (run_in f (length types) t).parse) told (end_of old) params v g.mid runs later z in
      let G : ℕ → Type 0 = λ n. Pass next_total (λ t. (run_in a.features n t).parse) told (end_of old) params v g.mid runs later z in
      subst G (sym s.types_are) (subst F (sym s.features_are) h)

  passed_in : (a : Around) → IsSeen old.window.features types a → Pass next_total (λ t. (grammar.run a t).parse) told (end_of old) params v g.mid g.runs (rest new) w
  passed_in a s = in_words g.runs (rest new) w g.passed a s

  pub going_done : count ≡ done → ReadsRuns told params old new types v w own total
  going_done e = record {
    runs = g.runs;
    read = λ a s.
        let F : ℕ → Type 0 = λ n. u32.parse (rest old) ≡ Ok (n, g.mid) in
        let counted : u32.parse (rest old) ≡ Ok (length g.runs, g.mid) = subst F (e ∙ sym g.many) g.counted in
        rw (counted, pass_entries next_total (grammar.run a) told (end_of old) g.runs params v w g.mid (rest new) (passed_in a s)) refl;
    passed = λ a s.
        let F : ℕ → Type 0 = λ n. u32.parse (rest old) ≡ Ok (n, g.mid) in
        (g.mid, subst F (e ∙ sym g.many) g.counted, passed_in a s);
    own_are = g.own_are;
    total_is = g.sum_is;
    few = g.few;
  }

  pub going_fails : (e : BodyError) → done < count → Tells nexts told (IsRunOf types) new next w x (Err e) → RefusesRuns told params old types v x e
  going_fails e l t = go t.value
    where
      fails_in : (a : Around) → IsSeen old.window.features types a → Fails nexts told (end_of new) w (rest new) x e → Fails (grammar.run a (fold next_total params g.runs)).parse told (end_of old) w (rest new) x e
      fails_in a s h =
          let A : (List ℕ → Parsing Run) → Type 0 = λ p. Fails p told (end_of new) w (rest new) x e in
          let B : ℕ → Type 0 = λ end. Fails wants told end w (rest new) x e in
          let F : WasmFeatures → Type 0 = λ f. Fails (run_in f (length types) (fold next_total params g.runs)).parse told (end_of old) w (rest new) x e in
          let G : ℕ → Type 0 = λ n. Fails (run_in a.features n (fold next_total params g.runs)).parse told (end_of old) w (rest new) x e in
          subst G (sym s.types_are) (subst F (sym s.features_are) (subst B (end_stays old new g.moves) (subst A same_reads h)))

      go : AnswersTold nexts told (IsRunOf types) new next w x (Err e) → RefusesRuns told params old types v x e
      go (inl m) =
          let few : length g.runs ≤ count = (let n = g.many in omega (arith, l, n)) in
          inl (m.0, λ a s. inr (count, g.mid, g.runs, rest new, g.counted, few, in_words g.runs (rest new) x (subst (λ (z : V). Pass next_total (reads_at old.window.features types) told (end_of old) params v g.mid g.runs (rest new) z) (sym m.1) g.passed) a s))
      go (inr h) = inr (λ a s. inr (count, g.mid, g.runs, rest new, w, g.counted, (let m = g.many in omega (arith, l, m)), passed_in a s, fails_in a s h))

  -- it was read, and memory is wanted to keep it
  pub going_short : (more : ℕ) (ty : ValType) → done < count → Tells nexts told (IsRunOf types) new next w x (Ok (more, ty)) → RefusesRuns told params old types v x faults.Memory
  going_short more ty l t =
      let run = t.value.0 in
      let few : length (g.runs ++ run ∷ []) ≤ count = (let m = g.many in let n = length-append g.runs (run ∷ []) in omega (arith, l, m, n)) in
      inl (refl, λ a s. inr (count, g.mid, g.runs ++ run ∷ [], rest next, g.counted, few, in_words (g.runs ++ run ∷ []) (rest next) x (passed_on more ty t) a s))

-- all were read, and memory is wanted as their locals are added
pub reads_short : {V : Type 0} (told : Telling Run V) (params : ℕ) (old new : Cursor) (types : List ℕ) (v w : V) (own : List Run) (total : ℕ) → ReadsRuns told params old new types v w own total → RefusesRuns told params old types v w faults.Memory
reads_short told params old new types v w own total r = inl (refl, λ a s. let p = r.passed a s in inr (length r.runs, p.0, r.runs, rest new, p.1, (let z : length r.runs ≤ length r.runs = omega arith in z), p.2))

-- ---- the count itself is refused

pub count_fails : {V : Type 0} (told : Telling Run V) (params : ℕ) (old new : Cursor) (types : List ℕ) (v : V) (e : Error) → unsigned_at 32 (rest old) ≡ Err (fault e.kind (end_of new - e.offset)) → e.offset ≤ end_of new → Forward old new
    → RefusesRuns told params old types v v (read_fault e)
count_fails told params old new types v e read le moves = go (reader_refuses (end_of new) e le)
  where
    go : (read_fault e ≡ faults.Memory) ⊎ IsFaultOf (end_of new) (stop (Read e.kind) (end_of new - e.offset)) (read_fault e) → RefusesRuns told params old types v v (read_fault e)
    go (inl m) = inl (m, λ a s. inl refl)
    go (inr h) =
        let F : ℕ → Type 0 = λ end. IsFaultOf end (stop (Read e.kind) (end_of new - e.offset)) (read_fault e) in
        inr (λ a s. inl (stop (Read e.kind) (end_of new - e.offset), rw read refl, subst F (end_stays old new moves) h, refl))
