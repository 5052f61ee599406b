-- Lemmas: laws of modules.
use Rattle.std.specs.Prelude.{ℕ, ◌-◌, ◌≤◌, ◌≡◌, ◌⊎◌, List, [], ◌∷◌, length, Option, Some, None, Result, Ok, Err, refl}
use Rattle.std.proofs.Common.{ap, sym, ◌∙◌, subst, arith, inl, inr}
use Rattle.std.proofs.lemmas.List.{length-append}
use Rattle.wasm_features.specs.declared.WasmFeatures.{WasmFeatures}
use Rattle.wasm_formats.specs.Stops.{Trouble, Stop, stop, moved, ◌>>=◌}
use Rattle.wasm_formats.specs.Formats.{Small, done_is, done_refused, refused_is, step_ok, step_err}
use Rattle.wasm_sections.specs.wasm_grammar.Modules.{Body, Module}
use Rattle.wasm_sections.specs.wasm_grammar.States.{Chunk, State}
use Rattle.wasm_body_grammar.specs.Rules.{Around}
use Rattle.wasm_body_grammar.specs.Codes.{Code, coded, codes_at, StopsCodes, AreBytes, AreInside}
use Rattle.wasm_body_grammar.specs.ReadCodes.{parsing_reads_all}
use Rattle.wasm_sections.specs.Modules.{FileEntry, file, state_of}
use Rattle.wasm_sections.specs.Laws.{ReadsSections}
use Rattle.wasm_sections.specs.Read.{sections_stop_inside}
use Rattle.wasm_sections.specs.Decided.{sections_stop_for_good}
use Rattle.wasm_sections.specs.Within.{ChunksFit, BodiesFit, bodies_inside}
use Rattle.wasm_modules.specs.Modules.{around, codes, chunks_of, code_left, module_of, IsShort, Reads, StopsAt, Stops, module_at}
use Rattle.wasm_modules.specs.Laws.{ReadsOnce, ReadDontStop, ReadOrStop, StopsOnce, StopsInside, StopsForGood, BodiesStopForGood, ParsingReads}

-- ---- the bodies are bytes of the file

coded_bytes : (m : Module) (types : List ℕ) (start end : ℕ) (chunks : List Chunk) → ChunksFit start end chunks → AreBytes (coded m types chunks) × AreInside (end - start) (coded m types chunks)
coded_bytes m [] start end chunks h = (tt, tt)
coded_bytes m (ty ∷ types) start end [] h = (tt, tt)
coded_bytes m (ty ∷ types) start end (c ∷ chunks) h =
    let rest = coded_bytes m types start end chunks h.1 in
    let le = h.0.1 in
    ((h.0.0, rest.0), (omega (arith, le), rest.1))

bodies_fit : (start end : ℕ) (bodies : Option (List Chunk)) → BodiesFit start end bodies → ChunksFit start end (chunks_of bodies)
bodies_fit start end None h = tt
bodies_fit start end (Some chunks) h = h

codes_fit : (features : WasmFeatures) (bytes : List ℕ) (s : State) → Small bytes → ReadsSections features bytes s → AreBytes (codes s) × AreInside (code_left bytes s) (codes s)
codes_fit features bytes s small h =
    coded_bytes s.filled _ s.code_start (length bytes) (chunks_of s.bodies) (bodies_fit s.code_start (length bytes) s.bodies (bodies_inside features bytes s small h))

-- ---- parsing

abbrev codes_next : WasmFeatures → List ℕ → FileEntry → Result Module Stop
codes_next features bytes x = codes_at (around features (state_of x)) (code_left bytes (state_of x)) (codes (state_of x)) >>= λ xs. Ok (module_of (state_of x) xs)

found : (features : WasmFeatures) (bytes : List ℕ) (m : Module) → Small bytes → IsShort bytes → module_at features bytes ≡ Ok m → Reads features bytes m
found features bytes m small short e = step_ok ((file features).parse bytes) (codes_next features bytes) m e (λ x p q.
    let reads : ReadsSections features bytes (state_of x) = (x, (file features).found bytes x small p, refl) in
    step_ok (codes_at (around features (state_of x)) (code_left bytes (state_of x)) (codes (state_of x))) (λ xs. Ok (module_of (state_of x) xs)) m q (λ xs r t. (
      short,
      (
        state_of x,
        xs,
        reads,
        parsing_reads_all.found (around features (state_of x)) (code_left bytes (state_of x)) (codes (state_of x)) xs (codes_fit features bytes (state_of x) small reads).0 r,
        done_is (module_of (state_of x) xs) m t,
      ),
    )))

-- the sections parse, and so do the bodies
sections_go : (features : WasmFeatures) (bytes : List ℕ) (s : State) (r : Result Module Stop) → ReadsSections features bytes s
    → (codes_at (around features s) (code_left bytes s) (codes s) >>= λ xs. Ok (module_of s xs)) ≡ r → module_at features bytes ≡ r
sections_go features bytes s r h e =
    let there : (file features).parse bytes ≡ Ok h.0 = (file features).again bytes h.0 h.1.0 h.1.1 in
    rw there (subst (λ (s : State). (codes_at (around features s) (code_left bytes s) (codes s) >>= λ xs. Ok (module_of s xs)) ≡ r) (sym h.2) e)

again : (features : WasmFeatures) (bytes : List ℕ) (m : Module) → Reads features bytes m → module_at features bytes ≡ Ok m
again features bytes m h =
    let s = h.1.0 in
    let xs = h.1.1 in
    let read = parsing_reads_all.again (around features s) (code_left bytes s) (codes s) xs h.1.3 in
    sections_go features bytes s (Ok m) h.1.2 (rw (read, h.1.4) refl)

told : (features : WasmFeatures) (bytes : List ℕ) (e : Stop) → Small bytes → IsShort bytes → module_at features bytes ≡ Err e → StopsAt features bytes e
told features bytes e small short p = step_err ((file features).parse bytes) (codes_next features bytes) e p
    (λ q. (short, inl ((file features).told bytes e small q)))
    (λ x q r.
    let reads : ReadsSections features bytes (state_of x) = (x, (file features).found bytes x small q, refl) in
    step_err (codes_at (around features (state_of x)) (code_left bytes (state_of x)) (codes (state_of x))) (λ xs. Ok (module_of (state_of x) xs)) e r
    (λ t. (short, inr (state_of x, reads, parsing_reads_all.told (around features (state_of x)) (code_left bytes (state_of x)) (codes (state_of x)) e (codes_fit features bytes (state_of x) small reads).0 t)))
    (λ xs _ t. done_refused (module_of (state_of x) xs) e t))

tells_go : (features : WasmFeatures) (bytes : List ℕ) (s : State) (e : Stop) → codes_at (around features s) (code_left bytes s) (codes s) ≡ Err e
    → (let put : List Body → Result Module Stop = λ xs. Ok (module_of s xs) in (codes_at (around features s) (code_left bytes s) (codes s) >>= put) ≡ Err e)
tells_go features bytes s e p = rw p refl

tells : (features : WasmFeatures) (bytes : List ℕ) (e : Stop) → StopsAt features bytes e → module_at features bytes ≡ Err e
tells features bytes e (short, inl h) = rw ((file features).tells bytes e h) refl
tells features bytes e (short, inr h) =
    sections_go features bytes h.0 (Err e) h.1 (tells_go features bytes h.0 e (parsing_reads_all.tells (around features h.0) (code_left bytes h.0) (codes h.0) e h.2))

within : (features : WasmFeatures) (bytes : List ℕ) (e : Stop) → Small bytes → StopsAt features bytes e → e.left ≤ length bytes
within features bytes e small (short, inl h) = sections_stop_inside features bytes e h
within features bytes e small (short, inr h) =
    let fit = codes_fit features bytes h.0 small h.1 in
    let near = parsing_reads_all.within (around features h.0) (code_left bytes h.0) (codes h.0) e fit.1 h.2 in
    omega (arith, near)

pub parsing_reads : ParsingReads
parsing_reads = record { found = found; again = again; told = told; tells = tells; within = within }

-- ---- laws

pub reads_once : ReadsOnce
reads_once features bytes m n h k = done_is m n (sym (again features bytes m h) ∙ again features bytes n k)

pub read_dont_stop : ReadDontStop
read_dont_stop features bytes m trouble place h k = done_refused m k.0 (sym (again features bytes m h) ∙ tells features bytes k.0 k.1)

pub read_or_stop : ReadOrStop
read_or_stop features bytes small short = go (module_at features bytes) refl
  where
    go : (r : Result Module Stop) → module_at features bytes ≡ r → ((m : Module) × Reads features bytes m) ⊎ ((trouble : Trouble) × (place : ℕ) × Stops features bytes trouble place)
    go (Ok m) e = inl (m, found features bytes m small short e)
    go (Err s) e =
        let stops = told features bytes s small short e in
        let near = within features bytes s small stops in
        inr (s.trouble, length bytes - s.left, (s, stops, refl, omega (arith, near)))

pub stops_once : StopsOnce
stops_once features bytes t u p q h k =
    let same : h.0 ≡ k.0 = refused_is {A = Module} h.0 k.0 (sym (tells features bytes h.0 h.1) ∙ tells features bytes k.0 k.1) in
    let left : h.0.left ≡ k.0.left = ap (λ (s : Stop). s.left) same in
    let a = h.3 in
    let b = k.3 in
    (sym h.2 ∙ ap (λ (s : Stop). s.trouble) same ∙ k.2, omega (arith, left, a, b))

pub stops_inside : StopsInside
stops_inside features bytes trouble place h = let sum = h.3 in omega (arith, sum)

pub stops_for_good : StopsForGood
stops_for_good features bytes e place small h sum = elim (sections_stop_for_good features bytes e small h) [
  | inl cut ↦ inl cut
  | inr decided ↦ inr (λ more all short. (moved (length more) e, (short, inl (decided more all)), refl, omega (arith, sum, length-append bytes more)))
]

pub bodies_stop_for_good : BodiesStopForGood
bodies_stop_for_good features bytes others s t e place small all short h k a c stops sum =
    let inside = (codes_fit features bytes s small h).1 in
    let there = subst (AreInside (code_left others t)) (sym c) (codes_fit features others t all k).1 in
    let e = parsing_reads_all.moves (around features s) (code_left bytes s) (code_left others t) (codes s) e place inside there stops sum in
    (short, inr (t, k, moved_to (around features s) (around features t) (codes s) (codes t) a c e))
  where
    moved_to : (a b : Around) (cs ds : List Code) → a ≡ b → cs ≡ ds → StopsCodes a (code_left others t) cs (stop e.trouble (code_left others t - place))
        → StopsCodes b (code_left others t) ds (stop e.trouble (code_left others t - place))
    moved_to a b cs ds p q x = subst (λ (b : Around). StopsCodes b (code_left others t) ds (stop e.trouble (code_left others t - place))) p
        (subst (λ (ds : List Code). StopsCodes a (code_left others t) ds (stop e.trouble (code_left others t - place))) q x)
