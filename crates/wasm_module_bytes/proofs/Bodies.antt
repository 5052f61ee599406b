-- Lemmas: bodies in their shortest bytes, one behind another.
use Rattle.std.specs.Prelude.{ℕ, ◌≡◌, List, [], ◌∷◌, length, map, drop, Option, Some, None, refl}
use Rattle.std.specs.Option.{is_some}
use Rattle.std.proofs.Common.{ap, sym, ◌∙◌, subst, arith, inl, inr}
use Rattle.std.proofs.lemmas.Bool.{cases_Bool}
use Rattle.wasm_formats.specs.Formats.{Small}
use Rattle.wasm_operators.specs.Operators.{Seen}
use Rattle.wasm_grammar.specs.Modules.{Own, Placed, Body, Function, Module}
use Rattle.wasm_grammar.specs.States.{Chunk}
use Rattle.wasm_body_grammar.specs.Rules.{Around}
use Rattle.wasm_body_grammar.specs.Laws.{ReadsBody}
use Rattle.wasm_body_grammar.specs.Codes.{param_count, own_type, coded, ReadsCodes, filled_with, with_bodies}
use Rattle.wasm_grammar_bytes.specs.Bodies.{op_of}
use Rattle.wasm_grammar_bytes.specs.Shortest.{body_bytes, bodies_have_shortest}
use Rattle.wasm_module_bytes.specs.Bytes.{bodies_bytes, unplaced, body_unplaced, slot_unplaced}
use Rattle.wasm_module_bytes.proofs.Sections.{AreBelow}

abbrev pub AreSmall : List Chunk → Type 0
AreSmall [] = Unit {0}
AreSmall (c ∷ cs) = Small c.bytes × AreSmall cs

abbrev pub bytes_of : List Chunk → List (List ℕ)
bytes_of cs = map (λ (c : Chunk). c.bytes) cs

-- ---- one body

map_unplaced : (xs ys : List Placed) → map op_of xs ≡ map op_of ys → map unplaced xs ≡ map unplaced ys
map_unplaced [] [] e = refl
map_unplaced [] (y ∷ ys) e = absurd cc
map_unplaced (x ∷ xs) [] e = absurd cc
map_unplaced (x ∷ xs) (y ∷ ys) e =
    ap (λ (op : Seen). record { place = 0; op = op } ∷ map unplaced xs) (head_is x.op y.op (map op_of xs) (map op_of ys) e)
    ∙ ap (λ (l : List Placed). record { place = 0; op = y.op } ∷ l) (map_unplaced xs ys (tail_is x.op y.op (map op_of xs) (map op_of ys) e))
  where
    head_is : (a b : Seen) (xs ys : List Seen) → a ∷ xs ≡ b ∷ ys → a ≡ b
    head_is a b xs ys e = cc

    tail_is : (a b : Seen) (xs ys : List Seen) → a ∷ xs ≡ b ∷ ys → xs ≡ ys
    tail_is a b xs ys e = cc

body_same : (x y : Body) → y.locals ≡ x.locals → map op_of y.operators ≡ map op_of x.operators → body_unplaced y ≡ body_unplaced x
body_same x y e f =
    let g = map_unplaced y.operators x.operators f in
    λ i. record { locals = e i; operators = g i }

-- ---- bodies in order

abbrev pub AreAlike : List Body → List Body → Type 0
AreAlike [] [] = Unit {0}
AreAlike (x ∷ xs) (y ∷ ys) = (body_unplaced y ≡ body_unplaced x) × AreAlike xs ys
AreAlike _ _ = ⊥

pub codes_below : (a : Around) (m : Module) (types : List ℕ) (cs : List Chunk) (xs : List Body) → length cs ≡ length types → AreSmall cs → ReadsCodes a (coded m types cs) xs
    → AreBelow (bodies_bytes a (coded m types cs) xs) cs
codes_below a m [] [] xs n small h = tt
codes_below a m [] (c ∷ cs) xs n small h = absurd (omega (arith, n))
codes_below a m (ty ∷ types) [] xs n small h = absurd (omega (arith, n))
codes_below a m (ty ∷ types) (c ∷ cs) [] n small h = absurd h
codes_below a m (ty ∷ types) (c ∷ cs) (x ∷ xs) n small h =
    let one = bodies_have_shortest a (param_count m ty) c.place c.place c.bytes x small.0 h.0 in
    let r = one.1 in
    (r.least, codes_below a m types cs xs (omega (arith, n)) small.1 h.1)

-- chunks of these bytes, wherever they begin
pub codes_again : (a : Around) (m : Module) (types : List ℕ) (cs ds : List Chunk) (xs : List Body) → length cs ≡ length types → AreSmall cs → ReadsCodes a (coded m types cs) xs
    → bytes_of ds ≡ bodies_bytes a (coded m types cs) xs → (ys : List Body) × ReadsCodes a (coded m types ds) ys × AreAlike xs ys
codes_again a m [] [] ds [] n small h e = ([], tt, tt)
codes_again a m [] [] ds (x ∷ xs) n small h e = absurd h
codes_again a m [] (c ∷ cs) ds xs n small h e = absurd (omega (arith, n))
codes_again a m (ty ∷ types) [] ds xs n small h e = absurd (omega (arith, n))
codes_again a m (ty ∷ types) (c ∷ cs) ds [] n small h e = absurd h
codes_again a m (ty ∷ types) (c ∷ cs) [] (x ∷ xs) n small h e = absurd cc
codes_again a m (ty ∷ types) (c ∷ cs) (d ∷ ds) (x ∷ xs) n small h e =
    let params = param_count m ty in
    let one = bodies_have_shortest a params c.place d.place c.bytes x small.0 h.0 in
    let r = one.1 in
    let own = head_is d.bytes (body_bytes a params x) (bytes_of ds) (bodies_bytes a (coded m types cs) xs) e in
    let rest = codes_again a m types cs ds xs (omega (arith, n)) small.1 h.1 (tail_is d.bytes (body_bytes a params x) (bytes_of ds) (bodies_bytes a (coded m types cs) xs) e) in
    (one.0 ∷ rest.0, (subst (λ (l : List ℕ). ReadsBody a params d.place l one.0) (sym own) r.reads, rest.1), (body_same x one.0 r.locals r.operators, rest.2))
  where
    head_is : (b c : List ℕ) (bs cs : List (List ℕ)) → b ∷ bs ≡ c ∷ cs → b ≡ c
    head_is b c bs cs e = cc

    tail_is : (b c : List ℕ) (bs cs : List (List ℕ)) → b ∷ bs ≡ c ∷ cs → bs ≡ cs
    tail_is b c bs cs e = cc

-- ---- a module with them

filled_alike : (f : Option Function) (xs ys : List Body) → AreAlike xs ys → slot_unplaced (filled_with f ys) ≡ slot_unplaced (filled_with f xs)
filled_alike None xs ys h = refl
filled_alike (Some f) [] [] h = refl
filled_alike (Some f) [] (y ∷ ys) h = absurd h
filled_alike (Some f) (x ∷ xs) [] h = absurd h
filled_alike (Some f) (x ∷ xs) (y ∷ ys) h = ap (λ (b : Body). Some (record { ty = f.ty; origin = Own b })) h.0

dropped_alike : (xs ys : List Body) → AreAlike xs ys → AreAlike (drop 1 xs) (drop 1 ys)
dropped_alike [] [] h = tt
dropped_alike [] (y ∷ ys) h = absurd h
dropped_alike (x ∷ xs) [] h = absurd h
dropped_alike (x ∷ xs) (y ∷ ys) h = h.1

pub bodies_alike : (fs : List (Option Function)) (xs ys : List Body) → AreAlike xs ys → map slot_unplaced (with_bodies fs ys) ≡ map slot_unplaced (with_bodies fs xs)
bodies_alike [] xs ys h = refl
bodies_alike (f ∷ fs) xs ys h = elim (cases_Bool (is_some (own_type f))) as (λ _. map slot_unplaced (with_bodies (f ∷ fs) ys) ≡ map slot_unplaced (with_bodies (f ∷ fs) xs)) [
  | inl own ↦ rw own (ap (λ (o : Option Function). o ∷ map slot_unplaced (with_bodies fs (drop 1 ys))) (filled_alike f xs ys h)
      ∙ ap (λ (l : List (Option Function)). slot_unplaced (filled_with f xs) ∷ l) (bodies_alike fs (drop 1 xs) (drop 1 ys) (dropped_alike xs ys h)))
  | inr other ↦ rw other (ap (λ (l : List (Option Function)). slot_unplaced f ∷ l) (bodies_alike fs xs ys h))
]
