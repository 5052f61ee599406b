-- Lemmas: each index of a file has an id in the module that was read; and no global is shared.
use Rattle.std.specs.Prelude.{ℕ, suc, ◌≡◌, Bool, true, false, List, [], ◌∷◌, length, map, drop, Option, Some, None, refl, if◌then◌else◌}
use Rattle.std.specs.Option.{is_some, option_map}
use Rattle.std.proofs.Common.{ap, sym, ◌∙◌}
use Rattle.std.proofs.lemmas.List.{length-map}
use Rattle.walrus_named_bodies.specs.walrus_file_bodies.walrus_items_into.walrus_module_env.walrus_handler_types.walrus_body_steps.wasm_body_grammar.Codes.{Code, ReadsCodes, filled_with, own_type, with_bodies}
use Rattle.walrus_named_bodies.specs.walrus_file_bodies.walrus_items_into.walrus_module_env.walrus_handler_types.walrus_body_steps.wasm_body_grammar.Laws.{BodiesReadOnce}
use Rattle.walrus_named_bodies.specs.walrus_file_bodies.walrus_items_into.walrus_module_env.walrus_handler_types.walrus_body_steps.wasm_body_grammar.Rules.{Around}
use Rattle.walrus_named_bodies.specs.walrus_file_bodies.walrus_items_into.walrus_module_env.walrus_handler_types.walrus_body_steps.wasm_body_grammar.wasm_grammar.Modules as grammar
use Rattle.walrus_named_bodies.specs.walrus_file_bodies.walrus_items_into.wasm_module_rules.Linked.{Each}
use Rattle.walrus_named_bodies.specs.walrus_file_bodies.walrus_items_into.walrus_tables_into.Globals.{IsGlobalOf}
use Rattle.walrus_named_bodies.specs.walrus_file_bodies.walrus_items_into.walrus_tables_into.walrus_sections_into.Slots.{Become}
use Rattle.walrus_named_bodies.specs.walrus_file_bodies.walrus_items_into.walrus_tables_into.walrus_section_values.declared.globals.Global.{Global as ReadGlobal}
use Rattle.walrus_named_bodies.specs.walrus_item_names.Names.{bare_global}
use Rattle.walrus_named_bodies.specs.walrus_item_names.walrus_module.walrus_module_items.declared.global.Global.{Global}
use Rattle.walrus_body_laws.specs.walrus_pairing.Looks.{Look}

-- ---- bodies

-- each reads as one body at most
pub codes_once : BodiesReadOnce → (a : Around) (codes : List Code) (xs ys : List grammar.Body) → ReadsCodes a codes xs → ReadsCodes a codes ys → xs ≡ ys
codes_once once a [] [] [] h k = refl
codes_once once a [] [] (y ∷ ys) h k = absurd k
codes_once once a [] (x ∷ xs) ys h k = absurd h
codes_once once a (c ∷ codes) [] ys h k = absurd h
codes_once once a (c ∷ codes) (x ∷ xs) [] h k = absurd k
codes_once once a (c ∷ codes) (x ∷ xs) (y ∷ ys) h k =
    ap (λ (z : grammar.Body). z ∷ xs) (once a c.params c.chunk.place c.chunk.bytes x y h.0 k.0) ∙ ap (λ (l : List grammar.Body). y ∷ l) (codes_once once a codes xs ys h.1 k.1)

one_many : (b : Bool) (x y : Option grammar.Function) (xs ys : List (Option grammar.Function)) (n : ℕ) → length xs ≡ n → length ys ≡ n → length (if b then (x ∷ xs) else (y ∷ ys)) ≡ suc n
one_many true x y xs ys n h k = ap suc h
one_many false x y xs ys n h k = ap suc k

-- functions are as many with their bodies
pub as_many_bodied : (fs : List (Option grammar.Function)) (xs : List grammar.Body) → length (with_bodies fs xs) ≡ length fs
as_many_bodied [] xs = refl
as_many_bodied (f ∷ fs) xs =
    one_many (is_some (own_type f)) (filled_with f xs) f (with_bodies fs (drop 1 xs)) (with_bodies fs xs) (length fs) (as_many_bodied fs (drop 1 xs)) (as_many_bodied fs xs)

-- filled slots are as many as what they are filled with
pub slots_many : {X Y : Type 0} (f : X → Y) (xs : List X) → length (map (λ (x : X). Some (f x)) xs) ≡ length xs
slots_many f xs = length-map xs (λ x. Some (f x))

-- ---- globals

abbrev pub IsUnshared : Global → Type 0
IsUnshared g = g.shared ≡ false

pub unshared : (look : Look) (reads : List ReadGlobal) (gs : List (Option Global)) (first : ℕ) → Become (IsGlobalOf look) reads gs first → Each IsUnshared gs
unshared look [] [] first h = tt
unshared look [] (g ∷ gs) first h = absurd h
unshared look (x ∷ reads) [] first h = absurd h
unshared look (x ∷ reads) (None ∷ gs) first h = absurd h
unshared look (x ∷ reads) (Some g ∷ gs) first h = (h.0.shared, unshared look reads gs (suc first) h.1)

abbrev first_of : List (Option Global) → Option Global
first_of [] = None
first_of (g ∷ gs) = g

-- names aside they are the same
pub unshared_bare : (xs ys : List (Option Global)) → map (option_map bare_global) xs ≡ map (option_map bare_global) ys → Each IsUnshared xs → Each IsUnshared ys
unshared_bare [] [] e h = tt
unshared_bare [] (y ∷ ys) e h = absurd cc
unshared_bare (x ∷ xs) [] e h = absurd cc
unshared_bare (None ∷ xs) (None ∷ ys) e h = unshared_bare xs ys (ap (drop 1) e) h
unshared_bare (None ∷ xs) (Some y ∷ ys) e h = absurd (let z : None ≡ Some (bare_global y) = ap first_of e in cc)
unshared_bare (Some x ∷ xs) (None ∷ ys) e h = absurd (let z : Some (bare_global x) ≡ None = ap first_of e in cc)
unshared_bare (Some x ∷ xs) (Some y ∷ ys) e h = (sym (shared_is (bare_global x) (bare_global y) (ap first_of e)) ∙ h.0, unshared_bare xs ys (ap (drop 1) e) h.1)
  where
    shared_is : (a b : Global) → Some a ≡ Some b → a.shared ≡ b.shared
    shared_is a b e = let one : a ≡ b = cc in ap (λ (g : Global). g.shared) one
