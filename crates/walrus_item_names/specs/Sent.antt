-- What the names of a file are given to in a module in memory: items under their ids.
use Rattle.std.specs.Prelude.{ℕ, zero, suc, ◌+◌, ◌<◌, ◌≡◌, ◌==◌, ◌&&◌, Bool, true, false, List, [], ◌∷◌, ◌++◌, length, map, take, Option, Some, None, slice_get, slice_index_or, if◌then◌else◌}
use Rattle.std.specs.List.{flat_map}
use Rattle.std.specs.Option.{option_map}
use Rattle.std.proofs.Common.{ap, sym, ◌∙◌, arith}
use Rattle.std.proofs.lemmas.List.{append_assoc, append-nil}
use Rattle.wasm_formats.specs.declared.fault.Space.TheVariants as spaces
use Rattle.wasm_name_payloads.specs.Names.{Bearer, TheModule, AnItem, ALocal, Given, given, item_in}
use Rattle.walrus_index_maps.specs.Maps.{Ids}
use Rattle.walrus_payloads_into.specs.Numbered.{ids_in, locals_in}

-- the same with the id that the number names; a local of a function is an item of the space of locals
abbrev pub sent : Ids → Bearer → Option Bearer
sent ids TheModule = Some TheModule
sent ids (AnItem x) = option_map (item_in x.space) (slice_get (ids_in ids x.space) x.number)
sent ids (ALocal function local) = option_map (item_in spaces.Local) (slice_get (locals_in ids function) local)

-- an empty name of a local, where these are skipped
abbrev pub is_local : Bearer → Bool
is_local (ALocal function local) = true
is_local _ = false

abbrev pub is_skipped : Bool → Given → Bool
is_skipped skips g = skips && is_local g.bearer && length g.name == 0

abbrev pub given_if : Option Bearer → List ℕ → List Given
given_if None name = []
given_if (Some bearer) name = given bearer name ∷ []

abbrev pub sent_name : Bool → Ids → Given → List Given
sent_name skips ids g = if is_skipped skips g then [] else given_if (sent ids g.bearer) g.name

-- what isn't there gets none
abbrev pub sent_names : Bool → Ids → List Given → List Given
sent_names skips ids names = flat_map (sent_name skips ids) names

-- ---- Lemma: what is made of a front, and of one more

one_behind : {X Y Z : Type 0} (f : Y → List Z) (v : X → Y) (xs : List X) (i : ℕ) (other now : X) → now ≡ slice_index_or xs i other → i < length xs
    → flat_map f (map v (take (suc i) xs)) ≡ flat_map f (map v (take i xs)) ++ f (v now)
one_behind f v [] i other now is lt = absurd (omega (arith, lt))
one_behind f v (x ∷ xs) zero other now is lt = append-nil (f (v x)) ∙ ap (λ y. f (v y)) (sym is)
one_behind {X} {Y} {Z} f v (x ∷ xs) (suc i) other now is lt =
    ap (λ (l : List Z). f (v x) ++ l) (one_behind f v xs i other now is (omega (arith, lt))) ∙ sym (append_assoc (f (v x)) (flat_map f (map v (take i xs))) (f (v now)))

pub one_more : {X Y Z : Type 0} (f : Y → List Z) (v : X → Y) (xs : List X) (i : ℕ) (other now : X) → now ≡ slice_index_or xs i other → i < length xs
    → flat_map f (map v (take (i + 1) xs)) ≡ flat_map f (map v (take i xs)) ++ f (v now)
one_more f v xs i other now is lt =
    let one : i + 1 ≡ suc i = omega arith in
    ap (λ (k : ℕ). flat_map f (map v (take k xs))) one ∙ one_behind f v xs i other now is lt
