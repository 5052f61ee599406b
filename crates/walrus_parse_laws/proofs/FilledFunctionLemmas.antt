-- Lemmas: functions that were added are what was read, and mean it.
use Rattle.std.proofs.Common.{◌≡◌, ◌∙◌, ◌<◌, ℕ, zero, suc, List, [], ◌∷◌, length, Option, Some, None, slice_get, refl, sym, ap, arith}
use Rattle.std.proofs.lemmas.List.Elements.{All-head, All-tail}
use Rattle.walrus_named_bodies.specs.walrus_file_bodies.walrus_items_into.walrus_module_bodies.walrus_body_trees.walrus_meaning.walrus_local_function.walrus_body_locals.wasm_grammar.Modules.{Origin, Body, Function as GrammarFunction}
use Rattle.walrus_named_bodies.specs.walrus_file_bodies.walrus_items_into.walrus_tables_into.walrus_sections_into.walrus_forms.Renaming.{at}
use Rattle.walrus_named_bodies.specs.walrus_file_bodies.walrus_items_into.walrus_tables_into.walrus_sections_into.walrus_known_sections.declared.items.Function.{Function as ReadFunction}
use Rattle.walrus_named_bodies.specs.walrus_file_bodies.walrus_items_into.walrus_tables_into.walrus_sections_into.walrus_known_sections.Items.{function_of, function_origin}
use Rattle.walrus_named_bodies.specs.walrus_file_bodies.walrus_items_into.walrus_tables_into.walrus_sections_into.walrus_pairing.Looks.{Look}
use Rattle.walrus_named_bodies.specs.walrus_file_bodies.walrus_items_into.walrus_tables_into.walrus_sections_into.walrus_pairing.walrus_items.declared.local.Local.{Local}
use Rattle.walrus_named_bodies.specs.walrus_file_bodies.walrus_items_into.walrus_tables_into.walrus_sections_into.wasm_operators.Items.{Types}
use Rattle.walrus_named_bodies.specs.walrus_file_bodies.walrus_items_into.walrus_tables_into.walrus_sections_into.Slots.{Become}
use Rattle.walrus_named_bodies.specs.walrus_file_bodies.walrus_items_into.walrus_module_bodies.walrus_body_trees.walrus_meaning.walrus_linked.walrus_module_items.declared.function.Function.{Function}
use Rattle.walrus_named_bodies.specs.walrus_file_bodies.walrus_items_into.walrus_module_bodies.walrus_body_trees.walrus_meaning.walrus_linked.walrus_module_items.Functions.{type_of}
use Rattle.walrus_named_bodies.specs.walrus_file_bodies.walrus_items_into.walrus_module_bodies.walrus_body_trees.walrus_meaning.Meaning.{own_function, own_origin}
use Rattle.walrus_named_bodies.specs.walrus_file_bodies.walrus_items_into.walrus_functions_into.Functions.{AreTyped, functions_from, kind_of}
use Rattle.walrus_parse_laws.specs.Functions.{IsFunctionOf, FunctionsFill}
use Rattle.walrus_parse_laws.specs.Renamed.{retyped_function}
use Rattle.walrus_parse_laws.specs.Meaning.{type_id, FunctionsMean}
use Rattle.walrus_parse_laws.proofs.Seeing.{as_changed, nothing_asked, type_is}

there : (ids : List ℕ) (i : ℕ) → i < length ids → slice_get ids i ≡ Some (at ids i)
there [] i lt = absurd (omega (arith, lt))
there (id ∷ ids) zero lt = refl
there (id ∷ ids) (suc i) lt = there ids i (omega (arith, lt))

kind_type : (ty : ℕ) (import : Option ℕ) → type_of (kind_of ty import) ≡ ty
kind_type ty None = refl
kind_type ty (Some n) = refl

all_become : (look : Look) (types : List ℕ) (id : ℕ) (reads : List ReadFunction) → ((n : ℕ) → look Types n ≡ slice_get types n) → AreTyped types reads
    → Become (IsFunctionOf look) reads (functions_from types id reads) id
all_become look types id [] same typed = tt
all_become look types id (r ∷ reads) same typed =
    let ty = at types r.ty in
    let is = kind_type ty r.import in (
      record {
        id = refl;
        ty = same r.ty ∙ there types r.ty (All-head (λ (f : ReadFunction). f.ty < length types) r reads typed) ∙ sym (ap (λ (n : ℕ). Some n) is);
        kind = sym (ap (λ (n : ℕ). kind_of n r.import) is);
      },
      all_become look types (suc id) reads same (All-tail (λ (f : ReadFunction). f.ty < length types) r reads typed),
    )

pub functions_fill : FunctionsFill
functions_fill look types reads old new same typed added =
    record { more = functions_from types (length old.slots) reads; behind = added; become = all_become look types (length old.slots) reads same typed }

-- ---- what they mean

origin_is : (locals : List Local) (ty : ℕ) (import : Option ℕ) → own_origin locals (kind_of ty import) ≡ function_origin import
origin_is locals ty None = refl
origin_is locals ty (Some n) = refl

both : (a b : ℕ) (o p : Origin Body) → a ≡ b → o ≡ p → ◌≡◌ {A = GrammarFunction} (record { ty = a; origin = o }) (record { ty = b; origin = p })
both a b o p same other = rw (same, other) refl

function_means : (look : Look) (locals : List Local) (slot : ℕ) (r : ReadFunction) (f : Function) → IsFunctionOf look slot r f → own_function locals f ≡ retyped_function (type_id look) (function_of r)
function_means look locals slot r f h =
    both _ _ _ _ (type_is look r.ty (type_of f.kind) h.ty) (ap (own_origin locals) h.kind ∙ origin_is locals (type_of f.kind) r.import)

pub functions_mean : FunctionsMean
functions_mean s look locals new h =
    as_changed (IsFunctionOf look) function_of (own_function locals) (λ f. Unit {0}) (retyped_function (type_id look)) (λ slot r f _ is. function_means look locals slot r f is)
    s.functions.items new (nothing_asked function_of s.functions.items) h
