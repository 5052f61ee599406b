-- Names of what has numbers, one number after another.
use Rattle.std.proofs.Common.{◌≡◌, ◌∙◌, ◌+◌, ◌<◌, ◌≤◌, ℕ, zero, suc, false, List, [], ◌∷◌, ◌++◌, length, map, Option, Some, None, slice_get, slice_index_or, refl, sym, ap, subst, arith}
use Rattle.std.specs.List.{flat_map, range_with_len}
use Rattle.std.specs.Option.{option_map, option_and_then}
use Rattle.std.proofs.lemmas.List.{append_assoc, append-nil}
use Rattle.wasm_name_payloads.specs.Joined.{flat_map_append}
use Rattle.wasm_formats.specs.declared.fault.Space.TheVariants as spaces
use Rattle.wasm_name_payloads.specs.Names.{Bearer, Given, given, item_in}
use Rattle.walrus_arena.specs.Arena.{item_at}
use Rattle.walrus_payloads_into.specs.Numbered.{locals_in}
use Rattle.walrus_index_maps.specs.Maps.{Ids}
use Rattle.walrus_item_names.specs.Holder.{Holder}
use Rattle.walrus_module.specs.walrus_module_items.declared.function.Function.{Function}
use Rattle.walrus_item_names.specs.Names.{unnamed, bare_function}
use Rattle.walrus_item_names.specs.Sent.{sent, given_if, sent_name, sent_names}
use Rattle.walrus_item_names.specs.Gives.{GivesNames, gives_none, gives_both}
use Rattle.walrus_item_names.specs.Synthetic.{each_below, args_of, body_args, function_text, local_names, function_names, synthetic_at}
use Rattle.walrus_item_names.specs.Targets.{target_bearer}
use Rattle.walrus_item_names.specs.declared.target.Target.{Target}
use Rattle.walrus_item_names.specs.declared.target.Target.TheVariants as targets

one_below : (f : ℕ → List Given) (n a : ℕ) → flat_map f (range_with_len a (suc n)) ≡ flat_map f (range_with_len a n) ++ f (a + n)
one_below f zero a = let e : a ≡ a + 0 = omega arith in append-nil (f a) ∙ ap f e
one_below f (suc n) a =
    let e : a + 1 + n ≡ a + suc n = omega arith in
    ap (λ (l : List Given). f a ++ l) (one_below f n (a + 1) ∙ ap (λ (k : ℕ). flat_map f (range_with_len (a + 1) n) ++ f k) e)
    ∙ sym (append_assoc (f a) (flat_map f (range_with_len (a + 1) n)) (f (a + suc n)))

module _ (maps : Ids) where
  -- of one more number
  pub gives_next : (f : ℕ → List Given) (n : ℕ) (a b c : Holder) → GivesNames (sent_names false maps (each_below n f)) a b → GivesNames (sent_names false maps (f n)) b c
      → GivesNames (sent_names false maps (each_below (n + 1) f)) a c
  gives_next f n a b c first second =
      let one : n + 1 ≡ suc n = omega arith in
      let zeroth : 0 + n ≡ n = omega arith in
      subst (λ (names : List Given). GivesNames names a c)
      (sym (
      ap (λ (k : ℕ). sent_names false maps (each_below k f)) one
      ∙ ap (sent_names false maps) (one_below f n 0)
      ∙ ap (λ (k : ℕ). sent_names false maps (each_below n f ++ f k)) zeroth
      ∙ flat_map_append (sent_name false maps) (each_below n f) (f n)
      ))
      (gives_both (sent_names false maps (each_below n f)) (sent_names false maps (f n)) a b c first second)

  -- what is there gets its name
  pub gives_this : (bearer : Bearer) (to : Target) (name text : List ℕ) (a b : Holder) → option_map target_bearer (Some to) ≡ sent maps bearer → name ≡ text
      → GivesNames (given (target_bearer to) name ∷ []) a b → GivesNames (sent_names false maps (given bearer text ∷ [])) a b
  gives_this bearer to name text a b there is gives =
      subst (λ (names : List Given). GivesNames names a b) (ap (λ (l : List ℕ). given (target_bearer to) l ∷ []) is ∙ ap (λ (o : Option Bearer). given_if o text ++ []) there) gives

  -- then what stands behind it
  pub gives_then : (g : Given) (more : List Given) (a b c : Holder) → GivesNames (sent_names false maps (g ∷ [])) a b → GivesNames (sent_names false maps more) b c → GivesNames (sent_names false maps (g ∷ more)) a c
  gives_then g more a b c first second =
      subst (λ (names : List Given). GivesNames names a c) (ap (λ (l : List Given). l ++ sent_names false maps more) (append-nil (sent_name false maps g)))
      (gives_both (sent_names false maps (g ∷ [])) (sent_names false maps more) a b c first second)

-- a function of so many arguments, and its locals
module _ (maps : Ids) (m : Holder) (number id : ℕ) (named : slice_get maps.functions number ≡ Some id) where
  at_body : (o : Option ℕ) → o ≡ args_of (item_at m.funcs id) → synthetic_at maps m number ≡ function_names number (length (locals_in maps number)) o
  at_body o counted =
      ap (λ (s : Option ℕ). function_names number (length (locals_in maps number)) (option_and_then (body_args m) s)) named
      ∙ ap (function_names number (length (locals_in maps number))) (sym counted)

  pub function_gives : (k n : Holder) (args : ℕ) (name : List ℕ) → Some args ≡ args_of (item_at m.funcs id) → name ≡ function_text number → GivesNames (given (item_in spaces.Function id) name ∷ []) m k
      → GivesNames (sent_names false maps (each_below (length (locals_in maps number)) (local_names number args))) k n → GivesNames (sent_names false maps (synthetic_at maps m number)) m n
  function_gives k n args name counted is first second =
      let this = gives_this maps (item_in spaces.Function number) (targets.Function id) name (function_text number) m k (sym (ap (option_map (item_in spaces.Function)) named)) is first in
      subst (λ (names : List Given). GivesNames (sent_names false maps names) m n) (sym (at_body (Some args) counted))
      (gives_then maps (given (item_in spaces.Function number) (function_text number)) (each_below (length (locals_in maps number)) (local_names number args)) m k n this second)

  pub bodiless_gives : None ≡ args_of (item_at m.funcs id) → GivesNames (sent_names false maps (synthetic_at maps m number)) m m
  bodiless_gives counted = subst (λ (names : List Given). GivesNames (sent_names false maps names) m m) (sym (at_body None counted)) (gives_none m)

-- names aside there are the same bodies
args_bare : (slots : List (Option Function)) (id : ℕ) → args_of (slice_index_or (map (option_map bare_function) slots) id None) ≡ args_of (slice_index_or slots id None)
args_bare [] zero = refl
args_bare [] (suc id) = refl
args_bare (None ∷ slots) zero = refl
args_bare (Some f ∷ slots) zero = refl
args_bare (x ∷ slots) (suc id) = args_bare slots id

pub same_args : (m n : Holder) (id : ℕ) → unnamed n ≡ unnamed m → body_args n id ≡ body_args m id
same_args m n id same = sym (args_bare n.funcs.slots id) ∙ ap (λ (k : Holder). body_args k id) same ∙ args_bare m.funcs.slots id

-- a look-up answers below the count alone
pub below : {X Y : Type 0} (h : X → Y) (xs : List X) (n : ℕ) (y : Y) → Some y ≡ option_map h (slice_get xs n) → n < length xs
below h [] zero y e = absurd cc
below h [] (suc n) y e = absurd cc
below h (x ∷ xs) zero y e = omega arith
below h (x ∷ xs) (suc n) y e = let less = below h xs n y e in omega (arith, less)

pub past : {X Y : Type 0} (h : X → Y) (xs : List X) (n : ℕ) → None ≡ option_map h (slice_get xs n) → length xs ≤ n
past h [] n e = omega arith
past h (x ∷ xs) zero e = absurd cc
past h (x ∷ xs) (suc n) e = let less = past h xs n e in omega (arith, less)

pub gives_all : (maps : Ids) (f : ℕ → List Given) (n count : ℕ) (a b : Holder) → n ≤ count → count ≤ n → GivesNames (sent_names false maps (each_below n f)) a b → GivesNames (sent_names false maps (each_below count f)) a b
gives_all maps f n count a b h k gives = let e : n ≡ count = omega (arith, h, k) in subst (λ (m : ℕ). GivesNames (sent_names false maps (each_below m f)) a b) e gives

pub same_synthetic : (maps : Ids) (m n : Holder) (number : ℕ) → unnamed n ≡ unnamed m → synthetic_at maps n number ≡ synthetic_at maps m number
same_synthetic maps m n number same = at_number (slice_get maps.functions number)
  where
    at_number : (o : Option ℕ) → function_names number (length (locals_in maps number)) (option_and_then (body_args n) o) ≡ function_names number (length (locals_in maps number)) (option_and_then (body_args m) o)
    at_number None = refl
    at_number (Some id) = ap (function_names number (length (locals_in maps number))) (same_args m n id same)
