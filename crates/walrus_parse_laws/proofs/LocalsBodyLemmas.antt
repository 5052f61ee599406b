-- Lemmas: the locals of one body, behind which and before which others stand.
use Rattle.std.specs.Prelude.{ℕ, ◌≡◌, ◌⊎◌, ◌<◌, ◌≤◌, ◌+◌, ◌-◌, ◌&&◌, not, Bool, true, false, List, [], ◌∷◌, ◌++◌, length, map, Option, Some, slice_get, refl}
use Rattle.std.specs.List.{filter, flat_map, range_with_len}
use Rattle.std.specs.Option.{unwrap_or}
use Rattle.std.proofs.Common.{ap, sym, ◌∙◌, subst, arith, inl, inr}
use Rattle.std.proofs.lemmas.Bool.{cases_lt}
use Rattle.std.proofs.lemmas.List.{length-append, length-map}
use Rattle.walrus_named_bodies.specs.walrus_file_bodies.walrus_body_trees.walrus_body_nesting.wasm_body_grammar.Rules.{Around}
use Rattle.walrus_named_bodies.specs.walrus_file_bodies.walrus_body_trees.walrus_body_nesting.wasm_body_grammar.wasm_grammar.Modules as grammar
use Rattle.walrus_named_bodies.specs.walrus_file_bodies.walrus_body_trees.walrus_body_nesting.wasm_body_grammar.wasm_operators.Items.{Locals}
use Rattle.walrus_named_bodies.specs.walrus_file_bodies.walrus_items_into.walrus_module_bodies.walrus_body_trees.walrus_meaning.walrus_local_function.walrus_body_locals.wasm_normal_form.Bodies.{is_used, local_in, locals_named, new_number, used_keys}
use Rattle.walrus_named_bodies.specs.walrus_file_bodies.walrus_items_into.walrus_module_bodies.walrus_body_trees.walrus_meaning.walrus_local_function.walrus_body_locals.wasm_normal_form.Locals.{Key, in_order, numbered}
use Rattle.walrus_named_bodies.specs.walrus_file_bodies.walrus_items_into.walrus_module_bodies.walrus_body_trees.walrus_meaning.walrus_local_function.walrus_body_locals.wasm_normal_form.Normal.{normal_ops}
use Rattle.walrus_named_bodies.specs.walrus_file_bodies.walrus_items_into.walrus_module_bodies.walrus_body_trees.walrus_meaning.walrus_local_function.walrus_body_locals.wasm_normal_form.Roles.{Placed}
use Rattle.walrus_named_bodies.specs.walrus_file_bodies.walrus_items_into.walrus_module_env.wasm_run_names.Picks.{block_pick}
use Rattle.walrus_named_bodies.specs.walrus_file_bodies.walrus_items_into.walrus_module_bodies.walrus_body_trees.walrus_meaning.walrus_local_function.walrus_body_locals.Locals.{ids_from, kept_ids}
use Rattle.walrus_named_bodies.specs.walrus_file_bodies.walrus_items_into.walrus_module_bodies.walrus_body_trees.walrus_meaning.walrus_local_function.walrus_body_locals.Named.{kept_of}
use Rattle.walrus_named_bodies.specs.walrus_file_bodies.walrus_body_trees.Laws.{meant, renamed}
use Rattle.walrus_named_bodies.specs.walrus_file_bodies.walrus_body_trees.walrus_body_nesting.wasm_body_grammar.wasm_grammar.walrus_forms.Renaming.{at, renamed_value}
use Rattle.walrus_named_bodies.specs.walrus_file_bodies.walrus_body_trees.walrus_body_nesting.wasm_body_grammar.wasm_grammar.walrus_forms.declared.value.ValType.{ValType}
use Rattle.walrus_named_bodies.specs.walrus_file_bodies.walrus_items_into.walrus_module_bodies.walrus_body_trees.walrus_meaning.walrus_body_writer.walrus_pairing.walrus_index_maps.Maps.{Ids}
use Rattle.walrus_named_bodies.specs.walrus_file_bodies.walrus_items_into.walrus_module_bodies.walrus_body_trees.walrus_meaning.walrus_body_writer.walrus_pairing.walrus_items.declared.local.Local.{Local}
use Rattle.walrus_named_bodies.specs.walrus_file_bodies.walrus_items_into.walrus_module_bodies.walrus_body_trees.walrus_meaning.walrus_local_function.declared.local_function.LocalFunction.{LocalFunction}
use Rattle.walrus_named_bodies.specs.walrus_file_bodies.walrus_items_into.walrus_module_bodies.walrus_body_trees.walrus_meaning.Bodies.{local_ids, named_locals, own_operators, used_locals}
use Rattle.walrus_parse_laws.specs.BodiesTexts.{naming, text_of}
use Rattle.walrus_parse_laws.specs.Locals.{kept_numbers}
use Rattle.walrus_parse_laws.proofs.IdLemmas.{get_id, has_no_other, has_own, ids_by_number, many_ids, types_of}
use Rattle.walrus_parse_laws.proofs.KeyLemmas.{has, moved, types_moved}
use Rattle.walrus_parse_laws.proofs.ListLemmas.{AllOf}
use Rattle.walrus_parse_laws.proofs.LocalsNameLemmas.{Below, locals_again}
use Rattle.walrus_parse_laws.proofs.PlaceLemmas.{at_new_number, get_behind, get_front, got, has_below, used_has}
use Rattle.walrus_parse_laws.proofs.RankLemmas.{IsKept, get_kept, ids_ranked, map_ranked, names_below, own_flag, rank, ranked, ranked_key, ranked_own, ranked_param, types_ranked, used_kept, used_ranked}
use Rattle.walrus_parse_laws.proofs.SplitLemmas.{used_are}

-- what a body names it names as it is meant
named_so : (ops : List grammar.Placed) → named_locals ops ≡ locals_named (map meant ops)
named_so [] = refl
named_so (o ∷ ops) = ap (λ (l : List ℕ). flat_map local_in o.op.items ++ l) (named_so ops)

moved_below : (first most total : ℕ) → first + most ≤ total → (ns : List ℕ) → AllOf (Below most) ns → AllOf (Below total) (map (λ (n : ℕ). first + n) ns)
moved_below first most total le [] h = tt
moved_below first most total le (n ∷ ns) h = (let lt = h.0 in omega (arith, le, lt), moved_below first most total le ns h.1)

-- ---- one body: behind these locals stand its function's parameters, and of those that it declares those that are kept, which it names

module _ (locals : List Local) (local : LocalFunction) (found : Ids) (a : Around) (number : ℕ) (x : grammar.Body) (before more : List Local) (params : List ValType) (ks : List Bool) (many : length ks ≡ length x.locals)
    (args : local.args.items ≡ ids_from (length before) params)
    (types : types_of locals ≡ types_of before ++ (params ++ (kept_of ks (map (renamed_value (at found.types)) x.locals) ++ types_of more)))
    (ids : found.locals number ≡ ids_from (length before) params ++ kept_ids (length before + length params) ks)
    (below : AllOf (Below (length params + length x.locals)) (locals_named (normal_ops (block_pick a) (text_of x))))
    (kept : AllOf (IsKept (length params) ks) (locals_named (normal_ops (block_pick a) (text_of x))))
    (operators : map meant (own_operators local) ≡ map (renamed (naming found number)) (normal_ops (block_pick a) (text_of x))) where
  abbrev ops : List Placed
  ops = normal_ops (block_pick a) (text_of x)

  abbrev r : ℕ → ℕ
  r = naming found number Locals

  abbrev tys : List ValType
  tys = map (renamed_value (at found.types)) x.locals

  abbrev own : List ValType
  own = kept_of ks tys

  abbrev ranks : ℕ → ℕ
  ranks = ranked (length params) ks

  sized : length (types_of before) ≡ length before
  sized = length-map before (λ (l : Local). l.ty)

  total : length tys ≡ length x.locals
  total = length-map x.locals (renamed_value (at found.types))

  own_below : AllOf (Below (length params + length tys)) (locals_named ops)
  own_below = subst (λ (n : ℕ). AllOf (Below (length params + n)) (locals_named ops)) (sym total) below

  many_tys : length ks ≡ length tys
  many_tys = many ∙ sym total

  -- the id of an index of the function that names a local
  named : (n : ℕ) → IsKept (length params) ks n → r n ≡ length (types_of before) + ranks n
  named n k = elim (cases_lt n (length params)) as (λ _. r n ≡ length (types_of before) + ranks n) [
    | inl lt ↦
        let at_param : slice_get (found.locals number) n ≡ Some (length before + n) =
        ap (λ (l : List ℕ). slice_get l n) ids
        ∙ get_front (ids_from (length before) params) (kept_ids (length before + length params) ks) n (let size = many_ids (length before) params in omega (arith, lt, size))
        ∙ get_id (length before) params n lt in
        let is = ranked_param (length params) ks n lt in
        ap (λ (o : Option ℕ). unwrap_or o n) at_param ∙ omega (arith, sized, is)
    | inr le ↦
        let at_own : slice_get (found.locals number) n ≡ Some (length before + length params + rank (n - length params) ks) =
        ap (λ (l : List ℕ). slice_get l n) ids
        ∙ get_behind (ids_from (length before) params) (kept_ids (length before + length params) ks) (n - length params) n (let size = many_ids (length before) params in omega (arith, le, size))
        ∙ get_kept (length before + length params) ks (n - length params) (own_flag (length params) ks n le k) in
        let is = ranked_own (length params) ks n le in
        ap (λ (o : Option ℕ). unwrap_or o n) at_own ∙ omega (arith, sized, is)
  ]

  names_are : named_locals (own_operators local) ≡ map (λ (n : ℕ). length (types_of before) + n) (map ranks (locals_named ops))
  names_are =
      named_so (own_operators local) ∙ ap locals_named operators ∙ locals_again (naming found number) ops
      ∙ map_ranked r (length (types_of before)) (length params) ks named (locals_named ops) kept

  own_names : AllOf (Below (length params + length own)) (map ranks (locals_named ops))
  own_names = names_below (length params) ks tys many_tys (locals_named ops) kept (locals_named ops) kept

  -- each is a local of the module
  pub names_inside : AllOf (Below (length locals)) (named_locals (own_operators local))
  names_inside =
      let all = sym (length-map locals (λ (l : Local). l.ty)) ∙ ap (λ (l : List ValType). length l) types ∙ length-append (types_of before) (params ++ (own ++ types_of more)) in
      let behind = length-append params (own ++ types_of more) in
      let last = length-append own (types_of more) in
      subst (AllOf (Below (length locals))) (sym names_are)
      (moved_below (length (types_of before)) (length params + length own) (length locals) (omega (arith, all, behind, last)) (map ranks (locals_named ops)) own_names)

  is_given : (k : ℕ) → length (types_of before) ≤ k → k < length (types_of before) + length params → has local.args.items k ≡ true
  is_given k le lt = ap (λ (l : List ℕ). has l k) args ∙ has_own (length before) params k (omega (arith, le, sized)) (omega (arith, lt, sized))

  is_other : (k : ℕ) → length (types_of before) + length params ≤ k → has local.args.items k ≡ false
  is_other k le = ap (λ (l : List ℕ). has l k) args ∙ has_no_other (length before) params k (omega (arith, le, sized))

  abbrev keys : List Key
  keys = used_keys (length params) tys ops

  pub used_is : used_locals locals local ≡ map (moved (length (types_of before))) (map (ranked_key (length params) ks) keys)
  used_is =
      ap (λ (ns : List ℕ). in_order (filter (λ (k : Key). has ns k.1 && not (has local.args.items k.1)) (numbered 0 (types_of locals)))) names_are
      ∙ ap (λ (ts : List ValType). in_order (filter (λ (k : Key). has (map (λ (n : ℕ). length (types_of before) + n) (map ranks (locals_named ops))) k.1 && not (has local.args.items k.1)) (numbered 0 ts))) types
      ∙ used_are (types_of before) params own (types_of more) (map ranks (locals_named ops)) local.args.items own_names is_given is_other
      ∙ ap (map (moved (length (types_of before)))) (used_ranked (length params) ks tys many_tys (locals_named ops) kept)

  keys_kept : AllOf (IsKept (length params) ks) (map (λ (k : Key). k.1) keys)
  keys_kept = used_kept (length params) ks (locals_named ops) kept (numbered (length params) tys)

  pub locals_are : map (λ (k : Key). k.0) (used_locals locals local) ≡ map (λ (k : Key). k.0) keys
  locals_are = ap (map (λ (k : Key). k.0)) used_is ∙ types_moved (length (types_of before)) (map (ranked_key (length params) ks) keys) ∙ types_ranked (length params) ks keys

  pub arguments_are : local.args.items ≡ map r (range_with_len 0 (length params))
  arguments_are =
      args ∙ ids_by_number r (length (types_of before)) 0 (length before) params (omega (arith, sized))
      (λ k le lt. let in_front : k < length params = omega (arith, lt) in named k (inl in_front) ∙ ap (λ (n : ℕ). length (types_of before) + n) (ranked_param (length params) ks k in_front))

  pub all_ids : local_ids locals local ≡ map r (kept_numbers (length params) keys)
  all_ids =
      ap (λ (ks : List Key). local.args.items ++ map (λ (k : Key). k.1) ks) used_is
      ∙ ids_ranked r (length (types_of before)) (length params) ks named local.args.items arguments_are keys keys_kept

  pub all_numbers : (n : ℕ) → (n < length params) ⊎ (is_used ops n ≡ true) → slice_get (local_ids locals local) (new_number (length params) keys n) ≡ Some (r n)
  all_numbers n h =
      ap (λ (l : List ℕ). slice_get l (new_number (length params) keys n)) all_ids
      ∙ got r (kept_numbers (length params) keys) (new_number (length params) keys n) n (at_new_number (length params) keys n (among h))
    where
      among : (n < length params) ⊎ (is_used ops n ≡ true) → length params ≤ n → has (map (λ (k : Key). k.1) keys) n ≡ true
      among (inl lt) le = absurd (omega (arith, lt, le))
      among (inr used) le = used_has (is_used ops) (length params) tys n le (has_below _ (locals_named ops) n own_below used) used
