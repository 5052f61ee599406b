-- Lemmas: what is due for element segments.
use Rattle.std.specs.Prelude.{ℕ, ◌≡◌, ◌==◌, ◌&&◌, not, Bool, true, false, List, ◌++◌, length, map, filter, Option, Some, None, if◌then◌else◌, refl}
use Rattle.std.proofs.Common.{ap, sym, ◌∙◌, subst}
use Rattle.std.proofs.lemmas.Bool.{eqb-true}
use Rattle.std.proofs.lemmas.List.{append_assoc}
use Rattle.wasm_formats.specs.declared.fault.Limited.TheVariants as limits_of
use Rattle.wasm_formats.specs.declared.fault.Space.TheVariants as spaces
use Rattle.walrus_forms.specs.declared.value.HeapType.{HeapType}
use Rattle.walrus_forms.specs.declared.value.HeapType.TheVariants.{Abstract, Shared, Concrete, Exact}
use Rattle.walrus_forms.specs.declared.value.RefType.{RefType}
use Rattle.walrus_forms.specs.Renaming.{renamed_heap, renamed_ref}
use Rattle.wasm_operators.specs.Bytes.{reference_bytes, unsigned_bytes, vec_bytes}
use Rattle.wasm_operators.specs.Items as items
use Rattle.wasm_operators.specs.Names.{Renaming}
use Rattle.wasm_grammar.specs.Modules.{Expr, Table, Mode, Passive, Declared, Active, Elements, Functions, Expressions, Element}
use Rattle.wasm_grammar.specs.States.{nothing_yet}
use Rattle.wasm_grammar.specs.TypeWords.{ref_from}
use Rattle.wasm_sections.specs.Segments.{ElementEntry, ActiveFunctions, FunctionsInto, ActiveExpressions, ExpressionsInto}
use Rattle.wasm_sections.specs.Sections.{ElementSection}
use Rattle.wasm_section_bytes.specs.Flags.{entry_of_element, is_func_heap, is_funcref, items_entry}
use Rattle.wasm_ruled_modules.specs.Rules.{table_wide}
use Rattle.wasm_canonical.specs.Due.{entry, items_in, section_if}
use Rattle.wasm_part.specs.Part.{renumbered_element, renumbered_expr, renumbered_items, renumbered_mode}
use Rattle.walrus_errors.specs.declared.error.ModuleError.TheVariants.{DeadReference}
use Rattle.walrus_pairing.specs.Looks.{Look}
use Rattle.walrus_emit_parts.specs.Due.{Due, number}
use Rattle.walrus_emit_due.specs.Values.{expr, index, reference}
use Rattle.walrus_emit_due.specs.Own.{live, own_section}
use Rattle.walrus_emit_due.specs.Slots.{live_at}
use Rattle.walrus_emit_due.specs.Elements.{are_plain, element, form, is_first, is_narrow, items_of, list_of, moded, plain as plain_due}
use Rattle.walrus_due_laws.specs.Spelled.{Follows, SpelledAs, in_slots, spelled}
use Rattle.walrus_due_laws.specs.Elements.{ElementsAreSpelled, FirstIsAlike}
use Rattle.walrus_due_laws.proofs.Parts.{both, lacks_within, led, plain, turned, within}
use Rattle.walrus_due_laws.proofs.Lists.{all_each, each_any, entries_as, mapped_as}
use Rattle.walrus_due_laws.proofs.Plain.{element_bytes, entry_plain, expr_bytes, expressions_bytes, functions_bytes}
use Rattle.walrus_due_laws.proofs.Values.{Leads, expr_as, index_as, named, ref_as}

-- ---- tests

-- where the first of two holds, the second is another's
same_test : (first one other : Bool) → (first ≡ true → one ≡ other) → (first && one) ≡ (first && other)
same_test true one other h = h refl
same_test false one other h = refl

and_false : (b : Bool) → (b && false) ≡ false
and_false true = refl
and_false false = refl

and_turned : (a b : Bool) → (a && b) ≡ (b && a)
and_turned true true = refl
and_turned true false = refl
and_turned false true = refl
and_turned false false = refl

-- functionrefs stay what they are
funcref_same : (at : ℕ → ℕ) (ty : RefType) → is_funcref (renamed_ref at ty) ≡ is_funcref ty
funcref_same at ty = go ty.nullable ty.heap_type
  where
    go : (nullable : Bool) (h : HeapType) → (nullable && is_func_heap (renamed_heap at h)) ≡ (nullable && is_func_heap h)
    go nullable (Abstract k) = refl
    go nullable (Shared k) = refl
    go nullable (Concrete id) = refl
    go nullable (Exact id) = refl

some_same : (k n : ℕ) → k ≡ n → (let some : ℕ → Option ℕ = λ k. Some k in some k ≡ some n)
some_same k n e = cc

-- ---- what stands in a segment

module _ (r : Renaming) (look : Look) (follows : Follows r look) where
  list_functions_as : (ids : List ℕ) → SpelledAs (list_of look (Functions ids)) (vec_bytes unsigned_bytes (map (r items.Functions) ids))
  list_functions_as ids = mapped_as (λ (id : ℕ). index spaces.Function (look items.Functions id)) unsigned_bytes (r items.Functions) (λ id. index_as r look follows spaces.Function items.Functions id) ids

  list_exprs_as : (ty : RefType) (es : List Expr) → SpelledAs (list_of look (Expressions ty es)) (vec_bytes expr_bytes (map (renumbered_expr r) es))
  list_exprs_as ty es = mapped_as (expr look) expr_bytes (renumbered_expr r) (λ e. expr_as r look follows e) es

  items_functions_as : (ids : List ℕ) → SpelledAs (items_of look (Functions ids)) (functions_bytes (tt, map (r items.Functions) ids))
  items_functions_as ids = led 0x00 (list_of look (Functions ids)) (vec_bytes unsigned_bytes (map (r items.Functions) ids)) (list_functions_as ids)

  items_exprs_as : (ty : RefType) (es : List Expr) → SpelledAs (items_of look (Expressions ty es)) (expressions_bytes (renamed_ref (r items.Types) ty, map (renumbered_expr r) es))
  items_exprs_as ty es =
      both (reference (look items.Types) (ref_from ty)) (list_of look (Expressions ty es)) (reference_bytes (ref_from (renamed_ref (r items.Types) ty)))
      (vec_bytes expr_bytes (map (renumbered_expr r) es)) (ref_as r look follows ty) (list_exprs_as ty es)

  -- ---- active ones

  module _ (offset : Expr) where
    abbrev begins : List ℕ
    begins = expr_bytes (renumbered_expr r offset)

    -- where the first table is meant
    plain_as : (flags : ℕ) (xs : Elements) (list : List ℕ) → SpelledAs (list_of look xs) list → SpelledAs (number flags ++ (expr look offset ++ list_of look xs)) (unsigned_bytes flags ++ (begins ++ list))
    plain_as flags xs list h =
        both (number flags) (expr look offset ++ list_of look xs) (unsigned_bytes flags) (begins ++ list) (plain (unsigned_bytes flags))
        (both (expr look offset) (list_of look xs) begins list (expr_as r look follows offset) h)

    -- where the table is named
    told_as : (flags k : ℕ) (xs : Elements) (list : List ℕ) → SpelledAs (items_of look xs) list
        → SpelledAs (number flags ++ (number k ++ (expr look offset ++ items_of look xs))) (unsigned_bytes flags ++ ((unsigned_bytes k ++ begins) ++ list))
    told_as flags k xs list h =
        let rest = expr look offset ++ items_of look xs in
        turned (number flags ++ (number k ++ rest)) (unsigned_bytes flags ++ (unsigned_bytes k ++ (begins ++ list))) (unsigned_bytes flags ++ ((unsigned_bytes k ++ begins) ++ list))
        (ap (λ (l : List ℕ). unsigned_bytes flags ++ l) (sym (append_assoc (unsigned_bytes k) begins list)))
        (both (number flags) (number k ++ rest) (unsigned_bytes flags) (unsigned_bytes k ++ (begins ++ list)) (plain (unsigned_bytes flags))
        (both (number k) rest (unsigned_bytes k) (begins ++ list) (plain (unsigned_bytes k)) (both (expr look offset) (items_of look xs) begins list (expr_as r look follows offset) h)))

    -- by whether it is told, and by the number of the table
    abbrev due_by : Bool → Option ℕ → Elements → Due
    due_by c o xs = if c then plain_due look offset xs else (number (form 2 xs) ++ (index spaces.Table o ++ (expr look offset ++ items_of look xs)))

    abbrev functions_by : Bool → ℕ → List ℕ → ElementEntry
    functions_by c k ns = if c then (0, ActiveFunctions (renumbered_expr r offset, ns)) else (2, FunctionsInto ((k, renumbered_expr r offset), (tt, ns)))

    abbrev exprs_by : Bool → ℕ → RefType → List Expr → ElementEntry
    exprs_by c k ty es = if c then (4, ActiveExpressions (renumbered_expr r offset, es)) else (6, ExpressionsInto ((k, renumbered_expr r offset), (ty, es)))

    functions_as : (c : Bool) (k : ℕ) (ids : List ℕ) → SpelledAs (due_by c (Some k) (Functions ids)) (element_bytes (functions_by c k (map (r items.Functions) ids)))
    functions_as true k ids = plain_as 0 (Functions ids) (vec_bytes unsigned_bytes (map (r items.Functions) ids)) (list_functions_as ids)
    functions_as false k ids = told_as 2 k (Functions ids) (functions_bytes (tt, map (r items.Functions) ids)) (items_functions_as ids)

    exprs_as : (c : Bool) (k : ℕ) (ty : RefType) (es : List Expr)
        → SpelledAs (due_by c (Some k) (Expressions ty es)) (element_bytes (exprs_by c k (renamed_ref (r items.Types) ty) (map (renumbered_expr r) es)))
    exprs_as true k ty es = plain_as 4 (Expressions ty es) (vec_bytes expr_bytes (map (renumbered_expr r) es)) (list_exprs_as ty es)
    exprs_as false k ty es = told_as 6 k (Expressions ty es) (expressions_bytes (renamed_ref (r items.Types) ty, map (renumbered_expr r) es)) (items_exprs_as ty es)

    -- narrow: the table of the old number; wide: the tables by their new ones
    module _ (wide : ℕ → Bool) (narrow : Bool) where
      abbrev entry_at : ℕ → Elements → List ℕ
      entry_at n xs = element_bytes (items_entry wide (Active n (renumbered_expr r offset)) (renumbered_items r xs))

      numbered_as : (k : ℕ) (xs : Elements) → (k ≡ 0 → narrow ≡ not (wide 0)) → SpelledAs (due_by (are_plain xs && (k == 0 && narrow)) (Some k) xs) (entry_at k xs)
      numbered_as k (Functions ids) h =
          subst (λ (c : Bool). SpelledAs (due_by c (Some k) (Functions ids)) (entry_at k (Functions ids))) (sym (same_test (k == 0) narrow (not (wide 0)) (λ e. h (eqb-true k 0 e))))
          (functions_as (k == 0 && not (wide 0)) k ids)
      numbered_as k (Expressions ty es) h =
          let first : (k == 0 && narrow) ≡ (k == 0 && not (wide 0)) = same_test (k == 0) narrow (not (wide 0)) (λ e. h (eqb-true k 0 e)) in
          let test : (is_funcref ty && (k == 0 && narrow)) ≡ (k == 0 && not (wide 0) && is_funcref (renamed_ref (r items.Types) ty)) =
          ap (λ (c : Bool). is_funcref ty && c) first ∙ and_turned (is_funcref ty) (k == 0 && not (wide 0)) ∙ ap (λ (c : Bool). k == 0 && not (wide 0) && c) (sym (funcref_same (r items.Types) ty)) in
          subst (λ (c : Bool). SpelledAs (due_by c (Some k) (Expressions ty es)) (entry_at k (Expressions ty es))) (sym test)
          (exprs_as (k == 0 && not (wide 0) && is_funcref (renamed_ref (r items.Types) ty)) k ty es)

      -- by the number that it has
      active_as : (o : Option ℕ) (n : ℕ) (xs : Elements) → Leads o n → (o ≡ Some 0 → narrow ≡ not (wide 0)) → SpelledAs (due_by (are_plain xs && (is_first o && narrow)) o xs) (entry_at n xs)
      active_as None n xs h first =
          subst (λ (c : Bool). SpelledAs (due_by c None xs) (entry_at n xs)) (sym (and_false (are_plain xs)))
          (lacks_within (number (form 2 xs)) (expr look offset ++ items_of look xs) (DeadReference spaces.Table) (entry_at n xs))
      active_as (Some k) n xs h first =
          subst (λ (n : ℕ). SpelledAs (due_by (are_plain xs && (k == 0 && narrow)) (Some k) xs) (entry_at n xs)) (sym (h k refl))
          (numbered_as k xs (λ e. first (some_same k 0 e)))

  -- ---- by their modes

  module _ (olds news : List (Option Table)) (first : FirstIsAlike look olds news) where
    moded_as : (mode : Mode) (xs : Elements) → SpelledAs (moded look olds xs mode) (element_bytes (items_entry (table_wide news) (renumbered_mode r items.Tables mode) (renumbered_items r xs)))
    moded_as Passive (Functions ids) =
        both (number 1) (items_of look (Functions ids)) (unsigned_bytes 1) (functions_bytes (tt, map (r items.Functions) ids)) (plain (unsigned_bytes 1)) (items_functions_as ids)
    moded_as Passive (Expressions ty es) =
        both (number 5) (items_of look (Expressions ty es)) (unsigned_bytes 5) (expressions_bytes (renamed_ref (r items.Types) ty, map (renumbered_expr r) es)) (plain (unsigned_bytes 5)) (items_exprs_as ty es)
    moded_as Declared (Functions ids) =
        both (number 3) (items_of look (Functions ids)) (unsigned_bytes 3) (functions_bytes (tt, map (r items.Functions) ids)) (plain (unsigned_bytes 3)) (items_functions_as ids)
    moded_as Declared (Expressions ty es) =
        both (number 7) (items_of look (Expressions ty es)) (unsigned_bytes 7) (expressions_bytes (renamed_ref (r items.Types) ty, map (renumbered_expr r) es)) (plain (unsigned_bytes 7)) (items_exprs_as ty es)
    moded_as (Active table offset) xs =
        active_as offset (table_wide news) (is_narrow (live_at olds table)) (look items.Tables table) (r items.Tables table) xs (named r look follows items.Tables table) (first table)

    element_as : (x : Element) → SpelledAs (element look olds x) (element_bytes (entry_of_element (table_wide news) (renumbered_element r x)))
    element_as x = moded_as x.mode x.items

pub elements_spelled : ElementsAreSpelled
elements_spelled features r look olds news slots follows first =
    let all = λ (x : Element). true in
    let from = entry_of_element (table_wide news) in
    let entries = map from (items_in (in_slots (renumbered_element r) slots)) in
    within 100000 (length (live slots)) limits_of.Elements (own_section 9 all (element look olds) slots) (spelled features (section_if ElementSection entries))
    (entries_as (element look olds) element_bytes features 9 ElementSection (λ es. entry_plain features nothing_yet (entry (ElementSection es))) (filter all (live slots)) entries
    (all_each (element look olds) element_bytes (λ (x : Element). Unit {0}) from (renumbered_element r) (λ x _. element_as r look follows olds news first x) slots (each_any slots)))
