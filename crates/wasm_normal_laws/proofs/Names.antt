-- The locals that renamed operators name.
use Rattle.std.proofs.Common.{ℕ, ◌≡◌, Bool, true, false, List, [], ◌∷◌, ◌++◌, map, refl, sym, ap, ◌∙◌}
use Rattle.std.specs.Prelude.{◌==◌, ◌||◌}
use Rattle.std.specs.List.{flat_map, list_any}
use Rattle.std.proofs.lemmas.Bool.{eqb-true, eq-eqb}
use Rattle.std.proofs.lemmas.List.{map-append}
use Rattle.wasm_normal_form.specs.wasm_operators.Items.{Locals, Types, Functions, Tables, Memories, Tags, Globals, ElementSegments, DataSegments, Labels, Item, Names, Number, S32, S64, Bits, Byte, Bytes, Heap, Block, Access, ManyLabels, ManyValues, ManyClauses}
use Rattle.wasm_normal_form.specs.Roles.{Placed, placed}
use Rattle.wasm_normal_form.specs.Bodies.{is_used, local_in, locals_named, renamed_local, with_locals}

module _ (r : ℕ → ℕ) where
  item_names : (x : Item) → local_in (renamed_local r x) ≡ map r (local_in x)
  item_names (Names Locals n) = refl
  item_names (Names Types n) = refl
  item_names (Names Functions n) = refl
  item_names (Names Tables n) = refl
  item_names (Names Memories n) = refl
  item_names (Names Tags n) = refl
  item_names (Names Globals n) = refl
  item_names (Names ElementSegments n) = refl
  item_names (Names DataSegments n) = refl
  item_names (Names Labels n) = refl
  item_names (Number n) = refl
  item_names (S32 z) = refl
  item_names (S64 z) = refl
  item_names (Bits size n) = refl
  item_names (Byte b) = refl
  item_names (Bytes run) = refl
  item_names (Heap ty) = refl
  item_names (Block ty) = refl
  item_names (Access a) = refl
  item_names (ManyLabels ns) = refl
  item_names (ManyValues tys) = refl
  item_names (ManyClauses cs) = refl

  items_names : (xs : List Item) → flat_map local_in (map (renamed_local r) xs) ≡ map r (flat_map local_in xs)
  items_names [] = refl
  items_names (x ∷ xs) =
      ap (λ (z : List ℕ). z ++ flat_map local_in (map (renamed_local r) xs)) (item_names x) ∙ ap (λ (z : List ℕ). map r (local_in x) ++ z) (items_names xs)
      ∙ sym (map-append r (local_in x) (flat_map local_in xs))

  pub names_renamed : (ops : List Placed) → locals_named (map (with_locals r) ops) ≡ map r (locals_named ops)
  names_renamed [] = refl
  names_renamed (o ∷ ops) =
      ap (λ (z : List ℕ). z ++ locals_named (map (with_locals r) ops)) (items_names o.op.items) ∙ ap (λ (z : List ℕ). map r (flat_map local_in o.op.items) ++ z) (names_renamed ops)
      ∙ sym (map-append r (flat_map local_in o.op.items) (locals_named ops))

  or_true : (b : Bool) → (b || true) ≡ true
  or_true true = refl
  or_true false = refl

  any_renamed : (n : ℕ) (xs : List ℕ) → list_any (λ (m : ℕ). m == n) xs ≡ true → list_any (λ (m : ℕ). m == r n) (map r xs) ≡ true
  any_renamed n [] h = h
  any_renamed n (x ∷ xs) h = by (x == n) refl h (any_renamed n xs)
    where
      by : (b : Bool) → (x == n) ≡ b → (b || list_any (λ (m : ℕ). m == n) xs) ≡ true → (list_any (λ (m : ℕ). m == n) xs ≡ true → list_any (λ (m : ℕ). m == r n) (map r xs) ≡ true)
          → ((r x == r n) || list_any (λ (m : ℕ). m == r n) (map r xs)) ≡ true
      by true e h rest = rw (eq-eqb (r x) (r n) (ap r (eqb-true x n e))) refl
      by false e h rest = ap (λ (b : Bool). (r x == r n) || b) (rest h) ∙ or_true (r x == r n)

  -- what is used is so under its new number
  pub used_renamed : (ops : List Placed) (n : ℕ) → is_used ops n ≡ true → is_used (map (with_locals r) ops) (r n) ≡ true
  used_renamed ops n h = ap (list_any (λ (m : ℕ). m == r n)) (names_renamed ops) ∙ any_renamed n (locals_named ops) h

  -- numbers that a second renaming keeps
  module _ (s : ℕ → ℕ) (settled : (n : ℕ) → s (r n) ≡ r n) where
    item_settled : (x : Item) → renamed_local s (renamed_local r x) ≡ renamed_local r x
    item_settled (Names Locals n) = ap (Names Locals) (settled n)
    item_settled (Names Types n) = refl
    item_settled (Names Functions n) = refl
    item_settled (Names Tables n) = refl
    item_settled (Names Memories n) = refl
    item_settled (Names Tags n) = refl
    item_settled (Names Globals n) = refl
    item_settled (Names ElementSegments n) = refl
    item_settled (Names DataSegments n) = refl
    item_settled (Names Labels n) = refl
    item_settled (Number n) = refl
    item_settled (S32 z) = refl
    item_settled (S64 z) = refl
    item_settled (Bits size n) = refl
    item_settled (Byte b) = refl
    item_settled (Bytes run) = refl
    item_settled (Heap ty) = refl
    item_settled (Block ty) = refl
    item_settled (Access a) = refl
    item_settled (ManyLabels ns) = refl
    item_settled (ManyValues tys) = refl
    item_settled (ManyClauses cs) = refl

    items_settled : (xs : List Item) → map (renamed_local s) (map (renamed_local r) xs) ≡ map (renamed_local r) xs
    items_settled [] = refl
    items_settled (x ∷ xs) =
        ap (λ (y : Item). y ∷ map (renamed_local s) (map (renamed_local r) xs)) (item_settled x) ∙ ap (λ (ys : List Item). renamed_local r x ∷ ys) (items_settled xs)

    pub ops_settled : (ops : List Placed) → map (with_locals s) (map (with_locals r) ops) ≡ map (with_locals r) ops
    ops_settled [] = refl
    ops_settled (o ∷ ops) =
        ap (λ (xs : List Item). placed (record { code = o.op.code; items = xs }) o.place ∷ map (with_locals s) (map (with_locals r) ops)) (items_settled o.op.items)
        ∙ ap (λ (z : List Placed). with_locals r o ∷ z) (ops_settled ops)
