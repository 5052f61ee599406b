-- Lemmas: operators that were named otherwise and then numbered are those of the normal forms.
use Rattle.std.specs.Prelude.{ℕ, ◌≡◌, ◌<◌, ◌+◌, Bool, true, false, List, [], ◌∷◌, length, map, Option, refl, if◌then◌else◌}
use Rattle.std.specs.List.{AllByRecursion, flat_map}
use Rattle.std.proofs.Common.{ap, ◌∙◌, arith}
use Rattle.wasm_ruled_renamed.specs.wasm_ruled_normal.Normal.{NormalOperatorsAreRuled, located}
use Rattle.wasm_ruled_renamed.specs.wasm_ruled_normal.wasm_normal_form.Bodies.{is_used, local_in, new_number}
use Rattle.wasm_ruled_renamed.specs.wasm_ruled_normal.wasm_normal_form.Roles.{Placed}
use Rattle.wasm_ruled_renamed.specs.wasm_ruled_normal.wasm_ruled_modules.Rules.{AreOperators, GroupsBelow, IsBody}
use Rattle.wasm_ruled_renamed.specs.wasm_ruled_normal.wasm_ruled_modules.wasm_module_rules.wasm_modules.wasm_body_grammar.Frames.{Plain}
use Rattle.wasm_ruled_renamed.specs.wasm_ruled_normal.wasm_ruled_modules.wasm_module_rules.wasm_modules.wasm_body_grammar.Rules.{Around}
use Rattle.wasm_ruled_renamed.specs.wasm_ruled_normal.wasm_ruled_modules.wasm_module_rules.wasm_modules.wasm_body_grammar.wasm_grammar.Modules as grammar
use Rattle.wasm_ruled_renamed.specs.wasm_ruled_normal.wasm_ruled_modules.wasm_module_rules.wasm_modules.wasm_body_grammar.wasm_operators.NameLaws.{after, same}
use Rattle.wasm_ruled_renamed.specs.wasm_ruled_normal.wasm_ruled_modules.wasm_module_rules.wasm_modules.wasm_body_grammar.wasm_operators.Names.{Name, Renaming, operator_names}
use Rattle.wasm_ruled_renamed.specs.wasm_ruled_normal.wasm_ruled_modules.wasm_module_rules.wasm_modules.wasm_body_grammar.wasm_operators.Renamed.{renames_twice}
use Rattle.wasm_ruled_renamed.specs.wasm_ruled_normal.wasm_ruled_modules.wasm_module_rules.wasm_modules.wasm_body_grammar.wasm_operators.Items.{Space, Types, Functions, Tables, Memories, Tags, Globals, ElementSegments, DataSegments, Locals, Labels}
use Rattle.wasm_ruled_renamed.specs.wasm_ruled_normal.wasm_ruled_modules.wasm_module_rules.wasm_modules.wasm_body_grammar.wasm_operators.Operators.{Seen}
use Rattle.wasm_ruled_renamed.proofs.Bodies.{all_sent, all_used}
use Rattle.wasm_ruled_renamed.specs.Bodies.{with_numbers}
use Rattle.wasm_ruled_renamed.specs.Renamed.{IsThere, NamesThere, renamed_placed}
use Rattle.wasm_normal_modules.proofs.Alike.{names_decide}
use Rattle.wasm_normal_modules.specs.Numbered.{ComesTo, IsNumbered, NumberedOperatorsAreNormal, keys_of, named_by, ops_of}

module _ (normal : NormalOperatorsAreRuled) (place : Option ℕ → ℕ) (a : Around) (r named : Renaming) (position : ℕ → ℕ) (params : ℕ) (x : grammar.Body) (below : GroupsBelow 0 a.filled.groups) (h : IsBody a params x)
    (comes : (space : Space) (n : ℕ) → ComesTo place a r named position params x space n) where
  abbrev ops : List Placed
  ops = ops_of place a r named position params x

  abbrev many : ℕ
  many = params + length x.locals

  abbrev number : ℕ → ℕ
  number = new_number params (keys_of place a r named position params x)

  -- 0 for a used local, 1 for any other
  abbrev mark : ℕ → ℕ
  mark n = if is_used ops n then 0 else 1

  ruled : AreOperators a many (Plain ∷ []) (map (located place) ops)
  ruled = normal place a many x.operators below h.operators

  marked : (n : ℕ) → is_used ops n ≡ true → n < many → mark n < 1
  marked n e _ = let zero_is : mark n ≡ 0 = ap (λ (b : Bool). if b then 0 else 1) e in omega (arith, zero_is)

  used_if : (n : ℕ) → mark n < 1 → is_used ops n ≡ true
  used_if n lt = by (is_used ops n) lt
    where
      by : (b : Bool) → (if b then 0 else 1) < 1 → b ≡ true
      by true lt = refl
      by false lt = absurd (omega (arith, lt))

  all_later : {A : Type 0} (P Q : A → Type 0) → ((y : A) → P y → Q y) → (ys : List A) → AllByRecursion P ys → AllByRecursion Q ys
  all_later P Q f [] k = tt
  all_later P Q f (y ∷ ys) k = (f y k.0, all_later P Q f ys k.1)

  abbrev locals_of : Placed → List ℕ
  locals_of o = flat_map local_in o.op.items

  -- each local that is named is used
  used : AllByRecursion (NamesThere (with_numbers mark same) a 1) (map (located place) ops)
  used =
      all_sent same a a many 1 mark (λ space n k. k) place ops (Plain ∷ []) ruled
      (all_later (λ (o : Placed). AllByRecursion (λ (n : ℕ). is_used ops n ≡ true) (locals_of o)) (λ (o : Placed). AllByRecursion (λ (n : ℕ). n < many → mark n < 1) (locals_of o))
      (λ o. all_later (λ (n : ℕ). is_used ops n ≡ true) (λ (n : ℕ). n < many → mark n < 1) marked (locals_of o)) ops (all_used ops))

  -- and is there, as each item is
  there : AllByRecursion (NamesThere (with_numbers (λ n. n) same) a many) (map (located place) ops)
  there =
      all_sent same a a many many (λ n. n) (λ space n k. k) place ops (Plain ∷ []) ruled
      (all_later (λ (o : Placed). AllByRecursion (λ (n : ℕ). is_used ops n ≡ true) (locals_of o)) (λ (o : Placed). AllByRecursion (λ (n : ℕ). n < many → n < many) (locals_of o))
      (λ o. all_later (λ (n : ℕ). is_used ops n ≡ true) (λ (n : ℕ). n < many → n < many) (λ n _ lt. lt) (locals_of o)) ops (all_used ops))

  abbrev first : Renaming
  first = after (with_numbers position same) named

  abbrev last : Renaming
  last = with_numbers number r

  name_comes : (space : Space) (n : ℕ) → IsThere a many space (with_numbers (λ n. n) same space n) → IsThere a 1 space (with_numbers mark same space n) → first space n ≡ last space n
  name_comes Locals n k u = comes Locals n k (used_if n u)
  name_comes Labels n k u = comes Labels n
  name_comes Types n k u = comes Types n k
  name_comes Functions n k u = comes Functions n k
  name_comes Tables n k u = comes Tables n k
  name_comes Memories n k u = comes Memories n k
  name_comes Tags n k u = comes Tags n k
  name_comes Globals n k u = comes Globals n k
  name_comes ElementSegments n k u = comes ElementSegments n k
  name_comes DataSegments n k u = comes DataSegments n k

  names_come : (names : List Name) → AllByRecursion (λ (n : Name). IsThere a many n.0 (with_numbers (λ n. n) same n.0 n.1)) names → AllByRecursion (λ (n : Name). IsThere a 1 n.0 (with_numbers mark same n.0 n.1)) names
      → AllByRecursion (λ (n : Name). first n.0 n.1 ≡ last n.0 n.1) names
  names_come [] k u = tt
  names_come (n ∷ names) k u = (name_comes n.0 n.1 k.0 u.0, names_come names k.1 u.1)

  all_come : (os : List Placed) → AllByRecursion (NamesThere (with_numbers (λ n. n) same) a many) (map (located place) os) → AllByRecursion (NamesThere (with_numbers mark same) a 1) (map (located place) os)
      → map (renamed_placed (with_numbers position same)) (map (located place) (map (named_by named) os)) ≡ map (renamed_placed last) (map (located place) os)
  all_come [] k u = refl
  all_come (o ∷ os) k u =
      ap (λ (op : Seen). (let p : grammar.Placed = record { place = place o.place; op = op } in p) ∷ map (renamed_placed (with_numbers position same)) (map (located place) (map (named_by named) os)))
      (renames_twice named (with_numbers position same) o.op ∙ names_decide first last o.op (names_come (operator_names o.op) k.0 u.0))
      ∙ ap (λ (l : List grammar.Placed). renamed_placed last (located place o) ∷ l) (all_come os k.1 u.1)

  pub numbered : IsNumbered place a r named position params x
  numbered = all_come ops there used

pub operators_numbered : NormalOperatorsAreRuled → NumberedOperatorsAreNormal
operators_numbered normal place a r named position params x below h comes = numbered normal place a r named position params x below h comes
