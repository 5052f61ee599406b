-- Lemmas: a plan that has just what is kept lists each item once, at its new number, and globals by number.
use Rattle.std.specs.Prelude.{ℕ, zero, suc, ◌≡◌, ◌⊎◌, ◌+◌, ◌<◌, Bool, true, List, [], ◌∷◌, ◌++◌, length, map, Option, Some, None, IsSome, slice_get, slice_index_or, refl, if◌then◌else◌}
use Rattle.std.specs.List.{AllByRecursion, cons_option, filter_map}
use Rattle.std.proofs.Common.{ap, sym, ◌∙◌, subst, arith, inl, inr}
use Rattle.std.proofs.lemmas.Bool.{cases_Bool, cases_lt, false≢true}
use Rattle.std.proofs.lemmas.Option.{none-some, same_Some}
use Rattle.walrus_forms.specs.Renaming.{at}
use Rattle.wasm_formats.specs.declared.fault.Space.{Space as FileSpace}
use Rattle.wasm_formats.specs.declared.fault.Space.TheVariants as spaces
use Rattle.wasm_operators.specs.Items.{Space, Types, Functions, Tables, Memories, Tags, Globals, ElementSegments, DataSegments, Locals, Labels}
use Rattle.wasm_grammar.specs.Modules.{Expr, Global, Import, Imported, Module, Origin, Own}
use Rattle.wasm_body_grammar.specs.Rules.{space_of}
use Rattle.wasm_import_links.specs.Links.{ImportsLink, brought, global_brought, origin_import, slot_import}
use Rattle.wasm_merged_modules.specs.Merged.{ids_of, merged_module}
use Rattle.wasm_part.specs.Closed.{IsListed, Rise}
use Rattle.wasm_part.specs.Kept.{AreFilled, IsShared}
use Rattle.wasm_part.specs.Order.{InOrder, OwnBefore, brought_by, brought_to, import_of, is_to}
use Rattle.wasm_part.specs.Part.{Plan}
use Rattle.wasm_rewritten.specs.Orderly.{ReadFilesAreOrderly}
use Rattle.walrus_stands_laws.specs.Placed.{KeptPlansArePlaced}
use Rattle.walrus_stands_laws.proofs.Turns.{InTurn, OriginBefore, read_turns, turn_at, turn_sent}

-- ---- spaces

to_space : (space : Space) (s : FileSpace) → is_to space s ≡ true → s ≡ space_of space
to_space Functions spaces.«Type» h = absurd (false≢true h)
to_space Functions spaces.Function h = refl
to_space Functions spaces.Table h = absurd (false≢true h)
to_space Functions spaces.Memory h = absurd (false≢true h)
to_space Functions spaces.Tag h = absurd (false≢true h)
to_space Functions spaces.Global h = absurd (false≢true h)
to_space Functions spaces.Element h = absurd (false≢true h)
to_space Functions spaces.Data h = absurd (false≢true h)
to_space Functions spaces.Local h = absurd (false≢true h)
to_space Functions spaces.Label h = absurd (false≢true h)
to_space Tables spaces.«Type» h = absurd (false≢true h)
to_space Tables spaces.Function h = absurd (false≢true h)
to_space Tables spaces.Table h = refl
to_space Tables spaces.Memory h = absurd (false≢true h)
to_space Tables spaces.Tag h = absurd (false≢true h)
to_space Tables spaces.Global h = absurd (false≢true h)
to_space Tables spaces.Element h = absurd (false≢true h)
to_space Tables spaces.Data h = absurd (false≢true h)
to_space Tables spaces.Local h = absurd (false≢true h)
to_space Tables spaces.Label h = absurd (false≢true h)
to_space Memories spaces.«Type» h = absurd (false≢true h)
to_space Memories spaces.Function h = absurd (false≢true h)
to_space Memories spaces.Table h = absurd (false≢true h)
to_space Memories spaces.Memory h = refl
to_space Memories spaces.Tag h = absurd (false≢true h)
to_space Memories spaces.Global h = absurd (false≢true h)
to_space Memories spaces.Element h = absurd (false≢true h)
to_space Memories spaces.Data h = absurd (false≢true h)
to_space Memories spaces.Local h = absurd (false≢true h)
to_space Memories spaces.Label h = absurd (false≢true h)
to_space Tags spaces.«Type» h = absurd (false≢true h)
to_space Tags spaces.Function h = absurd (false≢true h)
to_space Tags spaces.Table h = absurd (false≢true h)
to_space Tags spaces.Memory h = absurd (false≢true h)
to_space Tags spaces.Tag h = refl
to_space Tags spaces.Global h = absurd (false≢true h)
to_space Tags spaces.Element h = absurd (false≢true h)
to_space Tags spaces.Data h = absurd (false≢true h)
to_space Tags spaces.Local h = absurd (false≢true h)
to_space Tags spaces.Label h = absurd (false≢true h)
to_space Globals spaces.«Type» h = absurd (false≢true h)
to_space Globals spaces.Function h = absurd (false≢true h)
to_space Globals spaces.Table h = absurd (false≢true h)
to_space Globals spaces.Memory h = absurd (false≢true h)
to_space Globals spaces.Tag h = absurd (false≢true h)
to_space Globals spaces.Global h = refl
to_space Globals spaces.Element h = absurd (false≢true h)
to_space Globals spaces.Data h = absurd (false≢true h)
to_space Globals spaces.Local h = absurd (false≢true h)
to_space Globals spaces.Label h = absurd (false≢true h)
to_space Types spaces.«Type» h = absurd (false≢true h)
to_space Types spaces.Function h = absurd (false≢true h)
to_space Types spaces.Table h = absurd (false≢true h)
to_space Types spaces.Memory h = absurd (false≢true h)
to_space Types spaces.Tag h = absurd (false≢true h)
to_space Types spaces.Global h = absurd (false≢true h)
to_space Types spaces.Element h = absurd (false≢true h)
to_space Types spaces.Data h = absurd (false≢true h)
to_space Types spaces.Local h = absurd (false≢true h)
to_space Types spaces.Label h = absurd (false≢true h)
to_space ElementSegments spaces.«Type» h = absurd (false≢true h)
to_space ElementSegments spaces.Function h = absurd (false≢true h)
to_space ElementSegments spaces.Table h = absurd (false≢true h)
to_space ElementSegments spaces.Memory h = absurd (false≢true h)
to_space ElementSegments spaces.Tag h = absurd (false≢true h)
to_space ElementSegments spaces.Global h = absurd (false≢true h)
to_space ElementSegments spaces.Element h = absurd (false≢true h)
to_space ElementSegments spaces.Data h = absurd (false≢true h)
to_space ElementSegments spaces.Local h = absurd (false≢true h)
to_space ElementSegments spaces.Label h = absurd (false≢true h)
to_space DataSegments spaces.«Type» h = absurd (false≢true h)
to_space DataSegments spaces.Function h = absurd (false≢true h)
to_space DataSegments spaces.Table h = absurd (false≢true h)
to_space DataSegments spaces.Memory h = absurd (false≢true h)
to_space DataSegments spaces.Tag h = absurd (false≢true h)
to_space DataSegments spaces.Global h = absurd (false≢true h)
to_space DataSegments spaces.Element h = absurd (false≢true h)
to_space DataSegments spaces.Data h = absurd (false≢true h)
to_space DataSegments spaces.Local h = absurd (false≢true h)
to_space DataSegments spaces.Label h = absurd (false≢true h)
to_space Locals spaces.«Type» h = absurd (false≢true h)
to_space Locals spaces.Function h = absurd (false≢true h)
to_space Locals spaces.Table h = absurd (false≢true h)
to_space Locals spaces.Memory h = absurd (false≢true h)
to_space Locals spaces.Tag h = absurd (false≢true h)
to_space Locals spaces.Global h = absurd (false≢true h)
to_space Locals spaces.Element h = absurd (false≢true h)
to_space Locals spaces.Data h = absurd (false≢true h)
to_space Locals spaces.Local h = absurd (false≢true h)
to_space Locals spaces.Label h = absurd (false≢true h)
to_space Labels spaces.«Type» h = absurd (false≢true h)
to_space Labels spaces.Function h = absurd (false≢true h)
to_space Labels spaces.Table h = absurd (false≢true h)
to_space Labels spaces.Memory h = absurd (false≢true h)
to_space Labels spaces.Tag h = absurd (false≢true h)
to_space Labels spaces.Global h = absurd (false≢true h)
to_space Labels spaces.Element h = absurd (false≢true h)
to_space Labels spaces.Data h = absurd (false≢true h)
to_space Labels spaces.Local h = absurd (false≢true h)
to_space Labels spaces.Label h = absurd (false≢true h)

-- ---- what imports bring

-- the import by which one is brought
abbrev pub BroughtBy : Module → Space → ℕ → ℕ → Type 0
BroughtBy m space n x = brought_to space (slice_index_or m.imports x None) ≡ Some n

pub record FromImport (m : Module) (space : Space) (n x : ℕ) : Type 0 where
  pub import : Import
  pub there : slice_index_or m.imports x None ≡ Some import
  pub space_is : import.item.space ≡ space_of space
  pub number_is : import.item.number ≡ n

from_import : (m : Module) (space : Space) (n x : ℕ) → BroughtBy m space n x → FromImport m space n x
from_import m space n x e = by (slice_index_or m.imports x None) refl e
  where
    by : (o : Option Import) → slice_index_or m.imports x None ≡ o → brought_to space o ≡ Some n → FromImport m space n x
    by None there h = absurd (none-some n h)
    by (Some i) there h = elim (cases_Bool (is_to space i.item.space)) as (λ _. FromImport m space n x) [
      | inl yes_to ↦ record {
        import = i;
        there = there;
        space_is = to_space space i.item.space yes_to;
        number_is = same_Some i.item.number n (sym (ap (λ (b : Bool). if b then Some i.item.number else None) yes_to) ∙ h);
      }
      | inr not_to ↦ absurd (none-some n (sym (ap (λ (b : Bool). if b then Some i.item.number else None) not_to) ∙ h))
    ]

pub names_back : (m : Module) → ImportsLink m → (space : Space) (n x : ℕ) → BroughtBy m space n x → import_of m space n ≡ Some x
names_back m links space n x e =
    let f = from_import m space n x e in
    let h = links.named x f.import f.there in
    subst (λ (s : FileSpace). slice_index_or (brought m s) n None ≡ Some x) f.space_is (subst (λ (k : ℕ). slice_index_or (brought m f.import.item.space) k None ≡ Some x) f.number_is h)

-- ---- places in lists

-- of two places the first is in front of the second
pub record Turned (f : ℕ → Option ℕ) (ns : List ℕ) (k n : ℕ) : Type 0 where
  pub x : ℕ
  pub y : ℕ
  pub less : x < y
  pub gives : f x ≡ Some k
  pub gives_later : f y ≡ Some n

abbrev RiseAll : List ℕ → Type 0
RiseAll [] = Unit {0}
RiseAll (n ∷ ns) = ((i m : ℕ) → slice_get ns i ≡ Some m → n < m) × RiseAll ns

rise_all : (ns : List ℕ) → Rise ns → RiseAll ns
rise_all [] h = tt
rise_all (n ∷ ns) h = (λ i m e. h 0 (suc i) n m (omega arith) refl e, rise_all ns (λ i j k m lt e_i e_j. h (suc i) (suc j) k m (omega (arith, lt)) e_i e_j))

given_at : (f : ℕ → Option ℕ) (ns : List ℕ) (i n : ℕ) → slice_get (filter_map f ns) i ≡ Some n → (x : ℕ) × ((j : ℕ) × (slice_get ns j ≡ Some x)) × (f x ≡ Some n)
given_at f [] i n e = absurd (none-some n e)
given_at f (y ∷ ns) i n e = by (λ i e. given_at f ns i n e) (f y) refl i e
  where
    by : ((i : ℕ) → slice_get (filter_map f ns) i ≡ Some n → (x : ℕ) × ((j : ℕ) × (slice_get ns j ≡ Some x)) × (f x ≡ Some n)) → (o : Option ℕ) → f y ≡ o → (i : ℕ)
        → slice_get (cons_option o (filter_map f ns)) i ≡ Some n → (x : ℕ) × ((j : ℕ) × (slice_get (y ∷ ns) j ≡ Some x)) × (f x ≡ Some n)
    by rest None is i e = let g = rest i e in (g.0, (suc g.1.0, g.1.1), g.2)
    by rest (Some k) is zero e = (y, (zero, refl), is ∙ e)
    by rest (Some k) is (suc i) e = let g = rest i e in (g.0, (suc g.1.0, g.1.1), g.2)

turned : (f : ℕ → Option ℕ) (ns : List ℕ) → RiseAll ns → (i j k n : ℕ) → i < j → slice_get (filter_map f ns) i ≡ Some k → slice_get (filter_map f ns) j ≡ Some n → Turned f ns k n
turned f [] h i j k n lt e_i e_j = absurd (none-some k e_i)
turned f (y ∷ ns) h i j k n lt e_i e_j = by (λ i j lt e_i e_j. turned f ns h.1 i j k n lt e_i e_j) (f y) refl i j lt e_i e_j
  where
    later : Turned f ns k n → Turned f (y ∷ ns) k n
    later t = record { x = t.x; y = t.y; less = t.less; gives = t.gives; gives_later = t.gives_later }

    by : ((i j : ℕ) → i < j → slice_get (filter_map f ns) i ≡ Some k → slice_get (filter_map f ns) j ≡ Some n → Turned f ns k n) → (o : Option ℕ) → f y ≡ o → (i j : ℕ) → i < j
        → slice_get (cons_option o (filter_map f ns)) i ≡ Some k → slice_get (cons_option o (filter_map f ns)) j ≡ Some n → Turned f (y ∷ ns) k n
    by rest None is i j lt e_i e_j = later (rest i j lt e_i e_j)
    by rest (Some q) is zero zero lt e_i e_j = absurd (omega (arith, lt))
    by rest (Some q) is zero (suc j) lt e_i e_j =
        let g = given_at f ns j n e_j in
        record { x = y; y = g.0; less = h.0 g.1.0 g.0 g.1.1; gives = is ∙ e_i; gives_later = g.2 }
    by rest (Some q) is (suc i) zero lt e_i e_j = absurd (omega (arith, lt))
    by rest (Some q) is (suc i) (suc j) lt e_i e_j = later (rest i j (omega (arith, lt)) e_i e_j)

-- a place of two lists is one of the first or of the second
abbrev pub At : List ℕ → List ℕ → ℕ → ℕ → Type 0
At xs ys i n = ((i < length xs) × (slice_get xs i ≡ Some n)) ⊎ ((j : ℕ) × (i ≡ length xs + j) × (slice_get ys j ≡ Some n))

at_later : (x : ℕ) (xs ys : List ℕ) (i n : ℕ) → At xs ys i n → At (x ∷ xs) ys (suc i) n
at_later x xs ys i n (inl h) = inl (let lt = h.0 in omega (arith, lt), h.1)
at_later x xs ys i n (inr h) = inr (h.0, (let e = h.1 in omega (arith, e)), h.2)

pub split_at : (xs ys : List ℕ) (i n : ℕ) → slice_get (xs ++ ys) i ≡ Some n → At xs ys i n
split_at [] ys i n e = inr (i, omega arith, e)
split_at (x ∷ xs) ys zero n e = inl (omega arith, e)
split_at (x ∷ xs) ys (suc i) n e = at_later x xs ys i n (split_at xs ys i n e)

all_get : (P : ℕ → Type 0) (ns : List ℕ) → AllByRecursion P ns → (i n : ℕ) → slice_get ns i ≡ Some n → P n
all_get P [] h i n e = absurd (none-some n e)
all_get P (m ∷ ns) h zero n e = subst P (same_Some m n e) h.0
all_get P (m ∷ ns) h (suc i) n e = all_get P ns h.1 i n e

-- ---- what stands before what, in a plan in order

pub record BothBrought (m : Module) (space : Space) (k n : ℕ) : Type 0 where
  pub x : ℕ
  pub y : ℕ
  pub less : x < y
  pub one : import_of m space k ≡ Some x
  pub other : import_of m space n ≡ Some y

pub record BroughtFirst (m : Module) (space : Space) (k n : ℕ) : Type 0 where
  pub x : ℕ
  pub one : import_of m space k ≡ Some x
  pub other : import_of m space n ≡ None

abbrev pub Stand : Module → Space → ℕ → ℕ → Type 0
Stand m space k n = BothBrought m space k n ⊎ (BroughtFirst m space k n ⊎ OwnBefore m space k n)

module _ (m : Module) (p : Plan) (links : ImportsLink m) (order : InOrder m p) where
  abbrev F : Space → ℕ → Option ℕ
  F space x = brought_to space (slice_index_or m.imports x None)

  stand : (space : Space) → IsListed space → (i j k n : ℕ) → i < j → slice_get (p.listed space) i ≡ Some k → slice_get (p.listed space) j ≡ Some n → Stand m space k n
  stand space is_listed i j k n lt e_i e_j =
      let bs : List ℕ = brought_by m space p.imports in
      let own : List ℕ = order.own space in
      let listed : p.listed space ≡ bs ++ own = order.listed space is_listed in
      by bs refl own (split_at bs own i k (ap (λ (l : List ℕ). slice_get l i) (sym listed) ∙ e_i)) (split_at bs own j n (ap (λ (l : List ℕ). slice_get l j) (sym listed) ∙ e_j)) (order.are_own space is_listed)
      (λ i j k n lt e f. order.ordered space is_listed i j k n lt e f)
    where
      by : (bs : List ℕ) → bs ≡ filter_map (F space) p.imports → (own : List ℕ) → At bs own i k → At bs own j n → AllByRecursion (λ n. import_of m space n ≡ None) own
          → ((i j k n : ℕ) → i < j → slice_get own i ≡ Some k → slice_get own j ≡ Some n → OwnBefore m space k n) → Stand m space k n
      by bs is own (inl a) (inl b) are rise =
          let t = turned (F space) p.imports (rise_all p.imports order.imports) i j k n lt (ap (λ (l : List ℕ). slice_get l i) (sym is) ∙ a.1) (ap (λ (l : List ℕ). slice_get l j) (sym is) ∙ b.1) in
          inl (record { x = t.x; y = t.y; less = t.less; one = names_back m links space k t.x t.gives; other = names_back m links space n t.y t.gives_later })
      by bs is own (inl a) (inr b) are rise =
          let g = given_at (F space) p.imports i k (ap (λ (l : List ℕ). slice_get l i) (sym is) ∙ a.1) in
          inr (inl (record { x = g.0; one = names_back m links space k g.0 g.2; other = all_get (λ n. import_of m space n ≡ None) own are b.0 n b.2 }))
      by bs is own (inr a) (inl b) are rise = let z = a.1 in let y = b.0 in absurd (omega (arith, lt, z, y))
      by bs is own (inr a) (inr b) are rise = let z = a.1 in let y = b.1 in inr (inr (rise a.0 b.0 k n (omega (arith, lt, z, y)) a.2 b.2))

  -- none stands before itself
  never : (space : Space) (n : ℕ) → OwnBefore m space n n → ⊥
  never Functions n (inl h) = omega (arith, h)
  never Functions n (inr h) = let lt = h.1 in omega (arith, lt)
  never Types n h = omega (arith, h)
  never Tables n h = omega (arith, h)
  never Memories n h = omega (arith, h)
  never Tags n h = omega (arith, h)
  never Globals n h = omega (arith, h)
  never ElementSegments n h = omega (arith, h)
  never DataSegments n h = omega (arith, h)
  never Locals n h = omega (arith, h)
  never Labels n h = omega (arith, h)

  apart : (space : Space) (n : ℕ) → Stand m space n n → ⊥
  apart space n (inl h) = let lt = h.less in let e : h.x ≡ h.y = same_Some h.x h.y (sym h.one ∙ h.other) in omega (arith, lt, e)
  apart space n (inr (inl h)) = none-some h.x (sym h.other ∙ h.one)
  apart space n (inr (inr h)) = never space n h

  once : (space : Space) → IsListed space → (i j n : ℕ) → slice_get (p.listed space) i ≡ Some n → slice_get (p.listed space) j ≡ Some n → i ≡ j
  once space is_listed i j n e_i e_j = elim (cases_lt i j) as (λ _. i ≡ j) [
    | inl lt ↦ absurd (apart space n (stand space is_listed i j n n lt e_i e_j))
    | inr le ↦ elim (cases_lt j i) as (λ _. i ≡ j) [
      | inl lt ↦ absurd (apart space n (stand space is_listed j i n n lt e_j e_i))
      | inr other ↦ omega (arith, le, other)
    ]
  ]

-- ---- globals

origin_of : (o : Origin Expr) (x : ℕ) → origin_import o ≡ Some x → o ≡ Imported x
origin_of (Imported i) x e = ap (λ (j : ℕ). let o : Origin Expr = Imported j in o) (same_Some i x e)
origin_of (Own f) x e = absurd (none-some x e)

own_of : (o : Origin Expr) → origin_import o ≡ None → (e : Expr) × (o ≡ Own e)
own_of (Imported i) e = absurd (none-some i (sym e))
own_of (Own f) e = (f, refl)

pub record IsFrom (gs : List (Option Global)) (n x : ℕ) : Type 0 where
  pub global : Global
  pub there : slice_index_or gs n None ≡ Some global
  pub origin : global.origin ≡ Imported x

brought_slot : (gs : List (Option Global)) (n x : ℕ) → slice_index_or (map (slot_import global_brought) gs) n None ≡ Some x → IsFrom gs n x
brought_slot [] n x e = absurd (none-some x e)
brought_slot (None ∷ gs) zero x e = absurd (none-some x e)
brought_slot (Some g ∷ gs) zero x e = record { global = g; there = refl; origin = origin_of g.origin x e }
brought_slot (g ∷ gs) (suc n) x e = let h = brought_slot gs n x e in record { global = h.global; there = h.there; origin = h.origin }

own_slot : (gs : List (Option Global)) (n : ℕ) (g : Global) → slice_index_or gs n None ≡ Some g → slice_index_or (map (slot_import global_brought) gs) n None ≡ None → (e : Expr) × (g.origin ≡ Own e)
own_slot [] n g at none = absurd (none-some g at)
own_slot (x ∷ gs) zero g at none = own_of g.origin (ap (slot_import global_brought) (sym at) ∙ none)
own_slot (x ∷ gs) (suc n) g at none = own_slot gs n g at none

there_at : {A : Type 0} (ns : List ℕ) (xs : List (Option A)) → AreFilled ns xs → (i n : ℕ) → slice_get ns i ≡ Some n → (x : A) × (slice_index_or xs n None ≡ Some x)
there_at [] xs h i n e = absurd (none-some n e)
there_at {A} (k ∷ ns) xs h zero n e = subst (λ (j : ℕ). (x : A) × (slice_index_or xs j None ≡ Some x)) (same_Some k n e) (by (slice_index_or xs k None) h.0)
  where
    by : (o : Option A) → IsSome o → (x : A) × (o ≡ Some x)
    by None some = absurd cc
    by (Some x) some = (x, refl)
there_at (k ∷ ns) xs h (suc i) n e = there_at ns xs h.1 i n e

-- two globals, of which the one isn't behind the other, and isn't the other
before : (gs : List (Option Global)) → InTurn gs → (k n : ℕ) (g h : Global) → slice_index_or gs k None ≡ Some g → slice_index_or gs n None ≡ Some h → (OriginBefore h.origin g.origin → ⊥) → (k ≡ n → ⊥) → k < n
before gs turn k n g h at_k at_n no_turn other = elim (cases_lt k n) as (λ _. k < n) [
  | inl lt ↦ lt
  | inr le ↦ elim (cases_lt n k) as (λ _. k < n) [
    | inl lt ↦ absurd (no_turn (turn_at gs turn n k h g lt at_n at_k))
    | inr ge ↦ absurd (other (omega (arith, le, ge)))
  ]
]

module _ (m : Module) (p : Plan) (links : ImportsLink m) (order : InOrder m p) (filled : AreFilled (p.listed Globals) m.globals) (turn : InTurn m.globals) where
  less : (i j k n : ℕ) → slice_get (p.listed Globals) i ≡ Some k → slice_get (p.listed Globals) j ≡ Some n → Stand m Globals k n → k < n
  less i j k n e_i e_j (inl h) =
      let g = brought_slot m.globals k h.x h.one in
      let w = brought_slot m.globals n h.y h.other in
      let lt = h.less in
      before m.globals turn k n g.global w.global g.there w.there
      (λ b. (let l : h.y < h.x = subst (λ (o : Origin Expr). OriginBefore o (Imported h.x)) w.origin (subst (λ (o : Origin Expr). OriginBefore w.global.origin o) g.origin b) in omega (arith, lt, l)))
      (λ e. (let s : h.x ≡ h.y = same_Some h.x h.y (sym h.one ∙ ap (λ (z : ℕ). import_of m Globals z) e ∙ h.other) in omega (arith, lt, s)))
  less i j k n e_i e_j (inr (inl h)) =
      let g = brought_slot m.globals k h.x h.one in
      let t = there_at (p.listed Globals) m.globals filled j n e_j in
      let w = own_slot m.globals n t.0 t.1 h.other in
      before m.globals turn k n g.global t.0 g.there t.1
      (λ b. subst (λ (o : Origin Expr). OriginBefore o (Imported h.x)) w.1 (subst (λ (o : Origin Expr). OriginBefore t.0.origin o) g.origin b))
      (λ e. none-some h.x (sym h.other ∙ sym (ap (λ (z : ℕ). import_of m Globals z) e) ∙ h.one))
  less i j k n e_i e_j (inr (inr h)) = h

  globals_rise : Rise (p.listed Globals)
  globals_rise i j k n lt e_i e_j = less i j k n e_i e_j (stand m p links order Globals tt i j k n lt e_i e_j)

-- ---- a plan that has just what is kept

shared : (space : Space) → IsListed space → IsShared space
shared Types h = absurd h
shared Functions h = tt
shared Tables h = tt
shared Memories h = tt
shared Tags h = tt
shared Globals h = tt
shared ElementSegments h = tt
shared DataSegments h = tt
shared Locals h = absurd h
shared Labels h = absurd h

pub plans_placed : ReadFilesAreOrderly → KeptPlansArePlaced
plans_placed orderly place features bytes more file reads keep pushed p kept order =
    let m : Module = merged_module place features true more file in
    let links = (orderly place features bytes more file reads).0.linked in
    let turn : InTurn m.globals = turn_sent (at (ids_of file.groups)) file.globals (read_turns features bytes file reads) in
    record {
      only = λ space i n is_listed e. once m p links order space is_listed (p.renames space n) i n (kept.has space n (shared space is_listed) (kept.only space i n (shared space is_listed) e)) e;
      globals = globals_rise m p links order kept.there.globals turn;
    }
