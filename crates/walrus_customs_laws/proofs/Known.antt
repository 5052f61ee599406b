-- Lemmas: the ids of a function's locals, and those that its body names.
use Rattle.std.specs.Prelude.{ℕ, zero, suc, ◌≡◌, ◌≤◌, ◌<◌, ◌+◌, ◌==◌, ◌||◌, ◌&&◌, ◌⊎◌, Bool, true, false, not, List, [], ◌∷◌, ◌++◌, length, map, Option, Some, None, slice_get, refl, if◌then◌else◌}
use Rattle.std.specs.List.{AllByRecursion, filter}
use Rattle.std.specs.declared.alloc.Global.{Global}
use Rattle.std.specs.declared.vec.Vec.{Vec}
use Rattle.std.proofs.Common.{ap, sym, ◌∙◌, subst, cond, inl, inr, arith}
use Rattle.std.proofs.lemmas.Bool.{cases_eq, eq-eqb, ne_eqb}
use Rattle.std.proofs.lemmas.List.{length-map}
use Rattle.walrus_forms.specs.declared.value.ValType.{ValType}
use Rattle.walrus_forms.specs.declared.value.ValType.TheVariants.{I32}
use Rattle.wasm_normal_form.specs.Locals.{Key, in_order, insert_key, is_less, key_cmp, numbered}
use Rattle.walrus_arena.specs.Arena.{Arena}
use Rattle.walrus_index_maps.specs.Maps.{Indices}
use Rattle.walrus_items.specs.declared.local.Local.{Local}
use Rattle.walrus_tree.specs.Trees.{AreDistinct, Has}
use Rattle.walrus_local_function.specs.declared.local_function.LocalFunction.{LocalFunction}
use Rattle.walrus_local_numbers.specs.Declared.{has_number, local_ids as declared_ids}
use Rattle.walrus_meaning.specs.Bodies.{local_ids, named_locals, own_operators}
use Rattle.walrus_module_items.specs.declared.function.Function.{Function}
use Rattle.walrus_emit_code.specs.Code.{bodies_numbers}
use Rattle.walrus_emit_numbers.specs.declared.facts.BodyFacts.{BodyFacts}
use Rattle.walrus_parse_gc_laws.specs.Numbers.{AreUsed, UsedLocalsAreMeant}
use Rattle.walrus_customs_laws.specs.Kept.{KnowsLocals}
use Rattle.walrus_customs_laws.specs.Known.{BodiesAreKnown, HasFacts}
use Rattle.walrus_customs_laws.specs.Locals.{ArePlaces, LocalsAreNumbered}
use Rattle.walrus_customs_laws.specs.ReadLocals.{AreNamed}

abbrev numbers : List Key → List ℕ
numbers ks = map (λ (k : Key). k.1) ks

-- ---- no id stands twice

of_insert : (k : Key) (js : List Key) (n : ℕ) → Has (numbers (insert_key k js)) n → (k.1 ≡ n) ⊎ Has (numbers js) n
of_insert k [] n h = h
of_insert k (j ∷ js) n h = by (is_less (key_cmp j k)) (of_insert k js n) h
  where
    by : (b : Bool) → (Has (numbers (insert_key k js)) n → (k.1 ≡ n) ⊎ Has (numbers js) n) → Has (numbers (if b then j ∷ insert_key k js else k ∷ (j ∷ js))) n → (k.1 ≡ n) ⊎ Has (numbers (j ∷ js)) n
    by true later (inl e) = inr (inl e)
    by true later (inr i) = elim (later i) as (λ _. (k.1 ≡ n) ⊎ Has (numbers (j ∷ js)) n) [ inl e ↦ inl e | inr there ↦ inr (inr there) ]
    by false later i = i

distinct_insert : (k : Key) (js : List Key) → AreDistinct (numbers js) → (Has (numbers js) k.1 → ⊥) → AreDistinct (numbers (insert_key k js))
distinct_insert k [] d none = ((λ h. h), tt)
distinct_insert k (j ∷ js) d none = by (is_less (key_cmp j k)) (distinct_insert k js d.1 (λ h. none (inr h)))
  where
    first : Has (numbers (insert_key k js)) j.1 → ⊥
    first h = elim (of_insert k js j.1 h) as (λ _. ⊥) [ inl e ↦ none (inl (sym e)) | inr there ↦ d.0 there ]

    by : (b : Bool) → AreDistinct (numbers (insert_key k js)) → AreDistinct (numbers (if b then j ∷ insert_key k js else k ∷ (j ∷ js)))
    by true later = (first, later)
    by false later = (none, d)

of_order : (ks : List Key) (n : ℕ) → Has (numbers (in_order ks)) n → Has (numbers ks) n
of_order [] n h = h
of_order (k ∷ ks) n h = elim (of_insert k (in_order ks) n h) as (λ _. Has (numbers (k ∷ ks)) n) [ inl e ↦ inl e | inr i ↦ inr (of_order ks n i) ]

distinct_order : (ks : List Key) → AreDistinct (numbers ks) → AreDistinct (numbers (in_order ks))
distinct_order [] d = tt
distinct_order (k ∷ ks) d = distinct_insert k (in_order ks) (distinct_order ks d.1) (λ h. d.0 (of_order ks k.1 h))

module _ (test : ℕ → Bool) where
  abbrev passing : List Key → List Key
  passing ks = filter (λ (k : Key). test k.1) ks

  of_passing : (ks : List Key) (n : ℕ) → Has (numbers (passing ks)) n → (test n ≡ true) × Has (numbers ks) n
  of_passing [] n h = absurd h
  of_passing (k ∷ ks) n h = by (test k.1) refl (λ i. (let p = of_passing ks n i in (p.0, inr p.1))) h
    where
      by : (b : Bool) → test k.1 ≡ b → (Has (numbers (passing ks)) n → (test n ≡ true) × Has (numbers (k ∷ ks)) n) → Has (numbers (cond b (k ∷ passing ks) (passing ks))) n
          → (test n ≡ true) × Has (numbers (k ∷ ks)) n
      by true e later (inl same) = (ap test (sym same) ∙ e, inl same)
      by true e later (inr i) = later i
      by false e later i = later i

  distinct_passing : (ks : List Key) → AreDistinct (numbers ks) → AreDistinct (numbers (passing ks))
  distinct_passing [] d = tt
  distinct_passing (k ∷ ks) d = by (test k.1) (distinct_passing ks d.1)
    where
      by : (b : Bool) → AreDistinct (numbers (passing ks)) → AreDistinct (numbers (cond b (k ∷ passing ks) (passing ks)))
      by true later = ((λ h. d.0 (of_passing ks k.1 h).1), later)
      by false later = later

from_on : (n : ℕ) (tys : List ValType) (k : ℕ) → Has (numbers (numbered n tys)) k → n ≤ k
from_on n [] k h = absurd h
from_on n (ty ∷ tys) k (inl e) = omega (arith, e)
from_on n (ty ∷ tys) k (inr h) = let le = from_on (suc n) tys k h in omega (arith, le)

distinct_numbered : (n : ℕ) (tys : List ValType) → AreDistinct (numbers (numbered n tys))
distinct_numbered n [] = tt
distinct_numbered n (ty ∷ tys) = ((λ h. (let le = from_on (suc n) tys n h in absurd (omega (arith, le)))), distinct_numbered (suc n) tys)

of_joined : (xs ys : List ℕ) (n : ℕ) → Has (xs ++ ys) n → Has xs n ⊎ Has ys n
of_joined [] ys n h = inr h
of_joined (x ∷ xs) ys n (inl e) = inl (inl e)
of_joined (x ∷ xs) ys n (inr h) = elim (of_joined xs ys n h) as (λ _. Has (x ∷ xs) n ⊎ Has ys n) [ inl i ↦ inl (inr i) | inr i ↦ inr i ]

distinct_joined : (xs ys : List ℕ) → AreDistinct xs → AreDistinct ys → ((n : ℕ) → Has xs n → Has ys n → ⊥) → AreDistinct (xs ++ ys)
distinct_joined [] ys d e apart = e
distinct_joined (x ∷ xs) ys d e apart = (
  (λ h. elim (of_joined xs ys x h) as (λ _. ⊥) [ inl i ↦ d.0 i | inr i ↦ apart x (inl refl) i ]),
  distinct_joined xs ys d.1 e (λ n h i. apart n (inr h) i),
)

or_true : (b : Bool) → (b || true) ≡ true
or_true true = refl
or_true false = refl

has_there : (ns : List ℕ) (n : ℕ) → Has ns n → has_number ns n ≡ true
has_there [] n h = absurd h
has_there (m ∷ ns) n (inl e) = ap (λ (b : Bool). b || has_number ns n) (eq-eqb m n e)
has_there (m ∷ ns) n (inr h) = ap (λ (b : Bool). (m == n) || b) (has_there ns n h) ∙ or_true (m == n)

right_not : (a b : Bool) → (a && not b) ≡ true → b ≡ true → ⊥
right_not true true e same = absurd cc
right_not true false e same = absurd cc
right_not false b e same = absurd cc

-- the ids of a function's locals, arguments and those that it declares
ids_distinct : (locals : List Local) (args used : List ℕ) → AreDistinct args → AreDistinct (declared_ids locals args used)
ids_distinct locals args used d =
    let is_other : ℕ → Bool = λ n. has_number used n && not (has_number args n) in
    let all : List Key = numbered 0 (map (λ (l : Local). l.ty) locals) in
    distinct_joined args (numbers (in_order (passing is_other all))) d
    (distinct_order (passing is_other all) (distinct_passing is_other all (distinct_numbered 0 (map (λ (l : Local). l.ty) locals))))
    (λ n h i. right_not (has_number used n) (has_number args n) (of_passing is_other all n (of_order (passing is_other all) n i)).0 (has_there args n h))

-- ---- what a text names is what the body's operators do: as all that it declares is, of any locals and arguments

or_swap : (a b c : Bool) → (a || (b || c)) ≡ (b || (a || c))
or_swap true true c = refl
or_swap true false c = refl
or_swap false true c = refl
or_swap false false c = refl

has_insert : (k : Key) (ks : List Key) (n : ℕ) → has_number (numbers (insert_key k ks)) n ≡ ((k.1 == n) || has_number (numbers ks) n)
has_insert k [] n = refl
has_insert k (j ∷ js) n = go (is_less (key_cmp j k)) (has_insert k js n)
  where
    go : (b : Bool) → has_number (numbers (insert_key k js)) n ≡ ((k.1 == n) || has_number (numbers js) n)
        → has_number (numbers (if b then j ∷ insert_key k js else k ∷ (j ∷ js))) n ≡ ((k.1 == n) || ((j.1 == n) || has_number (numbers js) n))
    go true later = ap (λ (b : Bool). (j.1 == n) || b) later ∙ or_swap (j.1 == n) (k.1 == n) (has_number (numbers js) n)
    go false later = refl

has_order : (ks : List Key) (n : ℕ) → has_number (numbers (in_order ks)) n ≡ has_number (numbers ks) n
has_order [] n = refl
has_order (k ∷ ks) n = has_insert k (in_order ks) n ∙ ap (λ (b : Bool). (k.1 == n) || b) (has_order ks n)

none_earlier : (test : ℕ → Bool) (from : ℕ) (tys : List ValType) (n : ℕ) → n < from → has_number (numbers (passing test (numbered from tys))) n ≡ false
none_earlier test from [] n lt = refl
none_earlier test from (ty ∷ tys) n lt = go (test from) (none_earlier test (suc from) tys n (omega (arith, lt)))
  where
    go : (b : Bool) → has_number (numbers (passing test (numbered (suc from) tys))) n ≡ false → has_number (numbers (cond b ((ty, from) ∷ passing test (numbered (suc from) tys)) (passing test (numbered (suc from) tys)))) n ≡ false
    go true later = ap (λ (b : Bool). b || has_number (numbers (passing test (numbered (suc from) tys))) n) (ne_eqb from n (λ e. omega (arith, lt, e))) ∙ later
    go false later = later

passes_is : (test : ℕ → Bool) (from : ℕ) (tys : List ValType) (n : ℕ) → from ≤ n → n < from + length tys → has_number (numbers (passing test (numbered from tys))) n ≡ test n
passes_is test from [] n le lt = absurd (omega (arith, le, lt))
passes_is test from (ty ∷ tys) n le lt = elim (cases_eq from n) as (λ _. has_number (numbers (passing test (numbered from (ty ∷ tys)))) n ≡ test n) [
  | inl same ↦ own (test from) (eq-eqb from n same) (none_earlier test (suc from) tys n (omega (arith, same))) ∙ ap test same
  | inr other ↦ behind (test from) (ne_eqb from n other) (passes_is test (suc from) tys n (omega (arith, le, other)) (omega (arith, lt)))
]
  where
    more : List Key
    more = passing test (numbered (suc from) tys)

    own : (b : Bool) → (from == n) ≡ true → has_number (numbers (passing test (numbered (suc from) tys))) n ≡ false
        → has_number (numbers (cond b ((ty, from) ∷ passing test (numbered (suc from) tys)) (passing test (numbered (suc from) tys)))) n ≡ b
    own true e none = ap (λ (b : Bool). b || has_number (numbers (passing test (numbered (suc from) tys))) n) e
    own false e none = none

    behind : (b : Bool) → (from == n) ≡ false → has_number (numbers (passing test (numbered (suc from) tys))) n ≡ test n
        → has_number (numbers (cond b ((ty, from) ∷ passing test (numbered (suc from) tys)) (passing test (numbered (suc from) tys)))) n ≡ test n
    behind true e later = ap (λ (b : Bool). b || has_number (numbers (passing test (numbered (suc from) tys))) n) e ∙ later
    behind false e later = later

and_true : (a : Bool) → (a && true) ≡ a
and_true true = refl
and_true false = refl

abbrev some_local : Local
some_local = record { id = 0; ty = I32; name = None }

abbrev some_locals : ℕ → List Local
some_locals zero = []
some_locals (suc n) = some_local ∷ some_locals n

many_locals : (n : ℕ) → length (some_locals n) ≡ n
many_locals zero = refl
many_locals (suc n) = ap suc (many_locals n)

abbrev no_arguments : Vec ℕ Global → Vec ℕ Global
no_arguments v = record v { len = 0; items = []; ok = (refl, omega arith) }

module _ (meant : UsedLocalsAreMeant) where
  test_is : (test : ℕ → Bool) (id : ℕ) → has_number (numbers (in_order (passing (λ n. test n && true) (numbered 0 (map (λ (l : Local). l.ty) (some_locals (suc id))))))) id ≡ test id
  test_is test id =
      let tys : List ValType = map (λ (l : Local). l.ty) (some_locals (suc id)) in
      let long : length tys ≡ suc id = length-map (some_locals (suc id)) (λ (l : Local). l.ty) ∙ many_locals (suc id) in
      has_order (passing (λ n. test n && true) (numbered 0 tys)) id ∙ passes_is (λ n. test n && true) 0 tys id (omega arith) (omega (arith, long)) ∙ and_true (test id)

  are_named : (local : LocalFunction) (used : List ℕ) → AreUsed local used → AreNamed local used
  are_named local used same id =
      let bare : LocalFunction = record local { args = no_arguments local.args } in
      sym (test_is (has_number used) id)
      ∙ ap (λ (ks : List Key). has_number (numbers ks) id) (meant bare (some_locals (suc id)) used same)
      ∙ test_is (has_number (named_locals (own_operators local))) id

  module _ (numbered_so : LocalsAreNumbered) (locals : List Local) (functions : Arena Function) (i : Indices) (bodies : List BodyFacts) (none : (f id : ℕ) → i.locals f id ≡ None)
      (apart : AreDistinct (map (λ (body : BodyFacts). body.function) bodies)) where
    known : (n : ℕ) (body : BodyFacts) → slice_get bodies n ≡ Some body → HasFacts functions body → KnowsLocals locals functions (bodies_numbers locals functions i bodies) body
    known n body at h =
        let used = body.used_locals.items in
        let same : AreUsed h.local used = h.known.locals.members in
        let ids : declared_ids locals h.local.args.items used ≡ local_ids locals h.local = ap (λ (ks : List Key). h.local.args.items ++ numbers ks) (meant h.local locals used same) in
        let number : ℕ → Option ℕ = (bodies_numbers locals functions i bodies).locals body.function in
        let places = subst (λ (l : List ℕ). ArePlaces l number) ids (numbered_so locals functions i bodies none apart n body h.local at h.is (ids_distinct locals h.local.args.items used h.arguments)) in record {
          local = h.local;
          is = h.is;
          sorted = h.known.locals.rising;
          named = are_named h.local used same;
          lists = record { has = places.has; told = λ id n t name e. places.told id n e };
        }

    each_known : (k : ℕ) (rest : List BodyFacts) → ((n : ℕ) (body : BodyFacts) → slice_get rest n ≡ Some body → slice_get bodies (k + n) ≡ Some body) → AllByRecursion (HasFacts functions) rest
        → AllByRecursion (KnowsLocals locals functions (bodies_numbers locals functions i bodies)) rest
    each_known k [] at h = tt
    each_known k (body ∷ rest) at h = (
      known (k + 0) body (at 0 body refl) h.0,
      each_known (suc k) rest (λ n other e. (let is : suc k + n ≡ k + suc n = omega arith in ap (slice_get bodies) is) ∙ at (suc n) other e) h.1,
    )

pub bodies_known : UsedLocalsAreMeant → LocalsAreNumbered → BodiesAreKnown
bodies_known meant numbered_so locals functions i bodies none apart h =
    each_known meant numbered_so locals functions i bodies none apart 0 bodies (λ n body e. (let is : 0 + n ≡ n = omega arith in ap (slice_get bodies) is) ∙ e) h
