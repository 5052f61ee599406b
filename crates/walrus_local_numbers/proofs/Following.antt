-- The numbers of arguments, and of those behind them.
use Rattle.std.proofs.Common.{ℕ, zero, suc, ◌+◌, ◌≡◌, inl, inr, Bool, true, false, List, [], ◌∷◌, ◌++◌, map, length, Some, None, Less, refl, sym, ap, subst, ◌∙◌, arith}
use Rattle.std.specs.Prelude.{◌==◌, ◌||◌, slice_get, if◌then◌else◌}
use Rattle.std.proofs.lemmas.Bool.{eqb-true, eq-eqb, false≢true}
use Rattle.walrus_forms.specs.declared.value.ValType.{ValType}
use Rattle.walrus_items.specs.declared.local.Local.{Local}
use Rattle.wasm_normal_form.specs.Locals.{Key, key_cmp, position}
use Rattle.walrus_index_maps.specs.Maps.{with_local}
use Rattle.walrus_local_numbers.specs.Declared.{declared, has_number, types_of, with_numbers}
use Rattle.walrus_local_numbers.specs.Laws.{ArgumentsFirst, IsOnce, OthersFollow}
use Rattle.walrus_local_numbers.proofs.Members.{In, Rising, apart, declared_rises, in_declared}
use Rattle.walrus_local_numbers.proofs.Numbering.{Given, Locals, given, no_number, numbers_append}

abbrev ids : List Key → List ℕ
ids ks = map (λ (k : Key). k.1) ks

-- ---- arguments

has_at : (xs : List ℕ) (i id : ℕ) → slice_get xs i ≡ Some id → has_number xs id ≡ true
has_at [] i id e = absurd (none e)
  where
    none : None ≡ Some id → ⊥
    none e = cc
has_at (x ∷ xs) zero id e = ap (λ (b : Bool). b || has_number xs id) (eq-eqb x id (only e))
  where
    only : Some x ≡ Some id → x ≡ id
    only e = cc
has_at (x ∷ xs) (suc i) id e = ap (λ (b : Bool). (x == id) || b) (has_at xs i id e) ∙ or_true (x == id)
  where
    or_true : (b : Bool) → (b || true) ≡ true
    or_true true = refl
    or_true false = refl

-- what is numbered behind the arguments is none of them
abbrev Apart : List ℕ → List ℕ → Type 0
Apart args later = (id : ℕ) → has_number later id ≡ true → has_number args id ≡ false

not_later : (args later : List ℕ) (id : ℕ) → Apart args later → has_number args id ≡ true → (b : Bool) → has_number later id ≡ b → b ≡ false
not_later args later id apart h true e = absurd (false≢true (sym (apart id e) ∙ h))
not_later args later id apart h false e = refl

first_number : (f n i id : ℕ) (args later : List ℕ) (m : Locals) → Apart args later → IsOnce args → slice_get args i ≡ Some id → with_numbers f n (args ++ later) m f id ≡ Some (n + i)
first_number f n i id args later m apart once e =
    let h = has_at args i id e in
    let g : Given f n id args m = given f n id args m h in
    let from = g.from in
    let same : g.at ≡ i = once g.at i id g.stands e in
    let is : g.number ≡ n + i = omega (arith, from, same) in
    ap (λ (z : Locals). z f id) (numbers_append f n args later m) ∙ no_number f (n + length args) id later (with_numbers f n args m) (not_later args later id apart h (has_number later id) refl) ∙ g.is
    ∙ ap (λ (k : ℕ). Some k) is

-- ---- those behind them

-- no number stands behind itself
abbrev Once : List Key → Type 0
Once [] = Unit {0}
Once (k ∷ ks) = (has_number (ids ks) k.1 ≡ false) × Once ks

place_by : (f n id : ℕ) (k : Key) (ks : List Key) (m : Locals) (b : Bool) → (k.1 == id) ≡ b → Once (k ∷ ks) → has_number (k.1 ∷ ids ks) id ≡ true
    → (has_number (ids ks) id ≡ true → with_numbers f (suc n) (ids ks) (with_local f k.1 n m) f id ≡ Some (suc n + position ks id))
    → with_numbers f (suc n) (ids ks) (with_local f k.1 n m) f id ≡ Some (n + (if b then 0 else suc (position ks id)))
place_by f n id k ks m true e once h later =
    let same : k.1 ≡ id = eqb-true k.1 id e in
    let none : has_number (ids ks) id ≡ false = subst (λ (z : ℕ). has_number (ids ks) z ≡ false) same once.0 in
    let at : n ≡ n + 0 = omega arith in
    no_number f (suc n) id (ids ks) (with_local f k.1 n m) none ∙ set (eq-eqb id k.1 (sym same)) ∙ ap (λ (z : ℕ). Some z) at
  where
    set : (id == k.1) ≡ true → with_local f k.1 n m f id ≡ Some n
    set d = rw (eq-eqb f f refl) (rw d refl)
place_by f n id k ks m false e once h later =
    let rest : has_number (ids ks) id ≡ true = sym (ap (λ (b : Bool). b || has_number (ids ks) id) e) ∙ h in
    let at : suc n + position ks id ≡ n + suc (position ks id) = omega arith in
    later rest ∙ ap (λ (z : ℕ). Some z) at

place_of : (f n id : ℕ) (ks : List Key) (m : Locals) → Once ks → has_number (ids ks) id ≡ true → with_numbers f n (ids ks) m f id ≡ Some (n + position ks id)
place_of f n id [] m once h = absurd (false≢true h)
place_of f n id (k ∷ ks) m once h = place_by f n id k ks m (k.1 == id) refl once h (place_of f (suc n) id ks (with_local f k.1 n m) once.1)

-- a number among keys is that of one of them
key_with : (ks : List Key) (id : ℕ) → has_number (ids ks) id ≡ true → (k : Key) × In k ks × (k.1 ≡ id)
key_with [] id h = absurd (false≢true h)
key_with (k ∷ ks) id h = by (k.1 == id) refl (key_with ks id)
  where
    by : (b : Bool) → (k.1 == id) ≡ b → (has_number (ids ks) id ≡ true → (j : Key) × In j ks × (j.1 ≡ id)) → (j : Key) × In j (k ∷ ks) × (j.1 ≡ id)
    by true e rest = (k, inl refl, eqb-true k.1 id e)
    by false e rest = let r = rest (sym (ap (λ (b : Bool). b || has_number (ids ks) id) e) ∙ h) in (r.0, inr r.1, r.2)

-- keys of one number have one type
abbrev Typed : List Key → Type 0
Typed ks = (j k : Key) → In j ks → In k ks → j.1 ≡ k.1 → j ≡ k

once_by : (k : Key) (ks : List Key) (b : Bool) → has_number (ids ks) k.1 ≡ b → Rising (k ∷ ks) → Typed (k ∷ ks) → b ≡ false
once_by k ks false e r typed = refl
once_by k ks true e r typed =
    let j = key_with ks k.1 e in
    let same : j.0 ≡ k = typed j.0 k (inr j.1) (inl refl) j.2 in
    let l : key_cmp k k ≡ Less = subst (λ (z : Key). key_cmp k z ≡ Less) same (r.0 j.0 j.1) in
    absurd (apart k k l l)

once_of : (ks : List Key) → Rising ks → Typed ks → Once ks
once_of [] r typed = tt
once_of (k ∷ ks) r typed = (once_by k ks (has_number (ids ks) k.1) refl r typed, once_of ks r.1 (λ i j a b. typed i j (inr a) (inr b)))

some_is : (a b : ValType) → Some a ≡ Some b → a ≡ b
some_is a b e = cc

typed_declared : (locals : List Local) (args used : List ℕ) → Typed (declared locals args used)
typed_declared locals args used j k a b e =
    let p = in_declared locals args used j a in
    let q = in_declared locals args used k b in
    let ty : j.0 ≡ k.0 = some_is j.0 k.0 (sym p.1 ∙ ap (slice_get (types_of locals)) e ∙ q.1) in
    λ i. (ty i, e i)

apart_declared : (locals : List Local) (args used : List ℕ) → Apart args (ids (declared locals args used))
apart_declared locals args used id h =
    let k = key_with (declared locals args used) id h in
    ap (has_number args) (sym k.2) ∙ (in_declared locals args used k.0 k.1).0

pub arguments_first : ArgumentsFirst
arguments_first locals args used f m i id once e =
    let at : 0 + i ≡ i = omega arith in
    first_number f 0 i id args (ids (declared locals args used)) m (apart_declared locals args used) once e ∙ ap (λ (z : ℕ). Some z) at

pub others_follow : OthersFollow
others_follow locals args used f m id h =
    let keys = declared locals args used in
    let at : 0 + length args + position keys id ≡ length args + position keys id = omega arith in
    ap (λ (z : Locals). z f id) (numbers_append f 0 args (ids keys) m)
    ∙ place_of f (0 + length args) id keys (with_numbers f 0 args m) (once_of keys (declared_rises locals args used) (typed_declared locals args used)) h ∙ ap (λ (z : ℕ). Some z) at
