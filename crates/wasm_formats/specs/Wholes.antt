-- Values that fill their bytes, and sizes before them.
use Rattle.std.specs.Prelude.{ℕ, ◌+◌, ◌-◌, ◌<◌, ◌≤◌, ◌≡◌, ◌==◌, nat_lt, true, false, List, [], ◌∷◌, ◌++◌, length, take, drop, Result, Ok, Err, ◌⊎◌, if◌then◌else◌, refl}
use Rattle.std.proofs.Common.{ap, sym, ◌∙◌, subst, arith, inl, inr}
use Rattle.std.proofs.lemmas.Bool.{cases_lt, cases_Bool, lt-ltb, le-ltb, eqb-true}
use Rattle.std.proofs.lemmas.List.{append_assoc, append-nil, length-append, take-append-drop, length-take-le, take-append-le}
use Rattle.std.proofs.Math.Seq.{take-append_seam, drop-append_seam}
use Rattle.wasm_reader.specs.declared.error.ErrorKind.TheVariants as kinds
use Rattle.wasm_reader.specs.Numbers.{Spells, unsigned, unsigned_at}
use Rattle.wasm_reader.specs.Spellings.{number_taken}
use Rattle.wasm_reader.specs.Finals.{unsigned_final}
use Rattle.wasm_formats.specs.Stops.{SectionSize, Stop, stop, moved, can_end, Parsing, ◌>>=◌, before}
use Rattle.wasm_formats.specs.Formats.{Format, Whole, Small, Inside, InsideAll, done_is, done_refused, refused, refused_is, step_ok, step_err, inside_later, inside_wide, front_small, behind_small, parsed_final, leaf}
use Rattle.wasm_formats.specs.Joined.{Behind}

-- ---- a value that fills the bytes

abbrev pub filled : {A : Type 0} → A × List ℕ → Result A Stop
filled x = if length x.1 == 0 then Ok x.0 else Err (stop SectionSize (length x.1))

pub no_bytes : (l : List ℕ) → length l ≡ 0 → l ≡ []
no_bytes [] e = refl
no_bytes (b ∷ l) e = absurd (omega (arith, e))

pub filled_ok : {A : Type 0} (x : A × List ℕ) (y : A) → filled x ≡ Ok y → (x.1 ≡ []) × (x.0 ≡ y)
filled_ok x y e = elim (cases_Bool (length x.1 == 0)) [
  | inl is ↦ (no_bytes x.1 (eqb-true (length x.1) 0 is), done_is x.0 y (rw is at e))
  | inr apart ↦ let e = (rw apart at e) in absurd cc
]

-- bytes are left
abbrev pub Leaves : List ℕ → Stop → Type 0
Leaves later s = ((length later == 0) ≡ false) × (s ≡ stop SectionSize (length later))

pub filled_err : {A : Type 0} (x : A × List ℕ) (s : Stop) → filled x ≡ Err s → Leaves x.1 s
filled_err {A} x s e = elim (cases_Bool (length x.1 == 0)) [
  | inl is ↦ let e = (rw is at e) in absurd cc
  | inr apart ↦ (apart, sym (refused_is {A = A} (stop SectionSize (length x.1)) s (rw apart at e)))
]

pub filled_inside : {A : Type 0} (n : ℕ) (x : A × List ℕ) → length x.1 ≤ n → InsideAll n (filled x)
filled_inside {A} n x h = elim (cases_Bool (length x.1 == 0)) as (λ _. InsideAll n (filled x)) [
  | inl is ↦ rw is tt
  | inr apart ↦ rw apart h
]

pub inside_end : {A B : Type 0} (n : ℕ) (r : Parsing A) (f : A × List ℕ → Result B Stop) → Inside n r → ((x : A × List ℕ) → length x.1 ≤ n → InsideAll n (f x)) → InsideAll n (r >>= f)
inside_end n (Ok x) f h k = k x h
inside_end n (Err s) f h k = h

-- trouble that can come of the end of the bytes isn't final
pub size_ends : {P : Type 0} (left : ℕ) (s : Stop) → s ≡ stop SectionSize left → can_end s.trouble ≡ false → P
size_ends left s e k = let k : true ≡ false = subst (λ (s : Stop). can_end s.trouble ≡ false) e k in absurd cc

abbrev pub whole : {A : Type 0} → Format A → Whole A
whole {A} f = record {
  spells = f.spells;
  rules = f.rules;
  -- the value is refused, or it stands there and bytes are left
  stops = λ bytes s. f.stops bytes s ⊎ Behind f bytes (λ x later. Leaves later s);
  parse = λ bytes. f.parse bytes >>= λ x. filled x;
  found = λ bytes x small e. step_ok (f.parse bytes) (λ x. filled x) x e (λ y p q.
      let t = filled_ok y x q in
      let s = f.found bytes y.1 y.0 small p in
      let all : bytes ≡ s.0 = s.1 ∙ ap (λ (l : List ℕ). s.0 ++ l) t.0 ∙ append-nil s.0 in
      (rw (all, ← t.1) s.2, rw (← t.1) s.3));
  again = λ bytes x h r. let e : f.parse bytes ≡ Ok (x, []) = rw (← append-nil bytes) (f.again bytes [] x h r) in rw e refl;
  told = λ bytes s small e. step_err (f.parse bytes) (λ x. filled x) s e (λ p. inl (f.told bytes s small p))
      (λ x p q. inr (x.0, x.1, f.found bytes x.1 x.0 small p, filled_err x s q));
  tells = λ bytes s h. elim h [
    | inl p ↦ rw (f.tells bytes s p) refl
    | inr p ↦ let stands = p.2 in let left = p.3 in rw (stands.1, f.again stands.0 p.1 p.0 stands.2 stands.3) (rw (left.0, left.1) refl)
  ];
  within = λ bytes. inside_end (length bytes) (f.parse bytes) (λ x. filled x) (f.within bytes) (λ x le. filled_inside (length bytes) x le);
  final = λ bytes more s small e k. step_err (f.parse bytes) (λ x. filled x) s e (λ p. rw (f.final bytes more s small p k) refl)
      (λ x p q. size_ends (length x.1) s (filled_err x s q).1 k);
}

-- all the bytes, as they are
abbrev pub all_bytes : Whole (List ℕ)
all_bytes = record {
  spells = λ bytes x. x ≡ bytes;
  rules = λ _. Unit {0};
  stops = λ _ _. ⊥;
  parse = λ bytes. Ok bytes;
  found = λ bytes x small e. (sym (done_is bytes x e), tt);
  again = λ bytes x h r. rw h refl;
  told = λ bytes s small e. done_refused bytes s e;
  tells = λ bytes s h. absurd h;
  within = λ _. tt;
  final = λ bytes more s small e k. done_refused bytes s e;
}

-- ---- a value, then all that is left

abbrev pub SpellsFollowed : {A B : Type 0} (f : Format A) (g : A → Whole B) → List ℕ → A × B → Type 0
SpellsFollowed f g bytes p = (front later : List ℕ) × (bytes ≡ front ++ later) × f.spells front p.0 × (g p.0).spells later p.1

pub all_step : {A B : Type 0} (n m : ℕ) (r : Result A Stop) (f : A → B) → n ≤ m → InsideAll n r → InsideAll m (r >>= λ y. Ok (f y))
all_step n m (Ok x) f le h = tt
all_step n m (Err s) f le h = omega (arith, le, h)

abbrev pub followed : {A B : Type 0} → Format A → (A → Whole B) → Whole (A × B)
followed {A} {B} f g = record {
  spells = SpellsFollowed f g;
  rules = λ p. f.rules p.0 × (g p.0).rules p.1;
  stops = λ bytes s. f.stops bytes s ⊎ Behind f bytes (λ x later. (g x).stops later s);
  parse = λ bytes. f.parse bytes >>= λ x. (g x.0).parse x.1 >>= λ y. Ok (x.0, y);
  found = λ bytes p small e. step_ok (f.parse bytes) (λ x. (g x.0).parse x.1 >>= λ y. Ok (x.0, y)) p e (λ x one q.
      step_ok ((g x.0).parse x.1) (λ y. Ok (x.0, y)) p q (λ y two r.
      let s = f.found bytes x.1 x.0 small one in
      let t = (g x.0).found x.1 y (behind_small f bytes x.1 x.0 small one) two in
      let same = done_is (x.0, y) p r in (
        subst (λ (z : A × B). SpellsFollowed f g bytes z) same (s.0, x.1, s.1, s.2, t.0),
        subst (λ (z : A × B). f.rules z.0 × (g z.0).rules z.1) same (s.3, t.1),
      )));
  again = λ bytes p h r. rw (h.2, f.again h.0 h.1 p.0 h.3 r.0, (g p.0).again h.1 p.1 h.4 r.1) refl;
  told = λ bytes s small e. step_err (f.parse bytes) (λ x. (g x.0).parse x.1 >>= λ y. Ok (x.0, y)) s e (λ p. inl (f.told bytes s small p))
      (λ x p h. inr (
        x.0,
        x.1,
        f.found bytes x.1 x.0 small p,
        (g x.0).told x.1 s (behind_small f bytes x.1 x.0 small p)
            (step_err ((g x.0).parse x.1) (λ y. Ok (x.0, y)) s h (λ e. e) (λ y _ n. done_refused (x.0, y) s n)),
      ));
  tells = λ bytes s h. elim h [
    | inl p ↦ rw (f.tells bytes s p) refl
    | inr p ↦ let stands = p.2 in rw (stands.1, f.again stands.0 p.1 p.0 stands.2 stands.3, (g p.0).tells p.1 s p.3) refl
  ];
  within = λ bytes. inside_end (length bytes) (f.parse bytes) (λ x. (g x.0).parse x.1 >>= λ y. Ok (x.0, y)) (f.within bytes)
      (λ x le. all_step (length x.1) (length bytes) ((g x.0).parse x.1) (λ y. (x.0, y)) le ((g x.0).within x.1));
  final = λ bytes more s small e k. step_err (f.parse bytes) (λ x. (g x.0).parse x.1 >>= λ y. Ok (x.0, y)) s e (λ p. rw (f.final bytes more s small p k) refl)
      (λ x p q. step_err ((g x.0).parse x.1) (λ y. Ok (x.0, y)) s q
      (λ r. rw (parsed_final f bytes x.1 more x.0 small p, (g x.0).final x.1 more s (behind_small f bytes x.1 x.0 small p) r k) refl)
      (λ y _ n. done_refused (x.0, y) s n));
}

-- ---- a u32 size, and contents that are all of so many bytes

abbrev pub u32 : Format ℕ
u32 = leaf (unsigned_at 32) (Spells unsigned 32) (number_taken unsigned kinds.TooLarge 32) (unsigned_final 32)

module _ {A : Type 0} (f : Whole A) where
  -- the contents, where there are so many bytes; and the bytes behind them
  abbrev pub window : ℕ → ℕ × List ℕ → Parsing A
  window left n =
      if nat_lt (length n.1) n.0 then Err (stop SectionSize left)
      else (before (length n.1 - n.0) (f.parse (take n.0 n.1)) >>= λ x. Ok (x, drop n.0 n.1))

  pub before_ok : (more : ℕ) (r : Result A Stop) (x : A) → before more r ≡ Ok x → r ≡ Ok x
  before_ok more (Ok x) y e = cc
  before_ok more (Err d) y e = absurd cc

  -- what is refused in the contents
  pub before_err : (more : ℕ) (r : Result A Stop) (s : Stop) → before more r ≡ Err s → (t : Stop) × (r ≡ Err t) × (s ≡ moved more t)
  before_err more (Ok x) s e = absurd cc
  before_err more (Err d) s e = (d, refl, sym (refused_is {A = A} (moved more d) s e))

  pub window_ok : (left : ℕ) (n : ℕ × List ℕ) (y : A × List ℕ) → window left n ≡ Ok y → (n.0 ≤ length n.1) × (f.parse (take n.0 n.1) ≡ Ok y.0) × (drop n.0 n.1 ≡ y.1)
  window_ok left n y e = elim (cases_lt (length n.1) n.0) [
    | inl lt ↦ let e = (rw (lt-ltb (length n.1) n.0 lt) at e) in absurd cc
    | inr le ↦ step_ok (before (length n.1 - n.0) (f.parse (take n.0 n.1))) (λ x. Ok (x, drop n.0 n.1)) y (rw (le-ltb (length n.1) n.0 le) at e) (λ x p q.
        let same = done_is (x, drop n.0 n.1) y q in
        (le, before_ok (length n.1 - n.0) (f.parse (take n.0 n.1)) x p ∙ ap (λ (z : A × List ℕ). Ok z.0) same, ap (λ (z : A × List ℕ). z.1) same))
  ]

  -- there are fewer bytes, which is refused at the size; or the contents are refused, in a window of so many bytes
  abbrev pub StopsWindow : ℕ → ℕ → List ℕ → Stop → Type 0
  StopsWindow left n bytes s =
      ((length bytes < n) × (s ≡ stop SectionSize left))
      ⊎ ((n ≤ length bytes) × ((t : Stop) × f.stops (take n bytes) t × (s ≡ moved (length bytes - n) t)))

  pub window_told : (left : ℕ) (n : ℕ × List ℕ) (s : Stop) → Small (take n.0 n.1) → window left n ≡ Err s → StopsWindow left n.0 n.1 s
  window_told left n s small e = elim (cases_lt (length n.1) n.0) [
    | inl lt ↦ inl (lt, sym (refused_is {A = A × List ℕ} (stop SectionSize left) s (rw (lt-ltb (length n.1) n.0 lt) at e)))
    | inr le ↦ step_err (before (length n.1 - n.0) (f.parse (take n.0 n.1))) (λ x. Ok (x, drop n.0 n.1)) s (rw (le-ltb (length n.1) n.0 le) at e)
        (λ p. let t = before_err (length n.1 - n.0) (f.parse (take n.0 n.1)) s p in inr (le, (t.0, f.told (take n.0 n.1) t.0 small t.1, t.2)))
        (λ x _ q. done_refused (x, drop n.0 n.1) s q)
  ]

  pub window_tells : (left : ℕ) (n : ℕ × List ℕ) (s : Stop) → StopsWindow left n.0 n.1 s → window left n ≡ Err s
  window_tells left n s (inl h) = rw (lt-ltb (length n.1) n.0 h.0, h.1) refl
  window_tells left n s (inr h) = let t = h.1 in rw (le-ltb (length n.1) n.0 h.0, f.tells (take n.0 n.1) t.0 t.1, t.2) refl

  pub window_step : (n k : ℕ) (later : List ℕ) (r : Result A Stop) → length later ≤ n + k → InsideAll n r → Inside (n + k) (before k r >>= λ x. Ok (x, later))
  window_step n k later (Ok x) le h = le
  window_step n k later (Err s) le h = omega (arith, h)

  pub window_inside : (left m : ℕ) (n : ℕ × List ℕ) → left ≤ m → length n.1 ≤ m → Inside m (window left n)
  window_inside left m n h k = elim (cases_lt (length n.1) n.0) as (λ _. Inside m (window left n)) [
    | inl lt ↦ rw (lt-ltb (length n.1) n.0 lt) h
    | inr le ↦ rw (le-ltb (length n.1) n.0 le)
        (let size = length-take-le n.0 n.1 le in
        let all = ap length (take-append-drop n.0 n.1) in
        let rest = length-append (take n.0 n.1) (drop n.0 n.1) in
        inside_later (n.0 + (length n.1 - n.0)) m (before (length n.1 - n.0) (f.parse (take n.0 n.1)) >>= λ x. Ok (x, drop n.0 n.1)) (omega (arith, le, k))
        (window_step n.0 (length n.1 - n.0) (drop n.0 n.1) (f.parse (take n.0 n.1)) (omega (arith, size, rest, all)) (subst (λ (k : ℕ). InsideAll k (f.parse (take n.0 n.1))) size (f.within (take n.0 n.1)))))
  ]

  pub window_moved : (k more : ℕ) (later : List ℕ) (r : Result A Stop) (t s : Stop) → r ≡ Err t → s ≡ moved k t
      → (let put : A → Parsing A = λ x. Ok (x, later) in (before (k + more) r >>= put) ≡ Err (moved more s))
  window_moved k more later r t s e h = rw (e, h) (ap (λ (n : ℕ). refused (stop t.trouble n)) (omega arith))

  -- bytes behind the window don't change what is refused in it
  pub window_final : (left : ℕ) (n : ℕ × List ℕ) (m : List ℕ) (s : Stop) → Small n.1 → window left n ≡ Err s → can_end s.trouble ≡ false → window (left + length m) (n.0, n.1 ++ m) ≡ Err (moved (length m) s)
  window_final left n m s small e k = elim (cases_lt (length n.1) n.0) [
    | inl lt ↦ size_ends left s (sym (refused_is {A = A × List ℕ} (stop SectionSize left) s (rw (lt-ltb (length n.1) n.0 lt) at e))) k
    | inr le ↦ step_err (before (length n.1 - n.0) (f.parse (take n.0 n.1))) (λ x. Ok (x, drop n.0 n.1)) s (rw (le-ltb (length n.1) n.0 le) at e)
        (λ p. let t = before_err (length n.1 - n.0) (f.parse (take n.0 n.1)) s p in
        let size = length-append n.1 m in
        let there : n.0 ≤ length (n.1 ++ m) = omega (arith, size, le) in
        let far : length (n.1 ++ m) - n.0 ≡ (length n.1 - n.0) + length m = omega (arith, size, le) in
        rw (le-ltb (length (n.1 ++ m)) n.0 there, take-append-le n.0 n.1 m le, far)
        (window_moved (length n.1 - n.0) (length m) (drop n.0 (n.1 ++ m)) (f.parse (take n.0 n.1)) t.0 s t.1 t.2))
        (λ x _ q. done_refused (x, drop n.0 n.1) s q)
  ]

  abbrev pub SpellsSized : List ℕ → A → Type 0
  SpellsSized bytes x = (size contents : List ℕ) × (bytes ≡ size ++ contents) × Spells unsigned 32 size (length contents) × f.spells contents x

  abbrev pub sized : Format A
  sized = record {
    spells = SpellsSized;
    rules = f.rules;
    -- the size is refused, or it stands there and the contents are refused behind it
    stops = λ bytes s. u32.stops bytes s ⊎ Behind u32 bytes (λ n later. StopsWindow (length bytes) n later s);
    parse = λ bytes. u32.parse bytes >>= window (length bytes);
    found = λ bytes later x small e. step_ok (u32.parse bytes) (window (length bytes)) (x, later) e (λ n one q.
        let s = u32.found bytes n.1 n.0 small one in
        let w = window_ok (length bytes) n (x, later) q in
        let parts : take n.0 n.1 ++ later ≡ n.1 = ap (λ (l : List ℕ). take n.0 n.1 ++ l) (sym w.2) ∙ take-append-drop n.0 n.1 in
        let inner : Small (take n.0 n.1) = front_small (take n.0 n.1) later (subst Small (sym parts) (behind_small u32 bytes n.1 n.0 small one)) in
        let t = f.found (take n.0 n.1) x inner w.1 in (
          s.0 ++ take n.0 n.1,
          s.1 ∙ ap (λ (l : List ℕ). s.0 ++ l) (sym parts) ∙ sym (append_assoc s.0 (take n.0 n.1) later),
          (s.0, take n.0 n.1, refl, subst (λ (k : ℕ). Spells unsigned 32 s.0 k) (sym (length-take-le n.0 n.1 w.0)) s.2, t.0),
          t.1,
        ));
    again = λ bytes more x h r.
        let there : length h.1 ≤ length (h.1 ++ more) = omega (arith, length-append h.1 more) in
        rw (h.2, append_assoc h.0 h.1 more, u32.again h.0 (h.1 ++ more) (length h.1) h.3 tt, le-ltb (length (h.1 ++ more)) (length h.1) there, take-append_seam h.1 more, drop-append_seam h.1 more, f.again h.1 x h.4 r) refl;
    told = λ bytes s small e. step_err (u32.parse bytes) (window (length bytes)) s e (λ p. inl (u32.told bytes s small p))
        (λ n p q. let behind = subst Small (sym (take-append-drop n.0 n.1)) (behind_small u32 bytes n.1 n.0 small p) in
        inr (n.0, n.1, u32.found bytes n.1 n.0 small p, window_told (length bytes) n s (front_small (take n.0 n.1) (drop n.0 n.1) behind) q));
    tells = λ bytes s h. elim h [
      | inl p ↦ rw (u32.tells bytes s p) refl
      | inr p ↦ let stands = p.2 in
          let there : u32.parse bytes ≡ Ok (p.0, p.1) = rw stands.1 (u32.again stands.0 p.1 p.0 stands.2 stands.3) in
          rw there (window_tells (length bytes) (p.0, p.1) s p.3)
    ];
    within = λ bytes. inside_wide (length bytes) (u32.parse bytes) (window (length bytes)) (u32.within bytes) (λ n le. window_inside (length bytes) (length bytes) n (omega arith) le);
    final = λ bytes more s small e k. step_err (u32.parse bytes) (window (length bytes)) s e (λ p. rw (u32.final bytes more s small p k) refl)
        (λ n p q. rw (parsed_final u32 bytes n.1 more n.0 small p, length-append bytes more) (window_final (length bytes) n more s (behind_small u32 bytes n.1 n.0 small p) q k));
  }
