-- Entries to the end of the bytes, and what is tested there.
use Rattle.std.specs.Prelude.{ℕ, zero, suc, ◌+◌, ◌<◌, ◌≤◌, ◌≡◌, Bool, true, false, List, [], ◌∷◌, ◌++◌, length, fold, Result, Ok, Err, ◌⊎◌, if◌then◌else◌, refl}
use Rattle.std.proofs.Common.{ap, sym, ◌∙◌, subst, arith, inl, inr}
use Rattle.std.proofs.lemmas.List.{append_assoc, length-append}
use Rattle.wasm_formats.specs.Stops.{Trouble, Count, Stop, stop, moved, can_end, Parsing, ◌>>=◌}
use Rattle.wasm_formats.specs.Formats.{Format, Whole, Small, Stands, Inside, InsideAll, done_is, done_refused, refused_is, step_ok, step_err, behind_small, parsed_final}
use Rattle.wasm_formats.specs.Wholes.{all_step}
use Rattle.wasm_formats.specs.Lists.{SpellsEntries, EntryRules}

-- trouble of a count isn't final
pub count_ends : {P : Type 0} (left : ℕ) (s : Stop) → s ≡ stop Count left → can_end s.trouble ≡ false → P
count_ends left s e k = let k : true ≡ false = subst (λ (s : Stop). can_end s.trouble ≡ false) e k in absurd cc

module _ {A S : Type 0} (next : S → A → S) (entry : S → Format A) (takes : (s : S) (bytes : List ℕ) (x : A) → (entry s).spells bytes x → 0 < length bytes) where
  -- each entry takes at least one byte, so that as many rounds as bytes are enough
  abbrev pub parse_all : ℕ → S → List ℕ → Result (List A) Stop
  parse_all fuel s [] = Ok []
  parse_all zero s (b ∷ bytes) = Err (stop Count 0)
  parse_all (suc fuel) s (b ∷ bytes) = (entry s).parse (b ∷ bytes) >>= λ x. parse_all fuel (next s x.0) x.1 >>= λ xs. Ok (x.0 ∷ xs)

  -- some entries stand there, bytes are left, and the next entry is refused
  abbrev pub StopsAmong : S → List ℕ → Stop → Type 0
  StopsAmong s bytes e = (xs : List A) × (front later : List ℕ) × (bytes ≡ front ++ later) × SpellsEntries next entry s front xs × EntryRules next entry s xs
      × (0 < length later) × (entry (fold next s xs)).stops later e

  -- what is behind an entry is shorter
  pub shorter : (s : S) (bytes : List ℕ) (x : A) (later : List ℕ) → Stands (entry s).spells (entry s).rules bytes later x → length later < length bytes
  shorter s bytes x later h = omega (arith, takes s h.0 x h.2, ap length h.1, length-append h.0 later)

  pub all_found : (fuel : ℕ) (s : S) (bytes : List ℕ) (xs : List A) → Small bytes → parse_all fuel s bytes ≡ Ok xs → SpellsEntries next entry s bytes xs × EntryRules next entry s xs
  all_found fuel s [] xs small e = rw (← done_is [] xs e) (refl, tt)
  all_found zero s (b ∷ bytes) xs small e = absurd cc
  all_found (suc fuel) s (b ∷ bytes) xs small e = step_ok ((entry s).parse (b ∷ bytes)) _ xs e (λ x one q.
      step_ok (parse_all fuel (next s x.0) x.1) _ xs q (λ ys two r.
      let f = (entry s).found (b ∷ bytes) x.1 x.0 small one in
      let t = all_found fuel (next s x.0) x.1 ys (behind_small (entry s) (b ∷ bytes) x.1 x.0 small one) two in
      subst (λ (z : List A). SpellsEntries next entry s (b ∷ bytes) z × EntryRules next entry s z) (done_is (x.0 ∷ ys) xs r) ((f.0, x.1, f.1, f.2, t.0), (f.3, t.1))))

  pub all_next : (fuel : ℕ) (s : S) (front later : List ℕ) (x : A) (r : Result (List A) Stop) → 0 < length front → (entry s).parse (front ++ later) ≡ Ok (x, later)
      → parse_all fuel (next s x) later ≡ r → parse_all (suc fuel) s (front ++ later) ≡ (r >>= λ xs. Ok (x ∷ xs))
  all_next fuel s [] later x r some e f = absurd (omega (arith, some))
  all_next fuel s (b ∷ front) later x r some e f = rw (e, f) refl

  pub all_again : (xs : List A) (fuel : ℕ) (s : S) (bytes : List ℕ) → length bytes ≤ fuel → SpellsEntries next entry s bytes xs → EntryRules next entry s xs → parse_all fuel s bytes ≡ Ok xs
  all_again [] fuel s bytes le h r = rw h refl
  all_again (x ∷ xs) zero s bytes le h r = absurd (omega (arith, le, takes s h.0 x h.3, ap length h.2, length-append h.0 h.1))
  all_again (x ∷ xs) (suc fuel) s bytes le h r =
      let some = takes s h.0 x h.3 in
      rw h.2 (all_next fuel s h.0 h.1 x (Ok xs) some ((entry s).again h.0 h.1 x h.3 r.0)
      (all_again xs fuel (next s x) h.1 (omega (arith, le, some, ap length h.2, length-append h.0 h.1)) h.4 r.1))

  pub all_told : (fuel : ℕ) (s : S) (bytes : List ℕ) (e : Stop) → length bytes ≤ fuel → Small bytes → parse_all fuel s bytes ≡ Err e → StopsAmong s bytes e
  all_told fuel s [] e le small h = done_refused [] e h
  all_told zero s (b ∷ bytes) e le small h = absurd (omega (arith, le))
  all_told (suc fuel) s (b ∷ bytes) e le small h = step_err ((entry s).parse (b ∷ bytes)) _ e h
      (λ p. ([], [], b ∷ bytes, refl, refl, tt, omega arith, (entry s).told (b ∷ bytes) e small p))
      (λ x p q. step_err (parse_all fuel (next s x.0) x.1) (λ xs. Ok (x.0 ∷ xs)) e q
      (λ r. let f = (entry s).found (b ∷ bytes) x.1 x.0 small p in
      let t = all_told fuel (next s x.0) x.1 e (omega (arith, le, shorter s (b ∷ bytes) x.0 x.1 f)) (behind_small (entry s) (b ∷ bytes) x.1 x.0 small p) r in
      (x.0 ∷ t.0, f.0 ++ t.1, t.2, f.1 ∙ ap (λ (l : List ℕ). f.0 ++ l) t.3 ∙ sym (append_assoc f.0 t.1 t.2), (f.0, t.1, refl, f.2, t.4), (f.3, t.5), t.6, t.7))
      (λ xs _ n. done_refused (x.0 ∷ xs) e n))

  pub all_first : (fuel : ℕ) (s : S) (later : List ℕ) (e : Stop) → 0 < length later → (entry s).parse later ≡ Err e → parse_all (suc fuel) s later ≡ Err e
  all_first fuel s [] e some h = absurd (omega (arith, some))
  all_first fuel s (b ∷ later) e some h = rw h refl

  pub all_tells : (xs : List A) (fuel : ℕ) (s : S) (front later : List ℕ) (e : Stop) → length (front ++ later) ≤ fuel → SpellsEntries next entry s front xs → EntryRules next entry s xs
      → 0 < length later → (entry (fold next s xs)).stops later e → parse_all fuel s (front ++ later) ≡ Err e
  all_tells [] zero s front later e le h r some t = absurd (omega (arith, le, some, length-append front later))
  all_tells [] (suc fuel) s front later e le h r some t = rw h (all_first fuel s later e some ((entry s).tells later e t))
  all_tells (x ∷ xs) zero s front later e le h r some t = absurd (omega (arith, le, some, length-append front later))
  all_tells (x ∷ xs) (suc fuel) s front later e le h r some t =
      let takes = takes s h.0 x h.3 in
      let whole : length (front ++ later) ≡ length h.0 + length (h.1 ++ later) = rw (h.2, append_assoc h.0 h.1 later) (length-append h.0 (h.1 ++ later)) in
      rw (h.2, append_assoc h.0 h.1 later) (all_next fuel s h.0 (h.1 ++ later) x (Err e) takes ((entry s).again h.0 (h.1 ++ later) x h.3 r.0)
      (all_tells xs fuel (next s x) h.1 later e (omega (arith, le, takes, whole)) h.4 r.1 some t))

  pub all_within : (fuel : ℕ) (s : S) (bytes : List ℕ) → InsideAll (length bytes) (parse_all fuel s bytes)
  all_within fuel s [] = tt
  all_within zero s (b ∷ bytes) = omega arith
  all_within (suc fuel) s (b ∷ bytes) = go (length (b ∷ bytes)) ((entry s).parse (b ∷ bytes)) ((entry s).within (b ∷ bytes)) (λ x. all_within fuel (next s x.0) x.1)
    where
      go : (n : ℕ) (r : Parsing A) → Inside n r → ((x : A × List ℕ) → InsideAll (length x.1) (parse_all fuel (next s x.0) x.1)) → InsideAll n (r >>= λ x. parse_all fuel (next s x.0) x.1 >>= λ xs. Ok (x.0 ∷ xs))
      go n (Ok x) h k = all_step (length x.1) n (parse_all fuel (next s x.0) x.1) (λ xs. x.0 ∷ xs) h (k x)
      go n (Err e) h k = h

  pub all_final : (fuel wide : ℕ) (s : S) (bytes more : List ℕ) (e : Stop) → fuel ≤ wide → Small bytes → parse_all fuel s bytes ≡ Err e → can_end e.trouble ≡ false
      → parse_all wide s (bytes ++ more) ≡ Err (moved (length more) e)
  all_final fuel wide s [] more e le small h k = done_refused [] e h
  all_final zero wide s (b ∷ bytes) more e le small h k = count_ends 0 e (sym (refused_is {A = List A} (stop Count 0) e h)) k
  all_final (suc fuel) zero s (b ∷ bytes) more e le small h k = absurd (omega (arith, le))
  all_final (suc fuel) (suc wide) s (b ∷ bytes) more e le small h k = step_err ((entry s).parse (b ∷ bytes)) _ e h
      (λ p. let first : (entry s).parse (b ∷ (bytes ++ more)) ≡ Err (moved (length more) e) = (entry s).final (b ∷ bytes) more e small p k in rw first refl)
      (λ x p q. step_err (parse_all fuel (next s x.0) x.1) (λ xs. Ok (x.0 ∷ xs)) e q
      (λ r. let first : (entry s).parse (b ∷ (bytes ++ more)) ≡ Ok (x.0, x.1 ++ more) = parsed_final (entry s) (b ∷ bytes) x.1 more x.0 small p in
      rw (first, all_final fuel wide (next s x.0) x.1 more e (omega (arith, le)) (behind_small (entry s) (b ∷ bytes) x.1 x.0 small p) r k) refl)
      (λ xs _ n. done_refused (x.0 ∷ xs) e n))

  abbrev pub entries : S → Whole (List A)
  entries s = record {
    spells = SpellsEntries next entry s;
    rules = EntryRules next entry s;
    stops = StopsAmong s;
    parse = λ bytes. parse_all (length bytes) s bytes;
    found = λ bytes xs small e. all_found (length bytes) s bytes xs small e;
    again = λ bytes xs h r. all_again xs (length bytes) s bytes (omega arith) h r;
    told = λ bytes e small h. all_told (length bytes) s bytes e (omega arith) small h;
    tells = λ bytes e h. rw h.3 (all_tells h.0 (length (h.1 ++ h.2)) s h.1 h.2 e (omega arith) h.4 h.5 h.6 h.7);
    within = λ bytes. all_within (length bytes) s bytes;
    final = λ bytes more e small h k. all_final (length bytes) (length (bytes ++ more)) s bytes more e (omega (arith, length-append bytes more)) small h k;
  }

-- ---- what has to hold once all bytes were read, or else there is trouble at their end that more bytes may mend

abbrev pub ended_at : {A : Type 0} → Trouble → Bool → A → Result A Stop
ended_at trouble holds x = if holds then Ok x else Err (stop trouble 0)

pub ended_ok : {A : Type 0} (trouble : Trouble) (holds : Bool) (x y : A) → ended_at trouble holds x ≡ Ok y → (holds ≡ true) × (x ≡ y)
ended_ok trouble true x y e = (refl, done_is x y e)
ended_ok trouble false x y e = absurd cc

pub ended_err : {A : Type 0} (trouble : Trouble) (holds : Bool) (x : A) (s : Stop) → ended_at trouble holds x ≡ Err s → (holds ≡ false) × (s ≡ stop trouble 0)
ended_err trouble true x s e = absurd cc
ended_err {A} trouble false x s e = (refl, sym (refused_is {A = A} (stop trouble 0) s e))

pub ended_inside : {A : Type 0} (trouble : Trouble) (n : ℕ) (test : A → Bool) (r : Result A Stop) → InsideAll n r → InsideAll n (r >>= λ x. ended_at trouble (test x) x)
ended_inside {A} trouble n test (Ok x) h = go (test x)
  where
    go : (holds : Bool) → InsideAll n (ended_at trouble holds x)
    go true = tt
    go false = omega arith
ended_inside trouble n test (Err s) h = h

-- trouble that more bytes may mend isn't final
pub end_ends : {P : Type 0} (trouble : Trouble) (left : ℕ) (s : Stop) → can_end trouble ≡ true → s ≡ stop trouble left → can_end s.trouble ≡ false → P
end_ends trouble left s ends e k = let k : true ≡ false = sym ends ∙ subst (λ (s : Stop). can_end s.trouble ≡ false) e k in absurd cc

abbrev pub ended_by : {A : Type 0} → (trouble : Trouble) → can_end trouble ≡ true → Whole A → (A → Bool) → Whole A
ended_by {A} trouble ends f test = record {
  spells = f.spells;
  rules = λ x. f.rules x × (test x ≡ true);
  -- the value is refused, or it stands there and the test fails at the end
  stops = λ bytes s. f.stops bytes s ⊎ ((x : A) × (f.spells bytes x × f.rules x) × (test x ≡ false) × (s ≡ stop trouble 0));
  parse = λ bytes. f.parse bytes >>= λ x. ended_at trouble (test x) x;
  found = λ bytes x small e. step_ok (f.parse bytes) (λ x. ended_at trouble (test x) x) x e (λ y p q.
      let t = ended_ok trouble (test y) y x q in
      let s = f.found bytes x small (p ∙ ap (λ z. Ok z) t.1) in
      (s.0, (s.1, subst (λ (z : A). test z ≡ true) t.1 t.0)));
  again = λ bytes x h r. rw (f.again bytes x h r.0, r.1) refl;
  told = λ bytes s small e. step_err (f.parse bytes) (λ x. ended_at trouble (test x) x) s e (λ p. inl (f.told bytes s small p))
      (λ x p q. let t = ended_err trouble (test x) x s q in inr (x, f.found bytes x small p, t.0, t.1));
  tells = λ bytes s h. elim h [
    | inl p ↦ rw (f.tells bytes s p) refl
    | inr p ↦ rw (f.again bytes p.0 p.1.0 p.1.1, p.2, p.3) refl
  ];
  within = λ bytes. ended_inside trouble (length bytes) test (f.parse bytes) (f.within bytes);
  final = λ bytes more s small e k. step_err (f.parse bytes) (λ x. ended_at trouble (test x) x) s e (λ p. rw (f.final bytes more s small p k) refl)
      (λ x p q. end_ends trouble 0 s ends (ended_err trouble (test x) x s q).1 k);
}

-- counts that are compared at the end
abbrev pub ended : {A : Type 0} → Whole A → (A → Bool) → Whole A
ended f test = ended_by Count refl f test
