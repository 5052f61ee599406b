-- Lists of entries, each at the state that those before it left; and entries to the end of the bytes.
use Rattle.std.specs.Prelude.{ℕ, zero, suc, ◌≡◌, false, List, [], ◌∷◌, ◌++◌, length, Ok, Err, ◌⊎◌, refl}
use Rattle.std.proofs.Common.{ap, sym, ◌∙◌, subst, arith, inl, inr}
use Rattle.std.proofs.lemmas.List.{append_assoc}
use Rattle.wasm_reader.specs.Numbers.{Spells, unsigned}
use Rattle.wasm_formats.specs.Stops.{Stop, moved, can_end, Parsing, ◌>>=◌}
use Rattle.wasm_formats.specs.Formats.{Format, Small, Inside, done_is, done_refused, step_ok, step_err, inside_step, behind_small, parsed_final}
use Rattle.wasm_formats.specs.Joined.{Behind}
use Rattle.wasm_formats.specs.Wholes.{u32}

module _ {A S : Type 0} (next : S → A → S) (entry : S → Format A) where
  abbrev pub SpellsEntries : S → List ℕ → List A → Type 0
  SpellsEntries s bytes [] = bytes ≡ []
  SpellsEntries s bytes (x ∷ xs) = (front later : List ℕ) × (bytes ≡ front ++ later) × (entry s).spells front x × SpellsEntries (next s x) later xs

  abbrev pub EntryRules : S → List A → Type 0
  EntryRules s [] = Unit {0}
  EntryRules s (x ∷ xs) = (entry s).rules x × EntryRules (next s x) xs

  -- so many entries are wanted: the first is refused, or it stands there and one behind it is
  abbrev pub StopsEntries : ℕ → S → List ℕ → Stop → Type 0
  StopsEntries zero s bytes e = ⊥
  StopsEntries (suc count) s bytes e = (entry s).stops bytes e ⊎ Behind (entry s) bytes (λ x later. StopsEntries count (next s x) later e)

  abbrev pub parse_entries : ℕ → S → List ℕ → Parsing (List A)
  parse_entries zero s bytes = Ok ([], bytes)
  parse_entries (suc count) s bytes = (entry s).parse bytes >>= λ x. parse_entries count (next s x.0) x.1 >>= λ xs. Ok (x.0 ∷ xs.0, xs.1)

  pub entries_again : (xs : List A) (s : S) (bytes more : List ℕ) → SpellsEntries s bytes xs → EntryRules s xs → parse_entries (length xs) s (bytes ++ more) ≡ Ok (xs, more)
  entries_again [] s bytes more h r = rw h refl
  entries_again (x ∷ xs) s bytes more h r =
      rw (h.2, append_assoc h.0 h.1 more, (entry s).again h.0 (h.1 ++ more) x h.3 r.0, entries_again xs (next s x) h.1 more h.4 r.1) refl

  abbrev pub EntriesFound : ℕ → S → List ℕ → List ℕ → List A → Type 0
  EntriesFound count s bytes later xs = (front : List ℕ) × (bytes ≡ front ++ later) × SpellsEntries s front xs × EntryRules s xs × (length xs ≡ count)

  pub entries_found : (count : ℕ) (s : S) (bytes later : List ℕ) (xs : List A) → Small bytes → parse_entries count s bytes ≡ Ok (xs, later) → EntriesFound count s bytes later xs
  entries_found zero s bytes later xs small e =
      let same = done_is ([], bytes) (xs, later) e in
      subst (λ (z : List A × List ℕ). EntriesFound 0 s bytes z.1 z.0) same ([], refl, refl, tt, refl)
  entries_found (suc count) s bytes later xs small e = step_ok ((entry s).parse bytes) _ (xs, later) e (λ x one q.
      step_ok (parse_entries count (next s x.0) x.1) _ (xs, later) q (λ ys two r.
      let f = (entry s).found bytes x.1 x.0 small one in
      let t = entries_found count (next s x.0) x.1 ys.1 ys.0 (behind_small (entry s) bytes x.1 x.0 small one) two in
      let same = done_is (x.0 ∷ ys.0, ys.1) (xs, later) r in
      subst (λ (z : List A × List ℕ). EntriesFound (suc count) s bytes z.1 z.0) same
      (f.0 ++ t.0, f.1 ∙ ap (λ (l : List ℕ). f.0 ++ l) t.1 ∙ sym (append_assoc f.0 t.0 ys.1), (f.0, t.0, refl, f.2, t.2), (f.3, t.3), ap (λ (n : ℕ). suc n) t.4)))

  pub entries_told : (count : ℕ) (s : S) (bytes : List ℕ) (e : Stop) → Small bytes → parse_entries count s bytes ≡ Err e → StopsEntries count s bytes e
  entries_told zero s bytes e small h = done_refused ([], bytes) e h
  entries_told (suc count) s bytes e small h = step_err ((entry s).parse bytes) _ e h (λ p. inl ((entry s).told bytes e small p))
      (λ x p q. inr (
        x.0,
        x.1,
        (entry s).found bytes x.1 x.0 small p,
        entries_told count (next s x.0) x.1 e (behind_small (entry s) bytes x.1 x.0 small p)
            (step_err (parse_entries count (next s x.0) x.1) (λ xs. Ok (x.0 ∷ xs.0, xs.1)) e q (λ r. r) (λ xs _ n. done_refused (x.0 ∷ xs.0, xs.1) e n)),
      ))

  pub entries_tells : (count : ℕ) (s : S) (bytes : List ℕ) (e : Stop) → StopsEntries count s bytes e → parse_entries count s bytes ≡ Err e
  entries_tells zero s bytes e h = absurd h
  entries_tells (suc count) s bytes e (inl h) = rw ((entry s).tells bytes e h) refl
  entries_tells (suc count) s bytes e (inr h) =
      let stands = h.2 in
      rw (stands.1, (entry s).again stands.0 h.1 h.0 stands.2 stands.3, entries_tells count (next s h.0) h.1 e h.3) refl

  pub entries_within : (count : ℕ) (s : S) (bytes : List ℕ) → Inside (length bytes) (parse_entries count s bytes)
  entries_within zero s bytes = omega arith
  entries_within (suc count) s bytes = inside_step (length bytes) ((entry s).parse bytes) _ ((entry s).within bytes)
      (λ x. inside_step (length x.1) (parse_entries count (next s x.0) x.1) _ (entries_within count (next s x.0) x.1) (λ xs. omega arith))

  pub entries_final : (count : ℕ) (s : S) (bytes more : List ℕ) (e : Stop) → Small bytes → parse_entries count s bytes ≡ Err e → can_end e.trouble ≡ false
      → parse_entries count s (bytes ++ more) ≡ Err (moved (length more) e)
  entries_final zero s bytes more e small h k = done_refused ([], bytes) e h
  entries_final (suc count) s bytes more e small h k = step_err ((entry s).parse bytes) _ e h (λ p. rw ((entry s).final bytes more e small p k) refl)
      (λ x p q. step_err (parse_entries count (next s x.0) x.1) (λ xs. Ok (x.0 ∷ xs.0, xs.1)) e q
      (λ r. rw (parsed_final (entry s) bytes x.1 more x.0 small p, entries_final count (next s x.0) x.1 more e (behind_small (entry s) bytes x.1 x.0 small p) r k) refl)
      (λ xs _ n. done_refused (x.0 ∷ xs.0, xs.1) e n))

  -- so many entries, the count of which was read before
  abbrev pub listed : ℕ → S → Format (List A)
  listed count s = record {
    spells = λ bytes xs. SpellsEntries s bytes xs × (length xs ≡ count);
    rules = EntryRules s;
    stops = StopsEntries count s;
    parse = parse_entries count s;
    found = λ bytes later xs small e. let t = entries_found count s bytes later xs small e in (t.0, t.1, (t.2, t.4), t.3);
    again = λ bytes more xs h r. rw (← h.1) (entries_again xs s bytes more h.0 r);
    told = entries_told count s;
    tells = entries_tells count s;
    within = entries_within count s;
    final = entries_final count s;
  }

  -- vec: a u32 count, and that many entries, from this state on
  abbrev pub SpellsList : S → List ℕ → List A → Type 0
  SpellsList s bytes xs = (count listed : List ℕ) × (bytes ≡ count ++ listed) × Spells unsigned 32 count (length xs) × SpellsEntries s listed xs

  abbrev pub vec : S → Format (List A)
  vec s = record {
    spells = SpellsList s;
    rules = EntryRules s;
    stops = λ bytes e. u32.stops bytes e ⊎ Behind u32 bytes (λ n later. StopsEntries n s later e);
    parse = λ bytes. u32.parse bytes >>= λ n. parse_entries n.0 s n.1;
    found = λ bytes later xs small e. step_ok (u32.parse bytes) (λ n. parse_entries n.0 s n.1) (xs, later) e (λ n one q.
        let f = u32.found bytes n.1 n.0 small one in
        let t = entries_found n.0 s n.1 later xs (behind_small u32 bytes n.1 n.0 small one) q in
        (f.0 ++ t.0, f.1 ∙ ap (λ (l : List ℕ). f.0 ++ l) t.1 ∙ sym (append_assoc f.0 t.0 later), (f.0, t.0, refl, subst (λ (n : ℕ). Spells unsigned 32 f.0 n) (sym t.4) f.2, t.2), t.3));
    again = λ bytes more xs h r. rw (h.2, append_assoc h.0 h.1 more, u32.again h.0 (h.1 ++ more) (length xs) h.3 tt, entries_again xs s h.1 more h.4 r) refl;
    told = λ bytes e small h. step_err (u32.parse bytes) (λ n. parse_entries n.0 s n.1) e h (λ p. inl (u32.told bytes e small p))
        (λ n p q. inr (n.0, n.1, u32.found bytes n.1 n.0 small p, entries_told n.0 s n.1 e (behind_small u32 bytes n.1 n.0 small p) q));
    tells = λ bytes e h. elim h [
      | inl p ↦ rw (u32.tells bytes e p) refl
      | inr p ↦ let stands = p.2 in
          let there : u32.parse bytes ≡ Ok (p.0, p.1) = rw stands.1 (u32.again stands.0 p.1 p.0 stands.2 stands.3) in
          rw there (entries_tells p.0 s p.1 e p.3)
    ];
    within = λ bytes. inside_step (length bytes) (u32.parse bytes) (λ n. parse_entries n.0 s n.1) (u32.within bytes) (λ n. entries_within n.0 s n.1);
    final = λ bytes more e small h k. step_err (u32.parse bytes) (λ n. parse_entries n.0 s n.1) e h (λ p. rw (u32.final bytes more e small p k) refl)
        (λ n p q. rw (parsed_final u32 bytes n.1 more n.0 small p) (entries_final n.0 s n.1 more e (behind_small u32 bytes n.1 n.0 small p) q k));
  }
