-- Vecs whose count is tested before their entries.
use Rattle.std.specs.Prelude.{ℕ, ◌≡◌, List, ◌++◌, length, Option, None, Ok, ◌⊎◌, refl}
use Rattle.std.proofs.Common.{ap, sym, ◌∙◌, subst, inl, inr}
use Rattle.std.proofs.lemmas.List.{append_assoc}
use Rattle.wasm_formats.specs.wasm_reader.Numbers.{Spells, unsigned}
use Rattle.wasm_formats.specs.Stops.{Trouble, ◌>>=◌}
use Rattle.wasm_formats.specs.Formats.{Format, step_ok, step_err, inside_step, behind_small, parsed_final}
use Rattle.wasm_formats.specs.Joined.{Behind, checked}
use Rattle.wasm_formats.specs.Wholes.{u32}
use Rattle.wasm_formats.specs.Lists.{SpellsList, EntryRules, StopsEntries, parse_entries, entries_again, entries_found, entries_told, entries_tells, entries_within, entries_final}

module _ {A S : Type 0} (next : S → A → S) (entry : S → Format A) (test : ℕ → Option Trouble) where
  abbrev pub number : Format ℕ
  number = checked u32 test

  -- a u32 count that passes the test, and that many entries
  abbrev pub counted : S → Format (List A)
  counted s = record {
    spells = SpellsList next entry s;
    rules = λ xs. (test (length xs) ≡ None) × EntryRules next entry s xs;
    stops = λ bytes e. number.stops bytes e ⊎ Behind number bytes (λ n later. StopsEntries next entry n s later e);
    parse = λ bytes. number.parse bytes >>= λ n. parse_entries next entry n.0 s n.1;
    found = λ bytes later xs small e. step_ok (number.parse bytes) (λ n. parse_entries next entry n.0 s n.1) (xs, later) e (λ n one q.
        let f = number.found bytes n.1 n.0 small one in
        let t = entries_found next entry n.0 s n.1 later xs (behind_small number bytes n.1 n.0 small one) q in (
          f.0 ++ t.0,
          f.1 ∙ ap (λ (l : List ℕ). f.0 ++ l) t.1 ∙ sym (append_assoc f.0 t.0 later),
          (f.0, t.0, refl, subst (λ (n : ℕ). Spells unsigned 32 f.0 n) (sym t.4) f.2, t.2),
          (subst (λ (n : ℕ). test n ≡ None) (sym t.4) f.3.1, t.3),
        ));
    again = λ bytes more xs h r.
        rw (h.2, append_assoc h.0 h.1 more, number.again h.0 (h.1 ++ more) (length xs) h.3 (tt, r.0), entries_again next entry xs s h.1 more h.4 r.1) refl;
    told = λ bytes e small h. step_err (number.parse bytes) (λ n. parse_entries next entry n.0 s n.1) e h (λ p. inl (number.told bytes e small p))
        (λ n p q. inr (n.0, n.1, number.found bytes n.1 n.0 small p, entries_told next entry n.0 s n.1 e (behind_small number bytes n.1 n.0 small p) q));
    tells = λ bytes e h. elim h [
      | inl p ↦ rw (number.tells bytes e p) refl
      | inr p ↦ let stands = p.2 in
          let there : number.parse bytes ≡ Ok (p.0, p.1) = rw stands.1 (number.again stands.0 p.1 p.0 stands.2 stands.3) in
          rw there (entries_tells next entry p.0 s p.1 e p.3)
    ];
    within = λ bytes. inside_step (length bytes) (number.parse bytes) (λ n. parse_entries next entry n.0 s n.1) (number.within bytes) (λ n. entries_within next entry n.0 s n.1);
    final = λ bytes more e small h k. step_err (number.parse bytes) (λ n. parse_entries next entry n.0 s n.1) e h (λ p. rw (number.final bytes more e small p k) refl)
        (λ n p q. rw (parsed_final number bytes n.1 more n.0 small p) (entries_final next entry n.0 s n.1 more e (behind_small number bytes n.1 n.0 small p) q k));
  }
