-- A value that is always spelled alike, as the header of a file.
use Rattle.std.specs.Prelude.{ℕ, ◌≤◌, ◌≡◌, ◌==◌, true, false, List, [], ◌∷◌, ◌++◌, length, Option, Some, None, Ok, Err, if◌then◌else◌, refl}
use Rattle.std.proofs.Common.{ap, sym, ◌∙◌, subst, arith, inl, inr}
use Rattle.std.proofs.lemmas.Bool.{cases_Bool, eqb-true, eq-eqb}
use Rattle.std.proofs.lemmas.List.{length-append}
use Rattle.wasm_formats.specs.Stops.{Trouble, Stop, stop, can_end, Parsing}
use Rattle.wasm_formats.specs.Formats.{Format, Inside, done_is, done_refused, refused_is}

-- what stands behind these bytes, where the others begin with them
abbrev pub behind : List ℕ → List ℕ → Option (List ℕ)
behind [] bytes = Some bytes
behind (w ∷ word) [] = None
behind (w ∷ word) (b ∷ bytes) = if w == b then behind word bytes else None

some_is : (x y : List ℕ) → (let some : List ℕ → Option (List ℕ) = λ l. Some l in some x ≡ some y) → x ≡ y
some_is x y e = cc

pub behind_is : (word bytes later : List ℕ) → behind word bytes ≡ Some later → bytes ≡ word ++ later
behind_is [] bytes later e = some_is bytes later e
behind_is (w ∷ word) [] later e = absurd cc
behind_is (w ∷ word) (b ∷ bytes) later e = elim (cases_Bool (w == b)) [
  | inl is ↦ ap (λ (n : ℕ). n ∷ bytes) (sym (eqb-true w b is)) ∙ ap (λ (l : List ℕ). w ∷ l) (behind_is word bytes later (rw is at e))
  | inr apart ↦ let e = (rw apart at e) in absurd cc
]

pub behind_again : (word later : List ℕ) → behind word (word ++ later) ≡ Some later
behind_again [] later = refl
behind_again (w ∷ word) later = rw (eq-eqb w w refl) (behind_again word later)

module _ (word : List ℕ) (t : Trouble) (ends : can_end t ≡ true) where
  abbrev pub parted : ℕ → Option (List ℕ) → Parsing (Unit {0})
  parted left None = Err (stop t left)
  parted left (Some later) = Ok (tt, later)

  -- the bytes don't begin so
  abbrev pub StopsWord : List ℕ → Stop → Type 0
  StopsWord bytes s = ((later : List ℕ) → bytes ≡ word ++ later → ⊥) × (s ≡ stop t (length bytes))

  pub parted_ok : (left : ℕ) (o : Option (List ℕ)) (later : List ℕ) (x : Unit {0}) → parted left o ≡ Ok (x, later) → o ≡ Some later
  parted_ok left None later x e = absurd cc
  parted_ok left (Some rest) later x e = ap (λ (z : Unit {0} × List ℕ). Some z.1) (done_is (tt, rest) (x, later) e)

  pub parted_err : (left : ℕ) (o : Option (List ℕ)) (s : Stop) → parted left o ≡ Err s → (o ≡ None) × (s ≡ stop t left)
  parted_err left None s e = (refl, sym (refused_is {A = Unit {0} × List ℕ} (stop t left) s e))
  parted_err left (Some later) s e = done_refused (tt, later) s e

  pub parted_inside : (n : ℕ) (o : Option (List ℕ)) → ((later : List ℕ) → o ≡ Some later → length later ≤ n) → Inside n (parted n o)
  parted_inside n None h = omega arith
  parted_inside n (Some later) h = h later refl

  pub parted_tells : (bytes : List ℕ) (s : Stop) (o : Option (List ℕ)) → behind word bytes ≡ o → StopsWord bytes s → parted (length bytes) o ≡ Err s
  parted_tells bytes s None p h = rw h.1 refl
  parted_tells bytes s (Some later) p h = absurd (h.0 later (behind_is word bytes later p))

  pub word_ends : {P : Type 0} (left : ℕ) (s : Stop) → s ≡ stop t left → can_end s.trouble ≡ false → P
  word_ends left s e k = let k : can_end t ≡ false = subst (λ (s : Stop). can_end s.trouble ≡ false) e k in let clash : true ≡ false = sym ends ∙ k in absurd cc

  pub no_word : (bytes later : List ℕ) → behind word bytes ≡ None → bytes ≡ word ++ later → ⊥
  no_word bytes later e same = let there : behind word (word ++ later) ≡ None = subst (λ (l : List ℕ). behind word l ≡ None) same e in
      let clash = sym (behind_again word later) ∙ there in absurd cc

  -- the word, or this trouble at its first byte
  abbrev pub exactly : Format (Unit {0})
  exactly = record {
    spells = λ bytes _. bytes ≡ word;
    rules = λ _. Unit {0};
    stops = StopsWord;
    parse = λ bytes. parted (length bytes) (behind word bytes);
    found = λ bytes later x small e. (word, behind_is word bytes later (parted_ok (length bytes) (behind word bytes) later x e), refl, tt);
    again = λ bytes more x h r. rw (h, behind_again word more) refl;
    told = λ bytes s small e. let t = parted_err (length bytes) (behind word bytes) s e in ((λ later same. no_word bytes later t.0 same), t.1);
    tells = λ bytes s h. parted_tells bytes s (behind word bytes) refl h;
    within = λ bytes. parted_inside (length bytes) (behind word bytes)
        (λ later e. omega (arith, ap length (behind_is word bytes later e), length-append word later));
    final = λ bytes more s small e k. word_ends (length bytes) s (parted_err (length bytes) (behind word bytes) s e).1 k;
  }
