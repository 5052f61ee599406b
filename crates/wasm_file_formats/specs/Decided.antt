-- What a refusal was decided by: where no size is cut short, nor what it counts, bytes behind the refusal don't change it, whatever they are.
use Rattle.std.specs.Prelude.{ℕ, ◌+◌, ◌-◌, ◌<◌, ◌≤◌, ◌≡◌, ◌==◌, Bool, true, false, List, [], ◌∷◌, ◌++◌, length, fold, take, drop, Result, Ok, Err, ◌⊎◌, if◌then◌else◌, refl}
use Rattle.std.proofs.Common.{ap, sym, ◌∙◌, subst, arith, inl, inr}
use Rattle.std.proofs.lemmas.Bool.{cases_lt, cases_Bool, le-ltb, eqb-true, eq-eqb}
use Rattle.std.proofs.lemmas.List.{append_assoc, length-append, take-append-le}
use Rattle.wasm_formats.specs.wasm_reader.declared.error.ErrorKind.{ErrorKind}
use Rattle.wasm_formats.specs.wasm_reader.declared.error.ErrorKind.TheVariants as kinds
use Rattle.wasm_formats.specs.wasm_reader.Vecs.{later_bytes}
use Rattle.wasm_formats.specs.Stops.{Trouble, Read, Stop, stop, moved, can_end, Parsing, ◌>>=◌, before}
use Rattle.wasm_formats.specs.Formats.{Format, Whole, Small, done_refused, refused, refused_is, step_err, behind_small, parsed_final}
use Rattle.wasm_formats.specs.Bytes.{never}
use Rattle.wasm_formats.specs.Joined.{Behind, after, built, ends_at}
use Rattle.wasm_formats.specs.Wholes.{u32, sized, window, before_err, window_moved}
use Rattle.wasm_formats.specs.Lists.{SpellsEntries, EntryRules}
use Rattle.wasm_formats.specs.Files.{StopsAmong}

-- whatever follows, the same is refused, so many bytes further from the end
abbrev pub IsDecided : (List ℕ → Stop → Type 0) → List ℕ → Stop → Type 0
IsDecided stops bytes s = (more : List ℕ) → Small (bytes ++ more) → stops (bytes ++ more) (moved (length more) s)

-- the same of what is parsed
abbrev pub Stays : {A : Type 0} → (List ℕ → Result A Stop) → List ℕ → Stop → Type 0
Stays parse bytes s = (more : List ℕ) → parse (bytes ++ more) ≡ Err (moved (length more) s)

-- a size is cut short, or there are fewer bytes behind it
abbrev pub SizeIsCut : List ℕ → Type 0
SizeIsCut bytes = ((missing left : ℕ) × u32.stops bytes (stop (Read (kinds.EndOfFile missing)) left)) ⊎ Behind u32 bytes (λ n later. length later < n)

-- what is refused is so whatever follows, unless a size is cut
abbrev pub StaysSized : {A : Type 0} → (List ℕ → Parsing A) → Type 0
StaysSized parse = (bytes : List ℕ) (s : Stop) → Small bytes → parse bytes ≡ Err s → SizeIsCut bytes ⊎ Stays parse bytes s

kind_ends : (kind : ErrorKind) → ((missing : ℕ) × (kind ≡ kinds.EndOfFile missing)) ⊎ (can_end (Read kind) ≡ false)
kind_ends (kinds.EndOfFile missing) = inl (missing, refl)
kind_ends kinds.TooLong = inr refl
kind_ends kinds.TooLarge = inr refl
kind_ends kinds.Utf8 = inr refl
kind_ends kinds.BadByte = inr refl
kind_ends kinds.Limit = inr refl
kind_ends (kinds.Feature feature) = inr refl
kind_ends kinds.Trailing = inr refl
kind_ends kinds.Memory = inr refl

-- ---- a size, and so many bytes

module _ {A : Type 0} (f : Whole A) where
  window_stays : (left : ℕ) (n : ℕ × List ℕ) (m : List ℕ) (s : Stop) → n.0 ≤ length n.1 → window f left n ≡ Err s → window f (left + length m) (n.0, n.1 ++ m) ≡ Err (moved (length m) s)
  window_stays left n m s le e = step_err (before (length n.1 - n.0) (f.parse (take n.0 n.1))) (λ x. Ok (x, drop n.0 n.1)) s (rw (le-ltb (length n.1) n.0 le) at e)
      (λ p. let t = before_err f (length n.1 - n.0) (f.parse (take n.0 n.1)) s p in
      let size = length-append n.1 m in
      let there : n.0 ≤ length (n.1 ++ m) = omega (arith, size, le) in
      let far : length (n.1 ++ m) - n.0 ≡ (length n.1 - n.0) + length m = omega (arith, size, le) in
      rw (le-ltb (length (n.1 ++ m)) n.0 there, take-append-le n.0 n.1 m le, far)
      (window_moved f (length n.1 - n.0) (length m) (drop n.0 (n.1 ++ m)) (f.parse (take n.0 n.1)) t.0 s t.1 t.2))
      (λ x _ q. done_refused (x, drop n.0 n.1) s q)

  size_stays : (bytes : List ℕ) (s : Stop) → Small bytes → u32.parse bytes ≡ Err s → SizeIsCut bytes ⊎ Stays (sized f).parse bytes s
  size_stays bytes s small p =
      let t = u32.told bytes s small p in
      elim (kind_ends t.0.kind) [
        | inl ends ↦ inl (inl (
          ends.0,
          t.0.left,
          u32.told bytes (stop (Read (kinds.EndOfFile ends.0)) t.0.left) small
              (p ∙ ap refused (t.2 ∙ ap (λ (k : ErrorKind). stop (Read k) t.0.left) ends.1)),
        ))
        | inr k ↦ inr (λ more. rw (u32.final bytes more s small p (subst (λ (s : Stop). can_end s.trouble ≡ false) (sym t.2) k)) refl)
      ]

  pub sized_stays : StaysSized (sized f).parse
  sized_stays bytes s small e = step_err (u32.parse bytes) (window f (length bytes)) s e (λ p. size_stays bytes s small p)
      (λ n p q. elim (cases_lt (length n.1) n.0) [
        | inl lt ↦ inl (inr (n.0, n.1, u32.found bytes n.1 n.0 small p, lt))
        | inr le ↦ inr (λ more. rw (parsed_final u32 bytes n.1 more n.0 small p, length-append bytes more) (window_stays (length bytes) n more s le q))
      ])

pub built_stays : {A B : Type 0} (f : Format A) (into : A → B) (once : (x y : A) → into x ≡ into y → x ≡ y) → StaysSized f.parse → StaysSized (built f into once).parse
built_stays f into once one bytes s small e = step_err (f.parse bytes) (λ x. Ok (into x.0, x.1)) s e
    (λ p. elim (one bytes s small p) [
      | inl cut ↦ inl cut
      | inr stays ↦ inr (λ more. rw (stays more) refl)
    ])
    (λ x p n. done_refused (into x.0, x.1) s n)

pub stays_if : {A : Type 0} {p q : List ℕ → Parsing A} (c : Bool) → StaysSized p → StaysSized q → StaysSized (λ bytes. if c then p bytes else q bytes)
stays_if true one two = one
stays_if false one two = two

pub never_stays : {A : Type 0} (t : Trouble) → can_end t ≡ false → StaysSized (never {A = A} t).parse
never_stays {A} t ends bytes s small e =
    inr (λ more. (never {A = A} t).final bytes more s small e (subst (λ (s : Stop). can_end s.trouble ≡ false) (refused_is {A = A × List ℕ} (stop t (length bytes)) s e) ends))

pub ends_stay : {A : Type 0} (start : ℕ) (f : Format A) (bytes : List ℕ) (s : Stop) → Stays f.parse bytes s → Stays (ends_at start f).parse bytes s
ends_stay start f bytes s stays more = rw (stays more) refl

-- a value, and what has its size before it
pub behind_stays : {A B : Type 0} (f : Format A) (g : A → Format B) (bytes : List ℕ) (s : Stop) → Small bytes → (f.parse bytes ≡ Err s → Stays f.parse bytes s) → ((x : A) → StaysSized (g x).parse)
    → (after f g).parse bytes ≡ Err s → Behind f bytes (λ x later. SizeIsCut later) ⊎ Stays (after f g).parse bytes s
behind_stays f g bytes s small one two e = step_err (f.parse bytes) (λ x. (g x.0).parse x.1 >>= λ y. Ok ((x.0, y.0), y.1)) s e
    (λ p. let stays = one p in inr (λ more. rw (stays more) refl))
    (λ x p q. step_err ((g x.0).parse x.1) (λ y. Ok ((x.0, y.0), y.1)) s q
    (λ r. elim (two x.0 x.1 s (behind_small f bytes x.1 x.0 small p) r) [
      | inl cut ↦ inl (x.0, x.1, f.found bytes x.1 x.0 small p, cut)
      | inr stays ↦ inr (λ more. rw (parsed_final f bytes x.1 more x.0 small p, stays more) refl)
    ])
    (λ y _ n. done_refused ((x.0, y.0), y.1) s n))

-- ---- entries to the end of the bytes

module _ {A S : Type 0} (next : S → A → S) (entry : S → Format A) (takes : (s : S) (bytes : List ℕ) (x : A) → (entry s).spells bytes x → 0 < length bytes) (cut : S → List ℕ → Type 0) where
  -- some entries stand there, and the next one is cut
  abbrev pub AmongIsCut : S → List ℕ → Type 0
  AmongIsCut s bytes = (xs : List A) × (front later : List ℕ) × (bytes ≡ front ++ later) × SpellsEntries next entry s front xs × EntryRules next entry s xs × cut (fold next s xs) later

  longer : (later more : List ℕ) → 0 < length later → 0 < length (later ++ more)
  longer later more some = omega (arith, some, length-append later more)

  pub among_decided : ((s : S) (bytes : List ℕ) (e : Stop) → 0 < length bytes → Small bytes → (entry s).stops bytes e → cut s bytes ⊎ IsDecided (entry s).stops bytes e)
      → (s : S) (bytes : List ℕ) (e : Stop) → Small bytes → StopsAmong next entry takes s bytes e → AmongIsCut s bytes ⊎ IsDecided (StopsAmong next entry takes s) bytes e
  among_decided one s bytes e small h = elim (one (fold next s h.0) h.2 e h.6 (later_bytes h.1 h.2 (subst Small h.3 small)) h.7) [
    | inl is ↦ inl (h.0, h.1, h.2, h.3, h.4, h.5, is)
    | inr decided ↦ inr (λ more all.
        let whole : bytes ++ more ≡ h.1 ++ (h.2 ++ more) = ap (λ (l : List ℕ). l ++ more) h.3 ∙ append_assoc h.1 h.2 more in
        (h.0, h.1, h.2 ++ more, whole, h.4, h.5, longer h.2 more h.6, decided more (later_bytes h.1 (h.2 ++ more) (subst Small whole all))))
  ]

-- ---- a word that files begin with

-- the bytes are a front of the word, or no bytes behind them make one of it
pub word_decided : (word bytes : List ℕ) → ((later : List ℕ) → bytes ≡ word ++ later → ⊥)
    → ((rest : List ℕ) × (bytes ++ rest ≡ word)) ⊎ ((more later : List ℕ) → bytes ++ more ≡ word ++ later → ⊥)
word_decided [] bytes other = absurd (other bytes refl)
word_decided (w ∷ word) [] other = inl (w ∷ word, refl)
word_decided (w ∷ word) (b ∷ bytes) other = elim (cases_Bool (b == w)) [
  | inl is ↦
      let same = eqb-true b w is in
      elim (word_decided word bytes (λ later e. other later (joined b w bytes (word ++ later) same e))) [
        | inl h ↦ inl (h.0, joined b w (bytes ++ h.0) word same h.1)
        | inr h ↦ inr (λ more later e. h more later (tail_is b w (bytes ++ more) (word ++ later) e))
      ]
  | inr apart ↦ inr (λ more later e. let is = eq-eqb b w (head_is b w (bytes ++ more) (word ++ later) e) in let clash : true ≡ false = sym is ∙ apart in absurd cc)
]
  where
    head_is : (c d : ℕ) (xs ys : List ℕ) → c ∷ xs ≡ d ∷ ys → c ≡ d
    head_is c d xs ys e = cc

    tail_is : (c d : ℕ) (xs ys : List ℕ) → c ∷ xs ≡ d ∷ ys → xs ≡ ys
    tail_is c d xs ys e = cc

    joined : (c d : ℕ) (xs ys : List ℕ) → c ≡ d → xs ≡ ys → c ∷ xs ≡ d ∷ ys
    joined c d xs ys e f = cc
