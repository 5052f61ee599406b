-- Lemmas: the functions that the added segment declares are told by what is listed.
use Rattle.std.specs.Prelude.{ℕ, ◌≡◌, ◌↔◌, List, [], ◌∷◌, Contains, refl}
use Rattle.std.proofs.Common.{ap, sym, subst}
use Rattle.walrus_types.proofs.Places.{Has, contains_has, has_contains}
use Rattle.wasm_operators.specs.Items.{Functions, Globals, ElementSegments}
use Rattle.wasm_grammar.specs.Modules.{Module}
use Rattle.wasm_part.specs.Part.{Plan}
use Rattle.wasm_part.specs.Order.{HasDeclared, Holds, Wants, body, exported, init, segment}
use Rattle.wasm_rewriting_laws.proofs.Lists.{one_rising}

module _ (m : Module) where
  module _ (p q : Plan) (functions : p.listed Functions ≡ q.listed Functions) (globals : p.listed Globals ≡ q.listed Globals) where
    pub wants_too : (n : ℕ) → Wants m p n → Wants m q n
    wants_too n (body k f c at r) = body k f (subst (λ (l : List ℕ). Contains l k) functions c) at r
    wants_too n (init k g c at r) = init k g (subst (λ (l : List ℕ). Contains l k) globals c) at r

  module _ (p q : Plan) (exports : p.exports ≡ q.exports) (elements : p.listed ElementSegments ≡ q.listed ElementSegments) where
    pub holds_too : (n : ℕ) → Holds m p n → Holds m q n
    holds_too n (exported k e c at is number) = exported k e (subst (λ (l : List ℕ). Contains l k) exports c) at is number
    holds_too n (segment k e c at h) = segment k e (subst (λ (l : List ℕ). Contains l k) elements c) at h

  module _ (p q : Plan) (functions : p.listed Functions ≡ q.listed Functions) (globals : p.listed Globals ≡ q.listed Globals) (exports : p.exports ≡ q.exports)
      (elements : p.listed ElementSegments ≡ q.listed ElementSegments) where
    member_goes : (ns ms : List ℕ) → ((n : ℕ) → Contains ns n ↔ (Wants m p n × (Holds m p n → ⊥))) → ((n : ℕ) → Contains ms n ↔ (Wants m q n × (Holds m q n → ⊥)))
        → (n : ℕ) → Has ns n → Has ms n
    member_goes ns ms h k n has =
        let both = (h n).0 (has_contains ns n has) in
        contains_has ms n ((k n).1 (wants_too p q functions globals n both.0, λ held. both.1 (holds_too q p (sym exports) (sym elements) n held)))

    -- who wants and isn't held isn't nowhere
    some_lacks : (ns : List ℕ) → ((n : ℕ) × Contains ns n) → ((n : ℕ) → Contains ns n ↔ (Wants m p n × (Holds m p n → ⊥))) → ((n : ℕ) → Wants m q n → Holds m q n) → ⊥
    some_lacks ns some h all =
        let both = (h some.0).0 some.1 in
        both.1 (holds_too q p (sym exports) (sym elements) some.0 (all some.0 (wants_too p q functions globals some.0 both.0)))

  module _ (p q : Plan) (functions : p.listed Functions ≡ q.listed Functions) (globals : p.listed Globals ≡ q.listed Globals) (exports : p.exports ≡ q.exports)
      (elements : p.listed ElementSegments ≡ q.listed ElementSegments) where
    pub declared_told : (ds es : List (List ℕ)) → HasDeclared m p ds → HasDeclared m q es → ds ≡ es
    declared_told [] [] h k = refl
    declared_told [] (ms ∷ []) h k = absurd (some_lacks q p (sym functions) (sym globals) (sym exports) (sym elements) ms k.1 k.2 h)
    declared_told [] (ms ∷ ls ∷ es) h k = absurd k
    declared_told (ns ∷ []) [] h k = absurd (some_lacks p q functions globals exports elements ns h.1 h.2 k)
    declared_told (ns ∷ []) (ms ∷ []) h k =
        ap (λ (l : List ℕ). l ∷ [])
        (one_rising ns ms (member_goes p q functions globals exports elements ns ms h.2 k.2) (member_goes q p (sym functions) (sym globals) (sym exports) (sym elements) ms ns k.2 h.2) h.0 k.0)
    declared_told (ns ∷ []) (ms ∷ ls ∷ es) h k = absurd k
    declared_told (ns ∷ ms ∷ ds) es h k = absurd h
