-- Lemmas: a dense module has a body for each function that isn't imported.
use Rattle.std.specs.Prelude.{ℕ, zero, suc, ◌+◌, ◌≡◌, List, [], ◌∷◌, length, drop, Option, Some, None, slice_index_or, refl}
use Rattle.std.specs.List.{AllByRecursion, cons_option, filter_map}
use Rattle.std.proofs.Common.{ap, sym, subst, arith}
use Rattle.wasm_formats.specs.declared.fault.Space.{Space}
use Rattle.wasm_formats.specs.declared.fault.Space.TheVariants as spaces
use Rattle.wasm_grammar.specs.Modules.{Origin, Imported, Body, Function, Import, Module}
use Rattle.wasm_body_grammar.specs.Rules.{Around}
use Rattle.wasm_body_grammar.specs.Codes.{param_count}
use Rattle.wasm_canonical.specs.Due.{items_in, origin_bytes, own_bytes}
use Rattle.wasm_canonical.specs.Dense.{BringAll, Brings, Counts, IsOwnFunction, all_of, brought, none_brought, one_more}
use Rattle.wasm_canonical.specs.Spelled.{OwnFunctionsHaveBodies}

abbrev IsBrought : Option Function → Type 0
IsBrought None = ⊥
IsBrought (Some f) = (n : ℕ) × (f.origin ≡ Imported n)

-- the first so many are imported
abbrev AreBrought : ℕ → List (Option Function) → Type 0
AreBrought zero ys = Unit {0}
AreBrought (suc n) [] = ⊥
AreBrought (suc n) (y ∷ ys) = IsBrought y × AreBrought n ys

one_brought : (n : ℕ) (ys : List (Option Function)) (f : Function) → AreBrought n ys → slice_index_or ys n None ≡ Some f → IsBrought (Some f) → AreBrought (suc n) ys
one_brought zero [] f h at p = absurd cc
one_brought zero (y ∷ ys) f h at p = (subst IsBrought (sym at) p, tt)
one_brought (suc n) [] f h at p = absurd h
one_brought (suc n) (y ∷ ys) f h at p = (h.0, one_brought n ys f h.1 at p)

all_brought : (m : Module) (c : Counts) (is : List Import) → BringAll m c is → AreBrought c.functions m.functions → AreBrought (all_of c is).functions m.functions
all_brought m c [] h k = k
all_brought m c (i ∷ is) h k = all_brought m (one_more c i.item.space) is h.1 (step i.item.space h.0)
  where
    step : (space : Space) → Brings m c space i.item.number → AreBrought (one_more c space).functions m.functions
    step spaces.Function (same, (f, at, from)) =
        let more : suc c.functions ≡ c.functions + 1 = omega arith in
        let there : slice_index_or m.functions c.functions None ≡ Some f = subst (λ (n : ℕ). slice_index_or m.functions n None ≡ Some f) same at in
        subst (λ (n : ℕ). AreBrought n m.functions) more (one_brought c.functions m.functions f k there (c.imports, from))
    step spaces.Table b = k
    step spaces.Memory b = k
    step spaces.Global b = k
    step spaces.Tag b = k
    step spaces.«Type» b = k
    step spaces.Element b = k
    step spaces.Data b = k
    step spaces.Local b = k
    step spaces.Label b = k

module _ (a : Around) where
  all_own : (ys : List (Option Function)) → AllByRecursion IsOwnFunction ys → length ys ≡ length (filter_map (own_bytes a) ys)
  all_own [] h = refl
  all_own (None ∷ ys) h = absurd h.0
  all_own (Some f ∷ ys) h =
      let own = h.0 in
      subst (λ (o : Origin Body). suc (length ys) ≡ length (cons_option (origin_bytes a (param_count a.filled f.ty) o) (filter_map (own_bytes a) ys))) (sym own.1) (ap (λ (n : ℕ). suc n) (all_own ys h.1))

  own_many : (n : ℕ) (ys : List (Option Function)) → AreBrought n ys → AllByRecursion IsOwnFunction (drop n ys) → length ys ≡ n + length (filter_map (own_bytes a) ys)
  own_many zero ys h own = let all = all_own ys own in omega (arith, all)
  own_many (suc n) [] h own = absurd h
  own_many (suc n) (None ∷ ys) h own = absurd h.0
  own_many (suc n) (Some f ∷ ys) h own =
      let from = h.0 in
      let later = own_many n ys h.1 own in
      subst (λ (o : Origin Body). suc (length ys) ≡ suc n + length (cons_option (origin_bytes a (param_count a.filled f.ty) o) (filter_map (own_bytes a) ys))) (sym from.1) (omega (arith, later))

pub own_have_bodies : OwnFunctionsHaveBodies
own_have_bodies a m dense = own_many a (brought m).functions m.functions (all_brought m none_brought (items_in m.imports) dense.brings tt) dense.functions
