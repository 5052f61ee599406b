-- Lemmas: runs were read, and their locals declared.
use Rattle.std.proofs.Common.{ℕ, zero, suc, ◌≡◌, ◌⊎◌, ◌+◌, ◌-◌, ◌≤◌, Bool, true, false, List, [], ◌∷◌, length, map, replicate, refl, ap, sym, subst, ◌∙◌, arith}
use Rattle.std.proofs.lemmas.List.{length-map}
use Rattle.wasm_features.specs.declared.WasmFeatures.{WasmFeatures}
use Rattle.wasm_reader.specs.Cursor.{Cursor, Forward, Window, rest, shrunk}
use Rattle.walrus_forms.specs.declared.value.ValType.{ValType}
use Rattle.walrus_forms.specs.Renaming.{at, renamed_value}
use Rattle.walrus_pairing.specs.walrus_items.declared.local.Local.{Local}
use Rattle.walrus_pairing.specs.wasm_operators.Operators.{Seen}
use Rattle.walrus_index_maps.specs.Maps.{Ids}
use Rattle.walrus_body_nesting.specs.wasm_body_grammar.Bodies.{Run, declared}
use Rattle.walrus_body_locals.specs.Told.{Telling}
use Rattle.walrus_body_locals.specs.Named.{AreKept, AreOperators, kept_by, named_of}
use Rattle.walrus_body_locals.specs.Locals.{Adds, AddsKept, Chooses, Declares, Leaves, ReadsRuns}
use Rattle.walrus_body_locals.proofs.Keeping.{adds_none_kept, keeps_all, leaves_kept}

nothing : {A : Type 0} (xs : List A) → length xs ≡ 0 → xs ≡ []
nothing [] e = refl
nothing (x ∷ xs) e = absurd (omega (arith, e))

-- ---- which are kept

module _ (features : WasmFeatures) (function params : ℕ) (bytes : List ℕ) (tys : List ValType) (ls ms : List Local) (i j : Ids) where
  pub chooses_all : i.all_locals ≡ true → Adds function tys ls ms i j → Chooses features function params bytes tys ls ms i j
  chooses_all all adds = record {
    kept = replicate (length tys) true;
    are_kept = λ ops are. ap (λ (b : Bool). kept_by b params (length tys) ops) (sym all);
    adds = keeps_all function tys ls ms i j adds;
  }

  pub chooses_named : i.all_locals ≡ false → (kept : List Bool) → ((ops : List Seen) → AreOperators features bytes ops → kept ≡ named_of params (length tys) ops) → AddsKept function kept tys ls ms i j
      → Chooses features function params bytes tys ls ms i j
  chooses_named all kept are adds = record {
    kept = kept;
    are_kept = λ ops stand. are ops stand ∙ ap (λ (b : Bool). kept_by b params (length tys) ops) (sym all);
    adds = adds;
  }

pub chooses_none : (features : WasmFeatures) (function params : ℕ) (bytes : List ℕ) (tys : List ValType) (ls : List Local) (i : Ids) → i.all_locals ≡ false → length tys ≡ 0 → Chooses features function params bytes tys ls ls i i
chooses_none features function params bytes tys ls i all none =
    let is : tys ≡ [] = nothing tys none in
    subst (λ (l : List ValType). Chooses features function params bytes l ls ls i i) (sym is)
    (chooses_named features function params bytes [] ls ls i i all [] (λ ops are. refl) (adds_none_kept function ls i))

pub leaves_nothing : (function : ℕ) (ls : List Local) (i : Ids) → Leaves function ls ls i i
leaves_nothing function ls i = leaves_kept function [] [] ls ls i i (adds_none_kept function ls i)

-- ---- the whole

pub declares : {V : Type 0} (told : Telling Run V) (function params : ℕ) (old new : Cursor) (types : List ℕ) (ls ms : List Local) (i j : Ids) (v w : V) (own : List Run) (total : ℕ) → ReadsRuns told params old new types v w own total
    → Chooses old.window.features function params (rest new) (declared own) ls ms i j → Declares told function params old new types ls ms i j v w
declares told function params old new types ls ms i j v w own total r c =
    let many : length (declared own) ≡ length (declared r.runs) = ap (λ (l : List ValType). length l) r.own_are ∙ length-map (declared r.runs) (renamed_value (at types)) in
    record {
      runs = r.runs;
      read = r.read;
      passed = r.passed;
      kept = c.kept;
      are_kept = subst (λ (n : ℕ). AreKept old.window.features i.all_locals params n (rest new) c.kept) many c.are_kept;
      adds = subst (λ (tys : List ValType). AddsKept function c.kept tys ls ms i j) r.own_are c.adds;
    }

-- the operators behind them were read apart
pub declares_apart : {V : Type 0} (told : Telling Run V) (function params : ℕ) (old new : Cursor) (types : List ℕ) (ls ms : List Local) (i j : Ids) (v w : V) (own : List Run) (total : ℕ) → ReadsRuns told params old new types v w own total
    → (body : Cursor) (runs : List Run) → body ≡ shrunk new → runs ≡ own → Forward old new → Chooses body.window.features function params (rest body) (declared runs) ls ms i j → Declares told function params old new types ls ms i j v w
declares_apart told function params old new types ls ms i j v w own total r body runs is same moves c =
    let of : Chooses body.window.features function params (rest body) (declared own) ls ms i j = subst (λ (rs : List Run). Chooses body.window.features function params (rest body) (declared rs) ls ms i j) same c in
    let behind : Chooses new.window.features function params (rest new) (declared own) ls ms i j = subst (λ (b : Cursor). Chooses b.window.features function params (rest b) (declared own) ls ms i j) is of in
    declares told function params old new types ls ms i j v w own total r (subst (λ (z : Window). Chooses z.features function params (rest new) (declared own) ls ms i j) moves.window behind)
