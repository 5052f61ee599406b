-- Open sequences, before the first operator, and what labels name.
use Rattle.std.proofs.Common.{ℕ, suc, ◌<◌, ◌≡◌, List, [], ◌∷◌, map, length, Some, refl, ap, arith, ◌∙◌}
use Rattle.std.specs.Prelude.{slice_index_or}
use Rattle.std.specs.Global.{Vec}
use Rattle.walrus_instr.specs.declared.seq.InstrLocId.{InstrLocId}
use Rattle.walrus_instr.specs.declared.seq.InstrSeq.{InstrSeq}
use Rattle.walrus_instr.specs.declared.seq.InstrSeqType.{InstrSeqType}
use Rattle.walrus_instr.specs.declared.instr.TryTableCatch.{TryTableCatch}
use Rattle.walrus_body_nesting.specs.wasm_body_grammar.Frames.{Plain}
use Rattle.walrus_body_nesting.specs.walrus_builder.Built.{seq_of, no_place}
use Rattle.walrus_body_nesting.specs.declared.frames.Opener.TheVariants as openers
use Rattle.walrus_body_nesting.specs.declared.frames.Reach.TheVariants.{Live}
use Rattle.walrus_body_nesting.specs.Stands.{Part}
use Rattle.walrus_body_nesting.specs.Opens.{ids_of, begun, type_at}
use Rattle.walrus_body_stack.specs.declared.stack.Stack.{Stack}
use Rattle.walrus_body_stack.specs.declared.frame.Sort.TheVariants as sorts
use Rattle.walrus_body_stack.specs.Held.{Held, Nested, bare, seqs_of, seqs_in}
use Rattle.walrus_body_stack.specs.Frames.{clauses_around, handlers_around, opens, opens_of}
use Rattle.walrus_body_stack.proofs.Closing.{all, all_are}

ids_in : (rest : List Held) (hs : List (List Part)) (cs : List (Vec TryTableCatch)) → ids_of (opens_of rest hs cs) ≡ seqs_of rest
ids_in [] hs cs = refl
ids_in (h ∷ rest) hs cs = ap (λ (ks : List ℕ). h.frame.seq ∷ ks) (ids_in rest (handlers_around h.frame.sort hs) (clauses_around h.frame.sort cs))

pub ids_are : (s : Stack) → ids_of (opens s) ≡ seqs_in s.nest
ids_are s =
    let sort = s.nest.inner.frame.sort in
    ap (λ (ks : List ℕ). s.nest.inner.frame.seq ∷ ks) (ids_in s.nest.outer (handlers_around sort s.handlers) (clauses_around sort s.clauses))

pub count_in : (rest : List Held) (hs : List (List Part)) (cs : List (Vec TryTableCatch)) → length (opens_of rest hs cs) ≡ length rest
count_in [] hs cs = refl
count_in (h ∷ rest) hs cs = ap suc (count_in rest (handlers_around h.frame.sort hs) (clauses_around h.frame.sort cs))

-- ---- before the first operator

pub first_type : (ss : List InstrSeq) (x : InstrSeq) → 0 < length ss → type_at (map seq_of ss) 0 ≡ Some (slice_index_or ss 0 x).ty
first_type [] x l = absurd (omega (arith, l))
first_type (s ∷ ss) x l = refl

abbrev body : InstrSeqType → InstrLocId → ℕ → Nested
body ty p k = record { inner = bare (record { ty = ty; place = p; first = k; seq = k; sort = sorts.Block; reach = Live }); outer = [] }

pub body_open : (s : Stack) (ty : InstrSeqType) (p : InstrLocId) (k : ℕ) → s.nest ≡ body ty p k → p ≡ no_place → k ≡ 0 → opens s ≡ begun openers.Block no_place ty Plain 0 Live ∷ []
body_open s ty p k e f g =
    all_are s (body ty p k) s.handlers s.clauses e refl refl
    ∙ ap (λ (q : InstrLocId). all (body ty q k) s.handlers s.clauses) f
    ∙ ap (λ (n : ℕ). all (body ty no_place n) s.handlers s.clauses) g
