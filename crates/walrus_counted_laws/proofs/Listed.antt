-- Lemmas: a plan in order lists each item once.
use Rattle.std.specs.Prelude.{ℕ, ◌≡◌, ◌<◌, true, List, Option, Some, None, slice_index_or, refl}
use Rattle.std.proofs.Common.{sym, ◌∙◌, subst, arith, inl, inr}
use Rattle.std.proofs.lemmas.Option.{cond_some, none-some, same_Some}
use Rattle.wasm_formats.specs.declared.fault.Space.{Space as FileSpace}
use Rattle.wasm_formats.specs.declared.fault.Space.TheVariants as spaces
use Rattle.wasm_operators.specs.Items.{Space, Types, Functions, Tables, Memories, Tags, Globals, ElementSegments, DataSegments, Locals, Labels}
use Rattle.wasm_grammar.specs.Modules as grammar
use Rattle.wasm_body_grammar.specs.Rules.{space_of}
use Rattle.wasm_import_links.specs.Links.{ImportsLink, brought}
use Rattle.wasm_part.specs.Closed.{IsListed, Rise}
use Rattle.wasm_part.specs.Order.{InOrder, OwnBefore, brought_by, brought_to, import_of, is_to}
use Rattle.wasm_part.specs.Part.{Plan}
use Rattle.walrus_counted_laws.proofs.Lists.{Apart, In, all_get, apart_given, apart_join, given_in, turned_apart}

to_is : (space : Space) (s : FileSpace) → is_to space s ≡ true → s ≡ space_of space
to_is Functions spaces.Function e = refl
to_is Tables spaces.Table e = refl
to_is Memories spaces.Memory e = refl
to_is Tags spaces.Tag e = refl
to_is Globals spaces.Global e = refl
to_is _ _ e = absurd cc

-- nothing stands before itself
not_before : (m : grammar.Module) (space : Space) (n : ℕ) → OwnBefore m space n n → ⊥
not_before m Functions n (inl lt) = omega (arith, lt)
not_before m Functions n (inr h) = let lt = h.1 in omega (arith, lt)
not_before m Types n lt = omega (arith, lt)
not_before m Tables n lt = omega (arith, lt)
not_before m Memories n lt = omega (arith, lt)
not_before m Tags n lt = omega (arith, lt)
not_before m Globals n lt = omega (arith, lt)
not_before m ElementSegments n lt = omega (arith, lt)
not_before m DataSegments n lt = omega (arith, lt)
not_before m Locals n lt = omega (arith, lt)
not_before m Labels n lt = omega (arith, lt)

pub risen_apart : (ns : List ℕ) → Rise ns → Apart ns
risen_apart ns h = turned_apart (λ k n. k < n) (λ n lt. omega (arith, lt)) ns h

module _ (m : grammar.Module) (link : ImportsLink m) (space : Space) where
  abbrev gives : ℕ → Option ℕ
  gives k = brought_to space (slice_index_or m.imports k None)

  given_by : (n k : ℕ) (o : Option grammar.Import) → slice_index_or m.imports k None ≡ o → brought_to space o ≡ Some n → import_of m space n ≡ Some k
  given_by n k None is e = absurd (none-some n e)
  given_by n k (Some x) is e =
      let q = cond_some (is_to space x.item.space) x.item.number n e in
      let at : slice_index_or (brought m x.item.space) n None ≡ Some k = subst (λ (j : ℕ). slice_index_or (brought m x.item.space) j None ≡ Some k) q.1 (link.named k x is) in
      subst (λ (s : FileSpace). slice_index_or (brought m s) n None ≡ Some k) (to_is space x.item.space q.0) at

  given_is : (k n : ℕ) → gives k ≡ Some n → import_of m space n ≡ Some k
  given_is k n e = given_by n k (slice_index_or m.imports k None) refl e

  brought_apart : (ns : List ℕ) → Rise ns → Apart (brought_by m space ns)
  brought_apart ns rise = apart_given gives ns (risen_apart ns rise) (λ i j n e f. same_Some i j (sym (given_is i n e) ∙ given_is j n f))

  pub listed_apart : (p : Plan) → InOrder m p → IsListed space → Apart (p.listed space)
  listed_apart p order is =
      let own = order.own space in
      let front = brought_by m space p.imports in
      let own_apart = turned_apart (OwnBefore m space) (not_before m space) own (order.ordered space is) in
      let other : (n : ℕ) → In front n → In own n → ⊥ = λ n at there.
      (let g = given_in gives p.imports n at in none-some g.0 (sym (all_get (λ n. import_of m space n ≡ None) own (order.are_own space is) n there) ∙ given_is g.0 n g.2)) in
      subst Apart (sym (order.listed space is)) (apart_join front own (brought_apart p.imports order.imports) own_apart other)
