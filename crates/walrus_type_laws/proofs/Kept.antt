-- What is parsed later leaves the types and groups before it.
use Rattle.std.proofs.Common.{◌≡◌, ◌∙◌, ℕ, ◌+◌, ◌<◌, ◌≤◌, inl, inr, Bool, true, false, List, [], ◌∷◌, ◌++◌, length, map, Option, Some, None, refl, sym, ap, subst, arith, append_assoc, append-nil}
use Rattle.std.specs.List.{range_with_len}
use Rattle.std.proofs.lemmas.List.{get_or_append_left}
use Rattle.std.proofs.lemmas.List.Concat.{flat_map-append}
use Rattle.walrus_forms.specs.Kinds.{Kind}
use Rattle.walrus_forms.specs.Records.{TypeGroup}
use Rattle.walrus_forms.specs.Renaming.{at, renamed_kind}
use Rattle.walrus_forms.proofs.RenamingLemmas.{In}
use Rattle.walrus_types.specs.Items.{Group}
use Rattle.walrus_types.specs.Groups.{new_items}
use Rattle.walrus_types.specs.Table.{Table, next_id, type_at, equal_type}
use Rattle.walrus_types.specs.Parsing.{Parsed, with_group, merged, added, known_ids, parsed_group, parsed}
use Rattle.walrus_type_laws.proofs.Filled.{live, listed, new_group, live-more, next-more}
use Rattle.walrus_type_laws.proofs.Turned.{in-split, in-range, alone, Pair}

-- the new table has what the old has, and groups of later types
pub record Keeps (old new : Table) : Type 0 where
  pub more : List Group
  pub groups : live new ≡ live old ++ more
  pub later : (x : ℕ) → In x (listed more) → next_id old ≤ x
  pub types : (id : ℕ) → id < next_id old → type_at new id ≡ type_at old id
  pub next : next_id old ≤ next_id new

new-later : (marked : Bool) (ids : List ℕ) (n x : ℕ) → ((y : ℕ) → In y ids → n ≤ y) → In x (listed (new_group marked ids)) → n ≤ x
new-later marked [] n x each h = absurd h
new-later marked (id ∷ ids) n x each h = each x (subst (λ (ns : List ℕ). In x ns) (append-nil (id ∷ ids)) h)

grown-keeps : (old t : Table) (marked : Bool) (kinds : List Kind) → Keeps old t → Keeps old (with_group marked kinds t)
grown-keeps old t marked kinds k =
    let ids : List ℕ = range_with_len (next_id t) (length kinds) in
    let new : List Group = new_group marked ids in
    let fits = k.next in
    record {
      more = k.more ++ new;
      groups = live-more marked kinds t ∙ ap (λ (gs : List Group). gs ++ new) k.groups ∙ append_assoc (live old) k.more new;
      later = λ x h.
          elim (in-split (listed k.more) (listed new) x (subst (λ (ns : List ℕ). In x ns) (flat_map-append (λ (g : Group). g.types) k.more new) h)) as (λ _. next_id old ≤ x) [
            | inl before ↦ k.later x before
            | inr after ↦ new-later marked ids (next_id old) x (λ y i. let h = (in-range (length kinds) (next_id t) y i).0 in omega (arith, h, fits)) after
          ];
      types = λ id less. get_or_append_left t.types (new_items (next_id t) kinds) None id (omega (arith, less, fits)) ∙ k.types id less;
      next = omega (arith, fits, next-more marked kinds t);
    }

merged-keeps : (old : Table) (s : Parsed) (kind : Kind) (o : Option ℕ) → Keeps old s.table → Keeps old (merged o kind s).table
merged-keeps old s kind None k = grown-keeps old s.table false (kind ∷ []) k
merged-keeps old s kind (Some v) k = k

added-keeps : (old : Table) (s : Parsed) (marked : Bool) (kinds : List Kind) → Keeps old s.table → Keeps old (added marked kinds s).table
added-keeps old s true kinds k = grown-keeps old s.table true kinds k
added-keeps old s false [] k = grown-keeps old s.table true [] k
added-keeps old s false (kind ∷ []) k = merged-keeps old s kind (equal_type kind s.table) k
added-keeps old s false (kind ∷ second ∷ rest) k = grown-keeps old s.table true (kind ∷ second ∷ rest) k

section-keeps : (gs : List TypeGroup) (old : Table) (s : Parsed) → Keeps old s.table → Keeps old (parsed gs s).table
section-keeps [] old s k = k
section-keeps (g ∷ gs) old s k = section-keeps gs old (parsed_group g s) (added-keeps old s g.marked (map (renamed_kind (at (known_ids g s))) g.kinds) k)

itself-keeps : (t : Table) → Keeps t t
itself-keeps t = record {
  more = [];
  groups = sym (append-nil (live t));
  later = λ x h. absurd h;
  types = λ id less. refl;
  next = omega arith;
}

pub pair-keeps : (gs : List TypeGroup) (s : Parsed) (m : ℕ) (a b : Kind) → Pair s.table m a b → Pair (parsed gs s).table m a b
pair-keeps gs s m a b p =
    let k = section-keeps gs s.table s (itself-keeps s.table) in
    let fits = p.under in
    let further = k.next in
    record {
      front = p.front;
      back = p.back ++ k.more;
      groups = k.groups ∙ ap (λ (hs : List Group). hs ++ k.more) p.groups ∙ append_assoc p.front (alone m ∷ alone (m + 1) ∷ p.back) k.more;
      low = p.low;
      high = λ x h.
          elim (in-split (listed p.back) (listed k.more) x (subst (λ (ns : List ℕ). In x ns) (flat_map-append (λ (g : Group). g.types) p.back k.more) h)) as (λ _. m + 2 ≤ x) [
            | inl before ↦ p.high x before
            | inr after ↦ let l = k.later x after in omega (arith, l, fits)
          ];
      first = k.types m (omega (arith, fits)) ∙ p.first;
      second = k.types (m + 1) (omega (arith, fits)) ∙ p.second;
      under = omega (arith, fits, further);
      nameless_a = p.nameless_a;
      nameless_b = p.nameless_b;
      apart = p.apart;
    }
