use Rattle.std.proofs.Common.{ℕ, List, rules}
use Rattle.std.proofs.lemmas.List.Sorted.{answers_always, IsNonDecreasingBy-from_sort}
use Rattle.walrus_payload_writers.specs.Names.{entry_of}
use Rattle.walrus_payload_writers.specs.declared.entries.NameEntry.{NameEntry}
use Rattle.walrus_emit_customs.proofs.RisingLemmas.{sorted_seen}
use Rattle.walrus_emit_customs.proofs.names.sort.Goals as goal

pub returns : goal.returns
returns c =
    let keys = answers_always _ _ _ (λ f a r next called. search rules) in
    sorted_seen entry_of (λ (e : ℕ × List ℕ). e.0) _ _
    (IsNonDecreasingBy-from_sort (λ (e : NameEntry). e.number) _ (c.in_ok-sort_by_key.ensures.sorted (λ (e : NameEntry). e.number) keys))
    (c.sort_by_key.ensures.stable (λ (e : NameEntry). e.number) keys)
