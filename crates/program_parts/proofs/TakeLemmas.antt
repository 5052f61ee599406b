-- What a reader gives of which so many bytes are read at most.
use Rattle.std.proofs.Common.{ℕ, ◌≡◌, ◌++◌, List, [], Option, Some, None, IfSome, take, subst, sym}
use Rattle.std.specs.Option.{option_map}
use Rattle.std.specs.Io.Take.{take_limit, take_inner, take_remaining}
use Rattle.std.specs.declared.io.traits.Take.{Take}

mapped : (limit : ℕ) (left : Option (List ℕ)) (items : List ℕ) → IfSome (option_map (take limit) left) (λ xs. items ≡ [] ++ xs) → IfSome left (λ all. items ≡ take limit all)
mapped limit None items h = h
mapped limit (Some all) items h = h

-- all that is left of the reader was read, up to the limit
pub all_taken : {R : Type 0} (remaining : R → Option (List ℕ)) (limited : Take R) (reader : R) (limit : ℕ) (before items : List ℕ)
    → take_limit limited ≡ limit → take_inner limited ≡ reader → before ≡ []
    → IfSome (take_remaining remaining limited) (λ xs. items ≡ before ++ xs) → IfSome (remaining reader) (λ all. items ≡ take limit all)
all_taken {R} remaining limited reader limit before items limit_is inner_is empty h =
    let one = subst (λ (n : ℕ). IfSome (option_map (take n) (remaining (take_inner limited))) (λ xs. items ≡ before ++ xs)) limit_is h in
    let two = subst (λ (r : R). IfSome (option_map (take limit) (remaining r)) (λ xs. items ≡ before ++ xs)) inner_is one in
    mapped limit (remaining reader) items (subst (λ (front : List ℕ). IfSome (option_map (take limit) (remaining reader)) (λ xs. items ≡ front ++ xs)) empty two)

-- its room was given back
pub shrunk : (limit : ℕ) (left : Option (List ℕ)) (old new : List ℕ) → new ≡ old → IfSome left (λ all. old ≡ take limit all) → IfSome left (λ all. new ≡ take limit all)
shrunk limit left old new same h = subst (λ (items : List ℕ). IfSome left (λ all. items ≡ take limit all)) (sym same) h
