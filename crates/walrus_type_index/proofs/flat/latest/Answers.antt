use Rattle.std.proofs.Common.{◌≡◌, ◌∙◌, Option, Some, None, ap, sym, cond, Bool, true, false, arith}
use Rattle.std.specs.Option.{option_map}
use Rattle.walrus_type_index.specs.Places.{Hashed, kinds_in, is_exactly, is_upto, last_at}
use Rattle.walrus_type_index.specs.Hashes.{hash_at}
use Rattle.walrus_type_index.specs.Targets.{target_kind}
use Rattle.walrus_type_index.proofs.TreeLemmas.{if_exact, latest-found, last-holds, other-hash}
use Rattle.walrus_type_index.proofs.flat.latest.Goals as goal
use Rattle.walrus_type_index.proofs.flat.latest.Goals.{else-found-hash-via-then-found-hash+else-is_eq, else-found-hash-via-else-found-hash}

pub returns-in-None : goal.returns-in-None
returns-in-None c xs stands index short =
    let ks = kinds_in c.args.types.now.slots in
    let kind = target_kind c.args.target in
    let sought : c.last.result ≡ last_at (is_upto ks c.args.hash kind c.args.own) None xs = c.last.ensures xs stands index.sorted short in
    sym (latest-found ks c.args.hash kind c.args.own xs c.last.result index c.requires sought
    ∙ ap (λ (o : Option Hashed). if_exact ks kind c.args.own (option_map (λ h. h.id) o)) c.in-None.is)

pub returns-then-is_eq : goal.returns-then-is_eq
returns-then-is_eq c xs stands index short =
    let ks = kinds_in c.args.types.now.slots in
    let kind = target_kind c.args.target in
    let sought : c.last.result ≡ last_at (is_upto ks c.args.hash kind c.args.own) None xs = c.last.ensures xs stands index.sorted short in
    let hit : is_exactly ks kind c.args.own c.in-Some.found.id ≡ true = grind (arith, c.compare_key.ensures, c.is_eq.ensures, c.if-is_eq.true) in
    sym (latest-found ks c.args.hash kind c.args.own xs c.last.result index c.requires sought
    ∙ ap (λ (o : Option Hashed). if_exact ks kind c.args.own (option_map (λ h. h.id) o)) c.in-Some.is ∙ ap (λ (b : Bool). cond b (Some c.in-Some.found.id) None) hit)

pub returns-else-found-hash : goal.returns-else-found-hash
returns-else-found-hash c xs stands index short =
    let ks = kinds_in c.args.types.now.slots in
    let kind = target_kind c.args.target in
    let sought : c.last.result ≡ last_at (is_upto ks c.args.hash kind c.args.own) None xs = c.last.ensures xs stands index.sorted short in
    let own = c.args.own in
    let found = c.in-Some.found in
    let right : found.hash ≡ hash_at ks found.id =
    last-holds (λ x. x.hash ≡ hash_at ks x.id) (is_upto ks c.args.hash kind own) None xs index.hashed (λ y e. absurd cc) found (sym sought ∙ c.in-Some.is) in
    let out : is_exactly ks kind own found.id ≡ false = elim c.else-found-hash.branch as (λ _. is_exactly ks kind own found.id ≡ false) [
      | else-found-hash-via-then-found-hash+else-is_eq w ↦ grind (arith, w.compare_key.ensures, w.is_eq.ensures, w.if-is_eq.false)
      | else-found-hash-via-else-found-hash w ↦
          other-hash ks kind own found right (λ e. w.if-found-hash.false (e ∙ sym c.requires))
    ] in
    sym (latest-found ks c.args.hash kind own xs c.last.result index c.requires sought
    ∙ ap (λ (o : Option Hashed). if_exact ks kind own (option_map (λ h. h.id) o)) c.in-Some.is ∙ ap (λ (b : Bool). cond b (Some found.id) None) out)
