use Rattle.std.proofs.Common.{◌≡◌, ◌∙◌, ◌<◌, ℕ, List, length, take, OnErr, OnOk, Result, Ok, Err, sym, subst}
use Rattle.std.specs.List.{AllByRecursion}
use Rattle.walrus_handler_types.specs.Giving.{Gives}
use Rattle.walrus_handlers.specs.Gathering.{listed}
use Rattle.walrus_handlers.specs.walrus_handler_laws.Handlers.{tree_ids}
use Rattle.walrus_handlers.specs.walrus_tree.Trees.{IsTree}
use Rattle.walrus_handlers.specs.walrus_tree.walrus_builder.Built.{contents}
use Rattle.walrus_handlers.specs.walrus_tree.walrus_builder.Functions.{seqs_of}
use Rattle.walrus_handlers.specs.walrus_tree.walrus_walks.walrus_instr.declared.seq.InstrSeq.{InstrSeq}
use Rattle.walrus_handler_types.proofs.Growing.{gives_none, none_listed}
use Rattle.walrus_handler_types.proofs.Ordering.{ids_there}
use Rattle.walrus_handler_types.proofs.give.give_types.Goals as goal

on_ok : {A E : Type 0} (P Q : Type 0) (r : Result A E) → (P → Q) → OnOk r P → OnOk r Q
on_ok P Q (Ok x) f h = f h
on_ok P Q (Err e) f h = tt

on_err : {A E : Type 0} (P Q : Type 0) (r : Result A E) → (P → Q) → OnErr r P → OnErr r Q
on_err P Q (Ok x) f h = tt
on_err P Q (Err e) f h = f h

ordered : (b l : List InstrSeq) (order now : List ℕ) → l ≡ b → now ≡ order → ((t : IsTree l 0) → order ≡ tree_ids t) → (t : IsTree b 0) → now ≡ tree_ids t
ordered b l order now same is h t = is ∙ subst (λ (m : List InstrSeq). (u : IsTree m 0) → order ≡ tree_ids u) same h t

pub returns-then-not-has_handler-clause-given : goal.returns-then-not-has_handler-clause-given
returns-then-not-has_handler-clause-given c = λ t.
    let hs = c.args.handlers.now in
    gives_none (listed hs) (tree_ids t) (contents c.args.body.now.builder) c.args.types.now (none_listed hs (sym c.has_handler.ensures ∙ c.if-not-has_handler.true))

pub give_each-requires : goal.give_each-requires
give_each-requires c =
    let b = seqs_of c.args.body.now in
    let all = ordered b c.seqs.result.now c.in_ok-order.order.items c.as_slice.result.now c.seqs.ensures c.as_slice.ensures.value c.in_ok-order.ensures c.requires in
    subst (AllByRecursion (λ id. id < length b)) (sym all) (ids_there b c.requires)

pub returns-clause-given : goal.returns-clause-given
returns-clause-given c =
    let b = seqs_of c.args.body.now in
    let hs = c.args.handlers.now in
    let from = contents c.args.body.now.builder in
    let body = contents c.give_each.new.body.builder in
    let types = c.give_each.new.types in
    on_ok (Gives (listed hs) c.as_slice.result.now from c.args.types.now body types) ((t : IsTree b 0) → Gives (listed hs) (tree_ids t) from c.args.types.now body types) c.give_each.result
    (λ given t. subst (λ (ks : List ℕ). Gives (listed hs) ks from c.args.types.now body types)
    (ordered b c.seqs.result.now c.in_ok-order.order.items c.as_slice.result.now c.seqs.ensures c.as_slice.ensures.value c.in_ok-order.ensures t) given)
    c.give_each.ensures.given

pub returns-clause-refused : goal.returns-clause-refused
returns-clause-refused c =
    let b = seqs_of c.args.body.now in
    let hs = c.args.handlers.now in
    let from = contents c.args.body.now.builder in
    let body = contents c.give_each.new.body.builder in
    let types = c.give_each.new.types in
    on_err ((n : ℕ) × Gives (listed hs) (take n c.as_slice.result.now) from c.args.types.now body types) ((t : IsTree b 0) → (n : ℕ) × Gives (listed hs) (take n (tree_ids t)) from c.args.types.now body types) c.give_each.result
    (λ given t. (
      given.0,
      subst (λ (ks : List ℕ). Gives (listed hs) (take given.0 ks) from c.args.types.now body types)
          (ordered b c.seqs.result.now c.in_ok-order.order.items c.as_slice.result.now c.seqs.ensures c.as_slice.ensures.value c.in_ok-order.ensures t) given.1,
    ))
    c.give_each.ensures.refused
