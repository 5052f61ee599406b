use Rattle.std.proofs.Common.{◌≡◌, ◌∙◌, ℕ, List, length, map, Option, None, refl, sym, ap, subst, arith}
use Rattle.std.specs.Prelude.{replicate}
use Rattle.walrus_handler_laws.specs.walrus_tree.walrus_builder.Built.{seq_of}
use Rattle.walrus_handler_laws.specs.walrus_tree.walrus_builder.Functions.{seqs_of}
use Rattle.walrus_handler_laws.specs.walrus_tree.walrus_walks.Tree.{IsNested}
use Rattle.walrus_handler_laws.specs.walrus_tree.walrus_walks.Walk.{walk}
use Rattle.walrus_handler_laws.specs.walrus_tree.walrus_walks.walrus_instr.declared.seq.InstrSeq.{InstrSeq}
use Rattle.walrus_handlers.specs.Gathering.{put_event}
use Rattle.walrus_handler_laws.specs.declared.handler.Handler.{Handler}
use Rattle.walrus_handlers.proofs.Gathers.{folds_told, gathered, put_events}
use Rattle.walrus_handlers.proofs.NoTries.{untried}
use Rattle.walrus_handlers.specs.Gathering.{have_try}
use Rattle.walrus_handlers.proofs.gather.handlers.Goals as goal

pub dfs_in_order-requires : goal.dfs_in_order-requires
dfs_in_order-requires g c =
    let b = seqs_of c.args.body.now in
    subst (λ (k : ℕ). IsNested b k) (sym c.func_body_id-start.ensures) (c.trees_are_nested.ensures b 0 c.requires)

pub returns-clause-told : goal.returns-clause-told
returns-clause-told g c = λ t.
    let b = seqs_of c.args.body.now in
    let tags = g.E.BodyEnv.tag_type c.args.env.now in
    let first = c.in_ok-told.told.items in
    let empty = c.in_ok-told.ensures ∙ ap (λ (l : List InstrSeq). replicate (length l) (let o : Option Handler = None in o)) c.seqs-count.ensures in
    let w = c.in_ok-dfs_in_order.ensures.walked in
    let f = folds_told _ tags (map seq_of c.seqs-2.result.now) (λ p. p.told.items) (λ p. (p.env ≡ c.args.env) × (p.seqs ≡ c.seqs-2.result))
    (λ p e q r ok. ((r.0 ∙ ok.0, r.1 ∙ ok.1), r.2 ∙ ap (λ x. put_event (g.E.BodyEnv.tag_type x.now) (map seq_of p.seqs.now) e p.told.items) ok.0 ∙ ap (λ y. put_event tags (map seq_of y.now) e p.told.items) ok.1))
    (walk b c.func_body_id-start.result) _ c.dfs_in_order.new.visitor w (refl, refl) in
    gathered tags b t c.trees_are_walked_once.ensures first c.dfs_in_order.new.visitor.told.items empty (
    f
    ∙ ap (λ (l : List InstrSeq). put_events tags (map seq_of l) (walk b c.func_body_id-start.result) first) c.seqs-2.ensures
    ∙ ap (λ (k : ℕ). put_events tags (map seq_of b) (walk b k) first) c.func_body_id-start.ensures
    )

pub returns-clause-ids : goal.returns-clause-ids
returns-clause-ids g c =
    let m = (returns-clause-told g c c.requires).short in
    let n = c.if-count.false in
    let s = ap (λ (l : List InstrSeq). length l) c.seqs-count.ensures in
    omega (arith, m, n, s)

pub returns-then-not-have_try-clause-told : goal.returns-then-not-have_try-clause-told
returns-then-not-have_try-clause-told g c = λ t.
    let b = seqs_of c.args.body.now in
    untried (g.E.BodyEnv.tag_type c.args.env.now) b t c.new.result.items (sym (ap have_try c.seqs.ensures) ∙ sym c.have_try.ensures ∙ c.if-not-have_try.true) c.new.ensures.items
