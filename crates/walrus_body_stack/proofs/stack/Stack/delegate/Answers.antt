use Rattle.std.proofs.Common.{◌≡◌, List, ◌∷◌, ap, sym, subst, ◌∙◌}
use Rattle.walrus_instr.specs.declared.seq.InstrLocId.{InstrLocId}
use Rattle.walrus_body_nesting.specs.declared.frames.Opener.TheVariants as openers
use Rattle.walrus_body_nesting.specs.Stands.{Part, Delegated, block}
use Rattle.walrus_body_nesting.specs.Opens.{Makes}
use Rattle.walrus_body_stack.specs.declared.frame.Frame.{Frame}
use Rattle.walrus_body_stack.specs.declared.stack.Stack.{Stack}
use Rattle.walrus_body_stack.specs.Held.{Nested, emptied, joined}
use Rattle.walrus_body_stack.specs.Frames.{below, blocks, clauses_around, filled, handlers_around, top}
use Rattle.walrus_body_stack.proofs.Closing.{handed, trying_bare, trying_clauses, trying_handlers, trying_makes}
use Rattle.walrus_body_stack.proofs.stack.Stack.delegate.Goals as goal

pub returns-clause-handed : goal.returns-clause-handed
returns-clause-handed c =
    let p = c.args.self.now in
    let g = p.nest.inner.frame in
    let q = c.leave.new.self in
    let f = c.frame-frame.result in
    let i = c.in_ok-instr.instr in
    let hs = c.handlers-handlers.result in
    let trying = c.requires.trying in
    let bare : c.close.new.self.nest ≡ emptied p.nest = c.in_ok-close.ensures.nest in
    let is : f ≡ g = c.frame-frame.ensures ∙ ap (λ (n : Nested). n.inner.frame) bare in
    let outer : p.nest.outer ≡ q.inner ∷ q.outer = ap (λ (n : Nested). n.outer) (sym bare) ∙ c.if-not-leave.ensures in
    let nest : c.nested.new.self.nest ≡ joined g.reach (i, g.place) q =
    c.in_ok-nested.ensures.nest ∙ ap (λ (s : Stack). joined f.reach (i, f.place) s.nest) c.handlers-handlers.ensures.rest ∙ ap (λ (x : Frame). joined x.reach (i, x.place) q) is in
    let handlers : c.nested.new.self.handlers ≡ handlers_around g.sort p.handlers =
    ap (λ (s : Stack). s.handlers) c.in_ok-nested.ensures.rest ∙ ap (λ (s : Stack). s.handlers) c.handlers-handlers.ensures.rest
    ∙ ap (λ (l : List (List Part)). below l) c.in_ok-close.ensures.handlers ∙ sym (trying_handlers g.sort p.handlers trying) in
    let clauses : c.nested.new.self.clauses ≡ clauses_around g.sort p.clauses =
    ap (λ (s : Stack). s.clauses) c.in_ok-nested.ensures.rest ∙ ap (λ (s : Stack). s.clauses) c.handlers-handlers.ensures.rest
    ∙ c.in_ok-close.ensures.clauses ∙ sym (trying_clauses g.sort p.clauses trying) in
    let tops : hs ≡ top p.handlers = c.handlers-handlers.ensures.top ∙ ap (λ (l : List (List Part)). top l) c.in_ok-close.ensures.handlers in
    let M : Frame → Type 0 = λ x. Makes openers.Try i (block x.first hs (Delegated c.args.depth)) in
    let H : List Part → Type 0 = λ l. Makes openers.Try i (block g.first l (Delegated c.args.depth)) in
    handed p c.nested.new.self q i outer nest handlers clauses c.args.depth (trying_bare g.sort trying)
    (ap (λ (s : Stack). blocks s) c.in_ok-nested.ensures.rest ∙ ap (λ (s : Stack). blocks s) c.handlers-handlers.ensures.rest ∙ c.in_ok-close.ensures.filled ∙ ap (λ (e : InstrLocId). filled e p) c.default.ensures)
    (trying_makes g.sort g.seq g.first c.args.depth p.handlers p.clauses i trying (subst H tops (subst M is c.in_ok-instr.ensures)))
