use Rattle.std.proofs.Common.{◌≡◌, List, ◌∷◌, ap, sym, ◌∙◌}
use Rattle.walrus_body_nesting.specs.Stands.{Part}
use Rattle.walrus_body_stack.specs.declared.frame.Frame.{Frame}
use Rattle.walrus_body_stack.specs.declared.stack.Stack.{Stack}
use Rattle.walrus_body_stack.specs.Held.{Nested, emptied, joined}
use Rattle.walrus_body_stack.specs.Frames.{blocks, clauses_around, filled, handlers_around}
use Rattle.walrus_body_stack.proofs.Closing.{Clauses, ended, made_so}
use Rattle.walrus_body_stack.proofs.stack.Stack.end_any.Goals as goal

pub returns-clause-ended : goal.returns-clause-ended
returns-clause-ended c =
    let p = c.args.self.now in
    let q = c.leave.new.self in
    let f = c.frame-frame.result in
    let i = c.in_ok-instr.instr in
    let bare : c.close.new.self.nest ≡ emptied p.nest = c.in_ok-close.ensures.nest in
    let is : f ≡ p.nest.inner.frame = c.frame-frame.ensures ∙ ap (λ (n : Nested). n.inner.frame) bare in
    let outer : p.nest.outer ≡ q.inner ∷ q.outer = ap (λ (n : Nested). n.outer) (sym bare) ∙ c.if-not-leave.ensures in
    let nest : c.nested.new.self.nest ≡ joined p.nest.inner.frame.reach (i, p.nest.inner.frame.place) q =
    c.in_ok-nested.ensures.nest ∙ ap (λ (n : Nested). joined f.reach (i, f.place) n) c.in_ok-instr.ensures.nest ∙ ap (λ (g : Frame). joined g.reach (i, g.place) q) is in
    let handlers : c.nested.new.self.handlers ≡ handlers_around p.nest.inner.frame.sort p.handlers =
    ap (λ (s : Stack). s.handlers) c.in_ok-nested.ensures.rest ∙ c.in_ok-instr.ensures.handlers ∙ ap (λ (hs : List (List Part)). handlers_around f.sort hs) c.in_ok-close.ensures.handlers
    ∙ ap (λ (g : Frame). handlers_around g.sort p.handlers) is in
    let clauses : c.nested.new.self.clauses ≡ clauses_around p.nest.inner.frame.sort p.clauses =
    ap (λ (s : Stack). s.clauses) c.in_ok-nested.ensures.rest ∙ c.in_ok-instr.ensures.clauses ∙ ap (λ (cs : List Clauses). clauses_around f.sort cs) c.in_ok-close.ensures.clauses
    ∙ ap (λ (g : Frame). clauses_around g.sort p.clauses) is in
    ended p c.nested.new.self q i outer nest handlers clauses c.args.place
    (made_so f p.nest.inner.frame c.close.new.self.handlers p.handlers c.close.new.self.clauses p.clauses (blocks c.close.new.self) (filled c.args.place p) (blocks c.block_of.new.self) (blocks c.nested.new.self) i
    is c.in_ok-close.ensures.handlers c.in_ok-close.ensures.clauses c.in_ok-close.ensures.filled (ap (λ (s : Stack). blocks s) c.in_ok-nested.ensures.rest) c.in_ok-instr.ensures.made)
