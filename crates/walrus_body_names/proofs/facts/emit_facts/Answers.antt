use Rattle.std.proofs.Common.{arith, ap, subst, false, List, ℕ, ◌++◌, ◌∙◌}
use Rattle.walrus_body_writer.specs.walrus_tree.walrus_builder.Functions.{seqs_of}
use Rattle.walrus_body_writer.specs.walrus_tree.Text.{operators}
use Rattle.walrus_body_names.specs.Names.{HaveSame, function_in, local_in, text_names}
use Rattle.walrus_body_names.proofs.Gathering.{knows}
use Rattle.walrus_body_names.proofs.facts.emit_facts.Goals as goal

pub returns-clause-size : goal.returns-clause-size
returns-clause-size c =
    let k = knows (operators (seqs_of c.args.body.now) 0) (record { size = 0; names_segment = false; found = c.new.result; hints = c.in_ok-hints.hints; last = c.from_index.result; referred = c.new-2.result }) c.visit_once.new.visitor c.in_ok-visit_once.ensures.told in
    let sum = k.size in
    omega (arith, sum)

pub returns-clause-segments : goal.returns-clause-segments
returns-clause-segments c = (knows (operators (seqs_of c.args.body.now) 0) (record { size = 0; names_segment = false; found = c.new.result; hints = c.in_ok-hints.hints; last = c.from_index.result; referred = c.new-2.result }) c.visit_once.new.visitor c.in_ok-visit_once.ensures.told).marked

pub returns-clause-locals : goal.returns-clause-locals
returns-clause-locals c =
    let ops = operators (seqs_of c.args.body.now) 0 in
    let k = knows ops (record { size = 0; names_segment = false; found = c.new.result; hints = c.in_ok-hints.hints; last = c.from_index.result; referred = c.new-2.result }) c.visit_once.new.visitor c.in_ok-visit_once.ensures.told in
    let named = subst (λ (z : List ℕ). HaveSame c.visit_once.new.visitor.found.items (z ++ text_names local_in ops)) c.new.ensures.items k.gathered in
    let set = c.in_ok-used_locals.ensures in
    record { rising = set.rising; members = λ n. ((λ h. (named n).0 ((set.members n).0 h)), (λ h. (set.members n).1 ((named n).1 h))) }

pub returns-clause-referred : goal.returns-clause-referred
returns-clause-referred c =
    let ops = operators (seqs_of c.args.body.now) 0 in
    (knows ops (record { size = 0; names_segment = false; found = c.new.result; hints = c.in_ok-hints.hints; last = c.from_index.result; referred = c.new-2.result }) c.visit_once.new.visitor c.in_ok-visit_once.ensures.told).referred
    ∙ ap (λ (z : List ℕ). z ++ text_names function_in ops) c.new-2.ensures.items
