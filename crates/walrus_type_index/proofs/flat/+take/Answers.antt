use Rattle.std.proofs.Common.{◌≡◌, ◌∙◌, sym, ap, arith, ◌-◌, Less, Greater, Equal}
use Rattle.walrus_type_index.specs.Places.{kinds_in, hashed_cmp}
use Rattle.walrus_type_index.specs.Flat.{slots, link_of, hashed_of}
use Rattle.walrus_type_index.proofs.FlatLemmas.{hashed-is}
use Rattle.walrus_type_index.proofs.FlatEdits.{takes_left, takes_right, takes_here, meets_left, meets_right, meets_here}
use Rattle.walrus_type_index.proofs.flat.+take.Goals as goal

pub returns-in-Less-clause-rest : goal.returns-in-Less-clause-rest
returns-in-Less-clause-rest t c =
    let ks = kinds_in c.args.types.now.slots in
    let n = link_of c.in-Some.node in
    let here = hashed_of c.args.top n in
    let e : c.compare_hashed.result ≡ hashed_cmp ks c.args.wanted.now here =
    c.compare_hashed.ensures ∙ ap (hashed_cmp ks c.args.wanted.now) (hashed-is c.hashed.result c.args.top n c.hashed.ensures.hash c.hashed.ensures.id) in
    let way : hashed_cmp ks c.args.wanted.now here ≡ Less = sym e ∙ c.in-Less.is in
    takes_left ks (slots c.args.nodes.now) (slots c.take-rest.new.nodes) (slots c.over.new.nodes) c.args.top (c.args.fuel - 1) c.args.fuel c.args.wanted.now n
    c.take-rest.result.0 c.over.result (sym c.in-Some.ensures) way (omega (arith, c.if-fuel-eq0.false)) c.take-rest.ensures.rest c.over.ensures

pub returns-in-Less-clause-met : goal.returns-in-Less-clause-met
returns-in-Less-clause-met t c =
    let ks = kinds_in c.args.types.now.slots in
    let n = link_of c.in-Some.node in
    let here = hashed_of c.args.top n in
    let e : c.compare_hashed.result ≡ hashed_cmp ks c.args.wanted.now here =
    c.compare_hashed.ensures ∙ ap (hashed_cmp ks c.args.wanted.now) (hashed-is c.hashed.result c.args.top n c.hashed.ensures.hash c.hashed.ensures.id) in
    let way : hashed_cmp ks c.args.wanted.now here ≡ Less = sym e ∙ c.in-Less.is in
    meets_left ks (slots c.args.nodes.now) c.args.top (c.args.fuel - 1) c.args.fuel c.args.wanted.now n c.take-rest.result.1
    (sym c.in-Some.ensures) way (omega (arith, c.if-fuel-eq0.false)) c.take-rest.ensures.met

pub returns-in-Greater-clause-rest : goal.returns-in-Greater-clause-rest
returns-in-Greater-clause-rest t c =
    let ks = kinds_in c.args.types.now.slots in
    let n = link_of c.in-Some.node in
    let here = hashed_of c.args.top n in
    let e : c.compare_hashed.result ≡ hashed_cmp ks c.args.wanted.now here =
    c.compare_hashed.ensures ∙ ap (hashed_cmp ks c.args.wanted.now) (hashed-is c.hashed.result c.args.top n c.hashed.ensures.hash c.hashed.ensures.id) in
    let way : hashed_cmp ks c.args.wanted.now here ≡ Greater = sym e ∙ c.in-Greater.is in
    takes_right ks (slots c.args.nodes.now) (slots c.take-rest-in-Greater.new.nodes) (slots c.over-in-Greater.new.nodes) c.args.top (c.args.fuel - 1) c.args.fuel c.args.wanted.now n
    c.take-rest-in-Greater.result.0 c.over-in-Greater.result (sym c.in-Some.ensures) way (omega (arith, c.if-fuel-eq0.false)) c.take-rest-in-Greater.ensures.rest c.over-in-Greater.ensures

pub returns-in-Greater-clause-met : goal.returns-in-Greater-clause-met
returns-in-Greater-clause-met t c =
    let ks = kinds_in c.args.types.now.slots in
    let n = link_of c.in-Some.node in
    let here = hashed_of c.args.top n in
    let e : c.compare_hashed.result ≡ hashed_cmp ks c.args.wanted.now here =
    c.compare_hashed.ensures ∙ ap (hashed_cmp ks c.args.wanted.now) (hashed-is c.hashed.result c.args.top n c.hashed.ensures.hash c.hashed.ensures.id) in
    let way : hashed_cmp ks c.args.wanted.now here ≡ Greater = sym e ∙ c.in-Greater.is in
    meets_right ks (slots c.args.nodes.now) c.args.top (c.args.fuel - 1) c.args.fuel c.args.wanted.now n c.take-rest-in-Greater.result.1
    (sym c.in-Some.ensures) way (omega (arith, c.if-fuel-eq0.false)) c.take-rest-in-Greater.ensures.met

pub returns-in-Equal-clause-rest : goal.returns-in-Equal-clause-rest
returns-in-Equal-clause-rest t c =
    let ks = kinds_in c.args.types.now.slots in
    let n = link_of c.in-Some.node in
    let here = hashed_of c.args.top n in
    let e : c.compare_hashed.result ≡ hashed_cmp ks c.args.wanted.now here =
    c.compare_hashed.ensures ∙ ap (hashed_cmp ks c.args.wanted.now) (hashed-is c.hashed.result c.args.top n c.hashed.ensures.hash c.hashed.ensures.id) in
    let way : hashed_cmp ks c.args.wanted.now here ≡ Equal = sym e ∙ c.in-Equal.is in
    takes_here ks (slots c.args.nodes.now) (slots c.join.new.nodes) c.args.top c.args.fuel c.args.wanted.now n c.join.result (sym c.in-Some.ensures) way c.join.ensures

pub returns-in-Equal-clause-met : goal.returns-in-Equal-clause-met
returns-in-Equal-clause-met t c =
    let ks = kinds_in c.args.types.now.slots in
    let n = link_of c.in-Some.node in
    let here = hashed_of c.args.top n in
    let e : c.compare_hashed.result ≡ hashed_cmp ks c.args.wanted.now here =
    c.compare_hashed.ensures ∙ ap (hashed_cmp ks c.args.wanted.now) (hashed-is c.hashed.result c.args.top n c.hashed.ensures.hash c.hashed.ensures.id) in
    let way : hashed_cmp ks c.args.wanted.now here ≡ Equal = sym e ∙ c.in-Equal.is in
    meets_here ks (slots c.args.nodes.now) c.args.top c.args.fuel c.args.wanted.now n (sym c.in-Some.ensures) way
