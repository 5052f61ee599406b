-- Numbers of what a body names, and lists of clauses, as contracts see them.
use Rattle.std.specs.Prelude.{List, ◌++◌, Result, Ok, Err}
use Rattle.std.specs.declared.alloc.Global.{Global}
use Rattle.std.specs.declared.vec.Vec.{Vec}
use Rattle.wasm_operators.specs.declared.clause.Clause.{Clause}
use Rattle.walrus_index_maps.specs.Views.{indices}
use Rattle.walrus_pairing.specs.Looks.{Look, Or, number_of}
use Rattle.walrus_pairing.specs.declared.error.PairError.{PairError}
use Rattle.walrus_body_writer.specs.declared.numbers.Numbers.{Numbers}

-- the number of each id, in the body of the function
abbrev pub look_of : Numbers → Look
look_of n = number_of (indices n.maps.now) n.function

abbrev pub clauses_in : Result (Vec Clause Global) PairError → Or (List Clause)
clauses_in (Ok v) = Ok v.items
clauses_in (Err e) = Err e

-- clauses before those that are given
abbrev pub put_before : List Clause → Or (List Clause) → Or (List Clause)
put_before before (Ok cs) = Ok (before ++ cs)
put_before before (Err e) = Err e
