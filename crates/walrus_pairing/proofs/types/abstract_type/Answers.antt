use Rattle.std.proofs.Common.{refl}
use Rattle.walrus_pairing.proofs.types.abstract_type.Goals as goal

pub returns-in-Func : goal.returns-in-Func
returns-in-Func c = rw c.in-Func.is refl

pub returns-in-Extern : goal.returns-in-Extern
returns-in-Extern c = rw c.in-Extern.is refl

pub returns-in-Any : goal.returns-in-Any
returns-in-Any c = rw c.in-Any.is refl

pub returns-in-None : goal.returns-in-None
returns-in-None c = rw c.in-None.is refl

pub returns-in-NoExtern : goal.returns-in-NoExtern
returns-in-NoExtern c = rw c.in-NoExtern.is refl

pub returns-in-NoFunc : goal.returns-in-NoFunc
returns-in-NoFunc c = rw c.in-NoFunc.is refl

pub returns-in-Eq : goal.returns-in-Eq
returns-in-Eq c = rw c.in-Eq.is refl

pub returns-in-Struct : goal.returns-in-Struct
returns-in-Struct c = rw c.in-Struct.is refl

pub returns-in-Array : goal.returns-in-Array
returns-in-Array c = rw c.in-Array.is refl

pub returns-in-I31 : goal.returns-in-I31
returns-in-I31 c = rw c.in-I31.is refl

pub returns-in-Exn : goal.returns-in-Exn
returns-in-Exn c = rw c.in-Exn.is refl

pub returns-in-NoExn : goal.returns-in-NoExn
returns-in-NoExn c = rw c.in-NoExn.is refl

pub returns-in-Cont : goal.returns-in-Cont
returns-in-Cont c = rw c.in-Cont.is refl

pub returns-in-NoCont : goal.returns-in-NoCont
returns-in-NoCont c = rw c.in-NoCont.is refl
