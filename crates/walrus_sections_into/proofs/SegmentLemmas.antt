-- Lemmas: a segment is held with its bytes, if they are kept.
use Rattle.std.specs.Bool.{OnFalse, OnTrue}
use Rattle.std.specs.declared.alloc.Global.{Global as Alloc}
use Rattle.std.specs.declared.vec.Vec.{Vec}
use Rattle.std.proofs.Common.{◌≡◌, ℕ, Bool, true, false, [], None, refl, ap}
use Rattle.walrus_collections.specs.walrus_module_items.declared.data.Data.{Data}
use Rattle.walrus_collections.specs.walrus_module_items.declared.data.DataKind.{DataKind}
use Rattle.walrus_sections_into.specs.Segments.{IsHeld}

abbrev pub segment : ℕ → DataKind → Vec ℕ Alloc → Data
segment id kind value = record { id = id; kind = kind; value = value; name = None }

pub held : (keeps : Bool) (id : ℕ) (kind : DataKind) (value kept : Vec ℕ Alloc) → OnTrue keeps (kept ≡ value) → OnFalse keeps (kept.items ≡ []) → IsHeld keeps (segment id kind value) (segment id kind kept)
held true id kind value kept same none = ap (segment id kind) same
held false id kind value kept same none = record { id = refl; kind = refl; name = refl; empty = none }
