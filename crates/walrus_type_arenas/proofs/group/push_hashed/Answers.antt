use Rattle.walrus_type_arenas.proofs.IndexLemmas.{held-born, hash-born}
use Rattle.walrus_type_arenas.proofs.group.push_hashed.Goals as goal

pub enter_hashed-requires-clause-held : goal.enter_hashed-requires-clause-held
enter_hashed-requires-clause-held c =
    rw c.alloc_reserved-id.ensures.added
    (held-born c.args.types.now.slots c.args.ty c.args.index.now c.alloc_reserved-id.result c.alloc_reserved-id.ensures.id c.requires.index_room c.requires.held)

pub enter_hashed-requires-clause-hash : goal.enter_hashed-requires-clause-hash
enter_hashed-requires-clause-hash c =
    rw c.alloc_reserved-id.ensures.added
    (hash-born c.args.types.now.slots c.args.ty c.args.hash c.alloc_reserved-id.result c.alloc_reserved-id.ensures.id c.requires.hash)
