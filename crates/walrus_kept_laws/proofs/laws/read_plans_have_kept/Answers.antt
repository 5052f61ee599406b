use Rattle.walrus_kept_laws.proofs.laws.read_plans_have_kept.Goals as goal

pub returns : goal.returns
returns g c config bytes file m found small is reads means grouped sound =
    c.plans_have_kept.ensures config file m found means grouped sound (c.seen_as_is_meant.ensures config bytes file m found small is reads means grouped m.config.keep_segments)
