use Rattle.key_pages.proofs.Carried.{sets_done, packs_more}
use Rattle.key_pages.proofs.encoder.OpenRun.add.Goals as goal

pub returns-clause-packs : goal.returns-clause-packs
returns-clause-packs c front gs p =
    packs_more _ front gs _ _ p c.requires.behind (sets_done _ _ _ _ _ _ c.rewrite.ensures c.unwrap.ensures) c.put_group.ensures.wrote
